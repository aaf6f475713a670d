-- The text of a section is read as that section.
use Rattle.std.proofs.Common.{◌≡◌, ℕ, ◌+◌, ◌&&◌, ◌||◌, Bool, true, false, not, if◌then◌else◌, List, [], ◌∷◌, ◌++◌, length, map, Option, Some, None, is_some}
use Rattle.std.proofs.Common.{refl, sym, ap, ◌∙◌, append_assoc, codes, is_none, All}
use Rattle.std.proofs.Math.Path.{fun_ext}
use Rattle.std.proofs.lemmas.Bool.{false_from_ne_true, or_from, or_parts}
use Rattle.std.proofs.lemmas.List.{append-nil}
use Rattle.std.proofs.lemmas.List.Elements.{All-cons, All-head, All-nil, All-tail}
use Rattle.std.proofs.lemmas.Grind.{flat_map-append}
use Rattle.std.proofs.lemmas.Slice.Eq.{bytes_eq-Decides}
use Rattle.std.specs.Str.{bytes_eq}
use Rattle.bdb_spelling.specs.of_format.Terms.{Database, ListKey, is_name}
use Rattle.bdb_spelling.specs.of_text_format.Terms.{Parts, Reads, Values, conflicts, counted_pairs, data_end, data_line, dump_text, entry_line, given}
use Rattle.bdb_spelling.specs.of_text_format.Terms.{has_keys, has_record_type, header_end, header_fits, header_lines, header_table, holds_records, is_data_end}
use Rattle.bdb_spelling.specs.of_text_format.Terms.{is_header_end, key_bytes, keyed_pairs, line, name_in, name_missing, name_of, name_of_parts, pair_lines}
use Rattle.bdb_spelling.specs.of_text_format.Terms.{pairs_read, parts_read, prints, section_lines, section_read, section_text, sections_from, sections_in}
use Rattle.bdb_spelling.specs.of_text_format.Terms.{settings_in, text_lines, text_sections, values, version_line, with_pairs, with_section, written}
use Rattle.std.proofs.lemmas.List.Folds.{list_any-append}
use Rattle.std.specs.List.{list_any, flat_map}
use Rattle.bdb_spelling.specs.of_format.declared.settings.Settings.{Settings}
use Rattle.bdb_text.specs.WrittenLaw.{CanBeWritten, WrittenIsRead, AreNamedApart, AreSectionsOf, CanStandTogether, IsSectionOf, IsWritable, Written}
use Rattle.bdb_text.specs.WrittenLaw.{WrittenAreRead, written_text, DumpIsRead, written_of}
use Rattle.bdb_text.proofs.PartLemmas.{has_data_end, parts_of-ended}
use Rattle.bdb_text.proofs.LineLemmas.{entries-written, given-written, has_feed, sections_from-section, text_lines-lines}
use Rattle.bdb_text.proofs.TableLemmas.{any-written, lines_fit-table}
use Rattle.bdb_text.proofs.ValueLemmas.{keyed_pairs-lines, pairs_at, pairs_at-list, spelling-no_feed}
use Rattle.bdb_text.proofs.LookedLemmas.{keys-looked, lines-looked, looked, name-looked, no_conflict, prints-looked, records-looked, table_feeds}
use Rattle.bdb_text.proofs.LookedLemmas.{table_fits-header}
use Rattle.bdb_spelling.specs.of_text_format.declared.sections.Section.{Section}
use Rattle.bdb_spelling.specs.of_text_format.declared.pairs.TextPair.{TextPair}
use Rattle.std.specs.Prelude.{⊤}

abbrev header : Bool → Option (List ℕ) → Settings → List (List ℕ)
header print name settings = map entry_line (written (header_table print name settings))

abbrev pairs_lines : Bool → List (ListKey × List ℕ) → List (List ℕ)
pairs_lines print list = flat_map (pair_lines print) list

-- Lines.

none_of_data : (test : List ℕ → Bool) (print : Bool) → ((bytes : List ℕ) → test (data_line print bytes) ≡ false) → (list : List (ListKey × List ℕ))
    → list_any test (pairs_lines print list) ≡ false
none_of_data test print h [] = refl
none_of_data test print h ((key, value) ∷ list) =
    or_from (test (data_line print (key_bytes key))) (test (data_line print value) || list_any test (pairs_lines print list)) (h (key_bytes key))
    (or_from (test (data_line print value)) (list_any test (pairs_lines print list)) (h value) (none_of_data test print h list))

none_of_all : (test : List ℕ → Bool) (a b c : List (List ℕ)) → list_any test a ≡ false → list_any test b ≡ false → list_any test c ≡ false
    → list_any test (a ++ (b ++ c)) ≡ false
none_of_all test a b c h k l =
    list_any-append test a (b ++ c)
    ∙ or_from (list_any test a) (list_any test (b ++ c)) h (list_any-append test b c ∙ or_from (list_any test b) (list_any test c) k l)

-- the lines between the first and the last
abbrev inner : Bool → Option (List ℕ) → Settings → List (ListKey × List ℕ) → List (List ℕ)
inner print name settings list = header print name settings ++ header_end ∷ pairs_lines print list

section_lines-inner : (print : Bool) (name : Option (List ℕ)) (settings : Settings) (list : List (ListKey × List ℕ))
    → section_lines print name settings list ≡ version_line ∷ (inner print name settings list ++ data_end ∷ [])
section_lines-inner print name settings list =
    ap (λ (s : List (List ℕ)). version_line ∷ s)
    (append_assoc (header print name settings) (header_end ∷ []) (pairs_lines print list ++ data_end ∷ [])
    ∙ sym (append_assoc (header print name settings) (header_end ∷ pairs_lines print list) (data_end ∷ [])))

no_feeds : (print : Bool) (name : Option (List ℕ)) (settings : Settings) (list : List (ListKey × List ℕ)) → CanBeWritten name settings list
    → list_any has_feed (section_lines print name settings list) ≡ false
no_feeds print name settings list can =
    none_of_all has_feed (header_lines print name settings) (pairs_lines print list) (data_end ∷ [])
    (list_any-append has_feed (header print name settings) (header_end ∷ [])
    ∙ or_from (list_any has_feed (header print name settings)) false
    (any-written has_feed (header_table print name settings) (table_feeds print name settings list can)) refl)
    (none_of_data has_feed print (λ (bytes : List ℕ). spelling-no_feed print bytes) list) refl

no_data_end : (print : Bool) (name : Option (List ℕ)) (settings : Settings) (list : List (ListKey × List ℕ))
    → has_data_end (version_line ∷ inner print name settings list) ≡ false
no_data_end print name settings list =
    none_of_all is_data_end (header print name settings) (header_end ∷ []) (pairs_lines print list)
    (any-written is_data_end (header_table print name settings) refl) refl
    (none_of_data is_data_end print (λ (bytes : List ℕ). refl) list)

-- The header.

values-header : (print : Bool) (name : Option (List ℕ)) (settings : Settings) → values (header print name settings) ≡ looked print name settings
values-header print name settings =
    fun_ext (λ (keyword : List ℕ). ap (given keyword) (entries-written (header_table print name settings) refl)
    ∙ given-written keyword (header_table print name settings))

-- a section of this name stands behind those
abbrev pub stands : List (Option (List ℕ)) → Option (List ℕ) → Bool
stands names name = not (name_missing names name) && not (list_any (is_name name) names)

header_fits-written : (names : List (Option (List ℕ))) (print : Bool) (name : Option (List ℕ)) (settings : Settings) (list : List (ListKey × List ℕ))
    → CanBeWritten name settings list
    → stands names name ≡ true → header_fits names (header print name settings) ≡ true
header_fits-written names print name settings list can standing =
    let lines = lines_fit-table [] (header_table print name settings) refl refl (table_fits-header print name settings list can) in
    let conflict = no_conflict print name settings can.re_len can.no_conflict in
    ap (λ (b : Bool). b && (is_some
    (values (header print name settings) (codes "type")) && (not (conflicts (values (header print name settings))) && stands names
    (name_in (values (header print name settings)))))) lines
    ∙ ap (λ (v : Values). is_some (v (codes "type")) && (not (conflicts v) && stands names (name_in v))) (values-header print name settings)
    ∙ ap (λ (b : Bool). not b && stands names (name_in (looked print name settings))) conflict
    ∙ ap (stands names) (name-looked print name settings can.name_bytes) ∙ standing

-- The pairs.

pairs_by : (header : Values) (print numbered keyed : Bool) (at : ℕ) (lines : List (List ℕ)) → prints header ≡ print → has_record_type header ≡ numbered
    → has_keys header ≡ true
    → pairs_read header at lines ≡ keyed_pairs print numbered at lines
pairs_by header print numbered keyed at lines p n k =
    ap (λ (b : Bool). if b then keyed_pairs (prints header) (has_record_type header) at lines else counted_pairs (prints header) 1 at lines) k
    ∙ ap (λ (b : Bool). keyed_pairs b (has_record_type header) at lines) p ∙ ap (λ (b : Bool). keyed_pairs print b at lines) n

pairs-written : (print : Bool) (name : Option (List ℕ)) (settings : Settings) (list : List (ListKey × List ℕ)) (at : ℕ) → CanBeWritten name settings list
    → pairs_read (looked print name settings) at (pairs_lines print list) ≡ Some (pairs_at at list)
pairs-written print name settings list at can =
    pairs_by (looked print name settings) print (holds_records settings.kind) true at (pairs_lines print list)
    (prints-looked print name settings) (records-looked print name settings) (keys-looked print name settings)
    ∙ keyed_pairs-lines print (holds_records settings.kind) at list can.pairs

-- The section.

-- what its lines are read as, from the line of this number on
abbrev pub section_of : Bool → Option (List ℕ) → Settings → List (ListKey × List ℕ) → ℕ → Section
section_of print name settings list at = record {
  name = name_in (looked print name settings);
  settings = settings_in (looked print name settings);
  header_line = at + 1 + length (header print name settings);
  pairs = pairs_at (at + 1 + length (header print name settings) + 1) list;
}

pub section_read-inner : (names : List (Option (List ℕ))) (at : ℕ) (print : Bool) (name : Option (List ℕ)) (settings : Settings)
    (list : List (ListKey × List ℕ)) → CanBeWritten name settings list
    → stands names name ≡ true → section_read names at (version_line ∷ inner print name settings list) ≡ Some (section_of print name settings list at)
unfolding section_read
section_read-inner names at print name settings list can standing =
    let end_ = at + 1 + length (header print name settings) in
    ap (λ (parts : Option Parts). parts_read names (at + 1) parts)
    (parts_of-ended (header print name settings) header_end (pairs_lines print list) (any-written is_header_end (header_table print name settings) refl) refl)
    ∙ ap (λ (b : Bool). if b then with_pairs end_ (values (header print name settings))
    (pairs_read (values (header print name settings)) (end_ + 1) (pairs_lines print list)) else None)
    (header_fits-written names print name settings list can standing)
    ∙ ap (λ (v : Values). with_pairs end_ v (pairs_read v (end_ + 1) (pairs_lines print list))) (values-header print name settings)
    ∙ ap (λ (pairs : Option (List TextPair)). with_pairs end_ (looked print name settings) pairs) (pairs-written print name settings list (end_ + 1) can)

pub name_of-inner : (print : Bool) (name : Option (List ℕ)) (settings : Settings) (list : List (ListKey × List ℕ)) → CanBeWritten name settings list
    → name_of (version_line ∷ inner print name settings list) ≡ name
name_of-inner print name settings list can =
    ap name_of_parts (parts_of-ended (header print name settings) header_end (pairs_lines print list)
    (any-written is_header_end (header_table print name settings) refl) refl)
    ∙ ap name_in (values-header print name settings) ∙ name-looked print name settings can.name_bytes

pub is_section_of : (print : Bool) (name : Option (List ℕ)) (settings : Settings) (list : List (ListKey × List ℕ)) (at : ℕ) → CanBeWritten name settings list
    → IsSectionOf print name settings list (section_of print name settings list at)
is_section_of print name settings list at can = record {
  name_is = name-looked print name settings can.name_bytes;
  list_is = pairs_at-list (at + 1 + length (header print name settings) + 1) list;
  lines_are = lines-looked print name settings list can;
}

-- The sections of a text.

abbrev all_lines : Bool → List Written → List (List ℕ)
all_lines print all = flat_map (λ (one : Written). section_lines print one.name one.settings one.list) all

-- each stands behind those before it
abbrev Follows : List (Option (List ℕ)) → List Written → Type 0
Follows names [] = ⊤
Follows names (one ∷ others) = (stands names one.name ≡ true) × Follows (names ++ one.name ∷ []) others

-- the sections that the lines are read as
abbrev AreRead : Bool → List (Option (List ℕ)) → ℕ → List Written → Type 0
AreRead print names at all = (sections : List Section) × (sections_from names [] at (all_lines print all) ≡ Some sections) × AreSectionsOf print all sections

are_read : (print : Bool) (names : List (Option (List ℕ))) (at : ℕ) (all : List Written) → Follows names all → All IsWritable all → AreRead print names at all
are_read print names at [] follows can = ([], refl, tt)
are_read print names at (one ∷ others) follows can =
    let writable = All-head IsWritable one others can in
    let lines = version_line ∷ inner print one.name one.settings one.list in
    let next = at + length lines + 1 in
    let rest = are_read print (names ++ one.name ∷ []) next others follows.1 (All-tail IsWritable one others can) in (
      section_of print one.name one.settings one.list at ∷ rest.0,
      ap (λ (ls : List (List ℕ)). sections_from names [] at (ls ++ all_lines print others)) (section_lines-inner print one.name one.settings one.list)
          ∙ ap (λ (ls : List (List ℕ)). sections_from names [] at (version_line ∷ ls))
          (append_assoc (inner print one.name one.settings one.list) (data_end ∷ []) (all_lines print others))
          ∙ sections_from-section names at [] lines (all_lines print others) (no_data_end print one.name one.settings one.list)
          ∙ ap (λ (name : Option (List ℕ)). with_section (section_read names at lines) (sections_from (names ++ name ∷ []) [] next (all_lines print others)))
          (name_of-inner print one.name one.settings one.list writable)
          ∙ ap (λ (section : Option Section). with_section section (sections_from (names ++ one.name ∷ []) [] next (all_lines print others)))
          (section_read-inner names at print one.name one.settings one.list writable follows.0)
          ∙ ap (with_section (Some (section_of print one.name one.settings one.list at))) rest.1,
      (is_section_of print one.name one.settings one.list at writable, rest.2),
    )

-- Their text.

text-lines : (print : Bool) (all : List Written) → flat_map (written_text print) all ≡ flat_map line (all_lines print all)
unfolding section_text
text-lines print [] = refl
text-lines print (one ∷ others) =
    ap (λ (text : List ℕ). flat_map line (section_lines print one.name one.settings one.list) ++ text) (text-lines print others)
    ∙ sym (flat_map-append line (section_lines print one.name one.settings one.list) (all_lines print others))

no_feeds_in_all : (print : Bool) (all : List Written) → All IsWritable all → list_any has_feed (all_lines print all) ≡ false
no_feeds_in_all print [] can = refl
no_feeds_in_all print (one ∷ others) can =
    list_any-append has_feed (section_lines print one.name one.settings one.list) (all_lines print others)
    ∙ or_from (list_any has_feed (section_lines print one.name one.settings one.list)) (list_any has_feed (all_lines print others))
    (no_feeds print one.name one.settings one.list (All-head IsWritable one others can)) (no_feeds_in_all print others (All-tail IsWritable one others can))

reads-all : (print : Bool) (one : Written) (others : List Written) (sections : List Section) → All IsWritable (one ∷ others)
    → sections_from [] [] 1 (all_lines print (one ∷ others)) ≡ Some sections → Reads (flat_map (written_text print) (one ∷ others)) sections
unfolding text_sections
reads-all print one others sections can read =
    ap (λ (text : List ℕ). sections_in (text_lines text)) (text-lines print (one ∷ others))
    ∙ ap sections_in (text_lines-lines (all_lines print (one ∷ others)) (no_feeds_in_all print (one ∷ others) can)) ∙ read

-- Names.

pub is_name-sym : (a b : Option (List ℕ)) → is_name a b ≡ false → is_name b a ≡ false
is_name-sym None None h = h
is_name-sym None (Some b) h = refl
is_name-sym (Some a) None h = refl
is_name-sym (Some a) (Some b) h = false_from_ne_true (bytes_eq b a) (λ is.
    let same : b ≡ a = (bytes_eq-Decides b a).0 is in
    let wrong : true ≡ false = sym ((bytes_eq-Decides a b).1 (sym same)) ∙ h in
    cc)

abbrev names_in : List Written → List (Option (List ℕ))
names_in all = map (λ (one : Written). one.name) all

-- no earlier name stands among the later
abbrev apart : List (Option (List ℕ)) → List Written → Bool
apart names all = list_any (λ (name : Option (List ℕ)). list_any (is_name name) (names_in all)) names

not_taken : (names : List (Option (List ℕ))) (one : Written) (others : List Written) → apart names (one ∷ others) ≡ false
    → list_any (is_name one.name) names ≡ false
not_taken [] one others h = refl
not_taken (name ∷ names) one others h =
    let both = or_parts (is_name name one.name || list_any (is_name name) (names_in others)) (apart names (one ∷ others)) h in
    let first = or_parts (is_name name one.name) (list_any (is_name name) (names_in others)) both.0 in
    or_from (is_name one.name name) (list_any (is_name one.name) names) (is_name-sym name one.name first.0) (not_taken names one others both.1)

apart_less : (names : List (Option (List ℕ))) (one : Written) (others : List Written) → apart names (one ∷ others) ≡ false → apart names others ≡ false
apart_less [] one others h = refl
apart_less (name ∷ names) one others h =
    let both = or_parts (is_name name one.name || list_any (is_name name) (names_in others)) (apart names (one ∷ others)) h in
    let first = or_parts (is_name name one.name) (list_any (is_name name) (names_in others)) both.0 in
    or_from (list_any (is_name name) (names_in others)) (apart names others) first.1 (apart_less names one others both.1)

named : (names : List (Option (List ℕ))) (name : Option (List ℕ)) → is_some name ≡ true → list_any is_none names ≡ false → name_missing names name ≡ false
named [] name some all = refl
named (first ∷ names) None some all = absurd cc
named (first ∷ names) (Some name) some all = all

follows : (names : List (Option (List ℕ))) (all : List Written) → list_any is_none names ≡ false → apart names all ≡ false → AreNamedApart (names_in all)
    → Follows names all
follows names [] some h together = tt
follows names (one ∷ others) some h together =
    let missing = named names one.name together.0 some in
    let taken = not_taken names one others h in
    let one_named : list_any is_none (one.name ∷ []) ≡ false = is_named_alone one.name together.0 in (
      rw (missing, taken) refl,
      follows (names ++ one.name ∷ []) others
          (list_any-append is_none names (one.name ∷ []) ∙ or_from (list_any is_none names) (list_any is_none (one.name ∷ [])) some one_named)
          (list_any-append (λ (name : Option (List ℕ)). list_any (is_name name) (names_in others)) names (one.name ∷ [])
          ∙ or_from (apart names others) (list_any (is_name one.name) (names_in others) || false) (apart_less names one others h)
          (or_from (list_any (is_name one.name) (names_in others)) false together.1 refl))
          together.2,
    )
  where
    is_named_alone : (name : Option (List ℕ)) → is_some name ≡ true → list_any is_none (name ∷ []) ≡ false
    is_named_alone None h = sym h
    is_named_alone (Some name) h = refl

follows_together : (all : List Written) → CanStandTogether (names_in all) → Follows [] all
follows_together [] together = absurd together
follows_together (one ∷ []) together = (refl, tt)
follows_together (one ∷ other ∷ others) together = follows [] (one ∷ other ∷ others) refl refl together

written_are_read_by : (print : Bool) (one : Written) (others : List Written) → Follows [] (one ∷ others) → All IsWritable (one ∷ others)
    → (sections : List Section) × Reads (flat_map (written_text print) (one ∷ others)) sections × AreSectionsOf print (one ∷ others) sections
written_are_read_by print one others standing can =
    let read = are_read print [] 1 (one ∷ others) standing can in
    (read.0, reads-all print one others read.0 can read.1, read.2)

-- the sections that they are read as, the first of which begins at a line
abbrev pub sections_of : Bool → ℕ → List Written → List Section
sections_of print at [] = []
sections_of print at (one ∷ others) =
    section_of print one.name one.settings one.list at
    ∷ sections_of print (at + length (version_line ∷ inner print one.name one.settings one.list) + 1) others

are_these : (print : Bool) (names : List (Option (List ℕ))) (at : ℕ) (all : List Written) (follows : Follows names all) (can : All IsWritable all)
    → (are_read print names at all follows can).0 ≡ sections_of print at all
unfolding are_read
are_these print names at [] follows can = refl
are_these print names at (one ∷ others) follows can =
    ap (λ (rest : List Section). section_of print one.name one.settings one.list at ∷ rest)
    (are_these print (names ++ one.name ∷ []) (at + length (version_line ∷ inner print one.name one.settings one.list) + 1) others follows.1
    (All-tail IsWritable one others can))

pub written_are_these : (print : Bool) (one : Written) (others : List Written) → CanStandTogether (names_in (one ∷ others)) → All IsWritable (one ∷ others)
    → Reads (flat_map (written_text print) (one ∷ others)) (sections_of print 1 (one ∷ others))
written_are_these print one others together can =
    let follows = follows_together (one ∷ others) together in
    reads-all print one others (sections_of print 1 (one ∷ others)) can
    ((are_read print [] 1 (one ∷ others) follows can).1
    ∙ ap (λ (sections : List Section). Some sections) (are_these print [] 1 (one ∷ others) follows can))

pub written_are_read : WrittenAreRead
written_are_read print [] together can = absurd together
written_are_read print (one ∷ others) together can = written_are_read_by print one others (follows_together (one ∷ others) together) can

reads-one : (print : Bool) (one : Written) → IsWritable one → Reads (written_text print one) (section_of print one.name one.settings one.list 1 ∷ [])
unfolding are_read
reads-one print one can =
    let can_all = All-cons IsWritable one [] can (All-nil IsWritable) in
    ap (λ (text : List ℕ). text_sections text) (sym (append-nil (written_text print one)))
    ∙ reads-all print one [] (section_of print one.name one.settings one.list 1 ∷ []) can_all (are_read print [] 1 (one ∷ []) (refl, tt) can_all).1

pub written_is_read : WrittenIsRead
written_is_read print name settings list can = (
  section_of print name settings list 1,
  reads-one print (record { name = name; settings = settings; list = list }) can,
  is_section_of print name settings list 1 can,
)

-- The dump text of an image.

names_of-written : (image : List ℕ) (all : List Database) → names_in (map (written_of image) all) ≡ map (λ (database : Database). database.name) all
names_of-written image [] = refl
names_of-written image (database ∷ others) = ap (λ (names : List (Option (List ℕ))). database.name ∷ names) (names_of-written image others)

dump_text-written : (print : Bool) (image : List ℕ) (all : List Database)
    → dump_text print image all ≡ flat_map (written_text print) (map (written_of image) all)
unfolding dump_text
dump_text-written print image [] = refl
dump_text-written print image (database ∷ others) =
    ap (λ (text : List ℕ). written_text print (written_of image database) ++ text) (dump_text-written print image others)

pub dump_is_read : DumpIsRead
dump_is_read print image all together can =
    let names = names_of-written image all in
    let read = written_are_read print (map (written_of image) all) (rw names together) can in
    (read.0, ap (λ (text : List ℕ). text_sections text) (dump_text-written print image all) ∙ read.1, read.2)
