-- Sections of a text that is read.
use Rattle.std.proofs.Common.{◌≡◌, ℕ, ◌+◌, ◌==◌, if◌then◌else◌, ◌||◌, not, Bool, true, false, List, [], ◌∷◌, ◌++◌, length, Option, Some, None, length-append}
use Rattle.std.proofs.Common.{refl, sym, ap, subst, arith, codes}
use Rattle.std.specs.List.{All, list_any}
use Rattle.std.specs.Str.{bytes_eq}
use Rattle.std.proofs.lemmas.Bool.Decides.{nat_tests}
use Rattle.std.proofs.lemmas.List.Elements.{All-cons, All-head, All-push, All-tail}
use Rattle.bdb_text_format.specs.of_format.Terms.{is_name}
use Rattle.bdb_text_format.specs.declared.pairs.TextPair.{TextPair}
use Rattle.bdb_text_format.specs.declared.sections.Section.{Section}
use Rattle.bdb_text_format.specs.Terms.{Parts, Values, begin_with, counted_pairs, has_keys, has_record_type, header_fits, holds_records, is_data_end}
use Rattle.bdb_text_format.specs.Terms.{is_header_end, is_on, keyed_pairs, lines_with, name_in, name_missing, name_of, name_of_parts, names_with, nothing_left}
use Rattle.bdb_text_format.specs.Terms.{pairs_read, parts_of, parts_read, prints, section_read, sections_from, sections_in, settings_in, text_lines}
use Rattle.bdb_text_format.specs.Terms.{text_sections, values, version_line, with_line, with_pairs, with_section}
use Rattle.bdb_law_sections.specs.Fit.{AreFit, AreNamedBehind, HasBytes, IsFitPair, IsFitSection, ReadSectionsAreFit, ReadQueuesHaveBytes}
use Rattle.bdb_law_sections.proofs.HeaderLemmas.{IsFitHeader, fit_header, records_have_bytes, records_held, settings_fit}
use Rattle.bdb_law_sections.proofs.PairLemmas.{AreShort, IsShort, counted_fit, keyed_fit, lines_short}

-- The data lines of a section are among its lines.

with_short : (most : ℕ) (line : List ℕ) (rest : Option Parts) (parts : Parts) → with_line line rest ≡ Some parts
    → ((others : Parts) → rest ≡ Some others → AreShort most others.data_lines) → AreShort most parts.data_lines
with_short most line None parts is short = absurd (cc is)
with_short most line (Some others) parts is short =
    let e : record others { header = line ∷ others.header } ≡ parts = cc is in
    subst (λ (p : Parts). AreShort most p.data_lines) e (short others refl)

parts_if : (most : ℕ) (line : List ℕ) (lines : List (List ℕ)) (parts : Parts) (b : Bool)
    → (if b then Some (let p : Parts = record { header = []; data_lines = lines } in p) else with_line line (parts_of lines)) ≡ Some parts
    → AreShort most lines
    → ((others : Parts) → parts_of lines ≡ Some others → AreShort most others.data_lines) → AreShort most parts.data_lines
parts_if most line lines parts true is short rest =
    let here : Parts = record { header = []; data_lines = lines } in
    let e : here ≡ parts = cc is in subst (λ (p : Parts). AreShort most p.data_lines) e short
parts_if most line lines parts false is short rest = with_short most line (parts_of lines) parts is rest

parts_short : (most : ℕ) (lines : List (List ℕ)) (parts : Parts) → parts_of lines ≡ Some parts → AreShort most lines → AreShort most parts.data_lines
parts_short most [] parts is short = absurd (cc is)
parts_short most (line ∷ lines) parts is short =
    let behind : AreShort most lines = All-tail (IsShort most) line lines short in
    parts_if most line lines parts (is_header_end line) is behind (λ others e. parts_short most lines others e behind)

-- A section.

records_without : (records on : Bool) → false ≡ (not records || on) → true ≡ records
records_without true on none = refl
records_without false on none = absurd (cc none)

pairs_by : (most at : ℕ) (header : Values) (lines : List (List ℕ)) (pairs : List TextPair) (keys : Bool) → keys ≡ has_keys header
    → AreShort most lines
    → (if keys then keyed_pairs (prints header) (has_record_type header) at lines else counted_pairs (prints header) 1 at lines) ≡ Some pairs
    → All (IsFitPair (has_record_type header) most) pairs
pairs_by most at header lines pairs true is short read = keyed_fit (prints header) (has_record_type header) most at lines pairs short read
pairs_by most at header lines pairs false is short read =
    let records : true ≡ has_record_type header = records_without (has_record_type header) (is_on (codes "keys") header) is in
    subst (λ b. All (IsFitPair b most) pairs) records (counted_fit (prints header) most 1 at lines pairs short read)

-- a section that is fit, behind sections of these names
pub record IsFitBehind (most : ℕ) (names : List (Option (List ℕ))) (section : Section) : Type 0 where
  pub fit : IsFitSection most section
  pub there : name_missing names section.name ≡ false
  pub apart : list_any (is_name section.name) names ≡ false
  pub bytes : HasBytes section

paired : (most at : ℕ) (names : List (Option (List ℕ))) (header : List (List ℕ)) (section : Section) (pairs : Option (List TextPair))
    → IsFitHeader names header
    → ((all : List TextPair) → pairs ≡ Some all → All (IsFitPair (has_record_type (values header)) most) all)
    → with_pairs at (values header) pairs ≡ Some section → IsFitBehind most names section × (section.name ≡ name_in (values header))
paired most at names header section None fit each is = absurd (cc is)
paired most at names header section (Some pairs) fit each is =
    let here : Section = record { name = name_in (values header); settings = settings_in (values header); header_line = at; pairs = pairs } in
    let e : here ≡ section = cc is in
    let all : All (IsFitPair (holds_records here.settings.kind) most) pairs =
    subst (λ b. All (IsFitPair b most) pairs) (sym (records_held (values header) fit.says.typed)) (each pairs refl) in
    let is_fit : IsFitBehind most names here =
    record {
      fit = record { settings = settings_fit (values header) fit.says; pairs = all };
      there = fit.there;
      apart = fit.apart;
      bytes = records_have_bytes
          (values header) fit.says;
    } in
    (subst (IsFitBehind most names) e is_fit, ap (λ (s : Section). s.name) (sym e))

headed : (most at : ℕ) (names : List (Option (List ℕ))) (parts : Parts) (section : Section) (b : Bool) → b ≡ header_fits names parts.header
    → AreShort most parts.data_lines
    → (if b then with_pairs (at + length parts.header) (values parts.header) (pairs_read (values parts.header) (at + length parts.header + 1) parts.data_lines)
    else None)
    ≡ Some section → IsFitBehind most names section × (section.name ≡ name_in (values parts.header))
headed most at names parts section false is short read = absurd (cc read)
headed most at names parts section true is short read =
    let header : Values = values parts.header in
    paired most (at + length parts.header) names parts.header section (pairs_read header (at + length parts.header + 1) parts.data_lines)
    (fit_header names parts.header (sym is))
    (λ all e. pairs_by most (at + length parts.header + 1) header parts.data_lines all (has_keys header) refl short e) read

parted : (most at : ℕ) (names : List (Option (List ℕ))) (lines : List (List ℕ)) (parts : Option Parts) (section : Section) → parts ≡ parts_of lines
    → AreShort most lines → parts_read names at parts ≡ Some section → IsFitBehind most names section × (section.name ≡ name_of_parts parts)
parted most at names lines None section is short read = absurd (cc read)
parted most at names lines (Some parts) section is short read =
    headed most at names parts section (header_fits names parts.header) refl (parts_short most lines parts (sym is) short) read

versioned : (most at : ℕ) (names : List (Option (List ℕ))) (lines : List (List ℕ)) (section : Section) (b : Bool) → AreShort most lines
    → (if b then parts_read names (at + 1) (parts_of lines) else None) ≡ Some section
    → IsFitBehind most names section × (section.name ≡ name_of_parts (parts_of lines))
versioned most at names lines section false short read = absurd (cc read)
versioned most at names lines section true short read = parted most (at + 1) names lines (parts_of lines) section refl short read

section_fit : (most at : ℕ) (names : List (Option (List ℕ))) (lines : List (List ℕ)) (section : Section) → AreShort most lines
    → section_read names at lines ≡ Some section → IsFitBehind most names section × (section.name ≡ name_of lines)
unfolding section_read
section_fit most at names [] section short read = absurd (cc read)
section_fit most at names (first ∷ lines) section short read =
    versioned most at names lines section (bytes_eq first version_line) (All-tail (IsShort most) first lines short) read

-- Sections.

pub record AreFitBehind (most : ℕ) (names : List (Option (List ℕ))) (sections : List Section) : Type 0 where
  pub each : All (IsFitSection most) sections
  pub named : AreNamedBehind names sections
  pub bytes : All HasBytes sections

none_behind : (most : ℕ) (names : List (Option (List ℕ))) (sections : List Section) → Some [] ≡ Some sections → AreFitBehind most names sections
none_behind most names sections is =
    let e : [] ≡ sections = cc is in
    subst (AreFitBehind most names) e (record { each = λ k d low. absurd (omega arith); named = tt; bytes = λ k d low. absurd (omega arith) })

left_behind : (most : ℕ) (names : List (Option (List ℕ))) (before : List (List ℕ)) (sections : List Section) → nothing_left before ≡ Some sections
    → AreFitBehind most names sections
left_behind most names [] sections is = none_behind most names sections is
left_behind most names (line ∷ lines) sections is = absurd (cc is)

one_before : (most : ℕ) (names : List (Option (List ℕ))) (lines : List (List ℕ)) (section : Option Section) (others : Option (List Section))
    (sections : List Section)
    → with_section section others ≡ Some sections
    → ((s : Section) → section ≡ Some s → IsFitBehind most names s × (s.name ≡ name_of lines))
    → ((all : List Section) → others ≡ Some all → AreFitBehind most (names ++ (name_of lines ∷ [])) all)
    → AreFitBehind most names sections
one_before most names lines None others sections is first rest = absurd (cc is)
one_before most names lines (Some section) None sections is first rest = absurd (cc is)
one_before most names lines (Some section) (Some others) sections is first rest =
    let here = first section refl in
    let behind : AreFitBehind most (names ++ (name_of lines ∷ [])) others = rest others refl in
    let e : section ∷ others ≡ sections = cc is in
    subst (AreFitBehind most names) e (record {
      each = All-cons (IsFitSection most) section others here.0.fit behind.each;
      named = (here.0.there, here.0.apart, subst (λ n. AreNamedBehind (names ++ (n ∷ [])) others) (sym here.1) behind.named);
      bytes = All-cons HasBytes section others here.0.bytes behind.bytes;
    })

line_behind : (most at : ℕ) (names : List (Option (List ℕ))) (before : List (List ℕ)) (line : List ℕ) (others : Option (List Section))
    (sections : List Section) (b : Bool) → AreShort most before → IsShort most line
    → (if b then with_section (section_read names at before) others else others) ≡ Some sections
    → ((all : List Section) → AreShort most (if b then [] else before ++ (line ∷ [])) → others ≡ Some all
    → AreFitBehind most (if b then names ++ (name_of before ∷ []) else names) all)
    → AreFitBehind most names sections
line_behind most at names before line others sections true short here is rest =
    one_before most names before (section_read names at before) others sections is (λ s e. section_fit most at names before s short e)
    (λ all e. rest all (λ k d low. absurd (omega arith)) e)
line_behind most at names before line others sections false short here is rest = rest sections (All-push (IsShort most) before line short here) is

all_behind : (most at : ℕ) (names : List (Option (List ℕ))) (before lines : List (List ℕ)) (sections : List Section) → AreShort most before
    → AreShort most lines → sections_from names before at lines ≡ Some sections → AreFitBehind most names sections
all_behind most at names before [] sections earlier short is = left_behind most names before sections is
all_behind most at names before (line ∷ lines) sections earlier short is =
    line_behind most at names before line (sections_from (names_with names before line) (lines_with before line) (begin_with before at line) lines)
    sections (is_data_end line) earlier (All-head (IsShort most) line lines short) is
    (λ all shorter e.
    all_behind most (begin_with before at line) (names_with names before line) (lines_with before line) lines all shorter
    (All-tail (IsShort most) line lines short) e)

-- Lines are read as no sections only where there are none.

no_section : (section : Option Section) (others : Option (List Section)) → with_section section others ≡ Some [] → ⊥
no_section None others is = cc is
no_section (Some section) None is = cc is
no_section (Some section) (Some others) is = cc is

none_left : (before : List (List ℕ)) → nothing_left before ≡ Some [] → length before ≡ 0
none_left [] is = refl
none_left (line ∷ lines) is = absurd (cc is)

none_by : (names : List (Option (List ℕ))) (before : List (List ℕ)) (at : ℕ) (line : List ℕ) (others : Option (List Section)) (b : Bool)
    → (if b then with_section (section_read names at before) others else others) ≡ Some []
    → (others ≡ Some [] → length (if b then [] else before ++ (line ∷ [])) ≡ 0) → ⊥
none_by names before at line others true is rest = no_section (section_read names at before) others is
none_by names before at line others false is rest =
    let h : length (before ++ (line ∷ [])) ≡ 0 = rest is in absurd (omega (arith, length-append before (line ∷ []), h))

none_read : (names : List (Option (List ℕ))) (before : List (List ℕ)) (at : ℕ) (lines : List (List ℕ))
    → sections_from names before at lines ≡ Some [] → length before + length lines ≡ 0
none_read names before at [] is = let h : length before ≡ 0 = none_left before is in omega arith
none_read names before at (line ∷ lines) is =
    absurd (none_by names before at line (sections_from (names_with names before line) (lines_with before line) (begin_with before at line) lines)
    (is_data_end line) is
    (λ e. let h : length (lines_with before line) + length lines ≡ 0 =
    none_read (names_with names before line) (lines_with before line) (begin_with before at line) lines e in omega arith))

some_in : (line : List ℕ) (lines : List (List ℕ)) (sections : List Section) → sections_in (line ∷ lines) ≡ Some sections
    → (length sections == 0) ≡ false
some_in line lines [] is = let h = none_read [] [] 1 (line ∷ lines) is in absurd (omega (arith, h))
some_in line lines (section ∷ sections) is = grind (arith, nat_tests)

in_lines : (most : ℕ) (lines : List (List ℕ)) (sections : List Section) → AreShort most lines → sections_in lines ≡ Some sections
    → AreFit most sections × All HasBytes sections
in_lines most [] sections short is = absurd (cc is)
in_lines most (line ∷ lines) sections short is =
    let all : AreFitBehind most [] sections = all_behind most 1 [] [] (line ∷ lines) sections (λ k d low. absurd (omega arith)) short is in
    (record { some = some_in line lines sections is; each = all.each; names = all.named }, all.bytes)

pub read_sections_are_fit : ReadSectionsAreFit
unfolding text_sections
read_sections_are_fit text sections reads = (in_lines (length text) (text_lines text) sections (lines_short text) reads).0

pub read_queues_have_bytes : ReadQueuesHaveBytes
unfolding text_sections
read_queues_have_bytes text sections reads = (in_lines (length text) (text_lines text) sections (lines_short text) reads).1
