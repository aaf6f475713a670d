-- Where no error holds for sections on a base, none holds for the joined sections.
use Rattle.std.proofs.Common.{◌≡◌, ℕ, Bool, true, false, not, List, [], ◌∷◌, ◌++◌, length, map, Option, Some, None, refl, sym, ◌∙◌, ap, subst, true≢false, ◌&&◌}
use Rattle.std.proofs.Common.{◌||◌, ◌==◌, is_some, All, Contains, filter, flat_map, fold}
use Rattle.std.proofs.lemmas.Grind.{flat_map-append}
use Rattle.std.proofs.lemmas.List.Elements.{All-head, All-tail}
use Rattle.bdb_format.specs.declared.kinds.Kind.{Kind}
use Rattle.bdb_format.specs.declared.kinds.Kind.TheVariants.{Btree, Recno, Hash, Queue}
use Rattle.bdb_format.specs.declared.metadata.BtreeMeta.{BtreeMeta}
use Rattle.bdb_format.specs.declared.settings.Settings.{Settings}
use Rattle.bdb_format.specs.Terms.{Database, File, databases, databases_under, fields_in, file_of, is_name, master_in, master_pairs, named_by, named_database}
use Rattle.bdb_format.specs.Terms.{page_at}
use Rattle.bdb_format.proofs.MemberLemmas.{first_member, is_empty, later_member, of_filter, of_flat_map, of_map}
use Rattle.bdb_law_kept.proofs.of_databases.NamedLemmas.{with_name}
use Rattle.bdb_mkfile.specs.of_text_format.declared.pairs.TextPair.{TextPair}
use Rattle.bdb_mkfile.specs.of_text_format.declared.sections.Section.{Section}
use Rattle.bdb_mkfile.specs.of_text_format.Terms.{is_queue}
use Rattle.bdb_mkfile.specs.of_settle.declared.load_error.LoadError.{LoadError}
use Rattle.bdb_mkfile.specs.of_settle.declared.load_error.LoadError.TheVariants.{RecordTooLong, QueueAmongNames}
use Rattle.bdb_mkfile.specs.of_settle.LoadErrors.{is_among_names, is_too_wide, load_error, pair_errors, section_errors, sooner, where_so}
use Rattle.bdb_mkfile.proofs.ApartLemmas.{alone_unnamed}
use Rattle.bdb_law_kept.specs.Kept.{HasNoErrors}
use Rattle.bdb_onto.specs.declared.base.Base.{Base}
use Rattle.bdb_onto.specs.Bases.{IsBase}
use Rattle.bdb_onto.specs.Laws.{AreLoadableOnto, JoinedLoadWithoutErrors}
use Rattle.bdb_onto.specs.Onto.{HasNoErrorsOnto, differ, in_base, is_left, is_partner, joined, joined_section, pairs_from}
use Rattle.bdb_onto.specs.Onto.{partner_of, settings_from, settings_onto}
use Rattle.bdb_onto.proofs.BaseLemmas.{IsOfBase, in_base_already, no_own_errors, of_base, queue_of_base}
use Rattle.bdb_onto.proofs.JoinLemmas.{partner_of_base}
use Rattle.bdb_law_kept.proofs.NameLemmas.{named_on}
use Rattle.bdb_law_kept.proofs.DumpLemmas.{none_of_pairs}

-- A base has a master exactly where its databases have names.

under_named : (file : File) (found : Option BtreeMeta) (database : Database) → Contains (databases_under file found) database
    → is_some database.name ≡ is_some found
under_named file None database at =
    let found = of_map (with_name None) (fields_in (page_at file 0)) database at in
    subst (λ (d : Database). is_some d.name ≡ false) found.2 refl
under_named file (Some meta) database at =
    let found = of_flat_map (named_database file) (master_pairs file) database at in
    named_on file found.0.key (named_by file found.0.data_item) database found.2

named_as_master : (file : File) (database : Database) → Contains (databases file) database
    → is_some database.name ≡ is_some (master_in (page_at file 0))
unfolding databases
named_as_master file database at = under_named file (master_in (page_at file 0)) database at

pub named_in_base : (base : Base) (database : Section) → IsOfBase base database → is_some database.name ≡ base.master
named_in_base base database of =
    ap (λ (s : Section). is_some s.name) of.is ∙ named_as_master (file_of of.image) of.there of.among ∙ sym (ap (λ (b : Base). b.master) of.are)

pub same_of : (a b : Bool) → differ a b ≡ false → a ≡ b
same_of true true is = refl
same_of true false is = absurd (cc is)
same_of false true is = absurd (cc is)
same_of false false is = refl

pub no_name : (name : Option (List ℕ)) → is_some name ≡ false → name ≡ None
no_name None is = refl
no_name (Some name) is = absurd (cc is)

-- Where the base has no master there is one section, which joins the only database.

pub record AreOne (base : Base) (sections : List Section) : Type 0 where
  pub one : Section
  pub are : sections ≡ one ∷ []
  pub unnamed : one.name ≡ None
  pub none : HasNoErrorsOnto base true one
  pub joined_are : joined base sections ≡ joined_section base one ∷ []

none_left : (base : Base) (section : Section) → IsBase base → base.master ≡ false → section.name ≡ None
    → filter (is_left (section ∷ [])) base.databases ≡ []
none_left base section is no_master unnamed =
    is_empty (filter (is_left (section ∷ [])) base.databases) (λ database at.
    let found = of_filter (is_left (section ∷ [])) base.databases database at in
    let none : database.name ≡ None =
    no_name database.name (named_in_base base database (of_base base database is found.0) ∙ no_master) in
    let partner : is_partner section database ≡ true = ap (λ n. is_name n database.name) unnamed ∙ ap (is_name None) none in
    let left : not (is_partner section database || false) ≡ true = found.1 in
    true≢false (sym left ∙ ap (λ b. not (b || false)) partner))

pub are_one : (base : Base) (sections : List Section) → AreLoadableOnto base sections → base.master ≡ false → AreOne base sections
are_one base [] loadable no_master = absurd (cc loadable.fit.fit.some)
are_one base (section ∷ rest) loadable no_master =
    let none : HasNoErrorsOnto base (length (section ∷ rest) == 1) section =
    All-head (HasNoErrorsOnto base (length (section ∷ rest) == 1)) section rest loadable.none in
    let unnamed : is_some section.name ≡ false = same_of (is_some section.name) base.master none.named ∙ no_master in
    let alone : rest ≡ [] = alone_unnamed section rest unnamed loadable.fit.fit.names in
    let nameless : section.name ≡ None = no_name section.name unnamed in
    record {
      one = section;
      are = ap (λ (ss : List Section). section ∷ ss) alone;
      unnamed = nameless;
      none = subst (λ (ss : List Section). HasNoErrorsOnto base (length (section ∷ ss) == 1) section) alone none;
      joined_are =
          ap (λ (ss : List Section). joined base (section ∷ ss)) alone
          ∙ ap (λ ss. joined_section base section ∷ ss) (none_left base section loadable.base_is no_master nameless);
    }

-- Errors of one section.

pub no_section_errors : (size : ℕ) (alone : Bool) (section : Section) → is_too_wide size section.settings ≡ false → is_among_names alone section ≡ false
    → flat_map (pair_errors section.settings) section.pairs ≡ [] → section_errors size alone section ≡ []
no_section_errors size alone section wide among pairs =
    ap (λ b. (where_so b (RecordTooLong section.header_line) ++ where_so (is_among_names alone section) (QueueAmongNames section.header_line))
    ++ flat_map (pair_errors section.settings) section.pairs) wide
    ∙ ap (λ b. where_so b (QueueAmongNames section.header_line) ++ flat_map (pair_errors section.settings) section.pairs) among
    ∙ pairs

from_errors : (base : Base) (settings : Settings) (partner : Option Section) → ((database : Section) → partner ≡ Some database → IsOfBase base database)
    → flat_map (pair_errors (in_base base (settings_from settings partner))) (pairs_from partner) ≡ []
from_errors base settings None of = refl
from_errors base settings (Some partner) of =
    ap (λ s. flat_map (pair_errors s) partner.pairs) (in_base_already base partner (of partner refl))
    ∙ none_of_pairs partner.settings partner.pairs (no_own_errors base partner (of partner refl)).each

pub joined_pairs : (base : Base) (section : Section) → IsBase base → flat_map (pair_errors (settings_onto base section)) section.pairs ≡ []
    → flat_map (pair_errors (settings_onto base section)) (pairs_from (partner_of base section) ++ section.pairs) ≡ []
joined_pairs base section is none =
    let errors : TextPair → List LoadError = pair_errors (settings_onto base section) in
    flat_map-append errors (pairs_from (partner_of base section)) section.pairs
    ∙ ap (λ es. es ++ flat_map errors section.pairs)
    (from_errors base section.settings (partner_of base section) (λ database found. partner_of_base base section database is found))
    ∙ none

-- Queues.

pub no_queue : (kind : Kind) → (kind ≡ Queue → ⊥) → is_queue kind ≡ false
no_queue Btree other = refl
no_queue Recno other = refl
no_queue Hash other = refl
no_queue Queue other = absurd (other refl)

-- under a master there is none
pub no_named_queue : (base : Base) (database : Section) → base.master ≡ true → IsOfBase base database → is_queue database.settings.kind ≡ false
no_named_queue base database master of =
    no_queue database.settings.kind (λ queue.
    let has : is_some database.name ≡ true = named_in_base base database of ∙ master in
    true≢false (sym has ∙ ap is_some (queue_of_base base database of queue).unnamed))

not_among : (alone : Bool) (section : Section) → is_queue section.settings.kind ≡ false → is_among_names alone section ≡ false
not_among alone section is = ap (λ b. b && (is_some section.name || not alone)) is

own_kind : (base : Base) (alone : Bool) (section : Section) (partner : Option Section) → base.master ≡ true → is_some section.name ≡ true
    → is_among_names alone section ≡ false → ((database : Section) → partner ≡ Some database → IsOfBase base database)
    → is_queue (in_base base (settings_from section.settings partner)).kind ≡ false
own_kind base alone section None master named among of =
    by_test (is_queue section.settings.kind) (sym (ap (λ b. is_queue section.settings.kind && (b || not alone)) named) ∙ among)
  where
    by_test : (b : Bool) → (b && true) ≡ false → b ≡ false
    by_test true is = absurd (cc is)
    by_test false is = refl
own_kind base alone section (Some partner) master named among of = no_named_queue base partner master (of partner refl)

-- All sections.

joined_errors : (base : Base) (alone other : Bool) (section : Section) → IsBase base → base.master ≡ true → HasNoErrorsOnto base alone section
    → section_errors base.page_size other (joined_section base section) ≡ []
joined_errors base alone other section is master none =
    let named : is_some section.name ≡ true = same_of (is_some section.name) base.master none.named ∙ master in
    no_section_errors base.page_size other (joined_section base section) none.wide
    (not_among other (joined_section base section)
    (own_kind base alone section (partner_of base section) master named none.among (λ database found. partner_of_base base section database is found)))
    (joined_pairs base section is none.pairs)

all_joined : (base : Base) (alone other : Bool) (sections : List Section) → IsBase base → base.master ≡ true
    → All (HasNoErrorsOnto base alone) sections
    → flat_map (section_errors base.page_size other) (map (joined_section base) sections) ≡ []
all_joined base alone other [] is master none = refl
all_joined base alone other (section ∷ sections) is master none =
    ap (λ es. es ++ flat_map (section_errors base.page_size other) (map (joined_section base) sections))
    (joined_errors base alone other section is master (All-head (HasNoErrorsOnto base alone) section sections none))
    ∙ all_joined base alone other sections is master (All-tail (HasNoErrorsOnto base alone) section sections none)

left_errors : (base : Base) (other : Bool) (database : Section) → base.master ≡ true → IsOfBase base database
    → section_errors base.page_size other database ≡ []
left_errors base other database master of =
    let none : HasNoErrors database.settings database.pairs = no_own_errors base database of in
    let size : database.settings.page_size ≡ base.page_size = sym (ap (λ (s : Settings). s.page_size) (in_base_already base database of)) in
    no_section_errors base.page_size other database (subst (λ n. is_too_wide n database.settings ≡ false) size none.wide)
    (not_among other database (no_named_queue base database master of))
    (none_of_pairs database.settings database.pairs none.each)

all_left : (base : Base) (other : Bool) (left : List Section) → base.master ≡ true → ((database : Section) → Contains left database → IsOfBase base database)
    → flat_map (section_errors base.page_size other) left ≡ []
all_left base other [] master of = refl
all_left base other (database ∷ left) master of =
    ap (λ es. es ++ flat_map (section_errors base.page_size other) left) (left_errors base other database master (of database (first_member database left)))
    ∙ all_left base other left master (λ one at. of one (later_member database left one at))

one_without_errors : (base : Base) (section : Section) → IsBase base → section.name ≡ None → HasNoErrorsOnto base true section
    → load_error (joined_section base section ∷ []) ≡ None
one_without_errors base section is unnamed none =
    let among : is_among_names true (joined_section base section) ≡ false =
    ap (λ (n : Option (List ℕ)). is_queue (settings_onto base section).kind && (is_some n || false)) unnamed
    ∙ by_test (is_queue (settings_onto base section).kind) in
    let empty : section_errors base.page_size true (joined_section base section) ≡ [] =
    no_section_errors base.page_size true (joined_section base section) none.wide among (joined_pairs base section is none.pairs) in
    ap (λ es. fold sooner None (es ++ [])) empty
  where
    by_test : (b : Bool) → (b && false) ≡ false
    by_test true = refl
    by_test false = refl

named_without_errors : (base : Base) (sections : List Section) → AreLoadableOnto base sections → base.master ≡ true
    → load_error (joined base sections) ≡ None
named_without_errors base [] loadable master = absurd (cc loadable.fit.fit.some)
named_without_errors base (first ∷ rest) loadable master =
    let sections : List Section = first ∷ rest in
    let other : Bool = length (joined base sections) == 1 in
    let left : List Section = filter (is_left sections) base.databases in
    ap (fold sooner None)
    (flat_map-append (section_errors base.page_size other) (map (joined_section base) sections) left
    ∙ ap (λ es. es ++ flat_map (section_errors base.page_size other) left)
    (all_joined base (length sections == 1) other sections loadable.base_is master loadable.none)
    ∙ all_left base other left master (λ database at.
    of_base base database loadable.base_is (of_filter (is_left sections) base.databases database at).0))

pub joined_load_without_errors : JoinedLoadWithoutErrors
joined_load_without_errors base sections loadable = by_master base.master refl
  where
    by_master : (b : Bool) → base.master ≡ b → load_error (joined base sections) ≡ None
    by_master true master = named_without_errors base sections loadable master
    by_master false no_master =
        let one : AreOne base sections = are_one base sections loadable no_master in
        ap load_error one.joined_are ∙ one_without_errors base one.one loadable.base_is one.unnamed one.none
