-- Sections on a base without its pairs: the same errors, and with the pairs of their partners the same sections.
use Rattle.std.proofs.Common.{◌≡◌, Bool, true, false, cond, List, [], ◌∷◌, ◌++◌, length, map, Option, Some, None, refl, ◌∙◌, ap, subst, append-nil, inl, inr}
use Rattle.std.proofs.Common.{◌==◌, ◌<◌, ℕ, arith, is_some, slice_get, suc, sym, true≢false, zero}
use Rattle.std.specs.List.{Contains, filter, find, flat_map, fold}
use Rattle.std.specs.Option.{option_map}
use Rattle.std.proofs.lemmas.List.{length-map, map-append}
use Rattle.bdb_format.proofs.ListLemmas.{member_of}
use Rattle.bdb_format.proofs.MemberLemmas.{first_member, later_member, member_cases, no_member, of_map}
use Rattle.bdb_format.specs.Terms.{Less, is_name}
use Rattle.bdb_mkfile.specs.Builds.{name_of}
use Rattle.bdb_mkfile.specs.of_text_format.declared.pairs.TextPair.{TextPair}
use Rattle.bdb_mkfile.specs.of_text_format.declared.sections.Section.{Section}
use Rattle.bdb_mkfile.specs.of_settle.LoadErrors.{is_among_names, is_too_wide, pair_errors, sooner, where_so}
use Rattle.bdb_mkfile.specs.of_settle.declared.load_error.LoadError.{LoadError}
use Rattle.bdb_mkfile.specs.of_settle.declared.load_error.LoadError.TheVariants.{RecordTooLong, QueueAmongNames, OntoKind, OntoNames}
use Rattle.bdb_law_kept.specs.Later.{AllLater}
use Rattle.bdb_law_kept.proofs.LaterLemmas.{later_map}
use Rattle.bdb_onto.specs.declared.base.Base.{Base}
use Rattle.bdb_onto.specs.Bare.{bare, bare_of, with_partner}
use Rattle.bdb_onto.specs.Onto.{in_base, is_left, is_misnamed, is_other, is_partner, joined, joined_section, onto_error, onto_errors, pairs_from}
use Rattle.bdb_onto.specs.Onto.{partner_of, settings_from}
use Rattle.bdb_onto.specs.Search.{Differs, HasNames, IsPartnerAt, at_place}
use Rattle.bdb_onto.proofs.JoinLemmas.{found_in}
use Rattle.bdb_onto.proofs.JoiningLemmas.{own_name}

-- Its names are those of the base.

pub bare_names : (base : Base) → HasNames base → HasNames (bare_of base)
bare_names base names = record {
  named = λ database at.
      let found = of_map bare base.databases database at in
      subst (λ (s : Section). is_some s.name ≡ base.master) found.2 (names.named found.0 found.1);
  rise = λ master. later_map (λ a b. Less (name_of a) (name_of b)) bare base.databases (names.rise master);
  differ = later_map Differs bare base.databases names.differ;
}

-- Partners.

bare_partner : (section : Section) (all : List Section) → find (is_partner section) (map bare all) ≡ option_map bare (find (is_partner section) all)
bare_partner section [] = refl
bare_partner section (x ∷ xs) = by_test (is_partner section x) (bare_partner section xs)
  where
    by_test : (b : Bool) → find (is_partner section) (map bare xs) ≡ option_map bare (find (is_partner section) xs)
        → cond b (Some (bare x)) (find (is_partner section) (map bare xs)) ≡ option_map bare (cond b (Some x) (find (is_partner section) xs))
    by_test true later = refl
    by_test false later = later

-- the database at a place where the bare one is a partner
found_at : (section : Section) (all : List Section) (i : ℕ) → AllLater Differs all → i < length all
    → slice_get (map bare all) i ≡ find (is_partner section) (map bare all) → slice_get all i ≡ find (is_partner section) all
found_at section [] i apart within is = absurd (omega (arith, within))
found_at section (x ∷ xs) zero apart within is =
    let partner : is_partner section x ≡ true = (found_in (is_partner section) (map bare (x ∷ xs)) (bare x) (sym is)).1 in
    sym (ap (λ b. cond b (Some x) (find (is_partner section) xs)) partner)
found_at section (x ∷ xs) (suc i) apart within is =
    by_test (is_partner section x) refl is (found_at section xs i apart.1 (omega (arith, within)))
  where
    by_test : (b : Bool) → is_partner section x ≡ b → slice_get (map bare xs) i ≡ cond b (Some (bare x)) (find (is_partner section) (map bare xs))
        → (slice_get (map bare xs) i ≡ find (is_partner section) (map bare xs) → slice_get xs i ≡ find (is_partner section) xs)
        → slice_get xs i ≡ cond (is_partner section x) (Some x) (find (is_partner section) xs)
    by_test false other at later = later at ∙ sym (ap (λ b. cond b (Some x) (find (is_partner section) xs)) other)
    by_test true partner at later =
        let found = of_map bare xs (bare x) (member_of (map bare xs) i (bare x) at) in
        let same : found.0.name ≡ x.name = ap (λ (s : Section). s.name) found.2 in
        absurd (true≢false (sym (own_name x.name) ∙ (ap (λ n. is_name n x.name) (sym same) ∙ apart.0 found.0 found.1)))

-- so it is the partner in the base itself
pub partner_placed : (base : Base) (section : Section) (place : Option ℕ) → HasNames base → IsPartnerAt (bare_of base) section place
    → at_place base.databases place ≡ partner_of base section
partner_placed base section None names is = none (find (is_partner section) base.databases) (is.there ∙ bare_partner section base.databases)
  where
    none : (found : Option Section) → None ≡ option_map bare found → None ≡ found
    none None at = refl
    none (Some database) at = absurd (cc at)
partner_placed base section (Some i) names is =
    found_at section base.databases i names.differ (subst (λ n. i < n) (length-map base.databases bare) is.within) is.there

-- Errors.

-- the errors of a section with this partner
abbrev errors_with : Base → Bool → Section → Option Section → List LoadError
errors_with base alone section partner =
    let settings = in_base base (settings_from section.settings partner) in
    where_so (is_too_wide base.page_size settings) (RecordTooLong section.header_line)
    ++ (where_so (is_among_names alone section) (QueueAmongNames section.header_line)
    ++ (where_so (is_other section.settings partner) (OntoKind section.header_line)
    ++ (where_so (is_misnamed base section) (OntoNames section.header_line)
    ++ flat_map (pair_errors settings) section.pairs)))

bare_errors : (base : Base) (alone : Bool) (section : Section) → onto_errors (bare_of base) alone section ≡ onto_errors base alone section
bare_errors base alone section =
    ap (errors_with base alone section) (bare_partner section base.databases) ∙ by_partner (partner_of base section)
  where
    by_partner : (partner : Option Section) → errors_with base alone section (option_map bare partner) ≡ errors_with base alone section partner
    by_partner None = refl
    by_partner (Some partner) = refl

all_errors : (base : Base) (alone : Bool) (sections : List Section)
    → flat_map (onto_errors (bare_of base) alone) sections ≡ flat_map (onto_errors base alone) sections
all_errors base alone [] = refl
all_errors base alone (section ∷ sections) =
    ap (λ errors. errors ++ flat_map (onto_errors (bare_of base) alone) sections) (bare_errors base alone section)
    ∙ ap (λ errors. onto_errors base alone section ++ errors) (all_errors base alone sections)

pub bare_error : (base : Base) (sections : List Section) → onto_error (bare_of base) sections ≡ onto_error base sections
bare_error base sections = ap (fold sooner None) (all_errors base (length sections == 1) sections)

-- Joined sections.

-- a section with the pairs of one partner, and the settings and pairs of another
abbrev section_with : Base → Section → Option Section → Option Section → Section
section_with base section partner other = record section {
  settings = in_base base (settings_from section.settings other);
  pairs = pairs_from partner ++ (pairs_from other ++ section.pairs);
}

with_its_partner : (base : Base) (section : Section) → with_partner base (joined_section (bare_of base) section) ≡ joined_section base section
with_its_partner base section =
    ap (section_with base section (partner_of base section)) (bare_partner section base.databases) ∙ by_partner (partner_of base section)
  where
    by_partner : (partner : Option Section)
        → section_with base section partner (option_map bare partner)
        ≡ record section { settings = in_base base (settings_from section.settings partner); pairs = pairs_from partner ++ section.pairs }
    by_partner None = refl
    by_partner (Some partner) = refl

with_partners : (base : Base) (sections : List Section)
    → map (with_partner base) (map (joined_section (bare_of base)) sections) ≡ map (joined_section base) sections
with_partners base [] = refl
with_partners base (section ∷ sections) =
    ap (λ (s : Section). s ∷ map (with_partner base) (map (joined_section (bare_of base)) sections)) (with_its_partner base section)
    ∙ ap (λ ss. joined_section base section ∷ ss) (with_partners base sections)

-- a database is its own partner
its_own : (all : List Section) (database : Section) → AllLater Differs all → Contains all database → find (is_partner database) all ≡ Some database
its_own [] database apart at = absurd (no_member [] database refl at)
its_own (x ∷ xs) database apart at =
    elim (member_cases x xs database at) [
      | inl same ↦
          subst (λ (s : Section). find (is_partner s) (x ∷ xs) ≡ Some s) same
          (ap (λ b. cond b (Some x) (find (is_partner x) xs)) (own_name x.name))
      | inr later ↦
          ap (λ b. cond b (Some x) (find (is_partner database) xs)) (apart.0 database later) ∙ its_own xs database apart.1 later
    ]

with_own : (base : Base) (database : Section) → partner_of base database ≡ Some database → with_partner base (bare database) ≡ database
with_own base database own =
    ap (λ (partner : Option Section). record database { pairs = pairs_from partner ++ [] }) own
    ∙ ap (λ (pairs : List TextPair). record database { pairs = pairs }) (append-nil database.pairs)

left_with_own : (base : Base) (sections all : List Section)
    → ((database : Section) → Contains all database → partner_of base database ≡ Some database)
    → map (with_partner base) (filter (is_left sections) (map bare all)) ≡ filter (is_left sections) all
left_with_own base sections [] own = refl
left_with_own base sections (x ∷ xs) own =
    by_test (is_left sections x) (left_with_own base sections xs (λ database at. own database (later_member x xs database at)))
  where
    by_test : (b : Bool) → map (with_partner base) (filter (is_left sections) (map bare xs)) ≡ filter (is_left sections) xs
        → map (with_partner base) (cond b (bare x ∷ filter (is_left sections) (map bare xs)) (filter (is_left sections) (map bare xs)))
        ≡ cond b (x ∷ filter (is_left sections) xs) (filter (is_left sections) xs)
    by_test true rest =
        ap (λ (s : Section). s ∷ map (with_partner base) (filter (is_left sections) (map bare xs))) (with_own base x (own x (first_member x xs)))
        ∙ ap (λ ss. x ∷ ss) rest
    by_test false rest = rest

-- sections that are joined with a base without its pairs lack the pairs of their partners alone
pub bare_joined : (base : Base) (sections : List Section) → HasNames base
    → map (with_partner base) (joined (bare_of base) sections) ≡ joined base sections
bare_joined base sections names =
    map-append (with_partner base) (map (joined_section (bare_of base)) sections) (filter (is_left sections) (map bare base.databases))
    ∙ ap (λ ss. ss ++ map (with_partner base) (filter (is_left sections) (map bare base.databases))) (with_partners base sections)
    ∙ ap (λ ss. map (joined_section base) sections ++ ss)
    (left_with_own base sections base.databases (λ database at. its_own base.databases database names.differ at))
