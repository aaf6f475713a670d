-- The joined sections can be loaded.
use Rattle.std.proofs.Common.{◌≡◌, ℕ, ◌+◌, ◌≤◌, Bool, true, false, not, List, [], ◌∷◌, ◌++◌, length, map, Option, Some, None, refl, sym, ◌∙◌, ap, subst}
use Rattle.std.proofs.Common.{arith, append-nil, append_assoc, ne_eqb, ◌&&◌, ◌||◌, ◌==◌, IsTrue, is_none, is_some}
use Rattle.std.specs.List.{All, Contains, filter, list_any}
use Rattle.std.proofs.lemmas.Bool.{or_from, or_parts}
use Rattle.std.proofs.lemmas.List.Elements.{All-append, All-contains, All-cons, All-head, All-nil, All-tail, All-weaker}
use Rattle.std.proofs.lemmas.List.Folds.{list_any-append}
use Rattle.bdb_format.specs.declared.kinds.Kind.{Kind}
use Rattle.bdb_format.specs.declared.kinds.Kind.TheVariants.{Btree, Recno, Hash, Queue}
use Rattle.bdb_format.specs.declared.settings.Settings.{Settings}
use Rattle.bdb_format.specs.Terms.{Database, databases, file_of, is_name, is_page_size}
use Rattle.bdb_format.proofs.ListLemmas.{all_of}
use Rattle.bdb_format.proofs.MemberLemmas.{first_member, in_map, later_member, none_pass, none_passes, of_filter, of_map}
use Rattle.bdb_mkfile.specs.of_text_format.declared.sections.Section.{Section}
use Rattle.bdb_mkfile.specs.of_text_format.Terms.{holds_records, is_first}
use Rattle.bdb_mkfile.specs.of_law_sections.Fit.{AreFitSettings, AreNamedBehind, IsFitPair, IsFitSection}
use Rattle.bdb_mkfile.proofs.of_law_sections.PairLemmas.{section_longer}
use Rattle.bdb_law_kept.specs.of_text.WrittenLaw.{AreNamedApart, CanStandTogether}
use Rattle.bdb_law_kept.specs.Later.{AllLater}
use Rattle.bdb_law_kept.proofs.LaterLemmas.{later_filter, later_one}
use Rattle.bdb_law_kept.proofs.NameLemmas.{all_together}
use Rattle.bdb_onto.specs.declared.base.Base.{Base}
use Rattle.bdb_onto.specs.Bases.{IsBase, base_section}
use Rattle.bdb_onto.specs.Laws.{AreLoadableOnto, JoinedAreLoadable}
use Rattle.bdb_onto.specs.Onto.{HasNoErrorsOnto, differ, in_base, is_left, is_other, is_partner, is_unlike, joined, joined_section, pairs_from, partner_of}
use Rattle.bdb_onto.specs.Onto.{same_kind, settings_from}
use Rattle.bdb_onto.specs.Search.{Differs}
use Rattle.bdb_onto.proofs.BaseLemmas.{of_base}
use Rattle.bdb_onto.proofs.ErrorLemmas.{AreOne, are_one, named_in_base, same_of}
use Rattle.bdb_onto.proofs.FieldsLemmas.{AreFitBase, base_fits}
use Rattle.bdb_onto.proofs.JoinLemmas.{found_in}
use Rattle.bdb_law_kept.proofs.of_text.WrittenLemmas.{is_name-sym}

-- Names.

abbrev names_in : List Section → List (Option (List ℕ))
names_in sections = map (λ (section : Section). section.name) sections

named_append : (names : List (Option (List ℕ))) (xs ys : List Section) → AreNamedBehind names xs → AreNamedBehind (names ++ names_in xs) ys
    → AreNamedBehind names (xs ++ ys)
named_append names [] ys first second = subst (λ ns. AreNamedBehind ns ys) (append-nil names) second
named_append names (x ∷ xs) ys first second = (
  first.0,
  first.1,
  named_append (names ++ (x.name ∷ [])) xs ys first.2
      (subst (λ ns. AreNamedBehind ns ys) (sym (append_assoc names (x.name ∷ []) (names_in xs))) second),
)

joined_named : (base : Base) (names : List (Option (List ℕ))) (sections : List Section) → AreNamedBehind names sections
    → AreNamedBehind names (map (joined_section base) sections)
joined_named base names [] named = tt
joined_named base names (section ∷ sections) named =
    (named.0, named.1, joined_named base (names ++ (section.name ∷ [])) sections named.2)

joined_names : (base : Base) (sections : List Section) → names_in (map (joined_section base) sections) ≡ names_in sections
joined_names base [] = refl
joined_names base (section ∷ sections) = ap (λ ns. section.name ∷ ns) (joined_names base sections)

name_there : (name : Option (List ℕ)) → is_some name ≡ true → is_none name ≡ false
name_there None is = absurd (cc is)
name_there (Some name) is = refl

not_missing : (first : Bool) (none any : Bool) → none ≡ false → any ≡ false → (not first && (none || any)) ≡ false
not_missing true none any is are = refl
not_missing false none any is are = or_from none any is are

-- each has a name, which none of these is
pub record IsNew (names : List (Option (List ℕ))) (section : Section) : Type 0 where
  pub has : is_some section.name ≡ true
  pub other : list_any (is_name section.name) names ≡ false

behind : (names : List (Option (List ℕ))) (left : List Section) → list_any is_none names ≡ false
    → ((section : Section) → Contains left section → IsNew names section) → AllLater Differs left → AreNamedBehind names left
behind names [] all new apart = tt
behind names (section ∷ left) all new apart =
    let here : IsNew names section = new section (first_member section left) in (
      not_missing (is_first names) (is_none section.name) (list_any is_none names) (name_there section.name here.has) all,
      here.other,
      behind (names ++ (section.name ∷ [])) left
          (list_any-append is_none names (section.name ∷ []) ∙ or_from (list_any is_none names) (is_none section.name || false) all
          (or_from (is_none section.name) false (name_there section.name here.has) refl))
          (λ other at.
          let old : IsNew names other = new other (later_member section left other at) in
          record {
            has = old.has;
            other = list_any-append (is_name other.name) names (section.name ∷ [])
                ∙ or_from (list_any (is_name other.name) names) (is_name other.name section.name || false) old.other
                (or_from (is_name other.name section.name) false (apart.0 other at) refl);
          }) apart.1,
    )

-- The names of a base differ.

abbrev NamesDiffer : Database → Database → Type 0
NamesDiffer a b = is_name b.name a.name ≡ false

abbrev database_names : List Database → List (Option (List ℕ))
database_names all = map (λ (database : Database). database.name) all

all_apart : (all : List Database) → AreNamedApart (database_names all) → AllLater NamesDiffer all
all_apart [] named = tt
all_apart (database ∷ all) named = (
  (λ other at. is_name-sym database.name other.name
      (none_passes (is_name database.name) (database_names all) other.name named.1
      (in_map (λ (one : Database). one.name) all other at))),
  all_apart all named.2,
)

apart_together : (all : List Database) → (all ≡ [] → ⊥) → CanStandTogether (database_names all) → AllLater NamesDiffer all
apart_together [] some together = absurd (some refl)
apart_together (database ∷ []) some together = later_one NamesDiffer database
apart_together (database ∷ other ∷ others) some together = all_apart (database ∷ other ∷ others) together

empty_or : {X : Type 0} (xs : List X) → (P : List X → Type 0) → P [] → ((xs ≡ [] → ⊥) → P xs) → P xs
empty_or [] P none some = none
empty_or (x ∷ xs) P none some = some (λ same. absurd (cc same))

sections_differ : (image : List ℕ) (all : List Database) → AllLater NamesDiffer all → AllLater Differs (map (base_section image) all)
sections_differ image [] later = tt
sections_differ image (database ∷ all) later = (
  (λ other at.
      let found = of_map (base_section image) all other at in
      subst (λ (s : Section). is_name s.name database.name ≡ false) found.2 (later.0 found.0 found.1)),
  sections_differ image all later.1,
)

pub base_differs : (base : Base) → IsBase base → AllLater Differs base.databases
base_differs base is =
    subst (λ (b : Base). AllLater Differs b.databases) (sym is.are)
    (sections_differ is.image (databases (file_of is.image))
    (empty_or (databases (file_of is.image)) (AllLater NamesDiffer) tt
    (λ some. apart_together (databases (file_of is.image)) some (all_together is.image is.sound some))))

-- Under a master.

all_some : (base : Base) (alone : Bool) (sections : List Section) → base.master ≡ true → All (HasNoErrorsOnto base alone) sections
    → list_any is_none (names_in sections) ≡ false
all_some base alone [] master none = refl
all_some base alone (section ∷ sections) master none =
    or_from (is_none section.name) (list_any is_none (names_in sections))
    (name_there section.name
    (same_of (is_some section.name) base.master (All-head (HasNoErrorsOnto base alone) section sections none).named ∙ master))
    (all_some base alone sections master (All-tail (HasNoErrorsOnto base alone) section sections none))

-- a database that is left has the name of no section
left_new : (sections : List Section) (database : Section) → is_left sections database ≡ true
    → list_any (is_name database.name) (names_in sections) ≡ false
left_new sections database left =
    none_pass (is_name database.name) (names_in sections) (λ name at.
    let found = of_map (λ (s : Section). s.name) sections name at in
    subst (λ n. is_name database.name n ≡ false) found.2
    (is_name-sym found.0.name database.name
    (none_passes (λ section. is_partner section database) sections found.0 (turned (list_any (λ section. is_partner section database) sections) left)
    found.1)))
  where
    turned : (b : Bool) → not b ≡ true → b ≡ false
    turned true is = absurd (cc is)
    turned false is = refl

names_behind : (base : Base) (sections : List Section) → AreLoadableOnto base sections → base.master ≡ true
    → AreNamedBehind [] (joined base sections)
names_behind base sections loadable master =
    let left : List Section = filter (is_left sections) base.databases in
    named_append [] (map (joined_section base) sections) left (joined_named base [] sections loadable.fit.fit.names)
    (subst (λ ns. AreNamedBehind ns left) (sym (joined_names base sections))
    (behind (names_in sections) left (all_some base (length sections == 1) sections master loadable.none)
    (λ database at.
    let found = of_filter (is_left sections) base.databases database at in
    record {
      has = named_in_base base database (of_base base database loadable.base_is found.0) ∙ master;
      other = left_new sections database found.1;
    })
    (later_filter Differs (is_left sections) base.databases (base_differs base loadable.base_is))))

-- Settings and pairs.

-- settings in the file of a base are as fit as they were
in_base_fits : (base : Base) (settings : Settings) → IsTrue (is_page_size base.page_size) → AreFitSettings settings
    → AreFitSettings (in_base base settings)
in_base_fits base settings legal fit = record {
  page_size = legal;
  sorted = fit.sorted;
  counted = fit.counted;
  records = fit.records;
  re_len = fit.re_len;
  fixed = fit.fixed;
}

kinds_same : (a b : Kind) → same_kind a b ≡ true → a ≡ b
kinds_same Btree Btree is = refl
kinds_same Btree Recno is = absurd (cc is)
kinds_same Btree Hash is = absurd (cc is)
kinds_same Btree Queue is = absurd (cc is)
kinds_same Recno Btree is = absurd (cc is)
kinds_same Recno Recno is = refl
kinds_same Recno Hash is = absurd (cc is)
kinds_same Recno Queue is = absurd (cc is)
kinds_same Hash Btree is = absurd (cc is)
kinds_same Hash Recno is = absurd (cc is)
kinds_same Hash Hash is = refl
kinds_same Hash Queue is = absurd (cc is)
kinds_same Queue Btree is = absurd (cc is)
kinds_same Queue Recno is = absurd (cc is)
kinds_same Queue Hash is = absurd (cc is)
kinds_same Queue Queue is = refl

like_kinds : (settings others : Settings) → is_unlike settings others ≡ false → settings.kind ≡ others.kind
like_kinds settings others like =
    kinds_same settings.kind others.kind
    (turned (same_kind settings.kind others.kind)
    (or_parts (not (same_kind settings.kind others.kind))
    (differ settings.sorted others.sorted || differ (settings.duplicates || settings.sorted) (others.duplicates || others.sorted)) like).0)
  where
    turned : (b : Bool) → not b ≡ false → b ≡ true
    turned true is = refl
    turned false is = absurd (cc is)

-- a section behind a partner, or behind none
module _ (base : Base) (most : ℕ) (section : Section) (legal : IsTrue (is_page_size base.page_size)) (fit : IsFitSection most section) where
  behind_fits : (partner : Option Section) → is_other section.settings partner ≡ false
      → ((database : Section) → partner ≡ Some database → IsFitSection most database)
      → IsFitSection most (record section { settings = in_base base (settings_from section.settings partner); pairs = pairs_from partner ++ section.pairs })
  behind_fits None like of = record { settings = in_base_fits base section.settings legal fit.settings; pairs = fit.pairs }
  behind_fits (Some partner) like of =
      let there : IsFitSection most partner = of partner refl in
      record {
        settings = in_base_fits base partner.settings legal there.settings;
        pairs =
            All-append (IsFitPair (holds_records partner.settings.kind) most) partner.pairs section.pairs there.pairs
            (subst (λ k. All (IsFitPair (holds_records k) most) section.pairs) (like_kinds section.settings partner.settings like) fit.pairs);
      }

-- All sections.

fit_database : (base : Base) (most : ℕ) (fit : AreFitBase base) (database : Section) → fit.most ≤ most → Contains base.databases database
    → IsFitSection most database
fit_database base most fit database low at =
    section_longer fit.most most database low (All-contains (IsFitSection fit.most) base.databases database fit.each at)

fit_joined : (base : Base) (most : ℕ) (alone : Bool) (sections : List Section) → IsBase base → (fit : AreFitBase base) → fit.most ≤ most
    → All (IsFitSection most) sections → All (HasNoErrorsOnto base alone) sections
    → All (IsFitSection most) (map (joined_section base) sections)
fit_joined base most alone [] is fit low all none = All-nil (IsFitSection most)
fit_joined base most alone (section ∷ sections) is fit low all none =
    let here : HasNoErrorsOnto base alone section = All-head (HasNoErrorsOnto base alone) section sections none in
    All-cons (IsFitSection most) (joined_section base section) (map (joined_section base) sections)
    (behind_fits base most section fit.legal (All-head (IsFitSection most) section sections all) (partner_of base section) here.like
    (λ database found. fit_database base most fit database low (found_in (is_partner section) base.databases database found).0))
    (fit_joined base most alone sections is fit low (All-tail (IsFitSection most) section sections all)
    (All-tail (HasNoErrorsOnto base alone) section sections none))

some_joined : (base : Base) (sections : List Section) → (length sections == 0) ≡ false → (length (joined base sections) == 0) ≡ false
some_joined base [] some = absurd (cc some)
some_joined base (section ∷ sections) some = ne_eqb (length (joined base (section ∷ sections))) 0 (λ none. omega arith)

pub joined_are_loadable : JoinedAreLoadable
joined_are_loadable base sections loadable =
    let most : ℕ = loadable.fit.most + (base_fits base loadable.base_is).most in
    let least : All (IsFitSection most) sections =
    All-weaker (IsFitSection loadable.fit.most) (IsFitSection most)
    (λ section one. section_longer loadable.fit.most most section (omega arith) one) sections loadable.fit.fit.each in
    let first : All (IsFitSection most) (map (joined_section base) sections) =
    fit_joined base most (length sections == 1) sections loadable.base_is (base_fits base loadable.base_is) (omega arith) least loadable.none in
    let left : List Section = filter (is_left sections) base.databases in
    record {
      most = most;
      fit = record {
        some = some_joined base sections loadable.fit.fit.some;
        each =
            All-append (IsFitSection most) (map (joined_section base) sections) left first
            (all_of (IsFitSection most) left (λ database at.
            fit_database base most (base_fits base loadable.base_is) database (omega arith) (of_filter (is_left sections) base.databases database at).0));
        names = by_master base.master refl;
      };
    }
  where
    by_master : (b : Bool) → base.master ≡ b → AreNamedBehind [] (joined base sections)
    by_master true master = names_behind base sections loadable master
    by_master false no_master =
        let one : AreOne base sections = are_one base sections loadable no_master in
        subst (AreNamedBehind []) (sym one.joined_are) (refl, refl, tt)
