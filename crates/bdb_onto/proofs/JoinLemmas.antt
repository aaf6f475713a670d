-- The pairs of a section behind those of its partner are loaded as the section is loaded onto its partner.
use Rattle.std.proofs.Common.{◌≡◌, Bool, true, false, cond, List, [], ◌∷◌, ◌++◌, map, Option, Some, None, refl, ◌∙◌, ap, subst, Contains, filter, find, fold}
use Rattle.std.proofs.lemmas.List.{map-append}
use Rattle.std.proofs.lemmas.List.Sums.{fold-append}
use Rattle.bdb_format.specs.declared.settings.Settings.{Settings}
use Rattle.bdb_format.proofs.MemberLemmas.{first_member, later_member, of_filter}
use Rattle.bdb_mkfile.specs.of_text_format.declared.pairs.Pair.{Pair}
use Rattle.bdb_mkfile.specs.of_text_format.declared.pairs.TextPair.{TextPair}
use Rattle.bdb_mkfile.specs.of_text_format.declared.sections.Section.{Section}
use Rattle.bdb_mkfile.specs.of_settle.Loaded.{loaded_pair, loaded, loaded_section, unnumbered, with_loaded}
use Rattle.bdb_mkfile.specs.of_need.TreePages.{unlined_pairs}
use Rattle.bdb_onto.specs.declared.base.Base.{Base}
use Rattle.bdb_onto.specs.Bases.{IsBase}
use Rattle.bdb_onto.specs.Onto.{in_base, is_left, is_partner, joined, joined_section, loaded_from, loaded_onto, pairs_from, partner_of, result_of}
use Rattle.bdb_onto.specs.Onto.{settings_from, settings_onto}
use Rattle.bdb_onto.proofs.BaseLemmas.{IsOfBase, in_base_already, loads_again, of_base, settled_already}

-- pairs that are loaded as they are, and others behind them
pub loads_behind : (settings : Settings) (before after : List TextPair) → loaded settings before ≡ unlined_pairs before
    → loaded settings (before ++ after) ≡ loaded_from settings (unlined_pairs before) after
loads_behind settings before after kept =
    ap (fold (with_loaded settings) []) (map-append (loaded_pair settings) before after)
    ∙ fold-append (with_loaded settings) [] (map (loaded_pair settings) before) (map (loaded_pair settings) after)
    ∙ ap (λ list. fold (with_loaded settings) list (map (loaded_pair settings) after)) kept

-- what is found is in the list, and passes the test
pub found_in : {X : Type 0} (test : X → Bool) (xs : List X) (x : X) → find test xs ≡ Some x → Contains xs x × (test x ≡ true)
found_in test [] x is = absurd (cc is)
found_in {X} test (y ∷ ys) x is = by_test (test y) refl is (found_in test ys x)
  where
    by_test : (b : Bool) → test y ≡ b → cond b (Some y) (find test ys) ≡ Some x → (find test ys ≡ Some x → Contains ys x × (test x ≡ true))
        → Contains (y ∷ ys) x × (test x ≡ true)
    by_test true passes is later =
        let same : y ≡ x = cc is in (subst (Contains (y ∷ ys)) same (first_member y ys), subst (λ z. test z ≡ true) same passes)
    by_test false fails is later = let found = later is in (later_member y ys x found.0, found.1)

-- the pairs that a section starts from are loaded as they are
starts_from : (base : Base) (settings : Settings) (partner : Option Section) → ((database : Section) → partner ≡ Some database → IsOfBase base database)
    → loaded (in_base base (settings_from settings partner)) (pairs_from partner) ≡ unlined_pairs (pairs_from partner)
starts_from base settings None of = refl
starts_from base settings (Some partner) of =
    ap (λ s. loaded s partner.pairs) (in_base_already base partner (of partner refl)) ∙ loads_again base partner (of partner refl)

pub partner_of_base : (base : Base) (section database : Section) → IsBase base → partner_of base section ≡ Some database → IsOfBase base database
partner_of_base base section database is found =
    of_base base database is (found_in (is_partner section) base.databases database found).0

-- a joined section with its list is the section that is loaded onto its partner
pub joined_loads : (base : Base) (section : Section) → IsBase base → loaded_section (joined_section base section) ≡ loaded_onto base section
joined_loads base section is =
    let from : List TextPair = pairs_from (partner_of base section) in
    let settings : Settings = settings_onto base section in
    ap (λ (list : List Pair). record section { settings = settings; header_line = 0; pairs = map unnumbered list })
    (loads_behind settings from section.pairs
    (starts_from base section.settings (partner_of base section) (λ database found. partner_of_base base section database is found)))

all_joined : (base : Base) (sections : List Section) → IsBase base
    → map loaded_section (map (joined_section base) sections) ≡ map (loaded_onto base) sections
all_joined base [] is = refl
all_joined base (section ∷ sections) is =
    ap (λ (s : Section). s ∷ map loaded_section (map (joined_section base) sections)) (joined_loads base section is)
    ∙ ap (λ ss. loaded_onto base section ∷ ss) (all_joined base sections is)

pub same_all : {X : Type 0} (f : X → X) (xs : List X) → ((x : X) → Contains xs x → f x ≡ x) → map f xs ≡ xs
same_all f [] same = refl
same_all f (x ∷ xs) same =
    ap (λ y. y ∷ map f xs) (same x (first_member x xs)) ∙ ap (λ ys. x ∷ ys) (same_all f xs (λ y at. same y (later_member x xs y at)))

-- the joined sections with their lists are what loading onto the base gives
pub joined_result : (base : Base) (sections : List Section) → IsBase base → map loaded_section (joined base sections) ≡ result_of base sections
joined_result base sections is =
    let left : List Section = filter (is_left sections) base.databases in
    map-append loaded_section (map (joined_section base) sections) left
    ∙ ap (λ ss. ss ++ map loaded_section left) (all_joined base sections is)
    ∙ ap (λ ss. map (loaded_onto base) sections ++ ss)
    (same_all loaded_section left (λ database at.
    settled_already base database (of_base base database is (of_filter (is_left sections) base.databases database at).0)))
