-- What is given page by page is loaded into the list of the leaves.
use Rattle.std.proofs.Common.{◌≡◌, ◌≢◌, ℕ, ◌<◌, Bool, true, false, List, [], ◌∷◌, map, arith, refl, sym, ◌∙◌, ap, subst, inl, inr, true≢false}
use Rattle.std.proofs.Common.{Contains, fold}
use Rattle.std.specs.Prelude.{◌==◌, not, length}
use Rattle.std.specs.List.{filter, flat_map, list_any}
use Rattle.std.proofs.lemmas.Bool.{eq-eqb, ne_eqb}
use Rattle.bdb_apart.specs.of_format.declared.settings.Settings.{Settings}
use Rattle.bdb_law_homes.proofs.of_format.ListLemmas.{passes_here}
use Rattle.bdb_law_homes.proofs.of_format.MemberLemmas.{first_member, in_filter, in_flat_map, member_cases, no_member, of_filter, of_flat_map}
use Rattle.bdb_law_kept.specs.of_text_format.declared.pairs.TextPair.{TextPair}
use Rattle.bdb_law_kept.specs.of_text_format.Terms.{listed}
use Rattle.bdb_law_kept.specs.of_settle.Loaded.{loaded, with_loaded}
use Rattle.bdb_law_kept.proofs.of_settle.KeyOrderLemmas.{key_less_self}
use Rattle.bdb_law_kept.specs.of_text.WrittenLaw.{pair_in}
use Rattle.bdb_law_kept.specs.Kept.{LoadsAlike}
use Rattle.bdb_law_kept.specs.Later.{AllLater}
use Rattle.bdb_law_kept.proofs.AlikeLemmas.{length_alike, order_alike}
use Rattle.bdb_law_kept.proofs.KeyedLemmas.{later_first}
use Rattle.bdb_law_kept.proofs.LaterLemmas.{later_filter, later_other}
use Rattle.bdb_law_kept.proofs.NumberedLemmas.{IsKeptList}
use Rattle.bdb_law_kept.proofs.SettledLemmas.{HasItsLength, all_listed, all_unfilled, key_out, pair_out}
use Rattle.bdb_law_apart.proofs.ApartLemmas.{later_last}
use Rattle.bdb_law_apart.proofs.BlockLemmas.{Entry, IsBelow, IsOther, blocks_load, drop_empty}

-- Parts of an ordered list.

pub part_ordered : {X Y : Type 0} (R : Y → Y → Type 0) (f : X → List Y) (xs : List X) (x : X) → AllLater R (flat_map f xs) → Contains xs x → AllLater R (f x)
part_ordered R f [] x all at = absurd (no_member [] x refl at)
part_ordered R f (y ∷ ys) x all at = elim (member_cases y ys x at) [
  | inl same ↦ subst (λ z. AllLater R (f z)) same (later_first R (f y) (flat_map f ys) all)
  | inr later ↦ part_ordered R f ys x (later_last R (f y) (flat_map f ys) all) later
]

-- Any blocks.

-- pairs that are given as blocks, in any order, are loaded into the list of the blocks
pub given_loads : {X : Type 0} (settings others : Settings) (same : X → X → Bool) (f : X → List Entry) (xs bs : List X) (pairs : List TextPair)
    → map pair_in pairs ≡ flat_map f bs → LoadsAlike settings others → IsKeptList others (flat_map f xs) → ((b : X) → Contains bs b → Contains xs b)
    → ((x : X) → Contains xs x → list_any (λ b. same b x) bs ≡ false → f x ≡ []) → AllLater (λ a b. same a b ≡ false) bs → AllLater (IsBelow f) xs
    → AllLater (IsOther same) xs → ((x : X) → same x x ≡ true) → listed (loaded settings pairs) ≡ flat_map f xs
given_loads settings others same f xs bs pairs are alike kept inside all apart below differ itself =
    let long : (pair : Entry) → Contains (map pair_in pairs) pair → HasItsLength settings pair =
    λ pair at.
    let block = of_flat_map f bs pair (subst (λ l. Contains l pair) are at) in
    length_alike settings others pair alike (kept.long pair (in_flat_map f xs block.0 pair (inside block.0 block.1) block.2)) in
    ap (λ list. listed (fold (with_loaded settings) [] list)) (all_unfilled settings pairs long ∙ ap (map pair_out) are)
    ∙ (ap listed
    (blocks_load settings same f xs bs inside all apart below differ itself
    (λ x at. part_ordered _ f xs x (order_alike settings others (flat_map f xs) alike kept.ordered) at))
    ∙ all_listed (flat_map f xs))

-- Pages.

abbrev has_some : (ℕ → List Entry) → ℕ → Bool
has_some f p = not (length (f p) == 0)

some_of : (f : ℕ → List Entry) (p : ℕ) → has_some f p ≡ true → f p ≢ []
some_of f p some none = true≢false (sym some ∙ ap (λ (list : List Entry). not (length list == 0)) none)

none_of : (f : ℕ → List Entry) (p : ℕ) → has_some f p ≡ false → f p ≡ []
none_of f p none = by_list (f p) none
  where
    by_list : (list : List Entry) → not (length list == 0) ≡ false → list ≡ []
    by_list [] none = refl
    by_list (entry ∷ list) none =
        let other : (length (entry ∷ list) == 0) ≡ false = ne_eqb (length (entry ∷ list)) 0 (λ same. omega (arith, same)) in
        absurd (true≢false (sym (ap not other) ∙ none))

is_some_of : (f : ℕ → List Entry) (p : ℕ) → f p ≢ [] → has_some f p ≡ true
is_some_of f p some = by_test (has_some f p) refl
  where
    by_test : (b : Bool) → has_some f p ≡ b → b ≡ true
    by_test true is = refl
    by_test false is = absurd (some (none_of f p is))

-- the pages that give something are those leaves of which a list comes
pub record AreLeaves (f : ℕ → List Entry) (leaves pages : List ℕ) : Type 0 where
  pub all : (p : ℕ) → Contains leaves p → f p ≢ [] → Contains pages p
  pub only : (p : ℕ) → Contains pages p → f p ≢ [] → Contains leaves p
  pub rise : AllLater (λ (p q : ℕ). p < q) pages
  pub below : AllLater (IsBelow f) leaves

apart_of : (f : ℕ → List Entry) (p q : ℕ) → has_some f p ≡ true → IsBelow f p q → p ≢ q
apart_of f p q some below same = by_list (f p) refl (some_of f p some)
  where
    by_list : (list : List Entry) → f p ≡ list → f p ≢ [] → ⊥
    by_list [] none some = some none
    by_list (entry ∷ list) is some =
        let here : Contains (f p) entry = subst (λ l. Contains l entry) (sym is) (first_member entry list) in
        let there : Contains (f q) entry = subst (λ n. Contains (f n) entry) same here in
        true≢false (sym (below entry entry here there) ∙ key_less_self (key_out entry.0))

-- what is given on pages is loaded into the list of the leaves
pub pages_load : (settings others : Settings) (f : ℕ → List Entry) (leaves pages : List ℕ) (pairs : List TextPair) → map pair_in pairs ≡ flat_map f pages
    → LoadsAlike settings others → IsKeptList others (flat_map f leaves) → AreLeaves f leaves pages → listed (loaded settings pairs) ≡ flat_map f leaves
pages_load settings others f leaves pages pairs are alike kept of =
    let some : ℕ → Bool = has_some f in
    let xs : List ℕ = filter some leaves in
    let bs : List ℕ = filter some pages in
    let given : flat_map f bs ≡ flat_map f pages = drop_empty f some pages (λ p at none. none_of f p none) in
    let list : flat_map f xs ≡ flat_map f leaves = drop_empty f some leaves (λ p at none. none_of f p none) in
    let below : AllLater (IsBelow f) xs = later_filter (IsBelow f) some leaves of.below in
    given_loads settings others (λ p q. p == q) f xs bs pairs (are ∙ sym given) alike (subst (IsKeptList others) (sym list) kept)
    (λ p at.
    let page = of_filter some pages p at in
    in_filter some leaves p (of.only p page.0 (some_of f p page.1)) page.1)
    (λ p at none.
    let leaf = of_filter some leaves p at in
    absurd
    (true≢false
    (sym (passes_here (λ q. q == p) bs p (in_filter some pages p (of.all p leaf.0 (some_of f p leaf.1)) leaf.1) (eq-eqb p p refl)) ∙ none)))
    (later_other (λ (p q : ℕ). p < q) (λ p q. (p == q) ≡ false) bs (λ p q at_p at_q less. ne_eqb p q (λ same. omega (arith, less, same)))
    (later_filter (λ (p q : ℕ). p < q) some pages of.rise))
    below
    (later_other (IsBelow f) (IsOther (λ p q. p == q)) xs (λ p q at_p at_q low.
    let other : p ≢ q = apart_of f p q (of_filter some leaves p at_p).1 low in
    (ne_eqb p q other, ne_eqb q p (λ same. other (sym same)))) below)
    (λ p. eq-eqb p p refl)
    ∙ list
