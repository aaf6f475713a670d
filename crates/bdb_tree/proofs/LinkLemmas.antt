-- Where no row of stage 6 holds, a walk by next pages from a leaf of a tree gives that leaf and those after it.
use Rattle.std.proofs.Common.{◌≡◌, ◌⊎◌, ℕ, zero, suc, ◌<◌, ◌≤◌, true, false, List, [], ◌∷◌, ◌++◌, length, arith, refl, sym, ◌∙◌, ap, subst, inl, inr}
use Rattle.std.proofs.Common.{append_assoc, length-append, ◌==◌, Some, Contains, slice_get}
use Rattle.std.proofs.lemmas.Bool.{and_parts, eqb-true, ne_eqb, not-false}
use Rattle.std.proofs.lemmas.List.Elements.{Contains-append_right}
use Rattle.bdb_overflow.specs.of_format.declared.metadata.Head.{Head}
use Rattle.bdb_overflow.specs.of_format.declared.references.Sort.{Sort}
use Rattle.bdb_overflow.specs.of_format.declared.references.Sort.TheVariants.{DuplicateRoot, Root}
use Rattle.bdb_overflow.specs.of_format.Terms.{File, LeafPlace, chain, chain_in, file_of, first_or_zero, head_of, header_in, is_root_reference, leaf_places}
use Rattle.bdb_overflow.specs.of_format.Terms.{leaves, next_of, page_at, places_from, structure_faults}
use Rattle.bdb_overflow.proofs.of_format.MemberLemmas.{first_member, later_member, member_cases, no_member}
use Rattle.bdb_overflow.specs.of_image.Linked.{FitsLeafPage, IsForest, IsTarget}
use Rattle.bdb_overflow.proofs.of_image.FirstLemmas.{formed_last}
use Rattle.bdb_overflow.proofs.of_graph.LeavesLemmas.{no_leaf_twice}
use Rattle.bdb_overflow.proofs.of_graph.ReachLemmas.{AllUpTo, few_distinct}
use Rattle.bdb_tree.specs.Links.{IsLeafWalk, pages_from}
use Rattle.bdb_tree.specs.Trees.{IsRoot, IsTreePage}
use Rattle.bdb_tree.proofs.BelongLemmas.{Belongs, belongs, leaf_above}
use Rattle.bdb_tree.proofs.TreeLemmas.{leaf_fits, leaf_inside, leaf_low, link_is_right, place_of_root, root_is_tree, tree_inside}
use Rattle.bdb_overflow.proofs.of_format.ChainLemmas.{chain_few}
use Rattle.bdb_overflow.proofs.of_format.FileLemmas.{count_is, last_page}

-- Next pages.

-- the place of a leaf between those before it and those after it
record HasPlace (places : List LeafPlace) (p next : ℕ) : Type 0 where
  place : LeafPlace
  at : Contains places place
  leaf : place.leaf ≡ p
  after : place.after ≡ next

place_between : (sort : Sort) (from : ℕ) (before : List ℕ) (p : ℕ) (after : List ℕ)
    → HasPlace (places_from sort from (before ++ (p ∷ after))) p (first_or_zero after)
place_between sort from [] p after = record { place = _; at = first_member _ (places_from sort p after); leaf = refl; after = refl }
place_between sort from (q ∷ before) p after = grind (arith, later_member, place_between sort q before p after)

-- a place of a leaf of a tree
root_place : (file : File) (root p next : ℕ) → IsRoot file root → ((sort : Sort) → HasPlace (places_from sort 0 (leaves file root)) p next)
    → HasPlace (leaf_places file) p next
root_place file root p next is has =
    elim is [
      | inl tree ↦ of Root refl tree
      | inr set ↦ of DuplicateRoot refl set
    ]
  where
    of : (sort : Sort) → is_root_reference sort ≡ true → IsTarget file sort root → HasPlace (leaf_places file) p next
    of sort kind target =
        let place : HasPlace (places_from sort 0 (leaves file root)) p next = has sort in
        record { place = place.place; at = place_of_root file sort root place.place kind target place.at; leaf = place.leaf; after = place.after }

-- a leaf of a tree that stands before these leaves, and after others
record StandsAt (file : File) (root : ℕ) (p : ℕ) (after : List ℕ) : Type 0 where
  is : IsRoot file root
  before : List ℕ
  leaves_are : leaves file root ≡ before ++ (p ∷ after)

member_of : (file : File) (root p : ℕ) (after : List ℕ) → StandsAt file root p after → Contains (leaves file root) p
member_of file root p after stands =
    subst (λ xs. Contains xs p) (sym stands.leaves_are) (Contains-append_right stands.before (p ∷ after) p (first_member p after))

-- the next page of a leaf is the leaf after it, 0 at the end
next_is : (image : List ℕ) (root p : ℕ) (after : List ℕ) → IsForest image → structure_faults (file_of image) ≡ []
    → StandsAt (file_of image) root p after → next_of (file_of image) p ≡ first_or_zero after
next_is image root p after forest none stands =
    let file : File = file_of image in
    let has : HasPlace (leaf_places file) p (first_or_zero after) =
    root_place file root p (first_or_zero after) stands.is (λ sort.
    subst (λ xs. HasPlace (places_from sort 0 xs) p (first_or_zero after)) (sym stands.leaves_are) (place_between sort 0 stands.before p after)) in
    let low : p ≤ file.last = leaf_low image root p forest (root_is_tree image root forest stands.is) (member_of file root p after stands) in
    let right = link_is_right file has.place none (omega (arith, has.leaf)) has.at in
    let links = and_parts ((header_in (page_at file has.place.leaf)).previous == has.place.before) _ (not-false _ right) in
    ap (next_of file) (sym has.leaf) ∙ (eqb-true (next_of file has.place.leaf) has.place.after links.1 ∙ has.after)

-- the leaf after it stands there too
next_stands : (file : File) (root p q : ℕ) (qs : List ℕ) → StandsAt file root p (q ∷ qs) → StandsAt file root q qs
next_stands file root p q qs stands =
    record { is = stands.is; before = stands.before ++ (p ∷ []); leaves_are = stands.leaves_are ∙ sym (append_assoc stands.before (p ∷ []) (q ∷ qs)) }

-- each leaf of a tree is a leaf page, and isn't page 0
stands_fits : (image : List ℕ) (root p : ℕ) (after : List ℕ) → IsForest image → StandsAt (file_of image) root p after → FitsLeafPage (file_of image) p
stands_fits image root p after forest stands =
    leaf_fits image root p forest (root_is_tree image root forest stands.is) (member_of (file_of image) root p after stands)

stands_above : (image : List ℕ) (root p : ℕ) (after : List ℕ) → IsForest image → StandsAt (file_of image) root p after → (p == 0) ≡ false
stands_above image root p after forest stands =
    let above : 1 ≤ p = leaf_above image p forest (stands_fits image root p after forest stands) in
    ne_eqb p 0 (λ none. omega arith)

-- The walk.

one_turn : (turns : ℕ) (file : File) (p q : ℕ) → next_of file p ≡ q
    → chain_in (suc turns) file p ≡ p ∷ elim (q == 0) [ true ↦ [] | false ↦ chain_in turns file q ]
unfolding chain_in
one_turn turns file p q next = ap (λ n. p ∷ elim (n == 0) [ true ↦ [] | false ↦ chain_in turns file n ]) next

-- with a turn for each leaf, next pages give them all
follows : (turns : ℕ) (image : List ℕ) (root p : ℕ) (after : List ℕ) → IsForest image → structure_faults (file_of image) ≡ []
    → StandsAt (file_of image) root p after → length after < turns
    → chain_in turns (file_of image) p ≡ p ∷ after
follows zero image root p after forest none stands few = absurd (omega arith)
follows (suc turns) image root p [] forest none stands few = one_turn turns (file_of image) p 0 (next_is image root p [] forest none stands)
follows (suc turns) image root p (q ∷ qs) forest none stands few =
    let next : StandsAt (file_of image) root q qs = next_stands (file_of image) root p q qs stands in
    one_turn turns (file_of image) p q (next_is image root p (q ∷ qs) forest none stands)
    ∙ (ap (λ b. p ∷ elim b [ true ↦ [] | false ↦ chain_in turns (file_of image) q ]) (stands_above image root q qs forest next)
    ∙ ap (λ xs. p ∷ xs) (follows turns image root q qs forest none next (omega arith)))

-- How many leaves there are.

up_to : (n : ℕ) (xs : List ℕ) → ((x : ℕ) → Contains xs x → x ≤ n) → AllUpTo n xs
up_to n [] each = tt
up_to n (x ∷ xs) each = (each x (first_member x xs), up_to n xs (λ y at. each y (later_member x xs y at)))

-- the leaves of a tree are no more than the pages
pub few_leaves : (image : List ℕ) (root : ℕ) → IsForest image → IsRoot (file_of image) root
    → length (leaves (file_of image) root) ≤ (file_of image).count
few_leaves image root forest is =
    let file : File = file_of image in
    let tree : IsTreePage file root = root_is_tree image root forest is in
    let distinct = no_leaf_twice image (header_in (page_at file root)).level root forest (tree_inside image root tree) in
    let few = few_distinct file.last (leaves file root) distinct (up_to file.last _ (λ q at. leaf_low image root q forest tree at)) in
    omega (arith, few, last_page image, formed_last image (head_of image) forest.formed, count_is image)

-- a walk from a leaf of a tree gives the leaves from there on
walked : (image : List ℕ) (root p : ℕ) (after : List ℕ) → IsForest image → structure_faults (file_of image) ≡ []
    → StandsAt (file_of image) root p after → pages_from (file_of image) p ≡ p ∷ after
unfolding pages_from
walked image root p after forest none stands =
    let file : File = file_of image in
    ap (λ b. elim b [ true ↦ [] | false ↦ chain file p ]) (stands_above image root p after forest stands)
    ∙ follows file.count image root p after forest none stands
    (omega (arith, few_leaves image root forest stands.is, ap length stands.leaves_are, length-append stands.before (p ∷ after)))

pub pages_of_tree : (image : List ℕ) (first root : ℕ) (before after : List ℕ) → IsForest image → structure_faults (file_of image) ≡ []
    → IsRoot (file_of image) root
    → leaves (file_of image) root ≡ before ++ (first ∷ after) → pages_from (file_of image) first ≡ first ∷ after
pages_of_tree image first root before after forest none is same =
    walked image root first after forest none (record { is = is; before = before; leaves_are = same })

-- and from the first leaf all of them
pub all_pages : (image : List ℕ) (root first : ℕ) → IsForest image → structure_faults (file_of image) ≡ [] → IsRoot (file_of image) root
    → slice_get (leaves (file_of image) root) 0 ≡ Some first
    → pages_from (file_of image) first ≡ leaves (file_of image) root
all_pages image root first forest none is at =
    let parts = begins (leaves (file_of image) root) at in
    pages_of_tree image first root [] parts.0 forest none is parts.1 ∙ sym parts.1
  where
    begins : (xs : List ℕ) → slice_get xs 0 ≡ Some first → (rest : List ℕ) × (xs ≡ first ∷ rest)
    begins [] same = absurd cc
    begins (x ∷ xs) same = (xs, let here : x ≡ first = cc in ap (λ y. y ∷ xs) here)

-- a walk gives no more pages than there are
pub pages_few : (file : File) (p : ℕ) → length (pages_from file p) ≤ file.count
unfolding pages_from
pages_few file p = grind (arith, chain_few)

-- A step.

pub no_pages : (file : File) → pages_from file 0 ≡ []
unfolding pages_from
no_pages file = refl

parted : (xs : List ℕ) (x : ℕ) → Contains xs x → (before : List ℕ) × (after : List ℕ) × (xs ≡ before ++ (x ∷ after))
parted [] x at = absurd (no_member [] x refl at)
parted (y ∷ xs) x at =
    elim (member_cases y xs x at) [
      | inl here ↦ ([], xs, ap (λ z. z ∷ xs) here)
      | inr later ↦ let rest = parted xs x later in (y ∷ rest.0, rest.1, ap (λ zs. y ∷ zs) rest.2)
    ]

-- what comes after a leaf: nothing, or a leaf with those after it
record IsStep (image : List ℕ) (p next : ℕ) : Type 0 where
  first : pages_from (file_of image) p ≡ p ∷ pages_from (file_of image) next
  at : (next ≡ 0) ⊎ FitsLeafPage (file_of image) next

step_of : (image : List ℕ) (root p : ℕ) (after : List ℕ) → IsForest image → structure_faults (file_of image) ≡ []
    → StandsAt (file_of image) root p after → IsStep image p (first_or_zero after)
step_of image root p [] forest none stands =
    record { first = walked image root p [] forest none stands ∙ ap (λ xs. p ∷ xs) (sym (no_pages (file_of image))); at = inl refl }
step_of image root p (q ∷ qs) forest none stands =
    let next : StandsAt (file_of image) root q qs = next_stands (file_of image) root p q qs stands in
    record {
      first = walked image root p (q ∷ qs) forest none stands ∙ ap (λ xs. p ∷ xs) (sym (walked image root q qs forest none next));
      at = inr (stands_fits image root q qs forest next);
    }

leaf_step : (image : List ℕ) (p : ℕ) → IsForest image → structure_faults (file_of image) ≡ [] → FitsLeafPage (file_of image) p
    → IsStep image p (next_of (file_of image) p)
leaf_step image p forest none leaf =
    let file : File = file_of image in
    let belongs_to : Belongs file p = belongs image p forest leaf in
    let parts = parted (leaves file belongs_to.root) p belongs_to.at in
    let stands : StandsAt file belongs_to.root p parts.1 = record { is = belongs_to.is; before = parts.0; leaves_are = parts.2 } in
    subst (IsStep image p) (sym (next_is image belongs_to.root p parts.1 forest none stands))
    (step_of image belongs_to.root p parts.1 forest none stands)

-- a walk stands at a leaf, unless it's at its end
pub at_leaf : (image : List ℕ) (p : ℕ) → IsLeafWalk image p → (p ≡ 0 → ⊥) → FitsLeafPage (file_of image) p
at_leaf image p walk some = elim walk.at [ inl none ↦ absurd (some none) | inr leaf ↦ leaf ]

-- the first page of a walk is the leaf at which it stands
pub gives_first : (image : List ℕ) (p : ℕ) → IsLeafWalk image p → (p ≡ 0 → ⊥)
    → pages_from (file_of image) p ≡ p ∷ pages_from (file_of image) (next_of (file_of image) p)
gives_first image p walk some = (leaf_step image p walk.forest walk.stage (at_leaf image p walk some)).first

-- and it goes on at that leaf's next page
pub goes_on : (image : List ℕ) (p : ℕ) → IsLeafWalk image p → (p ≡ 0 → ⊥) → IsLeafWalk image (next_of (file_of image) p)
goes_on image p walk some =
    record { forest = walk.forest; stage = walk.stage; at = (leaf_step image p walk.forest walk.stage (at_leaf image p walk some)).at }

-- what a step of a walk is proved by
pub ruleset walk_steps = (at_leaf, gives_first, goes_on, no_pages)

-- The pages that are looked at are there.

pub leaf_within : (image : List ℕ) (head : Head) (p : ℕ) → head ≡ head_of image → FitsLeafPage (file_of image) p → p ≤ head.last
leaf_within image head p same leaf = omega (arith, leaf_inside image p leaf, last_page image, ap (λ (h : Head). h.last) same)

pub root_within : (image : List ℕ) (head : Head) (p : ℕ) → head ≡ head_of image → IsForest image → IsRoot (file_of image) p → p ≤ head.last
root_within image head p same forest root =
    omega (arith, tree_inside image p (root_is_tree image p forest root), last_page image, ap (λ (h : Head). h.last) same)
