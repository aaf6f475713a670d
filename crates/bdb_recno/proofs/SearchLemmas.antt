-- How the counts of internal pages lead to an entry.
use Rattle.std.proofs.Common.{◌≡◌, ℕ, zero, suc, ◌+◌, ◌-◌, ◌<◌, ◌≤◌, true, false, cond, List, [], ◌∷◌, ◌++◌, drop, length, map, Option, Some, None, arith, refl}
use Rattle.std.proofs.Common.{sym, ◌∙◌, ap, subst, inl, inr, nat_lt, slice_get}
use Rattle.std.specs.List.{Contains, flat_map, list_any}
use Rattle.std.proofs.lemmas.Bool.{eqb-true, le-ltb, lt-ltb, ltb-false, ltb-true, not-false, or_parts}
use Rattle.std.proofs.lemmas.List.{drop_more}
use Rattle.std.proofs.lemmas.Option.{get_or_from_slice_get, slice_get_within}
use Rattle.bdb_tree.specs.of_image.Linked.{IsForest}
use Rattle.bdb_tree.specs.of_format.declared.pages.RecnoItem.{RecnoItem}
use Rattle.bdb_tree.specs.of_format.Terms.{File, Item, Listed, RecnoInternal, RecnoLeaf, children_in, file_of, has_wrong_count, header_in, inner_pages}
use Rattle.bdb_tree.specs.of_format.Terms.{page_at, tree_entries}
use Rattle.bdb_tree.proofs.of_format.MemberLemmas.{first_member, later_member, of_map}
use Rattle.bdb_tree.proofs.InnerLemmas.{LeadDown, child_inner, itself_inner, leads_down}
use Rattle.bdb_tree.proofs.TreeLemmas.{tree_cases}
use Rattle.bdb_recno.specs.Counts.{HasRightCounts, child_by_count, miscounts}
use Rattle.bdb_recno.specs.Pages.{IsRecnoPage}
use Rattle.bdb_recno.proofs.PageLemmas.{child_of, child_recno, children_of, entries_below, entries_of_leaf, recno_tree}

-- The internal pages below a page.

down : (image : List ℕ) (p : ℕ) (page : Listed RecnoItem) → IsForest image → page_at (file_of image) p ≡ RecnoInternal page
    → LeadDown (λ (item : RecnoItem). item.child) (file_of image) p page.items
down image p page forest is = leads_down (λ (item : RecnoItem). item.child) image p page.items forest (ap children_in is)

pub child_counts : (image : List ℕ) (p c : ℕ) (page : Listed RecnoItem) → IsForest image → page_at (file_of image) p ≡ RecnoInternal page
    → Contains (children_of page) c → HasRightCounts (file_of image) p
    → HasRightCounts (file_of image) c
child_counts image p c page forest is at counts =
    let file : File = file_of image in
    let found = of_map (λ (item : RecnoItem). item.child) page.items c at in
    record {
      right = λ q there. counts.right q
          (child_inner (λ (item : RecnoItem). item.child) file p q page.items found.0 (down image p page forest is) found.1
          (subst (λ d. Contains (inner_pages file d) q) (sym found.2) there));
    }

pub some_level : (image : List ℕ) (p : ℕ) → IsForest image → IsRecnoPage (file_of image) p → 1 ≤ (header_in (page_at (file_of image) p)).level
some_level image p forest recno =
    elim (tree_cases image p forest (recno_tree (file_of image) p recno))
    [ inl inner ↦ omega (arith, inner.level) | inr leaf ↦ omega (arith, leaf.level) ]

-- the counts of a page's own items
pub own_counts : (image : List ℕ) (p : ℕ) (page : Listed RecnoItem) → IsForest image → page_at (file_of image) p ≡ RecnoInternal page
    → HasRightCounts (file_of image) p → list_any (miscounts (file_of image)) page.items ≡ false
own_counts image p page forest is counts =
    let file : File = file_of image in
    sym (ap (has_wrong_count file) is)
    ∙ counts.right p (itself_inner (λ (item : RecnoItem). item.child) file p page.items (down image p page forest is))

-- The entry at a place.

get_left : {X : Type 0} (xs ys : List X) (i : ℕ) → i < length xs → slice_get (xs ++ ys) i ≡ slice_get xs i
get_left [] ys i below = absurd (omega arith)
get_left (x ∷ xs) ys zero below = refl
get_left (x ∷ xs) ys (suc i) below = get_left xs ys i (omega arith)

get_right : {X : Type 0} (xs ys : List X) (i j : ℕ) → i ≡ length xs + j → slice_get (xs ++ ys) i ≡ slice_get ys j
get_right [] ys i j is = let same : i ≡ j = omega arith in ap (slice_get ys) same
get_right (x ∷ xs) ys zero j is = absurd (omega arith)
get_right (x ∷ xs) ys (suc i) j is = get_right xs ys i j (omega arith)

-- what child_by_count leads to
abbrev pub LeadsTo : File → List RecnoItem → ℕ → Option (ℕ × ℕ) → Type 0
LeadsTo file items place None = slice_get (flat_map (tree_entries file) (map (λ (item : RecnoItem). item.child) items)) place ≡ None
LeadsTo file items place (Some (child, below)) =
    Contains (map (λ (item : RecnoItem). item.child) items) child
    × (slice_get (flat_map (tree_entries file) (map (λ (item : RecnoItem). item.child) items)) place ≡ slice_get (tree_entries file child) below)

later_leads : (file : File) (item : RecnoItem) (items : List RecnoItem) (place : ℕ) (found : Option (ℕ × ℕ))
    → item.count ≡ length (tree_entries file item.child) → item.count ≤ place
    → LeadsTo file items (place - item.count) found → LeadsTo file (item ∷ items) place found
later_leads file item items place None count past leads = grind (arith, get_right)
later_leads file item items place (Some (child, below)) count past leads = grind (arith, later_member, get_right)

pub count_leads : (file : File) (items : List RecnoItem) (place : ℕ) → list_any (miscounts file) items ≡ false
    → LeadsTo file items place (child_by_count items place)
count_leads file [] place right = refl
count_leads file (item ∷ items) place right =
    let parts = or_parts (miscounts file item) (list_any (miscounts file) items) right in
    let count : item.count ≡ length (tree_entries file item.child) =
    eqb-true item.count (length (tree_entries file item.child)) (not-false _ parts.0) in
    elim (nat_lt place item.count) as (λ b. nat_lt place item.count ≡ b
    → LeadsTo file (item ∷ items) place (cond b (Some (item.child, place)) (child_by_count items (place - item.count)))) [
      | true ↦ λ less.
          let below : place < item.count = ltb-true place item.count less in (
            first_member item.child (map (λ (it : RecnoItem). it.child) items),
            get_left (tree_entries file item.child) (flat_map (tree_entries file) (map (λ (it : RecnoItem). it.child) items)) place (omega arith),
          )
      | false ↦ λ more. later_leads file item items place (child_by_count items (place - item.count)) count (ltb-false place item.count more)
          (count_leads file items (place - item.count) parts.1)
    ] refl

-- The loop over the items.

drop_at : (its : List RecnoItem) (k : ℕ) (it : RecnoItem) → slice_get its k ≡ Some it → drop k its ≡ it ∷ drop (k + 1) its
drop_at its k it there =
    drop_more its k it (slice_get_within its k it there) ∙ ap (λ x. x ∷ drop (k + 1) its) (get_or_from_slice_get its k it it there)

pub count_here : (items : List RecnoItem) (i place left : ℕ) (item : RecnoItem) → slice_get items i ≡ Some item
    → child_by_count (drop i items) left ≡ child_by_count items place → left < item.count
    → Some (item.child, left) ≡ child_by_count items place
count_here items i place left item at same below = grind (arith, Some, lt-ltb, drop_at)

pub count_later : (items : List RecnoItem) (i place left : ℕ) (item : RecnoItem) → slice_get items i ≡ Some item
    → child_by_count (drop i items) left ≡ child_by_count items place → item.count ≤ left
    → child_by_count (drop (i + 1) items) (left - item.count) ≡ child_by_count items place
count_later items i place left item at same past =
    sym (ap (λ b. cond b (Some (item.child, left)) (child_by_count (drop (i + 1) items) (left - item.count))) (le-ltb left item.count past))
    ∙ (ap (λ its. child_by_count its left) (sym (drop_at items i item at)) ∙ same)

-- The way down.

-- a page on the way to an entry, and the place of the entry below it
pub record IsOnTheWay (file : File) (root place page left : ℕ) : Type 0 where
  pub recno : IsRecnoPage file page
  pub counts : HasRightCounts file page
  pub same : slice_get (tree_entries file page) left ≡ slice_get (tree_entries file root) place

-- what the items of a page on the way lead to
way_leads : (image : List ℕ) (root place page left : ℕ) (inner : Listed RecnoItem) (found : Option (ℕ × ℕ)) → IsForest image
    → IsOnTheWay (file_of image) root place page left → RecnoInternal inner ≡ page_at (file_of image) page
    → found ≡ child_by_count inner.items left → LeadsTo (file_of image) inner.items left found
way_leads image root place page left inner found forest way is same = grind (arith, count_leads, own_counts)

-- the child is on the way too, and a level below
pub way_down : (image : List ℕ) (root place page left child below : ℕ) (inner : Listed RecnoItem) → IsForest image
    → IsOnTheWay (file_of image) root place page left → RecnoInternal inner ≡ page_at (file_of image) page
    → Some (child, below) ≡ child_by_count inner.items left → IsOnTheWay (file_of image) root place child below
    × ((header_in (page_at (file_of image) child)).level + 1 ≡ (header_in (page_at (file_of image) page)).level)
way_down image root place page left child below inner forest way is found =
    let leads = way_leads image root place page left inner (Some (child, below)) forest way is found in (
      record {
        recno = child_recno image page inner child forest (sym is) leads.0;
        counts = child_counts image page child inner forest (sym is) leads.0 way.counts;
        same = sym leads.1 ∙ (ap (λ entries. slice_get entries left) (sym (entries_below image page inner forest (sym is))) ∙ way.same);
      },
      (child_of image page inner child forest (sym is) leads.0).level,
    )

-- no child has the entry
pub way_ends : (image : List ℕ) (root place page left : ℕ) (inner : Listed RecnoItem) → IsForest image
    → IsOnTheWay (file_of image) root place page left → RecnoInternal inner ≡ page_at (file_of image) page
    → None ≡ child_by_count inner.items left → None ≡ slice_get (tree_entries (file_of image) root) place
way_ends image root place page left inner forest way is found =
    sym (way_leads image root place page left inner None forest way is found)
    ∙ (ap (λ entries. slice_get entries left) (sym (entries_below image page inner forest (sym is))) ∙ way.same)

-- the leaf that has the entry
pub way_leaf : (image : List ℕ) (root place page left : ℕ) (leaf : Listed Item) (found : Option Item) → IsForest image
    → IsOnTheWay (file_of image) root place page left → RecnoLeaf leaf ≡ page_at (file_of image) page
    → found ≡ slice_get leaf.items left → found ≡ slice_get (tree_entries (file_of image) root) place
way_leaf image root place page left leaf found forest way is at =
    at ∙ (ap (λ entries. slice_get entries left) (sym (entries_of_leaf image page leaf forest (sym is))) ∙ way.same)
