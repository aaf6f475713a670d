-- Search by halves on an internal page, and the way from a page down to the child that is chosen.
use Rattle.std.proofs.Common.{◌≡◌, ℕ, zero, suc, ◌+◌, ◌-◌, ◌<◌, ◌≤◌, Bool, true, false, cond, List, [], ◌∷◌, length, map, get_or, arith, refl, sym, ◌∙◌, ap}
use Rattle.std.proofs.Common.{subst, inl, inr, Some, not, slice_get, is_some, unwrap_or}
use Rattle.std.specs.List.{Contains, filter, flat_map, last_or}
use Rattle.std.proofs.lemmas.Option.{get_or_from_slice_get}
use Rattle.std.proofs.lemmas.List.Elements.{Contains-append_cases, Contains-append_left, Contains-append_right}
use Rattle.bdb_overflow.specs.of_image.Linked.{IsForest}
use Rattle.bdb_overflow.specs.of_slots.Slots.{no_internal_item}
use Rattle.bdb_overflow.specs.of_format.Terms.{File, Internal, InternalItem, Listed, children_in, file_of, has_type, header_in, inner_in, inner_pages, page_at}
use Rattle.bdb_overflow.specs.of_format.Terms.{type_in}
use Rattle.bdb_overflow.proofs.of_format.ListLemmas.{only_member}
use Rattle.bdb_overflow.proofs.of_format.MemberLemmas.{first_member, in_filter, in_flat_map, of_filter, of_flat_map}
use Rattle.bdb_tree.specs.Trees.{children_at}
use Rattle.bdb_tree.proofs.ShapeLemmas.{IsFormedPage, formed_at}
use Rattle.bdb_tree.proofs.TreeLemmas.{IsChild, level, typed_inside}
use Rattle.bdb_tree.specs.Descent.{IsLastFalse, IsMonotone, chosen}

-- The item that is chosen.

-- no later item is kept
all_true : (test : InternalItem → Bool) (first : InternalItem) (items : List InternalItem)
    → ((j : ℕ) → j < length items → test (get_or items j no_internal_item) ≡ true)
    → last_or (Some first) (filter (λ item. not (test item)) items) ≡ Some first
all_true test first [] later = refl
all_true test first (item ∷ items) later = rw (later 0 (omega arith)) (all_true test first items (λ j low. later (suc j) (omega arith)))

last_kept : (test : InternalItem → Bool) (first : InternalItem) (items : List InternalItem) (i : ℕ) → i < length items
    → test (get_or items i no_internal_item) ≡ false
    → ((j : ℕ) → i < j → j < length items → test (get_or items j no_internal_item) ≡ true)
    → last_or (Some first) (filter (λ item. not (test item)) items) ≡ Some (get_or items i no_internal_item)
last_kept test first [] i inside is_false later = absurd (omega arith)
last_kept test first (item ∷ items) zero inside is_false later =
    rw is_false (all_true test item items (λ j low. later (suc j) (omega arith) (omega arith)))
last_kept test first (item ∷ items) (suc i) inside is_false later =
    let rest : List InternalItem = filter (λ other. not (test other)) items in
    elim (test item) as (λ b. last_or (Some first) (cond (not b) (item ∷ rest) rest) ≡ Some (get_or items i no_internal_item)) [
      | true ↦ last_kept test first items i (omega arith) is_false (λ j above low. later (suc j) (omega arith) (omega arith))
      | false ↦ last_kept test item items i (omega arith) is_false (λ j above low. later (suc j) (omega arith) (omega arith))
    ]

-- the last item for which the test is false is the one whose child is chosen
pub chosen_is : (test : InternalItem → Bool) (items : List InternalItem) (i : ℕ) → IsLastFalse test items i
    → chosen test items ≡ (get_or items i no_internal_item).child
chosen_is test [] i is = absurd (omega (arith, is.inside))
chosen_is test (item ∷ items) zero is =
    ap (λ found. (unwrap_or found no_internal_item).child) (all_true test item items (λ j low. is.later (suc j) (omega arith) (omega arith)))
chosen_is test (item ∷ items) (suc i) is =
    ap (λ found. (unwrap_or found no_internal_item).child)
    (last_kept test item items i (omega (arith, is.inside)) (is.is_false (omega arith)) (λ j above low. is.later (suc j) (omega arith) (omega arith)))

pub chosen_item : (test : InternalItem → Bool) (items : List InternalItem) (i : ℕ) (item : InternalItem) → IsLastFalse test items i
    → slice_get items i ≡ Some item → item.child ≡ chosen test items
chosen_item test items i item is at =
    ap (λ (x : InternalItem). x.child) (sym (get_or_from_slice_get items i item no_internal_item at)) ∙ sym (chosen_is test items i is)

-- Search by halves.

-- the last item for which the test is false is at low or between low and high
pub record IsBetween (test : InternalItem → Bool) (items : List InternalItem) (low high : ℕ) : Type 0 where
  pub some : low < high
  pub inside : high ≤ length items
  pub low_false : 1 ≤ low → test (get_or items low no_internal_item) ≡ false
  pub high_true : high < length items → test (get_or items high no_internal_item) ≡ true

-- The internal pages of a tree.

inner_more : (levels : ℕ) (file : File) (ps qs : List ℕ) → ((x : ℕ) → Contains ps x → Contains qs x) → (x : ℕ) → Contains (inner_in levels file ps) x
    → Contains (inner_in levels file qs) x
inner_more zero file ps qs more x at = at
inner_more (suc levels) file ps qs more x at =
    let test : ℕ → Bool = λ p. is_some (children_in (page_at file p)) in
    elim (Contains-append_cases (filter test ps) _ x at) [
      | inl here ↦
          let passed = of_filter test ps x here in
          Contains-append_left (filter test qs) _ x (in_filter test qs x (more x passed.0) passed.1)
      | inr later ↦
          Contains-append_right (filter test qs) _ x
          (inner_more levels file (flat_map (children_at file) ps) (flat_map (children_at file) qs)
          (λ y below.
          let found = of_flat_map (children_at file) ps y below in
          in_flat_map (children_at file) qs found.0 y (more found.0 found.1) found.2) x later)
    ]

inner_here : (levels : ℕ) (file : File) (p : ℕ) (page : Listed InternalItem) → 1 ≤ levels → page_at file p ≡ Internal page
    → Contains (inner_in levels file (p ∷ [])) p
inner_here zero file p page some is = absurd (omega arith)
inner_here (suc levels) file p page some is = grind (arith, Contains-append_left, in_filter, first_member)

inner_below : (levels : ℕ) (file : File) (p child q : ℕ) → Contains (children_at file p) child → Contains (inner_in levels file (child ∷ [])) q
    → Contains (inner_in (suc levels) file (p ∷ [])) q
inner_below levels file p child q held at =
    Contains-append_right (filter (λ x. is_some (children_in (page_at file x))) (p ∷ [])) _ q
    (inner_more levels file (child ∷ []) (flat_map (children_at file) (p ∷ []))
    (λ x only.
    subst (Contains (flat_map (children_at file) (p ∷ []))) (only_member child x only)
    (in_flat_map (children_at file) (p ∷ []) p child (first_member p []) held)) q at)

-- an internal page is one of its own tree
pub is_inner : (file : File) (p : ℕ) (page : Listed InternalItem) → 1 ≤ page.header.level → page_at file p ≡ Internal page
    → Contains (inner_pages file p) p
unfolding inner_pages
is_inner file p page some is = inner_here (header_in (page_at file p)).level file p page (omega (arith, ap (λ q. (header_in q).level) is, some)) is

-- and the internal pages of the tree of a child are too
pub is_inner_below : (file : File) (p : ℕ) (page : Listed InternalItem) (child q : ℕ) → page_at file p ≡ Internal page
    → Contains (map (λ (item : InternalItem). item.child) page.items) child
    → IsChild file p child → Contains (inner_pages file child) q → Contains (inner_pages file p) q
unfolding inner_pages
is_inner_below file p page child q is held fits at =
    let up : suc (level file child) ≡ level file p = omega (arith, fits.level) in
    subst (λ n. Contains (inner_in n file (p ∷ [])) q) up
    (inner_below (level file child) file p child q (subst (λ k. Contains (unwrap_or (children_in k) []) child) (sym is) held) at)

-- What a test asks of the page where a descent stands.

-- an internal page has items, and stands above the leaves
pub internal_is : (image : List ℕ) (p : ℕ) (page : Listed InternalItem) → IsForest image → p ≤ (file_of image).last
    → page_at (file_of image) p ≡ Internal page → IsFormedPage (Internal page)
internal_is image p page forest low is = subst IsFormedPage is (formed_at image p forest low)

pub some_items : (image : List ℕ) (p : ℕ) (view : Listed InternalItem) → IsForest image → p ≤ (file_of image).last
    → Internal view ≡ page_at (file_of image) p → 0 < length view.items
some_items image p view forest low is = (internal_is image p view forest low (sym is)).1

-- what holds of each internal page of a tree holds of its root
pub holds_here : (image : List ℕ) (P : List InternalItem → Type 0) (p : ℕ) (view : Listed InternalItem) → IsForest image → p ≤ (file_of image).last
    → ((q : ℕ) (page : Listed InternalItem) → Contains (inner_pages (file_of image) p) q → page_at (file_of image) q ≡ Internal page → P page.items)
    → Internal view ≡ page_at (file_of image) p → P view.items
holds_here image P p view forest low all is =
    let high : 2 ≤ view.header.level = (internal_is image p view forest low (sym is)).0 in
    all p view (is_inner (file_of image) p view (omega arith) (sym is)) (sym is)

-- For callers.

-- the items of a page keep a test once each one keeps it for the next
pub monotone_by_neighbours : (test : InternalItem → Bool) (items : List InternalItem)
    → ((i : ℕ) → 1 ≤ i → i + 1 < length items → test (get_or items i no_internal_item) ≡ true → test (get_or items (i + 1) no_internal_item) ≡ true)
    → IsMonotone test items
monotone_by_neighbours test items next i j above low inside holds = far (j - i) j (omega arith) inside
  where
    far : (n k : ℕ) → k ≡ i + n → k < length items → test (get_or items k no_internal_item) ≡ true
    far zero k same low = ap (λ m. test (get_or items m no_internal_item)) (let at : k ≡ i = omega arith in at) ∙ holds
    far (suc n) k same low =
        ap (λ m. test (get_or items m no_internal_item)) (let at : k ≡ i + n + 1 = omega arith in at)
        ∙ next (i + n) (omega arith) (omega arith) (far n (i + n) refl (omega arith))

-- an internal page is there
pub internal_inside : (image : List ℕ) (p : ℕ) (page : Listed InternalItem) → page_at (file_of image) p ≡ Internal page → p ≤ (file_of image).last
internal_inside image p page is = typed_inside image (3 ∷ []) p (ap (λ q. has_type (3 ∷ []) (type_in q)) is)
