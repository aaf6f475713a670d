-- The way of a descent, page by page.
use Rattle.std.proofs.Common.{◌≡◌, ℕ, zero, suc, ◌+◌, ◌<◌, ◌≤◌, Bool, true, List, [], ◌∷◌, length, map, arith, refl, sym, ◌∙◌, ap, subst, inl, inr, Option}
use Rattle.std.proofs.Common.{Some, None, not, unwrap_or}
use Rattle.std.specs.List.{Contains, filter, last_or}
use Rattle.bdb_overflow.specs.of_slots.Slots.{no_internal_item}
use Rattle.bdb_overflow.specs.of_image.Linked.{FitsLeafPage, IsForest}
use Rattle.bdb_overflow.specs.of_format.Terms.{File, Internal, InternalItem, Listed, Page, child_types, children_in, file_of, has_type, page_at, type_in}
use Rattle.bdb_overflow.proofs.of_format.MemberLemmas.{first_member, in_map, later_member, member_cases, of_filter}
use Rattle.bdb_tree.specs.Descent.{AllMonotone, AllReadable, chosen, descent, go_on, next_below, steps_at}
use Rattle.bdb_tree.proofs.DescentLemmas.{internal_is, is_inner_below}
use Rattle.bdb_tree.proofs.ShapeLemmas.{IsLeafPage}
use Rattle.bdb_tree.proofs.TreeLemmas.{HasTypeAt, IsChild, child_is, level, tree_cases, typed_inside}
use Rattle.bdb_overflow.proofs.of_format.TypeLemmas.{of_type, tree_keyed}

-- where a page has one of the types of trees with keys
abbrev pub IsKeyed : File → ℕ → Type 0
IsKeyed file p = HasTypeAt file (3 ∷ 5 ∷ 12 ∷ []) p

-- a descent that began at a root stands at a page, and has counted its steps
pub record IsOnWay (file : File) (reads : InternalItem → Type 0) (test : InternalItem → Bool) (root began page steps : ℕ) : Type 0 where
  pub inside : page ≤ file.last
  pub keyed : IsKeyed file page
  pub readable : AllReadable file reads page
  pub monotone : AllMonotone file test page
  pub same : descent (level file page) file test page ≡ descent (level file root) file test root
  pub cost : steps + level file page ≡ began + level file root

-- The child that is chosen is one of the items.

last_among : (first : InternalItem) (items : List InternalItem) → Contains (first ∷ items) (unwrap_or (last_or (Some first) items) no_internal_item)
last_among first [] = first_member first []
last_among first (item ∷ items) = later_member first (item ∷ items) (unwrap_or (last_or (Some item) items) no_internal_item) (last_among item items)

pub chosen_among : (test : InternalItem → Bool) (items : List InternalItem) → 0 < length items
    → (item : InternalItem) × Contains items item × (item.child ≡ chosen test items)
chosen_among test [] some = absurd (omega arith)
chosen_among test (first ∷ items) some =
    let kept : List InternalItem = filter (λ item. not (test item)) items in
    let last : InternalItem = unwrap_or (last_or (Some first) kept) no_internal_item in (
      last,
      elim (member_cases first kept last (last_among first kept)) [
        | inl same ↦ subst (Contains (first ∷ items)) same (first_member first items)
        | inr later ↦ later_member first items last (of_filter (λ item. not (test item)) items last later).0
      ],
      refl,
    )

-- The end of a descent: a page that is no internal page with keys.

no_children : (test : InternalItem → Bool) (page : Page) (children : List ℕ) → None ≡ next_below test page
    → has_type (3 ∷ 5 ∷ 12 ∷ []) (type_in page) ≡ true → children_in page ≡ Some children → ⊥
no_children test (Internal page) children none keyed some = cc
no_children test page children none keyed some = cc

ends_at_leaf : (image : List ℕ) (test : InternalItem → Bool) (p : ℕ) → IsForest image → IsKeyed (file_of image) p
    → None ≡ next_below test (page_at (file_of image) p) → IsLeafPage (page_at (file_of image) p)
ends_at_leaf image test p forest keyed none =
    elim (tree_cases image p forest (tree_keyed (type_in (page_at (file_of image) p)) keyed)) [
      | inl inner ↦ absurd (no_children test (page_at (file_of image) p) inner.children none keyed inner.are)
      | inr leaf ↦ leaf
    ]

-- what a descent answers at its end
pub record IsEnd (file : File) (test : InternalItem → Bool) (root began page steps : ℕ) : Type 0 where
  pub leaf : page ≡ descent (level file root) file test root
  pub fits : FitsLeafPage file page
  pub cost : steps + 1 ≡ began + level file root

stays : (levels : ℕ) (file : File) (test : InternalItem → Bool) (p : ℕ) → None ≡ next_below test (page_at file p) → descent levels file test p ≡ p
unfolding descent
stays zero file test p none = refl
stays (suc levels) file test p none = ap (go_on (descent levels file test) p) (sym none)

no_step : (test : InternalItem → Bool) (page : Page) → None ≡ next_below test page → steps_at page ≡ 0
no_step test (Internal page) none = absurd cc
no_step test page none = refl

pub at_end : (image : List ℕ) (reads : InternalItem → Type 0) (test : InternalItem → Bool) (root began page steps after : ℕ) → IsForest image
    → IsOnWay (file_of image) reads test root began page steps
    → None ≡ next_below test (page_at (file_of image) page) → after ≡ steps + steps_at (page_at (file_of image) page)
    → IsEnd (file_of image) test root began page after
at_end image reads test root began page steps after forest way none cost = grind (arith, IsLeafPage, ends_at_leaf, stays, level, no_step)

-- The beginning, and a step.

pub at_root : (image : List ℕ) (reads : InternalItem → Type 0) (test : InternalItem → Bool) (root steps : ℕ)
    → has_type (3 ∷ 5 ∷ []) (type_in (page_at (file_of image) root)) ≡ true → AllReadable (file_of image) reads root
    → AllMonotone (file_of image) test root
    → IsOnWay (file_of image) reads test root steps root steps
at_root image reads test root steps keyed readable monotone = grind (arith, typed_inside, of_type)

-- a page from which a descent goes on is an internal page
is_internal : (image : List ℕ) (test : InternalItem → Bool) (p child : ℕ) → Some child ≡ next_below test (page_at (file_of image) p)
    → (page : Listed InternalItem) × (page_at (file_of image) p ≡ Internal page) × (child ≡ chosen test page.items)
is_internal image test p child some = grind arith

goes_on : (levels : ℕ) (file : File) (test : InternalItem → Bool) (p child : ℕ) → Some child ≡ next_below test (page_at file p)
    → descent (suc levels) file test p ≡ descent levels file test child
unfolding descent
goes_on levels file test p child some = ap (go_on (descent levels file test) p) (sym some)

child_keyed : (page : Page) (type : Option ℕ) (view : Listed InternalItem) → page ≡ Internal view → has_type (child_types page) type ≡ true
    → has_type (3 ∷ 5 ∷ 12 ∷ []) type ≡ true
child_keyed page type view is has = grind (arith, level, of_type)

-- the page below is on the way too, a level deeper
pub record IsStep (file : File) (reads : InternalItem → Type 0) (test : InternalItem → Bool) (root began page child steps : ℕ) : Type 0 where
  pub way : IsOnWay file reads test root began child steps
  pub level : level file child < level file page

pub on_way : (image : List ℕ) (reads : InternalItem → Type 0) (test : InternalItem → Bool) (root began page child steps after : ℕ) → IsForest image
    → IsOnWay (file_of image) reads test root began page steps
    → Some child ≡ next_below test (page_at (file_of image) page) → after ≡ steps + steps_at (page_at (file_of image) page)
    → IsStep (file_of image) reads test root began page child after
on_way image reads test root began page child steps after forest way some count =
    let file : File = file_of image in
    let at = is_internal image test page child some in
    let view : Listed InternalItem = at.0 in
    let item = chosen_among test view.items (internal_is image page view forest way.inside at.1).1 in
    let held : Contains (map (λ (i : InternalItem). i.child) view.items) child =
    subst (Contains (map (λ (i : InternalItem). i.child) view.items)) (item.2 ∙ sym at.2)
    (in_map (λ (i : InternalItem). i.child) view.items item.0 item.1) in
    let fits : IsChild file page child =
    child_is image page child (map (λ (i : InternalItem). i.child) view.items) forest (ap children_in at.1) held in
    record {
      way = record {
        inside = fits.inside;
        keyed = child_keyed (page_at file page) (type_in (page_at file child)) view at.1 fits.type;
        readable = λ p below inner is. way.readable p below (is_inner_below file page view child p at.1 held fits inner) is;
        monotone = λ p below inner is. way.monotone p below (is_inner_below file page view child p at.1 held fits inner) is;
        same = sym (goes_on (level file child) file test page child some)
            ∙ (ap (λ n. descent n file test page) (let up : suc (level file child) ≡ level file page = omega (arith, fits.level) in up) ∙ way.same);
        cost = omega (arith, way.cost, count, ap steps_at at.1, fits.level);
      };
      level = omega (arith, fits.level);
    }
