-- What the form of a leaf says of its entries.
use Rattle.std.proofs.Common.{◌≡◌, ℕ, ◌*◌, ◌≤◌, List, length, Option, Some, None, arith, refl, sym, ◌∙◌, ap}
use Rattle.bdb_tree.specs.of_form.Formed.{IsListed}
use Rattle.bdb_tree.proofs.of_form.FormedLemmas.{listed_room}
use Rattle.bdb_tree.proofs.of_image.FirstLemmas.{formed_accepted, formed_last, formed_page}
use Rattle.bdb_tree.proofs.of_image.FormedLemmas.{IsPaged, accepted_paged, page_length}
use Rattle.bdb_tree.proofs.of_graph.LinkedLemmas.{forest_code}
use Rattle.bdb_tree.specs.of_image.Linked.{IsForest}
use Rattle.bdb_tree.specs.of_format.declared.kinds.Order.{Order}
use Rattle.bdb_tree.specs.of_format.Terms.{Item, Listed, RecnoLeaf, abstract_page, file_of, head_of, leaf_item_at, listed, page_as, page_at, page_bytes}
use Rattle.bdb_tree.specs.of_format.Terms.{page_code}
use Rattle.bdb_tree.specs.of_format.declared.pages.PageType.{PageType}
use Rattle.bdb_tree.specs.of_format.declared.pages.PageType.TheVariants.{RecnoLeaf as RecnoLeafPage}
use Rattle.bdb_tree.proofs.of_format.PageLemmas.{length_items}
use Rattle.bdb_tree.proofs.of_format.FileLemmas.{kind_is, last_page, page_is}
use Rattle.bdb_tree.proofs.of_format.SizeLemmas.{size_bounds}
use Rattle.bdb_tree.proofs.of_graph.ChildLemmas.{is_queue_page}
use Rattle.bdb_tree.proofs.ShapeLemmas.{no_queue}

-- The bytes of a leaf.

-- a leaf of records by its bytes, without a fault of form
record IsFormedLeaf (order : Order) (bytes : List ℕ) (page : Listed Item) : Type 0 where
  list : IsListed RecnoLeafPage order bytes
  read : page ≡ listed order bytes (leaf_item_at order bytes)

body_none : (identity body : Option ℕ) → ◌≡◌ {A = Option ℕ} (elim identity [ Some code ↦ Some code | None ↦ body ]) None → body ≡ None
body_none (Some code) body none = absurd cc
body_none None body none = none

leaf_type : (order : Order) (bytes : List ℕ) (t : PageType) (page : Listed Item) → RecnoLeaf page ≡ page_as order bytes t
    → (t ≡ RecnoLeafPage) × (page ≡ listed order bytes (leaf_item_at order bytes))
leaf_type order bytes RecnoLeafPage page same = (refl, cc)
leaf_type order bytes t page same = absurd cc

leaf_by_bytes : (order : Order) (number : ℕ) (bytes : List ℕ) (page : Listed Item) → 512 ≤ length bytes → length bytes ≤ 32768
    → page_code order number bytes ≡ None → abstract_page order bytes ≡ RecnoLeaf page
    → IsFormedLeaf order bytes page
unfolding page_code abstract_page
leaf_by_bytes order number bytes page long short none is = grind (arith, Option, None, Some, leaf_type, body_none)

abbrev bytes_of : List ℕ → ℕ → List ℕ
bytes_of image p = page_bytes (head_of image) image p

bytes_length : (image : List ℕ) (p : ℕ) → IsForest image → p ≤ (file_of image).last → length (bytes_of image p) ≡ (head_of image).page_size
bytes_length image p forest low = grind (arith, page_length, formed_accepted, last_page, formed_last)

leaf_formed : (image : List ℕ) (p : ℕ) (page : Listed Item) → IsForest image → p ≤ (file_of image).last → page_at (file_of image) p ≡ RecnoLeaf page
    → IsFormedLeaf (head_of image).order (bytes_of image p) page
leaf_formed image p page forest low is =
    let inside : p ≤ (head_of image).last = omega (arith, last_page image) in
    let paged : IsPaged image (head_of image) = accepted_paged image (head_of image) (formed_accepted image (head_of image) forest.formed) in
    let legal : (512 ≤ (head_of image).page_size) × ((head_of image).page_size ≤ 32768) = size_bounds (head_of image).page_size paged.legal in
    let same : length (bytes_of image p) ≡ (head_of image).page_size = bytes_length image p forest low in
    leaf_by_bytes (head_of image).order p (bytes_of image p) page (omega (arith, same, legal.0)) (omega (arith, same, legal.1))
    (forest_code (head_of image) p (bytes_of image p)
    (λ queue. no_queue image (head_of image) p forest.formed low (ap is_queue_page is) (kind_is image ∙ queue))
    (formed_page image p forest.formed.form inside))
    (sym (page_is image p inside) ∙ is)

-- a leaf has at most half as many entries as a page has bytes
pub leaf_entries : (image : List ℕ) (p : ℕ) (page : Listed Item) → IsForest image → p ≤ (file_of image).last
    → page_at (file_of image) p ≡ RecnoLeaf page → 2 * length page.items ≤ (head_of image).page_size
leaf_entries image p page forest low is = grind (arith, leaf_formed, listed_room, length_items, bytes_length)
