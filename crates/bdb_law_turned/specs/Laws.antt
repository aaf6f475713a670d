-- Laws of pages and files in the other byte order. Source: docs/FORMAT.md, "The other byte order".
use Rattle.std.specs.Prelude.{◌≡◌, ◌≤◌, ◌^◌, ℕ, List, [], length, true, false, None}
use Rattle.bdb_graph.specs.of_format.declared.kinds.Order.{Order}
use Rattle.bdb_graph.specs.of_format.declared.metadata.Head.{Head}
use Rattle.bdb_graph.specs.of_format.Terms.{Metadata, abstract_page, databases, faults_of, file_of, form_code, head_of, is_anchor, is_page_size, is_reserve}
use Rattle.bdb_graph.specs.of_format.Terms.{list_of, owners, refs, settings_of, turned}
use Rattle.bdb_law_turned.specs.Flipped.{flip_of, overlap_in}
use Rattle.bdb_law_turned.specs.Overlaps.{overlaps}
use Rattle.bdb_law_turned.specs.Turning.{turned_page}

-- what page 0 says of a file, in the other order
abbrev pub turned_head : Head → Head
turned_head head = record head { order = turned head.order }

-- In the other order a page with its numbers byte-swapped is the same page, has no fault of form, and turns back to the first bytes.
pub record TurnsRound (head : Head) (p : ℕ) (page : List ℕ) : Type 0 where
  pub reads : abstract_page (turned head.order) (turned_page head.order page) ≡ abstract_page head.order page
  pub formed : form_code (turned_head head) p (turned_page head.order page) ≡ None
  pub long : length (turned_page head.order page) ≡ length page
  pub back : turned_page (turned head.order) (turned_page head.order page) ≡ page

-- so does each page that has no fault of form and whose items don't overlap
abbrev pub PagesTurnRound : Type 0
PagesTurnRound =
    (head : Head) (p : ℕ) (page : List ℕ) → is_page_size (length page) ≡ true → form_code head p page ≡ None → overlaps (abstract_page head.order page) ≡ false
    → TurnsRound head p page

-- An image in an order is the same file: page 0 says the same of it but the order, it's sound, and in the first order again it has the first bytes.
pub record Flips (order : Order) (image : List ℕ) : Type 0 where
  pub head : head_of (flip_of order image) ≡ record (head_of image) { order = order }
  pub file : file_of (flip_of order image) ≡ file_of image
  pub long : length (flip_of order image) ≡ length image
  pub sound : faults_of (flip_of order image) ≡ []
  pub back : flip_of (head_of image).order (flip_of order image) ≡ image

-- so is each sound image, none of whose pages overlaps
abbrev pub FilesFlip : Type 0
FilesFlip = (order : Order) (image : List ℕ) → length image ≤ 2 ^ 30 → faults_of image ≡ [] → overlap_in order image ≡ None → Flips order image

-- What such a file keeps: the references of each page and its role, an anchor, a reserve or a page with owners; its databases with their names and
-- metadata; their lists; and their settings but the order.
pub record KeepsDatabases (order : Order) (image : List ℕ) : Type 0 where
  pub references : (p : ℕ) → refs (file_of (flip_of order image)) p ≡ refs (file_of image) p
  pub anchors : (p : ℕ) → is_anchor (file_of (flip_of order image)) p ≡ is_anchor (file_of image) p
  pub reserves : (p : ℕ) → is_reserve (file_of (flip_of order image)) p ≡ is_reserve (file_of image) p
  pub owners : (p : ℕ) → owners (file_of (flip_of order image)) p ≡ owners (file_of image) p
  pub databases : databases (file_of (flip_of order image)) ≡ databases (file_of image)
  pub lists : (fields : Metadata) → list_of (file_of (flip_of order image)) fields ≡ list_of (file_of image) fields
  pub settings :
      (fields : Metadata)
      → settings_of (head_of (flip_of order image)).page_size (head_of (flip_of order image)).order fields
      ≡ record (settings_of (head_of image).page_size (head_of image).order fields) { order = order }

abbrev pub FlippedFilesKeepDatabases : Type 0
FlippedFilesKeepDatabases =
    (order : Order) (image : List ℕ) → length image ≤ 2 ^ 30 → faults_of image ≡ [] → overlap_in order image ≡ None → KeepsDatabases order image
