-- A whole image in the other byte order. Source: docs/FORMAT.md, "The other byte order".
use Rattle.std.specs.Prelude.{ℕ, ◌+◌, Bool, true, false, if◌then◌else◌, List, Option, None}
use Rattle.std.specs.List.{find, flat_map, range_with_len}
use Rattle.bdb_graph.specs.of_format.declared.kinds.Order.{Order}
use Rattle.bdb_graph.specs.of_format.declared.kinds.Order.TheVariants.{Big, Little}
use Rattle.bdb_graph.specs.of_format.declared.metadata.Head.{Head}
use Rattle.bdb_graph.specs.of_format.Terms.{File, file_of, head_of, page_at, page_bytes}
use Rattle.bdb_law_turned.specs.Overlaps.{overlaps}
use Rattle.bdb_law_turned.specs.Turning.{turned_page}

abbrev pub same_order : Order → Order → Bool
same_order Little Little = true
same_order Big Big = true
same_order Little Big = false
same_order Big Little = false

-- an image has this order
abbrev pub has_order : Order → List ℕ → Bool
has_order order image = same_order order (head_of image).order

-- an image with all its pages byte-swapped
unfoldable pub flipped : List ℕ → List ℕ
flipped image =
    let head : Head = head_of image in
    flat_map (λ p. turned_page head.order (page_bytes head image p)) (range_with_len 0 head.pages)

-- an image in an order: itself, where it has that order
abbrev pub flip_of : Order → List ℕ → List ℕ
flip_of order image = if has_order order image then image else flipped image

-- the first page on which items overlap
unfoldable pub first_overlap : File → Option ℕ
first_overlap file = find (λ p. overlaps (page_at file p)) (range_with_len 0 (file.last + 1))

-- the page for which an image isn't put into an order: none where it has that order
abbrev pub overlap_in : Order → List ℕ → Option ℕ
overlap_in order image = if has_order order image then None else first_overlap (file_of image)
