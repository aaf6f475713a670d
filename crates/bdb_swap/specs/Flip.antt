-- What `flip` answers. Source: docs/FORMAT.md, "The other byte order".
use Rattle.std.specs.Prelude.{◌≡◌, ℕ, List, Result, Ok, Err, Some, None, ⊤}
use Rattle.bdb_io.specs.of_format.declared.kinds.Order.{Order}
use Rattle.bdb_io.specs.of_format.Terms.{file_of}
use Rattle.bdb_law_turned.specs.Flipped.{first_overlap, flip_of, flipped, overlap_in}
use Rattle.bdb_swap.specs.declared.flipping.FlipError.{FlipError}
use Rattle.bdb_swap.specs.declared.flipping.FlipError.TheVariants.{Overlap, Memory}

-- the image byte-swapped, where no page is in the way; or the first page that is; or lack of memory
abbrev pub IsTurnedImage : List ℕ → Result (List ℕ) FlipError → Type 0
IsTurnedImage image (Ok turned) = (turned ≡ flipped image) × (first_overlap (file_of image) ≡ None)
IsTurnedImage image (Err (Overlap page)) = first_overlap (file_of image) ≡ Some page
IsTurnedImage image (Err Memory) = ⊤

-- the image in the order, where no page is in the way; or the first page that is; or lack of memory
abbrev pub IsFlip : Order → List ℕ → Result (List ℕ) FlipError → Type 0
IsFlip order image (Ok flipped) = (flipped ≡ flip_of order image) × (overlap_in order image ≡ None)
IsFlip order image (Err (Overlap page)) = overlap_in order image ≡ Some page
IsFlip order image (Err Memory) = ⊤
