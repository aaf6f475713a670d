-- A chain that is whole, by the bytes of its pages, and what is left of it. Source: docs/FORMAT.md, "Other pages".
use Rattle.std.specs.Prelude.{◌≡◌, ◌⊎◌, ℕ, zero, suc, ◌+◌, ◌*◌, ◌/◌, ◌<◌, ◌≤◌, ◌==◌, if◌then◌else◌, true, List, [], length, take, drop}
use Rattle.bdb_graph.specs.of_format.declared.kinds.Order.{Order}
use Rattle.bdb_graph.specs.of_format.Terms.{byte_at, file_as, four_at, is_page_size, pieces_of, two_at}

-- the bytes of a page of an image
abbrev pub bytes_of : ℕ → List ℕ → ℕ → List ℕ
bytes_of size image p = take size (drop (p * size) image)

-- a page of a chain: it's there and isn't page 0, it has type 7, and its data lie on it
pub record IsLink (order : Order) (size : ℕ) (image : List ℕ) (p : ℕ) : Type 0 where
  pub low : 1 ≤ p
  pub high : p < length image / size
  pub kind : byte_at (bytes_of size image p) 25 ≡ 7
  pub room : 26 + two_at order (bytes_of size image p) 22 ≤ size

-- the page after this one, 0 for none
abbrev pub next_at : Order → ℕ → List ℕ → ℕ → ℕ
next_at order size image p = four_at order (bytes_of size image p) 16

-- a chain of no more than this many pages begins here
abbrev pub EndsIn : ℕ → Order → ℕ → List ℕ → ℕ → Type 0
EndsIn zero order size image p = ⊥
EndsIn (suc turns) order size image p =
    IsLink order size image p × ((next_at order size image p ≡ 0) ⊎ EndsIn turns order size image (next_at order size image p))

-- a chain begins here that has no more pages than the image, and ends
pub record IsWholeChain (order : Order) (size : ℕ) (image : List ℕ) (head : ℕ) : Type 0 where
  pub ends : EndsIn (length image / size) order size image head

-- the pieces from a page of a chain on; page 0 stands for the end
unfoldable pub pieces_from : Order → ℕ → List ℕ → ℕ → List (List ℕ)
pieces_from order size image p = if p == 0 then [] else pieces_of (file_as order size image) p

-- what is left of a chain: nothing, or a chain that is whole
pub record IsLeft (order : Order) (size : ℕ) (image : List ℕ) (p : ℕ) : Type 0 where
  pub legal : is_page_size size ≡ true
  pub rest : (p ≡ 0) ⊎ IsWholeChain order size image p
