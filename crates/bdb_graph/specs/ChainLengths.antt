-- The length of each chain, as it's kept at its head. Source: docs/FORMAT.md, "Other pages" and "Stage 6, chains and trees".
use Rattle.std.specs.Prelude.{◌≡◌, ℕ, ◌==◌, ◌&&◌, if◌then◌else◌, Bool, List, [], ◌∷◌, map, length, get_or}
use Rattle.bdb_image.specs.of_format.Terms.{File, Page, chain_in, has_type, header_in, joined, page_at, piece_in, pieces_of, type_in}
use Rattle.bdb_image.specs.Linked.{FitsChain, meta_pages}
use Rattle.bdb_graph.specs.Owned.{AreOwned}

-- how many bytes the value of the chain with this head has
abbrev pub chain_length : File → ℕ → ℕ
chain_length file head = length (joined (pieces_of file head))

-- how many bytes the pages from one on hold, in so many turns
unfoldable pub length_in : ℕ → File → ℕ → ℕ
length_in turns file p = length (joined (map (λ q. piece_in (page_at file q)) (chain_in turns file p)))

-- a page that an item may name as the head of a chain
abbrev pub may_head : Page → Bool
may_head page = has_type (7 ∷ []) (type_in page) && (header_in page).previous == 0

-- what is kept of a page: the length of the chain that begins there, 0 where none does
abbrev pub kept_length : File → ℕ → ℕ
kept_length file p = if may_head (page_at file p) then chain_length file p else 0

-- these have the length of each chain that an item names, at its head
pub record AreLengths (file : File) (lengths : List ℕ) : Type 0 where
  pub each : (head : ℕ) → FitsChain file head → get_or lengths head 0 ≡ chain_length file head

-- what a linked image keeps of its file: the metadata pages, the number of owners of each page, and the lengths of chains
pub record IsKept (file : File) (metas counts lengths : List ℕ) : Type 0 where
  pub pages : metas ≡ meta_pages file
  pub owned : AreOwned file counts
  pub chains : AreLengths file lengths
