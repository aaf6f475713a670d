-- Chains of overflow pages, and the values that items hold. Source: docs/FORMAT.md, "Other pages" and "Items".
use Rattle.std.specs.Prelude.{ℕ, zero, suc, ◌==◌, not, Bool, true, false, List, [], ◌∷◌, map, length}
use Rattle.std.specs.List.{flat_map, list_any}
use Rattle.bdb_format.specs.Table.{Row, ◌:?◌}
use Rattle.bdb_format.specs.Page.{Content, Inline, Set, Chain, Tree, Unknown, Page, Overflow}
use Rattle.bdb_format.specs.File.{File, page_at, header_in}
use Rattle.bdb_format.specs.References.{contents_in}

abbrev pub next_of : File → ℕ → ℕ
next_of file p = (header_in (page_at file p)).next

-- a page and those that follow it by their next pages up to next 0, in so many turns
unfoldable pub chain_in : ℕ → File → ℕ → List ℕ
chain_in zero file p = []
chain_in (suc turns) file p = p ∷ elim (next_of file p == 0) [ true ↦ [] | false ↦ chain_in turns file (next_of file p) ]

-- the pages of the chain with this head
abbrev pub chain : File → ℕ → List ℕ
chain file head = chain_in file.count file head

-- the data on a page of a chain
abbrev pub piece_in : Page → List ℕ
piece_in (Overflow header piece) = piece
piece_in page = []

-- the pieces of a chain's value, one for each page
unfoldable pub pieces_of : File → ℕ → List (List ℕ)
pieces_of file head = map (λ p. piece_in (page_at file p)) (chain file head)

-- lists joined in order
abbrev pub joined : List (List ℕ) → List ℕ
joined pieces = flat_map (λ piece. piece) pieces

-- the value of an item that has one: its bytes, or those of its chain's pages joined
unfoldable pub value_of : File → Content → List ℕ
value_of file (Inline bytes) = bytes
value_of file (Set blocks) = []
value_of file (Chain head total) = joined (pieces_of file head)
value_of file (Tree root) = []
value_of file Unknown = []

-- a chain as an item names it: its head, and the length of the value
abbrev pub content_chains : Content → List (ℕ × ℕ)
content_chains (Inline bytes) = []
content_chains (Set blocks) = []
content_chains (Chain head total) = (head, total) ∷ []
content_chains (Tree root) = []
content_chains Unknown = []

-- the chains that the items of a page name, keys of an internal page and deleted items among them
abbrev pub chains_in : Page → List (ℕ × ℕ)
chains_in page = flat_map content_chains (contents_in page)

-- the lengths of the pages of a chain don't add up to the total that an item tells
abbrev pub is_wrong_length : File → (ℕ × ℕ) → Bool
is_wrong_length file named = not (length (joined (pieces_of file named.0)) == named.1)

-- the first row of stage 6: ChainLength, at the page that holds the item
abbrev pub chain_rows : File → ℕ → List (Row ℕ)
chain_rows file p = 1 :? list_any (is_wrong_length file) (chains_in (page_at file p)) ∷ []
