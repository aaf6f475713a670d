-- Values that are stored in chains of their own. Source: docs/FORMAT.md, "Stored values".
use Rattle.std.specs.Prelude.{◌≡◌, ℕ, true, None, ◌+◌, ◌-◌, ◌*◌, ◌/◌, ◌^◌, ◌<◌, ◌≤◌, nat_lt, if◌then◌else◌, List, [], ◌∷◌, ◌++◌, length, min, take, drop}
use Rattle.std.specs.Prelude.{replicate}
use Rattle.bdb_layout.specs.of_format.declared.kinds.Order.{Order}
use Rattle.bdb_layout.specs.of_format.declared.pages.Header.{Header}
use Rattle.bdb_layout.specs.of_format.Terms.{Overflow, abstract_page, byte_at, entries_of, header_bytes, is_page_size, overwritten, page_code}
use Rattle.bdb_pack.specs.Built.{Built}
use Rattle.bdb_pack.specs.declared.values.Stored.{Stored}
use Rattle.bdb_pack.specs.declared.values.Stored.TheVariants.{Inline, Chain}

-- the header of a page of a chain
abbrev pub piece_header : ℕ → ℕ → ℕ → ℕ → Header
piece_header number previous next n = record { number = number; previous = previous; next = next; entries = 1; high_free = n; level = 0; page_type = 7 }

-- how many bytes of what is left a page takes
abbrev pub piece_length : ℕ → List ℕ → ℕ
piece_length size rest = min (size - 26) (length rest)

-- the page after it, where bytes are left
abbrev pub piece_next : ℕ → ℕ → List ℕ → ℕ
piece_next size number rest = if nat_lt (piece_length size rest) (length rest) then number + 1 else 0

-- the bytes of a page of a chain, with the first of the bytes that are left
abbrev pub chain_page : Order → ℕ → ℕ → ℕ → List ℕ → List ℕ
chain_page order size number previous rest =
    overwritten (overwritten (replicate size 0) 0 (header_bytes order (piece_header number previous (piece_next size number rest) (piece_length size rest)))) 26
    (take (piece_length size rest) rest)

abbrev pub with_piece : Built → ℕ → List ℕ → Built
with_piece built previous rest = record built { pages = built.pages ++ (chain_page built.order built.size (length built.pages) previous rest ∷ []) }

-- pages from a number on that are a chain of these bytes
abbrev pub AreChainPages : Order → ℕ → ℕ → ℕ → List ℕ → List (List ℕ) → Type 0
AreChainPages order size number previous rest [] = rest ≡ []
AreChainPages order size number previous rest (page ∷ pages) =
    (0 < length rest) × (page ≡ chain_page order size number previous rest)
    × AreChainPages order size (number + 1) number (drop (piece_length size rest) rest) pages

-- pages with the pages of a chain of a value after them
pub record HasChain (old new : Built) (value : List ℕ) (head : ℕ) : Type 0 where
  pub size : new.size ≡ old.size
  pub order : new.order ≡ old.order
  pub first : head ≡ length old.pages
  pub added : List (List ℕ)
  pub pages : new.pages ≡ old.pages ++ added
  pub chain : AreChainPages old.order old.size head 0 value added

-- a short value adds nothing, a longer one a chain
abbrev pub IsStored : Built → Built → List ℕ → Stored → Type 0
IsStored old new value Inline = (length value ≤ old.size / 8) × (new ≡ old)
IsStored old new value (Chain head total) = (old.size / 8 < length value) × (total ≡ length value) × HasChain old new value head

-- a page of a chain stands for an overflow page with these bytes, and has no row of form; it is of type 7 and counts one reference
abbrev pub ChainPagesAreFormed : Type 0
ChainPagesAreFormed =
    (order : Order) (size number previous : ℕ) (rest : List ℕ) → is_page_size size ≡ true → number + 1 < 2 ^ 32 → previous < 2 ^ 32
    → let n : ℕ = piece_length size rest in
    let page : List ℕ = chain_page order size number previous rest in
    (abstract_page order page ≡ Overflow (piece_header number previous (piece_next size number rest) n) (take n rest)) × (page_code order number page ≡ None)
    × (byte_at page 25 ≡ 7) × (entries_of order page ≡ 1) × (length page ≡ size)

-- the pages of a chain are as many as its bytes fill, each taking the page but its header: one fewer wouldn't hold them
abbrev pub ChainsAreCounted : Type 0
ChainsAreCounted =
    (order : Order) (size number previous : ℕ) (rest : List ℕ) (pages : List (List ℕ)) → AreChainPages order size number previous rest pages
    → (length rest ≤ length pages * (size - 26)) × (0 < length pages → (length pages - 1) * (size - 26) < length rest)
