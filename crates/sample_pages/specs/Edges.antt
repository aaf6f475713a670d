-- Short pages with one item, which ends with its page. Source: docs/FORMAT.md, "Items".
use Rattle.std.specs.Prelude.{ℕ, List, [], ◌∷◌}
use Rattle.bdb_format.specs.declared.kinds.Order.{Order}
use Rattle.sample_pages.specs.Pages.{two, four, joined, header}

-- a recno leaf with a chain, from 28 to 40
abbrev pub chain_leaf : Order → List ℕ
chain_leaf order = joined (header order 1 28 1 6 ∷ two order 28 0 ∷ (0 ∷ 0 ∷ 3 ∷ 0 ∷ []) ∷ four order 7 0 0 0 ∷ four order 0 2 0 0 ∷ [])

-- an internal page with a key of two bytes, from 28 to 42
abbrev pub key_page : Order → List ℕ
key_page order =
    joined (header order 1 28 2 3 ∷ two order 28 0 ∷ two order 2 0 ∷ (1 ∷ 0 ∷ []) ∷ four order 2 0 0 0 ∷ four order 3 0 0 0 ∷ (98 ∷ 99 ∷ []) ∷ [])

-- an internal page with an overflow key of the length given, which begins at 28; the page has 53 bytes
abbrev pub chain_key_page : Order → ℕ → List ℕ
chain_key_page order length = joined (
    header order 1 28 2 3
    ∷ two order 28 0
    ∷ two order length 0 ∷ (3 ∷ 0 ∷ []) ∷ four order 2 0 0 0 ∷ four order 3 0 0 0
    ∷ (0 ∷ 0 ∷ 3 ∷ 0 ∷ []) ∷ four order 6 0 0 0 ∷ four order 0 4 0 0
    ∷ (0 ∷ [])
    ∷ [])

-- a hash page with a key and a datum: the datum's type and its other bytes, from 30 on, and then a key of one byte
abbrev pub hash_pair : Order → List ℕ → ℕ → List ℕ
hash_pair order datum key_at = joined (header order 2 30 0 13 ∷ two order key_at 0 ∷ two order 30 0 ∷ datum ∷ (1 ∷ 107 ∷ []) ∷ [])
