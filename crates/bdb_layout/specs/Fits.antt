-- An item that lies on its page, where no row of it holds.
use Rattle.std.specs.Prelude.{◌≡◌, ◌+◌, ◌<◌, ◌≤◌, ◌⊎◌, ℕ, List, length, slice_range, IsSome}
use Rattle.bdb_format.specs.declared.kinds.Order.{Order}
use Rattle.bdb_format.specs.Terms.{blocks_of, byte_at, kind_at, two_at}

-- an item of a leaf, from its offset
pub record FitsLeaf (order : Order) (page : List ℕ) (at : ℕ) : Type 0 where
  pub least : 1 ≤ kind_at page at
  pub most : kind_at page at ≤ 3
  pub inline : kind_at page at ≡ 1 → at + 3 + two_at order page at ≤ length page
  pub other : 2 ≤ kind_at page at → at + 12 ≤ length page

-- an item of an internal page; an overflow key is 12 bytes long
pub record FitsInternal (order : Order) (page : List ℕ) (at : ℕ) : Type 0 where
  pub within : at + 12 + two_at order page at ≤ length page
  pub kind : (kind_at page at ≡ 1) ⊎ ((kind_at page at ≡ 3) × (two_at order page at ≡ 12))

-- an item of a hash page, from its offset to its end
pub record FitsHash (order : Order) (page : List ℕ) (at end : ℕ) : Type 0 where
  pub begins : at < end
  pub ends : end ≤ length page
  pub least : 1 ≤ byte_at page at
  pub most : byte_at page at ≤ 4
  pub set : byte_at page at ≡ 2 → IsSome (blocks_of order (slice_range page (at + 1) end))
  pub chain : byte_at page at ≡ 3 → end ≡ at + 12
  pub tree : byte_at page at ≡ 4 → end ≡ at + 8
