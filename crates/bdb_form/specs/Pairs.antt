-- The pairs of a page as a view gives them, one by one.
use Rattle.std.specs.Prelude.{ℕ, ◌+◌, ◌*◌, ◌/◌, ◌-◌, ◌&&◌, Bool, List, length, map, get_or}
use Rattle.std.specs.List.{range_with_len}
use Rattle.bdb_form.specs.declared.page_pairs.Pair.{Pair}
use Rattle.bdb_layout.specs.of_format.Terms.{Listed, is_shared_key}

-- a pair by its place
pub record PairOf (I : Type 0) : Type 0 where
  pub index : ℕ
  pub key : I
  pub value : I
  pub shares : Bool

-- a pair without where its bytes lie
abbrev pub pair_seen : {C I : Type 0} → (C → I) → Pair C → PairOf I
pair_seen seen pair = record { index = pair.index; key = seen pair.key; value = seen pair.value; shares = pair.shares }

-- the pair at a place of a page, where keys may be shared or not; `none` is no item
abbrev pub pair_of : {I : Type 0} → I → Bool → Listed I → ℕ → PairOf I
pair_of none may_share page i = record {
  index = i;
  key = get_or page.items (2 * i) none;
  value = get_or page.items (2 * i + 1) none;
  shares = may_share && is_shared_key page.offsets (2 * i);
}

-- the pairs of a page from one on
abbrev pub pairs_from : {I : Type 0} → I → Bool → Listed I → ℕ → List (PairOf I)
pairs_from none may_share page i = map (pair_of none may_share page) (range_with_len i (length page.items / 2 - i))
