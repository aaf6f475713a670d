-- Whether ranges of bytes that begin at different places share any, by the end of the one that begins at each place.
use Rattle.std.specs.Prelude.{◌≡◌, ◌<◌, ◌≤◌, ℕ, max, nat_lt, ◌==◌, ◌&&◌, not, Bool, List, length, take, slice_index}
use Rattle.std.specs.List.{count_by, find, fold, list_any, range_with_len}
use Rattle.std.specs.Option.{option_map, unwrap_or}
use Rattle.bdb_law_turned.specs.Overlaps.{share_bytes}

-- the end of the first of n ranges that begins at a place, 0 where none does
abbrev pub end_at : ℕ → (ℕ → ℕ) → (ℕ → ℕ) → ℕ → ℕ
end_at n begin end k = unwrap_or (option_map end (find (λ i. begin i == k) (range_with_len 0 n))) 0

-- each of the first n ranges has its end at the place where it begins
abbrev pub AreEnds : List ℕ → ℕ → (ℕ → ℕ) → (ℕ → ℕ) → Type 0
AreEnds ends n begin end = (k : ℕ) → k < length ends → slice_index ends k ≡ end_at n begin end k

-- the greatest end of those that begin below a place
abbrev pub greatest_below : List ℕ → ℕ → ℕ
greatest_below ends k = fold max 0 (take k ends)

-- one begins at a place which one that begins before it holds too
abbrev pub crosses_at : List ℕ → ℕ → Bool
crosses_at ends k = not (slice_index ends k == 0) && nat_lt k (greatest_below ends k)

unfoldable pub crosses : List ℕ → Bool
crosses ends = list_any (crosses_at ends) (range_with_len 0 (length ends))

-- at how many places one begins
abbrev pub beginnings : List ℕ → ℕ
beginnings ends = count_by (λ end. not (end == 0)) ends

-- ranges of so many bytes, of which those that begin at one place are the same
pub record AreRanges (n size : ℕ) (begin end : ℕ → ℕ) : Type 0 where
  pub some : (i : ℕ) → i < n → begin i < end i
  pub within : (i : ℕ) → i < n → end i ≤ size
  pub one : (i j : ℕ) → i < n → j < n → begin i ≡ begin j → end i ≡ end j

-- two ranges that begin at different places share a byte
abbrev pub some_share : ℕ → (ℕ → ℕ) → (ℕ → ℕ) → Bool
some_share n begin end = list_any (λ i. list_any (λ j. share_bytes (begin i) (end i) (begin j) (end j)) (range_with_len 0 n)) (range_with_len 0 n)

-- none begins below a first place, and at so many one does
pub record AreNoted (ends : List ℕ) (first places : ℕ) : Type 0 where
  pub none : beginnings (take first ends) ≡ 0
  pub all : beginnings ends ≡ places
