-- What `byteorder` reads and writes is the number at a place.
use Rattle.std.proofs.Common.{◌≡◌, ℕ, zero, suc, ◌+◌, ◌*◌, ◌^◌, ◌≤◌, ◌-◌, List, [], ◌∷◌, ◌++◌, length, take, drop, refl, ap, arith, drop-cons, length-drop}
use Rattle.std.proofs.Common.{length-take, append-nil, reverse}
use Rattle.std.proofs.lemmas.Grind.{reverse_onto}
use Rattle.std.proofs.lemmas.List.{take_all, drop_all, drop-drop, length-reverse}
use Rattle.std.proofs.Math.Nat.{add-sub_cancel_left, pow-succ'}
use Rattle.byteorder.specs.Endian.{little_from, big_from, little_number, big_number}
pub use Rattle.bdb_format.proofs.SpellingLemmas.{length-spelled}
use borrow.Rule.Slice.PartMut.{put_mid}
use Rattle.bdb_format.specs.Terms.{from_low_end, number_at, overwritten, spelled}
use Rattle.bdb_format.specs.declared.kinds.Order.TheVariants.{Big, Little}

pub little_from-is : (i n : ℕ) (xs : List ℕ) → i + n ≤ length xs → little_from i n xs ≡ from_low_end (take n (drop i xs))
little_from-is i zero xs h = refl
little_from-is i (suc n) xs h = grind (arith, drop-cons, little_from-is (suc i) n xs (omega arith))

-- one more byte below
step : (x b p f : ℕ) → x + 256 * (b * p + f) ≡ b * (256 * p) + (x + 256 * f)
step x b p f = omega arith

-- a byte behind the high end
pub from_low_end-last : (xs : List ℕ) (b : ℕ) → from_low_end (xs ++ b ∷ []) ≡ b * 256 ^ length xs + from_low_end xs
from_low_end-last [] b = omega arith
from_low_end-last (x ∷ xs) b = rw (from_low_end-last xs b, pow-succ' 256 (length xs)) (step x b (256 ^ length xs) (from_low_end xs))

pub big_from-is : (i n : ℕ) (xs : List ℕ) → i + n ≤ length xs → big_from i n xs ≡ from_low_end (reverse (take n (drop i xs)))
big_from-is i zero xs h = refl
big_from-is i (suc n) xs h =
    grind (arith, length-reverse, length-take, length-drop, from_low_end-last, drop-cons, reverse_onto, big_from-is (suc i) n xs (omega arith))

-- a slice from a place to the end
pub to_end : (at : ℕ) (xs : List ℕ) → take (length xs - at) (drop at xs) ≡ drop at xs
to_end at xs = take_all (length xs - at) (drop at xs) (omega (arith, length-drop at xs))

-- so many bytes from a place on
bytes_at : (n at : ℕ) (xs : List ℕ) → take (at + n - at) (drop at xs) ≡ take n (drop at xs)
bytes_at n at xs = ap (λ m. take m (drop at xs)) (omega arith)

all_there : (n at : ℕ) (xs : List ℕ) → at + n ≤ length xs → length (take n (drop at xs)) ≡ n
all_there n at xs h = omega (arith, length-take n (drop at xs), length-drop at xs)

pub little_at : (n at : ℕ) (xs : List ℕ) → at + n ≤ length xs → little_number n (take (at + n - at) (drop at xs)) ≡ number_at n Little xs at
unfolding number_at
little_at n at xs h = grind (arith, bytes_at, little_from-is, all_there, take_all)

pub big_at : (n at : ℕ) (xs : List ℕ) → at + n ≤ length xs → big_number n (take (at + n - at) (drop at xs)) ≡ number_at n Big xs at
unfolding number_at
big_at n at xs h = grind (arith, bytes_at, big_from-is, all_there, take_all)

-- a piece that fills the part of a slice that it is written to
pub put_piece : (at n : ℕ) (xs ys piece : List ℕ) → length piece ≡ n → ys ≡ piece ++ drop n (take (at + n - at) (drop at xs)) → put_mid at (at + n - at) xs ys
    ≡ overwritten xs at piece
put_piece at n xs ys piece len is = grind (arith, add-sub_cancel_left, drop_all, length-take, append-nil, drop-drop)

pub put_little : (at n x : ℕ) (xs ys : List ℕ) → ys ≡ spelled n Little x ++ drop n (take (at + n - at) (drop at xs)) → put_mid at (at + n - at) xs ys
    ≡ overwritten xs at (spelled n Little x)
put_little at n x xs ys = put_piece at n xs ys (spelled n Little x) (length-spelled n Little x)

pub put_big : (at n x : ℕ) (xs ys : List ℕ) → ys ≡ spelled n Big x ++ drop n (take (at + n - at) (drop at xs)) → put_mid at (at + n - at) xs ys
    ≡ overwritten xs at (spelled n Big x)
put_big at n x xs ys = put_piece at n xs ys (spelled n Big x) (length-spelled n Big x)
