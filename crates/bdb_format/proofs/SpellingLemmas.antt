-- What is read from bytes that spell a value, wherever they stand.
use Rattle.std.proofs.Common.{◌≡◌, ℕ, zero, suc, ◌+◌, ◌-◌, ◌*◌, ◌/◌, ◌%◌, ◌^◌, ◌<◌, ◌≤◌, List, [], ◌∷◌, ◌++◌, length, take, drop, reverse, refl, sym, ap, ◌∙◌}
use Rattle.std.proofs.Common.{arith, append_assoc, length-append, length-take, length-drop, slice_range}
use Rattle.std.proofs.Math.Nat.{add-mul, add_assoc, div-add-mod', div-div-eq-div-mul, div-one, mod-eq_of_lt, mod-lt, mul-add-mod_self_right, mul-le-mul_right}
use Rattle.std.proofs.Math.Nat.{mul_assoc, one-le-pow, pow-suc}
use Rattle.std.proofs.Math.Seq.{drop-append_seam}
use Rattle.std.proofs.lemmas.List.{reverse-append, take_at, drop_at, drop-drop, get_or-drop}
use Rattle.std.specs.Int.{byte_at as byte_of, bytes_low_first, bytes_high_first}
use Rattle.bdb_format.specs.declared.kinds.Order.{Order}
use Rattle.bdb_format.specs.declared.kinds.Order.TheVariants.{Big, Little}
use Rattle.bdb_format.specs.Terms.{byte_at, from_low_end, number, number_at, overwritten, spelled}

-- Numbers.

-- the two low digits of n, to the bases c and then m
mod-split : (n : ℕ) {m c : ℕ} → zero < m → zero < c → n % (m * c) ≡ (n / c % m) * c + n % c
mod-split n {m} {c} hm hc =
    let a = mod-lt (n / c) hm in
    let b = mod-lt n hc in
    let top : (n / c % m + 1) * c ≤ m * c = mul-le-mul_right c (omega arith) in
    let expand : (n / c % m + 1) * c ≡ n / c % m * c + 1 * c = add-mul (n / c % m) 1 c in
    let split : n ≡ n / c / m * (m * c) + (n / c % m * c + n % c) =
    sym (div-add-mod' n c)
    ∙ ap (λ (x : ℕ). x * c + n % c) (sym (div-add-mod' (n / c) m))
    ∙ ap (λ (x : ℕ). x + n % c) (add-mul (n / c / m * m) (n / c % m) c ∙ ap (λ (x : ℕ). x + n / c % m * c) (mul_assoc (n / c / m) m c))
    ∙ add_assoc (n / c / m * (m * c)) (n / c % m * c) (n % c) in
    ap (λ (x : ℕ). x % (m * c)) split ∙ mul-add-mod_self_right (n / c / m) (m * c) (n / c % m * c + n % c) ∙ mod-eq_of_lt (omega arith)

-- a byte of a number, by its place
byte_of-pow : (k x : ℕ) → byte_of k x ≡ x / 256 ^ k % 256
byte_of-pow zero x = ap (λ (y : ℕ). y % 256) (sym (div-one x))
byte_of-pow (suc k) x = refl

-- the bytes of x from byte j on spell what is left of x above those below
from_low_end-bytes : (k j x : ℕ) → from_low_end (bytes_low_first j k x) ≡ x / 256 ^ j % 256 ^ k
from_low_end-bytes zero j x = omega arith
from_low_end-bytes (suc k) j x = grind (arith, pow-suc, div-div-eq-div-mul, one-le-pow, mod-split, byte_of-pow, from_low_end-bytes k (suc j) x)

low_first_push : (i n x : ℕ) → bytes_low_first i (suc n) x ≡ bytes_low_first i n x ++ (byte_of (i + n) x ∷ [])
low_first_push i zero x = ap (λ (k : ℕ). byte_of k x ∷ []) (omega arith)
low_first_push i (suc n) x = grind (arith, low_first_push (suc i) n x)

reverse-high_first : (n x : ℕ) → reverse (bytes_high_first n x) ≡ bytes_low_first 0 n x
reverse-high_first zero x = refl
reverse-high_first (suc n) x =
    let e : 0 + n ≡ n = omega arith in
    reverse-append (byte_of n x ∷ []) (bytes_high_first n x)
    ∙ ap (λ (r : List ℕ). r ++ (byte_of n x ∷ [])) (reverse-high_first n x)
    ∙ sym (low_first_push 0 n x ∙ ap (λ (k : ℕ). bytes_low_first 0 n x ++ (byte_of k x ∷ [])) e)

from_low_end-low_first : (n x : ℕ) → x < 256 ^ n → from_low_end (bytes_low_first 0 n x) ≡ x
from_low_end-low_first n x h = from_low_end-bytes n 0 x ∙ ap (λ (y : ℕ). y % 256 ^ n) (div-one x) ∙ mod-eq_of_lt h

-- the bytes that spell a number are read as that number
pub number-spelled : (n : ℕ) (order : Order) (x : ℕ) → x < 256 ^ n → number order (spelled n order x) ≡ x
unfolding spelled
number-spelled n Little x h = from_low_end-low_first n x h
number-spelled n Big x h = ap from_low_end (reverse-high_first n x) ∙ from_low_end-low_first n x h

length-low_first : (i n x : ℕ) → length (bytes_low_first i n x) ≡ n
length-low_first i zero x = refl
length-low_first i (suc n) x = ap suc (length-low_first (suc i) n x)

length-high_first : (n x : ℕ) → length (bytes_high_first n x) ≡ n
length-high_first zero x = refl
length-high_first (suc n) x = ap suc (length-high_first n x)

pub length-spelled : (n : ℕ) (order : Order) (x : ℕ) → length (spelled n order x) ≡ n
unfolding spelled
length-spelled n Little x = length-low_first 0 n x
length-spelled n Big x = length-high_first n x

-- a number that is spelled first is read first
pub number_at-first : (n : ℕ) (order : Order) (x : ℕ) (rest : List ℕ) → x < 256 ^ n → number_at n order (spelled n order x ++ rest) 0 ≡ x
unfolding number_at
number_at-first n order x rest h =
    ap (number order) (take_at (spelled n order x) rest n (length-spelled n order x)) ∙ number-spelled n order x h

-- what is read behind a place is read in the bytes from there
pub number_at-from : (n : ℕ) (order : Order) (bytes : List ℕ) (at k : ℕ) → number_at n order bytes (at + k) ≡ number_at n order (drop at bytes) k
unfolding number_at
number_at-from n order bytes at k = ap (λ (bs : List ℕ). number order (take n bs)) (sym (drop-drop k at bytes))

pub byte_at-from : (bytes : List ℕ) (at k : ℕ) → byte_at bytes (at + k) ≡ byte_at (drop at bytes) k
byte_at-from bytes at k = sym (get_or-drop at bytes k 0)

-- what is read behind a front is read in the rest
pub number_at-behind : (n : ℕ) (order : Order) (front rest : List ℕ) (k : ℕ) → number_at n order (front ++ rest) (length front + k) ≡ number_at n order rest k
number_at-behind n order front rest k = number_at-from n order (front ++ rest) (length front) k ∙ ap (λ (bs : List ℕ). number_at n order bs k)
    (drop-append_seam front rest)

-- a number is read where it was spelled
pub number_at-spelled : (n : ℕ) (order : Order) (x : ℕ) (before after : List ℕ) → x < 256 ^ n
    → number_at n order (before ++ (spelled n order x ++ after)) (length before) ≡ x
number_at-spelled n order x before after h =
    let e : length before + 0 ≡ length before = omega arith in
    ap (number_at n order (before ++ (spelled n order x ++ after))) (sym e)
    ∙ number_at-behind n order before (spelled n order x ++ after) 0 ∙ number_at-first n order x after h

-- What stands behind a front in the bytes from a place on, is read there.

pub drop-behind : (bytes : List ℕ) (at place : ℕ) (front rest : List ℕ) → drop at bytes ≡ front ++ rest → place ≡ at + length front → drop place bytes ≡ rest
drop-behind bytes at place front rest e p =
    ap (λ (k : ℕ). drop k bytes) p ∙ sym (drop-drop (length front) at bytes) ∙ ap (drop (length front)) e ∙ drop-append_seam front rest

pub number_at-in : (n : ℕ) (order : Order) (x : ℕ) (bytes : List ℕ) (at place : ℕ) (front rest : List ℕ)
    → drop at bytes ≡ front ++ (spelled n order x ++ rest) → place ≡ at + length front → x < 256 ^ n → number_at n order bytes place ≡ x
unfolding number_at
number_at-in n order x bytes at place front rest e p h = grind (arith, drop-behind, number_at-first)

pub byte_at-in : (bytes : List ℕ) (at place : ℕ) (front : List ℕ) (b : ℕ) (rest : List ℕ)
    → drop at bytes ≡ front ++ (b ∷ rest) → place ≡ at + length front → byte_at bytes place ≡ b
byte_at-in bytes at place front b rest e p =
    let q : place + 0 ≡ place = omega arith in
    ap (byte_at bytes) (sym q) ∙ byte_at-from bytes place 0 ∙ ap (λ (bs : List ℕ). byte_at bs 0) (drop-behind bytes at place front (b ∷ rest) e p)

pub slice_range-in : (bytes : List ℕ) (at place end : ℕ) (front piece rest : List ℕ)
    → drop at bytes ≡ front ++ (piece ++ rest) → place ≡ at + length front → end ≡ place + length piece → slice_range bytes place end ≡ piece
slice_range-in bytes at place end front piece rest e p q =
    ap (take (end - place)) (drop-behind bytes at place front (piece ++ rest) e p) ∙ take_at piece rest (end - place) (omega arith)

-- Bytes that are written over, piece after piece.

pub length-overwritten : (bytes : List ℕ) (at : ℕ) (piece : List ℕ) → at + length piece ≤ length bytes → length (overwritten bytes at piece) ≡ length bytes
length-overwritten bytes at piece room = grind (arith, length-append, length-take, length-drop)

-- a piece that is written right behind another is written with it
pub overwritten_next : (bytes : List ℕ) (at place : ℕ) (a b : List ℕ) → place ≡ at + length a → place ≤ length bytes
    → overwritten (overwritten bytes at a) place b ≡ overwritten bytes at (a ++ b)
overwritten_next bytes at place a b p room =
    let front : List ℕ = take at bytes ++ a in
    let rest : List ℕ = drop (at + length a) bytes in
    let e : overwritten bytes at a ≡ front ++ rest = sym (append_assoc (take at bytes) a rest) in
    let long : length front ≡ place = omega (arith, length-append (take at bytes) a, length-take at bytes) in
    let before : take place (overwritten bytes at a) ≡ front = ap (take place) e ∙ take_at front rest place long in
    let behind : drop (place + length b) (overwritten bytes at a) ≡ drop (length b) rest =
    sym (drop-drop (length b) place (overwritten bytes at a)) ∙ ap (λ (bs : List ℕ). drop (length b) (drop place bs)) e
    ∙ ap (drop (length b)) (drop_at front rest place long) in
    let end : at + length a + length b ≡ at + length (a ++ b) = omega (arith, length-append a b) in
    let last : drop (length b) rest ≡ drop (at + length (a ++ b)) bytes = drop-drop (length b) (at + length a) bytes ∙ ap (λ (k : ℕ). drop k bytes) end in
    let all : overwritten (overwritten bytes at a) place b ≡ front ++ (b ++ drop (at + length (a ++ b)) bytes) =
    ap (λ (bs : List ℕ). bs ++ (b ++ drop (place + length b) (overwritten bytes at a))) before
    ∙ ap (λ (bs : List ℕ). front ++ (b ++ bs)) (behind ∙ last) in
    all ∙ append_assoc (take at bytes) a (b ++ drop (at + length (a ++ b)) bytes)
    ∙ ap (λ (bs : List ℕ). take at bytes ++ bs) (sym (append_assoc a b (drop (at + length (a ++ b)) bytes)))

-- a piece was written over the bytes from `at` to `end`
pub record Wrote (old new : List ℕ) (at end : ℕ) (piece : List ℕ) : Type 0 where
  pub is : new ≡ overwritten old at piece
  pub end_is : end ≡ at + length piece
  pub room : end ≤ length old

pub wrote : (old : List ℕ) {new : List ℕ} (at : ℕ) (piece : List ℕ) (end : ℕ) → new ≡ overwritten old at piece → end ≡ at + length piece → end ≤ length old
    → Wrote old new at end piece
wrote old at piece end e p h = record { is = e; end_is = p; room = h }

-- and then another, right behind it
pub wrote_next : {old now new : List ℕ} {at place : ℕ} {a : List ℕ} (b : List ℕ) (end : ℕ) → Wrote old now at place a → new ≡ overwritten now place b
    → end ≡ place + length b → end ≤ length old → Wrote old new at end (a ++ b)
wrote_next {old} {now} {new} {at} {place} {a} b end w e p h = grind (arith, overwritten_next, length-append)

-- and then a number, right behind it
pub wrote_number : {old now new : List ℕ} {at place : ℕ} {a : List ℕ} (n : ℕ) (order : Order) (x : ℕ) (end : ℕ) → Wrote old now at place a
    → new ≡ overwritten now place (spelled n order x) → end ≡ place + n → end ≤ length old → Wrote old new at end (a ++ spelled n order x)
wrote_number n order x end w e p h = wrote_next (spelled n order x) end w e (omega (arith, length-spelled n order x)) h

-- all that was written, in another form
pub wrote_as : {old new : List ℕ} {at end : ℕ} {a : List ℕ} (b : List ℕ) → Wrote old new at end a → a ≡ b → new ≡ overwritten old at b
wrote_as {old} {new} {at} b w e = w.is ∙ ap (overwritten old at) e

-- two numbers of four bytes
pub length-pair : (order : Order) (x y : ℕ) → length (spelled 4 order x ++ spelled 4 order y) ≡ 8
length-pair order x y = omega (arith, length-append (spelled 4 order x) (spelled 4 order y), length-spelled 4 order x, length-spelled 4 order y)
