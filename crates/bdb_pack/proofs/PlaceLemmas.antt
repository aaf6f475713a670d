-- Bytes that are written over elsewhere stay.
use Rattle.std.proofs.Common.{◌≡◌, ℕ, ◌+◌, ◌-◌, ◌^◌, ◌<◌, ◌≤◌, List, ◌++◌, length, take, drop, arith, sym, ◌∙◌, ap, length-drop}
use Rattle.bdb_pack.proofs.Common.{drop-append-add, drop-append-le, drop-drop, drop-take, get_or_append_left, get_or-take, length-take-le, take-append-le, take-take, Order, byte_at, number, number_at}
use Rattle.bdb_pack.proofs.Common.{overwritten, spelled, byte_at-from, number_at-from, number_at-spelled}

pub number_before : (n : ℕ) (order : Order) (bytes : List ℕ) (at : ℕ) (piece : List ℕ) (x : ℕ) → x + n ≤ at → at ≤ length bytes
    → number_at n order (overwritten bytes at piece) x ≡ number_at n order bytes x
unfolding number_at
number_before n order bytes at piece x low room =
    let long : length (take at bytes) ≡ at = length-take-le at bytes room in
    let e : at ≡ x + (at - x) = omega (arith, low) in
    ap (λ bs. number order (take n bs)) (drop-append-le x (take at bytes) (piece ++ drop (at + length piece) bytes) (omega arith))
    ∙ (ap (number order) (take-append-le n (drop x (take at bytes)) (piece ++ drop (at + length piece) bytes) (omega (arith, length-drop x (take at bytes))))
    ∙ (ap (λ k. number order (take n (drop x (take k bytes)))) e
    ∙ (ap (λ bs. number order (take n bs)) (drop-take x (at - x) bytes)
    ∙ ap (number order) (take-take n (at - x) (drop x bytes) (omega (arith, low))))))

pub byte_before : (bytes : List ℕ) (at : ℕ) (piece : List ℕ) (x : ℕ) → x < at → at ≤ length bytes → byte_at (overwritten bytes at piece) x ≡ byte_at bytes x
byte_before bytes at piece x low room = grind (arith, get_or_append_left, length-take-le, get_or-take)

-- what stands behind what was written
pub behind : (bytes : List ℕ) (at : ℕ) (piece : List ℕ) (x : ℕ) → at + length piece ≤ x → at ≤ length bytes → drop x (overwritten bytes at piece) ≡ drop x bytes
behind bytes at piece x high room =
    let long : length (take at bytes) ≡ at = length-take-le at bytes room in
    let rest : List ℕ = drop (at + length piece) bytes in
    let k : ℕ = x - (at + length piece) in
    let e : x ≡ length (take at bytes) + (length piece + k) = omega (arith, high, long) in
    ap (λ n. drop n (overwritten bytes at piece)) e
    ∙ (drop-append-add (take at bytes) (piece ++ rest) (length piece + k)
    ∙ (drop-append-add piece rest k
    ∙ (drop-drop k (at + length piece) bytes ∙ ap (λ n. drop n bytes) (omega (arith, high)))))

-- what stands from there on
pub from_here : (bytes : List ℕ) (at : ℕ) (piece : List ℕ) → at ≤ length bytes → drop at (overwritten bytes at piece) ≡ piece ++ drop (at + length piece) bytes
from_here bytes at piece room =
    let long : length (take at bytes) ≡ at = length-take-le at bytes room in
    let e : at ≡ length (take at bytes) + 0 = omega (arith, long) in
    ap (λ n. drop n (overwritten bytes at piece)) e ∙ drop-append-add (take at bytes) (piece ++ drop (at + length piece) bytes) 0

pub number_here : (n : ℕ) (order : Order) (bytes : List ℕ) (at x : ℕ) → x < 256 ^ n → at ≤ length bytes
    → number_at n order (overwritten bytes at (spelled n order x)) at ≡ x
number_here n order bytes at x fits room =
    let long : length (take at bytes) ≡ at = length-take-le at bytes room in
    ap (number_at n order (overwritten bytes at (spelled n order x))) (sym long)
    ∙ number_at-spelled n order x (take at bytes) (drop (at + length (spelled n order x)) bytes) fits

-- what is read behind a place doesn't see what stands before it
pub number_same : (n : ℕ) (order : Order) (a b : List ℕ) (h x : ℕ) → drop h a ≡ drop h b → h ≤ x → number_at n order a x ≡ number_at n order b x
number_same n order a b h x same low =
    let e : x ≡ h + (x - h) = omega (arith, low) in
    ap (number_at n order a) e
    ∙ (number_at-from n order a h (x - h)
    ∙ (ap (λ bs. number_at n order bs (x - h)) same ∙ (sym (number_at-from n order b h (x - h)) ∙ ap (number_at n order b) (sym e))))

pub byte_same : (a b : List ℕ) (h x : ℕ) → drop h a ≡ drop h b → h ≤ x → byte_at a x ≡ byte_at b x
byte_same a b h x same low =
    let e : x ≡ h + (x - h) = omega (arith, low) in
    ap (byte_at a) e ∙ (byte_at-from a h (x - h) ∙ (ap (λ bs. byte_at bs (x - h)) same ∙ (sym (byte_at-from b h (x - h)) ∙ ap (byte_at b) (sym e))))

pub drop_same : (a b : List ℕ) (h x : ℕ) → drop h a ≡ drop h b → h ≤ x → drop x a ≡ drop x b
drop_same a b h x same low =
    let e : x ≡ h + (x - h) = omega (arith, low) in
    ap (λ n. drop n a) e ∙ (sym (drop-drop (x - h) h a) ∙ (ap (drop (x - h)) same ∙ (drop-drop (x - h) h b ∙ ap (λ n. drop n b) (sym e))))
