-- The slots of a queue page, by the bytes behind its first 28.
use Rattle.std.proofs.Common.{◌≡◌, ℕ, ◌+◌, ◌*◌, ◌-◌, ◌≤◌, List, length, take, drop, arith, sym, ap, length-drop, slice_range, slice_index}
use Rattle.std.proofs.lemmas.List.{get_or-drop, drop-drop}
use Rattle.bdb_layout.specs.of_format.Terms.{pad4}

-- the record of a slot ends within the page
pub record_ends : (page bytes : List ℕ) (i re_len size : ℕ) → drop 28 page ≡ bytes → (i + 1) * pad4 (re_len + 1) ≤ length bytes
    → size ≡ pad4 (re_len + 1) → re_len + 1 ≤ size
    → 28 + i * size + 1 + re_len ≤ length page
record_ends page bytes i re_len size is room same some =
    let whole : (i + 1) * size ≤ length (drop 28 page) = rw (is, same) room in
    omega (arith, length-drop 28 page, whole, some)

-- the byte that says whether a record is valid
pub valid_byte : (page bytes : List ℕ) (i re_len size : ℕ) → drop 28 page ≡ bytes → size ≡ pad4 (re_len + 1)
    → slice_index page (28 + i * size) ≡ slice_index bytes (i * pad4 (re_len + 1))
valid_byte page bytes i re_len size is same =
    rw (← is, ← same) (sym (get_or-drop 28 page (i * size) 0))

-- the bytes of a record
pub record_is : (page bytes : List ℕ) (i re_len size : ℕ) → drop 28 page ≡ bytes → size ≡ pad4 (re_len + 1)
    → slice_range page (28 + i * size + 1) (28 + i * size + 1 + re_len) ≡ slice_range bytes (i * pad4 (re_len + 1) + 1) (i * pad4 (re_len + 1) + 1 + re_len)
record_is page bytes i re_len size is same =
    let a : 28 + i * size + 1 + re_len - (28 + i * size + 1) ≡ re_len = omega arith in
    let b : i * size + 1 + re_len - (i * size + 1) ≡ re_len = omega arith in
    let c : 28 + (i * size + 1) ≡ 28 + i * size + 1 = omega arith in
    rw (← is, ← same, a, b) (ap (λ x. take re_len x) (rw (← c) (sym (drop-drop (i * size + 1) 28 page))))
