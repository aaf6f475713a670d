-- A line at its first equals sign.
use Rattle.std.proofs.Common.{◌≡◌, ℕ, zero, suc, ◌+◌, ◌-◌, ◌<◌, ◌≤◌, ◌==◌, true, false, List, [], ◌∷◌, length, take, drop, Some, None, refl, sym, arith}
use Rattle.std.proofs.Common.{slice_index, length-drop}
use Rattle.std.proofs.lemmas.Bool.{false_from_ne_true}
use Rattle.std.proofs.lemmas.List.{take_all}
use Rattle.bdb_spelling.specs.of_text_format.Terms.{entry_of}

cut_at : (line : List ℕ) (k : ℕ) → k < length line → ((j : ℕ) → 0 ≤ j → j < k → (slice_index line j == 61) ≡ true → ⊥) → (slice_index line k == 61) ≡ true
    → entry_of line ≡ Some (record { name = take k line; value = drop (suc k) line })
cut_at [] k lt before at = absurd (omega arith)
cut_at (byte ∷ line) zero lt before at = rw at refl
cut_at (byte ∷ line) (suc k) lt before at =
    let other : (byte == 61) ≡ false = false_from_ne_true (byte == 61) (before 0 (omega arith) (omega arith)) in
    let ih = cut_at line k (omega arith) (λ j low high. before (suc j) (omega arith) (omega arith)) at in
    rw (other, ih) refl

pub cut_some : (line : List ℕ) (k : ℕ) → k < length line → ((j : ℕ) → 0 ≤ j → j < k → (slice_index line j == 61) ≡ true → ⊥) → (slice_index line k == 61) ≡ true
    → Some (record { name = take k line; value = take (length line - (k + 1)) (drop (k + 1) line) }) ≡ entry_of line
cut_some line k lt before at =
    let size = length-drop (k + 1) line in
    let rest : take (length line - (k + 1)) (drop (k + 1) line) ≡ drop (k + 1) line = take_all (length line - (k + 1)) (drop (k + 1) line) (omega arith) in
    let one : k + 1 ≡ suc k = omega arith in
    rw (rest, one) (sym (cut_at line k lt before at))

pub cut_none : (line : List ℕ) → ((j : ℕ) → 0 ≤ j → j < length line → (slice_index line j == 61) ≡ true → ⊥) → None ≡ entry_of line
cut_none [] before = refl
cut_none (byte ∷ line) before =
    let other : (byte == 61) ≡ false = false_from_ne_true (byte == 61) (before 0 (omega arith) (omega arith)) in
    let ih = cut_none line (λ j low high. before (suc j) (omega arith) (omega arith)) in
    rw (other, ← ih) refl
