-- Cutting off a line.
use Rattle.std.proofs.Common.{if◌then◌else◌, ◌≡◌, ℕ, zero, suc, ◌+◌, ◌-◌, ◌<◌, ◌≤◌, ◌==◌, true, false, List, [], ◌∷◌, length, take, drop, refl, sym, ap, ◌∙◌}
use Rattle.std.proofs.Common.{arith, slice_index, length-drop, drop_of_length-le}
use Rattle.std.proofs.lemmas.Bool.{false_from_ne_true}
use Rattle.std.proofs.lemmas.List.{take_all}
use Rattle.bdb_spelling.specs.of_text_format.Terms.{onto_first, text_lines}

cut_at : (text : List ℕ) (k : ℕ) → k < length text → ((j : ℕ) → 0 ≤ j → j < k → (slice_index text j == 10) ≡ true → ⊥) → (slice_index text k == 10) ≡ true
    → text_lines text ≡ take k text ∷ text_lines (drop (suc k) text)
cut_at [] k lt before at = absurd (omega arith)
cut_at (byte ∷ text) zero lt before at = rw at refl
cut_at (byte ∷ text) (suc k) lt before at =
    let other : (byte == 10) ≡ false = false_from_ne_true (byte == 10) (before 0 (omega arith) (omega arith)) in
    let ih = cut_at text k (omega arith) (λ j low high. before (suc j) (omega arith) (omega arith)) at in
    rw (other, ih) refl

-- as the code has it
pub cut_some : (text : List ℕ) (k : ℕ) → k < length text → ((j : ℕ) → 0 ≤ j → j < k → (slice_index text j == 10) ≡ true → ⊥) → (slice_index text k == 10) ≡ true
    → text_lines text ≡ take k text ∷ text_lines (take (length text - (k + 1)) (drop (k + 1) text))
cut_some text k lt before at =
    let size = length-drop (k + 1) text in
    let rest : take (length text - (k + 1)) (drop (k + 1) text) ≡ drop (k + 1) text = take_all (length text - (k + 1)) (drop (k + 1) text) (omega arith) in
    let one : k + 1 ≡ suc k = omega arith in
    rw rest (cut_at text k lt before at ∙ ap (λ (n : ℕ). take k text ∷ text_lines (drop n text)) (sym one))

cut_last : (text : List ℕ) → 0 < length text → ((j : ℕ) → 0 ≤ j → j < length text → (slice_index text j == 10) ≡ true → ⊥) → text_lines text ≡ text ∷ []
cut_last [] lt before = absurd (omega arith)
cut_last (byte ∷ []) lt before =
    let other : (byte == 10) ≡ false = false_from_ne_true (byte == 10) (before 0 (omega arith) (omega arith)) in
    rw other refl
cut_last (byte ∷ b ∷ text) lt before =
    let other : (byte == 10) ≡ false = false_from_ne_true (byte == 10) (before 0 (omega arith) (omega arith)) in
    let ih = cut_last (b ∷ text) (omega arith) (λ j low high. before (suc j) (omega arith) (omega arith)) in
    ap (λ (lines : List (List ℕ)). if byte == 10 then [] ∷ lines else onto_first byte lines) ih ∙ rw other refl

pub cut_none : (text : List ℕ) → 0 < length text → ((j : ℕ) → 0 ≤ j → j < length text → (slice_index text j == 10) ≡ true → ⊥)
    → text_lines text ≡ text ∷ text_lines (take (length text - length text) (drop (length text) text))
cut_none text lt before =
    let nil : drop (length text) text ≡ [] = drop_of_length-le text {i = length text} (omega arith) in
    let none : length text - length text ≡ 0 = omega arith in
    rw (nil, none) (cut_last text lt before)
