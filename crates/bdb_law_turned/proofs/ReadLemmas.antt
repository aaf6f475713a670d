-- What is read of bytes whose numbers are byte-swapped.
use Rattle.std.proofs.Common.{◌≡◌, ◌∙◌, ◌⊎◌, inl, inr, ℕ, ◌+◌, ◌-◌, ◌*◌, ◌<◌, ◌≤◌, List, [], ◌∷◌, length, take, drop, reverse, refl, sym, ap, arith}
use Rattle.std.proofs.Common.{length-drop, slice_range, true, false, map}
use Rattle.std.specs.List.{Contains, range_with_len}
use Rattle.std.proofs.lemmas.Bool.Decides.{nat_tests}
use Rattle.bdb_graph.specs.of_format.Terms.{byte_at, is_zero, number, number_at, turned}
use Rattle.std.proofs.lemmas.List.{ext_get_or, length-take-le, length-reverse, get_or-take, get_or-drop, get_or-reverse, get_or_past}
use Rattle.bdb_graph.proofs.of_format.TurnLemmas.{number-turned}
use Rattle.bdb_graph.specs.of_format.declared.kinds.Order.{Order}
use Rattle.bdb_law_turned.specs.Fields.{Field, field}
use Rattle.bdb_law_turned.specs.Turning.{mirror, turned_round}
use Rattle.bdb_law_turned.specs.Apart.{AreApart, IsUntouched, LieWithin}
use Rattle.bdb_law_turned.proofs.PlaceLemmas.{mirror-inside, mirror-outside, mirror-within, length-turned_round, get_or-turned_round, places_turn_back}
use Rattle.bdb_graph.proofs.of_format.PageLemmas.{zero_byte}

-- bytes that are others with these numbers byte-swapped: all that is read of them
pub record IsTurned (fields : List Field) (bytes other : List ℕ) : Type 0 where
  pub same_length : length other ≡ length bytes
  pub within : LieWithin fields (length bytes)
  pub number : (f : Field) → Contains fields f → take f.width (drop f.begin other) ≡ reverse (take f.width (drop f.begin bytes))
  pub kept : (k : ℕ) → IsUntouched fields k → byte_at other k ≡ byte_at bytes k

-- the bytes of a number, in the reverse order
turned_number : (fields : List Field) (bytes : List ℕ) (f : Field) → AreApart fields → LieWithin fields (length bytes) → Contains fields f
    → take f.width (drop f.begin (turned_round fields bytes)) ≡ reverse (take f.width (drop f.begin bytes))
turned_number fields bytes f apart within at =
    let other : List ℕ = turned_round fields bytes in
    let w : ℕ = f.width in
    let b : ℕ = f.begin in
    let inside : b + w ≤ length bytes = within f at in
    let same_length : length other ≡ length bytes = length-turned_round fields bytes in
    let left : length (take w (drop b other)) ≡ w = length-take-le w (drop b other) (omega (arith, length-drop b other)) in
    let right : length (take w (drop b bytes)) ≡ w = length-take-le w (drop b bytes) (omega (arith, length-drop b bytes)) in
    let place : (k : ℕ) → k < w → byte_at (take w (drop b other)) k ≡ byte_at (reverse (take w (drop b bytes))) k =
    λ k lt.
    let there : mirror fields (b + k) ≡ (2 * b + w) - 1 - (b + k) = mirror-inside fields (b + k) f apart at (omega arith) (omega arith) in
    let sums : (2 * b + w) - 1 - (b + k) ≡ b + (w - 1 - k) = omega arith in
    let last : length (take w (drop b bytes)) - 1 - k ≡ w - 1 - k = ap (λ (n : ℕ). n - 1 - k) right in
    get_or-take w (drop b other) k 0 lt ∙ (get_or-drop b other k 0 ∙ (get_or-turned_round fields bytes (b + k) (omega arith)
    ∙ (ap (byte_at bytes) (there ∙ sums) ∙ (sym (get_or-drop b bytes (w - 1 - k) 0) ∙ (sym (get_or-take w (drop b bytes) (w - 1 - k) 0 (omega arith))
    ∙ (ap (byte_at (take w (drop b bytes))) (sym last) ∙ sym (get_or-reverse (take w (drop b bytes)) k 0 (omega arith)))))))) in
    ext_get_or 0 (take w (drop b other)) (reverse (take w (drop b bytes))) (left ∙ (sym right ∙ sym (length-reverse (take w (drop b bytes)))))
    (λ k lt. place k (omega arith))

turned_byte : (fields : List Field) (bytes : List ℕ) (k : ℕ) → IsUntouched fields k → byte_at (turned_round fields bytes) k ≡ byte_at bytes k
turned_byte fields bytes k untouched =
    elim (below_or_not k (length bytes)) [
      | inl lt ↦ get_or-turned_round fields bytes k lt ∙ ap (byte_at bytes) (mirror-outside fields k untouched)
      | inr past ↦ get_or_past (turned_round fields bytes) k 0 (omega (arith, length-turned_round fields bytes)) ∙ sym (get_or_past bytes k 0 past)
    ]
  where
    below_or_not : (k n : ℕ) → (k < n) ⊎ (n ≤ k)
    below_or_not k n = grind arith

pub turned_is : (fields : List Field) (bytes : List ℕ) → AreApart fields → LieWithin fields (length bytes) → IsTurned fields bytes (turned_round fields bytes)
turned_is fields bytes apart within = record {
  same_length = length-turned_round fields bytes;
  within = within;
  number = λ f at. turned_number fields bytes f apart within at;
  kept = turned_byte fields bytes;
}

-- a number says the same in the other order
pub number_same : (fields : List Field) (bytes other : List ℕ) (order : Order) (begin width : ℕ) → IsTurned fields bytes other
    → Contains fields (field begin width)
    → number_at width (turned order) other begin ≡ number_at width order bytes begin
unfolding number_at
number_same fields bytes other order begin width is at =
    ap (number (turned order)) (is.number (field begin width) at) ∙ number-turned order (take width (drop begin bytes))

-- bytes in no number stay
pub slice_same : (fields : List Field) (bytes other : List ℕ) (from to : ℕ) → IsTurned fields bytes other → to ≤ length bytes
    → ((k : ℕ) → from ≤ k → k < to → IsUntouched fields k) → slice_range other from to ≡ slice_range bytes from to
slice_same fields bytes other from to is inside untouched =
    let same_length : length other ≡ length bytes = is.same_length in
    let left : length (take (to - from) (drop from other)) ≡ to - from = length-take-le (to - from) (drop from other) (omega (arith, length-drop from other)) in
    let right : length (take (to - from) (drop from bytes)) ≡ to - from = length-take-le (to - from) (drop from bytes) (omega (arith, length-drop from bytes))
    in
    ext_get_or 0 (take (to - from) (drop from other)) (take (to - from) (drop from bytes)) (left ∙ sym right)
    (λ k lt.
    let low : k < to - from = omega arith in
    get_or-take (to - from) (drop from other) k 0 low ∙ (get_or-drop from other k 0
    ∙ (is.kept (from + k) (untouched (from + k) (omega arith) (omega arith))
    ∙ (sym (get_or-drop from bytes k 0) ∙ sym (get_or-take (to - from) (drop from bytes) k 0 low)))))

-- and so does all that follows a place, where no number stands behind it
pub rest_same : (fields : List Field) (bytes other : List ℕ) (from : ℕ) → IsTurned fields bytes other → ((k : ℕ) → from ≤ k → IsUntouched fields k)
    → drop from other ≡ drop from bytes
rest_same fields bytes other from is untouched =
    let same_length : length other ≡ length bytes = is.same_length in
    ext_get_or 0 (drop from other) (drop from bytes) (omega (arith, length-drop from other, length-drop from bytes))
    (λ k lt. get_or-drop from other k 0 ∙ (is.kept (from + k) (untouched (from + k) (omega arith)) ∙ sym (get_or-drop from bytes k 0)))

-- byte-swapped twice, bytes are the first ones
pub turned_twice : (fields : List Field) (bytes : List ℕ) → AreApart fields → LieWithin fields (length bytes) → turned_round fields (turned_round fields bytes)
    ≡ bytes
turned_twice fields bytes apart within =
    let once : List ℕ = turned_round fields bytes in
    let long : length once ≡ length bytes = length-turned_round fields bytes in
    ext_get_or 0 (turned_round fields once) bytes (length-turned_round fields once ∙ long)
    (λ k lt.
    let here : k < length bytes = omega (arith, length-turned_round fields once, length-turned_round fields bytes) in
    get_or-turned_round fields once k (omega (arith, length-turned_round fields bytes))
    ∙ (get_or-turned_round fields bytes (mirror fields k) (mirror-within fields (length bytes) k apart within here)
    ∙ ap (byte_at bytes) (places_turn_back fields k apart)))

-- Zeros.

zeros_by : (f : ℕ → ℕ) (places : List ℕ) → ((k : ℕ) → f k ≡ 0) → is_zero (map f places) ≡ true
zeros_by f [] all = refl
zeros_by f (k ∷ places) all = let here : f k ≡ 0 = all k in let rest : is_zero (map f places) ≡ true = zeros_by f places all in grind (arith, nat_tests)

zeros_turned : (fields : List Field) (bytes : List ℕ) → is_zero bytes ≡ true → is_zero (turned_round fields bytes) ≡ true
unfolding turned_round
zeros_turned fields bytes zeros =
    zeros_by (λ k. byte_at bytes (mirror fields k)) (range_with_len 0 (length bytes)) (λ k. zero_byte bytes (mirror fields k) zeros)

-- a page is zeros exactly where it is so byte-swapped
pub zero_same : (fields : List Field) (bytes : List ℕ) → AreApart fields → LieWithin fields (length bytes) → is_zero bytes ≡ false
    → is_zero (turned_round fields bytes) ≡ false
zero_same fields bytes apart within some =
    elim (is_zero (turned_round fields bytes)) as (λ b. is_zero (turned_round fields bytes) ≡ b → is_zero (turned_round fields bytes) ≡ false) [
      | true ↦ λ zeros. absurd (let back : is_zero (turned_round fields (turned_round fields bytes)) ≡ true = zeros_turned fields (turned_round fields bytes)
          zeros in
          let same : is_zero (turned_round fields (turned_round fields bytes)) ≡ is_zero bytes = ap is_zero (turned_twice fields bytes apart within) in cc)
      | false ↦ λ others. others
    ] refl
