-- Reading a spelling a run at a time.
use Rattle.std.proofs.Common.{min, length-take, length-drop, drop_of_length-le, nat_le, ◌≡◌, ◌≢◌, ℕ, zero, suc, ◌+◌, ◌-◌, ◌*◌, ◌<◌, ◌≤◌, ◌==◌, Bool, true}
use Rattle.std.proofs.Common.{false, List, [], ◌∷◌, ◌++◌, length, take, drop, slice_index, slice_set, Option, Some, None, refl, sym, ap, ◌∙◌, arith}
use Rattle.std.proofs.Common.{append_assoc, is_some, ◌⊎◌, inl, inr}
use Rattle.std.proofs.lemmas.List.{append-nil, drop_all, drop_more, take_all, take-append-drop, take_more_set}
use Rattle.std.proofs.lemmas.Bool.{false_from_ne_true, leb-true, leb-false, or_from, or_parts}
use Rattle.bdb_text_format.specs.Terms.{before, byte_before, byte_of_digits, bytes_spelled, digit_value, next_unit}
use Rattle.bdb_text_format.proofs.UnitLemmas.{read_empty, read_no_unit, read_unit}
use Rattle.bdb_spelling.specs.Runs.{has_backslash, joined}
use Rattle.bdb_spelling.proofs.ReadingLemmas.{spelled_empty}

-- Digits.

abbrev pub before_where : Option ℕ → Option (List ℕ) → Option (List ℕ)
before_where None bytes = None
before_where (Some byte) bytes = before byte bytes

pair_by : (high low : ℕ) (text : List ℕ) (byte : Option ℕ) → byte_of_digits (digit_value high) (digit_value low) ≡ byte
    → bytes_spelled false (high ∷ low ∷ text) ≡ before_where byte (bytes_spelled false text)
pair_by high low text None is = read_no_unit false (high ∷ low ∷ text) (omega arith) (ap (λ b. byte_before b text) is)
pair_by high low text (Some byte) is = read_unit false (high ∷ low ∷ text) byte text (ap (λ b. byte_before b text) is)

-- two digits, and those behind them
pub spelled-pair : (high low : ℕ) (text : List ℕ)
    → bytes_spelled false (high ∷ low ∷ text) ≡ before_where (byte_of_digits (digit_value high) (digit_value low)) (bytes_spelled false text)
spelled-pair high low text = pair_by high low text (byte_of_digits (digit_value high) (digit_value low)) refl

spelled-lone : (digit : ℕ) → bytes_spelled false (digit ∷ []) ≡ None
spelled-lone digit = read_no_unit false (digit ∷ []) (omega arith) refl

-- both were read
abbrev both : Option (List ℕ) → Option (List ℕ) → Option (List ℕ)
both None behind = None
both (Some bytes) behind = joined bytes behind

joined_before : (byte : ℕ) (bytes : List ℕ) (behind : Option (List ℕ)) → before byte (joined bytes behind) ≡ joined (byte ∷ bytes) behind
joined_before byte bytes None = refl
joined_before byte bytes (Some behind) = refl

both_before : (byte : Option ℕ) (bytes behind : Option (List ℕ)) → before_where byte (both bytes behind) ≡ both (before_where byte bytes) behind
both_before None bytes behind = refl
both_before (Some byte) None behind = refl
both_before (Some byte) (Some bytes) behind = joined_before byte bytes behind

both_empty : (behind : Option (List ℕ)) → behind ≡ both (Some []) behind
both_empty None = refl
both_empty (Some behind) = refl

-- digits of whole bytes, and what stands behind them
spelled-append : (k : ℕ) (run rest : List ℕ) → length run ≡ 2 * k
    → bytes_spelled false (run ++ rest) ≡ both (bytes_spelled false run) (bytes_spelled false rest)
spelled-append k [] rest size = rw (read_empty false) (both_empty (bytes_spelled false rest))
spelled-append k (high ∷ []) rest size = absurd (omega arith)
spelled-append zero (high ∷ low ∷ run) rest size = absurd (omega arith)
spelled-append (suc k) (high ∷ low ∷ run) rest size =
    spelled-pair high low (run ++ rest)
    ∙ ap (before_where (byte_of_digits (digit_value high) (digit_value low))) (spelled-append k run rest (omega arith))
    ∙ both_before (byte_of_digits (digit_value high) (digit_value low)) (bytes_spelled false run) (bytes_spelled false rest)
    ∙ ap (λ bytes. both bytes (bytes_spelled false rest)) (sym (spelled-pair high low run))

pub spelled-odd : (run : List ℕ) (k : ℕ) → length run ≡ 2 * k + 1 → bytes_spelled false run ≡ None
spelled-odd [] k size = absurd (omega arith)
spelled-odd (digit ∷ []) k size = spelled-lone digit
spelled-odd (high ∷ low ∷ run) zero size = absurd (omega arith)
spelled-odd (high ∷ low ∷ run) (suc k) size =
    spelled-pair high low run ∙ ap (before_where (byte_of_digits (digit_value high) (digit_value low))) (spelled-odd run k (omega arith))
    ∙ none_before (byte_of_digits (digit_value high) (digit_value low))
  where
    none_before : (byte : Option ℕ) → before_where byte None ≡ None
    none_before None = refl
    none_before (Some byte) = refl

-- Digits decoded pair by pair.

-- what is left of a run, at a whole pair
drop_pair : (run : List ℕ) (i : ℕ) → 2 * i + 1 < length run
    → drop (2 * i) run ≡ slice_index run (2 * i) ∷ slice_index run (2 * i + 1) ∷ drop (2 * (i + 1)) run
drop_pair run i within =
    let first = drop_more run (2 * i) 0 (omega arith) in
    let second = drop_more run (2 * i + 1) 0 (omega arith) in
    let two : 2 * i + 1 + 1 ≡ 2 * (i + 1) = omega arith in
    rw (first, second, two) refl

pair_at : (run : List ℕ) (i : ℕ) (byte : Option ℕ) → 2 * i + 1 < length run
    → byte ≡ byte_of_digits (digit_value (slice_index run (2 * i))) (digit_value (slice_index run (2 * i + 1)))
    → bytes_spelled false (drop (2 * i) run) ≡ before_where byte (bytes_spelled false (drop (2 * (i + 1)) run))
pair_at run i byte within is =
    ap (bytes_spelled false) (drop_pair run i within)
    ∙ spelled-pair (slice_index run (2 * i)) (slice_index run (2 * i + 1)) (drop (2 * (i + 1)) run)
    ∙ ap (λ b. before_where b (bytes_spelled false (drop (2 * (i + 1)) run))) (sym is)

joined_push : (front : List ℕ) (byte : ℕ) (behind : Option (List ℕ)) → joined front (before byte behind) ≡ joined (front ++ byte ∷ []) behind
joined_push front byte None = refl
joined_push front byte (Some behind) = ap Some (sym (append_assoc front (byte ∷ []) behind))

-- no pair is decoded yet
pub decode_start : (run out : List ℕ) → bytes_spelled false run ≡ joined (take 0 out) (bytes_spelled false (drop (2 * 0) run))
decode_start run out = joined_nil (bytes_spelled false run)
  where
    joined_nil : (bytes : Option (List ℕ)) → bytes ≡ joined [] bytes
    joined_nil None = refl
    joined_nil (Some bytes) = refl

-- one pair more
pub decode_step : (run out : List ℕ) (i byte : ℕ) → 2 * i + 1 < length run → i < length out
    → Some byte ≡ byte_of_digits (digit_value (slice_index run (2 * i))) (digit_value (slice_index run (2 * i + 1)))
    → bytes_spelled false run ≡ joined (take i out) (bytes_spelled false (drop (2 * i) run))
    → bytes_spelled false run ≡ joined (take (i + 1) (slice_set out i byte)) (bytes_spelled false (drop (2 * (i + 1)) run))
decode_step run out i byte within room is so_far =
    so_far ∙ ap (joined (take i out)) (pair_at run i (Some byte) within is)
    ∙ joined_push (take i out) byte (bytes_spelled false (drop (2 * (i + 1)) run))
    ∙ ap (λ front. joined front (bytes_spelled false (drop (2 * (i + 1)) run))) (sym (take_more_set out i byte room))

-- a pair that has no byte
pub decode_refused : (run out : List ℕ) (i : ℕ) → 2 * i + 1 < length run
    → None ≡ byte_of_digits (digit_value (slice_index run (2 * i))) (digit_value (slice_index run (2 * i + 1)))
    → bytes_spelled false run ≡ joined (take i out) (bytes_spelled false (drop (2 * i) run)) → bytes_spelled false run ≡ None
decode_refused run out i within none so_far = so_far ∙ ap (joined (take i out)) (pair_at run i None within none)

-- all pairs
pub decode_done : (run out : List ℕ) (i : ℕ) → length out ≤ i → length run ≤ 2 * i
    → bytes_spelled false run ≡ joined (take i out) (bytes_spelled false (drop (2 * i) run)) → bytes_spelled false run ≡ Some out
decode_done run out i full all so_far =
    so_far ∙ ap (λ rest. joined (take i out) (bytes_spelled false rest)) (drop_all (2 * i) run all)
    ∙ ap (joined (take i out)) (read_empty false)
    ∙ ap Some (append-nil (take i out) ∙ take_all i out full)

-- A run of digits.

-- the run, and what stands behind it
abbrev pub run_size : List ℕ → ℕ
run_size rest = min (length rest) 1024

abbrev pub behind : ℕ → List ℕ → List ℕ
behind n rest = take (length rest - n) (drop n rest)

behind-drop : (n : ℕ) (rest : List ℕ) → behind n rest ≡ drop n rest
behind-drop n rest = let size = length-drop n rest in take_all (length rest - n) (drop n rest) (omega arith)

run-behind : (n : ℕ) (rest : List ℕ) → take n rest ++ behind n rest ≡ rest
run-behind n rest = rw (behind-drop n rest) (take-append-drop n rest)

-- a run is of whole bytes, or nothing stands behind it
spelled-run_by : (run rest : List ℕ) → (length run ≡ 1024) ⊎ (rest ≡ [])
    → bytes_spelled false (run ++ rest) ≡ both (bytes_spelled false run) (bytes_spelled false rest)
spelled-run_by run rest (inl full) = spelled-append 512 run rest full
spelled-run_by run rest (inr last) =
    ap (λ r. bytes_spelled false (run ++ r)) last ∙ ap (bytes_spelled false) (append-nil run) ∙ both_last (bytes_spelled false run)
    ∙ ap (λ r. both (bytes_spelled false run) r) (sym (ap (bytes_spelled false) last ∙ read_empty false))
  where
    both_last : (bytes : Option (List ℕ)) → bytes ≡ both bytes (Some [])
    both_last None = refl
    both_last (Some bytes) = ap Some (sym (append-nil bytes))

full_or_last : (rest : List ℕ) → (length (take (run_size rest) rest) ≡ 1024) ⊎ (behind (run_size rest) rest ≡ [])
full_or_last rest =
    elim (nat_le 1024 (length rest)) as (λ long. nat_le 1024 (length rest) ≡ long
    → (length (take (run_size rest) rest) ≡ 1024) ⊎ (behind (run_size rest) rest ≡ [])) [
      | true ↦ λ is. inl (let few = leb-true 1024 (length rest) is in simp length-take (omega arith))
      | false ↦ λ is. inr (let few = leb-false 1024 (length rest) is in
          behind-drop (run_size rest) rest ∙ drop_of_length-le rest {i = run_size rest} (omega arith))
    ] refl

spelled-run : (rest : List ℕ)
    → bytes_spelled false rest ≡ both (bytes_spelled false (take (run_size rest) rest)) (bytes_spelled false (behind (run_size rest) rest))
spelled-run rest =
    ap (bytes_spelled false) (sym (run-behind (run_size rest) rest))
    ∙ spelled-run_by (take (run_size rest) rest) (behind (run_size rest) rest) (full_or_last rest)

pub digits_read : (text bytes : List ℕ) (n : ℕ) → n ≡ run_size text → bytes_spelled false (take n text) ≡ Some bytes
    → bytes_spelled false text ≡ joined bytes (bytes_spelled false (behind n text))
digits_read text bytes n size is =
    rw size (spelled-run text ∙ ap (λ b. both b (bytes_spelled false (behind (run_size text) text))) (ap (λ k. bytes_spelled false (take k text)) (sym size) ∙ is))

pub digits_refused : (text : List ℕ) (n : ℕ) → n ≡ run_size text → bytes_spelled false (take n text) ≡ None → bytes_spelled false text ≡ None
digits_refused text n size is =
    spelled-run text ∙ ap (λ b. both b (bytes_spelled false (behind (run_size text) text))) (ap (λ k. bytes_spelled false (take k text)) (sym size) ∙ is)

-- Printed texts.

pub no_backslash : (text : List ℕ) (n : ℕ) → n ≤ length text → ((k : ℕ) → 0 ≤ k → k < n → (slice_index text k == 92) ≡ true → ⊥)
    → has_backslash (take n text) ≡ false
no_backslash text zero within before = refl
no_backslash [] (suc n) within before = absurd (omega arith)
no_backslash (byte ∷ text) (suc n) within before =
    or_from (byte == 92) (has_backslash (take n text)) (false_from_ne_true (byte == 92) (before 0 (omega arith) (omega arith)))
    (no_backslash text n (omega arith) (λ k low high. before (suc k) (omega arith) (omega arith)))

spelled-plain : (run rest : List ℕ) → has_backslash run ≡ false → bytes_spelled true (run ++ rest) ≡ joined run (bytes_spelled true rest)
spelled-plain [] rest plain = joined_nil (bytes_spelled true rest)
  where
    joined_nil : (bytes : Option (List ℕ)) → bytes ≡ joined [] bytes
    joined_nil None = refl
    joined_nil (Some bytes) = refl
spelled-plain (byte ∷ run) rest plain =
    let parts = or_parts (byte == 92) (has_backslash run) plain in
    read_unit true (byte ∷ (run ++ rest)) byte (run ++ rest) (rw parts.0 refl)
    ∙ ap (before byte) (spelled-plain run rest parts.1) ∙ joined_before byte run (bytes_spelled true rest)

pub plain_read : (text : List ℕ) (n : ℕ) → has_backslash (take n text) ≡ false
    → bytes_spelled true text ≡ joined (take n text) (bytes_spelled true (behind n text))
plain_read text n plain = ap (bytes_spelled true) (sym (run-behind n text)) ∙ spelled-plain (take n text) (behind n text) plain

-- one byte
pub unit_read : (print : Bool) (text : List ℕ) (byte : ℕ) (behind : List ℕ) → Some (byte, behind) ≡ next_unit print text
    → bytes_spelled print text ≡ joined (byte ∷ []) (bytes_spelled print behind)
unit_read print text byte behind unit = read_unit print text byte behind (sym unit) ∙ one (bytes_spelled print behind)
  where
    one : (bytes : Option (List ℕ)) → before byte bytes ≡ joined (byte ∷ []) bytes
    one None = refl
    one (Some bytes) = refl

pub unit_refused : (print : Bool) (text : List ℕ) → length text ≢ 0 → None ≡ next_unit print text → bytes_spelled print text ≡ None
unit_refused print text some none = read_no_unit print text (omega arith) (sym none)

-- From run to run.

joined_joined : (bytes more : List ℕ) (behind : Option (List ℕ)) → joined bytes (joined more behind) ≡ joined (bytes ++ more) behind
joined_joined bytes more None = refl
joined_joined bytes more (Some behind) = ap Some (sym (append_assoc bytes more behind))

-- a text is a spelling where what stands behind its first run is one
pub is_some-behind : (print : Bool) (text rest more behind : List ℕ) → is_some (bytes_spelled print text) ≡ is_some (bytes_spelled print rest)
    → bytes_spelled print rest ≡ joined more (bytes_spelled print behind) → is_some (bytes_spelled print text) ≡ is_some (bytes_spelled print behind)
is_some-behind print text rest more behind so_far run = so_far ∙ ap is_some run ∙ kept (bytes_spelled print behind)
  where
    kept : (bytes : Option (List ℕ)) → is_some (joined more bytes) ≡ is_some bytes
    kept None = refl
    kept (Some bytes) = refl

-- Behind other bytes.

-- a text was read whole
pub read_whole : (print : Bool) (text old bytes rest : List ℕ)
    → joined old (bytes_spelled print text) ≡ joined bytes (bytes_spelled print rest) → length rest ≡ 0
    → joined old (bytes_spelled print text) ≡ Some bytes
read_whole print text old bytes rest is none = is ∙ ap (joined bytes) (spelled_empty print rest none) ∙ ap Some (append-nil bytes)

-- one run more
pub run_behind : (print : Bool) (text old bytes rest more behind : List ℕ)
    → joined old (bytes_spelled print text) ≡ joined bytes (bytes_spelled print rest)
    → bytes_spelled print rest ≡ joined more (bytes_spelled print behind)
    → joined old (bytes_spelled print text) ≡ joined (bytes ++ more) (bytes_spelled print behind)
run_behind print text old bytes rest more behind so_far run = so_far ∙ ap (joined bytes) run ∙ joined_joined bytes more (bytes_spelled print behind)

none_from : (old : List ℕ) (bytes : Option (List ℕ)) → joined old bytes ≡ None → bytes ≡ None
none_from old None none = refl
none_from old (Some bytes) none = none-absurd none
  where
    none-absurd : Some (old ++ bytes) ≡ None → Some bytes ≡ None
    none-absurd e = cc

-- a run that is refused
pub refused_behind : (print : Bool) (text old bytes rest : List ℕ)
    → joined old (bytes_spelled print text) ≡ joined bytes (bytes_spelled print rest)
    → bytes_spelled print rest ≡ None → bytes_spelled print text ≡ None
refused_behind print text old bytes rest so_far none = none_from old (bytes_spelled print text) (so_far ∙ ap (joined bytes) none)
