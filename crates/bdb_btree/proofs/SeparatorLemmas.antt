-- An internal page gone through once: what is kept decides its separators.
use Rattle.std.proofs.Common.{◌≡◌, ℕ, zero, suc, ◌+◌, ◌-◌, ◌<◌, ◌≤◌, Bool, true, false, not, cond, List, [], ◌∷◌, ◌++◌, length, get_or, take, drop, Option}
use Rattle.std.proofs.Common.{Some, None, arith, refl, sym, ◌∙◌, ap, append-nil, ◌&&◌, ◌||◌, nat_le}
use Rattle.std.specs.List.{flat_map, fold, list_any, range_with_len}
use Rattle.std.proofs.lemmas.Bool.{le-leb, false_from_ne_true, not-false, or_parts}
use Rattle.std.proofs.lemmas.List.{drop_all, drop_more, take_more}
use Rattle.std.proofs.lemmas.List.Folds.{list_any-append}
use Rattle.std.proofs.lemmas.List.Sums.{fold-append}
use Rattle.std.proofs.lemmas.Grind.{flat_map-append}
use Rattle.std.proofs.lemmas.Bool.Decides.{nat_tests}
use Rattle.std.proofs.Math.Bool.{or-false, or_assoc}
use Rattle.bdb_ranks.specs.of_format.Terms.{Separated, breaks, less, no_separator}
use Rattle.bdb_ranks.proofs.of_format.MemberLemmas.{in_range, none_pass, none_passes, of_range}
use Rattle.bdb_btree.specs.Bounds.{Bounds, bounds_of, greater_of, is_below, no_bounds, past, under}
use Rattle.bdb_ranks.specs.Order.{is_not_above}
use Rattle.bdb_ranks.proofs.of_format.BoolLemmas.{second_false}
use Rattle.bdb_ranks.proofs.of_format.LessLemmas.{below_less, less_above, less_self, less_trans}

-- Keys below an item.

under_separator : (keys : List (List ℕ)) (bounds : Bounds) → (fold under bounds keys).separator ≡ bounds.separator
under_separator [] bounds = refl
under_separator (key ∷ keys) bounds = under_separator keys (under bounds key)

under_greatest : (keys : List (List ℕ)) (bounds : Bounds) → (fold under bounds keys).greatest ≡ fold greater_of bounds.greatest keys
under_greatest [] bounds = refl
under_greatest (key ∷ keys) bounds = under_greatest keys (under bounds key)

under_wrong : (keys : List (List ℕ)) (bounds : Bounds) → (fold under bounds keys).wrong ≡ (bounds.wrong || list_any (is_below bounds.separator) keys)
under_wrong [] bounds = sym (or-false bounds.wrong)
under_wrong (key ∷ keys) bounds =
    under_wrong keys (under bounds key) ∙ or_assoc bounds.wrong (is_below bounds.separator key) (list_any (is_below bounds.separator) keys)

-- a key isn't above the greater of two where it isn't above one of them
greater_step : (bound value key : List ℕ) (b : Bool) → less bound value ≡ b
    → is_not_above (cond b (Some value) (Some bound)) key ≡ (not (less bound key) || not (less value key))
greater_step bound value key true same = grind (arith, nat_tests, less_trans bound value key)
greater_step bound value key false same = grind (arith, nat_tests, below_less value bound key)

not_above_greater : (keys : List (List ℕ)) (greatest : Option (List ℕ)) (key : List ℕ)
    → is_not_above (fold greater_of greatest keys) key ≡ (is_not_above greatest key || list_any (λ other. not (less other key)) keys)
not_above_greater [] greatest key = sym (or-false (is_not_above greatest key))
not_above_greater (other ∷ keys) None key = not_above_greater keys (Some other) key
not_above_greater (other ∷ keys) (Some bound) key = grind (arith, Some, greater_step, or_assoc, not_above_greater keys (greater_of (Some bound) other) key)

-- Items.

abbrev keys_below : List Separated → List (List ℕ)
keys_below parts = flat_map (λ (part : Separated). part.below) parts

abbrev part_at : List Separated → ℕ → Separated
part_at parts i = get_or parts i no_separator

abbrev key_at : List Separated → ℕ → List ℕ
key_at parts i = (part_at parts i).key

-- the three conditions, of which the first and the third are those of the row, and the second looks below this item alone
abbrev is_before : List Separated → ℕ → Bool
is_before parts i = nat_le 2 i && not (less (key_at parts (i - 1)) (key_at parts i))

abbrev is_above_key : List Separated → ℕ → Bool
is_above_key parts i = list_any (λ other. less other (key_at parts i)) (part_at parts i).below

abbrev is_reached : List Separated → ℕ → Bool
is_reached parts i = list_any (λ other. not (less other (key_at parts i))) (keys_below (take i parts))

abbrev breaks_here : List Separated → ℕ → Bool
breaks_here parts i = (is_before parts i || is_reached parts i) || is_above_key parts i

-- what is kept when the items up to this index have been gone through
record IsKept (parts : List Separated) (n : ℕ) (bounds : Bounds) : Type 0 where
  separator : bounds.separator ≡ cond (nat_le 2 n) (Some (key_at parts (n - 1))) None
  greatest : bounds.greatest ≡ fold greater_of None (keys_below (take n parts))

not_above_if : (b : Bool) (before key : List ℕ) → is_not_above (cond b (Some before) None) key ≡ (b && not (less before key))
not_above_if true before key = refl
not_above_if false before key = refl

past_wrong : (parts : List Separated) (n : ℕ) (bounds : Bounds) → IsKept parts n bounds
    → (past bounds (part_at parts n)).wrong ≡ (bounds.wrong || breaks_here parts n)
past_wrong parts n bounds kept = grind (arith, not_above_if, not_above_greater, None, under_wrong, or_assoc)

keys_more : (parts : List Separated) (n : ℕ) → n < length parts
    → keys_below (take (n + 1) parts) ≡ keys_below (take n parts) ++ (part_at parts n).below
keys_more parts n low =
    ap keys_below (take_more parts n no_separator low)
    ∙ (flat_map-append (λ (part : Separated). part.below) (take n parts) (part_at parts n ∷ [])
    ∙ ap (λ ks. keys_below (take n parts) ++ ks) (append-nil (part_at parts n).below))

kept_more : (parts : List Separated) (n : ℕ) (bounds : Bounds) → 1 ≤ n → n < length parts → IsKept parts n bounds
    → IsKept parts (n + 1) (past bounds (part_at parts n))
kept_more parts n bounds some low kept = grind (arith, under_separator, Some, None, le-leb, under_greatest, keys_more, fold-append)

gone_through : (parts : List Separated) (m n : ℕ) (bounds : Bounds) → 1 ≤ n → n + m ≡ length parts → IsKept parts n bounds
    → (fold past bounds (drop n parts)).wrong ≡ (bounds.wrong || list_any (breaks_here parts) (range_with_len n m))
gone_through parts zero n bounds some all kept =
    ap (λ ps. (fold past bounds ps).wrong) (drop_all n parts (omega arith)) ∙ sym (or-false bounds.wrong)
gone_through parts (suc m) n bounds some all kept =
    ap (λ ps. (fold past bounds ps).wrong) (drop_more parts n no_separator (omega arith))
    ∙ (gone_through parts m (n + 1) (past bounds (part_at parts n)) (omega arith) (omega arith) (kept_more parts n bounds some (omega arith) kept)
    ∙ (ap (λ b. b || list_any (breaks_here parts) (range_with_len (n + 1) m)) (past_wrong parts n bounds kept)
    ∙ or_assoc bounds.wrong (breaks_here parts n) (list_any (breaks_here parts) (range_with_len (n + 1) m))))

-- the state decides the conditions that look below one item alone
wrong_here : (parts : List Separated) → (bounds_of parts).wrong ≡ list_any (breaks_here parts) (range_with_len 1 (length parts - 1))
wrong_here [] = refl
wrong_here (part ∷ parts) =
    gone_through (part ∷ parts) (length (part ∷ parts) - 1) 1 (fold under no_bounds part.below) (omega arith) (omega arith) (record {
      separator = under_separator part.below no_bounds;
      greatest = under_greatest part.below no_bounds ∙ ap (fold greater_of None) (sym (append-nil part.below));
    })
    ∙ ap (λ b. b || list_any (breaks_here (part ∷ parts)) (range_with_len 1 (length (part ∷ parts) - 1)))
    (under_wrong part.below no_bounds ∙ none_pass (is_below None) part.below (λ key at. refl))

-- Looking below one item alone finds what looking below all later ones does, since the keys of the items rise.

-- keys that aren't less than one key aren't less than a lesser one
none_lower : (low high : List ℕ) (keys : List (List ℕ)) → less high low ≡ false → list_any (λ other. less other high) keys ≡ false
    → list_any (λ other. less other low) keys ≡ false
none_lower low high [] up none = refl
none_lower low high (key ∷ keys) up none = grind (arith, nat_tests, less_above key low high, none_lower low high keys)

-- no condition that looks below one item alone fails at an item from index 1 on
abbrev NoneHere : List Separated → Type 0
NoneHere parts = (i : ℕ) → 1 ≤ i → i < length parts → breaks_here parts i ≡ false

record IsSound (parts : List Separated) (i : ℕ) : Type 0 where
  before : is_before parts i ≡ false
  reached : is_reached parts i ≡ false
  above : is_above_key parts i ≡ false

sound_at : (parts : List Separated) (i : ℕ) → breaks_here parts i ≡ false → IsSound parts i
sound_at parts i none = record { before = grind (arith, nat_tests); reached = grind (arith, nat_tests); above = grind (arith, nat_tests) }

keys_rise : (parts : List Separated) (i d : ℕ) → NoneHere parts → 1 ≤ i → i + d < length parts → less (key_at parts (i + d)) (key_at parts i) ≡ false
keys_rise parts i zero none some low =
    let same : i + 0 ≡ i = omega arith in ap (λ n. less (key_at parts n) (key_at parts i)) same ∙ less_self (key_at parts i)
keys_rise parts i (suc d) none some low =
    grind (arith, sound_at, not-false, second_false, le-leb, false_from_ne_true, less_trans, keys_rise parts i d none some (omega arith))

none_later : (parts : List Separated) (i m n : ℕ) → NoneHere parts → 1 ≤ i → i ≤ n → n + m ≡ length parts
    → list_any (λ other. less other (key_at parts i)) (keys_below (drop n parts)) ≡ false
none_later parts i zero n none some up all =
    ap (λ ps. list_any (λ other. less other (key_at parts i)) (keys_below ps)) (drop_all n parts (omega arith))
none_later parts i (suc m) n none some up all =
    let test : List ℕ → Bool = λ other. less other (key_at parts i) in
    let gap : i + (n - i) ≡ n = omega arith in
    let rises : less (key_at parts n) (key_at parts i) ≡ false =
    ap (λ k. less (key_at parts k) (key_at parts i)) (sym gap) ∙ keys_rise parts i (n - i) none some (omega arith) in
    ap (λ ps. list_any test (keys_below ps)) (drop_more parts n no_separator (omega arith))
    ∙ (list_any-append test (part_at parts n).below (keys_below (drop (n + 1) parts))
    ∙ (ap (λ b. b || list_any test (keys_below (drop (n + 1) parts)))
    (none_lower (key_at parts i) (key_at parts n) (part_at parts n).below rises (sound_at parts n (none n (omega arith) (omega arith))).above)
    ∙ none_later parts i m (n + 1) none some (omega arith) (omega arith)))

breaks_none : (parts : List Separated) → NoneHere parts → (i : ℕ) → 1 ≤ i → i < length parts → breaks parts i ≡ false
breaks_none parts none i some low =
    let sound : IsSound parts i = sound_at parts i (none i some low) in
    let later : list_any (λ other. less other (key_at parts i)) (keys_below (drop i parts)) ≡ false =
    none_later parts i (length parts - i) i none some (omega arith) (omega arith) in
    grind (arith, nat_tests, later, sound.before, sound.reached)

here_none : (parts : List Separated) (i : ℕ) → i < length parts → breaks parts i ≡ false → breaks_here parts i ≡ false
here_none parts i low none = grind (arith, nat_tests, or_parts, list_any-append, drop_more)

-- two answers that are false together are the same
same_bool : (a b : Bool) → (a ≡ false → b ≡ false) → (b ≡ false → a ≡ false) → a ≡ b
same_bool a b p q = grind (arith, nat_tests, p, q)

-- the state decides the row
pub wrong_separators : (parts : List Separated) → (bounds_of parts).wrong ≡ list_any (breaks parts) (range_with_len 1 (length parts - 1))
wrong_separators parts =
    wrong_here parts
    ∙ same_bool (list_any (breaks_here parts) (range_with_len 1 (length parts - 1))) (list_any (breaks parts) (range_with_len 1 (length parts - 1)))
    (λ none.
    none_pass (breaks parts) (range_with_len 1 (length parts - 1)) (λ i at.
    let inside : (1 ≤ i) × (i < 1 + (length parts - 1)) = of_range 1 (length parts - 1) i at in
    breaks_none parts (λ j some low. none_passes (breaks_here parts) (range_with_len 1 (length parts - 1)) j none
    (in_range 1 (length parts - 1) j some (omega arith))) i inside.0 (omega (arith, inside))))
    (λ none.
    none_pass (breaks_here parts) (range_with_len 1 (length parts - 1)) (λ i at.
    let inside : (1 ≤ i) × (i < 1 + (length parts - 1)) = of_range 1 (length parts - 1) i at in
    here_none parts i (omega (arith, inside)) (none_passes (breaks parts) (range_with_len 1 (length parts - 1)) i none at)))
