-- The rows of an item, as tests.
use Rattle.std.proofs.Common.{◌≡◌, ℕ, zero, suc, ◌+◌, ◌-◌, ◌<◌, ◌≤◌, true, false, Bool, cond, List, [], ◌∷◌, length, arith, refl, sym, ◌∙◌, ap, subst, None, nat_le, ◌||◌, option_map}
use Rattle.bdb_pack.proofs.Common.{ne_eqb, nat_tests, Order, ItemFault, Extent, Kind, Offset, byte_at, entries_of, first_row, hash_end, hash_rows, item_code, item_row, offset_of, page_type, ◌:?◌}
use Rattle.bdb_pack.proofs.Common.{IsBegun, high_free_of}
use Rattle.bdb_layout.specs.of_format.declared.pages.PageType.TheVariants.{Hash as HashPage}
use Rattle.bdb_layout.proofs.of_format.BoolLemmas.{second_false}

pub none_of_three : (a b c : Bool) → option_map item_code (first_row {Code = ItemFault} (Offset :? a ∷ Kind :? b ∷ Extent :? c ∷ [])) ≡ None
    → (a ≡ false) × (b ≡ false) × (c ≡ false)
none_of_three true b c none = absurd cc
none_of_three false true c none = absurd cc
none_of_three false false true none = absurd cc
none_of_three false false false none = (refl, refl, refl)

pub three_none : (a b c : Bool) → a ≡ false → b ≡ false → c ≡ false
    → option_map item_code (first_row {Code = ItemFault} (Offset :? a ∷ Kind :? b ∷ Extent :? c ∷ [])) ≡ None
three_none a b c p q r = rw (p, q, r) refl

third : (a b c : Bool) → (a || b || c) ≡ false → c ≡ false
third true b c is = absurd cc
third false true c is = absurd cc
third false false c is = is

greater : (a b : ℕ) → nat_le a b ≡ false → b < a
greater a b is = grind (arith, nat_tests)

-- an item of a hash page begins before the one before it
falls : (order : Order) (page : List ℕ) (i : ℕ) → item_row HashPage order page (suc i) ≡ None → offset_of order page (suc i) ≤ offset_of order page i
unfolding hash_rows
falls order page i none = grind (arith, third, none_of_three, ne_eqb, second_false, greater)

fall_on : (order : Order) (page : List ℕ) (n i k : ℕ) → ((j : ℕ) → j < n → item_row HashPage order page j ≡ None) → i + k < n
    → offset_of order page (i + k) ≤ offset_of order page i
fall_on order page n i zero none low = let e : i + 0 ≡ i = omega arith in omega (arith, ap (offset_of order page) e)
fall_on order page n i (suc k) none low =
    let before : offset_of order page (i + k) ≤ offset_of order page i = fall_on order page n i k none (omega (arith, low)) in
    let e : i + suc k ≡ suc (i + k) = omega arith in
    let here : offset_of order page (suc (i + k)) ≤ offset_of order page (i + k) = falls order page (i + k) (none (suc (i + k)) (omega (arith, low))) in
    omega (arith, before, here, ap (offset_of order page) e)

-- the last item of a hash page that takes items begins at its high free offset
pub least_is_last : (order : Order) (page : List ℕ) → IsBegun order page → page_type (byte_at page 25) ≡ HashPage
    → hash_end order page (entries_of order page) ≡ high_free_of order page
least_is_last order page begun hash = of (entries_of order page) refl
  where
    rows : (j : ℕ) → j < entries_of order page → item_row HashPage order page j ≡ None
    rows j low = subst (λ t. item_row t order page j ≡ None) hash (begun.items j low)

    of : (n : ℕ) → entries_of order page ≡ n → hash_end order page n ≡ high_free_of order page
    of zero same = sym (begun.empty same)
    of (suc m) same =
        let at = begun.least (omega (arith, same)) in
        let minus : suc m - 1 ≡ m = omega arith in
        let e : at.0 + (m - at.0) ≡ m = omega (arith, same, at.1) in
        let down : offset_of order page (at.0 + (m - at.0)) ≤ offset_of order page at.0 =
        fall_on order page (entries_of order page) at.0 (m - at.0) rows (omega (arith, same, at.1)) in
        let up : high_free_of order page ≤ offset_of order page m = begun.above m (omega (arith, same)) in
        let here : offset_of order page m ≡ high_free_of order page = omega (arith, down, up, at.2, ap (offset_of order page) e) in
        ap (λ t. cond t (length page) (offset_of order page (suc m - 1))) (ne_eqb (suc m) 0 (λ z. omega arith)) ∙ (ap (offset_of order page) minus ∙ here)
