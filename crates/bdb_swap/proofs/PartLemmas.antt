-- Numbers of the parts of a page, byte-swapped one after another.
use Rattle.std.proofs.Common.{◌≡◌, ◌∙◌, ℕ, zero, suc, ◌+◌, ◌*◌, List, [], ◌∷◌, ◌++◌, refl, sym, ap, subst, append-nil, arith, map, reverse, slice_range}
use Rattle.std.specs.List.{flat_map, range_with_len}
use Rattle.std.proofs.lemmas.List.Concat.{flat_map-append}
use Rattle.bdb_io.proofs.of_format.ListLemmas.{range_zero_more}
use Rattle.bdb_io.specs.of_format.Terms.{overwritten}
use Rattle.bdb_law_turned.specs.Fields.{Field, field, fours, index_fields}
use Rattle.bdb_swap.specs.Turns.{Turns}
use Rattle.bdb_swap.proofs.WriteLemmas.{turns_both, turns_one}

-- one number, and then others
pub turns_on : (source old middle new : List ℕ) (at width : ℕ) (rest : List Field) → middle ≡ overwritten old at (reverse (slice_range source at (at + width)))
    → Turns source rest middle new → Turns source (field at width ∷ rest) old new
turns_on source old middle new at width rest is later =
    turns_both source old middle new (field at width ∷ []) rest (turns_one source old middle at width is) later

-- some numbers, and then one
pub turns_then : (source old middle new : List ℕ) (fields all : List Field) (at width : ℕ) → Turns source fields old middle
    → new ≡ overwritten middle at (reverse (slice_range source at (at + width))) → all ≡ fields ++ field at width ∷ [] → Turns source all old new
turns_then source old middle new fields all at width before is whole =
    subst (λ fs. Turns source fs old new) (sym whole)
    (turns_both source old middle new fields (field at width ∷ []) before (turns_one source middle new at width is))

pub fours_more : (at n : ℕ) → fours at (n + 1) ≡ fours at n ++ field (at + 4 * n) 4 ∷ []
fours_more at zero = let here : at ≡ at + 4 * 0 = omega arith in ap (λ k. field k 4 ∷ []) here
fours_more at (suc n) =
    let there : at + 4 + 4 * n ≡ at + 4 * suc n = omega arith in
    let next : suc n + 1 ≡ suc (n + 1) = omega arith in
    ap (fours at) next ∙ ap (λ fs. field at 4 ∷ fs) (fours_more (at + 4) n ∙ ap (λ k. fours (at + 4) n ++ field k 4 ∷ []) there)

map_more : {X Y : Type 0} (f : X → Y) (xs : List X) (x : X) → map f (xs ++ x ∷ []) ≡ map f xs ++ f x ∷ []
map_more f [] x = refl
map_more f (y ∷ ys) x = ap (λ zs. f y ∷ zs) (map_more f ys x)

pub index_more : (n : ℕ) → index_fields (n + 1) ≡ index_fields n ++ field (26 + 2 * n) 2 ∷ []
index_more n =
    ap (map (λ i. field (26 + 2 * i) 2)) (range_zero_more n)
    ∙ map_more (λ i. field (26 + 2 * i) 2) (range_with_len 0 n) n

-- one item more
pub turns_next : (source old middle new : List ℕ) (part : ℕ → List Field) (i : ℕ) → Turns source (flat_map part (range_with_len 0 i)) old middle
    → Turns source (part i) middle new → Turns source (flat_map part (range_with_len 0 (i + 1))) old new
turns_next source old middle new part i before here =
    let both : Turns source (flat_map part (range_with_len 0 i) ++ part i) old new =
    turns_both source old middle new (flat_map part (range_with_len 0 i)) (part i) before here in
    let joined : flat_map part (range_with_len 0 (i + 1)) ≡ flat_map part (range_with_len 0 i) ++ part i =
    ap (flat_map part) (range_zero_more i) ∙ (flat_map-append part (range_with_len 0 i) (i ∷ [])
    ∙ ap (λ xs. flat_map part (range_with_len 0 i) ++ xs) (append-nil (part i))) in
    subst (λ fs. Turns source fs old new) (sym joined) both
