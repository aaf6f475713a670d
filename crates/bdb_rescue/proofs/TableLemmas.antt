-- Lists that pages have, one after another, and what is of a page.
use Rattle.std.proofs.Common.{◌≡◌, ℕ, ◌+◌, ◌-◌, ◌<◌, ◌≤◌, List, [], ◌∷◌, ◌++◌, map, length, take, drop, arith, sym, ◌∙◌, ap, length-append, slice_index_or}
use Rattle.std.specs.List.{flat_map, range_with_len}
use Rattle.std.proofs.lemmas.List.{append_assoc}
use Rattle.std.proofs.lemmas.List.FromFn.{get_or-map-range_with_len, length-map-range_with_len, map-range_with_len_more}
use Rattle.std.proofs.lemmas.Grind.{flat_map-append}
use Rattle.std.proofs.Math.Seq.{drop-append_seam, take-append_seam}
use Rattle.bdb_text_format.proofs.of_format.ListLemmas.{range_parts}
use Rattle.bdb_rescue.specs.Kept.{HasPart, IsTable, below, part_of}
use Rattle.bdb_rescue.proofs.ListLemmas.{more_pieces}

-- those of one page more
below_more : {X : Type 0} (from : ℕ → List X) (p : ℕ) → below from p ++ from p ≡ below from (p + 1)
below_more from p = more_pieces from [] p

-- one bound more
bounds_more : {X : Type 0} (from : ℕ → List X) (p : ℕ) → map (λ q. length (below from q)) (range_with_len 0 (p + 1)) ++ length (below from (p + 1)) ∷ []
    ≡ map (λ q. length (below from q)) (range_with_len 0 (p + 1 + 1))
bounds_more from p = sym (map-range_with_len_more (λ q. length (below from q)) 0 (p + 1) (p + 1) (omega arith))

-- one page more, of which all was added
pub page_ended : {X : Type 0} (from : ℕ → List X) (page : ℕ) (bounds ends : List ℕ) (before all : List X) (n : ℕ) → IsTable from page bounds before
    → all ≡ before ++ from page → n ≡ length all → ends ≡ bounds ++ n ∷ [] → IsTable from (page + 1) ends all
page_ended {X = X} from page bounds ends before all n table more long ended =
    let whole : all ≡ below from (page + 1) = more ∙ (ap (λ xs. xs ++ from page) table.all_are ∙ below_more from page) in
    record {
      bounds_are =
          ended
          ∙ (ap (λ ns. ns ++ n ∷ []) table.bounds_are
          ∙ (ap (λ k. map (λ q. length (below from q)) (range_with_len 0 (page + 1)) ++ k ∷ []) (long ∙ ap (λ xs. length xs) whole)
          ∙ bounds_more from page));
      all_are = whole;
    }

split_at : {X : Type 0} (from : ℕ → List X) (count n m : ℕ) → n + m ≡ count → below from count ≡ below from n ++ flat_map from (range_with_len n m)
split_at from count n m all =
    ap (λ k. flat_map from (range_with_len 0 k)) (sym all)
    ∙ (ap (flat_map from) (range_parts 0 n m ∙ ap (λ k. range_with_len 0 n ++ range_with_len k m) (let same : 0 + n ≡ n = omega arith in same))
    ∙ flat_map-append from (range_with_len 0 n) (range_with_len n m))

long_more : {X : Type 0} (from : ℕ → List X) (p : ℕ) → length (below from (p + 1)) ≡ length (below from p) + length (from p)
long_more from p = ap (λ xs. length xs) (sym (below_more from p)) ∙ length-append (below from p) (from p)

slice_there : {X : Type 0} (from : ℕ → List X) (count p : ℕ) → p < count
    → take (length (below from (p + 1)) - length (below from p)) (drop (length (below from p)) (below from count)) ≡ from p
slice_there {X = X} from count p there =
    let rest : List X = flat_map from (range_with_len (p + 1) (count - (p + 1))) in
    let all : (p + 1) + (count - (p + 1)) ≡ count = omega (arith, there) in
    let size : length (below from (p + 1)) - length (below from p) ≡ length (from p) = omega (arith, long_more from p) in
    let values : below from count ≡ below from p ++ (from p ++ rest) =
    split_at from count (p + 1) (count - (p + 1)) all ∙ (ap (λ xs. xs ++ rest) (sym (below_more from p)) ∙ append_assoc (below from p) (from p) rest) in
    let rest_is : drop (length (below from p)) (below from count) ≡ from p ++ rest =
    ap (drop (length (below from p))) values ∙ drop-append_seam (below from p) (from p ++ rest) in
    ap (λ k. take k (drop (length (below from p)) (below from count))) size
    ∙ (ap (take (length (from p))) rest_is ∙ take-append_seam (from p) rest)

bound_is : {X : Type 0} (from : ℕ → List X) (count : ℕ) (bounds : List ℕ) (all : List X) (p d : ℕ) → IsTable from count bounds all → p ≤ count
    → slice_index_or bounds p d ≡ length (below from p)
bound_is from count bounds all p d table inside =
    ap (λ xs. slice_index_or xs p d) table.bounds_are ∙ get_or-map-range_with_len (λ q. length (below from q)) 0 (count + 1) p p d (omega (arith, inside))
    (omega arith)

-- what is of a page is there
pub has_part : {X : Type 0} (from : ℕ → List X) (count : ℕ) (bounds : List ℕ) (all : List X) (p : ℕ) → IsTable from count bounds all → p < count
    → HasPart bounds all p
has_part {X = X} from count bounds all p table there =
    let low : slice_index_or bounds p 0 ≡ length (below from p) = bound_is from count bounds all p 0 table (omega (arith, there)) in
    let high : slice_index_or bounds (p + 1) 0 ≡ length (below from (p + 1)) = bound_is from count bounds all (p + 1) 0 table (omega (arith, there)) in
    let many : length bounds ≡ count + 1 = ap (λ xs. length xs) table.bounds_are ∙ length-map-range_with_len (λ q. length (below from q)) 0 (count + 1) in
    let parts : (p + 1) + (count - (p + 1)) ≡ count = omega (arith, there) in
    let rest : List X = flat_map from (range_with_len (p + 1) (count - (p + 1))) in
    let long : length all ≡ length (below from (p + 1)) + length rest =
    ap (λ xs. length xs) (table.all_are ∙ split_at from count (p + 1) (count - (p + 1)) parts) ∙ length-append (below from (p + 1)) rest in
    record {
      within = omega (arith, many, there);
      order = omega (arith, low, high, long_more from p);
      there = omega (arith, high, long);
    }

pub part_is : {X : Type 0} (from : ℕ → List X) (count : ℕ) (bounds : List ℕ) (all : List X) (p : ℕ) → IsTable from count bounds all → p < count
    → part_of bounds all p ≡ from p
part_is from count bounds all p table there =
    ap (λ n. take (slice_index_or bounds (p + 1) 0 - n) (drop n all)) (bound_is from count bounds all p 0 table (omega (arith, there)))
    ∙ (ap (λ n. take (n - length (below from p)) (drop (length (below from p)) all)) (bound_is from count bounds all (p + 1) 0 table (omega (arith, there)))
    ∙ (ap (λ xs. take (length (below from (p + 1)) - length (below from p)) (drop (length (below from p)) xs)) table.all_are
    ∙ slice_there from count p there))
