-- How many owners pages have, as they are counted.
use Rattle.std.proofs.Common.{◌≡◌, ◌∙◌, ℕ, ◌+◌, ◌^◌, ◌<◌, ◌≤◌, Bool, true, false, List, [], length, map, ap, arith, refl, sym, subst, inl, inr, get_or, min}
use Rattle.std.proofs.lemmas.List.{get_or-map}
use Rattle.std.proofs.lemmas.Bool.{cases_eq}
use Rattle.bdb_image.specs.of_format.Terms.{File, has_heads_alone, owners, ownership_faults, ownership_rows}
use Rattle.bdb_image.proofs.of_format.VerdictLemmas.{AllFail, no_rows_at}
use Rattle.bdb_graph.proofs.ForestLemmas.{few_owners}
use Rattle.bdb_graph.specs.Owned.{AreCounts, AreFew, AreOwned, IsCounted, IsFew}
use Rattle.bdb_graph.specs.Tallies.{AreCounted, IsTally, counted_to, no_tally}
use Rattle.bdb_graph.specs.declared.tally.Tally.{Tally}

-- the counts of the tallies are those of the pages
pub all_counted : (file : File) (tallies : List Tally) (has_table : Bool) (counts : List ℕ) → AreCounted file tallies has_table
    → counts ≡ map (λ (tally : Tally). tally.count) tallies → AreCounts file counts
all_counted file tallies has_table counts are is = record {
  each = λ p low.
      let tally : Tally = get_or tallies p no_tally in
      let told : IsTally tally (owners file p) = are.tallied.each p low in
      let count : get_or counts p 0 ≡ tally.count =
      ap (λ cs. get_or cs p 0) is ∙ get_or-map (λ (t : Tally). t.count) tallies p no_tally 0 (omega (arith, low, are.tallied.len)) in
      subst (IsCounted file p) (sym count)
      (subst (λ heads. min (counted_to heads) tally.count ≡ min (counted_to heads) (length (owners file p))) told.heads told.counted);
}

-- a count of a few is exact
exact : (heads : Bool) (count n : ℕ) → min (counted_to heads) count ≡ min (counted_to heads) n → n < 2 ^ 16 → (heads ≡ false → n ≤ 1) → count ≡ n
exact true count n same few one = omega (arith, same, few)
exact false count n same few one = omega (arith, same, one refl)

-- where no row of ownership holds, the counts are the numbers of owners
pub all_owned : (file : File) (counts : List ℕ) → ownership_faults file ≡ [] → AreFew file (file.last + 1) → AreCounts file counts → AreOwned file counts
unfolding ownership_faults
all_owned file counts none few are = record {
  each = λ p low high.
      let fail : AllFail (ownership_rows file p) = no_rows_at 4 1 file.last p (ownership_rows file) none low (omega (arith, high)) in
      exact (has_heads_alone file p) (get_or counts p 0) (length (owners file p)) (are.each p high) (few.each p low (omega (arith, high)) fail.1.0)
      (λ other. few_owners (has_heads_alone file p) (length (owners file p)) _ other fail.1.0);
}

-- no page is passed yet
pub none_few : (file : File) (n : ℕ) → n ≡ 1 → AreFew file n
none_few file n is = record { each = λ p low high. absurd (omega (arith, is, low, high)) }

-- one page more
pub one_more_few : (file : File) (n : ℕ) → AreFew file n → IsFew file n → AreFew file (n + 1)
one_more_few file n are few = record {
  each = λ p low high.
      elim (cases_eq p n) [
        | inl same ↦ subst (IsFew file) (sym same) few
        | inr other ↦ are.each p low (omega (arith, high, other))
      ];
}
