-- The references of a table, group by group, and those of a page with them.
use Rattle.std.proofs.Common.{◌≡◌, ℕ, ◌+◌, ◌≤◌, List, [], ◌++◌, map, ap, ◌∙◌, sym, subst, append-nil, append_assoc, Option}
use Rattle.std.proofs.lemmas.List.{map-append}
use Rattle.std.proofs.lemmas.List.Folds.{list_any-append}
use Rattle.bdb_image.specs.of_format.declared.references.Reference.{Reference}
use Rattle.bdb_image.specs.of_format.Terms.{File, Owner, fails_as, fit_code}
use Rattle.bdb_image.specs.declared.buckets.Buckets.{Buckets}
use Rattle.bdb_image.specs.declared.fits.Misfits.{Misfits}
use Rattle.bdb_graph.specs.declared.table.BucketPages.{BucketPages}
use Rattle.bdb_graph.specs.declared.tally.Tally.{Tally}
use Rattle.bdb_image.specs.Buckets.{IsApart, bucket_names, run_names, run_refs}
use Rattle.bdb_graph.specs.Leaps.{AreKnown}
use Rattle.bdb_image.specs.Noted.{both_misfits, misfits_of}
use Rattle.bdb_image.specs.of_slots.Slots.{placed}
use Rattle.bdb_graph.specs.Tallies.{AreTallies, owner}
use Rattle.bdb_image.proofs.ApartLemmas.{more_buckets}
use Rattle.bdb_image.proofs.NotedLemmas.{same_misfits}

-- references in two parts
pub both_parts : (fit : Reference → Option ℕ) (first second : List Reference)
    → both_misfits (misfits_of fit first) (misfits_of fit second) ≡ misfits_of fit (first ++ second)
both_parts fit first second =
    same_misfits _ _ _ _ _ _ _ _
    (sym (list_any-append (λ r. fails_as 1 (fit r)) first second)) (sym (list_any-append (λ r. fails_as 2 (fit r)) first second))
    (sym (list_any-append (λ r. fails_as 3 (fit r)) first second)) (sym (list_any-append (λ r. fails_as 4 (fit r)) first second))

-- The references to the buckets below one are tallied, and judged.
pub record AreTallied (file : File) (old tallies : List Tally) (pages : BucketPages) (misfits : Misfits) (holder : ℕ) (buckets : Buckets) (bucket : ℕ)
    : Type 0 where
  pub low : bucket ≤ buckets.max_bucket + 1
  pub known : AreKnown file tallies pages
  pub tallied : (os : List Owner) (place : ℕ) → AreTallies old os
      → AreTallies tallies (os ++ map (owner holder) (placed place (bucket_names buckets.spares 0 bucket)))
  pub judged : (place : ℕ) → misfits ≡ misfits_of (fit_code file holder) (placed place (bucket_names buckets.spares 0 bucket))

-- one more run
pub tallied_more : (file : File) (old tallies new : List Tally) (pages later : BucketPages) (misfits of_run next : Misfits) (holder : ℕ)
    (buckets : Buckets) (bucket first n : ℕ)
    → AreTallied file old tallies pages misfits holder buckets bucket → run_names first n ≡ bucket_names buckets.spares bucket n
    → bucket + n ≤ buckets.max_bucket + 1 → AreKnown file new later
    → ((os : List Owner) (place : ℕ) → AreTallies tallies os → AreTallies new (os ++ map (owner holder) (run_refs place first n)))
    → ((place : ℕ) → of_run ≡ misfits_of (fit_code file holder) (run_refs place first n)) → next ≡ both_misfits misfits of_run
    → AreTallied file old new later next holder buckets (bucket + n)
tallied_more file old tallies new pages later misfits of_run next holder buckets bucket first n is names within known noted judged both =
    let all : (place : ℕ) → placed place (bucket_names buckets.spares 0 (bucket + n))
    ≡ placed place (bucket_names buckets.spares 0 bucket) ++ run_refs (place + bucket) first n =
    λ place. more_buckets place buckets.spares bucket n first names in
    record {
      low = within;
      known = known;
      tallied = λ os place are.
          let before : List Owner = map (owner holder) (placed place (bucket_names buckets.spares 0 bucket)) in
          let behind : List Owner = map (owner holder) (run_refs (place + bucket) first n) in
          let joined : (os ++ before) ++ behind ≡ os ++ map (owner holder) (placed place (bucket_names buckets.spares 0 (bucket + n))) =
          append_assoc os before behind
          ∙ ap (λ more. os ++ more)
          (sym (map-append (owner holder) (placed place (bucket_names buckets.spares 0 bucket)) (run_refs (place + bucket) first n))
          ∙ ap (map (owner holder)) (sym (all place))) in
          subst (AreTallies new) joined (noted (os ++ before) (place + bucket) (is.tallied os place are));
      judged = λ place.
          both
          ∙ (ap (λ (misfits : Misfits). both_misfits misfits of_run) (is.judged place)
          ∙ (ap (λ (of_run : Misfits). both_misfits (misfits_of (fit_code file holder) (placed place (bucket_names buckets.spares 0 bucket))) of_run)
          (judged (place + bucket))
          ∙ (both_parts (fit_code file holder) (placed place (bucket_names buckets.spares 0 bucket)) (run_refs (place + bucket) first n)
          ∙ ap (misfits_of (fit_code file holder)) (sym (all place)))));
    }

-- The references of a page.

-- those that were read so far are some of those that stand one by one
pub record IsRead (references read left : List Reference) (buckets : Option Buckets) : Type 0 where
  pub others : List Reference
  pub apart : IsApart references others buckets
  pub list : read ++ left ≡ others

-- the owners of a page that were read, and those of its table
pub owners_parts : (os : List Owner) (holder : ℕ) (references others table : List Reference) → references ≡ others ++ table
    → (os ++ map (owner holder) others) ++ map (owner holder) table ≡ os ++ map (owner holder) references
owners_parts os holder references others table all =
    append_assoc os (map (owner holder) others) (map (owner holder) table)
    ∙ ap (λ more. os ++ more) (sym (map-append (owner holder) others table) ∙ ap (map (owner holder)) (sym all))

-- nothing is left to read
pub all_read : (references read left : List Reference) (buckets : Option Buckets) → left ≡ [] → IsRead references read left buckets
    → IsApart references read buckets
all_read references read left buckets none is =
    subst (λ others. IsApart references others buckets) (sym is.list ∙ (ap (λ left. read ++ left) none ∙ append-nil read)) is.apart
