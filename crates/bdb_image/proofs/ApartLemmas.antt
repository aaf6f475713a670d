-- References in parts: those to the buckets of a table stand apart, and run by run.
use Rattle.std.proofs.Common.{◌≡◌, ℕ, suc, ◌+◌, ◌-◌, ◌≤◌, List, [], ◌∷◌, ◌++◌, length, arith, refl, sym, append-nil, add-zero, zero-add, None, Some}
use Rattle.std.proofs.lemmas.List.{map-append}
use Rattle.std.proofs.lemmas.List.FromFn.{length-map-range_with_len}
use Rattle.bdb_faults.specs.of_format.declared.references.Reference.{Reference}
use Rattle.bdb_faults.specs.of_format.declared.references.Sort.{Sort}
use Rattle.bdb_faults.specs.of_format.declared.references.Sort.TheVariants.{Free as FreeRef}
use Rattle.bdb_faults.specs.of_format.Terms.{unless_zero}
use Rattle.bdb_faults.proofs.of_format.ListLemmas.{range_parts}
use Rattle.bdb_slots.specs.declared.source.Source.{Source}
use Rattle.bdb_slots.specs.declared.source.Source.TheVariants.{Next, Table}
use Rattle.bdb_image.specs.Buckets.{IsApart, bucket_names, run_names, run_refs}
use Rattle.bdb_slots.specs.Slots.{HasRoom, names_from, placed}
use Rattle.bdb_slots.proofs.SlotLemmas.{each_bucket}

-- names in two parts: the second ones are placed behind the first
pub placed_parts : (place : ℕ) (first second : List (Sort × ℕ)) → placed place (first ++ second) ≡ placed place first ++ placed (place + length first) second
placed_parts place [] second = rw (add-zero place) refl
placed_parts place (name ∷ first) second = grind (arith, placed_parts (place + 1) first second)

-- more buckets of a table, and so more pages of a run
pub more_buckets : (place : ℕ) (spares : List ℕ) (bucket n first : ℕ) → run_names first n ≡ bucket_names spares bucket n
    → placed place (bucket_names spares 0 (bucket + n)) ≡ placed place (bucket_names spares 0 bucket) ++ run_refs (place + bucket) first n
more_buckets place spares bucket n first same = grind (arith, range_parts, zero-add, map-append, placed_parts, length-map-range_with_len)

pub more_pages : (place first m n : ℕ) → run_refs place first (m + n) ≡ run_refs place first m ++ run_refs (place + m) (first + m) n
more_pages place first m n = grind (arith, range_parts, map-append, placed_parts, length-map-range_with_len)

-- the first free page, and behind it the buckets
table_names : (free last : ℕ) (spares : List ℕ) → names_from (Table free last spares) 0 ≡ unless_zero FreeRef free ++ bucket_names spares 0 (last + 1)
unfolding names_from
table_names free last spares =
    let all : last + 2 - 0 ≡ suc (last + 1) = omega arith in
    rw (all, each_bucket free last spares 0 (last + 1)) refl

next_names : (free : ℕ) → names_from (Next FreeRef free) 0 ≡ unless_zero FreeRef free
unfolding names_from
next_names free = append-nil (unless_zero FreeRef free)

pub table_apart : (free last : ℕ) (spares : List ℕ) (source : Source) (slot place : ℕ) (others : List Reference) → source ≡ Table free last spares
    → slot ≡ 0 → place ≤ slot → HasRoom source
    → others ≡ placed 0 (names_from (Next FreeRef free) 0)
    → IsApart (placed place (names_from source slot)) others (Some (record { max_bucket = last; spares = spares }))
table_apart free last spares source slot place others is fresh before room free_is = grind (arith, table_names, placed_parts, next_names)

-- nothing stands apart
pub none_apart : (references : List Reference) → IsApart references references None
none_apart references = record { place = 0; all = sym (append-nil references); few = tt }
