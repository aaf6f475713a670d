-- How many records are left: no more than are loose.
use Rattle.std.proofs.Common.{ℕ, ◌+◌, ◌≤◌, Bool, true, false, cond, List, [], ◌∷◌, length, arith, length-append}
use Rattle.std.proofs.lemmas.List.{length-map}
use Rattle.std.specs.Prelude.{Option, Some, None, not}
use Rattle.std.specs.List.{enumerate_from, filter, flat_map, range_with_len}
use Rattle.bdb_rescue.specs.of_format.Terms.{File, Item, entries_in, page_at}
use Rattle.bdb_rescue.specs.of_survey.Salvage.{is_taken, live_value, live_whole, loose, loose_on}
use Rattle.bdb_rescue.specs.Kept.{Reading, file_in}
use Rattle.bdb_homes.specs.Homes.{home}
use Rattle.bdb_apart.specs.Found.{Found, found}
use Rattle.bdb_apart.specs.Given.{db_at, fits_record, meta_at, numbered_entry, numbered_on, records_beside, records_left, records_left_on, records_without}
use Rattle.bdb_apart.specs.Given.{start_in}
use Rattle.bdb_rescue.proofs.of_format.MemberLemmas.{few_pass}

joined_few : {X Y Z : Type 0} (f : X → List Y) (g : X → List Z) (xs : List X) → ((x : X) → length (f x) ≤ length (g x))
    → length (flat_map f xs) ≤ length (flat_map g xs)
joined_few f g [] few = omega arith
joined_few f g (x ∷ xs) few = omega (arith, length-append (f x) (flat_map f xs), length-append (g x) (flat_map g xs), few x, joined_few f g xs few)

numbered_few : (file : File) (n : ℕ) (items : List Item)
    → length (flat_map (numbered_entry file) (enumerate_from n items)) ≤ length (flat_map (live_value file) items)
numbered_few file n [] = omega arith
numbered_few file n (item ∷ items) =
    omega (
      arith,
      length-append (numbered_entry file (n, item)) (flat_map (numbered_entry file) (enumerate_from (n + 1) items)),
      length-append (live_value file item) (flat_map (live_value file) items),
      length-map {B = ℕ × List ℕ} (live_value file item) (λ (value : List ℕ). (n, value)),
      numbered_few file (n + 1) items,
    )

live_few : (file : File) (p start : ℕ) → length (numbered_on file p start) ≤ length (live_whole file p)
unfolding live_whole
live_few file p start = numbered_few file (start + 1) (entries_in (page_at file p))

without_few : (file : File) (db : Found) (p : ℕ) (start : Option ℕ) → length (records_without file db p start) ≤ length (live_whole file p)
without_few file db p None = omega arith
without_few file db p (Some start) =
    omega (
      arith,
      length-map (filter (λ placed. not (fits_record db.fields placed)) (numbered_on file p start)) (λ (placed : ℕ × List ℕ). placed.1),
      few_pass (λ (placed : ℕ × List ℕ). not (fits_record db.fields placed)) (numbered_on file p start),
      live_few file p start,
    )

beside_few : (file : File) (p : ℕ) (db : Option Found) → length (records_beside file p db) ≤ length (live_whole file p)
beside_few file p None = omega arith
beside_few file p (Some db) = without_few file db p (start_in file db p)

page_few : (file : File) (dbs : List Found) (p : ℕ) → length (records_left_on file dbs p) ≤ length (loose_on file p)
page_few file dbs p = by_taken (is_taken file p)
  where
    by_taken : (b : Bool) → length (cond b [] (records_beside file p (db_at dbs (meta_at (home file p))))) ≤ length (cond b [] (live_whole file p))
    by_taken true = omega arith
    by_taken false = beside_few file p (db_at dbs (meta_at (home file p)))

-- no more records are left than are loose
pub left_few : (reading : Reading) → length (records_left reading) ≤ length (loose (file_in reading))
unfolding records_left loose
left_few reading =
    joined_few (records_left_on (file_in reading) (found reading)) (loose_on (file_in reading)) (range_with_len 0 (file_in reading).count)
    (page_few (file_in reading) (found reading))
