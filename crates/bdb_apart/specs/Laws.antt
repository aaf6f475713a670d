-- Each pair and each loose record that is salvaged stands in just one part. Source: docs/FORMAT.md, "Salvage".
use Rattle.std.specs.Prelude.{◌≡◌, ℕ, ◌+◌, ◌&&◌, if◌then◌else◌, Bool, List, [], None, true, map}
use Rattle.std.specs.List.{count_by, filter, flat_map, range_with_len, sum_by}
use Rattle.bdb_rescue.specs.of_format.Terms.{File, ascends}
use Rattle.bdb_rescue.specs.of_survey.Salvage.{loose, stored, stored_on}
use Rattle.bdb_rescue.specs.Kept.{Reading, file_in}
use Rattle.bdb_apart.specs.Found.{Found, found, is_master_leaf, name_of}
use Rattle.bdb_apart.specs.Given.{are_given, found_in, names_found, pairs_given, pairs_left, records_given, records_left}
use Rattle.bdb_apart.specs.Queues.{queue_in}

-- the entries of a page that name a database that is found: they are neither given nor left
abbrev pub pairs_naming_on : File → List Found → ℕ → List (List ℕ × List ℕ)
pairs_naming_on file dbs p =
    if are_given file dbs p then [] else filter (λ pair. is_master_leaf file p && names_found dbs pair) (stored_on file p)

abbrev pub pairs_naming : Reading → List (List ℕ × List ℕ)
pairs_naming reading = flat_map (pairs_naming_on (file_in reading) (found reading)) (range_with_len 0 (file_in reading).count)

-- whatever is asked of pairs: as many of those that are salvaged have it as have it in the sections, in the rest, and among the entries that name databases
abbrev pub EachPairIsInOnePart : Type 0
EachPairIsInOnePart = (reading : Reading) (test : (List ℕ × List ℕ) → Bool)
    → count_by test (stored (file_in reading))
    ≡ sum_by (λ it. count_by test (pairs_given it)) (found_in reading) + (count_by test (pairs_left reading) + count_by test (pairs_naming reading))

-- the same of the values of loose records, in an image that isn't a queue
abbrev pub EachRecordIsInOnePart : Type 0
EachRecordIsInOnePart = (reading : Reading) (test : List ℕ → Bool) → queue_in reading ≡ None
    → count_by test (loose (file_in reading))
    ≡ sum_by (λ it. count_by (λ (placed : ℕ × List ℕ). test placed.1) (records_given it)) (found_in reading) + count_by test (records_left reading)

-- the names of the databases that are found ascend, so no two have one name
abbrev pub NamesAscend : Type 0
NamesAscend = (reading : Reading) → ascends (map name_of (found reading)) ≡ true
