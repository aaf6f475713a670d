-- A file of the samples as it is read, and what is found in it.
use Rattle.std.specs.Prelude.{ℕ, List, map, Option}
use Rattle.bdb_apart.specs.of_format.declared.kinds.Order.TheVariants.{Little}
use Rattle.bdb_apart.specs.of_rescue.Kept.{Reading}
use Rattle.bdb_apart.specs.Found.{Found, found}
use Rattle.bdb_apart.specs.Given.{found_in, pairs_given, records_given}

abbrev pub read : List ℕ → Reading
read image = record { guess = record { order = Little; page_size = 512 }; image = image }

abbrev pub names_of : List ℕ → List (Option (List ℕ) × ℕ)
names_of image = map (λ (db : Found). (db.name, db.meta)) (found (read image))

abbrev pub given_of : List ℕ → List (List (List ℕ × List ℕ))
given_of image = map pairs_given (found_in (read image))

abbrev pub numbered_of : List ℕ → List (List (ℕ × List ℕ))
numbered_of image = map records_given (found_in (read image))
