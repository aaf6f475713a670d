-- How many known bytes were taken, after one more piece.
use Rattle.std.proofs.Common.{◌≡◌, ℕ, ◌+◌, ◌≤◌, List, length, take, arith, length-append, length-take, Option}
use Rattle.std.specs.Io.KnownBytes.{Consumes}
use Rattle.bdb_format.specs.Terms.{Took, TookAtMost}
use Rattle.bdb_format.proofs.KnownLemmas.{consumes_next}

-- the bytes held came, and then a piece of the buffer
pub took_next : (a b c : Option (List ℕ)) (held buf : List ℕ) (count n : ℕ) → Consumes a b held → count ≤ length buf → Consumes b c (take count buf)
    → length held + count ≡ n → Took n a c
took_next a b c held buf count n first within next sum = grind (arith, consumes_next, length-append, length-take)

pub took_at_most_next : (a b c : Option (List ℕ)) (held buf : List ℕ) (count n : ℕ) → Consumes a b held → count ≤ length buf → Consumes b c (take count buf)
    → length held + count ≤ n → TookAtMost n a c
took_at_most_next a b c held buf count n first within next sum = grind (arith, consumes_next, length-append, length-take)
