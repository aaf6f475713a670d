-- Sources and sinks in memory, as callers see them.
use Rattle.std.specs.Prelude.{ℕ, ◌+◌, ◌-◌, ◌^◌, min, List, Contains}

-- how many calls there were, the numbers of those that fail, and how many failed
pub record CallCount : Type 0 where
  pub calls : ℕ
  pub failing : List ℕ
  pub faults : ℕ

-- the bytes that are left or were written, and the same of its calls
pub record Memory : Type 0 where
  pub bytes : List ℕ
  pub calls : ℕ
  pub failing : List ℕ
  pub faults : ℕ

-- a count after one more, which stops at the last number of 64 bits
abbrev pub one_more : ℕ → ℕ
one_more count = min (count + 1) (2 ^ 64 - 1)

-- the number of the next call is among those that fail
abbrev pub IsToFail : ℕ → List ℕ → Type 0
IsToFail calls failing = Contains failing (one_more calls)
