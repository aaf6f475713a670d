-- What the outside does, and when a call may answer that it failed.
use Rattle.std.specs.Prelude.{◌≡◌, ◌⊎◌, ℕ, ◌-◌, ◌^◌, ◌<◌, ◌≤◌, List, length, take, Option, Result, OnErr, MatchResult}
use Rattle.std.specs.Io.KnownBytes.{Appends, Consumes, IsAtEnd, Keeps}

-- a count of faults rose: it is greater than before, or stands at the last value of a counter of 64 bits
abbrev pub Rose : ℕ → ℕ → Type 0
Rose before now = (before < now) ⊎ (now ≡ 2 ^ 64 - 1)

-- a count of faults doesn't fall, and a failure comes only where it rose
pub record HasCause {T E : Type 0} (before now : ℕ) (result : Result T E) : Type 0 where
  pub later : before ≤ now
  pub failed : OnErr result (Rose before now)

-- a read took n bytes into the front of the buffer at `Ok(n)`, none only at the end, and took nothing at `Err`
abbrev pub ReadsInto : {E : Type 0} → Option (List ℕ) → Option (List ℕ) → Result ℕ E → List ℕ → Type 0
ReadsInto old new result buf = MatchResult result
    (λ n. (n ≤ length buf) × Consumes old new (take n buf) × (n ≡ 0 → IsAtEnd new))
    (λ _. Keeps old new)

-- a write appended n bytes at `Ok(n)`, at least one, and none at `Err`
abbrev pub WritesFrom : {E : Type 0} → Option (List ℕ) → Option (List ℕ) → Result ℕ E → List ℕ → Type 0
WritesFrom old new result piece = MatchResult result
    (λ n. (0 < n) × (n ≤ length piece) × Appends old new (take n piece))
    (λ _. Keeps old new)

-- known bytes grow by a prefix of the bytes
abbrev pub AppendsPrefix : Option (List ℕ) → Option (List ℕ) → List ℕ → Type 0
AppendsPrefix old new bytes = (n : ℕ) × Appends old new (take n bytes)

-- that many known bytes were taken
abbrev pub Took : ℕ → Option (List ℕ) → Option (List ℕ) → Type 0
Took n old new = (bytes : List ℕ) × Consumes old new bytes × (length bytes ≡ n)

-- no more known bytes were taken
abbrev pub TookAtMost : ℕ → Option (List ℕ) → Option (List ℕ) → Type 0
TookAtMost n old new = (bytes : List ℕ) × Consumes old new bytes × (length bytes ≤ n)
