-- What a call does to a source or a sink, as far as it can be seen from outside.
use Rattle.std.specs.Prelude.{◌≡◌, ◌⊎◌, ℕ, List, Option, None, Some, ⊤}
use Rattle.std.specs.Borrow.{MutBor}
use Rattle.std.proofs.Common.{inl, inr}
use Rattle.std.specs.Io.KnownBytes.{Appends, Keeps}
use Rattle.bdb_text_format.specs.of_format.Terms.{AppendsPrefix, Rose}

-- the bytes that are left or were written, where they are told, and the count of faults, before the call and after it
pub record Change : Type 0 where
  pub before : Option (List ℕ)
  pub now : Option (List ℕ)
  pub faults_before : ℕ
  pub faults_now : ℕ

-- the change from one value of a source or a sink to another
abbrev pub change : {X : Type 0} → (X → Option (List ℕ)) → (X → ℕ) → X → X → Change
change bytes faults old new = record {
  before = bytes old;
  now = bytes new;
  faults_before = faults old;
  faults_now = faults new;
}

-- its count of faults rose
abbrev pub HasFailed : Change → Type 0
HasFailed c = Rose c.faults_before c.faults_now

-- its bytes stayed
abbrev pub Stays : Change → Type 0
Stays c = Keeps c.before c.now

-- its bytes stayed, and its count of faults too
pub record IsUncalled (c : Change) : Type 0 where
  pub bytes : Stays c
  pub faults : c.faults_now ≡ c.faults_before

-- an object that may be lent wasn't called: its bytes, where told, and its count of faults are as before
abbrev pub IsUntouched : {X : Type 0} → (X → Option (List ℕ)) → (X → ℕ) → Option (MutBor X) → Unit {0} ⊎ ((MutBor X × Unit {0}) ⊎ ⊥) → Type 0
IsUntouched bytes faults None exit = ⊤
IsUntouched bytes faults (Some old) (inl none) = ⊥
IsUntouched bytes faults (Some old) (inr (inl new)) = IsUncalled (change bytes faults old.now new.0.now)
IsUntouched bytes faults (Some old) (inr (inr never)) = ⊥

-- exactly these bytes were appended
abbrev pub Gains : Change → List ℕ → Type 0
Gains c bytes = Appends c.before c.now bytes

-- a prefix of these bytes was appended
abbrev pub GainsPart : Change → List ℕ → Type 0
GainsPart c bytes = AppendsPrefix c.before c.now bytes
