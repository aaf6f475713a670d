-- A text on its way to the output: some of it is written, and the rest is pending.
use Rattle.std.specs.Prelude.{◌≡◌, ◌≤◌, ℕ, List, [], ◌++◌, Result, MatchResult}
use Rattle.bdb_model.specs.Change.{Change, Gains, GainsPart, HasFailed}
use Rattle.bdb_tool_lines.specs.declared.cut.Cut.{Cut}
use Rattle.bdb_tool_lines.specs.declared.cut.Cut.TheVariants.{WriteFault}

-- what was written, and what is pending now, are what was pending before, and the text
pub record IsOnItsWay (before now text : List ℕ) (out : Change) : Type 0 where
  pub written : List ℕ
  pub gained : Gains out written
  pub whole : written ++ now ≡ before ++ text

-- a prefix was written, and then a write failed, or memory ran out
pub record IsCutOff (before text : List ℕ) (out : Change) (cut : Cut) : Type 0 where
  pub part : GainsPart out (before ++ text)
  pub cause : cut ≡ WriteFault → HasFailed out

-- a text was printed, as far as it's said
pub record Prints (before now text : List ℕ) (out : Change) (result : Result Unit Cut) : Type 0 where
  pub printed : MatchResult result (λ _. IsOnItsWay before now text out) (IsCutOff before text out)
  pub later : out.faults_before ≤ out.faults_now

-- all of a text was written, or a prefix
pub record Writes (text : List ℕ) (out : Change) (result : Result Unit Cut) : Type 0 where
  pub written : MatchResult result (λ _. Gains out text) (IsCutOff [] text out)
  pub later : out.faults_before ≤ out.faults_now
