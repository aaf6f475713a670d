-- Sources over a file that is opened beside the input, or that can't be opened.
use Rattle.std.specs.Prelude.{ℕ, Result, IsErr, ⊤}
use Rattle.bdb_io.specs.declared.base.BaseSource.{BaseSource}
use Rattle.bdb_io.specs.declared.base.BaseSource.TheVariants.{Reader, Shut}

abbrev pub faults_of : {R : Type 0} → BaseSource R → ℕ
faults_of (Reader source) = source.faults
faults_of (Shut faults) = faults

-- what can't be opened gives nothing
abbrev pub FailsWhereShut : {R A E : Type 0} → BaseSource R → Result A E → Type 0
FailsWhereShut (Reader source) result = ⊤
FailsWhereShut (Shut faults) result = IsErr result
