-- A fault by its three numbers.
use Rattle.std.specs.Prelude.{ℕ}
use Rattle.sample_pages.specs.of_format.declared.kinds.Fault.{Fault}

-- a stage, a page and a code
abbrev pub fault : ℕ → ℕ → ℕ → Fault
fault stage page code = record { stage = stage; page = page; code = code }
