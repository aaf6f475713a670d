-- The lines by which it's told what holds at the pages of a file that isn't sound. Source: man/bdbtool.1.
use Rattle.std.specs.Prelude.{ℕ, List, [], ◌∷◌, ◌++◌, codes}
use Rattle.std.specs.Fmt.{decimal}
use Rattle.std.specs.List.{flat_map}
use Rattle.bdb_faults.specs.of_format.Terms.{Faulty, Judgement, LeftOut, judgement_of}
use Rattle.bdb_faults.specs.of_format.declared.kinds.Fault.{Fault}
use Rattle.bdb_model.specs.Answers.{fault_line, unsupported_line}
use Rattle.bdb_model.specs.of_text_format.Terms.{line}

abbrev pub judgement_line : Judgement → List ℕ
judgement_line (Faulty fault) = fault_line fault
judgement_line (LeftOut name page) = unsupported_line name page

abbrev pub fault_told : Fault → List ℕ
fault_told fault = judgement_line (judgement_of fault)

-- a line for each
unfoldable pub faults_text : List Fault → List ℕ
faults_text faults = flat_map fault_told faults

-- 1 for a fault, 3 for a case that isn't supported
abbrev pub judgement_status : Judgement → ℕ
judgement_status (Faulty fault) = 1
judgement_status (LeftOut name page) = 3

-- the status of the first of what holds
abbrev pub first_status : List Fault → ℕ
first_status [] = 0
first_status (fault ∷ faults) = judgement_status (judgement_of fault)

-- The parts of a line, which are printed one after another.

unfoldable pub stage_part : ℕ → List ℕ
stage_part stage = codes "fault: stage " ++ decimal stage

unfoldable pub page_part : ℕ → List ℕ
page_part page = codes " page " ++ decimal page

unfoldable pub code_part : ℕ → List ℕ
code_part code = codes " code " ++ decimal code

unfoldable pub name_part : List ℕ → List ℕ
name_part name = codes " " ++ line name

unfoldable pub case_part : List ℕ → List ℕ
case_part name = codes "unsupported: " ++ name

unfoldable pub case_page_part : ℕ → List ℕ
case_page_part page = codes ", page " ++ line (decimal page)
