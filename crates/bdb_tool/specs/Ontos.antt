-- What `load --onto` answers to a text that is within the limit, and the image of a base. Source: man/bdbtool.1, and docs/FORMAT.md, "Loading onto a file".
use Rattle.std.specs.Prelude.{◌≡◌, ℕ, nat_lt, ◌++◌, Bool, true, false, List, length, Option, Some, None, codes, decimal}
use Rattle.bdb_repair.specs.of_format.Terms.{Judgement, verdict_of}
use Rattle.bdb_repair.specs.of_text_format.Terms.{line}
use Rattle.bdb_repair.specs.of_model.Answers.{Answer, told}
use Rattle.bdb_tool_ask.specs.of_tool_lines.Telling.{judgement_line, judgement_status}
use Rattle.bdb_tool_build.specs.of_onto.Bases.{base_of}
use Rattle.bdb_tool_build.specs.Ontos.{IsTextOnto}

-- an answer to a text and the image of a base, by the verdict on that image
abbrev pub IsOntoBy : ℕ → Option Judgement → List ℕ → List ℕ → Answer → Type 0
IsOntoBy limit (Some judgement) text image answer = answer ≡ told (judgement_status judgement) (judgement_line judgement)
IsOntoBy limit None text image answer = IsTextOnto limit (base_of image) text answer

-- the line of a base that is longer than a limit
abbrev pub base_too_large_line : ℕ → List ℕ
base_too_large_line limit = codes "base longer than " ++ (decimal limit ++ line (codes " bytes"))

-- an answer to a text and the image of a base, by whether that image is longer than the limit
abbrev pub IsOntoBySize : Bool → ℕ → List ℕ → List ℕ → Answer → Type 0
IsOntoBySize true limit text image answer = answer ≡ told 6 (base_too_large_line limit)
IsOntoBySize false limit text image answer = IsOntoBy limit (verdict_of image) text image answer

abbrev pub IsOntoAnswer : ℕ → List ℕ → List ℕ → Answer → Type 0
IsOntoAnswer limit text image answer = IsOntoBySize (nat_lt limit (length image)) limit text image answer
