-- What `load` answers to a text that is within the limit. Source: man/bdbtool.1.
use Rattle.std.specs.Prelude.{◌≡◌, ℕ, List, Option, Some, None}
use Rattle.bdb_model.specs.of_text_format.declared.faults.TextFault.{TextFault}
use Rattle.bdb_model.specs.of_text_format.declared.sections.Section.{Section}
use Rattle.bdb_model.specs.Answers.{Answer, done, told}
use Rattle.bdb_model.specs.of_text_format.Terms.{Reads, text_fault}
use Rattle.bdb_onto.specs.of_settle.declared.load_error.LoadError.{LoadError}
use Rattle.bdb_onto.specs.of_settle.declared.load_error.LoadError.TheVariants.{TooLarge, Memory}
use Rattle.bdb_onto.specs.of_mkfile.Builds.{Builds}
use Rattle.bdb_onto.specs.of_mkfile.Loading.{loading_error}
use Rattle.bdb_onto.specs.of_mkfile.NamedImages.{HasBuiltTables}
use Rattle.bdb_tool_build.specs.Lines.{error_line, image_too_large_line, reason_line}

-- the answer to sections that have a load error; lack of memory is none
abbrev pub IsErrorAnswer : ℕ → LoadError → Answer → Type 0
IsErrorAnswer limit TooLarge answer = answer ≡ told 6 (image_too_large_line limit)
IsErrorAnswer limit Memory answer = ⊥
IsErrorAnswer limit error answer = answer ≡ told 8 (error_line error)

-- the answer is some image that is built of sections, whose hashes have their buckets as built
pub record IsImageAnswer (sections : List Section) (answer : Answer) : Type 0 where
  pub image : List ℕ
  pub built : Builds sections image
  pub tables : HasBuiltTables image
  pub answer_is : answer ≡ done image

-- an answer to sections, by the first of their load errors
abbrev pub IsLoadAnswer : ℕ → Option LoadError → List Section → Answer → Type 0
IsLoadAnswer limit (Some error) sections answer = IsErrorAnswer limit error answer
IsLoadAnswer limit None sections answer = IsImageAnswer sections answer

-- an answer to sections that a text reads as
pub record IsReadAnswer (limit : ℕ) (text : List ℕ) (answer : Answer) : Type 0 where
  pub sections : List Section
  pub read : Reads text sections
  pub answered : IsLoadAnswer limit (loading_error limit sections) sections answer

-- the answer to a text with a fault
abbrev pub IsFaultAnswer : Option TextFault → Answer → Type 0
IsFaultAnswer None answer = ⊥
IsFaultAnswer (Some fault) answer = answer ≡ told 8 (reason_line fault)

-- an answer to a text, by its fault
abbrev pub IsLoadAnswerBy : ℕ → Option TextFault → List ℕ → Answer → Type 0
IsLoadAnswerBy limit (Some fault) text answer = answer ≡ told 8 (reason_line fault)
IsLoadAnswerBy limit None text answer = IsReadAnswer limit text answer

-- an answer to a text that is loaded into an image of at most so many bytes
abbrev pub IsTextAnswer : ℕ → List ℕ → Answer → Type 0
IsTextAnswer limit text answer = IsLoadAnswerBy limit (text_fault text) text answer
