-- The lines that are printed for an image.
use Rattle.std.specs.Prelude.{◌≡◌, ◌⊎◌, ℕ, ◌^◌, ◌==◌, nat_lt, if◌then◌else◌, List, ◌∷◌, [], ◌++◌, length, codes}
use Rattle.bdb_tool.specs.of_any_order.AnyOrder.{faults_by_rows}
use Rattle.bdb_tool.specs.of_any_order.declared.rows.Rows.{Rows}
use Rattle.bdb_tool.specs.of_any_order.declared.rows.Rows.TheVariants.{All, AnyOrder}
use Rattle.bdb_tool.specs.of_model.Answers.{Answer, told, too_large_line}
use Rattle.bdb_tool.specs.of_text_format.Terms.{line}
use Rattle.bdb_tool.specs.of_tool_ask.FileAnswers.{verified}

-- the words that ask for the verdict by the rows that count
abbrev pub verify_words : Rows → List (List ℕ)
verify_words All = codes "verify" ∷ []
verify_words AnyOrder = codes "verify" ∷ codes "--any-order" ∷ []

-- the answer to them over an image: that it is too long, or the verdict with all faults
abbrev pub verify_answer : Rows → List ℕ → Answer
verify_answer rows image = if nat_lt (2 ^ 30) (length image) then told 6 (too_large_line (2 ^ 30)) else verified (faults_by_rows rows image) image

-- what an answer tells: its output where the command was done, else its error lines
abbrev pub text_told : Answer → List ℕ
text_told answer = if answer.status == 0 then answer.out else answer.err

-- the verdict on an image by the rows that count, a line for each fault
abbrev pub verdict_on : Rows → List ℕ → List ℕ
verdict_on rows image = text_told (verify_answer rows image)

-- the lines on an image: its name, the verdict by all rows, and that in any order
abbrev pub lines_on : List ℕ → List ℕ → List ℕ → List ℕ
lines_on name told in_any_order = line name ++ told ++ line (codes "in any order") ++ in_any_order

abbrev pub unreadable : List ℕ
unreadable = line (codes "can't be read")

-- the lines on a file: the two verdicts on some image, or that the file can't be read
abbrev pub AreLinesOnFile : List ℕ → List ℕ → Type 0
AreLinesOnFile name text =
    ((image : List ℕ) × (text ≡ lines_on name (verdict_on All image) (verdict_on AnyOrder image))) ⊎ (text ≡ line name ++ unreadable)
