-- What a run of `verify` tells.
use Rattle.std.proofs.Common.{◌≡◌, ◌≢◌, ℕ, ◌^◌, ne_eqb, Bool, true, false, List, [], length, ap, arith, refl, subst, sym, ◌∙◌}
use Rattle.std.specs.Prelude.{IfOk, Result, Some, nat_lt, if◌then◌else◌}
use Rattle.std.specs.Io.KnownBytes.{Appends}
use Rattle.bdb_tool.specs.of_any_order.AnyOrder.{faults_by_rows}
use Rattle.bdb_tool.specs.of_any_order.declared.rows.Rows.{Rows}
use Rattle.bdb_tool.specs.of_any_order.declared.rows.Rows.TheVariants.{All, AnyOrder}
use Rattle.bdb_tool.specs.of_model.Answers.{Answer, told, too_large_line}
use Rattle.bdb_tool.specs.of_model.Change.{Change, Gains, HasFailed}
use Rattle.bdb_tool.specs.of_tool_words.Commands.{Ask, Command, Verify, command_of, handed}
use Rattle.bdb_tool.specs.Outputs.{IsAnswerBySize, IsAnswerTo, IsCommandAnswer, IsInput, asked_alone}
use Rattle.bdb_tool.specs.of_tool_ask.FileAnswers.{verified}
use Rattle.bdb_tool.specs.Runs.{IsAnswered, RunsAs}
use Rattle.check_images.specs.Lines.{text_told, verify_answer, verify_words}

abbrev verify_command : Rows → Command
verify_command rows = record { limit = 2 ^ 30; action = Ask rows Verify }

command_is : (rows : Rows) → command_of (verify_words rows) ≡ Some (verify_command rows)
unfolding command_of
command_is All = refl
command_is AnyOrder = refl

by_size : (beyond : Bool) (rows : Rows) (image : List ℕ) (answer : Answer) → IsAnswerBySize beyond (verify_command rows) image [] answer
    → answer ≡ (if beyond then told 6 (too_large_line (2 ^ 30)) else verified (faults_by_rows rows image) image)
by_size true rows image answer is = is
by_size false rows image answer is = is

-- there is one answer to `verify`
one_answer : (rows : Rows) (image : List ℕ) (answer : Answer) → IsAnswerTo (asked_alone (verify_words rows)) image answer → answer ≡ verify_answer rows image
one_answer rows image answer is =
    by_size (nat_lt (2 ^ 30) (length image)) rows image answer (subst (λ command. IsCommandAnswer command image [] answer) (ap (handed false) (command_is rows))
    is)

-- what was written is the answer
pub record TellsVerdict (rows : Rows) (image : List ℕ) (out err : Change) (status : ℕ) : Type 0 where
  pub status_is : status ≡ (verify_answer rows image).status
  pub out_is : Gains out (verify_answer rows image).out
  pub err_is : Gains err (verify_answer rows image).err

pub tells_verdict : (rows : Rows) (image : List ℕ) (source out err : Change) (status : ℕ) → RunsAs (asked_alone (verify_words rows)) source out err status
    → source.before ≡ Some image → IsAnswered status → TellsVerdict rows image out err status
tells_verdict rows image source out err status runs before answered =
    let found = runs.answers answered in
    let input : found.0 ≡ image = subst (λ left. IsInput left found.0) before found.1 in
    let answer = one_answer rows found.0 found.6.answer found.6.answers ∙ ap (verify_answer rows) input in
    record {
      status_is = found.6.status_is ∙ ap (λ (a : Answer). a.status) answer;
      out_is = subst (Gains out) (found.6.out_is ∙ ap (λ (a : Answer). a.out) answer) found.3;
      err_is = subst (Gains err) (found.6.err_is ∙ ap (λ (a : Answer). a.err) answer) found.5;
    }

printed_whole : (sink : Change) (printed text : List ℕ) → sink.before ≡ Some [] → sink.now ≡ Some printed → Gains sink text → printed ≡ text
printed_whole sink printed text before now gains = subst (λ b. Appends b (Some printed) text) before (subst (λ n. Appends sink.before n text) now gains)

told_done : (answer : Answer) → answer.status ≡ 0 → answer.out ≡ text_told answer
told_done answer is = rw is refl

told_line : (answer : Answer) → answer.status ≢ 0 → answer.err ≡ text_told answer
told_line answer other = rw (ne_eqb answer.status 0 other) refl

-- the output where the command was done
pub verdict_printed : (rows : Rows) (words : List (List ℕ)) (image printed : List ℕ) (source out err : Change) (status : ℕ) → words ≡ verify_words rows
    → RunsAs (asked_alone words) source out err status → source.before ≡ Some image → status ≡ 0
    → out.before ≡ Some [] → out.now ≡ Some printed → printed ≡ text_told (verify_answer rows image)
verdict_printed rows words image printed source out err status words_are runs before is out_before out_now =
    let tells = tells_verdict rows image source out err status (subst (λ ws. RunsAs (asked_alone ws) source out err status) words_are runs) before
    (λ four. omega arith, λ five. omega arith, λ seven. omega arith) in
    printed_whole out printed (verify_answer rows image).out out_before out_now tells.out_is ∙ told_done (verify_answer rows image) (sym tells.status_is ∙ is)

-- the error line where it wasn't
pub verdict_line : (rows : Rows) (words : List (List ℕ)) (image printed : List ℕ) (source out err : Change) (status : ℕ) → words ≡ verify_words rows
    → RunsAs (asked_alone words) source out err status → source.before ≡ Some image → (HasFailed source → ⊥) → status ≢ 0 → status ≢ 5
    → status ≢ 7 → err.before ≡ Some [] → err.now ≡ Some printed → printed ≡ text_told (verify_answer rows image)
verdict_line rows words image printed source out err status words_are runs before never other no_fault no_memory err_before err_now =
    let tells = tells_verdict rows image source out err status (subst (λ ws. RunsAs (asked_alone ws) source out err status) words_are runs) before
    (λ four. never (runs.read_fault four).0, no_fault, no_memory) in
    printed_whole err printed (verify_answer rows image).err err_before err_now tells.err_is
    ∙ told_line (verify_answer rows image) (λ zero_is. other (tells.status_is ∙ zero_is))

-- bytes that are a text
pub bytes_told : {E : Type 0} (result : Result (List ℕ) E) (piece text whole : List ℕ) → piece ≡ whole → whole ≡ text → IfOk result (λ bytes. bytes ≡ piece)
    → IfOk result (λ verdict. verdict ≡ text)
bytes_told result piece text whole piece_is text_is ok = subst (λ it. IfOk result (λ bytes. bytes ≡ it)) (piece_is ∙ text_is) ok
