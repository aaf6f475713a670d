-- A file that is put into an order.
use Rattle.std.proofs.Common.{◌≡◌, ◌⊎◌, ℕ, List, inl, inr, sym, subst, arith, Option, Some, None, Result, Ok, Err}
use Rattle.bdb_file.specs.of_format.declared.kinds.Order.{Order}
use Rattle.bdb_tool_dump.specs.of_tool_lines.declared.cut.Cut.{Cut}
use Rattle.bdb_tool_dump.specs.of_tool_lines.Printing.{Writes}
use Rattle.bdb_tool_dump.proofs.of_tool_lines.PrintingLemmas.{moved}
use Rattle.bdb_tool_words.specs.of_model.Answers.{done}
use Rattle.bdb_tool_ask.specs.FileAnswers.{converted, overlap_line}
use Rattle.bdb_tool_words.specs.of_model.Change.{Change}
use Rattle.bdb_stat.specs.of_law_turned.Flipped.{flip_of, overlap_in}
use Rattle.bdb_tool_words.specs.of_model.Lines.{memory_line}
use Rattle.bdb_swap.specs.Flip.{IsFlip}
use Rattle.bdb_swap.specs.declared.flipping.FlipError.{FlipError}
use Rattle.bdb_swap.specs.declared.flipping.FlipError.TheVariants.{Overlap}
use Rattle.bdb_tool_dump.specs.of_tool_lines.Finished.{Finishes, Reports, Tells}
use Rattle.bdb_tool_ask.proofs.AnswerLemmas.{converted_own}
use Rattle.bdb_tool_dump.proofs.of_tool_lines.FinishLemmas.{memory_finishes, told_finishes, written_finishes}

-- the line was told as it was made
pub line_told : (page : ℕ) (text : List ℕ) (err : Change) (status : ℕ) → text ≡ overlap_line page → Tells text 13 err status
    → Tells (overlap_line page) 13 err status
line_told page text err status is tells = subst (λ (line : List ℕ). Tells line 13 err status) is tells

-- the image in the order was written
flipped_finishes : (order : Order) (image flipped : List ℕ) (out err : Change) (written : Result Unit Cut) (status : ℕ) → flipped ≡ flip_of order image
    → overlap_in order image ≡ None → Writes flipped out written → Reports written err status
    → Finishes (converted (overlap_in order image) order image) out err status
flipped_finishes order image flipped out err written status is none writes reports =
    subst (λ overlap. Finishes (converted overlap order image) out err status) (sym none)
    (subst (λ (text : List ℕ). Finishes (done text) out err status) is (written_finishes flipped out err written status writes reports))

-- the same, of the image that was read
pub flipped_printed : (order : Order) (image read flipped : List ℕ) (out err : Change) (written : Result Unit Cut) (status : ℕ) → read ≡ image
    → IsFlip order read (Ok flipped) → Writes flipped out written → Reports written err status
    → Finishes (converted (overlap_in order image) order image) out err status
flipped_printed order image read flipped out err written status same flips writes reports =
    subst (λ (it : List ℕ). Finishes (converted (overlap_in order it) order it) out err status) same
    (flipped_finishes order read flipped out err written status flips.0 flips.1 writes reports)

-- the page was told, or that memory ran out for its line
overlap_finishes : (order : Order) (image : List ℕ) (page : ℕ) (written : Option (List ℕ)) (faults : ℕ) (err : Change) (status : ℕ)
    → overlap_in order image ≡ Some page
    → (Tells (overlap_line page) 13 err status ⊎ Tells memory_line 7 err status)
    → Finishes (converted (overlap_in order image) order image) (moved written written faults faults) err status
overlap_finishes order image page written faults err status is (inl tells) =
    subst (λ overlap. Finishes (converted overlap order image) (moved written written faults faults) err status) (sym is)
    (told_finishes 13 (overlap_line page) written faults err status (λ five. omega arith) (λ seven. omega arith) tells)
overlap_finishes order image page written faults err status is (inr tells) =
    memory_finishes (converted (overlap_in order image) order image) written faults err status (converted_own (overlap_in order image) order image) tells

-- the refusal names the page
pub overlap_told : (order : Order) (image read : List ℕ) (error : FlipError) (page : ℕ) (written : Option (List ℕ)) (faults : ℕ) (err : Change) (status : ℕ)
    → read ≡ image → error ≡ Overlap page → IsFlip order read (Err error) → (Tells (overlap_line page) 13 err status ⊎ Tells memory_line 7 err status)
    → Finishes (converted (overlap_in order image) order image) (moved written written faults faults) err status
overlap_told order image read error page written faults err status same is flips tells =
    overlap_finishes order image page written faults err status
    (subst (λ (it : List ℕ). overlap_in order it ≡ Some page) same (subst (λ (it : FlipError). IsFlip order read (Err it)) is flips)) tells

pub no_memory_finishes : (order : Order) (image : List ℕ) (written : Option (List ℕ)) (faults : ℕ) (err : Change) (status : ℕ) → Tells memory_line 7 err status
    → Finishes (converted (overlap_in order image) order image) (moved written written faults faults) err status
no_memory_finishes order image written faults err status tells =
    memory_finishes (converted (overlap_in order image) order image) written faults err status (converted_own (overlap_in order image) order image) tells
