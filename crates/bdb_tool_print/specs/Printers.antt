-- What a printer does with a text: it is written to its sink, or pending.
use Rattle.std.specs.Prelude.{◌≡◌, ℕ, Bool, List, ◌++◌, Option, Result, Ok}
use Rattle.bdb_tool_lines.specs.of_model.Change.{change}
use Rattle.bdb_text.specs.of_text_format.Terms.{data_line, key_bytes, line}
use Rattle.bdb_range.specs.of_format.Terms.{ListKey}
use Rattle.bdb_tool_lines.specs.Printing.{Prints}
use Rattle.bdb_tool_lines.specs.declared.cut.Cut.{Cut}
use Rattle.bdb_tool_print.specs.declared.printing.Printer.{Printer}

-- a text was added to what a printer prints to its sink, as far as it's said
pub record Adds {K : Type 0} (written : K → Option (List ℕ)) (faults : K → ℕ) (old new : Printer K) (text : List ℕ) (result : Result Unit Cut) : Type 0 where
  pub same_sink : new.out.ghost_name ≡ old.out.ghost_name
  pub prints : Prints old.pending.now new.pending.now text (change written faults old.out.now new.out.now) result

-- the text that was added so far, and what is left, are the whole
pub record HasAdded {K : Type 0} (written : K → Option (List ℕ)) (faults : K → ℕ) (old now : Printer K) (left whole : List ℕ) : Type 0 where
  pub done : List ℕ
  pub so_far : Adds written faults old now done (Ok tt)
  pub rest : done ++ left ≡ whole

-- the two data lines of a pair
abbrev pub pair_text : Bool → (ListKey × List ℕ) → List ℕ
pair_text print pair = line (data_line print (key_bytes pair.0)) ++ line (data_line print pair.1)
