-- What the printer of lines does with a text: it's written to its sink, or waits.
use Rattle.std.specs.Prelude.{◌≡◌, ℕ, List, Option, Result}
use Rattle.bdb_model.specs.Change.{change}
use Rattle.bdb_tool_lines.specs.Printing.{Prints}
use Rattle.bdb_tool_lines.specs.declared.cut.Cut.{Cut}
use Rattle.bdb_tool_lines.specs.declared.printer.Printer.{Printer}

-- a text was added to what a printer has for its sink, as far as it's said
pub record Passes {K : Type 0} (written : K → Option (List ℕ)) (faults : K → ℕ) (old new : Printer K) (text : List ℕ) (result : Result Unit Cut) : Type 0 where
  pub same_sink : new.out.ghost_name ≡ old.out.ghost_name
  pub prints : Prints old.room.now new.room.now text (change written faults old.out.now new.out.now) result
