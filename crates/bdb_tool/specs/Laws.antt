-- A law of the rows that count. Source: docs/FORMAT.md, "Stage 8, contents".
use Rattle.std.specs.Prelude.{◌≡◌, ℕ, List, false}
use Rattle.std.specs.List.{Contains}
use Rattle.bdb_repair.specs.of_any_order.AnyOrder.{is_of_order}
use Rattle.bdb_repair.specs.of_any_order.declared.rows.Rows.TheVariants.{All, AnyOrder}
use Rattle.bdb_repair.specs.of_format.declared.kinds.Fault.{Fault}
use Rattle.bdb_repair.specs.of_format.Terms.{contents_faults, file_of}
use Rattle.bdb_tool_words.specs.Commands.{Request}
use Rattle.bdb_tool_ask.specs.FileAnswers.{asked_answer}

-- on a file on which no row of order holds, what is asked is answered in any order as by all rows
abbrev pub SameAnswersWithoutOrder : Type 0
SameAnswersWithoutOrder =
    (request : Request) (image : List ℕ) → ((fault : Fault) → Contains (contents_faults (file_of image)) fault → is_of_order fault ≡ false)
    → asked_answer AnyOrder request image ≡ asked_answer All request image
