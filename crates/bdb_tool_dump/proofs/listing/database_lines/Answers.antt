use Rattle.std.proofs.Common.{◌∙◌, ◌<◌, ◌≤◌, ap, refl, arith, length}
use Rattle.bdb_databases.specs.Named.{database_at, no_database}
use Rattle.bdb_tool_print.specs.of_model.Answers.{database_line, list_text}
use Rattle.bdb_databases.specs.of_format.Terms.{databases, file_of, head_of}
use Rattle.bdb_tool_print.proofs.ListingLemmas.{line_of_database}
use Rattle.bdb_tool_print.proofs.PrinterLemmas.{begins, cut_up, place_added, place_cut, places_added}
use Rattle.bdb_tool_dump.proofs.listing.database_lines.Goals as goal

pub loop-i-init : goal.loop-i-init
unfolding list_text
loop-i-init g c = begins _ _ _ _ _ refl

pub loop-i-preserved : goal.loop-i-preserved
loop-i-preserved g c =
    let inside : c.loop-i.i < length (databases (file_of c.args.readable.now)) = omega (arith, c.databases-i-end.ensures, c.loop-i-test.true) in
    let text =
    line_of_database (head_of c.args.readable.now).page_size (head_of c.args.readable.now).order
    (database_at (file_of c.args.readable.now) c.database-db.result) _ _
    c.settings-kind.ensures c.name.ensures ∙ ap (λ i. database_line (database_at (file_of c.args.readable.now) i)) c.database-db.ensures in
    place_added _ _ _ _ _ database_line (databases (file_of c.args.readable.now)) c.loop-i.i no_database _ _ _ inside text c.in_ok-database_line.was
    c.loop-i.invariant c.database_line.ensures

pub returns-in_err-database_line : goal.returns-in_err-database_line
returns-in_err-database_line g c =
    let is = cut_up c.from_residual.result c.in_err-database_line.field-0.0 c.from_residual.ensures.1 in
    let inside : c.loop-i.i < length (databases (file_of c.args.readable.now)) = omega (arith, c.databases-i-end.ensures, c.loop-i-test.true) in
    let text =
    line_of_database (head_of c.args.readable.now).page_size (head_of c.args.readable.now).order
    (database_at (file_of c.args.readable.now) c.database-db.result) _ _
    c.settings-kind.ensures c.name.ensures ∙ ap (λ i. database_line (database_at (file_of c.args.readable.now) i)) c.database-db.ensures in
    place_cut _ _ _ _ _ database_line (databases (file_of c.args.readable.now)) c.loop-i.i no_database _ _ _ _ _ inside text c.in_err-database_line.was is
    c.loop-i.invariant c.database_line.ensures

pub returns : goal.returns
returns g c =
    let end : length (databases (file_of c.args.readable.now)) ≤ c.loop-i.i = omega (arith, c.databases-i-end.ensures, c.loop-i-test.false) in
    places_added _ _ _ _ database_line (databases (file_of c.args.readable.now)) c.loop-i.i _ end c.loop-i.invariant
