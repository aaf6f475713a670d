use Rattle.std.proofs.Common.{◌<◌, ◌≤◌, ap, refl, arith, length}
use Rattle.bdb_databases.specs.Named.{database_at, no_database}
use Rattle.bdb_databases.specs.of_format.Terms.{databases, file_of}
use Rattle.bdb_tool_print.specs.of_text_format.Terms.{database_text, dump_text}
use Rattle.bdb_tool_print.proofs.PrinterLemmas.{begins, cut_up, place_added, place_cut, places_added}
use Rattle.bdb_tool_dump.proofs.dumping.sections.Goals as goal

pub loop-i-init : goal.loop-i-init
unfolding dump_text
loop-i-init g c = begins _ _ _ _ _ refl

pub loop-i-preserved : goal.loop-i-preserved
loop-i-preserved g c =
    let inside : c.loop-i.i < length (databases (file_of c.args.readable.now)) = omega arith in
    let text = ap (λ i. database_text c.args.print c.args.readable.now (database_at (file_of c.args.readable.now) i)) c.database.ensures in
    place_added _ _ _ _ _ (database_text c.args.print c.args.readable.now) (databases (file_of c.args.readable.now)) c.loop-i.i no_database _ _ _ inside text
    c.in_ok-database_section.was c.loop-i.invariant c.database_section.ensures

pub returns-in_err-database_section : goal.returns-in_err-database_section
returns-in_err-database_section g c =
    let is = cut_up c.from_residual.result c.in_err-database_section.field-0.0 c.from_residual.ensures.1 in
    let inside : c.loop-i.i < length (databases (file_of c.args.readable.now)) = omega arith in
    let text = ap (λ i. database_text c.args.print c.args.readable.now (database_at (file_of c.args.readable.now) i)) c.database.ensures in
    place_cut _ _ _ _ _ (database_text c.args.print c.args.readable.now) (databases (file_of c.args.readable.now)) c.loop-i.i no_database _ _ _ _ _ inside text
    c.in_err-database_section.was is c.loop-i.invariant c.database_section.ensures

pub returns : goal.returns
returns g c =
    let end : length (databases (file_of c.args.readable.now)) ≤ c.loop-i.i = omega arith in
    places_added _ _ _ _ (database_text c.args.print c.args.readable.now) (databases (file_of c.args.readable.now)) c.loop-i.i _ end c.loop-i.invariant
