use Rattle.std.proofs.Common.{List, ℕ, ◌++◌, Some, codes, map, sym, subst, flat_map}
use Rattle.bdb_text.specs.of_text_format.Terms.{data_end, header_text, line}
use Rattle.bdb_tool_print.specs.Printers.{Adds, pair_text}
use Rattle.bdb_damage.specs.of_rescue.Text.{bytes_pair, stored_settings}
use Rattle.bdb_tool_print.proofs.DumpLemmas.{section_by_parts}
use Rattle.bdb_tool_print.proofs.PrinterLemmas.{adds_cut, cut_up}
use Rattle.bdb_tool_print.proofs.printing.Printer.pairs_section.Goals as goal

pub returns-in_err-header : goal.returns-in_err-header
returns-in_err-header g c =
    let settings = stored_settings c.args.guess in
    let list = map bytes_pair c.args.pairs.now in
    let is = cut_up c.from_residual.result c.in_err-header.field-0.0 c.from_residual.ensures.1 in
    subst (λ (text : List ℕ). Adds g.K.Sink.written g.K.Sink.faults c.args.self.now c.header.new.self text c.from_residual.result)
    (sym (section_by_parts c.args.print (Some (codes "salvaged")) settings list))
    (adds_cut _ _ _ _ (header_text c.args.print (Some (codes "salvaged")) settings) (flat_map (pair_text c.args.print) list ++ line data_end) _ _ _
    c.in_err-header.was is (rw c.stored_settings.ensures at c.header.ensures))
