use Rattle.std.proofs.Common.{false, sym, ◌∙◌, ◌≡◌}
use Rattle.bdb_spelling.specs.of_text_format.Terms.{is_data_end}
use Rattle.bdb_text.proofs.PairLemmas.{datum_error}
use Rattle.bdb_text.proofs.data_pairs.read_datum.Goals as goal

pub returns-in-Err-clause-err : goal.returns-in-Err-clause-err
returns-in-Err-clause-err c =
    let line = c.cut_line-cut.result.line.now in
    let other : is_data_end line ≡ false = sym c.is_data_end.ensures ∙ c.if-is_data_end.false in
    rw c.error_at.ensures
    (datum_error c.args.print c.args.text.now line _ c.args.number c.in-Err.error c.cut_line-cut.ensures.lines other (c.in-Err.ensures.err false))
