use Rattle.std.proofs.Common.{◌≡◌, rules, Err}
use Rattle.bdb_text.proofs.data_lines.read_key.Goals as goal

pub returns-in_err-span-clause-err : goal.returns-in_err-span-clause-err
returns-in_err-span-clause-err c =
    let error = c.in_err-span.field-0.0 in
    let is : c.from_residual.result ≡ Err error = search rules in
    rw is (c.in_err-span.ensures.err c.args.numbered)
