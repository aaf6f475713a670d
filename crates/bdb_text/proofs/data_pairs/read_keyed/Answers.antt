use Rattle.bdb_text.proofs.PlacingLemmas.{keyed_read}
use Rattle.bdb_text.proofs.data_pairs.read_keyed.Goals as goal

pub returns-clause-ok : goal.returns-clause-ok
returns-clause-ok c =
    keyed_read c.args.way.print c.args.way.numbered c.args.line.now c.args.behind.now c.args.number c.args.bytes.now.items c.read_key.new.bytes.items
    c.read_datum.new.bytes.items c.in-Ok.key c.in_ok-datum.datum c.in-Ok.ensures.ok c.in_ok-datum.ensures.ok
