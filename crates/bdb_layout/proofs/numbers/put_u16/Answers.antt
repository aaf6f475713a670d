use Rattle.bdb_layout.proofs.NumberLemmas.{put_big, put_little}
use Rattle.bdb_format.specs.Terms.{spelled}
use Rattle.bdb_layout.proofs.numbers.put_u16.Goals as goal

pub returns-in-Big : goal.returns-in-Big
unfolding spelled
returns-in-Big c = rw c.in-Big.is (put_big c.args.at 2 c.args.value c.args.bytes.now c.write_u16.new.buf c.write_u16.ensures)

pub returns-in-Little : goal.returns-in-Little
unfolding spelled
returns-in-Little c = rw c.in-Little.is (put_little c.args.at 2 c.args.value c.args.bytes.now c.write_u16-in-Little.new.buf c.write_u16-in-Little.ensures)
