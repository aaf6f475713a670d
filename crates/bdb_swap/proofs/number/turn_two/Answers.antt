use Rattle.bdb_swap.proofs.NumberLemmas.{put_turned}
use Rattle.bdb_swap.proofs.number.turn_two.Goals as goal

pub returns : goal.returns
returns c = put_turned c.args.source.now c.args.page.now c.write_u16.new.buf c.args.at 2 c.read_u16-number.result (λ i. (c.type_inv.source i).fits)
    c.requires.inside
    c.read_u16-number.ensures c.write_u16.ensures
