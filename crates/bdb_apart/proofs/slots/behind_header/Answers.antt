use Rattle.std.proofs.Common.{◌-◌, drop, length, arith, length-drop}
use Rattle.std.proofs.lemmas.List.{take_all}
use Rattle.bdb_apart.proofs.slots.behind_header.Goals as goal

pub returns : goal.returns
returns c = take_all (length c.args.page.now - 28) (drop 28 c.args.page.now) (omega (arith, length-drop 28 c.args.page.now))
