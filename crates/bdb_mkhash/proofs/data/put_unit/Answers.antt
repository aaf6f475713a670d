use Rattle.bdb_mkhash.specs.Units.{unit_seen}
use Rattle.bdb_mkhash.proofs.StoreLemmas.{half_page, room_left, unit_put}
use Rattle.bdb_mkhash.proofs.data.put_unit.Goals as goal

pub put_data-requires-clause-open : goal.put_data-requires-clause-open
put_data-requires-clause-open c = half_page c.args.page c.args.pages.now c.put_value.new.pages c.args.unit.now.key.now c.requires.open
    c.in_ok-put_value.ensures

pub put_data-requires-clause-room : goal.put_data-requires-clause-room
put_data-requires-clause-room c =
    room_left c.args.page c.args.pages.now c.put_value.new.pages (unit_seen c.args.unit.now) c.requires.open c.in_ok-put_value.ensures c.requires.room

pub returns : goal.returns
returns c =
    unit_put c.args.page c.args.pages.now c.put_value.new.pages c.put_data.new.pages c.args.sorted (unit_seen c.args.unit.now) c.requires.open.there
    c.in_ok-put_value.ensures
    c.in_ok-put_data.ensures
