use Rattle.std.proofs.Common.{arith}
use Rattle.bdb_mkleaves.proofs.PlacingLemmas.{renamed_whole, root_placed}
use Rattle.bdb_mkleaves.proofs.placing.place_root.Goals as goal

pub set_field-requires-2-clause-whole : goal.set_field-requires-2-clause-whole
set_field-requires-2-clause-whole c =
    renamed_whole c.args.pages.now c.copy_over.new.self c.set_field.new.pages c.args.first c.args.root c.requires.whole c.requires.legal
    c.requires.first c.requires.last c.copy_over.ensures c.set_field.ensures

pub returns : goal.returns
returns c =
    root_placed c.args.pages.now c.copy_over.new.self c.set_field.new.pages c.set_field-2.new.pages c.drop_last.new.self c.args.first c.args.root c.args.sum
    c.requires.whole c.requires.legal (omega (arith, c.ranges.first.fits)) (omega (arith, c.ranges.sum.fits)) c.requires.first c.requires.last
    c.copy_over.ensures c.set_field.ensures c.set_field-2.ensures c.drop_last.ensures
