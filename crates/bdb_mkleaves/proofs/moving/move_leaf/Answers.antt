use Rattle.std.proofs.Common.{arith, sym, subst}
use Rattle.bdb_pack.specs.Built.{AreWhole}
use Rattle.bdb_mkleaves.proofs.MovedLemmas.{moved, numbered_is, numbered_whole}
use Rattle.bdb_mkleaves.proofs.moving.move_leaf.Goals as goal

pub blank-requires-clause-whole : goal.blank-requires-clause-whole
blank-requires-clause-whole c =
    subst AreWhole
    (sym (numbered_is c.args.pages.now c.add_copy.new.self c.set_field.new.pages c.args.from c.in_ok-number.number c.in_ok-number.ensures.ok
    c.in_ok-number.ensures.number c.set_field.ensures))
    (numbered_whole c.args.pages.now c.args.from c.requires.whole c.requires.legal c.requires.from)

pub returns : goal.returns
returns c =
    moved c.args.pages.now c.set_field.new.pages c.blank.new.pages c.args.from c.in_ok-number.number c.requires.whole
    c.requires.legal c.requires.from (omega (arith, c.if-count-ge-MAX.false, c.count.ensures.count)) c.in_ok-number.ensures.number
    (numbered_is c.args.pages.now c.add_copy.new.self c.set_field.new.pages c.args.from c.in_ok-number.number c.in_ok-number.ensures.ok
    c.in_ok-number.ensures.number c.set_field.ensures) c.blank.ensures
