use Rattle.std.proofs.Common.{arith, false, refl, true, ◌∙◌, ap, subst}
use Rattle.bdb_mkleaves.proofs.Common.{le-leb, lt-leb, bytes_of, with_page, HoldsEntriesOn, with_field}
use Rattle.bdb_mkleaves.proofs.LeavesLemmas.{opened}
use Rattle.bdb_mkleaves.proofs.PushLemmas.{ready, some_leaves}
use Rattle.bdb_mkleaves.proofs.leaves.Leaves.make_room.Goals as goal

pub returns-then-cost-room : goal.returns-then-cost-room
returns-then-cost-room c =
    ready true c.args.self.now c.args.self.now c.args.pages.now c.args.pages.now c.args.cost c.requires.filled
    (le-leb _ _ (omega (arith, c.if-cost-room.true, c.room.ensures))) (refl, refl) c.requires.fits c.requires.whole

pub returns : goal.returns
returns c =
    ready false c.args.self.now _ c.args.pages.now c.add_leaf.new.pages c.args.cost c.requires.filled
    (lt-leb _ _ (omega (arith, c.if-cost-room.false, c.room.ensures)))
    (opened c.args.self.now _ c.args.pages.now c.set_next.new.pages c.add_leaf.new.pages
    (c.set_next.ensures.page
    ∙ ap (λ n. with_page c.args.pages.now c.args.self.now.last
    (with_field c.args.pages.now.order (bytes_of c.args.pages.now c.args.self.now.last) 16 n))
    c.count-next.ensures.count)
    c.in_ok-self.ensures.pages refl c.in_ok-push.ensures.items c.in_ok-self.ensures.number
    (λ previous before entries holds.
    subst (λ n. HoldsEntriesOn c.args.self.now.leaf_type c.set_next.new.pages c.args.self.now.last previous n entries) c.count-next.ensures.count
    (c.set_next.ensures.holds c.args.self.now.leaf_type previous before entries holds))
    c.in_ok-self.ensures.holds c.in_ok-self.ensures.long
    (some_leaves c.args.self.now c.args.pages.now c.requires.filled.before c.requires.filled.closed c.requires.filled.units c.requires.filled.filled))
    c.requires.fits c.requires.whole
