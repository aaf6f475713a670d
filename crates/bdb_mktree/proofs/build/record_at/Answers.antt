use Rattle.std.proofs.Common.{◌+◌, ◌∙◌, ap, arith, subst, sym, false}
use Rattle.bdb_mktree.proofs.Common.{length-map, EntryUnit, number_of, pairs_of, slice_seen, unlined, Pair, IsRecordAt}
use Rattle.bdb_mktree.proofs.ListLemmas.{is_missing, is_there, pair_at}
use Rattle.bdb_mktree.proofs.build.record_at.Goals as goal

pub returns-then-number-from : goal.returns-then-number-from
returns-then-number-from c =
    let pair = pair_at (slice_seen c.args.list) c.args.place _ c.at-pair.ensures in
    is_missing (pairs_of c.args.list) c.args.place c.args.number c.number_of.result c.requires.ascend
    (omega (arith, c.requires.more, length-map (slice_seen c.args.list) unlined))
    (c.number_of.ensures ∙ ap (λ (pair : Pair). number_of pair.key) (sym pair)) (omega (arith, c.if-number-from.true, c.from.ensures)) c.number_of.type_inv

pub returns : goal.returns
returns c =
    let pair = pair_at (slice_seen c.args.list) c.args.place _ c.at-pair.ensures in
    subst (λ (pair : Pair). IsRecordAt (pairs_of c.args.list) c.args.place c.args.number (EntryUnit pair.value false) (c.args.place + 1)) pair
    (is_there (pairs_of c.args.list) c.args.place c.args.number c.number_of.result c.requires.ascend
    (omega (arith, c.requires.more, length-map (slice_seen c.args.list) unlined))
    (c.number_of.ensures ∙ ap (λ (pair : Pair). number_of pair.key) (sym pair)) (omega (arith, c.if-number-from.false, c.from.ensures)) c.number_of.type_inv)
