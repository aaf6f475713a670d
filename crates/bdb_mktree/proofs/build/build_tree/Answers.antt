use Rattle.std.proofs.Common.{length}
use Rattle.bdb_mktree.proofs.Common.{listed, pairs_of, units_in}
use Rattle.bdb_mktree.proofs.ListLemmas.{units_listed}
use Rattle.bdb_mktree.proofs.OrderLemmas.{keys_fit, units_fit}
use Rattle.bdb_mktree.proofs.PushedLemmas.{all_built, can_begin}
use Rattle.bdb_mktree.proofs.build.build_tree.Goals as goal

pub push_list-requires-clause-keys : goal.push_list-requires-clause-keys
push_list-requires-clause-keys c = keys_fit c.args.settings.now (pairs_of c.args.list) c.requires.kind c.requires.list

pub push_list-requires-clause-can : goal.push_list-requires-clause-can
push_list-requires-clause-can c =
    can_begin c.in_ok-builder.builder c.start.new.pages c.args.settings.now (units_in c.args.settings.now.kind (pairs_of c.args.list))
    c.in_ok-builder.ensures.building c.in_ok-builder.ensures.empty c.in_ok-builder.ensures.settings
    (units_fit c.args.settings.now (pairs_of c.args.list) c.requires.kind c.requires.list)

pub returns : goal.returns
returns c =
    all_built c.in_ok-builder.builder c.push_list.new.builder c.args.pages.now c.start.new.pages c.push_list.new.pages c.finish.new.pages
    (units_in c.args.settings.now.kind (pairs_of c.args.list)) (listed (pairs_of c.args.list)) (length c.args.pages.now.pages) c.in_ok-root.root
    c.args.settings.now c.in_ok-push_list.ensures c.in_ok-builder.ensures.empty c.in_ok-builder.ensures.settings c.in_ok-builder.ensures.first
    c.in_ok-builder.ensures.kept
    (units_listed c.args.settings.now.kind (pairs_of c.args.list) c.requires.kind
    (keys_fit c.args.settings.now (pairs_of c.args.list) c.requires.kind c.requires.list))
    c.in_ok-root.ensures
