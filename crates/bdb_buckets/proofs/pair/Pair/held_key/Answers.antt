use Rattle.std.proofs.Common.{sym, subst}
use Rattle.bdb_tree.specs.of_layout.Seen.{hash_content_seen}
use Rattle.bdb_tree.specs.of_overflow.Datum.{datum_seen}
use Rattle.bdb_buckets.specs.Chained.{IsHead}
use Rattle.bdb_buckets.specs.Told.{told_as}
use Rattle.bdb_buckets.proofs.HeadLemmas.{chain_key, is_head}
use Rattle.bdb_buckets.proofs.pair.Pair.held_key.Goals as goal

pub returns-in-Some-default-clause-value : goal.returns-in-Some-default-clause-value
returns-in-Some-default-clause-value c =
    let told = told_as c.self.inside.forest c.self.inside.page (datum_seen c.self.inside.key) (hash_content_seen c.self.inside.item) in
    let is = subst (IsHead c.self.inside.head) c.self.view_is (is_head c.self.inside.head c.self.inside.key c.self.inside.index told c.self.invariant) in
    sym (chain_key c.args.self.now c.in-Some-default.head (subst (λ head. IsHead head c.args.self.now) c.in-Some-default.is-0 is))
