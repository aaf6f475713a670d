use Rattle.std.proofs.Common.{subst}
use Rattle.bdb_master.specs.Names.{HasAdded}
use Rattle.bdb_master.proofs.RepeatLemmas.{added_once}
use Rattle.bdb_buckets.specs.Chained.{Seen}
use Rattle.bdb_overflow.specs.Datum.{datum_seen}
use Rattle.bdb_master.proofs.seen_names.SeenNames.add_value.Goals as goal

pub returns-clause-keys : goal.returns-clause-keys
returns-clause-keys c =
    subst (λ (seen : Seen). HasAdded seen.keys c.add.new.self (datum_seen c.args.name)) c.self.view_is
    (added_once c.self.inside.keys c.add.new.self (datum_seen c.args.name) c.in_ok-is_new.ensures.updates)
