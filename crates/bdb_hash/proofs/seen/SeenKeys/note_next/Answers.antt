use Rattle.std.proofs.Common.{[], ◌∷◌, subst, ◌∙◌}
use Rattle.bdb_ranks.specs.of_overflow.Datum.{datum_seen}
use Rattle.bdb_buckets.specs.Chained.{Seen}
use Rattle.bdb_hash.specs.Passed.{NotesRepeats}
use Rattle.bdb_hash.proofs.RepeatLemmas.{one_noted}
use Rattle.bdb_hash.proofs.seen.SeenKeys.note_next.Goals as goal

pub returns-clause-noted : goal.returns-clause-noted
returns-clause-noted g c =
    subst (λ (seen : Seen). NotesRepeats seen.keys c.add.new.self (g.F.FaultSink.has_noted c.args.found.now) (g.F.FaultSink.has_noted c.note_if.new.found)
    (c.args.pair.now ∷ [])) c.self.view_is
    (one_noted c.self.inside.keys c.add.new.self (g.F.FaultSink.has_noted c.args.found.now) (g.F.FaultSink.has_noted c.note_if.new.found) c.args.pair.now
    (datum_seen c.again.result) c.page.result c.in_ok-is_new.is_new c.in_ok-is_new.ensures.updates c.in_ok-is_new.ensures.added
    (c.again.ensures ∙ c.key.ensures) c.page.ensures c.in_ok-note_if.ensures.noted)
