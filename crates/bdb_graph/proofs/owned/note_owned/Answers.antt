use Rattle.bdb_image.specs.of_format.Terms.{file_of}
use Rattle.bdb_image.proofs.NotedLemmas.{owned_noted}
use Rattle.bdb_graph.proofs.owned.note_owned.Goals as goal

pub returns-clause-noted : goal.returns-clause-noted
returns-clause-noted g c =
    owned_noted (g.F.FaultSink.has_noted c.args.found.now) (g.F.FaultSink.has_noted c.note_if.new.found) (g.F.FaultSink.has_noted c.note_if-2.new.found)
    (file_of c.args.roles.now) c.args.page c.lacks_owner.result c.has_too_many.result c.lacks_owner.ensures c.has_too_many.ensures.many
    c.in_ok-note_if.ensures.noted c.in_ok-note_if-2.ensures.noted
