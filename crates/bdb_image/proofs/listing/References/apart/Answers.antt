use Rattle.bdb_image.proofs.ApartLemmas.{table_apart}
use Rattle.bdb_image.proofs.listing.References.apart.Goals as goal

-- The first free page stands before the buckets.
pub returns-in-Table : goal.returns-in-Table
returns-in-Table c =
    rw (← c.self.view_is)
    (table_apart c.in-Table.free c.in-Table.max_bucket c.in-Table.spares c.self.inside.source c.self.inside.slot c.self.inside.place c.over.result c.in-Table.is
    c.if-self-eq0.true c.self.invariant.before c.self.invariant.room c.over.ensures)
