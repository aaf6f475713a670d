use Rattle.std.proofs.Common.{map, sym, ◌∙◌, ap}
use Rattle.bdb_apart.specs.Names.{entry_found}
use Rattle.bdb_apart.proofs.FoundLemmas.{is_put, stays}
use Rattle.bdb_apart.proofs.databases.put_db.Goals as goal

-- A new name.
pub returns : goal.returns
returns c =
    ap (map entry_found) c.in_ok-insert.ensures.entries
    ∙ is_put c.args.dbs.now.entries c.args.name (record { meta = c.args.meta; fields = c.args.fields }) (sym c.contains_key.ensures ∙ c.if-contains_key.false)

-- One that is there.
pub returns-then-contains_key : goal.returns-then-contains_key
returns-then-contains_key c =
    stays c.args.dbs.now.entries c.args.name (record { meta = c.args.meta; fields = c.args.fields }) (sym c.contains_key.ensures ∙ c.if-contains_key.true)
