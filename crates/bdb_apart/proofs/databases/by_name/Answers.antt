use Rattle.std.proofs.Common.{◌≡◌, [], map, sym, ◌∙◌, ap}
use Rattle.std.specs.List.{fold}
use Rattle.std.proofs.lemmas.List.Sums.{fold-append}
use Rattle.bdb_rescue.specs.Kept.{file_in}
use Rattle.bdb_apart.specs.Found.{named_above, unnamed_above, with_found}
use Rattle.bdb_apart.specs.Names.{entry_found}
use Rattle.bdb_apart.proofs.databases.by_name.Goals as goal

-- Those that entries name, and then the others.
pub returns : goal.returns
returns c =
    let file = file_in c.args.salvaged.now in
    let none : map entry_found c.new-dbs.result.entries ≡ [] = ap (map entry_found) c.new-dbs.ensures.empty in
    c.in_ok-put_all-2.ensures
    ∙ (ap (λ dbs. fold with_found dbs (unnamed_above file))
    (c.in_ok-put_all.ensures ∙ ap (λ dbs. fold with_found dbs (named_above file)) none)
    ∙ sym (fold-append with_found [] (named_above file) (unnamed_above file)))
