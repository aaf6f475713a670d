use Rattle.std.proofs.Common.{◌≡◌, None, true, get_or, arith, rules}
use Rattle.std.specs.Prelude.{is_none}
use Rattle.bdb_rescue.specs.of_overflow.Datum.{datum_seen}
use Rattle.bdb_apart.proofs.NameLemmas.{had_by, had_noted, new_noted, past_noted}
use Rattle.bdb_apart.proofs.names.note_name.Goals as goal
use Rattle.bdb_apart.proofs.names.note_name.Goals.{else-at-names-via-then-at-names+else-is_none, else-at-names-via-else-at-names}

pub returns-then-is_none : goal.returns-then-is_none
returns-then-is_none c =
    let none : is_none (get_or c.args.names.now c.args.page None) ≡ true = search rules in
    new_noted c.args.names.now c.args.key c.args.page none (omega (arith, c.if-at-names.true))

pub returns-else-at-names : goal.returns-else-at-names
returns-else-at-names c = elim c.else-at-names.branch [
  | else-at-names-via-then-at-names+else-is_none w ↦
      had_noted c.args.names.now (datum_seen c.args.key) c.args.page
      (had_by c.args.names.now c.args.page _ _ (omega (arith, w.if-at-names.true)) w.is_none.ensures w.if-is_none.false)
  | else-at-names-via-else-at-names w ↦ past_noted c.args.names.now (datum_seen c.args.key) c.args.page (omega (arith, w.if-at-names.false))
]
