use Rattle.std.proofs.Common.{◌≡◌, ◌++◌, ◌∷◌, [], Some, None, true, false, get_or, set, arith, rules, sym, subst}
use Rattle.std.specs.Prelude.{is_none}
use Rattle.bdb_apart.specs.Kept.{AreHeld, found_seen}
use Rattle.bdb_apart.proofs.HeldLemmas.{past_held, still_held, then_held}
use Rattle.bdb_apart.proofs.apart.note_held.Goals as goal
use Rattle.bdb_apart.proofs.apart.note_held.Goals.{else-at-held-via-then-at-held+else-is_none, else-at-held-via-else-at-held}

pub returns-then-is_none : goal.returns-then-is_none
returns-then-is_none c =
    let none : is_none (get_or c.args.held.now c.args.place.now.meta None) ≡ true = search rules in
    λ dbs count are.
    subst (λ h. AreHeld (dbs ++ found_seen c.args.place.now ∷ []) count (set c.args.held.now c.args.place.now.meta (Some h))) (sym c.holds_of.ensures)
    (then_held dbs (found_seen c.args.place.now) count c.args.held.now (omega (arith, c.if-at-held.true, are.len)) none are)

pub returns-else-at-held : goal.returns-else-at-held
returns-else-at-held c = elim c.else-at-held.branch [
  | else-at-held-via-then-at-held+else-is_none w ↦
      let some : is_none (get_or c.args.held.now c.args.place.now.meta None) ≡ false = search rules in
      λ dbs count are. still_held dbs (found_seen c.args.place.now) count c.args.held.now (omega (arith, w.if-at-held.true, are.len)) some are
  | else-at-held-via-else-at-held w ↦
      λ dbs count are. past_held dbs (found_seen c.args.place.now) count c.args.held.now (omega (arith, w.if-at-held.false, are.len)) are
]
