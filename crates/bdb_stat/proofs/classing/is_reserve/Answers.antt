use Rattle.std.proofs.Common.{◌∙◌, ◌==◌, ap, sym}
use Rattle.bdb_law_turned.specs.of_format.Terms.{file_of, is_meta, is_spare}
use Rattle.bdb_stat.proofs.ClassLemmas.{above_first, no_spare, reserve_is}
use Rattle.bdb_stat.proofs.classing.is_reserve.Goals as goal

pub owners-requires-clause-above : goal.owners-requires-clause-above
owners-requires-clause-above c = above_first c.args.linked.now c.args.number c.requires.forest (sym (ap is_meta c.requires.page) ∙ c.requires.other)

pub returns-then-is_spare : goal.returns-then-is_spare
returns-then-is_spare c =
    ap (λ n. n == 0) c.owners.ensures
    ∙ reserve_is c.args.linked.now c.args.number c.requires.forest
    (above_first c.args.linked.now c.args.number c.requires.forest (sym (ap is_meta c.requires.page) ∙ c.requires.other)) c.requires.inside c.requires.no_queue
    (sym (ap is_meta c.requires.page) ∙ c.requires.other)
    (sym (ap is_spare c.requires.page) ∙ (sym c.is_spare.ensures ∙ c.if-is_spare.true))

pub returns-else-is_spare : goal.returns-else-is_spare
returns-else-is_spare c =
    c.if-is_spare.false
    ∙ no_spare (file_of c.args.linked.now) c.args.number (sym (ap is_spare c.requires.page) ∙ (sym c.is_spare.ensures ∙ c.if-is_spare.false))
