-- The names are those of the sections: a section more has none, or its name went into the set.
use Rattle.std.proofs.Common.{◌∙◌}
use Rattle.bdb_text.specs.Earlier.{keys_in}
use Rattle.bdb_text.proofs.EarlierLemmas.{named_more, unnamed_more}
use Rattle.bdb_text.proofs.earlier.Earlier.with.Goals as goal
use Rattle.bdb_text.proofs.earlier.Earlier.with.Goals.{in-None, in-Some+in_ok-to_vec-in-Some+in_ok-insert-in-Some}

pub invariant_of-all : goal.invariant_of-all
invariant_of-all c =
    elim c.match-section.branch [
      | in-None w ↦ rw (c.in_ok-push.ensures.ok, w.all-inside-is)
          (unnamed_more (keys_in c.all.inside.names) c.all.inside.unnamed c.all.inside.sections c.args.section c.all.invariant w.in-None.is)
      | in-Some+in_ok-to_vec-in-Some+in_ok-insert-in-Some w ↦
          rw (c.in_ok-push.ensures.ok, w.all-inside-is)
          (named_more c.all.inside.names w.insert.new.self w.in_ok-to_vec-in-Some.field-0 w.in-Some.name c.all.inside.unnamed c.all.inside.sections
          c.args.section
          c.all.invariant w.in-Some.is
          (w.in_ok-to_vec-in-Some.ensures.items_if_clones_equal (λ x y same. same) ∙ w.as_slice.ensures)
          w.in_ok-insert-in-Some.ensures.keys)
    ]
