use Rattle.std.proofs.Common.{◌≡◌, ◌-◌}
use Rattle.bdb_apart.specs.of_rescue.Kept.{file_in}
use Rattle.bdb_damage.specs.Pages.{is_queue_file}
use Rattle.bdb_damage.specs.Walks.{refused_from}
use Rattle.bdb_damage.proofs.refused.RefusedPagesIterator.next.Given as goal

-- As much is left as at the beginning.
abbrev pub invariant-walk : goal.invariant-walk
invariant-walk l = record {
  left : refused_from l.self-inside.pages.salvaged.now l.self-inside.pages.page ≡ refused_from l.initial.self-inside.pages.salvaged.now l.initial.self-inside.pages.page;
  queue : l.self-inside.pages.queue ≡ is_queue_file l.self-inside.pages.salvaged.now;
}

abbrev pub decreases-walk : goal.decreases-walk
decreases-walk l = (file_in l.self-inside.pages.salvaged.now).count - l.self-inside.pages.page
