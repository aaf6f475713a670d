use Rattle.std.proofs.Common.{[], length, ap, sym, ◌+◌, ◌∙◌, ◌≡◌, true, subst}
use Rattle.bdb_mktree.proofs.Common.{is_page_size, AreFilled}
use Rattle.bdb_mktree.proofs.BuildingLemmas.{begun_building, first_begun, units_read}
use Rattle.bdb_mktree.proofs.builder.TreeBuilder.start.Goals as goal

pub returns-clause-building : goal.returns-clause-building
returns-clause-building c =
    let leaves = c.in_ok-leaves.leaves in
    let kept = c.in_ok-leaves.ensures.kept in
    let filled = c.in_ok-leaves.ensures.filled in
    let first = first_begun leaves c.start.new.pages (length c.args.pages.now.pages) filled c.in_ok-leaves.ensures.number in
    begun_building (record { alloc = c.args.alloc; settings = c.args.settings.now; leaves = leaves }) c.start.new.pages c.requires.kind
    (subst (λ n. is_page_size n ≡ true) (sym kept.size) c.in_ok-leaves.ensures.legal)
    (kept.size ∙ c.requires.size) (kept.order ∙ c.requires.order) (c.in_ok-leaves.ensures.leaf ∙ c.leaf_type_of.ensures)
    (subst (λ n. AreFilled leaves c.start.new.pages n [] []) (sym first) filled) (c.in_ok-leaves.ensures.count ∙ ap (λ n. n + 1) (sym first))

pub returns-clause-empty : goal.returns-clause-empty
returns-clause-empty c =
    units_read c.in_ok-leaves.leaves c.start.new.pages (length c.args.pages.now.pages) [] [] c.args.settings.now.kind c.requires.kind
    (c.in_ok-leaves.ensures.leaf ∙ c.leaf_type_of.ensures) c.in_ok-leaves.ensures.filled
