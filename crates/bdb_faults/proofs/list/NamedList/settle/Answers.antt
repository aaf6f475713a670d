use Rattle.std.proofs.Common.{List, map, subst, sym, Contains}
use Rattle.bdb_format.specs.Terms.{fault_seen}
use Rattle.bdb_format.specs.declared.named.Named.{Named}
use Rattle.bdb_faults.specs.Notes.{AreOne, Ascends}
use Rattle.bdb_faults.proofs.MemberLemmas.{is_left, left_ascends, left_of}
use Rattle.bdb_faults.proofs.list.NamedList.settle.Goals as goal

pub returns-clause-same : goal.returns-clause-same
returns-clause-same c =
    let moved = c.sort_members.ensures.moved in
    let old : List Named = c.self.inside.members.items in
    let sorted : List Named = c.sort_members.new.members.items in
    λ one fault. (
      λ at. subst (λ all. Contains all fault) c.self.view_is (left_of old sorted fault moved
          (subst (λ all. Contains (map fault_seen all) fault) c.drop_repeats.ensures at)),
      λ at. subst (λ all. Contains (map fault_seen all) fault) (sym c.drop_repeats.ensures)
          (is_left old sorted fault moved (subst AreOne (sym c.self.view_is) one)
          (subst (λ all. Contains all fault) (sym c.self.view_is) at)),
    )

pub returns-clause-order : goal.returns-clause-order
returns-clause-order c =
    subst (λ all. Ascends (map fault_seen all)) (sym c.drop_repeats.ensures) (left_ascends c.sort_members.new.members.items c.sort_members.ensures.sorted)
