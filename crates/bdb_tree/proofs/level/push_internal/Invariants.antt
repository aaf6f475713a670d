use Rattle.std.proofs.Common.{◌≡◌, ◌++◌, map}
use Rattle.bdb_overflow.specs.of_format.Terms.{InternalItem}
use Rattle.bdb_tree.proofs.level.push_internal.Given as goal

-- The children added and those of the items that are left make up the whole.
abbrev pub invariant-loop-item : goal.invariant-loop-item
invariant-loop-item l =
    l.next.items ++ map (λ (item : InternalItem). item.child) l.item-iterator ≡ l.fn.next.items ++ map (λ (item : InternalItem). item.child) l.page.items
