use Rattle.std.proofs.Common.{◌≡◌, ◌++◌, map}
use Rattle.bdb_overflow.specs.of_format.declared.pages.RecnoItem.{RecnoItem}
use Rattle.bdb_tree.proofs.level.push_recno.Given as goal

-- The children added and those of the items that are left make up the whole.
abbrev pub invariant-loop-item : goal.invariant-loop-item
invariant-loop-item l =
    l.next.items ++ map (λ (item : RecnoItem). item.child) l.item-iterator ≡ l.fn.next.items ++ map (λ (item : RecnoItem). item.child) l.page.items
