use Rattle.std.specs.Prelude.{◌≡◌, ◌++◌}
use Rattle.std.specs.List.{flat_map}
use Rattle.bdb_text_format.specs.of_format.Terms.{chain}
use Rattle.bdb_rescue.specs.Kept.{values_on}
use Rattle.bdb_rescue.proofs.sets.keep_set.Given as goal

-- The values of the leaves that were passed, which are the first ones.
abbrev pub invariant-loop-leaf : goal.invariant-loop-leaf
invariant-loop-leaf l = record {
  kept : l.kept.items ≡ l.fn.kept.items ++ flat_map (values_on l.survey) l.yielded;
  all : l.yielded ++ l.leaf-iterator ≡ chain l.survey l.first;
}
