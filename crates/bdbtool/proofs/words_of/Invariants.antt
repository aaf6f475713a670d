use Rattle.std.proofs.Common.{◌≡◌, ◌++◌, map, string_bytes}
use Rattle.std.specs.Vec.Iter.{into_iter_items}
use Rattle.bdbtool.proofs.words_of.Given as goal

-- the words so far, and those that are left, are all
abbrev pub invariant-loop-arg : goal.invariant-loop-arg
invariant-loop-arg l = l.words ++ map string_bytes (into_iter_items l.arg-iterator) ≡ map string_bytes (into_iter_items l.fn.args)
