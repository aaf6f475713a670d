use Rattle.std.proofs.Common.{arith}
use Rattle.bdb_stat.specs.declared.class.Class.TheVariants.{Meta, Internal, Leaf, Hash, Overflow, Free, Reserve, Queue, Tail}
use Rattle.bdb_stat.proofs.figures.Stat.count.Goals as goal

pub overflow_add-self : goal.overflow_add-self
overflow_add-self c = omega (arith, c.requires Meta)

pub overflow_add-self-in-Internal : goal.overflow_add-self-in-Internal
overflow_add-self-in-Internal c = omega (arith, c.requires Internal)

pub overflow_add-self-in-Leaf : goal.overflow_add-self-in-Leaf
overflow_add-self-in-Leaf c = omega (arith, c.requires Leaf)

pub overflow_add-self-in-Hash : goal.overflow_add-self-in-Hash
overflow_add-self-in-Hash c = omega (arith, c.requires Hash)

pub overflow_add-self-in-Overflow : goal.overflow_add-self-in-Overflow
overflow_add-self-in-Overflow c = omega (arith, c.requires Overflow)

pub overflow_add-self-in-Free : goal.overflow_add-self-in-Free
overflow_add-self-in-Free c = omega (arith, c.requires Free)

pub overflow_add-self-in-Reserve : goal.overflow_add-self-in-Reserve
overflow_add-self-in-Reserve c = omega (arith, c.requires Reserve)

pub overflow_add-self-in-Queue : goal.overflow_add-self-in-Queue
overflow_add-self-in-Queue c = omega (arith, c.requires Queue)

pub overflow_add-self-in-Tail : goal.overflow_add-self-in-Tail
overflow_add-self-in-Tail c = omega (arith, c.requires Tail)
