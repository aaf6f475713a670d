-- The figures of a file. Source: docs/FORMAT.md, "Statistics".
use Rattle.std.specs.Prelude.{◌≡◌, ℕ, ◌+◌, if◌then◌else◌}
use Rattle.bdb_law_turned.specs.of_format.Terms.{File}
use Rattle.bdb_stat.specs.Classes.{levels, pages_of, same_class}
use Rattle.bdb_stat.specs.Unused.{unused}
use Rattle.bdb_stat.specs.declared.class.Class.{Class}
use Rattle.bdb_stat.specs.declared.class.Class.TheVariants.{Meta, Internal, Leaf, Hash, Overflow, Free, Reserve, Queue, Tail}
use Rattle.bdb_stat.specs.declared.figures.Stat.{Stat}

-- the figure of a class
abbrev pub count_in : Stat → Class → ℕ
count_in stat Meta = stat.meta
count_in stat Internal = stat.internal
count_in stat Leaf = stat.leaf
count_in stat Hash = stat.hash
count_in stat Overflow = stat.overflow
count_in stat Free = stat.free
count_in stat Reserve = stat.reserve
count_in stat Queue = stat.queue
count_in stat Tail = stat.tail

-- these are the figures of a file
pub record IsStat (file : File) (stat : Stat) : Type 0 where
  pub pages : stat.pages ≡ file.count
  pub classes : (class : Class) → count_in stat class ≡ pages_of file class
  pub levels : stat.levels ≡ levels file
  pub unused : stat.unused ≡ unused file

-- one more page of a class is counted, and the other figures stay
pub record Counts (class : Class) (old new : Stat) : Type 0 where
  pub classes : (other : Class) → count_in new other ≡ count_in old other + (if same_class other class then 1 else 0)
  pub pages : new.pages ≡ old.pages
  pub levels : new.levels ≡ old.levels
  pub unused : new.unused ≡ old.unused
