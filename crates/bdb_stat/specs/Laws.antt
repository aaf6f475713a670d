-- What the classes of pages keep. Source: docs/FORMAT.md, "Statistics".
use Rattle.std.specs.Prelude.{◌≡◌, ◌≤◌, ◌^◌, ℕ, ◌+◌, List, [], length}
use Rattle.bdb_law_turned.specs.of_format.Terms.{File, faults_of, file_of}
use Rattle.bdb_stat.specs.Classes.{pages_of}
use Rattle.bdb_stat.specs.declared.class.Class.TheVariants.{Meta, Internal, Leaf, Hash, Overflow, Free, Reserve, Queue, Tail}

-- the pages of all classes together
abbrev pub classed : File → ℕ
classed file =
    pages_of file Meta + pages_of file Internal + pages_of file Leaf + pages_of file Hash + pages_of file Overflow + pages_of file Free
    + pages_of file Reserve + pages_of file Queue + pages_of file Tail

abbrev pub ClassesAddUp : Type 0
ClassesAddUp = (image : List ℕ) → length image ≤ 2 ^ 30 → faults_of image ≡ [] → classed (file_of image) ≡ (file_of image).count
