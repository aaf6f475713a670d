-- Which sections load into lists that trees can be built of. Source: docs/FORMAT.md, "Built trees".
use Rattle.std.specs.Prelude.{◌≡◌, true, List, None}
use Rattle.std.specs.List.{All}
use Rattle.bdb_mktree.specs.of_format.declared.kinds.Kind.{Kind}
use Rattle.bdb_mktree.specs.of_format.declared.kinds.Kind.TheVariants.{Btree, Recno, Hash, Queue}
use Rattle.bdb_mktree.specs.of_text_format.declared.pairs.Pair.{Pair}
use Rattle.bdb_mktree.specs.of_text_format.declared.pairs.Key.{Key}
use Rattle.bdb_mktree.specs.of_text_format.declared.pairs.TextPair.{TextPair}
use Rattle.bdb_mktree.specs.of_text_format.declared.sections.Section.{Section}
use Rattle.bdb_mktree.specs.of_mkleaves.Runs.{IsShort}
use Rattle.bdb_mktree.specs.Lists.{HasBytes, HasNumber, IsTreeList, bytes_in}
use Rattle.bdb_mktree.specs.Units.{IsTreeKind}
use Rattle.bdb_settle.specs.LoadErrors.{load_error}
use Rattle.bdb_settle.specs.Loaded.{loaded}

-- bytes for btree and hash, numbers for recno and queue
abbrev pub IsKeyOf : Kind → Key → Type 0
IsKeyOf Btree key = HasBytes key
IsKeyOf Recno key = HasNumber key
IsKeyOf Hash key = HasBytes key
IsKeyOf Queue key = HasNumber key

-- a section whose keys are those of its kind; sorted duplicates are duplicates too
pub record IsFit (section : Section) : Type 0 where
  pub pairs : All (λ (pair : TextPair). IsKeyOf section.settings.kind pair.key) section.pairs
  pub sorted : section.settings.sorted ≡ true → section.settings.duplicates ≡ true

-- a pair whose bytes have lengths that fit their fields
pub record HasShortBytes (pair : Pair) : Type 0 where
  pub key : IsShort (bytes_in pair.key)
  pub value : IsShort pair.value

-- where no error holds, each section of a btree or recno loads into such a list, if its bytes have lengths that fit
abbrev pub LoadIntoLists : Type 0
LoadIntoLists = (sections : List Section) → load_error sections ≡ None
    → All (λ section. IsTreeKind section.settings.kind → IsFit section → All HasShortBytes (loaded section.settings section.pairs)
    → IsTreeList section.settings (loaded section.settings section.pairs)) sections
