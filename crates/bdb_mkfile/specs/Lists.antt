-- Which sections load into lists that a table, or a queue, can be built of. Source: docs/FORMAT.md, "What loading does to a list", "Built tables" and
-- "Built queues".
use Rattle.std.specs.Prelude.{◌≡◌, ◌+◌, ◌-◌, ◌*◌, ◌≤◌, ◌^◌, IsTrue, true, List, [], ◌∷◌, None}
use Rattle.std.specs.List.{All}
use Rattle.bdb_io.specs.of_format.declared.kinds.Kind.TheVariants.{Hash, Queue}
use Rattle.bdb_io.specs.of_format.declared.settings.Settings.{Settings}
use Rattle.bdb_io.specs.of_format.Terms.{is_page_size, pad4}
use Rattle.bdb_text_format.specs.declared.pairs.Pair.{Pair}
use Rattle.bdb_text_format.specs.declared.pairs.TextPair.{TextPair}
use Rattle.bdb_text_format.specs.declared.sections.Section.{Section}
use Rattle.bdb_text_format.specs.Terms.{AscendFrom}
use Rattle.bdb_need.specs.of_settle.ListLaw.{HasShortBytes, IsFit}
use Rattle.bdb_need.specs.of_settle.LoadErrors.{load_error}
use Rattle.bdb_need.specs.of_settle.Loaded.{loaded}
use Rattle.bdb_need.specs.of_mkhash.Table.{IsTableList}
use Rattle.bdb_need.specs.of_mkqueue.Lists.{HasLength, HasNext, IsQueueList}
use Rattle.bdb_mkfile.specs.LoneImages.{queue_pages}

-- where no error holds, each section of a hash loads into a list that a table can be built of, if its bytes have lengths that fit
abbrev pub LoadIntoTables : Type 0
LoadIntoTables = (sections : List Section) → load_error sections ≡ None
    → All (λ section. section.settings.kind ≡ Hash → IsFit section → All HasShortBytes (loaded section.settings section.pairs)
    → IsTableList section.settings (loaded section.settings section.pairs)) sections

-- the number after that of a record fits its field
abbrev pub TextHasNext : TextPair → Type 0
TextHasNext pair = HasNext (record { key = pair.key; value = pair.value })

-- where no error holds, each section of a queue whose records have one length and numbers below 2^32 - 1 loads into a list that a queue can be
-- built of
abbrev pub LoadIntoQueues : Type 0
LoadIntoQueues = (sections : List Section) → load_error sections ≡ None
    → All (λ section. section.settings.kind ≡ Queue → section.settings.fixed ≡ true → IsFit section → All TextHasNext section.pairs
    → IsQueueList section.settings (loaded section.settings section.pairs)) sections

-- a section of a queue as it loads: it is alone, without a name, its record fits a page, numbers ascend from 1, and records have one length
pub record IsQueueAlone (sections : List Section) (section : Section) : Type 0 where
  pub alone : sections ≡ section ∷ []
  pub unnamed : section.name ≡ None
  pub room : pad4 (section.settings.re_len + 1) ≤ section.settings.page_size - 28
  pub ascend : AscendFrom 1 (loaded section.settings section.pairs)
  pub long : All (HasLength section.settings.re_len) (loaded section.settings section.pairs)

-- where no error holds, each section of a queue, whose records have one length, is such
abbrev pub QueuesAreAlone : Type 0
QueuesAreAlone = (sections : List Section) → load_error sections ≡ None
    → All (λ section. section.settings.kind ≡ Queue → section.settings.fixed ≡ true → IsFit section → IsQueueAlone sections section) sections

-- where the pages of a queue have at most 2^30 bytes, the number after that of each record fits its field
abbrev pub RecordsAreFew : Type 0
RecordsAreFew = (settings : Settings) (pairs : List Pair) → IsTrue (is_page_size settings.page_size)
    → pad4 (settings.re_len + 1) ≤ settings.page_size - 28 → AscendFrom 1 pairs
    → queue_pages settings pairs * settings.page_size ≤ 2 ^ 30 → All HasNext pairs
