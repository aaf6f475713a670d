-- The slots of a queue's pages, as they are gone over.
use Rattle.std.specs.Prelude.{◌≡◌, ℕ, ◌+◌, ◌*◌, ◌≤◌, List, length, map, Option, Some}
use Rattle.std.specs.Option.{option_to_list}
use Rattle.bdb_rescue.specs.of_format.declared.metadata.QueueMeta.{QueueMeta}
use Rattle.bdb_rescue.specs.of_format.Terms.{pad4}
use Rattle.bdb_rescue.specs.of_overflow.declared.datum.Datum.{Datum}
use Rattle.bdb_rescue.specs.Entries.{record_read}
use Rattle.bdb_rescue.specs.Kept.{Reading}
use Rattle.bdb_apart.specs.Queues.{queue_in}

abbrev pub record_seen : Option (ℕ × Datum) → List (ℕ × List ℕ)
record_seen found = map record_read (option_to_list found)

-- the slots of a page lie behind its header
abbrev pub HasSlots : ℕ → QueueMeta → Type 0
HasSlots size meta = 28 + meta.per_page * pad4 (meta.re_len + 1) ≤ size

pub record IsOnPage (meta : QueueMeta) (p : ℕ) (records : List ℕ) : Type 0 where
  pub above : 1 ≤ p
  pub room : meta.per_page * pad4 (meta.re_len + 1) ≤ length records

pub record IsInQueue (reading : Reading) (meta : QueueMeta) (p : ℕ) : Type 0 where
  pub above : 1 ≤ p
  pub queue : queue_in reading ≡ Some meta
