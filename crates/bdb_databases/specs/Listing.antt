-- What is left of the list of a database, by its kind, and what a list asks for.
use Rattle.std.specs.Prelude.{ℕ, List}
use Rattle.bdb_databases.specs.declared.listing.Entries.{Entries}
use Rattle.bdb_databases.specs.declared.listing.Entries.TheVariants.{Btree, Recno, Hash, Queue}
use Rattle.bdb_recno.specs.of_format.Terms.{BtreeFields, File, HashFields, ListKey, Metadata, QueueFields}
use Rattle.bdb_hash_list.specs.Scanned.{KeysDiffer}
use Rattle.bdb_recno.specs.of_overflow.Datum.{datum_seen, key_view_seen}
use Rattle.bdb_recno.specs.of_overflow.declared.datum.Datum.{Datum}
use Rattle.bdb_recno.specs.of_overflow.declared.datum.KeyView.{KeyView}

-- a pair of a list
abbrev pub entry_seen : (KeyView × Datum) → ListKey × List ℕ
entry_seen entry = (key_view_seen entry.0, datum_seen entry.1)

abbrev pub entries_left : Entries → List (ListKey × List ℕ)
entries_left (Btree scan) = scan
entries_left (Recno scan) = scan
entries_left (Hash scan) = scan
entries_left (Queue scan) = scan

-- no key of a table comes twice
abbrev pub HasNewKeys : File → Metadata → Type 0
HasNewKeys file (BtreeFields meta) = Unit {0}
HasNewKeys file (HashFields meta) = KeysDiffer file meta
HasNewKeys file (QueueFields meta) = Unit {0}
