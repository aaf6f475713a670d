-- What metadata says of its database: its kind, and what its flags allow. Source: docs/FORMAT.md, "Databases of a file" and "Settings".
use Rattle.std.specs.Prelude.{if◌then◌else◌, Bool, true, false}
use Rattle.bdb_format.specs.declared.kinds.Kind.{Kind}
use Rattle.bdb_format.specs.declared.kinds.Kind.TheVariants.{Btree, Recno, Hash, Queue}
use Rattle.bdb_format.specs.declared.metadata.BtreeMeta.{BtreeMeta}
use Rattle.bdb_format.specs.Numbers.{has_bit}
use Rattle.bdb_format.specs.Page.{Metadata, BtreeFields, HashFields, QueueFields}

-- btree metadata is that of a recno
abbrev pub is_recno : BtreeMeta → Bool
is_recno meta = has_bit meta.flags 0x02

-- the kind of btree metadata
abbrev pub btree_kind : BtreeMeta → Kind
btree_kind meta = if is_recno meta then Recno else Btree

-- the kind of a database by its metadata
abbrev pub kind_of : Metadata → Kind
kind_of (BtreeFields meta) = btree_kind meta
kind_of (HashFields meta) = Hash
kind_of (QueueFields meta) = Queue

-- keys are numbers of records
abbrev pub has_records : Metadata → Bool
has_records (BtreeFields meta) = is_recno meta
has_records (HashFields meta) = false
has_records (QueueFields meta) = true

-- a key may have several data; the flag of sorted ones alone means so too
abbrev pub has_duplicates : Metadata → Bool
has_duplicates (BtreeFields meta) = has_bit meta.flags 0x41
has_duplicates (HashFields meta) = has_bit meta.flags 0x05
has_duplicates (QueueFields meta) = false

-- and they are sorted
abbrev pub is_sorted : Metadata → Bool
is_sorted (BtreeFields meta) = has_bit meta.flags 0x40
is_sorted (HashFields meta) = has_bit meta.flags 0x04
is_sorted (QueueFields meta) = false

-- a btree's internal items count the records below them
abbrev pub counts_records : BtreeMeta → Bool
counts_records meta = has_bit meta.flags 0x04

-- a recno's records have one length
abbrev pub is_fixed : BtreeMeta → Bool
is_fixed meta = has_bit meta.flags 0x08

-- a recno's records are numbered anew where one goes
abbrev pub renumbers : BtreeMeta → Bool
renumbers meta = has_bit meta.flags 0x10

-- on page 0: the pairs name databases
abbrev pub names_databases : BtreeMeta → Bool
names_databases meta = has_bit meta.flags 0x20
