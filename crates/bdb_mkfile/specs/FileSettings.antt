-- The settings of a built database, and the metadata that says them. Source: docs/FORMAT.md, "Settings" and "Metadata pages".
use Rattle.std.specs.Prelude.{ℕ, ◌+◌, ◌-◌, Bool, true, false, List, length}
use Rattle.bdb_io.specs.of_format.declared.kinds.Kind.{Kind}
use Rattle.bdb_io.specs.of_format.declared.kinds.Kind.TheVariants.{Btree, Recno, Hash, Queue}
use Rattle.bdb_io.specs.of_format.declared.kinds.Order.{Order}
use Rattle.bdb_io.specs.of_format.declared.metadata.BtreeMeta.{BtreeMeta}
use Rattle.bdb_io.specs.of_format.declared.settings.Settings.{Settings}
use Rattle.bdb_io.specs.of_format.Terms.{btree_bytes, plain_settings}
use Rattle.bdb_need.specs.of_pack.Built.{Built}

-- what settings say of a kind, in a file of a page size and an order: what belongs to other kinds is as a header without its keyword says
abbrev pub own_settings : Kind → ℕ → Order → Settings → Settings
own_settings Btree page_size order settings = record (plain_settings Btree page_size order) {
  duplicates = settings.duplicates;
  sorted = settings.sorted;
  recnum = settings.recnum;
  minkey = settings.minkey;
}
own_settings Recno page_size order settings = record (plain_settings Recno page_size order) {
  renumber = settings.renumber;
  fixed = settings.fixed;
  re_len = settings.re_len;
  re_pad = settings.re_pad;
}
own_settings Hash page_size order settings = record (plain_settings Hash page_size order) {
  duplicates = settings.duplicates;
  sorted = settings.sorted;
  ffactor = settings.ffactor;
}
own_settings Queue page_size order settings = record (plain_settings Queue page_size order) {
  fixed = true;
  re_len = settings.re_len;
  re_pad = settings.re_pad;
}

-- the settings of a database in its own file
abbrev pub file_settings : Settings → Settings
file_settings settings = own_settings settings.kind settings.page_size settings.order settings

-- a flag, where it is set
abbrev pub flag : Bool → ℕ → ℕ
flag true bit = bit
flag false bit = 0

abbrev pub btree_flags : Bool → Bool → Bool → ℕ
btree_flags duplicates sorted recnum = flag duplicates 0x01 + flag recnum 0x04 + flag sorted 0x40

abbrev pub recno_flags : Bool → Bool → ℕ
recno_flags fixed renumber = 0x02 + flag fixed 0x08 + flag renumber 0x10

abbrev pub flags_of : Kind → Settings → ℕ
flags_of Btree settings = btree_flags settings.duplicates settings.sorted settings.recnum
flags_of Recno settings = recno_flags settings.fixed settings.renumber
flags_of Hash settings = 0
flags_of Queue settings = 0

-- the metadata of a tree with these settings and this root
abbrev pub tree_meta : Settings → ℕ → BtreeMeta
tree_meta settings root = record {
  flags = flags_of settings.kind settings;
  minkey = settings.minkey;
  re_len = settings.re_len;
  re_pad = settings.re_pad;
  root = root;
  free = 0;
}

-- the bytes of page 0 for these pages
abbrev pub first_bytes : Built → BtreeMeta → List ℕ
first_bytes built meta = btree_bytes built.order built.size 0 (length built.pages - 1) meta
