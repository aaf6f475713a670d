-- Kinds of pages and of databases, as they are kept.
use Rattle.std.proofs.Common.{◌≡◌, ◌^◌, ℕ, Bool, true, false, cond, List, length, refl, ap, sym, ◌∙◌}
use Rattle.std.specs.Option.{is_some}
use Rattle.std.specs.Prelude.{not, nat_lt, ◌==◌, ◌&&◌, ◌||◌, Some, None}
use Rattle.bdb_rescue.specs.of_format.declared.metadata.BtreeMeta.{BtreeMeta}
use Rattle.bdb_rescue.specs.of_format.Terms.{BtreeFields, Hash, HashFields, Leaf, Meta, Metadata, Page, QueueFields, RecnoLeaf, is_fixed, is_recno, master_in}
use Rattle.bdb_rescue.specs.of_format.Terms.{names_databases}
use Rattle.bdb_rescue.specs.of_format.declared.metadata.QueueMeta.{QueueMeta}
use Rattle.bdb_rescue.specs.of_image.Metas.{meta_in, meta_seen}
use Rattle.bdb_rescue.specs.of_image.declared.meta.Meta.{Meta as MetaFields}
use Rattle.bdb_rescue.specs.of_image.declared.meta.Meta.TheVariants.{Btree as BtreeKind, Hash as HashKind, Queue as QueueKind}
use Rattle.bdb_apart.specs.Found.{is_leaf}
use Rattle.bdb_apart.specs.Given.{fits_record, holds_pairs, is_pair_page, is_record_page, is_recno_db}
use Rattle.bdb_apart.specs.Kept.{fits_in, holds_of, is_leaf_kind, is_pair_kind, kind_in, names_in, pairs_in}
use Rattle.bdb_apart.specs.declared.holds.Holds.TheVariants.{Leaves, Records}
use Rattle.bdb_apart.specs.declared.holds.PageKind.{PageKind}
use Rattle.bdb_apart.specs.declared.holds.PageKind.TheVariants.{Records as RecordsKind}

-- metadata on page 0
pub master_page : (page : Page) → names_in (meta_in page) ≡ is_some (master_in page)
master_page (Meta (BtreeFields meta)) = by_flag (names_databases meta)
  where
    by_flag : (names : Bool) → names ≡ is_some (cond names (Some meta) None)
    by_flag true = refl
    by_flag false = refl
master_page (Meta (HashFields meta)) = refl
master_page (Meta (QueueFields meta)) = refl
master_page page = refl

-- The kinds of pages.

pub pair_kind : (page : Page) → is_pair_kind (kind_in page) ≡ is_pair_page page
pair_kind (Leaf page) = refl
pair_kind page = refl

pub leaf_kind : (page : Page) → is_leaf_kind (kind_in page) ≡ is_leaf page
leaf_kind (Leaf page) = refl
leaf_kind page = refl

abbrev pub is_record_kind : PageKind → Bool
is_record_kind RecordsKind = true
is_record_kind kind = false

pub record_kind : (page : Page) → is_record_kind (kind_in page) ≡ is_record_page page
record_kind (RecnoLeaf page) = refl
record_kind page = refl

-- a leaf of records holds no pairs
pub no_pairs : (page : Page) → is_record_page page ≡ true → is_pair_page page ≡ false
no_pairs (Hash page) is = absurd cc
no_pairs (Leaf page) is = absurd cc
no_pairs page is = refl

btree_pairs : (meta : BtreeMeta) (recno : Bool) (len : ℕ) (page : Page) → is_recno meta ≡ recno
    → pairs_in (cond recno (Records len) Leaves) (kind_in page) ≡ holds_pairs (BtreeFields meta) page
btree_pairs meta true len (Leaf page) is = sym (ap not is)
btree_pairs meta false len (Leaf page) is = sym (ap not is)
btree_pairs meta true len page is = refl
btree_pairs meta false len page is = refl

-- a page holds pairs of a database
pub pairs_kind : (fields : Metadata) (page : Page) → pairs_in (holds_of fields) (kind_in page) ≡ holds_pairs fields page
pairs_kind (BtreeFields meta) page = btree_pairs meta (is_recno meta) (cond (is_fixed meta) meta.re_len 0) page refl
pairs_kind (HashFields meta) (Hash page) = refl
pairs_kind (HashFields meta) page = refl
pairs_kind (QueueFields meta) (Hash page) = refl
pairs_kind (QueueFields meta) page = refl

-- a database without records takes none
pub takes_none : (fields : Metadata) (placed : ℕ × List ℕ) → is_recno_db fields ≡ false → fits_in (holds_of fields) placed ≡ false
takes_none (BtreeFields meta) placed none = ap (λ b. fits_in (cond b (Records (cond (is_fixed meta) meta.re_len 0)) Leaves) placed) none
takes_none (HashFields meta) placed none = refl
takes_none (QueueFields meta) placed none = refl

by_length : (fixed number : Bool) (re_len n : ℕ) → (number && (cond fixed re_len 0 == 0 || n == cond fixed re_len 0))
    ≡ (number && (not fixed || re_len == 0 || n == re_len))
by_length true number re_len n = refl
by_length false number re_len n = refl

-- and one with records those that fit
pub takes_those : (fields : Metadata) (placed : ℕ × List ℕ) → is_recno_db fields ≡ true → fits_in (holds_of fields) placed ≡ fits_record fields placed
takes_those (BtreeFields meta) placed is =
    ap (λ b. fits_in (cond b (Records (cond (is_fixed meta) meta.re_len 0)) Leaves) placed) is
    ∙ by_length (is_fixed meta) (nat_lt placed.0 (2 ^ 32)) meta.re_len (length placed.1)
takes_those (HashFields meta) placed is = absurd cc
takes_those (QueueFields meta) placed is = absurd cc

-- metadata that are those of a queue
pub queue_seen : (fields : MetaFields) (meta : QueueMeta) → meta_seen fields ≡ QueueFields meta → fields ≡ QueueKind meta
queue_seen (BtreeKind tree) meta is = absurd cc
queue_seen (HashKind table) meta is = absurd cc
queue_seen (QueueKind queue) meta is = cc
