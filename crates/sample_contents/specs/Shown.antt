-- Settings of databases, and metadata with more of them than plain files have. Source: docs/FORMAT.md, "Metadata pages".
use Rattle.std.specs.Prelude.{ℕ, Bool, true, false, List, [], ◌∷◌}
use Rattle.sample_graphs.specs.of_format.Terms.{overwritten}
use Rattle.sample_graphs.specs.of_format.declared.kinds.Kind.TheVariants.{Btree, Recno, Hash, Queue}
use Rattle.sample_graphs.specs.of_format.declared.kinds.Order.TheVariants.{Little}
use Rattle.sample_graphs.specs.of_format.declared.settings.Settings.{Settings}
use Rattle.sample_contents.specs.Fields.{one_leaf}
use Rattle.sample_contents.specs.Records.{records}
use Rattle.sample_contents.specs.Tables.{buckets}
use Rattle.sample_contents.specs.Queues.{second_of_three}

-- at least three keys on a page
abbrev pub three_keys : ℕ → List ℕ
three_keys flags = overwritten (one_leaf flags []) 76 (3 ∷ [])

-- records are filled up with the byte 42; the number of keys on a page, 3, means nothing here
abbrev pub padded_records : (flags re_len : ℕ) → List ℕ
padded_records flags re_len = overwritten (overwritten (records flags re_len []) 76 (3 ∷ [])) 84 (42 ∷ [])

-- about 40 keys for each bucket
abbrev pub dense_table : ℕ → List ℕ
dense_table flags = overwritten (buckets flags [] []) 84 (40 ∷ [])

-- records are filled up with the byte 42
abbrev pub padded_queue : List ℕ
padded_queue = overwritten second_of_three 84 (42 ∷ [])

abbrev pub btree_line : (duplicates sorted recnum : Bool) → ℕ → Settings
btree_line duplicates sorted recnum minkey = record {
  kind = Btree;
  page_size = 512;
  order = Little;
  duplicates = duplicates;
  sorted = sorted;
  recnum = recnum;
  renumber = false;
  fixed = false;
  re_len = 0;
  re_pad = 32;
  minkey = minkey;
  ffactor = 0;
}

abbrev pub recno_line : (renumber fixed : Bool) → (re_len re_pad : ℕ) → Settings
recno_line renumber fixed re_len re_pad = record {
  kind = Recno;
  page_size = 512;
  order = Little;
  duplicates = false;
  sorted = false;
  recnum = false;
  renumber = renumber;
  fixed = fixed;
  re_len = re_len;
  re_pad = re_pad;
  minkey = 2;
  ffactor = 0;
}

abbrev pub hash_line : (duplicates sorted : Bool) → ℕ → Settings
hash_line duplicates sorted ffactor = record {
  kind = Hash;
  page_size = 512;
  order = Little;
  duplicates = duplicates;
  sorted = sorted;
  recnum = false;
  renumber = false;
  fixed = false;
  re_len = 0;
  re_pad = 32;
  minkey = 2;
  ffactor = ffactor;
}

abbrev pub queue_line : (re_len re_pad : ℕ) → Settings
queue_line re_len re_pad = record {
  kind = Queue;
  page_size = 512;
  order = Little;
  duplicates = false;
  sorted = false;
  recnum = false;
  renumber = false;
  fixed = true;
  re_len = re_len;
  re_pad = re_pad;
  minkey = 2;
  ffactor = 0;
}
