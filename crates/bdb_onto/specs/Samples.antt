-- Samples that compute: what loading onto a base gives, and which error comes first.
use Rattle.std.specs.Prelude.{◌≡◌, ℕ, true, false, List, [], ◌∷◌, Option, Some, None, codes}
use Rattle.bdb_format.specs.declared.kinds.Kind.{Kind}
use Rattle.bdb_format.specs.declared.kinds.Kind.TheVariants.{Btree, Recno, Hash, Queue}
use Rattle.bdb_format.specs.declared.kinds.Order.TheVariants.{Little, Big}
use Rattle.bdb_format.specs.declared.settings.Settings.{Settings}
use Rattle.bdb_format.specs.Terms.{plain_settings}
use Rattle.bdb_mkfile.specs.of_text_format.declared.pairs.Key.TheVariants.{Bytes, Number}
use Rattle.bdb_mkfile.specs.of_text_format.declared.pairs.TextPair.{TextPair}
use Rattle.bdb_mkfile.specs.of_text_format.declared.sections.Section.{Section}
use Rattle.bdb_mkfile.specs.of_settle.declared.load_error.LoadError.TheVariants.{RecordTooLong, RecordZero, QueueAmongNames, OntoKind, OntoNames}
use Rattle.bdb_onto.specs.declared.base.Base.{Base}
use Rattle.bdb_onto.specs.Onto.{onto_error, result_of}

abbrev pub keyed : ℕ → ℕ → ℕ → TextPair
keyed key value line = record { key = Bytes (key ∷ []); value = value ∷ []; line = line }

abbrev pub numbered : ℕ → List ℕ → ℕ → TextPair
numbered number value line = record { key = Number number; value = value; line = line }

abbrev pub part : Option (List ℕ) → Settings → ℕ → List TextPair → Section
part name settings line pairs = record { name = name; settings = settings; header_line = line; pairs = pairs }

abbrev pub plain : Kind → Settings
plain kind = plain_settings kind 4096 Big

abbrev pub with_sets : Settings → Settings
with_sets settings = record settings { duplicates = true }

abbrev pub base_with : List Section → Base
base_with databases = record { master = false; page_size = 512; order = Little; databases = databases }

abbrev pub under_master : List Section → Base
under_master databases = record { master = true; page_size = 512; order = Little; databases = databases }

-- data that are kept as they come
abbrev pub kept_base : Base
kept_base = base_with (part None (with_sets (plain_settings Btree 512 Little)) 0 (keyed 0x61 0x32 0 ∷ keyed 0x61 0x31 0 ∷ keyed 0x62 0x39 0 ∷ []) ∷ [])

abbrev pub kept_text : List Section
kept_text = part None (with_sets (plain Btree)) 4 (keyed 0x61 0x32 5 ∷ keyed 0x61 0x30 7 ∷ keyed 0x60 0x31 9 ∷ []) ∷ []

abbrev pub kept_result : List Section
kept_result =
    part None (with_sets (plain_settings Btree 512 Little)) 0
    (keyed 0x60 0x31 0 ∷ keyed 0x61 0x32 0 ∷ keyed 0x61 0x31 0 ∷ keyed 0x61 0x32 0 ∷ keyed 0x61 0x30 0 ∷ keyed 0x62 0x39 0 ∷ []) ∷ []

-- records of three bytes
abbrev pub fixed : Settings → Settings
fixed settings = record settings { fixed = true; re_len = 3; re_pad = 46 }

abbrev pub record_base : Base
record_base = base_with (part None (fixed (plain_settings Recno 512 Little)) 0 (numbered 1 (codes "abc") 0 ∷ numbered 3 (codes "z..") 0 ∷ []) ∷ [])

abbrev pub record_text : List Section
record_text = part None (plain Recno) 4 (numbered 2 (codes "x") 5 ∷ numbered 3 (codes "y") 7 ∷ numbered 5 (codes "w") 9 ∷ []) ∷ []

abbrev pub record_result : List Section
record_result =
    part None (fixed (plain_settings Recno 512 Little)) 0
    (numbered 1 (codes "abc") 0 ∷ numbered 2 (codes "x..") 0 ∷ numbered 3 (codes "y..") 0 ∷ numbered 5 (codes "w..") 0 ∷ []) ∷ []

-- databases with names
abbrev pub named_base : Base
named_base = under_master (part (Some (codes "a")) (plain_settings Btree 512 Little) 0 [] ∷ part (Some (codes "b")) (plain_settings Hash 512 Little) 0 [] ∷ [])

pub record SamplesCompute : Type 0 where
  pub kept : result_of kept_base kept_text ≡ kept_result
  pub no_error : onto_error kept_base kept_text ≡ None
  pub records : result_of record_base record_text ≡ record_result
  pub no_record_error : onto_error record_base record_text ≡ None
  pub too_long : onto_error record_base (part None (plain Recno) 5 (numbered 2 (codes "xxxx") 6 ∷ []) ∷ []) ≡ Some (RecordTooLong 6)
  pub zero_record : onto_error record_base (part None (plain Recno) 4 (numbered 0 (codes "x") 5 ∷ []) ∷ []) ≡ Some (RecordZero 5)
  pub other_kind : onto_error kept_base (part None (plain Hash) 3 [] ∷ []) ≡ Some (OntoKind 3)
  pub no_sets : onto_error kept_base (part None (plain Btree) 3 [] ∷ []) ≡ Some (OntoKind 3)
  pub named : onto_error kept_base (part (Some (codes "x")) (with_sets (plain Btree)) 4 [] ∷ []) ≡ Some (OntoNames 4)
  pub unnamed : onto_error named_base (part None (plain Btree) 3 [] ∷ []) ≡ Some (OntoNames 3)
  pub queue_named : onto_error named_base (part (Some (codes "a")) (plain_settings Queue 4096 Little) 6 [] ∷ []) ≡ Some (QueueAmongNames 6)
  pub wide_on_other :
      onto_error kept_base (part None (record (plain_settings Queue 4096 Little) { re_len = 5000 }) 4 [] ∷ []) ≡ Some (OntoKind 4)
  pub wide_alone :
      onto_error kept_base (part (Some (codes "x")) (record (plain_settings Queue 4096 Little) { re_len = 5000 }) 5 [] ∷ []) ≡ Some (RecordTooLong 5)
  pub others_stay :
      result_of named_base (part (Some (codes "c")) (plain Recno) 4 (numbered 1 (codes "1") 5 ∷ []) ∷ [])
      ≡ part (Some (codes "c")) (plain_settings Recno 512 Little) 0 (numbered 1 (codes "1") 0 ∷ []) ∷ named_base.databases
