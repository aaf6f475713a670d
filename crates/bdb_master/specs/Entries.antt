-- The live pairs of a master as the code keeps them, and the faults of stage 7 that they give. Source: docs/FORMAT.md, "Stage 7, the master".
use Rattle.std.specs.Option.{option_to_list}
use Rattle.std.specs.Prelude.{◌≡◌, ℕ, ◌+◌, ◌<◌, nat_lt, ◌==◌, min, if◌then◌else◌, List, [], ◌∷◌, ◌++◌, map, length, get_or, Option, Some, None}
use Rattle.std.specs.BTreeMap.{BTreeMap, get}
use Rattle.std.specs.List.{filter, flat_map}
use Rattle.std.specs.Ordering.{nat_cmp}
use Rattle.bdb_format.specs.declared.kinds.Fault.{Fault}
use Rattle.bdb_format.specs.Terms.{File, StoredPair, file_of, is_named_kind, is_page, master_pairs, named_by, page_named, value_of}
use Rattle.bdb_btree.specs.Held.{ItemPair}
use Rattle.bdb_btree.specs.of_image.Linked.{meta_pages}
use Rattle.bdb_overflow.specs.Held.{chain_value}
use Rattle.bdb_overflow.specs.Keys.{repeated_by}

-- a live pair: its leaf, its key, and the page that it names
pub record NamedPair : Type 0 where
  pub page : ℕ
  pub key : List ℕ
  pub names : Option ℕ

abbrev pub named : File → StoredPair → NamedPair
named file pair = record { page = pair.page; key = pair.key; names = named_by file pair.data_item }

-- those of a file
abbrev pub master_entries : File → List NamedPair
master_entries file = map (named file) (master_pairs file)

-- a pair that its items hold, which names a page or none
abbrev pub entry_of : File → Option ℕ → ItemPair → NamedPair
entry_of file names pair = record { page = pair.page; key = value_of file pair.key.content; names = names }

-- the live ones of pairs that their items hold
abbrev pub live_entries : File → List ItemPair → List NamedPair
live_entries file [] = []
live_entries file (pair ∷ pairs) =
    if pair.value.deleted then live_entries file pairs else entry_of file (named_by file pair.value.content) pair ∷ live_entries file pairs

-- the pages that these chains name, by their heads
pub record AreNamed (image : List ℕ) (chains : BTreeMap ℕ (Option ℕ)) : Type 0 where
  pub each : (head : ℕ) (named : Option ℕ) → get nat_cmp chains head ≡ Some named → named ≡ page_named (chain_value (file_of image) head)

abbrev pub fault_at : ℕ → ℕ → Fault
fault_at page code = record { stage = 7; page = page; code = code }

-- EntrySize and EntryTarget: the fault of a pair on this page that names this page
abbrev pub target_fault : File → ℕ → Option ℕ → Option Fault
target_fault file page None = Some (fault_at page 2)
target_fault file page (Some p) = if is_named_kind file p then None else Some (fault_at page 3)

abbrev pub entry_fault : File → NamedPair → Option Fault
entry_fault file entry = target_fault file entry.page entry.names

-- Unnamed and MetaTwice: the fault of a metadata page that so many pairs name
abbrev pub count_fault : ℕ → ℕ → Option Fault
count_fault p n = if p == 0 then None else (if n == 0 then Some (fault_at p 1) else (if nat_lt 1 n then Some (fault_at p 5) else None))

-- the pairs that name a page
abbrev pub entries_naming : ℕ → List NamedPair → List NamedPair
entries_naming p entries = filter (λ (entry : NamedPair). is_page entry.names p) entries

abbrev pub naming_fault : List NamedPair → ℕ → Option Fault
naming_fault entries p = count_fault p (length (entries_naming p entries))

-- NameTwice: the pairs that have the key of an earlier one
abbrev pub key_of : NamedPair → List ℕ
key_of entry = entry.key

abbrev pub repeat_of : NamedPair → Fault
repeat_of entry = fault_at entry.page 4

abbrev pub repeat_fault : NamedPair → Option Fault
repeat_fault entry = Some (repeat_of entry)

-- All faults of stage 7, by what they are told of.

-- page by page
abbrev pub by_naming : File → List NamedPair → List Fault
by_naming file entries = flat_map (λ p. option_to_list (naming_fault entries p)) (meta_pages file)

-- pair by pair
abbrev pub by_target : File → List NamedPair → List Fault
by_target file entries = flat_map (λ entry. option_to_list (entry_fault file entry)) entries

abbrev pub by_repeat : List NamedPair → List Fault
by_repeat entries = flat_map (λ entry. option_to_list (repeat_fault entry)) (repeated_by key_of [] entries)

abbrev pub all_noted : File → List NamedPair → List Fault
all_noted file entries = (by_naming file entries ++ by_target file entries) ++ by_repeat entries

-- How the code goes through them.

-- one more pair that names a page; a third counts as a second
abbrev pub one_more : ℕ → ℕ
one_more n = min 2 (n + 1)

-- how many of these pairs name each page below a number
pub record AreCounts (counts : List ℕ) (n : ℕ) (entries : List NamedPair) : Type 0 where
  pub len : length counts ≡ n
  pub each : (p : ℕ) → p < n → get_or counts p 0 ≡ min 2 (length (entries_naming p entries))
