-- Who owns a page, and whether it's reached from metadata. Source: docs/FORMAT.md, "Stage 4, ownership" and "Stage 5, reach".
use Rattle.std.specs.Prelude.{◌≡◌, ◌⊎◌, ℕ, zero, suc, ◌+◌, ◌<◌, ◌≤◌, nat_lt, ◌==◌, ◌&&◌, ◌||◌, not, Bool, true, false, IsTrue, List, [], ◌∷◌, map, length}
use Rattle.std.specs.Prelude.{Option, Some, None}
use Rattle.std.specs.List.{flat_map, list_any, list_all, range_with_len, filter}
use Rattle.bdb_format.specs.declared.metadata.FileKind.{FileKind}
use Rattle.bdb_format.specs.declared.metadata.FileKind.TheVariants.{Btree, Hash as HashFile, Queue as QueueFile}
use Rattle.bdb_format.specs.declared.references.Sort.{Sort}
use Rattle.bdb_format.specs.declared.references.Sort.TheVariants.{OverflowHead}
use Rattle.bdb_format.specs.declared.references.Reference.{Reference}
use Rattle.bdb_format.specs.Page.{HashFields, Page, Zero, Free, Meta, Hash}
use Rattle.bdb_format.specs.File.{File, page_at, header_in}
use Rattle.bdb_format.specs.References.{refs}

-- a reference with its holder
pub record Owner : Type 0 where
  pub holder : ℕ
  pub reference : Reference

abbrev pub held_by : File → ℕ → List Owner
held_by file p = map (λ reference. record { holder = p; reference = reference }) (refs file p)

-- all references of pages 0 to the last
unfoldable pub all_references : File → List Owner
all_references file = flat_map (held_by file) (range_with_len 0 (file.last + 1))

-- the references to a page, in order of holder and then place
unfoldable pub owners : File → ℕ → List Owner
owners file p = filter (λ (owner : Owner). owner.reference.target == p) (all_references file)

abbrev pub is_meta : Page → Bool
is_meta (Meta fields) = true
is_meta page = false

abbrev pub is_hash_meta : Page → Bool
is_hash_meta (Meta (HashFields meta)) = true
is_hash_meta page = false

-- metadata pages are anchors, and in a queue file all pages are
abbrev pub is_anchor_in : FileKind → Page → Bool
is_anchor_in QueueFile page = true
is_anchor_in Btree page = is_meta page
is_anchor_in HashFile page = is_meta page

unfoldable pub is_anchor : File → ℕ → Bool
is_anchor file p = is_anchor_in file.kind (page_at file p)

-- a page that a table may hold in reserve: a zero page, an empty hash page by itself, or a free page that is the last of its list
abbrev pub is_spare : Page → Bool
is_spare Zero = true
is_spare (Hash page) = page.header.entries == 0 && page.header.previous == 0 && page.header.next == 0
is_spare (Free header) = header.next == 0
is_spare page = false

abbrev pub is_unowned : File → ℕ → Bool
is_unowned file p = length (owners file p) == 0

-- a page that no reference names, in a file with a hash table
unfoldable pub is_reserve : File → ℕ → Bool
is_reserve file p = list_any is_hash_meta file.pages && is_unowned file p && is_spare (page_at file p)

abbrev pub is_head_reference : Sort → Bool
is_head_reference OverflowHead = true
is_head_reference sort = false

-- all references to the page are to the head of a chain
abbrev pub has_heads_alone : File → ℕ → Bool
has_heads_alone file p = list_all (λ (owner : Owner). is_head_reference owner.reference.sort) (owners file p)

-- a chain is shared by as many references as its head counts
abbrev pub is_shared_too_often : File → ℕ → Bool
is_shared_too_often file p = has_heads_alone file p && nat_lt (header_in (page_at file p)).entries (length (owners file p))

-- another page has one owner
abbrev pub is_owned_twice : File → ℕ → Bool
is_owned_twice file p = not (has_heads_alone file p) && nat_lt 1 (length (owners file p))

-- the holder of the first reference to a page
abbrev pub first_holder : List Owner → Option ℕ
first_holder [] = None
first_holder (owner ∷ rest) = Some owner.holder

abbrev pub if_some : Option ℕ → (ℕ → Bool) → Bool
if_some None test = false
if_some (Some p) test = test p

-- a page reaches where it's an anchor or a reserve, or the holder of its first reference reaches in one turn less
unfoldable pub reaches_in : ℕ → File → ℕ → Bool
reaches_in zero file p = is_anchor file p || is_reserve file p
reaches_in (suc turns) file p = reaches_in turns file p || if_some (first_holder (owners file p)) (reaches_in turns file)

abbrev pub reaches : File → ℕ → Bool
reaches file p = reaches_in file.count file p

-- one owner alone; where it names the page as the head of a chain, the head counts it
abbrev pub IsOwnedOnce : File → ℕ → Type 0
IsOwnedOnce file p = (length (owners file p) ≡ 1) × (IsTrue (has_heads_alone file p) → 1 ≤ (header_in (page_at file p)).entries)

-- the head of a chain, with no more references than it counts
abbrev pub IsSharedHead : File → ℕ → Type 0
IsSharedHead file p = IsTrue (has_heads_alone file p) × (0 < length (owners file p)) × (length (owners file p) ≤ (header_in (page_at file p)).entries)

-- the roles of a page: an anchor, a reserve, or a page with owners as many as it may have
abbrev pub HasRole : File → ℕ → Type 0
HasRole file p = IsTrue (is_anchor file p) ⊎ (IsTrue (is_reserve file p) ⊎ (IsOwnedOnce file p ⊎ IsSharedHead file p))

-- a page has a role, and reaches
pub record OneRole (file : File) (p : ℕ) : Type 0 where
  pub role : HasRole file p
  pub reached : IsTrue (reaches file p)
