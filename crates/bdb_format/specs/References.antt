-- The references that pages hold, and the pages that they ask for. Source: docs/FORMAT.md, "References".
use Rattle.std.specs.Prelude.{ℕ, ◌+◌, ◌-◌, ◌%◌, nat_lt, nat_le, ◌==◌, ◌&&◌, ◌||◌, not, if◌then◌else◌, Bool, true, false, List, [], ◌∷◌, ◌++◌, map, length}
use Rattle.std.specs.Prelude.{slice_index, get_or, Option, Some, None}
use Rattle.std.specs.List.{enumerate_from, filter, flat_map, list_any, range_with_len}
use Rattle.bdb_format.specs.declared.metadata.FileKind.{FileKind}
use Rattle.bdb_format.specs.declared.metadata.FileKind.TheVariants.{Btree, Hash as HashFile, Queue as QueueFile}
use Rattle.bdb_format.specs.declared.references.Sort.{Sort}
use Rattle.bdb_format.specs.declared.references.Sort.TheVariants.{Free as FreeRef, Root, Bucket, HashNext, Child, OverflowHead, OverflowNext, DuplicateRoot}
use Rattle.bdb_format.specs.declared.references.Reference.{Reference}
use Rattle.bdb_format.specs.Hashing.{first_page}
use Rattle.bdb_format.specs.Table.{Row, ◌:?◌, first_row}
use Rattle.bdb_format.specs.Page.{Content, Inline, Set, Chain, Tree, Unknown, Item, InternalItem, Listed, BtreeFields, HashFields, QueueFields, Page, Zero}
use Rattle.bdb_format.specs.Page.{Free, Meta, Hash, Internal, RecnoInternal, Leaf, RecnoLeaf, DupLeaf, Overflow, Queue, NoType}
use Rattle.bdb_format.specs.Flags.{is_recno}
use Rattle.bdb_format.specs.File.{File, page_at, header_in, type_in}

-- a page that is named, unless the number is 0
abbrev pub unless_zero : Sort → ℕ → List (Sort × ℕ)
unless_zero sort target = if target == 0 then [] else (sort, target) ∷ []

-- the first free page, which page 0 alone names
abbrev pub first_free : ℕ → ℕ → List (Sort × ℕ)
first_free p free = if p == 0 then unless_zero FreeRef free else []

-- a chain and a set off the page are named by their first page
abbrev pub content_targets : Content → List (Sort × ℕ)
content_targets (Inline bytes) = []
content_targets (Set blocks) = []
content_targets (Chain head total) = (OverflowHead, head) ∷ []
content_targets (Tree root) = (DuplicateRoot, root) ∷ []
content_targets Unknown = []

-- the key of a pair is that of the pair right before it
abbrev pub is_shared_key : List ℕ → ℕ → Bool
is_shared_key offsets index = index % 2 == 0 && nat_le 2 index && slice_index offsets index == slice_index offsets (index - 2)

abbrev pub no_item : Item
no_item = record { content = Unknown; deleted = false }

-- the item at an index
abbrev pub item_at : Listed Item → ℕ → Item
item_at page index = get_or page.items index no_item

-- the entries of the index of a btree leaf but shared keys; a shared key is the item of the pair before it
abbrev pub own_entries : Listed Item → List ℕ
own_entries page = filter (λ index. not (is_shared_key page.offsets index)) (range_with_len 0 (length page.items))

-- what the items of a page hold, in the order of the index; of an internal page the keys
abbrev pub contents_in : Page → List Content
contents_in (Hash page) = map (λ (item : Item). item.content) page.items
contents_in (Internal page) = map (λ (item : InternalItem). item.key) page.items
contents_in (Leaf page) = map (λ index. (item_at page index).content) (own_entries page)
contents_in (RecnoLeaf page) = map (λ (item : Item). item.content) page.items
contents_in (DupLeaf page) = map (λ (item : Item). item.content) page.items
contents_in page = []

-- what an item of an internal page names: its child, and then what its key does
abbrev pub internal_targets : InternalItem → List (Sort × ℕ)
internal_targets item = (Child, item.child) ∷ content_targets item.key

-- the pages that a page of a btree or hash file names: by what its items hold, in their order, and by its header's next page last
abbrev pub targets_in : ℕ → Page → List (Sort × ℕ)
targets_in p Zero = []
targets_in p (Free header) = unless_zero FreeRef header.next
targets_in p (Meta (BtreeFields meta)) = first_free p meta.free ++ ((Root, meta.root) ∷ [])
targets_in p (Meta (HashFields meta)) = first_free p meta.free ++ map (λ b. (Bucket, first_page b meta.spares)) (range_with_len 0 (meta.max_bucket + 1))
targets_in p (Meta (QueueFields meta)) = []
targets_in p (Hash page) = flat_map content_targets (contents_in (Hash page)) ++ unless_zero HashNext page.header.next
targets_in p (Internal page) = flat_map internal_targets page.items
targets_in p (RecnoInternal page) = map (λ item. (Child, item.child)) page.items
targets_in p (Leaf page) = flat_map content_targets (contents_in (Leaf page))
targets_in p (RecnoLeaf page) = flat_map content_targets (contents_in (RecnoLeaf page))
targets_in p (DupLeaf page) = flat_map content_targets (contents_in (DupLeaf page))
targets_in p (Overflow header piece) = unless_zero OverflowNext header.next
targets_in p (Queue number records) = []
targets_in p NoType = []

-- a queue file holds no references
abbrev pub targets_of : FileKind → ℕ → Page → List (Sort × ℕ)
targets_of Btree p page = targets_in p page
targets_of HashFile p page = targets_in p page
targets_of QueueFile p page = []

-- the references of a page, each with its place
unfoldable pub refs : File → ℕ → List Reference
refs file p =
    map (λ named. record { place = named.0; sort = named.1.0; target = named.1.1 }) (enumerate_from 0 (targets_of file.kind p (page_at file p)))

-- What a reference asks of its target: one of these types, or a zero page; a level; a previous page.
pub record Asked : Type 0 where
  pub types : List ℕ
  pub or_zero : Bool
  pub level : Option ℕ
  pub previous : Option ℕ

abbrev pub asks_type : List ℕ → Asked
asks_type types = record { types = types; or_zero = false; level = None; previous = None }

-- the root of a recno has the types of a recno
abbrev pub root_types : Page → List ℕ
root_types (Meta (BtreeFields meta)) = if is_recno meta then 4 ∷ 6 ∷ [] else 3 ∷ 5 ∷ []
root_types page = []

-- a page below an internal page of level 2 is a leaf
abbrev pub child_types : Page → List ℕ
child_types (Internal page) = if page.header.level == 2 then 5 ∷ 12 ∷ [] else 3 ∷ []
child_types (RecnoInternal page) = if page.header.level == 2 then 6 ∷ [] else 4 ∷ []
child_types page = []

-- the table of references: what a sort asks, by its holder and the holder's page
abbrev pub asked_by : ℕ → Page → Sort → Asked
asked_by holder page FreeRef = asks_type (0 ∷ [])
asked_by holder page Root = asks_type (root_types page)
asked_by holder page Bucket = record { types = 2 ∷ 13 ∷ []; or_zero = true; level = None; previous = Some 0 }
asked_by holder page HashNext = record { types = 2 ∷ 13 ∷ []; or_zero = false; level = None; previous = Some holder }
asked_by holder page Child = record { types = child_types page; or_zero = false; level = Some ((header_in page).level - 1); previous = None }
asked_by holder page OverflowHead = record { types = 7 ∷ []; or_zero = false; level = None; previous = Some 0 }
asked_by holder page OverflowNext = record { types = 7 ∷ []; or_zero = false; level = None; previous = Some holder }
asked_by holder page DuplicateRoot = asks_type (3 ∷ 4 ∷ 6 ∷ 12 ∷ [])

abbrev pub is_zero_page : Page → Bool
is_zero_page Zero = true
is_zero_page page = false

-- a page has one of these types
abbrev pub has_type : List ℕ → Option ℕ → Bool
has_type types None = false
has_type types (Some t) = list_any (λ type. type == t) types

-- a number is the one that is asked, where one is
abbrev pub is_asked : Option ℕ → ℕ → Bool
is_asked None n = true
is_asked (Some asked) n = asked == n

-- the rows of one reference: out of range, wrong kind, wrong level, wrong back
abbrev pub fit_rows : File → Asked → ℕ → List (Row ℕ)
fit_rows file asked target =
    let page : Page = page_at file target in
    1 :? (target == 0 || nat_lt file.last target)
    ∷ 2 :? not (has_type asked.types (type_in page) || (asked.or_zero && is_zero_page page))
    ∷ 3 :? not (is_asked asked.level (header_in page).level)
    ∷ 4 :? not (is_asked asked.previous (header_in page).previous)
    ∷ []

-- the code of the first row that holds for a reference; it fits where none does
unfoldable pub fit_code : File → ℕ → Reference → Option ℕ
fit_code file p reference = first_row (fit_rows file (asked_by p (page_at file p) reference.sort) reference.target)
