-- Short pages of every type, field by field in either order, and what they read as. Source: docs/FORMAT.md, "Other pages", "Items" and "Metadata pages".
use Rattle.std.specs.Prelude.{ℕ, ◌+◌, ◌*◌, true, false, List, [], ◌∷◌, ◌++◌, replicate}
use Rattle.std.specs.List.{flat_map}
use Rattle.bdb_format.specs.declared.kinds.Order.{Order}
use Rattle.bdb_format.specs.declared.kinds.Order.TheVariants.{Big, Little}
use Rattle.bdb_format.specs.declared.pages.Header.{Header}
use Rattle.bdb_format.specs.Terms.{BtreeFields, Chain, DupLeaf, Free, Hash, HashFields, Inline, Internal, Leaf, Meta, Overflow, Page, Queue, QueueFields}
use Rattle.bdb_format.specs.Terms.{RecnoInternal, RecnoLeaf, Set, Tree, Unknown}

-- numbers of two and of four bytes, given from the low end
abbrev pub two : Order → ℕ → ℕ → List ℕ
two Little a b = a ∷ b ∷ []
two Big a b = b ∷ a ∷ []

abbrev pub four : Order → ℕ → ℕ → ℕ → ℕ → List ℕ
four Little a b c d = a ∷ b ∷ c ∷ d ∷ []
four Big a b c d = d ∷ c ∷ b ∷ a ∷ []

abbrev pub zeros : ℕ → List ℕ
zeros n = replicate n 0

abbrev pub joined : List (List ℕ) → List ℕ
joined pieces = flat_map (λ piece. piece) pieces

-- the 26 bytes of a header: the page is 0x01000005, before it 0x00040000, after it 0x0600
abbrev pub header : Order → ℕ → ℕ → ℕ → ℕ → List ℕ
header order entries high_free level page_type = joined (
    (1 ∷ 2 ∷ 3 ∷ 4 ∷ 5 ∷ 6 ∷ 7 ∷ 8 ∷ [])
    ∷ four order 5 0 0 1
    ∷ four order 0 0 4 0
    ∷ four order 0 6 0 0
    ∷ two order entries 0
    ∷ two order high_free 1
    ∷ (level ∷ page_type ∷ [])
    ∷ [])

abbrev pub header_read : ℕ → ℕ → ℕ → ℕ → Header
header_read entries high_free level page_type = record {
  number = 0x01000005;
  previous = 0x00040000;
  next = 0x0600;
  entries = entries;
  high_free = 256 + high_free;
  level = level;
  page_type = page_type;
}

-- types 0, 7 and 1, the last of which no page has

abbrev pub free_page : Order → List ℕ
free_page order = header order 0 0 0 0 ++ zeros 6

abbrev pub free_read : Page
free_read = Free (header_read 0 0 0 0)

-- an overflow page with 258 bytes of data, and two more
abbrev pub overflow_page : Order → List ℕ
overflow_page order = header order 3 2 0 7 ++ (replicate 257 97 ++ (98 ∷ 99 ∷ 100 ∷ []))

abbrev pub overflow_read : Page
overflow_read = Overflow (header_read 3 2 0 7) (replicate 257 97 ++ (98 ∷ []))

abbrev pub page_without_type : Order → List ℕ
page_without_type order = header order 0 0 0 1

-- leaves

-- items of a leaf: inline, inline and deleted, overflow, set, and one without bytes; the third pair shares the key of the second
abbrev pub leaf_page : Order → List ℕ
leaf_page order = joined (
    header order 6 38 1 5
    -- the index, from 26 on
    ∷ two order 38 0 ∷ two order 42 0 ∷ two order 47 0 ∷ two order 59 0 ∷ two order 47 0 ∷ two order 71 0
    -- the items, from 38, 42, 47, 59 and 71 on
    ∷ two order 1 0 ∷ (1 ∷ 97 ∷ [])
    ∷ two order 2 0 ∷ (0x81 ∷ 98 ∷ 99 ∷ [])
    ∷ (9 ∷ 9 ∷ 3 ∷ 9 ∷ []) ∷ four order 7 0 0 0 ∷ four order 0 2 0 0
    ∷ (9 ∷ 9 ∷ 0x82 ∷ 9 ∷ []) ∷ four order 0 1 0 0 ∷ four order 9 9 9 9
    ∷ two order 0 0 ∷ (1 ∷ [])
    ∷ [])

abbrev pub leaf_read : Page
leaf_read = Leaf (record {
  header = header_read 6 38 1 5;
  offsets = 38 ∷ 42 ∷ 47 ∷ 59 ∷ 47 ∷ 71 ∷ [];
  items =
      record { content = Inline (97 ∷ []); deleted = false }
      ∷ record { content = Inline (98 ∷ 99 ∷ []); deleted = true }
      ∷ record { content = Chain 7 512; deleted = false }
      ∷ record { content = Tree 256; deleted = true }
      ∷ record { content = Chain 7 512; deleted = false }
      ∷ record { content = Inline []; deleted = false }
      ∷ [];
})

-- a recno leaf with two entries, the second deleted
abbrev pub recno_leaf_page : Order → List ℕ
recno_leaf_page order = joined (
    header order 2 30 1 6
    ∷ two order 30 0 ∷ two order 34 0
    ∷ two order 1 0 ∷ (1 ∷ 97 ∷ [])
    ∷ two order 0 0 ∷ (0x81 ∷ [])
    ∷ [])

abbrev pub recno_leaf_read : Page
recno_leaf_read = RecnoLeaf (record {
  header = header_read 2 30 1 6;
  offsets = 30 ∷ 34 ∷ [];
  items = record { content = Inline (97 ∷ []); deleted = false } ∷ record { content = Inline []; deleted = true } ∷ [];
})

-- a leaf of sorted duplicates: a chain, and an item of a type that no leaf has
abbrev pub dup_leaf_page : Order → List ℕ
dup_leaf_page order = joined (
    header order 2 30 1 12
    ∷ two order 30 0 ∷ two order 42 0
    ∷ (0 ∷ 0 ∷ 3 ∷ 0 ∷ []) ∷ four order 0 0 0 8 ∷ four order 1 0 0 0
    ∷ two order 1 0 ∷ (4 ∷ 97 ∷ [])
    ∷ [])

abbrev pub dup_leaf_read : Page
dup_leaf_read = DupLeaf (record {
  header = header_read 2 30 1 12;
  offsets = 30 ∷ 42 ∷ [];
  items = record { content = Chain 0x08000000 1; deleted = false } ∷ record { content = Unknown; deleted = false } ∷ [];
})

-- internal pages

-- items with an inline key, an overflow key, and a key whose bit 0x80 is ignored
abbrev pub internal_page : Order → List ℕ
internal_page order = joined (
    header order 3 32 2 3
    -- the index, from 26 on
    ∷ two order 32 0 ∷ two order 46 0 ∷ two order 70 0
    -- the items, from 32, 46 and 70 on
    ∷ two order 2 0 ∷ (1 ∷ 9 ∷ []) ∷ four order 2 0 0 0 ∷ four order 3 1 0 0 ∷ (98 ∷ 99 ∷ [])
    ∷ two order 12 0 ∷ (3 ∷ 9 ∷ []) ∷ four order 0 0 1 0 ∷ four order 4 0 0 0
    ∷ (9 ∷ 9 ∷ 3 ∷ 9 ∷ []) ∷ four order 6 0 0 0 ∷ four order 0 4 0 0
    ∷ two order 0 0 ∷ (0x81 ∷ 9 ∷ []) ∷ four order 8 0 0 0 ∷ four order 0 0 0 1
    ∷ [])

abbrev pub internal_read : Page
internal_read = Internal (record {
  header = header_read 3 32 2 3;
  offsets = 32 ∷ 46 ∷ 70 ∷ [];
  items =
      record { child = 2; count = 259; key = Inline (98 ∷ 99 ∷ []) }
      ∷ record { child = 0x10000; count = 4; key = Chain 6 1024 }
      ∷ record { child = 8; count = 0x01000000; key = Inline [] }
      ∷ [];
})

abbrev pub recno_internal_page : Order → List ℕ
recno_internal_page order = joined (
    header order 2 30 3 4
    ∷ two order 38 0 ∷ two order 30 0
    ∷ four order 2 0 0 0 ∷ four order 0 1 0 0
    ∷ four order 3 0 0 0 ∷ four order 7 0 0 0
    ∷ [])

abbrev pub recno_internal_read : Page
recno_internal_read = RecnoInternal (record {
  header = header_read 2 30 3 4;
  offsets = 38 ∷ 30 ∷ [];
  items = record { child = 3; count = 7 } ∷ record { child = 2; count = 256 } ∷ [];
})

-- hash pages

-- items from the page's end: a key, a set of two data on the page, a key in a chain, and a set off the page
abbrev pub hash_page : Order → ℕ → List ℕ
hash_page order page_type = joined (
    header order 4 34 0 page_type
    -- the index, from 26 on
    ∷ two order 65 0 ∷ two order 54 0 ∷ two order 42 0 ∷ two order 34 0
    -- the items, from 34, 42, 54 and 65 on
    ∷ (4 ∷ 9 ∷ 9 ∷ 9 ∷ []) ∷ four order 0 3 0 0
    ∷ (3 ∷ 9 ∷ 9 ∷ 9 ∷ []) ∷ four order 7 0 0 0 ∷ four order 0 2 0 0
    ∷ (2 ∷ []) ∷ two order 2 0 ∷ (97 ∷ 98 ∷ []) ∷ two order 2 0 ∷ two order 0 0 ∷ two order 0 0
    ∷ (1 ∷ 107 ∷ [])
    ∷ [])

abbrev pub hash_read : ℕ → Page
hash_read page_type = Hash (record {
  header = header_read 4 34 0 page_type;
  offsets = 65 ∷ 54 ∷ 42 ∷ 34 ∷ [];
  items =
      record { content = Inline (107 ∷ []); deleted = false }
      ∷ record { content = Set ((97 ∷ 98 ∷ []) ∷ [] ∷ []); deleted = false }
      ∷ record { content = Chain 7 512; deleted = false }
      ∷ record { content = Tree 768; deleted = false }
      ∷ [];
})

-- metadata

-- bytes 0 to 71: the first free page is 0x0300, the flags are those given
abbrev pub common : Order → ℕ → ℕ → List ℕ
common order page_type flags = joined (
    zeros 8
    ∷ four order 5 0 0 0
    ∷ zeros 12
    ∷ (0 ∷ page_type ∷ 0 ∷ 0 ∷ [])
    ∷ four order 0 3 0 0
    ∷ zeros 16
    ∷ four order flags 1 0 0
    ∷ zeros 20
    ∷ [])

abbrev pub btree_page : Order → List ℕ
btree_page order = joined (
    common order 9 0x11
    ∷ four order 9 9 9 9
    ∷ four order 2 0 0 0
    ∷ four order 0 1 0 0
    ∷ four order 32 0 0 0
    ∷ four order 0 0 1 0
    ∷ zeros 4
    ∷ [])

abbrev pub btree_read : Page
btree_read = Meta (BtreeFields (record { flags = 0x111; minkey = 2; re_len = 256; re_pad = 32; root = 0x10000; free = 768 }))

-- the spares end with that of group 31
abbrev pub table_page : Order → List ℕ
table_page order = joined (
    common order 8 3
    ∷ four order 5 0 0 0
    ∷ four order 7 0 0 0
    ∷ four order 3 0 0 0
    ∷ four order 0 1 0 0
    ∷ four order 9 9 9 9
    ∷ four order 0xd1 0x8d 0x68 0x5e
    ∷ four order 1 0 0 0 ∷ four order 2 0 0 0 ∷ zeros (4 * 29) ∷ four order 0 4 0 0
    ∷ (9 ∷ 9 ∷ [])
    ∷ [])

abbrev pub table_read : Page
table_read = Meta (HashFields (record {
  flags = 0x103;
  max_bucket = 5;
  high_mask = 7;
  low_mask = 3;
  ffactor = 256;
  spares = 1 ∷ 2 ∷ (replicate 29 0 ++ (1024 ∷ []));
  free = 768;
}))

abbrev pub queue_meta_page : Order → List ℕ
queue_meta_page order = joined (
    common order 10 0
    ∷ four order 1 0 0 0
    ∷ four order 0 1 0 0
    ∷ four order 10 0 0 0
    ∷ four order 32 0 0 0
    ∷ four order 40 0 0 0
    ∷ four order 9 9 9 9
    ∷ [])

abbrev pub queue_meta_read : Page
queue_meta_read = Meta (QueueFields (record { first = 1; current = 256; re_len = 10; re_pad = 32; per_page = 40 }))

-- a queue page: its number at 8, its type at 25, and its records from 28 on
abbrev pub queue_page : Order → List ℕ
queue_page order = joined (
    (9 ∷ zeros 7)
    ∷ four order 2 1 0 0
    ∷ zeros 13
    ∷ (11 ∷ 9 ∷ 9 ∷ [])
    ∷ (1 ∷ 97 ∷ 98 ∷ 0 ∷ [])
    ∷ [])

abbrev pub queue_read : Page
queue_read = Queue 258 (1 ∷ 97 ∷ 98 ∷ 0 ∷ [])

abbrev pub zero_page : List ℕ
zero_page = zeros 30
