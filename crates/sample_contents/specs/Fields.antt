-- Pages of 512 bytes, little-endian, written from their fields and items. Source: docs/FORMAT.md, "Metadata pages", "Other pages", "Items".
use Rattle.std.specs.Prelude.{ℕ, ◌+◌, ◌-◌, List, [], ◌∷◌, ◌++◌, map, length, replicate, codes}
use Prim.Native.String.{String}
use Rattle.std.specs.List.{flat_map}
use Rattle.sample_graphs.specs.of_format.declared.kinds.Order.TheVariants.{Little}
use Rattle.sample_graphs.specs.of_format.Terms.{byte_at, joined, overwritten, spelled}

abbrev pub two : ℕ → List ℕ
two n = spelled 2 Little n

abbrev pub four : ℕ → List ℕ
four n = spelled 4 Little n

abbrev pub zeros : ℕ → List ℕ
zeros n = replicate n 0

-- a page that begins with these bytes; the others are 0
abbrev pub filled_out : List ℕ → List ℕ
filled_out bytes = bytes ++ zeros (512 - length bytes)

-- Metadata.

-- bytes 0 to 71
abbrev pub common : (number magic version type last flags : ℕ) → List ℕ
common number magic version type last flags = joined (
    zeros 8 ∷ four number ∷ four magic ∷ four version ∷ four 512
    ∷ (0 ∷ type ∷ 0 ∷ 0 ∷ []) ∷ four 0 ∷ four last ∷ zeros 12 ∷ four flags ∷ zeros 20
    ∷ [])

abbrev pub btree_meta : (number last flags re_len root : ℕ) → List ℕ
btree_meta number last flags re_len root =
    filled_out (joined (common number 0x053162 9 9 last flags ∷ four 0 ∷ four 2 ∷ four re_len ∷ four 0 ∷ four root ∷ []))

-- the spares are those of the first groups; the others are 0
abbrev pub hash_meta : (number last flags max_bucket high_mask low_mask : ℕ) → List ℕ → List ℕ
hash_meta number last flags max_bucket high_mask low_mask spares = filled_out (joined (
    common number 0x061561 9 8 last flags
    ∷ four max_bucket ∷ four high_mask ∷ four low_mask ∷ four 0 ∷ four 0 ∷ four 0x5E688DD1
    ∷ map four spares))

abbrev pub queue_meta : (first current re_len per_page : ℕ) → List ℕ
queue_meta first current re_len per_page =
    filled_out (joined (common 0 0x042253 4 10 0 0 ∷ four first ∷ four current ∷ four re_len ∷ four 0 ∷ four per_page ∷ []))

-- Items.

-- of a leaf

abbrev pub inline : List ℕ → List ℕ
inline bytes = two (length bytes) ++ (1 ∷ bytes)

abbrev pub text : String → List ℕ
text word = inline (codes word)

abbrev pub chain : (head total : ℕ) → List ℕ
chain head total = (0 ∷ 0 ∷ 3 ∷ 0 ∷ []) ++ (four head ++ four total)

abbrev pub set : ℕ → List ℕ
set root = (0 ∷ 0 ∷ 2 ∷ 0 ∷ []) ++ (four root ++ zeros 4)

abbrev pub deleted : List ℕ → List ℕ
deleted item = overwritten item 2 ((byte_at item 2 + 128) ∷ [])

-- of an internal page: a child, the count of what stands below it, and its key

abbrev pub child : (page count : ℕ) → String → List ℕ
child page count key = two (length (codes key)) ++ ((1 ∷ 0 ∷ []) ++ (four page ++ (four count ++ codes key)))

abbrev pub child_by_chain : (page count head total : ℕ) → List ℕ
child_by_chain page count head total = two 12 ++ ((3 ∷ 0 ∷ []) ++ (four page ++ (four count ++ chain head total)))

abbrev pub recno_child : (page count : ℕ) → List ℕ
recno_child page count = four page ++ four count

-- of a hash page

abbrev pub hash_text : String → List ℕ
hash_text word = 1 ∷ codes word

abbrev pub block : String → List ℕ
block word = two (length (codes word)) ++ (codes word ++ two (length (codes word)))

abbrev pub hash_set : List String → List ℕ
hash_set words = 2 ∷ flat_map block words

abbrev pub hash_chain : (head total : ℕ) → List ℕ
hash_chain head total = (3 ∷ 0 ∷ 0 ∷ 0 ∷ []) ++ (four head ++ four total)

abbrev pub hash_tree : ℕ → List ℕ
hash_tree root = (4 ∷ 0 ∷ 0 ∷ 0 ∷ []) ++ four root

-- Pages with an index.

-- an entry of an index: an item that is new, or the offset of the entry two before it once more
pub data Entry : Type 0 where
  New : List ℕ → Entry
  Again : Entry

-- the offsets of entries, whose items stand from the page's end down; given are the offsets of the two entries before, and the lowest byte that is taken
abbrev pub offsets_down : (two_before before lowest : ℕ) → List Entry → List ℕ
offsets_down two_before before lowest [] = []
offsets_down two_before before lowest (New item ∷ entries) =
    (lowest - length item) ∷ offsets_down before (lowest - length item) (lowest - length item) entries
offsets_down two_before before lowest (Again ∷ entries) = two_before ∷ offsets_down before two_before lowest entries

-- the items as they stand
abbrev pub items_down : List Entry → List ℕ
items_down [] = []
items_down (New item ∷ entries) = items_down entries ++ item
items_down (Again ∷ entries) = items_down entries

-- the 26 bytes of a header
abbrev pub header : (number previous next entries high_free level type : ℕ) → List ℕ
header number previous next entries high_free level type = joined (
    zeros 8 ∷ four number ∷ four previous ∷ four next ∷ two entries ∷ two high_free ∷ (level ∷ type ∷ []) ∷ [])

-- header and index, and the items at the end
abbrev pub between : (head items : List ℕ) → List ℕ
between head items = head ++ (zeros (512 - (length head + length items)) ++ items)

abbrev pub indexed : (type level number previous next : ℕ) → List Entry → List ℕ
indexed type level number previous next entries = between
    (header number previous next (length entries) (512 - length (items_down entries)) level type ++ flat_map two (offsets_down 0 0 512 entries))
    (items_down entries)

-- a pair; and one more for the same key
abbrev pub pair : (key datum : List ℕ) → List Entry
pair key datum = New key ∷ New datum ∷ []

abbrev pub again : List ℕ → List Entry
again datum = Again ∷ New datum ∷ []

-- a live and a deleted pair with one datum
abbrev pub live : String → List Entry
live key = pair (text key) (text "1")

abbrev pub gone : String → List Entry
gone key = pair (text key) (deleted (text "1"))

abbrev pub pairs : List (List Entry) → List Entry
pairs list = flat_map (λ entries. entries) list

abbrev pub leaf : (number previous next : ℕ) → List (List Entry) → List ℕ
leaf number previous next list = indexed 5 1 number previous next (pairs list)

abbrev pub recno_leaf : (number previous next : ℕ) → List (List ℕ) → List ℕ
recno_leaf number previous next items = indexed 6 1 number previous next (map New items)

abbrev pub dup_leaf : (number previous next : ℕ) → List (List ℕ) → List ℕ
dup_leaf number previous next items = indexed 12 1 number previous next (map New items)

abbrev pub internal : (number level : ℕ) → List (List ℕ) → List ℕ
internal number level items = indexed 3 level number 0 0 (map New items)

abbrev pub recno_internal : (number level : ℕ) → List (List ℕ) → List ℕ
recno_internal number level items = indexed 4 level number 0 0 (map New items)

abbrev pub hash_page : (number previous next : ℕ) → List (List Entry) → List ℕ
hash_page number previous next list = indexed 13 0 number previous next (pairs list)

-- Other pages.

-- a page of a chain, whose header counts the references to it
abbrev pub overflow : (number previous next count : ℕ) → List ℕ → List ℕ
overflow number previous next count piece = filled_out (header number previous next count (length piece) 0 7 ++ piece)

-- a page of a queue with its slots from byte 28 on
abbrev pub queue_page : ℕ → List (List ℕ) → List ℕ
queue_page number slots = filled_out (joined (zeros 8 ∷ four number ∷ zeros 13 ∷ (11 ∷ 0 ∷ 0 ∷ []) ∷ slots))

abbrev pub zero_page : List ℕ
zero_page = zeros 512

-- Files: metadata and the pages after it.

-- the root is page 1
abbrev pub btree : ℕ → List (List ℕ) → List ℕ
btree flags pages = joined (btree_meta 0 (length pages) flags 0 1 ∷ pages)

abbrev pub recno : (flags re_len : ℕ) → List (List ℕ) → List ℕ
recno flags re_len pages = joined (btree_meta 0 (length pages) flags re_len 1 ∷ pages)

-- the root is a leaf with these pairs
abbrev pub one_leaf : ℕ → List (List Entry) → List ℕ
one_leaf flags list = btree flags (leaf 1 0 0 list ∷ [])

-- two buckets, whose first pages are 1 and 2
abbrev pub table : ℕ → List (List ℕ) → List ℕ
table flags pages = joined (hash_meta 0 (length pages) flags 1 1 0 (1 ∷ 1 ∷ []) ∷ pages)

abbrev pub queue : (first current re_len per_page : ℕ) → List (List ℕ) → List ℕ
queue first current re_len per_page pages = joined (queue_meta first current re_len per_page ∷ pages)
