-- What each page of a file is, and how many pages are so. Source: docs/FORMAT.md, "Statistics".
use Rattle.std.specs.Prelude.{ℕ, ◌||◌, nat_lt, max, if◌then◌else◌, Bool, true, false, map, length, Option, Some, None}
use Rattle.std.specs.List.{filter, fold, range_with_len}
use Rattle.bdb_law_turned.specs.of_format.Terms.{DupLeaf, File, Free as FreePage, Hash as HashPage, Internal as InternalPage, Leaf as LeafPage}
use Rattle.bdb_law_turned.specs.of_format.Terms.{Meta as MetaPage, NoType, Overflow as OverflowPage, Page, Queue as QueuePage, RecnoInternal, RecnoLeaf, Zero}
use Rattle.bdb_law_turned.specs.of_format.Terms.{header_in, is_meta, is_queue, is_reserve, page_at}
use Rattle.bdb_stat.specs.declared.class.Class.{Class}
use Rattle.bdb_stat.specs.declared.class.Class.TheVariants.{Meta, Internal, Leaf, Hash, Overflow, Free, Reserve, Queue, Tail}

-- the class that the type of a page gives, in a file that isn't a queue
abbrev pub class_by_type : Page → Option Class
class_by_type Zero = Some Hash
class_by_type (FreePage header) = Some Free
class_by_type (MetaPage fields) = Some Meta
class_by_type (HashPage page) = Some Hash
class_by_type (InternalPage page) = Some Internal
class_by_type (RecnoInternal page) = Some Internal
class_by_type (LeafPage page) = Some Leaf
class_by_type (RecnoLeaf page) = Some Leaf
class_by_type (DupLeaf page) = Some Leaf
class_by_type (OverflowPage header piece) = Some Overflow
class_by_type (QueuePage number records) = None
class_by_type NoType = None

-- the class of a page, if it has one
unfoldable pub class_of : File → ℕ → Option Class
class_of file p =
    if nat_lt file.last p then Some Tail
    else (if is_meta (page_at file p) then Some Meta
    else (if is_queue file.kind then Some Queue
    else (if is_reserve file p then Some Reserve
    else class_by_type (page_at file p))))

abbrev pub same_class : Class → Class → Bool
same_class Meta Meta = true
same_class Internal Internal = true
same_class Leaf Leaf = true
same_class Hash Hash = true
same_class Overflow Overflow = true
same_class Free Free = true
same_class Reserve Reserve = true
same_class Queue Queue = true
same_class Tail Tail = true
same_class class other = false

abbrev pub is_class : Class → Option Class → Bool
is_class class None = false
is_class class (Some other) = same_class class other

-- how many pages have a class, of those below a number, and of all
abbrev pub pages_below : File → Class → ℕ → ℕ
pages_below file class n = length (filter (λ p. is_class class (class_of file p)) (range_with_len 0 n))

abbrev pub pages_of : File → Class → ℕ
pages_of file class = pages_below file class file.count

-- the level of a page of a tree; 0 of other pages
abbrev pub tree_level : File → ℕ → ℕ
tree_level file p =
    if is_class Internal (class_of file p) || is_class Leaf (class_of file p) then (header_in (page_at file p)).level else 0

-- the greatest level of a page, of those below a number, and of all
abbrev pub levels_below : File → ℕ → ℕ
levels_below file n = fold max 0 (map (tree_level file) (range_with_len 0 n))

abbrev pub levels : File → ℕ
levels file = levels_below file file.count
