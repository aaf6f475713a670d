-- The numbers of the items of a page, by their places in the index, and where items end. Source: docs/FORMAT.md, "The other byte order".
use Rattle.std.specs.Prelude.{ℕ, ◌+◌, List, ◌++◌}
use Rattle.std.specs.List.{flat_map, range_with_len}
use Rattle.bdb_graph.specs.of_format.declared.kinds.Order.{Order}
use Rattle.bdb_graph.specs.of_format.Terms.{Chain, Content, Inline, Set, Tree, Unknown, hash_item_at, internal_item_at, leaf_item_at, offset_of}
use Rattle.bdb_law_turned.specs.Fields.{Field, hash_fields, header_fields, index_fields, internal_fields, leaf_fields, recno_fields}
use Rattle.bdb_graph.specs.of_form.Ends.{internal_item_end, leaf_item_end}
use Rattle.bdb_law_turned.specs.Apart.{run_length}

-- the numbers of a page with an index of n entries, whose items' numbers are these parts
abbrev pub all_fields : ℕ → (ℕ → List Field) → List Field
all_fields n part = header_fields ++ (index_fields n ++ flat_map part (range_with_len 0 n))

-- the numbers of the items of a leaf, by their places in the index
abbrev pub leaf_part : Order → List ℕ → ℕ → List Field
leaf_part order page i = leaf_fields (offset_of order page i) (leaf_item_at order page i).content

-- of an internal page
abbrev pub internal_part : Order → List ℕ → ℕ → List Field
internal_part order page i = internal_fields (offset_of order page i) (internal_item_at order page i)

-- of an internal page of a recno tree
abbrev pub recno_part : Order → List ℕ → ℕ → List Field
recno_part order page i = recno_fields (offset_of order page i)

-- of a hash page
abbrev pub hash_part : Order → List ℕ → ℕ → List Field
hash_part order page i = hash_fields (offset_of order page i) (hash_item_at order page i).content

-- where an item of a leaf ends
abbrev pub leaf_high : Order → List ℕ → ℕ → ℕ
leaf_high order page i = leaf_item_end (offset_of order page i) (leaf_item_at order page i).content

-- where an internal item ends
abbrev pub internal_high : Order → List ℕ → ℕ → ℕ
internal_high order page i = internal_item_end (offset_of order page i) (internal_item_at order page i).key

-- where an item of an internal page of a recno tree ends
abbrev pub recno_high : Order → List ℕ → ℕ → ℕ
recno_high order page i = offset_of order page i + 8

-- up to where the numbers of an item of a hash page go
abbrev pub hash_item_end : ℕ → Content → ℕ
hash_item_end at (Inline bytes) = at
hash_item_end at (Set blocks) = at + 1 + run_length blocks
hash_item_end at (Chain head total) = at + 12
hash_item_end at (Tree root) = at + 8
hash_item_end at Unknown = at
