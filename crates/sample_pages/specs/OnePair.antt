-- A btree file with the one pair `a`, `b`, and files that differ from it in a few bytes. Source: docs/FORMAT.md, "The sample file".
use Rattle.std.specs.Prelude.{ℕ, ◌+◌, Bool, false, List, [], ◌∷◌, ◌++◌, replicate}
use Rattle.bdb_format.specs.Terms.{BtreeFields, Inline, Item, Leaf, Meta, Page, overwritten}

-- samples/one-pair-little.db
abbrev pub one_pair : List ℕ
one_pair =
    replicate 12 0 ++ (
    (98 ∷ 49 ∷ 5 ∷ 0 ∷ 9 ∷ []) ++ (
    replicate 4 0 ++ (
    (2 ∷ 0 ∷ 0 ∷ 0 ∷ 9 ∷ []) ++ (
    replicate 6 0 ++ (
    (1 ∷ []) ++ (
    replicate 43 0 ++ (
    (2 ∷ []) ++ (
    replicate 11 0 ++ (
    (1 ∷ []) ++ (
    replicate 431 0 ++ (
    (1 ∷ []) ++ (
    replicate 11 0 ++ (
    (2 ∷ 0 ∷ 248 ∷ 1 ∷ 1 ∷ 5 ∷ 252 ∷ 1 ∷ 248 ∷ 1 ∷ []) ++ (
    replicate 474 0 ++ (
    1 ∷ 0 ∷ 1 ∷ 98 ∷ 1 ∷ 0 ∷ 1 ∷ 97 ∷ [])))))))))))))))

-- the same numbers in the other order
-- samples/one-pair-big.db
abbrev pub one_pair_big : List ℕ
one_pair_big =
    replicate 13 0 ++ (
    (5 ∷ 49 ∷ 98 ∷ 0 ∷ 0 ∷ 0 ∷ 9 ∷ 0 ∷ 0 ∷ 2 ∷ 0 ∷ 0 ∷ 9 ∷ []) ++ (
    replicate 9 0 ++ (
    (1 ∷ []) ++ (
    replicate 43 0 ++ (
    (2 ∷ []) ++ (
    replicate 11 0 ++ (
    (1 ∷ []) ++ (
    replicate 431 0 ++ (
    (1 ∷ []) ++ (
    replicate 9 0 ++ (
    (2 ∷ 1 ∷ 248 ∷ 1 ∷ 5 ∷ 1 ∷ 252 ∷ 1 ∷ 248 ∷ []) ++ (
    replicate 475 0 ++ (
    1 ∷ 1 ∷ 98 ∷ 0 ∷ 1 ∷ 1 ∷ 97 ∷ [])))))))))))))

-- version 10
abbrev pub other_version : List ℕ
other_version = overwritten one_pair 16 (10 ∷ [])

-- pages of 65536 bytes
abbrev pub large_page : List ℕ
large_page = overwritten one_pair 20 (0 ∷ 0 ∷ 1 ∷ [])

-- page 1 has the number 2
abbrev pub misnumbered : List ℕ
misnumbered = overwritten one_pair (512 + 8) (2 ∷ [])

-- the data has the bit of a deleted item
abbrev pub deleted : List ℕ
deleted = overwritten one_pair (512 + 506) (0x81 ∷ [])

-- the data has the type 4
abbrev pub other_kind : List ℕ
other_kind = overwritten one_pair (512 + 506) (4 ∷ [])

-- the data has 9 bytes from 507 on, and goes past the end
abbrev pub past_end : List ℕ
past_end = overwritten one_pair (512 + 504) (9 ∷ [])

-- the data has 6 bytes, and goes past the end by one
abbrev pub past_by_one : List ℕ
past_by_one = overwritten one_pair (512 + 504) (6 ∷ [])

-- the data ends with the page: 5 bytes from 507 on
abbrev pub to_end : List ℕ
to_end = overwritten one_pair (512 + 504) (5 ∷ [])

-- its pages: metadata, and a leaf with the data item given
abbrev pub pages_with : Item → List Page
pages_with datum =
    Meta (BtreeFields (record { flags = 0; minkey = 2; re_len = 0; re_pad = 0; root = 1; free = 0 }))
    ∷ Leaf (record {
      header = record { number = 1; previous = 0; next = 0; entries = 2; high_free = 504; level = 1; page_type = 5 };
      offsets = 508 ∷ 504 ∷ [];
      items = record { content = Inline (97 ∷ []); deleted = false } ∷ datum ∷ [];
    })
    ∷ []

-- `b`, live or deleted
abbrev pub b_item : Bool → Item
b_item deleted = record { content = Inline (98 ∷ []); deleted = deleted }
