-- Rows of the fault table, in the groups in which they are tested. Source: docs/FORMAT.md, "Faults".
use Rattle.std.specs.Prelude.{ℕ, ◌%◌, ◌==◌, ◌||◌, not, List, [], ◌∷◌, ◌++◌, length}
use Rattle.bdb_layout.specs.of_format.declared.kinds.Order.{Order}
use Rattle.bdb_layout.specs.of_format.declared.metadata.FileKind.{FileKind}
use Rattle.bdb_layout.specs.of_format.Terms.{Row, are_wrong_flags, byte_at, file_kind, four_at, has_bit, heap_magic, identity_rows, is_magic, is_page_size}
use Rattle.bdb_layout.specs.of_format.Terms.{is_past, magic_at, meta_rows, order_of, type_of, version_of, ◌:?◌}

-- Of page 0, as it speaks of the file.

-- the magic number and the version
abbrev pub version_rows : List ℕ → List (Row ℕ)
version_rows image =
    2 :? not (is_magic (magic_at image))
    ∷ 3 :? (magic_at image == heap_magic)
    ∷ 4 :? not (four_at (order_of image) image 16 == version_of (file_kind (magic_at image)))
    ∷ []

-- what isn't read of any file: its pages are encrypted or have checksums, or it is partitioned
abbrev pub left_out : {R : Type 0} → R → R → R → Order → List ℕ → List (Row R)
left_out encryption checksum partition order page =
    encryption :? not (byte_at page 24 == 0)
    ∷ checksum :? has_bit (byte_at page 26) 0x01
    ∷ partition :? (has_bit (byte_at page 26) 0x06 || not (four_at order page 36 == 0))
    ∷ []

-- the page size, and what is asked of the pages
abbrev pub page_rows : List ℕ → List (Row ℕ)
page_rows image =
    5 :? not (is_page_size (four_at (order_of image) image 20) || four_at (order_of image) image 20 == 65536)
    ∷ 6 :? (four_at (order_of image) image 20 == 65536)
    ∷ left_out 7 8 9 (order_of image) image

-- the length of the image
abbrev pub length_rows : List ℕ → List (Row ℕ)
length_rows image =
    10 :? not (length image % four_at (order_of image) image 20 == 0)
    ∷ 11 :? is_past (file_kind (magic_at image)) image
    ∷ []

-- Of a metadata page.

-- the rows of any metadata
abbrev pub common_rows : Order → List ℕ → ℕ → FileKind → List (Row ℕ)
common_rows order page number kind = identity_rows order page number (λ byte. byte == type_of kind) ++ meta_rows order page number kind

-- the rows of btree metadata alone, by its flags
abbrev pub flag_rows : ℕ → ℕ → List (Row ℕ)
flag_rows number flags = 9 :? has_bit flags 0x80 ∷ 10 :? are_wrong_flags number flags ∷ []
