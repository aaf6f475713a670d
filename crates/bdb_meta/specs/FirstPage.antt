-- What page 0 says of a file that isn't read whole: a case that isn't supported, and whether it has several databases. Source: docs/FORMAT.md, "Unsupported
-- cases" and "Salvage".
use Rattle.std.specs.Prelude.{ℕ, nat_lt, nat_le, ◌==◌, ◌||◌, ◌&&◌, not, if◌then◌else◌, Bool, true, false, List, [], ◌∷◌, ◌++◌, length, Option, None}
use Rattle.bdb_layout.specs.of_format.Terms.{Row, byte_at, file_kind, first_row, four_at, has_bit, queue_fields, version_of, ◌:?◌}
use Rattle.bdb_layout.specs.of_format.declared.kinds.Order.{Order}
use Rattle.bdb_layout.specs.of_format.declared.kinds.Unsupported.{Unsupported}
use Rattle.bdb_layout.specs.of_format.declared.kinds.Unsupported.TheVariants.{Version, Encryption, Checksum, Partition, Extent, Compression, OwnHash, WrappedQueue}
use Rattle.bdb_layout.specs.of_format.declared.metadata.FileKind.{FileKind}
use Rattle.bdb_layout.specs.of_format.declared.metadata.FileKind.TheVariants.{Btree, Hash, Queue}

-- the cases of all metadata
abbrev pub common_cases : FileKind → Order → List ℕ → List (Row Unsupported)
common_cases kind order page =
    Version :? not (four_at order page 16 == version_of kind)
    ∷ Encryption :? not (byte_at page 24 == 0)
    ∷ Checksum :? has_bit (byte_at page 26) 0x01
    ∷ Partition :? (has_bit (byte_at page 26) 0x06 || not (four_at order page 36 == 0))
    ∷ []

-- those of metadata of a kind
abbrev pub kind_cases : FileKind → Order → List ℕ → List (Row Unsupported)
kind_cases Btree order page = Compression :? has_bit (four_at order page 48) 0x80 ∷ []
kind_cases Hash order page = OwnHash :? not (four_at order page 92 == 0x5e688dd1) ∷ []
kind_cases Queue order page =
    Extent :? not (four_at order page 92 == 0) ∷ WrappedQueue :? nat_lt (queue_fields order page).current (queue_fields order page).first ∷ []

-- the first that holds of page 0, where all fields of metadata are there
unfoldable pub first_page_case : Order → List ℕ → Option Unsupported
first_page_case order image =
    if nat_lt (length image) 512
    then None
    else first_row (common_cases (file_kind (four_at order image 12)) order image ++ kind_cases (file_kind (four_at order image 12)) order image)

-- page 0 is metadata of a queue, or of a btree whose pairs name databases
abbrev pub is_queue_or_master : FileKind → Order → List ℕ → Bool
is_queue_or_master Btree order page = has_bit (four_at order page 48) 0x20
is_queue_or_master Hash order page = false
is_queue_or_master Queue order page = true

-- the same of page 0, where all fields of metadata are there
unfoldable pub first_page_is_queue_or_master : Order → List ℕ → Bool
first_page_is_queue_or_master order image =
    nat_le 512 (length image) && is_queue_or_master (file_kind (four_at order image 12)) order image
