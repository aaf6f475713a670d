-- What page 0 says of the whole file, and the rows that refuse it. Source: docs/FORMAT.md, "Stage 1, the file".
use Rattle.std.specs.Prelude.{ℕ, ◌-◌, ◌/◌, ◌%◌, nat_lt, nat_le, ◌==◌, ◌||◌, ◌&&◌, not, if◌then◌else◌, Bool, List, [], ◌∷◌, length, Result, Ok, Err}
use Rattle.std.specs.List.{list_any}
use Rattle.bdb_format.specs.declared.kinds.Order.{Order}
use Rattle.bdb_format.specs.declared.kinds.Order.TheVariants.{Big, Little}
use Rattle.bdb_format.specs.declared.kinds.Unsupported.{Unsupported}
use Rattle.bdb_format.specs.declared.kinds.Unsupported.TheVariants.{Version, Heap, LargePage, Encryption, Checksum, Partition, Extent, Compression, OwnHash}
use Rattle.bdb_format.specs.declared.kinds.Unsupported.TheVariants.{WrappedQueue}
use Rattle.bdb_format.specs.declared.metadata.FileKind.{FileKind}
use Rattle.bdb_format.specs.declared.metadata.FileKind.TheVariants.{Btree, Hash, Queue}
use Rattle.bdb_format.specs.declared.metadata.Head.{Head}
use Rattle.bdb_format.specs.declared.metadata.MetaFault.{MetaFault}
use Rattle.bdb_format.specs.declared.metadata.MetaFault.TheVariants.{Fault, Unsupported as LeftOut}
use Rattle.bdb_format.specs.Numbers.{byte_at, four_at, has_bit}
use Rattle.bdb_format.specs.Table.{Row, ◌:?◌}
use Rattle.bdb_format.specs.Rows.{magic_of, version_of, is_queue}

abbrev pub heap_magic : ℕ
heap_magic = 0x074582

abbrev pub is_magic : ℕ → Bool
is_magic n = n == magic_of Btree || n == magic_of Hash || n == magic_of Queue || n == heap_magic

-- the order in which page 0 has a magic number
abbrev pub order_of : List ℕ → Order
order_of image = if is_magic (four_at Little image 12) then Little else Big

abbrev pub magic_at : List ℕ → ℕ
magic_at image = four_at (order_of image) image 12

abbrev pub file_kind : ℕ → FileKind
file_kind magic = if magic == magic_of Btree then Btree else (if magic == magic_of Hash then Hash else Queue)

-- a power of two from 512 to 32768
abbrev pub is_page_size : ℕ → Bool
is_page_size n = list_any (λ size. size == n) (512 ∷ 1024 ∷ 2048 ∷ 4096 ∷ 8192 ∷ 16384 ∷ 32768 ∷ [])

abbrev pub pages_of : List ℕ → ℕ
pages_of image = length image / four_at (order_of image) image 20

-- the last page, by page 0; a queue goes to the end of its file
abbrev pub last_page : FileKind → List ℕ → ℕ
last_page kind image = if is_queue kind then pages_of image - 1 else four_at (order_of image) image 32

-- in no queue, the last page isn't there
abbrev pub is_past : FileKind → List ℕ → Bool
is_past kind image = not (is_queue kind) && nat_le (pages_of image) (last_page kind image)

-- what page 0 says of the whole file
unfoldable pub head_of : List ℕ → Head
head_of image = record {
  order = order_of image;
  page_size = four_at (order_of image) image 20;
  kind = file_kind (magic_at image);
  last = last_page (file_kind (magic_at image)) image;
  pages = pages_of image;
}

-- the rows of page 0 that speak of the file
unfoldable pub head_rows : List ℕ → List (Row ℕ)
head_rows image =
    let order : Order = order_of image in
    let kind : FileKind = file_kind (magic_at image) in
    1 :? nat_lt (length image) 512
    ∷ 2 :? not (is_magic (magic_at image))
    ∷ 3 :? (magic_at image == heap_magic)
    ∷ 4 :? not (four_at order image 16 == version_of kind)
    ∷ 5 :? not (is_page_size (four_at order image 20) || four_at order image 20 == 65536)
    ∷ 6 :? (four_at order image 20 == 65536)
    ∷ 7 :? not (byte_at image 24 == 0)
    ∷ 8 :? has_bit (byte_at image 26) 0x01
    ∷ 9 :? (has_bit (byte_at image 26) 0x06 || not (four_at order image 36 == 0))
    ∷ 10 :? not (length image % four_at order image 20 == 0)
    ∷ 11 :? is_past kind image
    ∷ []

-- the rows of cases that aren't supported
abbrev pub left_out_as : List (ℕ × Unsupported) → ℕ → MetaFault
left_out_as [] code = Fault code
left_out_as (named ∷ names) code = if named.0 == code then LeftOut named.1 else left_out_as names code

abbrev pub head_fault : ℕ → MetaFault
head_fault code =
    left_out_as ((3, Heap) ∷ (4, Version) ∷ (6, LargePage) ∷ (7, Encryption) ∷ (8, Checksum) ∷ (9, Partition) ∷ []) code

abbrev pub form_fault : ℕ → MetaFault
form_fault code =
    left_out_as ((4, Version) ∷ (6, Encryption) ∷ (7, Checksum) ∷ (8, Partition) ∷ (9, Compression) ∷ (11, OwnHash) ∷ (15, Extent) ∷ (18, WrappedQueue) ∷ [])
    code

-- an answer with its rows as faults
abbrev pub faulted : {T : Type 0} → (ℕ → MetaFault) → Result T ℕ → Result T MetaFault
faulted fault (Ok value) = Ok value
faulted fault (Err code) = Err (fault code)
