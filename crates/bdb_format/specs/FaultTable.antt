-- The fault table: the stage, the code and the name of each row, and the names of the cases that aren't supported. Source: docs/FORMAT.md, "Faults".
use Rattle.std.specs.Prelude.{ℕ, if◌then◌else◌, Bool, List, [], ◌∷◌, Result, Ok, Err, ◌-◌, ◌==◌, codes, get_or}
use Rattle.bdb_format.specs.declared.kinds.Fault.{Fault}
use Rattle.bdb_format.specs.declared.rows.FileRow.{FileRow}
use Rattle.bdb_format.specs.declared.rows.FileRow.TheVariants.{Short, Magic, Heap, Version as VersionOfFile, PageSize, LargePage}
use Rattle.bdb_format.specs.declared.rows.FileRow.TheVariants.{Encryption as EncryptionOfFile, Checksum as ChecksumOfFile, Partition as PartitionOfFile, Ragged}
use Rattle.bdb_format.specs.declared.rows.FileRow.TheVariants.{LastPage, Tail}
use Rattle.bdb_format.specs.declared.rows.FormRow.{FormRow}
use Rattle.bdb_format.specs.declared.rows.FormRow.TheVariants.{PageNumber, PageType, MetaMagic, Version as VersionOfForm, MetaPageSize}
use Rattle.bdb_format.specs.declared.rows.FormRow.TheVariants.{Encryption as EncryptionOfForm, Checksum as ChecksumOfForm, Partition as PartitionOfForm}
use Rattle.bdb_format.specs.declared.rows.FormRow.TheVariants.{Compression, BtreeFlags, OwnHash, HashFlags, HashMasks, HashBuckets, Extent, QueueRecord}
use Rattle.bdb_format.specs.declared.rows.FormRow.TheVariants.{QueueFirst, WrappedQueue, IndexRoom, Level, EntryCount, ItemOffset, ItemType, ItemExtent}
use Rattle.bdb_format.specs.declared.rows.FormRow.TheVariants.{OverflowRoom}
use Rattle.bdb_format.specs.declared.rows.ReferenceRow.{ReferenceRow}
use Rattle.bdb_format.specs.declared.rows.ReferenceRow.TheVariants.{OutOfRange, WrongKind, WrongLevel, WrongBack}
use Rattle.bdb_format.specs.declared.rows.OwnershipRow.{OwnershipRow}
use Rattle.bdb_format.specs.declared.rows.OwnershipRow.TheVariants.{NoOwner, TooMany}
use Rattle.bdb_format.specs.declared.rows.ReachRow.{ReachRow}
use Rattle.bdb_format.specs.declared.rows.ReachRow.TheVariants.{Unreached}
use Rattle.bdb_format.specs.declared.rows.StructureRow.{StructureRow}
use Rattle.bdb_format.specs.declared.rows.StructureRow.TheVariants.{ChainLength, LeafKind, LeafLink}
use Rattle.bdb_format.specs.declared.rows.MasterRow.{MasterRow}
use Rattle.bdb_format.specs.declared.rows.MasterRow.TheVariants.{Unnamed, EntrySize, EntryTarget, NameTwice, MetaTwice}
use Rattle.bdb_format.specs.declared.rows.ContentsRow.{ContentsRow}
use Rattle.bdb_format.specs.declared.rows.ContentsRow.TheVariants.{Duplicates, DuplicateKind, KeyOrder, Separator, DuplicateOrder, Count, RecordLength, Bucket}
use Rattle.bdb_format.specs.declared.rows.ContentsRow.TheVariants.{KeyTwice}
use Rattle.bdb_format.specs.declared.rows.Row.{Row}
use Rattle.bdb_format.specs.declared.rows.Row.TheVariants.{File, Form, Reference, Ownership, Reach, Structure, Master, Contents}
use Rattle.bdb_format.specs.declared.kinds.Unsupported.{Unsupported}
use Rattle.bdb_format.specs.declared.kinds.Unsupported.TheVariants.{Version as VersionCase, Heap as HeapCase, LargePage as LargePageCase, Encryption as EncryptionCase}
use Rattle.bdb_format.specs.declared.kinds.Unsupported.TheVariants.{Checksum as ChecksumCase, Partition as PartitionCase, Extent as ExtentCase}
use Rattle.bdb_format.specs.declared.kinds.Unsupported.TheVariants.{Compression as CompressionCase, OwnHash as OwnHashCase, WrappedQueue as WrappedQueueCase}

-- Stages and codes.

abbrev pub file_row_code : FileRow → ℕ
file_row_code Short = 1
file_row_code Magic = 2
file_row_code Heap = 3
file_row_code VersionOfFile = 4
file_row_code PageSize = 5
file_row_code LargePage = 6
file_row_code EncryptionOfFile = 7
file_row_code ChecksumOfFile = 8
file_row_code PartitionOfFile = 9
file_row_code Ragged = 10
file_row_code LastPage = 11
file_row_code Tail = 12

abbrev pub form_row_code : FormRow → ℕ
form_row_code PageNumber = 1
form_row_code PageType = 2
form_row_code MetaMagic = 3
form_row_code VersionOfForm = 4
form_row_code MetaPageSize = 5
form_row_code EncryptionOfForm = 6
form_row_code ChecksumOfForm = 7
form_row_code PartitionOfForm = 8
form_row_code Compression = 9
form_row_code BtreeFlags = 10
form_row_code OwnHash = 11
form_row_code HashFlags = 12
form_row_code HashMasks = 13
form_row_code HashBuckets = 14
form_row_code Extent = 15
form_row_code QueueRecord = 16
form_row_code QueueFirst = 17
form_row_code WrappedQueue = 18
form_row_code IndexRoom = 19
form_row_code Level = 20
form_row_code EntryCount = 21
form_row_code ItemOffset = 22
form_row_code ItemType = 23
form_row_code ItemExtent = 24
form_row_code OverflowRoom = 25

abbrev pub reference_row_code : ReferenceRow → ℕ
reference_row_code OutOfRange = 1
reference_row_code WrongKind = 2
reference_row_code WrongLevel = 3
reference_row_code WrongBack = 4

abbrev pub ownership_row_code : OwnershipRow → ℕ
ownership_row_code NoOwner = 1
ownership_row_code TooMany = 2

abbrev pub reach_row_code : ReachRow → ℕ
reach_row_code Unreached = 1

abbrev pub structure_row_code : StructureRow → ℕ
structure_row_code ChainLength = 1
structure_row_code LeafKind = 2
structure_row_code LeafLink = 3

abbrev pub master_row_code : MasterRow → ℕ
master_row_code Unnamed = 1
master_row_code EntrySize = 2
master_row_code EntryTarget = 3
master_row_code NameTwice = 4
master_row_code MetaTwice = 5

abbrev pub contents_row_code : ContentsRow → ℕ
contents_row_code Duplicates = 1
contents_row_code DuplicateKind = 2
contents_row_code KeyOrder = 3
contents_row_code Separator = 4
contents_row_code DuplicateOrder = 5
contents_row_code Count = 6
contents_row_code RecordLength = 7
contents_row_code Bucket = 8
contents_row_code KeyTwice = 9

abbrev pub row_stage : Row → ℕ
row_stage (File row) = 1
row_stage (Form row) = 2
row_stage (Reference row) = 3
row_stage (Ownership row) = 4
row_stage (Reach row) = 5
row_stage (Structure row) = 6
row_stage (Master row) = 7
row_stage (Contents row) = 8

abbrev pub row_code : Row → ℕ
row_code (File row) = file_row_code row
row_code (Form row) = form_row_code row
row_code (Reference row) = reference_row_code row
row_code (Ownership row) = ownership_row_code row
row_code (Reach row) = reach_row_code row
row_code (Structure row) = structure_row_code row
row_code (Master row) = master_row_code row
row_code (Contents row) = contents_row_code row

-- the fault of a row at a page
abbrev pub fault_at : Row → ℕ → Fault
fault_at row page = record { stage = row_stage row; page = page; code = row_code row }

-- the same, where the row holds there
abbrev pub fault_if : Row → ℕ → Bool → List Fault
fault_if row page holds = if holds then fault_at row page ∷ [] else []

-- an answer with the codes of its rows
abbrev pub coded : {T Rows : Type 0} → (Rows → ℕ) → Result T Rows → Result T ℕ
coded code (Ok value) = Ok value
coded code (Err row) = Err (code row)

-- Names.

-- the name beside a number in a table of names that are numbered from one on
abbrev pub numbered_name : List (List ℕ) → ℕ → List ℕ
numbered_name names n = if n == 0 then [] else get_or names (n - 1) []

abbrev pub file_names : List (List ℕ)
file_names =
    codes "Short" ∷ codes "Magic" ∷ codes "Heap" ∷ codes "Version" ∷ codes "PageSize" ∷ codes "LargePage" ∷ codes "Encryption" ∷ codes "Checksum"
    ∷ codes "Partition"
    ∷ codes "Ragged" ∷ codes "LastPage" ∷ codes "Tail" ∷ []

abbrev pub form_names : List (List ℕ)
form_names =
    codes "PageNumber" ∷ codes "PageType" ∷ codes "MetaMagic" ∷ codes "Version" ∷ codes "MetaPageSize" ∷ codes "Encryption" ∷ codes "Checksum"
    ∷ codes "Partition"
    ∷ codes "Compression" ∷ codes "BtreeFlags" ∷ codes "OwnHash" ∷ codes "HashFlags" ∷ codes "HashMasks" ∷ codes "HashBuckets" ∷ codes "Extent"
    ∷ codes "QueueRecord"
    ∷ codes "QueueFirst" ∷ codes "WrappedQueue" ∷ codes "IndexRoom" ∷ codes "Level" ∷ codes "EntryCount" ∷ codes "ItemOffset" ∷ codes "ItemType"
    ∷ codes "ItemExtent"
    ∷ codes "OverflowRoom" ∷ []

abbrev pub reference_names : List (List ℕ)
reference_names = codes "OutOfRange" ∷ codes "WrongKind" ∷ codes "WrongLevel" ∷ codes "WrongBack" ∷ []

abbrev pub ownership_names : List (List ℕ)
ownership_names = codes "NoOwner" ∷ codes "TooMany" ∷ []

abbrev pub reach_names : List (List ℕ)
reach_names = codes "Unreached" ∷ []

abbrev pub structure_names : List (List ℕ)
structure_names = codes "ChainLength" ∷ codes "LeafKind" ∷ codes "LeafLink" ∷ []

abbrev pub master_names : List (List ℕ)
master_names = codes "Unnamed" ∷ codes "EntrySize" ∷ codes "EntryTarget" ∷ codes "NameTwice" ∷ codes "MetaTwice" ∷ []

abbrev pub contents_names : List (List ℕ)
contents_names =
    codes "Duplicates" ∷ codes "DuplicateKind" ∷ codes "KeyOrder" ∷ codes "Separator" ∷ codes "DuplicateOrder" ∷ codes "Count" ∷ codes "RecordLength"
    ∷ codes "Bucket"
    ∷ codes "KeyTwice" ∷ []

-- the names of a stage
abbrev pub row_names : ℕ → List (List ℕ)
row_names stage =
    if stage == 1 then file_names
    else (if stage == 2 then form_names
    else (if stage == 3 then reference_names
    else (if stage == 4 then ownership_names
    else (if stage == 5 then reach_names
    else (if stage == 6 then structure_names
    else (if stage == 7 then master_names
    else (if stage == 8 then contents_names else [])))))))

-- the name of the row with this stage and code
unfoldable pub fault_name : ℕ → ℕ → List ℕ
fault_name stage code = numbered_name (row_names stage) code

-- the name of a case that isn't supported
abbrev pub unsupported_name : Unsupported → List ℕ
unsupported_name VersionCase = codes "Version"
unsupported_name HeapCase = codes "Heap"
unsupported_name LargePageCase = codes "LargePage"
unsupported_name EncryptionCase = codes "Encryption"
unsupported_name ChecksumCase = codes "Checksum"
unsupported_name PartitionCase = codes "Partition"
unsupported_name ExtentCase = codes "Extent"
unsupported_name CompressionCase = codes "Compression"
unsupported_name OwnHashCase = codes "OwnHash"
unsupported_name WrappedQueueCase = codes "WrappedQueue"
