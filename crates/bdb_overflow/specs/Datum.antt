-- Values as callers have them: bytes of a page, or the pieces of a chain. Source: docs/FORMAT.md, "Items".
use Rattle.std.specs.Prelude.{ℕ, List, Option, Some, None}
use Rattle.bdb_graph.specs.of_format.Terms.{BytesKey, Chain, Content, File, Inline, ListKey, NumberKey, Set, Tree, Unknown, joined, value_of}
use Rattle.bdb_graph.specs.of_image.Linked.{FitsChain}
use Rattle.bdb_overflow.specs.declared.datum.Datum.{Datum}
use Rattle.bdb_overflow.specs.declared.datum.Datum.TheVariants.{Inline as InlineDatum, Chained}
use Rattle.bdb_overflow.specs.declared.datum.KeyView.{KeyView}
use Rattle.bdb_overflow.specs.declared.datum.KeyView.TheVariants.{Bytes, Number}

-- the bytes of a value
abbrev pub datum_seen : Datum → List ℕ
datum_seen (InlineDatum bytes) = bytes.now
datum_seen (Chained pieces) = joined pieces

abbrev pub key_view_seen : KeyView → ListKey
key_view_seen (Bytes datum) = BytesKey (datum_seen datum)
key_view_seen (Number number) = NumberKey number

-- a chain that an item names begins at a page that fits
abbrev pub FitsContent : File → Content → Type 0
FitsContent file (Inline bytes) = Unit {0}
FitsContent file (Set blocks) = Unit {0}
FitsContent file (Chain head total) = FitsChain file head
FitsContent file (Tree root) = Unit {0}
FitsContent file Unknown = Unit {0}

-- the value of an item that holds one by itself, and no set
abbrev pub single_value : File → Content → Option (List ℕ)
single_value file (Inline bytes) = Some (value_of file (Inline bytes))
single_value file (Set blocks) = None
single_value file (Chain head total) = Some (value_of file (Chain head total))
single_value file (Tree root) = None
single_value file Unknown = None
