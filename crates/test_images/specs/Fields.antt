-- Fields that are written over bytes. Source: this project's tests.
use Rattle.std.specs.Prelude.{ℕ, nat_le, ◌+◌, if◌then◌else◌, List, [], ◌∷◌, length}
use Rattle.bdb_tree.specs.of_format.declared.kinds.Order.{Order}
use Rattle.bdb_tree.specs.of_format.Terms.{overwritten, spelled}
use Rattle.test_images.specs.declared.field.Field.{Field}
use Rattle.test_images.specs.declared.field.Field.TheVariants.{Byte, Two, Four, Bytes}

-- bytes after others were put over them from a place on; as they were, where those don't lie within them
abbrev pub put_at : List ℕ → ℕ → List ℕ → List ℕ
put_at bytes at new = if nat_le (at + length new) (length bytes) then overwritten bytes at new else bytes

-- the number of a field's first byte
abbrev pub place_of : Field → ℕ
place_of (Byte at value) = at
place_of (Two at value) = at
place_of (Four at value) = at
place_of (Bytes at value) = at

-- the bytes of a field
abbrev pub bytes_of : Order → Field → List ℕ
bytes_of order (Byte at value) = value ∷ []
bytes_of order (Two at value) = spelled 2 order value
bytes_of order (Four at value) = spelled 4 order value
bytes_of order (Bytes at value) = value.now

-- bytes after a field was written over them
abbrev pub field_put : Order → List ℕ → Field → List ℕ
field_put order bytes field = put_at bytes (place_of field) (bytes_of order field)
