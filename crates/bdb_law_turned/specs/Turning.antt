-- Pages whose numbers are byte-swapped. Source: docs/FORMAT.md, "The other byte order".
use Rattle.std.specs.Prelude.{ℕ, ◌+◌, ◌-◌, ◌*◌, nat_le, nat_lt, ◌&&◌, Bool, List, map, length, Option, Some, None}
use Rattle.std.specs.List.{find, range_with_len}
use Rattle.bdb_graph.specs.of_format.declared.kinds.Order.{Order}
use Rattle.bdb_graph.specs.of_format.Terms.{abstract_page, byte_at}
use Rattle.bdb_law_turned.specs.Fields.{Field, fields_of}

-- a place lies in a number
abbrev pub is_in : ℕ → Field → Bool
is_in k f = nat_le f.begin k && nat_lt k (f.begin + f.width)

-- as far from the number's end as it was from its begin; a place in no number stays
abbrev pub mirrored : ℕ → Option Field → ℕ
mirrored k None = k
mirrored k (Some f) = (2 * f.begin + f.width) - 1 - k

-- the place to which a place turns
unfoldable pub mirror : List Field → ℕ → ℕ
mirror fields k = mirrored k (find (is_in k) fields)

-- bytes with these numbers byte-swapped: the bytes of each stand in the reverse order, and all others stay
unfoldable pub turned_round : List Field → List ℕ → List ℕ
turned_round fields bytes = map (λ k. byte_at bytes (mirror fields k)) (range_with_len 0 (length bytes))

-- a page with all its numbers byte-swapped
abbrev pub turned_page : Order → List ℕ → List ℕ
turned_page order page = turned_round (fields_of (abstract_page order page)) page
