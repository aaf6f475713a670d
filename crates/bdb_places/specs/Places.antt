-- Bytes by the places where they stand in a run.
use Rattle.std.specs.Prelude.{ℕ, ◌-◌, List, drop, map, take}
use Rattle.bdb_places.specs.declared.place.Place.{Place}
use Rattle.bdb_places.specs.declared.span.Span.{Span}
use Rattle.bdb_places.specs.declared.values.Values.{Values}

-- the bytes from its start up to its end
abbrev pub span_in : List ℕ → Span → List ℕ
span_in bytes span = take (span.end - span.start) (drop span.start bytes)

-- the datum of a pair
abbrev pub value_at : List ℕ → Place → List ℕ
value_at bytes place = span_in bytes place.value

-- data, in their order
abbrev pub values_seen : Values → List (List ℕ)
values_seen values = map (value_at values.bytes.now) values.places.now
