-- What the iterator over records gives, as the definitions have it.
use Rattle.std.specs.Prelude.{ℕ, List}
use Rattle.bdb_tree.specs.of_format.Terms.{ListKey}
use Rattle.bdb_tree.specs.of_overflow.Datum.{datum_seen, key_view_seen}
use Rattle.bdb_tree.specs.of_overflow.declared.datum.Datum.{Datum}
use Rattle.bdb_tree.specs.of_overflow.declared.datum.KeyView.{KeyView}

abbrev pub pair_seen : (KeyView × Datum) → ListKey × List ℕ
pair_seen pair = (key_view_seen pair.0, datum_seen pair.1)
