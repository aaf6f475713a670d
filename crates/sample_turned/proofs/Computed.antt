-- What is unfolded to compute a file in the other byte order.
use Rattle.std.specs.Prelude.{⊤}
use Rattle.sample_pages.proofs.Computed.{pages}
use Rattle.bdb_law_turned.specs.of_format.Terms.{file_of}
use Rattle.bdb_law_turned.specs.Fields.{listed_fields, fields_of}
use Rattle.bdb_law_turned.specs.Overlaps.{listed_overlap, overlaps}
use Rattle.bdb_law_turned.specs.Turning.{mirror, turned_round}
use Rattle.bdb_law_turned.specs.Flipped.{flipped, first_overlap}

unfoldable pub turned : ⊤
unfolding pages file_of listed_fields fields_of listed_overlap overlaps mirror turned_round flipped first_overlap
turned = tt
