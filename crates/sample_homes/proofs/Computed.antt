-- What is unfolded to compute the homes of a file.
use Rattle.std.specs.Prelude.{⊤}
use Rattle.sample_graphs.proofs.of_sample_pages.Computed.{pages}
use Rattle.bdb_homes.specs.Claims.{all_claims, claim_of}
use Rattle.bdb_homes.specs.Homes.{claimed_in, home, led, own_home, spread}
use Rattle.bdb_survey.specs.Salvage.{salvaged_file, salvaged_page}
use Rattle.bdb_survey.specs.of_format.Terms.{file_as, fit_code, metadata_rows}

unfoldable pub homes_of : ⊤
unfolding pages all_claims claim_of claimed_in home led own_home spread salvaged_file salvaged_page file_as fit_code metadata_rows
homes_of = tt
