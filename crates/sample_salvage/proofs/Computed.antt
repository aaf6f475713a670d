-- What is unfolded to compute what is salvaged of a file.
use Rattle.std.specs.Prelude.{⊤}
use Rattle.sample_contents.proofs.of_sample_pages.Computed.{pages}
use Rattle.bdb_survey.specs.Salvage.{salvaged_page, salvaged_file, is_whole, down_in, down, set_start, whole_values, live_whole}
use Rattle.bdb_survey.specs.Salvage.{whole_data, stored_pair, stored, set_starts, is_taken, loose}
use Rattle.bdb_survey.specs.of_format.Terms.{chain_in, file_as, fit_code, pieces_of}

unfoldable pub found : ⊤
unfolding salvaged_page salvaged_file is_whole down_in down set_start whole_values live_whole whole_data stored_pair stored set_starts is_taken loose
found = tt

unfoldable pub salvaged : ⊤
unfolding pages found file_as fit_code chain_in pieces_of
salvaged = tt
