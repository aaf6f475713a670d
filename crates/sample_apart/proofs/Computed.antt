-- What is unfolded to compute what is found in a file.
use Rattle.std.specs.Prelude.{⊤}
use Rattle.sample_contents.proofs.of_sample_pages.Computed.{pages}
use Rattle.bdb_apart.specs.of_survey.Salvage.{salvaged_page, salvaged_file, is_whole, down_in, down, set_start, whole_values, live_whole}
use Rattle.bdb_apart.specs.of_survey.Salvage.{whole_data, stored_pair, set_starts, is_taken}
use Rattle.bdb_apart.proofs.of_homes.Claims.{all_claims, claim_of}
use Rattle.bdb_apart.proofs.of_homes.Homes.{claimed_in, home, led, own_home, spread}
use Rattle.bdb_apart.specs.Found.{entries, found}
use Rattle.bdb_apart.specs.Given.{pairs_given, pairs_left, records_given, records_left}
use Rattle.bdb_apart.specs.Queues.{queue_in, queue_records}
use Rattle.bdb_apart.specs.of_format.Terms.{chain_in, file_as, fit_code, metadata_rows, pieces_of}

unfoldable pub stored_so : ⊤
unfolding salvaged_page salvaged_file is_whole down_in down set_start whole_values live_whole whole_data stored_pair set_starts is_taken chain_in pieces_of
stored_so = tt

unfoldable pub homes_so : ⊤
unfolding all_claims claim_of claimed_in home led own_home spread file_as fit_code metadata_rows
homes_so = tt

unfoldable pub apart : ⊤
unfolding pages stored_so homes_so queue_in queue_records entries found pairs_given pairs_left records_given records_left
apart = tt
