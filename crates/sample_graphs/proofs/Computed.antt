-- What is unfolded to compute the faults of a file.
use Rattle.std.specs.Prelude.{⊤}
use Rattle.sample_pages.proofs.Computed.{pages}
use Rattle.sample_pages.specs.of_format.Terms.{all_references, chain_in, contents_faults, data_of, faults_in, faults_of, file_of, fit_code, form_faults}
use Rattle.sample_pages.specs.of_format.Terms.{head_faults, inner_pages, is_anchor, is_reserve, leaf_places, leaves_in, master_faults, master_pairs, owners}
use Rattle.sample_pages.specs.of_format.Terms.{ownership_faults, pairs_of, pieces_of, reach_faults, reaches_in, reference_faults, refs, root_references}
use Rattle.sample_pages.specs.of_format.Terms.{structure_faults, table_pairs, tail_faults, tree_entries, tree_pairs, value_of}

unfoldable pub references : ⊤
unfolding refs fit_code all_references owners is_anchor is_reserve reaches_in
references = tt

unfoldable pub values : ⊤
unfolding chain_in pieces_of leaves_in root_references leaf_places value_of
values = tt

unfoldable pub pairs : ⊤
unfolding pairs_of data_of tree_pairs tree_entries table_pairs inner_pages master_pairs
pairs = tt

unfoldable pub stages : ⊤
unfolding head_faults tail_faults form_faults reference_faults ownership_faults reach_faults structure_faults master_faults contents_faults
stages = tt

unfoldable pub graphs : ⊤
unfolding pages references values pairs stages file_of faults_in faults_of
graphs = tt
