-- Sound files are owned.
use Rattle.bdb_law_whole.specs.of_format.Terms.{file_of, head_of}
use Rattle.bdb_law_whole.proofs.of_format.FileLemmas.{past_last}
use Rattle.bdb_law_whole.proofs.of_graph.ForestLemmas.{IsSoundGraph, first_names, sound_graph}
use Rattle.bdb_law_whole.proofs.of_graph.ReachLemmas.{fit_file}
use Rattle.bdb_law_homes.specs.Led.{SoundFilesAreOwned}

pub sound_files_are_owned : SoundFilesAreOwned
sound_files_are_owned image forest kind =
    let sound : IsSoundGraph (file_of image) = sound_graph image forest.linked in
    record {
      references = sound.references;
      alone = λ p q r low held target other.
          first_names (file_of image) p q sound low (record { reference = r; held = held; target = target; other = other });
      kind = kind;
      there = (fit_file image (head_of image) forest.formed sound.references).there;
      past = λ p high. past_last image p high;
    }
