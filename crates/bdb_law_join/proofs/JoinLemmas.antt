-- Joined parts have no fault of any stage but that of a master.
use Rattle.std.proofs.Common.{◌≡◌, ◌<◌, List, [], ◌∷◌, arith}
use Rattle.bdb_graph.specs.of_format.Terms.{File, faults_of, file_of, head_faults, ownership_faults, reach_faults, tail_faults}
use Rattle.bdb_graph.proofs.of_format.GraphLemmas.{each_page_has_one_role}
use Rattle.bdb_graph.proofs.of_format.VerdictLemmas.{none_in}
use Rattle.bdb_graph.proofs.of_format.FileLemmas.{count_is, last_page}
use Rattle.bdb_law_join.specs.Joining.{Joint, AreJoined, JoinsUnderMaster}
use Rattle.bdb_law_join.proofs.SourceLemmas.{references_none}
use Rattle.bdb_law_join.proofs.RoleLemmas.{role_of}
use Rattle.bdb_law_join.proofs.ReachLemmas.{reached}
use Rattle.bdb_law_join.proofs.StageLemmas.{contents_none, form_none, head_none, pages_of_file, structure_none, tail_none}
use Rattle.bdb_graph.proofs.of_format.FaultLemmas.{or_none}

-- stages 4 and 5
graph_none : (file : File) (joints : List Joint) → AreJoined file joints → file.last < file.count
    → (ownership_faults file ≡ []) × (reach_faults file ≡ [])
graph_none file joints all there =
    (each_page_has_one_role file).1 (references_none file joints all) (λ p from to.
    record { role = role_of file joints p all to; reached = reached file joints p all there to })

pub joins_under_master : JoinsUnderMaster
unfolding faults_of
joins_under_master image joints is master =
    let file : File = file_of image in
    let there : file.last < file.count = omega (arith, is.form.whole, last_page image, count_is image) in
    let graph = graph_none file joints is.joined there in
    record {
      sound =
          none_in image (1 ∷ 2 ∷ 3 ∷ 4 ∷ 5 ∷ 6 ∷ 7 ∷ 8 ∷ []) (
            or_none (head_faults image) (tail_faults image) (head_none image is.form.head) (tail_none image is.form.whole),
            (
              form_none image is.form.formed,
              (
                references_none file joints is.joined,
                (
                  graph.0,
                  (
                    graph.1,
                    (structure_none file joints is.joined, (master, (contents_none file joints is.joined (pages_of_file image), tt))),
                  ),
                ),
              ),
            ),
          );
      lists = λ j member. (is.joined.parts j member).list;
    }
