use Rattle.std.proofs.Common.{◌∙◌, List, ℕ, subst, sym}
use Rattle.bdb_faults.specs.Notes.{Notes, NotesAll}
use Rattle.bdb_ranks.specs.of_format.declared.rows.ContentsRow.TheVariants.{Separator}
use Rattle.bdb_ranks.specs.of_format.Terms.{file_of, has_wrong_separator, inner_pages, page_at, tree_pairs}
use Rattle.bdb_btree.specs.Bounds.{OrderedIf}
use Rattle.bdb_btree.specs.Counts.{IsKeyed}
use Rattle.bdb_btree.specs.Noted.{faults_at}
use Rattle.bdb_btree.specs.Rows.{no_pairs_passed, pairs_faults}
use Rattle.bdb_btree.specs.declared.pair_rows.Rules.{Rules}
use Rattle.bdb_btree.proofs.CheckLemmas.{all_noted}
use Rattle.bdb_btree.proofs.RootLemmas.{root_keyed}
use Rattle.bdb_btree.proofs.contents.note_forest.Goals as goal

pub note_separators-requires-clause-keyed : goal.note_separators-requires-clause-keyed
note_separators-requires-clause-keyed g c =
    subst (λ (image : List ℕ). IsKeyed (file_of image) c.args.meta.now.root) (sym (c.note_pairs.ensures.same ∙ c.requires.known))
    (root_keyed c.args.forest.now c.args.meta.now c.requires.forest c.requires.meta c.requires.keyed)

pub note_separators-requires-clause-order : goal.note_separators-requires-clause-order
note_separators-requires-clause-order g c =
    subst (λ (image : List ℕ). OrderedIf c.in_ok-ordered.ordered (file_of image) c.args.meta.now.root) (sym c.note_pairs.ensures.same)
    c.in_ok-ordered.ensures.order

-- The rows that were noted one after another are those of the contents.
pub returns-clause-noted : goal.returns-clause-noted
returns-clause-noted g c =
    let rules : Rules = record { duplicates = c.has_duplicates.result; sorted = c.is_sorted.result } in
    all_noted c.args.forest.now rules c.args.meta.now c.counts_records.result (g.F.FaultSink.has_noted c.args.found.now)
    (g.F.FaultSink.has_noted c.note_pairs.new.found) (g.F.FaultSink.has_noted c.note_separators.new.found)
    (g.F.FaultSink.has_noted c.note_counted.new.found) c.requires.forest c.requires.root
    (root_keyed c.args.forest.now c.args.meta.now c.requires.forest c.requires.meta c.requires.keyed) c.requires.keyed c.has_duplicates.ensures
    c.is_sorted.ensures c.counts_records.ensures
    (subst (λ (image : List ℕ). Notes (g.F.FaultSink.has_noted c.args.found.now) (g.F.FaultSink.has_noted c.note_pairs.new.found)
    (pairs_faults (file_of image) rules no_pairs_passed (tree_pairs (file_of image) c.args.meta.now.root))) c.requires.known
    c.in_ok-ordered.ensures.noted)
    (subst (λ (image : List ℕ). NotesAll (g.F.FaultSink.has_noted c.note_pairs.new.found) (g.F.FaultSink.has_noted c.note_separators.new.found)
    (faults_at Separator (λ p. has_wrong_separator (file_of image) (page_at (file_of image) p)) (inner_pages (file_of image) c.args.meta.now.root)))
    (c.note_pairs.ensures.same ∙ c.requires.known) c.in_ok-note_separators.ensures.noted)
    c.in_ok-note_counted.ensures
