use Rattle.std.proofs.Common.{◌≡◌, ◌∙◌, [], ◌∷◌, List, ℕ, ◌+◌, refl, subst, sym, rules, true, false}
use Rattle.bdb_image.specs.of_faults.Notes.{NotesAll}
use Rattle.bdb_image.specs.of_format.Terms.{faults_in, file_of, reference_faults}
use Rattle.bdb_graph.specs.Owned.{AreCounts, AreFew}
use Rattle.bdb_graph.proofs.ForestLemmas.{sound_graph}
use Rattle.bdb_image.proofs.NotedLemmas.{next_stage, none_there, stage_alone, stage_there}
use Rattle.bdb_graph.proofs.OwnedLemmas.{all_owned}
use Rattle.bdb_graph.proofs.linking.note_graph.Goals as goal

-- Roles are told where each reference fits.
pub note_roles-requires-clause-fit : goal.note_roles-requires-clause-fit
note_roles-requires-clause-fit g c =
    let empty : c.is_empty.result ≡ true = search rules in
    subst (λ (image : List ℕ). reference_faults (file_of image) ≡ []) (sym (c.of-roles.ensures ∙ c.again.ensures.same))
    (none_there (g.F.FaultSink.has_noted c.args.found.now) (g.F.FaultSink.has_noted c.note_references.new.found) (reference_faults (file_of c.args.formed.now))
    c.is_empty.result c.requires.new c.in_ok-tallies.ensures.noted c.is_empty.ensures empty)

pub returns-clause-noted : goal.returns-clause-noted
returns-clause-noted g c =
    let empty : c.is_empty.result ≡ true = search rules in
    next_stage (g.F.FaultSink.has_noted c.args.found.now) (g.F.FaultSink.has_noted c.note_references.new.found) (reference_faults (file_of c.args.formed.now))
    c.is_empty.result c.requires.new c.in_ok-tallies.ensures.noted c.is_empty.ensures (g.F.FaultSink.has_noted c.note_roles.new.found)
    c.args.formed.now 3 (4 ∷ 5 ∷ []) refl empty
    (subst (λ (image : List ℕ). NotesAll (g.F.FaultSink.has_noted c.note_references.new.found) (g.F.FaultSink.has_noted c.note_roles.new.found)
    (faults_in (4 ∷ 5 ∷ []) image)) (c.of-roles.ensures ∙ c.again.ensures.same) c.in_ok-note_roles.ensures.noted)

-- Where no row of ownership holds, the counts are exact.
pub returns-clause-owned : goal.returns-clause-owned
returns-clause-owned g c none =
    let same : c.of-roles.result ≡ c.args.formed.now = c.of-roles.ensures ∙ c.again.ensures.same in
    all_owned (file_of c.args.formed.now) c.in_ok-owned.owned.items (sound_graph c.args.formed.now none).ownership
    (subst (λ (image : List ℕ). AreFew (file_of image) ((file_of image).last + 1)) same c.in_ok-note_roles.ensures.few)
    (subst (λ (image : List ℕ). AreCounts (file_of image) c.in_ok-owned.owned.items) same c.in_ok-owned.ensures)

pub returns-then-not-is_empty-clause-noted : goal.returns-then-not-is_empty-clause-noted
returns-then-not-is_empty-clause-noted g c =
    let some : c.is_empty.result ≡ false = search rules in
    stage_alone (g.F.FaultSink.has_noted c.args.found.now) (g.F.FaultSink.has_noted c.note_references.new.found) (reference_faults (file_of c.args.formed.now))
    c.is_empty.result c.requires.new c.in_ok-tallies.ensures.noted c.is_empty.ensures c.args.formed.now 3 (4 ∷ 5 ∷ []) refl some

-- There are faults.
pub returns-then-not-is_empty-clause-walked : goal.returns-then-not-is_empty-clause-walked
returns-then-not-is_empty-clause-walked g c none =
    let some : c.is_empty.result ≡ false = search rules in
    absurd
    (stage_there (g.F.FaultSink.has_noted c.args.found.now) (g.F.FaultSink.has_noted c.note_references.new.found) (reference_faults (file_of c.args.formed.now))
    c.is_empty.result c.requires.new c.in_ok-tallies.ensures.noted c.is_empty.ensures c.args.formed.now 3 (4 ∷ 5 ∷ []) refl some none)

pub returns-then-not-is_empty-clause-owned : goal.returns-then-not-is_empty-clause-owned
returns-then-not-is_empty-clause-owned g c none =
    let some : c.is_empty.result ≡ false = search rules in
    absurd
    (stage_there (g.F.FaultSink.has_noted c.args.found.now) (g.F.FaultSink.has_noted c.note_references.new.found) (reference_faults (file_of c.args.formed.now))
    c.is_empty.result c.requires.new c.in_ok-tallies.ensures.noted c.is_empty.ensures c.args.formed.now 3 (4 ∷ 5 ∷ []) refl some none)
