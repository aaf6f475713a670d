use Rattle.std.proofs.Common.{◌≡◌, ◌<◌, ℕ, get_or, length}
use Rattle.bdb_survey.specs.of_format.Terms.{page_at}
use Rattle.bdb_homes.specs.Faces.{face_of, no_face}
use Rattle.bdb_homes.proofs.faces.faces_of.Given as goal

-- The faces of the pages below this one are kept.
pub record AreSeen (same : Type 0) (seen : Type 0) : Type 0 where
  pub len : same
  pub each : seen

abbrev pub invariant-loop-page : goal.invariant-loop-page
invariant-loop-page l =
    AreSeen (length l.faces.items ≡ l.page) ((p : ℕ) → p < l.page → get_or l.faces.items p no_face ≡ face_of (page_at l.pages p))
