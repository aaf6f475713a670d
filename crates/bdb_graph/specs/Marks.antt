-- What is known of the pages on the way up, while each is looked at. Source: docs/FORMAT.md, "Stage 5, reach".
use Rattle.std.specs.Prelude.{◌≡◌, ◌⊎◌, ℕ, zero, suc, ◌+◌, ◌<◌, ◌≤◌, Bool, List, [], get_or, length, Some}
use Rattle.bdb_graph.specs.declared.reach.Mark.{Mark}
use Rattle.bdb_graph.specs.declared.reach.Mark.TheVariants.{Open, Way, Known}
use Rattle.bdb_image.specs.of_format.Terms.{File, first_holder, owners, reaches, reference_faults}

-- each reference fits, and the pages up to the last are there
pub record IsFit (file : File) : Type 0 where
  pub references : reference_faults file ≡ []
  pub there : file.last < file.count

abbrev pub mark_at : List Mark → ℕ → Mark
mark_at marks p = get_or marks p Open

-- the holder of the first reference to page p is page h
abbrev pub IsHeldBy : File → ℕ → ℕ → Type 0
IsHeldBy file p h = first_holder (owners file p) ≡ Some h

-- page q stands so many holders above page p
abbrev pub IsUp : File → ℕ → ℕ → ℕ → Type 0
IsUp file zero p q = p ≡ q
IsUp file (suc k) p q = (h : ℕ) × IsHeldBy file p h × IsUp file k h q

abbrev pub IsAbove : File → ℕ → ℕ → Type 0
IsAbove file p q = (k : ℕ) × IsUp file k p q

-- it's known of a page whether it reaches
abbrev pub IsKnown : Mark → Type 0
IsKnown (Known reached) = Unit {0}
IsKnown mark = ⊥

-- The marks are right: the pages on the way that is open are these, what is known of a page is so, and it's known of all
-- pages above one of which it is, but for these.
pub record AreMarks (on next : ℕ → Type 0) (file : File) (marks : List Mark) : Type 0 where
  pub way : (q : ℕ) → mark_at marks q ≡ Way → on q
  pub found : (q : ℕ) (reached : Bool) → mark_at marks q ≡ Known reached → reaches file q ≡ reached
  pub closed : (q h : ℕ) → IsKnown (mark_at marks q) → IsHeldBy file q h → IsKnown (mark_at marks h) ⊎ next h

-- no way is open
abbrev pub AreSettled : File → List Mark → Type 0
AreSettled file marks = AreMarks (λ q. ⊥) (λ h. ⊥) file marks

-- a page of a file whose references fit, and a mark for each page, where no way is open
pub record IsOnMarks (file : File) (marks : List Mark) (p : ℕ) : Type 0 where
  pub page : p ≤ file.last
  pub fit : IsFit file
  pub len : length marks ≡ file.last + 1
  pub settled : AreSettled file marks

-- the way up from a page is open
abbrev pub HasWay : ℕ → File → List Mark → Type 0
HasWay from file marks = AreMarks (IsAbove file from) (λ h. ⊥) file marks
