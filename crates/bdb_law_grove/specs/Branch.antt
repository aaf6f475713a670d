-- Laws of the branches of one file, as those of its groves. A branch is a grove whose chains have their lengths, and whose sets off the page have
-- leaves of their kinds and links. Source: docs/FORMAT.md, "References" and "Stage 3, references" to "Stage 6, chains and trees".
use Rattle.std.specs.Prelude.{◌≡◌, ℕ, ◌+◌, ◌≤◌, ◌==◌, ◌||◌, length, Bool, true, List, [], ◌∷◌, ◌++◌}
use Rattle.std.specs.List.{Contains, flat_map, list_any}
use Rattle.bdb_format.specs.Terms.{File}
use Rattle.bdb_law_grove.specs.Part.{HaveLengths, HaveSets, IsBranch, between}
use Rattle.bdb_law_grove.specs.Growing.{IsCounted, IsRun}
use Rattle.bdb_law_grove.specs.Standing.{StandOver, names}

-- two branches without a page in common are one, with the entrances of both
abbrev pub BranchesStandTogether : Type 0
BranchesStandTogether =
    (g : File) (one two both : ℕ → Bool) (es fs : List ℕ) → ((p : ℕ) → both p ≡ (one p || two p)) → ((p : ℕ) → one p ≡ true → two p ≡ true → ⊥)
    → IsBranch g one es → IsBranch g two fs → IsBranch g both (es ++ fs)

-- branches that follow each other are one
abbrev pub BranchesFollow : Type 0
BranchesFollow =
    (g : File) (a b c : ℕ) (es fs : List ℕ) → a ≤ b → b ≤ c → IsBranch g (between a b) es → IsBranch g (between b c) fs
    → IsBranch g (between a c) (es ++ fs)

-- no pages are a branch
abbrev pub NoBranch : Type 0
NoBranch = (g : File) (a : ℕ) → IsBranch g (between a a) []

-- a branch is known by which pages it has, and by which of them are entrances
abbrev pub BranchIsKnown : Type 0
BranchIsKnown =
    (g : File) (pages same : ℕ → Bool) (es fs : List ℕ) → ((p : ℕ) → same p ≡ pages p) → ((e : ℕ) → Contains es e → Contains fs e)
    → ((e : ℕ) → Contains fs e → Contains es e) → IsBranch g pages es → IsBranch g same fs

-- the pages of a chain are a branch
abbrev pub ChainIsBranch : Type 0
ChainIsBranch =
    (g : File) (previous p : ℕ) (pieces : List (List ℕ)) → IsCounted g → 1 ≤ p → p + length pieces ≤ g.last + 1 → IsRun g previous p pieces
    → IsBranch g (between p (p + length pieces)) (p ∷ [])

-- Pages over a branch that is entered by the pages that they name, each named once, are one with it, and are entered.
abbrev pub PagesStandOverBranch : Type 0
PagesStandOverBranch =
    (g : File) (pages : ℕ → Bool) (ps : List ℕ) → StandOver g pages ps → HaveLengths g (Contains ps) → HaveSets g (Contains ps)
    → IsBranch g pages (flat_map (names g) ps) → IsBranch g (λ q. pages q || list_any (λ p. q == p) ps) ps
