-- Homes while they are given from page to page.
use Rattle.std.specs.Prelude.{◌≡◌, ◌⊎◌, ℕ, suc, ◌+◌, ◌<◌, ◌≤◌, List, [], ◌∷◌, length, get_or, Option, Some, None}
use Rattle.bdb_survey.specs.of_format.Terms.{File}
use Rattle.bdb_homes.specs.Homes.{ahead, behind, page_after, page_before, spread}
use Rattle.bdb_homes.specs.declared.home.Home.{Home}
use Rattle.bdb_homes.specs.declared.rows.Side.{Side}
use Rattle.bdb_homes.specs.declared.rows.Side.TheVariants.{Before, After}

abbrev pub home_at : List (Option Home) → ℕ → Option Home
home_at homes p = get_or homes p None

-- how many have none
abbrev pub lacks : List (Option Home) → ℕ
lacks [] = 0
lacks (None ∷ homes) = suc (lacks homes)
lacks (Some home ∷ homes) = lacks homes

-- the page on a side of a page
abbrev pub side_of : Side → File → ℕ → Option ℕ
side_of Before file p = page_before file p
side_of After file p = page_after file p

abbrev pub opposite : Side → Side
opposite Before = After
opposite After = Before

-- the home of a page by that of the page on a side
abbrev pub moved_by : Side → File → ℕ → ℕ → Home → Option Home
moved_by Before file p q home = behind file q home
moved_by After file p q home = ahead file p home

-- The homes so far: those that were had, and those that follow; what follows from the others has been given, but for the next pages.
pub record IsSpreading (had : ℕ → Option Home) (side : ℕ → Option ℕ) (moved : ℕ → ℕ → Home → Option Home) (homes : List (Option Home)) (next : ℕ → Type 0)
    (n : ℕ) : Type 0 where
  pub len : length homes ≡ n
  pub stays : (p : ℕ) (h : Home) → p < n → had p ≡ Some h → home_at homes p ≡ Some h
  pub found : (p : ℕ) (h : Home) → home_at homes p ≡ Some h → (k : ℕ) × (k + lacks homes ≤ n) × (spread had side moved k p ≡ Some h)
  pub passed : (p q : ℕ) (g h : Home) → home_at homes p ≡ Some g → q < n → side q ≡ Some p → moved q p g ≡ Some h
      → ((x : Home) × (home_at homes q ≡ Some x)) ⊎ next p
