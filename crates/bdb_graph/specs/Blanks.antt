-- Pages of chains without data, and the pages that come after them. Source: docs/FORMAT.md, "Other pages".
use Rattle.std.specs.Prelude.{◌≡◌, ℕ, zero, suc, ◌≤◌, List, [], get_or, Option, Some, None}
use Rattle.bdb_image.specs.of_format.Terms.{File, file_of, next_of, page_at, piece_in}
use Rattle.bdb_graph.specs.declared.tally.Kinds.{Kinds}
use Rattle.bdb_graph.specs.Walked.{IsWalked}

-- a page from 1 on that has no data of a chain
pub record IsBlank (file : File) (p : ℕ) : Type 0 where
  pub low : 1 ≤ p
  pub high : p ≤ file.last
  pub none : piece_in (page_at file p) ≡ []

-- after this many pages of a chain, none of which has data, comes page q, or the end, for which 0 stands
abbrev pub ComesAfter : ℕ → File → ℕ → ℕ → Type 0
ComesAfter zero file p q = p ≡ q
ComesAfter (suc n) file p q = IsBlank file p × ComesAfter n file (next_of file p) q

-- one page comes after another, or is the same
pub record IsAfter (file : File) (p q : ℕ) : Type 0 where
  pub blanks : ℕ
  pub comes : ComesAfter blanks file p q

-- the page for which this one stands: itself, unless another is kept
abbrev pub page_past : List ℕ → ℕ → ℕ
page_past nexts p = get_or nexts p p

-- each page stands for one that comes after pages without data
pub record ArePassed (file : File) (nexts : List ℕ) : Type 0 where
  pub each : (p : ℕ) → IsAfter file p (page_past nexts p)

-- the same, where pages are passed over
abbrev pub ArePassedIfAny : File → Option (List ℕ) → Type 0
ArePassedIfAny file None = Unit {0}
ArePassedIfAny file (Some nexts) = ArePassed file nexts

-- what handles to the pages of an image keep: what its references name, and which pages are passed over
pub record IsLent (image : List ℕ) (kinds : Kinds) (blanks : Option (List ℕ)) : Type 0 where
  pub walked : IsWalked image kinds
  pub passed : ArePassedIfAny (file_of image) blanks
