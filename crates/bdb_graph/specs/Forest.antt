-- The way from a page up by first owners, and ways down by references. Source: docs/FORMAT.md, "Stage 4, ownership" and "Stage 5, reach".
use Rattle.std.specs.Prelude.{◌≡◌, ◌≢◌, ℕ, ◌≤◌, ◌||◌, Bool, false, IsTrue, List, [], ◌∷◌, length, Some}
use Rattle.std.specs.List.{Contains}
use Rattle.bdb_image.specs.of_format.declared.references.Reference.{Reference}
use Rattle.bdb_image.specs.of_format.Terms.{File, faults_in, file_of, first_holder, is_anchor, is_head_reference, is_reserve, leaves_in, owners, refs}
use Rattle.bdb_image.specs.Linked.{IsForest}

abbrev pub NotIn : ℕ → List ℕ → Type 0
NotIn x [] = Unit {0}
NotIn x (y ∷ ys) = (x ≢ y) × NotIn x ys

abbrev pub AllDistinct : List ℕ → Type 0
AllDistinct [] = Unit {0}
AllDistinct (x ∷ xs) = NotIn x xs × AllDistinct xs

-- where a way up ends
abbrev pub is_top : File → ℕ → Bool
is_top file p = is_anchor file p || is_reserve file p

-- each of these pages holds the first reference to the one before it, and the last is an anchor or a reserve
abbrev pub IsWayUp : File → ℕ → List ℕ → Type 0
IsWayUp file p [] = IsTrue (is_top file p)
IsWayUp file p (h ∷ hs) = (first_holder (owners file p) ≡ Some h) × IsWayUp file h hs

-- a page has a way up, no longer than there are pages, with no page twice
pub record LeadsUp (file : File) (p : ℕ) : Type 0 where
  pub holders : List ℕ
  pub way : IsWayUp file p holders
  pub few : length holders ≤ file.count
  pub distinct : AllDistinct (p ∷ holders)

-- a page names another, other than as the head of a chain
pub record Names (file : File) (p q : ℕ) : Type 0 where
  pub reference : Reference
  pub held : Contains (refs file p) reference
  pub target : reference.target ≡ q
  pub other : is_head_reference reference.sort ≡ false

-- each of these pages is named by the one before it
abbrev pub IsWayDown : File → ℕ → List ℕ → Type 0
IsWayDown file p [] = Unit {0}
IsWayDown file p (q ∷ qs) = Names file p q × IsWayDown file q qs

abbrev pub EachPageLeadsUp : Type 0
EachPageLeadsUp = (image : List ℕ) (p : ℕ) → faults_in (3 ∷ 4 ∷ 5 ∷ []) image ≡ [] → 1 ≤ p → p ≤ (file_of image).last → LeadsUp (file_of image) p

abbrev pub NoPageTwiceBelow : Type 0
NoPageTwiceBelow =
    (image : List ℕ) (p : ℕ) (qs : List ℕ) → faults_in (3 ∷ 4 ∷ 5 ∷ []) image ≡ [] → p ≤ (file_of image).last → IsWayDown (file_of image) p qs
    → AllDistinct (p ∷ qs)

-- the leaves at or below a page, in any number of levels, have none twice
abbrev pub NoLeafTwice : Type 0
NoLeafTwice = (image : List ℕ) (levels p : ℕ) → IsForest image → p ≤ (file_of image).last → AllDistinct (leaves_in levels (file_of image) p)
