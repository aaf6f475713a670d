-- The way down to the first leaf of a set, by what begins at each page.
use Rattle.std.proofs.Common.{◌≡◌, ℕ, ◌+◌, ◌<◌, ◌≤◌, Bool, true, false, cond, [], ◌∷◌, refl, sym, ◌∙◌, ap, subst, inl, inr, ◌⊎◌, Option, Some, None}
use Rattle.bdb_law_sums.specs.of_format.Terms.{DupLeaf, File, Free, Hash, Internal, Leaf, Meta, NoType, Overflow, Page, Queue, RecnoInternal, RecnoLeaf, Zero}
use Rattle.bdb_law_sums.specs.of_format.Terms.{children_in, page_at}
use Rattle.bdb_survey.specs.declared.down.Way.{Way}
use Rattle.bdb_survey.specs.declared.down.Way.TheVariants.{Ends, Child, Broken}
use Rattle.bdb_survey.specs.declared.links.Extent.{Extent}
use Rattle.bdb_survey.specs.declared.survey.Row.{Row}
use Rattle.bdb_survey.specs.declared.survey.Row.TheVariants.{Nothing, Chain as ChainRow, Leaves, Way as WayRow}
use Rattle.bdb_survey.specs.Rows.{chain_row, is_leaf_row, leaf_row, row_at, row_by, way_row}
use Rattle.bdb_survey.specs.Links.{extent_of}
use Rattle.bdb_survey.specs.Ways.{way_by, way_from}
use Rattle.bdb_survey.specs.Salvage.{fits_below, is_overflow, is_record_leaf, is_sorted_leaf, row_from, set_start}
use Rattle.bdb_survey.proofs.SurveyLemmas.{leaves_whole}
use Rattle.bdb_survey.proofs.WayLemmas.{IsOnWay, at_broken, at_child, at_end, at_ends, at_zero, at_root}

-- the way down goes on
abbrev pub is_way : Row → Bool
is_way Nothing = false
is_way (ChainRow n m) = false
is_way Leaves = false
is_way (WayRow child) = true

-- the row of a page, which is an internal one or where the way down ends
record EndsHere (file : File) (p : ℕ) (row : Row) : Type 0 where
  ends : way_from file p ≡ Ends
  other : is_way row ≡ false

ends_here : (file : File) (p : ℕ) (page : Page) (row : Row) → page_at file p ≡ page → children_in page ≡ None → is_way row ≡ false → EndsHere file p row
ends_here file p page row is none other = record {
  ends = ap (λ pg. way_by (fits_below file p) (children_in pg)) is ∙ ap (way_by (fits_below file p)) none;
  other = other;
}

no_way_on : (found : Option Extent) → is_way (chain_row found) ≡ false
no_way_on None = refl
no_way_on (Some n) = refl

no_way_along : (found : Option Extent) → is_way (leaf_row found) ≡ false
no_way_along None = refl
no_way_along (Some n) = refl

by_page : (file : File) (p : ℕ) (page : Page) → page_at file p ≡ page → (row_by file p page ≡ way_row (way_from file p)) ⊎ EndsHere file p (row_by file p page)
by_page file p Zero is = inr (ends_here file p Zero Nothing is refl refl)
by_page file p (Free header) is = inr (ends_here file p (Free header) Nothing is refl refl)
by_page file p (Meta fields) is = inr (ends_here file p (Meta fields) Nothing is refl refl)
by_page file p (Hash page) is = inr (ends_here file p (Hash page) Nothing is refl refl)
by_page file p (Internal page) is = inl refl
by_page file p (RecnoInternal page) is = inl refl
by_page file p (Leaf page) is = inr (ends_here file p (Leaf page) Nothing is refl refl)
by_page file p (RecnoLeaf page) is = inr (ends_here file p (RecnoLeaf page) (leaf_row (extent_of file is_record_leaf p)) is refl
    (no_way_along (extent_of file is_record_leaf p)))
by_page file p (DupLeaf page) is = inr (ends_here file p (DupLeaf page) (leaf_row (extent_of file is_sorted_leaf p)) is refl
    (no_way_along (extent_of file is_sorted_leaf p)))
by_page file p (Overflow header piece) is = inr (ends_here file p (Overflow header piece) (chain_row (extent_of file is_overflow p)) is refl
    (no_way_on (extent_of file is_overflow p)))
by_page file p (Queue number records) is = inr (ends_here file p (Queue number records) Nothing is refl refl)
by_page file p NoType is = inr (ends_here file p NoType Nothing is refl refl)

-- what a row says of the way
abbrev Says : File → ℕ → Row → Type 0
Says file p row = (row ≡ way_row (way_from file p)) ⊎ EndsHere file p row

says : (file : File) (p : ℕ) (row : Row) → row ≡ row_at file p → Says file p row
says file p row is = subst (Says file p) (sym is) (by_page file p (page_at file p) refl)

way_on : (way : Way) (child : ℕ) → WayRow child ≡ way_row way → way ≡ Child child
way_on Ends child is = absurd (let no : true ≡ false = ap is_way is in cc)
way_on (Child other) child is = let same : child ≡ other = (let eq : WayRow child ≡ WayRow other = is in cc) in ap Child (sym same)
way_on Broken child is = absurd (let no : true ≡ false = ap is_way is in cc)

no_leaves : (way : Way) → Leaves ≡ way_row way → ⊥
no_leaves Ends is = let no : true ≡ false = ap is_leaf_row is in cc
no_leaves (Child other) is = let no : true ≡ false = ap is_leaf_row is in cc
no_leaves Broken is = let no : true ≡ false = ap is_leaf_row is in cc

-- the way goes on to the child
pub at_way : (file : File) (root level page child : ℕ) (row : Row) → IsOnWay file root level page → level < 255 → row ≡ row_at file page → row ≡ WayRow child
    → IsOnWay file root (level + 1) child
at_way file root level page child row at below is on = by_row (says file page (WayRow child) (sym on ∙ is))
  where
    by_row : Says file page (WayRow child) → IsOnWay file root (level + 1) child
    by_row (inl same) = at_child file root level page child (Child child) at below (sym (way_on (way_from file page) child same)) refl
    by_row (inr ends) = absurd (let no : true ≡ false = ends.other in cc)

-- Where it ends.

pub start_of_zero : (file : File) (root : ℕ) → root ≡ 0 → set_start file root ≡ []
unfolding set_start
start_of_zero file root none = ap (row_from file) (at_zero file root none)

pub start_at_end : (file : File) (root level page : ℕ) → IsOnWay file root level page → 255 ≤ level → set_start file root ≡ []
unfolding set_start
start_at_end file root level page at past = ap (row_from file) (at_end file root level page at past)

start_by : (file : File) (root level page : ℕ) (row : Row) → IsOnWay file root level page → level < 255 → row ≡ row_at file page → way_from file page ≡ Ends
    → set_start file root ≡ cond (is_leaf_row row) (page ∷ []) []
unfolding set_start
start_by file root level page row at below is ends =
    ap (row_from file) (at_ends file root level page Ends at below (sym ends) refl)
    ∙ ap (λ b. cond b (page ∷ []) []) (leaves_whole file page row is)

pub start_at_leaves : (file : File) (root level page : ℕ) (row : Row) → IsOnWay file root level page → level < 255 → row ≡ row_at file page → row ≡ Leaves
    → set_start file root ≡ page ∷ []
start_at_leaves file root level page row at below is leaves = by_row (says file page Leaves (sym leaves ∙ is))
  where
    by_row : Says file page Leaves → set_start file root ≡ page ∷ []
    by_row (inl same) = absurd (no_leaves (way_from file page) same)
    by_row (inr ends) = start_by file root level page Leaves at below (sym leaves ∙ is) ends.ends

pub start_at_none : (file : File) (root level page : ℕ) (row : Row) → IsOnWay file root level page → level < 255 → row ≡ row_at file page
    → is_leaf_row row ≡ false → is_way row ≡ false → set_start file root ≡ []
unfolding set_start
start_at_none file root level page row at below is no_leaf no_way = by_row (says file page row is)
  where
    ended : way_from file page ≡ Ends → set_start file root ≡ []
    ended ends = start_by file root level page row at below is ends ∙ ap (λ b. cond b (page ∷ []) []) no_leaf

    by_way : (way : Way) → way ≡ way_from file page → row ≡ way_row way → set_start file root ≡ []
    by_way Ends here same = ended (sym here)
    by_way (Child child) here same = absurd (let no : true ≡ false = sym (ap is_way same) ∙ no_way in cc)
    by_way Broken here same = ap (row_from file) (at_broken file root level page Broken at below here refl)

    by_row : Says file page row → set_start file root ≡ []
    by_row (inl same) = by_way (way_from file page) refl same
    by_row (inr ends) = ended ends.ends

-- where a set starts
pub ruleset starts_of_sets = (at_root, start_of_zero, start_at_leaves, start_at_none, at_way, start_at_end)
