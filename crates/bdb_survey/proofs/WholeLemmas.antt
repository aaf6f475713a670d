-- A row is whole where it has a length.
use Rattle.std.proofs.Common.{◌≡◌, ℕ, Bool, true, false, cond, length, refl, ◌∙◌, ap, ◌==◌, ◌&&◌, Some, None}
use Rattle.std.proofs.lemmas.Bool.{and_parts}
use Rattle.bdb_law_sums.specs.of_format.Terms.{File, Page, chain, joined, pieces_of}
use Rattle.bdb_survey.specs.declared.links.Extent.{Extent}
use Rattle.bdb_survey.specs.Links.{extent_of}
use Rattle.bdb_survey.specs.Salvage.{is_overflow, is_row, is_whole}

none_case : (b : Bool) (n : Extent) → cond b (Some n) None ≡ None → b ≡ false
none_case true n none = absurd cc
none_case false n none = refl

some_case : (b : Bool) (n m : Extent) → cond b (Some n) None ≡ Some m → (b ≡ true) × (n ≡ m)
some_case true n m some = (refl, cc)
some_case false n m some = absurd cc

-- how much the row has that begins here
abbrev extent : File → ℕ → Extent
extent file head = record { length = length (joined (pieces_of file head)); pages = length (chain file head) }

pub no_row : (file : File) (test : Page → Bool) (head : ℕ) → extent_of file test head ≡ None → is_row file test head ≡ false
unfolding extent_of
no_row file test head none = none_case (is_row file test head) (extent file head) none

pub some_row : (file : File) (test : Page → Bool) (head : ℕ) (n : Extent) → extent_of file test head ≡ Some n → is_row file test head ≡ true
unfolding extent_of
some_row file test head n some = (some_case (is_row file test head) (extent file head) n some).0

row_long : (file : File) (test : Page → Bool) (head : ℕ) (n : Extent) → extent_of file test head ≡ Some n → length (joined (pieces_of file head)) ≡ n.length
unfolding extent_of
row_long file test head n some = ap (λ (e : Extent). e.length) (some_case (is_row file test head) (extent file head) n some).1

pub not_whole : (file : File) (head total : ℕ) → extent_of file is_overflow head ≡ None → is_whole file head total ≡ false
unfolding is_whole
not_whole file head total none = ap (λ b. b && length (joined (pieces_of file head)) == total) (no_row file is_overflow head none)

pub whole_by : (file : File) (head total : ℕ) (n : Extent) → extent_of file is_overflow head ≡ Some n → is_whole file head total ≡ (n.length == total)
unfolding is_whole
whole_by file head total n some =
    ap (λ b. b && length (joined (pieces_of file head)) == total) (some_row file is_overflow head n some)
    ∙ ap (λ m. m == total) (row_long file is_overflow head n some)

-- a whole chain is a whole row
pub whole_row : (file : File) (head total : ℕ) → is_whole file head total ≡ true → is_row file is_overflow head ≡ true
unfolding is_whole
whole_row file head total whole = (and_parts _ _ whole).0
