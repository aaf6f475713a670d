-- What the test of a descent says of an item: an inline key is above the sought one.
use Rattle.std.specs.Prelude.{ℕ, ◌<◌, Bool, false, List}
use Rattle.bdb_format.specs.Terms.{Content, File, Inline, Internal, InternalItem, Page, less, page_at}
use Rattle.test_images.specs.of_tree.Descent.{IsMonotone}

abbrev pub is_above : List ℕ → Content → Bool
is_above key (Inline bytes) = less key bytes
is_above key content = false

-- a key can be sought by halves on an internal page
abbrev pub IsFit : List ℕ → Page → Type 0
IsFit key (Internal page) = IsMonotone (λ (item : InternalItem). is_above key item.key) page.items
IsFit key page = Unit {0}

abbrev pub AllFit : List ℕ → File → ℕ → Type 0
AllFit key file n = (p : ℕ) → p < n → IsFit key (page_at file p)
