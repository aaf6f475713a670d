-- Which page leads to which in a damaged file: the pages that a page names below it, and the first that names each. Source: docs/FORMAT.md, "Salvage".
use Rattle.std.specs.Prelude.{ℕ, ◌+◌, ◌==◌, ◌&&◌, if◌then◌else◌, Bool, List, [], ◌∷◌, map, Option, Some, None, is_none}
use Rattle.std.specs.List.{flat_map, range_with_len}
use Rattle.bdb_survey.specs.of_format.declared.pages.RecnoItem.{RecnoItem}
use Rattle.bdb_survey.specs.of_format.declared.references.Sort.{Sort}
use Rattle.bdb_survey.specs.of_format.declared.references.Sort.TheVariants.{Root, Bucket, Child}
use Rattle.bdb_survey.specs.of_format.Terms.{BtreeFields, File, HashFields, Internal, InternalItem, Meta, Page, RecnoInternal, first_page, fit_code, page_at}

-- a page that another names below it, and how many records that one counts before it
pub record Below : Type 0 where
  pub sort : Sort
  pub page : ℕ
  pub before : ℕ

-- children with the records before them
abbrev pub counted : ℕ → List RecnoItem → List Below
counted before [] = []
counted before (item ∷ items) = record { sort = Child; page = item.child; before = before } ∷ counted (before + item.count) items

-- the pages that a page names below it: the root of a tree, the buckets of a table, children
abbrev pub below_in : Page → List Below
below_in (Meta (BtreeFields meta)) = record { sort = Root; page = meta.root; before = 0 } ∷ []
below_in (Meta (HashFields meta)) =
    map (λ b. record { sort = Bucket; page = first_page b meta.spares; before = 0 }) (range_with_len 0 (meta.max_bucket + 1))
below_in (Internal page) = map (λ (item : InternalItem). record { sort = Child; page = item.child; before = 0 }) page.items
below_in (RecnoInternal page) = counted 0 page.items
below_in page = []

-- a page that names another below it
pub record Claim : Type 0 where
  pub holder : ℕ
  pub below : Below

abbrev pub claim : ℕ → Below → Claim
claim holder below = record { holder = holder; below = below }

-- the one that is named has the type, the level and the previous page that the reference asks
abbrev pub is_fit : File → Claim → Bool
is_fit file claim = is_none (fit_code file claim.holder (record { place = 0; sort = claim.below.sort; target = claim.below.page }))

-- a page claims this one
abbrev pub is_claim : File → ℕ → Claim → Bool
is_claim file p claim = claim.below.page == p && is_fit file claim

-- all that pages name below them, page by page
unfoldable pub all_claims : File → List Claim
all_claims file = flat_map (λ h. map (claim h) (below_in (page_at file h))) (range_with_len 0 file.count)

-- the first of these that claims a page
abbrev pub first_claim : File → ℕ → List Claim → Option Claim
first_claim file p [] = None
first_claim file p (claim ∷ claims) = if is_claim file p claim then Some claim else first_claim file p claims

-- the claim of a page: the first one that fits
unfoldable pub claim_of : File → ℕ → Option Claim
claim_of file p = first_claim file p (all_claims file)
