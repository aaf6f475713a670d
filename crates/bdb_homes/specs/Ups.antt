-- What is kept of the claims of pages.
use Rattle.std.specs.Prelude.{◌≡◌, ℕ, ◌<◌, if◌then◌else◌, Bool, true, false, List, length, get_or, Option, Some, None}
use Rattle.bdb_survey.specs.of_format.Terms.{File, is_meta, page_at}
use Rattle.bdb_homes.specs.Claims.{Claim, claim_of, first_claim}
use Rattle.bdb_homes.specs.declared.up.Up.{Up}
use Rattle.bdb_homes.specs.declared.up.Up.TheVariants.{Nowhere, Metadata, Holder}

abbrev pub is_claimed : Up → Bool
is_claimed Nowhere = false
is_claimed (Metadata page) = true
is_claimed (Holder page before) = true

-- what is kept of a claim
abbrev pub up_by : File → Claim → Up
up_by file claim = if is_meta (page_at file claim.holder) then Metadata claim.holder else Holder claim.holder claim.below.before

abbrev pub up_of : File → Option Claim → Up
up_of file None = Nowhere
up_of file (Some claim) = up_by file claim

-- of each page the first of these claims is kept
pub record AreUps (file : File) (ups : List Up) (claims : List Claim) : Type 0 where
  pub each : (p : ℕ) → p < length ups → get_or ups p Nowhere ≡ up_of file (first_claim file p claims)

-- of each page of a file its claim is kept
pub record AreUpsOf (file : File) (ups : List Up) : Type 0 where
  pub len : length ups ≡ file.count
  pub each : (p : ℕ) → get_or ups p Nowhere ≡ up_of file (claim_of file p)
