-- Which database a page of a damaged file belongs to, and how many records come before it there. Source: docs/FORMAT.md, "Salvage".
use Rattle.std.specs.Prelude.{ℕ, zero, suc, ◌+◌, ◌-◌, ◌^◌, nat_le, nat_lt, ◌==◌, ◌&&◌, not, if◌then◌else◌, Bool, true, false, length, Option, Some, None}
use Rattle.std.specs.Option.{option_map, option_and_then}
use Rattle.bdb_survey.specs.of_format.Terms.{File, Hash, Leaf, Page, RecnoLeaf, header_in, is_meta, next_of, page_at}
use Rattle.bdb_homes.specs.Claims.{Claim, claim_of}
use Rattle.bdb_homes.specs.declared.face.Row.{Row}
use Rattle.bdb_homes.specs.declared.face.Row.TheVariants.{Alone, Bucket, Pairs, Records}
use Rattle.bdb_homes.specs.declared.home.Home.{Home}

-- By claims, from holder to holder up to metadata.

abbrev pub later : ℕ → Home → Home
later n home = record { meta = home.meta; start = n + home.start }

-- the home by a claim: its holder, where that is metadata, or else the holder's own, with the records that the holder counts before
abbrev pub by_claim : File → (ℕ → Option Home) → Option Claim → Option Home
by_claim file above None = None
by_claim file above (Some claim) =
    if is_meta (page_at file claim.holder) then Some (record { meta = claim.holder; start = 0 })
    else option_map (later claim.below.before) (above claim.holder)

unfoldable pub claimed_in : ℕ → File → ℕ → Option Home
claimed_in zero file p = None
claimed_in (suc turns) file p = by_claim file (claimed_in turns file) (claim_of file p)

-- a page doesn't come after more records than have numbers
abbrev pub numbered : Home → Option Home
numbered home = if nat_lt home.start (2 ^ 32) then Some home else None

-- the home that a page has by claims; a level is a byte, and rises by one from claim to claim
unfoldable pub own_home : File → ℕ → Option Home
own_home file p = option_and_then numbered (claimed_in 255 file p)

-- By neighbours.

-- pages of one kind that stand in rows: of buckets, leaves of pairs, leaves of records
abbrev pub row_of : Page → Row
row_of (Hash page) = Bucket
row_of (Leaf page) = Pairs
row_of (RecnoLeaf page) = Records
row_of page = Alone

abbrev pub is_same : Row → Row → Bool
is_same Alone other = false
is_same Bucket Bucket = true
is_same Pairs Pairs = true
is_same Records Records = true
is_same row other = false

abbrev pub is_alike : Page → Page → Bool
is_alike page other = is_same (row_of page) (row_of other)

abbrev pub previous_of : File → ℕ → ℕ
previous_of file p = (header_in (page_at file p)).previous

-- a page stands right before another: they are alike, each names the other, and neither is page 0
abbrev pub adjoins : File → ℕ → ℕ → Bool
adjoins file p q =
    not (p == 0) && not (q == 0) && is_alike (page_at file p) (page_at file q) && next_of file p == q && previous_of file q == p

-- the page right before a page, and the one right after it
abbrev pub page_before : File → ℕ → Option ℕ
page_before file p = if adjoins file (previous_of file p) p then Some (previous_of file p) else None

abbrev pub page_after : File → ℕ → Option ℕ
page_after file p = if adjoins file p (next_of file p) then Some (next_of file p) else None

-- the records of a page
abbrev pub records_on : Page → ℕ
records_on (RecnoLeaf page) = length page.items
records_on page = 0

-- the home of a page behind another with this home, and of a page before another, where so many records come before that one
abbrev pub behind : File → ℕ → Home → Option Home
behind file other home = numbered (later (records_on (page_at file other)) home)

abbrev pub ahead : File → ℕ → Home → Option Home
ahead file p home =
    let records : ℕ = records_on (page_at file p) in
    if nat_le records home.start then Some (record { meta = home.meta; start = home.start - records }) else None

abbrev pub or_else : Option Home → Option Home → Option Home
or_else None other = other
or_else (Some home) other = Some home

-- the home of a page as it follows from that of the page beside it
abbrev pub from_side : (ℕ → ℕ → Home → Option Home) → (ℕ → Option Home) → ℕ → Option ℕ → Option Home
from_side moved homes p None = None
from_side moved homes p (Some q) = option_and_then (moved p q) (homes q)

-- the home that a page has, or else the one that it gets from the nearest page on a side that has one, in so many turns
unfoldable pub spread : (ℕ → Option Home) → (ℕ → Option ℕ) → (ℕ → ℕ → Home → Option Home) → ℕ → ℕ → Option Home
spread had side moved zero p = had p
spread had side moved (suc turns) p = or_else (had p) (from_side moved (spread had side moved turns) p (side p))

-- with those that pages get from before, and then from after
unfoldable pub led : File → ℕ → Option Home
led file p = spread (own_home file) (page_before file) (λ p q. behind file q) file.count p

-- the home of a page
unfoldable pub home : File → ℕ → Option Home
home file p = spread (led file) (page_after file) (λ p q. ahead file p) file.count p
