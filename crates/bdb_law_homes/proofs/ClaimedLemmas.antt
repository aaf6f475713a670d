-- Homes by claims, in so many turns and in more; and the leaves of a tree, level by level.
use Rattle.std.proofs.Common.{◌≡◌, ℕ, zero, suc, ◌≤◌, ◌<◌, ◌^◌, true, [], ◌∷◌, ap, ◌∙◌, arith, refl}
use Rattle.std.specs.Prelude.{nat_lt, Some, option_and_then}
use Rattle.bdb_law_whole.specs.of_format.Terms.{File, children_in, leaves_in, leaves_under, page_at}
use Rattle.bdb_homes.specs.Homes.{claimed_in, numbered, own_home}
use Rattle.bdb_homes.specs.declared.home.Home.{Home}

-- a page has this home by claims, in so many turns and in more
abbrev pub IsClaimed : File → ℕ → ℕ → ℕ → ℕ → Type 0
IsClaimed file k h meta s = (turns : ℕ) → k ≤ turns → claimed_in turns file h ≡ Some (record { meta = meta; start = s })

pub record IsStart (file : File) (meta p s : ℕ) : Type 0 where
  pub turns : ℕ
  pub few : turns ≤ 255
  pub claimed : IsClaimed file turns p meta s

low_start : (h : Home) → h.start < 2 ^ 32 → numbered h ≡ Some h
low_start h low = let is : nat_lt h.start (2 ^ 32) ≡ true = grind (arith, low) in rw is refl

pub own_start : (file : File) (meta p s : ℕ) → IsStart file meta p s → s < 2 ^ 32 → own_home file p ≡ Some (record { meta = meta; start = s })
unfolding own_home
own_start file meta p s is low =
    ap (option_and_then numbered) (is.claimed 255 is.few) ∙ low_start (record { meta = meta; start = s }) low

pub turn : (n : ℕ) (file : File) (h : ℕ) → leaves_in (suc n) file h ≡ leaves_under (leaves_in n file) h (children_in (page_at file h))
unfolding leaves_in
turn n file h = refl

pub no_turn : (file : File) (h : ℕ) → leaves_in zero file h ≡ h ∷ []
unfolding leaves_in
no_turn file h = refl
