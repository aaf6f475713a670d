-- The pages of a bucket behind its first.
use Rattle.std.proofs.Common.{◌≡◌, ℕ, zero, suc, ◌+◌, ◌^◌, true, ap, ◌∙◌, arith, refl, sym, subst, nat_lt, Option, Some, None, option_and_then}
use Rattle.bdb_law_whole.specs.of_format.Terms.{File, Hash, Item, Listed, first_holder, owners, page_at}
use Rattle.bdb_law_whole.proofs.of_format.MemberLemmas.{no_member}
use Rattle.bdb_homes.specs.Claims.{Claim, below_in, claim_of}
use Rattle.bdb_homes.specs.Homes.{adjoins, behind, by_claim, claimed_in, from_side, later, numbered, or_else, own_home, page_before, previous_of, records_on}
use Rattle.bdb_homes.specs.Homes.{spread}
use Rattle.bdb_homes.specs.declared.home.Home.{Home}
use Rattle.bdb_homes.proofs.RowLemmas.{adjoin_parts}
use Rattle.bdb_law_homes.specs.Led.{IsOwned, NextIsLed}
use Rattle.bdb_law_homes.proofs.LedLemmas.{claim_is, claim_owner}
use Rattle.bdb_homes.proofs.RowLemmas.{pick}

before_is : (file : File) (p q : ℕ) → adjoins file p q ≡ true → page_before file q ≡ Some p
before_is file p q is =
    let same : previous_of file q ≡ p = (adjoin_parts file p q is).previous in
    pick (adjoins file (previous_of file q) q) (previous_of file q) (subst (λ n. adjoins file n q ≡ true) (sym same) is) ∙ ap (λ n. Some n) same

-- a page that a page of a bucket names has no claim
no_claim : (file : File) (p q : ℕ) (view : Listed Item) → IsOwned file → page_at file p ≡ Hash view → first_holder (owners file q) ≡ Some p
    → (o : Option Claim) → claim_of file q ≡ o → o ≡ None
no_claim file p q view is page held None first = refl
no_claim file p q view is page held (Some c) first =
    let by : first_holder (owners file q) ≡ Some c.holder = claim_owner file q c is first in
    let same : c.holder ≡ p = (let both : Some c.holder ≡ Some p = sym by ∙ held in cc) in
    absurd (no_member (below_in (page_at file c.holder)) c.below (ap (λ n. below_in (page_at file n)) same ∙ ap below_in page) (claim_is file q c first).below)

unclaimed : (turns : ℕ) (file : File) (q : ℕ) → claim_of file q ≡ None → claimed_in turns file q ≡ None
unfolding claimed_in
unclaimed zero file q none = refl
unclaimed (suc turns) file q none = ap (by_claim file (claimed_in turns file)) none

no_own : (file : File) (q : ℕ) → claim_of file q ≡ None → own_home file q ≡ None
unfolding own_home
no_own file q none = ap (option_and_then numbered) (unclaimed 255 file q none)

numbered_is : (home : Home) → home.start ≡ 0 → numbered (later 0 home) ≡ Some (later 0 home)
numbered_is home first = let low : nat_lt (0 + home.start) (2 ^ 32) ≡ true = grind (arith, first) in rw low refl

pub next_is_led : NextIsLed
unfolding spread
next_is_led file p q turns meta view is page adjoin held led =
    let none : own_home file q ≡ None = no_own file q (no_claim file p q view is page held (claim_of file q) refl) in
    let given : behind file p led.home ≡ Some (later 0 led.home) =
    ap (λ page. numbered (later (records_on page) led.home)) page ∙ numbered_is led.home led.first in
    record {
      home = later 0 led.home;
      led =
          ap (λ o. or_else o (from_side (λ p q. behind file q) (spread (own_home file) (page_before file) (λ p q. behind file q) turns) q (page_before file q)))
          none
          ∙ (ap (from_side (λ p q. behind file q) (spread (own_home file) (page_before file) (λ p q. behind file q) turns) q) (before_is file p q adjoin)
          ∙ (ap (option_and_then (behind file p)) led.led ∙ given));
      same = led.same;
      first = let zero : 0 + led.home.start ≡ 0 = omega (arith, led.first) in zero;
    }
