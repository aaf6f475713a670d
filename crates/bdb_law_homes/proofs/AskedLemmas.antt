-- What references ask of their targets, and the homes of pages that metadata name.
use Rattle.std.proofs.Common.{◌≡◌, ℕ, zero, suc, ◌≤◌, Bool, true, false, refl, ap, ◌∙◌, arith, subst}
use Rattle.std.specs.Prelude.{◌&&◌, ◌||◌, not, nat_lt, Option, Some, None, option_and_then}
use Rattle.std.specs.List.{Contains}
use Rattle.bdb_law_whole.specs.of_format.declared.references.Sort.{Sort}
use Rattle.bdb_law_whole.specs.of_format.Terms.{Asked, File, asked_by, fit_code, fit_rows, is_meta, page_at, targets_in}
use Rattle.bdb_law_whole.proofs.of_format.GraphLemmas.{each_fits}
use Rattle.bdb_law_whole.proofs.of_format.VerdictLemmas.{AllFail, none_is_first_row}
use Rattle.bdb_homes.specs.Claims.{Below, below_in}
use Rattle.bdb_homes.specs.Homes.{ahead, behind, by_claim, claimed_in, from_side, home, led, numbered, or_else, own_home, page_after, page_before}
use Rattle.bdb_homes.specs.Homes.{spread}
use Rattle.bdb_homes.specs.declared.home.Home.{Home}
use Rattle.bdb_law_homes.specs.Led.{IsOwned}
use Rattle.bdb_law_homes.proofs.BelowLemmas.{IsReferred, target_referred}
use Rattle.bdb_law_homes.proofs.LedLemmas.{below_claimed}

-- a page that metadata name below them has those as its own home
pub claimed_top : (turns : ℕ) (file : File) (meta : ℕ) (b : Below) → IsOwned file → is_meta (page_at file meta) ≡ true
    → Contains (below_in (page_at file meta)) b
    → claimed_in (suc turns) file b.page ≡ Some (record { meta = meta; start = 0 })
unfolding claimed_in
claimed_top turns file meta b is top at =
    let found = below_claimed file meta b is at in
    let here : is_meta (page_at file found.0.holder) ≡ true = ap (λ n. is_meta (page_at file n)) found.2 ∙ top in
    ap (by_claim file (claimed_in turns file)) found.1 ∙ rw here (ap (λ h. Some (record { meta = h; start = 0 })) found.2)

pub own_top : (file : File) (meta : ℕ) (b : Below) → IsOwned file → is_meta (page_at file meta) ≡ true → Contains (below_in (page_at file meta)) b
    → own_home file b.page ≡ Some (record { meta = meta; start = 0 })
unfolding own_home
own_top file meta b is top at = ap (option_and_then numbered) (claimed_top 254 file meta b is top at)

-- a home that a page has stays
pub had_first : (had : ℕ → Option Home) (side : ℕ → Option ℕ) (moved : ℕ → ℕ → Home → Option Home) (turns p : ℕ) (h : Home) → had p ≡ Some h
    → spread had side moved turns p ≡ Some h
unfolding spread
had_first had side moved zero p h is = is
had_first had side moved (suc turns) p h is = ap (λ o. or_else o (from_side moved (spread had side moved turns) p (side p))) is

pub low : (last q : ℕ) → nat_lt last q ≡ false → q ≤ last
low last q is = grind arith

-- no row of what a reference asks of its target
pub record IsAsked (file : File) (p q : ℕ) (asked : Asked) : Type 0 where
  pub fail : AllFail (fit_rows file asked q)

pub asked_fits : (file : File) (p : ℕ) (b : Below) → IsOwned file → p ≤ file.last → Contains (targets_in p (page_at file p)) (b.sort, b.page)
    → IsAsked file p b.page (asked_by p (page_at file p) b.sort)
unfolding fit_code
asked_fits file p b is inside at =
    let by : IsReferred file p b = target_referred file p b is.kind at in
    let fits : fit_code file p by.reference ≡ None = each_fits file p by.reference is.references inside by.held in
    let fail : AllFail (fit_rows file (asked_by p (page_at file p) by.reference.sort) by.reference.target) =
    none_is_first_row (fit_rows file (asked_by p (page_at file p) by.reference.sort) by.reference.target) fits in
    record {
      fail = subst (λ (s : Sort). AllFail (fit_rows file (asked_by p (page_at file p) s) b.page)) by.sort
          (subst (λ n. AllFail (fit_rows file (asked_by p (page_at file p) by.reference.sort) n)) by.target fail);
    }

-- a home of a page's own is its home
pub own_stays : (file : File) (p : ℕ) (h : Home) → own_home file p ≡ Some h → home file p ≡ Some h
unfolding home led
own_stays file p h own =
    had_first (λ p. spread (own_home file) (page_before file) (λ p q. behind file q) file.count p) (page_after file) (λ p q. ahead file p) file.count p h
    (had_first (own_home file) (page_before file) (λ p q. behind file q) file.count p h own)

pub only_types : (a c : Bool) → not (a || (false && c)) ≡ false → a ≡ true
only_types true c is = refl
only_types false c is = absurd cc
