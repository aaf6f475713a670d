-- The homes of the file that salvage reads of a sound image are those of the file.
use Rattle.std.proofs.Common.{◌≡◌, ℕ, zero, suc, ◌-◌, ◌≤◌, Bool, cond, List, [], ◌∷◌, map, length, arith, refl, sym, ◌∙◌, ap}
use Rattle.std.specs.Prelude.{◌≢◌, ◌==◌, ◌&&◌, ◌||◌, not, nat_le, ◌/◌, nat_lt, is_none, Option, Some, None}
use Rattle.std.specs.List.{Contains, flat_map, range_with_len}
use Rattle.std.specs.Option.{option_and_then, option_map}
use Rattle.std.proofs.lemmas.Bool.{le-ltb, or_parts}
use Rattle.bdb_law_whole.specs.of_format.declared.metadata.FileKind.TheVariants.{Queue}
use Rattle.bdb_law_whole.specs.of_format.Terms.{◌:?◌, Asked, File, Page, asked_by, file_of, first_row, fit_code, fit_rows, has_type, head_of, header_in}
use Rattle.bdb_law_whole.specs.of_format.Terms.{is_asked, is_meta, is_zero_page, next_of, page_at, type_in}
use Rattle.bdb_law_whole.specs.of_image.Linked.{IsForest}
use Rattle.bdb_law_whole.proofs.of_format.FileLemmas.{kind_is}
use Rattle.bdb_law_whole.proofs.of_format.ListLemmas.{flat_map_same}
use Rattle.bdb_law_whole.proofs.of_format.MemberLemmas.{first_member, later_member}
use Rattle.bdb_law_whole.proofs.of_survey.StoredPageLemmas.{last_is}
use Rattle.bdb_homes.specs.Claims.{Claim, all_claims, below_in, claim, claim_of, first_claim, is_claim, is_fit}
use Rattle.bdb_homes.specs.Homes.{adjoins, ahead, behind, by_claim, claimed_in, from_side, home, is_same, later, led, numbered, or_else, own_home}
use Rattle.bdb_homes.specs.Homes.{page_after, page_before, previous_of, records_on, row_of, spread}
use Rattle.bdb_homes.specs.declared.home.Home.{Home}
use Rattle.bdb_law_whole.specs.Guessed.{guessed}
use Rattle.bdb_law_whole.proofs.PageLemmas.{last_there, same_count, same_page, seen_alike}
use Rattle.bdb_law_homes.specs.Led.{IsOwned}
use Rattle.bdb_law_homes.specs.Salvaged.{SalvagedHomesAreThose}
use Rattle.bdb_law_homes.proofs.AskedLemmas.{asked_fits, low}
use Rattle.bdb_law_homes.proofs.BelowLemmas.{below_target}
use Rattle.bdb_law_homes.proofs.LedLemmas.{claims_of, named_inside}
use Rattle.bdb_law_homes.proofs.SoundLemmas.{sound_files_are_owned}

record IsRead (image : List ℕ) : Type 0 where
  forest : IsForest image
  kind : (head_of image).kind ≢ Queue

-- Claims.

same_claims : (image : List ℕ) → IsRead image → all_claims (guessed image) ≡ all_claims (file_of image)
unfolding all_claims
same_claims image is =
    ap (λ n. flat_map (λ h. map (claim h) (below_in (page_at (guessed image) h))) (range_with_len 0 n)) (same_count image)
    ∙ flat_map_same (λ h. map (claim h) (below_in (page_at (guessed image) h))) (λ h. map (claim h) (below_in (page_at (file_of image) h)))
    (range_with_len 0 (file_of image).count) (λ h at. ap (map (claim h)) (seen_alike below_in image h is.forest is.kind refl))

-- the rows of a reference to a page that is out of range, or isn't
abbrev told : Asked → ℕ → Bool → Page → Option ℕ
told asked q out page =
    first_row
    (1 :? (q == 0 || out)
    ∷ 2 :? not (has_type asked.types (type_in page) || (asked.or_zero && is_zero_page page))
    ∷ 3 :? not (is_asked asked.level (header_in page).level)
    ∷ 4 :? not (is_asked asked.previous (header_in page).previous)
    ∷ [])

-- what a page asks of one that is there is the same, whatever the last page is
same_asked : (file other : File) (asked : Asked) (q : ℕ) → page_at other q ≡ page_at file q → q ≤ file.last → q ≤ other.last
    → first_row (fit_rows other asked q) ≡ first_row (fit_rows file asked q)
same_asked file other asked q page inside within =
    ap (λ out. told asked q out (page_at other q)) (le-ltb other.last q within ∙ sym (le-ltb file.last q inside)) ∙ ap (told asked q (nat_lt file.last q)) page

same_fit : (image : List ℕ) (c : Claim) → IsRead image → Contains (all_claims (file_of image)) c → is_fit (guessed image) c ≡ is_fit (file_of image) c
unfolding fit_code
same_fit image c is among =
    let file : File = file_of image in
    let owned : IsOwned file = sound_files_are_owned image is.forest (λ queue. is.kind (sym (kind_is image) ∙ queue)) in
    let at : Contains (below_in (page_at file c.holder)) c.below = (claims_of file c among).1 in
    let inside : c.holder ≤ file.last = named_inside file c.holder c.below owned at in
    let asked = asked_fits file c.holder c.below owned inside (below_target c.holder (page_at file c.holder) c.below at) in
    let target : c.below.page ≤ file.last = low file.last c.below.page (or_parts (c.below.page == 0) (nat_lt file.last c.below.page) asked.fail.0).1 in
    let last : (guessed image).last ≡ length image / (head_of image).page_size - 1 = last_is (head_of image).order (head_of image).page_size image in
    ap (λ page. is_none (first_row (fit_rows (guessed image) (asked_by c.holder page c.below.sort) c.below.page)))
    (same_page image c.holder is.forest is.kind inside)
    ∙ ap is_none
    (same_asked file (guessed image) (asked_by c.holder (page_at file c.holder) c.below.sort) c.below.page
    (same_page image c.below.page is.forest is.kind target) target (omega (arith, target, last, last_there image is.forest)))

same_first : (image : List ℕ) (p : ℕ) (claims : List Claim) → ((c : Claim) → Contains claims c → is_fit (guessed image) c ≡ is_fit (file_of image) c)
    → first_claim (guessed image) p claims ≡ first_claim (file_of image) p claims
same_first image p [] same = refl
same_first image p (c ∷ claims) same =
    ap (λ b. cond (c.below.page == p && b) (Some c) (first_claim (guessed image) p claims)) (same c (first_member c claims))
    ∙ ap (cond (is_claim (file_of image) p c) (Some c)) (same_first image p claims (λ d at. same d (later_member c claims d at)))

same_claim : (image : List ℕ) (p : ℕ) → IsRead image → claim_of (guessed image) p ≡ claim_of (file_of image) p
unfolding claim_of
same_claim image p is =
    ap (first_claim (guessed image) p) (same_claims image is)
    ∙ same_first image p (all_claims (file_of image)) (λ c at. same_fit image c is at)

same_holder : (image : List ℕ) (above other : ℕ → Option Home) (c : Option Claim) → IsRead image → ((p : ℕ) → above p ≡ other p)
    → by_claim (guessed image) above c ≡ by_claim (file_of image) other c
same_holder image above other None is same = refl
same_holder image above other (Some c) is same =
    ap (λ b. cond b (Some (record { meta = c.holder; start = 0 })) (option_map (later c.below.before) (above c.holder)))
    (seen_alike is_meta image c.holder is.forest is.kind refl)
    ∙ ap (λ h. cond (is_meta (page_at (file_of image) c.holder)) (Some (record { meta = c.holder; start = 0 })) (option_map (later c.below.before) h))
    (same c.holder)

same_claimed : (turns : ℕ) (image : List ℕ) (p : ℕ) → IsRead image → claimed_in turns (guessed image) p ≡ claimed_in turns (file_of image) p
unfolding claimed_in
same_claimed zero image p is = refl
same_claimed (suc turns) image p is =
    ap (by_claim (guessed image) (claimed_in turns (guessed image))) (same_claim image p is)
    ∙ same_holder image (claimed_in turns (guessed image)) (claimed_in turns (file_of image)) (claim_of (file_of image) p) is
    (λ q. same_claimed turns image q is)

same_own : (image : List ℕ) (p : ℕ) → IsRead image → own_home (guessed image) p ≡ own_home (file_of image) p
unfolding own_home
same_own image p is = ap (option_and_then numbered) (same_claimed 255 image p is)

-- Neighbours.

same_next : (image : List ℕ) (p : ℕ) → IsRead image → next_of (guessed image) p ≡ next_of (file_of image) p
same_next image p is = seen_alike (λ (page : Page). (header_in page).next) image p is.forest is.kind refl

same_previous : (image : List ℕ) (p : ℕ) → IsRead image → previous_of (guessed image) p ≡ previous_of (file_of image) p
same_previous image p is = seen_alike (λ (page : Page). (header_in page).previous) image p is.forest is.kind refl

same_records : (image : List ℕ) (p : ℕ) → IsRead image → records_on (page_at (guessed image) p) ≡ records_on (page_at (file_of image) p)
same_records image p is = seen_alike records_on image p is.forest is.kind refl

same_beside : (image : List ℕ) (p q : ℕ) → IsRead image → adjoins (guessed image) p q ≡ adjoins (file_of image) p q
same_beside image p q is =
    ap (λ row. not (p == 0) && not (q == 0) && is_same row (row_of (page_at (guessed image) q)) && next_of (guessed image) p == q
    && previous_of (guessed image) q == p)
    (seen_alike row_of image p is.forest is.kind refl)
    ∙ (ap (λ row. not (p == 0) && not (q == 0) && is_same (row_of (page_at (file_of image) p)) row && next_of (guessed image) p == q
    && previous_of (guessed image) q == p)
    (seen_alike row_of image q is.forest is.kind refl)
    ∙ (ap (λ n. not (p == 0) && not (q == 0) && is_same (row_of (page_at (file_of image) p)) (row_of (page_at (file_of image) q)) && n == q
    && previous_of (guessed image) q == p)
    (same_next image p is)
    ∙ ap (λ n. not (p == 0) && not (q == 0) && is_same (row_of (page_at (file_of image) p)) (row_of (page_at (file_of image) q))
    && next_of (file_of image) p == q && n == p)
    (same_previous image q is)))

same_before : (image : List ℕ) (p : ℕ) → IsRead image → page_before (guessed image) p ≡ page_before (file_of image) p
same_before image p is =
    ap (λ n. cond (adjoins (guessed image) n p) (Some n) None) (same_previous image p is)
    ∙ ap (λ b. cond b (Some (previous_of (file_of image) p)) None) (same_beside image (previous_of (file_of image) p) p is)

same_after : (image : List ℕ) (p : ℕ) → IsRead image → page_after (guessed image) p ≡ page_after (file_of image) p
same_after image p is =
    ap (λ n. cond (adjoins (guessed image) p n) (Some n) None) (same_next image p is)
    ∙ ap (λ b. cond b (Some (next_of (file_of image) p)) None) (same_beside image p (next_of (file_of image) p) is)

same_behind : (image : List ℕ) (q : ℕ) (h : Home) → IsRead image → behind (guessed image) q h ≡ behind (file_of image) q h
same_behind image q h is = ap (λ n. numbered (later n h)) (same_records image q is)

same_ahead : (image : List ℕ) (p : ℕ) (h : Home) → IsRead image → ahead (guessed image) p h ≡ ahead (file_of image) p h
same_ahead image p h is =
    ap (λ n. cond (nat_le n h.start) (Some (record { meta = h.meta; start = h.start - n })) None) (same_records image p is)

-- Homes from the sides.

same_then : (f g : Home → Option Home) (one two : Option Home) → ((h : Home) → f h ≡ g h) → one ≡ two → option_and_then f one ≡ option_and_then g two
same_then f g one two same is = by_home one ∙ ap (option_and_then g) is
  where
    by_home : (o : Option Home) → option_and_then f o ≡ option_and_then g o
    by_home None = refl
    by_home (Some h) = same h

same_side : (moved other : ℕ → ℕ → Home → Option Home) (f g : ℕ → Option Home) (p : ℕ) (side : Option ℕ) → ((p q : ℕ) (h : Home) → moved p q h ≡ other p q h)
    → ((q : ℕ) → f q ≡ g q) → from_side moved f p side ≡ from_side other g p side
same_side moved other f g p None moves same = refl
same_side moved other f g p (Some q) moves same = same_then (moved p q) (other p q) (f q) (g q) (moves p q) (same q)

same_spread : (had owned : ℕ → Option Home) (side beside : ℕ → Option ℕ) (moved other : ℕ → ℕ → Home → Option Home) (turns p : ℕ)
    → ((q : ℕ) → had q ≡ owned q) → ((q : ℕ) → side q ≡ beside q) → ((p q : ℕ) (h : Home) → moved p q h ≡ other p q h)
    → spread had side moved turns p ≡ spread owned beside other turns p
unfolding spread
same_spread had owned side beside moved other zero p same sides moves = same p
same_spread had owned side beside moved other (suc turns) p same sides moves =
    ap (λ h. or_else h (from_side moved (spread had side moved turns) p (side p))) (same p)
    ∙ (ap (λ q. or_else (owned p) (from_side moved (spread had side moved turns) p q)) (sides p)
    ∙ ap (or_else (owned p))
    (same_side moved other (spread had side moved turns) (spread owned beside other turns) p (beside p) moves
    (λ q. same_spread had owned side beside moved other turns q same sides moves)))

same_led : (image : List ℕ) (p : ℕ) → IsRead image → led (guessed image) p ≡ led (file_of image) p
unfolding led
same_led image p is =
    ap (λ n. spread (own_home (guessed image)) (page_before (guessed image)) (λ p q. behind (guessed image) q) n p) (same_count image)
    ∙ same_spread (own_home (guessed image)) (own_home (file_of image)) (page_before (guessed image)) (page_before (file_of image))
    (λ p q. behind (guessed image) q) (λ p q. behind (file_of image) q) (file_of image).count p
    (λ q. same_own image q is) (λ q. same_before image q is) (λ p q h. same_behind image q h is)

pub salvaged_homes_are_those : SalvagedHomesAreThose
unfolding home
salvaged_homes_are_those image p forest kind =
    ap (λ n. spread (led (guessed image)) (page_after (guessed image)) (λ p q. ahead (guessed image) p) n p) (same_count image)
    ∙ same_spread (led (guessed image)) (led (file_of image)) (page_after (guessed image)) (page_after (file_of image))
    (λ p q. ahead (guessed image) p) (λ p q. ahead (file_of image) p) (file_of image).count p
    (λ q. same_led image q is) (λ q. same_after image q is) (λ p q h. same_ahead image p h is)
  where
    is : IsRead image
    is = record { forest = forest; kind = kind }
