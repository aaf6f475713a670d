-- The buckets of a group stand on consecutive pages, and a run of them is judged by the last pages that fail.
use Rattle.std.proofs.Common.{◌≡◌, ◌≢◌, ℕ, zero, suc, ◌+◌, ◌-◌, ◌^◌, ◌<◌, ◌≤◌, Bool, true, false, cond, List, [], ◌∷◌, ◌++◌, length, map, ap, ◌∙◌, arith, refl}
use Rattle.std.proofs.Common.{sym, subst, inl, inr, add-zero, get_or, min, nat_lt, ◌==◌, ◌&&◌, ◌||◌, not, Option, None, Some}
use Rattle.std.proofs.Math.Nat.{le_antisymm}
use Rattle.std.proofs.Math.Pow.{pow_mono}
use Rattle.std.proofs.Math.Bool.{or-false}
use Rattle.std.proofs.lemmas.Bool.{and_right, cases_Bool, cases_lt, le-ltb, lt-ltb, ltb-false, ne_eqb, or_from}
use Rattle.std.proofs.lemmas.Bool.Decides.{nat_tests}
use Rattle.std.proofs.lemmas.Grind.{common_steps}
use Rattle.std.proofs.lemmas.List.{get_or_append_left, get_or_push}
use Rattle.std.proofs.lemmas.List.Folds.{list_any-append}
use Rattle.std.specs.List.{list_any, range_with_len}
use Rattle.bdb_faults.specs.of_format.declared.references.Reference.{Reference}
use Rattle.bdb_faults.specs.of_format.declared.references.Sort.TheVariants.{Bucket}
use Rattle.bdb_faults.specs.of_format.declared.metadata.Head.{Head}
use Rattle.bdb_faults.specs.of_format.Terms.{Asked, File, Zero, asked_by, byte_at, fails_as, file_of, first_page, first_row, fit_code, form_code, four_at}
use Rattle.bdb_faults.specs.of_format.Terms.{group, head_of, identity_rows, is_zero, may_have_type, page_at, page_bytes, page_type, typed_code, ◌:?◌}
use Rattle.bdb_faults.proofs.of_format.FileLemmas.{last_page, page_is}
use Rattle.bdb_faults.proofs.of_format.GraphLemmas.{zero_page}
use Rattle.bdb_faults.proofs.of_format.SizeLemmas.{long_page}
use Rattle.bdb_image.proofs.CodeLemmas.{identity_fails}
use Rattle.bdb_faults.proofs.of_format.ListLemmas.{range_more, range_parts}
use Rattle.bdb_meta.proofs.of_layout.HashingLemmas.{below_group, group-le}
use Rattle.bdb_image.specs.declared.fits.Misfits.{Misfits}
use Rattle.bdb_image.specs.Buckets.{AreLasts, IsLast, bucket_names, fails_as_bucket, run_names, run_refs}
use Rattle.bdb_image.specs.Fits.{page_rows}
use Rattle.bdb_image.specs.Noted.{misfits_of}
use Rattle.bdb_image.proofs.NotedLemmas.{same_misfits}
use Rattle.bdb_image.proofs.FitLemmas.{fits_nowhere, fits_there, names_above}

-- Groups.

-- a group of a bucket below 2^31 is one of 32
pub group_ends : (bucket : ℕ) → bucket < 2 ^ 31 → (bucket < 2 ^ group bucket) × (group bucket ≤ 31)
group_ends bucket few = (below_group bucket 31 (omega arith) few, group-le bucket 31 (omega arith) few)

pub group_fits : (bucket g : ℕ) → g ≡ group bucket → bucket < 2 ^ 31 → 2 ^ g < 2 ^ 32
group_fits bucket g is few =
    let low : g ≤ 31 = omega (arith, (group_ends bucket few).1) in
    let most : 2 ^ g ≤ 2 ^ 31 = pow_mono low in
    omega (arith, most)

-- a later bucket below the group's end is in the same group
same_group : (bucket b : ℕ) → bucket < 2 ^ 31 → bucket ≤ b → b < 2 ^ group bucket → group b ≡ group bucket
same_group bucket b few later below =
    let low : group bucket ≤ 31 = (group_ends bucket few).1 in
    let at_most : group b ≤ group bucket = group-le b (group bucket) (omega arith) below in
    let above : b < 2 ^ group b = below_group b (group bucket) (omega arith) below in
    le_antisymm at_most (group-le bucket (group b) (omega arith) (omega arith))

-- buckets whose pages are consecutive, as a run
names_along : (f : ℕ → ℕ) (first b n : ℕ) → ((i : ℕ) → i < n → f (b + i) ≡ first + i) → run_names first n ≡ map (λ b. (Bucket, f b)) (range_with_len b n)
names_along f first b zero along = refl
names_along f first b (suc n) along =
    let head : f b ≡ first = ap f (sym (add-zero b)) ∙ (along 0 (omega arith) ∙ add-zero first) in
    let more : (i : ℕ) → i < n → f (b + 1 + i) ≡ first + 1 + i =
    λ i lt. let place : b + 1 + i ≡ b + (i + 1) = omega arith in ap f place ∙ (along (i + 1) (omega arith) ∙ (omega arith)) in
    rw (head, names_along f (first + 1) (b + 1) n more) refl

pub in_group : (spares : List ℕ) (bucket n first : ℕ) → first ≡ first_page bucket spares → bucket < 2 ^ 31 → bucket + n ≤ 2 ^ group bucket
    → run_names first n ≡ bucket_names spares bucket n
in_group spares bucket n first is few low =
    names_along (λ b. first_page b spares) first bucket n
    (λ i lt.
    let same : group (bucket + i) ≡ group bucket = same_group bucket (bucket + i) few (omega arith) (omega arith) in
    let spare : get_or spares (group (bucket + i)) 0 ≡ get_or spares (group bucket) 0 = ap (λ g. get_or spares g 0) same in
    omega (arith, spare, is))

-- The last pages that fail.

-- none is below a page and not below it
last_low : (file : File) (code end last : ℕ) → IsLast file code end last → last ≤ end
last_low file code end last is =
    let none : end - end ≡ 0 = omega arith in
    ltb-false end last (sym (is end) ∙ ap (λ n. list_any (fails_as_bucket file code) (range_with_len end n)) none)

-- the last one isn't above the page behind
last_or : (b : Bool) (page last next : ℕ) → next ≡ cond b (page + 1) last → last ≤ page → (p : ℕ) → page < p → next ≤ p
last_or true page last next is low p above = omega arith
last_or false page last next is low p above = omega arith

last_is : (b fails before : Bool) (p page last next : ℕ) → p ≤ page → before ≡ nat_lt p last → b ≡ fails → next ≡ cond b (page + 1) last
    → (before || (fails || false)) ≡ nat_lt p next
last_is true true true p page last next low is same next_is = sym (lt-ltb p next (omega arith))
last_is true true false p page last next low is same next_is = sym (lt-ltb p next (omega arith))
last_is true false before p page last next low is same next_is = absurd cc
last_is false true before p page last next low is same next_is = absurd cc
last_is false false true p page last next low is same next_is = is ∙ ap (nat_lt p) (sym next_is)
last_is false false false p page last next low is same next_is = is ∙ ap (nat_lt p) (sym next_is)

-- below one more page
last_more : (file : File) (code page last next : ℕ) → IsLast file code page last → (b : Bool) → b ≡ fails_as_bucket file code page
    → next ≡ cond b (page + 1) last → IsLast file code (page + 1) next
last_more file code page last next is b fails next_is p =
    let low : last ≤ page = last_low file code page last is in
    elim (cases_lt page p) as (λ _. list_any (fails_as_bucket file code) (range_with_len p (page + 1 - p)) ≡ nat_lt p next) [
      | inl above ↦
          let none : page + 1 - p ≡ 0 = omega arith in
          let least : nat_lt p next ≡ false = le-ltb p next (last_or b page last next next_is low p above) in
          ap (λ n. list_any (fails_as_bucket file code) (range_with_len p n)) none ∙ sym least
      | inr here ↦
          let more : page + 1 - p ≡ page - p + 1 = omega arith in
          let place : p + (page - p) ≡ page = omega arith in
          ap (λ n. list_any (fails_as_bucket file code) (range_with_len p n)) more
          ∙ (ap (list_any (fails_as_bucket file code)) (range_more p (page - p))
          ∙ (list_any-append (fails_as_bucket file code) (range_with_len p (page - p)) ((p + (page - p)) ∷ [])
          ∙ (ap (λ q. list_any (fails_as_bucket file code) (range_with_len p (page - p)) || (fails_as_bucket file code q || false)) place
          ∙ last_is b (fails_as_bucket file code page) (list_any (fails_as_bucket file code) (range_with_len p (page - p)))
          p page last next here (is p) fails next_is)))
    ]

pub lasts_more : (file : File) (code page next : ℕ) (lasts : List ℕ) (b : Bool) → length lasts ≡ page + 1 → b ≡ fails_as_bucket file code page
    → next ≡ cond b (page + 1) (get_or lasts page 0)
    → AreLasts file code lasts → AreLasts file code (lasts ++ next ∷ [])
lasts_more file code page next lasts b len fails is are = record {
  each = λ end low.
      elim (cases_lt end (length lasts)) [
        | inl before ↦ subst (IsLast file code end) (sym (get_or_append_left lasts (next ∷ []) 0 end before)) (are.each end before)
        | inr behind ↦
            let ends : length lasts ≡ end = grind (arith, common_steps) in
            let next_page : page + 1 ≡ end = omega arith in
            let last : IsLast file code (page + 1) next = last_more file code page (get_or lasts page 0) next (are.each page (omega arith)) b fails is in
            subst (IsLast file code end) (sym (get_or_push lasts next 0 end ends)) (subst (λ k. IsLast file code k next) next_page last)
      ];
}

-- pages above the last one fail otherwise
none_above : (file : File) (code from n : ℕ) → code ≢ 1 → file.last < from → list_any (fails_as_bucket file code) (range_with_len from n) ≡ false
none_above file code from zero other above = refl
none_above file code from (suc n) other above =
    let here : fails_as_bucket file code from ≡ false =
    ap (fails_as code) (sym (names_above file 0 (record { place = 0; sort = Bucket; target = from }) above)) ∙ ne_eqb 1 code (λ same. other (sym same)) in
    or_from _ _ here (none_above file code (from + 1) n other (omega arith))

-- a run is judged by the last page below its end, or below the end of the file
pub run_judged : (file : File) (code : ℕ) (lasts : List ℕ) (first n end : ℕ) → length lasts ≡ file.last + 2 → code ≢ 1 → AreLasts file code lasts
    → file.last + 1 < 2 ^ 64
    → end ≡ min (min (first + n) (2 ^ 64 - 1)) (file.last + 1)
    → nat_lt first (get_or lasts end 0) ≡ list_any (fails_as_bucket file code) (range_with_len first n)
run_judged file code lasts first n end len other are few is =
    let test : ℕ → Bool = fails_as_bucket file code in
    elim (cases_lt (file.last + 1) (first + n)) as (λ _. nat_lt first (get_or lasts end 0) ≡ list_any (fails_as_bucket file code) (range_with_len first n)) [
      | inr inside ↦
          let whole : end - first ≡ n = omega arith in
          sym (are.each end (omega arith) first) ∙ ap (λ k. list_any test (range_with_len first k)) whole
      | inl past ↦
          let parts : n ≡ (end - first) + (n - (end - first)) = omega arith in
          sym (are.each end (omega arith) first)
          ∙ (sym (or-false (list_any test (range_with_len first (end - first))))
          ∙ (ap (λ b. list_any test (range_with_len first (end - first)) || b)
          (sym (none_above file code (first + (end - first)) (n - (end - first)) other (omega arith)))
          ∙ (sym (list_any-append test (range_with_len first (end - first)) (range_with_len (first + (end - first)) (n - (end - first))))
          ∙ (ap (list_any test) (sym (range_parts first (end - first) (n - (end - first))))
          ∙ ap (λ k. list_any test (range_with_len first k)) (sym parts)))))
    ]

-- Misfits.

-- what a bucket lacks is its type or its previous page
lacks : (a b : Bool)
    → (fails_as 1 (first_row (2 :? a ∷ 3 :? false ∷ 4 :? b ∷ [])) ≡ false) × (fails_as 3 (first_row (2 :? a ∷ 3 :? false ∷ 4 :? b ∷ [])) ≡ false)
lacks true b = (refl, refl)
lacks false true = (refl, refl)
lacks false false = (refl, refl)

-- a page that isn't there fails by that alone, and another never by that, and none by a level
out_of_range : (file : File) (p : ℕ) → (fails_as_bucket file 1 p ≡ (p == 0 || nat_lt file.last p)) × (fails_as_bucket file 3 p ≡ false)
out_of_range file p =
    let reference : Reference = record { place = 0; sort = Bucket; target = p } in
    elim (cases_Bool (p == 0 || nat_lt file.last p)) [
      | inl out ↦
          let is : Some 1 ≡ fit_code file 0 reference = fits_nowhere file 0 reference out in
          (ap (fails_as 1) (sym is) ∙ sym out, ap (fails_as 3) (sym is))
      | inr inside ↦
          let asked : Asked = asked_by 0 (page_at file 0) Bucket in
          let is : first_row (page_rows asked (page_at file p)) ≡ fit_code file 0 reference = fits_there file 0 reference inside in
          (ap (fails_as 1) (sym is) ∙ ((lacks _ _).0 ∙ sym inside), ap (fails_as 3) (sym is) ∙ (lacks _ _).1)
    ]

no_level : (file : File) (first n : ℕ) → list_any (fails_as_bucket file 3) (range_with_len first n) ≡ false
no_level file first zero = refl
no_level file first (suc n) = or_from _ _ ((out_of_range file first).1) (no_level file (first + 1) n)

-- one of a run isn't there where the first or the last isn't
ends_out : (last first n : ℕ) → list_any (λ p. p == 0 || nat_lt last p) (range_with_len first (suc n)) ≡ (first == 0 || nat_lt (last + 1) (first + suc n))
ends_out last first zero = grind (arith, nat_tests)
ends_out last first (suc n) = ap (λ b. (first == 0 || nat_lt last first) || b) (ends_out last (first + 1) n) ∙ grind (arith, nat_tests)

any_same : (f g : ℕ → Bool) (xs : List ℕ) → ((x : ℕ) → f x ≡ g x) → list_any f xs ≡ list_any g xs
any_same f g [] same = refl
any_same f g (x ∷ xs) same = rw (same x, any_same f g xs same) refl

run_out : (file : File) (first n : ℕ) → 0 < n → list_any (fails_as_bucket file 1) (range_with_len first n) ≡ (first == 0 || nat_lt (file.last + 1) (first + n))
run_out file first zero some = absurd (omega arith)
run_out file first (suc n) some =
    any_same (fails_as_bucket file 1) (λ p. p == 0 || nat_lt file.last p) (range_with_len first (suc n)) (λ p. (out_of_range file p).0)
    ∙ ends_out file.last first n

-- whether a reference to a bucket fits is the same whoever holds it, and at whatever place
fits_alike : (file : File) (holder place p : ℕ)
    → fit_code file holder (record { place = place; sort = Bucket; target = p }) ≡ fit_code file 0 (record { place = 0; sort = Bucket; target = p })
unfolding fit_code
fits_alike file holder place p = refl

any_of_run : (file : File) (code holder place first n : ℕ)
    → list_any (λ reference. fails_as code (fit_code file holder reference)) (run_refs place first n)
    ≡ list_any (fails_as_bucket file code) (range_with_len first n)
any_of_run file code holder place first zero = refl
any_of_run file code holder place first (suc n) = rw (fits_alike file holder place first, any_of_run file code holder (place + 1) (first + 1) n) refl

pub run_misfits : (file : File) (holder place first n : ℕ) (target page_type previous : Bool) → 0 < n
    → target ≡ (first == 0 || nat_lt (file.last + 1) (first + n)) → page_type ≡ list_any (fails_as_bucket file 2) (range_with_len first n)
    → previous ≡ list_any (fails_as_bucket file 4) (range_with_len first n)
    → ◌≡◌ {A = Misfits} (record { target = target; page_type = page_type; level = false; previous = previous })
    (misfits_of (fit_code file holder) (run_refs place first n))
run_misfits file holder place first n target page_type previous some target_is type_is previous_is =
    same_misfits _ _ _ _ _ _ _ _
    (target_is ∙ (sym (run_out file first n some) ∙ sym (any_of_run file 1 holder place first n)))
    (type_is ∙ sym (any_of_run file 2 holder place first n))
    (sym (no_level file first n) ∙ sym (any_of_run file 3 holder place first n))
    (previous_is ∙ sym (any_of_run file 4 holder place first n))

-- Zero pages.

-- a page without a fault of form has its number, unless it's a zero page
unnumbered_zero : (head : Head) (number : ℕ) (page : List ℕ) → 0 < number → form_code head number page ≡ None → four_at head.order page 8 ≡ 0
    → is_zero page ≡ true
unfolding form_code
unnumbered_zero head number page above none unnumbered =
    let identity : Option ℕ = first_row (identity_rows head.order page number (may_have_type head.kind number)) in
    let typed : Option ℕ = typed_code head number page (page_type (byte_at page 25)) in
    elim (cases_Bool (is_zero page)) [
      | inl empty ↦ empty
      | inr some ↦
          let same : identity ≡ None = identity_fails (nat_lt 0 number && is_zero page) identity typed (and_right (nat_lt 0 number) (is_zero page) some) none in
          let other : (four_at head.order page 8 == number) ≡ false = ne_eqb (four_at head.order page 8) number (omega arith) in
          let first : identity ≡ Some 1 = ap (λ b. first_row (1 :? not b ∷ 2 :? not (may_have_type head.kind number (byte_at page 25)) ∷ [])) other in
          absurd cc
    ]

-- so a page without a number fits as a bucket
pub unnumbered_fits : (image : List ℕ) (p : ℕ) → 0 < p → p ≤ (file_of image).last → form_code (head_of image) p (page_bytes (head_of image) image p) ≡ None
    → four_at (head_of image).order (page_bytes (head_of image) image p) 8 ≡ 0
    → None ≡ fit_code (file_of image) 0 (record { place = 0; sort = Bucket; target = p })
unnumbered_fits image p above low none unnumbered =
    let reference : Reference = record { place = 0; sort = Bucket; target = p } in
    let asked : Asked = asked_by 0 (page_at (file_of image) 0) Bucket in
    let empty : is_zero (page_bytes (head_of image) image p) ≡ true = unnumbered_zero (head_of image) p (page_bytes (head_of image) image p) above none
    unnumbered in
    let zero_there : page_at (file_of image) p ≡ Zero =
    page_is image p (omega (arith, last_page image)) ∙ zero_page (head_of image).order (page_bytes (head_of image) image p) empty in
    let fits : None ≡ first_row (page_rows asked (page_at (file_of image) p)) = ap (λ page. first_row (page_rows asked page)) (sym zero_there) in
    fits
    ∙ fits_there (file_of image) 0 reference
    (or_from (p == 0) (nat_lt (file_of image).last p) (ne_eqb p 0 (omega arith)) (le-ltb (file_of image).last p low))

-- a page without a number fits
pub ruleset unnumbered_pages = (unnumbered_fits, long_page)
