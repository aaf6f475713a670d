-- Pages behind an open one: what is put on pages from left to right begins them.
use Rattle.std.proofs.Common.{◌≡◌, ℕ, zero, suc, ◌+◌, ◌-◌, ◌*◌, ◌<◌, ◌≤◌, List, [], ◌∷◌, ◌++◌, length, map, replicate, arith, refl, sym, ◌∙◌, ap, inl, inr, ◌/◌, ◌%◌, nat_le, if◌then◌else◌, All}
use Rattle.bdb_need.proofs.Common.{cases_lt, le-leb, lt-leb, append-nil, append_assoc, length-replicate, replicate-append-replicate, All-cons, All-head, All-nil, All-tail, mul-le, first_or}
use Rattle.bdb_need.proofs.Common.{pages_over, spread_items, spread_on}
use Rattle.bdb_mkhash.proofs.of_mkleaves.SpreadLemmas.{put_on_new, put_on_open}

-- What the first things of the pages behind the open one are told by, as things are put on pages from left to right.
abbrev pub behind : {A : Type 0} → ℕ → (A → ℕ) → (A → ℕ) → (A → ℕ) → ℕ → List A → List ℕ
behind room first cost head left [] = []
behind room first cost head left (x ∷ xs) =
    if nat_le (cost x) left then behind room first cost head (left - cost x) xs
    else head x ∷ behind room first cost head (room - first x) xs

pub behind_open : {A : Type 0} (room : ℕ) (first cost head : A → ℕ) (left : ℕ) (x : A) (xs : List A) → cost x ≤ left
    → behind room first cost head left (x ∷ xs) ≡ behind room first cost head (left - cost x) xs
behind_open room first cost head left x xs fits = rw (le-leb (cost x) left fits) refl

pub behind_new : {A : Type 0} (room : ℕ) (first cost head : A → ℕ) (left : ℕ) (x : A) (xs : List A) → left < cost x
    → behind room first cost head left (x ∷ xs) ≡ head x ∷ behind room first cost head (room - first x) xs
behind_new room first cost head left x xs full = rw (lt-leb (cost x) left full) refl

-- Pages that are told by their first things.

pub spread_behind : {A : Type 0} (room : ℕ) (first cost head : A → ℕ) (tell : List A → ℕ) (left : ℕ) (y : A) (page xs : List A)
    → ((x : A) (more : List A) → tell (x ∷ more) ≡ head x)
    → map tell (spread_on room first cost left (y ∷ page) xs) ≡ head y ∷ behind room first cost head left xs
spread_behind room first cost head tell left y page [] told = ap (λ n. n ∷ []) (told y page)
spread_behind {A} room first cost head tell left y page (x ∷ xs) told =
    elim (cases_lt left (cost x)) [
      | inl full ↦
          ap (map tell) (put_on_new room first cost left (y ∷ page) x xs full)
          ∙ (ap (λ (ns : List ℕ). tell (y ∷ page) ∷ ns) (spread_behind room first cost head tell (room - first x) x [] xs told)
          ∙ (ap (λ n. n ∷ head x ∷ behind room first cost head (room - first x) xs) (told y page)
          ∙ ap (λ (ns : List ℕ). head y ∷ ns) (sym (behind_new room first cost head left x xs full))))
      | inr fits ↦
          ap (map tell) (put_on_open room first cost left (y ∷ page) x xs fits)
          ∙ (spread_behind room first cost head tell (left - cost x) y (page ++ (x ∷ [])) xs told
          ∙ ap (λ (ns : List ℕ). head y ∷ ns) (sym (behind_open room first cost head left x xs fits)))
    ]

-- the same of an open page that may have nothing yet
pub spread_from : {A : Type 0} (room : ℕ) (first cost head : A → ℕ) (tell : List A → ℕ) (left : ℕ) (xs : List A)
    → ((x : A) (more : List A) → tell (x ∷ more) ≡ head x)
    → (c : ℕ) × (map tell (spread_on room first cost left [] xs) ≡ c ∷ behind room first cost head left xs)
spread_from room first cost head tell left [] told = (tell [], refl)
spread_from {A} room first cost head tell left (x ∷ xs) told =
    elim (cases_lt left (cost x)) [
      | inl full ↦ (
        tell [],
        ap (map tell) (put_on_new room first cost left [] x xs full)
            ∙ (ap (λ (ns : List ℕ). tell [] ∷ ns) (spread_behind room first cost head tell (room - first x) x [] xs told)
            ∙ ap (λ (ns : List ℕ). tell [] ∷ ns) (sym (behind_new room first cost head left x xs full))),
      )
      | inr fits ↦ (
        head x,
        ap (map tell) (put_on_open room first cost left [] x xs fits)
            ∙ (spread_behind room first cost head tell (left - cost x) x [] xs told
            ∙ ap (λ (ns : List ℕ). head x ∷ ns) (sym (behind_open room first cost head left x xs fits))),
      )
    ]

-- how many pages there are
pub length-spread : {A : Type 0} (room : ℕ) (first cost head : A → ℕ) (left : ℕ) (page xs : List A)
    → length (spread_on room first cost left page xs) ≡ suc (length (behind room first cost head left xs))
length-spread room first cost head left page [] = refl
length-spread {A} room first cost head left page (x ∷ xs) =
    elim (cases_lt left (cost x)) [
      | inl full ↦
          ap length (put_on_new room first cost left page x xs full)
          ∙ (ap suc (length-spread room first cost head (room - first x) (x ∷ []) xs)
          ∙ ap (λ (ns : List ℕ). suc (length ns)) (sym (behind_new room first cost head left x xs full)))
      | inr fits ↦
          ap length (put_on_open room first cost left page x xs fits)
          ∙ (length-spread room first cost head (left - cost x) (page ++ (x ∷ [])) xs
          ∙ ap (λ (ns : List ℕ). suc (length ns)) (sym (behind_open room first cost head left x xs fits)))
    ]

-- things by what they take
pub behind-map : {A B : Type 0} (f : A → B) (room : ℕ) (first cost head : B → ℕ) (left : ℕ) (xs : List A)
    → behind room first cost head left (map f xs) ≡ behind room (λ x. first (f x)) (λ x. cost (f x)) (λ x. head (f x)) left xs
behind-map f room first cost head left [] = refl
behind-map {A} {B} f room first cost head left (x ∷ xs) =
    let first_of : A → ℕ = λ y. first (f y) in
    let cost_of : A → ℕ = λ y. cost (f y) in
    let head_of : A → ℕ = λ y. head (f y) in
    elim (cases_lt left (cost (f x))) [
      | inl full ↦
          behind_new room first cost head left (f x) (map f xs) full
          ∙ (ap (λ (ns : List ℕ). head (f x) ∷ ns) (behind-map f room first cost head (room - first (f x)) xs)
          ∙ sym (behind_new room first_of cost_of head_of left x xs full))
      | inr fits ↦
          behind_open room first cost head left (f x) (map f xs) fits
          ∙ (behind-map f room first cost head (left - cost (f x)) xs
          ∙ sym (behind_open room first_of cost_of head_of left x xs fits))
    ]

-- all of them are so where all heads are
pub All-behind : {A : Type 0} (P : ℕ → Type 0) (room : ℕ) (first cost head : A → ℕ) (left : ℕ) (xs : List A) → All (λ x. P (head x)) xs
    → All P (behind room first cost head left xs)
All-behind P room first cost head left [] all = All-nil P
All-behind {A} P room first cost head left (x ∷ xs) all =
    let rest : All (λ y. P (head y)) xs = All-tail (λ y. P (head y)) x xs all in
    elim (cases_lt left (cost x)) [
      | inl full ↦
          rw (behind_new room first cost head left x xs full)
          (All-cons P (head x) (behind room first cost head (room - first x) xs) (All-head (λ y. P (head y)) x xs all)
          (All-behind P room first cost head (room - first x) xs rest))
      | inr fits ↦
          rw (behind_open room first cost head left x xs fits) (All-behind P room first cost head (left - cost x) xs rest)
    ]

-- Things that take the same.

abbrev pub self : ℕ → ℕ
self c = c

-- those that fit together are all put on the open page
pub behind_fit : (room : ℕ) (first : ℕ → ℕ) (n c left : ℕ) (rest : List ℕ) → n * c ≤ left
    → behind room first self self left (replicate n c ++ rest) ≡ behind room first self self (left - n * c) rest
behind_fit room first zero c left rest fits = ap (λ l. behind room first self self l rest) (let e : left ≡ left - 0 * c = omega arith in e)
behind_fit room first (suc n) c left rest fits = grind (arith, behind_open, behind_fit room first n c (left - c) rest (omega (arith, fits)))

-- Where the open page has no room for one, those that fit together fill a new page.
pub behind_page : (room : ℕ) (first : ℕ → ℕ) (some c left : ℕ) (rest : List ℕ) → first c ≡ c → left < c → 0 < some → some * c ≤ room
    → behind room first self self left (replicate some c ++ rest) ≡ c ∷ behind room first self self (room - some * c) rest
behind_page room first zero c left rest first_is none some_is fits = absurd (omega (arith, some_is))
behind_page room first (suc some) c left rest first_is none some_is fits = grind (arith, behind_new, behind_fit)

-- Where also a page has room for `each` and no more: of `full * each` and some, `full` pages are filled, and the some stand on one more.
pub behind_full : (room : ℕ) (first : ℕ → ℕ) (full each some c left : ℕ) (rest : List ℕ) → first c ≡ c → left < c → 0 < some → some ≤ each
    → each * c ≤ room → room < each * c + c
    → behind room first self self left (replicate (full * each + some) c ++ rest)
    ≡ replicate (suc full) c ++ behind room first self self (room - some * c) rest
behind_full room first zero each some c left rest first_is none some_is few within beyond = grind (arith, mul-le, behind_page)
behind_full room first (suc full) each some c left rest first_is none some_is few within beyond =
    let e : suc full * each + some ≡ each + (full * each + some) = omega arith in
    let split : replicate (suc full * each + some) c ++ rest ≡ replicate each c ++ (replicate (full * each + some) c ++ rest) =
    ap (λ n. replicate n c ++ rest) e
    ∙ (ap (λ (ns : List ℕ). ns ++ rest) (sym (replicate-append-replicate each (full * each + some) c))
    ∙ append_assoc (replicate each c) (replicate (full * each + some) c) rest) in
    ap (behind room first self self left) split
    ∙ (behind_page room first each c left (replicate (full * each + some) c ++ rest) first_is none (omega (arith, some_is, few)) within
    ∙ ap (λ (ns : List ℕ). c ∷ ns)
    (behind_full room first full each some c (room - each * c) rest first_is (omega (arith, within, beyond)) some_is few within beyond))

-- Levels.

pub heads_of_items : (room first c : ℕ) (cs : List ℕ)
    → map (first_or 0) (spread_items room first (c ∷ cs)) ≡ c ∷ behind room (λ (x : ℕ). first) self self (room - first) cs
heads_of_items room first c cs = spread_behind room (λ (x : ℕ). first) self self (first_or 0) (room - first) c [] cs (λ x more. refl)

pub level_on : (most room first c : ℕ) (cs : List ℕ) → 0 < length cs
    → pages_over (suc most) room first (c ∷ cs)
    ≡ suc (length (behind room (λ (x : ℕ). first) self self (room - first) cs))
    + pages_over most room first (c ∷ behind room (λ (x : ℕ). first) self self (room - first) cs)
level_on most room first c cs some =
    let many : 1 < length (c ∷ cs) = omega (arith, some) in
    rw (lt-leb (length (c ∷ cs)) 1 many)
    (ap (λ n. n + pages_over most room first (map (first_or 0) (spread_items room first (c ∷ cs))))
    (length-spread room (λ (x : ℕ). first) self self (room - first) (c ∷ []) cs)
    ∙ ap (λ (ns : List ℕ). suc (length (behind room (λ (x : ℕ). first) self self (room - first) cs)) + pages_over most room first ns)
    (heads_of_items room first c cs))

-- Where two items fit a page, a level has at most half as many pages as the one below, rounded up.
halved : (room first : ℕ) (cs : List ℕ) → All (λ c. c ≤ room - first) cs
    → (2 * length (behind room (λ (x : ℕ). first) self self (room - first) cs) ≤ length cs)
    × ((left : ℕ) → 2 * length (behind room (λ (x : ℕ). first) self self left cs) ≤ length cs + 1)
halved room first [] all = (omega arith, λ left. omega arith)
halved room first (c ∷ cs) all =
    grind (arith, All-head, All-tail, behind_open, cases_lt, behind_new, halved room first cs (All-tail (λ (x : ℕ). x ≤ room - first) c cs all))

pub level_halves : (room first : ℕ) (cs : List ℕ) → All (λ c. c ≤ room - first) cs
    → 2 * length (behind room (λ (x : ℕ). first) self self (room - first) cs) ≤ length cs
level_halves room first cs all = (halved room first cs all).0

-- so all levels have at most twice as many pages as there are items
pub levels_few : (most room first c : ℕ) (cs : List ℕ) → All (λ c. c ≤ room - first) cs
    → pages_over most room first (c ∷ cs) ≤ 2 * length cs
levels_few zero room first c cs all = omega arith
levels_few (suc most) room first c [] all = omega arith
levels_few (suc most) room first c (d ∷ ds) all =
    let above : List ℕ = behind room (λ (x : ℕ). first) self self (room - first) (d ∷ ds) in
    let step = level_on most room first c (d ∷ ds) (omega arith) in
    let half = level_halves room first (d ∷ ds) all in
    let small = All-behind (λ (x : ℕ). x ≤ room - first) room (λ (x : ℕ). first) self self (room - first) (d ∷ ds) all in
    let rest = levels_few most room first c above small in
    omega (arith, step, half, rest)

-- Items that take the same: of `k` behind the first, one for each `room / c` is the first of its page.
pub behind_same : (room k each c : ℕ) → 0 < c → 0 < each → each * c ≤ room → room < each * c + c
    → behind room (λ (x : ℕ). c) self self (room - c) (replicate k c) ≡ replicate (k / each) c
behind_same room k each c positive some within beyond =
    let first : ℕ → ℕ = λ x. c in
    let split : suc k ≡ (k / each) * each + suc (k % each) = omega arith in
    let small : suc (k % each) ≤ each = omega arith in
    let start : behind room first self self 0 (replicate (suc k) c) ≡ c ∷ behind room first self self (room - c) (replicate k c) =
    behind_new room first self self 0 c (replicate k c) positive in
    let whole : behind room first self self 0 (replicate (suc k) c) ≡ replicate (suc (k / each)) c =
    ap (behind room first self self 0) (sym (append-nil (replicate (suc k) c)))
    ∙ (ap (λ n. behind room first self self 0 (replicate n c ++ [])) split
    ∙ (behind_full room first (k / each) each (suc (k % each)) c 0 [] refl positive (omega arith) small within beyond
    ∙ append-nil (replicate (suc (k / each)) c))) in
    let both : c ∷ behind room first self self (room - c) (replicate k c) ≡ c ∷ replicate (k / each) c = sym start ∙ whole in
    cc

-- a level of them, by division
pub equal_level : (most room each c k : ℕ) → 0 < c → 0 < each → each * c ≤ room → room < each * c + c → 0 < k
    → pages_over (suc most) room c (replicate (suc k) c) ≡ suc (k / each) + pages_over most room c (replicate (suc (k / each)) c)
equal_level most room each c k positive some within beyond more = grind (arith, behind_same, level_on, length-replicate)
