-- The pages of the buckets of a table.
use Rattle.std.proofs.Common.{◌≡◌, ◌⊎◌, ℕ, zero, suc, ◌+◌, ◌<◌, ◌≤◌, Bool, true, false, cond, [], ◌∷◌, ap, ◌∙◌, arith, refl, sym, subst, inl, inr}
use Rattle.std.specs.Prelude.{◌==◌, ◌&&◌, ◌||◌, not, nat_lt, Some}
use Rattle.std.specs.List.{Contains, flat_map, range_with_len}
use Rattle.std.proofs.lemmas.List.Elements.{Contains-append_right}
use Rattle.std.proofs.lemmas.Bool.{eq-eqb, eqb-true, not-false, or_parts}
use Rattle.bdb_law_whole.specs.of_format.declared.metadata.HashMeta.{HashMeta}
use Rattle.bdb_law_whole.specs.of_format.declared.references.Sort.{Sort}
use Rattle.bdb_law_whole.specs.of_format.declared.references.Sort.TheVariants.{Bucket, HashNext}
use Rattle.bdb_law_whole.specs.of_format.Terms.{File, Hash, HashFields, Item, Listed, Meta, Page, Zero, asked_by, chain_in, content_targets}
use Rattle.bdb_law_whole.specs.of_format.Terms.{BtreeFields, QueueFields, contents_in, first_holder, first_page, has_type, header_in, is_meta}
use Rattle.bdb_law_whole.specs.of_format.Terms.{is_head_reference, is_zero_page, next_of, owners, page_at, targets_in, type_in, unless_zero}
use Rattle.bdb_law_whole.proofs.of_format.MemberLemmas.{first_member, in_map, in_range, member_cases, no_member}
use Rattle.bdb_homes.specs.Claims.{Below, below_in}
use Rattle.bdb_homes.specs.Homes.{adjoins, ahead, behind, home, is_alike, led, own_home, page_after}
use Rattle.bdb_homes.specs.Homes.{page_before, previous_of}
use Rattle.bdb_homes.specs.Homes.{spread}
use Rattle.bdb_homes.specs.declared.home.Home.{Home}
use Rattle.bdb_law_whole.proofs.of_law_sums.HashLemmas.{no_turn, turn_is}
use Rattle.bdb_law_homes.specs.Led.{BucketsAreOfTables, IsLed, IsOwned}
use Rattle.bdb_law_homes.proofs.BelowLemmas.{IsReferred, below_target, target_referred}
use Rattle.bdb_law_homes.proofs.AskedLemmas.{IsAsked, asked_fits, had_first, low, only_types, own_top}
use Rattle.bdb_law_homes.proofs.LedLemmas.{named_inside}
use Rattle.bdb_law_homes.proofs.NextLemmas.{next_is_led}

-- What a table and the pages of a bucket ask of a page.

-- a page of a bucket that is there
record IsOfBucket (file : File) (q : ℕ) : Type 0 where
  above : (q == 0) ≡ false
  inside : q ≤ file.last
  page : (page_at file q ≡ Zero) ⊎ ((view : Listed Item) × (page_at file q ≡ Hash view))

hash_or_zero : (page : Page) → (has_type (2 ∷ 13 ∷ []) (type_in page) || is_zero_page page) ≡ true → (page ≡ Zero) ⊎ ((view : Listed Item) × (page ≡ Hash view))
hash_or_zero Zero is = inl refl
hash_or_zero (Hash view) is = inr (view, refl)
hash_or_zero (Meta (BtreeFields meta)) is = absurd cc
hash_or_zero (Meta (HashFields meta)) is = absurd cc
hash_or_zero (Meta (QueueFields meta)) is = absurd cc
hash_or_zero page is = absurd cc

of_zero : (a c : Bool) → not (a || (true && c)) ≡ false → (a || c) ≡ true
of_zero true c is = refl
of_zero false true is = refl
of_zero false false is = absurd cc

of_types : (a c : Bool) → not (a || (false && c)) ≡ false → (a || c) ≡ true
of_types true c is = refl
of_types false c is = absurd cc

first_is : (file : File) (meta b : ℕ) (table : HashMeta) → IsOwned file → page_at file meta ≡ Meta (HashFields table)
    → Contains (below_in (page_at file meta)) (record { sort = Bucket; page = first_page b table.spares; before = 0 })
    → Contains (targets_in meta (page_at file meta)) (Bucket, first_page b table.spares)
    → IsOfBucket file (first_page b table.spares)
first_is file meta b table is page at named =
    let q : ℕ = first_page b table.spares in
    let below : Below = record { sort = Bucket; page = q; before = 0 } in
    let asked : IsAsked file meta q (asked_by meta (page_at file meta) Bucket) = asked_fits file meta below is (named_inside file meta below is at) named in
    let range = or_parts (q == 0) (nat_lt file.last q) asked.fail.0 in
    record {
      above = range.0;
      inside = low file.last q range.1;
      page = hash_or_zero (page_at file q) (of_zero (has_type (2 ∷ 13 ∷ []) (type_in (page_at file q))) (is_zero_page (page_at file q)) asked.fail.1.0);
    }

-- The next page of a bucket.

named_next : (p : ℕ) (view : Listed Item) → (view.header.next == 0) ≡ false → Contains (targets_in p (Hash view)) (HashNext, view.header.next)
named_next p view more =
    Contains-append_right (flat_map content_targets (contents_in (Hash view))) (unless_zero HashNext view.header.next) (HashNext, view.header.next)
    (there (view.header.next == 0) more)
  where
    there : (b : Bool) → b ≡ false → Contains {X = Sort × ℕ} (cond b [] ((HashNext, view.header.next) ∷ [])) (HashNext, view.header.next)
    there true is = absurd cc
    there false is = first_member (HashNext, view.header.next) []

record IsNextOf (file : File) (p q : ℕ) : Type 0 where
  adjoins : adjoins file p q ≡ true
  held : first_holder (owners file q) ≡ Some p
  of_bucket : IsOfBucket file q

-- pages of buckets that name each other
beside : (file : File) (p q : ℕ) (one two : Listed Item) → (p == 0) ≡ false → (q == 0) ≡ false → page_at file p ≡ Hash one → page_at file q ≡ Hash two
    → next_of file p ≡ q → previous_of file q ≡ p → adjoins file p q ≡ true
beside file p q one two above below first second next previous =
    ap (λ b. not b && not (q == 0) && is_alike (page_at file p) (page_at file q) && next_of file p == q && previous_of file q == p) above
    ∙ (ap (λ b. not b && is_alike (page_at file p) (page_at file q) && next_of file p == q && previous_of file q == p) below
    ∙ (ap (λ page. is_alike page (page_at file q) && next_of file p == q && previous_of file q == p) first
    ∙ (ap (λ page. is_alike (Hash one) page && next_of file p == q && previous_of file q == p) second
    ∙ (ap (λ b. b && previous_of file q == p) (eq-eqb (next_of file p) q next) ∙ eq-eqb (previous_of file q) p previous))))

is_hash : (page : Page) → has_type (2 ∷ 13 ∷ []) (type_in page) ≡ true → (view : Listed Item) × (page ≡ Hash view)
is_hash (Hash view) is = (view, refl)
is_hash (Meta (BtreeFields meta)) is = absurd cc
is_hash (Meta (HashFields meta)) is = absurd cc
is_hash (Meta (QueueFields meta)) is = absurd cc
is_hash page is = absurd cc

next_is : (file : File) (p : ℕ) (view : Listed Item) → IsOwned file → IsOfBucket file p → page_at file p ≡ Hash view → (next_of file p == 0) ≡ false
    → IsNextOf file p (next_of file p)
next_is file p view is of page more =
    let q : ℕ = next_of file p in
    let here : q ≡ view.header.next = ap (λ page. (header_in page).next) page in
    let below : Below = record { sort = HashNext; page = q; before = 0 } in
    let named : Contains (targets_in p (page_at file p)) (HashNext, q) =
    subst (λ n. Contains (targets_in p (page_at file p)) (HashNext, n)) (sym here)
    (subst (λ pg. Contains (targets_in p pg) (HashNext, view.header.next)) (sym page) (named_next p view (ap (λ n. n == 0) (sym here) ∙ more))) in
    let by : IsReferred file p below = target_referred file p below is.kind named in
    let asked : IsAsked file p q (asked_by p (page_at file p) HashNext) = asked_fits file p below is of.inside named in
    let range = or_parts (q == 0) (nat_lt file.last q) asked.fail.0 in
    let hash : (has_type (2 ∷ 13 ∷ []) (type_in (page_at file q)) || is_zero_page (page_at file q)) ≡ true =
    of_types (has_type (2 ∷ 13 ∷ []) (type_in (page_at file q))) (is_zero_page (page_at file q)) asked.fail.1.0 in
    let next = is_hash (page_at file q) (only_types (has_type (2 ∷ 13 ∷ []) (type_in (page_at file q))) (is_zero_page (page_at file q)) asked.fail.1.0) in
    let previous : previous_of file q ≡ p = sym (eqb-true p (previous_of file q) (not-false (p == previous_of file q) asked.fail.1.1.1.0)) in
    record {
      adjoins = beside file p q view next.0 of.above more page next.1 refl previous;
      held = is.alone p q by.reference of.inside by.held by.target (ap is_head_reference by.sort);
      of_bucket = record { above = more; inside = low file.last q range.1; page = hash_or_zero (page_at file q) hash };
    }

-- Along a bucket.

-- a page is led in so many turns and in more
abbrev AreLed : File → ℕ → ℕ → ℕ → Type 0
AreLed file k p meta = (turns : ℕ) → k ≤ turns → IsLed file turns p meta

led_on : (file : File) (k p q meta : ℕ) (view : Listed Item) → IsOwned file → page_at file p ≡ Hash view → adjoins file p q ≡ true
    → first_holder (owners file q) ≡ Some p → AreLed file k p meta → AreLed file (suc k) q meta
led_on file k p q meta view is page beside held led zero few = absurd (omega (arith, few))
led_on file k p q meta view is page beside held led (suc turns) few =
    next_is_led file p q turns meta view is page beside held (led turns (omega (arith, few)))

-- no page follows a zero page
no_next : (file : File) (q : ℕ) → page_at file q ≡ Zero → (next_of file q == 0) ≡ true
no_next file q zeros = ap (λ page. (header_in page).next == 0) zeros

-- a page along a bucket is led in no more turns than pages come before it
record IsAlong (file : File) (most p meta : ℕ) : Type 0 where
  turns : ℕ
  few : turns < most
  led : AreLed file turns p meta

along : (turns k : ℕ) (file : File) (q p meta : ℕ) → IsOwned file → IsOfBucket file q → AreLed file k q meta → Contains (chain_in turns file q) p
    → IsAlong file (k + turns) p meta
along zero k file q p meta is of led at = absurd (no_member (chain_in zero file q) p (no_turn file q) at)
along (suc turns) k file q p meta is of led at =
    elim (member_cases q (cond (next_of file q == 0) [] (chain_in turns file (next_of file q))) p (subst (λ ps. Contains ps p) (turn_is turns file q) at)) [
      | inl same ↦ record { turns = k; few = omega arith; led = subst (λ x. AreLed file k x meta) same led }
      | inr later ↦ further (along turns (suc k) file (next_of file q) p meta is) (next_of file q == 0) refl later
    ]
  where
    further : (IsOfBucket file (next_of file q) → AreLed file (suc k) (next_of file q) meta → Contains (chain_in turns file (next_of file q)) p
        → IsAlong file (suc k + turns) p meta)
        → (b : Bool) → (next_of file q == 0) ≡ b → Contains (cond b [] (chain_in turns file (next_of file q))) p → IsAlong file (k + suc turns) p meta
    further rest true last none = absurd (no_member [] p refl none)
    further rest false more there = elim of.page [
      | inl zeros ↦ (let both : true ≡ false = sym (no_next file q zeros) ∙ more in absurd cc)
      | inr hash ↦
          let next : IsNextOf file q (next_of file q) = next_is file q hash.0 is of hash.1 more in
          let found : IsAlong file (suc k + turns) p meta =
          rest next.of_bucket (led_on file k q (next_of file q) meta hash.0 is hash.1 next.adjoins next.held led) there in
          record { turns = found.turns; few = omega (arith, found.few); led = found.led }
    ]

-- a page that is led has that home
led_home : (file : File) (p meta : ℕ) → IsLed file file.count p meta → home file p ≡ Some (record { meta = meta; start = 0 })
unfolding home led
led_home file p meta led =
    let here : spread (own_home file) (page_before file) (λ p q. behind file q) file.count p ≡ Some (record { meta = meta; start = 0 }) =
    led.led ∙ ap (λ (h : Home). Some h) (same led.home led.same led.first) in
    had_first (λ p. spread (own_home file) (page_before file) (λ p q. behind file q) file.count p) (page_after file) (λ p q. ahead file p) file.count p
    (record { meta = meta; start = 0 }) here
  where
    same : (h : Home) → h.meta ≡ meta → h.start ≡ 0 → h ≡ record { meta = meta; start = 0 }
    same h one two = ap (λ m. record { meta = m; start = h.start }) one ∙ ap (λ s. record { meta = meta; start = s }) two

pub buckets_are_of_tables : BucketsAreOfTables
buckets_are_of_tables file meta b p table is page within at =
    let q : ℕ = first_page b table.spares in
    let below : Below = record { sort = Bucket; page = q; before = 0 } in
    let named : Contains (below_in (page_at file meta)) below =
    subst (λ page. Contains (below_in page) below) (sym page)
    (in_map (λ b. record { sort = Bucket; page = first_page b table.spares; before = 0 }) (range_with_len 0 (table.max_bucket + 1)) b
    (in_range 0 (table.max_bucket + 1) b (omega arith) (omega (arith, within)))) in
    let target : Contains (targets_in meta (page_at file meta)) (Bucket, q) = below_target meta (page_at file meta) below named in
    let own : own_home file q ≡ Some (record { meta = meta; start = 0 }) = own_top file meta below is (ap is_meta page) named in
    let found : IsAlong file (0 + file.count) p meta =
    along file.count 0 file q p meta is (first_is file meta b table is page named target) (λ turns few. top turns own) at in
    led_home file p meta (found.led file.count (omega (arith, found.few)))
  where
    top : (turns : ℕ) → own_home file (first_page b table.spares) ≡ Some (record { meta = meta; start = 0 }) → IsLed file turns (first_page b table.spares) meta
    top turns own = record {
      home = record { meta = meta; start = 0 };
      led = had_first (own_home file) (page_before file) (λ p q. behind file q) turns (first_page b table.spares) (record { meta = meta; start = 0 }) own;
      same = refl;
      first = refl;
    }
