-- The keys of a bucket, page by page.
use Rattle.std.proofs.Common.{◌≡◌, ◌⊎◌, ℕ, ◌+◌, ◌-◌, ◌<◌, ◌≤◌, Bool, true, List, [], ◌∷◌, ◌++◌, map, length, get_or, take, take-add, drop, None, append_assoc}
use Rattle.std.proofs.Common.{arith, refl, sym, ◌∙◌, ap, subst, inl, inr, length-append, length-drop, ◌==◌, ◌&&◌, not, sum_by}
use Rattle.bdb_mkhash.proofs.Common.{and_parts, cases_eq, cases_lt, eq-eqb, eqb-true, ne_eqb, or_cases, or_left, or_right, drop_all, drop-drop, drop_more, get_or-drop, get_or-map, map-append}
use Rattle.bdb_mkhash.proofs.Common.{take_all, sum_by-append, Content, File, Hash, Item, Listed, NoType, Overflow, Page, abstract_page, is_page_size, page_at, page_code, IsCounted, IsLater}
use Rattle.bdb_mkhash.proofs.Common.{IsSamePage, between, between_is, is_between, Built, bytes_of, file_so_far, spread_on, page_room, later_before, IsHashIn, BucketStands, Keyed, PlacedUnit}
use Rattle.bdb_mkhash.proofs.Common.{UnitsStand, contents_on, unit_of, keyed_own_pages, keyed_cost, IsBucketFilled, IsBucketOpen, IsFollowed, IsPageFilled, closed_of, no_unit, of_bucket, room_on}
use Rattle.bdb_mkhash.proofs.Common.{HoldsContentsOn}
use Rattle.bdb_mkhash.proofs.FillLemmas.{contents_even, unit_fits}
use Rattle.bdb_mkhash.proofs.PageLemmas.{hash_pages_are_formed, hash_pages_stand}
use Rattle.bdb_mkhash.proofs.SpreadLemmas.{spread_over, spread_taken}

-- Sets of pages.

pub bucket_is : (p a b q : ℕ) → of_bucket p a b q ≡ true → (q ≡ p) ⊎ ((a ≤ q) × (q < b))
bucket_is p a b q is = elim (or_cases (q == p) (between a b q) is) [ inl here ↦ inl (eqb-true q p here) | inr there ↦ inr (between_is a b q there) ]

pub is_first : (p a b : ℕ) → of_bucket p a b p ≡ true
is_first p a b = or_left _ (between a b p) (eq-eqb p p refl)

pub is_further : (p a b q : ℕ) → a ≤ q → q < b → of_bucket p a b q ≡ true
is_further p a b q low high = or_right (q == p) _ (is_between a b q low high)

is_closed : (p a b current q : ℕ) → of_bucket p a b q ≡ true → (q ≡ current → ⊥) → closed_of p a b current q ≡ true
is_closed p a b current q is other = ap (λ t. t && not (q == current)) is ∙ ap not (ne_eqb q current other)

closed_is : (p a b current q : ℕ) → closed_of p a b current q ≡ true → (of_bucket p a b q ≡ true) × (q ≡ current → ⊥)
closed_is p a b current q is = grind (arith, and_parts, eq-eqb)

-- A page in a later file.

same_hash : (old new : Page) (page : Listed Item) → IsSamePage old new → old ≡ Hash page → new ≡ old
same_hash old new page (inl same) is = same
same_hash old new page (inr more) is = let both : Overflow more.header more.piece ≡ Hash page = sym more.before ∙ is in absurd (cc both)

-- a page that holds items is one of the later file
pub page_stands : (built : Built) (p previous next : ℕ) (contents : List Content) (pages : ℕ → Bool) (g : File) → p < length built.pages
    → HoldsContentsOn built p previous next contents → pages p ≡ true → IsLater pages (file_so_far built) g → IsHashIn g p previous next contents
page_stands built p previous next contents pages g low holds at later =
    let here : page_at (file_so_far built) p ≡ abstract_page built.order (bytes_of built p) = get_or-map (abstract_page built.order) built.pages p
    [] NoType low in
    hash_pages_stand built p previous next contents g holds
    (same_hash (page_at (file_so_far built) p) (page_at g p) holds.page (later.same p at) (here ∙ holds.is) ∙ here)

pub holds_kept : (old new : Built) (p previous next : ℕ) (contents : List Content) → new.order ≡ old.order → bytes_of new p ≡ bytes_of old p
    → HoldsContentsOn old p previous next contents → HoldsContentsOn new p previous next contents
holds_kept old new p previous next contents order same holds = grind arith

-- The first page.

pub bucket_begun : (p : ℕ) (old now : Built) (sorted : Bool) (units : List Keyed) (n : ℕ) → p < length old.pages → HoldsContentsOn old p 0 0 []
    → IsPageFilled p old now sorted units n → IsBucketOpen p old now sorted units p n
bucket_begun p old now sorted units n there empty filled =
    let grows : length old.pages ≤ length now.pages = filled.put.kept.grows in
    let room_size : ℕ = page_room old.size in
    let cost : Keyed → ℕ = keyed_cost old.size in
    let taken : room_on now p + sum_by cost (take n units) ≡ room_size = filled.put.room in
    let room : room_on now p + sum_by cost (map unit_of filled.put.placed) ≡ room_size = ap (λ us. room_on now p + sum_by cost us) filled.put.are ∙ taken in
    record {
      few = filled.few;
      kept = filled.put.kept;
      there = omega (arith, there, grows);
      own = is_first p (length old.pages) (length now.pages);
      start = length old.pages;
      from = omega arith;
      up = grows;
      behind = inl (refl, refl);
      previous = 0;
      last = filled.put.placed;
      holds = filled.put.hold 0 0 empty;
      room = room;
      last_stands = filled.put.stands;
      closed = [];
      stands = λ g counted later beyond us more stands. stands;
      formed = λ q at.
          let is = closed_is p (length old.pages) (length now.pages) p q at in
          elim (bucket_is p (length old.pages) (length now.pages) q is.0) [
            | inl first ↦ absurd (is.1 first)
            | inr further ↦ filled.put.formed q further.0 further.1
          ];
      spread =
          spread_taken room_size cost cost room_size [] units n (omega (arith, taken))
          ∙ (ap (λ k. spread_on room_size cost cost k (take n units) (drop n units))
          (let e : room_size - sum_by cost (take n units) ≡ room_on now p = omega (arith, taken) in e)
          ∙ ap (λ us. spread_on room_size cost cost (room_on now p) us (drop n units)) (sym filled.put.are));
      full = filled.full;
      count = let count = filled.put.count in omega (arith, count);
    }

-- The next page.

module _ (p : ℕ) (old now mid new : Built) (sorted : Bool) (units : List Keyed) (current done next m : ℕ) (low : p < length old.pages)
    (legal : is_page_size old.size ≡ true) (was : IsBucketOpen p old now sorted units current done) (left : done < length units)
    (followed : IsFollowed current now mid next) (filled : IsPageFilled next mid new sorted (drop done units) m) where
  abbrev a : ℕ
  a = length old.pages

  abbrev n : ℕ
  n = length now.pages

  abbrev d : ℕ
  d = length new.pages

  size_is : mid.size ≡ old.size
  size_is = followed.kept.size ∙ was.kept.size

  order_is : new.order ≡ now.order
  order_is = filled.put.kept.order ∙ followed.kept.order

  grows_old : a ≤ n
  grows_old = was.kept.grows

  grows_new : n + 1 ≤ d
  grows_new = let count = followed.count in let more = filled.put.kept.grows in omega (arith, count, more)

  number : next ≡ n
  number = followed.number

  current_low : current < n
  current_low = was.there

  -- pages but the open one and the next stay
  stay : (q : ℕ) → q < n → (q ≡ current → ⊥) → bytes_of new q ≡ bytes_of now q
  stay q under other =
      let count = followed.count in
      filled.put.kept.same q (omega (arith, under, count)) (λ e. omega (arith, e, under, number)) ∙ followed.kept.same q under other

  -- the open page names the next
  closes : HoldsContentsOn new current was.previous next (contents_on was.last)
  closes =
      let count = followed.count in
      holds_kept mid new current was.previous next (contents_on was.last) filled.put.kept.order
      (filled.put.kept.same current (omega (arith, current_low, count)) (λ e. omega (arith, e, current_low, number)))
      (followed.hold was.previous 0 (contents_on was.last) was.holds)

  -- the open page stands before its own pages
  before_own : current < was.start
  before_own = elim was.behind [ inl first ↦ omega (arith, first.0, first.1, low) | inr further ↦ omega (arith, further.1) ]

  in_bucket : (q : ℕ) → of_bucket p a n q ≡ true → of_bucket p a (next + 1) q ≡ true
  in_bucket q is = elim (bucket_is p a n q is) [
    | inl first ↦ subst (λ k. of_bucket p a (next + 1) k ≡ true) (sym first) (is_first p a (next + 1))
    | inr further ↦ is_further p a (next + 1) q further.0 (omega (arith, further.1, number))
  ]

  last_later : (g : File) → IsLater (closed_of p a (next + 1) next) (file_so_far new) g → IsLater (between was.start n) (file_so_far now) g
  last_later g later =
      let from = was.from in
      later_before now new (between was.start n) (closed_of p a (next + 1) next) g order_is (omega (arith, grows_new))
      (λ q at. let is = between_is was.start n q at in
      is_closed p a (next + 1) next q (is_further p a (next + 1) q (omega (arith, is.0, from)) (omega (arith, is.1, number)))
      (λ e. omega (arith, e, is.1, number)))
      (λ q at. let is = between_is was.start n q at in (is.1, stay q is.1 (λ e. omega (arith, e, is.0, before_own)))) later

  closed_later : (g : File) → IsLater (closed_of p a (next + 1) next) (file_so_far new) g
      → IsLater (closed_of p a was.start current) (file_so_far now) g
  closed_later g later =
      let up = was.up in
      later_before now new (closed_of p a was.start current) (closed_of p a (next + 1) next) g order_is (omega (arith, grows_new))
      (λ q at. let is = closed_is p a was.start current q at in elim (bucket_is p a was.start q is.0) [
        | inl first ↦ is_closed p a (next + 1) next q (subst (λ k. of_bucket p a (next + 1) k ≡ true) (sym first) (is_first p a (next + 1)))
            (λ e. omega (arith, e, first, number, low, grows_old))
        | inr further ↦ is_closed p a (next + 1) next q (is_further p a (next + 1) q further.0 (omega (arith, further.1, up, number)))
            (λ e. omega (arith, e, further.1, up, number))
      ])
      (λ q at. let is = closed_is p a was.start current q at in elim (bucket_is p a was.start q is.0) [
        | inl first ↦ (omega (arith, first, low, grows_old), stay q (omega (arith, first, low, grows_old)) is.1)
        | inr further ↦ (omega (arith, further.1, up), stay q (omega (arith, further.1, up)) is.1)
      ]) later

  closed_stands : (g : File) → IsCounted g → IsLater (closed_of p a (next + 1) next) (file_so_far new) g → (beyond : ℕ) (us : List PlacedUnit)
      (more : List (List PlacedUnit)) → BucketStands g sorted current next (next + 1) beyond (us ∷ more)
      → BucketStands g sorted 0 p a beyond ((was.closed ++ (was.last ∷ [])) ++ (us ∷ more))
  closed_stands g counted later beyond us more stands =
      subst (BucketStands g sorted 0 p a beyond) (sym (append_assoc was.closed (was.last ∷ []) (us ∷ more)))
      (was.stands g counted (closed_later g later) beyond was.last (us ∷ more) (
        next,
        page_stands new current was.previous next (contents_on was.last) (closed_of p a (next + 1) next) g (omega (arith, current_low, grows_new))
            closes
            (is_closed p a (next + 1) next current (in_bucket current was.own) (λ e. omega (arith, e, number, current_low))) later,
        subst (λ k. UnitsStand g sorted was.start k was.last) (sym number) (was.last_stands g counted (last_later g later)),
        stands,
      ))

  closed_formed : (q : ℕ) → closed_of p a d next q ≡ true → page_code new.order q (bytes_of new q) ≡ None
  closed_formed q at =
      let is = closed_is p a d next q at in
      elim (cases_eq q current) [
        | inl same ↦ subst (λ k. page_code new.order k (bytes_of new k) ≡ None) (sym same)
            (hash_pages_are_formed new.order (bytes_of new current) current was.previous next (contents_on was.last) closes (contents_even was.last))
        | inr other ↦ elim (cases_lt q n) [
          | inl below ↦
              ap (λ o. page_code o q (bytes_of new q)) order_is
              ∙ (ap (page_code now.order q) (stay q below other) ∙ was.formed q (is_closed p a n current q (old_bucket q below is.0) other))
          | inr above ↦ elim (bucket_is p a d q is.0) [
            | inl first ↦ absurd (omega (arith, first, above, low, grows_old))
            | inr further ↦
                let count = followed.count in filled.put.formed q (not_next q above is.1 count) further.1
          ]
        ]
      ]
    where
      old_bucket : (q : ℕ) → q < n → of_bucket p a d q ≡ true → of_bucket p a n q ≡ true
      old_bucket q below is = elim (bucket_is p a d q is) [
        | inl first ↦ subst (λ k. of_bucket p a n k ≡ true) (sym first) (is_first p a n)
        | inr further ↦ is_further p a n q further.0 below
      ]

      not_next : (q : ℕ) → n ≤ q → (q ≡ next → ⊥) → length mid.pages ≡ n + 1 → length mid.pages ≤ q
      not_next q above other count = elim (cases_eq q n) [
        | inl same ↦ absurd (other (same ∙ sym number))
        | inr more ↦ omega
            (arith, above, more, count)
      ]

  abbrev cost : Keyed → ℕ
  cost = keyed_cost old.size

  cost_same : (us : List Keyed) → sum_by (keyed_cost mid.size) us ≡ sum_by cost us
  cost_same us = ap (λ k. sum_by (keyed_cost k) us) size_is

  room_new : room_on new next + sum_by cost (take m (drop done units)) ≡ page_room old.size
  room_new =
      let room = filled.put.room in let same = cost_same (take m (drop done units)) in let size = ap page_room size_is in omega
      (arith, room, same, size)

  no_room : room_on now current < cost (get_or units done no_unit)
  no_room = elim was.full [ inl all ↦ absurd (omega (arith, all, left)) | inr full ↦ full.1 ]

  room_last : room_on now current + sum_by cost (map unit_of was.last) ≡ page_room old.size
  room_last = was.room

  spread_next : spread_on (page_room old.size) cost cost (room_on now current) (map unit_of was.last) (drop done units)
      ≡ map unit_of was.last ∷ spread_on (page_room old.size) cost cost (room_on new next) (map unit_of filled.put.placed) (drop (done + m) units)
  spread_next =
      let split = drop_more units done no_unit left in
      ap (spread_on (page_room old.size) cost cost (room_on now current) (map unit_of was.last)) split
      ∙ (spread_over (page_room old.size) cost (room_on now current) (map unit_of was.last) (drop (done + 1) units) (get_or units done no_unit)
      no_room
      (unit_fits old.size (get_or units done no_unit) legal)
      ∙ (ap (λ us. map unit_of was.last ∷ spread_on (page_room old.size) cost cost (page_room old.size) [] us) (sym split)
      ∙ ap (λ ps. map unit_of was.last ∷ ps)
      (spread_taken (page_room old.size) cost cost (page_room old.size) [] (drop done units) m (omega (arith, room_new))
      ∙ (ap (λ k. spread_on (page_room old.size) cost cost k (take m (drop done units)) (drop m (drop done units)))
      (let e : page_room old.size - sum_by cost (take m (drop done units)) ≡ room_on new next = omega (arith, room_new) in e)
      ∙ (ap (λ us. spread_on (page_room old.size) cost cost (room_on new next) us (drop m (drop done units))) (sym filled.put.are)
      ∙ ap (spread_on (page_room old.size) cost cost (room_on new next) (map unit_of filled.put.placed)) (drop-drop m done units))))))

  own_same : (us : List Keyed) → sum_by (keyed_own_pages mid.size sorted) us ≡ sum_by (keyed_own_pages old.size sorted) us
  own_same us = ap (λ k. sum_by (keyed_own_pages k sorted) us) size_is

  take_both : take (done + m) units ≡ take done units ++ take m (drop done units)
  take_both = take-add done m units

  few_more : done + m ≤ length units
  few_more = let few = filled.few in omega (arith, few, length-drop done units, left)

  pub bucket_more : IsBucketOpen p old new sorted units next (done + m)
  bucket_more = record {
    few = few_more;
    kept = record {
      size = filled.put.kept.size ∙ size_is;
      order = order_is ∙ was.kept.order;
      grows = omega (arith, grows_old, grows_new);
      same = λ q under other. stay q (omega (arith, under, grows_old)) (not_current q under other) ∙ was.kept.same q under other;
    };
    there = omega (arith, number, grows_new);
    own = is_further p a d next (omega (arith, number, grows_old)) (omega (arith, number, grows_new));
    start = next + 1;
    from = omega (arith, number, grows_old);
    up = omega (arith, number, grows_new);
    behind = inr (omega (arith, number, grows_old), refl);
    previous = current;
    last = filled.put.placed;
    holds = filled.put.hold current 0 followed.holds;
    room = ap (λ us. room_on new next + sum_by cost us) filled.put.are ∙ room_new;
    last_stands = λ g counted later.
        let count = followed.count in
        let e : length mid.pages ≡ next + 1 = omega (arith, count, number) in
        subst (λ k. UnitsStand g sorted k d filled.put.placed) e
        (filled.put.stands g counted (subst (λ k. IsLater (between k d) (file_so_far new) g) (sym e) later));
    closed = was.closed ++ (was.last ∷ []);
    stands = closed_stands;
    formed = closed_formed;
    spread =
        was.spread
        ∙ (ap (λ ps. map (map unit_of) was.closed ++ ps) spread_next
        ∙ (sym (append_assoc (map (map unit_of) was.closed) (map unit_of was.last ∷ []) _)
        ∙ ap (λ ps. ps ++ spread_on (page_room old.size) cost cost (room_on new next) (map unit_of filled.put.placed) (drop (done + m) units))
        (sym (map-append (map unit_of) was.closed (was.last ∷ [])))));
    full = elim filled.full [
      | inl all ↦ inl (omega (arith, all, length-drop done units, left))
      | inr full ↦
          let cost_is : keyed_cost mid.size (get_or (drop done units) m no_unit) ≡ cost (get_or units (done + m) no_unit) =
          ap (λ k. keyed_cost k (get_or (drop done units) m no_unit)) size_is ∙ ap cost (get_or-drop done units m no_unit) in
          let less = full.1 in
          inr (omega (arith, full.0, length-drop done units), omega (arith, less, cost_is))
    ];
    count =
        let before = was.count in
        let one = followed.count in
        let added = filled.put.count in
        let sums : sum_by (keyed_own_pages old.size sorted) (take (done + m) units)
        ≡ sum_by (keyed_own_pages old.size sorted) (take done units) + sum_by (keyed_own_pages old.size sorted) (take m (drop done units)) =
        ap (sum_by (keyed_own_pages old.size sorted)) take_both ∙ sum_by-append (keyed_own_pages old.size sorted) (take done units) (take m (drop done units))
        in
        omega (arith, before, one, added, sums, own_same (take m (drop done units)), length-append was.closed (was.last ∷ []));
  }
    where
      not_current : (q : ℕ) → q < a → (q ≡ p → ⊥) → q ≡ current → ⊥
      not_current q under other same = elim was.behind [
        | inl first ↦ other (same ∙ first.0)
        | inr further ↦ omega (arith, same, under, further.0)
      ]

  -- a page takes one key at least
  pub some_taken : 0 < m
  some_taken = elim filled.full [
    | inl all ↦ omega (arith, all, length-drop done units, left)
    | inr full ↦ elim (cases_lt 0 m) [
      | inl some ↦ some
      | inr none ↦
          let zero_is : m ≡ 0 = omega (arith, none) in
          let empty : sum_by cost (take m (drop done units)) ≡ 0 = ap (λ k. sum_by cost (take k (drop done units))) zero_is in
          let fits = unit_fits mid.size (get_or (drop done units) m no_unit) (ap is_page_size size_is ∙ legal) in
          let less = full.1 in
          let size = ap page_room size_is in
          absurd (omega (arith, room_new, empty, fits, less, size))
    ]
  ]

-- The whole bucket.

pub bucket_done : (p : ℕ) (old new : Built) (sorted : Bool) (units : List Keyed) (current done : ℕ) → p < length old.pages
    → IsBucketOpen p old new sorted units current done → done ≡ length units → IsBucketFilled p old new sorted units
bucket_done p old new sorted units current done low is all =
    let a : ℕ = length old.pages in
    let d : ℕ = length new.pages in
    let grows : a ≤ d = is.kept.grows in
    record {
      kept = is.kept;
      pages = is.closed ++ (is.last ∷ []);
      spread =
          map-append (map unit_of) is.closed (is.last ∷ [])
          ∙ sym (is.spread ∙ ap (λ us. map (map unit_of) is.closed
          ++ spread_on (page_room old.size) (keyed_cost old.size) (keyed_cost old.size) (room_on new current) (map unit_of is.last) us)
          (drop_all done units (omega (arith, all))));
      stands = λ g counted later.
          let up = is.up in
          let from = is.from in
          is.stands g counted
          (later_before new new (closed_of p a is.start current) (of_bucket p a d) g refl (omega arith)
          (λ q at. let part = closed_is p a is.start current q at in elim (bucket_is p a is.start q part.0) [
            | inl first ↦ subst (λ k. of_bucket p a d k ≡ true) (sym first) (is_first p a d)
            | inr further ↦ is_further p a d q further.0 (omega (arith, further.1, up))
          ])
          (λ q at. let part = closed_is p a is.start current q at in elim (bucket_is p a is.start q part.0) [
            | inl first ↦ (omega (arith, first, low, grows), refl)
            | inr further ↦ (omega (arith, further.1, up), refl)
          ]) later)
          d is.last [] (
            page_stands new current is.previous 0 (contents_on is.last) (of_bucket p a d) g is.there is.holds is.own later,
            is.last_stands g counted
                (later_before new new (between is.start d) (of_bucket p a d) g refl (omega arith)
                (λ q at. let part = between_is is.start d q at in is_further p a d q (omega (arith, part.0, from)) part.1)
                (λ q at. ((between_is is.start d q at).1, refl)) later),
          );
      formed = λ q at. elim (cases_eq q current) [
        | inl same ↦ subst (λ k. page_code new.order k (bytes_of new k) ≡ None) (sym same)
            (hash_pages_are_formed new.order (bytes_of new current) current is.previous 0 (contents_on is.last) is.holds (contents_even is.last))
        | inr other ↦ is.formed q (is_closed p a d current q at other)
      ];
      count =
          let count = is.count in
          let whole : sum_by (keyed_own_pages old.size sorted) (take done units) ≡ sum_by (keyed_own_pages old.size sorted) units =
          ap (sum_by (keyed_own_pages old.size sorted)) (take_all done units (omega (arith, all))) in
          omega (arith, count, whole, length-append is.closed (is.last ∷ []));
    }
