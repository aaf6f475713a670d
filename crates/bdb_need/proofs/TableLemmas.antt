-- The buckets of a table: how many they are, and their pages, counted as keys are put on them one after the other.
use Rattle.std.proofs.Common.{◌≡◌, ℕ, zero, suc, ◌+◌, ◌-◌, ◌*◌, ◌<◌, ◌≤◌, ◌^◌, Bool, cond, List, [], ◌∷◌, length, map, replicate, get_or, set, drop, arith, refl, sym, ◌∙◌, ap, subst, inl, inr, ◌/◌}
use Rattle.bdb_need.proofs.Common.{range_with_len, sum_by, drop_of_length-le, cases_eq, eq-eqb, ne_eqb, get_or-set_other, get_or-set_same, get_or_default, length-replicate, length-set, sum_by-cons}
use Rattle.bdb_need.proofs.Common.{Pair, TextPair, KeyedUnit, TreeUnit, page_room, IsRunAt, buckets_of, keyed_of, spread_bucket, table_units, keyed, keyed_cost, keyed_own_pages, unlined_pairs}
use Rattle.bdb_mkhash.specs.of_law_buckets.Tables.{Keyed, bucket_among, dealt}
use Rattle.bdb_mkhash.proofs.BucketLemmas.{run_unit}
use Rattle.bdb_need.proofs.BehindLemmas.{behind, behind_new, behind_open, length-spread}
use Rattle.bdb_need.proofs.KeyLemmas.{length-pairs}

-- Sums over a range.

-- of two that differ nowhere
sums_same : (f g : ℕ → ℕ) (a n : ℕ) → ((k : ℕ) → a ≤ k → k < a + n → f k ≡ g k) → sum_by f (range_with_len a n) ≡ sum_by g (range_with_len a n)
sums_same f g a zero same = refl
sums_same f g a (suc n) same = grind (arith, sum_by-cons, sums_same f g (a + 1) n (λ k from under. same k (omega (arith, from)) (omega (arith, under))))

-- of two that differ by so much at one place
sums_differ : (f g : ℕ → ℕ) (a n b more : ℕ) → a ≤ b → b < a + n → ((k : ℕ) → k < a + n → (k ≡ b → ⊥) → f k ≡ g k) → f b ≡ more + g b
    → sum_by f (range_with_len a n) ≡ more + sum_by g (range_with_len a n)
sums_differ f g a zero b more from under same at = absurd (omega (arith, from, under))
sums_differ f g a (suc n) b more from under same at =
    let left = sum_by-cons f a (range_with_len (a + 1) n) in
    let right = sum_by-cons g a (range_with_len (a + 1) n) in
    elim (cases_eq a b) [
      | inl here ↦
          let first = ap f here ∙ (at ∙ ap (λ k. more + g k) (sym here)) in
          let rest = sums_same f g (a + 1) n
          (λ k low high. same k (omega (arith, high)) (λ is. absurd (omega (arith, is, here, low)))) in
          omega (arith, left, right, first, rest)
      | inr other ↦
          let first = same a (omega arith) other in
          let rest = sums_differ f g (a + 1) n b more (omega (arith, from, other)) (omega (arith, under))
          (λ k high is. same k (omega (arith, high)) is) at in
          omega (arith, left, right, first, rest)
    ]

sums_one_more : (f : ℕ → ℕ) (a n : ℕ) → sum_by (λ k. suc (f k)) (range_with_len a n) ≡ n + sum_by f (range_with_len a n)
sums_one_more f a zero = refl
sums_one_more f a (suc n) = omega (arith, sum_by-cons, sums_one_more f (a + 1) n)

sums_none : (f : ℕ → ℕ) (a n : ℕ) → ((k : ℕ) → f k ≡ 0) → sum_by f (range_with_len a n) ≡ 0
sums_none f a zero none = refl
sums_none f a (suc n) none = grind (arith, sum_by-cons, sums_none f (a + 1) n none)

sums_map : {A : Type 0} (f : A → ℕ) (g : ℕ → A) (a n : ℕ) → sum_by f (map g (range_with_len a n)) ≡ sum_by (λ k. f (g k)) (range_with_len a n)
sums_map f g a zero = refl
sums_map f g a (suc n) = omega (arith, sum_by-cons, sums_map f g (a + 1) n)

-- Pages of buckets.

-- how many pages keys begin behind the open one of their bucket, which has so many bytes left
abbrev pub pages_behind : ℕ → ℕ → List Keyed → ℕ
pages_behind size left units = length (behind (page_room size) (keyed_cost size) (keyed_cost size) (keyed_cost size) left units)

-- how many pages the rest of keys begin in all buckets
abbrev pub begun_by : ℕ → ℕ → List ℕ → List Keyed → ℕ
begun_by size bits left rest = sum_by (λ b. pages_behind size (get_or left b 0) (dealt bits rest b)) (range_with_len 0 (2 ^ bits))

abbrev pub all_pages : ℕ → ℕ → List Keyed → ℕ
all_pages size bits units = sum_by (λ bucket. length (spread_bucket size bucket)) (buckets_of bits units)

-- Of keys these are still to come; the others have so many pages, and so much is left on the open page of each bucket: for each bucket, the pages
-- that its keys have are those so far and those that the rest of its keys begin behind them.
pub record ArePlaced (size bits : ℕ) (all rest : List Keyed) (pages : ℕ) (left : List ℕ) : Type 0 where
  pub many : length left ≡ 2 ^ bits
  pub sum : pages + begun_by size bits left rest ≡ all_pages size bits all

first_left : (n room k : ℕ) → k < n → get_or (replicate n room) k 0 ≡ room
first_left zero room k low = absurd (omega (arith, low))
first_left (suc n) room zero low = refl
first_left (suc n) room (suc k) low = first_left n room k (omega (arith, low))

pub none_placed : (size bits room : ℕ) (all : List Keyed) → room ≡ page_room size
    → ArePlaced size bits all all (2 ^ bits) (replicate (2 ^ bits) room)
none_placed size bits room all room_is =
    let fresh : ℕ → ℕ = λ b. pages_behind size (page_room size) (dealt bits all b) in
    let whole = sums_map (λ bucket. length (spread_bucket size bucket)) (dealt bits all) 0 (2 ^ bits) in
    let each = sums_same (λ b. length (spread_bucket size (dealt bits all b))) (λ b. suc (fresh b)) 0 (2 ^ bits)
    (λ b from under. length-spread (page_room size) (keyed_cost size) (keyed_cost size) (keyed_cost size) (page_room size) [] (dealt bits all b)) in
    let ones = sums_one_more fresh 0 (2 ^ bits) in
    let same = sums_same (λ b. pages_behind size (get_or (replicate (2 ^ bits) room) b 0) (dealt bits all b)) fresh 0 (2 ^ bits)
    (λ b from under. ap (λ l. pages_behind size l (dealt bits all b)) (first_left (2 ^ bits) room b (omega (arith, under)) ∙ room_is)) in
    record { many = length-replicate (2 ^ bits) room; sum = omega (arith, whole, each, ones, same) }

-- the next key of a bucket, and those of others
dealt_here : (bits : ℕ) (unit : Keyed) (rest : List Keyed) (b : ℕ) → bucket_among bits unit.key ≡ b
    → dealt bits (unit ∷ rest) b ≡ unit ∷ dealt bits rest b
dealt_here bits unit rest b is = ap (λ t. cond t (unit ∷ dealt bits rest b) (dealt bits rest b)) (eq-eqb (bucket_among bits unit.key) b is)

dealt_other : (bits : ℕ) (unit : Keyed) (rest : List Keyed) (b : ℕ) → (bucket_among bits unit.key ≡ b → ⊥)
    → dealt bits (unit ∷ rest) b ≡ dealt bits rest b
dealt_other bits unit rest b differs = ap (λ t. cond t (unit ∷ dealt bits rest b) (dealt bits rest b)) (ne_eqb (bucket_among bits unit.key) b differs)

-- where one bucket's open page changes, the rest begins so many pages fewer
placed : (size bits pages more b left_now : ℕ) (all rest : List Keyed) (unit : Keyed) (left : List ℕ) → ArePlaced size bits all (unit ∷ rest) pages left
    → b ≡ bucket_among bits unit.key → b < 2 ^ bits
    → pages_behind size (get_or left b 0) (unit ∷ dealt bits rest b) ≡ more + pages_behind size left_now (dealt bits rest b)
    → ArePlaced size bits all rest (pages + more) (set left b left_now)
placed size bits pages more b left_now all rest unit left was b_is low begins =
    let many = was.many in
    let inside : b < length left = omega (arith, low, many) in
    let at : pages_behind size (get_or left b 0) (dealt bits (unit ∷ rest) b)
    ≡ more + pages_behind size (get_or (set left b left_now) b 0) (dealt bits rest b) =
    ap (pages_behind size (get_or left b 0)) (dealt_here bits unit rest b (sym b_is))
    ∙ (begins ∙ ap (λ l. more + pages_behind size l (dealt bits rest b)) (sym (get_or-set_same left b left_now 0 inside))) in
    let step = sums_differ (λ k. pages_behind size (get_or left k 0) (dealt bits (unit ∷ rest) k))
    (λ k. pages_behind size (get_or (set left b left_now) k 0) (dealt bits rest k)) 0 (2 ^ bits) b more (omega arith) (omega (arith, low))
    (λ k under differs.
    ap (pages_behind size (get_or left k 0)) (dealt_other bits unit rest k (λ same. differs (sym same ∙ sym b_is)))
    ∙ ap (λ l. pages_behind size l (dealt bits rest k)) (sym (get_or-set_other left b k left_now 0 differs)))
    at in
    let sum = was.sum in
    record { many = length-set left b left_now ∙ many; sum = omega (arith, step, sum) }

pub placed_open : (size bits pages cost here b : ℕ) (all rest : List Keyed) (unit : Keyed) (left : List ℕ)
    → ArePlaced size bits all (unit ∷ rest) pages left → b ≡ bucket_among bits unit.key → b < 2 ^ bits → cost ≡ keyed_cost size unit
    → here ≡ get_or left b 0 → cost ≤ here → ArePlaced size bits all rest pages (set left b (here - cost))
placed_open size bits pages cost here b all rest unit left was b_is low cost_is here_is fits =
    let chain : pages_behind size (get_or left b 0) (unit ∷ dealt bits rest b) ≡ pages_behind size (here - cost) (dealt bits rest b) =
    ap length (behind_open (page_room size) (keyed_cost size) (keyed_cost size) (keyed_cost size) (get_or left b 0) unit (dealt bits rest b)
    (omega (arith, cost_is, here_is, fits)))
    ∙ (ap (λ l. pages_behind size (l - keyed_cost size unit) (dealt bits rest b)) (sym here_is)
    ∙ ap (λ n. pages_behind size (here - n) (dealt bits rest b)) (sym cost_is)) in
    let step : pages_behind size (get_or left b 0) (unit ∷ dealt bits rest b) ≡ 0 + pages_behind size (here - cost) (dealt bits rest b) =
    omega (arith, chain) in
    subst (λ n. ArePlaced size bits all rest n (set left b (here - cost))) (let e : pages + 0 ≡ pages = omega arith in e)
    (placed size bits pages 0 b (here - cost) all rest unit left was b_is low step)

pub placed_new : (size bits pages cost here room b : ℕ) (all rest : List Keyed) (unit : Keyed) (left : List ℕ)
    → ArePlaced size bits all (unit ∷ rest) pages left → b ≡ bucket_among bits unit.key → b < 2 ^ bits → cost ≡ keyed_cost size unit
    → room ≡ page_room size → here ≡ get_or left b 0 → here < cost → ArePlaced size bits all rest (pages + 1) (set left b (room - cost))
placed_new size bits pages cost here room b all rest unit left was b_is low cost_is room_is here_is full =
    let chain : pages_behind size (get_or left b 0) (unit ∷ dealt bits rest b) ≡ suc (pages_behind size (room - cost) (dealt bits rest b)) =
    ap length (behind_new (page_room size) (keyed_cost size) (keyed_cost size) (keyed_cost size) (get_or left b 0) unit (dealt bits rest b)
    (omega (arith, cost_is, here_is, full)))
    ∙ (ap (λ r. suc (pages_behind size (r - keyed_cost size unit) (dealt bits rest b))) (sym room_is)
    ∙ ap (λ n. suc (pages_behind size (room - n) (dealt bits rest b))) (sym cost_is)) in
    let step : pages_behind size (get_or left b 0) (unit ∷ dealt bits rest b) ≡ 1 + pages_behind size (room - cost) (dealt bits rest b) =
    omega (arith, chain) in
    placed size bits pages 1 b (room - cost) all rest unit left was b_is low step

pub all_placed : (size bits pages : ℕ) (all : List Keyed) (left : List ℕ) → ArePlaced size bits all [] pages left → pages ≡ all_pages size bits all
all_placed size bits pages all left done = grind (arith, sums_none)

-- Keys of a list.

-- those before a place are on their pages
pub record KeysPlaced (size bits : ℕ) (pairs : List TextPair) (start pages : ℕ) (left : List ℕ) : Type 0 where
  pub low : start ≤ length pairs
  pub placed : ArePlaced size bits (table_units (unlined_pairs pairs)) (table_units (drop start (unlined_pairs pairs))) pages left
  pub few : pages ≤ 2 ^ bits + start

pub keys_begun : (size bits room pages : ℕ) (pairs : List TextPair) (left : List ℕ) → room ≡ page_room size → pages ≡ 2 ^ bits
    → left ≡ replicate pages room → KeysPlaced size bits pairs 0 pages left
keys_begun size bits room pages pairs left room_is pages_are left_is = record {
  low = omega arith;
  placed = rw (left_is, pages_are) (none_placed size bits room (table_units (unlined_pairs pairs)) room_is);
  few = omega (arith, pages_are);
}

-- a run of pairs is put
keys_next : (size bits start end pages pages_now : ℕ) (pairs : List TextPair) (key : List ℕ) (values : List (List ℕ)) (left left_now : List ℕ)
    → KeysPlaced size bits pairs start pages left → IsRunAt (unlined_pairs pairs) start (KeyedUnit key values) end
    → (ArePlaced size bits (table_units (unlined_pairs pairs)) (keyed key values ∷ table_units (drop end (unlined_pairs pairs))) pages left
    → ArePlaced size bits (table_units (unlined_pairs pairs)) (table_units (drop end (unlined_pairs pairs))) pages_now left_now)
    → pages_now ≤ pages + 1 → KeysPlaced size bits pairs end pages_now left_now
keys_next size bits start end pages pages_now pairs key values left left_now was at put few = grind (arith, length-pairs, placed, run_unit)

room_here : (size bits start pages b seen : ℕ) (pairs : List TextPair) (left : List ℕ) → KeysPlaced size bits pairs start pages left → b < 2 ^ bits
    → seen ≡ get_or left b seen → seen ≡ get_or left b 0
room_here size bits start pages b seen pairs left was low is =
    let many = was.placed.many in is ∙ get_or_default left b seen 0 (omega (arith, low, many))

-- on the open page of its bucket
pub key_open : (size bits start end pages pages_now cost seen here b : ℕ) (pairs : List TextPair) (key : List ℕ) (values : List (List ℕ))
    (left left_now : List ℕ)
    → KeysPlaced size bits pairs start pages left → IsRunAt (unlined_pairs pairs) start (KeyedUnit key values) end
    → b ≡ bucket_among bits key → b < 2 ^ bits → cost ≡ keyed_cost size (keyed key values) → seen ≡ get_or left b seen → here ≡ get_or left b here
    → cost ≤ seen → pages_now ≡ pages → left_now ≡ set left b (here - cost) → KeysPlaced size bits pairs end pages_now left_now
key_open size bits start end pages pages_now cost seen here b pairs key values left left_now was at b_is low cost_is seen_is here_is fits pages_is left_is =
    let room = room_here size bits start pages b here pairs left was low here_is in
    let same = room_here size bits start pages b seen pairs left was low seen_is in
    keys_next size bits start end pages pages_now pairs key values left left_now was at
    (λ placed_so_far. rw (pages_is, left_is)
    (placed_open size bits pages cost here b (table_units (unlined_pairs pairs)) (table_units (drop end (unlined_pairs pairs))) (keyed key values) left
    placed_so_far b_is low cost_is room (omega (arith, fits, room, same))))
    (omega (arith, pages_is))

-- on a new one
pub key_new : (size bits start end pages pages_now cost seen room b : ℕ) (pairs : List TextPair) (key : List ℕ) (values : List (List ℕ))
    (left left_now : List ℕ)
    → KeysPlaced size bits pairs start pages left → IsRunAt (unlined_pairs pairs) start (KeyedUnit key values) end
    → b ≡ bucket_among bits key → b < 2 ^ bits → cost ≡ keyed_cost size (keyed key values) → room ≡ page_room size → seen ≡ get_or left b seen
    → seen < cost → pages_now ≡ pages + 1 → left_now ≡ set left b (room - cost) → KeysPlaced size bits pairs end pages_now left_now
key_new size bits start end pages pages_now cost seen room b pairs key values left left_now was at b_is low cost_is room_is seen_is full pages_is left_is =
    let same = room_here size bits start pages b seen pairs left was low seen_is in
    keys_next size bits start end pages pages_now pairs key values left left_now was at
    (λ placed_so_far. rw (pages_is, left_is)
    (placed_new size bits pages cost seen room b (table_units (unlined_pairs pairs)) (table_units (drop end (unlined_pairs pairs))) (keyed key values)
    left placed_so_far b_is low cost_is room_is same full))
    (omega (arith, pages_is))

pub keys_end : (size bits start pages : ℕ) (pairs : List TextPair) (left : List ℕ) → KeysPlaced size bits pairs start pages left
    → length pairs ≤ start → pages ≡ all_pages size bits (table_units (unlined_pairs pairs))
keys_end size bits start pages pairs left done past =
    let long = length-pairs pairs in
    let none : drop start (unlined_pairs pairs) ≡ [] = drop_of_length-le (unlined_pairs pairs) (omega (arith, past, long)) in
    all_placed size bits pages (table_units (unlined_pairs pairs)) left
    (subst (λ (ps : List Pair). ArePlaced size bits (table_units (unlined_pairs pairs)) (table_units ps) pages left) none done.placed)

-- what they have of their own
abbrev pub own_in_table : ℕ → Bool → TreeUnit → ℕ
own_in_table size sorted unit = keyed_own_pages size sorted (keyed_of unit)

pub own_units : (size : ℕ) (sorted : Bool) (units : List TreeUnit)
    → sum_by (own_in_table size sorted) units ≡ sum_by (keyed_own_pages size sorted) (map keyed_of units)
own_units size sorted [] = refl
own_units size sorted (unit ∷ units) =
    omega (
      arith,
      sum_by-cons (own_in_table size sorted) unit units,
      sum_by-cons (keyed_own_pages size sorted) (keyed_of unit) (map keyed_of units),
      own_units size sorted units,
    )
