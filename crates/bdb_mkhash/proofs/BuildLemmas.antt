-- The table of a list.
use Rattle.std.proofs.Common.{◌≡◌, ℕ, zero, suc, ◌+◌, ◌<◌, ◌≤◌, Bool, true, false, cond, List, [], ◌∷◌, ◌++◌, map, length, arith, refl, sym, ◌∙◌, ap, subst, inl, inr, ◌^◌, ◌==◌}
use Rattle.bdb_mkhash.proofs.Common.{All, flat_map, range_with_len, sum_by, cases_lt, get_or-map, length-map, map-append, All-cons, All-contains, All-head, All-nil, All-tail}
use Rattle.bdb_mkhash.proofs.Common.{get_or-map-range_with_len, length-map-range_with_len, sum_by-append, sum_by-cons, File, HashFields, ascends, less, IsLater, IsPart, between, between_is}
use Rattle.bdb_mkhash.proofs.Common.{is_between, Pair, Built, file_so_far, KeepsAll, EntryUnit, KeyedUnit, TreeUnit, listed_keyed, later_before, HasBytes, keyed_units, HasBuiltBuckets, Keyed}
use Rattle.bdb_mkhash.proofs.Common.{PlacedUnit, SuitsTable, TableStands, bucket_among, dealt, key_of, listed_unit, table_meta, unit_of, units_on, buckets_of, keyed_of, spread_bucket, table_bits}
use Rattle.bdb_mkhash.proofs.Common.{table_units, keyed_own_pages, AreFilled, of_buckets, IsShortUnit}
use Rattle.bdb_mktree.specs.of_format.declared.kinds.Kind.TheVariants.{Btree}
use Rattle.bdb_mktree.specs.of_format.declared.metadata.HashMeta.{HashMeta}
use Rattle.bdb_mktree.specs.of_format.declared.settings.Settings.{Settings}
use Rattle.bdb_mktree.proofs.of_format.ListLemmas.{all_of}
use Rattle.bdb_mktree.proofs.of_format.MemberLemmas.{of_filter}
use Rattle.bdb_mktree.specs.of_text_format.Terms.{listed}
use Rattle.bdb_mktree.specs.of_mkleaves.Units.{key_of as tree_key}
use Rattle.bdb_mktree.specs.Units.{IsShortUnit as IsShortTreeUnit, Suits}
use Rattle.bdb_mktree.proofs.ListLemmas.{units_listed}
use Rattle.bdb_mktree.proofs.OrderLemmas.{FitUnits, keys_fit, units_fit}
use Rattle.bdb_law_buckets.proofs.DealLemmas.{deal, dealt_back, insert_unit, units_by_key}
use Rattle.bdb_law_buckets.proofs.TableLemmas.{among_low, tables_are_parts}
use Rattle.bdb_law_buckets.proofs.UnsortedLemmas.{tables_are_built}
use Rattle.bdb_mkhash.specs.Table.{IsTableBuilt, IsTableList}
use Rattle.bdb_mkhash.proofs.SpreadLemmas.{spread_all}
use Rattle.bdb_mkhash.proofs.TableLemmas.{are_first, are_further, buckets_is}

-- The keys of a list.

abbrev as_btree : Settings → Settings
as_btree settings = record settings { kind = Btree }

fit : (settings : Settings) (pairs : List Pair) → IsTableList settings pairs → FitUnits (as_btree settings) (keyed_units pairs)
fit settings pairs list = units_fit (as_btree settings) pairs (inl refl) list

pub keys_are : (settings : Settings) (pairs : List Pair) → IsTableList settings pairs → All (λ pair. HasBytes pair.key) pairs
keys_are settings pairs list = keys_fit (as_btree settings) pairs (inl refl) list

short_unit : (settings : Settings) (unit : TreeUnit) → Suits (as_btree settings) unit → IsShortTreeUnit unit → IsShortUnit (keyed_of unit)
short_unit settings (KeyedUnit key values) suits short = record { some = suits.some; key = short.0; values = short.1 }
short_unit settings (EntryUnit value deleted) suits short = absurd (cc suits.kind)

short_units : (settings : Settings) (units : List TreeUnit) → All (Suits (as_btree settings)) units → All IsShortTreeUnit units
    → All IsShortUnit (map keyed_of units)
short_units settings [] suits short = All-nil IsShortUnit
short_units settings (unit ∷ units) suits short =
    All-cons IsShortUnit (keyed_of unit) (map keyed_of units)
    (short_unit settings unit (All-head (Suits (as_btree settings)) unit units suits) (All-head IsShortTreeUnit unit units short))
    (short_units settings units (All-tail (Suits (as_btree settings)) unit units suits) (All-tail IsShortTreeUnit unit units short))

pub all_short : (settings : Settings) (pairs : List Pair) → IsTableList settings pairs → All IsShortUnit (table_units pairs)
all_short settings pairs list = let is = fit settings pairs list in short_units settings (keyed_units pairs) is.suit is.short

-- those of each bucket too
pub buckets_short : (bits : ℕ) (units : List Keyed) → All IsShortUnit units → All (λ bucket. All IsShortUnit bucket) (buckets_of bits units)
buckets_short bits units short k d under =
    let low : k < 2 ^ bits = omega (arith, under, length-map-range_with_len (dealt bits units) 0 (2 ^ bits)) in
    let e : 0 + k ≡ k = omega arith in
    subst (All IsShortUnit) (sym (get_or-map-range_with_len (dealt bits units) 0 (2 ^ bits) k k d low e))
    (all_of IsShortUnit (dealt bits units k)
    (λ unit at. All-contains IsShortUnit units unit short (of_filter (λ (u : Keyed). bucket_among bits u.key == k) units unit at).0))

same_keys : (units : List TreeUnit) → map key_of (map keyed_of units) ≡ map tree_key units
same_keys [] = refl
same_keys (unit ∷ units) = ap (λ ks. tree_key unit ∷ ks) (same_keys units)

suit_one : (settings : Settings) (unit : TreeUnit) → Suits (as_btree settings) unit
    → (settings.duplicates ≡ false → length (keyed_of unit).values ≡ 1) × (settings.sorted ≡ true → ascends (keyed_of unit).values ≡ true)
suit_one settings (KeyedUnit key values) suits = (suits.single, suits.in_order)
suit_one settings (EntryUnit value deleted) suits = absurd (cc suits.kind)

suit_single : (settings : Settings) (units : List TreeUnit) → All (Suits (as_btree settings)) units → settings.duplicates ≡ false
    → All (λ (unit : Keyed). length unit.values ≡ 1) (map keyed_of units)
suit_single settings [] suits none = All-nil (λ (unit : Keyed). length unit.values ≡ 1)
suit_single settings (unit ∷ units) suits none =
    grind (arith, All-cons, suit_one, All-head, All-tail, suit_single settings units (All-tail (Suits (as_btree settings)) unit units suits) none)

suit_order : (settings : Settings) (units : List TreeUnit) → All (Suits (as_btree settings)) units → settings.sorted ≡ true
    → All (λ (unit : Keyed). ascends unit.values ≡ true) (map keyed_of units)
suit_order settings [] suits is = All-nil (λ (unit : Keyed). ascends unit.values ≡ true)
suit_order settings (unit ∷ units) suits is =
    grind (arith, All-cons, suit_one, All-head, All-tail, suit_order settings units (All-tail (Suits (as_btree settings)) unit units suits) is)

suits_are : (settings : Settings) (pairs : List Pair) → IsTableList settings pairs → SuitsTable settings (table_units pairs)
suits_are settings pairs list =
    let is = fit settings pairs list in
    record {
      keys = ap ascends (same_keys (keyed_units pairs)) ∙ is.keys refl;
      single = suit_single settings (keyed_units pairs) is.suit;
      in_order = suit_order settings (keyed_units pairs) is.suit;
    }

one_listed : (unit : TreeUnit) → listed_unit (keyed_of unit) ≡ listed_keyed unit
one_listed (KeyedUnit key values) = refl
one_listed (EntryUnit value deleted) = refl

all_listed : (units : List TreeUnit) → flat_map listed_unit (map keyed_of units) ≡ flat_map listed_keyed units
all_listed [] = refl
all_listed (unit ∷ units) = ap (λ xs. xs ++ flat_map listed_unit (map keyed_of units)) (one_listed unit) ∙ ap (λ xs. listed_keyed unit ++ xs) (all_listed units)

list_back : (settings : Settings) (pairs : List Pair) → IsTableList settings pairs → flat_map listed_unit (table_units pairs) ≡ listed pairs
list_back settings pairs list = all_listed (keyed_units pairs) ∙ units_listed Btree pairs (inl refl) (keys_are settings pairs list)

-- Sums over buckets.

sum_inserted : (f : Keyed → ℕ) (unit : Keyed) (units : List Keyed) → sum_by f (insert_unit unit units) ≡ f unit + sum_by f units
sum_inserted f unit [] = sum_by-cons f unit []
sum_inserted f unit (other ∷ others) = by_test (less other.key unit.key) (sum_inserted f unit others)
  where
    by_test : (b : Bool) → sum_by f (insert_unit unit others) ≡ f unit + sum_by f others
        → sum_by f (cond b (other ∷ insert_unit unit others) (unit ∷ other ∷ others)) ≡ f unit + sum_by f (other ∷ others)
    by_test true rest = omega (arith, sum_by-cons f other (insert_unit unit others), rest, sum_by-cons f other others)
    by_test false rest = sum_by-cons f unit (other ∷ others)

sum_ordered : (f : Keyed → ℕ) (units : List Keyed) → sum_by f (units_by_key units) ≡ sum_by f units
sum_ordered f [] = refl
sum_ordered f (unit ∷ units) =
    let rest = sum_ordered f units in omega (arith, sum_inserted f unit (units_by_key units), rest, sum_by-cons f unit units)

sum_joined : (f : Keyed → ℕ) (g : ℕ → List Keyed) (a n : ℕ)
    → sum_by (λ bucket. sum_by f bucket) (map g (range_with_len a n)) ≡ sum_by f (flat_map g (range_with_len a n))
sum_joined f g a zero = refl
sum_joined f g a (suc n) = omega (arith, sum_by-cons, sum_by-append, sum_joined f g (a + 1) n)

sum_dealt : (f : Keyed → ℕ) (bits : ℕ) (units : List Keyed) → ascends (map key_of units) ≡ true
    → sum_by (λ bucket. sum_by f bucket) (buckets_of bits units) ≡ sum_by f units
sum_dealt f bits units rise =
    sum_joined f (dealt bits units) 0 (2 ^ bits)
    ∙ (sym (sum_ordered f (deal (λ unit. bucket_among bits unit.key) units 0 (2 ^ bits)))
    ∙ ap (sum_by f) (dealt_back (λ unit. bucket_among bits unit.key) (2 ^ bits) units (λ unit. among_low bits unit.key) rise))

-- The keys on the pages.

joined_units : (pages : List (List PlacedUnit)) → flat_map (λ page. page) (map (map unit_of) pages) ≡ units_on pages
joined_units [] = refl
joined_units (page ∷ pages) = ap (λ us. map unit_of page ++ us) (joined_units pages) ∙ sym (map-append unit_of page (flat_map (λ p. p) pages))

each_joined : (buckets : List (List (List PlacedUnit))) → map (flat_map (λ page. page)) (map (map (map unit_of)) buckets) ≡ map units_on buckets
each_joined [] = refl
each_joined (pages ∷ buckets) = ap (λ us. us ∷ map (flat_map (λ page. page)) (map (map (map unit_of)) buckets)) (joined_units pages)
    ∙ ap (λ uss. units_on pages ∷ uss) (each_joined buckets)

each_spread : (size : ℕ) (buckets : List (List Keyed)) → map (flat_map (λ page. page)) (map (spread_bucket size) buckets) ≡ buckets
each_spread size [] = refl
each_spread size (bucket ∷ buckets) = grind (arith, spread_all, each_spread size buckets)

-- The table.

pub table_built : (settings : Settings) (old mid new : Built) (pairs : List Pair) (bits : ℕ) (buckets : List (List Keyed)) (meta : HashMeta)
    → IsTableList settings pairs → 1 ≤ length old.pages → bits ≡ table_bits old.size (table_units pairs) → 1 ≤ bits → bits ≤ 21
    → buckets ≡ buckets_of bits (table_units pairs) → KeepsAll old mid → length mid.pages ≡ length old.pages + 2 ^ bits
    → AreFilled (length old.pages) mid new settings.sorted buckets → meta ≡ table_meta settings (length old.pages) bits
    → IsTableBuilt settings old new (table_units pairs) (listed pairs) meta
table_built settings old mid new pairs bits buckets meta list some bits_are one few are kept count filled meta_is =
    record {
      kept = record {
        size = size;
        order = filled.order ∙ kept.order;
        grows = omega (arith, grows, more);
        same = λ q low. filled.same q (omega (arith, low, grows)) (not_there q low) ∙ kept.same q low;
      };
      count =
          let all = filled.count in
          let pages_are : sum_by (λ bucket. length (spread_bucket mid.size bucket)) buckets
          ≡ sum_by (λ bucket. length (spread_bucket old.size bucket)) (buckets_of (table_bits old.size units) units) =
          ap (λ s. sum_by (λ bucket. length (spread_bucket s bucket)) buckets) kept.size
          ∙ (ap (sum_by (λ bucket. length (spread_bucket old.size bucket))) are
          ∙ ap (λ b. sum_by (λ bucket. length (spread_bucket old.size bucket)) (buckets_of b units)) bits_are) in
          let own : sum_by (λ bucket. sum_by (keyed_own_pages mid.size settings.sorted) bucket) buckets ≡ sum_by (keyed_own_pages old.size settings.sorted)
          units =
          ap (λ s. sum_by (λ bucket. sum_by (keyed_own_pages s settings.sorted) bucket) buckets) kept.size
          ∙ (ap (sum_by (λ bucket. sum_by (keyed_own_pages old.size settings.sorted) bucket)) are ∙ sum_dealt (keyed_own_pages old.size settings.sorted) bits
          units suits.keys) in
          omega (arith, all, pages_are, own, many, count);
      formed = λ p low high. filled.formed p (inside p low high);
      fields = meta_is ∙ ap (table_meta settings (length old.pages)) bits_are;
      pages = filled.pages;
      spread = filled.spread
          ∙ (ap (λ s. map (spread_bucket s) buckets) kept.size
          ∙ (ap (map (spread_bucket old.size)) are ∙ ap (λ b. map (spread_bucket old.size) (buckets_of b units)) bits_are));
      stands = λ g counted later.
          subst (λ n. TableStands g settings.sorted (length old.pages) n (length new.pages) filled.pages) (omega_pages)
          (filled.stands g counted (all_later g later));
      buckets = λ g counted later.
          let up = later.grows in
          subst (HasBuiltBuckets g) (sym meta_is)
          (tables_are_built g settings (length old.pages) bits (length new.pages) filled.pages counted some
          (omega (arith, up, some, grows, more)) (omega (arith, few)) pages_many
          (subst (λ n. TableStands g settings.sorted (length old.pages) n (length new.pages) filled.pages) count
          (filled.stands g counted (all_later g later))));
      part = λ g counted later.
          let up = later.grows in
          subst (λ m. IsPart g (record { pages = between (length old.pages) (length new.pages); fields = HashFields m; list = listed pairs }))
          (sym meta_is)
          (subst (λ l. IsPart g (record {
            pages = between (length old.pages) (length new.pages);
            fields = HashFields (table_meta settings (length old.pages) bits);
            list = l;
          })) (list_back settings pairs list)
          (tables_are_parts g settings (length old.pages) bits (length new.pages) units filled.pages counted some
          (omega (arith, up, some, grows, more)) one
          (omega (arith, few)) suits keys_on
          (subst (λ n. TableStands g settings.sorted (length old.pages) n (length new.pages) filled.pages) count
          (filled.stands g counted (all_later g later)))));
    }
  where
    units : List Keyed
    units = table_units pairs

    suits : SuitsTable settings units
    suits = suits_are settings pairs list

    size : new.size ≡ old.size
    size = filled.size ∙ kept.size

    grows : length old.pages ≤ length mid.pages
    grows = kept.grows

    more : length mid.pages ≤ length new.pages
    more = filled.grows

    many : length buckets ≡ 2 ^ bits
    many = ap length are ∙ length-map-range_with_len (dealt bits units) 0 (2 ^ bits)

    pages_many : length filled.pages ≡ 2 ^ bits
    pages_many = sym (length-map filled.pages (map (map unit_of))) ∙ (ap length filled.spread ∙ (length-map buckets (spread_bucket mid.size) ∙ many))

    omega_pages : length mid.pages ≡ length old.pages + length filled.pages
    omega_pages = omega (arith, count, pages_many)

    not_there : (q : ℕ) → q < length old.pages → between (length old.pages) (length old.pages + length buckets) q ≡ false
    not_there q low = by_test (between (length old.pages) (length old.pages + length buckets) q) refl
      where
        by_test : (b : Bool) → between (length old.pages) (length old.pages + length buckets) q ≡ b → b ≡ false
        by_test true is = absurd (omega (arith, low, (between_is (length old.pages) (length old.pages + length buckets) q is).0))
        by_test false is = refl

    inside : (p : ℕ) → length old.pages ≤ p → p < length new.pages
        → of_buckets (length old.pages) (length buckets) (length mid.pages) (length new.pages) p ≡ true
    inside p low high = elim (cases_lt p (length mid.pages)) [
      | inl below ↦ are_first (length old.pages) (length buckets) (length mid.pages) (length new.pages) p low (omega (arith, below, count, many))
      | inr above ↦ are_further (length old.pages) (length buckets) (length mid.pages) (length new.pages) p above high
    ]

    all_later : (g : File) → IsLater (between (length old.pages) (length new.pages)) (file_so_far new) g
        → IsLater (of_buckets (length old.pages) (length buckets) (length mid.pages) (length new.pages)) (file_so_far new) g
    all_later g later =
        later_before new new (of_buckets (length old.pages) (length buckets) (length mid.pages) (length new.pages))
        (between (length old.pages) (length new.pages))
        g refl (omega arith)
        (λ q at. let is = within q at in is_between (length old.pages) (length new.pages) q is.0 is.1)
        (λ q at. ((within q at).1, refl)) later
      where
        within : (q : ℕ) → of_buckets (length old.pages) (length buckets) (length mid.pages) (length new.pages) q ≡ true
            → (length old.pages ≤ q) × (q < length new.pages)
        within q at = elim (buckets_is (length old.pages) (length buckets) (length mid.pages) (length new.pages) q at) [
          | inl first ↦ (first.0, omega (arith, first.1, many, count, more))
          | inr further ↦ (omega (arith, further.0, grows), further.1)
        ]

    keys_on : map units_on filled.pages ≡ map (dealt bits units) (range_with_len 0 (2 ^ bits))
    keys_on = sym (each_joined filled.pages)
        ∙ (ap (map (flat_map (λ page. page))) filled.spread ∙ (each_spread mid.size buckets ∙ are))

-- What holds of each thing that is seen holds of each as it is seen.
pub all_seen : {X Y : Type 0} (P : Y → Type 0) (f : X → Y) (xs : List X) → All P (map f xs) → All (λ x. P (f x)) xs
all_seen P f xs all k d under = subst P (get_or-map f xs k d (f d) under) (all k (f d) (omega (arith, under, length-map xs f)))
