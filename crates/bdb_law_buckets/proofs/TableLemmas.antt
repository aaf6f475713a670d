-- A table that stands is the part of the database with its metadata.
use Rattle.std.proofs.Common.{◌≡◌, ℕ, zero, suc, ◌+◌, ◌-◌, ◌<◌, ◌≤◌, Bool, true, false, cond, List, [], get_or, map, length, None, arith, refl, sym, ◌∙◌, ap}
use Rattle.std.proofs.Common.{subst, ◌^◌, ◌==◌, ◌&&◌, ◌||◌, not, nat_lt}
use Rattle.std.specs.List.{Contains, filter, flat_map, list_any, range_with_len}
use Rattle.std.proofs.lemmas.Bool.{and_right, eq-eqb, lt-ltb, ltb-true, or_from}
use Rattle.std.proofs.lemmas.List.{get_or_append_left, get_or-map, get_or-replicate, length-map, length-replicate}
use Rattle.std.proofs.lemmas.List.Elements.{All-contains}
use Rattle.std.proofs.lemmas.List.FromFn.{get_or-map-range_with_len, length-map-range_with_len}
use Rattle.std.proofs.lemmas.Nat.{and_le_r, pow_pos}
use Rattle.bdb_law_grove.specs.of_format.declared.metadata.HashMeta.{HashMeta}
use Rattle.bdb_law_grove.specs.of_format.declared.settings.Settings.{Settings}
use Rattle.bdb_law_grove.specs.of_format.ByPage.{holding}
use Rattle.bdb_law_grove.specs.of_format.Terms.{File, HashFields, StoredPair, ascends, bucket_of_key, bucket_pairs, chain_in, database_rows, first_page}
use Rattle.bdb_law_grove.specs.of_format.Terms.{first_row, fit_rows, group, has_bit, has_duplicate, has_duplicates, has_unsorted, has_wrong_bucket}
use Rattle.bdb_law_grove.specs.of_format.Terms.{has_wrong_set, hash_list, is_duplicate, is_set, is_sorted, is_wrong_set, pairs_of, repeated, table_pairs}
use Rattle.bdb_law_grove.proofs.of_format.GroupLemmas.{least_passing}
use Rattle.bdb_law_grove.proofs.of_format.ListLemmas.{all_of}
use Rattle.bdb_law_grove.proofs.of_format.MemberLemmas.{no_member, none_pass, of_filter, of_flat_map, of_range}
use Rattle.bdb_law_grove.proofs.of_format.VerdictLemmas.{none_holds}
use Rattle.bdb_law_grove.specs.Growing.{IsCounted}
use Rattle.bdb_law_grove.specs.Part.{IsBranch, between, entrance_asks, entrances}
use Rattle.bdb_law_grove.proofs.GroveLemmas.{fits_asked}
use Rattle.bdb_law_grove.proofs.LeafLemmas.{ascend_once}
use Rattle.bdb_law_buckets.specs.Tables.{Keyed, PlacedUnit, SuitsTable, TableStands, TablesAreParts, bucket_among, dealt, listed_unit, table_meta, units_on}
use Rattle.bdb_law_grove.proofs.AscendLemmas.{range_ascends}
use Rattle.bdb_law_buckets.proofs.DealLemmas.{deal, dealt_apart, dealt_back}
use Rattle.bdb_law_buckets.proofs.ListLemmas.{all_stored, list_is, none_repeated, none_unsorted, stored_each}
use Rattle.bdb_law_buckets.proofs.OverLemmas.{AreOver, table_branch, table_over}
use Rattle.bdb_law_buckets.proofs.PageLemmas.{IsNextOf}
use Rattle.bdb_law_buckets.proofs.StoredLemmas.{AreStored, table_stored}

-- The metadata.

-- a bucket is one of the table's
pub among_low : (bits : ℕ) (key : List ℕ) → bucket_among bits key < 2 ^ bits
among_low bits key = grind (arith, and_le_r, pow_pos, ltb-true)

-- the group of a bucket is one whose spare is the first page
pub group_low : (bits b : ℕ) → bits ≤ 31 → b < 2 ^ bits → group b ≤ bits
unfolding group
group_low bits b few low = least_passing (λ g. nat_lt b (2 ^ g)) 0 33 33 bits refl (omega arith) (lt-ltb b (2 ^ bits) low)

pub first_pages : (settings : Settings) (first bits b : ℕ) → bits ≤ 31 → b < 2 ^ bits → first_page b (table_meta settings first bits).spares ≡ first + b
first_pages settings first bits b few low = grind (arith, group_low, get_or_append_left, length-replicate, get_or-replicate)

rows_of : (f : ℕ → ℕ) (first a n : ℕ) → ((b : ℕ) → a ≤ b → b < a + n → f b ≡ first + b) → map f (range_with_len a n) ≡ range_with_len (first + a) n
rows_of f first a zero each = refl
rows_of f first a (suc n) each = grind (arith, rows_of f first (a + 1) n (λ b low high. each b (omega (arith, low)) (omega (arith, high))))

count_is : (bits : ℕ) → 2 ^ bits - 1 + 1 ≡ 2 ^ bits
count_is bits = let some = pow_pos bits in omega (arith, some)

entrances_are : (settings : Settings) (first bits : ℕ) → bits ≤ 31
    → entrances (HashFields (table_meta settings first bits)) ≡ range_with_len first (2 ^ bits)
entrances_are settings first bits few =
    let f : ℕ → ℕ = λ b. first_page b (table_meta settings first bits).spares in
    ap (λ n. map f (range_with_len 0 n)) (count_is bits)
    ∙ (rows_of f first 0 (2 ^ bits) (λ b low high. first_pages settings first bits b few (omega (arith, high)))
    ∙ ap (λ k. range_with_len k (2 ^ bits)) (let e : first + 0 ≡ first = omega arith in e))

-- what its flags say
flags_many : (duplicates sorted : Bool) → has_bit ((cond duplicates 0x01 0) + (cond sorted 0x04 0)) 0x05 ≡ (duplicates || sorted)
flags_many true true = refl
flags_many true false = refl
flags_many false true = refl
flags_many false false = refl

flags_sorted : (duplicates sorted : Bool) → has_bit ((cond duplicates 0x01 0) + (cond sorted 0x04 0)) 0x04 ≡ sorted
flags_sorted true true = refl
flags_sorted true false = refl
flags_sorted false true = refl
flags_sorted false false = refl

-- The pairs.

record HasPairs (g : File) (settings : Settings) (first bits : ℕ) (units : List Keyed) : Type 0 where
  each : (b : ℕ) → b < 2 ^ bits → AreStored g settings.sorted (bucket_pairs g (table_meta settings first bits) b) (dealt bits units b)
  all : AreStored g settings.sorted (table_pairs g (table_meta settings first bits)) (deal (λ unit. bucket_among bits unit.key) units 0 (2 ^ bits))

has_pairs : (g : File) (settings : Settings) (first bits beyond : ℕ) (units : List Keyed) (buckets : List (List (List PlacedUnit))) → IsCounted g
    → 1 ≤ first → beyond ≤ g.last + 1 → bits ≤ 31 → map units_on buckets ≡ map (dealt bits units) (range_with_len 0 (2 ^ bits))
    → TableStands g settings.sorted first (first + 2 ^ bits) beyond buckets → HasPairs g settings first bits units
unfolding table_pairs
has_pairs g settings first bits beyond units buckets counted low high few are stands =
    record {
      each = each;
      all = subst (λ n. AreStored g settings.sorted (flat_map (bucket_pairs g meta) (range_with_len 0 n))
          (deal (λ unit. bucket_among bits unit.key) units 0 (2 ^ bits)))
          (sym (count_is bits))
          (all_stored g settings.sorted (bucket_pairs g meta) (dealt bits units) 0 (2 ^ bits) (λ b from under. each b (omega (arith, under))));
    }
  where
    meta : HashMeta
    meta = table_meta settings first bits

    many : length buckets ≡ 2 ^ bits
    many = sym (length-map buckets units_on) ∙ (ap length are ∙ length-map-range_with_len (dealt bits units) 0 (2 ^ bits))

    units_are : (b : ℕ) → b < 2 ^ bits → units_on (get_or buckets b []) ≡ dealt bits units b
    units_are b under =
        let e : 0 + b ≡ b = omega arith in
        sym (get_or-map units_on buckets b [] [] (omega (arith, under, many)))
        ∙ (ap (λ us. get_or us b []) are ∙ get_or-map-range_with_len (dealt bits units) 0 (2 ^ bits) b b [] under e)

    each : (b : ℕ) → b < 2 ^ bits → AreStored g settings.sorted (bucket_pairs g meta b) (dealt bits units b)
    each b under =
        let last = counted.counted in
        subst (AreStored g settings.sorted (bucket_pairs g meta b)) (units_are b under)
        (subst (λ p. AreStored g settings.sorted (flat_map (pairs_of g) (chain_in g.count g p)) (units_on (get_or buckets b [])))
        (sym (first_pages settings first bits b few under))
        (table_stored g settings.sorted first (first + 2 ^ bits) beyond buckets (omega (arith, low))
        (let some = pow_pos bits in omega (arith, high, last, low, some))
        stands b (omega (arith, under, many))))

-- a key that is dealt is one of the keys
of_deal : (bits : ℕ) (units : List Keyed) (unit : Keyed) → Contains (deal (λ u. bucket_among bits u.key) units 0 (2 ^ bits)) unit
    → Contains units unit
of_deal bits units unit at =
    let found = of_flat_map (dealt bits units) (range_with_len 0 (2 ^ bits)) unit at in
    (of_filter (λ (u : Keyed). bucket_among bits u.key == found.0) units unit found.2).0

-- The rows.

none_at : (p : ℕ) (test : StoredPair → Bool) (pairs : List StoredPair) → ((pair : StoredPair) → Contains pairs pair → test pair ≡ false)
    → list_any (λ (pair : StoredPair). pair.page == p && test pair) pairs ≡ false
none_at p test pairs none = none_pass (λ (pair : StoredPair). pair.page == p && test pair) pairs
    (λ pair at. and_right (pair.page == p) (test pair) (none pair at))

module _ (g : File) (settings : Settings) (first bits : ℕ) (units : List Keyed) (suits : SuitsTable settings units)
    (has : HasPairs g settings first bits units) where
  none_duplicate : (p : ℕ) → (not (has_duplicates (HashFields (table_meta settings first bits))) && has_duplicate
      (table_pairs g (table_meta settings first bits)) p) ≡ false
  none_duplicate p =
      ap (λ b. not b && has_duplicate pairs p) (flags_many settings.duplicates settings.sorted)
      ∙ by_flags settings.duplicates refl settings.sorted
    where
      pairs : List StoredPair
      pairs = table_pairs g (table_meta settings first bits)

      by_flags : (d : Bool) → settings.duplicates ≡ d → (s : Bool) → (not (d || s) && has_duplicate pairs p) ≡ false
      by_flags true is s = refl
      by_flags false is true = refl
      by_flags false is false =
          none_at p is_duplicate pairs (λ pair at.
          let found = stored_each g settings.sorted pairs (deal (λ unit. bucket_among bits unit.key) units 0 (2 ^ bits)) pair has.all at in
          let one = All-contains (λ (unit : Keyed). length unit.values ≡ 1) units found.0 (suits.single is) (of_deal bits units found.0 found.1) in
          or_from pair.shares (is_set pair.data_item) found.2.shares (found.2.single one))

  none_wrong_set : (p : ℕ) → has_wrong_set g (is_sorted (HashFields (table_meta settings first bits)))
      (table_pairs g (table_meta settings first bits)) p ≡ false
  none_wrong_set p =
      ap (λ b. has_wrong_set g b (table_pairs g (table_meta settings first bits)) p) (flags_sorted settings.duplicates settings.sorted)
      ∙ none_at p (λ pair. is_wrong_set g settings.sorted pair.data_item) (table_pairs g (table_meta settings first bits))
      (λ pair at.
      (stored_each g settings.sorted (table_pairs g (table_meta settings first bits)) (deal (λ unit. bucket_among bits unit.key) units 0 (2 ^ bits))
      pair has.all at).2.right)

  none_out_of_order : (p : ℕ) → (is_sorted (HashFields (table_meta settings first bits)) && has_unsorted g
      (table_pairs g (table_meta settings first bits)) p) ≡ false
  none_out_of_order p =
      ap (λ b. b && has_unsorted g (table_pairs g (table_meta settings first bits)) p) (flags_sorted settings.duplicates settings.sorted)
      ∙ by_flag settings.sorted refl
    where
      by_flag : (s : Bool) → settings.sorted ≡ s → (s && has_unsorted g (table_pairs g (table_meta settings first bits)) p) ≡ false
      by_flag false is = refl
      by_flag true is =
          none_unsorted g settings.sorted (table_pairs g (table_meta settings first bits))
          (deal (λ unit. bucket_among bits unit.key) units 0 (2 ^ bits)) p has.all
          (all_of (λ (unit : Keyed). ascends unit.values ≡ true) (deal (λ unit. bucket_among bits unit.key) units 0 (2 ^ bits))
          (λ unit at. All-contains (λ (one : Keyed). ascends one.values ≡ true) units unit (suits.in_order is) (of_deal bits units unit at)))

  none_wrong_bucket : (p : ℕ) → has_wrong_bucket g (table_meta settings first bits) p ≡ false
  none_wrong_bucket p =
      none_pass (λ b. list_any (λ (pair : StoredPair). pair.page == p && not (bucket_of_key (table_meta settings first bits) pair.key == b))
      (bucket_pairs g (table_meta settings first bits) b)) (range_with_len 0 (2 ^ bits - 1 + 1)) (λ b listed.
      let under = (of_range 0 (2 ^ bits - 1 + 1) b listed).1 in
      let some = pow_pos bits in
      none_at p (λ pair. not (bucket_of_key (table_meta settings first bits) pair.key == b)) (bucket_pairs g (table_meta settings first bits) b)
      (λ pair at.
      let found = stored_each g settings.sorted (bucket_pairs g (table_meta settings first bits) b) (dealt bits units b) pair
      (has.each b (omega (arith, under, some))) at in
      ap (λ k. not (bucket_among bits k == b)) found.2.key
      ∙ ap not (of_filter (λ (u : Keyed). bucket_among bits u.key == b) units found.0 found.1).1))

  none_twice : (p : ℕ) → list_any (λ (pair : StoredPair). pair.page == p) (repeated (table_pairs g (table_meta settings first bits))) ≡ false
  none_twice p =
      ap (list_any (λ (pair : StoredPair). pair.page == p))
      (none_repeated g settings.sorted (table_pairs g (table_meta settings first bits))
      (deal (λ unit. bucket_among bits unit.key) units 0 (2 ^ bits)) has.all
      (dealt_apart (λ unit. bucket_among bits unit.key) (2 ^ bits) units (λ unit. among_low bits unit.key) suits.keys))

  no_rows : (p : ℕ) → holding (database_rows g (HashFields (table_meta settings first bits)) p) ≡ []
  no_rows p = none_holds (database_rows g (HashFields (table_meta settings first bits)) p)
      (none_duplicate p, (none_wrong_set p, (none_out_of_order p, (none_wrong_bucket p, (none_twice p, tt)))))

  table_list : hash_list g (table_meta settings first bits) ≡ flat_map listed_unit units
  unfolding hash_list
  table_list =
      list_is g settings.sorted (table_pairs g (table_meta settings first bits)) (deal (λ unit. bucket_among bits unit.key) units 0 (2 ^ bits))
      has.all
      ∙ ap (flat_map listed_unit) (dealt_back (λ unit. bucket_among bits unit.key) (2 ^ bits) units (λ unit. among_low bits unit.key) suits.keys)

-- The part.

entrance_fits : (g : File) (settings : Settings) (first bits e : ℕ) → 1 ≤ e → e ≤ g.last → IsNextOf g 0 e
    → first_row (fit_rows g (entrance_asks (HashFields (table_meta settings first bits))) e) ≡ None
entrance_fits g settings first bits e low high is = grind (arith, fits_asked, eq-eqb)

pub tables_are_parts : TablesAreParts
tables_are_parts g settings first bits beyond units buckets counted low high some few suits are stands =
    record {
      branch = subst (IsBranch g (between first beyond)) (sym row) (table_branch g first (2 ^ bits) beyond low high over up);
      entered = record {
        fit = λ e at.
            let here = subst (λ es. Contains es e) row at in
            let inside = of_range first (2 ^ bits) e here in
            entrance_fits g settings first bits e (omega (arith, inside.0, low)) (omega (arith, inside.1, up, high)) (over.here e here);
        once = λ e. subst (λ es. length (filter (λ other. other == e) es) ≤ 1) (sym row)
            (ascend_once 0 e (range_with_len first (2 ^ bits)) (range_ascends 0 first (2 ^ bits) low));
      };
      trees = λ root at. absurd (no_member [] root refl at);
      contents = no_rows g settings first bits units suits has;
      list = table_list g settings first bits units suits has;
    }
  where
    row : entrances (HashFields (table_meta settings first bits)) ≡ range_with_len first (2 ^ bits)
    row = entrances_are settings first bits few

    many : length buckets ≡ 2 ^ bits
    many = sym (length-map buckets units_on) ∙ (ap length are ∙ length-map-range_with_len (dealt bits units) 0 (2 ^ bits))

    both : AreOver g first (length buckets) (first + 2 ^ bits) beyond × (first + 2 ^ bits ≤ beyond)
    both = table_over g settings.sorted first (first + 2 ^ bits) beyond buckets counted (omega (arith, low)) high stands

    over : AreOver g first (2 ^ bits) (first + 2 ^ bits) beyond
    over = subst (λ n. AreOver g first n (first + 2 ^ bits) beyond) many both.0

    up : first + 2 ^ bits ≤ beyond
    up = both.1

    has : HasPairs g settings first bits units
    has = has_pairs g settings first bits beyond units buckets counted low high few are stands
