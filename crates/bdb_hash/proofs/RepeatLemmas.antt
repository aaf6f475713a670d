-- Where each key is in its own bucket, the pairs that repeat a key are those of each bucket, one bucket after another.
use Rattle.std.proofs.Common.{◌≡◌, ℕ, zero, suc, ◌+◌, ◌≤◌, ◌<◌, Bool, true, false, ◌||◌, cond, List, [], ◌∷◌, ◌++◌, map, arith, refl, sym, ◌∙◌, ap, subst, not}
use Rattle.std.proofs.Common.{inl, inr, append-nil, append_assoc, ◌==◌, nat_cmp}
use Rattle.std.specs.BTreeSet.{BTreeSet, IsEmpty, Updates}
use Rattle.std.specs.Cmp.Lexicographic.{slice_cmp}
use Rattle.std.specs.List.{Contains, flat_map, list_any, range_with_len}
use Rattle.std.specs.Str.{bytes_eq}
use Rattle.std.proofs.Math.Bool.{or-false}
use Rattle.std.proofs.lemmas.Bool.{eqb-true, false_from_ne_true, not-false, or_from}
use Rattle.std.proofs.lemmas.List.{map-append}
use Rattle.std.proofs.lemmas.List.Elements.{Contains-append_left, Contains-append_right}
use Rattle.std.proofs.lemmas.List.Folds.{list_any-append}
use Rattle.std.proofs.lemmas.List.Sums.{fold-append}
use Rattle.std.proofs.lemmas.Map.Text.{is_eq-slice_cmp}
use Rattle.bdb_faults.specs.Notes.{Notes}
use Rattle.bdb_ranks.specs.of_format.Terms.{StoredPair, bucket_of_key, fault_if, repeated}
use Rattle.bdb_ranks.specs.of_format.declared.rows.Row.TheVariants.{Contents}
use Rattle.bdb_ranks.proofs.of_format.BoolLemmas.{cond_or}
use Rattle.bdb_ranks.specs.of_overflow.Keys.{has_item, has_key, repeated_by}
use Rattle.bdb_ranks.specs.of_format.declared.kinds.Fault.{Fault}
use Rattle.bdb_ranks.specs.of_format.declared.metadata.HashMeta.{HashMeta}
use Rattle.bdb_ranks.proofs.of_format.MemberLemmas.{filter_step, first_member, later_member, member_cases, no_member, none_passes, of_flat_map, of_map, of_range}
use Rattle.bdb_ranks.proofs.of_format.RepeatLemmas.{has_key as has_this, repeated_after, repeated_is}
use Rattle.bdb_ranks.proofs.of_format.LessLemmas.{eq_same}
use Rattle.bdb_hash.specs.Noted.{has_stray, has_stray_in, is_stray, repeat_faults}
use Rattle.bdb_buckets.specs.Repeat.{repeat_fault}
use Rattle.bdb_buckets.specs.Told.{stored, key_of, Told, bucket_told, table_told}
use Rattle.bdb_hash.specs.Passed.{AreKeysOf, IsNoting, NotesRepeats, behind}
use Rattle.bdb_buckets.proofs.RowLemmas.{buckets_of}
use Rattle.bdb_ranks.specs.of_format.declared.rows.ContentsRow.TheVariants.{KeyTwice}
use Rattle.bdb_faults.proofs.SinkLemmas.{notes_nothing, notes_then}
use Rattle.bdb_buckets.proofs.ChainedLemmas.{first_of, rest_of}
use Rattle.bdb_hash.proofs.ChainedLemmas.{first_page_of, other_pages_of}

-- Repeats after other pairs.

-- one of these has this pair's key
abbrev pub has_same : List StoredPair → StoredPair → Bool
has_same earlier pair = list_any (λ (other : StoredPair). bytes_eq other.key pair.key) earlier

-- none of these has the key of one of those
abbrev AreOther : List StoredPair → List StoredPair → Type 0
AreOther earlier pairs = (pair : StoredPair) → Contains pairs pair → has_same earlier pair ≡ false

-- pairs with other keys may be dropped
drop_other : (earlier others pairs : List StoredPair) → AreOther others pairs
    → repeated_after (earlier ++ others) pairs ≡ repeated_after earlier pairs
drop_other earlier others [] other = refl
drop_other earlier others (pair ∷ pairs) other =
    rw (
      list_any-append (λ (one : StoredPair). bytes_eq one.key pair.key) earlier others,
      other pair (first_member pair pairs),
      or-false (has_same earlier pair),
      drop_other (pair ∷ earlier) others pairs (λ one at. other one (later_member pair pairs one at)),
    ) refl

cond_append : (b : Bool) (pair : StoredPair) (xs ys : List StoredPair) → cond b (pair ∷ xs ++ ys) (xs ++ ys) ≡ cond b (pair ∷ xs) xs ++ ys
cond_append b pair xs ys = grind arith

-- the repeats of pairs, and of others behind them with other keys
repeated_append : (earlier xs ys : List StoredPair) → AreOther earlier ys
    → ((x y : StoredPair) → Contains xs x → Contains ys y → bytes_eq x.key y.key ≡ false)
    → repeated_after earlier (xs ++ ys) ≡ repeated_after earlier xs ++ repeated_after [] ys
repeated_append earlier [] ys before' apart = drop_other [] earlier ys before'
repeated_append earlier (x ∷ xs) ys before' apart =
    rw (repeated_append (x ∷ earlier) xs ys
    (λ y at. or_from (bytes_eq x.key y.key) (has_same earlier y) (apart x y (first_member x xs) at) (before' y at))
    (λ z y at_z at_y. apart z y (later_member x xs z at_z) at_y))
    (cond_append (has_same earlier x) x (repeated_after (x ∷ earlier) xs) (repeated_after [] ys))

repeated_parts : (xs ys : List StoredPair) → ((x y : StoredPair) → Contains xs x → Contains ys y → bytes_eq x.key y.key ≡ false)
    → repeated (xs ++ ys) ≡ repeated xs ++ repeated ys
repeated_parts xs ys apart =
    rw (repeated_is (xs ++ ys), repeated_is xs, repeated_is ys) (repeated_append [] xs ys (λ y at. refl) apart)

-- Bucket by bucket.

-- each pair stands in the part that is its key's home
abbrev AreHome : (ℕ → List StoredPair) → (List ℕ → ℕ) → List ℕ → Type 0
AreHome parts home buckets = (b : ℕ) → Contains buckets b → (pair : StoredPair) → Contains (parts b) pair → home pair.key ≡ b

by_part : (parts : ℕ → List StoredPair) (home : List ℕ → ℕ) (a n : ℕ) → AreHome parts home (range_with_len a n)
    → repeated (flat_map parts (range_with_len a n)) ≡ flat_map (λ b. repeated (parts b)) (range_with_len a n)
by_part parts home a zero own = refl
by_part parts home a (suc n) own =
    let later : List ℕ = range_with_len (a + 1) n in
    let apart : (x y : StoredPair) → Contains (parts a) x → Contains (flat_map parts later) y → bytes_eq x.key y.key ≡ false = λ x y at_x at_y.
    false_from_ne_true (bytes_eq x.key y.key) (λ same.
    let found : (c : ℕ) × Contains later c × Contains (parts c) y = of_flat_map parts later y at_y in
    let above : (a + 1 ≤ found.0) × (found.0 < a + 1 + n) = of_range (a + 1) n found.0 found.1 in
    let one : a ≡ found.0 = sym (own a (first_member a later) x at_x)
    ∙ (ap home (eq_same x.key y.key same) ∙ own found.0 (later_member a later found.0 found.1) y found.2) in
    omega (arith, above.0, one)) in
    repeated_parts (parts a) (flat_map parts later) apart
    ∙ ap (λ ps. repeated (parts a) ++ ps) (by_part parts home (a + 1) n (λ b at. own b (later_member a later b at)))

stored_parts : (parts : ℕ → List Told) (buckets : List ℕ) → stored (flat_map parts buckets) ≡ flat_map (λ b. stored (parts b)) buckets
stored_parts parts [] = refl
stored_parts parts (b ∷ bs) = map-append (λ (t : Told). t.pair) (parts b) (flat_map parts bs) ∙ ap (λ ps. stored (parts b) ++ ps)
    (stored_parts parts bs)

-- where there is no stray, each pair has a key of its bucket
home_where_none : (image : List ℕ) (meta : HashMeta) → has_stray image meta ≡ false
    → AreHome (λ b. stored (bucket_told image meta b)) (bucket_of_key meta) (buckets_of meta)
home_where_none image meta none b listed pair held =
    let found = of_map (λ (t : Told). t.pair) (bucket_told image meta b) pair held in
    let here = none_passes (has_stray_in image meta) (buckets_of meta) b none listed in
    let own : is_stray meta b found.0 ≡ false = none_passes (is_stray meta b) (bucket_told image meta b) found.0 here found.1 in
    ap (λ (p : StoredPair). bucket_of_key meta p.key) (sym found.2) ∙ eqb-true (bucket_of_key meta found.0.pair.key) b
    (not-false (bucket_of_key meta found.0.pair.key == b) own)

-- where there is no stray, a pair that repeats a key of the table repeats one of its bucket
pub in_bucket : (image : List ℕ) (meta : HashMeta) (pair : StoredPair) → has_stray image meta ≡ false
    → Contains (repeated (stored (table_told image meta))) pair
    → (b : ℕ) × Contains (buckets_of meta) b × Contains (repeated (stored (bucket_told image meta b))) pair
in_bucket image meta pair none at =
    let parts : ℕ → List StoredPair = λ b. stored (bucket_told image meta b) in
    of_flat_map (λ b. repeated (parts b)) (buckets_of meta) pair
    (subst (λ (ps : List StoredPair). Contains ps pair)
    (ap repeated (stored_parts (bucket_told image meta) (buckets_of meta))
    ∙ by_part parts (bucket_of_key meta) 0 (meta.max_bucket + 1) (home_where_none image meta none)) at)

-- What repeats within a part repeats in the whole.

-- what repeats a key after some pairs does so after pairs with the same keys and more
more_seen : (seen more pairs : List StoredPair) (pair : StoredPair) → ((key : List ℕ) → has_this key seen ≡ true → has_this key more ≡ true)
    → Contains (repeated_after seen pairs) pair → Contains (repeated_after more pairs) pair
more_seen seen more [] pair kept at = at
more_seen seen more (one ∷ pairs) pair kept at =
    elim (filter_step one pair (repeated_after (one ∷ seen) pairs) (has_this one.key seen) at) [
      | inl (has, same) ↦ subst (Contains (repeated_after more (one ∷ pairs))) same
          (rw (kept one.key has) (first_member one (repeated_after (one ∷ more) pairs)))
      | inr later ↦
          passed_over one (has_this one.key more) (repeated_after (one ∷ more) pairs) pair
          (more_seen (one ∷ seen) (one ∷ more) pairs pair (λ key. either (bytes_eq one.key key) (has_this key seen) (has_this key more) (kept key)) later)
    ]
  where
    passed_over : (other : StoredPair) (b : Bool) (rest : List StoredPair) (one : StoredPair) → Contains rest one
        → Contains (cond b (other ∷ rest) rest) one
    passed_over other true rest one at = later_member other rest one at
    passed_over other false rest one at = at

    either : (a b c : Bool) → (b ≡ true → c ≡ true) → (a || b) ≡ true → (a || c) ≡ true
    either true b c kept is = refl
    either false b c kept is = kept is

after_append : (seen xs ys : List StoredPair) → repeated_after seen (xs ++ ys) ≡ repeated_after seen xs ++ repeated_after (behind seen xs) ys
after_append seen [] ys = refl
after_append seen (x ∷ xs) ys = grind (arith, cond_append, repeated_after, after_append (x ∷ seen) xs ys)

part_in : (parts : ℕ → List StoredPair) (buckets : List ℕ) (b : ℕ) (pair : StoredPair) (seen : List StoredPair) → Contains buckets b
    → Contains (repeated_after [] (parts b)) pair → Contains (repeated_after seen (flat_map parts buckets)) pair
part_in parts [] b pair seen listed at = absurd (no_member [] b refl listed)
part_in parts (c ∷ cs) b pair seen listed at =
    let here : List StoredPair = repeated_after seen (parts c) in
    let later : List StoredPair = repeated_after (behind seen (parts c)) (flat_map parts cs) in
    subst (λ ps. Contains ps pair) (sym (after_append seen (parts c) (flat_map parts cs)))
    (elim (member_cases c cs b listed) [
      | inl same ↦ Contains-append_left here later pair
          (more_seen [] seen (parts c) pair (λ key has. absurd cc) (subst (λ d. Contains (repeated_after [] (parts d)) pair) (sym same) at))
      | inr there ↦ Contains-append_right here later pair (part_in parts cs b pair (behind seen (parts c)) there at)
    ])

-- a pair that repeats a key of its bucket repeats one of the table
pub in_table : (image : List ℕ) (meta : HashMeta) (b : ℕ) (pair : StoredPair) → Contains (buckets_of meta) b
    → Contains (repeated (stored (bucket_told image meta b))) pair → Contains (repeated (stored (table_told image meta))) pair
in_table image meta b pair listed at =
    let parts : ℕ → List StoredPair = λ c. stored (bucket_told image meta c) in
    subst (λ (ps : List StoredPair). Contains ps pair)
    (sym (ap repeated (stored_parts (bucket_told image meta) (buckets_of meta)) ∙ repeated_is (flat_map parts (buckets_of meta))))
    (part_in parts (buckets_of meta) b pair [] listed (subst (λ (ps : List StoredPair). Contains ps pair) (repeated_is (parts b)) at))

-- Repeats noted one after another.

pub none_noted : (keys : BTreeSet (List ℕ)) (before : List Fault → Type 0) → NotesRepeats keys keys before before []
none_noted keys before = record { next = λ seen are. (are, notes_nothing before) }

keys_more : (keys more : BTreeSet (List ℕ)) (seen : List StoredPair) (pair : StoredPair) → AreKeysOf keys seen
    → Updates (slice_cmp nat_cmp) keys more pair.key true → AreKeysOf more (pair ∷ seen)
keys_more keys more seen pair are updates sought = grind (arith, is_eq-slice_cmp, cond_or)

repeat_here : (has : Bool) (pair : StoredPair) → fault_if (Contents KeyTwice) pair.page has ≡ map repeat_fault (cond has (pair ∷ []) [])
repeat_here true pair = refl
repeat_here false pair = refl

not_not : (b : Bool) → not (not b) ≡ b
not_not true = refl
not_not false = refl

pub one_noted : (keys more : BTreeSet (List ℕ)) (before after : List Fault → Type 0) (t : Told) (key : List ℕ) (page : ℕ) (is_new : Bool)
    → Updates (slice_cmp nat_cmp) keys more key true → is_new ≡ not (has_key keys key) → key ≡ t.pair.key → page ≡ t.pair.page
    → Notes before after (fault_if (Contents KeyTwice) page (not is_new)) → NotesRepeats keys more before after (t ∷ [])
one_noted keys more before after t key page is_new updates new_is same at notes = grind (arith, keys_more, not_not, repeat_here)

repeats_append : (seen xs ys : List StoredPair)
    → repeated_by key_of seen (xs ++ ys) ≡ repeated_by key_of seen xs ++ repeated_by key_of (behind seen xs) ys
repeats_append seen [] ys = refl
repeats_append seen (x ∷ xs) ys = grind (arith, cond_append, repeats_append (x ∷ seen) xs ys)

pub both_noted : (a b c : BTreeSet (List ℕ)) (before mid after : List Fault → Type 0) (xs ys : List Told) → NotesRepeats a b before mid xs
    → NotesRepeats b c mid after ys → NotesRepeats a c before after (xs ++ ys)
both_noted a b c before mid after xs ys first second = record {
  next = λ seen are.
      let here = first.next seen are in
      let there = second.next (behind seen (stored xs)) here.0 in
      let parts : stored (xs ++ ys) ≡ stored xs ++ stored ys = map-append (λ (t : Told). t.pair) xs ys in
      let one : List StoredPair = repeated_by key_of seen (stored xs) in
      let two : List StoredPair = repeated_by key_of (behind seen (stored xs)) (stored ys) in (
        λ sought. there.0 sought ∙ ap (λ ps. has_item key_of ps sought)
            (sym (ap (behind seen) parts ∙ fold-append (λ (ps : List StoredPair) (pair : StoredPair). pair ∷ ps) seen (stored xs) (stored ys))),
        subst (Notes before after)
            (sym (ap (λ ps. map repeat_fault (repeated_by key_of seen ps)) parts
            ∙ (ap (map repeat_fault) (repeats_append seen (stored xs) (stored ys)) ∙ map-append repeat_fault one two)))
            (notes_then before mid after (map repeat_fault one) (map repeat_fault two) here.1 there.1),
      );
}

pub none_noting : (keys : BTreeSet (List ℕ)) (before : List Fault → Type 0) (all : List Told) → IsNoting keys keys before before all all
none_noting keys before all = record { done = []; whole = refl; notes = none_noted keys before }

pub more_noting : (old now next : BTreeSet (List ℕ)) (before mid after : List Fault → Type 0) (all left here rest : List Told)
    → IsNoting old now before mid all left → left ≡ here ++ rest → NotesRepeats now next mid after here → IsNoting old next before after all rest
more_noting old now next before mid after all left here rest noting is notes = record {
  done = noting.done ++ here;
  whole = noting.whole ∙ (ap (λ ts. noting.done ++ ts) is ∙ sym (append_assoc noting.done here rest));
  notes = both_noted old now next before mid after noting.done here noting.notes notes;
}

pub one_noting : (old now next : BTreeSet (List ℕ)) (before mid after : List Fault → Type 0) (all left rest : List Told) (t : Told)
    → IsNoting old now before mid all left → left ≡ t ∷ rest → NotesRepeats now next mid after (t ∷ []) → IsNoting old next before after all rest
one_noting old now next before mid after all left rest t noting is notes =
    more_noting old now next before mid after all left (t ∷ []) rest noting is notes

pub all_noting : (old new : BTreeSet (List ℕ)) (before after : List Fault → Type 0) (all left : List Told)
    → IsNoting old new before after all left → left ≡ [] → NotesRepeats old new before after all
all_noting old new before after all left noting none = grind (arith, append-nil)

-- What was noted after no pair.

pub same_repeated : (seen pairs : List StoredPair) → repeated_by key_of seen pairs ≡ repeated_after seen pairs
same_repeated seen [] = refl
same_repeated seen (pair ∷ pairs) =
    ap (λ (ps : List StoredPair). cond (has_item key_of seen pair.key) (pair ∷ ps) ps) (same_repeated (pair ∷ seen) pairs)

pub noted_anew : (empty keys : BTreeSet (List ℕ)) (before after : List Fault → Type 0) (pairs : List Told) → IsEmpty empty
    → NotesRepeats empty keys before after pairs → Notes before after (repeat_faults pairs)
noted_anew empty keys before after pairs none notes =
    subst (λ (again : List StoredPair). Notes before after (map repeat_fault again)) (same_repeated [] (stored pairs) ∙ sym (repeated_is (stored pairs)))
    (notes.next [] (λ sought. rw none refl)).1

-- how what repeats on a page is noted
pub ruleset noting_page = (first_of, rest_of, all_noting, none_noting, one_noting)

-- how what repeats in a bucket is noted
pub ruleset noting_bucket = (first_page_of, other_pages_of, all_noting, more_noting, none_noting)
