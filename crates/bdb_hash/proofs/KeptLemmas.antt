-- Pairs whose hash no other pair has repeat no key, and need not be kept.
use Rattle.std.proofs.Common.{arith, ◌≡◌, ℕ, ◌+◌, Bool, true, false, not, ◌&&◌, ◌||◌, cond, List, [], ◌∷◌, ◌++◌, map, refl, sym, ◌∙◌, ap, subst, nat_eq}
use Rattle.std.specs.BTreeSet.{BTreeSet, IsEmpty}
use Rattle.std.specs.List.{Contains, IsDistinct, filter, flat_map, range_with_len}
use Rattle.std.specs.Str.{bytes_eq}
use Rattle.std.proofs.lemmas.Bool.{eq-eqb, false_from_ne_true, or_from}
use Rattle.std.proofs.lemmas.List.Elements.{All-contains, All-from_recursion, filter-append}
use Rattle.bdb_faults.specs.Notes.{Notes}
use Rattle.bdb_ranks.specs.of_format.declared.kinds.Fault.{Fault}
use Rattle.bdb_ranks.specs.of_format.declared.metadata.HashMeta.{HashMeta}
use Rattle.bdb_ranks.specs.of_format.Terms.{StoredPair, bucket_pages, file_of, hash5}
use Rattle.bdb_ranks.proofs.of_format.MemberLemmas.{first_member, in_map, later_member}
use Rattle.bdb_ranks.proofs.of_format.RepeatLemmas.{has_key as has_this, repeated_after, repeated_is}
use Rattle.bdb_ranks.proofs.of_format.LessLemmas.{eq_same}
use Rattle.bdb_buckets.specs.Chained.{AreOf, Seen}
use Rattle.bdb_buckets.specs.Repeat.{repeat_fault}
use Rattle.bdb_hash.specs.Noted.{repeat_faults}
use Rattle.bdb_buckets.specs.Told.{stored, Told, bucket_told, joined_pages, page_told}
use Rattle.bdb_hash.specs.Passed.{IsNoting, NotesRepeats, is_among, is_kept, is_missed, key_hash}
use Rattle.bdb_buckets.proofs.ChainedLemmas.{first_of, rest_of}
use Rattle.bdb_hash.proofs.ChainedLemmas.{first_page_of, other_pages_of, bucket_of_file}
use Rattle.bdb_hash.proofs.RepeatLemmas.{all_noting, both_noted, more_noting, none_noting, noted_anew, none_noted}
use Rattle.bdb_buckets.proofs.TableLemmas.{told_more}

-- Going through the pairs.

pub none_kept : (twice : BTreeSet ℕ) (keys : BTreeSet (List ℕ)) (before : List Fault → Type 0) (all : List Told)
    → IsNoting keys keys before before (filter (is_kept twice) all) (filter (is_kept twice) all)
none_kept twice keys before all = none_noting keys before (filter (is_kept twice) all)

pub more_kept : (twice : BTreeSet ℕ) (old now next : BTreeSet (List ℕ)) (before mid after : List Fault → Type 0) (all left here rest : List Told)
    → IsNoting old now before mid (filter (is_kept twice) all) (filter (is_kept twice) left) → left ≡ here ++ rest
    → NotesRepeats now next mid after (filter (is_kept twice) here)
    → IsNoting old next before after (filter (is_kept twice) all) (filter (is_kept twice) rest)
more_kept twice old now next before mid after all left here rest noting is notes = grind (arith, more_noting, filter-append)

pub one_kept : (twice : BTreeSet ℕ) (old now next : BTreeSet (List ℕ)) (before mid after : List Fault → Type 0) (all left rest : List Told) (t : Told)
    → IsNoting old now before mid (filter (is_kept twice) all) (filter (is_kept twice) left) → left ≡ t ∷ rest
    → NotesRepeats now next mid after (filter (is_kept twice) (t ∷ []))
    → IsNoting old next before after (filter (is_kept twice) all) (filter (is_kept twice) rest)
one_kept twice old now next before mid after all left rest t noting is notes =
    more_kept twice old now next before mid after all left (t ∷ []) rest noting is notes

-- The pairs of a page that are left: all but them are noted, and the files of the keys and of the chains are the same ones.
abbrev pub IsKeeping : BTreeSet ℕ → Seen → Seen → List ℕ → List ℕ → (List Fault → Type 0) → (List Fault → Type 0) → List Told → List Told → Type 0
IsKeeping twice old now chains known before after all left = record {
  noting : IsNoting old.keys now.keys before after (filter (is_kept twice) all) (filter (is_kept twice) left);
  seen : now.image ≡ old.image;
  known : known ≡ chains;
  here : AreOf old.image left;
  there : AreOf chains left;
}

pub keeps_one : (twice : BTreeSet ℕ) (old now next : Seen) (chains known then_known : List ℕ) (before mid after : List Fault → Type 0)
    (all left rest : List Told) (t : Told) → IsKeeping twice old now chains known before mid all left → left ≡ t ∷ rest
    → NotesRepeats now.keys next.keys mid after (filter (is_kept twice) (t ∷ [])) → next.image ≡ now.image → then_known ≡ known
    → IsKeeping twice old next chains then_known before after all rest
keeps_one twice old now next chains known then_known before mid after all left rest t keeping is notes seen same = grind (arith, one_kept, rest_of)

pub all_kept : (twice : BTreeSet ℕ) (old new : BTreeSet (List ℕ)) (before after : List Fault → Type 0) (all left : List Told)
    → IsNoting old new before after (filter (is_kept twice) all) (filter (is_kept twice) left) → left ≡ []
    → NotesRepeats old new before after (filter (is_kept twice) all)
all_kept twice old new before after all left noting none =
    all_noting old new before after (filter (is_kept twice) all) (filter (is_kept twice) left) noting (ap (filter (is_kept twice)) none)

-- one more bucket
pub kept_more : (image : List ℕ) (meta : HashMeta) (twice : BTreeSet ℕ) (b : ℕ) (old now new : BTreeSet (List ℕ))
    (before mid after : List Fault → Type 0) (pages : List (List Told))
    → NotesRepeats old now before mid (filter (is_kept twice) (flat_map (bucket_told image meta) (range_with_len 0 b)))
    → pages ≡ map (page_told image) (bucket_pages (file_of image) meta b)
    → NotesRepeats now new mid after (filter (is_kept twice) (joined_pages pages))
    → NotesRepeats old new before after (filter (is_kept twice) (flat_map (bucket_told image meta) (range_with_len 0 (b + 1))))
kept_more image meta twice b old now new before mid after pages done are notes = grind (arith, told_more, filter-append, both_noted)

-- What they repeat.

-- pairs with one key are kept both or neither
kept_alike : (twice : BTreeSet ℕ) (a b : List ℕ) → bytes_eq a b ≡ true → is_among twice (hash5 a) ≡ is_among twice (hash5 b)
kept_alike twice a b same = ap (λ key. is_among twice (hash5 key)) (eq_same a b same)

-- a pair that isn't kept has another hash than all later ones
other_hash : (twice : BTreeSet ℕ) (t : Told) (ts : List Told) (u : Told) → IsDistinct (is_missed twice) (map key_hash (t ∷ ts))
    → is_kept twice t ≡ false → Contains ts u → bytes_eq t.pair.key u.pair.key ≡ false
unfolding IsDistinct
other_hash twice t ts u apart lost at =
    false_from_ne_true (bytes_eq t.pair.key u.pair.key) (λ same.
    let missed : is_missed twice (key_hash t) (key_hash u) ≡ false =
    All-contains (λ n. is_missed twice (key_hash t) n ≡ false) (map key_hash ts) (key_hash u) (All-from_recursion _ (map key_hash ts) apart.0)
    (in_map key_hash ts u at) in
    let hashes : nat_eq (key_hash t) (key_hash u) ≡ true = eq-eqb (key_hash t) (key_hash u) (ap hash5 (eq_same t.pair.key u.pair.key same)) in
    cannot (nat_eq (key_hash t) (key_hash u)) (is_kept twice t) hashes lost missed)
  where
    cannot : (x y : Bool) → x ≡ true → y ≡ false → (x && not y) ≡ false → ⊥
    cannot true false p q r = absurd cc
    cannot true true p q r = absurd cc
    cannot false y p q r = absurd cc

later_apart : (twice : BTreeSet ℕ) (t : Told) (ts : List Told) → IsDistinct (is_missed twice) (map key_hash (t ∷ ts))
    → IsDistinct (is_missed twice) (map key_hash ts)
unfolding IsDistinct
later_apart twice t ts apart = apart.1

same_or : (a b c : Bool) → b ≡ c → (a || b) ≡ (a || c)
same_or a b c is = ap (λ x. a || x) is

kept_repeats : (twice : BTreeSet ℕ) (seen kept : List StoredPair) (pairs : List Told) → IsDistinct (is_missed twice) (map key_hash pairs)
    → ((u : Told) → Contains pairs u → is_kept twice u ≡ false → has_this u.pair.key seen ≡ false)
    → ((key : List ℕ) → is_among twice (hash5 key) ≡ true → has_this key kept ≡ has_this key seen)
    → repeated_after kept (stored (filter (is_kept twice) pairs)) ≡ repeated_after seen (stored pairs)
kept_repeats twice seen kept [] apart new same = refl
kept_repeats twice seen kept (t ∷ ts) apart new same =
    elim (is_kept twice t) as (λ b. is_kept twice t ≡ b
    → repeated_after kept (stored (cond b (t ∷ filter (is_kept twice) ts) (filter (is_kept twice) ts))) ≡ repeated_after seen (stored (t ∷ ts))) [
      | true ↦ λ is. rw (
        same t.pair.key is,
        kept_repeats twice (t.pair ∷ seen) (t.pair ∷ kept) ts (later_apart twice t ts apart)
            (λ u at lost. or_from (bytes_eq t.pair.key u.pair.key) (has_this u.pair.key seen)
            (false_from_ne_true (bytes_eq t.pair.key u.pair.key) (λ one.
            let alike : is_among twice (hash5 t.pair.key) ≡ is_among twice (hash5 u.pair.key) = kept_alike twice t.pair.key u.pair.key one in cc))
            (new u (later_member t ts u at) lost))
            (λ key among. same_or (bytes_eq t.pair.key key) (has_this key kept) (has_this key seen) (same key among)),
      ) refl
      | false ↦ λ is. rw (
        new t (first_member t ts) is,
        kept_repeats twice (t.pair ∷ seen) kept ts (later_apart twice t ts apart)
            (λ u at lost. or_from (bytes_eq t.pair.key u.pair.key) (has_this u.pair.key seen) (other_hash twice t ts u apart is at)
            (new u (later_member t ts u at) lost))
            (λ key among. same key among
            ∙ ap (λ b. b || has_this key seen) (sym (false_from_ne_true (bytes_eq t.pair.key key) (λ one.
            let alike : is_among twice (hash5 t.pair.key) ≡ is_among twice (hash5 key) = kept_alike twice t.pair.key key one in cc)))),
      ) refl
    ] refl

-- those that are kept repeat what all do
pub kept_anew : (twice : BTreeSet ℕ) (empty keys : BTreeSet (List ℕ)) (before after : List Fault → Type 0) (pairs : List Told) → IsEmpty empty
    → IsDistinct (is_missed twice) (map key_hash pairs) → NotesRepeats empty keys before after (filter (is_kept twice) pairs)
    → Notes before after (repeat_faults pairs)
kept_anew twice empty keys before after pairs none apart notes =
    subst (λ (again : List StoredPair). Notes before after (map repeat_fault again))
    (repeated_is (stored (filter (is_kept twice) pairs))
    ∙ (kept_repeats twice [] [] pairs apart (λ u at lost. refl) (λ key among. refl) ∙ sym (repeated_is (stored pairs))))
    (noted_anew empty keys before after (filter (is_kept twice) pairs) none notes)

-- how a page keeps what is noted
pub ruleset keeping_page = (first_of, rest_of, all_kept, none_kept, one_kept)

-- how a bucket keeps what is noted
pub ruleset keeping_bucket = (first_page_of, other_pages_of, all_kept, more_kept, none_kept)

-- how a table keeps what is noted
pub ruleset keeping_table = (bucket_of_file, kept_anew, none_noted, kept_more)
