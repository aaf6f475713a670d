-- The rows of a table's contents at a page are those of its pairs by themselves, and of repeated keys.
use Rattle.std.proofs.Common.{arith, ◌≡◌, ◌⊎◌, ℕ, ◌+◌, Bool, true, false, not, ◌&&◌, ◌||◌, cond, List, [], ◌∷◌, ◌++◌, map, refl, sym, ◌∙◌, ap, subst, inl, inr}
use Rattle.std.proofs.Common.{◌==◌}
use Rattle.std.specs.List.{Contains, flat_map, list_any, range_with_len, take_while}
use Rattle.std.proofs.Math.Bool.{and-false}
use Rattle.std.proofs.lemmas.Bool.{and_parts, eq-eqb, eqb-true}
use Rattle.std.proofs.lemmas.List.{append-nil}
use Rattle.std.proofs.lemmas.List.Elements.{Contains-append_cases, Contains-append_left, Contains-append_right}
use Rattle.std.proofs.lemmas.List.Sums.{take_while-cons}
use Rattle.bdb_tree.specs.of_format.declared.metadata.HashMeta.{HashMeta}
use Rattle.bdb_tree.specs.of_format.Terms.{File, HashFields, Row, StoredPair, ascends, bucket_of_key, bucket_pairs, data_of, groups, has_duplicates}
use Rattle.bdb_tree.specs.of_format.Terms.{hash_contents, is_duplicate, is_sorted, is_unsorted, is_wrong_set, live_data, repeated, table_pairs, ◌:?◌}
use Rattle.bdb_tree.specs.of_format.Verdict.{holding}
use Rattle.bdb_tree.proofs.of_format.MemberLemmas.{filter_step, first_member, in_map, later_member, member_cases, no_member, of_map}
use Rattle.bdb_buckets.proofs.PlainLemmas.{IsPlain}
use Rattle.bdb_tree.proofs.of_format.ListLemmas.{any_member, only_member, passes_here}
use Rattle.bdb_tree.proofs.of_overflow.LengthLemmas.{any_of_all}

-- Rows that hold.

-- a row of a table that holds has this code
abbrev pub HoldsIn : List (Row ℕ) → ℕ → Type 0
HoldsIn rows code = (row : Row ℕ) × Contains rows row × (row.holds ≡ true) × (row.code ≡ code)

of_holding : (rows : List (Row ℕ)) (code : ℕ) → Contains (holding rows) code → HoldsIn rows code
of_holding [] code at = absurd (no_member [] code refl at)
of_holding (row ∷ rows) code at =
    elim (filter_step row.code code (holding rows) row.holds at) [
      | inl (holds, same) ↦ (row, first_member row rows, holds, same)
      | inr later ↦ let is = of_holding rows code later in (is.0, later_member row rows is.0 is.1, is.2, is.3)
    ]

in_holding : (rows : List (Row ℕ)) (row : Row ℕ) → Contains rows row → row.holds ≡ true → Contains (holding rows) row.code
in_holding [] row at holds = absurd (no_member [] row refl at)
in_holding (r ∷ rows) row at holds =
    elim (member_cases r rows row at) [
      | inl same ↦
          subst (λ (q : Row ℕ). Contains (cond q.holds (q.code ∷ holding rows) (holding rows)) row.code) (sym same)
          (rw holds (first_member row.code (holding rows)))
      | inr later ↦ elim r.holds as (λ b. Contains (cond b (r.code ∷ holding rows) (holding rows)) row.code) [
        | true ↦ later_member r.code (holding rows) row.code (in_holding rows row later holds)
        | false ↦ in_holding rows row later holds
      ]
    ]

-- Tests of pairs.

and_any : {X : Type 0} (given : Bool) (at test : X → Bool) (xs : List X)
    → (given && list_any (λ x. at x && test x) xs) ≡ list_any (λ x. at x && (given && test x)) xs
and_any true at test xs = refl
and_any false at test [] = refl
and_any false at test (x ∷ xs) = and_any false at test xs ∙ ap (λ b. b || list_any (λ y. at y && false) xs) (sym (and-false (at x)))

-- a test holds for a pair on this page, in its bucket
abbrev pub some_at : (ℕ → List StoredPair) → List ℕ → (ℕ → StoredPair → Bool) → ℕ → Bool
some_at pairs buckets test p = list_any (λ b. list_any (λ (pair : StoredPair). pair.page == p && test b pair) (pairs b)) buckets

pub record IsFound (pairs : ℕ → List StoredPair) (buckets : List ℕ) (test : ℕ → StoredPair → Bool) (p : ℕ) : Type 0 where
  pub bucket : ℕ
  pub listed : Contains buckets bucket
  pub pair : StoredPair
  pub held : Contains (pairs bucket) pair
  pub at : pair.page ≡ p
  pub passes : test bucket pair ≡ true

found_at : (pairs : ℕ → List StoredPair) (buckets : List ℕ) (test : ℕ → StoredPair → Bool) (p : ℕ)
    → some_at pairs buckets test p ≡ true → IsFound pairs buckets test p
found_at pairs buckets test p some = grind (arith, any_member, and_parts, eqb-true)

at_found : (pairs : ℕ → List StoredPair) (buckets : List ℕ) (test : ℕ → StoredPair → Bool) (b : ℕ) (pair : StoredPair)
    → Contains buckets b → Contains (pairs b) pair → test b pair ≡ true
    → some_at pairs buckets test pair.page ≡ true
at_found pairs buckets test b pair listed held passes =
    passes_here (λ c. list_any (λ (one : StoredPair). one.page == pair.page && test c one) (pairs c)) buckets b listed
    (passes_here (λ (one : StoredPair). one.page == pair.page && test b one) (pairs b) pair held
    (ap (λ t. t && test b pair) (eq-eqb pair.page pair.page refl) ∙ passes))

-- Tables of tests.

-- a test of pairs by their bucket, with its code
pub record Test : Type 0 where
  pub code : ℕ
  pub holds : ℕ → StoredPair → Bool

abbrev pub pair_table : List Test → ℕ → StoredPair → List (Row ℕ)
pair_table tests b pair = map (λ (test : Test). test.code :? test.holds b pair) tests

abbrev pub page_table : (ℕ → List StoredPair) → List ℕ → List Test → ℕ → List (Row ℕ)
page_table pairs buckets tests p = map (λ (test : Test). test.code :? some_at pairs buckets test.holds p) tests

abbrev pub repeat_row : List StoredPair → ℕ → Row ℕ
repeat_row repeated p = 9 :? list_any (λ (pair : StoredPair). pair.page == p) repeated

-- each code that holds for a pair holds at its page
pub pair_holds : (pairs : ℕ → List StoredPair) (buckets : List ℕ) (tests : List Test) (repeated : List StoredPair) (b : ℕ)
    (pair : StoredPair) (code : ℕ) → Contains buckets b → Contains (pairs b) pair
    → Contains (holding (pair_table tests b pair)) code
    → Contains (holding (page_table pairs buckets tests pair.page ++ (repeat_row repeated pair.page ∷ []))) code
pair_holds pairs buckets tests repeated b pair code listed held at =
    let is : HoldsIn (pair_table tests b pair) code = of_holding (pair_table tests b pair) code at in
    let test = of_map (λ (t : Test). t.code :? t.holds b pair) tests is.0 is.1 in
    let row : Row ℕ = test.0.code :? some_at pairs buckets test.0.holds pair.page in
    let rows : List (Row ℕ) = page_table pairs buckets tests pair.page in
    let last : List (Row ℕ) = repeat_row repeated pair.page ∷ [] in
    subst (Contains (holding (rows ++ last))) (ap (λ (r : Row ℕ). r.code) test.2 ∙ is.3)
    (in_holding (rows ++ last) row
    (Contains-append_left rows last row (in_map (λ (t : Test). t.code :? some_at pairs buckets t.holds pair.page) tests test.0 test.1))
    (at_found pairs buckets test.0.holds b pair listed held (ap (λ (r : Row ℕ). r.holds) test.2 ∙ is.2)))

pub repeat_holds : (pairs : ℕ → List StoredPair) (buckets : List ℕ) (tests : List Test) (repeated : List StoredPair)
    (pair : StoredPair) → Contains repeated pair
    → Contains (holding (page_table pairs buckets tests pair.page ++ (repeat_row repeated pair.page ∷ []))) 9
repeat_holds pairs buckets tests repeated pair at =
    let row : Row ℕ = repeat_row repeated pair.page in
    in_holding (page_table pairs buckets tests pair.page ++ (row ∷ [])) row
    (Contains-append_right (page_table pairs buckets tests pair.page) (row ∷ []) row (first_member row []))
    (passes_here (λ (one : StoredPair). one.page == pair.page) repeated pair at (eq-eqb pair.page pair.page refl))

-- a code that holds at a page holds for a pair there, or is that of a repeated key
abbrev pub IsByPair : (ℕ → List StoredPair) → List ℕ → List Test → ℕ → ℕ → Type 0
IsByPair pairs buckets tests p code = (test : Test) × (found : IsFound pairs buckets test.holds p)
    × Contains (holding (pair_table tests found.bucket found.pair)) code

abbrev pub IsByRepeat : List StoredPair → ℕ → ℕ → Type 0
IsByRepeat repeated p code = (pair : StoredPair) × Contains repeated pair × (pair.page ≡ p) × (code ≡ 9)

pub page_holds : (pairs : ℕ → List StoredPair) (buckets : List ℕ) (tests : List Test) (repeated : List StoredPair) (p code : ℕ)
    → Contains (holding (page_table pairs buckets tests p ++ (repeat_row repeated p ∷ []))) code
    → IsByPair pairs buckets tests p code ⊎ IsByRepeat repeated p code
page_holds pairs buckets tests repeated p code at =
    let rows : List (Row ℕ) = page_table pairs buckets tests p in
    let last : Row ℕ = repeat_row repeated p in
    let is : HoldsIn (rows ++ (last ∷ [])) code = of_holding (rows ++ (last ∷ [])) code at in
    elim (Contains-append_cases rows (last ∷ []) is.0 is.1) [
      | inl here ↦
          let test = of_map (λ (t : Test). t.code :? some_at pairs buckets t.holds p) tests is.0 here in
          let found : IsFound pairs buckets test.0.holds p =
          found_at pairs buckets test.0.holds p (ap (λ (row : Row ℕ). row.holds) test.2 ∙ is.2) in
          let own : List (Row ℕ) = pair_table tests found.bucket found.pair in
          inl (
            test.0,
            found,
            subst (Contains (holding own)) (ap (λ (row : Row ℕ). row.code) test.2 ∙ is.3)
                (in_holding own (test.0.code :? test.0.holds found.bucket found.pair)
                (in_map (λ (t : Test). t.code :? t.holds found.bucket found.pair) tests test.0 test.1) found.passes),
          )
      | inr there ↦
          let same : last ≡ is.0 = only_member last is.0 there in
          let pair = any_member (λ (one : StoredPair). one.page == p) repeated (ap (λ (row : Row ℕ). row.holds) same ∙ is.2) in
          inr (pair.0, pair.1, eqb-true pair.0.page p pair.2, sym is.3 ∙ ap (λ (row : Row ℕ). row.code) (sym same))
    ]

-- The rows of a table.

-- what is tested of a pair by itself
abbrev pub tests_of : File → HashMeta → List Test
tests_of file meta =
    record { code = 1; holds = λ b pair. not (has_duplicates (HashFields meta)) && is_duplicate pair }
    ∷ record { code = 2; holds = λ b pair. is_wrong_set file (is_sorted (HashFields meta)) pair.data_item }
    ∷ record { code = 5; holds = λ b pair. is_sorted (HashFields meta) && not (ascends (data_of file pair.data_item)) }
    ∷ record { code = 8; holds = λ b pair. not (bucket_of_key meta pair.key == b) }
    ∷ []

abbrev pub buckets_of : HashMeta → List ℕ
buckets_of meta = range_with_len 0 (meta.max_bucket + 1)

-- each of these pairs is live and shares no key
abbrev pub ArePlain : File → List StoredPair → Type 0
ArePlain file pairs = (pair : StoredPair) → Contains pairs pair → IsPlain file pair

no_group : (pairs : List StoredPair) → ((pair : StoredPair) → Contains pairs pair → pair.shares ≡ false)
    → take_while (λ (other : StoredPair). other.shares) pairs ≡ []
no_group [] apart = refl
no_group (pair ∷ pairs) apart = take_while-cons (λ (other : StoredPair). other.shares) pair pairs
    ∙ ap (λ b. cond b (pair ∷ take_while (λ (other : StoredPair). other.shares) pairs) []) (apart pair (first_member pair pairs))

data_alone : (file : File) (pair : StoredPair) → pair.live ≡ true → flat_map (live_data file) (pair ∷ []) ≡ data_of file pair.data_item
data_alone file pair live = ap (λ b. cond b (data_of file pair.data_item) [] ++ []) live ∙ append-nil (data_of file pair.data_item)

groups_alone : (file : File) (pairs : List StoredPair) (p : ℕ) → ArePlain file pairs
    → list_any (λ (group : StoredPair × List StoredPair). group.0.page == p && is_unsorted file group) (groups pairs) ≡ list_any
    (λ (pair : StoredPair). pair.page == p && not (ascends (data_of file pair.data_item))) pairs
groups_alone file [] p plain = refl
groups_alone file (pair ∷ pairs) p plain =
    let none : take_while (λ (other : StoredPair). other.shares) pairs ≡ [] =
    no_group pairs (λ other at. (plain other (later_member pair pairs other at)).apart) in
    rw (
      none,
      data_alone file pair (plain pair (first_member pair pairs)).live,
      groups_alone file pairs p (λ other at. plain other (later_member pair pairs other at)),
    ) refl

rows_eq : (a b c d e f : Bool) (two three : Bool) → a ≡ b → c ≡ d → e ≡ f
    → ◌≡◌ {A = List (Row ℕ)} (1 :? a ∷ 2 :? c ∷ 5 :? e ∷ 8 :? two ∷ 9 :? three ∷ []) (1 :? b ∷ 2 :? d ∷ 5 :? f ∷ 8 :? two ∷ 9 :? three ∷ [])
rows_eq a b c d e f two three p q r = rw (p, q, r) refl

pub rows_are : (file : File) (meta : HashMeta) (p : ℕ) → ArePlain file (table_pairs file meta)
    → hash_contents file meta p ≡ page_table (bucket_pairs file meta) (buckets_of meta) (tests_of file meta) p
    ++ (repeat_row (repeated (table_pairs file meta)) p ∷ [])
unfolding table_pairs
rows_are file meta p plain =
    let pairs : ℕ → List StoredPair = bucket_pairs file meta in
    let buckets : List ℕ = buckets_of meta in
    let all : List StoredPair = flat_map pairs buckets in
    let at : StoredPair → Bool = λ pair. pair.page == p in
    rows_eq _ _ _ _ _ _ _ _
    (and_any (not (has_duplicates (HashFields meta))) at is_duplicate all
    ∙ any_of_all (λ (pair : StoredPair). pair.page == p && (not (has_duplicates (HashFields meta)) && is_duplicate pair)) pairs buckets)
    (any_of_all (λ (pair : StoredPair). pair.page == p && is_wrong_set file (is_sorted (HashFields meta)) pair.data_item) pairs buckets)
    (ap (λ b. is_sorted (HashFields meta) && b) (groups_alone file all p plain)
    ∙ (and_any (is_sorted (HashFields meta)) at (λ (pair : StoredPair). not (ascends (data_of file pair.data_item))) all
    ∙ any_of_all (λ (pair : StoredPair). pair.page == p && (is_sorted (HashFields meta) && not (ascends (data_of file pair.data_item)))) pairs buckets))
