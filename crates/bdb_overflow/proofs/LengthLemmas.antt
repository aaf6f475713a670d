-- Chains of a wrong length, item by item, and the faults that they are.
use Rattle.std.proofs.Common.{◌≡◌, ℕ, zero, suc, ◌+◌, ◌<◌, ◌≤◌, Bool, true, false, List, [], ◌∷◌, length, drop, map, get_or, Some, arith, inl, inr, refl, subst}
use Rattle.std.proofs.Common.{sym, ◌∙◌, ap, add-one, zero-add, ◌&&◌, ◌||◌, slice_get}
use Rattle.std.proofs.lemmas.Bool.{cases_lt}
use Rattle.std.proofs.Math.Seq.{drop-cons}
use Rattle.std.proofs.lemmas.List.{drop_all}
use Rattle.std.specs.List.{filter, flat_map, list_any, range_with_len}
use Rattle.std.proofs.lemmas.List.Folds.{flat_map-map, list_any-append, list_any_at}
use Rattle.std.proofs.lemmas.List.FromFn.{get_or-range_with_len, length-range_with_len}
use Rattle.bdb_graph.specs.of_slots.Slots.{no_internal_item}
use Rattle.bdb_graph.specs.of_format.Terms.{Content, DupLeaf, File, Hash, Internal, InternalItem, Item, Leaf, Listed, RecnoLeaf, chain_faults, content_chains}
use Rattle.bdb_graph.specs.of_format.Terms.{is_wrong_length, no_item, page_at}
use Rattle.bdb_graph.proofs.of_format.MemberLemmas.{none_pass, of_range}
use Rattle.bdb_graph.proofs.of_format.VerdictLemmas.{no_faults, none_holds}
use Rattle.bdb_overflow.specs.Lengths.{has_wrong, is_wrong, some_wrong}
use Rattle.bdb_overflow.proofs.ContentLemmas.{got}

-- an item that was read is the one of its entry
pub entry_is : {I : Type 0} (page : Listed I) (i : ℕ) (item none : I) → slice_get page.items i ≡ Some item → get_or page.items i none ≡ item
entry_is page i item none at = (got page.items i item none at).1

-- Pages.

-- a test fails below a number
abbrev pub NoneBelow : (ℕ → Bool) → ℕ → Type 0
NoneBelow test n = (k : ℕ) → k < n → test k ≡ false

pub one_more : (test : ℕ → Bool) (n : ℕ) → NoneBelow test n → test n ≡ false → NoneBelow test (n + 1)
one_more test n none last k low = elim (cases_lt k n) [
  | inl below ↦ none k below
  | inr above ↦ let same : n ≡ k = omega (arith, above, low) in subst (λ (i : ℕ). test i ≡ false) same last
]

pub any_of_all : {X C : Type 0} (wrong : C → Bool) (f : X → List C) (xs : List X) → list_any wrong (flat_map f xs) ≡ list_any (λ x. list_any wrong (f x)) xs
any_of_all wrong f [] = refl
any_of_all wrong f (x ∷ xs) = list_any-append wrong (f x) (flat_map f xs) ∙ ap (λ b. list_any wrong (f x) || b) (any_of_all wrong f xs)

-- a chain of a wrong length among those of elements
wrong_held : {X : Type 0} (file : File) (f : X → Content) (xs : List X)
    → list_any (is_wrong_length file) (flat_map content_chains (map f xs)) ≡ list_any (λ x. is_wrong file (f x)) xs
wrong_held file f xs =
    ap (list_any (is_wrong_length file)) (flat_map-map content_chains f xs) ∙ any_of_all (is_wrong_length file) (λ x. content_chains (f x)) xs

-- a test of each element by its index
any_index : {X : Type 0} (f : X → Bool) (d : X) (xs : List X) (i n : ℕ) → i + n ≡ length xs
    → list_any (λ k. f (get_or xs k d)) (range_with_len i n) ≡ list_any f (drop i xs)
any_index f d xs i zero all = rw (drop_all i xs (omega arith)) refl
any_index f d xs i (suc n) all = grind (arith, add-one, drop-cons, any_index f d xs (i + 1) n (omega arith))

-- a page without shared keys, entry by entry
plain_wrong : {I : Type 0} (file : File) (content : I → Content) (none : I) (page : Listed I)
    → some_wrong file false content none page ≡ list_any (is_wrong_length file) (flat_map content_chains (map content page.items))
plain_wrong file content none page =
    any_index (λ item. is_wrong file (content item)) none page.items 0 (length page.items) (omega arith) ∙ sym (wrong_held file content page.items)

any_kept : {X : Type 0} (test keeps : X → Bool) (xs : List X) → list_any test (filter keeps xs) ≡ list_any (λ x. keeps x && test x) xs
any_kept test keeps [] = refl
any_kept test keeps (x ∷ xs) = grind (arith, any_kept test keeps xs)

wrong_entries : (file : File) (page : Listed Item) → has_wrong file (Leaf page) ≡ some_wrong file true (λ (item : Item). item.content) no_item page
wrong_entries file page = grind (arith, wrong_held, any_kept)

pub leaf_wrong : (file : File) (page : Listed Item) → some_wrong file true (λ (item : Item). item.content) no_item page ≡ has_wrong file (Leaf page)
leaf_wrong file page = sym (wrong_entries file page)

pub records_wrong : (file : File) (page : Listed Item) → some_wrong file false (λ (item : Item). item.content) no_item page ≡ has_wrong file (RecnoLeaf page)
records_wrong file page = plain_wrong file (λ (item : Item). item.content) no_item page

pub sorted_wrong : (file : File) (page : Listed Item) → some_wrong file false (λ (item : Item). item.content) no_item page ≡ has_wrong file (DupLeaf page)
sorted_wrong file page = plain_wrong file (λ (item : Item). item.content) no_item page

pub hash_wrong : (file : File) (page : Listed Item) → some_wrong file false (λ (item : Item). item.content) no_item page ≡ has_wrong file (Hash page)
hash_wrong file page = plain_wrong file (λ (item : Item). item.content) no_item page

pub keys_wrong : (file : File) (page : Listed InternalItem) → some_wrong file false (λ (item : InternalItem). item.key) no_internal_item page
    ≡ has_wrong file (Internal page)
keys_wrong file page = plain_wrong file (λ (item : InternalItem). item.key) no_internal_item page

-- a test that holds for an entry, or for none
pub entries_some : (test : ℕ → Bool) (n i : ℕ) → i < n → test i ≡ true → list_any test (range_with_len 0 n) ≡ true
entries_some test n i there is =
    list_any_at test (range_with_len 0 n) i 0 (omega (arith, length-range_with_len 0 n)) (ap test (get_or-range_with_len 0 n i 0 there ∙ zero-add i) ∙ is)

pub entries_none : (test : ℕ → Bool) (n k : ℕ) → NoneBelow test k → n ≤ k → list_any test (range_with_len 0 n) ≡ false
entries_none test n k none all =
    none_pass test (range_with_len 0 n) (λ i at. let inside = of_range 0 n i at in none i (omega (arith, inside.1)))

-- whether a page names a chain of a wrong length
pub ruleset wrong_by_page = (leaf_wrong, records_wrong, sorted_wrong, hash_wrong, keys_wrong)

-- The stage.

-- no fault at any page
pub chains_none : (file : File) → ((p : ℕ) → p ≤ file.last → has_wrong file (page_at file p) ≡ false) → chain_faults file ≡ []
unfolding chain_faults
chains_none file right = grind (arith, no_faults, none_holds)
