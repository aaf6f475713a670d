-- The live pairs of a sound master: each names a metadata page, no two name the same one, and no two have one key.
use Rattle.std.proofs.Common.{◌≡◌, ◌≢◌, ℕ, ◌≤◌, Bool, true, false, List, [], ◌∷◌, length, arith, refl, sym, ◌∙◌, ap, subst, inl, inr, true≢false}
use Rattle.std.specs.Prelude.{Some, nat_lt}
use Rattle.std.specs.List.{Contains}
use Rattle.std.specs.Str.{bytes_eq}
use Rattle.std.proofs.lemmas.Bool.{and_parts, cases_eq, eq-eqb, ltb-true}
use Rattle.std.proofs.lemmas.Option.{same_Some}
use Rattle.bdb_apart.specs.of_format.Terms.{Chain, Content, File, Inline, Set, StoredPair, Tree, Unknown, data_of, file_of, is_meta, is_page, master_pairs}
use Rattle.bdb_apart.specs.of_format.Terms.{named_by, naming, page_at, page_named, value_of}
use Rattle.bdb_law_homes.proofs.of_format.ListLemmas.{only_member}
use Rattle.bdb_law_homes.proofs.of_format.MemberLemmas.{in_filter, in_map, no_member}
use Rattle.bdb_law_homes.proofs.of_law_sums.MetaLemmas.{named_once}
use Rattle.bdb_law_kept.proofs.of_databases.NameOrderLemmas.{none_repeats}
use Rattle.bdb_law_kept.proofs.of_databases.NamedLemmas.{entry_names, kind_inside}
use Rattle.bdb_law_kept.specs.of_databases.of_master.Entries.{named}
use Rattle.bdb_law_homes.proofs.of_format.LessLemmas.{eq_self}
use Rattle.bdb_law_homes.proofs.of_format.RepeatLemmas.{repeated_is}
use Rattle.bdb_law_kept.proofs.KeyedLemmas.{later_apart}
use Rattle.bdb_law_kept.specs.Later.{AllLater}
use Rattle.bdb_law_homes.proofs.of_law_sums.of_tree.PairLemmas.{master_pair_inside}
use Rattle.bdb_law_apart.proofs.ApartLemmas.{either_way}
use Rattle.bdb_law_apart.proofs.SeenLemmas.{IsSeen}

-- a live pair of a master names a page by its key
pub record Names (file : File) (key : List ℕ) (p : ℕ) : Type 0 where
  pub pair : StoredPair
  pub among : Contains (master_pairs file) pair
  pub key_is : pair.key ≡ key
  pub names : named_by file pair.data_item ≡ Some p

-- the page that a live pair names
pub record NamesPage (file : File) (pair : StoredPair) : Type 0 where
  pub page : ℕ
  pub names : named_by file pair.data_item ≡ Some page
  pub above : 1 ≤ page
  pub inside : page ≤ file.last
  pub is : is_meta (page_at file page) ≡ true

pub names_page : (image : List ℕ) (pair : StoredPair) → IsSeen image → Contains (master_pairs (file_of image)) pair → NamesPage (file_of image) pair
names_page image pair is at =
    let file : File = file_of image in
    let names = entry_names file (named file pair) (λ one among. master_pair_inside image one is.sound.forest among) is.sound.master
    (in_map (named file) (master_pairs file) pair at) in
    let both = and_parts (nat_lt 0 names.page) (is_meta (page_at file names.page)) names.kind in
    record {
      page = names.page;
      names = names.names_are;
      above = ltb-true 0 names.page both.0;
      inside = kind_inside image names.page names.kind;
      is = both.1;
    }

pub page_of : (image : List ℕ) (pair : StoredPair) (p : ℕ) → IsSeen image → Contains (master_pairs (file_of image)) pair
    → named_by (file_of image) pair.data_item ≡ Some p → (1 ≤ p) × (p ≤ (file_of image).last) × (is_meta (page_at (file_of image) p) ≡ true)
page_of image pair p is at names =
    let found = names_page image pair is at in
    let same : found.page ≡ p = same_Some found.page p (sym found.names ∙ names) in (
      subst (λ n. 1 ≤ n) same found.above,
      subst (λ n. n ≤ (file_of image).last) same found.inside,
      subst (λ n. is_meta (page_at (file_of image) n) ≡ true) same
          found.is,
    )

-- the data of such a pair are one datum, which names the page
pub named_data : (file : File) (content : Content) (p : ℕ) (value : List ℕ) → named_by file content ≡ Some p → Contains (data_of file content) value
    → page_named value ≡ Some p
unfolding data_of
named_data file (Inline bytes) p value is at = ap page_named (sym (only_member bytes value at)) ∙ is
named_data file (Chain head total) p value is at = ap page_named (sym (only_member (value_of file (Chain head total)) value at)) ∙ is
named_data file (Set blocks) p value is at = absurd cc
named_data file (Tree root) p value is at = absurd cc
named_data file Unknown p value is at = absurd cc

pub one_there : {X : Type 0} (x : X) → Contains (x ∷ []) x
one_there x = (0, omega arith, refl)

pub has_data : (file : File) (content : Content) (p : ℕ) → named_by file content ≡ Some p
    → (value : List ℕ) × Contains (data_of file content) value × (page_named value ≡ Some p)
unfolding data_of
has_data file (Inline bytes) p is = (bytes, one_there bytes, is)
has_data file (Chain head total) p is = (value_of file (Chain head total), one_there (value_of file (Chain head total)), is)
has_data file (Set blocks) p is = absurd cc
has_data file (Tree root) p is = absurd cc
has_data file Unknown p is = absurd cc

-- A page is named by one pair.

of_one : {X : Type 0} (xs : List X) (x y : X) → length xs ≡ 1 → Contains xs x → Contains xs y → x ≡ y
of_one [] x y one at_x at_y = absurd (no_member [] x refl at_x)
of_one (z ∷ []) x y one at_x at_y = sym (only_member z x at_x) ∙ only_member z y at_y
of_one (z ∷ (w ∷ xs)) x y one at_x at_y = absurd (omega (arith, one))

pub one_pair : (image : List ℕ) (a b : StoredPair) (p : ℕ) → IsSeen image → Contains (master_pairs (file_of image)) a
    → Contains (master_pairs (file_of image)) b → named_by (file_of image) a.data_item ≡ Some p → named_by (file_of image) b.data_item ≡ Some p → a ≡ b
one_pair image a b p is at_a at_b names also =
    let file : File = file_of image in
    let test : StoredPair → Bool = λ (pair : StoredPair). is_page (named_by file pair.data_item) p in
    let passes : (pair : StoredPair) → named_by file pair.data_item ≡ Some p → test pair ≡ true =
    λ pair names. ap (λ o. is_page o p) names ∙ eq-eqb p p refl in
    let page = page_of image a p is at_a names in
    of_one (naming file p) a b (named_once file p is.sound.master page.1 page.0 page.2)
    (in_filter test (master_pairs file) a at_a (passes a names)) (in_filter test (master_pairs file) b at_b (passes b also))

-- A key is that of one pair.

turned_eq : (a b : List ℕ) → bytes_eq a b ≡ false → a ≢ b
turned_eq a b apart same = true≢false (sym (eq_self a) ∙ (ap (bytes_eq a) same ∙ apart))

pub one_key : (image : List ℕ) (a b : StoredPair) (p q : ℕ) → IsSeen image → Contains (master_pairs (file_of image)) a
    → Contains (master_pairs (file_of image)) b → a.key ≡ b.key → named_by (file_of image) a.data_item ≡ Some p
    → named_by (file_of image) b.data_item ≡ Some q → p ≡ q
one_key image a b p q is at_a at_b keys names also =
    let file : File = file_of image in
    let none = none_repeats file (λ one among. master_pair_inside image one is.sound.forest among) is.sound.master in
    let apart : AllLater (λ (x y : StoredPair). bytes_eq x.key y.key ≡ false) (master_pairs file) =
    later_apart [] (master_pairs file) (sym (repeated_is (master_pairs file)) ∙ none) in
    elim (cases_eq p q) [
      | inl same ↦ same
      | inr other ↦
          let differ : a ≢ b =
          λ same. other (same_Some p q (sym names ∙ (ap (λ (pair : StoredPair). named_by file pair.data_item) same ∙ also))) in
          absurd
          (elim (either_way (λ (x y : StoredPair). bytes_eq x.key y.key ≡ false) (master_pairs file) a b apart at_a at_b differ) [
            | inl so ↦ turned_eq a.key b.key so keys
            | inr so ↦ turned_eq b.key a.key so (sym keys)
          ])
    ]
