-- How many pairs of a master name each page.
use Rattle.std.proofs.lemmas.Bool.Decides.{nat_tests}
use Rattle.std.proofs.Common.{◌≡◌, ℕ, ◌+◌, ◌<◌, ◌≤◌, Bool, cond, List, length, Option, Some, arith, sym, ◌∙◌, ap, subst, get_or, min, take, flat_map, slice_get}
use Rattle.std.proofs.Common.{option_to_list}
use Rattle.std.proofs.lemmas.List.{get_or_default, take_all}
use Rattle.std.proofs.lemmas.List.Filters.{length-filter_more}
use Rattle.bdb_format.specs.declared.kinds.Fault.{Fault}
use Rattle.bdb_master.specs.Entries.{AreCounts, NamedPair, count_fault, entries_naming, naming_fault, one_more as one_counted_more}
use Rattle.bdb_format.specs.Terms.{File, is_page}
use Rattle.bdb_btree.specs.of_faults.Notes.{Notes, NotesAll}
use Rattle.bdb_btree.proofs.of_faults.SinkLemmas.{notes_one}
use Rattle.bdb_btree.specs.of_image.Linked.{meta_pages}
use Rattle.bdb_btree.proofs.of_tree.ListedLemmas.{one_more}

pub none_counted : (counts : List ℕ) (n : ℕ) (entries : List NamedPair) → length counts ≡ n → ((p : ℕ) → p < n → get_or counts p 0 ≡ 0)
    → AreCounts counts n (take 0 entries)
none_counted counts n entries len zeros = record { len = len; each = λ p below. zeros p below ∙ omega arith }

one_counted : (b : Bool) (count n : ℕ) → count ≡ min 2 n → cond b (one_counted_more count) count ≡ min 2 (n + cond b 1 0)
one_counted b count n is = grind arith

pub counted_more : (counts more : List ℕ) (n i : ℕ) (entries : List NamedPair) (e : NamedPair) → AreCounts counts n (take i entries)
    → i < length entries → e ≡ get_or entries i e → length more ≡ length counts
    → ((p : ℕ) → p < length counts → get_or more p 0 ≡ cond (is_page e.names p) (one_counted_more (get_or counts p 0)) (get_or counts p 0))
    → AreCounts more n (take (i + 1) entries)
counted_more counts more n i entries e are below is len each = record {
  len = len ∙ are.len;
  each = λ p low.
      let has : length (entries_naming p (take (i + 1) entries)) ≡ length (entries_naming p (take i entries)) + cond (is_page e.names p) 1 0 =
      length-filter_more (λ (one : NamedPair). is_page one.names p) entries i e below
      ∙ ap (λ (one : NamedPair). length (entries_naming p (take i entries)) + cond (is_page one.names p) 1 0) (sym is) in
      let inside : p < length counts = omega (arith, are.len) in
      each p inside
      ∙ (one_counted (is_page e.names p) (get_or counts p 0) (length (entries_naming p (take i entries))) (are.each p low)
      ∙ ap (min 2) (sym has));
}

pub all_counted : (counts : List ℕ) (n i : ℕ) (entries : List NamedPair) → AreCounts counts n (take i entries) → length entries ≤ i
    → AreCounts counts n entries
all_counted counts n i entries are all = subst (AreCounts counts n) (take_all i entries all) are

-- two pairs that name a page are as bad as more
same_count : (p n : ℕ) → count_fault p (min 2 n) ≡ count_fault p n
same_count p n = grind (arith, nat_tests)

pub count_read : (counts : List ℕ) (n p count : ℕ) (entries : List NamedPair) → AreCounts counts n entries → p < n → count ≡ get_or counts p count
    → count ≡ min 2 (length (entries_naming p entries))
count_read counts n p count entries are low is = grind (arith, get_or_default)

-- one page more
pub naming_more : (before middle after : List Fault → Type 0) (file : File) (entries : List NamedPair) (i p count : ℕ) (found : Option Fault)
    → slice_get (meta_pages file) i ≡ Some p
    → count ≡ min 2 (length (entries_naming p entries)) → found ≡ count_fault p count
    → NotesAll before middle (flat_map (λ q. option_to_list (naming_fault entries q)) (take i (meta_pages file)))
    → Notes middle after (option_to_list found)
    → NotesAll before after (flat_map (λ q. option_to_list (naming_fault entries q)) (take (i + 1) (meta_pages file)))
naming_more before middle after file entries i p count found is counted is_found first noted =
    one_more before middle after (λ q. option_to_list (naming_fault entries q)) (meta_pages file) i p is first
    (notes_one middle after (option_to_list (naming_fault entries p))
    (subst (λ f. Notes middle after (option_to_list f)) (is_found ∙ (ap (count_fault p) counted ∙ same_count p (length (entries_naming p entries)))) noted))
