-- What the items of a hash page name is there, and a pair is what its two items say.
use Rattle.std.proofs.Common.{◌≡◌, ℕ, ◌+◌, ◌-◌, ◌*◌, ◌/◌, ◌<◌, ◌≤◌, false, List, [], map, length, arith, sym, ◌∙◌, ap, subst, Some}
use Rattle.std.specs.List.{AllByRecursion, Contains, range_with_len, slice_get}
use Rattle.std.proofs.lemmas.Bool.{lt-ltb}
use Rattle.std.proofs.lemmas.Option.{slice_get-get_or}
use Rattle.std.proofs.lemmas.List.Elements.{recursion_from_All}
use Rattle.std.proofs.lemmas.List.FromFn.{get_or-map-range_with_len, length-map-range_with_len}
use Rattle.bdb_tree.specs.of_form.Pairs.{PairOf, pair_of, pairs_from}
use Rattle.bdb_tree.specs.of_format.declared.references.Sort.{Sort}
use Rattle.bdb_tree.specs.of_format.declared.references.Sort.TheVariants.{OverflowHead, DuplicateRoot}
use Rattle.bdb_tree.specs.of_format.Terms.{Chain, Content, File, Hash, Inline, Item, Listed, Page, Tree, content_targets, file_of, no_item}
use Rattle.bdb_tree.specs.of_format.Terms.{page_at, targets_in, value_of}
use Rattle.bdb_tree.proofs.of_format.MemberLemmas.{first_member, in_map}
use Rattle.bdb_tree.proofs.of_format.TargetLemmas.{held_named}
use Rattle.bdb_tree.specs.of_image.Linked.{IsTarget}
use Rattle.bdb_tree.proofs.of_graph.LinkedLemmas.{named_target, target_inside}
use Rattle.bdb_tree.specs.of_layout.declared.items.HashItem.{HashItem}
use Rattle.bdb_tree.specs.of_layout.Seen.{hash_content_seen, hash_item_seen}
use Rattle.bdb_tree.specs.of_overflow.Datum.{FitsContent, single_value}
use Rattle.bdb_buckets.specs.Places.{IsGiven}
use Rattle.bdb_buckets.specs.Views.{FitsRoot, IsPair, IsTable}
use Rattle.bdb_tree.proofs.of_format.ListLemmas.{member_of}
use Rattle.bdb_tree.proofs.of_format.ReferenceLemmas.{forest_names}

-- The one value of an item.

pub single : (file : File) (content : Content) (value : List ℕ) → Some value ≡ single_value file content → value ≡ value_of file content
single file (Inline bytes) value some = cc
single file (Chain head total) value some = cc
single file content value some = absurd cc

-- What items name.

-- what a page of a forest names is a target
pub page_names : (image : List ℕ) (p : ℕ) (page : Page) (sort : Sort) (target : ℕ) → IsTable image → p ≤ (file_of image).last
    → page_at (file_of image) p ≡ page
    → Contains (targets_in p page) (sort, target) → IsTarget (file_of image) sort target
page_names image p page sort target table low is at =
    let names = forest_names (file_of image).kind p (page_at (file_of image) p) table.table ∙ ap (targets_in p) is in
    named_target (file_of image) p sort target low (subst (λ ns. Contains ns (sort, target)) (sym names) at)

record IsNamed (file : File) (content : Content) : Type 0 where
  chain : FitsContent file content
  root : FitsRoot file content

is_named : (file : File) (content : Content)
    → ((sort : Sort) (target : ℕ) → Contains (content_targets content) (sort, target) → IsTarget file sort target)
    → IsNamed file content
is_named file (Chain head total) fits = record { chain = fits OverflowHead head (first_member (OverflowHead, head) []); root = tt }
is_named file (Tree root) fits = record { chain = tt; root = fits DuplicateRoot root (first_member (DuplicateRoot, root) []) }
is_named file content fits = record { chain = tt; root = tt }

hash_named : (image : List ℕ) (p i : ℕ) (page : Listed Item) (item : Item) → IsTable image → p ≤ (file_of image).last
    → page_at (file_of image) p ≡ Hash page
    → slice_get page.items i ≡ Some item → IsNamed (file_of image) item.content
hash_named image p i page item table low is at =
    is_named (file_of image) item.content (λ sort target named.
    page_names image p (Hash page) sort target table low is
    (held_named p (Hash page) item.content (sort, target)
    (in_map (λ (one : Item). one.content) page.items item (member_of page.items i item at)) named))

pub item_fits : (image : List ℕ) (p i : ℕ) (page : Listed Item) (item : HashItem) → IsTable image → p ≤ (file_of image).last
    → page_at (file_of image) p ≡ Hash page
    → slice_get page.items i ≡ Some (hash_item_seen item) → FitsContent (file_of image) (hash_content_seen item)
item_fits image p i page item table low is at = (hash_named image p i page (hash_item_seen item) table low is at).chain

-- A pair.

-- a pair of a hash page, as its view gives it
pub is_given : (image : List ℕ) (p i : ℕ) (page : Listed Item) → IsTable image → p ≤ (file_of image).last → page_at (file_of image) p ≡ Hash page
    → 2 * i + 1 < length page.items → IsGiven image p (pair_of no_item false page i)
is_given image p i page table low is there = grind (arith, hash_named, slice_get-get_or, lt-ltb)

-- all pairs of a hash page
pub all_given : (image : List ℕ) (p : ℕ) (page : Listed Item) → IsTable image → p ≤ (file_of image).last → page_at (file_of image) p ≡ Hash page
    → AllByRecursion (IsGiven image p) (pairs_from no_item false page 0)
all_given image p page table low is =
    let n : ℕ = length page.items / 2 - 0 in
    let pairs : ℕ → PairOf Item = pair_of no_item false page in
    recursion_from_All (IsGiven image p) (map pairs (range_with_len 0 n)) (λ k d few.
    let below : k < n = omega (arith, few, length-map-range_with_len pairs 0 n) in
    subst (IsGiven image p) (sym (get_or-map-range_with_len pairs 0 n k k d below (omega arith)))
    (is_given image p k page table low is (omega arith)))

-- the root of a set is there
pub set_inside : (image : List ℕ) (root : ℕ) → IsPair image (Tree root) → root ≤ (file_of image).last
set_inside image root is = target_inside image DuplicateRoot root is.forest.forest.linked is.root
