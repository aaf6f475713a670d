-- The roots that a page names: by metadata, and by data of pairs that are sets off the page.
use Rattle.std.proofs.Common.{◌≡◌, ◌⊎◌, ℕ, ◌+◌, ◌*◌, ◌/◌, ◌%◌, ◌<◌, ◌≤◌, true, false, List, [], ◌∷◌, length, map, get_or, arith, refl, sym, ◌∙◌, ap, subst, inl}
use Rattle.std.proofs.Common.{inr, Contains, true≢false, Option, Some, None, IfSome, not}
use Rattle.std.specs.List.{Contains, enumerate_from, flat_map, list_any, range_with_len}
use Rattle.std.proofs.lemmas.List.{get_or-map, length-map}
use Rattle.std.proofs.lemmas.List.Elements.{Contains-append_cases}
use Rattle.bdb_overflow.specs.of_format.declared.metadata.FileKind.{FileKind}
use Rattle.bdb_overflow.specs.of_format.declared.metadata.FileKind.TheVariants.{Queue as QueueFile}
use Rattle.bdb_overflow.specs.of_format.declared.pages.RecnoItem.{RecnoItem}
use Rattle.bdb_overflow.specs.of_format.declared.references.Reference.{Reference}
use Rattle.bdb_overflow.specs.of_format.declared.references.Sort.{Sort}
use Rattle.bdb_overflow.specs.of_format.declared.references.Sort.TheVariants.{Free as FreeRef, Root, Bucket, HashNext, Child, OverflowHead, OverflowNext}
use Rattle.bdb_overflow.specs.of_format.declared.references.Sort.TheVariants.{DuplicateRoot}
use Rattle.bdb_overflow.specs.of_format.Terms.{BtreeFields, Chain, Content, DupLeaf, File, Free, Hash, HashFields, Internal, InternalItem, Item, Leaf, Meta}
use Rattle.bdb_overflow.specs.of_format.Terms.{Overflow, Page, RecnoInternal, RecnoLeaf, Tree, all_references, content_targets, contents_in, file_of}
use Rattle.bdb_overflow.specs.of_format.Terms.{first_free, first_page, internal_targets, is_root_reference, is_shared_key, item_at, no_item, own_entries}
use Rattle.bdb_overflow.specs.of_format.Terms.{page_at, refs, targets_in, targets_of, unless_zero}
use Rattle.bdb_overflow.proofs.of_format.ListLemmas.{only_member}
use Rattle.bdb_overflow.proofs.of_format.MemberLemmas.{first_member, in_map, is_empty, later_member, member_cases, no_member, none_passes, of_filter, of_flat_map}
use Rattle.bdb_overflow.proofs.of_format.MemberLemmas.{of_map, of_range}
use Rattle.bdb_overflow.specs.of_image.Linked.{FitsDupRoot, FitsTreeRoot, IsForest}
use Rattle.bdb_overflow.proofs.of_graph.LinkedLemmas.{root_fits}
use Rattle.bdb_overflow.specs.of_graph.Walked.{is_set_reference, names_set}
use Rattle.bdb_tree.specs.Noted.{data_faults, data_root, meta_root, paired, root_faults, set_root}
use Rattle.bdb_tree.specs.Trees.{IsTreePage}
use Rattle.bdb_tree.proofs.ShapeLemmas.{IsFormedPage, SetsAreData, formed_at}
use Rattle.bdb_tree.proofs.TreeLemmas.{hash_dup_root, leaf_dup_root, odd_set, root_is_tree, set_alone}

-- What is named.

-- a reference of a page names what the page does
of_placed : (n : ℕ) (names : List (Sort × ℕ)) (reference : Reference)
    → Contains (map (λ (named : ℕ × (Sort × ℕ)). record { place = named.0; sort = named.1.0; target = named.1.1 }) (enumerate_from n names)) reference
    → Contains names (reference.sort, reference.target)
of_placed n [] reference at = absurd (no_member [] reference refl at)
of_placed n (name ∷ names) reference at =
    elim (member_cases (record { place = n; sort = name.0; target = name.1 }) _ reference at) [
      | inl same ↦ subst (λ (r : Reference). Contains (name ∷ names) (r.sort, r.target)) same (first_member name names)
      | inr later ↦ later_member name names (reference.sort, reference.target) (of_placed (n + 1) names reference later)
    ]

of_targets : (kind : FileKind) (p : ℕ) (page : Page) (name : Sort × ℕ) → Contains (targets_of kind p page) name → Contains (targets_in p page) name
of_targets QueueFile p page name at = absurd (no_member [] name refl at)
of_targets kind p page name at = at

pub of_refs : (file : File) (p : ℕ) (reference : Reference) → Contains (refs file p) reference
    → Contains (targets_in p (page_at file p)) (reference.sort, reference.target)
unfolding refs
of_refs file p reference at = of_targets file.kind p (page_at file p) _ (of_placed 0 (targets_of file.kind p (page_at file p)) reference at)

-- Roots among what is named.

no_root : (a b : Sort × ℕ) → is_root_reference a.0 ≡ false → a ≡ b → is_root_reference b.0 ≡ true → ⊥
no_root a b other same root = true≢false (sym root ∙ (ap (λ (name : Sort × ℕ). is_root_reference name.0) (sym same) ∙ other))

no_link : (sort : Sort) (target : ℕ) (name : Sort × ℕ) → is_root_reference sort ≡ false → is_root_reference name.0 ≡ true
    → Contains (unless_zero sort target) name → ⊥
no_link sort target name other root = grind (arith, Contains, no_member, no_root, only_member)

no_free : (p free : ℕ) (name : Sort × ℕ) → is_root_reference name.0 ≡ true → Contains (first_free p free) name → ⊥
no_free p free name root = grind (arith, Contains, no_link, no_member)

-- what is named as a root is what metadata names, or a set among what items hold
abbrev IsNamedRoot : Page → Sort × ℕ → Type 0
IsNamedRoot page name = ((name.0 ≡ Root) × (meta_root page ≡ Some name.1)) ⊎ ((name.0 ≡ DuplicateRoot) × Contains (contents_in page) (Tree name.1))

by_content : (content : Content) (name : Sort × ℕ) → is_root_reference name.0 ≡ true → Contains (content_targets content) name
    → (name.0 ≡ DuplicateRoot) × (content ≡ Tree name.1)
by_content (Chain head total) name root at = absurd (no_root (OverflowHead, head) name refl (only_member (OverflowHead, head) name at) root)
by_content (Tree set) name root at = grind (arith, only_member)
by_content content name root at = absurd (no_member [] name refl at)

by_contents : (contents : List Content) (name : Sort × ℕ) → is_root_reference name.0 ≡ true → Contains (flat_map content_targets contents) name
    → (name.0 ≡ DuplicateRoot) × Contains contents (Tree name.1)
by_contents contents name root at =
    let found = of_flat_map content_targets contents name at in
    let set = by_content found.0 name root found.2 in
    (set.0, subst (Contains contents) set.1 found.1)

named_root : (p : ℕ) (page : Page) (name : Sort × ℕ) → is_root_reference name.0 ≡ true → Contains (targets_in p page) name → IsNamedRoot page name
named_root p (Free header) name root at = absurd (no_link FreeRef header.next name refl root at)
named_root p (Meta (BtreeFields meta)) name root at = grind (arith, Contains-append_cases, no_free, only_member)
named_root p (Meta (HashFields meta)) name root at =
    let buckets : List ℕ = range_with_len 0 (meta.max_bucket + 1) in
    elim (Contains-append_cases (first_free p meta.free) (map (λ b. (Bucket, first_page b meta.spares)) buckets) name at) [
      | inl free ↦ absurd (no_free p meta.free name root free)
      | inr bucket ↦
          let found = of_map (λ b. (Bucket, first_page b meta.spares)) buckets name bucket in
          absurd (no_root (Bucket, first_page found.0 meta.spares) name refl found.2 root)
    ]
named_root p (Hash page) name root at =
    elim (Contains-append_cases (flat_map content_targets (contents_in (Hash page))) (unless_zero HashNext page.header.next) name at) [
      | inl held ↦ inr (by_contents (contents_in (Hash page)) name root held)
      | inr next ↦ absurd (no_link HashNext page.header.next name refl root next)
    ]
named_root p (Internal page) name root at =
    let found = of_flat_map internal_targets page.items name at in
    elim (member_cases (Child, found.0.child) (content_targets found.0.key) name found.2) [
      | inl child ↦ absurd (no_root (Child, found.0.child) name refl child root)
      | inr key ↦
          let set = by_content found.0.key name root key in
          inr (set.0, subst (Contains (contents_in (Internal page))) set.1 (in_map (λ (item : InternalItem). item.key) page.items found.0 found.1))
    ]
named_root p (RecnoInternal page) name root at =
    let found = of_map (λ (item : RecnoItem). (Child, item.child)) page.items name at in
    absurd (no_root (Child, found.0.child) name refl found.2 root)
named_root p (Leaf page) name root at = inr (by_contents (contents_in (Leaf page)) name root at)
named_root p (RecnoLeaf page) name root at = inr (by_contents (contents_in (RecnoLeaf page)) name root at)
named_root p (DupLeaf page) name root at = inr (by_contents (contents_in (DupLeaf page)) name root at)
named_root p (Overflow header piece) name root at = absurd (no_link OverflowNext header.next name refl root at)
named_root p page name root at = absurd (no_member [] name refl at)

-- Sets off the page are data of pairs.

abbrev IsDataRoot : Page → ℕ → Type 0
IsDataRoot page root = (i : ℕ) × (2 * i + 1 < length (paired page)) × (data_root page i ≡ Some root)

data_place : (page : Page) (k root : ℕ) → SetsAreData (paired page) → k < length (paired page) → (get_or (paired page) k no_item).content ≡ Tree root
    → IsDataRoot page root
data_place page k root sets below is =
    let odd : k % 2 ≡ 1 = odd_set (paired page) k root sets below is in
    let place : k ≡ 2 * (k / 2) + 1 = omega arith in
    (k / 2, omega arith, ap (λ i. set_root (get_or (paired page) i no_item).content) (sym place) ∙ ap set_root is)

-- the item of a list that holds a content
item_holding : (items : List Item) (content : Content) → Contains (map (λ (item : Item). item.content) items) content
    → (k : ℕ) × (k < length items) × ((get_or items k no_item).content ≡ content)
item_holding items content at = grind (arith, length-map, get_or-map)

set_is_data : (page : Page) (root : ℕ) → IsFormedPage page → Contains (contents_in page) (Tree root) → IsDataRoot page root
set_is_data (Hash page) root formed at =
    let found = item_holding page.items (Tree root) at in data_place (Hash page) found.0 root formed.1 found.1 found.2
set_is_data (Internal page) root formed at = absurd (formed.2 root at)
set_is_data (Leaf page) root formed at =
    let found = of_map (λ k. (item_at page k).content) (own_entries page) (Tree root) at in
    let kept = of_filter (λ k. not (is_shared_key page.offsets k)) (range_with_len 0 (length page.items)) found.0 found.1 in
    data_place (Leaf page) found.0 root formed.1 (omega (arith, (of_range 0 (length page.items) found.0 kept.0).1)) found.2
set_is_data (RecnoLeaf page) root formed at =
    let found =
    item_holding page.items (Tree root) at in absurd (set_alone (get_or page.items found.0 no_item).content root found.2 (formed.1 found.0 found.1))
set_is_data (DupLeaf page) root formed at =
    let found =
    item_holding page.items (Tree root) at in absurd (set_alone (get_or page.items found.0 no_item).content root found.2 (formed.1 found.0 found.1))
set_is_data page root formed at = absurd (no_member [] (Tree root) refl at)

-- a reference to a root is that of metadata, or that of data of a pair
pub reference_root : (image : List ℕ) (p : ℕ) (reference : Reference) → IsForest image → p ≤ (file_of image).last
    → Contains (refs (file_of image) p) reference → is_root_reference reference.sort ≡ true
    → ((reference.sort ≡ Root) × (meta_root (page_at (file_of image) p) ≡ Some reference.target))
    ⊎ ((reference.sort ≡ DuplicateRoot) × IsDataRoot (page_at (file_of image) p) reference.target)
reference_root image p reference forest low held root =
    let page : Page = page_at (file_of image) p in
    elim (named_root p page (reference.sort, reference.target) root (of_refs (file_of image) p reference held)) [
      | inl named ↦ inl named
      | inr set ↦ inr (set.0, set_is_data page reference.target (formed_at image p forest low) set.1)
    ]

-- What is named is a root.

pub meta_root_fits : (image : List ℕ) (p : ℕ) → IsForest image → p ≤ (file_of image).last → (root : ℕ)
    → meta_root (page_at (file_of image) p) ≡ Some root
    → FitsTreeRoot (file_of image) root
meta_root_fits image p forest low root = grind (arith, root_fits)

pub tree_of : (content : Content) (root : ℕ) → set_root content ≡ Some root → content ≡ Tree root
tree_of (Tree set) root same = cc
tree_of content root same = absurd cc

pub data_root_fits : (image : List ℕ) (p i : ℕ) → IsForest image → p ≤ (file_of image).last → 2 * i + 1 < length (paired (page_at (file_of image) p))
    → (root : ℕ)
    → data_root (page_at (file_of image) p) i ≡ Some root → FitsDupRoot (file_of image) root
data_root_fits image p i forest low below root = of (page_at (file_of image) p) refl below
  where
    of : (page : Page) → page_at (file_of image) p ≡ page → 2 * i + 1 < length (paired page) → data_root page i ≡ Some root
        → FitsDupRoot (file_of image) root
    of (Leaf page) is inside same =
        leaf_dup_root image p (2 * i + 1) root page forest low is inside (tree_of (get_or page.items (2 * i + 1) no_item).content root same)
    of (Hash page) is inside same =
        hash_dup_root image p (2 * i + 1) root page forest low is inside (tree_of (get_or page.items (2 * i + 1) no_item).content root same)
    of page is inside same = absurd cc

-- and so a page of a tree
pub meta_root_tree : (image : List ℕ) (p : ℕ) (root : Option ℕ) → IsForest image → p ≤ (file_of image).last
    → root ≡ meta_root (page_at (file_of image) p)
    → IfSome root (IsTreePage (file_of image))
meta_root_tree image p None forest low is = tt
meta_root_tree image p (Some root) forest low is = root_is_tree image root forest (inl (meta_root_fits image p forest low root (sym is)))

pub data_root_tree : (image : List ℕ) (p i : ℕ) (page : Page) (root : Option ℕ) → IsForest image → p ≤ (file_of image).last
    → page ≡ page_at (file_of image) p
    → 2 * i + 1 < length (paired page) → root ≡ data_root page i → IfSome root (IsTreePage (file_of image))
data_root_tree image p i page None forest low same below is = tt
data_root_tree image p i page (Some root) forest low same below is = grind (arith, root_is_tree, data_root_fits)

pub reference_is_tree : (image : List ℕ) (p : ℕ) (reference : Reference) → IsForest image → p ≤ (file_of image).last
    → Contains (refs (file_of image) p) reference → is_root_reference reference.sort ≡ true
    → IsTreePage (file_of image) reference.target
reference_is_tree image p reference forest low held root =
    elim (reference_root image p reference forest low held root) [
      | inl named ↦ meta_root_tree image p (Some reference.target) forest low (sym named.1)
      | inr set ↦ data_root_tree image p set.1.0 (page_at (file_of image) p) (Some reference.target) forest low refl set.1.1 (sym set.1.2)
    ]

-- Where no reference names the root of a set, no data do.

no_root_named : (image : List ℕ) (p i : ℕ) (root : Option ℕ) → IsForest image → p ≤ (file_of image).last
    → 2 * i + 1 < length (paired (page_at (file_of image) p))
    → list_any names_set (all_references (file_of image)) ≡ false → data_root (page_at (file_of image) p) i ≡ root
    → root_faults (file_of image) DuplicateRoot root ≡ []
no_root_named image p i None forest low below none is = refl
no_root_named image p i (Some root) forest low below none is =
    let fits : FitsDupRoot (file_of image) root = data_root_fits image p i forest low below root is in
    absurd (true≢false (sym (ap is_set_reference fits.sort_is) ∙ none_passes names_set (all_references (file_of image)) fits.owner none fits.held))

pub no_sets : (image : List ℕ) (p n : ℕ) → IsForest image → p ≤ (file_of image).last → n ≤ length (paired (page_at (file_of image) p)) / 2
    → list_any names_set (all_references (file_of image)) ≡ false
    → flat_map (data_faults (file_of image) (page_at (file_of image) p)) (range_with_len 0 n) ≡ []
no_sets image p n forest low few none =
    let page : Page = page_at (file_of image) p in
    is_empty _ (λ fault at.
    let found = of_flat_map (data_faults (file_of image) page) (range_with_len 0 n) fault at in
    let inside = of_range 0 n found.0 found.1 in
    no_member _ fault (no_root_named image p found.0 (data_root page found.0) forest low (omega (arith, inside.1, few)) none refl) found.2)
