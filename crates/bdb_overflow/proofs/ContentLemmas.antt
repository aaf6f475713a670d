-- On a linked image each item that names a chain names one that fits.
use Rattle.std.proofs.Common.{◌≡◌, ℕ, zero, suc, ◌-◌, ◌<◌, ◌≤◌, true, false, List, [], ◌∷◌, length, get_or, Some, arith, refl, sym, ◌∙◌, ap, subst, inl, inr}
use Rattle.std.proofs.Common.{true≢false, slice_get, Contains}
use Rattle.std.proofs.lemmas.Bool.{and_parts, cases_Bool, eqb-true, leb-true}
use Rattle.bdb_graph.specs.of_format.declared.kinds.Order.{Order}
use Rattle.bdb_graph.specs.of_format.declared.metadata.FileKind.TheVariants.{Queue as QueueFile}
use Rattle.bdb_graph.specs.of_format.declared.references.Sort.TheVariants.{OverflowHead}
use Rattle.bdb_graph.specs.of_format.Terms.{Chain, Content, DupLeaf, File, Hash, Inline, Internal, InternalItem, Item, Leaf, Listed, Page, RecnoLeaf, Set}
use Rattle.bdb_graph.specs.of_format.Terms.{Tree, Unknown, abstract_page, content_targets, contents_in, entries_of, file_of, head_of, is_shared_key}
use Rattle.bdb_graph.specs.of_format.Terms.{leaf_item_at, listed, no_item, page_as, page_at, page_bytes, targets_in, targets_of}
use Rattle.bdb_graph.specs.of_format.declared.pages.PageType.{PageType}
use Rattle.bdb_graph.specs.of_format.declared.pages.PageType.TheVariants.{Leaf as LeafPage}
use Rattle.bdb_graph.proofs.of_format.MemberLemmas.{first_member, in_map}
use Rattle.bdb_graph.proofs.of_format.PageLemmas.{index_offset, length_items}
use Rattle.bdb_graph.proofs.of_format.TargetLemmas.{held_named, own_held}
use Rattle.bdb_graph.specs.of_image.Linked.{FitsChain, IsForest}
use Rattle.bdb_graph.proofs.ChildLemmas.{is_queue_page, queue_page}
use Rattle.bdb_graph.proofs.LinkedLemmas.{named_target}
use Rattle.bdb_overflow.specs.Datum.{FitsContent}
use Rattle.bdb_overflow.specs.Lengths.{AreFit}
use Rattle.bdb_graph.proofs.of_format.ListLemmas.{member_of}
use Rattle.bdb_graph.proofs.of_format.ReferenceLemmas.{forest_names}
use Rattle.bdb_graph.proofs.of_format.LeafLemmas.{leaf_item_is, one_offset}
use Rattle.bdb_graph.proofs.of_format.FileLemmas.{last_page, page_is}

-- Pages with items stand in no queue file.

no_queue : (image : List ℕ) (p : ℕ) → IsForest image → p ≤ (file_of image).last → is_queue_page (page_at (file_of image) p) ≡ false
    → (file_of image).kind ≡ QueueFile → ⊥
no_queue image p forest low other queue = true≢false (sym (queue_page image (head_of image) p forest.formed low queue) ∙ other)

-- What is named as the head of a chain fits.

named_chain : (image : List ℕ) (p : ℕ) (page : Page) (target : ℕ) → IsForest image → p ≤ (file_of image).last → page_at (file_of image) p ≡ page
    → is_queue_page page ≡ false
    → Contains (targets_in p page) (OverflowHead, target) → FitsChain (file_of image) target
named_chain image p page target forest low is some at =
    let names : targets_of (file_of image).kind p (page_at (file_of image) p) ≡ targets_in p page =
    forest_names (file_of image).kind p (page_at (file_of image) p) (no_queue image p forest low (ap is_queue_page is ∙ some)) ∙ ap (targets_in p) is in
    named_target (file_of image) p OverflowHead target low (subst (λ ns. Contains ns (OverflowHead, target)) (sym names) at)

-- all that a content names as the head of a chain fits
abbrev NamesFit : File → Content → Type 0
NamesFit file content = (target : ℕ) → Contains (content_targets content) (OverflowHead, target) → FitsChain file target

content_fits : (file : File) (content : Content) → NamesFit file content → FitsContent file content
content_fits file (Inline bytes) fit = tt
content_fits file (Set blocks) fit = tt
content_fits file (Chain head total) fit = fit head (first_member (OverflowHead, head) [])
content_fits file (Tree root) fit = tt
content_fits file Unknown fit = tt

-- what an item of a page holds fits
pub held_fits : (image : List ℕ) (p : ℕ) (page : Page) (content : Content) → IsForest image → p ≤ (file_of image).last → page_at (file_of image) p ≡ page
    → is_queue_page page ≡ false
    → Contains (contents_in page) content → FitsContent (file_of image) content
held_fits image p page content forest low is some held =
    content_fits (file_of image) content
    (λ target named. named_chain image p page target forest low is some (held_named p page content (OverflowHead, target) held named))

-- the items of a leaf of records
pub recno_item_fits : (image : List ℕ) (p : ℕ) (page : Listed Item) (i : ℕ) (item : Item) → IsForest image → p ≤ (file_of image).last
    → page_at (file_of image) p ≡ RecnoLeaf page
    → slice_get page.items i ≡ Some item → FitsContent (file_of image) item.content
recno_item_fits image p page i item forest low is at =
    held_fits image p (RecnoLeaf page) item.content forest low is refl (in_map (λ (it : Item). it.content) page.items item (member_of page.items i item at))

-- those of a leaf of sorted duplicates
pub dup_item_fits : (image : List ℕ) (p : ℕ) (page : Listed Item) (i : ℕ) (item : Item) → IsForest image → p ≤ (file_of image).last
    → page_at (file_of image) p ≡ DupLeaf page
    → slice_get page.items i ≡ Some item → FitsContent (file_of image) item.content
dup_item_fits image p page i item forest low is at =
    held_fits image p (DupLeaf page) item.content forest low is refl (in_map (λ (it : Item). it.content) page.items item (member_of page.items i item at))

-- those of a hash page
pub hash_item_fits : (image : List ℕ) (p : ℕ) (page : Listed Item) (i : ℕ) (item : Item) → IsForest image → p ≤ (file_of image).last
    → page_at (file_of image) p ≡ Hash page
    → slice_get page.items i ≡ Some item → FitsContent (file_of image) item.content
hash_item_fits image p page i item forest low is at =
    held_fits image p (Hash page) item.content forest low is refl (in_map (λ (it : Item). it.content) page.items item (member_of page.items i item at))

-- the keys of an internal page
pub key_fits : (image : List ℕ) (p : ℕ) (page : Listed InternalItem) (i : ℕ) (item : InternalItem) → IsForest image → p ≤ (file_of image).last
    → page_at (file_of image) p ≡ Internal page
    → slice_get page.items i ≡ Some item → FitsContent (file_of image) item.key
key_fits image p page i item forest low is at =
    held_fits image p (Internal page) item.key forest low is refl (in_map (λ (it : InternalItem). it.key) page.items item (member_of page.items i item at))

-- The items of a btree leaf, shared keys among them: entries of the index with one offset have one item.

leaf_as : (order : Order) (page : List ℕ) (t : PageType) (leaf : Listed Item) → page_as order page t ≡ Leaf leaf
    → leaf ≡ listed order page (leaf_item_at order page)
leaf_as order page LeafPage leaf is = cc
leaf_as order page t leaf is = absurd cc

pub leaf_of : (order : Order) (page : List ℕ) (leaf : Listed Item) → abstract_page order page ≡ Leaf leaf → leaf ≡ listed order page (leaf_item_at order page)
unfolding abstract_page
leaf_of order page leaf is = grind (arith, leaf_as)

-- a key that is shared is the item of the entry two before
record IsShared (order : Order) (page : List ℕ) (i : ℕ) : Type 0 where
  above : 2 ≤ i
  same : leaf_item_at order page i ≡ leaf_item_at order page (i - 2)

shared : (order : Order) (page : List ℕ) (i : ℕ) → i < entries_of order page → is_shared_key (listed order page (leaf_item_at order page)).offsets i ≡ true
    → IsShared order page i
shared order page i there is = grind (arith, and_parts, leb-true, eqb-true, one_offset, index_offset)

-- an entry that names its own chain
own_fits : (image : List ℕ) (p : ℕ) (page : Listed Item) (i : ℕ) (item : Item) → IsForest image → p ≤ (file_of image).last
    → page_at (file_of image) p ≡ Leaf page → i < length page.items
    → get_or page.items i no_item ≡ item → is_shared_key page.offsets i ≡ false → FitsContent (file_of image) item.content
own_fits image p page i item forest low is there at own =
    held_fits image p (Leaf page) item.content forest low is refl
    (subst (λ (it : Item). Contains (contents_in (Leaf page)) it.content) at (own_held page i there own))

-- an entry of a leaf, where a shared key is the item of an earlier entry that fits
entry_by : (image : List ℕ) (p : ℕ) (order : Order) (bytes : List ℕ) (i : ℕ) → IsForest image → p ≤ (file_of image).last
    → page_at (file_of image) p ≡ Leaf (listed order bytes (leaf_item_at order bytes))
    → i < entries_of order bytes → (IsShared order bytes i → FitsContent (file_of image) (leaf_item_at order bytes i).content)
    → FitsContent (file_of image) (leaf_item_at order bytes i).content
entry_by image p order bytes i forest low is there before =
    let page : Listed Item = listed order bytes (leaf_item_at order bytes) in
    elim (cases_Bool (is_shared_key page.offsets i)) [
      | inl again ↦ before (shared order bytes i there again)
      | inr own ↦ own_fits image p page i (leaf_item_at order bytes i) forest low is (omega (arith, length_items order bytes (leaf_item_at order bytes)))
          (leaf_item_is order bytes i there) own
    ]

-- back, two entries a turn, to the one whose key is shared
entry_fits : (turns : ℕ) (image : List ℕ) (p : ℕ) (order : Order) (bytes : List ℕ) (i : ℕ) → IsForest image → p ≤ (file_of image).last
    → page_at (file_of image) p ≡ Leaf (listed order bytes (leaf_item_at order bytes)) → i ≤ turns → i < entries_of order bytes
    → FitsContent (file_of image) (leaf_item_at order bytes i).content
entry_fits zero image p order bytes i forest low is few there =
    entry_by image p order bytes i forest low is there (λ before. absurd (omega (arith, before.above)))
entry_fits (suc turns) image p order bytes i forest low is few there =
    grind (arith, entry_by, entry_fits turns image p order bytes (i - 2) forest low is (omega arith) (omega arith))

-- an item of a list is there, at its index
pub got : {X : Type 0} (xs : List X) (i : ℕ) (x d : X) → slice_get xs i ≡ Some x → (i < length xs) × (get_or xs i d ≡ x)
got [] i x d at = absurd cc
got (y ∷ xs) zero x d at = (omega arith, cc)
got (y ∷ xs) (suc i) x d at = let rest : (i < length xs) × (get_or xs i d ≡ x) = got xs i x d at in (omega (arith, rest.0), rest.1)

-- keys and data of a btree leaf
pub leaf_item_fits : (image : List ℕ) (p : ℕ) (page : Listed Item) (i : ℕ) (item : Item) → IsForest image → p ≤ (file_of image).last
    → page_at (file_of image) p ≡ Leaf page
    → slice_get page.items i ≡ Some item → FitsContent (file_of image) item.content
leaf_item_fits image p page i item forest low is at =
    let order : Order = (head_of image).order in
    let bytes : List ℕ = page_bytes (head_of image) image p in
    let as_listed : page ≡ listed order bytes (leaf_item_at order bytes) = leaf_of order bytes page (sym (page_is image p (omega (arith, low, last_page image)))
    ∙ is) in
    let found : (i < length page.items) × (get_or page.items i no_item ≡ item) = got page.items i item no_item at in
    let there : i < entries_of order bytes = omega (
      arith,
      found.0,
      ap (λ (l : Listed Item). length l.items) as_listed,
      length_items order bytes
          (leaf_item_at order bytes),
    ) in
    let same : leaf_item_at order bytes i ≡ item = sym (leaf_item_is order bytes i there)
    ∙ (ap (λ (l : Listed Item). get_or l.items i no_item) (sym as_listed) ∙ found.1) in
    subst (λ (it : Item). FitsContent (file_of image) it.content) same (entry_fits i image p order bytes i forest low (is ∙ ap (λ l. Leaf l) as_listed)
    (omega arith) there)

-- All items of a page.

pub records_fit : (image : List ℕ) (p : ℕ) (page : Listed Item) → IsForest image → p ≤ (file_of image).last → page_at (file_of image) p ≡ RecnoLeaf page
    → AreFit (file_of image) (λ (item : Item). item.content) page
records_fit image p page forest low is = λ i item at. recno_item_fits image p page i item forest low is at

pub sorted_fit : (image : List ℕ) (p : ℕ) (page : Listed Item) → IsForest image → p ≤ (file_of image).last → page_at (file_of image) p ≡ DupLeaf page
    → AreFit (file_of image) (λ (item : Item). item.content) page
sorted_fit image p page forest low is = λ i item at. dup_item_fits image p page i item forest low is at

pub bucket_fit : (image : List ℕ) (p : ℕ) (page : Listed Item) → IsForest image → p ≤ (file_of image).last → page_at (file_of image) p ≡ Hash page
    → AreFit (file_of image) (λ (item : Item). item.content) page
bucket_fit image p page forest low is = λ i item at. hash_item_fits image p page i item forest low is at

pub keys_fit : (image : List ℕ) (p : ℕ) (page : Listed InternalItem) → IsForest image → p ≤ (file_of image).last → page_at (file_of image) p ≡ Internal page
    → AreFit (file_of image) (λ (item : InternalItem). item.key) page
keys_fit image p page forest low is = λ i item at. key_fits image p page i item forest low is at

pub leaf_fit : (image : List ℕ) (p : ℕ) (page : Listed Item) → IsForest image → p ≤ (file_of image).last → page_at (file_of image) p ≡ Leaf page
    → AreFit (file_of image) (λ (item : Item). item.content) page
leaf_fit image p page forest low is = λ i item at. leaf_item_fits image p page i item forest low is at

pub ruleset items_fit = (records_fit, sorted_fit, bucket_fit, keys_fit, leaf_fit)
