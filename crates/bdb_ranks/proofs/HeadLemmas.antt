-- A page of a chain that has no page before it is the head of a chain: a reference names it, and it's none to a next page.
use Rattle.std.proofs.Common.{◌≡◌, ◌⊎◌, ℕ, zero, suc, ◌+◌, ◌≤◌, Bool, true, false, ◌&&◌, ◌||◌, List, [], ◌∷◌, map, Some, None, arith, refl, sym, ◌∙◌, ap, subst}
use Rattle.std.proofs.Common.{inl, inr, true≢false, ◌==◌}
use Rattle.std.specs.List.{Contains, flat_map, range_with_len}
use Rattle.std.proofs.lemmas.Bool.{cases_Bool, eqb-true, not-false, or_from}
use Rattle.std.proofs.lemmas.List.Elements.{Contains-append_cases}
use Rattle.bdb_tree.specs.of_format.declared.kinds.Order.{Order}
use Rattle.bdb_tree.specs.of_format.declared.metadata.FileKind.{FileKind}
use Rattle.bdb_tree.specs.of_format.declared.metadata.FileKind.TheVariants.{Btree}
use Rattle.bdb_tree.specs.of_format.declared.metadata.Head.{Head}
use Rattle.bdb_tree.specs.of_format.declared.pages.RecnoItem.{RecnoItem}
use Rattle.bdb_tree.specs.of_format.declared.references.Reference.{Reference}
use Rattle.bdb_tree.specs.of_format.declared.references.Sort.{Sort}
use Rattle.bdb_tree.specs.of_format.declared.references.Sort.TheVariants.{Free as FreeRef, Root, Bucket, HashNext, Child, OverflowHead, OverflowNext, DuplicateRoot}
use Rattle.bdb_tree.specs.of_format.Terms.{BtreeFields, Chain, Content, DupLeaf, File, Free, Hash, HashFields, Internal, Leaf, Meta, Overflow, Owner, Page}
use Rattle.bdb_tree.specs.of_format.Terms.{RecnoInternal, RecnoLeaf, Tree, all_references, asked_by, byte_at, child_types, content_targets, contents_in}
use Rattle.bdb_tree.specs.of_format.Terms.{file_of, first_free, first_holder, first_page, fit_code, fit_rows, form_code, has_type, head_of, header_in}
use Rattle.bdb_tree.specs.of_format.Terms.{internal_targets, is_anchor, is_asked, is_meta, is_reserve, is_spare, is_zero, is_zero_page, owners, page_as}
use Rattle.bdb_tree.specs.of_format.Terms.{page_at, page_bytes, page_type, root_types, targets_in, type_in, type_of, unless_zero}
use Rattle.bdb_tree.proofs.of_format.FileLemmas.{page_is}
use Rattle.bdb_tree.proofs.of_format.GraphLemmas.{IsOwner, is_owner, owner_fits, reserve_is, typed_page, zero_page}
use Rattle.bdb_tree.proofs.of_format.ListLemmas.{only_member}
use Rattle.bdb_tree.proofs.of_format.MemberLemmas.{first_member, member_cases, no_member, of_filter, of_flat_map, of_map}
use Rattle.bdb_tree.proofs.of_format.VerdictLemmas.{AllFail, none_is_first_row}
use Rattle.bdb_tree.specs.of_form.Formed.{OverflowPage}
use Rattle.bdb_tree.specs.of_form.Seen.{page_seen}
use Rattle.bdb_tree.specs.of_form.declared.view.PageView.{PageView}
use Rattle.bdb_tree.specs.of_form.declared.view.PageView.TheVariants.{Overflow as OverflowSeen}
use Rattle.bdb_tree.specs.of_graph.Forest.{IsWayUp, is_top}
use Rattle.bdb_tree.specs.of_image.Linked.{FitsChain, IsForest}
use Rattle.bdb_tree.proofs.of_graph.ChildLemmas.{is_queue_page}
use Rattle.bdb_tree.proofs.of_image.FirstLemmas.{formed_page}
use Rattle.bdb_tree.proofs.of_graph.ForestLemmas.{each_page_leads_up, sound_graph}
use Rattle.bdb_tree.proofs.of_image.HeldLemmas.{own_type}
use Rattle.bdb_tree.proofs.BelongLemmas.{no_anchor_in}
use Rattle.bdb_tree.proofs.RootLemmas.{of_refs}
use Rattle.bdb_tree.proofs.ShapeLemmas.{no_queue}

abbrev is_chain_page : Page → Bool
is_chain_page (Overflow header piece) = true
is_chain_page page = false

abbrev is_next : Sort → Bool
is_next OverflowNext = true
is_next sort = false

-- What holds a reference to a next page.

other_sort : (a b : Sort × ℕ) → is_next a.0 ≡ false → a ≡ b → is_next b.0 ≡ true → ⊥
other_sort a b other same next = true≢false (sym next ∙ (ap (λ (name : Sort × ℕ). is_next name.0) (sym same) ∙ other))

no_link : (sort : Sort) (target : ℕ) (name : Sort × ℕ) → is_next sort ≡ false → is_next name.0 ≡ true → Contains (unless_zero sort target) name → ⊥
no_link sort target name other next = grind (arith, no_member, other_sort, only_member)

no_free : (p free : ℕ) (name : Sort × ℕ) → is_next name.0 ≡ true → Contains (first_free p free) name → ⊥
no_free p free name next = grind (arith, no_link, no_member)

by_content : (content : Content) (name : Sort × ℕ) → is_next name.0 ≡ true → Contains (content_targets content) name → ⊥
by_content (Chain head total) name next at = other_sort (OverflowHead, head) name refl (only_member (OverflowHead, head) name at) next
by_content (Tree set) name next at = other_sort (DuplicateRoot, set) name refl (only_member (DuplicateRoot, set) name at) next
by_content content name next at = no_member [] name refl at

by_contents : (contents : List Content) (name : Sort × ℕ) → is_next name.0 ≡ true → Contains (flat_map content_targets contents) name → ⊥
by_contents contents name next at = let found = of_flat_map content_targets contents name at in by_content found.0 name next found.2

names_next : (p : ℕ) (page : Page) (name : Sort × ℕ) → is_next name.0 ≡ true → Contains (targets_in p page) name → is_chain_page page ≡ true
names_next p (Free header) name next at = absurd (no_link FreeRef header.next name refl next at)
names_next p (Meta (BtreeFields meta)) name next at = grind (arith, Contains-append_cases, no_free, other_sort, only_member)
names_next p (Meta (HashFields meta)) name next at =
    let buckets : List ℕ = range_with_len 0 (meta.max_bucket + 1) in
    elim (Contains-append_cases (first_free p meta.free) (map (λ b. (Bucket, first_page b meta.spares)) buckets) name at) [
      | inl free ↦ absurd (no_free p meta.free name next free)
      | inr bucket ↦
          let found = of_map (λ b. (Bucket, first_page b meta.spares)) buckets name bucket in
          absurd (other_sort (Bucket, first_page found.0 meta.spares) name refl found.2 next)
    ]
names_next p (Hash page) name next at =
    elim (Contains-append_cases (flat_map content_targets (contents_in (Hash page))) (unless_zero HashNext page.header.next) name at) [
      | inl held ↦ absurd (by_contents (contents_in (Hash page)) name next held)
      | inr link ↦ absurd (no_link HashNext page.header.next name refl next link)
    ]
names_next p (Internal page) name next at =
    let found = of_flat_map internal_targets page.items name at in
    elim (member_cases (Child, found.0.child) (content_targets found.0.key) name found.2) [
      | inl child ↦ absurd (other_sort (Child, found.0.child) name refl child next)
      | inr key ↦ absurd (by_content found.0.key name next key)
    ]
names_next p (RecnoInternal page) name next at =
    let found = of_map (λ (item : RecnoItem). (Child, item.child)) page.items name at in
    absurd (other_sort (Child, found.0.child) name refl found.2 next)
names_next p (Leaf page) name next at = absurd (by_contents (contents_in (Leaf page)) name next at)
names_next p (RecnoLeaf page) name next at = absurd (by_contents (contents_in (RecnoLeaf page)) name next at)
names_next p (DupLeaf page) name next at = absurd (by_contents (contents_in (DupLeaf page)) name next at)
names_next p (Overflow header piece) name next at = refl
names_next p page name next at = absurd (no_member [] name refl at)

-- Page 0 is metadata.

no_chain_type : (kind : FileKind) (order : Order) (page : List ℕ) (byte : ℕ) → byte ≡ type_of kind → is_chain_page (page_as order page (page_type byte)) ≡ false
no_chain_type Btree order page byte is = ap (λ b. is_chain_page (page_as order page (page_type b))) is
no_chain_type kind order page byte is = ap (λ b. is_chain_page (page_as order page (page_type b))) is

first_page_is : (image : List ℕ) → IsForest image → is_chain_page (page_at (file_of image) 0) ≡ false
first_page_is image forest =
    let head : Head = head_of image in
    let page : List ℕ = page_bytes head image 0 in
    let none : form_code head 0 page ≡ None = formed_page image 0 forest.formed.form (omega arith) in
    ap is_chain_page (page_is image 0 (omega arith))
    ∙ elim (cases_Bool (is_zero page)) [
      | inl zeros ↦ ap is_chain_page (zero_page head.order page zeros)
      | inr some ↦ ap is_chain_page (typed_page head.order page some) ∙ no_chain_type head.kind head.order page (byte_at page 25) (own_type head page none)
    ]

-- What names a page of a chain.

no_root_type : (page : Page) → has_type (root_types page) (Some 7) ≡ false
no_root_type (Meta (BtreeFields meta)) = grind arith
no_root_type page = refl

no_child_type : (page : Page) → has_type (child_types page) (Some 7) ≡ false
no_child_type (Internal page) = grind arith
no_child_type (RecnoInternal page) = grind arith
no_child_type page = refl

-- it's named as the head of a chain, or as a next page
named_as : (holder : ℕ) (page : Page) (sort : Sort) → has_type (asked_by holder page sort).types (Some 7) ≡ true → (sort ≡ OverflowHead) ⊎ (is_next sort ≡ true)
named_as holder page OverflowHead asks = inl refl
named_as holder page OverflowNext asks = inr refl
named_as holder page Root asks = absurd (true≢false (sym asks ∙ no_root_type page))
named_as holder page Child asks = absurd (true≢false (sym asks ∙ no_child_type page))
named_as holder page sort asks = absurd cc

-- a page before it, if it's named as a next page
asks_back : (holder : ℕ) (page : Page) (sort : Sort) → is_next sort ≡ true → is_asked (asked_by holder page sort).previous 0 ≡ (holder == 0)
asks_back holder page OverflowNext next = refl
asks_back holder page sort next = absurd cc

or_right : (a b : Bool) → (a || (b && false)) ≡ true → a ≡ true
or_right true b is = refl
or_right false true is = is
or_right false false is = is

-- what a reference to it asks
record Asks (file : File) (holder : ℕ) (sort : Sort) : Type 0 where
  types : has_type (asked_by holder (page_at file holder) sort).types (Some 7) ≡ true
  previous : is_asked (asked_by holder (page_at file holder) sort).previous 0 ≡ true

asked : (file : File) (p : ℕ) (reference : Reference) (view : OverflowPage) → fit_code file p reference ≡ None
    → page_at file reference.target ≡ Overflow view.header view.bytes → view.header.previous ≡ 0 → Asks file p reference.sort
unfolding fit_code
asked file p reference view fits is first =
    let asked = asked_by p (page_at file p) reference.sort in
    let rows = fit_rows file asked reference.target in
    let fail : AllFail rows = none_is_first_row rows fits in
    let kind : (has_type asked.types (type_in (page_at file reference.target)) || (asked.or_zero && is_zero_page (page_at file reference.target)))
    ≡ true = not-false _ fail.1.0 in
    let back : is_asked asked.previous (header_in (page_at file reference.target)).previous ≡ true = not-false _ fail.1.1.1.0 in
    record {
      types = or_right (has_type asked.types (Some 7)) asked.or_zero
          (subst (λ page. (has_type asked.types (type_in page) || (asked.or_zero && is_zero_page page)) ≡ true) is kind);
      previous = subst (λ n. is_asked asked.previous n ≡ true) first (subst (λ page. is_asked asked.previous (header_in page).previous ≡ true) is back);
    }

owner_of : (os : List Owner) (h : ℕ) → first_holder os ≡ Some h → (owner : Owner) × Contains os owner
owner_of [] h some = absurd cc
owner_of (owner ∷ os) h some = (owner, first_member owner os)

target_of : (file : File) (p : ℕ) (owner : Owner) → Contains (owners file p) owner → owner.reference.sort ≡ OverflowHead → FitsChain file p
unfolding owners
target_of file p owner at is =
    let passed : Contains (all_references file) owner × ((owner.reference.target == p) ≡ true) =
    of_filter (λ (o : Owner). o.reference.target == p) (all_references file) owner at in
    record { owner = owner; held = passed.0; sort_is = is; target_is = (is_owner file p owner at).names }

-- It is neither an anchor nor a reserve.

no_top : (image : List ℕ) (p : ℕ) (view : OverflowPage) → IsForest image → p ≤ (file_of image).last
    → page_at (file_of image) p ≡ Overflow view.header view.bytes
    → is_top (file_of image) p ≡ true → ⊥
unfolding is_anchor
no_top image p view forest low is top =
    let file : File = file_of image in
    let anchor : is_anchor file p ≡ false =
    no_anchor_in file.kind (page_at file p) (no_queue image (head_of image) p forest.formed low (ap is_queue_page is)) (ap is_meta is) in
    let reserve : is_reserve file p ≡ false =
    elim (cases_Bool (is_reserve file p)) [
      | inl reserve ↦ absurd (true≢false (sym (reserve_is file p reserve).spare ∙ ap is_spare is))
      | inr other ↦ other
    ] in
    true≢false (sym top ∙ or_from (is_anchor file p) (is_reserve file p) anchor reserve)

by_way : (image : List ℕ) (p : ℕ) (view : OverflowPage) (hs : List ℕ) → IsForest image → p ≤ (file_of image).last
    → page_at (file_of image) p ≡ Overflow view.header view.bytes → view.header.previous ≡ 0 → IsWayUp (file_of image) p hs → FitsChain (file_of image) p
by_way image p view [] forest low is first way = absurd (no_top image p view forest low is way)
by_way image p view (h ∷ hs) forest low is first way =
    let file : File = file_of image in
    let found = owner_of (owners file p) h way.0 in
    let owner : Owner = found.0 in
    let owns : IsOwner file p owner = is_owner file p owner found.1 in
    let none : fit_code file owner.holder owner.reference ≡ None = owner_fits file p owner (sound_graph image forest.linked).references found.1 in
    let asks : Asks file owner.holder owner.reference.sort =
    asked file owner.holder owner.reference view none (ap (page_at file) owns.names ∙ is) first in
    elim (named_as owner.holder (page_at file owner.holder) owner.reference.sort asks.types) [
      | inl head ↦ target_of file p owner found.1 head
      | inr next ↦
          let zero_holder : owner.holder ≡ 0 =
          eqb-true owner.holder 0 (sym (asks_back owner.holder (page_at file owner.holder) owner.reference.sort next) ∙ asks.previous) in
          let page : is_chain_page (page_at file owner.holder) ≡ true =
          names_next owner.holder (page_at file owner.holder) (owner.reference.sort, owner.reference.target) next
          (of_refs file owner.holder owner.reference owns.held) in
          absurd (true≢false (sym page ∙ (ap (λ n. is_chain_page (page_at file n)) zero_holder ∙ first_page_is image forest)))
    ]

of_page : (image : List ℕ) (p : ℕ) (view : OverflowPage) → IsForest image → p ≤ (file_of image).last
    → page_at (file_of image) p ≡ Overflow view.header view.bytes → view.header.previous ≡ 0 → FitsChain (file_of image) p
of_page image zero view forest low is first = absurd (true≢false (sym (ap is_chain_page is) ∙ first_page_is image forest))
of_page image (suc n) view forest low is first =
    let way = each_page_leads_up image (suc n) forest.linked (omega arith) low in by_way image (suc n) view way.holders forest low is first way.way

pub head_fits : (image : List ℕ) (p : ℕ) (seen : PageView) (view : OverflowPage) → IsForest image → p ≤ (file_of image).last
    → page_seen seen ≡ page_at (file_of image) p → seen ≡ OverflowSeen view → view.header.previous ≡ 0 → FitsChain (file_of image) p
head_fits image p seen view forest low are is first = of_page image p view forest low (sym are ∙ ap page_seen is) first
