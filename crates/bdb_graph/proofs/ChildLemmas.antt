-- The children of an internal page are the targets of its references to children, and a queue file has no such page.
use Rattle.std.proofs.Common.{◌≡◌, ◌⊎◌, ℕ, ◌+◌, ◌≤◌, Bool, true, false, List, [], ◌∷◌, ◌++◌, map, Some, None, arith, refl, sym, ◌∙◌, ap, true≢false}
use Rattle.std.specs.List.{Contains, enumerate_from, filter, flat_map}
use Rattle.bdb_image.specs.of_format.declared.kinds.Order.{Order}
use Rattle.bdb_image.specs.of_format.declared.metadata.FileKind.TheVariants.{Queue as QueueFile}
use Rattle.bdb_image.specs.of_format.declared.metadata.Head.{Head}
use Rattle.bdb_image.specs.of_format.declared.pages.RecnoItem.{RecnoItem}
use Rattle.bdb_image.specs.of_format.declared.references.Reference.{Reference}
use Rattle.bdb_image.specs.of_format.declared.references.Sort.{Sort}
use Rattle.bdb_image.specs.of_format.declared.references.Sort.TheVariants.{Child}
use Rattle.bdb_image.specs.of_format.Terms.{Chain, Content, File, Inline, Internal, InternalItem, Meta, Page, Queue, RecnoInternal, Set, Tree, Unknown, Zero}
use Rattle.bdb_image.specs.of_format.Terms.{abstract_page, byte_at, children_in, content_targets, file_of, form_code, head_of, internal_targets, is_zero}
use Rattle.bdb_image.specs.of_format.Terms.{may_have_type, page_as, page_at, page_bytes, page_type, refs, targets_in, targets_of}
use Rattle.bdb_image.proofs.of_format.GraphLemmas.{type_fits, queue_types}
use Rattle.bdb_image.proofs.of_format.MemberLemmas.{of_filter, of_map}
use Rattle.bdb_image.specs.Formed.{IsFormed}
use Rattle.bdb_image.specs.Linked.{IsForest}
use Rattle.bdb_image.proofs.FirstLemmas.{formed_page}
use Rattle.bdb_image.proofs.of_format.ReferenceLemmas.{forest_names}
use Rattle.bdb_image.proofs.of_format.FileLemmas.{kind_is, last_page, page_is}

-- A queue file.

-- a page that a queue file may have
abbrev pub is_queue_page : Page → Bool
is_queue_page Zero = true
is_queue_page (Meta fields) = true
is_queue_page (Queue number records) = true
is_queue_page page = false

queue_typed : (order : Order) (page : List ℕ) (byte : ℕ) → (byte ≡ 10) ⊎ (byte ≡ 11) → is_queue_page (page_as order page (page_type byte)) ≡ true
queue_typed order page byte types = grind arith

queue_abstract : (head : Head) (number : ℕ) (page : List ℕ) → head.kind ≡ QueueFile → form_code head number page ≡ None
    → is_queue_page (abstract_page head.order page) ≡ true
unfolding abstract_page
queue_abstract head number page queue none =
    let byte : ℕ = byte_at page 25 in
    elim (is_zero page) as (λ zeros. is_zero page ≡ zeros → is_queue_page (elim zeros [ true ↦ Zero | false ↦ page_as head.order page (page_type byte) ])
    ≡ true) [
      | true ↦ λ _. refl
      | false ↦ λ some.
          queue_typed head.order page byte
          (queue_types number byte (ap (λ kind. may_have_type kind number byte) (sym queue) ∙ type_fits head number page some none))
    ] refl

-- the pages of a queue file are zero pages, metadata and pages of records
pub queue_page : (image : List ℕ) (head : Head) (p : ℕ) → IsFormed image head → p ≤ (file_of image).last → (file_of image).kind ≡ QueueFile
    → is_queue_page (page_at (file_of image) p) ≡ true
queue_page image head p formed low queue =
    let inside : p ≤ (head_of image).last = omega (arith, low, last_page image) in
    let none : form_code (head_of image) p (page_bytes (head_of image) image p) ≡ None = formed_page image p formed.form inside in
    ap is_queue_page (page_is image p inside) ∙ queue_abstract (head_of image) p (page_bytes (head_of image) image p) (sym (kind_is image) ∙ queue) none

-- Children.

abbrev pub is_child : Sort → Bool
is_child Child = true
is_child sort = false

-- the pages that a page names as children, in order
abbrev pub children_of : File → ℕ → List ℕ
children_of file p = map (λ (reference : Reference). reference.target) (filter (λ (reference : Reference). is_child reference.sort) (refs file p))

abbrev named_children : List (Sort × ℕ) → List ℕ
named_children names = map (λ (named : Sort × ℕ). named.1) (filter (λ (named : Sort × ℕ). is_child named.0) names)

abbrev as_reference : (ℕ × (Sort × ℕ)) → Reference
as_reference named = record { place = named.0; sort = named.1.0; target = named.1.1 }

placed_children : (n : ℕ) (names : List (Sort × ℕ))
    → map (λ (reference : Reference). reference.target) (filter (λ (reference : Reference). is_child reference.sort)
    (map as_reference (enumerate_from n names))) ≡ named_children names
placed_children n [] = refl
placed_children n (name ∷ names) = grind (arith, placed_children (n + 1) names)

no_child_named : (key : Content) (names : List (Sort × ℕ)) → named_children (content_targets key ++ names) ≡ named_children names
no_child_named (Inline bytes) names = refl
no_child_named (Set blocks) names = refl
no_child_named (Chain head total) names = refl
no_child_named (Tree root) names = refl
no_child_named Unknown names = refl

internal_children : (items : List InternalItem) → named_children (flat_map internal_targets items) ≡ map (λ (item : InternalItem). item.child) items
internal_children [] = refl
internal_children (item ∷ items) = grind (arith, no_child_named, internal_children items)

recno_children : (items : List RecnoItem) → named_children (map (λ (item : RecnoItem). (Child, item.child)) items)
    ≡ map (λ (item : RecnoItem). item.child) items
recno_children [] = refl
recno_children (item ∷ items) = ap (λ ps. item.child ∷ ps) (recno_children items)

page_children : (p : ℕ) (page : Page) (cs : List ℕ) → children_in page ≡ Some cs → named_children (targets_in p page) ≡ cs
page_children p (Internal page) cs some = internal_children page.items ∙ cc
page_children p (RecnoInternal page) cs some = recno_children page.items ∙ cc
page_children p page cs some = absurd cc

no_queue_page : (page : Page) (cs : List ℕ) → children_in page ≡ Some cs → is_queue_page page ≡ false
no_queue_page (Internal page) cs some = refl
no_queue_page (RecnoInternal page) cs some = refl
no_queue_page page cs some = absurd cc

-- the children of an internal page are the targets of its references to children
pub children_are : (image : List ℕ) (p : ℕ) (cs : List ℕ) → IsForest image → p ≤ (file_of image).last → children_in (page_at (file_of image) p) ≡ Some cs
    → children_of (file_of image) p ≡ cs
unfolding refs
children_are image p cs forest low some =
    let file : File = file_of image in
    let other : file.kind ≡ QueueFile → ⊥ = λ queue. true≢false (sym (queue_page image (head_of image) p forest.formed low queue)
    ∙ no_queue_page (page_at file p) cs some) in
    placed_children 0 (targets_of file.kind p (page_at file p))
    ∙ (ap named_children (forest_names file.kind p (page_at file p) other) ∙ page_children p (page_at file p) cs some)

child_sort : (sort : Sort) → is_child sort ≡ true → sort ≡ Child
child_sort Child child = refl
child_sort sort child = absurd cc

-- a page is named as a child
pub record NamesChild (file : File) (p c : ℕ) : Type 0 where
  pub reference : Reference
  pub held : Contains (refs file p) reference
  pub child : reference.sort ≡ Child
  pub target : reference.target ≡ c

pub child_named : (file : File) (p c : ℕ) → Contains (children_of file p) c → NamesChild file p c
child_named file p c at =
    let children : List Reference = filter (λ (r : Reference). is_child r.sort) (refs file p) in
    let found : (r : Reference) × Contains children r × (r.target ≡ c) = of_map (λ (r : Reference). r.target) children c at in
    let held : Contains (refs file p) found.0 × (is_child found.0.sort ≡ true) = of_filter (λ (r : Reference). is_child r.sort) (refs file p) found.0 found.1 in
    record { reference = found.0; held = held.0; child = child_sort found.0.sort held.1; target = found.2 }
