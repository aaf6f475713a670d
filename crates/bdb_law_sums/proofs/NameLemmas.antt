-- Sums over what a page names.
use Rattle.std.proofs.Common.{◌≡◌, ℕ, ◌+◌, true, false, cond, List, [], ◌∷◌, map, arith, refl, sym, ◌∙◌, ◌==◌, unwrap_or}
use Rattle.std.specs.List.{enumerate_from, flat_map, range_with_len, sum_by}
use Rattle.std.proofs.lemmas.List.Sums.{sum_by-cons, sum_by-append}
use Rattle.bdb_tree.specs.of_format.declared.pages.RecnoItem.{RecnoItem}
use Rattle.bdb_tree.specs.of_format.declared.references.Reference.{Reference}
use Rattle.bdb_tree.specs.of_format.declared.references.Sort.{Sort}
use Rattle.bdb_tree.specs.of_format.declared.references.Sort.TheVariants.{Free as FreeRef, Root, Bucket, HashNext, Child, OverflowHead, OverflowNext}
use Rattle.bdb_tree.specs.of_format.declared.references.Sort.TheVariants.{DuplicateRoot}
use Rattle.bdb_tree.specs.of_format.Terms.{BtreeFields, Chain, Content, DupLeaf, File, Free, Hash, HashFields, Inline, Internal, InternalItem, Leaf, Meta}
use Rattle.bdb_tree.specs.of_format.Terms.{NoType, Overflow, Page, Queue, QueueFields, RecnoInternal, RecnoLeaf, Set, Tree, Unknown, Zero, children_in}
use Rattle.bdb_tree.specs.of_format.Terms.{content_targets, contents_in, first_free, first_page, internal_targets, page_at, refs, targets_in, targets_of}
use Rattle.bdb_tree.specs.of_format.Terms.{unless_zero}
use Rattle.bdb_law_sums.proofs.CountLemmas.{sum_none, sum_parts, sum_same}

pub sum_map : {X Y : Type 0} (f : Y → ℕ) (g : X → Y) (xs : List X) → sum_by f (map g xs) ≡ sum_by (λ x. f (g x)) xs
sum_map f g [] = refl
sum_map f g (x ∷ xs) = omega (arith, sum_map f g xs, sum_by-cons f (g x) (map g xs), sum_by-cons (λ y. f (g y)) x xs)

-- places don't count
pub sum_placed : {X : Type 0} (f : X → ℕ) (n : ℕ) (xs : List X) → sum_by (λ (placed : ℕ × X). f placed.1) (enumerate_from n xs) ≡ sum_by f xs
sum_placed f n [] = refl
sum_placed f n (x ∷ xs) =
    omega (arith, sum_placed f (n + 1) xs, sum_by-cons f x xs, sum_by-cons (λ (placed : ℕ × _). f placed.1) (n, x) (enumerate_from (n + 1) xs))

-- a sum over references is one over names
pub sum_refs : (f : Sort → ℕ → ℕ) (file : File) (p : ℕ)
    → sum_by (λ (r : Reference). f r.sort r.target) (refs file p) ≡ sum_by (λ (name : Sort × ℕ). f name.0 name.1)
    (targets_of file.kind p (page_at file p))
unfolding refs
sum_refs f file p =
    let names : List (Sort × ℕ) = targets_of file.kind p (page_at file p) in
    sum_map (λ (r : Reference). f r.sort r.target) (λ (named : ℕ × (Sort × ℕ)). record { place = named.0; sort = named.1.0; target = named.1.1 })
    (enumerate_from 0 names)
    ∙ sum_placed (λ (name : Sort × ℕ). f name.0 name.1) 0 names

-- a weight of names by which free pages, chains and sets off the page weigh nothing
pub record OfStructure (f : Sort → ℕ → ℕ) : Type 0 where
  pub free : (t : ℕ) → f FreeRef t ≡ 0
  pub head : (t : ℕ) → f OverflowHead t ≡ 0
  pub chained : (t : ℕ) → f OverflowNext t ≡ 0
  pub set : (t : ℕ) → f DuplicateRoot t ≡ 0

-- what a page's root, buckets, next page of a bucket, or children weigh
abbrev pub named_weight : (Sort → ℕ → ℕ) → Page → ℕ
named_weight f (Meta (BtreeFields meta)) = f Root meta.root
named_weight f (Meta (HashFields meta)) = sum_by (λ b. f Bucket (first_page b meta.spares)) (range_with_len 0 (meta.max_bucket + 1))
named_weight f (Meta (QueueFields meta)) = 0
named_weight f (Hash page) = cond (page.header.next == 0) 0 (f HashNext page.header.next)
named_weight f (Internal page) = sum_by (λ (item : InternalItem). f Child item.child) page.items
named_weight f (RecnoInternal page) = sum_by (λ (item : RecnoItem). f Child item.child) page.items
named_weight f page = 0

abbrev part : (Sort → ℕ → ℕ) → (Sort × ℕ) → ℕ
part f name = f name.0 name.1

none_in_content : (f : Sort → ℕ → ℕ) (content : Content) → OfStructure f → sum_by (part f) (content_targets content) ≡ 0
none_in_content f (Inline bytes) of = refl
none_in_content f (Set blocks) of = refl
none_in_content f (Chain head total) of = omega (arith, of.head head)
none_in_content f (Tree root) of = omega (arith, of.set root)
none_in_content f Unknown of = refl

none_in_contents : (f : Sort → ℕ → ℕ) (contents : List Content) → OfStructure f → sum_by (part f) (flat_map content_targets contents) ≡ 0
none_in_contents f contents of =
    sum_parts (part f) content_targets contents
    ∙ sum_none (λ content. sum_by (part f) (content_targets content)) contents (λ content at. none_in_content f content of)

one_unless_zero : (f : Sort → ℕ → ℕ) (sort : Sort) (target : ℕ) → sum_by (part f) (unless_zero sort target) ≡ cond (target == 0) 0 (f sort target)
one_unless_zero f sort target =
    elim (target == 0) as (λ b. sum_by (part f) (cond b [] ((sort, target) ∷ [])) ≡ cond b 0 (f sort target)) [
      | true ↦ refl
      | false ↦ omega arith
    ]

none_unless_zero : (f : Sort → ℕ → ℕ) (sort : Sort) (target : ℕ) → ((t : ℕ) → f sort t ≡ 0) → sum_by (part f) (unless_zero sort target) ≡ 0
none_unless_zero f sort target none =
    elim (target == 0) as (λ b. sum_by (part f) (cond b [] ((sort, target) ∷ [])) ≡ 0) [ true ↦ refl | false ↦ omega (arith, none target) ]

none_in_free : (f : Sort → ℕ → ℕ) (p free : ℕ) → OfStructure f → sum_by (part f) (first_free p free) ≡ 0
none_in_free f p free of =
    elim (p == 0) as (λ b. sum_by (part f) (cond b (unless_zero FreeRef free) []) ≡ 0) [
      | true ↦ none_unless_zero f FreeRef free of.free
      | false ↦ refl
    ]

-- of all that a page names these weigh what they do, and the others nothing
pub named_sum : (f : Sort → ℕ → ℕ) (p : ℕ) (page : Page) → OfStructure f
    → sum_by (λ (name : Sort × ℕ). f name.0 name.1) (targets_in p page) ≡ named_weight f page
named_sum f p Zero of = refl
named_sum f p (Free header) of = none_unless_zero f FreeRef header.next of.free
named_sum f p (Meta (BtreeFields meta)) of =
    omega (arith, sum_by-append (part f) (first_free p meta.free) ((Root, meta.root) ∷ []), none_in_free f p meta.free of)
named_sum f p (Meta (HashFields meta)) of =
    let buckets : List ℕ = range_with_len 0 (meta.max_bucket + 1) in
    omega (
      arith,
      sum_by-append (part f) (first_free p meta.free) (map (λ b. (Bucket, first_page b meta.spares)) buckets),
      none_in_free f p meta.free of,
      sum_map (part f) (λ b. (Bucket, first_page b meta.spares)) buckets,
    )
named_sum f p (Meta (QueueFields meta)) of = refl
named_sum f p (Hash page) of =
    omega (
      arith,
      sum_by-append (part f) (flat_map content_targets (contents_in (Hash page))) (unless_zero HashNext page.header.next),
      none_in_contents f (contents_in (Hash page)) of,
      one_unless_zero f HashNext page.header.next,
    )
named_sum f p (Internal page) of =
    sum_parts (part f) internal_targets page.items
    ∙ sum_same (λ item. sum_by (part f) (internal_targets item)) (λ (item : InternalItem). f Child item.child) page.items (λ item at.
    omega (arith, sum_by-cons (part f) (Child, item.child) (content_targets item.key), none_in_content f item.key of))
named_sum f p (RecnoInternal page) of = sum_map (part f) (λ (item : RecnoItem). (Child, item.child)) page.items
named_sum f p (Leaf page) of = none_in_contents f (contents_in (Leaf page)) of
named_sum f p (RecnoLeaf page) of = none_in_contents f (contents_in (RecnoLeaf page)) of
named_sum f p (DupLeaf page) of = none_in_contents f (contents_in (DupLeaf page)) of
named_sum f p (Overflow header piece) of = none_unless_zero f OverflowNext header.next of.chained
named_sum f p (Queue number records) of = refl
named_sum f p NoType of = refl

-- Names of children.

-- a name counts where it's that of a child
abbrev pub as_child : (ℕ → ℕ) → Sort → ℕ → ℕ
as_child f Child target = f target
as_child f sort target = 0

child_weight : (f : ℕ → ℕ) (page : Page) → named_weight (as_child f) page ≡ sum_by f (unwrap_or (children_in page) [])
child_weight f (Meta (BtreeFields meta)) = refl
child_weight f (Meta (HashFields meta)) = sum_none (λ (b : ℕ). 0) (range_with_len 0 (meta.max_bucket + 1)) (λ b at. refl)
child_weight f (Meta (QueueFields meta)) = refl
child_weight f (Hash page) = elim (page.header.next == 0) as (λ b. ◌≡◌ {A = ℕ} (cond b 0 0) 0) [ true ↦ refl | false ↦ refl ]
child_weight f (Internal page) = sym (sum_map f (λ (item : InternalItem). item.child) page.items)
child_weight f (RecnoInternal page) = sym (sum_map f (λ (item : RecnoItem). item.child) page.items)
child_weight f page = refl

-- the children that a page names are those below it
pub child_sum : (f : ℕ → ℕ) (p : ℕ) (page : Page)
    → sum_by (λ (name : Sort × ℕ). as_child f name.0 name.1) (targets_in p page) ≡ sum_by f (unwrap_or (children_in page) [])
child_sum f p page =
    named_sum (as_child f) p page (record { free = λ t. refl; head = λ t. refl; chained = λ t. refl; set = λ t. refl }) ∙ child_weight f page
