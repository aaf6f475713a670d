-- What the leaves of a file weigh is what those of its trees weigh: each page of a tree is named once, and what a page leads to is below it.
use Rattle.std.proofs.Common.{◌≡◌, ◌⊎◌, ℕ, zero, suc, ◌+◌, ◌<◌, ◌≤◌, Bool, true, false, cond, List, [], ◌∷◌, map, length, arith, refl, sym, ◌∙◌, ap, subst, inl}
use Rattle.std.proofs.Common.{inr, true≢false, ◌==◌, ◌||◌, ◌&&◌, not, nat_lt, Option, Some, None, unwrap_or}
use Rattle.std.specs.List.{Contains, filter, flat_map, list_all, range_with_len, sum_by}
use Rattle.std.proofs.lemmas.Bool.{and_parts, cases_Bool, eqb-true, not-false, or_parts, ltb-false}
use Rattle.std.proofs.lemmas.List.Sums.{length-filter, sum_by-cons}
use Rattle.bdb_tree.specs.of_format.declared.metadata.FileKind.{FileKind}
use Rattle.bdb_tree.specs.of_format.declared.metadata.FileKind.TheVariants.{Btree, Hash as HashFile, Queue as QueueFile}
use Rattle.bdb_tree.specs.of_format.declared.metadata.Head.{Head}
use Rattle.bdb_tree.specs.of_format.declared.references.Reference.{Reference}
use Rattle.bdb_tree.specs.of_format.declared.references.Sort.{Sort}
use Rattle.bdb_tree.specs.of_format.declared.references.Sort.TheVariants.{Free as FreeRef, Root, Bucket, HashNext, Child, OverflowHead, OverflowNext}
use Rattle.bdb_tree.specs.of_format.declared.references.Sort.TheVariants.{DuplicateRoot}
use Rattle.bdb_tree.specs.of_format.Terms.{Asked, BtreeFields, DupLeaf, File, Free, Hash, HashFields, Internal, Leaf, Meta, NoType, OneRole, Overflow, Owner}
use Rattle.bdb_tree.specs.of_format.Terms.{Page, Queue, QueueFields, RecnoInternal, RecnoLeaf, Zero, abstract_page, all_references, asked_by, byte_at}
use Rattle.bdb_tree.specs.of_format.Terms.{children_in, file_of, first_row, fit_code, fit_rows, form_code, has_type, head_of, held_by, is_anchor, is_anchor_in}
use Rattle.bdb_tree.specs.of_format.Terms.{is_head_reference, is_meta, is_root_reference, is_spare, is_zero, is_zero_page, leaves, metadata_rows, owners}
use Rattle.bdb_tree.specs.of_format.Terms.{page_as, page_at, page_bytes, page_type, refs, root_references, targets_of, type_in, type_of}
use Rattle.bdb_tree.specs.of_format.declared.kinds.Order.{Order}
use Rattle.bdb_tree.proofs.of_graph.ChildLemmas.{is_queue_page}
use Rattle.bdb_tree.proofs.of_image.CodeLemmas.{first_page_code}
use Rattle.bdb_tree.proofs.of_image.FirstLemmas.{formed_page}
use Rattle.bdb_tree.proofs.of_format.GraphLemmas.{each_fits, each_page_has_one_role, is_owner, owner_fits, reserve_is}
use Rattle.bdb_tree.proofs.of_format.MemberLemmas.{first_member, member_cases, no_member, of_map}
use Rattle.bdb_tree.proofs.of_format.VerdictLemmas.{AllFail, none_is_first_row}
use Rattle.bdb_tree.specs.of_image.Linked.{IsForest}
use Rattle.bdb_tree.proofs.of_graph.ForestLemmas.{sound_graph}
use Rattle.bdb_tree.specs.Trees.{IsRoot}
use Rattle.bdb_tree.proofs.of_format.TypeLemmas.{AllTypes, of_type}
use Rattle.bdb_tree.proofs.of_format.FileLemmas.{page_is}
use Rattle.bdb_tree.proofs.ShapeLemmas.{IsFormedPage, formed_at, no_queue}
use Rattle.bdb_tree.proofs.TreeLemmas.{child_is, leaves_of_inner, leaves_of_leaf, root_is_tree, tree_cases}
use Rattle.bdb_law_sums.specs.Counting.{AreParts, times}
use Rattle.bdb_law_sums.specs.TreeSums.{LeavesAreOfTrees, leaf_weight, weight_below}
use Rattle.bdb_law_sums.proofs.CountLemmas.{parts_are_entrances, sum_parts, sum_plus, sum_same}
use Rattle.bdb_law_sums.proofs.NameLemmas.{as_child, child_sum, sum_map, sum_refs}

abbrev tree_types : List ℕ
tree_types = 3 ∷ 4 ∷ 5 ∷ 6 ∷ 12 ∷ []

abbrev is_tree : File → ℕ → Bool
is_tree file p = has_type tree_types (type_in (page_at file p))

-- what the leaves at or below a page of a tree weigh; another page weighs nothing
abbrev whole : File → (ℕ → ℕ) → ℕ → ℕ
whole file weight p = cond (is_tree file p) (weight_below file weight p) 0

-- a reference to a root leads into a tree
abbrev as_root : (ℕ → ℕ) → Sort → ℕ → ℕ
as_root f sort target = cond (is_root_reference sort) (f target) 0

abbrev pub targets : File → ℕ → List ℕ
targets file p = map (λ (r : Reference). r.target) (refs file p)

abbrev pub pages : File → List ℕ
pages file = range_with_len 0 (file.last + 1)

-- How often a page is named.

pub named_as_owned : (file : File) (q : ℕ) → times q (flat_map (targets file) (pages file)) ≡ length (owners file q)
unfolding owners all_references
named_as_owned file q =
    let one : ℕ → ℕ = λ x. cond (x == q) 1 0 in
    let test : Owner → Bool = λ (owner : Owner). owner.reference.target == q in
    let all : List ℕ = range_with_len 0 (file.last + 1) in
    sum_parts one (λ p. map (λ (r : Reference). r.target) (refs file p)) all
    ∙ (sum_same (λ p. sum_by one (map (λ (r : Reference). r.target) (refs file p)))
    (λ p. sum_by (λ (owner : Owner). cond (test owner) 1 0) (held_by file p)) all (λ p at.
    sum_map one (λ (r : Reference). r.target) (refs file p)
    ∙ sym (sum_map (λ (owner : Owner). cond (test owner) 1 0) (λ r. record { holder = p; reference = r }) (refs file p)))
    ∙ (sym (sum_parts (λ (owner : Owner). cond (test owner) 1 0) (held_by file) all)
    ∙ sym (length-filter test (flat_map (held_by file) all))))

-- What a reference that fits names.

pub passed_by : (a b c : Bool) → not (a || (b && c)) ≡ false → (a ≡ true) ⊎ (c ≡ true)
passed_by true b c passed = inl refl
passed_by false true true passed = inr refl
passed_by false true false passed = absurd cc
passed_by false false c passed = absurd cc

zero_no_tree : (page : Page) → is_zero_page page ≡ true → has_type tree_types (type_in page) ≡ false
zero_no_tree Zero is = refl
zero_no_tree page is = absurd cc

-- a page that passes for types outside trees is no page of a tree
other_type : (types : List ℕ) (or_zero : Bool) (page : Page) → AllTypes (λ type. has_type tree_types type ≡ false) types
    → not (has_type types (type_in page) || (or_zero && is_zero_page page)) ≡ false → has_type tree_types (type_in page) ≡ false
other_type types or_zero page all passed =
    elim (passed_by (has_type types (type_in page)) or_zero (is_zero_page page) passed) [
      | inl has ↦ of_type (λ type. has_type tree_types type ≡ false) types (type_in page) all has
      | inr zeros ↦ zero_no_tree page zeros
    ]

-- the sorts that lead into trees
abbrev leads_in : Sort → Bool
leads_in Child = true
leads_in Root = true
leads_in DuplicateRoot = true
leads_in sort = false

outside : (holder : ℕ) (page : Page) (sort : Sort) → leads_in sort ≡ false
    → AllTypes (λ type. has_type tree_types type ≡ false) (asked_by holder page sort).types
outside holder page FreeRef is = (refl, tt)
outside holder page Bucket is = (refl, (refl, tt))
outside holder page HashNext is = (refl, (refl, tt))
outside holder page OverflowHead is = (refl, tt)
outside holder page OverflowNext is = (refl, tt)
outside holder page sort is = absurd cc

names_other : (file : File) (p : ℕ) (r : Reference) → fit_code file p r ≡ None → leads_in r.sort ≡ false → is_tree file r.target ≡ false
unfolding fit_code
names_other file p r fits is =
    let asked : Asked = asked_by p (page_at file p) r.sort in
    let fail : AllFail (fit_rows file asked r.target) = none_is_first_row (fit_rows file asked r.target) fits in
    other_type asked.types asked.or_zero (page_at file r.target) (outside p (page_at file p) r.sort is) fail.1.0

as_parts : (f : ℕ → ℕ) (sort : Sort) (target : ℕ) → (leads_in sort ≡ false → f target ≡ 0) → f target ≡ as_child f sort target + as_root f sort target
as_parts f Child target none = omega arith
as_parts f Root target none = omega arith
as_parts f DuplicateRoot target none = omega arith
as_parts f sort target none = omega (arith, none refl)

-- a reference names a child, or a root, or no page of a tree
named_parts : (image : List ℕ) (weight : ℕ → ℕ) (p : ℕ) (r : Reference) → IsForest image → p ≤ (file_of image).last
    → Contains (refs (file_of image) p) r
    → whole (file_of image) weight r.target ≡ as_child (whole (file_of image) weight) r.sort r.target + as_root
    (whole (file_of image) weight) r.sort r.target
named_parts image weight p r forest low at =
    let file : File = file_of image in
    as_parts (whole file weight) r.sort r.target (λ other.
    ap (λ b. cond b (weight_below file weight r.target) 0)
    (names_other file p r (each_fits file p r (sound_graph image forest.linked).references low at) other))

-- Owners of a page of a tree.

-- types that metadata doesn't have
pub record NoMetaType (types : List ℕ) : Type 0 where
  pub tree : has_type types (Some 9) ≡ false
  pub table : has_type types (Some 8) ≡ false
  pub queue : has_type types (Some 10) ≡ false
  pub none : has_type types None ≡ false

meta_as : (types : List ℕ) (order : Order) (page : List ℕ) (kind : FileKind) (byte : ℕ) → NoMetaType types → byte ≡ type_of kind
    → has_type types (type_in (page_as order page (page_type byte))) ≡ false
meta_as types order page Btree byte no' is = ap (λ b. has_type types (type_in (page_as order page (page_type b)))) is ∙ no'.tree
meta_as types order page HashFile byte no' is = ap (λ b. has_type types (type_in (page_as order page (page_type b)))) is ∙ no'.table
meta_as types order page QueueFile byte no' is = ap (λ b. has_type types (type_in (page_as order page (page_type b)))) is ∙ no'.queue

meta_abstract : (types : List ℕ) (head : Head) (page : List ℕ) → NoMetaType types → first_row (metadata_rows head.order page 0 head.last head.kind)
    ≡ None → has_type types (type_in (abstract_page head.order page)) ≡ false
unfolding metadata_rows abstract_page
meta_abstract types head page no' none =
    let fail = none_is_first_row (metadata_rows head.order page 0 head.last head.kind) none in
    let type : byte_at page 25 ≡ type_of head.kind = eqb-true (byte_at page 25) (type_of head.kind) (not-false _ fail.1.0) in
    elim (is_zero page) as (λ zeros. has_type types
    (type_in (elim zeros [ true ↦ Zero | false ↦ page_as head.order page (page_type (byte_at page 25)) ])) ≡ false) [
      | true ↦ no'.none
      | false ↦ meta_as types head.order page head.kind (byte_at page 25) no' type
    ]

-- page 0 has a type of metadata alone
pub page_zero_type : (image types : List ℕ) → IsForest image → NoMetaType types → has_type types (type_in (page_at (file_of image) 0)) ≡ false
page_zero_type image types forest no' =
    let head : Head = head_of image in
    let page : List ℕ = page_bytes head image 0 in
    let none : form_code head 0 page ≡ None = formed_page image 0 forest.formed.form (omega arith) in
    ap (λ (page : Page). has_type types (type_in page)) (page_is image 0 (omega arith))
    ∙ meta_abstract types head page no' (sym (first_page_code head page) ∙ none)

page_zero_no_tree : (image : List ℕ) → IsForest image → is_tree (file_of image) 0 ≡ false
page_zero_no_tree image forest = page_zero_type image tree_types forest (record { tree = refl; table = refl; queue = refl; none = refl })

forest_page : (page : Page) → has_type tree_types (type_in page) ≡ true → IsFormedPage page
    → (is_queue_page page ≡ false) × (is_meta page ≡ false) × (is_spare page ≡ false)
forest_page Zero tree formed = absurd cc
forest_page (Free header) tree formed = absurd cc
forest_page (Meta (BtreeFields meta)) tree formed = absurd cc
forest_page (Meta (HashFields meta)) tree formed = absurd cc
forest_page (Meta (QueueFields meta)) tree formed = absurd cc
forest_page (Hash page) tree formed = absurd (true≢false (sym tree ∙ formed.0))
forest_page (Internal page) tree formed = (refl, refl, refl)
forest_page (RecnoInternal page) tree formed = (refl, refl, refl)
forest_page (Leaf page) tree formed = (refl, refl, refl)
forest_page (RecnoLeaf page) tree formed = (refl, refl, refl)
forest_page (DupLeaf page) tree formed = (refl, refl, refl)
forest_page (Overflow header piece) tree formed = absurd cc
forest_page (Queue number records) tree formed = absurd cc
forest_page NoType tree formed = absurd cc

pub no_anchor : (kind : FileKind) (page : Page) → (kind ≡ QueueFile → ⊥) → is_meta page ≡ false → is_anchor_in kind page ≡ true → ⊥
no_anchor Btree page forest other is = true≢false (sym is ∙ other)
no_anchor HashFile page forest other is = true≢false (sym is ∙ other)
no_anchor QueueFile page forest other is = forest refl

pub some_member : {X : Type 0} (xs : List X) → 0 < length xs → (x : X) × Contains xs x
some_member [] some = absurd (omega arith)
some_member (x ∷ xs) some = (x, first_member x xs)

pub all_pass : {X : Type 0} (test : X → Bool) (xs : List X) (x : X) → list_all test xs ≡ true → Contains xs x → test x ≡ true
all_pass test [] x all at = absurd (no_member [] x refl at)
all_pass test (y ∷ ys) x all at =
    let both = and_parts (test y) (list_all test ys) all in
    elim (member_cases y ys x at) [ inl same ↦ subst (λ z. test z ≡ true) same both.0 | inr later ↦ all_pass test ys x both.1 later ]

head_leads_out : (sort : Sort) → is_head_reference sort ≡ true → leads_in sort ≡ false
head_leads_out OverflowHead is = refl
head_leads_out sort is = absurd cc

-- a page of a tree is named once
named_once : (image : List ℕ) (q : ℕ) → IsForest image → q ≤ (file_of image).last → is_tree (file_of image) q ≡ true
    → length (owners (file_of image) q) ≡ 1
unfolding is_anchor
named_once image zero forest low tree = absurd (true≢false (sym tree ∙ page_zero_no_tree image forest))
named_once image (suc q') forest low tree =
    let file : File = file_of image in
    let q : ℕ = suc q' in
    let sound = sound_graph image forest.linked in
    let is = forest_page (page_at file q) tree (formed_at image q forest low) in
    let one : OneRole file q = (each_page_has_one_role file).0 sound.ownership sound.reach q (omega arith) low in
    elim one.role [
      | inl anchor ↦ absurd (no_anchor file.kind (page_at file q) (no_queue image (head_of image) q forest.formed low is.0) is.1 anchor)
      | inr (inl reserve) ↦ absurd (true≢false (sym (reserve_is file q reserve).spare ∙ is.2))
      | inr (inr (inl once)) ↦ once.0
      | inr (inr (inr shared)) ↦
          let some : (owner : Owner) × Contains (owners file q) owner = some_member (owners file q) shared.1 in
          let owner : Owner = some.0 in
          let head : is_head_reference owner.reference.sort ≡ true =
          all_pass (λ (o : Owner). is_head_reference o.reference.sort) (owners file q) owner shared.0 some.1 in
          let names : owner.reference.target ≡ q = (is_owner file q owner some.1).names in
          let other : is_tree file owner.reference.target ≡ false =
          names_other file owner.holder owner.reference (owner_fits file q owner sound.references some.1)
          (head_leads_out owner.reference.sort head) in
          absurd (true≢false (sym tree ∙ (ap (is_tree file) (sym names) ∙ other)))
    ]

-- The part that is a page's own.

no_children : (page : Page) → has_type tree_types (type_in page) ≡ false → unwrap_or (children_in page) [] ≡ []
no_children (Internal page) other = absurd cc
no_children (RecnoInternal page) other = absurd cc
no_children page other = refl

no_leaf : (type : Option ℕ) → has_type tree_types type ≡ false → has_type (5 ∷ 6 ∷ 12 ∷ []) type ≡ false
no_leaf type other =
    elim (cases_Bool (has_type (5 ∷ 6 ∷ 12 ∷ []) type)) [
      | inl is ↦ absurd (true≢false (sym (of_type (λ t. has_type tree_types t ≡ true) (5 ∷ 6 ∷ 12 ∷ []) type (refl, (refl, (refl, tt))) is) ∙ other))
      | inr no' ↦ no'
    ]

inner_no_leaf : (page : Page) (children : List ℕ) → children_in page ≡ Some children → has_type (5 ∷ 6 ∷ 12 ∷ []) (type_in page) ≡ false
inner_no_leaf (Internal page) children are = refl
inner_no_leaf (RecnoInternal page) children are = refl
inner_no_leaf page children are = absurd cc

-- what the children of a page weigh, and its own part, are its whole
inner_parts : (image : List ℕ) (weight : ℕ → ℕ) (q : ℕ) → IsForest image
    → sum_by (whole (file_of image) weight) (unwrap_or (children_in (page_at (file_of image) q)) []) + leaf_weight (file_of image) weight q ≡ whole
    (file_of image) weight q
inner_parts image weight q forest =
    let file : File = file_of image in
    let f : ℕ → ℕ = whole file weight in
    elim (cases_Bool (is_tree file q)) [
      | inr other ↦
          let children : sum_by f (unwrap_or (children_in (page_at file q)) []) ≡ 0 = ap (sum_by f) (no_children (page_at file q) other) in
          let own : leaf_weight file weight q ≡ 0 = ap (λ b. cond b (weight q) 0) (no_leaf (type_in (page_at file q)) other) in
          let all : f q ≡ 0 = ap (λ b. cond b (weight_below file weight q) 0) other in
          added _ _ _ children own all
      | inl tree ↦
          let all : f q ≡ weight_below file weight q = ap (λ b. cond b (weight_below file weight q) 0) tree in
          elim (tree_cases image q forest tree) [
            | inl inner ↦
                let own : leaf_weight file weight q ≡ 0 = ap (λ b. cond b (weight q) 0) (inner_no_leaf (page_at file q) inner.children inner.are) in
                let each : sum_by f inner.children ≡ sum_by (weight_below file weight) inner.children =
                sum_same f (weight_below file weight) inner.children (λ c at.
                ap (λ b. cond b (weight_below file weight c) 0) (child_is image q c inner.children forest inner.are at).tree) in
                let below : weight_below file weight q ≡ sum_by (weight_below file weight) inner.children =
                ap (sum_by weight) (leaves_of_inner image q inner.children forest inner.are) ∙ sum_parts weight (leaves file) inner.children in
                left_alone _ _ _ (ap (λ o. sum_by f (unwrap_or o [])) inner.are ∙ (each ∙ sym (all ∙ below))) own
            | inr leaf ↦
                let none : sum_by f (unwrap_or (children_in (page_at file q)) []) ≡ 0 = ap (λ o. sum_by f (unwrap_or o [])) leaf.none in
                let own : leaf_weight file weight q ≡ weight q = ap (λ b. cond b (weight q) 0) leaf.type in
                let below : weight_below file weight q ≡ weight q = ap (sum_by weight) (leaves_of_leaf file q leaf) ∙ only_one (weight q) in
                right_alone _ _ _ none (own ∙ sym (all ∙ below))
          ]
    ]
  where
    added : (a b c : ℕ) → a ≡ 0 → b ≡ 0 → c ≡ 0 → a + b ≡ c
    added a b c p q r = omega arith

    left_alone : (a b c : ℕ) → a ≡ c → b ≡ 0 → a + b ≡ c
    left_alone a b c p q = omega arith

    right_alone : (a b c : ℕ) → a ≡ 0 → b ≡ c → a + b ≡ c
    right_alone a b c p q = omega arith

    only_one : (n : ℕ) → 0 + n ≡ n
    only_one n = omega arith

child_names : (f : ℕ → ℕ) (kind : FileKind) (q : ℕ) (page : Page) → (kind ≡ QueueFile → unwrap_or (children_in page) [] ≡ [])
    → sum_by (λ (name : Sort × ℕ). as_child f name.0 name.1) (targets_of kind q page) ≡ sum_by f (unwrap_or (children_in page) [])
child_names f Btree q page none = child_sum f q page
child_names f HashFile q page none = child_sum f q page
child_names f QueueFile q page none = sym (ap (sum_by f) (none refl))

-- the references of a page to children lead to the pages below it
named_sum : (image : List ℕ) (f : ℕ → ℕ) (q : ℕ) → IsForest image → q ≤ (file_of image).last
    → sum_by (λ (r : Reference). as_child f r.sort r.target) (refs (file_of image) q) ≡ sum_by f
    (unwrap_or (children_in (page_at (file_of image) q)) [])
named_sum image f q forest low =
    let file : File = file_of image in
    sum_refs (as_child f) file q
    ∙ child_names f file.kind q (page_at file q) (λ queue.
    elim (cases_Bool (is_tree file q)) [
      | inr other ↦ no_children (page_at file q) other
      | inl tree ↦ absurd (no_queue image (head_of image) q forest.formed low (forest_page (page_at file q) tree (formed_at image q forest low)).0
          queue)
    ])

pub target_inside : (file : File) (p : ℕ) (r : Reference) → fit_code file p r ≡ None → r.target ≤ file.last
unfolding fit_code
target_inside file p r fits =
    let rows = fit_rows file (asked_by p (page_at file p) r.sort) r.target in
    let fail : AllFail rows = none_is_first_row rows fits in
    ltb-false file.last r.target (or_parts (r.target == 0) (nat_lt file.last r.target) fail.0).1

-- a sum over what a page names splits by the sort of the reference
split_sum : (image : List ℕ) (weight : ℕ → ℕ) (q : ℕ) → IsForest image → q ≤ (file_of image).last
    → sum_by (whole (file_of image) weight) (targets (file_of image) q) + leaf_weight (file_of image) weight q
    ≡ whole (file_of image) weight q + sum_by (λ (r : Reference). as_root (whole (file_of image) weight) r.sort r.target) (refs (file_of image) q)
split_sum image weight q forest low =
    let file : File = file_of image in
    let f : ℕ → ℕ = whole file weight in
    let held : List Reference = refs file q in
    let all : sum_by f (targets file q) ≡ sum_by (λ (r : Reference). f r.target) held = sum_map f (λ (r : Reference). r.target) held in
    let each = sum_same (λ (r : Reference). f r.target) (λ (r : Reference). as_child f r.sort r.target + as_root f r.sort r.target) held
    (λ r at. named_parts image weight q r forest low at) in
    let two = sum_plus (λ (r : Reference). as_child f r.sort r.target) (λ (r : Reference). as_root f r.sort r.target) held in
    joined _ _ _ _ _ _ (all ∙ (each ∙ two)) (named_sum image f q forest low) (inner_parts image weight q forest)
  where
    joined : (all inner root children own whole : ℕ) → all ≡ inner + root → inner ≡ children → children + own ≡ whole → all + own ≡ whole + root
    joined all inner root children own whole p q r = omega arith

parts : (image : List ℕ) (weight : ℕ → ℕ) → IsForest image
    → AreParts ((file_of image).last + 1) (targets (file_of image)) (whole (file_of image) weight) (leaf_weight (file_of image) weight)
    (λ q. sum_by (λ (r : Reference). as_root (whole (file_of image) weight) r.sort r.target) (refs (file_of image) q))
parts image weight forest =
    let file : File = file_of image in
    let sound = sound_graph image forest.linked in
    record {
      below = λ q x low at.
          let held : (r : Reference) × Contains (refs file q) r × (r.target ≡ x) = of_map (λ (r : Reference). r.target) (refs file q) x at in
          let inside : held.0.target ≤ file.last =
          target_inside file q held.0 (each_fits file q held.0 sound.references (less q file.last low) held.1) in
          within x held.0.target file.last held.2 inside;
      once = λ q low.
          elim (cases_Bool (is_tree file q)) [
            | inr other ↦ inl (ap (λ b. cond b (weight_below file weight q) 0) other)
            | inl tree ↦ inr (named_as_owned file q ∙ named_once image q forest (less q file.last low) tree)
          ];
      splits = λ q low. split_sum image weight q forest (less q file.last low);
    }
  where
    less : (q last : ℕ) → q < last + 1 → q ≤ last
    less q last low = omega arith

    within : (x t last : ℕ) → t ≡ x → t ≤ last → x < last + 1
    within x t last same inside = omega arith

pub sum_filter : {X : Type 0} (f : X → ℕ) (test : X → Bool) (xs : List X) → sum_by f (filter test xs) ≡ sum_by (λ x. cond (test x) (f x) 0) xs
sum_filter f test [] = refl
sum_filter f test (x ∷ xs) =
    elim (cases_Bool (test x)) [
      | inl is ↦
          let kept : filter test (x ∷ xs) ≡ x ∷ filter test xs = ap (λ b. cond b (x ∷ filter test xs) (filter test xs)) is in
          let here : cond (test x) (f x) 0 ≡ f x = ap (λ b. cond b (f x) 0) is in
          ap (sum_by f) kept ∙ omega (arith, sum_filter f test xs, sum_by-cons f x (filter test xs), sum_by-cons (λ y. cond (test y) (f y) 0) x xs)
      | inr other ↦
          let kept : filter test (x ∷ xs) ≡ filter test xs = ap (λ b. cond b (x ∷ filter test xs) (filter test xs)) other in
          let here : cond (test x) (f x) 0 ≡ 0 = ap (λ b. cond b (f x) 0) other in
          ap (sum_by f) kept ∙ omega (arith, sum_filter f test xs, sum_by-cons (λ y. cond (test y) (f y) 0) x xs)
    ]

root_of : (file : File) (owner : Owner) (sort : Sort) → owner.reference.sort ≡ sort → Contains (all_references file) owner → is_root_reference sort
    ≡ true → IsRoot file owner.reference.target
root_of file owner Root same at is = inl (record { owner = owner; held = at; sort_is = same; target_is = refl })
root_of file owner DuplicateRoot same at is = inr (record { owner = owner; held = at; sort_is = same; target_is = refl })
root_of file owner sort same at is = absurd cc

pub leaves_are_of_trees : LeavesAreOfTrees
unfolding all_references root_references
leaves_are_of_trees image weight forest =
    let file : File = file_of image in
    let f : ℕ → ℕ = whole file weight in
    let g : Owner → ℕ = λ (owner : Owner). as_root f owner.reference.sort owner.reference.target in
    let below : Owner → ℕ = λ (owner : Owner). weight_below file weight owner.reference.target in
    let is_root : Owner → Bool = λ (owner : Owner). is_root_reference owner.reference.sort in
    let entrances : ℕ → ℕ = λ q. sum_by (λ (r : Reference). as_root f r.sort r.target) (refs file q) in
    let counted : sum_by (leaf_weight file weight) (pages file) ≡ sum_by entrances (pages file) =
    parts_are_entrances (file.last + 1) (targets file) f (leaf_weight file weight) entrances (parts image weight forest) in
    let held : sum_by entrances (pages file) ≡ sum_by (λ q. sum_by g (held_by file q)) (pages file) =
    sum_same entrances (λ q. sum_by g (held_by file q)) (pages file)
    (λ q at. sym (sum_map g (λ r. record { holder = q; reference = r }) (refs file q))) in
    let all : sum_by (λ q. sum_by g (held_by file q)) (pages file) ≡ sum_by g (all_references file) = sym (sum_parts g (held_by file) (pages file)) in
    let trees : sum_by g (all_references file) ≡ sum_by (λ owner. cond (is_root owner) (below owner) 0) (all_references file) =
    sum_same g (λ owner. cond (is_root owner) (below owner) 0) (all_references file) (λ owner at.
    elim (cases_Bool (is_root owner)) [
      | inl is ↦
          let tree : is_tree file owner.reference.target ≡ true =
          root_is_tree image owner.reference.target forest (root_of file owner owner.reference.sort refl at is) in
          ap (λ b. cond b (f owner.reference.target) 0) is ∙ (ap (λ b. cond b (below owner) 0) tree ∙ sym (ap (λ b. cond b (below owner) 0) is))
      | inr other ↦ ap (λ b. cond b (f owner.reference.target) 0) other ∙ sym (ap (λ b. cond b (below owner) 0) other)
    ]) in
    counted ∙ (held ∙ (all ∙ (trees ∙ sym (sum_filter below is_root (all_references file)))))
