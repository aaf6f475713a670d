-- The leaves of a tree as pages of its lowest level.
use Rattle.std.proofs.Common.{Bool, ◌≡◌, ℕ, suc, zero, ◌+◌, ◌<◌, List, [], ◌∷◌, ◌++◌, length, get_or, take, arith, refl, sym, ◌∙◌, ap, subst, length-append}
use Rattle.bdb_mkleaves.proofs.Common.{get_or_append_left, get_or_push, take_all, take_more, Built, leaf_child, leaf_children, Entry, HoldsEntriesOn, first_of, no_child, AreLinked, LinkedFrom}
use Rattle.bdb_mkleaves.proofs.Common.{numbers_of, LeafType, Leaves, Child}

-- a leaf among linked ones
linked_at : (type : LeafType) (built : Built) (previous : ℕ) (ps : List ℕ) (all : List (List Entry)) (beyond i : ℕ)
    → LinkedFrom type built previous ps all beyond
    → i < length ps → (before : ℕ) × (after : ℕ) × HoldsEntriesOn type built (get_or ps i 0) before after (get_or all i [])
linked_at type built previous [] all beyond i linked low = absurd (omega (arith, low))
linked_at type built previous (p ∷ ps) [] beyond i linked low = absurd linked
linked_at type built previous (p ∷ ps) (entries ∷ all) beyond zero linked low = (previous, first_of ps beyond, linked.0)
linked_at type built previous (p ∷ ps) (entries ∷ all) beyond (suc i) linked low = linked_at type built p ps all beyond i linked.1
    (omega (arith, low))

-- there are as many children
pub length-children : (type : LeafType) (built : Built) (counted : Bool) (previous : ℕ) (ps : List ℕ) (all : List (List Entry)) (beyond : ℕ)
    → LinkedFrom type built previous ps all beyond → length (leaf_children type counted ps all) ≡ length ps
length-children type built counted previous [] all beyond linked = refl
length-children type built counted previous (p ∷ ps) [] beyond linked = absurd linked
length-children type built counted previous (p ∷ ps) (entries ∷ all) beyond linked = ap suc
    (length-children type built counted p ps all beyond linked.1)

child_at : (type : LeafType) (built : Built) (counted : Bool) (previous : ℕ) (ps : List ℕ) (all : List (List Entry)) (beyond i : ℕ)
    → LinkedFrom type built previous ps all beyond → i < length ps
    → get_or (leaf_children type counted ps all) i no_child ≡ leaf_child type counted (get_or ps i 0) (get_or all i [])
child_at type built counted previous [] all beyond i linked low = absurd (omega (arith, low))
child_at type built counted previous (p ∷ ps) [] beyond i linked low = absurd linked
child_at type built counted previous (p ∷ ps) (entries ∷ all) beyond zero linked low = refl
child_at type built counted previous (p ∷ ps) (entries ∷ all) beyond (suc i) linked low =
    child_at type built counted p ps all beyond i linked.1 (omega (arith, low))

-- what a function answers for a leaf, whatever entries it holds
abbrev Answers : Leaves → Built → Bool → ℕ → Child → Type 0
Answers leaves built counted leaf child =
    (previous next : ℕ) (entries : List Entry) → HoldsEntriesOn leaves.leaf_type built leaf previous next entries
    → child ≡ leaf_child leaves.leaf_type counted leaf entries

-- one child more
child_more : (leaves : Leaves) (built : Built) (counted : Bool) (i p : ℕ) (child : Child) (all : List (List Entry)) → AreLinked leaves built all
    → i < length (numbers_of leaves) → get_or (numbers_of leaves) i 0 ≡ p → Answers leaves built counted p child
    → take i (leaf_children leaves.leaf_type counted (numbers_of leaves) all) ++ (child ∷ [])
    ≡ take (i + 1) (leaf_children leaves.leaf_type counted (numbers_of leaves) all)
child_more leaves built counted i p child all linked low at answers =
    let type : LeafType = leaves.leaf_type in
    let ps : List ℕ = numbers_of leaves in
    let here = linked_at type built 0 ps all 0 i linked low in
    let is : child ≡ get_or (leaf_children type counted ps all) i no_child =
    answers here.0 here.1 (get_or all i []) (subst (λ n. HoldsEntriesOn type built n here.0 here.1 (get_or all i [])) at here.2)
    ∙ (ap (λ n. leaf_child type counted n (get_or all i [])) (sym at) ∙ sym (child_at type built counted 0 ps all 0 i linked low)) in
    ap (λ c. take i (leaf_children type counted ps all) ++ (c ∷ [])) is
    ∙ sym (take_more (leaf_children type counted ps all) i no_child (omega (arith, low, length-children type built counted 0 ps all 0 linked)))

pub closed_more : (leaves : Leaves) (built : Built) (counted : Bool) (i p : ℕ) (child : Child) (old new : List Child) → i < length leaves.closed.items
    → get_or leaves.closed.items i 0 ≡ p → Answers leaves built counted p child → new ≡ old ++ (child ∷ [])
    → ((all : List (List Entry)) → AreLinked leaves built all → old ≡ take i (leaf_children leaves.leaf_type counted (numbers_of leaves) all))
    → (all : List (List Entry)) → AreLinked leaves built all → new ≡ take (i + 1) (leaf_children leaves.leaf_type counted (numbers_of leaves) all)
closed_more leaves built counted i p child old new low at answers is so_far all linked =
    is
    ∙ (ap (λ cs. cs ++ (child ∷ [])) (so_far all linked)
    ∙ child_more leaves built counted i p child all linked (omega (arith, low, length-append leaves.closed.items (leaves.last ∷ [])))
    (get_or_append_left leaves.closed.items (leaves.last ∷ []) 0 i low ∙ at) answers)

pub all_children : (leaves : Leaves) (built : Built) (counted : Bool) (i : ℕ) (child : Child) (old new : List Child) → i ≡ length leaves.closed.items
    → Answers leaves built counted leaves.last child → new ≡ old ++ (child ∷ [])
    → ((all : List (List Entry)) → AreLinked leaves built all → old ≡ take i (leaf_children leaves.leaf_type counted (numbers_of leaves) all))
    → (all : List (List Entry)) → AreLinked leaves built all → new ≡ leaf_children leaves.leaf_type counted (numbers_of leaves) all
all_children leaves built counted i child old new end answers is so_far all linked =
    let long : length (numbers_of leaves) ≡ length leaves.closed.items + 1 = length-append leaves.closed.items (leaves.last ∷ []) in
    is
    ∙ (ap (λ cs. cs ++ (child ∷ [])) (so_far all linked)
    ∙ (child_more leaves built counted i leaves.last child all linked (omega (arith, long, end))
    (get_or_push leaves.closed.items leaves.last 0 i (sym end)) answers
    ∙ take_all (i + 1) (leaf_children leaves.leaf_type counted (numbers_of leaves) all)
    (omega (arith, long, end, length-children leaves.leaf_type built counted 0 (numbers_of leaves) all 0 linked))))
