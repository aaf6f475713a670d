-- The pages that are no leaves, as units are put on leaves.
use Rattle.std.proofs.Common.{◌≡◌, ℕ, ◌+◌, ◌<◌, ◌≤◌, Bool, true, false, not, List, [], ◌∷◌, ◌++◌, length, map, arith, refl, sym, ◌∙◌, ap, ◌⊎◌, subst, inl, inr}
use Rattle.std.proofs.Common.{true≢false, ◌==◌, ◌&&◌, ◌||◌, All, Contains, flat_map}
use Rattle.bdb_mkleaves.proofs.Common.{and_parts, cases_Bool, cases_lt, eq-eqb, ne_eqb, not-true, or_left, or_right, or_cases, append-nil, append_assoc, map-append, All-append, All-cons, All-nil}
use Rattle.bdb_mkleaves.proofs.Common.{All-push, Contains-append_cases, Contains-append_left, Contains-append_right, flat_map-append, Content, File, page_code, only_member, first_member, none_pass}
use Rattle.bdb_mkleaves.proofs.Common.{none_passes, IsLater, AscendIn, ContentFits, content_pages, IsBranch, between, branch_is_known, branches_stand_together, no_branch, between_is, is_between}
use Rattle.bdb_mkleaves.proofs.Common.{same_test, key_heads, is_of, Built, bytes_of, file_so_far, AllStand, AreFilled, IsUnitPut, StandOn, all_contents, rest_of, unit_contents, HasTreeOn, Entry}
use Rattle.bdb_mkleaves.proofs.Common.{HoldsEntriesOn, type_number, of_list, ascend_bounds, ascend_follow, ascend_on, CountsOneFrom, Pairs, Records, SortedData, AreLeaves, IsOpened, KeepsOthers}
use Rattle.bdb_mkleaves.proofs.Common.{IsPlacedBySize, Placed, StandsPlaced, entries_of, LeafType, Leaves}
use Rattle.bdb_mkleaves.proofs.LastingLemmas.{has_tree_stays, heads_one}
use Rattle.bdb_mkleaves.proofs.LeavesLemmas.{at_most_last}
use Rattle.bdb_mkleaves.proofs.RunLemmas.{all_map, one_kept, later_before}

-- Leaves among pages.

pub is_one : (numbers : List ℕ) (p : ℕ) → Contains numbers p → is_of numbers p ≡ true
is_one numbers p at =
    elim (cases_Bool (is_of numbers p)) [
      | inl is ↦ is
      | inr none ↦ absurd (true≢false (sym (eq-eqb p p refl) ∙ none_passes (λ q. p == q) numbers p none at))
    ]

pub leaves_low : (leaves : Leaves) (built : Built) (closed : List (List Entry)) (entries : List Entry) → AreLeaves leaves built closed entries
    → (p : ℕ) → is_of (leaves.closed.items ++ (leaves.last ∷ [])) p ≡ true → (p < length built.pages) × (p ≤ leaves.last)
leaves_low leaves built closed entries hold p is =
    let there = hold.there in
    let up = hold.after in
    let rise = at_most_last leaves.leaf_type built 0 leaves.closed.items closed leaves.last hold.closed_hold in
    elim (Contains-append_cases leaves.closed.items (leaves.last ∷ []) p (of_list (leaves.closed.items ++ (leaves.last ∷ [])) p is)) [
      | inl one ↦ let most = rise.1 p one in (omega (arith, most, up, there), omega (arith, most, up))
      | inr last ↦ let same : leaves.last ≡ p = only_member leaves.last p last in (omega (arith, same, there), omega (arith, same))
    ]

-- The rest.

pub rest_is : (before b : ℕ) (numbers : List ℕ) (p : ℕ) → (between before b p && not (is_of numbers p)) ≡ true
    → (before ≤ p) × (p < b) × (is_of numbers p ≡ false)
rest_is before b numbers p is = grind (arith, and_parts, between_is, not-true)

pub is_rest : (before b : ℕ) (numbers : List ℕ) (p : ℕ) → before ≤ p → p < b → is_of numbers p ≡ false
    → (between before b p && not (is_of numbers p)) ≡ true
is_rest before b numbers p low high none = rw (is_between before b p low high, none) refl

-- a leaf is no page of the rest
not_last : (leaves : Leaves) (p : ℕ) → p ≡ leaves.last → is_of (leaves.closed.items ++ (leaves.last ∷ [])) p ≡ false → ⊥
not_last leaves p same none =
    true≢false
    (sym (eq-eqb p leaves.last same)
    ∙ none_passes (λ q. p == q) (leaves.closed.items ++ (leaves.last ∷ [])) leaves.last none
    (Contains-append_right leaves.closed.items (leaves.last ∷ []) leaves.last (first_member leaves.last [])))

-- a page is of the rest, or behind all pages
rest_more : (before a b : ℕ) (numbers : List ℕ) → before ≤ a → a ≤ b → ((p : ℕ) → is_of numbers p ≡ true → p < a)
    → (p : ℕ) → (between before b p && not (is_of numbers p)) ≡ ((between before a p && not (is_of numbers p)) || between a b p)
rest_more before a b numbers low more under p =
    same_test _ _
    (λ is. let parts = rest_is before b numbers p is in
    elim (cases_lt p a) [
      | inl below ↦ or_left _ (between a b p) (is_rest before a numbers p parts.0 below parts.2)
      | inr above ↦ or_right (between before a p && not (is_of numbers p)) _ (is_between a b p above parts.1)
    ])
    (λ is.
    elim (or_cases (between before a p && not (is_of numbers p)) (between a b p) is) [
      | inl old ↦
          let parts = rest_is before a numbers p old in is_rest before b numbers p parts.0 (omega (arith, parts.1, more)) parts.2
      | inr new ↦
          let within = between_is a b p new in
          is_rest before b numbers p (omega (arith, low, within.0)) within.1
          (elim (cases_Bool (is_of numbers p)) [ inl one ↦ let below = under p one in absurd (omega (arith, below, within.0)) | inr none ↦ none ])
    ])

-- A unit more.

-- what all units hold, after one more
contents_more : (type : LeafType) (closed : List (List Placed)) (units : List Placed) (unit : Placed)
    → all_contents type closed (units ++ (unit ∷ [])) ≡ all_contents type closed units ++ unit_contents type unit
contents_more type closed units unit = grind (arith, append_assoc, flat_map-append, append-nil)

-- the heads that they name
heads_more : (type : LeafType) (closed : List (List Placed)) (units : List Placed) (unit : Placed) (h : ℕ)
    → Contains (flat_map key_heads (all_contents type closed (units ++ (unit ∷ [])))) h
    → Contains (flat_map key_heads (all_contents type closed units)) h ⊎ Contains (flat_map key_heads (unit_contents type unit)) h
heads_more type closed units unit h at =
    Contains-append_cases (flat_map key_heads (all_contents type closed units)) (flat_map key_heads (unit_contents type unit)) h
    (subst (λ hs. Contains hs h)
    (ap (flat_map key_heads) (contents_more type closed units unit)
    ∙ flat_map-append key_heads (all_contents type closed units) (unit_contents type unit)) at)

-- a list of units, after one more
units_more : (P : Placed → Type 0) (closed : List (List Placed)) (units : List Placed) (unit : Placed)
    → All P (flat_map (λ leaf. leaf) closed ++ units) → P unit → All P (flat_map (λ leaf. leaf) closed ++ (units ++ (unit ∷ [])))
units_more P closed units unit all one =
    subst (All P) (append_assoc (flat_map (λ leaf. leaf) closed) units (unit ∷ []))
    (All-append P (flat_map (λ leaf. leaf) closed ++ units) (unit ∷ []) all (All-cons P unit [] one (All-nil P)))

-- two sets of pages behind contents are one
stand_both : (g : File) (one two both : ℕ → Bool) (xs ys : List Content) → ((p : ℕ) → both p ≡ (one p || two p))
    → ((p : ℕ) → one p ≡ true → two p ≡ true → ⊥) → StandOn g one xs → StandOn g two ys → StandOn g both (xs ++ ys)
stand_both g one two both xs ys union apart first second =
    record {
      branch = subst (IsBranch g both) (sym (flat_map-append content_pages xs ys))
          (branches_stand_together g one two both (flat_map content_pages xs) (flat_map content_pages ys) union apart first.branch second.branch);
      fit = All-append (ContentFits g) xs ys first.fit second.fit;
    }

-- a leaf is no page of a chain
pub no_leaf : (type : LeafType) → type_number type ≡ 7 → ⊥
no_leaf Pairs is = omega (arith, is)
no_leaf Records is = omega (arith, is)
no_leaf SortedData is = omega (arith, is)

-- first pages of chains stay, since the one page that changes is a leaf
heads_kept : (leaves : Leaves) (old new : Built) (before : ℕ) (closed : List (List Entry)) (entries : List Entry) (contents : List Content)
    → AreLeaves leaves old closed entries → KeepsOthers leaves.last old new → All (CountsOneFrom before old) contents
    → All (CountsOneFrom before new) contents
heads_kept leaves old new before closed entries contents hold kept counts k d low = grind (arith, no_leaf)

pub unit_added : (leaves : Leaves) (old new : Built) (before : ℕ) (closed : List (List Placed)) (units : List Placed) (unit : Placed)
    → AreFilled leaves old before closed units → IsUnitPut leaves old new unit → AreFilled leaves new before closed (units ++ (unit ∷ []))
unit_added leaves old new before closed units unit filled put =
    let type : LeafType = leaves.leaf_type in
    let numbers : List ℕ = leaves.closed.items ++ (leaves.last ∷ []) in
    let a : ℕ = length old.pages in
    let b : ℕ = length new.pages in
    let grows : a ≤ b = put.kept.grows in
    let low = leaves_low leaves old (map (flat_map entries_of) closed) (flat_map entries_of units) filled.hold in
    let first : before ≤ a = ascend_bounds before a _ filled.ascend in
    let union = rest_more before a b numbers first grows (λ p is. (low p is).0) in
    let apart : (p : ℕ) → rest_of before leaves old p ≡ true → between a b p ≡ true → ⊥ =
    λ p one two. let here = rest_is before a numbers p one in let there = between_is a b p two in omega (arith, here.1, there.0) in
    let kept : (p : ℕ) → rest_of before leaves old p ≡ true → (p < a) × (bytes_of new p ≡ bytes_of old p) =
    λ p one. let here = rest_is before a numbers p one in (here.1, put.kept.same p here.1 (λ e. not_last leaves p e here.2)) in
    let within_old : (p : ℕ) → rest_of before leaves old p ≡ true → rest_of before leaves new p ≡ true =
    λ p one. union p ∙ ap (λ x. x || between a b p) one in
    let within_new : (p : ℕ) → between a b p ≡ true → rest_of before leaves new p ≡ true =
    λ p two. union p ∙ or_right (rest_of before leaves old p) (between a b p) two in
    let was_later : (g : File) → IsLater (rest_of before leaves new) (file_so_far new) g → IsLater (rest_of before leaves old) (file_so_far old) g =
    λ g later. later_before old new (rest_of before leaves old) (rest_of before leaves new) g put.kept.order grows within_old kept later in
    let now_later : (g : File) → IsLater (rest_of before leaves new) (file_so_far new) g → IsLater (between a b) (file_so_far new) g =
    λ g later. later_before new new (between a b) (rest_of before leaves new) g refl (omega arith) within_new
    (λ p two. let there = between_is a b p two in (there.1, refl)) later in
    record {
      hold = subst (AreLeaves leaves new (map (flat_map entries_of) closed))
          (sym (flat_map-append entries_of units (unit ∷ []) ∙ ap (λ es. flat_map entries_of units ++ es) (append-nil (entries_of unit))))
          (put.hold (map (flat_map entries_of) closed) (flat_map entries_of units) filled.hold);
      some = filled.some;
      low = filled.low;
      new = filled.new;
      ascend = subst (AscendIn before b)
          (sym (ap (flat_map content_pages) (contents_more type closed units unit)
          ∙ flat_map-append content_pages (all_contents type closed units) (unit_contents type unit)))
          (ascend_follow before a b _ _ filled.ascend put.ascend);
      stands = λ g counted later.
          let was = filled.stands g counted (was_later g later) in
          let now = put.stands g counted (now_later g later) in
          record {
            on = subst (StandOn g (rest_of before leaves new)) (sym (contents_more type closed units unit))
                (stand_both g (rest_of before leaves old) (between a b) (rest_of before leaves new) (all_contents type closed units)
                (unit_contents type unit)
                union apart was.on now.on);
            placed = units_more (StandsPlaced type g) closed units unit was.placed now.placed;
          };
      sizes = subst (λ n. All (IsPlacedBySize n) (flat_map (λ leaf. leaf) closed ++ (units ++ (unit ∷ [])))) (sym put.kept.size)
          (units_more (IsPlacedBySize old.size) closed units unit filled.sizes put.sizes);
      heads = subst (All (CountsOneFrom before new)) (sym (contents_more type closed units unit))
          (All-append (CountsOneFrom before new) (all_contents type closed units) (unit_contents type unit)
          (heads_kept leaves old new before (map (flat_map entries_of) closed) (flat_map entries_of units)
          (all_contents type closed units) filled.hold put.kept
          filled.heads)
          (all_map (λ content. one_kept a before new new content first refl (omega arith) (λ h above under. refl))
          (unit_contents type unit) put.heads));
      formed = λ p is.
          elim (or_cases (rest_of before leaves old p) (between a b p) (sym (union p) ∙ is)) [
            | inl one ↦
                ap (λ o. page_code o p (bytes_of new p)) put.kept.order ∙ (ap (page_code old.order p) (kept p one).1 ∙ filled.formed p one)
            | inr two ↦ let there = between_is a b p two in put.formed p there.0 there.1
          ];
      trees = units_more (HasTreeOn new (rest_of before leaves new) (all_contents type closed (units ++ (unit ∷ [])))) closed units unit
          (all_map (λ one has. has_tree_stays old new (rest_of before leaves old) (rest_of before leaves new) (all_contents type closed units)
          (all_contents type closed (units ++ (unit ∷ []))) one put.kept.size put.kept.order was_later
          (λ h is under out. (
            within_old h is,
            omega (arith, under, grows),
            (kept h is).1,
            λ at. elim (heads_more type closed units unit h at) [
              | inl was ↦ out was
              | inr own ↦ let above = heads_one a new (unit_contents type unit) h put.heads own in omega (arith, above.0, under)
            ],
          )) has)
          (flat_map (λ leaf. leaf) closed ++ units) filled.trees)
          (has_tree_stays new new (between a b) (rest_of before leaves new) (unit_contents type unit)
          (all_contents type closed (units ++ (unit ∷ []))) unit
          refl refl now_later
          (λ h is under out. (
            within_new h is,
            under,
            refl,
            λ at. elim (heads_more type closed units unit h at) [
              | inl was ↦
                  let below = heads_one before old (all_contents type closed units) h filled.heads was in
                  let there = between_is a b h is in omega (arith, below.1, there.0)
              | inr own ↦ out own
            ],
          )) put.tree);
    }

-- A leaf more.

-- the units, once the last leaf is closed
closed_more : (closed : List (List Placed)) (units : List Placed)
    → flat_map (λ leaf. leaf) (closed ++ (units ∷ [])) ++ [] ≡ flat_map (λ leaf. leaf) closed ++ units
closed_more closed units = grind (arith, append-nil, flat_map-append)

-- the new leaf isn't of the rest
pub rest_opened : (before a : ℕ) (numbers : List ℕ) → before ≤ a → ((p : ℕ) → is_of numbers p ≡ true → p < a)
    → (p : ℕ) → (between before (a + 1) p && not (is_of (numbers ++ (a ∷ [])) p)) ≡ (between before a p && not (is_of numbers p))
rest_opened before a numbers low under p =
    let none_of_both : (xs ys : List ℕ) (p : ℕ) → is_of (xs ++ ys) p ≡ false → (is_of xs p ≡ false) × (is_of ys p ≡ false) = λ xs ys p none. (
      none_pass (λ q. p == q) xs (λ q at. none_passes (λ q. p == q) (xs ++ ys) q none (Contains-append_left xs ys q at)),
      none_pass (λ q. p == q) ys (λ q at. none_passes (λ q. p == q) (xs ++ ys) q none (Contains-append_right xs ys q at)),
    ) in
    let one_of : (a p : ℕ) → is_of (a ∷ []) p ≡ false → p ≡ a → ⊥ = λ a p none same.
    true≢false (sym (eq-eqb p a same) ∙ none_passes (λ q. p == q) (a ∷ []) a none (first_member a [])) in
    same_test _ _
    (λ is.
    let parts = rest_is before (a + 1) (numbers ++ (a ∷ [])) p is in
    let none = none_of_both numbers (a ∷ []) p parts.2 in
    is_rest before a numbers p parts.0
    (elim (cases_lt p a) [ inl below ↦ below | inr above ↦ absurd (one_of a p none.1 (omega (arith, above, parts.1))) ]) none.0)
    (λ is.
    let parts = rest_is before a numbers p is in
    is_rest before (a + 1) (numbers ++ (a ∷ [])) p parts.0 (omega (arith, parts.1))
    (none_pass (λ q. p == q) (numbers ++ (a ∷ [])) (λ q at.
    elim (Contains-append_cases numbers (a ∷ []) q at) [
      | inl one ↦ none_passes (λ q. p == q) numbers q parts.2 one
      | inr last ↦ ne_eqb p q (λ e. let same : a ≡ q = only_member a q last in omega (arith, e, same, parts.1))
    ])))

pub leaf_opened : (leaves next : Leaves) (old new : Built) (before : ℕ) (closed : List (List Placed)) (units : List Placed)
    → AreFilled leaves old before closed units → 0 < length units → IsOpened leaves next old new
    → AreFilled next new before (closed ++ (units ∷ [])) []
leaf_opened leaves next old new before closed units filled some opened =
    let type : LeafType = leaves.leaf_type in
    let numbers : List ℕ = leaves.closed.items ++ (leaves.last ∷ []) in
    let a : ℕ = length old.pages in
    let count = opened.count in
    let low = leaves_low leaves old (map (flat_map entries_of) closed) (flat_map entries_of units) filled.hold in
    let first : before ≤ a = ascend_bounds before a _ filled.ascend in
    let now_numbers : next.closed.items ++ (next.last ∷ []) ≡ numbers ++ (a ∷ []) =
    ap (λ ns. ns ++ (next.last ∷ [])) opened.numbers ∙ ap (λ n. numbers ++ (n ∷ [])) opened.last in
    let rest : (p : ℕ) → rest_of before next new p ≡ rest_of before leaves old p =
    λ p. ap (λ ns. between before (length new.pages) p && not (is_of ns p)) now_numbers
    ∙ (ap (λ n. between before n p && not (is_of (numbers ++ (a ∷ [])) p)) count ∙ rest_opened before a numbers first (λ q is. (low q is).0) p) in
    let kept : (p : ℕ) → rest_of before leaves old p ≡ true → (p < a) × (bytes_of new p ≡ bytes_of old p) =
    λ p one. let here = rest_is before a numbers p one in (here.1, opened.kept.same p here.1 (λ e. not_last leaves p e here.2)) in
    let was_later : (g : File) → IsLater (rest_of before next new) (file_so_far new) g → IsLater (rest_of before leaves old) (file_so_far old) g =
    λ g later. later_before old new (rest_of before leaves old) (rest_of before next new) g opened.kept.order opened.kept.grows
    (λ p one. rest p ∙ one) kept later in
    record {
      hold = subst (λ es. AreLeaves next new es []) (sym (map-append (flat_map entries_of) closed (units ∷ [])))
          (opened.hold (map (flat_map entries_of) closed) (flat_map entries_of units) filled.hold);
      some = All-push (λ leaf. 0 < length leaf) closed units filled.some some;
      low = filled.low;
      new = λ p is.
          elim (Contains-append_cases numbers (a ∷ []) p
          (subst (λ ns. Contains ns p) now_numbers (of_list (next.closed.items ++ (next.last ∷ [])) p is))) [
            | inl one ↦ filled.new p (is_one numbers p one)
            | inr last ↦ let same : a ≡ p = only_member a p last in omega (arith, first, same)
          ];
      ascend = subst (λ t. AscendIn before (length new.pages) (flat_map content_pages (all_contents t (closed ++ (units ∷ [])) []))) (sym opened.type)
          (subst (λ us. AscendIn before (length new.pages) (flat_map content_pages (flat_map (unit_contents type) us)))
          (sym (closed_more closed units))
          (subst (λ n. AscendIn before n (flat_map content_pages (all_contents type closed units))) (sym count)
          (ascend_on before a (a + 1) _ (omega arith) filled.ascend)));
      stands = λ g counted later.
          let was = filled.stands g counted (was_later g later) in
          subst (λ t. AllStand t g (rest_of before next new) (closed ++ (units ∷ [])) []) (sym opened.type)
          (record {
            on = subst (λ us. StandOn g (rest_of before next new) (flat_map (unit_contents type) us)) (sym (closed_more closed units))
                (record {
                  branch = branch_is_known g (rest_of before leaves old) (rest_of before next new) _ _ rest (λ e at. at) (λ e at. at) was.on.branch;
                  fit = was.on.fit;
                });
            placed = subst (All (StandsPlaced type g)) (sym (closed_more closed units)) was.placed;
          });
      sizes = subst (λ n. All (IsPlacedBySize n) (flat_map (λ leaf. leaf) (closed ++ (units ∷ [])) ++ [])) (sym opened.kept.size)
          (subst (All (IsPlacedBySize old.size)) (sym (closed_more closed units)) filled.sizes);
      heads = subst (λ t. All (CountsOneFrom before new) (all_contents t (closed ++ (units ∷ [])) [])) (sym opened.type)
          (subst (λ us. All (CountsOneFrom before new) (flat_map (unit_contents type) us)) (sym (closed_more closed units))
          (heads_kept leaves old new before (map (flat_map entries_of) closed) (flat_map entries_of units)
          (all_contents type closed units) filled.hold
          opened.kept filled.heads));
      formed = λ p is.
          let one : rest_of before leaves old p ≡ true = sym (rest p) ∙ is in
          ap (λ o. page_code o p (bytes_of new p)) opened.kept.order ∙ (ap (page_code old.order p) (kept p one).1 ∙ filled.formed p one);
      trees = subst (λ t. All (HasTreeOn new (rest_of before next new) (all_contents t (closed ++ (units ∷ [])) []))
          (flat_map (λ leaf. leaf) (closed ++ (units ∷ [])) ++ [])) (sym opened.type)
          (subst (λ us. All (HasTreeOn new (rest_of before next new) (flat_map (unit_contents type) us)) us) (sym (closed_more closed units))
          (all_map (λ one has. has_tree_stays old new (rest_of before leaves old) (rest_of before next new) (all_contents type closed units)
          (all_contents type closed units) one opened.kept.size opened.kept.order was_later
          (λ h is under out. (rest h ∙ is, omega (arith, under, count), (kept h is).1, out)) has)
          (flat_map (λ leaf. leaf) closed ++ units) filled.trees));
    }

-- The first leaf.

pub leaf_begun : (leaves : Leaves) (built : Built) (before : ℕ) → 1 ≤ before → leaves.closed.items ≡ [] → leaves.last ≡ before
    → length built.pages ≡ before + 1 → HoldsEntriesOn leaves.leaf_type built leaves.last 0 0 [] → AreFilled leaves built before [] []
leaf_begun leaves built before positive none last count holds =
    grind (arith, same_test, rest_is, not_last, between_is, All-nil, only_member, of_list, branch_is_known, no_branch)
