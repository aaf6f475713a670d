-- In a file that linking accepts the leaves below a page have no page twice: a child has one holder, so two ways up from a page are one.
use Rattle.std.proofs.Common.{◌≡◌, ◌⊎◌, ℕ, zero, suc, ◌+◌, ◌≤◌, Bool, true, false, cond, List, [], ◌∷◌, ◌++◌, map, length, Option, Some, None, arith, refl, sym}
use Rattle.std.proofs.Common.{◌∙◌, ap, subst, inl, inr, length-append, nat_lt, ◌==◌}
use Rattle.std.specs.List.{Contains, filter, flat_map, range_with_len}
use Rattle.std.proofs.lemmas.Bool.{cases_Bool, eqb-false, eq-eqb, ltb-false, or_parts}
use Rattle.std.proofs.lemmas.List.Elements.{Contains-append_cases, filter-append}
use Rattle.std.proofs.lemmas.List.Folds.{list_all_at}
use Rattle.bdb_image.specs.of_format.declared.references.Reference.{Reference}
use Rattle.bdb_image.specs.of_format.declared.references.Sort.{Sort}
use Rattle.bdb_image.specs.of_format.declared.references.Sort.TheVariants.{Child}
use Rattle.bdb_image.specs.of_format.Terms.{File, Owner, all_references, asked_by, children_in, faults_in, file_of, fit_code, fit_rows, has_heads_alone}
use Rattle.bdb_image.specs.of_format.Terms.{held_by, is_head_reference, leaves_in, leaves_under, owners, ownership_faults, ownership_rows, page_at}
use Rattle.bdb_image.specs.of_format.Terms.{reference_faults, refs}
use Rattle.bdb_image.specs.of_format.Verdict.{holding}
use Rattle.bdb_image.proofs.of_format.GraphLemmas.{each_fits}
use Rattle.bdb_image.proofs.of_format.MemberLemmas.{first_member, in_filter, in_range, later_member, member_cases, no_member, of_filter, of_flat_map, of_map}
use Rattle.bdb_image.proofs.of_format.VerdictLemmas.{AllFail, all_fail, no_codes_at, none_is_first_row}
use Rattle.bdb_graph.specs.Forest.{AllDistinct, IsWayDown, Names, NoLeafTwice, NotIn}
use Rattle.bdb_image.specs.Linked.{IsForest}
use Rattle.bdb_graph.proofs.ChildLemmas.{NamesChild, child_named, children_are, children_of, is_child}
use Rattle.bdb_graph.proofs.ForestLemmas.{IsSoundGraph, few_owners, named_owner, no_page_twice_below, sound_graph}
use Rattle.bdb_image.proofs.of_format.ListLemmas.{only_member}

-- Members and filters.

at_most : (m n : ℕ) → m ≤ n → n ≤ 1 → m ≤ 1
at_most m n less few = omega arith

over : (n : ℕ) → 2 ≤ n → n ≤ 1 → ⊥
over n two one = omega arith

one_member : {X : Type 0} (xs : List X) (x y : X) → length xs ≤ 1 → Contains xs x → Contains xs y → x ≡ y
one_member [] x y few at_x at_y = absurd (no_member [] x refl at_x)
one_member (z ∷ []) x y few at_x at_y = sym (only_member z x at_x) ∙ only_member z y at_y
one_member (z ∷ (w ∷ xs)) x y few at_x at_y = absurd (omega (arith, few))

kept_of_tail : {X : Type 0} (test : X → Bool) (x : X) (xs : List X) → length (filter test xs) ≤ length (filter test (x ∷ xs))
kept_of_tail test x xs = elim (test x) as (λ b. length (filter test xs) ≤ length (cond b (x ∷ filter test xs) (filter test xs)))
    [ true ↦ omega arith | false ↦ omega arith ]

kept_of_part : {X Y : Type 0} (test : Y → Bool) (f : X → List Y) (xs : List X) (x : X) → Contains xs x
    → length (filter test (f x)) ≤ length (filter test (flat_map f xs))
kept_of_part test f [] x at = absurd (no_member [] x refl at)
kept_of_part test f (w ∷ xs) x at =
    let sum : length (filter test (f w ++ flat_map f xs)) ≡ length (filter test (f w)) + length (filter test (flat_map f xs)) =
    ap length (filter-append test (f w) (flat_map f xs)) ∙ length-append (filter test (f w)) (filter test (flat_map f xs)) in
    elim (member_cases w xs x at) [
      | inl here ↦ let same : length (filter test (f w)) ≡ length (filter test (f x)) = ap (λ v. length (filter test (f v))) here in omega arith
      | inr later ↦ let few : length (filter test (f x)) ≤ length (filter test (flat_map f xs)) = kept_of_part test f xs x later in omega arith
    ]

kept_twice : {X : Type 0} (test : X → Bool) (x y : X) (xs : List X) → test x ≡ true → test y ≡ true → Contains xs y → 2 ≤ length (filter test (x ∷ xs))
kept_twice test x y xs first second at =
    let later : Contains (filter test xs) y = in_filter test xs y at second in
    rw first (omega (arith, later.1))

-- Lists without a page twice.

pub not_in : (x : ℕ) (xs : List ℕ) → (Contains xs x → ⊥) → NotIn x xs
not_in x [] none = tt
not_in x (y ∷ ys) none = (λ same. none (subst (Contains (y ∷ ys)) (sym same) (first_member y ys)), not_in x ys (λ at. none (later_member y ys x at)))

pub is_out : (x : ℕ) (xs : List ℕ) → NotIn x xs → Contains xs x → ⊥
is_out x [] out at = no_member [] x refl at
is_out x (y ∷ ys) out at = elim (member_cases y ys x at) [ inl same ↦ out.0 (sym same) | inr later ↦ is_out x ys out.1 later ]

distinct_append : (xs ys : List ℕ) → AllDistinct xs → AllDistinct ys → ((x : ℕ) → Contains xs x → Contains ys x → ⊥) → AllDistinct (xs ++ ys)
distinct_append [] ys first second apart = second
distinct_append (x ∷ xs) ys first second apart = (
  not_in x (xs ++ ys) (λ at. elim (Contains-append_cases xs ys x at) [ inl left ↦ is_out x xs first.0 left | inr right ↦ apart x (first_member x xs) right ]),
  distinct_append xs ys first.1 second (λ z left right. apart z (later_member x xs z left) right),
)

-- parts without a page twice, of which no two different ones have a page in common
distinct_parts : (f : ℕ → List ℕ) (cs : List ℕ)
    → AllDistinct cs
    → ((c : ℕ) → Contains cs c → AllDistinct (f c))
    → ((c d x : ℕ) → Contains cs c → Contains cs d → Contains (f c) x → Contains (f d) x → c ≡ d)
    → AllDistinct (flat_map f cs)
distinct_parts f [] distinct each one = tt
distinct_parts f (c ∷ cs) distinct each one =
    distinct_append (f c) (flat_map f cs) (each c (first_member c cs))
    (distinct_parts f cs distinct.1 (λ d at. each d (later_member c cs d at))
    (λ d e x at_d at_e. one d e x (later_member c cs d at_d) (later_member c cs e at_e)))
    (λ x left right.
    let part : (d : ℕ) × Contains cs d × Contains (f d) x = of_flat_map f cs x right in
    let same : c ≡ part.0 = one c part.0 x (first_member c cs) (later_member c cs part.0 part.1) left part.2 in
    is_out c cs distinct.0 (subst (Contains cs) (sym same) part.1))

-- One holder.

child_is_other : (sort : Sort) → is_child sort ≡ true → is_head_reference sort ≡ false
child_is_other Child child = refl
child_is_other sort child = absurd cc

reference_names : (file : File) (p : ℕ) (reference : Reference) → Contains (refs file p) reference → is_child reference.sort ≡ true
    → Names file p reference.target
reference_names file p reference held child = record { reference = reference; held = held; target = refl; other = child_is_other reference.sort child }

child_names : (file : File) (p q : ℕ) → Contains (children_of file p) q → Names file p q
child_names file p q at =
    let named : NamesChild file p q = child_named file p q at in
    subst (Names file p) named.target (reference_names file p named.reference named.held (ap is_child named.child))

-- a page that is named is there, and isn't page 0
named_inside : (file : File) (p q : ℕ) → reference_faults file ≡ [] → p ≤ file.last → Names file p q → (1 ≤ q) × (q ≤ file.last)
unfolding fit_code
named_inside file p q none low names =
    let target : ℕ = names.reference.target in
    let rows = fit_rows file (asked_by p (page_at file p) names.reference.sort) target in
    let fail : AllFail rows = none_is_first_row rows (each_fits file p names.reference none low names.held) in
    let range : ((target == 0) ≡ false) × (nat_lt file.last target ≡ false) = or_parts (target == 0) (nat_lt file.last target) fail.0 in
    let some : target ≡ 0 → ⊥ = eqb-false target 0 range.0 in
    let high : target ≤ file.last = ltb-false file.last target range.1 in
    (omega (arith, names.target), omega (arith, names.target))

-- a page that is named, other than as the head of a chain, has no second owner
owned_once : (file : File) (p q : ℕ) → IsSoundGraph file → p ≤ file.last → Names file p q → length (owners file q) ≤ 1
unfolding ownership_faults
owned_once file p q sound low names =
    let inside : (1 ≤ q) × (q ≤ file.last) = named_inside file p q sound.references low names in
    let codes : holding (ownership_rows file q) ≡ [] = no_codes_at 4 1 file.last q (λ page. holding (ownership_rows file page)) sound.ownership inside.0
    (omega (arith, inside.1)) in
    let fail : AllFail (ownership_rows file q) = all_fail (ownership_rows file q) codes in
    let owner : Owner = record { holder = p; reference = names.reference } in
    let at : Contains (owners file q) owner = named_owner file p q names low in
    let heads : Owner → Bool = λ o. is_head_reference o.reference.sort in
    let other : has_heads_alone file q ≡ false = list_all_at heads (owners file q) at.0 owner at.1 (ap heads at.2 ∙ names.other) in
    few_owners (has_heads_alone file q) (length (owners file q)) _ other fail.1.0

one_holder : (file : File) (p h q : ℕ) → IsSoundGraph file → p ≤ file.last → h ≤ file.last → Names file p q → Names file h q → p ≡ h
one_holder file p h q sound low_p low_h by_p by_h =
    ap (λ (o : Owner). o.holder)
    (one_member (owners file q) (record { holder = p; reference = by_p.reference }) (record { holder = h; reference = by_h.reference })
    (owned_once file p q sound low_p by_p) (named_owner file p q by_p low_p) (named_owner file h q by_h low_h))

-- Children.

distinct_targets : (test : Reference → Bool) (rs : List Reference)
    → ((r : Reference) → Contains rs r → test r ≡ true → length (filter (λ (s : Reference). s.target == r.target) rs) ≤ 1)
    → AllDistinct (map (λ (r : Reference). r.target) (filter test rs))
distinct_targets test [] few = tt
distinct_targets test (r ∷ rs) few =
    let rest : AllDistinct (map (λ (s : Reference). s.target) (filter test rs)) =
    distinct_targets test rs (λ s at passes.
    let all : length (filter (λ (t : Reference). t.target == s.target) (r ∷ rs)) ≤ 1 = few s (later_member r rs s at) passes in
    let less : length (filter (λ (t : Reference). t.target == s.target) rs) ≤ length (filter (λ (t : Reference). t.target == s.target) (r ∷ rs)) = kept_of_tail
    (λ (t : Reference). t.target == s.target) r rs in
    at_most _ _ less all) in
    elim (cases_Bool (test r)) [
      | inl passes ↦ rw passes (not_in r.target (map (λ (s : Reference). s.target) (filter test rs)) (again passes), rest)
      | inr fails ↦ rw fails rest
    ]
  where
    again : test r ≡ true → Contains (map (λ (s : Reference). s.target) (filter test rs)) r.target → ⊥
    again passes at =
        let found : (s : Reference) × Contains (filter test rs) s × (s.target ≡ r.target) = of_map (λ (s : Reference). s.target) (filter test rs) r.target at in
        let held : Contains rs found.0 × (test found.0 ≡ true) = of_filter test rs found.0 found.1 in
        let two : 2 ≤ length (filter (λ (s : Reference). s.target == r.target) (r ∷ rs)) =
        kept_twice (λ (s : Reference). s.target == r.target) r found.0 rs (eq-eqb r.target r.target refl) (eq-eqb found.0.target r.target found.2) held.0 in
        let one : length (filter (λ (s : Reference). s.target == r.target) (r ∷ rs)) ≤ 1 = few r (first_member r rs) passes in
        over _ two one

-- references of one page, with and without their holder
held_count : (p q : ℕ) (rs : List Reference)
    → length (filter (λ (r : Reference). r.target == q) rs) ≡ length (filter (λ (o : Owner). o.reference.target == q)
    (map (λ r. record { holder = p; reference = r }) rs))
held_count p q [] = refl
held_count p q (r ∷ rs) = grind (arith, held_count p q rs)

held_few : (file : File) (p q : ℕ) → p ≤ file.last → length (filter (λ (r : Reference). r.target == q) (refs file p)) ≤ length (owners file q)
unfolding owners all_references
held_few file p q low =
    subst (λ n. n ≤ length (owners file q)) (sym (held_count p q (refs file p)))
    (kept_of_part (λ (o : Owner). o.reference.target == q) (held_by file) (range_with_len 0 (file.last + 1)) p
    (in_range 0 (file.last + 1) p (omega arith) (omega arith)))

children_distinct : (file : File) (p : ℕ) → IsSoundGraph file → p ≤ file.last → AllDistinct (children_of file p)
children_distinct file p sound low =
    distinct_targets (λ (r : Reference). is_child r.sort) (refs file p) (λ r at child.
    at_most _ _ (held_few file p r.target low) (owned_once file p r.target sound low (reference_names file p r at child)))

-- Ways up by holders.

-- that many holders up from a page is another
abbrev Climbs : ℕ → File → ℕ → ℕ → Type 0
Climbs zero file x c = x ≡ c
Climbs (suc k) file x c = (h : ℕ) × (h ≤ file.last) × Names file h x × Climbs k file h c

climb_more : (k : ℕ) (file : File) (x c p : ℕ) → Climbs k file x c → p ≤ file.last → Names file p c → Climbs (suc k) file x p
climb_more zero file x c p up low names = (p, low, subst (Names file p) (sym up) names, refl)
climb_more (suc k) file x c p up low names = (up.0, up.1, up.2, climb_more k file up.0 c p up.3 low names)

children_case : (o : Option (List ℕ)) → ((cs : List ℕ) × (o ≡ Some cs)) ⊎ (o ≡ None)
children_case (Some cs) = inl (cs, refl)
children_case None = inr refl

leaf_case : (levels : ℕ) (file : File) (c x : ℕ) → children_in (page_at file c) ≡ None → Contains (leaves_in (suc levels) file c) x → c ≡ x
unfolding leaves_in
leaf_case levels file c x none at = only_member c x (subst (λ o. Contains (leaves_under (leaves_in levels file) c o) x) none at)

below_case : (levels : ℕ) (file : File) (c x : ℕ) (cs : List ℕ) → children_in (page_at file c) ≡ Some cs → Contains (leaves_in (suc levels) file c) x
    → (d : ℕ) × Contains cs d × Contains (leaves_in levels file d) x
unfolding leaves_in
below_case levels file c x cs some at = of_flat_map (leaves_in levels file) cs x (subst (λ o. Contains (leaves_under (leaves_in levels file) c o) x) some at)

no_level : (file : File) (c x : ℕ) → Contains (leaves_in zero file c) x → c ≡ x
unfolding leaves_in
no_level file c x at = only_member c x at

-- the pages right below an internal page
record IsBelow (file : File) (p : ℕ) (cs : List ℕ) : Type 0 where
  names : (c : ℕ) → Contains cs c → Names file p c
  inside : (c : ℕ) → Contains cs c → c ≤ file.last
  distinct : AllDistinct cs

is_below : (image : List ℕ) (p : ℕ) (cs : List ℕ) → IsForest image → p ≤ (file_of image).last → children_in (page_at (file_of image) p) ≡ Some cs
    → IsBelow (file_of image) p cs
is_below image p cs forest low some =
    let file : File = file_of image in
    let sound : IsSoundGraph file = sound_graph image forest.linked in
    let below : IsBelow file p (children_of file p) = record {
      names = child_names file p;
      inside = λ c at. (named_inside file p c sound.references low (child_names file p c at)).1;
      distinct = children_distinct file p sound low;
    } in
    subst (IsBelow file p) (children_are image p cs forest low some) below

-- from a leaf at or below a page holders lead up to that page
leaf_climbs : (levels : ℕ) (image : List ℕ) (c x : ℕ) → IsForest image → c ≤ (file_of image).last → Contains (leaves_in levels (file_of image) c) x
    → (k : ℕ) × Climbs k (file_of image) x c
leaf_climbs zero image c x forest low at = (zero, sym (no_level (file_of image) c x at))
leaf_climbs (suc levels) image c x forest low at =
    elim (children_case (children_in (page_at (file_of image) c))) [
      | inr none ↦ (zero, sym (leaf_case levels (file_of image) c x none at))
      | inl (cs, some) ↦
          let below : IsBelow (file_of image) c cs = is_below image c cs forest low some in
          let part : (d : ℕ) × Contains cs d × Contains (leaves_in levels (file_of image) d) x = below_case levels (file_of image) c x cs some at in
          let up : (k : ℕ) × Climbs k (file_of image) x part.0 = leaf_climbs levels image part.0 x forest (below.inside part.0 part.1) part.2 in
          (suc up.0, climb_more up.0 (file_of image) x part.0 c up.1 low (below.names part.0 part.1))
    ]

-- a page that is above another isn't below it too
no_return : (k : ℕ) (image : List ℕ) (h p : ℕ) (qs : List ℕ) → faults_in (3 ∷ 4 ∷ 5 ∷ []) image ≡ [] → p ≤ (file_of image).last → Climbs k (file_of image) h p
    → IsWayDown (file_of image) h qs → Contains qs p → ⊥
no_return zero image h p qs none low up way at = grind (arith, no_page_twice_below, is_out)
no_return (suc k) image h p qs none low up way at = no_return k image up.0 p (h ∷ qs) none low up.3 (up.2, way) (later_member h qs p at)

-- a child of a page isn't below a child of it
not_below_other : (k : ℕ) (image : List ℕ) (c d p : ℕ) → faults_in (3 ∷ 4 ∷ 5 ∷ []) image ≡ [] → p ≤ (file_of image).last → Names (file_of image) p c
    → Names (file_of image) p d → Climbs (suc k) (file_of image) c d → ⊥
not_below_other k image c d p none low names_c names_d up =
    let file : File = file_of image in
    let same : up.0 ≡ p = one_holder file up.0 p c (sound_graph image none) up.1 low up.2 names_c in
    let loop : Climbs (suc k) file p p = climb_more k file p d p (subst (λ h. Climbs k file h d) same up.3) low names_d in
    no_return k image loop.0 p (p ∷ []) none low loop.3 (loop.2, tt) (first_member p [])

-- two children of a page that are above one page are one
one_child : (j k : ℕ) (image : List ℕ) (c d p x : ℕ) → faults_in (3 ∷ 4 ∷ 5 ∷ []) image ≡ [] → p ≤ (file_of image).last
    → Names (file_of image) p c → Names (file_of image) p d → Climbs j (file_of image) x c → Climbs k (file_of image) x d → c ≡ d
one_child zero zero image c d p x none low names_c names_d up_c up_d = sym up_c ∙ up_d
one_child zero (suc k) image c d p x none low names_c names_d up_c up_d =
    absurd (not_below_other k image c d p none low names_c names_d (subst (λ v. Climbs (suc k) (file_of image) v d) up_c up_d))
one_child (suc j) zero image c d p x none low names_c names_d up_c up_d =
    absurd (not_below_other j image d c p none low names_d names_c (subst (λ v. Climbs (suc j) (file_of image) v c) up_d up_c))
one_child (suc j) (suc k) image c d p x none low names_c names_d up_c up_d =
    let same : up_d.0 ≡ up_c.0 = one_holder (file_of image) up_d.0 up_c.0 x (sound_graph image none) up_d.1 up_c.1 up_d.2 up_c.2 in
    one_child j k image c d p up_c.0 none low names_c names_d up_c.3 (subst (λ h. Climbs k (file_of image) h d) same up_d.3)

-- Leaves.

leaf_alone : (levels : ℕ) (file : File) (p : ℕ) → children_in (page_at file p) ≡ None → AllDistinct (leaves_in (suc levels) file p)
unfolding leaves_in
leaf_alone levels file p none = subst (λ o. AllDistinct (leaves_under (leaves_in levels file) p o)) (sym none) (tt, tt)

parts_distinct : (levels : ℕ) (file : File) (p : ℕ) (cs : List ℕ) → children_in (page_at file p) ≡ Some cs → AllDistinct (flat_map (leaves_in levels file) cs)
    → AllDistinct (leaves_in (suc levels) file p)
unfolding leaves_in
parts_distinct levels file p cs some distinct = subst (λ o. AllDistinct (leaves_under (leaves_in levels file) p o)) (sym some) distinct

one_distinct : (file : File) (p : ℕ) → AllDistinct (leaves_in zero file p)
unfolding leaves_in
one_distinct file p = (tt, tt)

leaves_in_distinct : (levels : ℕ) (image : List ℕ) (p : ℕ) → IsForest image → p ≤ (file_of image).last → AllDistinct (leaves_in levels (file_of image) p)
leaves_in_distinct zero image p forest low = one_distinct (file_of image) p
leaves_in_distinct (suc levels) image p forest low =
    let file : File = file_of image in
    elim (children_case (children_in (page_at file p))) [
      | inr none ↦ leaf_alone levels file p none
      | inl (cs, some) ↦
          let below : IsBelow file p cs = is_below image p cs forest low some in
          parts_distinct levels file p cs some
          (distinct_parts (leaves_in levels file) cs below.distinct (λ c at. leaves_in_distinct levels image c forest (below.inside c at))
          (λ c d x at_c at_d in_c in_d.
          let up_c : (k : ℕ) × Climbs k file x c = leaf_climbs levels image c x forest (below.inside c at_c) in_c in
          let up_d : (k : ℕ) × Climbs k file x d = leaf_climbs levels image d x forest (below.inside d at_d) in_d in
          one_child up_c.0 up_d.0 image c d p x forest.linked low (below.names c at_c) (below.names d at_d) up_c.1 up_d.1))
    ]

pub no_leaf_twice : NoLeafTwice
no_leaf_twice image levels p forest low = leaves_in_distinct levels image p forest low
