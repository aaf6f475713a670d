-- Filled leaves with levels over them, of which the root stands where the first leaf stood, are a tree that is laid.
use Rattle.std.proofs.Common.{◌≡◌, ℕ, suc, ◌+◌, ◌-◌, ◌<◌, ◌≤◌, Bool, true, false, List, [], ◌∷◌, ◌++◌, length, map, drop, arith, refl, sym, ◌∙◌, ap, subst, inl, inr, true≢false, ◌||◌}
use Rattle.bdb_mkleaves.proofs.Common.{All, Contains, flat_map, range_with_len, cases_Bool, cases_eq, cases_lt, false_from_ne_true, or_left, or_right, or_cases, flat_map-append, Contains-append_cases}
use Rattle.bdb_mkleaves.proofs.Common.{Contains-append_left, Contains-append_right, page_so_far, header_in, page_at, page_code, first_member, in_range, later_member, member_cases, of_range}
use Rattle.bdb_mkleaves.proofs.Common.{only_member, IsLater, IsSamePage, Ascend, ContentFits, content_pages, IsBranch, between, of_list, between_is, is_between, same_test, above_low, ascend_once}
use Rattle.bdb_mkleaves.proofs.Common.{count, count-append, ascend_strictly, Node, is_of, Built, bytes_of, file_so_far, AllStand, all_contents, rest_of, FinishedTreesAreLaid, FinishedTreesKeepPages}
use Rattle.bdb_mkleaves.proofs.Common.{entries_on, held_by_leaves, inner_of, is_laid, tree_pages, contents_of, LinkedFrom, first_leaf, numbers_of, second_leaf, LeafUnits, Placed, StandsPlaced}
use Rattle.bdb_mkleaves.proofs.Common.{entries_of, pages_of, placed_on, levels_to, LeafType}
use Rattle.bdb_law_levels.specs.Roots.{pages_of as level_pages}
use Rattle.bdb_mkleaves.proofs.FinishLemmas.{but_are, is_but, pages_but}
use Rattle.bdb_mkleaves.proofs.FinishedLemmas.{first_two, moved_from, moved_pages, others_of}
use Rattle.bdb_mkleaves.proofs.GrownLemmas.{all_joined, as_many, contents_held, heads_among, laid_leaves, pages_named, rise_on, zip_all, zip_pages}
use Rattle.bdb_mkleaves.proofs.LaterLemmas.{later_chain, later_fewer}
use Rattle.bdb_mkleaves.proofs.NumberedLemmas.{AreNumbered, are_numbered}
use Rattle.bdb_mkleaves.proofs.RestLemmas.{is_one, is_rest, rest_is}
use Rattle.bdb_mkleaves.proofs.RunLemmas.{later_before}
use Rattle.bdb_mkleaves.proofs.SumLemmas.{sum_stands}

-- one is moved from the end to the front
counts_moved : (e p n : ℕ) (others range : List ℕ) → count e ((p ∷ others) ++ (n ∷ range)) ≤ 1 → count e ((n ∷ others) ++ (range ++ (p ∷ []))) ≤ 1
counts_moved e p n others range once = grind (arith, count-append)

pub finished_trees_are_laid : FinishedTreesAreLaid
finished_trees_are_laid leaves old new counted before closed units root filled on g is_counted later = (
  record {
    no_queue = is_counted.no_queue;
    leaves = laid_leaves type mid g 0 numbers groups linked
        (λ p at.
        let here = leaf_page p at in
        subst (λ page. IsSamePage page (page_at g p)) (page_so_far mid p here.1)
        (later_mid.same p (is_but (between before n) first p (is_between before n p here.0 here.1) here.2)))
        (all_joined (StandsPlaced type g) (λ (leaf : LeafUnits). leaf.units) placed
        (subst (All (StandsPlaced type g)) (sym units_are) stand.placed));
    inside = λ p at. elim (Contains-append_cases (pages_of placed) (level_pages above) p at) [
      | inl leaf ↦
          let here = leaf_page p (subst (λ ps. Contains ps p) pages_are leaf) in
          let low = filled.low in
          let up = later.grows in
          (omega (arith, low, here.0), omega (arith, here.1, grows, up), here.3)
      | inr level ↦
          let here = level_page p level in
          let low = filled.low in let up = later.grows in (omega (arith, low, here.0), omega (arith, here.1, up), here.2)
    ];
    apart = λ p. subst (λ ps. count p ps ≤ 1) (sym all_pages)
        (counts_moved p first m others (range_with_len (m + 1) (b - n))
        (ascend_once 0 p ((first ∷ others) ++ range_with_len m (suc (b - n)))
        (rise_on 0 m (suc (b - n)) (first ∷ others) (subst (Ascend 0) was known.rise) (omega (arith, filled.low, start))
        (λ q at. (known.within q (subst (λ ps. Contains ps q) (sym was) at)).1))));
    fit = all_joined (ContentFits g) (λ (leaf : LeafUnits). contents_of type (entries_on leaf)) placed
        (subst (All (ContentFits g)) contents stand.on.fit);
    held = subst (Ascend 0) names (ascend_strictly 0 before m _ filled.low filled.ascend);
    branch = branch;
    nodes_are = on.nodes_are;
    some = inl on.some;
    summed = λ several.
        let there : first < b = omega (arith, (known.within first first_in).1, more, grows) in
        ap (λ p. (header_in (page_at g p)).previous) on.tower.top_is
        ∙ (sum_stands (inner_of type) new g first there on.tower.root_type
        (later.same first (is_between before b first (known.within first first_in).0 there)) ∙ on.tower.summed);
    tower = on.tower.tower g (between before b) (λ p low high. is_between before b p (omega (arith, low, start, more)) high)
        (is_between before b first (known.within first first_in).0 (omega (arith, (known.within first first_in).1, more, grows)))
        (λ h at.
        let here = rest_is before m (numbers_of leaves) h
        (branch.grove.entered h (heads_among (inner_of type) type placed on.nodes h refl on.nodes_are at)) in
        is_between before b h here.0 (omega (arith, here.1, more, grows)))
        later;
  },
  λ p. same_test (is_laid rest placed above p) (between before b p)
      (λ is. elim (or_cases (rest p || is_of (pages_of placed) p) (is_of (level_pages above) p) is) [
        | inl below ↦ elim (or_cases (rest p) (is_of (pages_of placed) p) below) [
          | inl one ↦ let here = rest_is before m (numbers_of leaves) p one in is_between before b p here.0 (omega (arith, here.1, more, grows))
          | inr leaf ↦
              let here = leaf_page p (subst (λ ps. Contains ps p) pages_are (of_list (pages_of placed) p leaf)) in
              is_between before b p here.0 (omega (arith, here.1, grows))
        ]
        | inr level ↦ let here = level_page p (of_list (level_pages above) p level) in is_between before b p here.0 here.1
      ])
      (λ is. laid_page p (between_is before b p is)),
)
  where
    type : LeafType
    type = leaves.leaf_type

    groups : List (List Placed)
    groups = closed ++ (units ∷ [])

    placed : List LeafUnits
    placed = placed_on on.next closed units

    mid : Built
    mid = on.between

    m : ℕ
    m = length old.pages

    n : ℕ
    n = length mid.pages

    b : ℕ
    b = length new.pages

    first : ℕ
    first = first_leaf leaves

    others : List ℕ
    others = others_of leaves

    numbers : List ℕ
    numbers = numbers_of on.next

    above : List (List Node)
    above = levels_to on.tower.levels on.tower.top

    rest : ℕ → Bool
    rest = rest_of before leaves old

    grows : n ≤ b
    grows = on.tower.grows

    more : n ≡ m + 1
    more = on.moved.count

    known : AreNumbered leaves old before closed units
    known = are_numbered leaves old before closed units filled

    was : numbers_of leaves ≡ first ∷ others
    was = (moved_pages leaves on.next old mid on.several on.moved).0

    now : numbers ≡ m ∷ others
    now = (moved_pages leaves on.next old mid on.several on.moved).1

    first_in : Contains (numbers_of leaves) first
    first_in = subst (λ ps. Contains ps first) (sym was) (first_member first others)

    start : before < m
    start = let within = known.within first first_in in omega (arith, within.0, within.1)

    not_rest : (p : ℕ) → Contains (numbers_of leaves) p → rest p ≡ false
    not_rest p at = false_from_ne_true (rest p)
        (λ is. true≢false (sym (is_one (numbers_of leaves) p at) ∙ (rest_is before m (numbers_of leaves) p is).2))

    beyond_rest : (p : ℕ) → m ≤ p → rest p ≡ false
    beyond_rest p low = false_from_ne_true (rest p) (λ is. let here = rest_is before m (numbers_of leaves) p is in omega (arith, here.1, low))

    leaf_page : (p : ℕ) → Contains numbers p → (before ≤ p) × (p < n) × (p ≡ first → ⊥) × (rest p ≡ false)
    leaf_page p at = elim (member_cases m others p (subst (λ ps. Contains ps p) now at)) [
      | inl here ↦ (
        omega (arith, here, start),
        omega (arith, here, more),
        (λ e. let low = (known.within first first_in).1 in omega (arith, e, here, low)),
        beyond_rest p (omega (arith, here)),
      )
      | inr later ↦
          let leaf : Contains (numbers_of leaves) p = subst (λ ps. Contains ps p) (sym was) (later_member first others p later) in
          let within = known.within p leaf in
          let rise : Ascend 0 (first ∷ others) = subst (Ascend 0) was known.rise in
          let up : first < p = above_low first others p rise.1 later in
          (within.0, omega (arith, within.1, more), (λ e. omega (arith, e, up)), not_rest p leaf)
    ]

    all_levels : level_pages above ≡ range_with_len n (b - n) ++ (first ∷ [])
    all_levels = flat_map-append (map (λ (node : Node). node.page)) on.tower.levels ((on.tower.top ∷ []) ∷ [])
        ∙ (ap (λ ps. ps ++ (on.tower.top.page ∷ [])) on.tower.numbers ∙ ap (λ p. range_with_len n (b - n) ++ (p ∷ [])) on.tower.top_is)

    level_page : (p : ℕ) → Contains (level_pages above) p → (before ≤ p) × (p < b) × (rest p ≡ false)
    level_page p at = elim (Contains-append_cases (range_with_len n (b - n)) (first ∷ []) p (subst (λ ps. Contains ps p) all_levels at)) [
      | inl range ↦
          let is = of_range n (b - n) p range in
          (omega (arith, is.0, start, more), omega (arith, is.0, is.1, grows), beyond_rest p (omega (arith, is.0, more)))
      | inr root ↦
          let same : first ≡ p = only_member first p root in
          let leaf : Contains (numbers_of leaves) p = subst (Contains (numbers_of leaves)) same first_in in
          let within = known.within p leaf in
          (within.0, omega (arith, within.1, more, grows), not_rest p leaf)
    ]

    linked : LinkedFrom type mid 0 numbers (map (flat_map entries_of) groups) 0
    linked = moved_from leaves on.next old mid before closed units filled on.moved

    many : length numbers ≡ length groups
    many = as_many type mid 0 numbers groups 0 linked

    pages_are : pages_of placed ≡ numbers
    pages_are = zip_pages numbers groups many

    units_are : flat_map (λ (leaf : LeafUnits). leaf.units) placed ≡ flat_map (λ leaf. leaf) closed ++ units
    units_are = zip_all numbers closed units many

    later_mid : IsLater (pages_but (between before n) first) (file_so_far mid) g
    later_mid = later_chain (file_so_far mid) (file_so_far new) g (pages_but (between before n) first)
        (on.tower.later (pages_but (between before n) first)
        (λ p is. let (there, other) = but_are (between before n) first p is in ((between_is before n p there).1, other)))
        (later_fewer (file_so_far new) g (pages_but (between before n) first) (between before b)
        (λ p is.
        let (there, other) = but_are (between before n) first p is in
        let within = between_is before n p there in is_between before b p within.0 (omega (arith, within.1, grows))) later)

    apart_from : (p q : ℕ) → rest p ≡ true → Contains (numbers_of leaves) q → p ≡ q → ⊥
    apart_from p q is at same = true≢false (sym is ∙ not_rest p (subst (Contains (numbers_of leaves)) (sym same) at))

    second_in : Contains (numbers_of leaves) (second_leaf leaves)
    second_in = subst (λ ps. Contains ps (second_leaf leaves)) (sym was)
        (later_member first others (second_leaf leaves) (first_member (second_leaf leaves) (drop 2 (numbers_of leaves))))

    later_rest : IsLater rest (file_so_far old) g
    later_rest = later_before old mid rest (pages_but (between before n) first) g on.moved.order (omega (arith, more))
        (λ p is.
        let here = rest_is before m (numbers_of leaves) p is in
        is_but (between before n) first p (is_between before n p here.0 (omega (arith, here.1, more))) (apart_from p first is first_in))
        (λ p is.
        let here = rest_is before m (numbers_of leaves) p is in
        (here.1, on.moved.same p here.1 (apart_from p first is first_in) (apart_from p (second_leaf leaves) is second_in)))
        later_mid

    stand : AllStand type g rest closed units
    stand = filled.stands g is_counted later_rest

    contents : all_contents type closed units ≡ flat_map (λ (leaf : LeafUnits). contents_of type (entries_on leaf)) placed
    contents = contents_held type placed (flat_map (λ leaf. leaf) closed ++ units) units_are

    names : flat_map content_pages (all_contents type closed units) ≡ held_by_leaves type placed
    names = ap (flat_map content_pages) contents ∙ pages_named type placed

    branch : IsBranch g rest (held_by_leaves type placed)
    branch = subst (IsBranch g rest) names stand.on.branch

    all_pages : tree_pages placed above ≡ (m ∷ others) ++ (range_with_len (m + 1) (b - n) ++ (first ∷ []))
    all_pages = ap (λ ps. ps ++ level_pages above) (pages_are ∙ now)
        ∙ (ap (λ ps. (m ∷ others) ++ ps) all_levels ∙ ap (λ q. (m ∷ others) ++ (range_with_len q (b - n) ++ (first ∷ []))) more)

    laid_page : (p : ℕ) → (before ≤ p) × (p < b) → is_laid rest placed above p ≡ true
    laid_page p within = elim (cases_lt p n) [
      | inl below ↦ elim (cases_eq p first) [
        | inl top ↦ level p (Contains-append_right (range_with_len n (b - n)) (first ∷ []) p
            (subst (Contains (first ∷ [])) (sym top) (first_member first [])))
        | inr other ↦ or_left (rest p || is_of (pages_of placed) p) (is_of (level_pages above) p)
            (elim (cases_lt p m) [
              | inr over ↦
                  let end : m ≡ p = omega (arith, over, below, more) in
                  leaf p (subst (λ q. Contains (m ∷ others) q) end (first_member m others))
              | inl within_old ↦ elim (cases_Bool (is_of (numbers_of leaves) p)) [
                | inl is ↦ elim (member_cases first others p (subst (λ ps. Contains ps p) was (of_list (numbers_of leaves) p is))) [
                  | inl same ↦ absurd (other (sym same))
                  | inr later ↦ leaf p (later_member m others p later)
                ]
                | inr none ↦ or_left (rest p) (is_of (pages_of placed) p)
                    (is_rest before m (numbers_of leaves) p within.0 within_old none)
              ]
            ])
      ]
      | inr beyond ↦ level p (Contains-append_left (range_with_len n (b - n)) (first ∷ []) p
          (in_range n (b - n) p beyond (omega (arith, beyond, within.1))))
    ]
      where
        leaf : (p : ℕ) → Contains (m ∷ others) p → (rest p || is_of (pages_of placed) p) ≡ true
        leaf p at = or_right (rest p) (is_of (pages_of placed) p)
            (is_one (pages_of placed) p (subst (λ ps. Contains ps p) (sym (pages_are ∙ now)) at))

        level : (p : ℕ) → Contains (range_with_len n (b - n) ++ (first ∷ [])) p → is_laid rest placed above p ≡ true
        level p at = or_right (rest p || is_of (pages_of placed) p) (is_of (level_pages above) p)
            (is_one (level_pages above) p (subst (λ ps. Contains ps p) (sym all_levels) at))

-- The pages that stood.

pub finished_trees_keep_pages : FinishedTreesKeepPages
finished_trees_keep_pages leaves old new counted closed units root on =
    let mid : Built = on.between in
    let more : length mid.pages ≡ length old.pages + 1 = on.moved.count in
    let two : Contains (numbers_of leaves) (first_leaf leaves) × Contains (numbers_of leaves) (second_leaf leaves) = first_two leaves on.several in
    let apart : (p q : ℕ) → is_of (numbers_of leaves) p ≡ false → Contains (numbers_of leaves) q → p ≡ q → ⊥ = λ p q none at e.
    true≢false (sym (is_one (numbers_of leaves) p (subst (Contains (numbers_of leaves)) (sym e) at)) ∙ none) in
    let same : (p : ℕ) → p < length old.pages → is_of (numbers_of leaves) p ≡ false → bytes_of mid p ≡ bytes_of old p = λ p low none.
    on.moved.same p low (apart p (first_leaf leaves) none two.0) (apart p (second_leaf leaves) none two.1) in (
      λ pages among.
          later_before old mid pages pages (file_so_far new) on.moved.order (omega (arith, more)) (λ p is. is)
          (λ p is. let at = among p is in (at.0, same p at.0 at.1))
          (on.tower.later pages (λ p is. let at = among p is in (omega (arith, at.0, more), apart p (first_leaf leaves) at.1 two.0))),
      λ p low none.
          on.tower.form_kept p (omega (arith, low, more)) (apart p (first_leaf leaves) none two.0)
          ∙ (ap (λ o. page_code o p (bytes_of mid p)) on.moved.order ∙ ap (page_code old.order p) (same p low none)),
    )
