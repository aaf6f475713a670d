-- A leaf that is moved behind all pages.
use Rattle.std.proofs.Common.{◌≡◌, ℕ, ◌+◌, ◌<◌, ◌≤◌, ◌^◌, true, List, [], ◌∷◌, ◌++◌, length, drop, get_or, replicate, set, arith, refl, sym, ◌∙◌, ap, subst, length-append, length-set, Contains}
use Rattle.bdb_mkleaves.proofs.Common.{get_or-set_other, get_or_append_left, get_or_push, length-replicate, is_page_size, first_member, later_member, size_bounds, Ascend, above_low, AreWhole, Built}
use Rattle.bdb_mkleaves.proofs.Common.{bytes_of, with_copy, with_page, written_over, IsBegunOn, IsBegun, more_whole, page_whole, written_whole, Entry, HoldsEntries, HoldsEntriesOn, with_field}
use Rattle.bdb_mkleaves.proofs.Common.{AreLeaves, AreSomeLeaves, KeepsOthers, LeavesFrom, first_of, last_of, IsFirstMoved, IsMoved, LinkedFrom, first_leaf, numbers_of, second_leaf, LeafType, Leaves}
use Rattle.bdb_mkleaves.proofs.EntryLemmas.{bytes_with}
use Rattle.bdb_mkleaves.proofs.LeafLemmas.{length-field, numbered, previous_set}
use Rattle.bdb_mkleaves.proofs.LeavesLemmas.{at_most_last, last_closed, leaf_closed, leaf_stays, page_written}

-- A page that is moved.

pub blanked : (old : Built) (p : ℕ) (page written : List ℕ) → p < length old.pages → AreWhole old → page ≡ bytes_of old p
    → written ≡ replicate (length page) 0 → written_over old p written ≡ with_page old p (replicate old.size 0)
blanked old p page written low whole lent is = grind (arith, written_whole, length-replicate)

-- the pages with the copy that has its number
abbrev with_numbered : Built → ℕ → Built
with_numbered old p = with_page (with_copy old p) (length old.pages) (with_field old.order (bytes_of old p) 8 (length old.pages))

pub numbered_is : (old copy new : Built) (p q : ℕ) → copy ≡ with_copy old p → q ≡ length old.pages
    → new ≡ with_page copy q (with_field copy.order (bytes_of copy q) 8 q) → new ≡ with_numbered old p
numbered_is old copy new p q copied at_end is = grind (arith, get_or_push)

more_pages : (old : Built) (p : ℕ) → length (with_copy old p).pages ≡ length old.pages + 1
more_pages old p = length-append old.pages (bytes_of old p ∷ [])

pub numbered_whole : (old : Built) (p : ℕ) → AreWhole old → is_page_size old.size ≡ true → p < length old.pages → AreWhole (with_numbered old p)
numbered_whole old p whole legal low =
    let size : length (bytes_of old p) ≡ old.size = whole p low in
    page_whole (with_copy old p) (length old.pages) (with_field old.order (bytes_of old p) 8 (length old.pages))
    (more_whole old (bytes_of old p) whole size)
    (omega (arith, more_pages old p))
    (length-field old.order (bytes_of old p) 8 (length old.pages) (omega arith) (omega (arith, size, (size_bounds old.size legal).0)) ∙ size)

pub moved : (old numbers new : Built) (p q : ℕ) → AreWhole old → is_page_size old.size ≡ true → p < length old.pages → length old.pages < 2 ^ 21
    → q ≡ length old.pages → numbers ≡ with_numbered old p → new ≡ with_page numbers p (replicate numbers.size 0) → IsMoved p q old new
moved old numbers new p q whole legal low few at_end is blank =
    let n : ℕ = length old.pages in
    let one : Built = with_copy old p in
    let two : Built = with_numbered old p in
    let zeros : List ℕ = replicate old.size 0 in
    let all : Built = with_page two p zeros in
    let page : List ℕ = with_field old.order (bytes_of old p) 8 n in
    let more : length one.pages ≡ n + 1 = more_pages old p in
    let same_count : length two.pages ≡ length one.pages = length-set one.pages n page in
    let bytes : bytes_of all n ≡ page =
    get_or-set_other two.pages p n zeros [] (λ e. omega (arith, e, low)) ∙ bytes_with one n page (omega (arith, more)) in
    let of_all : IsMoved p n old all = record {
      behind = refl;
      count = length-set two.pages p zeros ∙ (same_count ∙ more);
      blank = bytes_with two p zeros (omega (arith, low, same_count, more));
      bytes = bytes;
      kept = record {
        size = refl;
        order = refl;
        grows = omega (arith, length-set two.pages p zeros, same_count, more);
        same = λ r under other.
            get_or-set_other two.pages p r zeros [] other
            ∙ (get_or-set_other one.pages n r page [] (λ e. omega (arith, e, under))
            ∙ get_or_append_left old.pages (bytes_of old p ∷ []) [] r under);
      };
      whole = page_whole two p zeros (numbered_whole old p whole legal low) (omega (arith, low, same_count, more)) (length-replicate old.size 0);
      holds = λ type previous next entries hold.
          subst (λ bs. HoldsEntries type old.order bs n previous next entries) (sym bytes)
          (numbered type old.order (bytes_of old p) p previous next n entries (omega (arith, few)) hold);
    } in
    subst (IsMoved p q old) (sym (blank ∙ ap (λ (b : Built). with_page b p (replicate b.size 0)) is))
    (subst (λ k. IsMoved p k old all) (sym at_end) of_all)

-- The first of several leaves.

pub any_order : (type : LeafType) (built : Built) (previous : ℕ) (ps : List ℕ) (closed : List (List Entry)) (beyond : ℕ)
    → LeavesFrom type built previous ps closed beyond → LinkedFrom type built previous ps closed beyond
any_order type built previous [] [] beyond hold = tt
any_order type built previous [] (entries ∷ others) beyond hold = hold
any_order type built previous (p ∷ ps) [] beyond hold = hold
any_order type built previous (p ∷ ps) (entries ∷ others) beyond (up, holds, rest) = (holds, any_order type built p ps others beyond rest)

-- leaves whose pages stay
pub linked_kept : (type : LeafType) (old new : Built) (previous : ℕ) (ps : List ℕ) (closed : List (List Entry)) (beyond : ℕ) → new.order ≡ old.order
    → ((p : ℕ) → Contains ps p → bytes_of new p ≡ bytes_of old p) → LinkedFrom type old previous ps closed beyond
    → LinkedFrom type new previous ps closed beyond
linked_kept type old new previous [] [] beyond order same hold = tt
linked_kept type old new previous [] (entries ∷ others) beyond order same hold = hold
linked_kept type old new previous (p ∷ ps) [] beyond order same hold = hold
linked_kept type old new previous (p ∷ ps) (entries ∷ others) beyond order same (holds, rest) = (
  leaf_stays type old new p previous (first_of ps beyond) entries order (same p (first_member p ps)) holds,
  linked_kept type old new p ps others beyond order (λ q among. same q (later_member p ps q among)) rest,
)

pub leaves_rise : (type : LeafType) (built : Built) (previous : ℕ) (ps : List ℕ) (closed : List (List Entry)) (beyond : ℕ)
    → LeavesFrom type built previous ps closed beyond → Ascend previous ps
leaves_rise type built previous [] closed beyond hold = tt
leaves_rise type built previous (p ∷ ps) [] beyond hold = absurd hold
leaves_rise type built previous (p ∷ ps) (entries ∷ others) beyond (up, holds, rest) = (up, leaves_rise type built p ps others beyond rest)

-- what is known of several leaves: the page of the first, that of the second, and those of the others
record AreSeveral (built : Built) (p q : ℕ) (ps : List ℕ) : Type 0 where
  rise : Ascend p (q ∷ ps)
  there : (r : ℕ) → Contains (q ∷ ps) r → r < length built.pages
  begun : IsBegunOn built q

are_several : (type : LeafType) (built : Built) (p q : ℕ) (ps : List ℕ) (all : List (List Entry)) → LeavesFrom type built 0 (p ∷ q ∷ ps) all 0
    → last_of q ps < length built.pages → AreSeveral built p q ps
are_several type built p q ps [] hold under = absurd hold
are_several type built p q ps (first ∷ []) (low, here, rest) under = absurd rest
are_several type built p q ps (first ∷ second ∷ others) (low, here, rest) under =
    let most = at_most_last type built p (q ∷ ps) (second ∷ others) 0 rest in
    record {
      rise = leaves_rise type built p (q ∷ ps) (second ∷ others) 0 rest;
      there = λ r among. let upper = most.1 r among in omega (arith, upper, under);
      begun = rest.1.begun;
    }

leaves_linked : (type : LeafType) (old one new : Built) (p q n : ℕ) (ps : List ℕ) (all : List (List Entry))
    → LeavesFrom type old 0 (p ∷ q ∷ ps) all 0
    → AreSeveral old p q ps → IsMoved p n old one → KeepsOthers q one new
    → ((before next : ℕ) (entries : List Entry) → HoldsEntriesOn type one q before next entries → HoldsEntriesOn type new q n next entries)
    → LinkedFrom type new 0 (n ∷ q ∷ ps) all 0
leaves_linked type old one new p q n ps [] hold several moves keeps follows = absurd hold
leaves_linked type old one new p q n ps (first ∷ []) (low, here, rest) several moves keeps follows = absurd rest
leaves_linked type old one new p q n ps (first ∷ second ∷ others) (low, here, (up, next, rest)) several moves keeps follows =
    let behind : n ≡ length old.pages = moves.behind in
    let count : length one.pages ≡ length old.pages + 1 = moves.count in
    let under : q < length old.pages = several.there q (first_member q ps) in (
      leaf_stays type one new n 0 q first keeps.order (keeps.same n (omega (arith, behind, count)) (λ e. omega (arith, e, behind, under)))
          (moves.holds type 0 q first here),
      (
        follows p (first_of ps 0) second
            (leaf_stays type old one q p (first_of ps 0) second moves.kept.order (moves.kept.same q under (λ e. omega (arith, e, up))) next),
        linked_kept type old new q ps others 0 (keeps.order ∙ moves.kept.order)
            (λ r among.
            let after : q < r = above_low q ps r several.rise.1 among in
            let below : r < length old.pages = several.there r (later_member q ps r among) in
            keeps.same r (omega (arith, below, count)) (λ e. omega (arith, e, after)) ∙ moves.kept.same r below (λ e. omega (arith, e, after, up)))
            (any_order type old q ps others 0 rest),
      ),
    )

-- the pages of the leaves after the second
abbrev later_leaves : Leaves → List ℕ
later_leaves leaves = drop 2 (numbers_of leaves)

-- of several leaves there are a first and a second, whatever the number of the first
pub two_leaves : (items : List ℕ) (last n : ℕ) → 1 ≤ length items
    → (items ++ (last ∷ []) ≡ first_of items last ∷ first_of (drop 1 items) last ∷ drop 2 (items ++ (last ∷ [])))
    × (set items 0 n ++ (last ∷ []) ≡ n ∷ first_of (drop 1 items) last ∷ drop 2 (items ++ (last ∷ [])))
two_leaves [] last n some = absurd (omega (arith, some))
two_leaves (p ∷ []) last n some = (refl, refl)
two_leaves (p ∷ q ∷ qs) last n some = (refl, refl)

-- all of them, the last one too
all_leaves : (leaves : Leaves) (built : Built) (closed : List (List Entry)) (entries : List Entry) → 1 ≤ length leaves.closed.items
    → AreLeaves leaves built closed entries
    → LeavesFrom leaves.leaf_type built 0 (first_leaf leaves ∷ second_leaf leaves ∷ later_leaves leaves) (closed ++ (entries ∷ [])) 0
all_leaves leaves built closed entries some hold = grind (arith, two_leaves, leaf_closed)

several_leaves : (leaves : Leaves) (built : Built) → AreSomeLeaves leaves built → 1 ≤ length leaves.closed.items
    → AreSeveral built (first_leaf leaves) (second_leaf leaves) (later_leaves leaves)
several_leaves leaves built some several =
    let is = (two_leaves leaves.closed.items leaves.last 0 several).0 in
    let last : last_of (second_leaf leaves) (later_leaves leaves) ≡ leaves.last =
    sym (ap (last_of 0) is) ∙ last_closed 0 leaves.closed.items leaves.last in
    let there = some.hold.there in
    are_several leaves.leaf_type built (first_leaf leaves) (second_leaf leaves) (later_leaves leaves) (some.closed ++ (some.entries ∷ []))
    (all_leaves leaves built some.closed some.entries several some.hold) (omega (arith, last, there))

-- the first page of several is read
first_is : (items : List ℕ) (root beyond : ℕ) → root ≡ get_or items 0 root → 1 ≤ length items → root ≡ first_of items beyond
first_is [] root beyond is some = absurd (omega (arith, some))
first_is (p ∷ ps) root beyond is some = is

pub first_there : (leaves : Leaves) (built : Built) (root : ℕ) → AreSomeLeaves leaves built → 1 ≤ length leaves.closed.items
    → root ≡ get_or leaves.closed.items 0 root → root < length built.pages
first_there leaves built root some several read =
    let known = several_leaves leaves built some several in
    let rise : first_leaf leaves < second_leaf leaves = known.rise.0 in
    let there : second_leaf leaves < length built.pages =
    known.there (second_leaf leaves) (first_member (second_leaf leaves) (later_leaves leaves)) in
    omega (arith, first_is leaves.closed.items root leaves.last read several, rise, there)

-- the second one stands after the first is moved
pub second_stands : (leaves : Leaves) (old one : Built) (root second n : ℕ) → AreSomeLeaves leaves old → 1 ≤ length leaves.closed.items
    → root ≡ get_or leaves.closed.items 0 root → second ≡ second_leaf leaves → IsMoved root n old one
    → (second < length one.pages) × IsBegunOn one second
second_stands leaves old one root second n some several read is moves =
    let q : ℕ = second_leaf leaves in
    let known = several_leaves leaves old some several in
    let rise : first_leaf leaves < q = known.rise.0 in
    let under : q < length old.pages = known.there q (first_member q (later_leaves leaves)) in
    let count : length one.pages ≡ length old.pages + 1 = moves.count in
    let here : bytes_of one q ≡ bytes_of old q =
    moves.kept.same q under (λ e. omega (arith, e, rise, first_is leaves.closed.items root leaves.last read several)) in (
      omega (arith, is, under, count),
      subst (IsBegunOn one) (sym is)
          (subst (λ o. IsBegun o (bytes_of one q)) (sym moves.kept.order) (subst (IsBegun old.order) (sym here) known.begun)),
    )

pub first_moved : (leaves next : Leaves) (old one new : Built) (root second n : ℕ) → is_page_size old.size ≡ true → AreSomeLeaves leaves old
    → 1 ≤ length leaves.closed.items → n < 2 ^ 32 → root ≡ get_or leaves.closed.items 0 root → second ≡ second_leaf leaves → IsMoved root n old one
    → new ≡ with_page one second (with_field one.order (bytes_of one second) 12 n)
    → next.leaf_type ≡ leaves.leaf_type → next.closed.items ≡ set leaves.closed.items 0 n → next.last ≡ leaves.last
    → IsFirstMoved leaves next old new
first_moved leaves next old one new root second n legal some several fits read second_is move writes type numbers last =
    let t : LeafType = leaves.leaf_type in
    let p : ℕ = first_leaf leaves in
    let q : ℕ = second_leaf leaves in
    let page : List ℕ = with_field one.order (bytes_of one q) 12 n in
    let moves : IsMoved p n old one = subst (λ r. IsMoved r n old one) (first_is leaves.closed.items root leaves.last read several) move in
    let is : new ≡ with_page one q page = writes ∙ ap (λ r. with_page one r (with_field one.order (bytes_of one r) 12 n)) second_is in
    let ps : List ℕ = later_leaves leaves in
    let ends : numbers_of next ≡ n ∷ q ∷ ps =
    ap (λ l. next.closed.items ++ (l ∷ [])) last
    ∙ (ap (λ ns. ns ++ (leaves.last ∷ [])) numbers ∙ (two_leaves leaves.closed.items leaves.last n several).1) in
    let known = several_leaves leaves old some several in
    let rise : p < q = known.rise.0 in
    let under : q < length old.pages = known.there q (first_member q ps) in
    let behind : n ≡ length old.pages = moves.behind in
    let count : length one.pages ≡ length old.pages + 1 = moves.count in
    let low : q < length one.pages = omega (arith, under, count) in
    let size : one.size ≡ old.size = moves.kept.size in
    let order : one.order ≡ old.order = moves.kept.order in
    let keeps : KeepsOthers q one new = page_written one new q page is in
    let here : bytes_of one q ≡ bytes_of old q = moves.kept.same q under (λ e. omega (arith, e, rise)) in
    let long : length page ≡ one.size =
    length-field one.order (bytes_of one q) 12 n (omega arith) (omega (arith, moves.whole q low, size, (size_bounds old.size legal).0))
    ∙ moves.whole q low in
    record {
      type = type;
      numbers = numbers ∙ ap (set leaves.closed.items 0) behind;
      last = last;
      size = keeps.size ∙ size;
      order = keeps.order ∙ order;
      whole = subst AreWhole (sym is) (page_whole one q page moves.whole low long);
      count = ap (λ (b : Built). length b.pages) is ∙ (length-set one.pages q page ∙ count);
      blank = keeps.same p (omega (arith, rise, low)) (λ e. omega (arith, e, rise)) ∙ moves.blank;
      moved = ap (bytes_of new) (sym behind)
          ∙ (keeps.same n (omega (arith, behind, count)) (λ e. omega (arith, e, behind, under))
          ∙ (moves.bytes ∙ ap (with_field old.order (bytes_of old p) 8) behind));
      second = ap (λ (b : Built). bytes_of b q) is
          ∙ (bytes_with one q page low
          ∙ (ap (λ o. with_field o (bytes_of one q) 12 n) order
          ∙ (ap (λ bs. with_field old.order bs 12 n) here ∙ ap (with_field old.order (bytes_of old q) 12) behind)));
      same = λ r below no_first no_second. keeps.same r (omega (arith, below, count)) no_second ∙ moves.kept.same r below no_first;
      rise = subst (λ ns. Ascend p (drop 1 ns)) (sym ends) known.rise;
      below = λ r among. known.there r (subst (λ ns. Contains (drop 1 ns) r) ends among);
      hold = λ closed entries hold.
          let all : List (List Entry) = closed ++ (entries ∷ []) in
          subst (λ u. LinkedFrom u new 0 (numbers_of next) all 0) (sym type)
          (subst (λ ns. LinkedFrom t new 0 ns all 0) (sym ends)
          (leaves_linked t old one new p q n ps all (all_leaves leaves old closed entries several hold) known moves keeps
          (previous_set t one new q n low fits is)));
    }
