-- How many records come before the leaves of a recno.
use Rattle.std.proofs.Common.{◌≡◌, ◌⊎◌, ℕ, zero, suc, ◌+◌, ◌-◌, ◌≤◌, Bool, true, false, cond, List, [], ◌∷◌, ◌++◌, map, length, ap, ◌∙◌}
use Rattle.std.proofs.Common.{arith, refl, sym, subst, inl, inr, append_assoc, length-append}
use Rattle.std.specs.Prelude.{◌==◌, ◌&&◌, ◌||◌, not, Option, Some, None}
use Rattle.std.specs.List.{Contains, filter, flat_map, list_any}
use Rattle.std.specs.Option.{is_some, option_map, unwrap_or}
use Rattle.std.proofs.lemmas.Grind.{flat_map-append}
use Rattle.std.proofs.lemmas.List.Elements.{Contains-append_left, Contains-append_right}
use Rattle.std.proofs.lemmas.List.Folds.{flat_map-map}
use Rattle.std.proofs.lemmas.Bool.{cases_lt, eq-eqb, eqb-true, not-false}
use Rattle.bdb_law_whole.specs.of_graph.Forest.{AllDistinct, NotIn}
use Rattle.bdb_law_whole.specs.of_format.declared.metadata.BtreeMeta.{BtreeMeta}
use Rattle.bdb_law_whole.specs.of_format.declared.pages.RecnoItem.{RecnoItem}
use Rattle.bdb_law_whole.specs.of_format.declared.references.Sort.TheVariants.{Child, Root}
use Rattle.bdb_law_whole.specs.of_format.Terms.{BtreeFields, File, Internal, Item, Listed, Meta, NoType, Page, RecnoInternal, RecnoLeaf, asked_by}
use Rattle.bdb_law_whole.specs.of_format.Terms.{child_types, children_in}
use Rattle.bdb_law_whole.specs.of_format.Terms.{entries_in, file_of, has_type, has_wrong_count, header_in, inner_in, inner_pages, is_meta, is_recno}
use Rattle.bdb_law_whole.specs.of_format.Terms.{is_zero_page, leaves, leaves_in, leaves_under, page_at, root_types, targets_in, tree_entries, type_in}
use Rattle.bdb_law_whole.proofs.of_graph.LeavesLemmas.{is_out, no_leaf_twice}
use Rattle.bdb_law_whole.proofs.of_format.MemberLemmas.{first_member, in_filter, in_flat_map, in_map, later_member, member_cases, no_member, none_passes}
use Rattle.bdb_homes.specs.Claims.{Below, below_in, counted}
use Rattle.bdb_homes.specs.Homes.{by_claim, claimed_in, later}
use Rattle.bdb_law_homes.specs.Led.{IsCounted, IsOwned, StartsAreCounts, entries_on}
use Rattle.bdb_law_homes.proofs.AskedLemmas.{IsAsked, asked_fits, claimed_top, only_types, own_stays}
use Rattle.bdb_law_homes.proofs.ClaimedLemmas.{IsClaimed, IsStart, no_turn, own_start, turn}
use Rattle.bdb_law_homes.proofs.BelowLemmas.{below_target, of_counted}
use Rattle.bdb_law_homes.proofs.LedLemmas.{IsOf, below_claimed, claim_is, named_inside}
use Rattle.bdb_law_homes.proofs.SoundLemmas.{sound_files_are_owned}

-- Lists in parts.

-- an element of two lists stands in the first or in the second
cut : {Y : Type 0} (xs ys before after : List Y) (y : Y) → xs ++ ys ≡ before ++ y ∷ after
    → ((rest : List Y) × (xs ≡ before ++ y ∷ rest)) ⊎ ((start : List Y) × (before ≡ xs ++ start) × (ys ≡ start ++ y ∷ after))
cut [] ys before after y is = inr (before, refl, is)
cut (x ∷ xs) ys [] after y is = let same : x ≡ y = cc in inl (xs, ap (λ z. z ∷ xs) same)
cut (x ∷ xs) ys (b ∷ before) after y is =
    let first : x ≡ b = cc in
    let others : xs ++ ys ≡ before ++ y ∷ after = cc in
    elim (cut xs ys before after y others) [
      | inl here ↦ inl (here.0, ap (λ z. z ∷ xs) first ∙ ap (λ zs. b ∷ zs) here.1)
      | inr past ↦ inr (past.0, ap (λ zs. b ∷ zs) past.1 ∙ ap (λ z. z ∷ (xs ++ past.0)) (sym first), past.2)
    ]

-- an element of lists that are joined
record IsSplit {X Y : Type 0} (f : X → List Y) (xs : List X) (before : List Y) (y : Y) : Type 0 where
  firsts : List X
  one : X
  others : List X
  start : List Y
  rest : List Y
  all : xs ≡ firsts ++ one ∷ others
  begins : before ≡ flat_map f firsts ++ start
  here : f one ≡ start ++ y ∷ rest

split : {X Y : Type 0} (f : X → List Y) (xs : List X) (before after : List Y) (y : Y) → flat_map f xs ≡ before ++ y ∷ after → IsSplit f xs before y
split f [] [] after y is = absurd cc
split f [] (b ∷ before) after y is = absurd cc
split f (x ∷ xs) before after y is = elim (cut (f x) (flat_map f xs) before after y is) [
  | inl here ↦ record { firsts = []; one = x; others = xs; start = before; rest = here.0; all = refl; begins = refl; here = here.1 }
  | inr past ↦
      let more = split f xs past.0 after y past.2 in
      record {
        firsts = x ∷ more.firsts;
        one = more.one;
        others = more.others;
        start = more.start;
        rest = more.rest;
        all = ap (λ ys. x ∷ ys) more.all;
        begins = past.1 ∙ (ap (λ zs. f x ++ zs) more.begins ∙ sym (append_assoc (f x) (flat_map f more.firsts) more.start));
        here = more.here;
      }
]

entries_joined : (file : File) (ps qs : List ℕ) → entries_on file (ps ++ qs) ≡ entries_on file ps + entries_on file qs
entries_joined file ps qs =
    ap length (flat_map-append (λ p. entries_in (page_at file p)) ps qs)
    ∙ length-append (flat_map (λ p. entries_in (page_at file p)) ps) (flat_map (λ p. entries_in (page_at file p)) qs)

-- The children of a page, with the records before them.

abbrev child_of : RecnoItem → ℕ
child_of item = item.child

abbrev leaves_at : ℕ → File → RecnoItem → List ℕ
leaves_at n file item = leaves_in n file item.child

abbrev placed : RecnoItem → ℕ → Below
placed item before = record { sort = Child; page = item.child; before = before }

at_item : (file : File) (n s : ℕ) (firsts others : List RecnoItem) (item : RecnoItem)
    → ((i : RecnoItem) → Contains (firsts ++ item ∷ others) i → i.count ≡ entries_on file (leaves_at n file i))
    → Contains (counted s (firsts ++ item ∷ others)) (placed item (s + entries_on file (flat_map (leaves_at n file) firsts)))
at_item file n s [] others item counts =
    let none : s ≡ s + 0 = omega arith in
    subst (λ before. Contains (counted s (item ∷ others)) (placed item before)) none (first_member (placed item s) (counted (s + item.count) others))
at_item file n s (one ∷ firsts) others item counts =
    let here : one.count ≡ entries_on file (leaves_at n file one) = counts one (first_member one (firsts ++ item ∷ others)) in
    let joined : entries_on file (leaves_at n file one ++ flat_map (leaves_at n file) firsts)
    ≡ entries_on file (leaves_at n file one) + entries_on file (flat_map (leaves_at n file) firsts) =
    entries_joined file (leaves_at n file one) (flat_map (leaves_at n file) firsts) in
    let sum : s + one.count + entries_on file (flat_map (leaves_at n file) firsts)
    ≡ s + entries_on file (leaves_at n file one ++ flat_map (leaves_at n file) firsts) =
    omega (arith, here, joined) in
    subst (λ before. Contains (counted s (one ∷ firsts ++ item ∷ others)) (placed item before)) sum
    (later_member (placed one s) (counted (s + one.count) (firsts ++ item ∷ others))
    (placed item (s + one.count + entries_on file (flat_map (leaves_at n file) firsts)))
    (at_item file n (s + one.count) firsts others item (λ i at. counts i (later_member one (firsts ++ item ∷ others) i at))))

-- children that are distinct are named once
not_later : (s child : ℕ) (items : List RecnoItem) (b : Below) → NotIn child (map child_of items) → Contains (counted s items) b → child ≡ b.page → ⊥
not_later s child items b out at same =
    let found = of_counted s items b at in
    is_out child (map child_of items) out
    (subst (Contains (map child_of items)) (sym (same ∙ found.3)) (in_map child_of items found.0 found.1))

counted_once : (s : ℕ) (items : List RecnoItem) (b c : Below) → AllDistinct (map child_of items) → Contains (counted s items) b → Contains (counted s items) c
    → b.page ≡ c.page → b ≡ c
counted_once s [] b c distinct first second same = absurd (no_member [] b refl first)
counted_once s (item ∷ items) b c distinct first second same =
    elim (member_cases (placed item s) (counted (s + item.count) items) b first) [
      | inl isb ↦ elim (member_cases (placed item s) (counted (s + item.count) items) c second) [
        | inl isc ↦ sym isb ∙ isc
        | inr later' ↦
            absurd (not_later (s + item.count) item.child items c distinct.0 later' (ap (λ (x : Below). x.page) isb ∙ same))
      ]
      | inr early ↦ elim (member_cases (placed item s) (counted (s + item.count) items) c second) [
        | inl isc ↦
            absurd (not_later (s + item.count) item.child items b distinct.0 early (ap (λ (x : Below). x.page) isc ∙ sym same))
        | inr later' ↦ counted_once (s + item.count) items b c distinct.1 early later' same
      ]
    ]

-- What an item says of its child.

abbrev recno_types : List ℕ
recno_types = 4 ∷ 6 ∷ []

wider : (t : Option ℕ) (two : Bool) → has_type (cond two (6 ∷ []) (4 ∷ [])) t ≡ true → has_type recno_types t ≡ true
wider None two is = is
wider (Some t) true is = or_later (4 == t) (6 == t) is
  where
    or_later : (a b : Bool) → (b || false) ≡ true → (a || (b || false)) ≡ true
    or_later true true is = refl
    or_later false true is = refl
    or_later a false is = absurd cc
wider (Some t) false is = or_first (4 == t) (6 == t) is
  where
    or_first : (a b : Bool) → (a || false) ≡ true → (a || (b || false)) ≡ true
    or_first true true is = refl
    or_first true false is = refl
    or_first false b is = absurd cc

record IsItemOf (file : File) (n : ℕ) (item : RecnoItem) : Type 0 where
  level : (header_in (page_at file item.child)).level ≡ n
  types : has_type recno_types (type_in (page_at file item.child)) ≡ true
  leaf : (view : Listed Item) → page_at file item.child ≡ RecnoLeaf view → n ≡ 1
  count : item.count ≡ entries_on file (leaves_at n file item)

page_inside : (file : File) (h : ℕ) (page : Listed RecnoItem) → IsOwned file → page_at file h ≡ RecnoInternal page → h ≤ file.last
page_inside file h page is at = elim (cases_lt file.last h) [
  | inl past ↦ absurd (let both : NoType ≡ RecnoInternal page = sym (is.past h past) ∙ at in cc)
  | inr low ↦ low
]

entries_are : (file : File) (child : ℕ) → length (tree_entries file child) ≡ entries_on file (leaves file child)
unfolding tree_entries
entries_are file child = refl

item_is : (file : File) (n h : ℕ) (page : Listed RecnoItem) (item : RecnoItem) → IsOwned file → page_at file h ≡ RecnoInternal page
    → (header_in (page_at file h)).level ≡ suc n → has_wrong_count file (page_at file h) ≡ false → Contains page.items item → IsItemOf file n item
item_is file n h page item is at level counts among =
    let named : Contains (targets_in h (page_at file h)) (Child, item.child) =
    subst (λ pg. Contains (targets_in h pg) (Child, item.child)) (sym at) (in_map (λ (i : RecnoItem). (Child, i.child)) page.items item among) in
    let asked : IsAsked file h item.child (asked_by h (page_at file h) Child) =
    asked_fits file h (placed item 0) is (page_inside file h page is at) named in
    let kind : has_type (child_types (page_at file h)) (type_in (page_at file item.child)) ≡ true =
    only_types (has_type (child_types (page_at file h)) (type_in (page_at file item.child))) (is_zero_page (page_at file item.child)) asked.fail.1.0 in
    let typed : has_type (cond (page.header.level == 2) (6 ∷ []) (4 ∷ [])) (type_in (page_at file item.child)) ≡ true =
    ap (λ pg. has_type (child_types pg) (type_in (page_at file item.child))) (sym at) ∙ kind in
    let up : (header_in (page_at file h)).level - 1 ≡ (header_in (page_at file item.child)).level =
    eqb-true ((header_in (page_at file h)).level - 1) (header_in (page_at file item.child)).level
    (not-false ((header_in (page_at file h)).level - 1 == (header_in (page_at file item.child)).level) asked.fail.1.1.0) in
    let down : (header_in (page_at file item.child)).level ≡ n = omega (arith, up, level) in
    let right : list_any (λ (i : RecnoItem). not (i.count == length (tree_entries file i.child))) page.items ≡ false =
    ap (has_wrong_count file) (sym at) ∙ counts in
    let one : not (item.count == length (tree_entries file item.child)) ≡ false =
    none_passes (λ (i : RecnoItem). not (i.count == length (tree_entries file i.child))) page.items item right among in
    record {
      level = down;
      types = wider (type_in (page_at file item.child)) (page.header.level == 2) typed;
      leaf = λ view leaf.
          by_level (page.header.level == 2) refl
          (ap (λ pg. has_type (cond (page.header.level == 2) (6 ∷ []) (4 ∷ [])) (type_in pg)) (sym leaf) ∙ typed);
      count =
          eqb-true item.count (length (tree_entries file item.child)) (not-false (item.count == length (tree_entries file item.child)) one)
          ∙ (entries_are file item.child ∙ ap (λ m. entries_on file (leaves_in m file item.child)) down);
    }
  where
    by_level : (two : Bool) → (page.header.level == 2) ≡ two → has_type (cond two (6 ∷ []) (4 ∷ [])) (Some 6) ≡ true → n ≡ 1
    by_level true is' has =
        let here : (header_in (page_at file h)).level ≡ page.header.level = ap (λ pg. (header_in pg).level) at in
        let two : page.header.level ≡ 2 = eqb-true page.header.level 2 is' in
        omega (arith, here, two, level)
    by_level false is' has = absurd cc

-- Down the tree.

record IsKnown (file : File) : Type 0 where
  owned : IsOwned file
  once : (h : ℕ) → h ≤ file.last → AllDistinct (leaves_in 1 file h)

abbrev below_all : File → List ℕ → List ℕ
below_all file ps = flat_map (λ p. unwrap_or (children_in (page_at file p)) []) ps

-- a page of a tree of records, so many levels above its leaves
record IsAbove (file : File) (n k h : ℕ) (ps : List ℕ) (meta s : ℕ) : Type 0 where
  level : (header_in (page_at file h)).level ≡ n
  types : has_type recno_types (type_in (page_at file h)) ≡ true
  leaf : (view : Listed Item) → page_at file h ≡ RecnoLeaf view → k ≤ 255
  few : k + n ≤ 256
  among : Contains ps h
  counts : (q : ℕ) → Contains (inner_in n file ps) q → has_wrong_count file (page_at file q) ≡ false
  claimed : IsClaimed file k h meta s

nothing : (before after : List ℕ) (p : ℕ) → [] ≡ before ++ p ∷ after → ⊥
nothing [] after p is = cc
nothing (b ∷ before) after p is = cc

-- a leaf alone
only : (file : File) (n k h p meta s : ℕ) (ps before after : List ℕ) (view : Listed Item) → IsAbove file n k h ps meta s → h ∷ [] ≡ before ++ p ∷ after
    → page_at file p ≡ RecnoLeaf view → IsStart file meta p (s + entries_on file before)
only file n k h p meta s ps [] after view above is leaf =
    let same : h ≡ p = cc in
    let none : s ≡ s + 0 = omega arith in
    subst (λ q. IsStart file meta q (s + entries_on file [])) same
    (subst (IsStart file meta h) none
    (record { turns = k; few = above.leaf view (ap (page_at file) same ∙ leaf); claimed = above.claimed }))
only file n k h p meta s ps (b ∷ before) after view above is leaf = absurd (nothing before after p (let rest : [] ≡ before ++ p ∷ after = cc in rest))

-- children as they are
alone : (file : File) (cs : List ℕ) → flat_map (leaves_in zero file) cs ≡ cs
alone file [] = refl
alone file (c ∷ cs) = ap (λ ps. ps ++ flat_map (leaves_in zero file) cs) (no_turn file c) ∙ ap (λ ps. c ∷ ps) (alone file cs)

distinct_children : (file : File) (h : ℕ) (page : Listed RecnoItem) → IsKnown file → page_at file h ≡ RecnoInternal page → AllDistinct (map child_of page.items)
distinct_children file h page is at =
    subst AllDistinct
    (turn zero file h ∙ (ap (λ pg. leaves_under (leaves_in zero file) h (children_in pg)) at ∙ alone file (map child_of page.items)))
    (is.once h (page_inside file h page is.owned at))

-- a child has the home of its page, behind the records that the items before it count
claimed_child : (file : File) (k h meta s sum : ℕ) (page : Listed RecnoItem) (item : RecnoItem) → IsKnown file → page_at file h ≡ RecnoInternal page
    → Contains (counted 0 page.items) (placed item sum) → IsClaimed file k h meta s → IsClaimed file (suc k) item.child meta (sum + s)
unfolding claimed_in
claimed_child file k h meta s sum page item is at among claimed zero few = absurd (omega (arith, few))
claimed_child file k h meta s sum page item is at among claimed (suc turns) few =
    let b : Below = placed item sum in
    let found = below_claimed file h b is.owned (subst (λ pg. Contains (below_in pg) b) (sym at) among) in
    let of : IsOf file item.child found.0 = claim_is file item.child found.0 found.1 in
    let there : Contains (counted 0 page.items) found.0.below =
    subst (λ pg. Contains (below_in pg) found.0.below) at (subst (λ q. Contains (below_in (page_at file q)) found.0.below) found.2 of.below) in
    let same : found.0.below ≡ b =
    counted_once 0 page.items found.0.below b (distinct_children file h page is at) there among of.page in
    let before : found.0.below.before ≡ sum = ap (λ (x : Below). x.before) same in
    let here : is_meta (page_at file found.0.holder) ≡ false = ap (λ q. is_meta (page_at file q)) found.2 ∙ ap is_meta at in
    let above : claimed_in turns file found.0.holder ≡ Some (record { meta = meta; start = s }) =
    ap (claimed_in turns file) found.2 ∙ claimed turns (omega (arith, few)) in
    ap (by_claim file (claimed_in turns file)) found.1
    ∙ (rw here (ap (option_map (later found.0.below.before)) above) ∙ ap (λ m. Some (record { meta = meta; start = m + s })) before)

-- what is left to show of a child
abbrev Rest : ℕ → ℕ → ℕ → ℕ → ℕ → File → List ℕ → Type 0
Rest n k p meta s file ps =
    (child sum : ℕ) (start rest : List ℕ) → IsAbove file n (suc k) child (below_all file ps) meta (sum + s) → leaves_in n file child ≡ start ++ p ∷ rest
    → IsStart file meta p (sum + s + entries_on file start)

down : (n k h p meta s : ℕ) (file : File) (ps before after : List ℕ) (view : Listed Item) → IsKnown file → IsAbove file n k h ps meta s
    → leaves_in n file h ≡ before ++ p ∷ after → page_at file p ≡ RecnoLeaf view → IsStart file meta p (s + entries_on file before)
down zero k h p meta s file ps before after view is above leaves leaf =
    only file zero k h p meta s ps before after view above (sym (no_turn file h) ∙ leaves) leaf
down (suc n) k h p meta s file ps before after view is above leaves leaf =
    by_page (page_at file h) refl above.types
    (λ child sum start rest under here. down n (suc k) child p meta (sum + s) file (below_all file ps) start rest view is under here leaf)
  where
    through : (page : Listed RecnoItem) → page_at file h ≡ RecnoInternal page → Rest n k p meta s file ps → IsStart file meta p (s + entries_on file before)
    through page at further =
        let children : children_in (page_at file h) ≡ Some (map child_of page.items) = ap children_in at in
        let all : flat_map (leaves_at n file) page.items ≡ before ++ p ∷ after =
        sym (flat_map-map (leaves_in n file) child_of page.items) ∙ (sym (turn n file h ∙ ap (leaves_under (leaves_in n file) h) children) ∙ leaves) in
        let part = split (leaves_at n file) page.items before after p all in
        let sum : ℕ = entries_on file (flat_map (leaves_at n file) part.firsts) in
        let inner : has_wrong_count file (page_at file h) ≡ false =
        above.counts h
        (Contains-append_left (filter (λ p. is_some (children_in (page_at file p))) ps) (inner_in n file (below_all file ps)) h
        (in_filter (λ p. is_some (children_in (page_at file p))) ps h above.among (ap is_some children))) in
        let each : (i : RecnoItem) → Contains page.items i → IsItemOf file n i =
        λ i among. item_is file n h page i is.owned at above.level inner among in
        let item : Contains page.items part.one =
        subst (λ items. Contains items part.one) (sym part.all)
        (Contains-append_right part.firsts (part.one ∷ part.others) part.one (first_member part.one part.others)) in
        let of : IsItemOf file n part.one = each part.one item in
        let named : Contains (counted 0 (part.firsts ++ part.one ∷ part.others)) (placed part.one (0 + sum)) =
        at_item file n 0 part.firsts part.others part.one (λ i among. (each i (subst (λ items. Contains items i) (sym part.all) among)).count) in
        let none : 0 + sum ≡ sum = omega arith in
        let placed' : Contains (counted 0 page.items) (placed part.one sum) =
        subst (λ m. Contains (counted 0 page.items) (placed part.one m)) none
        (subst (λ items. Contains (counted 0 items) (placed part.one (0 + sum))) (sym part.all) named) in
        let under : IsAbove file n (suc k) part.one.child (below_all file ps) meta (sum + s) = record {
          level = of.level;
          types = of.types;
          leaf = λ v is'. let one : n ≡ 1 = of.leaf v is' in omega (arith, one, above.few);
          few = omega (arith, above.few);
          among = in_flat_map (λ p. unwrap_or (children_in (page_at file p)) []) ps h part.one.child above.among
              (subst (λ cs. Contains (unwrap_or cs []) part.one.child) (sym children) (in_map child_of page.items part.one item));
          counts = λ q among.
              above.counts q (Contains-append_right (filter (λ p. is_some (children_in (page_at file p))) ps) (inner_in n file (below_all file ps)) q among);
          claimed = claimed_child file k h meta s sum page part.one is at placed' above.claimed;
        } in
        let whole : sum + s + entries_on file part.start ≡ s + entries_on file before =
        omega (arith, ap (entries_on file) part.begins, entries_joined file (flat_map (leaves_at n file) part.firsts) part.start) in
        subst (IsStart file meta p) whole (further part.one.child sum part.start part.rest under part.here)

    single : (pg : Page) → page_at file h ≡ pg → children_in pg ≡ None → IsStart file meta p (s + entries_on file before)
    single pg at none =
        only file (suc n) k h p meta s ps before after view above
        (sym (turn n file h ∙ ap (leaves_under (leaves_in n file) h) (ap children_in at ∙ none)) ∙ leaves) leaf

    by_page : (pg : Page) → page_at file h ≡ pg → has_type recno_types (type_in pg) ≡ true → Rest n k p meta s file ps
        → IsStart file meta p (s + entries_on file before)
    by_page (RecnoInternal page) at types further = through page at further
    by_page (Internal page) at types further = absurd cc
    by_page pg at types further = single pg at refl

-- The root.

all_right : (file : File) (root q : ℕ) → IsCounted file root → Contains (inner_pages file root) q → has_wrong_count file (page_at file q) ≡ false
all_right file root q is at =
    second (q == q) (has_wrong_count file (page_at file q)) (eq-eqb q q refl)
    (none_passes (λ x. x == q && has_wrong_count file (page_at file x)) (inner_pages file root) q (is.counts q) at)
  where
    second : (a b : Bool) → a ≡ true → (a && b) ≡ false → b ≡ false
    second true b isa is = is
    second false b isa is = absurd cc

inner_are : (file : File) (root : ℕ) → inner_pages file root ≡ inner_in (header_in (page_at file root)).level file (root ∷ [])
unfolding inner_pages
inner_are file root = refl

root_above : (file : File) (meta : ℕ) (tree : BtreeMeta) → IsOwned file → page_at file meta ≡ Meta (BtreeFields tree) → is_recno tree ≡ true
    → IsCounted file tree.root → IsAbove file (header_in (page_at file tree.root)).level 1 tree.root (tree.root ∷ []) meta 0
root_above file meta tree is at recno counted' =
    let b : Below = record { sort = Root; page = tree.root; before = 0 } in
    let named : Contains (below_in (page_at file meta)) b = subst (λ pg. Contains (below_in pg) b) (sym at) (first_member b []) in
    let asked : IsAsked file meta tree.root (asked_by meta (page_at file meta) Root) =
    asked_fits file meta b is (named_inside file meta b is named) (below_target meta (page_at file meta) b named) in
    let types : has_type (root_types (page_at file meta)) (type_in (page_at file tree.root)) ≡ true =
    only_types (has_type (root_types (page_at file meta)) (type_in (page_at file tree.root))) (is_zero_page (page_at file tree.root)) asked.fail.1.0 in
    let few : (header_in (page_at file tree.root)).level ≤ 255 = counted'.level in
    record {
      level = refl;
      types =
          ap (λ c. has_type (cond c (4 ∷ 6 ∷ []) (3 ∷ 5 ∷ [])) (type_in (page_at file tree.root))) (sym recno)
          ∙ (ap (λ pg. has_type (root_types pg) (type_in (page_at file tree.root))) (sym at) ∙ types);
      leaf = λ view leaf. omega arith;
      few = omega (arith, few);
      among = first_member tree.root [];
      counts = λ q among. all_right file tree.root q counted' (subst (λ qs. Contains qs q) (sym (inner_are file tree.root)) among);
      claimed = λ turns some. from_top turns some named;
    }
  where
    from_top : (turns : ℕ) → 1 ≤ turns → Contains (below_in (page_at file meta)) (record { sort = Root; page = tree.root; before = 0 })
        → claimed_in turns file tree.root ≡ Some (record { meta = meta; start = 0 })
    from_top zero few named = absurd (omega (arith, few))
    from_top (suc turns) few named = claimed_top turns file meta (record { sort = Root; page = tree.root; before = 0 }) is (ap is_meta at) named

pub starts_are_counts : StartsAreCounts
starts_are_counts image meta p tree view before after forest kind at recno counted' leaves' leaf low =
    let file : File = file_of image in
    let owned : IsOwned file = sound_files_are_owned image forest kind in
    let known : IsKnown file = record { owned = owned; once = λ h inside. no_leaf_twice image 1 h forest inside } in
    let found : IsStart file meta p (0 + entries_on file before) =
    down (header_in (page_at file tree.root)).level 1 tree.root p meta 0 file (tree.root ∷ []) before after view known
    (root_above file meta tree owned at recno counted') leaves' leaf in
    let none : 0 + entries_on file before ≡ entries_on file before = omega arith in
    own_stays file p (record { meta = meta; start = entries_on file before })
    (own_start file meta p (entries_on file before) (subst (IsStart file meta p) none found) low)
