-- The leaves of a btree.
use Rattle.std.proofs.Common.{◌≡◌, ℕ, zero, suc, ◌+◌, ◌-◌, ◌≤◌, Bool, true, false, cond, List, [], ◌∷◌, map, ap, ◌∙◌, arith, refl, sym, subst, inl, inr}
use Rattle.std.specs.Prelude.{◌==◌, ◌||◌, Option, Some, None}
use Rattle.std.specs.List.{Contains}
use Rattle.std.specs.Option.{option_map}
use Rattle.std.proofs.lemmas.Bool.{eqb-true, not-false}
use Rattle.bdb_law_whole.specs.of_format.declared.metadata.BtreeMeta.{BtreeMeta}
use Rattle.bdb_law_whole.specs.of_format.declared.references.Sort.TheVariants.{Child, Root}
use Rattle.bdb_law_whole.specs.of_format.Terms.{BtreeFields, File, Internal, InternalItem, Listed, Meta, Page, RecnoInternal}
use Rattle.bdb_law_whole.specs.of_format.Terms.{asked_by, child_types, children_in}
use Rattle.bdb_law_whole.specs.of_format.Terms.{has_type, header_in, is_meta, is_recno, is_zero_page, leaves_in, leaves_under, page_at, root_types, type_in}
use Rattle.bdb_law_whole.proofs.of_format.MemberLemmas.{first_member, in_map, member_cases, no_member, of_flat_map, of_map}
use Rattle.bdb_homes.specs.Claims.{Below, below_in}
use Rattle.bdb_homes.specs.Homes.{by_claim, claimed_in, later}
use Rattle.bdb_law_homes.specs.Led.{IsOwned, LeavesAreOfBtrees}
use Rattle.bdb_law_homes.proofs.AskedLemmas.{IsAsked, asked_fits, claimed_top, only_types, own_stays}
use Rattle.bdb_law_homes.proofs.BelowLemmas.{below_target}
use Rattle.bdb_law_homes.proofs.ClaimedLemmas.{IsClaimed, IsStart, no_turn, own_start, turn}
use Rattle.bdb_law_homes.proofs.LedLemmas.{IsOf, below_claimed, claim_is, named_inside}

abbrev tree_types : List ℕ
tree_types = 3 ∷ 5 ∷ 12 ∷ []

abbrev leaf_types : List ℕ
leaf_types = 5 ∷ 12 ∷ []

abbrev types_below : Bool → List ℕ
types_below two = cond two (5 ∷ 12 ∷ []) (3 ∷ [])

wider : (t : Option ℕ) (two : Bool) → has_type (types_below two) t ≡ true → has_type tree_types t ≡ true
wider None true is = is
wider None false is = is
wider (Some t) true is = or_later (3 == t) (5 == t) (12 == t) is
  where
    or_later : (a b c : Bool) → (b || (c || false)) ≡ true → (a || (b || (c || false))) ≡ true
    or_later true b c is = refl
    or_later false b c is = is
wider (Some t) false is = or_first (3 == t) (5 == t) (12 == t) is
  where
    or_first : (a b c : Bool) → (a || false) ≡ true → (a || (b || (c || false))) ≡ true
    or_first true b c is = refl
    or_first false b c is = absurd cc

-- a page below one of another level than 2 is no leaf
no_leaf : (t : Option ℕ) → has_type (3 ∷ []) t ≡ true → has_type leaf_types t ≡ true → ⊥
no_leaf None is leaf = cc
no_leaf (Some t) is leaf =
    let same : 3 ≡ t = eqb-true 3 t (first (3 == t) is) in
    let three : has_type leaf_types (Some 3) ≡ true = subst (λ n. has_type leaf_types (Some n) ≡ true) (sym same) leaf in
    cc
  where
    first : (a : Bool) → (a || false) ≡ true → a ≡ true
    first true is = refl
    first false is = is

-- what an item of an internal page says of its child
record IsItemOf (file : File) (n : ℕ) (item : InternalItem) : Type 0 where
  level : (header_in (page_at file item.child)).level ≡ n
  types : has_type tree_types (type_in (page_at file item.child)) ≡ true
  leaf : has_type leaf_types (type_in (page_at file item.child)) ≡ true → n ≡ 1

abbrev placed : InternalItem → Below
placed item = record { sort = Child; page = item.child; before = 0 }

item_is : (file : File) (n h : ℕ) (page : Listed InternalItem) (item : InternalItem) → IsOwned file
    → page_at file h ≡ Internal page → (header_in (page_at file h)).level ≡ suc n → Contains page.items item → IsItemOf file n item
item_is file n h page item is at level among =
    let named : Contains (below_in (page_at file h)) (placed item) =
    subst (λ pg. Contains (below_in pg) (placed item)) (sym at) (in_map placed page.items item among) in
    let asked : IsAsked file h item.child (asked_by h (page_at file h) Child) =
    asked_fits file h (placed item) is (named_inside file h (placed item) is named) (below_target h (page_at file h) (placed item) named) in
    let kind : has_type (child_types (page_at file h)) (type_in (page_at file item.child)) ≡ true =
    only_types (has_type (child_types (page_at file h)) (type_in (page_at file item.child))) (is_zero_page (page_at file item.child)) asked.fail.1.0 in
    let typed : has_type (types_below (page.header.level == 2)) (type_in (page_at file item.child)) ≡ true =
    ap (λ pg. has_type (child_types pg) (type_in (page_at file item.child))) (sym at) ∙ kind in
    let up : (header_in (page_at file h)).level - 1 ≡ (header_in (page_at file item.child)).level =
    eqb-true ((header_in (page_at file h)).level - 1) (header_in (page_at file item.child)).level
    (not-false ((header_in (page_at file h)).level - 1 == (header_in (page_at file item.child)).level) asked.fail.1.1.0) in
    record {
      level = omega (arith, up, level);
      types = wider (type_in (page_at file item.child)) (page.header.level == 2) typed;
      leaf = λ leaf. by_level (page.header.level == 2) refl typed leaf;
    }
  where
    by_level : (two : Bool) → (page.header.level == 2) ≡ two → has_type (types_below two) (type_in (page_at file item.child)) ≡ true
        → has_type leaf_types (type_in (page_at file item.child)) ≡ true → n ≡ 1
    by_level true is' has leaf =
        let here : (header_in (page_at file h)).level ≡ page.header.level = ap (λ pg. (header_in pg).level) at in
        let two : page.header.level ≡ 2 = eqb-true page.header.level 2 is' in
        omega (arith, here, two, level)
    by_level false is' has leaf = absurd (no_leaf (type_in (page_at file item.child)) has leaf)

-- a child has the home of its page
claimed_child : (file : File) (k h meta : ℕ) (page : Listed InternalItem) (item : InternalItem) → IsOwned file
    → page_at file h ≡ Internal page → Contains page.items item → IsClaimed file k h meta 0 → IsClaimed file (suc k) item.child meta 0
unfolding claimed_in
claimed_child file k h meta page item is at among claimed zero few = absurd (omega (arith, few))
claimed_child file k h meta page item is at among claimed (suc turns) few =
    let named : Contains (below_in (page_at file h)) (placed item) =
    subst (λ pg. Contains (below_in pg) (placed item)) (sym at) (in_map placed page.items item among) in
    let found = below_claimed file h (placed item) is named in
    let of : IsOf file item.child found.0 = claim_is file item.child found.0 found.1 in
    let there : Contains (map placed page.items) found.0.below =
    subst (λ pg. Contains (below_in pg) found.0.below) at (subst (λ q. Contains (below_in (page_at file q)) found.0.below) found.2 of.below) in
    let one = of_map placed page.items found.0.below there in
    let before : found.0.below.before ≡ 0 = ap (λ (x : Below). x.before) (sym one.2) in
    let here : is_meta (page_at file found.0.holder) ≡ false = ap (λ q. is_meta (page_at file q)) found.2 ∙ ap is_meta at in
    let above : claimed_in turns file found.0.holder ≡ Some (record { meta = meta; start = 0 }) =
    ap (claimed_in turns file) found.2 ∙ claimed turns (omega (arith, few)) in
    ap (by_claim file (claimed_in turns file)) found.1
    ∙ (rw here (ap (option_map (later found.0.below.before)) above) ∙ ap (λ m. Some (record { meta = meta; start = m + 0 })) before)

-- a page of a btree, so many levels above its leaves
record IsAbove (file : File) (n k h meta : ℕ) : Type 0 where
  level : (header_in (page_at file h)).level ≡ n
  types : has_type tree_types (type_in (page_at file h)) ≡ true
  leaf : has_type leaf_types (type_in (page_at file h)) ≡ true → k ≤ 255
  few : k + n ≤ 256
  claimed : IsClaimed file k h meta 0

only : (file : File) (n k h p meta : ℕ) → IsAbove file n k h meta → Contains (h ∷ []) p → has_type leaf_types (type_in (page_at file p)) ≡ true
    → IsStart file meta p 0
only file n k h p meta above at leaf = elim (member_cases h [] p at) [
  | inl same ↦
      subst (λ q. IsStart file meta q 0) same
      (record { turns = k; few = above.leaf (ap (λ q. has_type leaf_types (type_in (page_at file q))) same ∙ leaf); claimed = above.claimed })
  | inr later' ↦ absurd (no_member [] p refl later')
]

down : (n k h p meta : ℕ) (file : File) → IsOwned file → IsAbove file n k h meta → Contains (leaves_in n file h) p
    → has_type leaf_types (type_in (page_at file p)) ≡ true → IsStart file meta p 0
down zero k h p meta file is above at leaf = only file zero k h p meta above (subst (λ ps. Contains ps p) (no_turn file h) at) leaf
down (suc n) k h p meta file is above at leaf =
    by_page (page_at file h) refl above.types (λ c under in'. down n (suc k) c p meta file is under in' leaf)
  where
    through : (page : Listed InternalItem) → page_at file h ≡ Internal page
        → ((c : ℕ) → IsAbove file n (suc k) c meta → Contains (leaves_in n file c) p → IsStart file meta p 0)
        → IsStart file meta p 0
    through page at' further =
        let all : Contains (leaves_under (leaves_in n file) h (Some (map (λ (item : InternalItem). item.child) page.items))) p =
        subst (λ ps. Contains ps p) (turn n file h ∙ ap (λ pg. leaves_under (leaves_in n file) h (children_in pg)) at') at in
        let child = of_flat_map (leaves_in n file) (map (λ (item : InternalItem). item.child) page.items) p all in
        let item = of_map (λ (item : InternalItem). item.child) page.items child.0 child.1 in
        let of : IsItemOf file n item.0 = item_is file n h page item.0 is at' above.level item.1 in
        further item.0.child
        (record {
          level = of.level;
          types = of.types;
          leaf = λ is'. let one : n ≡ 1 = of.leaf is' in omega (arith, one, above.few);
          few = omega (arith, above.few);
          claimed = claimed_child file k h meta page item.0 is at' item.1 above.claimed;
        }) (subst (λ c. Contains (leaves_in n file c) p) (sym item.2) child.2)

    single : (pg : Page) → page_at file h ≡ pg → children_in pg ≡ None → IsStart file meta p 0
    single pg at' none =
        only file (suc n) k h p meta above
        (subst (λ ps. Contains ps p) (turn n file h ∙ ap (leaves_under (leaves_in n file) h) (ap children_in at' ∙ none)) at) leaf

    by_page : (pg : Page) → page_at file h ≡ pg → has_type tree_types (type_in pg) ≡ true
        → ((c : ℕ) → IsAbove file n (suc k) c meta → Contains (leaves_in n file c) p → IsStart file meta p 0)
        → IsStart file meta p 0
    by_page (Internal page) at' types further = through page at' further
    by_page (RecnoInternal page) at' types further = absurd cc
    by_page pg at' types further = single pg at' refl

root_above : (file : File) (meta : ℕ) (tree : BtreeMeta) → IsOwned file → page_at file meta ≡ Meta (BtreeFields tree) → is_recno tree ≡ false
    → (header_in (page_at file tree.root)).level ≤ 255 → IsAbove file (header_in (page_at file tree.root)).level 1 tree.root meta
root_above file meta tree is at recno low =
    let b : Below = record { sort = Root; page = tree.root; before = 0 } in
    let named : Contains (below_in (page_at file meta)) b = subst (λ pg. Contains (below_in pg) b) (sym at) (first_member b []) in
    let asked : IsAsked file meta tree.root (asked_by meta (page_at file meta) Root) =
    asked_fits file meta b is (named_inside file meta b is named) (below_target meta (page_at file meta) b named) in
    let types : has_type (root_types (page_at file meta)) (type_in (page_at file tree.root)) ≡ true =
    only_types (has_type (root_types (page_at file meta)) (type_in (page_at file tree.root))) (is_zero_page (page_at file tree.root)) asked.fail.1.0 in
    let narrow : has_type (3 ∷ 5 ∷ []) (type_in (page_at file tree.root)) ≡ true =
    ap (λ c. has_type (cond c (4 ∷ 6 ∷ []) (3 ∷ 5 ∷ [])) (type_in (page_at file tree.root))) (sym recno)
    ∙ (ap (λ pg. has_type (root_types pg) (type_in (page_at file tree.root))) (sym at) ∙ types) in
    record {
      level = refl;
      types = more (type_in (page_at file tree.root)) narrow;
      leaf = λ leaf. omega arith;
      few = omega (arith, low);
      claimed = λ turns some. from_top turns some named;
    }
  where
    three : (a b c : Bool) → (a || (b || false)) ≡ true → (a || (b || (c || false))) ≡ true
    three true b c is' = refl
    three false true c is' = refl
    three false false c is' = absurd cc

    more : (t : Option ℕ) → has_type (3 ∷ 5 ∷ []) t ≡ true → has_type tree_types t ≡ true
    more None is' = is'
    more (Some t) is' = three (3 == t) (5 == t) (12 == t) is'

    from_top : (turns : ℕ) → 1 ≤ turns → Contains (below_in (page_at file meta)) (record { sort = Root; page = tree.root; before = 0 })
        → claimed_in turns file tree.root ≡ Some (record { meta = meta; start = 0 })
    from_top zero few named = absurd (omega (arith, few))
    from_top (suc turns) few named = claimed_top turns file meta (record { sort = Root; page = tree.root; before = 0 }) is (ap is_meta at) named

pub leaves_are_of_btrees : LeavesAreOfBtrees
leaves_are_of_btrees file meta p tree is at recno low in' leaf =
    own_stays file p (record { meta = meta; start = 0 })
    (own_start file meta p 0 (down (header_in (page_at file tree.root)).level 1 tree.root p meta file is (root_above file meta tree is at recno low) in' leaf)
    (omega arith))
