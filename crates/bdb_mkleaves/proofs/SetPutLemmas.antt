-- A key whose data have a tree of their own.
use Rattle.std.proofs.Common.{◌≡◌, ℕ, ◌+◌, ◌-◌, ◌<◌, ◌≤◌, Bool, true, false, if◌then◌else◌, List, [], ◌∷◌, ◌++◌, length, arith, refl, sym, ◌∙◌, ap, map, subst}
use Rattle.std.proofs.Common.{inl, inr, length-append, true≢false, ◌^◌, All, Contains, flat_map}
use Rattle.bdb_mkleaves.proofs.Common.{cases_lt, cases_Bool, flat_map-append, append_assoc, All-append, All-cons, All-head, All-nil, sum_by-cons, Content, File, Tree, page_code, IsCounted, IsLater}
use Rattle.bdb_mkleaves.proofs.Common.{AscendIn, ContentFits, content_pages, IsBranch, between, branches_follow, between_is, is_between, ascend_bounds, ascend_follow, key_heads, Built, bytes_of}
use Rattle.bdb_mkleaves.proofs.Common.{file_so_far, counted_so_far, AreSomeFilled, IsPushed, IsReady, StandOn, unit_contents, FilledNow, rest_of, IsTreeOn, TreeParts, leaf_heads, CanTakeEntry, Entry}
use Rattle.bdb_mkleaves.proofs.Common.{HoldsEntriesOn, entry_cost, own_entry, room_of, AreLeaves, AreSomeLeaves, HasRoomNow, has_room, last_of, Placed, PlacedTree, StandsPlaced, ValueItem, tree_item}
use Rattle.bdb_mkleaves.proofs.Common.{IsPlacedBySize, PlacedEntry, PlacedPairs, has_wrong_root, unit_of, CountsOneFrom, IsGrown, IsPut, HasWholePairs, IsRunPut, ValuesStand, IsSetBuilt, IsTreePut}
use Rattle.bdb_mkleaves.proofs.Common.{SetStands, IsKeyedPushed, own_pages, set_pages, set_type, KeyedUnit, chain_pages, has_own_tree, set_cost, unit_cost, value_cost, is_of, all_right, LeafType}
use Rattle.bdb_mkleaves.proofs.Common.{Pairs, Records, SortedData, Leaves}
use Rattle.bdb_law_levels.specs.Roots.{pages_of as level_pages}
use Rattle.bdb_mkleaves.specs.Layout.{live_entry}
use Rattle.bdb_mkleaves.proofs.RestLemmas.{is_rest, leaves_low}
use Rattle.bdb_mkleaves.proofs.FilledLemmas.{by_size, later_self, value_read}
use Rattle.bdb_mkleaves.proofs.LastingLemmas.{heads_one, tree_stays}
use Rattle.bdb_mkleaves.proofs.PairsLemmas.{live_put, some_of}
use Rattle.bdb_mkleaves.proofs.PushLemmas.{pushed, room_count}
use Rattle.bdb_mkleaves.proofs.PutLemmas.{pages_stay}
use Rattle.bdb_mkleaves.proofs.RunLemmas.{one_kept, later_before, put_is_run}
use Rattle.bdb_mkleaves.proofs.StandLemmas.{values_stand_on}
use Rattle.bdb_mkleaves.proofs.PlacedCostLemmas.{tree_cost}

tree_contents : (type : LeafType) (unit : ValueItem) (root : ℕ) (values : List (List ℕ))
    → unit_contents type (PlacedTree unit root values) ≡ unit.item.content ∷ Tree root ∷ []
tree_contents Pairs unit root values = refl
tree_contents Records unit root values = refl
tree_contents SortedData unit root values = refl

-- The item of the tree.

-- the last leaf takes it after the key
pub takes_tree : (leaves : Leaves) (old one two : Built) (key : List ℕ) (values : List (List ℕ)) (sorted : Bool) (root : ℕ)
    → HasWholePairs leaves old
    → IsPut leaves old one key false → IsSetBuilt one two sorted values root → root < 2 ^ 32
    → has_own_tree old.size key values ≡ true → unit_cost old.size (KeyedUnit key values) ≤ room_of old.order (bytes_of old leaves.last)
    → AreSomeLeaves leaves two × CanTakeEntry two leaves.last (tree_item root)
takes_tree leaves old one two key values sorted root has put set small many room =
    let takes = ap (λ b. if b then value_cost old.size key + 16 else set_cost old.size key values) many in
    let some = some_of leaves old has in
    let run = put_is_run leaves old one key false has.hold.there put some in
    let entries : List Entry = has.entries ++ (own_entry put.item ∷ []) in
    let now : AreLeaves leaves two has.closed entries = pages_stay leaves one two set.kept has.closed entries
    (run.hold has.closed has.entries has.hold) in
    let grows = run.kept.grows in
    let there = has.hold.there in
    let left = run.room in
    let cost = (live_put leaves old one key put).cost old.order in
    let same : room_of two.order (bytes_of two leaves.last) ≡ room_of one.order (bytes_of one leaves.last) =
    ap (λ o. room_of o (bytes_of two leaves.last)) set.kept.order ∙ ap (room_of one.order) (set.kept.same leaves.last
    (omega (arith, there, grows))) in
    let even = has.even in (
      record { closed = has.closed; entries = entries; hold = now },
      record {
        type = Pairs;
        previous = last_of 0 leaves.closed.items;
        next = 0;
        entries = entries;
        holds = subst (λ t. HoldsEntriesOn t two leaves.last (last_of 0 leaves.closed.items) 0 entries) has.type now.last_holds;
        fits = small;
        place = (refl, omega (arith, even, length-append has.entries (own_entry put.item ∷ [])));
        room = omega (arith, room, takes, same, left, cost, tree_cost two.order root, sum_by-cons (entry_cost old.order) (own_entry put.item) []);
      },
    )

-- The unit.

-- contents that stand on pages that follow each other
stand_follow : (g : File) (a b c : ℕ) (xs ys : List Content) → a ≤ b → b ≤ c → StandOn g (between a b) xs → StandOn g (between b c) ys
    → StandOn g (between a c) (xs ++ ys)
stand_follow g a b c xs ys low high first second =
    record {
      branch = subst (IsBranch g (between a c)) (sym (flat_map-append content_pages xs ys))
          (branches_follow g a b c (flat_map content_pages xs) (flat_map content_pages ys) low high first.branch second.branch);
      fit = All-append (ContentFits g) xs ys first.fit second.fit;
    }

pub tree_put : (leaves : Leaves) (old one two new : Built) (key : List ℕ) (values : List (List ℕ)) (sorted : Bool) (root : ℕ)
    → HasWholePairs leaves old
    → IsPut leaves old one key false → IsSetBuilt one two sorted values root → IsGrown leaves two new (λ entries. own_entry (tree_item root))
    → length new.pages ≡ length two.pages → has_own_tree old.size key values ≡ true → IsTreePut leaves old new sorted key values
tree_put leaves old one two new key values sorted root has put set grown count many =
    record {
      key_item = put.item;
      key_live = live;
      root = root;
      put = record {
        kept = record {
          size = grown.kept.size ∙ (set.kept.size ∙ run.kept.size);
          order = order ∙ run.kept.order;
          grows = omega (arith, start, more, count);
          same = λ q low other.
              grown.kept.same q (omega (arith, low, start, more)) other ∙ (set.kept.same q (omega (arith, low, start)) ∙ run.kept.same q low other);
        };
        hold = λ closed entries hold.
            subst (AreLeaves leaves new closed) (append_assoc entries (own_entry put.item ∷ []) (own_entry (tree_item root) ∷ []))
            (grown.hold closed (entries ++ (own_entry put.item ∷ []))
            (pages_stay leaves one two set.kept closed (entries ++ (own_entry put.item ∷ [])) (run.hold closed entries hold)));
        ascend = subst (λ cs. AscendIn a d (flat_map content_pages cs)) (sym contents)
            (subst (AscendIn a d) (sym (flat_map-append content_pages (put.item.content ∷ []) (Tree root ∷ [])))
            (ascend_follow a b d (flat_map content_pages (put.item.content ∷ [])) (root ∷ [])
            (values_stand_on f old.size a b held counted first (omega (arith, more, count, first, start)) (key_stands f counted itself)).1
            (set.low, (let high = set.high in omega (arith, high, count)))));
        stands = λ g counted_g later.
            let key_there = key_stands g counted_g later in
            let set_there = set_stands g counted_g later in
            let up = later.grows in
            record {
              on = subst (StandOn g (between a d)) (sym contents)
                  (stand_follow g a b d (put.item.content ∷ []) (Tree root ∷ []) start (omega (arith, more, count))
                  (values_stand_on g old.size a b held counted_g first (omega (arith, more, count, first, start, up)) key_there).0
                  (subst (λ n. StandOn g (between b n) (Tree root ∷ [])) (sym count) set_there.on));
              placed = subst (λ t. StandsPlaced t g unit) (sym has.type) (
                record { live = live; value = value_read g old.size a key_there.0 put.item.content key key_there.3 },
                set_there.holds,
              );
            };
        sizes =
            let key_there = key_stands f counted itself in (by_size f old.size a key_there.0 put.item.content key key_there.3, many);
        heads = subst (All (CountsOneFrom a new)) (sym contents)
            (All-cons (CountsOneFrom a new) put.item.content (Tree root ∷ [])
            (one_kept a a one new put.item.content (omega arith) order (omega (arith, more, count)) (λ h low high. kept h low high)
            (All-head (λ (one_held : Content × List ℕ). CountsOneFrom a one one_held.0) (put.item.content, key) [] run.heads))
            (All-cons (CountsOneFrom a new) (Tree root) [] tt (All-nil (CountsOneFrom a new))));
        formed = λ p low high. elim (cases_lt p b) [
          | inl below ↦ ap (λ o. page_code o p (bytes_of new p)) order ∙ (ap (page_code one.order p) (kept p low below) ∙ run.formed p low below)
          | inr above ↦
              ap (λ o. page_code o p (bytes_of new p)) grown.kept.order
              ∙ (ap (page_code two.order p) (grown.kept.same p (omega (arith, high, count)) (λ e. omega (arith, e, there, low)))
              ∙ set.formed p above (omega (arith, high, count)))
        ];
        count = λ by_order few. absurd (true≢false (sym many ∙ few));
        tree = (
          sorted,
          set_on.0,
          subst (λ (t : TreeParts). (h : ℕ) → Contains (leaf_heads (set_type sorted) t.placed) h
              → Contains (flat_map key_heads (unit_contents leaves.leaf_type unit)) h → ⊥) (sym set_on.1)
              (λ h at key.
              let above = between_is b (length two.pages) h (set.tree.heads h at).there in
              let below = heads_one a one (put.item.content ∷ Tree root ∷ []) h own_heads
              (subst (λ cs. Contains (flat_map key_heads cs) h) contents key) in
              omega (arith, above.0, below.1)),
          subst (λ (t : TreeParts). (h : ℕ) → Contains (level_pages t.above) h
              → Contains (flat_map key_heads (unit_contents leaves.leaf_type unit)) h → ⊥) (sym set_on.1)
              (λ h at key.
              let above = between_is b (length two.pages) h (set.tree.levels h at).there in
              let below = heads_one a one (put.item.content ∷ Tree root ∷ []) h own_heads
              (subst (λ cs. Contains (flat_map key_heads cs) h) contents key) in
              omega (arith, above.0, below.1)),
        );
      };
      right = λ g counted_g later. (set_stands g counted_g later).right;
      count =
          let key_pages = run.count in
          let set_pages_are : length two.pages ≡ length one.pages + set_pages old.size sorted values =
          set.count ∙ ap (λ n. length one.pages + set_pages n sorted values) run.kept.size in
          rw many (omega (
            arith,
            count,
            key_pages,
            set_pages_are,
            sum_by-cons (λ (held_one : Content × List ℕ). chain_pages old.size held_one.1) (put.item.content, key) [],
          ));
    }
  where
    there : leaves.last < length old.pages
    there = has.hold.there

    run : IsRunPut leaves old one (own_entry put.item ∷ []) ((put.item.content, key) ∷ [])
    run = put_is_run leaves old one key false there put (some_of leaves old has)

    live : put.item.deleted ≡ false
    live = (live_put leaves old one key put).live

    a : ℕ
    a = length old.pages

    b : ℕ
    b = length one.pages

    d : ℕ
    d = length new.pages

    unit : Placed
    unit = PlacedTree (record { item = put.item; value = key }) root values

    held : List (Content × List ℕ)
    held = (put.item.content, key) ∷ []

    contents : unit_contents leaves.leaf_type unit ≡ put.item.content ∷ Tree root ∷ []
    contents = tree_contents leaves.leaf_type (record { item = put.item; value = key }) root values

    first : 1 ≤ a
    first = omega (arith, there)

    start : a ≤ b
    start = run.kept.grows

    more : b ≤ length two.pages
    more = set.kept.grows

    order : new.order ≡ one.order
    order = grown.kept.order ∙ set.kept.order

    f : File
    f = file_so_far new

    counted : IsCounted f
    counted = counted_so_far new (omega (arith, first, start, more, count))

    itself : IsLater (between a d) f f
    itself = later_self new (between a d)

    -- the pages of the key's chain stay
    kept : (p : ℕ) → a ≤ p → p < b → bytes_of new p ≡ bytes_of one p
    kept p low high = grown.kept.same p (omega (arith, high, more)) (λ e. omega (arith, e, there, low)) ∙ set.kept.same p high

    key_stands : (g : File) → IsCounted g → IsLater (between a d) f g → ValuesStand g old.size a b held
    key_stands g counted_g later =
        run.stands g counted_g
        (later_before one new (between a b) (between a d) g order (omega (arith, more, count))
        (λ p at. let s = between_is a b p at in is_between a d p s.0 (omega (arith, s.1, more, count)))
        (λ p at. let s = between_is a b p at in (s.1, kept p s.0 s.1)) later)

    -- the pages of the set stay
    set_within : (p : ℕ) → between b (length two.pages) p ≡ true → between a d p ≡ true
    set_within p at = let s = between_is b (length two.pages) p at in is_between a d p (omega (arith, s.0, start)) (omega (arith, s.1, count))

    set_same : (p : ℕ) → between b (length two.pages) p ≡ true → bytes_of new p ≡ bytes_of two p
    set_same p at = let s = between_is b (length two.pages) p at in grown.kept.same p s.1 (λ e. omega (arith, e, there, s.0, start))

    set_later : (g : File) → IsLater (between a d) f g → IsLater (between b (length two.pages)) (file_so_far two) g
    set_later g later =
        later_before two new (between b (length two.pages)) (between a d) g grown.kept.order (omega (arith, count)) set_within
        (λ p at. ((between_is b (length two.pages) p at).1, set_same p at)) later

    set_on : (now : IsTreeOn (set_type sorted) new (between a d) true (map live_entry values) root) × (now.tree ≡ set.tree.tree)
    set_on = tree_stays (set_type sorted) two new (between b (length two.pages)) (between a d) true (map live_entry values) root grown.kept.size
        grown.kept.order set_later set.tree
        (λ h at is. let s = between_is b (length two.pages) h is in (set_within h is, omega (arith, s.1, count), set_same h is))
        (λ h at is. let s = between_is b (length two.pages) h is in (set_within h is, omega (arith, s.1, count), set_same h is))

    own_heads : All (CountsOneFrom a one) (put.item.content ∷ Tree root ∷ [])
    own_heads = All-cons (CountsOneFrom a one) put.item.content (Tree root ∷ [])
        (All-head (λ (one_held : Content × List ℕ). CountsOneFrom a one one_held.0) (put.item.content, key) [] run.heads)
        (All-cons (CountsOneFrom a one) (Tree root) [] tt (All-nil (CountsOneFrom a one)))

    set_stands : (g : File) → IsCounted g → IsLater (between a d) f g → SetStands g b (length two.pages) sorted values root
    set_stands g counted_g later = set.stands g counted_g (set_later g later)

-- The unit is pushed.

-- pages stay, or one more is there
room_grows : (b : Bool) (leaves next : Leaves) (old one : Built) → HasRoomNow b leaves next old one → length old.pages ≤ length one.pages
room_grows true leaves next old one (same, kept) = omega (arith, ap (λ (b : Built). length b.pages) kept)
room_grows false leaves next old one opened = opened.kept.grows

-- the pages that a unit adds are no leaves
added_rest : (next : Leaves) (one new : Built) (before : ℕ) → AreSomeLeaves next one → before ≤ length one.pages → (p : ℕ)
    → between (length one.pages) (length new.pages) p ≡ true → rest_of before next new p ≡ true
added_rest next one new before some low p at =
    let within = between_is (length one.pages) (length new.pages) p at in
    is_rest before (length new.pages) (next.closed.items ++ (next.last ∷ [])) p (omega (arith, low, within.0)) within.1
    (elim (cases_Bool (is_of (next.closed.items ++ (next.last ∷ [])) p)) [
      | inl leaf ↦ let under = (leaves_low next one some.closed some.entries some.hold p leaf).0 in absurd (omega (arith, under, within.0))
      | inr none ↦ none
    ])

pub tree_pushed : (leaves next : Leaves) (old one new : Built) (sorted : Bool) (key : List ℕ) (values : List (List ℕ)) → AreSomeFilled leaves old
    → IsReady leaves next old one (unit_cost old.size (KeyedUnit key values)) → IsTreePut next one new sorted key values
    → IsKeyedPushed leaves next old new sorted (KeyedUnit key values)
unfolding pushed
tree_pushed leaves next old one new sorted key values some ready tree =
    record {
      pushed =
          pushed leaves next old one new (KeyedUnit key values)
          (PlacedTree (record { item = tree.key_item; value = key }) tree.root values) some refl ready tree.put;
      right = λ before closed units filled g counted later.
          let first = ascend_bounds before (length old.pages) _ filled.ascend in
          let more = room_grows _ leaves next old one ready.made in
          tree.right g counted
          (later_before new new (between (length one.pages) (length new.pages)) (rest_of before next new) g refl (omega arith)
          (λ p at. added_rest next one new before ready.some (omega (arith, first, more)) p at)
          (λ p at. ((between_is (length one.pages) (length new.pages) p at).1, refl)) later);
      count =
          let (leaf, size) = room_count _ leaves next old one ready.made in
          let own = tree.count in
          omega (arith, leaf, own, ap (λ n. own_pages n sorted (KeyedUnit key values)) size);
    }

-- data that stand on the leaf have no root
no_root : (g : File) (sorted : Bool) (size : ℕ) (key : List ℕ) (values : List (List ℕ)) (placed : Placed) → has_own_tree size key values ≡ false
    → unit_of placed ≡ KeyedUnit key values → IsPlacedBySize size placed → has_wrong_root g sorted placed ≡ false
no_root g sorted size key values (PlacedEntry entry) few is sizes = refl
no_root g sorted size key values (PlacedPairs first datum more) few is sizes = refl
no_root g sorted size key values (PlacedTree first root data_of_it) few is sizes = grind arith

pub pairs_keyed : (leaves next : Leaves) (old new : Built) (sorted : Bool) (key : List ℕ) (values : List (List ℕ))
    → has_own_tree old.size key values ≡ false → IsPushed leaves next old new (KeyedUnit key values)
    → IsKeyedPushed leaves next old new sorted (KeyedUnit key values)
pairs_keyed leaves next old new sorted key values few put =
    record {
      pushed = put;
      right = λ before closed units filled g counted later.
          no_root g sorted old.size key values put.placed few put.is
          (subst (λ n. IsPlacedBySize n put.placed) put.kept.size
          (sized (has_room leaves old (unit_cost old.size (KeyedUnit key values))) before closed units (put.filled before closed units filled)));
      count = put.count sorted few;
    }
  where
    sized : (b : Bool) (before : ℕ) (closed : List (List Placed)) (units : List Placed) → FilledNow b next new before closed units put.placed
        → IsPlacedBySize new.size put.placed
    sized true before closed units filled =
        All-head (IsPlacedBySize new.size) put.placed []
        (all_right (IsPlacedBySize new.size) units (put.placed ∷ [])
        (all_right (IsPlacedBySize new.size) (flat_map (λ leaf. leaf) closed) (units ++ (put.placed ∷ [])) filled.sizes))
    sized false before closed units filled =
        All-head (IsPlacedBySize new.size) put.placed []
        (all_right (IsPlacedBySize new.size) (flat_map (λ leaf. leaf) (closed ++ (units ∷ []))) (put.placed ∷ []) filled.sizes)
