-- A key with its data that is put on the last leaf.
use Rattle.std.proofs.Common.{◌≡◌, ℕ, suc, ◌+◌, ◌-◌, ◌*◌, ◌<◌, ◌≤◌, false, List, [], ◌∷◌, ◌++◌, length, map, get_or, take, arith, refl, sym, ◌∙◌, ap, subst, length-append, ◌%◌, All, sum_by}
use Rattle.bdb_mkleaves.proofs.Common.{append_assoc, get_or-append-add, map-append, take_more, All-push, sum_by-append, sum_by-cons, sum_by-take-le, sum_by_push, flat_map-append, Order, Content, Item}
use Rattle.bdb_mkleaves.proofs.Common.{page_code, between, between_is, is_between, Built, bytes_of, CanShareKey, Entry, HoldsEntriesOn, entry_cost, no_entry, own_entry, room_of, shared_entry}
use Rattle.bdb_mkleaves.proofs.Common.{shared_key, AreLeaves, AreSomeLeaves, last_of, ValueItem, IsGrown, IsPut, value_cost, ArePairsPut, ValuesStand, HasWholePairs, IsLiveItem, IsRunPut}
use Rattle.bdb_mkleaves.proofs.Common.{held_by_item, more_cost, more_entries, pair_entries, pairs_cost, Leaves}
use Rattle.bdb_mkleaves.proofs.HeldLemmas.{after_two}
use Rattle.bdb_mkleaves.proofs.RunLemmas.{all_map, one_kept, later_before, leaf_room, put_is_run, runs_follow, some_after}

-- The key of the last pair.

last_key : (key : Item) (x y : Entry) (others : List ValueItem) → x.item ≡ key
    → (get_or (x ∷ y ∷ more_entries key others) (length (more_entries key others)) no_entry).item ≡ key
last_key key x y [] is = is
last_key key x y (other ∷ others) is = grind (arith, after_two, last_key key (shared_entry key) (own_entry other.item) others refl)

shared_again : (entries : List Entry) (key first : Item) (others : List ValueItem)
    → shared_key (entries ++ pair_entries key first others) ≡ shared_entry key
shared_again entries key first others =
    let added : List Entry = pair_entries key first others in
    let n : ℕ = length (more_entries key others) in
    let at : length (entries ++ added) - 2 ≡ length entries + n = omega (arith, length-append entries added) in
    ap shared_entry
    (ap (λ k. (get_or (entries ++ added) k no_entry).item) at
    ∙ (ap (λ (e : Entry). e.item) (get_or-append-add entries added n no_entry)
    ∙ last_key key (own_entry key) (own_entry first) others refl))

-- their number is even
even_more : (key : Item) (others : List ValueItem) → length (more_entries key others) ≡ 2 * length others
even_more key [] = refl
even_more key (other ∷ others) = omega (arith, even_more key others)

whole_pairs : (n m k : ℕ) → n % 2 ≡ 0 → m ≡ 2 * k → (n + (2 + m)) % 2 ≡ 0
whole_pairs n m k even is = grind (arith, even, is)

-- A run, and the key once more.

pub key_again : (leaves : Leaves) (old one new : Built) (key first : Item) (others : List ValueItem) (held : List (Content × List ℕ))
    → leaves.last < length old.pages → IsRunPut leaves old one (pair_entries key first others) held → IsGrown leaves one new shared_key
    → length new.pages ≡ length one.pages → AreSomeLeaves leaves old
    → IsRunPut leaves old new (pair_entries key first others ++ (shared_entry key ∷ [])) held
key_again leaves old one new key first others held low run grown count some =
    let added : List Entry = pair_entries key first others in
    let more = run.kept.grows in
    let hold : (closed : List (List Entry)) (entries : List Entry) → AreLeaves leaves old closed entries
    → AreLeaves leaves new closed (entries ++ (added ++ (shared_entry key ∷ []))) =
    λ closed entries hold.
    subst (AreLeaves leaves new closed)
    (ap (λ e. (entries ++ added) ++ (e ∷ [])) (shared_again entries key first others) ∙ append_assoc entries added (shared_entry key ∷ []))
    (grown.hold closed (entries ++ added) (run.hold closed entries hold)) in
    record {
      kept = record {
        size = grown.kept.size ∙ run.kept.size;
        order = grown.kept.order ∙ run.kept.order;
        grows = omega (arith, more, count);
        same = λ q under other. grown.kept.same q (omega (arith, under, more)) other ∙ run.kept.same q under other;
      };
      hold = hold;
      room =
          let order : new.order ≡ one.order = grown.kept.order in
          let before = leaf_room leaves one some.closed (some.entries ++ added) (run.hold some.closed some.entries some.hold) in
          let after = leaf_room leaves new some.closed (some.entries ++ (added ++ (shared_entry key ∷ [])))
          (hold some.closed some.entries some.hold) in
          let was = run.room in
          let cost_one : (es : List Entry) → sum_by (entry_cost one.order) es ≡ sum_by (entry_cost old.order) es =
          λ es. ap (λ o. sum_by (entry_cost o) es) run.kept.order in
          let cost_new : (es : List Entry) → sum_by (entry_cost new.order) es ≡ sum_by (entry_cost old.order) es =
          λ es. ap (λ o. sum_by (entry_cost o) es) (order ∙ run.kept.order) in
          omega (
            arith,
            before,
            after,
            was,
            grown.long,
            cost_one (some.entries ++ added),
            cost_new (some.entries ++ (added ++ (shared_entry key ∷ []))),
            sum_by-append (entry_cost old.order) some.entries added,
            sum_by-append (entry_cost old.order) some.entries (added ++ (shared_entry key ∷ [])),
            sum_by-append (entry_cost old.order) added (shared_entry key ∷ []),
          );
      stands = λ g counted later.
          subst (λ n. ValuesStand g old.size (length old.pages) n held) (sym count)
          (run.stands g counted
          (later_before one new (between (length old.pages) (length one.pages)) (between (length old.pages) (length new.pages)) g grown.kept.order
          (omega (arith, count))
          (λ p at. let s = between_is _ _ p at in is_between (length old.pages) (length new.pages) p s.0 (omega (arith, s.1, count)))
          (λ p at. let s = between_is _ _ p at in (s.1, grown.kept.same p s.1 (λ e. omega (arith, e, low, s.0)))) later));
      formed = λ p above under.
          ap (λ o. page_code o p (bytes_of new p)) grown.kept.order
          ∙ (ap (page_code one.order p) (grown.kept.same p (omega (arith, under, count)) (λ e. omega (arith, e, low, above)))
          ∙ run.formed p above (omega (arith, under, count)));
      heads = all_map (λ held. one_kept (length old.pages) (length old.pages) one new held.0 (omega arith) grown.kept.order (omega (arith, count))
          (λ h above under. grown.kept.same h under (λ e. omega (arith, e, low, above)))) held run.heads;
      count = count ∙ run.count;
    }

-- the item of a value that is put
pub live_put : (leaves : Leaves) (old new : Built) (value : List ℕ) → (put : IsPut leaves old new value false) → IsLiveItem old.size put.item value
live_put leaves old new value put = let stored = put.stored in
    record { live = stored.deleted_is; cost = λ order. ap (λ n. 2 + n) (stored.cost order) }

-- the key and its first datum
pub first_pair : (leaves : Leaves) (old one new : Built) (key first : List ℕ) → HasWholePairs leaves old → IsPut leaves old one key false
    → IsPut leaves one new first false → ArePairsPut leaves old new key first []
first_pair leaves old one new key first has put_key put_first =
    let some : AreSomeLeaves leaves old = record { closed = has.closed; entries = has.entries; hold = has.hold } in
    let there = has.hold.there in
    let run_key = put_is_run leaves old one key false there put_key some in
    let grows = run_key.kept.grows in
    let some_one = some_after leaves old one _ _ run_key some in
    let run_first = put_is_run leaves one new first false (omega (arith, there, grows)) put_first some_one in
    record {
      key_item = put_key.item;
      first_item = put_first.item;
      others = [];
      values = refl;
      key_live = live_put leaves old one key put_key;
      first_live = subst (λ n. IsLiveItem n put_first.item first) run_key.kept.size (live_put leaves one new first put_first);
      others_live = λ k d low. absurd (omega (arith, low));
      run = runs_follow leaves old one new _ _ _ _ there run_key.kept.size run_key run_first;
    }

-- one datum more
pub next_pair : (leaves : Leaves) (old now one new : Built) (key first value : List ℕ) (values : List (List ℕ)) → HasWholePairs leaves old
    → ArePairsPut leaves old now key first values → IsGrown leaves now one shared_key → length one.pages ≡ length now.pages
    → IsPut leaves one new value false → ArePairsPut leaves old new key first (values ++ (value ∷ []))
next_pair leaves old now one new key first value values has so_far grown count put =
    let map_held : Item → Item → List ValueItem → List (Content × List ℕ) = λ key_item first_item others.
    (key_item.content, key) ∷ (first_item.content, first) ∷ map held_by_item others in
    let some : AreSomeLeaves leaves old = record { closed = has.closed; entries = has.entries; hold = has.hold } in
    let there = has.hold.there in
    let again = key_again leaves old now one so_far.key_item so_far.first_item so_far.others _ there so_far.run grown count some in
    let grows = again.kept.grows in
    let some_one = some_after leaves old one _ _ again some in
    let run = put_is_run leaves one new value false (omega (arith, there, grows)) put some_one in
    let added : List Entry = pair_entries so_far.key_item so_far.first_item so_far.others in
    let datum : ValueItem = record { item = put.item; value = value } in
    let others : List ValueItem = so_far.others ++ (datum ∷ []) in
    let all : pair_entries so_far.key_item so_far.first_item others ≡ (added ++ (shared_entry so_far.key_item ∷ [])) ++ (own_entry put.item ∷ []) =
    ap (λ es. own_entry so_far.key_item ∷ own_entry so_far.first_item ∷ es)
    (flat_map-append (λ (d : ValueItem). shared_entry so_far.key_item ∷ own_entry d.item ∷ []) so_far.others (datum ∷ []))
    ∙ sym (append_assoc added (shared_entry so_far.key_item ∷ []) (own_entry put.item ∷ [])) in
    record {
      key_item = so_far.key_item;
      first_item = so_far.first_item;
      others = others;
      values = map-append (λ (d : ValueItem). d.value) so_far.others (datum ∷ []) ∙ ap (λ vs. vs ++ (value ∷ [])) so_far.values;
      key_live = so_far.key_live;
      first_live = so_far.first_live;
      others_live = All-push (λ (d : ValueItem). IsLiveItem old.size d.item d.value) so_far.others datum so_far.others_live
          (subst (λ n. IsLiveItem n put.item value) again.kept.size (live_put leaves one new value put));
      run = subst (λ es. IsRunPut leaves old new es (map_held so_far.key_item so_far.first_item others)) (sym all)
          (subst (IsRunPut leaves old new ((added ++ (shared_entry so_far.key_item ∷ [])) ++ (own_entry put.item ∷ [])))
          (ap (λ hs. (so_far.key_item.content, key) ∷ (so_far.first_item.content, first) ∷ hs)
          (sym (map-append held_by_item so_far.others (datum ∷ []))))
          (runs_follow leaves old one new _ _ _ _ there again.kept.size again run));
    }

-- The room that is left.

more_sum : (order : Order) (size : ℕ) (key : Item) (others : List ValueItem) → All (λ (d : ValueItem). IsLiveItem size d.item d.value) others
    → sum_by (entry_cost order) (more_entries key others) ≡ more_cost size (map (λ (d : ValueItem). d.value) others)
more_sum order size key [] live = refl
more_sum order size key (other ∷ others) live =
    let cost : entry_cost order (own_entry other.item) ≡ 2 + value_cost size other.value = (live 0 other (omega arith)).cost order in
    let rest = more_sum order size key others (λ k d low. live (suc k) d (omega (arith, low))) in
    omega (
      arith,
      cost,
      rest,
      sum_by-cons (entry_cost order) (shared_entry key) (own_entry other.item ∷ more_entries key others),
      sum_by-cons (entry_cost order) (own_entry other.item) (more_entries key others),
      sum_by-cons (λ value. 4 + value_cost size value) other.value (map (λ (d : ValueItem). d.value) others),
    )

pub pairs_room : (leaves : Leaves) (old new : Built) (key first : List ℕ) (more : List (List ℕ)) → ArePairsPut leaves old new key first more
    → room_of new.order (bytes_of new leaves.last) + pairs_cost old.size key first more ≡ room_of old.order (bytes_of old leaves.last)
pairs_room leaves old new key first more put =
    let rest = more_sum old.order old.size put.key_item put.others put.others_live in
    let run = put.run.room in
    let cost_key = put.key_live.cost old.order in
    let cost_first = put.first_live.cost old.order in
    omega (
      arith,
      run,
      rest,
      cost_key,
      cost_first,
      ap (more_cost old.size) put.values,
      sum_by-cons (entry_cost old.order) (own_entry put.key_item) (own_entry put.first_item ∷ more_entries put.key_item put.others),
      sum_by-cons (entry_cost old.order) (own_entry put.first_item) (more_entries put.key_item put.others),
    )

-- The loop.

-- what some data cost, with one more
pub cost_more : (size n : ℕ) (values : List (List ℕ)) → n < length values
    → more_cost size (take (n + 1) values) ≡ more_cost size (take n values) + (4 + value_cost size (get_or values n []))
cost_more size n values low =
    ap (more_cost size) (take_more values n [] low) ∙ sum_by_push (λ value. 4 + value_cost size value) (take n values) (get_or values n [])

-- what all data cost is what some of them do, the next, and the others
pub cost_left : (size n : ℕ) (values : List (List ℕ)) → n < length values
    → 4 + value_cost size (get_or values n []) + more_cost size (take n values) ≤ more_cost size values
cost_left size n values low =
    let all : more_cost size (take (n + 1) values) ≤ more_cost size values = sum_by-take-le (λ value. 4 + value_cost size value) values (n + 1) in
    omega (arith, all, cost_more size n values low)

-- the leaf takes its last key once more
pub takes_key : (leaves : Leaves) (old now : Built) (key first : List ℕ) (more : List (List ℕ)) (n : ℕ) → HasWholePairs leaves old
    → ArePairsPut leaves old now key first (take n more) → pairs_cost old.size key first more ≤ room_of old.order (bytes_of old leaves.last)
    → n < length more → CanShareKey now leaves.last
takes_key leaves old now key first more n has put room low =
    let entries : List Entry = has.entries ++ pair_entries put.key_item put.first_item put.others in
    let hold = put.run.hold has.closed has.entries has.hold in
    let left = pairs_room leaves old now key first (take n more) put in
    let long : length entries ≡ length has.entries + (2 + length (more_entries put.key_item put.others)) =
    length-append has.entries (pair_entries put.key_item put.first_item put.others) ∙ omega arith in
    record {
      previous = last_of 0 leaves.closed.items;
      next = 0;
      entries = entries;
      holds = subst (λ t. HoldsEntriesOn t now leaves.last (last_of 0 leaves.closed.items) 0 entries) has.type hold.last_holds;
      even = ap (λ k. k % 2) long ∙ whole_pairs (length has.entries) _ (length put.others) has.even (even_more put.key_item put.others);
      some = omega (arith, long);
      room = omega (arith, room, left, cost_left old.size n more low);
    }

-- the leaves of whole pairs are some
pub some_of : (leaves : Leaves) (old : Built) → HasWholePairs leaves old → AreSomeLeaves leaves old
some_of leaves old has = record { closed = has.closed; entries = has.entries; hold = has.hold }

-- the leaves, and the room for the next datum, once the key is there
pub room_again : (leaves : Leaves) (old now one : Built) (key first : List ℕ) (more : List (List ℕ)) (n : ℕ) → HasWholePairs leaves old
    → ArePairsPut leaves old now key first (take n more) → pairs_cost old.size key first more ≤ room_of old.order (bytes_of old leaves.last)
    → n < length more → IsGrown leaves now one shared_key → length one.pages ≡ length now.pages
    → AreSomeLeaves leaves one × (2 + value_cost one.size (get_or more n []) ≤ room_of one.order (bytes_of one leaves.last))
room_again leaves old now one key first more n has put room low grown count =
    let again = key_again leaves old now one put.key_item put.first_item put.others _ has.hold.there put.run grown count (some_of leaves old has) in
    let left = pairs_room leaves old now key first (take n more) put in
    let was = put.run.room in
    let now_left = again.room in (
      some_after leaves old one _ _ again (some_of leaves old has),
      subst (λ s. 2 + value_cost s (get_or more n []) ≤ room_of one.order (bytes_of one leaves.last)) (sym again.kept.size)
          (omega (
            arith,
            room,
            left,
            was,
            now_left,
            cost_left old.size n more low,
            sum_by_push (entry_cost old.order) (pair_entries put.key_item put.first_item put.others) (shared_entry put.key_item),
          )),
    )

pub more_pairs : (leaves : Leaves) (old now one new : Built) (key first : List ℕ) (more : List (List ℕ)) (n : ℕ) → HasWholePairs leaves old
    → ArePairsPut leaves old now key first (take n more) → n < length more → IsGrown leaves now one shared_key → length one.pages ≡ length now.pages
    → IsPut leaves one new (get_or more n []) false → ArePairsPut leaves old new key first (take (n + 1) more)
more_pairs leaves old now one new key first more n has so_far low grown count put =
    subst (ArePairsPut leaves old new key first) (sym (take_more more n [] low))
    (next_pair leaves old now one new key first (get_or more n []) (take n more) has so_far grown count put)

-- the leaves, and the room for the first datum, once the key is there
pub first_room : (leaves : Leaves) (old one : Built) (key first : List ℕ) (more : List (List ℕ)) → HasWholePairs leaves old
    → IsPut leaves old one key false
    → pairs_cost old.size key first more ≤ room_of old.order (bytes_of old leaves.last)
    → AreSomeLeaves leaves one × (2 + value_cost one.size first ≤ room_of one.order (bytes_of one leaves.last))
first_room leaves old one key first more has put room =
    let run = put_is_run leaves old one key false has.hold.there put (some_of leaves old has) in
    let left = run.room in
    let cost = (live_put leaves old one key put).cost old.order in (
      some_after leaves old one _ _ run (some_of leaves old has),
      subst (λ s. 2 + value_cost s first ≤ room_of one.order (bytes_of one leaves.last)) (sym run.kept.size) (omega (arith, room, left, cost)),
    )
