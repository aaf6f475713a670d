-- Entries that are put on the last leaf one after the other.
use Rattle.std.proofs.Common.{Bool, ◌≡◌, ℕ, ◌+◌, ◌-◌, ◌<◌, ◌≤◌, true, List, [], ◌∷◌, ◌++◌, length, get_or, arith, refl, sym, ◌∙◌, ap, subst, inl, inr}
use Rattle.bdb_mkleaves.proofs.Common.{All, sum_by, cases_lt, append_assoc, sum_by-append, sum_by-cons, Chain, Content, File, Inline, Set, Tree, Unknown, page_code, IsLater, between, between_is}
use Rattle.bdb_mkleaves.proofs.Common.{is_between, Built, bytes_of, file_so_far, Entry, entry_cost, own_entry, room_of, AreLeaves, AreSomeLeaves, CountsOneFrom, IsPut, ValueStands, All-append}
use Rattle.bdb_mkleaves.proofs.Common.{All-cons, All-nil, page_so_far, IsRunPut, ValuesStand, chain_pages, Leaves}
use Rattle.bdb_mkleaves.proofs.PutLemmas.{leaves_stay}

-- the room of the last leaf is what its entries leave
pub leaf_room : (leaves : Leaves) (built : Built) (closed : List (List Entry)) (entries : List Entry) → AreLeaves leaves built closed entries
    → room_of built.order (bytes_of built leaves.last) + sum_by (entry_cost built.order) entries ≡ length (bytes_of built leaves.last) - 26
leaf_room leaves built closed entries hold = hold.last_holds.room

-- a file that is later than some pages is later than fewer that were there before, and stay
pub later_before : (old new : Built) (small large : ℕ → Bool) (g : File) → new.order ≡ old.order → length old.pages ≤ length new.pages
    → ((p : ℕ) → small p ≡ true → large p ≡ true) → ((p : ℕ) → small p ≡ true → (p < length old.pages) × (bytes_of new p ≡ bytes_of old p))
    → IsLater large (file_so_far new) g → IsLater small (file_so_far old) g
later_before old new small large g order more within same later = grind (arith, page_so_far)

-- Values that stand one after the other.

values_grow : (g : File) (size first beyond : ℕ) (held : List (Content × List ℕ)) → ValuesStand g size first beyond held → first ≤ beyond
values_grow g size first beyond [] stand = omega (arith, stand)
values_grow g size first beyond (one ∷ more) (middle, low, high, here, stand) = omega (arith, low, high)

values_follow : (g : File) (size first middle beyond : ℕ) (us vs : List (Content × List ℕ)) → ValuesStand g size first middle us
    → ValuesStand g size middle beyond vs → ValuesStand g size first beyond (us ++ vs)
values_follow g size first middle beyond [] vs one two = subst (λ n. ValuesStand g size n beyond vs) one two
values_follow g size first middle beyond (u ∷ us) vs (between, low, high, here, rest) two =
    let after = values_grow g size middle beyond vs two in
    (between, low, omega (arith, high, after), here, values_follow g size between middle beyond us vs rest two)

-- Runs.

-- a chain whose first page stays
pub one_kept : (low lower : ℕ) (old new : Built) (content : Content) → lower ≤ low → new.order ≡ old.order → length old.pages ≤ length new.pages
    → ((h : ℕ) → low ≤ h → h < length old.pages → bytes_of new h ≡ bytes_of old h) → CountsOneFrom low old content → CountsOneFrom lower new content
one_kept low lower old new (Inline bytes) less order more same counts = tt
one_kept low lower old new (Chain head total) less order more same (above, under, counts) = grind arith
one_kept low lower old new (Set blocks) less order more same counts = tt
one_kept low lower old new (Tree root) less order more same counts = tt
one_kept low lower old new Unknown less order more same counts = tt

pub all_map : {X : Type 0} {P Q : X → Type 0} → ((x : X) → P x → Q x) → (xs : List X) → All P xs → All Q xs
all_map f xs all k d low = f (get_or xs k d) (all k d low)

pub runs_follow : (leaves : Leaves) (old one new : Built) (xs ys : List Entry) (us vs : List (Content × List ℕ)) → leaves.last < length old.pages
    → one.size ≡ old.size → IsRunPut leaves old one xs us → IsRunPut leaves one new ys vs → IsRunPut leaves old new (xs ++ ys) (us ++ vs)
runs_follow leaves old one new xs ys us vs low size first second =
    let grows = first.kept.grows in
    let more = second.kept.grows in
    record {
      kept = record {
        size = second.kept.size ∙ first.kept.size;
        order = second.kept.order ∙ first.kept.order;
        grows = omega (arith, grows, more);
        same = λ q under other. second.kept.same q (omega (arith, under, grows)) other ∙ first.kept.same q under other;
      };
      hold = λ closed entries hold.
          subst (AreLeaves leaves new closed) (append_assoc entries xs ys) (second.hold closed (entries ++ xs) (first.hold closed entries hold));
      room =
          let one_room = first.room in
          let two_room : room_of new.order (bytes_of new leaves.last) + sum_by (entry_cost old.order) ys ≡ room_of one.order
          (bytes_of one leaves.last) =
          subst (λ o. room_of new.order (bytes_of new leaves.last) + sum_by (entry_cost o) ys ≡ room_of one.order (bytes_of one leaves.last))
          first.kept.order second.room in
          omega (arith, one_room, two_room, sum_by-append (entry_cost old.order) xs ys);
      stands = λ g counted later.
          values_follow g old.size (length old.pages) (length one.pages) (length new.pages) us vs
          (first.stands g counted
          (later_before one new (between (length old.pages) (length one.pages))
          (between (length old.pages) (length new.pages)) g second.kept.order more
          (λ p at. let s = between_is _ _ p at in is_between (length old.pages) (length new.pages) p s.0 (omega (arith, s.1, more)))
          (λ p at. let s = between_is _ _ p at in (s.1, second.kept.same p s.1 (λ e. omega (arith, e, low, s.0)))) later))
          (subst (λ n. ValuesStand g n (length one.pages) (length new.pages) vs) size
          (second.stands g counted
          (later_before new new (between (length one.pages) (length new.pages)) (between (length old.pages) (length new.pages)) g refl (omega arith)
          (λ p at. let s = between_is _ _ p at in is_between (length old.pages) (length new.pages) p (omega (arith, s.0, grows)) s.1)
          (λ p at. let s = between_is _ _ p at in (s.1, refl)) later)));
      formed = λ p above under.
          elim (cases_lt p (length one.pages)) [
            | inl before ↦
                ap (λ o. page_code o p (bytes_of new p)) second.kept.order
                ∙ (ap (page_code one.order p) (second.kept.same p before (λ e. omega (arith, e, low, above))) ∙ first.formed p above before)
            | inr after ↦ second.formed p after under
          ];
      heads = All-append (λ (one : Content × List ℕ). CountsOneFrom (length old.pages) new one.0) us vs
          (all_map (λ held. one_kept (length old.pages) (length old.pages) one new held.0 (omega arith) second.kept.order more
          (λ h above under. second.kept.same h under (λ e. omega (arith, e, low, above)))) us first.heads)
          (all_map (λ held. one_kept (length one.pages) (length old.pages) new new held.0 grows refl (omega arith)
          (λ h above under. refl)) vs second.heads);
      count =
          let before = first.count in
          let after : length new.pages ≡ length one.pages + sum_by (λ (held : Content × List ℕ). chain_pages old.size held.1) vs =
          subst (λ n. length new.pages ≡ length one.pages + sum_by (λ (held : Content × List ℕ). chain_pages n held.1) vs) size second.count in
          omega (arith, before, after, sum_by-append (λ (held : Content × List ℕ). chain_pages old.size held.1) us vs);
    }

-- an item that is put
pub put_is_run : (leaves : Leaves) (old new : Built) (value : List ℕ) (deleted : Bool) → leaves.last < length old.pages
    → (put : IsPut leaves old new value deleted) → AreSomeLeaves leaves old
    → IsRunPut leaves old new (own_entry put.item ∷ []) ((put.item.content, value) ∷ [])
put_is_run leaves old new value deleted low put some =
    let one : Built = put.between in
    let stored = put.stored in
    let grown = put.grown in
    let more = stored.kept.grows in
    let count = put.count in
    let hold : (closed : List (List Entry)) (entries : List Entry) → AreLeaves leaves old closed entries
    → AreLeaves leaves new closed (entries ++ (own_entry put.item ∷ [])) =
    λ closed entries hold. grown.hold closed entries (leaves_stay leaves old one value deleted put.item stored closed entries hold) in
    record {
      kept = record {
        size = grown.kept.size ∙ stored.kept.size;
        order = grown.kept.order ∙ stored.kept.order;
        grows = omega (arith, more, count);
        same = λ q under other. grown.kept.same q (omega (arith, under, more)) other ∙ stored.kept.same q under;
      };
      hold = hold;
      room =
          let before = leaf_room leaves old some.closed some.entries some.hold in
          let after = leaf_room leaves new some.closed (some.entries ++ (own_entry put.item ∷ [])) (hold some.closed some.entries some.hold) in
          let order : new.order ≡ old.order = grown.kept.order ∙ stored.kept.order in
          let long : length (bytes_of new leaves.last) ≡ length (bytes_of old leaves.last) = grown.long
          ∙ ap length (stored.kept.same leaves.last low) in
          let sums : sum_by (entry_cost new.order) (some.entries ++ (own_entry put.item ∷ []))
          ≡ sum_by (entry_cost old.order) some.entries + sum_by (entry_cost old.order) (own_entry put.item ∷ []) =
          ap (λ o. sum_by (entry_cost o) (some.entries ++ (own_entry put.item ∷ []))) order
          ∙ sum_by-append (entry_cost old.order) some.entries (own_entry put.item ∷ []) in
          omega (arith, before, after, long, sums);
      stands = λ g counted later. (
        length new.pages,
        omega (arith, more, count),
        omega arith,
        subst (λ n. ValueStands g old.size (length old.pages) n put.item.content value) (sym count)
            (stored.stands g counted
            (later_before one new (between (length old.pages) (length one.pages)) (between (length old.pages) (length new.pages)) g grown.kept.order
            (omega (arith, count))
            (λ p at. let s = between_is _ _ p at in is_between (length old.pages) (length new.pages) p s.0 (omega (arith, s.1, count)))
            (λ p at. let s = between_is _ _ p at in (s.1, grown.kept.same p s.1 (λ e. omega (arith, e, low, s.0)))) later)),
        refl,
      );
      formed = λ p above under.
          ap (λ o. page_code o p (bytes_of new p)) grown.kept.order
          ∙ (ap (page_code one.order p) (grown.kept.same p (omega (arith, under, count)) (λ e. omega (arith, e, low, above)))
          ∙ stored.formed p above (omega (arith, under, count)));
      heads = All-cons (λ (one : Content × List ℕ). CountsOneFrom (length old.pages) new one.0) (put.item.content, value) []
          (one_kept (length old.pages) (length old.pages) one new put.item.content (omega arith) grown.kept.order (omega (arith, count))
          (λ h above under. grown.kept.same h under (λ e. omega (arith, e, low, above))) stored.heads)
          (All-nil (λ (one : Content × List ℕ). CountsOneFrom (length old.pages) new one.0));
      count =
          let here = stored.count in
          omega (arith, count, here, sum_by-cons (λ (held : Content × List ℕ). chain_pages old.size held.1) (put.item.content, value) []);
    }

-- the leaves after a run
pub some_after : (leaves : Leaves) (old new : Built) (added : List Entry) (held : List (Content × List ℕ)) → IsRunPut leaves old new added held
    → AreSomeLeaves leaves old → AreSomeLeaves leaves new
some_after leaves old new added held run some =
    record { closed = some.closed; entries = some.entries ++ added; hold = run.hold some.closed some.entries some.hold }
