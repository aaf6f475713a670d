-- The leaves of a tree that is being built.
use Rattle.std.proofs.Common.{◌≡◌, ℕ, ◌+◌, ◌<◌, ◌≤◌, List, [], ◌∷◌, ◌++◌, length, replicate, arith, refl, sym, ◌∙◌, ap, subst, inl, inr, length-append, length-set, true≢false, Contains}
use Rattle.bdb_mkleaves.proofs.Common.{get_or-set_other, get_or_append_left, first_member, later_member, member_cases, no_member, Built, bytes_of, with_page, with_zeros, Entry, HoldsEntries}
use Rattle.bdb_mkleaves.proofs.Common.{HoldsEntriesOn, with_field, with_leaf, AreSomeLeaves, IsOpened, KeepsOthers, LeavesFrom, first_of, last_of, IsGrown, LeafType, Leaves}

-- a leaf whose page stays
pub leaf_stays : (type : LeafType) (old new : Built) (p previous next : ℕ) (entries : List Entry) → new.order ≡ old.order
    → bytes_of new p ≡ bytes_of old p → HoldsEntriesOn type old p previous next entries → HoldsEntriesOn type new p previous next entries
leaf_stays type old new p previous next entries order same holds = grind arith

-- leaves whose pages stay
pub leaves_kept : (type : LeafType) (old new : Built) (previous : ℕ) (ps : List ℕ) (closed : List (List Entry)) (beyond : ℕ) → new.order ≡ old.order
    → ((p : ℕ) → Contains ps p → bytes_of new p ≡ bytes_of old p) → LeavesFrom type old previous ps closed beyond
    → LeavesFrom type new previous ps closed beyond
leaves_kept type old new previous [] [] beyond order same hold = tt
leaves_kept type old new previous [] (entries ∷ others) beyond order same hold = hold
leaves_kept type old new previous (p ∷ ps) [] beyond order same hold = hold
leaves_kept type old new previous (p ∷ ps) (entries ∷ others) beyond order same (up, holds, rest) = (
  up,
  leaf_stays type old new p previous (first_of ps beyond) entries order (same p (first_member p ps)) holds,
  leaves_kept type old new p ps others beyond order (λ q among. same q (later_member p ps q among)) rest,
)

-- the numbers of leaves rise up to the last
pub at_most_last : (type : LeafType) (built : Built) (previous : ℕ) (ps : List ℕ) (closed : List (List Entry)) (beyond : ℕ)
    → LeavesFrom type built previous ps closed beyond
    → (previous ≤ last_of previous ps) × ((p : ℕ) → Contains ps p → p ≤ last_of previous ps)
at_most_last type built previous [] closed beyond hold = (omega arith, λ p among. absurd (no_member [] p refl among))
at_most_last type built previous (p ∷ ps) [] beyond hold = absurd hold
at_most_last type built previous (p ∷ ps) (entries ∷ others) beyond (up, holds, rest) =
    let after = at_most_last type built p ps others beyond rest in
    let first = after.0 in (
      omega (arith, up, first),
      λ q among. elim (member_cases p ps q among) [ inl here ↦ omega (arith, first, here) | inr later ↦ after.1 q later ],
    )

-- one leaf more
pub leaf_closed : (type : LeafType) (built : Built) (previous : ℕ) (ps : List ℕ) (closed : List (List Entry)) (last next : ℕ) (entries : List Entry)
    → LeavesFrom type built previous ps closed last → last_of previous ps < last → HoldsEntriesOn type built last (last_of previous ps) next entries
    → LeavesFrom type built previous (ps ++ (last ∷ [])) (closed ++ (entries ∷ [])) next
leaf_closed type built previous [] [] last next entries hold up holds = (up, holds, tt)
leaf_closed type built previous [] (others ∷ more) last next entries hold up holds = absurd hold
leaf_closed type built previous (p ∷ ps) [] last next entries hold up holds = absurd hold
leaf_closed type built previous (p ∷ ps) (others ∷ more) last next entries (low, here, rest) up holds =
    grind (arith, leaf_closed type built p ps more last next entries rest up holds)

pub last_closed : (previous : ℕ) (ps : List ℕ) (last : ℕ) → last_of previous (ps ++ (last ∷ [])) ≡ last
last_closed previous [] last = refl
last_closed previous (p ∷ ps) last = last_closed p ps last

-- a leaf that is added changes no page that stood
leaf_kept : (type : LeafType) (one : Built) (last p : ℕ) → p < length one.pages → bytes_of (with_leaf type one last) p ≡ bytes_of one p
leaf_kept type one last p low = grind (arith, get_or-set_other, get_or_append_left)

-- the pages with the last leaf followed by a new one
pub opened : (leaves next : Leaves) (old one new : Built)
    → one ≡ with_page old leaves.last (with_field old.order (bytes_of old leaves.last) 16 (length old.pages))
    → new ≡ with_leaf leaves.leaf_type one leaves.last
    → next.leaf_type ≡ leaves.leaf_type → next.closed.items ≡ leaves.closed.items ++ (leaves.last ∷ []) → next.last ≡ length one.pages
    → ((previous before : ℕ) (entries : List Entry) → HoldsEntriesOn leaves.leaf_type old leaves.last previous before entries
    → HoldsEntriesOn leaves.leaf_type one leaves.last previous (length old.pages) entries)
    → HoldsEntriesOn leaves.leaf_type new next.last leaves.last 0 [] → length (bytes_of new next.last) ≡ one.size → AreSomeLeaves leaves old
    → IsOpened leaves next old new
opened leaves next old one new follow add type numbers end closes fresh long some =
    let same_count : length one.pages ≡ length old.pages = ap (λ (b : Built). length b.pages) follow ∙ length-set old.pages leaves.last _ in
    let more : length new.pages ≡ length one.pages + 1 =
    ap (λ (b : Built). length b.pages) add
    ∙ (length-set (with_zeros one).pages (length one.pages) _ ∙ length-append one.pages (replicate one.size 0 ∷ [])) in
    let order : new.order ≡ old.order = ap (λ (b : Built). b.order) add ∙ ap (λ (b : Built). b.order) follow in
    let size : new.size ≡ old.size = ap (λ (b : Built). b.size) add ∙ ap (λ (b : Built). b.size) follow in
    let later : (q : ℕ) → q < length old.pages → bytes_of new q ≡ bytes_of one q =
    λ q low. ap (λ (b : Built). bytes_of b q) add ∙ leaf_kept leaves.leaf_type one leaves.last q (omega (arith, low, same_count)) in
    let same : (q : ℕ) → q < length old.pages → (q ≡ leaves.last → ⊥) → bytes_of new q ≡ bytes_of old q =
    λ q low other. later q low ∙ (ap (λ (b : Built). bytes_of b q) follow ∙ get_or-set_other old.pages leaves.last q _ [] other) in
    let there = some.hold.there in
    record {
      type = type;
      numbers = numbers;
      last = end ∙ same_count;
      count = omega (arith, more, same_count);
      room = let room = fresh.room in omega (arith, room, long, ap (λ (b : Built). b.size) follow);
      kept = record { size = size; order = order; grows = omega (arith, more, same_count); same = same };
      hold = λ closed entries hold.
          let t : LeafType = leaves.leaf_type in
          let up = hold.after in
          let rise = at_most_last t old 0 leaves.closed.items closed leaves.last hold.closed_hold in
          let kept : LeavesFrom t new 0 leaves.closed.items closed leaves.last =
          leaves_kept t old new 0 leaves.closed.items closed leaves.last order
          (λ q among. let most = rise.1 q among in same q (omega (arith, most, up, there)) (λ e. omega (arith, e, most, up))) hold.closed_hold in
          let last_order : one.order ≡ new.order = ap (λ (b : Built). b.order) follow ∙ sym order in
          let last_kept : HoldsEntriesOn t new leaves.last (last_of 0 leaves.closed.items) (length old.pages) entries =
          subst (λ o. HoldsEntries t o (bytes_of new leaves.last) leaves.last (last_of 0 leaves.closed.items) (length old.pages) entries) last_order
          (subst (λ bs. HoldsEntries t one.order bs leaves.last (last_of 0 leaves.closed.items) (length old.pages) entries)
          (sym (later leaves.last there))
          (closes (last_of 0 leaves.closed.items) 0 entries hold.last_holds)) in
          let all : LeavesFrom t new 0 (leaves.closed.items ++ (leaves.last ∷ [])) (closed ++ (entries ∷ [])) (length old.pages) =
          leaf_closed t new 0 leaves.closed.items closed leaves.last (length old.pages) entries kept up last_kept in
          let now : last_of 0 (leaves.closed.items ++ (leaves.last ∷ [])) ≡ leaves.last = last_closed 0 leaves.closed.items leaves.last in
          let moved : last_of 0 next.closed.items ≡ leaves.last = ap (last_of 0) numbers ∙ now in
          record {
            closed_hold = subst (λ u. LeavesFrom u new 0 next.closed.items (closed ++ (entries ∷ [])) next.last) (sym type)
                (subst (λ ns. LeavesFrom t new 0 ns (closed ++ (entries ∷ [])) next.last) (sym numbers)
                (subst (λ n. LeavesFrom t new 0 (leaves.closed.items ++ (leaves.last ∷ [])) (closed ++ (entries ∷ [])) n)
                (sym (end ∙ same_count)) all));
            last_holds = subst (λ u. HoldsEntriesOn u new next.last (last_of 0 next.closed.items) 0 []) (sym type)
                (subst (λ n. HoldsEntriesOn t new next.last n 0 []) (sym moved) fresh);
            after = omega (arith, moved, end, same_count, there);
            there = omega (arith, end, more);
          };
    }

-- the last leaf with one entry more, while no other page changes
pub grown : (leaves : Leaves) (old new : Built) (entry : List Entry → Entry) → KeepsOthers leaves.last old new
    → length (bytes_of new leaves.last) ≡ length (bytes_of old leaves.last)
    → ((previous next : ℕ) (entries : List Entry) → HoldsEntriesOn leaves.leaf_type old leaves.last previous next entries
    → HoldsEntriesOn leaves.leaf_type new leaves.last previous next (entries ++ (entry entries ∷ [])))
    → IsGrown leaves old new entry
grown leaves old new entry kept long more =
    record {
      kept = kept;
      long = long;
      hold = λ closed entries hold.
          let up = hold.after in
          let there = hold.there in
          let grows = kept.grows in
          let rise = at_most_last leaves.leaf_type old 0 leaves.closed.items closed leaves.last hold.closed_hold in
          record {
            closed_hold = leaves_kept leaves.leaf_type old new 0 leaves.closed.items closed leaves.last kept.order
                (λ q among. let most = rise.1 q among in kept.same q (omega (arith, most, up, there))
                (λ e. omega (arith, e, most, up))) hold.closed_hold;
            last_holds = more (last_of 0 leaves.closed.items) 0 entries hold.last_holds;
            after = up;
            there = omega (arith, there, grows);
          };
    }

-- a page that is written, and no other
pub page_written : (old new : Built) (p : ℕ) (page : List ℕ) → new ≡ with_page old p page → KeepsOthers p old new
page_written old new p page is = grind (arith, length-set, get_or-set_other)

-- the pages with a first leaf
pub begun_kept : (type : LeafType) (old new : Built) (previous : ℕ) → new ≡ with_leaf type old previous
    → KeepsOthers (length old.pages) old new × (length new.pages ≡ length old.pages + 1)
begun_kept type old new previous is = grind (arith, length-set, length-append, leaf_kept)
