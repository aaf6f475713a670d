use Rattle.std.proofs.Common.{IsTrue, subst, ◌≡◌, ◌≤◌, [], ◌∷◌, ◌++◌, map, length, arith, sym, ap, inl, inr, flat_map}
use Rattle.bdb_mkleaves.proofs.Common.{eqb-false, eqb-true, nil_from_length, is_page_size, first_of, entries_of}
use Rattle.bdb_mkleaves.proofs.FinishedLemmas.{leaves_rooted_on, moved_children, moved_linked, moved_there, several_children, some_of}
use Rattle.bdb_mkleaves.proofs.NodesLemmas.{last_has_unit, leaf_rooted}
use Rattle.bdb_mkleaves.proofs.leaves.Leaves.finish.Goals as goal

pub returns-then-is_empty : goal.returns-then-is_empty
returns-then-is_empty c = λ before closed units filled some.
    let none : c.args.self.closed.items ≡ [] =
    nil_from_length c.args.self.closed.items (omega (arith, c.args.self.closed.ok, eqb-true c.args.self.closed.len 0 (sym c.if-is_empty.ensures))) in (
      sym (ap (λ ns. first_of ns c.args.self.last) none),
      inl (leaf_rooted c.args.self c.args.pages.now c.args.counted before closed units none c.size-size.ensures.whole filled),
    )

pub children-requires : goal.children-requires
children-requires c =
    let can = c.requires in
    let several : 1 ≤ length c.args.self.closed.items = some_of (length c.args.self.closed.items)
    (λ none. eqb-false c.args.self.closed.len 0 (sym c.if-is_empty.ensures) (omega (arith, c.args.self.closed.ok, none))) in
    record {
      linked = record {
        all = map (flat_map entries_of) (can.closed ++ (can.units ∷ []));
        linked = moved_linked c.args.self c.move_first.new.self c.args.pages.now c.move_first.new.pages can.before can.closed can.units can.filled
            c.in_ok-root.ensures.moved;
        there = moved_there c.args.self c.move_first.new.self c.args.pages.now c.move_first.new.pages several c.in_ok-root.ensures.moved;
      };
    }

pub lay_levels_on-requires-clause-many : goal.lay_levels_on-requires-clause-many
lay_levels_on-requires-clause-many c =
    let can = c.requires in
    let several : 1 ≤ length c.args.self.closed.items = some_of (length c.args.self.closed.items)
    (λ none. eqb-false c.args.self.closed.len 0 (sym c.if-is_empty.ensures) (omega (arith, c.args.self.closed.ok, none))) in
    let all = map (flat_map entries_of) (can.closed ++ (can.units ∷ [])) in
    let linked = moved_linked c.args.self c.move_first.new.self c.args.pages.now c.move_first.new.pages can.before can.closed can.units can.filled
    c.in_ok-root.ensures.moved in
    several_children c.args.self c.move_first.new.self c.args.pages.now c.move_first.new.pages c.args.counted c.in_ok-children.children.items all
    several c.in_ok-root.ensures.moved linked (c.in_ok-children.ensures all linked)

pub lay_levels_on-requires-clause-children : goal.lay_levels_on-requires-clause-children
lay_levels_on-requires-clause-children c =
    let can = c.requires in
    let none = λ (none : length c.args.self.closed.items ≡ 0).
    eqb-false c.args.self.closed.len 0 (sym c.if-is_empty.ensures) (omega (arith, c.args.self.closed.ok, none)) in
    let some = last_has_unit c.args.self c.args.pages.now can.before can.closed can.units none can.filled can.some in
    let linked = moved_linked c.args.self c.move_first.new.self c.args.pages.now c.move_first.new.pages can.before can.closed can.units can.filled
    c.in_ok-root.ensures.moved in
    moved_children c.args.self c.move_first.new.self c.args.pages.now c.move_first.new.pages c.args.counted can.before can.closed can.units
    c.inner.result c.in_ok-children.children.items (subst (λ n. IsTrue (is_page_size n)) c.size-size.ensures.size c.size-size.ensures.legal)
    (some_of (length c.args.self.closed.items) none) can.filled some
    c.in_ok-root.ensures.moved c.inner.ensures (c.in_ok-children.ensures (map (flat_map entries_of) (can.closed ++ (can.units ∷ []))) linked)

pub returns : goal.returns
returns c = λ before closed units filled some.
    let none = λ (none : length c.args.self.closed.items ≡ 0).
    eqb-false c.args.self.closed.len 0 (sym c.if-is_empty.ensures) (omega (arith, c.args.self.closed.ok, none)) in
    let unit = last_has_unit c.args.self c.args.pages.now before closed units none filled some in
    let linked = moved_linked c.args.self c.move_first.new.self c.args.pages.now c.move_first.new.pages before closed units filled
    c.in_ok-root.ensures.moved in (
      c.in_ok-root.ensures.root,
      inr (leaves_rooted_on c.args.self c.move_first.new.self c.args.pages.now c.move_first.new.pages c.lay_levels_on.new.pages c.args.counted before
          closed units c.inner.result c.in_ok-children.children.items c.in_ok-root.root
          (subst (λ n. IsTrue (is_page_size n)) c.size-size.ensures.size c.size-size.ensures.legal)
          (some_of (length c.args.self.closed.items) none) filled unit c.in_ok-root.ensures.moved c.inner.ensures
          (c.in_ok-children.ensures (map (flat_map entries_of) (closed ++ (units ∷ []))) linked) c.in_ok-root.ensures.root
          c.in_ok-lay_levels_on.ensures),
    )
