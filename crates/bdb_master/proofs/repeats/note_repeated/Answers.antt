use Rattle.std.proofs.Common.{List, ℕ, sym, ◌∙◌, ap, subst, option_to_list}
use Rattle.bdb_btree.specs.Held.{AreKeyed, pair_held}
use Rattle.bdb_btree.proofs.HeldLemmas.{first_keyed, rest_keyed}
use Rattle.bdb_btree.specs.of_faults.Notes.{Notes}
use Rattle.bdb_master.proofs.RepeatLemmas.{IsNoted, begun, noted_on}
use Rattle.bdb_format.specs.Terms.{File, file_of, value_of}
use Rattle.bdb_overflow.specs.Held.{FitsHeld, value_held}
use Rattle.bdb_master.proofs.repeats.note_repeated.Goals as goal

pub loop-pair-init : goal.loop-pair-init
loop-pair-init g c = record {
  noted =
      subst (IsNoted (g.F.FaultSink.has_noted c.args.found.now) (g.F.FaultSink.has_noted c.args.found.now) c.new-names.result.keys (file_of c.args.forest)
      c.args.pairs)
      (sym c.into_iter-pair-iterator.ensures.into_iter_gives)
      (begun (g.F.FaultSink.has_noted c.args.found.now) c.new-names.result.keys (file_of c.args.forest) c.args.pairs c.new-names.ensures.none);
  keyed = subst (AreKeyed (file_of c.args.forest)) (sym c.into_iter-pair-iterator.ensures.into_iter_gives) c.requires;
  image = c.new-names.ensures.image;
}

pub add-requires : goal.add-requires
add-requires g c =
    subst (λ (image : List ℕ). FitsHeld (file_of image) c.leaf_held.result) (sym c.loop-pair.invariant.image)
    (c.leaf_held.ensures.fits (file_of c.args.forest)
    (first_keyed (file_of c.args.forest) c.loop-pair.pair-iterator c.next.new.self (pair_held c.in-Some.pair) c.loop-pair.invariant.keyed
    c.in-Some.ensures.steps))

-- A live pair is noted, if its key is among those that came before.
pub loop-pair-preserved-in-Continue-branch-2 : goal.loop-pair-preserved-in-Continue-branch-2
loop-pair-preserved-in-Continue-branch-2 g c =
    let file : File = file_of c.args.forest in
    let value : List ℕ = value_held (file_of c.loop-pair.names.image) c.leaf_held.result in
    record {
      noted =
          noted_on (g.F.FaultSink.has_noted c.args.found.now) (g.F.FaultSink.has_noted c.loop-pair.found) (g.F.FaultSink.has_noted c.note_given.new.found)
          c.loop-pair.names.keys c.add.new.self.keys file c.args.pairs c.loop-pair.pair-iterator c.next.new.self (pair_held c.in-Some.pair) value
          c.in_ok-is_new.is_new c.loop-pair.invariant.noted c.in-Some.ensures.steps (sym c.if-not-is_deleted.ensures)
          (c.leaf_held.ensures.value (file_of c.loop-pair.names.image)
          ∙ ap (λ (image : List ℕ). value_of (file_of image) (pair_held c.in-Some.pair).key.content) c.loop-pair.invariant.image)
          c.in_ok-is_new.ensures.added c.in_ok-is_new.ensures.keys
          (subst (λ found. Notes (g.F.FaultSink.has_noted c.loop-pair.found) (g.F.FaultSink.has_noted c.note_given.new.found) (option_to_list found))
          c.repeat_on.ensures
          c.in_ok-note_given.ensures);
      keyed = rest_keyed file c.loop-pair.pair-iterator c.next.new.self (pair_held c.in-Some.pair) c.loop-pair.invariant.keyed c.in-Some.ensures.steps;
      image = c.add.ensures.same ∙ c.loop-pair.invariant.image;
    }
