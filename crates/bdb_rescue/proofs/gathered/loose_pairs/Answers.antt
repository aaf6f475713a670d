use Rattle.std.proofs.Common.{◌≡◌, ◌+◌, ◌++◌, ◌∷◌, ◌∙◌, List, [], ap, arith, length, map, refl, subst, sym}
use Rattle.std.specs.List.{enumerate_from}
use Rattle.bdb_text_format.specs.declared.pairs.Key.TheVariants.{Number}
use Rattle.bdb_rescue.specs.declared.kept.KeptValue.{KeptValue}
use Rattle.bdb_rescue.specs.Gathered.{loose_pair, loose_pairs, with_key}
use Rattle.bdb_rescue.specs.Kept.{IsKeptValue, Reading, file_in, loose_values, value_at}
use Rattle.bdb_rescue.proofs.GatheredLemmas.{all_given, more_loose, number_fits}
use Rattle.bdb_rescue.proofs.LeftLemmas.{first_value, values_rest}
use Rattle.bdb_rescue.proofs.LooseLemmas.{loose_is}
use Rattle.bdb_rescue.proofs.gathered.loose_pairs.Goals as goal

pub overflow_add-number : goal.overflow_add-number
overflow_add-number c =
    omega (
      arith,
      number_fits c.args.salvaged.now c.loop-place.number c.loop-place.place-iterator c.next.new.self c.in-Some.place c.in-Some.ensures.steps
          c.loop-place.invariant.numbered c.requires,
    )

pub push_place-requires-clause-kept : goal.push_place-requires-clause-kept
push_place-requires-clause-kept c =
    subst (λ (reading : Reading). IsKeptValue (file_in reading) c.in-Some.place) (sym c.loop-place.invariant.reading)
    (first_value (file_in c.args.salvaged.now) c.loop-place.place-iterator c.next.new.self c.in-Some.place c.in-Some.ensures.steps c.loop-place.invariant.kept)

pub loop-place-preserved : goal.loop-place-preserved
loop-place-preserved c = record {
  kept =
      values_rest (file_in c.args.salvaged.now) c.loop-place.place-iterator c.next.new.self c.in-Some.place c.in-Some.ensures.steps
      c.loop-place.invariant.kept;
  reading = c.in_ok-push_place.ensures.reading ∙ c.loop-place.invariant.reading;
  numbered = omega (arith, c.loop-place.invariant.numbered, ap length c.in-Some.ensures.steps);
  all =
      more_loose (file_in c.args.salvaged.now) c.loop-place.all.gathered.pairs c.push_place.new.self.gathered.pairs _ c.loop-place.number
      c.loop-place.place-iterator c.next.new.self c.in-Some.place c.in-Some.ensures.steps c.loop-place.invariant.all
      (subst (λ (reading : Reading). c.push_place.new.self.gathered.pairs
      ≡ c.loop-place.all.gathered.pairs ++ with_key (Number (c.loop-place.number + 1)) (value_at (file_in reading) c.in-Some.place ∷ []))
      c.loop-place.invariant.reading c.in_ok-push_place.ensures.pairs);
}

pub returns : goal.returns
returns c =
    c.into_pairs.ensures
    ∙ (all_given c.loop-place.all.gathered.pairs _ _
    (ap (λ (left : List KeptValue). map loose_pair (enumerate_from (c.loop-place.number + 1) (map (value_at (file_in c.args.salvaged.now)) left)))
    c.in-None.ensures.steps.0) c.loop-place.invariant.all
    ∙ ap loose_pairs (loose_is (file_in c.args.salvaged.now) (loose_values (file_in c.args.salvaged.now)) refl))
