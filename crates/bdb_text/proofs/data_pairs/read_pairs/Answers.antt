use Rattle.std.proofs.Common.{rules, ◌+◌, true, false, length, length-append, sym, ap, ◌∙◌, ◌≡◌, arith, Err, is_ok}
use Rattle.std.proofs.lemmas.Bool.{eqb-true}
use Rattle.bdb_spelling.specs.of_text_format.Terms.{is_data_end, placed_pairs, text_lines}
use Rattle.bdb_text.specs.Fields.{values_in}
use Rattle.bdb_text.proofs.PlacingLemmas.{pair_fault, pairs_ended, pairs_step, places_step}
use Rattle.bdb_text.proofs.data_pairs.read_pairs.Goals as goal

pub returns-in_err-read-clause-err : goal.returns-in_err-read-clause-err
returns-in_err-read-clause-err c =
    let line = c.cut_line-cut.result.line.now in
    let other : is_data_end line ≡ false = sym c.is_data_end.ensures ∙ c.if-is_data_end.false in
    let to = rw c.cut_line-cut.ensures.lines at c.loop-rest.invariant.to in
    let error = c.in_err-read.field-0.0 in
    let is : c.from_residual.result ≡ Err error = search rules in
    rw is
    (pair_fault (values_in c.args.fields.now) c.args.text.now c.args.start c.way_of-way.result (placed_pairs c.loop-rest.bytes.items c.loop-rest.places.items) line
    c.cut_line-cut.result.rest.now c.loop-rest.number error c.way_of-way.ensures.keyed c.way_of-way.ensures.numbered c.way_of-way.ensures.print
    to other c.in_err-read.ensures.err)

pub loop-rest-preserved : goal.loop-rest-preserved
loop-rest-preserved c =
    let line = c.cut_line-cut.result.line.now in
    let other : is_data_end line ≡ false = sym c.is_data_end.ensures ∙ c.if-is_data_end.false in
    let to = rw c.cut_line-cut.ensures.lines at c.loop-rest.invariant.to in
    let count : c.len.result ≡ length c.loop-rest.places.items = search rules in
    let read = rw count at c.in_ok-read.ensures.ok in
    let ok : is_ok c.push.result ≡ true = c.if-is_err.ensures.negation in
    let grown = rw ok at c.push.ensures.items in
    let one : length c.push.new.self.items ≡ length c.loop-rest.places.items + 1 = ap length grown ∙ length-append c.loop-rest.places.items _ in
    record {
      to = rw grown (pairs_step (values_in c.args.fields.now) (text_lines c.args.text.now) c.args.start c.way_of-way.result c.loop-rest.bytes.items
          c.read_pair.new.bytes.items c.loop-rest.places.items line c.cut_line-cut.result.rest.now c.loop-rest.number c.in_ok-read.read
          c.way_of-way.ensures.keyed c.way_of-way.ensures.numbered c.way_of-way.ensures.print to other read c.loop-rest.invariant.placed);
      placed = rw grown (places_step c.way_of-way.result line c.cut_line-cut.result.rest.now c.loop-rest.number (length c.loop-rest.places.items + 1)
          c.loop-rest.bytes.items c.read_pair.new.bytes.items c.loop-rest.places.items c.in_ok-read.read read c.loop-rest.invariant.placed);
      room = omega (arith, c.loop-rest.invariant.room, c.cut_line-cut.ensures.shorter, c.in_ok-read.ensures.shorter);
      few = omega (arith, one, c.loop-rest.invariant.few, c.in_ok-read.ensures.later);
    }

pub returns-clause-err : goal.returns-clause-err
returns-clause-err c =
    rw c.fault_at.ensures
    (pairs_ended (values_in c.args.fields.now) c.args.text.now c.args.start (placed_pairs c.loop-rest.bytes.items c.loop-rest.places.items)
    c.loop-rest.rest.now c.loop-rest.number c.loop-rest.invariant.to (eqb-true _ _ (sym c.loop-rest-test.ensures)))
