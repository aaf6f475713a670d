use Rattle.std.proofs.Common.{◌≡◌, ◌∙◌, ◌≤◌, List, ℕ, ◌++◌, ap, arith, false, length, subst, sym, None}
use Rattle.bdb_io.specs.of_format.Terms.{form_code, is_page_size, is_zero}
use Rattle.bdb_law_turned.proofs.of_image.FormedLemmas.{accepted_paged}
use Rattle.bdb_swap.proofs.ImageLemmas.{all_turned, joined_long, none_more, overlap_found, page_bounds, pages_more, taken_whole}
use Rattle.bdb_swap.specs.Turns.{pages_turned}
use Rattle.bdb_law_turned.specs.Turning.{turned_page}
use Rattle.bdb_swap.proofs.image.turned_image.Goals as goal

-- There is a place for each byte of a page.
pub slice_bounds-ends-end : goal.slice_bounds-ends-end
slice_bounds-ends-end c =
    let high : c.args.head.now.page_size ≤ 32768 = (page_bounds c.args.image.now c.args.head.now c.requires.accepted).1 in
    omega (arith, c.page_bytes-page.ensures.size, c.loop-number.invariant.long)

pub slice_bounds-page_overlaps-end : goal.slice_bounds-page_overlaps-end
slice_bounds-page_overlaps-end c =
    let high : c.args.head.now.page_size ≤ 32768 = (page_bounds c.args.image.now c.args.head.now c.requires.accepted).1 in
    taken_whole (length c.page_bytes-page.result.now) c.loop-number.ends (omega (arith, c.page_bytes-page.ensures.size, c.loop-number.invariant.long))

pub page_overlaps-requires-clause-legal : goal.page_overlaps-requires-clause-legal
page_overlaps-requires-clause-legal c =
    ap is_page_size c.page_bytes-page.ensures.size ∙ (accepted_paged c.args.image.now c.args.head.now c.requires.accepted).legal

pub page_overlaps-requires-clause-form : goal.page_overlaps-requires-clause-form
page_overlaps-requires-clause-form c =
    subst (λ (bytes : List ℕ). is_zero bytes ≡ false → form_code c.args.head.now c.loop-number.number bytes ≡ None) (sym c.page_bytes-page.ensures.bytes)
    (c.requires.formed c.loop-number.number (omega arith))

pub page_overlaps-requires-clause-size : goal.page_overlaps-requires-clause-size
page_overlaps-requires-clause-size c =
    let high : c.args.head.now.page_size ≤ 32768 = (page_bounds c.args.image.now c.args.head.now c.requires.accepted).1 in
    sym (taken_whole (length c.page_bytes-page.result.now) c.loop-number.ends (omega (arith, c.page_bytes-page.ensures.size, c.loop-number.invariant.long)))

pub add_turned-requires-clause-size : goal.add_turned-requires-clause-size
add_turned-requires-clause-size c =
    ap is_page_size c.page_bytes-page.ensures.size ∙ (accepted_paged c.args.image.now c.args.head.now c.requires.accepted).legal

pub add_turned-requires-clause-form : goal.add_turned-requires-clause-form
add_turned-requires-clause-form c =
    subst (λ (bytes : List ℕ). is_zero bytes ≡ false → form_code c.args.head.now c.loop-number.number bytes ≡ None) (sym c.page_bytes-page.ensures.bytes)
    (c.requires.formed c.loop-number.number (omega arith))

pub returns-then-page_overlaps : goal.returns-then-page_overlaps
returns-then-page_overlaps c =
    overlap_found c.args.image.now c.args.head.now c.loop-number.number c.page_overlaps.result c.page_bytes-page.result.now c.requires
    (omega arith) c.loop-number.invariant.none c.page_bytes-page.ensures.bytes c.page_overlaps.ensures.found c.if-page_overlaps.true

-- One page more.
pub loop-number-preserved : goal.loop-number-preserved
loop-number-preserved c =
    let high : c.args.head.now.page_size ≤ 32768 = (page_bounds c.args.image.now c.args.head.now c.requires.accepted).1 in
    let room : length c.page_bytes-page.result.now ≤ length c.loop-number.ends = omega (arith, c.page_bytes-page.ensures.size, c.loop-number.invariant.long) in
    record {
      copied = c.in_ok-add_turned.ensures
          ∙ (ap (λ (xs : List ℕ). xs ++ turned_page c.args.head.now.order c.page_bytes-page.result.now) c.loop-number.invariant.copied
          ∙ (ap (λ (xs : List ℕ). pages_turned c.args.head.now c.args.image.now c.loop-number.number ++ turned_page c.args.head.now.order xs)
          c.page_bytes-page.ensures.bytes
          ∙ pages_more c.args.head.now c.args.image.now c.loop-number.number));
      none = none_more c.args.image.now c.args.head.now c.loop-number.number c.page_overlaps.result c.page_bytes-page.result.now c.loop-number.invariant.none
          c.page_bytes-page.ensures.bytes c.page_overlaps.ensures.found c.if-page_overlaps.false;
      long = joined_long c.page_overlaps.new.ends c.loop-number.ends (length c.page_bytes-page.result.now)
          (c.page_overlaps.ensures.same ∙ sym (taken_whole (length c.page_bytes-page.result.now) c.loop-number.ends room)) room
          ∙ c.loop-number.invariant.long;
    }

pub returns : goal.returns
returns c =
    all_turned c.args.image.now c.from_vec.result c.args.head.now c.loop-number.number c.requires (omega arith)
    (c.from_vec.ensures ∙ c.loop-number.invariant.copied) c.loop-number.invariant.none
