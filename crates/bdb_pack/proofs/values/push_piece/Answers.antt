use Rattle.std.proofs.Common.{◌≤◌, arith, ◌∙◌, ap}
use Rattle.bdb_pack.proofs.Common.{size_bounds, piece_length, piece_next}
use Rattle.bdb_pack.proofs.ValueLemmas.{piece_added}
use Rattle.bdb_pack.proofs.values.push_piece.Goals as goal

pub returns-clause-page : goal.returns-clause-page
returns-clause-page c =
    let old = c.args.pages.now in
    let rest = c.args.rest.now in
    let size = c.size-size.ensures.size in
    let bounds = size_bounds c.size-size.result c.size-size.ensures.legal in
    let room : 26 ≤ old.size = omega (arith, bounds.0, size) in
    piece_added old c.add.new.self c.in_ok-number.number c.args.previous c.next_number-next.result c.piece_len-n.result c.order-order.result rest _ _
    c.in_ok-number.ensures.ok c.in_ok-number.ensures.number c.size-size.ensures.whole room c.order-order.ensures.order
    (c.piece_len-n.ensures ∙ ap (λ s. piece_length s rest) size)
    (c.next_number-next.ensures ∙ ap (λ s. piece_next s c.in_ok-number.number rest) size) c.page_mut.ensures.value c.put_piece.ensures
