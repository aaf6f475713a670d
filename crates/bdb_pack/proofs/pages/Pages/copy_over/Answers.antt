use Rattle.std.proofs.Common.{◌+◌, ◌*◌, length, sym, ◌∙◌, ap, arith, refl}
use Rattle.bdb_pack.specs.Built.{Built, built_of, bytes_of, with_page}
use Rattle.bdb_pack.proofs.CutLemmas.{copied_over, length_cut}
use Rattle.bdb_pack.proofs.pages.Pages.copy_over.Goals as goal

pub returns : goal.returns
returns c =
    let it = c.self.inside in
    let seen_count = ap (λ (b : Built). length b.pages) (sym c.self.view_is) ∙ length_cut it.size it.count it.bytes.items in
    let from = c.requires.from in
    let to = c.requires.to in
    ap (built_of it.size it.order it.count) c.copy_within.ensures.items
    ∙ (copied_over it.size it.count it.order it.bytes.items c.args.from c.args.to (c.args.from * it.size + it.size) c.self.invariant.whole
    (omega (arith, from, seen_count)) (omega (arith, to, seen_count)) refl
    ∙ ap (λ b. with_page b c.args.to (bytes_of b c.args.from)) c.self.view_is)
