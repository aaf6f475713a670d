use Rattle.std.proofs.Common.{◌≡◌, ◌+◌, ◌-◌, ◌*◌, ◌<◌, ◌∷◌, ◌++◌, [], length, take, drop, sym, ◌∙◌, ap, arith}
use Rattle.bdb_pack.specs.Built.{Built, cut, with_copy}
use Rattle.bdb_pack.proofs.CutLemmas.{cut_more, length_cut, page_length, page_of_cut}
use Rattle.bdb_pack.proofs.pages.Pages.add_copy.Goals as goal

pub returns-clause-ok : goal.returns-clause-ok
returns-clause-ok c =
    let it = c.self.inside in
    let bytes = it.bytes.items in
    let size = it.size in
    let count = it.count in
    let p = c.args.number in
    let low = c.requires.number in
    let under : p < count = omega (arith, low, ap (λ (b : Built). length b.pages) (sym c.self.view_is), length_cut size count bytes) in
    let page = page_of_cut size count bytes p under in
    let end : p * size + size - p * size ≡ size = omega arith in
    let all = c.in_ok-extend_from_within.ensures.items ∙ ap (λ n. bytes ++ take n (drop (p * size) bytes)) end in
    ap (λ bs. let b : Built = record { size = size; order = it.order; pages = cut size (count + 1) bs } in b) all
    ∙ (ap (λ ps. let b : Built = record { size = size; order = it.order; pages = ps } in b)
    (cut_more size count bytes (take size (drop (p * size) bytes)) c.self.invariant.whole
    (ap length (sym page) ∙ page_length size count bytes p c.self.invariant.whole under)
    ∙ ap (λ q. cut size count bytes ++ (q ∷ [])) (sym page))
    ∙ ap (λ b. with_copy b p) c.self.view_is)
