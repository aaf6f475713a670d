use Rattle.std.proofs.Common.{◌*◌, ◌++◌, length, take, drop, IsTrue, refl, sym, subst, ◌∙◌, ap, arith}
use Rattle.bdb_pack.proofs.Common.{is_page_size, AreWhole, Built, bytes_of, cut, written_over}
use Rattle.bdb_pack.proofs.CutLemmas.{kept, length_cut, lent, long_enough, page_length, page_of_cut}
use Rattle.bdb_pack.proofs.pages.Pages.page_mut.Goals as goal

pub returns : goal.returns
returns c =
    let whole = c.self.invariant.whole in
    let seen = c.self.view_is in
    let bytes = c.self.inside.bytes.items in
    let size = c.self.inside.size in
    let count = c.self.inside.count in
    let low = c.requires in
    let seen_count = ap (λ (b : Built). length b.pages) (sym seen) ∙ length_cut size count bytes in (
      (
        refl,
        λ w.
            let at = c.args.number * size in
            let long = c.self.inside.bytes.ok.0 in
            ap (λ pages. let b : Built = record { size = size; order = c.self.inside.order; pages = pages } in b)
            (ap (λ n. cut size count (take n
            ((take at bytes ++ (w ++ drop (length w) (drop at bytes))) ++ drop (length (take at bytes ++ (w ++ drop (length w) (drop at bytes)))) bytes))) long
            ∙ (kept size count bytes (take at bytes ++ (w ++ drop (length w) (drop at bytes))) whole (long_enough bytes w at)
            ∙ lent size count bytes at w whole)) ∙ ap (λ (b : Built). written_over b c.args.number w) seen,
      ),
      record {
        writes_back = tt;
        value = c.slice_mut.ensures.value
            ∙ (ap (λ n. take n (drop (c.args.number * size) bytes)) (omega arith)
            ∙ (sym (page_of_cut size count bytes c.args.number (omega (arith, low, seen_count))) ∙ ap (λ (b : Built). bytes_of b c.args.number) seen));
        legal = subst (λ (b : Built). IsTrue (is_page_size b.size)) seen c.self.invariant.legal;
        whole = subst AreWhole seen (λ p below. page_length size count bytes p whole (omega (arith, below, length_cut size count bytes)));
      },
    )
