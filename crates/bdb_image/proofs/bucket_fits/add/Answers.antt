use Rattle.std.proofs.Common.{◌≡◌, ◌+◌, ◌∙◌, ap, arith, cond, get_or, sym, subst}
use Rattle.std.proofs.lemmas.List.{get_or_default}
use Rattle.bdb_image.specs.Buckets.{AreLasts}
use Rattle.bdb_image.proofs.BucketLemmas.{lasts_more}
use Rattle.bdb_image.proofs.bucket_fits.add.Goals as goal

-- The page is the last that fails, or the one before it stays so.
pub returns-clause-lasts : goal.returns-clause-lasts
returns-clause-lasts c = λ file code fails are.
    let before : c.index.result.now ≡ get_or c.args.lasts.now.items c.args.page 0 =
    c.index.ensures ∙ get_or_default c.args.lasts.now.items c.args.page _ 0 (omega (arith, c.requires.len)) in
    let last : c.last_with-last.result ≡ cond c.args.fails (c.args.page + 1) (get_or c.args.lasts.now.items c.args.page 0) =
    c.last_with-last.ensures ∙ ap (cond c.args.fails (c.args.page + 1)) before in
    subst (AreLasts file code) (sym c.in_ok-push.ensures.items)
    (lasts_more file code c.args.page c.last_with-last.result c.args.lasts.now.items c.args.fails c.requires.len fails last are)
