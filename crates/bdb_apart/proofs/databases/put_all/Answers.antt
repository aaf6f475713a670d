use Rattle.std.proofs.Common.{◌≡◌, ◌-◌, map, arith, ◌∙◌, ap}
use Rattle.bdb_rescue.specs.Kept.{file_in}
use Rattle.bdb_apart.specs.Found.{entries, meta_by}
use Rattle.bdb_apart.specs.Names.{entry_found}
use Rattle.bdb_apart.proofs.FoundLemmas.{folded_all, folded_more}
use Rattle.bdb_apart.proofs.databases.put_all.Goals as goal

pub loop-page-preserved : goal.loop-page-preserved
loop-page-preserved c =
    let file = file_in c.args.salvaged.now in
    record {
      within = omega (arith, c.loop-page-test.true);
      put = folded_more (meta_by c.args.named file (entries file)) (map entry_found c.args.dbs.now.entries) (map entry_found c.loop-page.dbs.entries) _ c.loop-page.page
          c.loop-page.auto.page c.loop-page.invariant.put c.in_ok-put_on.ensures;
    }

pub returns : goal.returns
returns c =
    let file = file_in c.args.salvaged.now in
    let count : c.count-page-end.result ≡ file.count = c.count-page-end.ensures.count ∙ ap (λ f. f.count) c.pages.ensures in
    let all : c.loop-page.page - 1 ≡ file.count - 1 =
    omega (arith, count, c.loop-page.invariant.within, c.loop-page-test.false, c.loop-page.auto.page) in
    folded_all (meta_by c.args.named file (entries file)) (map entry_found c.args.dbs.now.entries) _ c.loop-page.page file.count c.loop-page.auto.page all
    c.loop-page.invariant.put
