use Rattle.std.proofs.Common.{◌≡◌, ◌≤◌, ◌^◌, arith, length, ◌∙◌, ap}
use Rattle.bdb_rescue.proofs.LooseCountLemmas.{loose_few}
use Rattle.bdb_rescue.specs.Kept.{file_in}
use Rattle.bdb_rescue.specs.of_survey.Salvage.{loose, salvaged_file}
use Rattle.bdb_apart.proofs.CountLemmas.{left_few}
use Rattle.bdb_apart.proofs.apart.Apart.records_left.Goals as goal

-- They are loose records, of which there are at most half as many as the image has bytes, and pages are read of an image that isn't too long.
pub returns-clause-few : goal.returns-clause-few
returns-clause-few c =
    let read = c.pages-pages.type_inv.1.0.0 in
    let is : salvaged_file read.guess.order read.guess.page_size read.image.now ≡ c.pages-pages.result = c.pages-pages.type_inv.1.0.1.0 in
    let small : length read.image.now ≤ 2 ^ 30 = c.pages-pages.type_inv.1.0.1.1.small in
    omega (
      arith,
      ap length c.over.ensures,
      left_few c.args.self.now,
      ap (λ file. length (loose file)) (is ∙ (c.pages-pages.ensures ∙ ap file_in c.self.view_is)),
      loose_few read.guess.order read.guess.page_size read.image.now,
      small,
    )
