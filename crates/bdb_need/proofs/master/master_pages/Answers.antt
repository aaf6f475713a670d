use Rattle.std.proofs.Common.{◌≡◌, [], ◌∷◌, ◌∙◌, sym}
use Rattle.bdb_need.proofs.NeedLemmas.{made_up, master_counted, master_is, master_list, names_pass, pushed_one}
use Rattle.bdb_need.proofs.master.master_pages.Goals as goal

pub tree_pages-requires-clause-list : goal.tree_pages-requires-clause-list
tree_pages-requires-clause-list c =
    let one : c.push.new.self ≡ made_up c.args.size c.in_ok-pairs.pairs ∷ [] =
    pushed_one c.args.size c.new-master.result c.push.new.self c.master_settings.result c.in_ok-pairs.pairs c.new-master.ensures
    c.master_settings.ensures c.in_ok-push.ensures.ok in
    master_list c.args.size c.push.new.self c.args.sections.now c.in-Some.section.now c.in_ok-pairs.pairs one c.in-Ok.ensures.sound
    c.in_ok-pairs.ensures (names_pass c.args.sections.now (sym c.are_short_names.ensures ∙ c.if-not-are_short_names.false))
    (master_is c.args.size c.in-Ok.settled c.push.new.self c.in-Some.section.now c.in_ok-pairs.pairs one c.in-Ok.ensures.lists c.in-Some.ensures)

pub returns-clause-pages : goal.returns-clause-pages
returns-clause-pages c =
    let one : c.push.new.self ≡ made_up c.args.size c.in_ok-pairs.pairs ∷ [] =
    pushed_one c.args.size c.new-master.result c.push.new.self c.master_settings.result c.in_ok-pairs.pairs c.new-master.ensures
    c.master_settings.ensures c.in_ok-push.ensures.ok in
    master_counted c.args.size c.in_ok-pages.pages c.args.sections.now c.in-Some.section.now c.in_ok-pairs.pairs c.in_ok-pairs.ensures
    (master_is c.args.size c.in-Ok.settled c.push.new.self c.in-Some.section.now c.in_ok-pairs.pairs one c.in-Ok.ensures.lists c.in-Some.ensures)
    c.in_ok-pages.ensures.pages
