use Rattle.std.proofs.Common.{◌≡◌, ◌+◌, ◌∙◌, ap, sym, arith, subst}
use Rattle.bdb_mkfile.proofs.Common.{pairs_of, Settings, AreNamed, settings_of_master}
use Rattle.bdb_text_format.specs.Terms.{unlined_pairs}
use Rattle.bdb_mkfile.proofs.NamedMasterLemmas.{entries_listed, master_built}
use Rattle.bdb_mkfile.proofs.master.build_master.Goals as goal

pub build_tree-requires-clause-list : goal.build_tree-requires-clause-list
build_tree-requires-clause-list c =
    let settings = c.settings_of_master-settings.result in
    let are = c.settings_of_master-settings.ensures in
    entries_listed settings (pairs_of c.as_slice.result) c.in_ok-first.first c.args.sections.now
    (are ∙ ap (λ (s : Settings). settings_of_master s.page_size s.order) (sym are))
    (subst (λ n. AreNamed n c.args.sections.now) (sym (ap (λ (s : Settings). s.page_size) are)) c.requires.named)
    (ap unlined_pairs c.as_slice.ensures ∙ c.in_ok-entries.ensures)

pub returns : goal.returns
returns c =
    master_built c.args.sections.now c.args.page_size c.settings_of_master-settings.result c.in_ok-count.count c.in_ok-first.first (pairs_of c.as_slice.result)
    c.args.pages.now c.build_tree.new.pages c.in_ok-root.root c.named_tree_meta.result
    (record {
      size_is = c.requires.size;
      settings_are = c.settings_of_master-settings.ensures ∙ ap (settings_of_master c.args.page_size) c.order.ensures.order;
      count_is = c.in_ok-count.ensures;
      first_is =
          (let sum : c.in_ok-first.first ≡ c.count.result + c.in_ok-count.count = grind (arith, c.in_ok-first.ensures, c.checked_add.ensures) in sum)
          ∙ ap (λ n. n + c.in_ok-count.count) c.count.ensures.count;
      list_is = ap unlined_pairs c.as_slice.ensures ∙ c.in_ok-entries.ensures;
      tree = c.in_ok-root.ensures;
      meta_is = c.named_tree_meta.ensures;
    })
