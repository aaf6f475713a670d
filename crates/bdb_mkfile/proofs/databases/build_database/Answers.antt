use Rattle.std.proofs.Common.{◌∙◌, ap}
use Rattle.bdb_mkfile.proofs.Common.{IfOk-weaker, pairs_of, own_settings}
use Rattle.bdb_text_format.specs.Terms.{unlined_pairs}
use Rattle.bdb_mkfile.proofs.NamedBuildLemmas.{section_built}
use Rattle.bdb_mkfile.proofs.databases.build_database.Goals as goal

pub returns-in-Btree : goal.returns-in-Btree
returns-in-Btree c =
    IfOk-weaker c.build_named_tree.result _ _ (λ meta built.
    section_built c.args.section c.args.page_size c.settings_in-settings.result (pairs_of c.as_slice-list.result) c.args.pages.now c.build_named_tree.new.pages
    meta
    (record {
      named = c.requires.named;
      size_is = c.requires.size;
      settings_are =
          c.settings_in-settings.ensures
          ∙ ap (λ o. own_settings c.args.section.settings.kind c.args.page_size o c.args.section.settings) c.order.ensures.order;
      list_is = ap unlined_pairs c.as_slice-list.ensures;
    }) built)
    c.build_named_tree.ensures
