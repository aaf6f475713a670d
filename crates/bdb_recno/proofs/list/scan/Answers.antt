use Rattle.std.proofs.Common.{◌≡◌, ◌∙◌, ap, arith, inl, length}
use Rattle.bdb_tree.specs.of_format.Terms.{file_of, tree_entries}
use Rattle.bdb_recno.proofs.ScanLemmas.{few_records}
use Rattle.bdb_recno.proofs.list.scan.Goals as goal

pub over-requires : goal.over-requires
over-requires c =
    let image = c.args.linked.now in
    let root = c.args.meta.now.root in
    let pages = c.pages_of-forest.ensures in
    let entries = c.tree_entries-entries in
    let same : entries.result ≡ tree_entries (file_of image) root = entries.ensures.entries ∙ ap (λ i. tree_entries (file_of i) root) pages.pages in
    record {
      fit = entries.ensures.fit;
      room = omega (arith, few_records image root pages.forest (inl pages.root) pages.recno, ap length same);
    }
