use Rattle.std.proofs.Common.{◌≡◌, ◌∙◌, ap, subst, sym, IfOk, All}
use Rattle.bdb_need.proofs.Common.{IsShort, tree_size, Pairs, Records, AscendFrom, pairs_of, HasBytes, IsTreeList, keyed_units, record_units, units_in, IsShortUnit, leaf_type_of, filled_pairs}
use Rattle.bdb_need.proofs.Common.{values_in, unlined_pairs, tree_pages}
use Rattle.bdb_need.proofs.SectionLemmas.{keyed_as_is, keys_have_bytes, numbers_ascend, short_units, short_values}
use Rattle.bdb_need.proofs.trees.filled_tree_pages.Goals as goal

-- Of a btree no record is filled up.
pub keyed_pages-requires-clause-keys : goal.keyed_pages-requires-clause-keys
keyed_pages-requires-clause-keys c =
    let settings = c.args.settings.now in
    let pairs = c.args.list.now in
    let list : IsTreeList settings (unlined_pairs pairs) = subst (λ ps. IsTreeList settings (unlined_pairs ps)) (keyed_as_is settings pairs c.in-Btree.is)
    c.requires.list in
    subst (λ ps. All (λ pair. HasBytes pair.key) (unlined_pairs ps)) (sym c.as_slice.ensures) (keys_have_bytes settings pairs c.in-Btree.is list)

pub keyed_pages-requires-clause-short : goal.keyed_pages-requires-clause-short
keyed_pages-requires-clause-short c =
    let settings = c.args.settings.now in
    let pairs = c.args.list.now in
    let list : IsTreeList settings (unlined_pairs pairs) = subst (λ ps. IsTreeList settings (unlined_pairs ps)) (keyed_as_is settings pairs c.in-Btree.is)
    c.requires.list in
    subst (λ ps. All IsShortUnit (keyed_units (unlined_pairs ps))) (sym c.as_slice.ensures) (short_units settings pairs c.in-Btree.is list)

pub returns-in-Btree-clause-pages : goal.returns-in-Btree-clause-pages
returns-in-Btree-clause-pages c =
    let settings = c.args.settings.now in
    let pairs = c.args.list.now in
    let same : tree_size Pairs settings.page_size settings.sorted (keyed_units (pairs_of c.as_slice.result))
    ≡ tree_pages settings (unlined_pairs (filled_pairs settings pairs)) =
    ap (λ ps. tree_size Pairs settings.page_size settings.sorted (keyed_units (unlined_pairs ps)))
    (c.as_slice.ensures ∙ sym (keyed_as_is settings pairs c.in-Btree.is))
    ∙ ap (λ k. tree_size (leaf_type_of k) settings.page_size settings.sorted (units_in k (unlined_pairs (filled_pairs settings pairs)))) (sym c.in-Btree.is) in
    subst (λ n. IfOk c.keyed_pages.result (λ pages. pages ≡ n)) same c.keyed_pages.ensures.pages

pub record_pages-requires-clause-ascend : goal.record_pages-requires-clause-ascend
record_pages-requires-clause-ascend c =
    let settings = c.args.settings.now in
    subst (λ ps. AscendFrom 1 (unlined_pairs (filled_pairs settings ps))) (sym c.as_slice-in-Recno.ensures)
    (numbers_ascend settings (filled_pairs settings c.args.list.now) c.in-Recno.is c.requires.list)

pub record_pages-requires-clause-short : goal.record_pages-requires-clause-short
record_pages-requires-clause-short c =
    let settings = c.args.settings.now in
    subst (λ ps. All IsShort (values_in (filled_pairs settings ps))) (sym c.as_slice-in-Recno.ensures)
    (short_values settings (filled_pairs settings c.args.list.now) c.requires.list)

pub returns-in-Recno-clause-pages : goal.returns-in-Recno-clause-pages
returns-in-Recno-clause-pages c =
    let settings = c.args.settings.now in
    c.record_pages.ensures.pages settings.sorted
    ∙ (ap (λ ps. tree_size Records settings.page_size settings.sorted (record_units 1 (unlined_pairs (filled_pairs settings ps)))) c.as_slice-in-Recno.ensures
    ∙ ap (λ k. tree_size (leaf_type_of k) settings.page_size settings.sorted (units_in k (unlined_pairs (filled_pairs settings c.args.list.now))))
    (sym c.in-Recno.is))
