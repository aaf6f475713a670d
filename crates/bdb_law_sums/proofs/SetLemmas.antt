-- A set off the page is named by the data item of a pair.
use Rattle.std.proofs.Common.{◌≡◌, ◌+◌, ◌*◌, sym, ◌∙◌, ap, inl, inr, get_or, Some}
use Rattle.bdb_tree.specs.of_format.declared.references.Sort.TheVariants.{DuplicateRoot, Root}
use Rattle.bdb_tree.specs.of_format.Terms.{File, Page, file_of, is_root_reference, no_item, page_at}
use Rattle.bdb_tree.proofs.of_format.ReferenceLemmas.{of_all}
use Rattle.bdb_tree.specs.Noted.{paired}
use Rattle.bdb_tree.proofs.RootLemmas.{reference_root, tree_of}
use Rattle.bdb_law_sums.specs.Databases.{SetsAreOfPairs}

pub sets_are_of_pairs : SetsAreOfPairs
sets_are_of_pairs image root forest is =
    let file : File = file_of image in
    let there = of_all file is.owner is.held in
    let page : Page = page_at file is.owner.holder in
    elim (reference_root image is.owner.holder is.owner.reference forest there.0 there.1 (ap is_root_reference is.sort_is)) [
      | inl named ↦ absurd (apart (sym named.0 ∙ is.sort_is))
      | inr set ↦ record {
        page = is.owner.holder;
        inside = there.0;
        index = set.1.0;
        below = set.1.1;
        names = tree_of (get_or (paired page) (2 * set.1.0 + 1) no_item).content root (set.1.2 ∙ ap Some is.target_is);
      }
    ]
  where
    apart : Root ≡ DuplicateRoot → ⊥
    apart same = cc
