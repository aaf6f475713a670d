-- The root of a btree by its metadata.
use Rattle.std.proofs.Common.{◌≡◌, ℕ, true, false, cond, List, [], ◌∷◌, refl, subst}
use Rattle.bdb_ranks.specs.of_format.declared.metadata.BtreeMeta.{BtreeMeta}
use Rattle.bdb_ranks.specs.of_format.Terms.{BtreeFields, File, file_of, has_bit, has_type, page_at, type_in}
use Rattle.bdb_ranks.proofs.of_format.TypeLemmas.{of_type}
use Rattle.bdb_ranks.specs.of_image.Linked.{HasMetadata, IsForest}
use Rattle.bdb_ranks.proofs.of_tree.TreeLemmas.{meta_root_type}
use Rattle.bdb_btree.specs.Counts.{IsKeyed}

-- the root of a btree is one of pairs
pub root_keyed : (image : List ℕ) (meta : BtreeMeta) → IsForest image → HasMetadata (file_of image) (BtreeFields meta) → has_bit meta.flags 2 ≡ false
    → IsKeyed (file_of image) meta.root
root_keyed image meta forest has keyed =
    let file : File = file_of image in
    of_type (λ type. has_type (3 ∷ 5 ∷ 12 ∷ []) type ≡ true) (3 ∷ 5 ∷ []) (type_in (page_at file meta.root)) (refl, (refl, tt))
    (subst (λ b. has_type (cond b (4 ∷ 6 ∷ []) (3 ∷ 5 ∷ [])) (type_in (page_at file meta.root)) ≡ true) keyed (meta_root_type image meta forest has))
