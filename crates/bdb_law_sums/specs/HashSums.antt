-- Sums over hash pages: over all pages, and over the buckets that they belong to. Source: docs/FORMAT.md, "References".
use Rattle.std.specs.Prelude.{◌≡◌, ℕ, ◌+◌, Bool, true, false, List, [], ◌∷◌}
use Rattle.std.specs.List.{filter, range_with_len, sum_by}
use Rattle.bdb_tree.specs.of_format.declared.references.Sort.{Sort}
use Rattle.bdb_tree.specs.of_format.declared.references.Sort.TheVariants.{Bucket}
use Rattle.bdb_tree.specs.of_format.Terms.{File, Owner, StoredPair, all_references, by_key, chain, file_of, has_type, is_spare, page_at, type_in}
use Rattle.bdb_tree.specs.of_image.Linked.{IsForest}

abbrev pub is_hash_page : File → ℕ → Bool
is_hash_page file p = has_type (2 ∷ 13 ∷ []) (type_in (page_at file p))

-- hash pages alone weigh something, and of them those that aren't empty by themselves
pub record WeighsHash (file : File) (weight : ℕ → ℕ) : Type 0 where
  pub other : (p : ℕ) → is_hash_page file p ≡ false → weight p ≡ 0
  pub spare : (p : ℕ) → is_spare (page_at file p) ≡ true → weight p ≡ 0

abbrev pub is_bucket : Sort → Bool
is_bucket Bucket = true
is_bucket sort = false

-- Each hash page that weighs something stands in one bucket, once.
abbrev pub HashPagesAreOfBuckets : Type 0
HashPagesAreOfBuckets =
    (image : List ℕ) (weight : ℕ → ℕ) → IsForest image → WeighsHash (file_of image) weight
    → sum_by weight (range_with_len 0 ((file_of image).last + 1))
    ≡ sum_by (λ (owner : Owner). sum_by weight (chain (file_of image) owner.reference.target))
    (filter (λ (owner : Owner). is_bucket owner.reference.sort) (all_references (file_of image)))

-- pairs in the order of their keys weigh the same
abbrev pub SortedPairsWeighTheSame : Type 0
SortedPairsWeighTheSame = (weight : StoredPair → ℕ) (pairs : List StoredPair) → sum_by weight (by_key pairs) ≡ sum_by weight pairs
