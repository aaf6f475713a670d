-- The bucket of a hash is one of the table's: its masks are as form leaves them.
use Rattle.std.proofs.Common.{◌≡◌, ℕ, ◌≤◌, true, false, List, arith, refl, sym, ◌∙◌, subst, None}
use Rattle.std.proofs.lemmas.Bool.Decides.{nat_tests}
use Rattle.std.proofs.lemmas.Bool.{not-false}
use Rattle.std.proofs.lemmas.Nat.{and_le_r}
use Rattle.bdb_buckets.proofs.of_format.GraphLemmas.{typed_none}
use Rattle.bdb_buckets.specs.of_format.declared.metadata.HashMeta.{HashMeta}
use Rattle.bdb_buckets.specs.of_format.declared.metadata.Head.{Head}
use Rattle.bdb_buckets.specs.of_format.Terms.{HashFields, Meta, Page, Zero, abstract_page, are_masks, bucket, byte_at, file_of, form_code, head_of, is_zero}
use Rattle.bdb_buckets.specs.of_format.Terms.{page_as, page_bytes, page_type, typed_code}
use Rattle.bdb_buckets.specs.of_format.declared.pages.PageType.{PageType}
use Rattle.bdb_buckets.specs.of_format.declared.pages.PageType.TheVariants.{HashMeta as HashMetaPage}
use Rattle.bdb_buckets.proofs.of_format.VerdictLemmas.{none_is_first_row}
use Rattle.bdb_buckets.proofs.of_format.FileLemmas.{last_page, page_is}
use Rattle.bdb_buckets.specs.of_image.Linked.{HasMetadata, IsForest}
use Rattle.bdb_buckets.proofs.of_image.FirstLemmas.{formed_page}

-- the masks of a page that is metadata of a table
abbrev HasMasks : Page → Type 0
HasMasks (Meta (HashFields meta)) = are_masks meta ≡ true
HasMasks page = Unit {0}

masks_as : (head : Head) (number : ℕ) (page : List ℕ) (t : PageType) → typed_code head number page t ≡ None → HasMasks (page_as head.order page t)
masks_as head number page HashMetaPage none = grind (arith, not-false, none_is_first_row)
masks_as head number page t none = tt

masks_of : (head : Head) (number : ℕ) (page : List ℕ) → form_code head number page ≡ None → HasMasks (abstract_page head.order page)
unfolding abstract_page form_code
masks_of head number page none =
    let byte : ℕ = byte_at page 25 in
    elim (is_zero page) as (λ zeros. is_zero page ≡ zeros → HasMasks
    (elim zeros [ true ↦ Zero | false ↦ page_as head.order page (page_type byte) ])) [
      | true ↦ λ _. tt
      | false ↦ λ some.
          masks_as head number page (page_type byte)
          (typed_none head number page some none)
    ] refl

meta_masks : (image : List ℕ) (meta : HashMeta) → IsForest image → HasMetadata (file_of image) (HashFields meta) → are_masks meta ≡ true
meta_masks image meta forest has =
    let inside : has.page ≤ (head_of image).last = omega (arith, has.inside, last_page image) in
    subst HasMasks (sym (page_is image has.page inside) ∙ has.is)
    (masks_of (head_of image) has.page (page_bytes (head_of image) image has.page)
    (formed_page image has.page forest.formed.form inside))

-- The bucket of a hash.

pub bucket_within : (image : List ℕ) (meta : HashMeta) (hash : ℕ) → IsForest image → HasMetadata (file_of image) (HashFields meta)
    → bucket hash meta.max_bucket meta.high_mask meta.low_mask ≤ meta.max_bucket
bucket_within image meta hash forest has =
    grind (arith, nat_tests, meta_masks image meta forest has, and_le_r hash meta.high_mask, and_le_r hash meta.low_mask)
