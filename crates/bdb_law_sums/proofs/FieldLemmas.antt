-- What the references to roots and to buckets weigh, metadata does.
use Rattle.std.proofs.Common.{◌≡◌, ◌≢◌, ℕ, ◌+◌, true, false, cond, List, arith, refl, sym, ◌∙◌, ap, ◌==◌}
use Rattle.std.specs.List.{range_with_len, sum_by}
use Rattle.bdb_tree.specs.of_format.declared.metadata.FileKind.TheVariants.{Queue as QueueFile}
use Rattle.bdb_tree.specs.of_format.declared.pages.RecnoItem.{RecnoItem}
use Rattle.bdb_tree.specs.of_format.declared.references.Sort.{Sort}
use Rattle.bdb_tree.specs.of_format.declared.references.Sort.TheVariants.{Root, Bucket, HashNext, Child}
use Rattle.bdb_tree.specs.of_format.Terms.{BtreeFields, File, Hash, HashFields, Internal, InternalItem, Meta, Metadata, Owner, Page, QueueFields}
use Rattle.bdb_tree.specs.of_format.Terms.{RecnoInternal, all_references, fields_in, fields_of, file_of, first_page, held_by, page_at, refs}
use Rattle.bdb_tree.proofs.of_format.ReferenceLemmas.{forest_names}
use Rattle.bdb_law_sums.proofs.CountLemmas.{sum_none, sum_parts, sum_same}
use Rattle.bdb_law_sums.proofs.MetaLemmas.{fields_by_page}
use Rattle.bdb_law_sums.proofs.NameLemmas.{OfStructure, named_sum, named_weight, sum_map, sum_refs}

-- a weight of references by which all but roots and buckets weigh nothing
pub record OfMetadata (f : Sort → ℕ → ℕ) : Type 0 where
  pub structure : OfStructure f
  pub child : (t : ℕ) → f Child t ≡ 0
  pub next : (t : ℕ) → f HashNext t ≡ 0

-- what the root, or the buckets, of metadata weigh
abbrev pub fields_weight : (Sort → ℕ → ℕ) → Metadata → ℕ
fields_weight f (BtreeFields meta) = f Root meta.root
fields_weight f (HashFields meta) = sum_by (λ b. f Bucket (first_page b meta.spares)) (range_with_len 0 (meta.max_bucket + 1))
fields_weight f (QueueFields meta) = 0

page_fields : (f : Sort → ℕ → ℕ) (page : Page) → OfMetadata f → named_weight f page ≡ sum_by (fields_weight f) (fields_in page)
page_fields f (Meta (BtreeFields meta)) of = omega arith
page_fields f (Meta (HashFields meta)) of = omega arith
page_fields f (Meta (QueueFields meta)) of = refl
page_fields f (Hash page) of =
    let next : ℕ = page.header.next in
    elim (next == 0) as (λ b. cond b 0 (f HashNext next) ≡ 0) [ true ↦ refl | false ↦ of.next next ]
page_fields f (Internal page) of = sum_none (λ (item : InternalItem). f Child item.child) page.items (λ item at. of.child item.child)
page_fields f (RecnoInternal page) of = sum_none (λ (item : RecnoItem). f Child item.child) page.items (λ item at. of.child item.child)
page_fields f page of = refl

pub metadata_weight : (image : List ℕ) (f : Sort → ℕ → ℕ) → (file_of image).kind ≢ QueueFile → OfMetadata f
    → sum_by (λ (owner : Owner). f owner.reference.sort owner.reference.target) (all_references (file_of image))
    ≡ sum_by (fields_weight f) (fields_of (file_of image))
unfolding all_references
metadata_weight image f kind of =
    let file : File = file_of image in
    let pages : List ℕ = range_with_len 0 (file.last + 1) in
    let g : Owner → ℕ = λ (owner : Owner). f owner.reference.sort owner.reference.target in
    sum_parts g (held_by file) pages
    ∙ (sum_same (λ p. sum_by g (held_by file p)) (λ p. sum_by (fields_weight f) (fields_in (page_at file p))) pages (λ p at.
    sum_map g (λ r. record { holder = p; reference = r }) (refs file p)
    ∙ (sum_refs f file p
    ∙ (ap (sum_by (λ (name : Sort × ℕ). f name.0 name.1)) (forest_names file.kind p (page_at file p) kind)
    ∙ (named_sum f p (page_at file p) of.structure ∙ page_fields f (page_at file p) of))))
    ∙ sym (fields_by_page image (fields_weight f)))
