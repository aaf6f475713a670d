-- Metadata of a queue stands in no file of trees and tables.
use Rattle.std.proofs.Common.{◌≡◌, ◌≢◌, ℕ, zero, suc, true, List, refl, subst, sym, ◌∙◌, true≢false}
use Rattle.bdb_tree.specs.of_format.declared.metadata.FileKind.{FileKind}
use Rattle.bdb_tree.specs.of_format.declared.metadata.FileKind.TheVariants.{Btree as BtreeFile, Hash as HashFile, Queue as QueueFile}
use Rattle.bdb_tree.specs.of_format.declared.metadata.QueueMeta.{QueueMeta}
use Rattle.bdb_tree.specs.of_format.Terms.{QueueFields, file_of, head_of, may_have_type, page_bytes}
use Rattle.bdb_tree.proofs.of_format.GraphLemmas.{type_fits}
use Rattle.bdb_tree.proofs.of_format.PageLemmas.{later_type}
use Rattle.bdb_tree.proofs.of_format.FileLemmas.{kind_is}
use Rattle.bdb_tree.specs.of_image.Linked.{HasMetadata, IsForest}
use Rattle.bdb_tree.proofs.of_image.CodeLemmas.{not_zero}
use Rattle.bdb_tree.proofs.of_graph.ReadLemmas.{IsMetaPage, page_of_meta}

no_queue_type : (kind : FileKind) (p : ℕ) → kind ≢ QueueFile → may_have_type kind p 10 ≡ true → ⊥
no_queue_type BtreeFile zero other may = absurd cc
no_queue_type HashFile zero other may = absurd cc
no_queue_type BtreeFile (suc p) other may = true≢false (sym may ∙ later_type BtreeFile p 10)
no_queue_type HashFile (suc p) other may = true≢false (sym may ∙ later_type HashFile p 10)
no_queue_type QueueFile p other may = other refl

pub no_queue_meta : (image : List ℕ) (meta : QueueMeta) → IsForest image → (file_of image).kind ≢ QueueFile
    → HasMetadata (file_of image) (QueueFields meta) → ⊥
no_queue_meta image meta forest kind has =
    let page : List ℕ = page_bytes (head_of image) image has.page in
    let is : IsMetaPage image has.page (QueueFields meta) = page_of_meta image (QueueFields meta) forest has in
    no_queue_type (head_of image).kind has.page (λ queue. kind (kind_is image ∙ queue))
    (subst (λ byte. may_have_type (head_of image).kind has.page byte ≡ true) is.read.0
    (type_fits (head_of image) has.page page (not_zero page QueueFile is.size is.read.0) is.formed))
