-- Laws that several crates use.
use Rattle.bdb_image.proofs.of_format.ReferenceLemmas.{no_refs, of_all}
use Rattle.std.proofs.Common.{◌≡◌, ℕ}
use Rattle.bdb_image.specs.of_format.declared.metadata.FileKind.TheVariants.{Queue}
use Rattle.bdb_image.specs.of_format.declared.references.Sort.{Sort}
use Rattle.bdb_image.specs.of_format.Terms.{File, refs}
use Rattle.bdb_image.proofs.of_format.MemberLemmas.{no_member}
use Rattle.bdb_image.specs.Linked.{IsTarget}

-- a file with a reference is no queue file
pub is_no_queue : (file : File) (sort : Sort) (p : ℕ) → IsTarget file sort p → file.kind ≡ Queue → ⊥
is_no_queue file sort p is queue = no_member (refs file is.owner.holder) is.owner.reference (no_refs file is.owner.holder queue)
    (of_all file is.owner is.held).1
