-- Laws that several crates use.
use Rattle.std.proofs.Common.{◌≡◌, ℕ, refl, [], ap, ◌+◌, ◌≤◌, arith, subst}
use Rattle.bdb_format.specs.declared.metadata.FileKind.{FileKind}
use Rattle.bdb_format.specs.declared.metadata.FileKind.TheVariants.{Btree, Hash as HashFile, Queue as QueueFile, Queue}
use Rattle.bdb_format.specs.Terms.{File, Owner, Page, all_references, held_by, page_at, refs, targets_in, targets_of}
use Rattle.std.specs.List.{Contains, range_with_len}
use Rattle.bdb_format.specs.declared.references.Reference.{Reference}
use Rattle.bdb_format.proofs.MemberLemmas.{in_flat_map, in_map, in_range, of_flat_map, of_map, of_range}

-- in a file that is no queue the names of a page are those that it holds
pub forest_names : (kind : FileKind) (p : ℕ) (page : Page) → (kind ≡ QueueFile → ⊥) → targets_of kind p page ≡ targets_in p page
forest_names Btree p page other = refl
forest_names HashFile p page other = refl
forest_names QueueFile p page other = absurd (other refl)

-- a page of a queue file names nothing
pub no_names : (kind : FileKind) (p : ℕ) (page : Page) → kind ≡ Queue → targets_of kind p page ≡ []
no_names kind p page queue = ap (λ k. targets_of k p page) queue

-- a page of a queue file holds no reference
pub no_refs : (file : File) (p : ℕ) → file.kind ≡ Queue → refs file p ≡ []
unfolding refs
no_refs file p queue = rw (no_names file.kind p (page_at file p) queue) refl

-- a reference of a page is one of the file
pub held_in_all : (file : File) (p : ℕ) (reference : Reference) → p ≤ file.last → Contains (refs file p) reference
    → Contains (all_references file) (record { holder = p; reference = reference })
unfolding all_references
held_in_all file p reference low held =
    in_flat_map (held_by file) (range_with_len 0 (file.last + 1)) p (record { holder = p; reference = reference })
    (in_range 0 (file.last + 1) p (omega arith) (omega arith))
    (in_map (λ r. record { holder = p; reference = r }) (refs file p) reference held)

-- a reference of a file is one of its holder
pub of_all : (file : File) (owner : Owner) → Contains (all_references file) owner
    → (owner.holder ≤ file.last) × Contains (refs file owner.holder) owner.reference
unfolding all_references
of_all file owner at =
    let page = of_flat_map (held_by file) (range_with_len 0 (file.last + 1)) owner at in
    let within = of_range 0 (file.last + 1) page.0 page.1 in
    let held = of_map (λ r. record { holder = page.0; reference = r }) (refs file page.0) owner page.2 in
    let low : page.0 ≤ file.last = omega (arith, within.1) in
    subst (λ (o : Owner). (o.holder ≤ file.last) × Contains (refs file o.holder) o.reference) held.2 (low, held.1)
