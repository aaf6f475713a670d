-- The faults of what the databases of a file hold, by its metadata pages.
use Rattle.std.proofs.Common.{◌≡◌, ℕ, ◌+◌, ◌≤◌, true, false, cond, List, [], append-nil, Some, arith, refl, sym, ◌∙◌, ap, subst, ◌==◌, ◌&&◌, take, is_some}
use Rattle.bdb_btree.specs.of_format.Terms.{File, Meta, Metadata, QueueFields, abstract_page, contents_faults, database_faults, database_rows, fields_in}
use Rattle.bdb_btree.specs.of_format.Terms.{fields_of, file_of, head_of, is_meta, master_in, page_at, page_bytes}
use Rattle.std.specs.List.{Contains, flat_map, range_with_len, slice_get}
use Rattle.bdb_btree.specs.of_format.declared.kinds.Fault.{Fault}
use Rattle.bdb_btree.specs.of_format.declared.metadata.QueueMeta.{QueueMeta}
use Rattle.bdb_btree.specs.of_format.Verdict.{holding}
use Rattle.bdb_btree.proofs.of_format.MemberLemmas.{in_flat_map, in_map, is_empty, no_member, of_filter, of_flat_map, of_map, of_range, in_filter}
use Rattle.bdb_btree.proofs.of_format.VerdictLemmas.{IsOfStage, of_by_page}
use Rattle.bdb_btree.proofs.of_format.FileLemmas.{page_is}
use Rattle.bdb_btree.specs.of_image.Linked.{HasMetadata, meta_pages}
use Rattle.bdb_btree.proofs.of_graph.ReadLemmas.{is_of_page}
use Rattle.bdb_btree.specs.of_faults.Notes.{NotesAll}
use Rattle.bdb_btree.proofs.of_faults.SinkLemmas.{notes_none}
use Rattle.bdb_any_order.specs.Contents.{faults_on}
use Rattle.bdb_any_order.specs.Noted.{asked_on, is_asked, is_master}
use Rattle.bdb_any_order.specs.declared.rows.Which.{Which}
use Rattle.bdb_any_order.proofs.ContentLemmas.{in_contents, of_contents}
use Rattle.bdb_btree.proofs.of_tree.ListedLemmas.{one_more}

pub has_metadata : (file : File) (p : ℕ) (fields : Metadata) → p ≤ file.last → page_at file p ≡ Meta fields → HasMetadata file fields
has_metadata file p fields inside is = record { page = p; inside = inside; is = is }

-- no row speaks of queues
pub no_queue_fault : (file : File) (meta : QueueMeta) → database_faults file (QueueFields meta) ≡ []
unfolding database_faults
no_queue_fault file meta = is_empty (database_faults file (QueueFields meta)) none
  where
    none : (fault : Fault) → Contains (database_faults file (QueueFields meta)) fault → ⊥
    none fault at =
        let is : IsOfStage 8 0 (0 + (file.last + 1)) (λ p. holding (database_rows file (QueueFields meta) p)) fault =
        of_by_page 8 0 (file.last + 1) (λ p. holding (database_rows file (QueueFields meta) p)) fault at in
        no_member [] fault.code refl is.is_code

pub no_queue_noted : (has : List Fault → Type 0) (file : File) (meta : QueueMeta) → NotesAll has has (database_faults file (QueueFields meta))
no_queue_noted has file meta = subst (NotesAll has has) (sym (no_queue_fault file meta)) (notes_none has)

-- The metadata of a file is on its metadata pages.

of_fields : (image : List ℕ) (fields : Metadata) → Contains (fields_of (file_of image)) fields
    → (p : ℕ) × Contains (meta_pages (file_of image)) p × Contains (fields_in (page_at (file_of image) p)) fields
unfolding file_of meta_pages
of_fields image fields at =
    let found = of_flat_map fields_in (file_of image).pages fields at in
    let page =
    of_map (λ p. abstract_page (head_of image).order (page_bytes (head_of image) image p))
    (range_with_len 0 ((head_of image).last + 1)) found.0 found.1 in
    let within = of_range 0 ((head_of image).last + 1) page.0 page.1 in
    let same : page_at (file_of image) page.0 ≡ found.0 = page_is image page.0 (omega (arith, within.1)) ∙ page.2 in
    let here : Contains (fields_in (page_at (file_of image) page.0)) fields = subst (λ q. Contains (fields_in q) fields) (sym same) found.2 in (
      page.0,
      in_filter (λ p. is_meta (page_at (file_of image) p)) (range_with_len 0 ((head_of image).last + 1)) page.0 page.1
          (ap is_meta (is_of_page (page_at (file_of image) page.0) fields here)),
      here,
    )

pub in_fields : (image : List ℕ) (p : ℕ) (fields : Metadata) → Contains (meta_pages (file_of image)) p
    → Contains (fields_in (page_at (file_of image) p)) fields → Contains (fields_of (file_of image)) fields
unfolding file_of meta_pages
in_fields image p fields at here =
    let listed = of_filter (λ q. is_meta (page_at (file_of image) q)) (range_with_len 0 ((head_of image).last + 1)) p at in
    let within = of_range 0 ((head_of image).last + 1) p listed.0 in
    in_flat_map fields_in (file_of image).pages (abstract_page (head_of image).order (page_bytes (head_of image) image p)) fields
    (in_map (λ q. abstract_page (head_of image).order (page_bytes (head_of image) image q)) (range_with_len 0 ((head_of image).last + 1)) p listed.0)
    (subst (λ q. Contains (fields_in q) fields) (page_is image p (omega (arith, within.1))) here)

-- the faults of all metadata pages are those of stage 8
pub of_pages : (image : List ℕ) (fault : Fault)
    → Contains (flat_map (λ p. flat_map (database_faults (file_of image)) (fields_in (page_at (file_of image) p))) (meta_pages (file_of image))) fault
    → Contains (contents_faults (file_of image)) fault
of_pages image fault at =
    let file : File = file_of image in
    let page = of_flat_map (λ p. flat_map (database_faults file) (fields_in (page_at file p))) (meta_pages file) fault at in
    let found = of_flat_map (database_faults file) (fields_in (page_at file page.0)) fault page.2 in
    in_contents file fault (in_flat_map (database_faults file) (fields_of file) found.0 fault (in_fields image page.0 found.0 page.1 found.1) found.2)

pub in_pages : (image : List ℕ) (fault : Fault) → Contains (contents_faults (file_of image)) fault
    → Contains (flat_map (λ p. flat_map (database_faults (file_of image)) (fields_in (page_at (file_of image) p))) (meta_pages (file_of image))) fault
in_pages image fault at =
    let file : File = file_of image in
    let found = of_flat_map (database_faults file) (fields_of file) fault (of_contents file fault at) in
    let page = of_fields image found.0 found.1 in
    in_flat_map (λ p. flat_map (database_faults file) (fields_in (page_at file p))) (meta_pages file) page.0 fault page.1
    (in_flat_map (database_faults file) (fields_in (page_at file page.0)) found.0 fault page.2 found.2)

-- those of one more
pub database_more : (before middle after : List Fault → Type 0) (file : File) (which : Which) (i p : ℕ) (fields : Metadata)
    → slice_get (meta_pages file) i ≡ Some p → page_at file p ≡ Meta fields → is_asked which (is_master file p) ≡ true
    → NotesAll before middle (flat_map (asked_on which file) (take i (meta_pages file)))
    → NotesAll middle after (database_faults file fields) → NotesAll before after (flat_map (asked_on which file) (take (i + 1) (meta_pages file)))
database_more before middle after file which i p fields is page asked first second =
    let here : asked_on which file p ≡ database_faults file fields =
    ap (λ b. cond b (faults_on file p) []) asked
    ∙ (ap (λ q. flat_map (database_faults file) (fields_in q)) page ∙ append-nil (database_faults file fields)) in
    one_more before middle after (asked_on which file) (meta_pages file) i p is first (subst (NotesAll middle after) (sym here) second)

-- those of one that isn't asked for
pub database_passed : (before after : List Fault → Type 0) (file : File) (which : Which) (i p : ℕ) → slice_get (meta_pages file) i ≡ Some p
    → is_asked which (is_master file p) ≡ false
    → NotesAll before after (flat_map (asked_on which file) (take i (meta_pages file)))
    → NotesAll before after (flat_map (asked_on which file) (take (i + 1) (meta_pages file)))
database_passed before after file which i p is passed noted =
    let here : asked_on which file p ≡ [] = ap (λ b. cond b (faults_on file p) []) passed in
    one_more before after after (asked_on which file) (meta_pages file) i p is noted (subst (NotesAll after after) (sym here) (notes_none after))

-- the metadata on a page is that of the master
pub master_there : (file : File) (p : ℕ) (fields : Metadata) → page_at file p ≡ Meta fields
    → is_master file p ≡ (p == 0 && is_some (master_in (Meta fields)))
master_there file p fields page = ap (λ q. p == 0 && is_some (master_in q)) page
