-- A queue whose pages have their form is sound: it has no references, and each page is an anchor.
use Rattle.std.proofs.Common.{◌≡◌, ℕ, zero, suc, ◌+◌, ◌≤◌, Bool, true, false, List, [], ◌∷◌, None, subst, arith, refl, sym, ◌∙◌, ap, inl, inr, option_to_list}
use Rattle.std.specs.List.{Contains, range_with_len}
use Rattle.std.proofs.lemmas.Bool.{cases_Bool, eqb-true, or_left}
use Rattle.bdb_graph.specs.of_format.declared.metadata.FileKind.TheVariants.{Queue as QueueFile}
use Rattle.bdb_graph.specs.of_format.declared.metadata.Head.{Head}
use Rattle.bdb_graph.specs.of_format.declared.metadata.QueueMeta.{QueueMeta}
use Rattle.bdb_graph.specs.of_format.declared.references.Reference.{Reference}
use Rattle.bdb_graph.specs.of_format.Terms.{DupLeaf, File, Free, Hash, Internal, Leaf, Meta, Metadata, NoType, Overflow, Owner, Page, Queue, QueueFields}
use Rattle.bdb_graph.specs.of_format.Terms.{RecnoInternal, RecnoLeaf, Zero, abstract_page, all_references, byte_at, chains_in, contents_faults, contents_rows}
use Rattle.bdb_graph.specs.of_format.Terms.{database_rows, faults_of, fields_in, fields_of, file_of, first_judgement, form_code, form_faults, head_of, held_by}
use Rattle.bdb_graph.specs.of_format.Terms.{holds_code, holds_somewhere, is_anchor, is_anchor_in, is_meta, is_reserve, is_zero, leaf_places, master_faults}
use Rattle.bdb_graph.specs.of_format.Terms.{may_have_type, ownership_faults, page_as, page_at, page_bytes, page_type, queue_fields, reach_faults}
use Rattle.bdb_graph.specs.of_format.Terms.{reference_faults, refs, root_references, structure_faults}
use Rattle.bdb_graph.specs.of_format.Verdict.{holding}
use Rattle.bdb_graph.proofs.of_format.GraphLemmas.{each_page_has_one_role, type_fits, typed_page, zero_page}
use Rattle.bdb_graph.proofs.of_format.ListLemmas.{only_member}
use Rattle.bdb_graph.proofs.of_format.MemberLemmas.{is_empty, no_member, none_pass, of_flat_map, of_map}
use Rattle.bdb_graph.proofs.of_format.PageLemmas.{later_type}
use Rattle.bdb_graph.proofs.of_format.VerdictLemmas.{no_code, no_codes_at, no_faults, none_holds, none_in, none_within}
use Rattle.bdb_graph.proofs.of_format.FileLemmas.{kind_is, last_page, page_is}
use Rattle.bdb_graph.proofs.ReachLemmas.{at_end}
use Rattle.bdb_law_join.specs.Queues.{QueuesAreSound}
use Rattle.bdb_law_join.proofs.AloneLemmas.{master_rows_fail, named_kind, no_pairs_at, unnamed_at}
use Rattle.bdb_law_join.proofs.FirstLemmas.{first_type}
use Rattle.bdb_law_join.proofs.StageLemmas.{ArePages, no_fields, numbered_fail, pages_of_file}

-- Its pages.

-- a page of records, or a zero page
abbrev is_records : Page → Bool
is_records Zero = true
is_records (Queue number records) = true
is_records page = false

-- what form leaves of the pages
record IsQueueFile (file : File) (meta : QueueMeta) : Type 0 where
  kind : file.kind ≡ QueueFile
  named : page_at file 0 ≡ Meta (QueueFields meta)
  pages : (p : ℕ) → 1 ≤ p → p ≤ file.last → is_records (page_at file p) ≡ true

later_page : (head : Head) (p : ℕ) (page : List ℕ) → head.kind ≡ QueueFile → form_code head (suc p) page ≡ None
    → is_records (abstract_page head.order page) ≡ true
later_page head p page queue none =
    elim (cases_Bool (is_zero page)) [
      | inl zeros ↦ ap is_records (zero_page head.order page zeros)
      | inr some ↦
          let byte : ℕ = byte_at page 25 in
          let may : may_have_type QueueFile (suc p) byte ≡ true =
          ap (λ k. may_have_type k (suc p) byte) (sym queue) ∙ type_fits head (suc p) page some none in
          let type : byte ≡ 11 = eqb-true byte 11 (sym (later_type QueueFile p byte) ∙ may) in
          ap is_records (typed_page head.order page some) ∙ ap (λ b. is_records (page_as head.order page (page_type b))) type
    ]

formed : (image : List ℕ) (p : ℕ) → form_faults image ≡ [] → p ≤ (head_of image).last
    → form_code (head_of image) p (page_bytes (head_of image) image p) ≡ None
unfolding form_faults
formed image p none high =
    let head : Head = head_of image in
    no_code (form_code head p (page_bytes head image p))
    (no_codes_at 2 0 (head.last + 1) p (λ q. option_to_list (form_code head q (page_bytes head image q))) none (omega arith) (omega (arith, high)))

queue_file : (image : List ℕ) → form_faults image ≡ [] → (file_of image).kind ≡ QueueFile
    → IsQueueFile (file_of image) (queue_fields (head_of image).order (page_bytes (head_of image) image 0))
queue_file image none queue =
    let head : Head = head_of image in
    let kind : head.kind ≡ QueueFile = sym (kind_is image) ∙ queue in
    record {
      kind = queue;
      named = page_is image 0 (omega arith) ∙ first_type head (page_bytes head image 0) QueueFile kind (formed image 0 none (omega arith));
      pages = λ p above high. later p above (omega (arith, high, last_page image));
    }
  where
    later : (p : ℕ) → 1 ≤ p → p ≤ (head_of image).last → is_records (page_at (file_of image) p) ≡ true
    later zero above high = absurd (omega arith)
    later (suc p) above high =
        ap is_records (page_is image (suc p) high)
        ∙ later_page (head_of image) p (page_bytes (head_of image) image (suc p)) (sym (kind_is image) ∙ queue) (formed image (suc p) none high)

-- Stages 3 to 5.

no_refs : (file : File) (p : ℕ) → file.kind ≡ QueueFile → refs file p ≡ []
unfolding refs
no_refs file p queue = grind arith

references_none : (file : File) → file.kind ≡ QueueFile → reference_faults file ≡ []
unfolding reference_faults
references_none file queue = grind (arith, no_faults, no_refs, none_holds)

all_anchors : (file : File) (p : ℕ) → file.kind ≡ QueueFile → is_anchor file p ≡ true
unfolding is_anchor
all_anchors file p queue = ap (λ kind. is_anchor_in kind (page_at file p)) queue

graph_none : (file : File) → file.kind ≡ QueueFile → (ownership_faults file ≡ []) × (reach_faults file ≡ [])
graph_none file queue =
    (each_page_has_one_role file).1 (references_none file queue) (λ p low high.
    record {
      role = inl (all_anchors file p queue);
      reached = at_end file file.count p (or_left (is_anchor file p) (is_reserve file p) (all_anchors file p queue));
    })

-- Stage 6.

no_chains_in : (page : Page) → is_records page ≡ true → chains_in page ≡ []
no_chains_in Zero is = refl
no_chains_in (Queue number records) is = refl
no_chains_in (Free header) is = absurd cc
no_chains_in (Meta fields) is = absurd cc
no_chains_in (Hash page) is = absurd cc
no_chains_in (Internal page) is = absurd cc
no_chains_in (RecnoInternal page) is = absurd cc
no_chains_in (Leaf page) is = absurd cc
no_chains_in (RecnoLeaf page) is = absurd cc
no_chains_in (DupLeaf page) is = absurd cc
no_chains_in (Overflow header piece) is = absurd cc
no_chains_in NoType is = absurd cc

no_chains : (file : File) (meta : QueueMeta) (p : ℕ) → IsQueueFile file meta → p ≤ file.last → chains_in (page_at file p) ≡ []
no_chains file meta zero is high = ap chains_in is.named
no_chains file meta (suc p) is high = no_chains_in (page_at file (suc p)) (is.pages (suc p) (omega arith) high)

no_references : (file : File) → file.kind ≡ QueueFile → all_references file ≡ []
unfolding all_references
no_references file queue =
    is_empty (all_references file) (λ owner at.
    let page = of_flat_map (held_by file) (range_with_len 0 (file.last + 1)) owner at in
    let held = of_map (λ (r : Reference). let o : Owner = record { holder = page.0; reference = r } in o) (refs file page.0) owner page.2 in
    no_member (refs file page.0) held.0 (no_refs file page.0 queue) held.1)

no_places : (file : File) → file.kind ≡ QueueFile → leaf_places file ≡ []
unfolding leaf_places root_references
no_places file queue = rw (no_references file queue) refl

structure_none : (file : File) (meta : QueueMeta) → IsQueueFile file meta → structure_faults file ≡ []
unfolding structure_faults
structure_none file meta is = grind (arith, no_faults, none_holds, no_chains, no_places)

-- Stages 7 and 8.

no_meta_in : (page : Page) → is_records page ≡ true → is_meta page ≡ true → ⊥
no_meta_in Zero is meta = cc
no_meta_in (Queue number records) is meta = cc
no_meta_in page is meta = cc

master_none : (file : File) (meta : QueueMeta) → IsQueueFile file meta → master_faults file ≡ []
unfolding master_faults
master_none file meta is = grind (arith, no_faults, none_holds, master_rows_fail, no_pairs_at, named_kind, no_meta_in)

-- the only metadata is that of page 0
only_fields : (file : File) (meta : QueueMeta) (q : ℕ) (fields : Metadata) → IsQueueFile file meta → q ≤ file.last
    → Contains (fields_in (page_at file q)) fields → QueueFields meta ≡ fields
only_fields file meta zero fields is high on =
    only_member (QueueFields meta) fields (subst (λ page. Contains (fields_in page) fields) is.named on)
only_fields file meta (suc q) fields is high on = grind (arith, no_member, no_fields, no_meta_in)

contents_none : (file : File) (meta : QueueMeta) → IsQueueFile file meta → ArePages file → contents_faults file ≡ []
unfolding contents_faults
contents_none file meta is pages =
    no_faults 8 0 (file.last + 1) (λ p. holding (contents_rows file p)) (λ p low high.
    none_holds (contents_rows file p) (numbered_fail 1 9 (holds_somewhere file p) (λ code.
    none_pass (λ fields. holds_code code (database_rows file fields p)) (fields_of file) (λ fields at.
    let page = of_flat_map fields_in file.pages fields at in
    let there = pages page.0 page.1 in
    let same : QueueFields meta ≡ fields = only_fields file meta there.0 fields is there.1
    (subst (λ q. Contains (fields_in q) fields) (sym there.2) page.2) in
    ap (λ f. holds_code code (database_rows file f p)) (sym same)))))

pub queues_are_sound : QueuesAreSound
unfolding faults_of
queues_are_sound image none queue =
    let file : File = file_of image in
    let form : form_faults image ≡ [] = none_within 1 2 image 2 none (omega arith) (omega arith) in
    let meta : QueueMeta = queue_fields (head_of image).order (page_bytes (head_of image) image 0) in
    let is : IsQueueFile file meta = queue_file image form queue in
    let graph = graph_none file queue in
    let sound : faults_of image ≡ [] =
    none_in image (1 ∷ 2 ∷ 3 ∷ 4 ∷ 5 ∷ 6 ∷ 7 ∷ 8 ∷ []) (
      none_within 1 2 image 1 none (omega arith) (omega arith),
      (
        form,
        (
          references_none file queue,
          (
            graph.0,
            (graph.1, (structure_none file meta is, (master_none file meta is, (contents_none file meta is (pages_of_file image), tt)))),
          ),
        ),
      ),
    ) in
    record {
      sound = sound;
      verdict = ap first_judgement sound;
      meta = meta;
      named = is.named;
      alone = unnamed_at file (QueueFields meta) is.named refl;
    }
