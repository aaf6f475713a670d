-- Numbers that no record has.
use Rattle.bdb_recno.proofs.of_format.PairLemmas.{get_append}
use Rattle.std.proofs.lemmas.Bool.Decides.{nat_tests}
use Rattle.std.proofs.Common.{◌≡◌, ℕ, ◌-◌, ◌≤◌, ◌^◌, true, List, [], ◌∷◌, ◌++◌, Some, None, arith, refl, sym, ◌∙◌, ap, inl}
use Rattle.std.specs.List.{flat_map, range_with_len}
use Rattle.std.proofs.lemmas.Option.{slice_get_past}
use Rattle.bdb_recno.specs.of_image.Linked.{HasMetadata, IsForest}
use Rattle.bdb_recno.proofs.of_graph.LinkedLemmas.{root_fits}
use Rattle.bdb_recno.specs.of_format.declared.metadata.BtreeMeta.{BtreeMeta}
use Rattle.bdb_recno.specs.of_format.declared.metadata.QueueMeta.{QueueMeta}
use Rattle.bdb_recno.specs.of_format.Terms.{BtreeFields, File, ListKey, NumberKey, Page, Queue, QueueFields, data_under, file_of, get, get_number, head_of}
use Rattle.bdb_recno.specs.of_format.Terms.{is_recno, listed_slot, number_in, page_at, page_records, queue_list, recno_list, structure_faults, tree_entries}
use Rattle.bdb_recno.specs.of_tree.Trees.{IsRoot}
use Rattle.bdb_recno.proofs.ListLemmas.{none_there}
use Rattle.bdb_recno.proofs.PageLemmas.{root_recno}
use Rattle.bdb_recno.proofs.ScanLemmas.{few_records}

-- Recnos.

pub past_records : (image : List ℕ) (meta : BtreeMeta) (number : ℕ) → IsForest image → structure_faults (file_of image) ≡ []
    → HasMetadata (file_of image) (BtreeFields meta) → is_recno meta ≡ true → 2 ^ 32 ≤ number
    → [] ≡ get (recno_list (file_of image) meta.root) (NumberKey number)
past_records image meta number forest stage has recno past =
    let is : IsRoot (file_of image) meta.root = inl (root_fits image (head_of image) meta forest.formed has) in
    let few = few_records image meta.root forest is (root_recno image meta forest has recno) in
    none_there (file_of image) meta.root number (number - 1) (omega arith)
    (sym (slice_get_past (tree_entries (file_of image) meta.root) (number - 1) (omega arith)))

-- Queues.

abbrev Rows : Type 0
Rows = List (ListKey × List ℕ)

in_no_part : (f : ℕ → Rows) (xs : List ℕ) (key : ListKey) → ((x : ℕ) → get (f x) key ≡ []) → get (flat_map f xs) key ≡ []
in_no_part f [] key none = refl
in_no_part f (x ∷ xs) key none =
    get_append (f x) (flat_map f xs) key
    ∙ (ap (λ (vs : List (List ℕ)). vs ++ get (flat_map f xs) key) (none x) ∙ in_no_part f xs key none)

in_no_slot : (meta : QueueMeta) (p : ℕ) (records : List ℕ) (number : ℕ) → meta.current ≤ number → (slot : ℕ)
    → get (listed_slot meta p records slot) (NumberKey number) ≡ []
in_no_slot meta p records number past slot = grind (arith, nat_tests)

in_no_page : (meta : QueueMeta) (p number : ℕ) (page : Page) → meta.current ≤ number → get (page_records meta p page) (NumberKey number) ≡ []
in_no_page meta p number (Queue n records) past =
    in_no_part (listed_slot meta p records) (range_with_len 0 meta.per_page) (NumberKey number) (in_no_slot meta p records number past)
in_no_page meta p number page past = refl

pub past_queue : (file : File) (meta : QueueMeta) (number : ℕ) → meta.current ≤ number → [] ≡ get (queue_list file meta) (NumberKey number)
unfolding queue_list
past_queue file meta number past =
    sym (in_no_part (λ p. page_records meta p (page_at file p)) (range_with_len 1 file.last) (NumberKey number)
    (λ p. in_no_page meta p number (page_at file p) past))

-- What a key that says a number asks for.

recno_asked : (file : File) (meta : BtreeMeta) (key : List ℕ) → is_recno meta ≡ true
    → get_number (recno_list file meta.root) (number_in key) ≡ data_under file (BtreeFields meta) key
recno_asked file meta key recno = rw recno refl

pub no_record_named : (file : File) (meta : BtreeMeta) (key : List ℕ) → is_recno meta ≡ true → None ≡ number_in key
    → [] ≡ data_under file (BtreeFields meta) key
no_record_named file meta key recno none = ap (get_number (recno_list file meta.root)) none ∙ recno_asked file meta key recno

pub record_named : (file : File) (meta : BtreeMeta) (key : List ℕ) (number : ℕ) (found : List (List ℕ)) → is_recno meta ≡ true
    → Some number ≡ number_in key
    → found ≡ get (recno_list file meta.root) (NumberKey number)
    → found ≡ data_under file (BtreeFields meta) key
record_named file meta key number found recno says is = is ∙ (ap (get_number (recno_list file meta.root)) says ∙ recno_asked file meta key recno)

pub no_number_queued : (file : File) (meta : QueueMeta) (key : List ℕ) → None ≡ number_in key → [] ≡ data_under file (QueueFields meta) key
no_number_queued file meta key none = ap (get_number (queue_list file meta)) none

pub number_queued : (file : File) (meta : QueueMeta) (key : List ℕ) (number : ℕ) (found : List (List ℕ)) → Some number ≡ number_in key
    → found ≡ get (queue_list file meta) (NumberKey number) → found ≡ data_under file (QueueFields meta) key
number_queued file meta key number found says is = is ∙ ap (get_number (queue_list file meta)) says
