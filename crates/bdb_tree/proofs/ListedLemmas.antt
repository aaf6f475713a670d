-- Metadata pages, and what is noted of the pages of a list one by one.
use Rattle.std.proofs.Common.{◌≡◌, ℕ, ◌+◌, ◌<◌, ◌≤◌, true, List, length, get_or, take, Some, sym, ◌∙◌, subst, arith}
use Rattle.std.specs.List.{Contains, flat_map, range_with_len, slice_get}
use Rattle.std.proofs.lemmas.List.{take_all}
use Rattle.std.proofs.lemmas.Option.{slice_get-get_or, slice_get_within}
use Rattle.bdb_overflow.specs.of_format.declared.kinds.Fault.{Fault}
use Rattle.bdb_overflow.specs.of_format.Terms.{File, is_meta, page_at}
use Rattle.bdb_overflow.proofs.of_format.MemberLemmas.{in_filter, in_range, of_filter, of_range}
use Rattle.bdb_faults.specs.Notes.{NotesAll}
use Rattle.bdb_faults.proofs.SinkLemmas.{notes_next}
use Rattle.bdb_overflow.specs.of_image.Linked.{meta_pages}

pub meta_at : (file : File) (p : ℕ) → Contains (meta_pages file) p → (p ≤ file.last) × (is_meta (page_at file p) ≡ true)
unfolding meta_pages
meta_at file p at =
    let listed = of_filter (λ q. is_meta (page_at file q)) (range_with_len 0 (file.last + 1)) p at in
    (omega (arith, (of_range 0 (file.last + 1) p listed.0).1), listed.1)

pub at_meta : (file : File) (p : ℕ) → p ≤ file.last → is_meta (page_at file p) ≡ true → Contains (meta_pages file) p
unfolding meta_pages
at_meta file p low is =
    in_filter (λ q. is_meta (page_at file q)) (range_with_len 0 (file.last + 1)) p (in_range 0 (file.last + 1) p (omega arith) (omega arith)) is

-- those of the item at a place
pub one_more : (before middle after : List Fault → Type 0) (give : ℕ → List Fault) (pages : List ℕ) (i p : ℕ) → slice_get pages i ≡ Some p
    → NotesAll before middle (flat_map give (take i pages)) → NotesAll middle after (give p) → NotesAll before after (flat_map give (take (i + 1) pages))
one_more before middle after give pages i p is first second =
    let inside : i < length pages = slice_get_within pages i p is in
    let here : Some (get_or pages i p) ≡ Some p = sym (slice_get-get_or pages i p inside) ∙ is in
    let same : get_or pages i p ≡ p = cc in
    notes_next before middle after give pages i p inside first (subst (λ q. NotesAll middle after (give q)) (sym same) second)

pub no_more : (before after : List Fault → Type 0) (give : ℕ → List Fault) (pages : List ℕ) (i : ℕ) → i ≡ length pages
    → NotesAll before after (flat_map give (take i pages)) → NotesAll before after (flat_map give pages)
no_more before after give pages i all noted =
    subst (λ ps. NotesAll before after (flat_map give ps)) (take_all i pages (omega arith)) noted
