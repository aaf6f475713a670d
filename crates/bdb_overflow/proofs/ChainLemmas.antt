-- The faults of stage 6 by chains, page by page, and the first of them.
use Rattle.std.proofs.Common.{◌≡◌, ℕ, ◌+◌, List, subst, zero-add}
use Rattle.std.specs.List.{flat_map, range_with_len}
use Rattle.bdb_graph.specs.of_faults.Notes.{Notes, NotesAll}
use Rattle.bdb_graph.proofs.of_faults.SinkLemmas.{notes_more, notes_none, notes_one}
use Rattle.bdb_graph.specs.of_format.declared.kinds.Fault.{Fault}
use Rattle.bdb_graph.specs.of_format.Terms.{File, chain_faults}
use Rattle.bdb_overflow.specs.Lengths.{faults_at}

-- the faults of the pages below one are noted
abbrev pub AreNotedBelow : (List Fault → Type 0) → (List Fault → Type 0) → File → ℕ → Type 0
AreNotedBelow before now file page = NotesAll before now (flat_map (faults_at file) (range_with_len 0 page))

pub none_below : (has : List Fault → Type 0) (file : File) → AreNotedBelow has has file 0
none_below has file = notes_none has

pub one_below : (before middle after : List Fault → Type 0) (file : File) (page : ℕ) → AreNotedBelow before middle file page
    → Notes middle after (faults_at file page) → AreNotedBelow before after file (page + 1)
one_below before middle after file page below here =
    notes_more before middle after (faults_at file) 0 page page (zero-add page) below (notes_one middle after (faults_at file page) here)

pub all_below : (before after : List Fault → Type 0) (file : File) (page : ℕ) → page ≡ file.last + 1 → AreNotedBelow before after file page
    → NotesAll before after (chain_faults file)
unfolding chain_faults
all_below before after file page all below =
    subst (λ n. NotesAll before after (flat_map (faults_at file) (range_with_len 0 n))) all below
