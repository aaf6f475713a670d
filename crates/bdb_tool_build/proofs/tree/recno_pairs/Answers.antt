use Rattle.std.proofs.Common.{◌≡◌, ◌+◌, ◌∙◌, ℕ, List, [], ap, map, refl, subst, sym, flat_map}
use Rattle.std.specs.List.{enumerate_from}
use Rattle.bdb_model.specs.of_format.Terms.{file_of, listed_entry, recno_list, tree_entries}
use Rattle.bdb_onto.specs.Bases.{text_pair}
use Rattle.bdb_ranks.proofs.of_tree.EntryLemmas.{rest_fit}
use Rattle.bdb_ranks.specs.of_layout.Seen.{leaf_item_seen}
use Rattle.bdb_ranks.specs.of_tree.Entries.{AreFit}
use Rattle.bdb_model.specs.of_format.Terms.{Item}
use Rattle.bdb_model.specs.of_text_format.declared.pairs.TextPair.{TextPair}
use Rattle.bdb_tool_build.specs.Gathered.{AreListing, IsEnough}
use Rattle.bdb_tool_build.proofs.EnoughLemmas.{adds_enough, listing_ends}
use Rattle.bdb_tool_build.proofs.GatheredLemmas.{entry_fits}
use Rattle.bdb_tool_build.proofs.TreeLemmas.{record_more, records_begin}
use Rattle.bdb_tool_build.proofs.tree.recno_pairs.Goals as goal

pub loop-entry-init : goal.loop-entry-init
loop-entry-init c =
    let image : List ℕ = c.args.linked.now in
    let root : ℕ = c.args.meta.now.root in
    let found : c.tree_entries-entries.result ≡ tree_entries (file_of image) root =
    rw (c.forest-forest.ensures, c.number.ensures, c.root.ensures.number) at c.tree_entries-entries.ensures.entries in
    record {
      image = c.in_ok-all.ensures.image ∙ c.forest-forest.ensures;
      fit = subst (λ (i : List ℕ). AreFit (file_of i) c.tree_entries-entries.result) c.forest-forest.ensures c.tree_entries-entries.ensures.fit;
      pairs = records_begin c.args.beside.now (file_of image) root c.in_ok-all.all.gathered.pairs c.tree_entries-entries.result found c.in_ok-all.ensures.pairs;
    }

pub push_record-requires : goal.push_record-requires
push_record-requires c =
    entry_fits c.args.linked.now c.loop-entry.all.image c.loop-entry.entries c.next.new.self (leaf_item_seen c.in-Some.entry) c.in-Some.ensures.steps
    c.loop-entry.invariant.image c.loop-entry.invariant.fit

pub loop-entry-preserved : goal.loop-entry-preserved
loop-entry-preserved c = record {
  image = c.in_ok-push_record.ensures.image ∙ c.loop-entry.invariant.image;
  fit =
      rest_fit (file_of c.args.linked.now) (leaf_item_seen c.in-Some.entry) c.next.new.self c.loop-entry.entries c.in-Some.ensures.steps
      c.loop-entry.invariant.fit;
  pairs =
      record_more c.args.beside.now c.args.linked.now c.loop-entry.all.image [] _ c.loop-entry.all.gathered.pairs
      c.push_record.new.self.gathered.pairs c.in_ok-number.number c.loop-entry.entries c.next.new.self (leaf_item_seen c.in-Some.entry) c.loop-entry.invariant.image c.in-Some.ensures.steps
      (subst (λ (n : ℕ). AreListing c.args.beside.now [] c.loop-entry.all.gathered.pairs
      (map text_pair (recno_list (file_of c.args.linked.now) c.args.meta.now.root))
      (map text_pair (flat_map (listed_entry (file_of c.args.linked.now)) (enumerate_from n c.loop-entry.entries))))
      (sym c.in_ok-number.ensures) c.loop-entry.invariant.pairs) c.in_ok-push_record.ensures.pairs;
}

pub returns : goal.returns
returns c =
    let file = file_of c.args.linked.now in
    let all = map text_pair (recno_list file c.args.meta.now.root) in
    let now = c.loop-entry.all.gathered.pairs in
    let listed : List Item → List TextPair = λ entries. map text_pair (flat_map (listed_entry file) (enumerate_from (c.loop-entry.number + 1) entries)) in
    subst (IsEnough c.args.beside.now all) (sym c.into_pairs.ensures)
    (adds_enough c.args.beside.now [] now all refl
    (listing_ends c.args.beside.now [] now all (listed c.loop-entry.entries) c.loop-entry.invariant.pairs (ap listed c.in_default.ensures.steps.0)))
