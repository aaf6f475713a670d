use Rattle.std.proofs.Common.{◌≡◌, ◌∙◌, ◌<◌, List, ℕ, arith, cond, refl, rules, subst, sym, ◌==◌}
use Rattle.bdb_faults.specs.Notes.{NotesAll}
use Rattle.bdb_ranks.specs.of_format.declared.rows.ContentsRow.TheVariants.{Separator}
use Rattle.bdb_ranks.specs.of_format.Terms.{File, Internal, file_of, has_wrong_separator, inner_pages, page_at, tree_pairs, value_of}
use Rattle.bdb_ranks.specs.of_image.Linked.{FitsLeafPage, IsForest}
use Rattle.bdb_ranks.specs.of_layout.Seen.{internal_item_seen, key_seen}
use Rattle.bdb_ranks.specs.of_overflow.Datum.{FitsContent}
use Rattle.bdb_btree.specs.Bounds.{OrderedIf, beyond, ends_of, joined, under_ends}
use Rattle.bdb_btree.specs.Counts.{IsKeyed}
use Rattle.bdb_btree.specs.Held.{FitsBounds, bounds_seen, ends_seen}
use Rattle.bdb_btree.specs.Noted.{faults_at}
use Rattle.bdb_btree.proofs.ItemLemmas.{LeadsTo, leads_to, leaf_noted, level}
use Rattle.bdb_btree.proofs.SeenLemmas.{all_ends, all_seen, more_seen, none_seen, whole_seen}
use Rattle.bdb_btree.proofs.separators.+note_separators.Goals as goal

-- The pages are those of the forest that the values are of.
pub returns-in_default-clause-noted : goal.returns-in_default-clause-noted
returns-in_default-clause-noted g t c =
    leaf_noted (g.F.FaultSink.has_noted c.args.found.now) c.args.known.now c.args.page Separator
    (λ p. has_wrong_separator (file_of c.args.known.now) (page_at (file_of c.args.known.now) p))
    (subst IsForest c.forest.ensures c.inner_view.ensures.forest)
    (subst (λ (of : List ℕ). FitsLeafPage (file_of of) c.args.page) c.forest.ensures (c.inner_view.ensures.leaf c.in_default.is))

pub loop-i-init : goal.loop-i-init
loop-i-init g t c =
    let file : File = file_of c.args.known.now in
    record {
      seen =
          none_seen (g.F.FaultSink.has_noted c.args.found.now) file c.new-bounds.result (c.new-bounds.ensures.none file)
          (c.new-bounds.ensures.ends file) (c.new-bounds.ensures.fits file);
      same = refl;
    }

-- The child of this item is a page of the same tree one level below.
pub note_separators-requires : goal.note_separators-requires
note_separators-requires g t c =
    let image : List ℕ = c.args.known.now in
    let same : c.loop-i.known ≡ image = c.loop-i.invariant.same in
    let leads : LeadsTo (file_of image) c.args.ordered c.args.page (internal_item_seen c.item-item.result) =
    leads_to image c.args.ordered c.args.page c.in-Some.view c.loop-i.i (internal_item_seen c.item-item.result)
    (subst IsForest c.forest.ensures c.inner_view.ensures.forest) c.requires.keyed c.requires.order
    (subst (λ (of : List ℕ). page_at (file_of of) c.args.page ≡ Internal c.in-Some.view) c.forest.ensures c.in-Some.ensures.inner)
    c.item-item.ensures in
    let keyed : IsKeyed (file_of c.loop-i.known) c.item-item.result.child =
    subst (λ (of : List ℕ). IsKeyed (file_of of) c.item-item.result.child) (sym same) leads.keyed in
    let order : OrderedIf c.args.ordered (file_of c.loop-i.known) c.item-item.result.child =
    subst (λ (of : List ℕ). OrderedIf c.args.ordered (file_of of) c.item-item.result.child) (sym same) leads.order in
    let smaller : level (file_of c.loop-i.known) c.item-item.result.child < level (file_of image) c.args.page =
    subst (λ (of : List ℕ). level (file_of of) c.item-item.result.child < level (file_of image) c.args.page) (sym same)
    (omega (arith, leads.level)) in
    search rules

pub see_item-requires-clause-key : goal.see_item-requires-clause-key
see_item-requires-clause-key g t c =
    let image : List ℕ = c.args.known.now in
    let leads : LeadsTo (file_of image) c.args.ordered c.args.page (internal_item_seen c.item-item.result) =
    leads_to image c.args.ordered c.args.page c.in-Some.view c.loop-i.i (internal_item_seen c.item-item.result)
    (subst IsForest c.forest.ensures c.inner_view.ensures.forest) c.requires.keyed c.requires.order
    (subst (λ (of : List ℕ). page_at (file_of of) c.args.page ≡ Internal c.in-Some.view) c.forest.ensures c.in-Some.ensures.inner)
    c.item-item.ensures in
    subst (λ (of : List ℕ). FitsContent (file_of of) (key_seen c.item-item.result.key))
    (sym (c.in_ok-below.ensures.same ∙ c.loop-i.invariant.same)) leads.key

pub loop-i-preserved : goal.loop-i-preserved
loop-i-preserved g t c =
    let file : File = file_of c.args.known.now in
    let before = c.loop-i.invariant.same in
    let after = c.in_ok-below.ensures.same ∙ before in
    record {
      seen =
          more_seen (g.F.FaultSink.has_noted c.args.found.now) (g.F.FaultSink.has_noted c.loop-i.found)
          (g.F.FaultSink.has_noted c.note_separators.new.found) file c.loop-i.bounds c.see_item.new.self c.in_ok-below.below c.in-Some.view.items
          c.loop-i.i (internal_item_seen c.item-item.result) c.item-item.ensures c.loop-i.invariant.seen
          (subst (λ (of : List ℕ). ends_seen (file_of of) c.in_ok-below.below ≡ ends_of (tree_pairs (file_of of) c.item-item.result.child)) before
          c.in_ok-below.ensures.ends)
          (subst (λ (of : List ℕ). NotesAll (g.F.FaultSink.has_noted c.loop-i.found) (g.F.FaultSink.has_noted c.note_separators.new.found)
          (faults_at Separator (λ p. has_wrong_separator (file_of of) (page_at (file_of of) p)) (inner_pages (file_of of) c.item-item.result.child)))
          before c.in_ok-below.ensures.noted)
          (subst (λ (of : List ℕ). bounds_seen (file_of of) c.see_item.new.self
          ≡ under_ends (cond (c.loop-i.i == 0) (bounds_seen (file_of of) c.loop-i.bounds)
          (beyond (bounds_seen (file_of of) c.loop-i.bounds) (value_of (file_of of) (internal_item_seen c.item-item.result).key)))
          (ends_seen (file_of of) c.in_ok-below.below)) after c.in_ok-see_item.ensures.bounds)
          (subst (λ (of : List ℕ). ends_seen (file_of of) c.see_item.new.self.ends
          ≡ joined (ends_seen (file_of of) c.loop-i.bounds.ends) (ends_seen (file_of of) c.in_ok-below.below)) after c.in_ok-see_item.ensures.ends)
          (subst (λ (of : List ℕ). FitsBounds (file_of of) c.see_item.new.self) after c.in_ok-see_item.ensures.fits);
      same = c.in_ok-see_item.ensures.same ∙ after;
    }

pub returns-clause-ends : goal.returns-clause-ends
returns-clause-ends g t c =
    all_ends (g.F.FaultSink.has_noted c.args.found.now) (g.F.FaultSink.has_noted c.loop-i.found) c.args.known.now c.args.page c.in-Some.view
    c.loop-i.bounds (subst IsForest c.forest.ensures c.inner_view.ensures.forest)
    (subst (λ (of : List ℕ). page_at (file_of of) c.args.page ≡ Internal c.in-Some.view) c.forest.ensures c.in-Some.ensures.inner)
    (whole_seen (g.F.FaultSink.has_noted c.args.found.now) (g.F.FaultSink.has_noted c.loop-i.found) (file_of c.args.known.now) c.loop-i.bounds
    c.in-Some.view.items c.loop-i.i (omega (arith, c.loop-i-test.false, c.entries-i-end.ensures)) c.loop-i.invariant.seen)

pub returns-clause-noted : goal.returns-clause-noted
returns-clause-noted g t c =
    all_seen (g.F.FaultSink.has_noted c.args.found.now) (g.F.FaultSink.has_noted c.loop-i.found) (g.F.FaultSink.has_noted c.note_if.new.found)
    c.args.known.now c.args.page c.in-Some.view c.loop-i.bounds (subst IsForest c.forest.ensures c.inner_view.ensures.forest)
    (subst (λ (of : List ℕ). page_at (file_of of) c.args.page ≡ Internal c.in-Some.view) c.forest.ensures c.in-Some.ensures.inner)
    (whole_seen (g.F.FaultSink.has_noted c.args.found.now) (g.F.FaultSink.has_noted c.loop-i.found) (file_of c.args.known.now) c.loop-i.bounds
    c.in-Some.view.items c.loop-i.i (omega (arith, c.loop-i-test.false, c.entries-i-end.ensures)) c.loop-i.invariant.seen)
    c.in_ok-note_if.ensures.noted
