use Rattle.std.proofs.Common.{◌∙◌, ap, sym}
use Rattle.bdb_overflow.specs.of_layout.Seen.{leaf_item_seen}
use Rattle.bdb_overflow.specs.of_format.Terms.{File, file_of}
use Rattle.bdb_tree.specs.Entries.{values_of}
use Rattle.bdb_tree.proofs.EntryLemmas.{deleted_value, rest_fit}
use Rattle.bdb_tree.proofs.set.SetValuesIterator.next.Goals as goal

pub invariant_of-self : goal.invariant_of-self
invariant_of-self c =
    let inside = c.loop-entry.self-inside in
    rest_fit (file_of inside.forest) (leaf_item_seen c.in-Some.entry) c.next.new.self inside.entries c.in-Some.ensures.steps
    c.loop-entry.invariant.fit

-- A deleted entry gives nothing.
pub loop-entry-preserved : goal.loop-entry-preserved
loop-entry-preserved c =
    let inside = c.loop-entry.self-inside in
    let file : File = file_of inside.forest in
    let entry = leaf_item_seen c.in-Some.entry in
    record {
      left =
          sym (ap (values_of file) c.in-Some.ensures.steps
          ∙ deleted_value file entry c.next.new.self (sym c.is_deleted.ensures ∙ c.if-not-is_deleted.false))
          ∙ c.loop-entry.invariant.left;
      fit = rest_fit file entry c.next.new.self inside.entries c.in-Some.ensures.steps c.loop-entry.invariant.fit;
    }
