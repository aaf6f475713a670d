use Rattle.std.proofs.Common.{◌∙◌, ap, sym}
use Rattle.bdb_tree.specs.of_layout.Seen.{leaf_item_seen}
use Rattle.bdb_tree.specs.of_format.Terms.{File, file_of}
use Rattle.bdb_recno.specs.Entries.{listed_after}
use Rattle.bdb_recno.proofs.ScanLemmas.{numbered_on, skips_deleted}
use Rattle.bdb_recno.proofs.listing.ScanIterator.next.Goals as goal

pub invariant_of-self-then-not-is_deleted : goal.invariant_of-self-then-not-is_deleted
invariant_of-self-then-not-is_deleted c =
    let inside = c.loop-entry.self-inside in
    numbered_on (file_of inside.forest) inside.passed (leaf_item_seen c.in_ok-entry.entry) c.next.new.self inside.entries
    c.in_ok-entry.ensures.steps c.loop-entry.invariant.numbered

-- A deleted entry gives nothing.
pub loop-entry-preserved : goal.loop-entry-preserved
loop-entry-preserved c =
    let inside = c.loop-entry.self-inside in
    let file : File = file_of inside.forest in
    let entry = leaf_item_seen c.in_ok-entry.entry in
    record {
      left =
          sym (ap (listed_after file inside.passed) c.in_ok-entry.ensures.steps
          ∙ skips_deleted file inside.passed entry c.next.new.self (sym c.is_deleted.ensures ∙ c.if-not-is_deleted.false))
          ∙ c.loop-entry.invariant.left;
      numbered = numbered_on file inside.passed entry c.next.new.self inside.entries c.in_ok-entry.ensures.steps c.loop-entry.invariant.numbered;
    }
