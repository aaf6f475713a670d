use Rattle.std.proofs.Common.{◌≡◌, ◌∙◌, ◌∷◌, ◌≤◌, ap, sym}
use Rattle.std.proofs.lemmas.List.Elements.{All-rest}
use Rattle.bdb_overflow.specs.of_format.Terms.{File, entries_in, file_of}
use Rattle.bdb_tree.specs.Entries.{leaf_entries_seen}
use Rattle.bdb_tree.proofs.EntryLemmas.{next_leaf}
use Rattle.bdb_tree.proofs.entries.TreeEntriesIterator.next.Goals as goal

-- The next leaf is at hand, with all its entries.
pub loop-entry-preserved : goal.loop-entry-preserved
loop-entry-preserved c =
    let inside = c.loop-entry.self-inside in
    let file : File = file_of inside.forest in
    let rest = c.next-in-loop-entry.new.self in
    let more : inside.leaves ≡ c.number.result ∷ rest = c.in_ok-leaf.ensures.steps ∙ ap (λ p. p ∷ rest) (sym c.number.ensures) in
    record {
      left =
          next_leaf file (leaf_entries_seen inside.entries) (leaf_entries_seen c.of_page-self-inside.result) inside.leaves rest c.number.result
          c.in_default.ensures.0 more (c.of_page-self-inside.ensures ∙ ap entries_in c.page.ensures.page)
          ∙ c.loop-entry.invariant.left;
      there = All-rest (λ p. p ≤ file.last) c.number.result rest inside.leaves more c.loop-entry.invariant.there;
    }
