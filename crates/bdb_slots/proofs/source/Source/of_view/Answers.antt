use Rattle.bdb_slots.proofs.SourceLemmas.{of_leaf, of_recno_leaf, of_dup_leaf, of_recno_internal, of_internal, of_hash}
use Rattle.bdb_slots.proofs.source.Source.of_view.Goals as goal

pub returns-in-Leaf-clause-names : goal.returns-in-Leaf-clause-names
returns-in-Leaf-clause-names c = λ p. rw c.in-Leaf.is (of_leaf p c.in-Leaf.page)

pub returns-in-RecnoLeaf-clause-names : goal.returns-in-RecnoLeaf-clause-names
returns-in-RecnoLeaf-clause-names c = λ p. rw c.in-RecnoLeaf.is (of_recno_leaf p c.in-RecnoLeaf.page)

pub returns-in-DupLeaf-clause-names : goal.returns-in-DupLeaf-clause-names
returns-in-DupLeaf-clause-names c = λ p. rw c.in-DupLeaf.is (of_dup_leaf p c.in-DupLeaf.page)

pub returns-in-RecnoInternal-clause-names : goal.returns-in-RecnoInternal-clause-names
returns-in-RecnoInternal-clause-names c = λ p. rw c.in-RecnoInternal.is (of_recno_internal p c.in-RecnoInternal.page)

pub returns-in-Internal-clause-names : goal.returns-in-Internal-clause-names
returns-in-Internal-clause-names c = λ p. rw c.in-Internal.is (of_internal p c.in-Internal.page)

pub returns-in-Hash-clause-names : goal.returns-in-Hash-clause-names
returns-in-Hash-clause-names c = λ p. rw c.in-Hash.is (of_hash p c.in-Hash.page)
