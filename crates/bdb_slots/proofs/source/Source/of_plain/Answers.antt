use Rattle.std.proofs.Common.{◌∙◌, ap, subst}
use Rattle.bdb_form.specs.of_format.declared.references.Sort.TheVariants.{HashNext}
use Rattle.bdb_form.specs.Seen.{page_seen}
use Rattle.bdb_slots.specs.Plain.{IsPlain}
use Rattle.bdb_slots.specs.Slots.{names_from}
use Rattle.bdb_slots.specs.declared.source.Source.TheVariants.{Next}
use Rattle.bdb_slots.proofs.PlainLemmas.{plain_leaf, plain_recno_leaf, plain_dup_leaf, plain_bucket}
use Rattle.bdb_slots.proofs.source.Source.of_plain.Goals as goal

pub returns-in-Leaf-clause-names : goal.returns-in-Leaf-clause-names
returns-in-Leaf-clause-names c = λ p. rw c.in-Leaf.is (plain_leaf p c.in-Leaf._page (subst (λ view. IsPlain (page_seen view)) c.in-Leaf.is c.requires.plain))

pub returns-in-RecnoLeaf-clause-names : goal.returns-in-RecnoLeaf-clause-names
returns-in-RecnoLeaf-clause-names c =
    λ p. rw c.in-RecnoLeaf.is (plain_recno_leaf p c.in-RecnoLeaf._page (subst (λ view. IsPlain (page_seen view)) c.in-RecnoLeaf.is c.requires.plain))

pub returns-in-DupLeaf-clause-names : goal.returns-in-DupLeaf-clause-names
returns-in-DupLeaf-clause-names c =
    λ p. rw c.in-DupLeaf.is (plain_dup_leaf p c.in-DupLeaf._page (subst (λ view. IsPlain (page_seen view)) c.in-DupLeaf.is c.requires.plain))

pub returns-in-Hash-clause-names : goal.returns-in-Hash-clause-names
returns-in-Hash-clause-names c =
    λ p. rw c.in-Hash.is (ap (λ header. names_from (Next HashNext header.next) 0) c.header.ensures
    ∙ plain_bucket p c.in-Hash.page (subst (λ view. IsPlain (page_seen view)) c.in-Hash.is c.requires.plain))
