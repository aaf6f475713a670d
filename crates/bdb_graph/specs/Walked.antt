-- What one walk over the references of a file gathers beside tallies.
use Rattle.std.specs.Prelude.{◌≡◌, ℕ, Bool, true, false, List}
use Rattle.std.specs.List.{list_any}
use Rattle.bdb_graph.specs.declared.tally.Kinds.{Kinds}
use Rattle.bdb_image.specs.of_format.declared.references.Sort.{Sort}
use Rattle.bdb_image.specs.of_format.declared.references.Sort.TheVariants.{DuplicateRoot}
use Rattle.bdb_image.specs.of_format.Terms.{Owner, all_references, file_of, is_head_reference}
use Rattle.bdb_image.specs.Linked.{IsForest}

abbrev pub is_set_reference : Sort → Bool
is_set_reference DuplicateRoot = true
is_set_reference sort = false

-- a reference to the head of a chain
abbrev pub names_head : Owner → Bool
names_head owner = is_head_reference owner.reference.sort

-- a reference to the root of a set
abbrev pub names_set : Owner → Bool
names_set owner = is_set_reference owner.reference.sort

-- what some of these references name
pub record AreKinds (kinds : Kinds) (os : List Owner) : Type 0 where
  pub chains : kinds.chains ≡ list_any names_head os
  pub sets : kinds.sets ≡ list_any names_set os

-- an image for which the stages of references are decided, with what its references name
pub record IsWalked (image : List ℕ) (kinds : Kinds) : Type 0 where
  pub forest : IsForest image
  pub named : AreKinds kinds (all_references (file_of image))
