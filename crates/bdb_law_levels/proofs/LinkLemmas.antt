-- Links of leaves.
use Rattle.std.proofs.Common.{arith, ◌≡◌, ℕ, true, false, List, [], ◌∷◌, eq-eqb, refl}
use Rattle.std.specs.List.{All, list_any}
use Rattle.std.proofs.lemmas.Bool.{and_from, or_from}
use Rattle.std.proofs.lemmas.List.Elements.{All-head, All-tail}
use Rattle.bdb_law_grove.specs.of_format.declared.references.Sort.{Sort}
use Rattle.bdb_law_grove.specs.of_format.declared.references.Sort.TheVariants.{Root, DuplicateRoot}
use Rattle.bdb_law_grove.specs.of_format.Terms.{File, has_type, page_at, places_from, type_in, wrong_leaf_types}
use Rattle.bdb_law_grove.proofs.of_format.TypeLemmas.{AllTypes, of_type}
use Rattle.bdb_law_grove.specs.Part.{is_wrong_place}
use Rattle.bdb_law_levels.specs.Links.{AreLinked, LinksOfTowers, LinksStand, leaf_types}
use Rattle.bdb_law_levels.proofs.NodeLemmas.{towers_have_leaves}

right_types : (sort : Sort) → AllTypes (λ type. has_type (wrong_leaf_types sort) type ≡ false) (leaf_types sort)
right_types Root = (refl, (refl, tt))
right_types DuplicateRoot = (refl, (refl, tt))
right_types sort = tt

abbrev IsTyped : File → Sort → ℕ → Type 0
IsTyped g sort p = has_type (leaf_types sort) (type_in (page_at g p)) ≡ true

links_from : (g : File) (sort : Sort) (before : ℕ) (ps : List ℕ) → AreLinked g before ps → All (IsTyped g sort) ps
    → list_any (is_wrong_place g) (places_from sort before ps) ≡ false
links_from g sort before [] linked typed = refl
links_from g sort before (p ∷ ps) linked typed =
    grind (arith, of_type, right_types, All-head, and_from, eq-eqb, or_from, All-tail, links_from g sort p ps linked.2 (All-tail (IsTyped g sort) p ps typed))

pub links_stand : LinksStand
links_stand g sort = links_from g sort 0

pub links_of_towers : LinksOfTowers
links_of_towers type g sort level below above root tower have right = grind (arith, towers_have_leaves)
