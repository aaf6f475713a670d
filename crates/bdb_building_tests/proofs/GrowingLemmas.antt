-- Trees that take a pair more.
use Rattle.std.proofs.Common.{◌≡◌, ℕ, true, List, [], ◌∷◌, ◌++◌, map, refl, sym, ◌∙◌, ap, subst, Option, Some}
use Rattle.std.specs.Cmp.Derive.{both_true}
use Rattle.std.proofs.lemmas.Bool.{and_parts}
use Rattle.std.proofs.lemmas.List.{map-append}
use Rattle.bdb_need.specs.of_format.Terms.{ascends, ascends_from, less}
use Rattle.bdb_need.specs.of_pack.Built.{Built}
use Rattle.bdb_need.specs.of_mkleaves.Units.{KeyedUnit, TreeUnit, key_of}
use Rattle.bdb_mktree.specs.Building.{Building, units_of}
use Rattle.bdb_mktree.specs.Units.{IsNext}
use Rattle.bdb_mktree.specs.declared.builder.TreeBuilder.{TreeBuilder}
use Rattle.bdb_building_tests.specs.Trees.{IsGrowing, is_above}

-- a key above the last one keeps the order
more_from : (value : List ℕ) (keys : List (List ℕ)) (last key : List ℕ) → ascends_from value (keys ++ (last ∷ [])) ≡ true → less last key ≡ true
    → ascends_from value ((keys ++ (last ∷ [])) ++ (key ∷ [])) ≡ true
more_from value [] last key is above = both_true (and_parts (less value last) true is).0 (both_true above refl)
more_from value (next ∷ keys) last key is above =
    let parts = and_parts (less value next) (ascends_from next (keys ++ (last ∷ []))) is in both_true parts.0 (more_from next keys last key parts.1 above)

more : (keys : List (List ℕ)) (last key : List ℕ) → ascends (keys ++ (last ∷ [])) ≡ true → less last key ≡ true
    → ascends ((keys ++ (last ∷ [])) ++ (key ∷ [])) ≡ true
more [] last key is above = both_true above refl
more (next ∷ keys) last key is above = more_from next keys last key is above

-- a tree that took a key above its last one
pub grown : (old_pages new_pages : Built) (old new : TreeBuilder) (before : Option (List ℕ)) (key : List ℕ) (values : List (List ℕ))
    → IsGrowing old_pages old before → is_above before key ≡ true → Building new new_pages → new.settings ≡ old.settings
    → units_of new new_pages ≡ units_of old old_pages ++ (KeyedUnit key values ∷ []) → IsGrowing new_pages new (Some key)
grown old_pages new_pages old new before key values growing above building settings units =
    record {
      building = building;
      kind = ap (λ s. s.kind) settings ∙ growing.kind;
      next = λ other higher.
          subst (λ keys. ascends (keys ++ (other ∷ [])) ≡ true) (sym (ap (map key_of) units ∙ map-append key_of (units_of old old_pages)
          (KeyedUnit key values ∷ [])))
          (more (map key_of (units_of old old_pages)) key other (growing.next key above) higher);
    }

-- a key above the last one of a tree comes next
pub comes_next : (pages : Built) (builder : TreeBuilder) (last : Option (List ℕ)) (key : List ℕ) (values : List (List ℕ)) (unit : TreeUnit)
    → IsGrowing pages builder last → is_above last key ≡ true → unit ≡ KeyedUnit key values → IsNext builder.settings (units_of builder pages) unit
comes_next pages builder last key values unit growing above is = λ kind.
    let keys = ap (λ u. map key_of (units_of builder pages ++ (u ∷ []))) is ∙ map-append key_of (units_of builder pages) (KeyedUnit key values ∷ []) in
    ap ascends keys ∙ growing.next key above
