-- The references of metadata are those to the entrances of its part.
use Rattle.std.proofs.Common.{arith, ◌≡◌, ℕ, List, [], ◌∷◌, ◌++◌, map, length, refl, sym, ◌∙◌, ap, subst}
use Rattle.std.specs.List.{Contains, filter, enumerate_from}
use Rattle.std.proofs.lemmas.Bool.{eqb-true}
use Rattle.std.proofs.lemmas.List.{map-id}
use Rattle.std.proofs.lemmas.Simd.{map-map}
use Rattle.bdb_graph.specs.of_format.declared.metadata.FileKind.TheVariants.{Queue as QueueFile}
use Rattle.bdb_graph.specs.of_format.declared.references.Reference.{Reference}
use Rattle.bdb_graph.specs.of_format.declared.references.Sort.{Sort}
use Rattle.bdb_graph.specs.of_format.declared.references.Sort.TheVariants.{Root}
use Rattle.bdb_graph.specs.of_format.Terms.{BtreeFields, File, HashFields, Meta, Metadata, QueueFields, asked_by, first_free, held_by, page_at, refs}
use Rattle.bdb_graph.specs.of_format.Terms.{targets_in}
use Rattle.bdb_graph.proofs.of_format.MemberLemmas.{of_map}
use Rattle.bdb_pack.specs.of_law_grove.Part.{entrances, entrance_sort, entrance_asks}
use Rattle.bdb_pack.proofs.of_law_grove.OwnerLemmas.{names_page}
use Rattle.bdb_pack.proofs.of_law_grove.GroveLemmas.{reference_of, enumerated_names, of_references, refs_of}
use Rattle.bdb_pack.proofs.of_law_grove.SeveralLemmas.{count, named_count}
use Rattle.bdb_law_join.specs.Joining.{NamesNoFree}

no_free : (p free : ℕ) → (p ≡ 0 → free ≡ 0) → first_free p free ≡ []
no_free p free none = grind (arith, eqb-true)

-- an entrance as metadata names it
abbrev entrance_of : Metadata → ℕ → Sort × ℕ
entrance_of fields e = (entrance_sort fields, e)

-- metadata names its entrances
targets_of_meta : (p : ℕ) (fields : Metadata) → NamesNoFree p fields → targets_in p (Meta fields) ≡ map (entrance_of fields) (entrances fields)
targets_of_meta p (QueueFields meta) none = refl
targets_of_meta p (BtreeFields meta) none = ap (λ xs. xs ++ ((Root, meta.root) ∷ [])) (no_free p meta.free none)
targets_of_meta p (HashFields meta) none = grind (arith, no_free, map-map)

-- the references of a metadata page
refs_of_meta : (file : File) (m : ℕ) (fields : Metadata) → (file.kind ≡ QueueFile → ⊥) → page_at file m ≡ Meta fields → NamesNoFree m fields
    → refs file m ≡ map reference_of (enumerate_from 0 (map (entrance_of fields) (entrances fields)))
refs_of_meta file m fields forest is none =
    refs_of file m (Meta fields) forest is ∙ ap (λ names. map reference_of (enumerate_from 0 names)) (targets_of_meta m fields none)

-- an entrance that is named, by a reference of the entrances' sort
pub record NamesEntrance (fields : Metadata) (r : Reference) : Type 0 where
  pub target : Contains (entrances fields) r.target
  pub sort : r.sort ≡ entrance_sort fields

pub names_entrance : (file : File) (m : ℕ) (fields : Metadata) (r : Reference) → (file.kind ≡ QueueFile → ⊥) → page_at file m ≡ Meta fields
    → NamesNoFree m fields → Contains (refs file m) r → NamesEntrance fields r
names_entrance file m fields r forest is none at =
    let targets : List (Sort × ℕ) = map (entrance_of fields) (entrances fields) in
    let named = of_references 0 targets r (subst (λ rs. Contains rs r) (refs_of_meta file m fields forest is none) at) in
    let found = of_map (entrance_of fields) (entrances fields) (r.sort, r.target) named in
    record {
      target = subst (Contains (entrances fields)) (ap (λ (t : Sort × ℕ). t.1) found.2) found.1;
      sort = sym (ap (λ (t : Sort × ℕ). t.0) found.2);
    }

-- as many references to a page as there are entrances that are this page
pub count_of_meta : (file : File) (m p : ℕ) (fields : Metadata) → (file.kind ≡ QueueFile → ⊥) → page_at file m ≡ Meta fields → NamesNoFree m fields
    → length (filter (names_page p) (held_by file m)) ≡ count p (entrances fields)
count_of_meta file m p fields forest is none = grind (arith, named_count, count, refs_of_meta, enumerated_names, map-map, map-id)

-- what a metadata page asks of its entrances doesn't depend on where it stands
pub asks_same : (m : ℕ) (fields : Metadata) → asked_by m (Meta fields) (entrance_sort fields) ≡ entrance_asks fields
asks_same m (BtreeFields meta) = refl
asks_same m (HashFields meta) = refl
asks_same m (QueueFields meta) = refl
