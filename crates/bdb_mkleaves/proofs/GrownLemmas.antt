-- Filled leaves as the leaves of a tree, with what they hold.
use Rattle.std.proofs.Common.{◌≡◌, ℕ, suc, ◌<◌, List, [], ◌∷◌, ◌++◌, length, map, arith, refl, ap, subst, inl, inr, append-nil}
use Rattle.bdb_mkleaves.proofs.Common.{All, AllZip, Contains, flat_map, range_with_len, flat_map-append, All-contains, All-head, All-tail, flat_map-map, File, Item, Listed, Page, abstract_page}
use Rattle.bdb_mkleaves.proofs.Common.{first_or_zero, page_at, all_of, flat_map_same, flat_map_twice, map_joined, first_member, in_flat_map, later_member, no_member, of_flat_map, IsSamePage, Ascend}
use Rattle.bdb_mkleaves.proofs.Common.{content_pages, some_count, range_ascends, Node, key_heads, InnerType, Keyed, Numbered, Built, bytes_of, counted_member, unit_contents, AreLaid, IsNodeOf}
use Rattle.bdb_mkleaves.proofs.Common.{entries_on, held_by_leaves, inner_of, Entry, IsLeafIn, contents_of, leaf_of, own_content, first_of, heads_of, LinkedFrom, LeafUnits, Placed, StandsPlaced}
use Rattle.bdb_mkleaves.proofs.Common.{entries_of, pages_of, zip_units, LeafType, Pairs, Records, SortedData}
use Rattle.bdb_mkleaves.proofs.HeldLemmas.{leaves_stand}
use Rattle.bdb_mkleaves.proofs.LaidBranchLemmas.{heads_of_nodes}
use Rattle.bdb_mkleaves.proofs.PushLemmas.{whole_units}

-- Numbers with units.

-- leaves are as many as lists of what they hold
pub as_many : (type : LeafType) (built : Built) (previous : ℕ) (ps : List ℕ) (groups : List (List Placed)) (beyond : ℕ)
    → LinkedFrom type built previous ps (map (flat_map entries_of) groups) beyond → length ps ≡ length groups
as_many type built previous [] [] beyond from = refl
as_many type built previous [] (units ∷ groups) beyond from = absurd from
as_many type built previous (p ∷ ps) [] beyond from = absurd from
as_many type built previous (p ∷ ps) (units ∷ groups) beyond (holds, rest) = ap suc (as_many type built p ps groups beyond rest)

pub zip_pages : (ps : List ℕ) (groups : List (List Placed)) → length ps ≡ length groups → pages_of (zip_units ps groups) ≡ ps
zip_pages [] groups many = refl
zip_pages (p ∷ ps) [] many = absurd (omega (arith, many))
zip_pages (p ∷ ps) (units ∷ groups) many = ap (λ qs. p ∷ qs) (zip_pages ps groups (omega (arith, many)))

pub zip_groups : (ps : List ℕ) (groups : List (List Placed)) → length ps ≡ length groups
    → map (λ (leaf : LeafUnits). leaf.units) (zip_units ps groups) ≡ groups
zip_groups [] [] many = refl
zip_groups [] (units ∷ groups) many = absurd (omega (arith, many))
zip_groups (p ∷ ps) [] many = absurd (omega (arith, many))
zip_groups (p ∷ ps) (units ∷ groups) many = ap (λ us. units ∷ us) (zip_groups ps groups (omega (arith, many)))

zip_joined : (ps : List ℕ) (groups : List (List Placed)) → length ps ≡ length groups
    → flat_map (λ (leaf : LeafUnits). leaf.units) (zip_units ps groups) ≡ flat_map (λ leaf. leaf) groups
zip_joined [] [] many = refl
zip_joined [] (units ∷ groups) many = absurd (omega (arith, many))
zip_joined (p ∷ ps) [] many = absurd (omega (arith, many))
zip_joined (p ∷ ps) (units ∷ groups) many = ap (λ us. units ++ us) (zip_joined ps groups (omega (arith, many)))

-- the units of all leaves
pub zip_all : (ps : List ℕ) (closed : List (List Placed)) (units : List Placed) → length ps ≡ length (closed ++ (units ∷ []))
    → flat_map (λ (leaf : LeafUnits). leaf.units) (zip_units ps (closed ++ (units ∷ []))) ≡ flat_map (λ leaf. leaf) closed ++ units
zip_all ps closed units many = grind (arith, zip_joined, flat_map-append, append-nil)

-- what holds of all that lists have holds of what each has
pub all_joined : {X Y : Type 0} (P : Y → Type 0) (f : X → List Y) (xs : List X) → All P (flat_map f xs) → All (λ x. All P (f x)) xs
all_joined P f xs all = all_of (λ x. All P (f x)) xs (λ x at. all_of P (f x) (λ y among. All-contains P (flat_map f xs) y all (in_flat_map f xs x y at among)))

-- Leaves in a later file.

-- a leaf stays as it is: chains alone change
leaf_same : (type : LeafType) (page : Listed Item) (old new : Page) → old ≡ leaf_of type page → IsSamePage old new → new ≡ old
leaf_same type page old new is (inl same) = same
leaf_same type page old new is (inr more) = grind arith

next_is : (type : LeafType) (built : Built) (previous : ℕ) (ps : List ℕ) (groups : List (List Placed))
    → LinkedFrom type built previous ps (map (flat_map entries_of) groups) 0 → first_of ps 0 ≡ first_or_zero (pages_of (zip_units ps groups))
next_is type built previous [] groups from = refl
next_is type built previous (p ∷ ps) [] from = absurd from
next_is type built previous (p ∷ ps) (units ∷ groups) from = refl

pub laid_leaves : (type : LeafType) (built : Built) (g : File) (previous : ℕ) (ps : List ℕ) (groups : List (List Placed))
    → LinkedFrom type built previous ps (map (flat_map entries_of) groups) 0
    → ((p : ℕ) → Contains ps p → IsSamePage (abstract_page built.order (bytes_of built p)) (page_at g p))
    → All (λ (leaf : LeafUnits). All (StandsPlaced type g) leaf.units) (zip_units ps groups) → AreLaid type g previous (zip_units ps groups)
laid_leaves type built g previous [] groups from same stand = tt
laid_leaves type built g previous (p ∷ ps) [] from same stand = absurd from
laid_leaves type built g previous (p ∷ ps) (units ∷ groups) (holds, rest) same stand =
    let leaf : LeafUnits = record { page = p; units = units } in
    let here : All (StandsPlaced type g) units =
    All-head (λ (one : LeafUnits). All (StandsPlaced type g) one.units) leaf (zip_units ps groups) stand in (
      subst (λ n. IsLeafIn type g p previous n (flat_map entries_of units)) (next_is type built p ps groups rest)
          (leaves_stand type built p previous (first_of ps 0) (flat_map entries_of units) g holds
          (λ pairs. whole_units g units (subst (λ t. All (StandsPlaced t g) units) pairs here))
          (leaf_same type holds.page (abstract_page built.order (bytes_of built p)) (page_at g p) holds.is (same p (first_member p ps)))),
      here,
      laid_leaves type built g p ps groups rest (λ q among. same q (later_member p ps q among))
          (All-tail (λ (one : LeafUnits). All (StandsPlaced type g) one.units) leaf (zip_units ps groups) stand),
    )

-- What they hold.

contents_joined : (type : LeafType) (units : List Placed) → contents_of type (flat_map entries_of units) ≡ flat_map (unit_contents type) units
contents_joined Pairs units = flat_map_twice own_content entries_of units
contents_joined Records units = map_joined (λ (entry : Entry). entry.item.content) entries_of units
contents_joined SortedData units = map_joined (λ (entry : Entry). entry.item.content) entries_of units

pub contents_held : (type : LeafType) (placed : List LeafUnits) (all : List Placed) → flat_map (λ (leaf : LeafUnits). leaf.units) placed ≡ all
    → flat_map (unit_contents type) all ≡ flat_map (λ (leaf : LeafUnits). contents_of type (entries_on leaf)) placed
contents_held type placed all is = grind (arith, flat_map_twice, flat_map_same, contents_joined)

pub pages_named : (type : LeafType) (placed : List LeafUnits)
    → flat_map content_pages (flat_map (λ (leaf : LeafUnits). contents_of type (entries_on leaf)) placed) ≡ held_by_leaves type placed
pages_named type placed = grind (arith, flat_map_twice, flat_map-map)

-- Their keys.

-- the heads of chains that the keys name are among the pages that the leaves name
pub heads_among : (inner : InnerType) (type : LeafType) (placed : List LeafUnits) (nodes : List Node) (h : ℕ) → inner_of type ≡ inner
    → AllZip (IsNodeOf type) placed nodes → Contains (flat_map (heads_of inner) nodes) h → Contains (held_by_leaves type placed) h
heads_among Keyed type placed nodes h is zip at =
    counted_member h (held_by_leaves type placed)
    (omega (arith, heads_of_nodes type placed nodes h is zip, some_count h (flat_map (λ (node : Node). key_heads node.key) nodes) at))
heads_among Numbered type placed nodes h is zip at = absurd (no_member [] h refl (of_flat_map (heads_of Numbered) nodes h at).2)

-- Numbers that ascend.

-- numbers below others that follow each other
pub rise_on : (low first n : ℕ) (ps : List ℕ) → Ascend low ps → low < first → ((p : ℕ) → Contains ps p → p < first)
    → Ascend low (ps ++ range_with_len first n)
rise_on low first n [] rise below under = range_ascends low first n below
rise_on low first n (p ∷ ps) (up, rise) below under =
    (up, rise_on p first n ps rise (under p (first_member p ps)) (λ q among. under q (later_member p ps q among)))
