-- The faults of leaves as they are noted are those of the stage.
use Rattle.std.proofs.Common.{◌≡◌, ◌⊎◌, ℕ, zero, suc, ◌+◌, ◌/◌, ◌<◌, ◌≤◌, Bool, true, false, List, [], ◌∷◌, length, take, get_or, arith, refl, sym, ◌∙◌, ap}
use Rattle.std.proofs.Common.{subst, inl, inr, Option, Some, None, ◌==◌, ◌&&◌, slice_index}
use Rattle.std.specs.List.{All, Contains, flat_map, list_any, range_with_len}
use Rattle.std.proofs.lemmas.Bool.{and_from, and_parts, eq-eqb, eqb-true, ne_eqb}
use Rattle.std.proofs.lemmas.List.{take_all}
use Rattle.std.proofs.lemmas.List.Elements.{Contains-append_cases, Contains-append_left, Contains-append_right, Contains-get_or}
use Rattle.bdb_faults.specs.Notes.{AreSame, Notes, NotesAll}
use Rattle.bdb_overflow.specs.of_format.Terms.{File, LeafPlace, Meta, Owner, Page, all_references, fault_if, file_of, first_or_zero, is_meta}
use Rattle.bdb_overflow.specs.of_format.Terms.{is_root_reference, is_wrong_leaf, is_wrong_link, leaf_places, leaves, page_at, places_from, refs}
use Rattle.bdb_overflow.specs.of_format.Terms.{root_references, structure_row_code, tree_faults, tree_rows, ◌:?◌}
use Rattle.bdb_overflow.specs.of_format.declared.rows.Row.TheVariants.{Structure}
use Rattle.bdb_overflow.specs.of_format.declared.rows.StructureRow.{StructureRow}
use Rattle.bdb_overflow.specs.of_format.declared.rows.StructureRow.TheVariants.{LeafKind, LeafLink}
use Rattle.bdb_faults.proofs.SinkLemmas.{notes_next, notes_one}
use Rattle.bdb_overflow.specs.of_format.declared.kinds.Fault.{Fault}
use Rattle.bdb_overflow.specs.of_format.declared.references.Reference.{Reference}
use Rattle.bdb_overflow.specs.of_format.declared.references.Sort.{Sort}
use Rattle.bdb_overflow.specs.of_format.declared.references.Sort.TheVariants.{DuplicateRoot, Root}
use Rattle.bdb_overflow.specs.of_format.Verdict.{holding}
use Rattle.bdb_overflow.proofs.of_format.FaultLemmas.{same_parts}
use Rattle.bdb_overflow.proofs.of_format.ListLemmas.{any_member, only_member, passes_here}
use Rattle.bdb_overflow.proofs.of_format.MemberLemmas.{first_member, in_flat_map, in_range, is_empty, later_member, member_cases, no_member, of_filter}
use Rattle.bdb_overflow.proofs.of_format.MemberLemmas.{of_flat_map, of_range}
use Rattle.bdb_overflow.proofs.of_format.ReferenceLemmas.{of_all}
use Rattle.bdb_overflow.proofs.of_format.VerdictLemmas.{in_by_page, of_by_page}
use Rattle.bdb_overflow.specs.of_image.Linked.{FitsLeafPage, IsForest, IsTarget, meta_pages}
use Rattle.bdb_overflow.specs.of_graph.Walked.{names_set}
use Rattle.bdb_tree.specs.Noted.{by_part, data_faults, data_root, held_faults, held_sets, meta_faults, meta_root, paired, place_faults, place_in, root_faults}
use Rattle.bdb_tree.specs.Trees.{IsTreePage}
use Rattle.bdb_tree.proofs.ListedLemmas.{at_meta, meta_at}
use Rattle.bdb_tree.proofs.RootLemmas.{data_root_fits, meta_root_fits, no_sets, reference_is_tree, reference_root}
use Rattle.bdb_tree.proofs.TreeLemmas.{leaf_fits, leaf_low, place_of_root}

-- Places.

length_places : (sort : Sort) (before : ℕ) (ps : List ℕ) → length (places_from sort before ps) ≡ length ps
length_places sort before [] = refl
length_places sort before (p ∷ ps) = ap (λ n. suc n) (length_places sort p ps)

-- the leaf before leaf i
abbrev before_at : ℕ → List ℕ → ℕ → ℕ
before_at before ps zero = before
before_at before ps (suc i) = slice_index ps i

later_before : (p : ℕ) (ps : List ℕ) (i : ℕ) → before_at p ps i ≡ slice_index (p ∷ ps) i
later_before p ps zero = refl
later_before p ps (suc i) = refl

place_is : (sort : Sort) (before : ℕ) (ps : List ℕ) (i : ℕ) (d : LeafPlace) → i < length ps → get_or (places_from sort before ps) i d
    ≡ record { tree = sort; before = before_at before ps i; leaf = slice_index ps i; after = slice_index ps (suc i) }
place_is sort before [] i d below = absurd (omega arith)
place_is sort before (p ∷ []) zero d below = refl
place_is sort before (p ∷ (q ∷ ps)) zero d below = refl
place_is sort before (p ∷ ps) (suc i) d below = grind (arith, later_before, place_is sort p ps i d (omega arith))

place_same : (sort : Sort) (ps : List ℕ) (i : ℕ)
    → ◌≡◌ {A = LeafPlace} (record { tree = sort; before = before_at 0 ps i; leaf = slice_index ps i; after = slice_index ps (suc i) })
    (place_in sort ps i)
place_same sort ps zero = refl
place_same sort ps (suc i) = grind (arith, ne_eqb)

-- one leaf more
pub place_more : (before middle after : List Fault → Type 0) (f : LeafPlace → List Fault) (sort : Sort) (ps : List ℕ) (i : ℕ) → i < length ps
    → NotesAll before middle (flat_map f (take i (places_from sort 0 ps))) → Notes middle after (f (place_in sort ps i))
    → NotesAll before after (flat_map f (take (i + 1) (places_from sort 0 ps)))
place_more before middle after f sort ps i below first second =
    let places : List LeafPlace = places_from sort 0 ps in
    let place : LeafPlace = place_in sort ps i in
    let is : get_or places i place ≡ place = place_is sort 0 ps i place below ∙ place_same sort ps i in
    notes_next before middle after f places i place (omega (arith, length_places sort 0 ps)) first
    (notes_one middle after (f (get_or places i place)) (subst (λ q. Notes middle after (f q)) (sym is) second))

-- after the last one all are passed
pub all_places : (f : LeafPlace → List Fault) (sort : Sort) (ps : List ℕ) (i : ℕ) → length ps ≤ i
    → flat_map f (take i (places_from sort 0 ps)) ≡ flat_map f (places_from sort 0 ps)
all_places f sort ps i all = ap (flat_map f) (take_all i (places_from sort 0 ps) (omega (arith, length_places sort 0 ps)))

-- Members.

-- a place of a leaf is one below a root that a reference names
record IsPlaceOf (file : File) (place : LeafPlace) (owner : Owner) : Type 0 where
  low : owner.holder ≤ file.last
  held : Contains (refs file owner.holder) owner.reference
  root : is_root_reference owner.reference.sort ≡ true
  at : Contains (places_from owner.reference.sort 0 (leaves file owner.reference.target)) place

place_of : (file : File) (place : LeafPlace) → Contains (leaf_places file) place → (owner : Owner) × IsPlaceOf file place owner
unfolding leaf_places root_references
place_of file place at =
    let found = of_flat_map (λ (o : Owner). places_from o.reference.sort 0 (leaves file o.reference.target)) (root_references file) place at in
    let root = of_filter (λ (o : Owner). is_root_reference o.reference.sort) (all_references file) found.0 found.1 in
    let held = of_all file found.0 root.0 in
    (found.0, record { low = held.0; held = held.1; root = root.1; at = found.2 })

-- the leaves of a tree are leaves
pub all_leaves : (image ps : List ℕ) (p : ℕ) → IsForest image → IsTreePage (file_of image) p → ps ≡ leaves (file_of image) p
    → All (FitsLeafPage (file_of image)) ps
all_leaves image ps p forest tree is =
    λ k d below. leaf_fits image p (get_or ps k d) forest tree (subst (λ qs. Contains qs (get_or ps k d)) is (Contains-get_or ps k d below))

-- Trees.

-- the faults of the leaves of a tree are those of its root
pub tree_noted : (before after : List Fault → Type 0) (file : File) (sort : Sort) (root : ℕ) (ps : List ℕ) → ps ≡ leaves file root
    → NotesAll before after (flat_map (place_faults file) (places_from sort 0 ps)) → NotesAll before after (root_faults file sort (Some root))
tree_noted before after file sort root ps all noted =
    subst (λ qs. NotesAll before after (flat_map (place_faults file) (places_from sort 0 qs))) all noted

-- all faults that are noted
abbrev pub noted : File → List Fault
noted file = flat_map (held_faults file) (range_with_len 0 (file.last + 1))

abbrev leaf_fault : ℕ → ℕ → Fault
leaf_fault page code = record { stage = 6; page = page; code = code }

-- a fault of a place of a leaf
record IsNoted (file : File) (fault : Fault) : Type 0 where
  place : LeafPlace
  at : Contains (leaf_places file) place
  here : Contains (place_faults file place) fault

-- the faults of the tree of a reference are among those that its page holds
in_held : (image : List ℕ) (p : ℕ) (reference : Reference) (fault : Fault) → IsForest image → p ≤ (file_of image).last
    → Contains (refs (file_of image) p) reference
    → is_root_reference reference.sort ≡ true → Contains (root_faults (file_of image) reference.sort (Some reference.target)) fault
    → Contains (held_faults (file_of image) p) fault
in_held image p reference fault forest low held root at =
    let file : File = file_of image in
    let page : Page = page_at file p in
    let metas : List Fault = root_faults file Root (meta_root page) in
    let sets : List Fault = flat_map (data_faults file page) (range_with_len 0 (length (paired page) / 2)) in
    elim (reference_root image p reference forest low held root) [
      | inl named ↦
          Contains-append_left metas sets fault
          (subst (λ s. Contains (root_faults file s (meta_root page)) fault) named.0
          (subst (λ r. Contains (root_faults file reference.sort r) fault) (sym named.1) at))
      | inr set ↦
          let i : ℕ = set.1.0 in
          Contains-append_right metas sets fault
          (in_flat_map (data_faults file page) (range_with_len 0 (length (paired page) / 2)) i fault
          (in_range 0 (length (paired page) / 2) i (omega arith) (omega (arith, set.1.1)))
          (subst (λ s. Contains (root_faults file s (data_root page i)) fault) set.0
          (subst (λ r. Contains (root_faults file reference.sort r) fault) (sym set.1.2) at)))
    ]

-- each fault of a place is noted
in_noted : (image : List ℕ) (place : LeafPlace) (fault : Fault) → IsForest image → Contains (leaf_places (file_of image)) place
    → Contains (place_faults (file_of image) place) fault → Contains (noted (file_of image)) fault
in_noted image place fault forest at here =
    let file : File = file_of image in
    let found = place_of file place at in
    let reference : Reference = found.0.reference in
    in_flat_map (held_faults file) (range_with_len 0 (file.last + 1)) found.0.holder fault
    (in_range 0 (file.last + 1) found.0.holder (omega arith) (omega (arith, found.1.low)))
    (in_held image found.0.holder reference fault forest found.1.low found.1.held found.1.root
    (in_flat_map (place_faults file) (places_from reference.sort 0 (leaves file reference.target)) place fault found.1.at here))

of_root_faults : (file : File) (sort : Sort) (root : Option ℕ) (fault : Fault) → is_root_reference sort ≡ true
    → ((r : ℕ) → root ≡ Some r → IsTarget file sort r)
    → Contains (root_faults file sort root) fault → IsNoted file fault
of_root_faults file sort None fault is fits at = absurd (no_member [] fault refl at)
of_root_faults file sort (Some r) fault is fits at =
    let found = of_flat_map (place_faults file) (places_from sort 0 (leaves file r)) fault at in
    record { place = found.0; at = place_of_root file sort r found.0 is (fits r refl) found.1; here = found.2 }

-- a fault that is noted is that of a place
of_noted : (image : List ℕ) (fault : Fault) → IsForest image → Contains (noted (file_of image)) fault → IsNoted (file_of image) fault
of_noted image fault forest at =
    let file : File = file_of image in
    let found = of_flat_map (held_faults file) (range_with_len 0 (file.last + 1)) fault at in
    let page : Page = page_at file found.0 in
    let low : found.0 ≤ file.last = omega (arith, (of_range 0 (file.last + 1) found.0 found.1).1) in
    let n : ℕ = length (paired page) / 2 in
    elim (Contains-append_cases (root_faults file Root (meta_root page)) (flat_map (data_faults file page) (range_with_len 0 n)) fault found.2) [
      | inl of_meta ↦ of_root_faults file Root (meta_root page) fault refl (meta_root_fits image found.0 forest low) of_meta
      | inr of_sets ↦
          let set = of_flat_map (data_faults file page) (range_with_len 0 n) fault of_sets in
          of_root_faults file DuplicateRoot (data_root page set.0) fault refl
          (data_root_fits image found.0 set.0 forest low (omega (arith, (of_range 0 n set.0 set.1).1))) set.2
    ]

-- The faults of the stage.

in_fault_if : (row : StructureRow) (page : ℕ) (holds : Bool) → holds ≡ true
    → Contains (fault_if (Structure row) page holds) (leaf_fault page (structure_row_code row))
in_fault_if row page true is = first_member (leaf_fault page (structure_row_code row)) []
in_fault_if row page false is = absurd cc

of_fault_if : (row : StructureRow) (page : ℕ) (holds : Bool) (fault : Fault) → Contains (fault_if (Structure row) page holds) fault
    → (holds ≡ true) × (leaf_fault page (structure_row_code row) ≡ fault)
of_fault_if row page true fault at = (refl, only_member (leaf_fault page (structure_row_code row)) fault at)
of_fault_if row page false fault at = absurd (no_member [] fault refl at)

-- the codes of two rows that hold
holds_kind : (a b : Bool) → a ≡ true → Contains (holding (2 :? a ∷ 3 :? b ∷ [])) 2
holds_kind true b is = first_member 2 (holding (3 :? b ∷ []))
holds_kind false b is = absurd cc

holds_link : (a b : Bool) → b ≡ true → Contains (holding (2 :? a ∷ 3 :? b ∷ [])) 3
holds_link true true is = later_member 2 (3 ∷ []) 3 (first_member 3 [])
holds_link false true is = first_member 3 []
holds_link a false is = absurd cc

-- a fault of a place is one of the stage
in_tree_faults : (file : File) (place : LeafPlace) (fault : Fault) → place.leaf ≤ file.last → Contains (leaf_places file) place
    → Contains (place_faults file place) fault → Contains (tree_faults file) fault
unfolding tree_faults
in_tree_faults file place fault low at here =
    let p : ℕ = place.leaf in
    elim (Contains-append_cases (fault_if (Structure LeafKind) p (is_wrong_leaf file place)) (fault_if (Structure LeafLink) p (is_wrong_link file place)) fault
    here) [
      | inl kind ↦
          let is = of_fault_if LeafKind p (is_wrong_leaf file place) fault kind in
          subst (Contains (tree_faults file)) is.1 (in_stage 2 (holds_kind _ _ (passes (is_wrong_leaf file) is.0)))
      | inr link ↦
          let is = of_fault_if LeafLink p (is_wrong_link file place) fault link in
          subst (Contains (tree_faults file)) is.1 (in_stage 3 (holds_link _ _ (passes (is_wrong_link file) is.0)))
    ]
  where
    in_stage : (code : ℕ) → Contains (holding (tree_rows file place.leaf)) code → Contains (tree_faults file) (leaf_fault place.leaf code)
    in_stage code is = in_by_page 6 0 (file.last + 1) place.leaf code (λ page. holding (tree_rows file page)) (omega arith) (omega arith) is

    passes : (wrong : LeafPlace → Bool) → wrong place ≡ true
        → list_any (λ (other : LeafPlace). other.leaf == place.leaf && wrong other) (leaf_places file) ≡ true
    passes wrong is =
        passes_here (λ (other : LeafPlace). other.leaf == place.leaf && wrong other) (leaf_places file) place at
        (and_from (place.leaf == place.leaf) (wrong place) (eq-eqb place.leaf place.leaf refl) is)

-- the code of one of two rows that holds
code_of_two : (a b : Bool) (code : ℕ) → Contains (holding (2 :? a ∷ 3 :? b ∷ [])) code → ((code ≡ 2) × (a ≡ true)) ⊎ ((code ≡ 3) × (b ≡ true))
code_of_two true true code at =
    elim (member_cases 2 (3 ∷ []) code at) [ inl same ↦ inl (sym same, refl) | inr later ↦ inr (sym (only_member 3 code later), refl) ]
code_of_two true false code at = inl (sym (only_member 2 code at), refl)
code_of_two false true code at = inr (sym (only_member 3 code at), refl)
code_of_two false false code at = absurd (no_member [] code refl at)

-- a fault of a row that holds somewhere at its page is noted
noted_row : (image : List ℕ) (fault : Fault) (row : StructureRow) (wrong : LeafPlace → Bool) → IsForest image → fault.stage ≡ 6
    → fault.code ≡ structure_row_code row
    → ((place : LeafPlace) → wrong place ≡ true → Contains (place_faults (file_of image) place) (leaf_fault place.leaf (structure_row_code row)))
    → list_any (λ (other : LeafPlace). other.leaf == fault.page && wrong other) (leaf_places (file_of image)) ≡ true
    → Contains (noted (file_of image)) fault
noted_row image fault row wrong forest stage is each any =
    let found = any_member (λ (other : LeafPlace). other.leaf == fault.page && wrong other) (leaf_places (file_of image)) any in
    let both = and_parts (found.0.leaf == fault.page) (wrong found.0) found.2 in
    subst (Contains (noted (file_of image)))
    (same_parts 6 fault.stage found.0.leaf fault.page (structure_row_code row) fault.code (sym stage) (eqb-true found.0.leaf fault.page both.0) (sym is))
    (in_noted image found.0 (leaf_fault found.0.leaf (structure_row_code row)) forest found.1 (each found.0 both.1))

-- a fault of the stage is noted
of_tree_faults : (image : List ℕ) (fault : Fault) → IsForest image → Contains (tree_faults (file_of image)) fault → Contains (noted (file_of image)) fault
unfolding tree_faults
of_tree_faults image fault forest at =
    let file : File = file_of image in
    let of = of_by_page 6 0 (file.last + 1) (λ page. holding (tree_rows file page)) fault at in
    elim (code_of_two _ _ fault.code of.is_code) [
      | inl (is, any) ↦
          noted_row image fault LeafKind (is_wrong_leaf file) forest of.same_stage is
          (λ place wrong. Contains-append_left (fault_if (Structure LeafKind) place.leaf (is_wrong_leaf file place))
          (fault_if (Structure LeafLink) place.leaf (is_wrong_link file place)) (leaf_fault place.leaf 2)
          (in_fault_if LeafKind place.leaf (is_wrong_leaf file place) wrong)) any
      | inr (is, any) ↦
          noted_row image fault LeafLink (is_wrong_link file) forest of.same_stage is
          (λ place wrong. Contains-append_right (fault_if (Structure LeafKind) place.leaf (is_wrong_leaf file place))
          (fault_if (Structure LeafLink) place.leaf (is_wrong_link file place)) (leaf_fault place.leaf 3)
          (in_fault_if LeafLink place.leaf (is_wrong_link file place) wrong)) any
    ]

pub place_leaf : (sort : Sort) (before : ℕ) (ps : List ℕ) (place : LeafPlace) → Contains (places_from sort before ps) place → Contains ps place.leaf
place_leaf sort before [] place at = absurd (no_member [] place refl at)
place_leaf sort before (p ∷ ps) place at =
    elim (member_cases (record { tree = sort; before = before; leaf = p; after = first_or_zero ps }) (places_from sort p ps) place at) [
      | inl same ↦ subst (λ (q : LeafPlace). Contains (p ∷ ps) q.leaf) same (first_member p ps)
      | inr later ↦ later_member p ps place.leaf (place_leaf sort p ps place later)
    ]

-- a leaf of a tree is there
place_low : (image : List ℕ) (place : LeafPlace) → IsForest image → Contains (leaf_places (file_of image)) place → place.leaf ≤ (file_of image).last
place_low image place forest at =
    let file : File = file_of image in
    let found = place_of file place at in
    let reference : Reference = found.0.reference in
    leaf_low image reference.target place.leaf forest (reference_is_tree image found.0.holder reference forest found.1.low found.1.held found.1.root)
    (place_leaf reference.sort 0 (leaves file reference.target) place found.1.at)

-- the faults that are noted are those of the stage
pub all_noted : (image : List ℕ) → IsForest image → AreSame (noted (file_of image)) (tree_faults (file_of image))
all_noted image forest fault = (in_stage, of_tree_faults image fault forest)
  where
    in_stage : Contains (noted (file_of image)) fault → Contains (tree_faults (file_of image)) fault
    in_stage at =
        let is : IsNoted (file_of image) fault = of_noted image fault forest at in
        in_tree_faults (file_of image) is.place fault (place_low image is.place forest is.at) is.at is.here

-- Part by part.

in_pages : (file : File) (p : ℕ) → Contains (meta_pages file) p → Contains (range_with_len 0 (file.last + 1)) p
in_pages file p at = in_range 0 (file.last + 1) p (omega arith) (omega (arith, (meta_at file p at).0))

of_part : (file : File) (fault : Fault) → Contains (by_part file) fault → Contains (noted file) fault
of_part file fault at =
    let all : List ℕ = range_with_len 0 (file.last + 1) in
    elim (Contains-append_cases (flat_map (meta_faults file) (meta_pages file)) (flat_map (held_sets file) all) fault at) [
      | inl metas ↦
          let found = of_flat_map (meta_faults file) (meta_pages file) fault metas in
          in_flat_map (held_faults file) all found.0 fault (in_pages file found.0 found.1)
          (Contains-append_left (meta_faults file found.0) (held_sets file found.0) fault found.2)
      | inr sets ↦
          let found = of_flat_map (held_sets file) all fault sets in
          in_flat_map (held_faults file) all found.0 fault found.1
          (Contains-append_right (meta_faults file found.0) (held_sets file found.0) fault found.2)
    ]

-- a page that names the tree of a fault so is metadata
names_as_meta : (file : File) (page : Page) (fault : Fault) → Contains (root_faults file Root (meta_root page)) fault → is_meta page ≡ true
names_as_meta file (Meta fields) fault at = refl
names_as_meta file page fault at = absurd (no_member [] fault refl at)

in_part : (file : File) (fault : Fault) → Contains (noted file) fault → Contains (by_part file) fault
in_part file fault at =
    let all : List ℕ = range_with_len 0 (file.last + 1) in
    let found = of_flat_map (held_faults file) all fault at in
    let p : ℕ = found.0 in
    let metas : List Fault = flat_map (meta_faults file) (meta_pages file) in
    let sets : List Fault = flat_map (held_sets file) all in
    elim (Contains-append_cases (meta_faults file p) (held_sets file p) fault found.2) [
      | inl of_meta ↦
          Contains-append_left metas sets fault
          (in_flat_map (meta_faults file) (meta_pages file) p fault
          (at_meta file p (omega (arith, (of_range 0 (file.last + 1) p found.1).1)) (names_as_meta file (page_at file p) fault of_meta)) of_meta)
      | inr of_sets ↦ Contains-append_right metas sets fault (in_flat_map (held_sets file) all p fault found.1 of_sets)
    ]

-- the faults of all trees, part by part, are those of the stage
pub parts_noted : (image : List ℕ) → IsForest image → AreSame (by_part (file_of image)) (tree_faults (file_of image))
parts_noted image forest fault =
    let same = all_noted image forest fault in
    (λ at. same.0 (of_part (file_of image) fault at), λ at. in_part (file_of image) fault (same.1 at))

-- Where no reference names a set, no page has a fault of one.
pub no_set_faults : (image : List ℕ) → IsForest image → list_any names_set (all_references (file_of image)) ≡ false
    → flat_map (held_sets (file_of image)) (range_with_len 0 ((file_of image).last + 1)) ≡ []
no_set_faults image forest none =
    let file : File = file_of image in
    is_empty _ (λ fault at.
    let found = of_flat_map (held_sets file) (range_with_len 0 (file.last + 1)) fault at in
    let low : found.0 ≤ file.last = omega (arith, (of_range 0 (file.last + 1) found.0 found.1).1) in
    no_member _ fault (no_sets image found.0 (length (paired (page_at file found.0)) / 2) forest low (omega arith) none) found.2)
