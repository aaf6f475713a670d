-- Finished trees are laid, and those of data are sets.
use Rattle.std.proofs.Common.{◌≡◌, ℕ, Bool, List, [], ◌∷◌, ◌++◌, length, map, refl, sym, ◌∙◌, ap, subst, inl, inr}
use Rattle.bdb_mkleaves.proofs.Common.{AllZip, Contains, flat_map, All-cons, All-nil, flat_map-map, Tree, data_of, is_wrong_set, map_joined, IsLater, ContentFits, SetFits, between, branch_is_known}
use Rattle.bdb_mkleaves.proofs.Common.{Built, file_so_far, rest_of, FirstRootsAreLaid, HasLaidTree, GrownSetsStand, live_entry, IsNodeOf, has_sorted_data, is_laid, live_value, first_of, numbers_of}
use Rattle.bdb_mkleaves.proofs.Common.{LeafUnits, Placed, unit_of, units_in, CountsLeaves, leaf_with, placed_on, zip_units, levels_to}
use Rattle.bdb_mkleaves.proofs.FinishedLaws.{finished_trees_are_laid}
use Rattle.bdb_mkleaves.proofs.FinishedLemmas.{moved_from}
use Rattle.bdb_mkleaves.proofs.GrownLemmas.{as_many, zip_groups}
use Rattle.bdb_mkleaves.proofs.LaidBranchLemmas.{laid_trees_are_branches}
use Rattle.bdb_mkleaves.proofs.LaidSetLemmas.{laid_sets_hold_data}
use Rattle.bdb_mkleaves.proofs.NodesLemmas.{all_units}
use Rattle.bdb_mkleaves.proofs.NumberedLemmas.{are_numbered, leaf_is_laid}

-- Trees.

pub first_roots_are_laid : FirstRootsAreLaid
first_roots_are_laid leaves old new counted before closed units root filled (is, inl one) g is_counted later =
    let leaf : LeafUnits = leaf_with leaves.last units in
    let placed : List LeafUnits = placed_on leaves closed units in
    let alone : leaf ∷ [] ≡ placed =
    sym (ap (λ ns. zip_units (ns ++ (leaves.last ∷ [])) (closed ++ (units ∷ []))) one.numbers
    ∙ ap (λ groups. zip_units (leaves.last ∷ []) (groups ++ (units ∷ []))) one.closed_is) in
    let grown = leaf_is_laid leaves old before closed units one.node filled
    (subst (λ ps. AllZip (IsNodeOf leaves.leaf_type) ps (one.node ∷ [])) alone (one.node_is, tt)) g is_counted
    (subst (λ (b : Built). IsLater (between before (length b.pages)) (file_so_far b) g) one.same later) in
    record {
      placed = placed;
      nodes = one.node ∷ [];
      above = [];
      top = one.node;
      laid = grown.0;
      top_is = one.node_is.page ∙ (sym (ap (λ ns. first_of ns leaves.last) one.numbers) ∙ sym is);
      units_are = (are_numbered leaves old before closed units filled).groups_are;
      counts = subst (λ ps. CountsLeaves counted leaves.leaf_type ps (one.node ∷ [])) alone one.counts;
      pages = λ p. grown.1 p ∙ ap (λ (b : Built). between before (length b.pages) p) (sym one.same);
    }
first_roots_are_laid leaves old new counted before closed units root filled (is, inr on) g is_counted later =
    let laid = finished_trees_are_laid leaves old new counted before closed units root filled on g is_counted later in
    record {
      placed = placed_on on.next closed units;
      nodes = on.nodes;
      above = levels_to on.tower.levels on.tower.top;
      top = on.tower.top;
      laid = laid.0;
      top_is = on.tower.top_is ∙ sym is;
      units_are = zip_groups (numbers_of on.next) (closed ++ (units ∷ []))
          (as_many leaves.leaf_type on.between 0 (numbers_of on.next) (closed ++ (units ∷ [])) 0
          (moved_from leaves on.next old on.between before closed units filled on.moved));
      counts = on.counts;
      pages = laid.1;
    }

-- Sets.

values_live : (values : List (List ℕ)) → flat_map live_value (map live_entry values) ≡ values
values_live [] = refl
values_live (value ∷ values) = ap (λ vs. value ∷ vs) (values_live values)

-- the units of leaves, in their order
units_joined : (placed : List LeafUnits) (closed : List (List Placed)) (units : List Placed)
    → map (λ (leaf : LeafUnits). leaf.units) placed ≡ closed ++ (units ∷ [])
    → flat_map (λ (leaf : LeafUnits). leaf.units) placed ≡ flat_map (λ leaf. leaf) closed ++ units
units_joined placed closed units is =
    sym (flat_map-map (λ leaf. leaf) (λ (leaf : LeafUnits). leaf.units) placed) ∙ (ap (flat_map (λ leaf. leaf)) is ∙ all_units closed units)

pub grown_sets_stand : GrownSetsStand
grown_sets_stand leaves old new counted before closed units root values unpaired filled has live g is_counted later =
    let rest : ℕ → Bool = rest_of before leaves old in
    let tree : HasLaidTree leaves.leaf_type g rest before (length new.pages) counted (closed ++ (units ∷ [])) root =
    first_roots_are_laid leaves old new counted before closed units root filled has g is_counted later in
    let set = laid_sets_hold_data leaves.leaf_type g rest tree.placed tree.nodes tree.above tree.top tree.laid unpaired in
    let in_order : units_in tree.placed ≡ map live_entry values =
    sym (map_joined unit_of (λ (leaf : LeafUnits). leaf.units) tree.placed)
    ∙ (ap (map unit_of) (units_joined tree.placed closed units tree.units_are) ∙ live) in (
      record {
        branch = branch_is_known g (is_laid rest tree.placed tree.above) (between before (length new.pages)) (tree.top.page ∷ []) (root ∷ [])
            (λ p. sym (tree.pages p)) (λ e at. subst (λ top. Contains (top ∷ []) e) tree.top_is at)
            (λ e at. subst (λ top. Contains (top ∷ []) e) (sym tree.top_is) at)
            (laid_trees_are_branches leaves.leaf_type g rest tree.placed tree.nodes tree.above tree.top tree.laid);
        fit = All-cons (ContentFits g) (Tree root) [] (subst (SetFits g) tree.top_is set.2) (All-nil (ContentFits g));
      },
      ap (λ top. data_of g (Tree top)) (sym tree.top_is) ∙ (set.0 ∙ (ap (flat_map live_value) in_order ∙ values_live values)),
      ap (λ top. is_wrong_set g (has_sorted_data leaves.leaf_type) (Tree top)) (sym tree.top_is) ∙ set.1,
    )
