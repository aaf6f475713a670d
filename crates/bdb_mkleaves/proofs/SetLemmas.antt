-- Sets of the data of a key.
use Rattle.std.proofs.Common.{◌≡◌, ℕ, ◌+◌, ◌<◌, ◌≤◌, Bool, true, false, if◌then◌else◌, List, [], ◌∷◌, ◌++◌, length, map, arith, refl, sym, ◌∙◌, ap, subst, inr, length-append, flat_map, sum_by}
use Rattle.bdb_mkleaves.proofs.Common.{append_assoc, map-append, Contains-append_right, sum_by_push, File, Tree, is_wrong_set, first_member, IsCounted, IsLater, between, between_is, Built}
use Rattle.bdb_mkleaves.proofs.Common.{file_so_far, counted_so_far, AreFilled, AreSpreadOver, FilledNow, IsPushed, SpreadNow, HasFirstRoot, live_entry, has_sorted_data, IsTreeOn, KeepsAll}
use Rattle.bdb_mkleaves.proofs.Common.{KeepsBefore, KeepsOthers, has_room, numbers_of, Placed, unit_of, IsSetBuilt, IsSetFilled, SetStands, leaves_and_levels, chain_pages, unit_cost, LeafType, Pairs, Leaves}
use Rattle.bdb_mkleaves.specs.Sets.{set_type}
use Rattle.bdb_mkleaves.proofs.FilledLemmas.{later_self}
use Rattle.bdb_mkleaves.proofs.GrownLaws.{grown_sets_stand}
use Rattle.bdb_mkleaves.proofs.KeptLemmas.{finished_trees_are_formed, finished_trees_keep_older_pages}
use Rattle.bdb_mkleaves.proofs.LayoutLemmas.{finished_trees_are_laid_out}
use Rattle.bdb_mkleaves.proofs.NodesLemmas.{all_units}
use Rattle.bdb_mkleaves.proofs.PushedLaws.{pushed_units_spread}
use Rattle.bdb_mkleaves.proofs.RestLemmas.{is_one}
use Rattle.bdb_mkleaves.proofs.TreeCountLemmas.{finished_trees_are_counted}

-- Leaves with the values so far.

pub set_begun : (old new : Built) (type : LeafType) (leaves : Leaves) → leaves.leaf_type ≡ type → leaves.last ≡ length old.pages
    → KeepsOthers leaves.last old new → AreFilled leaves new (length old.pages) [] [] → length new.pages ≡ length old.pages + 1
    → IsSetFilled old new type [] leaves
set_begun old new type leaves is last kept filled added = grind arith

-- one more is on the last leaf
pub set_grown : (old now new : Built) (type : LeafType) (values : List (List ℕ)) (value : List ℕ) (leaves next : Leaves)
    → IsSetFilled old now type values leaves → IsPushed leaves next now new (live_entry value)
    → IsSetFilled old new type (values ++ (value ∷ [])) next
set_grown old now new type values value leaves next set put =
    by_room (has_room leaves now (unit_cost now.size (live_entry value))) (put.filled (length old.pages) set.closed set.units set.filled)
    (pushed_units_spread leaves next now new (length old.pages) set.closed set.units (live_entry value) set.filled set.spread put)
    (put.count false refl)
  where
    last_new : length old.pages ≤ leaves.last
    last_new = set.filled.new leaves.last
        (is_one (numbers_of leaves) leaves.last (Contains-append_right leaves.closed.items (leaves.last ∷ []) leaves.last
        (first_member leaves.last [])))

    kept : KeepsAll old new
    kept =
        let before = set.kept.grows in
        let grows = put.kept.grows in
        record {
          size = put.kept.size ∙ set.kept.size;
          order = put.kept.order ∙ set.kept.order;
          grows = omega (arith, before, grows);
          same = λ p low. put.kept.same p (omega (arith, low, before)) (λ e. omega (arith, e, low, last_new)) ∙ set.kept.same p low;
        }

    live : (us : List Placed) → map unit_of us ≡ map live_entry values
        → map unit_of (us ++ (put.placed ∷ [])) ≡ map live_entry (values ++ (value ∷ []))
    live us are =
        map-append unit_of us (put.placed ∷ [])
        ∙ (ap (λ ls. ls ++ (unit_of put.placed ∷ [])) are
        ∙ (ap (λ u. map live_entry values ++ (u ∷ [])) put.is ∙ sym (map-append live_entry values (value ∷ []))))

    -- the chain of one value more
    one_more : (leaf : ℕ) → length new.pages ≡ length now.pages + leaf + chain_pages now.size value
        → length new.pages ≡ length old.pages + (length set.closed + leaf + 1) + sum_by (chain_pages old.size) (values ++ (value ∷ []))
    one_more leaf added =
        let before = set.count in
        omega (arith, before, added, ap (λ n. chain_pages n value) set.kept.size, sum_by_push (chain_pages old.size) values value)

    by_room : (b : Bool) → FilledNow b next new (length old.pages) set.closed set.units put.placed
        → SpreadNow b now.size set.closed set.units put.placed
        → length new.pages ≡ length now.pages + (if b then 0 else 1) + chain_pages now.size value
        → IsSetFilled old new type (values ++ (value ∷ [])) next
    by_room true filled spread added = record {
      type_is = put.type ∙ set.type_is;
      kept = kept;
      closed = set.closed;
      units = set.units ++ (put.placed ∷ []);
      filled = filled;
      some = inr (omega (arith, length-append set.units (put.placed ∷ [])));
      units_are =
          ap (map unit_of) (sym (append_assoc (flat_map (λ leaf. leaf) set.closed) set.units (put.placed ∷ [])))
          ∙ live (flat_map (λ leaf. leaf) set.closed ++ set.units) set.units_are;
      spread = subst (λ n. AreSpreadOver n set.closed (set.units ++ (put.placed ∷ []))) (sym put.kept.size) spread;
      count = let all = one_more 0 added in omega (arith, all);
    }
    by_room false filled spread added = record {
      type_is = put.type ∙ set.type_is;
      kept = kept;
      closed = set.closed ++ (set.units ∷ []);
      units = put.placed ∷ [];
      filled = filled;
      some = inr (omega arith);
      units_are =
          ap (λ us. map unit_of (us ++ (put.placed ∷ []))) (all_units set.closed set.units)
          ∙ live (flat_map (λ leaf. leaf) set.closed ++ set.units) set.units_are;
      spread = subst (λ n. AreSpreadOver n (set.closed ++ (set.units ∷ [])) (put.placed ∷ [])) (sym put.kept.size) spread;
      count = let all = one_more 1 added in omega (arith, all, length-append set.closed (set.units ∷ []));
    }

-- The set.

sorted_as_asked : (sorted : Bool) → has_sorted_data (set_type sorted) ≡ sorted
sorted_as_asked true = refl
sorted_as_asked false = refl

pub no_pairs : (sorted : Bool) → set_type sorted ≡ Pairs → ⊥
no_pairs true e = cc
no_pairs false e = cc

pub set_built : (old mid new : Built) (sorted : Bool) (values : List (List ℕ)) (leaves : Leaves) (root : ℕ)
    → (set : IsSetFilled old mid (set_type sorted) values leaves) → HasFirstRoot leaves mid new true set.closed set.units root
    → IsSetBuilt old new sorted values root
set_built old mid new sorted values leaves root set has =
    let keeps : KeepsBefore (length old.pages) mid new =
    finished_trees_keep_older_pages leaves mid new true (length old.pages) set.closed set.units root set.filled has in
    let before : length old.pages ≤ length mid.pages = set.kept.grows in
    let grows : length mid.pages ≤ length new.pages = keeps.grows in
    let stands : (g : File) → IsCounted g → IsLater (between (length old.pages) (length new.pages)) (file_so_far new) g
    → SetStands g (length old.pages) (length new.pages) sorted values root = λ g counted later.
    let is =
    grown_sets_stand leaves mid new true (length old.pages) set.closed set.units root values
    (λ e. no_pairs sorted (sym set.type_is ∙ e)) set.filled has set.units_are g counted later in
    record {
      on = is.0;
      holds = is.1;
      right = ap (λ b. is_wrong_set g b (Tree root)) (sym (ap has_sorted_data set.type_is ∙ sorted_as_asked sorted)) ∙ is.2;
    } in
    let inside : (length old.pages ≤ root) × (root < length new.pages) =
    let low = set.filled.low in
    let set_now = stands (file_so_far new) (counted_so_far new (omega (arith, low, before, grows)))
    (later_self new (between (length old.pages) (length new.pages))) in
    between_is (length old.pages) (length new.pages) root (set_now.on.branch.grove.entered root (first_member root [])) in
    record {
      kept = record {
        size = keeps.size ∙ set.kept.size;
        order = keeps.order ∙ set.kept.order;
        grows = omega (arith, before, grows);
        same = λ p low. keeps.same p low ∙ set.kept.same p low;
      };
      low = inside.0;
      high = inside.1;
      formed = finished_trees_are_formed leaves mid new true (length old.pages) set.closed set.units root set.filled has;
      stands = stands;
      count =
          let leaves_and_chains = set.count in
          let tree = finished_trees_are_counted leaves mid new true (length old.pages) set.closed set.units root set.filled set.spread has in
          let same : leaves_and_levels leaves.leaf_type mid.size (map unit_of (flat_map (λ leaf. leaf) set.closed ++ set.units))
          ≡ leaves_and_levels (set_type sorted) old.size (map live_entry values) =
          ap (λ us. leaves_and_levels leaves.leaf_type mid.size us) set.units_are
          ∙ (ap (λ n. leaves_and_levels leaves.leaf_type n (map live_entry values)) set.kept.size
          ∙ ap (λ type. leaves_and_levels type old.size (map live_entry values)) set.type_is) in
          omega (arith, leaves_and_chains, tree, same);
      tree = subst (λ type. IsTreeOn type new (between (length old.pages) (length new.pages)) true (map live_entry values) root) set.type_is
          (subst (λ us. IsTreeOn leaves.leaf_type new (between (length old.pages) (length new.pages)) true us root) set.units_are
          (finished_trees_are_laid_out leaves mid new true (length old.pages) set.closed set.units root set.filled set.spread has).0);
    }
