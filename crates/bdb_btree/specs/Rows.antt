-- The rows on the pairs of a btree, pair after pair.
use Rattle.std.specs.Prelude.{ℕ, ◌==◌, ◌&&◌, ◌++◌, not, if◌then◌else◌, Bool, false, true, List, [], ◌∷◌, None}
use Rattle.std.specs.List.{flat_map, list_any}
use Rattle.bdb_ranks.specs.of_format.Terms.{File, StoredPair, fault_if, is_duplicate, is_out_of_order, is_wrong_set, neighbours}
use Rattle.bdb_ranks.specs.of_format.declared.rows.ContentsRow.TheVariants.{Duplicates, DuplicateKind, KeyOrder, DuplicateOrder}
use Rattle.bdb_ranks.specs.of_format.declared.rows.Row.TheVariants.{Contents}
use Rattle.bdb_ranks.specs.of_format.declared.kinds.Fault.{Fault}
use Rattle.bdb_btree.specs.Runs.{KeyOrder as KeysPassed, Ascent, next_data, next_key}
use Rattle.bdb_btree.specs.declared.pair_rows.Rules.{Rules}

-- what is kept of the pairs that have been gone through
pub record Passed : Type 0 where
  pub keys : KeysPassed
  pub values : Ascent

abbrev pub no_pairs_passed : Passed
no_pairs_passed =
    record { keys = record { before = None; wrong = false; ordered = true }; values = record { last = None; broken = false } }

-- one more pair; data are looked at only where they are sorted
abbrev pub next_pair : File → Bool → Passed → StoredPair → Passed
next_pair file sorted passed pair = record {
  keys = next_key passed.keys pair;
  values = if sorted then next_data file passed.values pair else passed.values;
}

-- the faults of a pair, once it is passed
abbrev pub pair_faults : File → Rules → Passed → StoredPair → List Fault
pair_faults file rules passed pair =
    fault_if (Contents Duplicates) pair.page (not rules.duplicates && is_duplicate pair)
    ++ fault_if (Contents DuplicateKind) pair.page (is_wrong_set file rules.sorted pair.data_item)
    ++ fault_if (Contents KeyOrder) pair.page passed.keys.wrong
    ++ fault_if (Contents DuplicateOrder) pair.page (rules.sorted && passed.values.broken)

-- each of these pairs, with what is passed once it is
abbrev pub passes : File → Bool → Passed → List StoredPair → List (StoredPair × Passed)
passes file sorted passed [] = []
passes file sorted passed (pair ∷ pairs) =
    (pair, next_pair file sorted passed pair) ∷ passes file sorted (next_pair file sorted passed pair) pairs

-- the faults of these pairs, after those passed
abbrev pub pairs_faults : File → Rules → Passed → List StoredPair → List Fault
pairs_faults file rules passed pairs =
    flat_map (λ (at : StoredPair × Passed). pair_faults file rules at.1 at.0) (passes file rules.sorted passed pairs)

-- the row KeyOrder
abbrev pub has_wrong_order : List StoredPair → ℕ → Bool
has_wrong_order pairs p = list_any (λ (two : StoredPair × StoredPair). two.1.page == p && is_out_of_order two) (neighbours pairs)
