-- A list in which no datum replaces another has all that come, and its units have all of the list.
use Rattle.std.proofs.Common.{◌≡◌, ℕ, ◌+◌, ◌-◌, Bool, true, false, cond, List, [], ◌∷◌, ◌++◌, map, arith, refl, sym, ap, subst, ◌&&◌, ◌||◌}
use Rattle.std.specs.Prelude.{◌%◌, not}
use Rattle.std.specs.List.{fold, sum_by}
use Rattle.std.specs.Str.{bytes_eq}
use Rattle.std.proofs.lemmas.List.Sums.{sum_by-cons}
use Rattle.bdb_model.specs.of_format.declared.settings.Settings.{Settings}
use Rattle.bdb_model.specs.of_text_format.declared.pairs.Pair.{Pair}
use Rattle.bdb_model.specs.of_text_format.Terms.{holds_records}
use Rattle.bdb_mkfile.specs.of_settle.Loaded.{has_length, keeps_data, loaded_pair, put, stands_before, with_loaded}
use Rattle.bdb_mkfile.specs.of_mkleaves.Units.{TreeUnit, KeyedUnit, EntryUnit}
use Rattle.bdb_mkfile.specs.of_mktree.Lists.{bytes_in, keyed_units, onto_units}
use Rattle.bdb_repair.specs.Parts.{stored_pair}
use Rattle.bdb_repair.specs.Room.{datum_room, pair_room}
use Rattle.bdb_repair.proofs.RoomLemmas.{unit_room}
use Rattle.bdb_mkfile.proofs.of_settle.FillingLemmas.{value_as_is}

-- what the datum of a pair takes at least
abbrev pub listed_room : Pair → ℕ
listed_room pair = datum_room pair.value

-- a pair that is put behind others stands in the list with all of them
put_room : (before : Pair → Pair → Bool) (pair : Pair) (list : List Pair)
    → sum_by listed_room (put before true pair list) ≡ listed_room pair + sum_by listed_room list
put_room before pair [] = sum_by-cons listed_room pair []
put_room before pair (other ∷ others) = by_tests (before pair other) (before other pair) (put_room before pair others)
  where
    by_tests : (a b : Bool) → sum_by listed_room (put before true pair others) ≡ listed_room pair + sum_by listed_room others
        → sum_by listed_room (cond a (pair ∷ other ∷ others) (cond (b || true) (other ∷ put before true pair others) (pair ∷ others)))
        ≡ listed_room pair + sum_by listed_room (other ∷ others)
    by_tests true b later = sum_by-cons listed_room pair (other ∷ others)
    by_tests false true later =
        let one = sum_by-cons listed_room other (put before true pair others) in let two = sum_by-cons listed_room other others in omega
        (arith, one, two, later)
    by_tests false false later =
        let one = sum_by-cons listed_room other (put before true pair others) in let two = sum_by-cons listed_room other others in omega
        (arith, one, two, later)

-- records alone are filled up
no_records : (several sorted records : Bool) → (several && not sorted && not records) ≡ true → records ≡ false
no_records true false false keeps = refl
no_records true false true keeps = absurd (cc keeps)
no_records true true records keeps = absurd (cc keeps)
no_records false sorted records keeps = absurd (cc keeps)

pub keeps_no_records : (settings : Settings) → keeps_data settings ≡ true → holds_records settings.kind ≡ false
keeps_no_records settings keeps = no_records settings.duplicates settings.sorted (holds_records settings.kind) keeps

no_length : (fixed records : Bool) → records ≡ false → (fixed && records) ≡ false
no_length true records none = none
no_length false records none = refl

-- data that are kept as they come lose nothing
kept_onto : (settings : Settings) (list : List Pair) (pairs : List (List ℕ × List ℕ)) → keeps_data settings ≡ true → has_length settings ≡ false
    → sum_by listed_room (fold (with_loaded settings) list (map (loaded_pair settings) (map stored_pair pairs)))
    ≡ sum_by listed_room list + sum_by pair_room pairs
kept_onto settings list [] keeps whole = omega arith
kept_onto settings list (pair ∷ pairs) keeps whole =
    let here : Pair = loaded_pair settings (stored_pair pair) in
    let one : sum_by listed_room (with_loaded settings list here) ≡ listed_room here + sum_by listed_room list =
    subst (λ k. sum_by listed_room (put (stands_before settings) k here list) ≡ listed_room here + sum_by listed_room list) (sym keeps)
    (put_room (stands_before settings) here list) in
    let same : listed_room here ≡ pair_room pair = ap datum_room (value_as_is settings pair.1 whole) in
    let sum = sum_by-cons pair_room pair pairs in
    let rest = kept_onto settings (with_loaded settings list here) pairs keeps whole in
    omega (arith, one, same, sum, rest)

pub all_kept : (settings : Settings) (pairs : List (List ℕ × List ℕ)) → keeps_data settings ≡ true
    → sum_by listed_room (fold (with_loaded settings) [] (map (loaded_pair settings) (map stored_pair pairs))) ≡ sum_by pair_room pairs
all_kept settings pairs keeps =
    let all = kept_onto settings [] pairs keeps (no_length settings.fixed (holds_records settings.kind) (keeps_no_records settings keeps)) in
    omega (arith, all)

-- units have the data of their pairs
unit_more : (key value : List ℕ) (units : List TreeUnit) → sum_by unit_room (onto_units key value units) ≡ datum_room value + sum_by unit_room units
unit_more key value [] =
    let one = sum_by-cons unit_room (KeyedUnit key (value ∷ [])) [] in let two = sum_by-cons datum_room value [] in omega (arith, one, two)
unit_more key value (KeyedUnit other values ∷ units) = by_test (bytes_eq key other)
  where
    by_test : (b : Bool) → sum_by unit_room (cond b (KeyedUnit other (value ∷ values) ∷ units) (KeyedUnit key (value ∷ []) ∷ KeyedUnit other values ∷ units))
        ≡ datum_room value + sum_by unit_room (KeyedUnit other values ∷ units)
    by_test true =
        let one = sum_by-cons unit_room (KeyedUnit other (value ∷ values)) units in
        let two = sum_by-cons unit_room (KeyedUnit other values) units in
        let three = sum_by-cons datum_room value values in
        omega (arith, one, two, three)
    by_test false =
        let one = sum_by-cons unit_room (KeyedUnit key (value ∷ [])) (KeyedUnit other values ∷ units) in
        let two = sum_by-cons datum_room value [] in omega (arith, one, two)
unit_more key value (EntryUnit other deleted ∷ units) =
    let one = sum_by-cons unit_room (KeyedUnit key (value ∷ [])) (EntryUnit other deleted ∷ units) in
    let two = sum_by-cons datum_room value [] in omega (arith, one, two)

pub keyed_room : (pairs : List Pair) → sum_by unit_room (keyed_units pairs) ≡ sum_by listed_room pairs
keyed_room [] = refl
keyed_room (pair ∷ pairs) =
    let one = unit_more (bytes_in pair.key) pair.value (keyed_units pairs) in
    let sum = sum_by-cons listed_room pair pairs in
    omega (arith, one, sum, keyed_room pairs)
