-- What is kept of the pairs of a table while their faults are noted.
use Rattle.std.specs.Prelude.{Bool, ◌≡◌, ℕ, ◌||◌, List, ◌∷◌, map, ◌++◌, nat_eq, not, ◌&&◌}
use Rattle.std.specs.BTreeSet.{BTreeSet, contains}
use Rattle.std.specs.Ordering.{nat_cmp}
use Rattle.std.specs.List.{flat_map, fold, list_any}
use Rattle.bdb_faults.specs.Notes.{Notes}
use Rattle.bdb_ranks.specs.of_overflow.Keys.{has_item, has_key, repeated_by}
use Rattle.bdb_ranks.specs.of_format.declared.kinds.Fault.{Fault}
use Rattle.bdb_ranks.specs.of_format.declared.metadata.HashMeta.{HashMeta}
use Rattle.bdb_ranks.specs.of_format.Terms.{StoredPair, hash5}
use Rattle.bdb_hash.specs.Noted.{is_stray, pair_faults}
use Rattle.bdb_buckets.specs.Repeat.{repeat_fault}
use Rattle.bdb_buckets.specs.Told.{stored, key_of, Told}
use Rattle.bdb_hash.specs.declared.passed.Passed.{Passed}

-- the hash of a pair's key
abbrev pub key_hash : Told → ℕ
key_hash told = hash5 told.pair.key

-- these pairs of a bucket were noted by themselves, and passed
pub record Passes (meta : HashMeta) (b : ℕ) (before after : List Fault → Type 0) (old new : Passed) (pairs : List Told) : Type 0 where
  pub noted : Notes before after (flat_map (pair_faults meta b) pairs)
  pub hashes : new.hashes.items ≡ old.hashes.items ++ map key_hash pairs
  pub stray : new.has_stray ≡ (old.has_stray || list_any (is_stray meta b) pairs)

-- all but those that are left were
pub record IsPassing (meta : HashMeta) (b : ℕ) (before after : List Fault → Type 0) (old new : Passed) (all left : List Told) : Type 0 where
  pub done : List Told
  pub whole : all ≡ done ++ left
  pub passes : Passes meta b before after old new done

-- the keys are those of these pairs
abbrev pub AreKeysOf : BTreeSet (List ℕ) → List StoredPair → Type 0
AreKeysOf keys pairs = (sought : List ℕ) → has_key keys sought ≡ has_item key_of pairs sought

-- pairs after others, the last one first
abbrev pub behind : List StoredPair → List StoredPair → List StoredPair
behind before pairs = fold (λ (ps : List StoredPair) (pair : StoredPair). pair ∷ ps) before pairs

-- after any pairs whose keys there were, those of these that repeat a key were noted, and their keys added
pub record NotesRepeats (old new : BTreeSet (List ℕ)) (before after : List Fault → Type 0) (pairs : List Told) : Type 0 where
  pub next : (seen : List StoredPair) → AreKeysOf old seen
      → AreKeysOf new (behind seen (stored pairs)) × Notes before after (map repeat_fault (repeated_by key_of seen (stored pairs)))

-- all but those that are left were
pub record IsNoting (old new : BTreeSet (List ℕ)) (before after : List Fault → Type 0) (all left : List Told) : Type 0 where
  pub done : List Told
  pub whole : all ≡ done ++ left
  pub notes : NotesRepeats old new before after done

-- this number is among these
abbrev pub is_among : BTreeSet ℕ → ℕ → Bool
is_among numbers n = contains nat_cmp numbers n

-- two numbers are the same, and not among these
abbrev pub is_missed : BTreeSet ℕ → ℕ → ℕ → Bool
is_missed numbers a b = nat_eq a b && not (is_among numbers a)

-- the hash of a pair's key is among these
abbrev pub is_kept : BTreeSet ℕ → Told → Bool
is_kept numbers told = is_among numbers (key_hash told)
