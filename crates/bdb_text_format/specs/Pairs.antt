-- Lists of pairs, as loading makes them and a database gives them. Source: docs/FORMAT.md, "Lists of databases".
use Rattle.std.specs.Prelude.{ℕ, ◌+◌, ◌≤◌, List, [], ◌∷◌, map}
use Rattle.std.specs.List.{fold}
use Rattle.bdb_places.specs.of_format.Terms.{BytesKey, ListKey, NumberKey}
use Rattle.bdb_text_format.specs.declared.pairs.Key.{Key}
use Rattle.bdb_text_format.specs.declared.pairs.Key.TheVariants.{Bytes, Number}
use Rattle.bdb_text_format.specs.declared.pairs.Pair.{Pair}
use Rattle.bdb_text_format.specs.declared.pairs.TextPair.{TextPair}

-- a pair without the number of its line
abbrev pub unlined : TextPair → Pair
unlined pair = record { key = pair.key; value = pair.value }

abbrev pub unlined_pairs : List TextPair → List Pair
unlined_pairs pairs = map unlined pairs

-- the pair of a key and a datum
abbrev pub listed_as : Key → List ℕ → Pair
listed_as key value = record { key = key; value = value }

-- a pair of a list in a section, without a line
abbrev pub unnumbered : Pair → TextPair
unnumbered pair = record { key = pair.key; value = pair.value; line = 0 }

abbrev pub unnumbered_pairs : List Pair → List TextPair
unnumbered_pairs pairs = map unnumbered pairs

-- the key of the last pair; 0 where there is none
abbrev pub last_key : List TextPair → Key
last_key pairs = fold (λ key (pair : TextPair). pair.key) (Number 0) pairs

abbrev pub keys_of : List Pair → List Key
keys_of pairs = map (λ (pair : Pair). pair.key) pairs

abbrev pub values_of : List Pair → List (List ℕ)
values_of pairs = map (λ (pair : Pair). pair.value) pairs

-- the number of a record, 0 where the key is none
abbrev pub number_of : Key → ℕ
number_of (Bytes bytes) = 0
number_of (Number number) = number

-- the numbers of records ascend from one on
abbrev pub AscendFrom : ℕ → List Pair → Type 0
AscendFrom least [] = Unit {0}
AscendFrom least (pair ∷ pairs) = (least ≤ number_of pair.key) × AscendFrom (number_of pair.key + 1) pairs

-- a pair as the list of a database has it
abbrev pub listed_key : Key → ListKey
listed_key (Bytes bytes) = BytesKey bytes
listed_key (Number number) = NumberKey number

abbrev pub listed : List Pair → List (ListKey × List ℕ)
listed pairs = map (λ (pair : Pair). (listed_key pair.key, pair.value)) pairs
