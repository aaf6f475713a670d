-- One more number, and one more pair.
use Rattle.std.proofs.Common.{◌≡◌, ℕ, ◌+◌, ◌≤◌, ◌%◌, List, suc, [], ◌∷◌, ◌++◌, arith, ap, refl, take, replicate}
use Rattle.std.proofs.lemmas.List.{take-replicate}
use Rattle.std.proofs.lemmas.List.FromFn.{map-range_with_len_more}
use Rattle.bdb_text_format.specs.of_format.declared.kinds.Kind.{Kind}
use Rattle.bdb_text_format.specs.declared.pairs.Key.{Key}
use Rattle.bdb_text_format.specs.Terms.{listed_as}
use Rattle.bdb_gen.specs.Generated.{generated, next_number, number_from, pair_key, pair_of, value_length}

pub number_next : (seed i : ℕ) → number_from seed (i + 1) ≡ next_number (number_from seed i)
number_next seed i = let one : i + 1 ≡ suc i = omega arith in ap (number_from seed) one

pub pairs_none : (kind : Kind) (seed : ℕ) → [] ≡ generated kind seed 0
unfolding generated
pairs_none kind seed = refl

pub pairs_next : (kind : Kind) (seed x i : ℕ) → x ≡ number_from seed i → generated kind seed (i + 1) ≡ generated kind seed i ++ (pair_of kind x i ∷ [])
unfolding generated
pairs_next kind seed x i is = rw is (map-range_with_len_more (λ n. pair_of kind (number_from seed n) n) 0 i i (omega arith))

-- of the same bytes the first are the same
pub same_bytes : (n most byte : ℕ) → n ≤ most → take n (replicate most byte) ≡ replicate n byte
same_bytes n most byte low = take-replicate n most byte low

pub pair_is : (kind : Kind) (x i : ℕ) (key : Key) (value : List ℕ) (n : ℕ) → key ≡ pair_key kind x i → value ≡ replicate n (i % 256) → n ≡ value_length kind x
    → listed_as key value ≡ pair_of kind x i
pair_is kind x i key value n key_is value_is long = rw (key_is, value_is, long) refl
