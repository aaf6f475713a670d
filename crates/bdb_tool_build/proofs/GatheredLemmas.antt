-- Pairs of a database in the making, as more of them come.
use Rattle.std.proofs.Common.{◌≡◌, ℕ, Bool, true, false, cond, not, List, [], ◌∷◌, ◌++◌, ap, append-nil, append_assoc, map, refl, subst, sym, ◌∙◌}
use Rattle.std.proofs.lemmas.List.{map-append}
use Rattle.std.proofs.lemmas.List.Elements.{All-head}
use Rattle.bdb_file.specs.of_btree.Pairs.{stored_pair}
use Rattle.bdb_file.specs.of_buckets.Told.{Told, entry_list, listed_told}
use Rattle.bdb_model.specs.of_format.Terms.{BytesKey, File, Item, ListKey, data_of, file_of, listed_entry, listed_pair, value_of}
use Rattle.bdb_onto.specs.Bases.{text_pair}
use Rattle.bdb_ranks.specs.of_form.Pairs.{PairOf}
use Rattle.bdb_ranks.specs.of_overflow.Datum.{FitsContent}
use Rattle.bdb_ranks.specs.of_overflow.Held.{chain_value}
use Rattle.bdb_ranks.specs.of_tree.Entries.{AreFit, values_of}
use Rattle.bdb_text_format.specs.of_places.declared.place.PlacedKey.{PlacedKey}
use Rattle.bdb_text_format.specs.of_places.declared.span.Span.{Span}
use Rattle.bdb_text_format.specs.of_places.Places.{span_in}
use Rattle.bdb_text_format.specs.declared.pairs.Key.{Key}
use Rattle.bdb_text_format.specs.declared.pairs.Key.TheVariants.{Bytes, Number}
use Rattle.bdb_text_format.specs.Terms.{Extends, Gathering, HasChains, IsKeyPlaced, IsPiecePut, pair_with, placed_key}
use Rattle.bdb_text_format.proofs.GatheredLemmas.{chains_same}
use Rattle.bdb_text_format.proofs.PlacedLemmas.{key_stays, key_within}
use Rattle.bdb_onto.specs.declared.beside.Beside.{Beside}
use Rattle.bdb_text_format.specs.declared.pairs.TextPair.{TextPair}
use Rattle.bdb_tool_build.specs.Gathered.{AddsEnough, Adds, Grows, HasKey, ImageInHand, with_key}
use Rattle.bdb_tool_build.proofs.EnoughLemmas.{adds_all}

-- The same pairs with a run that grew, and then more of them.

pub adds_none : (it : ImageInHand) (key : PlacedKey) → IsKeyPlaced it.gathered.bytes key → Adds it it key []
adds_none it key placed = record { image = refl; placed = placed; same = refl; pairs = sym (append-nil it.gathered.pairs) }

pub adds_grown : (old mid new : ImageInHand) (key : PlacedKey) (values : List (List ℕ)) → Grows old mid → IsKeyPlaced old.gathered.bytes key
    → Adds mid new key values → Adds old new key values
adds_grown old mid new key values grows placed adds =
    let same : placed_key mid.gathered.bytes key ≡ placed_key old.gathered.bytes key =
    key_stays old.gathered.bytes mid.gathered.bytes key grows.bytes placed in
    record {
      image = adds.image ∙ grows.image;
      placed = adds.placed;
      same = adds.same ∙ same;
      pairs = adds.pairs ∙ (ap (λ pairs. pairs ++ with_key (placed_key mid.gathered.bytes key) values) grows.pairs
          ∙ ap (λ k. old.gathered.pairs ++ with_key k values) same);
    }

pub adds_put : (old mid new : ImageInHand) (key : PlacedKey) (piece : List ℕ) (span : Span) → Grows old mid → IsKeyPlaced old.gathered.bytes key
    → IsPiecePut mid.gathered.bytes piece span → Adds mid new key (span_in mid.gathered.bytes span ∷ []) → Adds old new key (piece ∷ [])
adds_put old mid new key piece span grows placed put adds =
    adds_grown old mid new key (piece ∷ []) grows placed (subst (λ bytes. Adds mid new key (bytes ∷ [])) put.same adds)

adds_on : (old mid new : ImageInHand) (key : PlacedKey) (some more all : List (List ℕ)) → Adds old mid key some → Adds mid new key more → all ≡ some ++ more
    → Adds old new key all
adds_on old mid new key some more all first second are =
    let k : Key = placed_key old.gathered.bytes key in
    record {
      image = second.image ∙ first.image;
      placed = second.placed;
      same = second.same ∙ first.same;
      pairs = second.pairs
          ∙ (ap (λ pairs. pairs ++ with_key (placed_key mid.gathered.bytes key) more) first.pairs
          ∙ (ap (λ one. (old.gathered.pairs ++ with_key k some) ++ with_key one more) first.same
          ∙ (append_assoc old.gathered.pairs (with_key k some) (with_key k more)
          ∙ ap (λ pairs. old.gathered.pairs ++ pairs)
          (sym (map-append (λ value. pair_with k value 0) some more) ∙ ap (with_key k) (sym are)))));
    }

pub grown_key : (old new : ImageInHand) (key : PlacedKey) → Grows old new → IsKeyPlaced old.gathered.bytes key → IsKeyPlaced new.gathered.bytes key
grown_key old new key grows placed = key_within old.gathered.bytes new.gathered.bytes key grows.bytes placed

-- What is noted stands where more pairs come.
pub extends_chains : (file : File) (old new : Gathering) → Extends old new → HasChains (chain_value file) old → HasChains (chain_value file) new
extends_chains file old new extends has = chains_same (chain_value file) old new extends.bytes extends.chains has

-- what pairs in the making are
pub ruleset in_hand = (adds_put, grown_key, extends_chains)

-- Entries that come one by one.

entries_on : (file : File) (entry : Item) (entries : List Item) → values_of file (entry ∷ entries) ≡ values_of file (entry ∷ []) ++ values_of file entries
entries_on file entry entries = by_test entry.deleted refl
  where
    by_test : (b : Bool) → entry.deleted ≡ b → values_of file (entry ∷ entries) ≡ values_of file (entry ∷ []) ++ values_of file entries
    by_test true is = rw (is) refl
    by_test false is = rw (is) refl

pub record AddsSoFar (old new : ImageInHand) (key : PlacedKey) (all left : List (List ℕ)) : Type 0 where
  pub passed : List (List ℕ)
  pub are : all ≡ passed ++ left
  pub adds : Adds old new key passed

pub so_far_none : (it : ImageInHand) (key : PlacedKey) (all : List (List ℕ)) → IsKeyPlaced it.gathered.bytes key → AddsSoFar it it key all all
so_far_none it key all placed = record { passed = []; are = refl; adds = adds_none it key placed }

-- some more of them
pub so_far_more : (old mid new : ImageInHand) (key : PlacedKey) (all left more rest : List (List ℕ)) → AddsSoFar old mid key all left → left ≡ more ++ rest
    → Adds mid new key more → AddsSoFar old new key all rest
so_far_more old mid new key all left more rest so_far are adds = record {
  passed = so_far.passed ++ more;
  are = so_far.are ∙ (ap (λ values. so_far.passed ++ values) are ∙ sym (append_assoc so_far.passed more rest));
  adds = adds_on old mid new key so_far.passed more (so_far.passed ++ more) so_far.adds adds refl;
}

-- one more entry, in the image that is at hand
pub so_far_entry : (old mid new : ImageInHand) (key : PlacedKey) (all : List (List ℕ)) (left rest : List Item) (entry : Item)
    → AddsSoFar old mid key all (values_of (file_of old.image) left) → left ≡ entry ∷ rest
    → Adds mid new key (values_of (file_of mid.image) (entry ∷ [])) → AddsSoFar old new key all (values_of (file_of old.image) rest)
so_far_entry old mid new key all left rest entry so_far are adds =
    let file : File = file_of old.image in
    so_far_more old mid new key all (values_of file left) (values_of file (entry ∷ [])) (values_of file rest) so_far
    (ap (values_of file) are ∙ entries_on file entry rest)
    (subst (λ (image : List ℕ). Adds mid new key (values_of (file_of image) (entry ∷ []))) so_far.adds.image adds)

-- what the next one names is there
pub entry_fits : (image same : List ℕ) (left rest : List Item) (entry : Item) → left ≡ entry ∷ rest → same ≡ image → AreFit (file_of image) left
    → FitsContent (file_of same) entry.content
entry_fits image same left rest entry are is fit =
    subst (λ (i : List ℕ). FitsContent (file_of i) entry.content) (sym is)
    (All-head (λ (e : Item). FitsContent (file_of image) e.content) entry rest (subst (AreFit (file_of image)) are fit))

pub so_far_all : (old new : ImageInHand) (key : PlacedKey) (all left : List (List ℕ)) → AddsSoFar old new key all left → left ≡ [] → Adds old new key all
so_far_all old new key all left so_far none =
    subst (Adds old new key) (sym (so_far.are ∙ (ap (λ more. so_far.passed ++ more) none ∙ append-nil so_far.passed))) so_far.adds

-- what is added so far
pub ruleset so_far_adds = (so_far_none, so_far_all)

-- What a stored pair gives.

-- a key with its data, as a list has them
pub listed_keyed : (key : List ℕ) (values : List (List ℕ)) → with_key (Bytes key) values ≡ map text_pair (map (λ value. (BytesKey key, value)) values)
listed_keyed key [] = refl
listed_keyed key (value ∷ values) = ap (λ more. pair_with (Bytes key) value 0 ∷ more) (listed_keyed key values)

-- nothing, where it's deleted
pub deleted_given : (beside : Beside) (file : File) (old new : List TextPair) (pair : PairOf Item) → new ≡ old → pair.value.deleted ≡ true
    → AddsEnough beside old new (map text_pair (listed_pair file (stored_pair file 0 pair)))
deleted_given beside file old new pair same deleted =
    let listed : List (ListKey × List ℕ) = map (λ value. (BytesKey (value_of file pair.key.content), value)) (data_of file pair.value.content) in
    adds_all beside old new (map text_pair (listed_pair file (stored_pair file 0 pair)))
    (same ∙ (sym (append-nil old) ∙ ap (λ b. old ++ map text_pair (cond (not b) listed [])) (sym deleted)))

-- else its key with its data, where these aren't replaced
pub pair_enough : (beside : Beside) (old mid : ImageInHand) (new : List TextPair) (bytes : List ℕ) (pair : PairOf Item) → pair.value.deleted ≡ false
    → Grows old mid → bytes ≡ value_of (file_of old.image) pair.key.content
    → AddsEnough beside mid.gathered.pairs new (with_key (Bytes bytes) (data_of (file_of mid.image) pair.value.content))
    → AddsEnough beside old.gathered.pairs new (map text_pair (listed_pair (file_of old.image) (stored_pair (file_of old.image) 0 pair)))
pair_enough beside old mid new bytes pair live grows same adds =
    let file : File = file_of old.image in
    let key : List ℕ = value_of file pair.key.content in
    let values : List (List ℕ) = data_of file pair.value.content in
    let listed : List (ListKey × List ℕ) = map (λ value. (BytesKey key, value)) values in
    subst (λ now. AddsEnough beside now new (map text_pair (listed_pair file (stored_pair file 0 pair)))) grows.pairs
    (subst (AddsEnough beside mid.gathered.pairs new)
    (ap (λ (i : List ℕ). with_key (Bytes bytes) (data_of (file_of i) pair.value.content)) grows.image
    ∙ (ap (λ b. with_key (Bytes b) values) same
    ∙ (listed_keyed key values ∙ ap (λ b. map text_pair (cond (not b) listed [])) (sym live)))) adds)

-- a record with its number, unless it's deleted
pub record_given : (file : File) (number : ℕ) (entry : Item) → with_key (Number number) (values_of file (entry ∷ [])) ≡ map text_pair (listed_entry file (number, entry))
record_given file number entry = by_test entry.deleted refl
  where
    by_test : (b : Bool) → entry.deleted ≡ b → with_key (Number number) (values_of file (entry ∷ [])) ≡ map text_pair (listed_entry file (number, entry))
    by_test true is = rw (is) refl
    by_test false is = rw (is) refl

-- what a pair of a hash lists
pub told_given : (old mid new : ImageInHand) (key : PlacedKey) (t : Told) → t.image ≡ old.image → Grows old mid → HasKey mid t.pair.key key
    → Adds mid new key (data_of (file_of t.image) t.pair.data_item)
    → listed_told t ≡ entry_list t.pair.key (data_of (file_of t.image) t.pair.data_item)
    → new.gathered.pairs ≡ old.gathered.pairs ++ map text_pair (listed_told t)
told_given old mid new key t is grows has adds listed =
    let values : List (List ℕ) = data_of (file_of t.image) t.pair.data_item in
    adds.pairs
    ∙ (ap (λ pairs. pairs ++ with_key (placed_key mid.gathered.bytes key) values) grows.pairs
    ∙ (ap (λ k. old.gathered.pairs ++ with_key k values) has.same
    ∙ (ap (λ more. old.gathered.pairs ++ more) (listed_keyed t.pair.key values)
    ∙ ap (λ more. old.gathered.pairs ++ map text_pair more) (sym listed))))
