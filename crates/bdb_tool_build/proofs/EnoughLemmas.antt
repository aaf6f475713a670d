-- Pairs that are added but for some that a section replaces.
use Rattle.std.proofs.Common.{◌≡◌, ℕ, Bool, true, false, cond, List, [], ◌∷◌, ◌++◌, append-nil, append_assoc, map, refl, sym, ◌∙◌, ap, subst}
use Rattle.std.specs.List.{All}
use Rattle.std.proofs.lemmas.List.{map-append}
use Rattle.std.proofs.lemmas.List.Elements.{All-cons, All-nil}
use Rattle.bdb_model.specs.of_format.Terms.{BytesKey, File, ListKey, StoredPair, data_of, listed_pair}
use Rattle.bdb_text_format.specs.Terms.{pair_with, slice_seen}
use Rattle.bdb_text_format.specs.declared.pairs.Key.{Key}
use Rattle.bdb_text_format.specs.declared.pairs.Key.TheVariants.{Bytes}
use Rattle.bdb_text_format.specs.declared.pairs.TextPair.{TextPair}
use Rattle.bdb_onto.specs.Bases.{text_pair}
use Rattle.bdb_onto.specs.Replaced.{IsReplaced}
use Rattle.bdb_onto.specs.declared.beside.Beside.{Beside}
use Rattle.bdb_onto.proofs.ReplacedLemmas.{all_enough, all_left_out, more_enough}
use Rattle.bdb_tool_build.specs.Gathered.{AddsEnough, AreListing, IsEnough, with_key}

-- all were added
pub adds_all : (beside : Beside) (old new full : List TextPair) → new ≡ old ++ full → AddsEnough beside old new full
adds_all beside old new full are = record { kept = full; are = are; enough = all_enough beside.settings (slice_seen beside.pairs) full }

keyed : (key : Key) (values : List (List ℕ)) → All (λ (pair : TextPair). pair.key ≡ key) (with_key key values)
keyed key [] = All-nil (λ (pair : TextPair). pair.key ≡ key)
keyed key (value ∷ values) =
    All-cons (λ (pair : TextPair). pair.key ≡ key) (pair_with key value 0) (with_key key values) refl (keyed key values)

-- or none, where the section has their key
pub adds_none_of : (beside : Beside) (old new full : List TextPair) (key : Key) (values : List (List ℕ)) → new ≡ old
    → with_key key values ≡ full → IsReplaced beside.settings (slice_seen beside.pairs) key → AddsEnough beside old new full
adds_none_of beside old new full key values same are replaced = record {
  kept = [];
  are = same ∙ sym (append-nil old);
  enough =
      subst (λ all. IsEnough beside all []) are
      (all_left_out beside.settings (slice_seen beside.pairs) (with_key key values) key replaced (keyed key values));
}

-- the pairs of a stored pair have its key
listed_keys : (file : File) (pair : StoredPair) → All (λ (p : TextPair). p.key ≡ Bytes pair.key) (map text_pair (listed_pair file pair))
listed_keys file pair = by_test pair.live
  where
    all_keyed : (values : List (List ℕ)) → All (λ (p : TextPair). p.key ≡ Bytes pair.key) (map text_pair (map (λ value. (BytesKey pair.key, value)) values))
    all_keyed [] = All-nil (λ (p : TextPair). p.key ≡ Bytes pair.key)
    all_keyed (value ∷ values) =
        All-cons (λ (p : TextPair). p.key ≡ Bytes pair.key) (text_pair (BytesKey pair.key, value))
        (map text_pair (map (λ v. (BytesKey pair.key, v)) values)) refl (all_keyed values)

    by_test : (b : Bool)
        → All (λ (p : TextPair). p.key ≡ Bytes pair.key)
        (map text_pair (cond b (map (λ value. (BytesKey pair.key, value)) (data_of file pair.data_item)) []))
    by_test true = all_keyed (data_of file pair.data_item)
    by_test false = All-nil (λ (p : TextPair). p.key ≡ Bytes pair.key)

-- or none of a stored pair
pub adds_none_stored : (beside : Beside) (old new : List TextPair) (file : File) (pair : StoredPair) → new ≡ old
    → IsReplaced beside.settings (slice_seen beside.pairs) (Bytes pair.key) → AddsEnough beside old new (map text_pair (listed_pair file pair))
adds_none_stored beside old new file pair same replaced = record {
  kept = [];
  are = same ∙ sym (append-nil old);
  enough =
      all_left_out beside.settings (slice_seen beside.pairs) (map text_pair (listed_pair file pair)) (Bytes pair.key) replaced (listed_keys file pair);
}

-- one after another

pub listing_begins : (beside : Beside) (begin all : List TextPair) → AreListing beside begin begin all all
listing_begins beside begin all = record {
  full = [];
  split = refl;
  adds = record { kept = []; are = sym (append-nil begin); enough = all_enough beside.settings (slice_seen beside.pairs) [] };
}

pub listing_on : (beside : Beside) (begin now new all here rest left : List TextPair) → AreListing beside begin now all left → left ≡ here ++ rest
    → AddsEnough beside now new here → AreListing beside begin new all rest
listing_on beside begin now new all here rest left listing are adds = record {
  full = listing.full ++ here;
  split = listing.split ∙ (ap (λ more. listing.full ++ more) are ∙ sym (append_assoc listing.full here rest));
  adds = record {
    kept = listing.adds.kept ++ adds.kept;
    are = adds.are ∙ (ap (λ pairs. pairs ++ adds.kept) listing.adds.are ∙ append_assoc begin listing.adds.kept adds.kept);
    enough =
        more_enough beside.settings (slice_seen beside.pairs) listing.full listing.adds.kept here adds.kept listing.adds.enough adds.enough;
  };
}

pub listing_ends : (beside : Beside) (begin now all rest : List TextPair) → AreListing beside begin now all rest → rest ≡ []
    → AddsEnough beside begin now all
listing_ends beside begin now all rest listing none =
    subst (AddsEnough beside begin now) (sym (listing.split ∙ (ap (λ more. listing.full ++ more) none ∙ append-nil listing.full))) listing.adds

-- what was added to nothing is enough
pub adds_enough : (beside : Beside) (begin now all : List TextPair) → begin ≡ [] → AddsEnough beside begin now all → IsEnough beside all now
adds_enough beside begin now all none adds =
    subst (IsEnough beside all) (sym (adds.are ∙ ap (λ pairs. pairs ++ adds.kept) none)) adds.enough

-- of a list
pub listed_on : (beside : Beside) (begin now new all : List TextPair) (here rest both : List (ListKey × List ℕ)) → both ≡ here ++ rest
    → AreListing beside begin now all (map text_pair both) → AddsEnough beside now new (map text_pair here)
    → AreListing beside begin new all (map text_pair rest)
listed_on beside begin now new all here rest both are listing adds =
    listing_on beside begin now new all (map text_pair here) (map text_pair rest) (map text_pair both) listing
    (ap (map text_pair) are ∙ map-append text_pair here rest) adds
