-- What stands in a run stays where the run grows.
use Rattle.std.proofs.Common.{◌≡◌, ℕ, ◌+◌, ◌-◌, ◌<◌, ◌≤◌, List, [], ◌∷◌, ◌++◌, Some, arith, ap, append-nil, append_assoc, drop, get_or, get_or-drop, inl, inr}
use Rattle.std.proofs.Common.{length, length-drop, subst, sym, take, ◌∙◌, nat_cmp}
use Rattle.std.specs.BTreeMap.{BTreeMap, Updates}
use Rattle.std.proofs.lemmas.Bool.{cases_eq}
use Rattle.std.proofs.lemmas.List.{get_or_append_left, map-append, take_more}
use Rattle.std.proofs.lemmas.Option.{same_Some}
use Rattle.bdb_places.specs.declared.span.Span.{Span}
use Rattle.bdb_text_format.specs.declared.pairs.Key.{Key}
use Rattle.bdb_text_format.specs.declared.pairs.Key.TheVariants.{Number}
use Rattle.bdb_text_format.specs.declared.pairs.TextPair.{TextPair}
use Rattle.bdb_text_format.specs.Terms.{Extends, Gathering, HasChains, IsPiecePut, Keeps, key_again, noted, pair_with, with_again, with_pair}
use Rattle.bdb_text_format.proofs.PlacedLemmas.{long, span_stays}
use Rattle.bdb_places.proofs.of_format.LessLemmas.{other_number}

pub piece_stays : (old new piece : List ℕ) (span : Span) → Keeps old new → IsPiecePut old piece span → IsPiecePut new piece span
piece_stays old new piece span kept put = record {
  begin = put.begin;
  end = omega (arith, put.end, long old new kept);
  same = span_stays old new span kept put.begin put.end ∙ put.same;
}

-- the values of chains
pub chains_stay : (value : ℕ → List ℕ) (old new : Gathering) → Keeps old.bytes new.bytes → new.chains ≡ old.chains → HasChains value old → HasChains value new
chains_stay value old new kept same has = record {
  each = λ head span at.
      piece_stays old.bytes new.bytes (value head) span kept (has.each head span (ap (λ chains. noted chains head) (sym same) ∙ at));
}

pub chains_same : (value : ℕ → List ℕ) (old new : Gathering) → new.bytes ≡ old.bytes → new.chains ≡ old.chains → HasChains value old → HasChains value new
chains_same value old new bytes chains has = record {
  each = λ head span at.
      subst (λ run. IsPiecePut run (value head) span) (sym bytes) (has.each head span (ap (λ notes. noted notes head) (sym chains) ∙ at));
}

-- and of one more
pub chains_more : (value : ℕ → List ℕ) (old new : Gathering) (before after : BTreeMap ℕ Span) (head : ℕ) (span : Span) (piece : List ℕ)
    → Keeps old.bytes new.bytes → old.chains ≡ before.entries → new.chains ≡ after.entries → Updates nat_cmp before after head (Some span)
    → IsPiecePut new.bytes piece span → piece ≡ value head → HasChains value old → HasChains value new
chains_more value old new before after head span piece kept first second updates put is has = record {
  each = λ other place at.
      elim (cases_eq head other) [
        | inl same ↦
            let here : Some span ≡ Some place =
            sym updates.1 ∙ (ap (λ n. noted after.entries n) same ∙ (ap (λ chains. noted chains other) (sym second) ∙ at)) in
            subst (λ n. IsPiecePut new.bytes (value n) place) same
            (subst (λ at_place. IsPiecePut new.bytes (value head) at_place) (same_Some span place here)
            (subst (λ bytes. IsPiecePut new.bytes bytes span) is put))
        | inr differ ↦
            piece_stays old.bytes new.bytes (value other) place kept
            (has.each other place
            (ap (λ chains. noted chains other) first
            ∙ (sym (updates.2 other (other_number head other differ)) ∙ (ap (λ chains. noted chains other) (sym second) ∙ at))))
      ];
}

-- Some pairs more.

pub extends_none : (it now : Gathering) → now ≡ it → Extends it now
extends_none it now same = record {
  bytes = ap (λ (g : Gathering). g.bytes) same;
  chains = ap (λ (g : Gathering). g.chains) same;
  more = [];
  pairs = ap (λ (g : Gathering). g.pairs) same ∙ sym (append-nil it.pairs);
}

pub extends_pair : (it now : Gathering) (pair : TextPair) → now ≡ with_pair pair it → Extends it now
extends_pair it now pair is = record {
  bytes = ap (λ (g : Gathering). g.bytes) is;
  chains = ap (λ (g : Gathering). g.chains) is;
  more = pair ∷ [];
  pairs = ap (λ (g : Gathering). g.pairs) is;
}

pub extends_again : (it now : Gathering) (key : Key) (pairs : List TextPair) → now ≡ with_again key pairs it → Extends it now
extends_again it now key pairs is = record {
  bytes = ap (λ (g : Gathering). g.bytes) is;
  chains = ap (λ (g : Gathering). g.chains) is;
  more = key_again key pairs;
  pairs = ap (λ (g : Gathering). g.pairs) is;
}

-- what pairs more are
pub ruleset extended = (extends_none, extends_pair, extends_again)

-- Data that stand there once more.

no_pair : TextPair
no_pair = record { key = Number 0; value = []; line = 0 }

-- those up to one more
part_more : (pairs : List TextPair) (from i : ℕ) → from ≤ i → i < length pairs
    → take (i + 1 - from) (drop from pairs) ≡ take (i - from) (drop from pairs) ++ get_or pairs i no_pair ∷ []
part_more pairs from i order low =
    let n : i + 1 - from ≡ (i - from) + 1 = omega (arith, order) in
    let at : from + (i - from) ≡ i = omega (arith, order) in
    ap (λ m. take m (drop from pairs)) n
    ∙ (take_more (drop from pairs) (i - from) no_pair (omega (arith, order, low, length-drop from pairs))
    ∙ ap (λ pair. take (i - from) (drop from pairs) ++ pair ∷ [])
    (get_or-drop from pairs (i - from) no_pair ∙ ap (λ m. get_or pairs m no_pair) at))

pub again_more : (it now : Gathering) (key : Key) (from i : ℕ) (value : List ℕ) → from ≤ i → i < length it.pairs
    → now ≡ with_again key (take (i - from) (drop from it.pairs)) it → ((other : TextPair) → value ≡ (get_or now.pairs i other).value)
    → with_pair (pair_with key value 0) now ≡ with_again key (take (i + 1 - from) (drop from it.pairs)) it
again_more it now key from i value order low so_far is =
    let passed : List TextPair = take (i - from) (drop from it.pairs) in
    let same : value ≡ (get_or it.pairs i no_pair).value =
    is no_pair
    ∙ (ap (λ (g : Gathering). (get_or g.pairs i no_pair).value) so_far
    ∙ ap (λ (pair : TextPair). pair.value) (get_or_append_left it.pairs (key_again key passed) no_pair i low)) in
    let all : now.pairs ++ pair_with key value 0 ∷ [] ≡ it.pairs ++ key_again key (take (i + 1 - from) (drop from it.pairs)) =
    ap (λ (g : Gathering). g.pairs ++ pair_with key value 0 ∷ []) so_far
    ∙ (append_assoc it.pairs (key_again key passed) (pair_with key value 0 ∷ [])
    ∙ ap (λ more. it.pairs ++ more)
    (ap (λ v. key_again key passed ++ pair_with key v 0 ∷ []) same
    ∙ (sym (map-append (λ (pair : TextPair). pair_with key pair.value 0) passed (get_or it.pairs i no_pair ∷ []))
    ∙ ap (key_again key) (sym (part_more it.pairs from i order low))))) in
    ap (λ (g : Gathering). record g { pairs = now.pairs ++ pair_with key value 0 ∷ [] }) so_far ∙ ap (λ pairs. record it { pairs = pairs }) all
