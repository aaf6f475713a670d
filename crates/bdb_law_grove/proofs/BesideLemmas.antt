-- Groves beside each other, and a page alone.
use Rattle.std.proofs.Common.{arith, ◌≡◌, ◌⊎◌, ℕ, ◌+◌, Bool, true, false, List, [], ◌∷◌, ◌++◌, Some, refl, sym, ◌∙◌, ap, subst, inl, inr, true≢false}
use Rattle.std.specs.List.{Contains, filter, flat_map, range_with_len}
use Rattle.std.proofs.Math.Path.{fun_ext}
use Rattle.std.proofs.lemmas.Bool.{cases_Bool, eqb-true, eq-eqb, or_left, or_right, or_cases}
use Rattle.std.proofs.lemmas.List.Elements.{Contains-append_cases, Contains-append_left, Contains-append_right}
use Rattle.bdb_format.specs.Terms.{File, Owner, first_holder, header_in, held_by, page_at}
use Rattle.bdb_format.proofs.MemberLemmas.{first_member, no_member, of_filter}
use Rattle.bdb_law_grove.specs.Part.{IsGrove, IsOwnedBy, IsWayIn, owners_among}
use Rattle.bdb_law_grove.specs.Growing.{GrovesStandTogether, PageAlone}
use Rattle.bdb_law_grove.specs.Standing.{GroveIsKnown}
use Rattle.bdb_format.proofs.ListLemmas.{only_member}
use Rattle.bdb_law_grove.proofs.OwnerLemmas.{NamesNot, filter_first, held_none, names_page, owner_among}

-- a set within another
filter_within : (small large : ℕ → Bool) (xs : List ℕ) → ((x : ℕ) → small x ≡ true → large x ≡ true) → filter small (filter large xs) ≡ filter small xs
filter_within small large [] within = refl
filter_within small large (x ∷ xs) within = grind (arith, cases_Bool, filter_within small large xs within)

-- the owners of a page are of the set that alone names it
pub owners_within : (small large : ℕ → Bool) (f : File) (x : ℕ) → ((q : ℕ) → small q ≡ true → large q ≡ true)
    → ((q : ℕ) → large q ≡ true → small q ≡ false → NamesNot f x q)
    → owners_among large f x ≡ owners_among small f x
owners_within small large f x within none =
    filter_first small (names_page x) (held_by f) (filter large (range_with_len 0 (f.last + 1)))
    (λ q at other. held_none f x q (none q (of_filter large (range_with_len 0 (f.last + 1)) q at).1 other))
    ∙ ap (λ qs. filter (names_page x) (flat_map (held_by f) qs)) (filter_within small large (range_with_len 0 (f.last + 1)) within)

-- one of two groves, seen from both
record Side (f : File) (one both : ℕ → Bool) (es all : List ℕ) : Type 0 where
  grove : IsGrove f one es
  within : (q : ℕ) → one q ≡ true → both q ≡ true
  apart : (q x : ℕ) → both q ≡ true → one q ≡ false → one x ≡ true → NamesNot f x q
  entered : (e : ℕ) → Contains es e → Contains all e
  own : (e : ℕ) → Contains all e → one e ≡ true → Contains es e

side_owners : (f : File) (one both : ℕ → Bool) (es all : List ℕ) (x : ℕ) → Side f one both es all → one x ≡ true → owners_among both f x ≡ owners_among one f x
side_owners f one both es all x side is = owners_within one both f x side.within (λ q in_both other. side.apart q x in_both other is)

side_owned : (f : File) (one both : ℕ → Bool) (es all : List ℕ) (x : ℕ) → Side f one both es all → one x ≡ true → (Contains all x → ⊥)
    → IsOwnedBy (owners_among both f x) (header_in (page_at f x)).entries
side_owned f one both es all x side is inner =
    subst (λ os. IsOwnedBy os (header_in (page_at f x)).entries) (sym (side_owners f one both es all x side is))
    (side.grove.owned x is (λ at. inner (side.entered x at)))

-- the holder of the first reference to a page of a grove is of the grove
side_way : (f : File) (one both : ℕ → Bool) (es all : List ℕ) (x : ℕ) (hs : List ℕ) → Side f one both es all → one x ≡ true
    → ((q h : ℕ) → one q ≡ true → first_holder (owners_among one f q) ≡ Some h → one h ≡ true)
    → IsWayIn f one es x hs → IsWayIn f both all x hs
side_way f one both es all x [] side is inside way = side.entered x way
side_way f one both es all x (h ∷ hs) side is inside way =
    (ap first_holder (side_owners f one both es all x side is) ∙ way.0, side_way f one both es all h hs side (inside x h is way.0) inside way.1)

pub page_alone : PageAlone
page_alone f p low high none = grind (arith, eqb-true, eq-eqb, only_member, first_member, no_member)

-- an owner among some pages is one of them
owner_inside : (pages : ℕ → Bool) (f : File) (x : ℕ) (owner : Owner) → Contains (owners_among pages f x) owner → pages owner.holder ≡ true
owner_inside pages f x owner at =
    let found = owner_among pages f x owner at in subst (λ (o : Owner). pages o.holder ≡ true) found.4 found.1

pub first_inside : (pages : ℕ → Bool) (f : File) (q h : ℕ) → first_holder (owners_among pages f q) ≡ Some h → pages h ≡ true
first_inside pages f q h first = of (owners_among pages f q) (owner_inside pages f q) first
  where
    of : (os : List Owner) → ((owner : Owner) → Contains os owner → pages owner.holder ≡ true) → first_holder os ≡ Some h → pages h ≡ true
    of [] inside some = absurd cc
    of (owner ∷ os) inside some = let same : owner.holder ≡ h = cc in subst (λ (k : ℕ). pages k ≡ true) same (inside owner (first_member owner os))

pub stand_together : GrovesStandTogether
stand_together f one two both es gs union apart first second =
    record {
      low = λ p is. elim (sides p is) [ inl a ↦ first.low p a | inr b ↦ second.low p b ];
      high = λ p is. elim (sides p is) [ inl a ↦ first.high p a | inr b ↦ second.high p b ];
      fits = λ p r is at. elim (sides p is) [ inl a ↦ first.fits p r a at | inr b ↦ second.fits p r b at ];
      closed = λ p r is at. elim (sides p is) [ inl a ↦ of_one r.target (first.closed p r a at) | inr b ↦ of_two r.target (second.closed p r b at) ];
      entered = λ e at. elim (Contains-append_cases es gs e at) [ inl a ↦ of_one e (first.entered e a) | inr b ↦ of_two e (second.entered e b) ];
      apart = λ p r is at entrance.
          elim (sides p is) [
            | inl a ↦ first.apart p r a at (side_one.own r.target entrance (first.closed p r a at))
            | inr b ↦ second.apart p r b at (side_two.own r.target entrance (second.closed p r b at))
          ];
      owned = λ p is inner.
          elim (sides p is) [
            | inl a ↦ side_owned f one both es (es ++ gs) p side_one a inner
            | inr b ↦ side_owned f two both gs (es ++ gs) p side_two b inner
          ];
      led = λ p is.
          elim (sides p is) [
            | inl a ↦ let way = first.led p a in (way.0, side_way f one both es (es ++ gs) p way.0 side_one a (λ q h _. first_inside one f q h) way.1)
            | inr b ↦ let way = second.led p b in (way.0, side_way f two both gs (es ++ gs) p way.0 side_two b (λ q h _. first_inside two f q h) way.1)
          ];
    }
  where
    sides : (p : ℕ) → both p ≡ true → (one p ≡ true) ⊎ (two p ≡ true)
    sides p is = or_cases (one p) (two p) (sym (union p) ∙ is)

    of_one : (p : ℕ) → one p ≡ true → both p ≡ true
    of_one p is = union p ∙ or_left (one p) (two p) is

    of_two : (p : ℕ) → two p ≡ true → both p ≡ true
    of_two p is = union p ∙ or_right (one p) (two p) is

    side_one : Side f one both es (es ++ gs)
    side_one = record {
      grove = first;
      within = of_one;
      apart = λ q x in_both out is r at names.
          elim (sides q in_both) [
            | inl a ↦ true≢false (sym a ∙ out)
            | inr b ↦ apart x is (subst (λ (t : ℕ). two t ≡ true) names (second.closed q r b at))
          ];
      entered = λ e at. Contains-append_left es gs e at;
      own = λ e at is. elim (Contains-append_cases es gs e at) [ inl a ↦ a | inr b ↦ absurd (apart e is (second.entered e b)) ];
    }

    side_two : Side f two both gs (es ++ gs)
    side_two = record {
      grove = second;
      within = of_two;
      apart = λ q x in_both out is r at names.
          elim (sides q in_both) [
            | inl a ↦ apart x (subst (λ (t : ℕ). one t ≡ true) names (first.closed q r a at)) is
            | inr b ↦ true≢false (sym b ∙ out)
          ];
      entered = λ e at. Contains-append_right es gs e at;
      own = λ e at is. elim (Contains-append_cases es gs e at) [ inl a ↦ absurd (apart e (first.entered e a) is) | inr b ↦ b ];
    }

way_known : (g : File) (pages : ℕ → Bool) (es fs : List ℕ) (p : ℕ) (hs : List ℕ) → ((e : ℕ) → Contains es e → Contains fs e) → IsWayIn g pages es p hs
    → IsWayIn g pages fs p hs
way_known g pages es fs p [] to way = to p way
way_known g pages es fs p (h ∷ hs) to way = (way.0, way_known g pages es fs h hs to way.1)

pub grove_is_known : GroveIsKnown
grove_is_known g pages same es fs set to from grove =
    subst (λ (qs : ℕ → Bool). IsGrove g qs fs) (sym (fun_ext set))
    (record {
      low = grove.low;
      high = grove.high;
      fits = grove.fits;
      closed = grove.closed;
      entered = λ e at. grove.entered e (from e at);
      apart = λ p r is at entrance. grove.apart p r is at (from r.target entrance);
      owned = λ p is inner. grove.owned p is (λ at. inner (to p at));
      led = λ p is. let way = grove.led p is in (way.0, way_known g pages es fs p way.0 to way.1);
    })
