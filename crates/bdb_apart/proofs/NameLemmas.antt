-- The names that entries give to pages, one entry after the other.
use Rattle.std.proofs.Common.{◌≡◌, ℕ, zero, suc, ◌+◌, ◌<◌, ◌≤◌, Bool, true, false, cond, List, [], ◌∷◌, ◌++◌, length, set, get_or, arith, refl, sym, ◌∙◌}
use Rattle.std.proofs.Common.{ap, subst, inl, inr}
use Rattle.std.specs.Prelude.{Option, Some, None, ◌==◌, if◌then◌else◌, is_none, is_some, not}
use Rattle.std.specs.List.{filter, flat_map, range_with_len}
use Rattle.std.proofs.lemmas.Bool.{cases_eq, eq-eqb, ne_eqb}
use Rattle.std.proofs.lemmas.Grind.{flat_map-append}
use Rattle.std.proofs.lemmas.List.Elements.{filter-append}
use Rattle.std.proofs.lemmas.List.{append-nil, get_or_default, get_or-set_other, get_or-set_same, length-set}
use Rattle.bdb_rescue.specs.of_overflow.Datum.{datum_seen}
use Rattle.bdb_rescue.specs.of_overflow.declared.datum.Datum.{Datum}
use Rattle.bdb_rescue.proofs.of_format.ListLemmas.{range_zero_more}
use Rattle.bdb_rescue.specs.of_format.Terms.{File}
use Rattle.bdb_apart.specs.Found.{entries_on, is_master_leaf, name_in}
use Rattle.bdb_apart.specs.Names.{AreNames, AreNoted, IsNoting, named_seen, then_name}

abbrev Entries : Type 0
Entries = List (List ℕ × ℕ)

then_none : (name : Option (List ℕ)) → then_name name None ≡ name
then_none None = refl
then_none (Some name) = refl

then_then : (a b c : Option (List ℕ)) → then_name (then_name a b) c ≡ then_name a (then_name b c)
then_then None b c = refl
then_then (Some a) b c = refl

-- a page's name among more entries: the one it had, or that of the last ones
name_more : (p : ℕ) (entries others : Entries) → name_in p (entries ++ others) ≡ then_name (name_in p entries) (name_in p others)
name_more p [] others = refl
name_more p (entry ∷ entries) others = by_test (entry.1 == p) (name_more p entries others)
  where
    by_test : (b : Bool) → name_in p (entries ++ others) ≡ then_name (name_in p entries) (name_in p others)
        → cond b (Some entry.0) (name_in p (entries ++ others)) ≡ then_name (cond b (Some entry.0) (name_in p entries)) (name_in p others)
    by_test true rest = refl
    by_test false rest = rest

-- nothing is noted of no entries
pub none_noted : (names : List (Option Datum)) → AreNoted names names []
none_noted names = record { len = refl; each = λ p there. sym (then_none (named_seen (get_or names p None))) }

-- of a page that isn't there
pub past_noted : (names : List (Option Datum)) (key : List ℕ) (q : ℕ) → length names ≤ q → AreNoted names names ((key, q) ∷ [])
past_noted names key q past = record {
  len = refl;
  each = λ p there.
      sym (ap (λ b. then_name (named_seen (get_or names p None)) (cond b (Some key) None)) (ne_eqb q p (λ same. omega (arith, past, there, same)))
      ∙ then_none (named_seen (get_or names p None)));
}

-- a page that has a name, as it's read
pub had_by : (names : List (Option Datum)) (q : ℕ) (found : Option Datum) (none : Bool) → q < length names → is_some (get_or names q found) ≡ not none
    → none ≡ false → is_none (get_or names q None) ≡ false
had_by names q found none inside is has = ap not (ap is_some (get_or_default names q None found inside) ∙ (is ∙ ap not has))

-- of one that has a name
pub had_noted : (names : List (Option Datum)) (key : List ℕ) (q : ℕ) → is_none (get_or names q None) ≡ false → AreNoted names names ((key, q) ∷ [])
had_noted names key q has = record {
  len = refl;
  each = λ p there. elim (cases_eq q p) [
    | inl same ↦ subst (λ r. named_seen (get_or names r None) ≡ then_name (named_seen (get_or names r None)) (name_in r ((key, q) ∷ []))) same
        (stays (get_or names q None) has)
    | inr other ↦
        sym (ap (λ b. then_name (named_seen (get_or names p None)) (cond b (Some key) None)) (ne_eqb q p other) ∙ then_none (named_seen (get_or names p None)))
  ];
}
  where
    stays : (name : Option Datum) → is_none name ≡ false → named_seen name ≡ then_name (named_seen name) (name_in q ((key, q) ∷ []))
    stays None none = absurd cc
    stays (Some datum) some = refl

-- of one that has none
pub new_noted : (names : List (Option Datum)) (key : Datum) (q : ℕ) → is_none (get_or names q None) ≡ true → q < length names
    → AreNoted names (set names q (Some key)) ((datum_seen key, q) ∷ [])
new_noted names key q none inside = record {
  len = length-set names q (Some key);
  each = λ p there. elim (cases_eq q p) [
    | inl same ↦ subst
        (λ r. named_seen (get_or (set names q (Some key)) r None) ≡ then_name (named_seen (get_or names r None)) (name_in r ((datum_seen key, q) ∷ []))) same
        (ap named_seen (get_or-set_same names q (Some key) None inside) ∙ gets (get_or names q None) none)
    | inr other ↦
        ap named_seen (get_or-set_other names q p (Some key) None (λ same. other (sym same)))
        ∙ sym (ap (λ b. then_name (named_seen (get_or names p None)) (cond b (Some (datum_seen key)) None)) (ne_eqb q p other)
        ∙ then_none (named_seen (get_or names p None)))
  ];
}
  where
    here : name_in q ((datum_seen key, q) ∷ []) ≡ Some (datum_seen key)
    here = ap (λ b. cond b (Some (datum_seen key)) None) (eq-eqb q q refl)

    gets : (name : Option Datum) → is_none name ≡ true → Some (datum_seen key) ≡ then_name (named_seen name) (name_in q ((datum_seen key, q) ∷ []))
    gets None so = sym here
    gets (Some datum) so = absurd cc

-- some entries, and then others
pub then_noted : (old now new : List (Option Datum)) (entries others : Entries) → AreNoted old now entries → AreNoted now new others
    → AreNoted old new (entries ++ others)
then_noted old now new entries others first second = record {
  len = second.len ∙ first.len;
  each = λ p there.
      second.each p (omega (arith, there, first.len))
      ∙ (ap (λ name. then_name name (name_in p others)) (first.each p there)
      ∙ (then_then (named_seen (get_or old p None)) (name_in p entries) (name_in p others)
      ∙ ap (then_name (named_seen (get_or old p None))) (sym (name_more p entries others))));
}

-- A walk over entries.

pub begins : {X : Type 0} (f : X → Entries) (names : List (Option Datum)) (all : List X) → IsNoting f names names all all
begins f names all = record { len = refl; each = λ p there. refl }

pub steps : {X : Type 0} (f : X → Entries) (initial now new : List (Option Datum)) (all old left : List X) (x : X) → old ≡ x ∷ left
    → AreNoted now new (f x) → IsNoting f initial now all old → IsNoting f initial new all left
steps f initial now new all old left x more noted are = record {
  len = noted.len ∙ are.len;
  each = λ p there.
      ap (λ name. then_name name (name_in p (flat_map f left))) (noted.each p (omega (arith, there, are.len)))
      ∙ (then_then (named_seen (get_or now p None)) (name_in p (f x)) (name_in p (flat_map f left))
      ∙ (ap (then_name (named_seen (get_or now p None))) (sym (name_more p (f x) (flat_map f left)))
      ∙ (ap (λ xs. then_name (named_seen (get_or now p None)) (name_in p (flat_map f xs))) (sym more) ∙ are.each p there)));
}

pub ends : {X : Type 0} (f : X → Entries) (initial now : List (Option Datum)) (all left : List X) → left ≡ [] → IsNoting f initial now all left
    → AreNoted initial now (flat_map f all)
ends f initial now all left none are = record {
  len = are.len;
  each = λ p there.
      sym (ap (λ xs. then_name (named_seen (get_or now p None)) (name_in p (flat_map f xs))) none ∙ then_none (named_seen (get_or now p None)))
      ∙ are.each p there;
}

-- one page more
pub page_noted : (file : File) (old now new : List (Option Datum)) (p : ℕ)
    → AreNoted old now (flat_map (entries_on file) (filter (is_master_leaf file) (range_with_len 0 p)))
    → AreNoted now new (if is_master_leaf file p then entries_on file p else [])
    → AreNoted old new (flat_map (entries_on file) (filter (is_master_leaf file) (range_with_len 0 (p + 1))))
page_noted file old now new p first second =
    subst (AreNoted old new) (sym more) (then_noted old now new before (if is_master_leaf file p then entries_on file p else []) first second)
  where
    before : Entries
    before = flat_map (entries_on file) (filter (is_master_leaf file) (range_with_len 0 p))

    by_test : (is : Bool) → flat_map (entries_on file) (cond is (p ∷ []) []) ≡ cond is (entries_on file p) []
    by_test true = append-nil (entries_on file p)
    by_test false = refl

    more : flat_map (entries_on file) (filter (is_master_leaf file) (range_with_len 0 (p + 1)))
        ≡ before ++ (if is_master_leaf file p then entries_on file p else [])
    more =
        ap (λ ps. flat_map (entries_on file) (filter (is_master_leaf file) ps)) (range_zero_more p)
        ∙ (ap (flat_map (entries_on file)) (filter-append (is_master_leaf file) (range_with_len 0 p) (p ∷ []))
        ∙ (flat_map-append (entries_on file) (filter (is_master_leaf file) (range_with_len 0 p)) (cond (is_master_leaf file p) (p ∷ []) [])
        ∙ ap (λ es. before ++ es) (by_test (is_master_leaf file p))))

-- The names of a file.

pub none_more : (names : List (Option Datum)) (p : ℕ) → get_or (names ++ None ∷ []) p None ≡ get_or names p None
none_more [] zero = refl
none_more [] (suc p) = refl
none_more (name ∷ names) zero = refl
none_more (name ∷ names) (suc p) = none_more names p

-- no names of no entries
pub no_names : (count : ℕ) (names : List (Option Datum)) → length names ≡ count → ((p : ℕ) → p < count → get_or names p None ≡ None) → AreNames count names []
no_names count names len none = record { len = len; each = λ p there. ap named_seen (none p there) }

-- the names of entries that are noted where none were
pub are_names : (count : ℕ) (old new : List (Option Datum)) (entries : Entries) → AreNames count old [] → AreNoted old new entries → AreNames count new entries
are_names count old new entries none noted = record {
  len = noted.len ∙ none.len;
  each = λ p there.
      noted.each p (omega (arith, there, none.len)) ∙ ap (λ name. then_name name (name_in p entries)) (none.each p there);
}
