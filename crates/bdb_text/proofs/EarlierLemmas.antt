-- Names in a sorted set.
use Rattle.std.proofs.Common.{◌≡◌, ℕ, Bool, true, false, List, [], ◌∷◌, ◌++◌, Option, Some, None, Vec, is_none, map, vec_items, refl, sym, ◌∙◌, ap, ◌||◌}
use Rattle.std.specs.BTreeMap.{is_at}
use Rattle.std.specs.BTreeSet.{BTreeSet, contains_by, insert_key}
use Rattle.std.specs.Cmp.Lexicographic.{slice_cmp}
use Rattle.std.specs.List.{list_any}
use Rattle.std.specs.Ordering.{match_ordering, nat_cmp}
use Rattle.std.specs.Str.{bytes_eq}
use Rattle.std.specs.declared.cmp.Ordering.{Ordering}
use Rattle.std.specs.declared.cmp.Ordering.TheVariants.{Less, Equal, Greater}
use Rattle.std.proofs.lemmas.List.{map-append}
use Rattle.std.proofs.lemmas.List.Folds.{list_any-append}
use Rattle.std.proofs.lemmas.Map.Lookups.{exact_bytes}
use Rattle.std.proofs.lemmas.Map.Text.{is_eq-slice_cmp}
use Rattle.bdb_spelling.specs.of_format.Terms.{is_name}
use Rattle.bdb_spelling.specs.of_text_format.declared.sections.Section.{Section}
use Rattle.bdb_text.specs.Earlier.{AreNames, keys_in}
use Rattle.bdb_text.specs.SectionTo.{names_of}

-- the order of keys
abbrev by_items : {Z : Type 0} → Vec ℕ Z → Vec ℕ Z → Ordering
by_items a b = slice_cmp nat_cmp (vec_items a) (vec_items b)

found_among : {Z : Type 0} (name : List ℕ) (keys : List (Vec ℕ Z))
    → list_any (is_at (λ (key : Vec ℕ Z). slice_cmp nat_cmp name (vec_items key))) keys ≡ list_any (bytes_eq name) (map vec_items keys)
found_among name [] = refl
found_among name (key ∷ keys) = rw (is_eq-slice_cmp name (vec_items key), found_among name keys) refl

-- a search by the order of bytes finds what a test finds
pub found_by_order : {Z : Type 0} (name : List ℕ) (names : BTreeSet (Vec ℕ Z))
    → contains_by (λ (key : Vec ℕ Z). slice_cmp nat_cmp name (vec_items key)) names ≡ list_any (bytes_eq name) (keys_in names)
found_by_order name names = found_among name names.keys

-- a key more among keys
with_key : {Z : Type 0} (name : List ℕ) (key : Vec ℕ Z) (keys : List (Vec ℕ Z))
    → list_any (bytes_eq name) (map vec_items (insert_key by_items keys key)) ≡ (bytes_eq name (vec_items key) || list_any (bytes_eq name) (map vec_items keys))
with_key name key [] = refl
with_key {Z} name key (other ∷ others) = by_order (by_items key other) refl (with_key name key others)
  where
    among : List (Vec ℕ Z) → Bool
    among keys = list_any (bytes_eq name) (map vec_items keys)

    same : (a b c : Bool) → a ≡ b → (b || c) ≡ (a || (b || c))
    same true b c e = rw (sym e) refl
    same false b c e = refl

    turned : (a b c d : Bool) → d ≡ (a || c) → (b || d) ≡ (a || (b || c))
    turned true true c d e = refl
    turned true false c d e = e
    turned false b c d e = ap (λ x. b || x) e

    by_order : (r : Ordering) → by_items key other ≡ r
        → list_any (bytes_eq name) (map vec_items (insert_key by_items others key))
        ≡ (bytes_eq name (vec_items key) || list_any (bytes_eq name) (map vec_items others))
        → list_any (bytes_eq name) (map vec_items (match_ordering r (key ∷ other ∷ others) (other ∷ others) (other ∷ insert_key by_items others key)))
        ≡ (bytes_eq name (vec_items key) || (bytes_eq name (vec_items other) || list_any (bytes_eq name) (map vec_items others)))
    by_order Less e rest = refl
    by_order Equal e rest =
        same (bytes_eq name (vec_items key)) (bytes_eq name (vec_items other)) (list_any (bytes_eq name) (map vec_items others))
        (ap (bytes_eq name) (exact_bytes (vec_items key) (vec_items other) e))
    by_order Greater e rest =
        turned (bytes_eq name (vec_items key)) (bytes_eq name (vec_items other)) (list_any (bytes_eq name) (map vec_items others))
        (list_any (bytes_eq name) (map vec_items (insert_key by_items others key))) rest

any_more : (test : Option (List ℕ) → Bool) (sections : List Section) (section : Section)
    → list_any test (names_of (sections ++ section ∷ [])) ≡ (list_any test (names_of sections) || test section.name)
any_more test sections section =
    ap (list_any test) (map-append (λ (section : Section). section.name) sections (section ∷ []))
    ∙ list_any-append test (names_of sections) (section.name ∷ [])
    ∙ ap (λ b. list_any test (names_of sections) || b) (last (test section.name))
  where
    last : (b : Bool) → (b || false) ≡ b
    last true = refl
    last false = refl

or_turned : (a b : Bool) → (a || b) ≡ (b || a)
or_turned true true = refl
or_turned true false = refl
or_turned false true = refl
or_turned false false = refl

-- a section without a name more
pub unnamed_more : (keys : List (List ℕ)) (unnamed : Bool) (sections : List Section) (section : Section) → AreNames keys unnamed (names_of sections)
    → section.name ≡ None → AreNames keys true (names_of (sections ++ section ∷ []))
unnamed_more keys unnamed sections section are none = record {
  named = λ name. are.named name ∙ sym (any_more (is_name (Some name)) sections section
      ∙ ap (λ other. list_any (is_name (Some name)) (names_of sections) || is_name (Some name) other) none
      ∙ or_turned (list_any (is_name (Some name)) (names_of sections)) false);
  none = sym (any_more is_none sections section ∙ ap (λ other. list_any is_none (names_of sections) || is_none other) none
      ∙ or_turned (list_any is_none (names_of sections)) true);
}

-- a section with a name more
pub named_more : {Z : Type 0} (old new : BTreeSet (Vec ℕ Z)) (key : Vec ℕ Z) (bytes : List ℕ) (unnamed : Bool) (sections : List Section) (section : Section)
    → AreNames (keys_in old) unnamed (names_of sections) → section.name ≡ Some bytes → vec_items key ≡ bytes → new.keys ≡ insert_key by_items old.keys key
    → AreNames (keys_in new) unnamed (names_of (sections ++ section ∷ []))
named_more old new key bytes unnamed sections section are some is more = record {
  named = λ name. ap (λ keys. list_any (bytes_eq name) (map vec_items keys)) more
      ∙ with_key name key old.keys
      ∙ or_turned (bytes_eq name (vec_items key)) (list_any (bytes_eq name) (keys_in old))
      ∙ ap (λ b. b || bytes_eq name (vec_items key)) (are.named name)
      ∙ ap (λ b. list_any (is_name (Some name)) (names_of sections) || bytes_eq name b) is
      ∙ sym (any_more (is_name (Some name)) sections section
      ∙ ap (λ other. list_any (is_name (Some name)) (names_of sections) || is_name (Some name) other) some);
  none = are.none ∙ sym (any_more is_none sections section ∙ ap (λ other. list_any is_none (names_of sections) || is_none other) some
      ∙ or_turned (list_any is_none (names_of sections)) false);
}
