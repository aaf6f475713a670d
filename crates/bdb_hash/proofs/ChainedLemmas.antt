-- Pairs of one file whose keys are chains.
use Rattle.std.proofs.Common.{◌≡◌, ℕ, Bool, true, ◌||◌, cond, List, [], ◌∷◌, map, refl, sym, ◌∙◌, ap, subst, inl, inr, Result, Ok, Err, OnOk}
use Rattle.std.specs.BTreeSet.{BTreeSet}
use Rattle.std.specs.Str.{bytes_eq}
use Rattle.std.proofs.lemmas.Bool.{cases_Bool}
use Rattle.bdb_faults.specs.Notes.{Notes}
use Rattle.bdb_ranks.specs.of_format.declared.kinds.Fault.{Fault}
use Rattle.bdb_ranks.specs.of_format.Terms.{StoredPair, file_of, pairs_of}
use Rattle.bdb_ranks.proofs.of_format.LessLemmas.{eq_same}
use Rattle.bdb_ranks.specs.of_overflow.Keys.{has_item, has_key}
use Rattle.bdb_buckets.specs.Chained.{AreAllOf, AreOf}
use Rattle.bdb_buckets.specs.Repeat.{repeat_fault}
use Rattle.bdb_hash.specs.Passed.{NotesRepeats}
use Rattle.bdb_buckets.specs.Told.{key_of, Told, page_told}
use Rattle.bdb_buckets.proofs.ChainedLemmas.{pairs_told}

-- Pairs of one file.

pub first_page_of : (image : List ℕ) (left rest : List (List Told)) (page : List Told) → AreAllOf image left → left ≡ page ∷ rest → AreOf image page
first_page_of image left rest page are is = (subst (AreAllOf image) is are).0

pub other_pages_of : (image : List ℕ) (left rest : List (List Told)) (page : List Told) → AreAllOf image left → left ≡ page ∷ rest → AreAllOf image rest
other_pages_of image left rest page are is = (subst (AreAllOf image) is are).1

pages_told : (image : List ℕ) (ps : List ℕ) → AreAllOf image (map (page_told image) ps)
pages_told image [] = tt
pages_told image (p ∷ ps) = (pairs_told image (pairs_of (file_of image) p), pages_told image ps)

-- the pages of a bucket are of the file that it stands in
pub bucket_of_file : (image known : List ℕ) (pages : List (List Told)) (ps : List ℕ) → pages ≡ map (page_told image) ps → known ≡ image → AreAllOf known pages
bucket_of_file image known pages ps are same =
    subst (AreAllOf known) (sym are) (subst (λ i. AreAllOf i (map (page_told image) ps)) (sym same) (pages_told image ps))

-- Keys that were seen.

-- a pair whose key is among them repeats it, and adds none
pub seen_noted : (keys : BTreeSet (List ℕ)) (before after : List Fault → Type 0) (t : Told) → has_key keys t.pair.key ≡ true
    → Notes before after (repeat_fault t.pair ∷ []) → NotesRepeats keys keys before after (t ∷ [])
seen_noted keys before after t has notes = record {
  next = λ seen are. (
    λ sought. are sought ∙ one_again seen sought (sym (are t.pair.key) ∙ has),
    subst (λ (again : Bool). Notes before after (map repeat_fault (cond again (t.pair ∷ []) []))) (sym (sym (are t.pair.key) ∙ has)) notes,
  );
}
  where
    one_again : (seen : List StoredPair) (sought : List ℕ) → has_item key_of seen t.pair.key ≡ true
        → has_item key_of seen sought ≡ has_item key_of (t.pair ∷ seen) sought
    one_again seen sought there =
        elim (cases_Bool (bytes_eq t.pair.key sought)) [
          | inl same ↦
              let key : t.pair.key ≡ sought = eq_same t.pair.key sought same in
              ap (has_item key_of seen) (sym key) ∙ (there ∙ ap (λ b. b || has_item key_of seen sought) (sym same))
          | inr other ↦ ap (λ b. b || has_item key_of seen sought) (sym other)
        ]

-- the same where noting the repeat may have failed
pub seen_noting : {E : Type 0} (result : Result (Unit {0}) E) (keys : BTreeSet (List ℕ)) (before after : List Fault → Type 0) (t : Told) (fault : Fault)
    → has_key keys t.pair.key ≡ true → fault ≡ repeat_fault t.pair → OnOk result (Notes before after (fault ∷ []))
    → OnOk result (NotesRepeats keys keys before after (t ∷ []))
seen_noting (Ok x) keys before after t fault has is notes = seen_noted keys before after t has (subst (λ f. Notes before after (f ∷ [])) is notes)
seen_noting (Err e) keys before after t fault has is notes = tt
