-- The tallies of all pages, page by page.
use Rattle.std.proofs.Common.{◌≡◌, ℕ, ◌+◌, List, [], ◌∷◌, ◌++◌, length, take, drop, map, flat_map, ap, ◌∙◌, append-nil, arith, refl, sym, subst}
use Rattle.std.specs.List.{range_with_len}
use Rattle.std.proofs.lemmas.Grind.{common_steps}
use Rattle.std.proofs.lemmas.List.Concat.{flat_map-append}
use Rattle.bdb_graph.specs.declared.tally.Tally.{Tally}
use Rattle.bdb_graph.specs.Tallies.{AreTallies, AreTalliesOf, owner}
use Rattle.bdb_graph.specs.Walked.{AreKinds}
use Rattle.bdb_graph.specs.declared.tally.Kinds.{Kinds}
use Rattle.bdb_image.specs.of_format.Terms.{File, Owner, all_references, held_by, owners, refs}
use Rattle.bdb_image.proofs.of_format.ListLemmas.{range_zero_more}

-- the references of the pages below a number
abbrev pub held_below : File → ℕ → List Owner
held_below file n = flat_map (held_by file) (range_with_len 0 n)

-- the next page adds its own
pub held_more : (file : File) (n : ℕ) → held_below file (n + 1) ≡ held_below file n ++ map (owner n) (refs file n)
held_more file n =
    ap (flat_map (held_by file)) (range_zero_more n) ∙ rw (flat_map-append (held_by file) (range_with_len 0 n) (n ∷ []), append-nil) refl

pub tallied_more : (file : File) (n : ℕ) (tallies : List Tally) → AreTallies tallies (held_below file n ++ map (owner n) (refs file n))
    → AreTallies tallies (held_below file (n + 1))
tallied_more file n tallies are = subst (AreTallies tallies) (sym (held_more file n)) are

-- after the last page the tallies are those of the file
pub tallied_all : (file : File) (n : ℕ) (tallies : List Tally) → n ≡ file.last + 1 → length tallies ≡ n → AreTallies tallies (held_below file n)
    → AreTalliesOf file tallies
unfolding owners all_references
tallied_all file n tallies all len are =
    let whole : AreTallies tallies (held_below file (file.last + 1)) = subst (λ k. AreTallies tallies (held_below file k)) all are in
    record { len = omega arith; each = λ p low. whole.each p (omega arith) }

-- and so are the kinds of what is named
pub kinds_all : (file : File) (n : ℕ) (kinds : Kinds) → n ≡ file.last + 1 → AreKinds kinds (held_below file n) → AreKinds kinds (all_references file)
unfolding all_references
kinds_all file n kinds all are = subst (λ k. AreKinds kinds (held_below file k)) all are

-- a slice that is lent and written is the whole list again
pub written_back : {A : Type 0} (n : ℕ) (new old : List A) → length new ≡ n → length old ≡ n → take n (new ++ drop (length new) old) ≡ new
written_back n new old first second = grind (arith, common_steps)
