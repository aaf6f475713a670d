-- Going through the data of a set that ought to ascend.
use Rattle.std.proofs.Common.{arith, ◌≡◌, ℕ, Bool, true, false, ◌&&◌, List, ◌∷◌, Option, Some, None, refl, sym, ◌∙◌, ap, subst}
use Rattle.std.proofs.lemmas.List.Elements.{All-head}
use Rattle.bdb_ranks.specs.of_format.Terms.{File, Item, ascends_from, value_of}
use Rattle.bdb_ranks.specs.of_overflow.Datum.{FitsContent}
use Rattle.bdb_ranks.specs.of_tree.Entries.{AreFit, values_of}
use Rattle.bdb_ranks.proofs.of_tree.EntryLemmas.{deleted_value}
use Rattle.bdb_hash.specs.SetOrder.{ascends_after, follows}

pub first_fits : (file : File) (entry : Item) (rest entries : List Item) → entries ≡ entry ∷ rest → AreFit file entries → FitsContent file entry.content
first_fits file entry rest entries steps fit = All-head (λ (e : Item). FitsContent file e.content) entry rest (subst (AreFit file) steps fit)

live_value : (file : File) (entry : Item) (rest entries : List Item) → entries ≡ entry ∷ rest → entry.deleted ≡ false
    → values_of file entries ≡ value_of file entry.content ∷ values_of file rest
live_value file entry rest entries steps live = ap (values_of file) steps ∙ rw live refl

one_more : (last : Option (List ℕ)) (value : List ℕ) (rest : List (List ℕ)) → follows last value ≡ true
    → ascends_after (Some value) rest ≡ ascends_after last (value ∷ rest)
one_more None value rest is = refl
one_more (Some before) value rest is = ap (λ b. b && ascends_from value rest) (sym is)

-- one more entry, which is live and follows
pub set_more : (file : File) (last : Option (List ℕ)) (value : List ℕ) (entry : Item) (rest entries : List Item) (whole : Bool)
    → entries ≡ entry ∷ rest → entry.deleted ≡ false → value ≡ value_of file entry.content → follows last value ≡ true
    → ascends_after last (values_of file entries) ≡ whole → ascends_after (Some value) (values_of file rest) ≡ whole
set_more file last value entry rest entries whole steps live is above so_far = grind (arith, one_more, live_value)

-- one more entry, which is deleted
pub set_passed : (file : File) (last : Option (List ℕ)) (entry : Item) (rest entries : List Item) (whole : Bool) → entries ≡ entry ∷ rest
    → entry.deleted ≡ true → ascends_after last (values_of file entries) ≡ whole → ascends_after last (values_of file rest) ≡ whole
set_passed file last entry rest entries whole steps deleted so_far =
    sym (ap (ascends_after last) (ap (values_of file) steps ∙ deleted_value file entry rest deleted)) ∙ so_far
