-- The list of a recno, by its entries.
use Rattle.std.proofs.Common.{◌≡◌, ℕ, zero, suc, ◌+◌, ◌<◌, Bool, true, false, cond, List, [], ◌∷◌, Option, Some, None, arith, refl, sym, ◌∙◌, ap, subst}
use Rattle.std.proofs.Common.{append-nil, slice_get}
use Rattle.std.specs.List.{enumerate_from, flat_map}
use Rattle.std.proofs.lemmas.Bool.{eq-eqb, ne_eqb}
use Rattle.std.proofs.lemmas.Option.{get_or_from_slice_get, slice_get_within}
use Rattle.bdb_tree.specs.of_image.Linked.{IsForest}
use Rattle.bdb_tree.specs.of_format.Terms.{File, Item, NumberKey, file_of, get, listed_entry, recno_list, tree_entries, value_of}
use Rattle.bdb_tree.proofs.EntryLemmas.{all_fit}
use Rattle.bdb_tree.specs.of_overflow.Datum.{FitsContent}
use Rattle.bdb_recno.specs.Pages.{IsRecnoPage}
use Rattle.bdb_recno.proofs.PageLemmas.{recno_tree}
use Rattle.bdb_tree.proofs.of_format.PairLemmas.{get_append}

-- What a list has under a number.

-- the value of an entry, if it's live
abbrev pub entry_values : File → Option Item → List (List ℕ)
entry_values file None = []
entry_values file (Some item) = cond item.deleted [] (value_of file item.content ∷ [])

-- one entry under its own number, and under another one
get_here : (file : File) (n : ℕ) (item : Item) → get (listed_entry file (n, item)) (NumberKey n) ≡ entry_values file (Some item)
get_here file n item = grind (arith, eq-eqb n n refl)

get_other : (file : File) (n m : ℕ) (item : Item) → (n ≡ m → ⊥) → get (listed_entry file (n, item)) (NumberKey m) ≡ []
get_other file n m item other = grind (arith, ne_eqb n m other)

-- entries from a number on, in which a lesser number isn't
get_before : (file : File) (items : List Item) (n m : ℕ) → m < n → get (flat_map (listed_entry file) (enumerate_from n items)) (NumberKey m) ≡ []
get_before file [] n m below = refl
get_before file (item ∷ items) n m below = grind (arith, get_append, get_other, get_before file items (n + 1) m (omega arith))

get_at : (file : File) (items : List Item) (n i m : ℕ) → m ≡ n + i
    → get (flat_map (listed_entry file) (enumerate_from n items)) (NumberKey m) ≡ entry_values file (slice_get items i)
get_at file [] n i m is = refl
get_at file (item ∷ items) n zero m is = grind (arith, get_append, get_before, append-nil, get_here)
get_at file (item ∷ items) n (suc i) m is = grind (arith, get_append, get_other, get_at file items (n + 1) i m (omega arith))

-- record 0 isn't there
pub get_zero : (file : File) (root number : ℕ) → number < 1 → [] ≡ get (recno_list file root) (NumberKey number)
unfolding recno_list
get_zero file root number below = sym (get_before file (tree_entries file root) 1 number below)

-- another record is the entry at the place before its number
pub get_number : (file : File) (root number place : ℕ) → number ≡ 1 + place
    → entry_values file (slice_get (tree_entries file root) place) ≡ get (recno_list file root) (NumberKey number)
unfolding recno_list
get_number file root number place is = sym (get_at file (tree_entries file root) 1 place number is)

-- The record with a number.

pub none_there : (file : File) (root number place : ℕ) → number ≡ 1 + place → None ≡ slice_get (tree_entries file root) place
    → [] ≡ get (recno_list file root) (NumberKey number)
none_there file root number place is none = ap (entry_values file) none ∙ get_number file root number place is

pub deleted_there : (file : File) (root number place : ℕ) (item : Item) (deleted : Bool) → number ≡ 1 + place
    → Some item ≡ slice_get (tree_entries file root) place → deleted ≡ item.deleted → deleted ≡ true
    → [] ≡ get (recno_list file root) (NumberKey number)
deleted_there file root number place item deleted is at same gone =
    ap (λ b. cond b [] (value_of file item.content ∷ [])) (sym gone ∙ same) ∙ (ap (entry_values file) at ∙ get_number file root number place is)

pub live_there : (file : File) (root number place : ℕ) (item : Item) (deleted : Bool) (value : List ℕ) → number ≡ 1 + place
    → Some item ≡ slice_get (tree_entries file root) place → deleted ≡ item.deleted → deleted ≡ false
    → value ≡ value_of file item.content → value ∷ [] ≡ get (recno_list file root) (NumberKey number)
live_there file root number place item deleted value is at same live holds =
    ap (λ v. v ∷ []) holds ∙ (ap (λ b. cond b [] (value_of file item.content ∷ [])) (sym live ∙ same)
    ∙ (ap (entry_values file) at ∙ get_number file root number place is))

-- what an entry at a place names is there
pub place_fits : (image : List ℕ) (root place : ℕ) (item : Item) → IsForest image → IsRecnoPage (file_of image) root
    → Some item ≡ slice_get (tree_entries (file_of image) root) place
    → FitsContent (file_of image) item.content
place_fits image root place item forest recno at =
    let entries : List Item = tree_entries (file_of image) root in
    subst (λ (it : Item). FitsContent (file_of image) it.content) (get_or_from_slice_get entries place item item (sym at))
    (all_fit image root entries forest (recno_tree (file_of image) root recno) refl place item (slice_get_within entries place item (sym at)))
