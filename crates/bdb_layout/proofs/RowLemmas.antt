-- An item of which no row holds lies on its page, and is the answer.
use Rattle.std.proofs.Common.{◌≡◌, ℕ, ◌+◌, ◌≤◌, List, [], ◌∷◌, length, arith, refl, sym, subst, ◌∙◌, ap, cond, Bool, true, false, Option, Some, None, Result}
use Rattle.std.proofs.Common.{Err, option_map}
use Rattle.std.proofs.lemmas.Bool.Decides.{nat_tests}
use Rattle.bdb_format.specs.declared.kinds.Order.{Order}
use Rattle.bdb_format.specs.Terms.{Row, answer, first_row, hash_end, hash_rows, internal_rows, leaf_rows, offset_of, recno_rows, ◌:?◌}
use Rattle.bdb_format.specs.declared.pages.ItemFault.{ItemFault}
use Rattle.bdb_format.specs.declared.pages.ItemFault.TheVariants.{Offset, Kind, Extent}
use Rattle.bdb_format.proofs.PageLemmas.{map_none}
use Rattle.bdb_format.specs.declared.rows.FormRow.{FormRow}
use Rattle.bdb_layout.specs.ItemRows.{item_fault, item_form}
use Rattle.bdb_layout.specs.Fits.{FitsLeaf, FitsInternal, FitsHash}

-- where a row holds, the answer is the first that does
answer_error : {Code T : Type 0} (rows : List (Row Code)) (value : T) (code : Code) → first_row rows ≡ Some code → answer rows value ≡ Err code
answer_error [] value code some = absurd cc
answer_error {Code = Code} {T = T} (row ∷ rows) value code some =
    let first : Bool → Option Code = λ b. cond b (Some row.code) (first_row rows) in
    elim row.holds as (λ b. first b ≡ Some code → cond {A = Result T Code} b (Err row.code) (answer rows value) ≡ Err code) [
      | true ↦ λ same. cc
      | false ↦ λ same. answer_error rows value code same
    ] some

-- the same of what is wrong with an item, by its row
same_fault : (fault : ItemFault) → item_fault (item_form fault) ≡ fault
same_fault Offset = refl
same_fault Kind = refl
same_fault Extent = refl

by_row : {T : Type 0} (rows : List (Row ItemFault)) (value : T) (first : Option ItemFault) (row : FormRow) → first_row rows ≡ first
    → option_map item_form first ≡ Some row → answer rows value ≡ Err (item_fault row)
by_row rows value None row is some = absurd cc
by_row rows value (Some fault) row is some =
    let same : item_form fault ≡ row = cc in
    subst (λ (f : ItemFault). answer rows value ≡ Err f) (sym (same_fault fault) ∙ ap item_fault same) (answer_error rows value fault is)

pub answer_row : {T : Type 0} (rows : List (Row ItemFault)) (value : T) (row : FormRow) → option_map item_form (first_row rows) ≡ Some row
    → answer rows value ≡ Err (item_fault row)
answer_row rows value row some = by_row rows value (first_row rows) row refl some

pub no_row : (rows : List (Row ItemFault)) → option_map item_form (first_row rows) ≡ None → first_row rows ≡ None
no_row rows none = map_none item_form (first_row rows) none

-- three tests that fail
record Fail (a b c : Bool) : Type 0 where
  pub first : a ≡ false
  pub second : b ≡ false
  pub third : c ≡ false

none_holds : {Code : Type 0} (x y z : Code) (a b c : Bool) → first_row (x :? a ∷ y :? b ∷ z :? c ∷ []) ≡ None → Fail a b c
none_holds x y z true b c none = absurd cc
none_holds x y z false true c none = absurd cc
none_holds x y z false false true none = absurd cc
none_holds x y z false false false none = record { first = refl; second = refl; third = refl }

pub leaf_fits : (order : Order) (page : List ℕ) (index : ℕ) → first_row (leaf_rows order page index) ≡ None → FitsLeaf order page (offset_of order page index)
unfolding leaf_rows
leaf_fits order page index none = grind (arith, none_holds, nat_tests)

pub internal_fits : (order : Order) (page : List ℕ) (index : ℕ) → first_row (internal_rows order page index) ≡ None
    → FitsInternal order page (offset_of order page index)
unfolding internal_rows
internal_fits order page index none = grind (arith, none_holds, nat_tests)

pub recno_fits : (order : Order) (page : List ℕ) (index : ℕ) → first_row (recno_rows order page index) ≡ None → offset_of order page index + 8 ≤ length page
unfolding recno_rows
recno_fits order page index none = grind (arith, nat_tests, none)

pub hash_fits : (order : Order) (page : List ℕ) (index : ℕ) → first_row (hash_rows order page index) ≡ None
    → FitsHash order page (offset_of order page index) (hash_end order page index)
unfolding hash_rows
hash_fits order page index none = grind (arith, none_holds, nat_tests)
