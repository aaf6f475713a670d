-- The item at a place.
use Rattle.std.proofs.Common.{◌≡◌, ℕ, List, sym, ap, slice_get, Some}
use Rattle.std.proofs.lemmas.Option.{get_or_from_slice_get}
use Rattle.bdb_law_sums.specs.of_format.Terms.{Item, no_item}
use Rattle.bdb_survey.specs.Items.{slot_at}

pub slot_is : (items : List Item) (i : ℕ) (item : Item) → slice_get items i ≡ Some item → slot_at items i ≡ item
slot_is items i item some = get_or_from_slice_get items i item no_item some

pub slot_deleted : (items : List Item) (i : ℕ) (item : Item) → slice_get items i ≡ Some item → item.deleted ≡ (slot_at items i).deleted
slot_deleted items i item some = ap (λ (x : Item). x.deleted) (sym (slot_is items i item some))

pub slot_content : (items : List Item) (i : ℕ) (item : Item) → slice_get items i ≡ Some item → item.content ≡ (slot_at items i).content
slot_content items i item some = ap (λ (x : Item). x.content) (sym (slot_is items i item some))
