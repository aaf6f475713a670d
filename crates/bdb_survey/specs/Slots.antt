-- The items of a page, as the code holds them.
use Rattle.std.specs.Prelude.{List, [], Option, Some, None}
use Rattle.bdb_law_sums.specs.of_format.Terms.{Item}
use Rattle.bdb_survey.specs.declared.slots.Slots.{Slots}
use Rattle.bdb_survey.specs.declared.slots.Slots.TheVariants.{Leaf, Hash, Records, SortedData}

abbrev pub slots_seen : Slots → List Item
slots_seen (Leaf view) = view.items
slots_seen (Hash view) = view.items
slots_seen (Records view) = view.items
slots_seen (SortedData view) = view.items

abbrev pub opt_slots : Option Slots → List Item
opt_slots None = []
opt_slots (Some slots) = slots_seen slots
