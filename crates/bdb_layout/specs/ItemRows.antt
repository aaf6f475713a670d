-- The rows of what is wrong with an item. Source: docs/FORMAT.md, "Stage 2, the form of a page".
use Rattle.bdb_format.specs.declared.pages.ItemFault.{ItemFault}
use Rattle.bdb_format.specs.declared.pages.ItemFault.TheVariants.{Offset, Kind, Extent}
use Rattle.bdb_format.specs.declared.rows.FormRow.{FormRow}
use Rattle.bdb_format.specs.declared.rows.FormRow.TheVariants.{ItemOffset, ItemType, ItemExtent}

abbrev pub item_form : ItemFault → FormRow
item_form Offset = ItemOffset
item_form Kind = ItemType
item_form Extent = ItemExtent

-- and back: no other row speaks of an item
abbrev pub item_fault : FormRow → ItemFault
item_fault ItemOffset = Offset
item_fault ItemType = Kind
item_fault row = Extent
