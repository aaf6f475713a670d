-- The settings of the one database that what is salvaged is put into. Source: docs/FORMAT.md, "Repair".
use Rattle.std.specs.Prelude.{Bool, true, false}
use Rattle.bdb_model.specs.of_format.declared.kinds.Kind.{Kind}
use Rattle.bdb_model.specs.of_format.declared.kinds.Kind.TheVariants.{Btree, Hash, Recno}
use Rattle.bdb_model.specs.of_format.declared.settings.Settings.{Settings}
use Rattle.bdb_rescue.specs.Text.{loose_settings}
use Rattle.bdb_model.specs.declared.shape.Duplicates.{Duplicates}
use Rattle.bdb_model.specs.declared.shape.Duplicates.TheVariants.{No, Unsorted, Sorted}
use Rattle.bdb_model.specs.declared.shape.Shape.{Shape}
use Rattle.bdb_model.specs.declared.shape.Shape.TheVariants.{Btree as BtreeShape, Hash as HashShape, Recno as RecnoShape}
use Rattle.bdb_rescue.specs.of_survey.declared.guess.Guess.{Guess}

abbrev pub kind_of : Shape → Kind
kind_of (BtreeShape duplicates) = Btree
kind_of (HashShape duplicates) = Hash
kind_of RecnoShape = Recno

-- the data of its keys; records have none beside them
abbrev pub duplicates_of : Shape → Duplicates
duplicates_of (BtreeShape duplicates) = duplicates
duplicates_of (HashShape duplicates) = duplicates
duplicates_of RecnoShape = No

abbrev pub are_several : Duplicates → Bool
are_several No = false
are_several Unsorted = true
are_several Sorted = true

abbrev pub are_sorted : Duplicates → Bool
are_sorted No = false
are_sorted Unsorted = false
are_sorted Sorted = true

-- as the image is read, with the kind and the duplicates of a shape, and no other setting
abbrev pub shaped_settings : Guess → Shape → Settings
shaped_settings guess shape = record (loose_settings guess) {
  kind = kind_of shape;
  duplicates = are_several (duplicates_of shape);
  sorted = are_sorted (duplicates_of shape);
}
