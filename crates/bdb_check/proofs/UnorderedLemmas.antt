-- What a sink that takes no notice of rows of order has noted.
use Rattle.std.proofs.Common.{◌≡◌, Bool, false, List, [], ◌∷◌, Err, Ok, OnOk, Result}
use Rattle.bdb_any_order.proofs.OrderLemmas.{other_noted}
use Rattle.bdb_any_order.specs.AnyOrder.{is_of_order}
use Rattle.bdb_any_order.specs.Noted.{HasNotedOthers}
use Rattle.bdb_recno.specs.of_faults.Notes.{Notes}
use Rattle.bdb_recno.specs.of_format.declared.kinds.Fault.{Fault}

-- a fault of another row was noted behind it, where memory didn't run out
pub passed_on : {Sink E : Type 0} (has : Sink → List Fault → Type 0) (found after : Sink) (empty : Bool) (fault : Fault) (answer : Result (Unit {0}) E)
    → is_of_order fault ≡ false → OnOk answer (Notes (has found) (has after) (fault ∷ []))
    → OnOk answer (Notes (HasNotedOthers has found empty) (HasNotedOthers has after false) (fault ∷ []))
passed_on has found after empty fault (Ok done) other notes = other_noted has found after empty fault other notes
passed_on has found after empty fault (Err error) other notes = tt
