use Rattle.std.proofs.Common.{◌≡◌, true, subst}
use Rattle.bdb_image.specs.Formed.{IsAccepted, IsRead}
use Rattle.bdb_slots.specs.Plain.{ArePlain}
use Rattle.bdb_image.proofs.open.formed_by.Goals as goal

pub over-requires : goal.over-requires
over-requires c =
    let read : IsAccepted c.args.image.now c.in-Some.read.head × (c.in-Some.read.plain ≡ true → ArePlain c.in-Some.read.head c.args.image.now) =
    subst (IsRead c.args.image.now) c.in-Some.is c.requires.read in
    record { formed = record { size = read.0.size; head_is = read.0.head_is; form = c.requires.form }; plain = read.1 }

pub unreachable-requires : goal.unreachable-requires
unreachable-requires c = subst (IsRead c.args.image.now) c.in-None.is c.requires.read c.requires.form
