use Rattle.std.proofs.Common.{◌≡◌, subst, IfOk, map}
use Rattle.bdb_onto.specs.Bases.{text_pair}
use Rattle.bdb_tool_build.proofs.base.scanned_pairs.Goals as goal

pub returns-in-Ok : goal.returns-in-Ok
returns-in-Ok c =
    subst (λ list. IfOk c.listed_pairs.result (λ pairs. pairs ≡ map text_pair list)) c.in-Ok.ensures c.listed_pairs.ensures
