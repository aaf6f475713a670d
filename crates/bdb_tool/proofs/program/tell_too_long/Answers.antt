use Rattle.std.proofs.Common.{◌∙◌, inl}
use Rattle.bdb_tool.proofs.program.tell_too_long.Goals as goal

pub returns-in-Ok : goal.returns-in-Ok
returns-in-Ok g c = let written = c.as_bytes.ensures.value ∙ c.in-Ok.ensures in inl (rw written at c.tell.ensures)
