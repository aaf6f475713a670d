use Rattle.bdb_tool.proofs.program.tell_unread_base.Goals as goal

pub returns-in-TooLarge : goal.returns-in-TooLarge
returns-in-TooLarge g c = rw c.in-TooLarge.is c.tell_too_long.ensures
