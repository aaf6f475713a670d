use Rattle.std.proofs.Common.{inl}
use Rattle.bdb_tool.proofs.repairing.tell_refusal.Goals as goal

pub returns-in-Case : goal.returns-in-Case
returns-in-Case g c = rw c.in-Case.is c.tell_case.ensures

pub returns-in-NotOne : goal.returns-in-NotOne
returns-in-NotOne g c = rw c.in-NotOne.is (inl c.tell.ensures)
