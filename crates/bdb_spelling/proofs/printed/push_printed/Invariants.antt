use Rattle.std.proofs.Common.{◌≡◌, ◌++◌, take, true}
use Rattle.bdb_text_format.specs.Terms.{spelling}
use Rattle.bdb_spelling.proofs.printed.push_printed.Given as goal

-- the first bytes are spelled
abbrev pub invariant-loop-byte : goal.invariant-loop-byte
invariant-loop-byte l = l.text ≡ l.fn.text ++ spelling true (take l.byte-index l.bytes)
