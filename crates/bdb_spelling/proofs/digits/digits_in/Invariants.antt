use Rattle.std.proofs.Common.{◌≡◌, ◌<◌, ◌^◌, drop}
use Rattle.bdb_spelling.specs.DigitsIn.{digits_from, digits_in}
use Rattle.bdb_spelling.proofs.digits.digits_in.Given as goal

-- the digits so far say the number, which is small
abbrev pub invariant-loop-byte : goal.invariant-loop-byte
invariant-loop-byte l = record {
  same : digits_in l.base l.text ≡ digits_from l.base l.number (drop l.byte-index l.text);
  below : l.number < 16 ^ l.byte-index;
}
