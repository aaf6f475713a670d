use Rattle.std.proofs.Common.{◌≡◌, ◌<◌, ◌^◌, true, take}
use Rattle.std.specs.List.{list_all}
use Rattle.bdb_format.specs.Terms.{digits_value, is_digit}
use Rattle.bdb_format.proofs.digits.number_in.Given as goal

abbrev pub invariant-loop-byte : goal.invariant-loop-byte
invariant-loop-byte l = record {
  digits : list_all is_digit (take l.byte-index l.key) ≡ true;
  value : l.number ≡ digits_value (take l.byte-index l.key);
  below : l.number < 10 ^ l.byte-index;
}
