-- The reasons of a text's line, each with its code and its name. Source: docs/FORMAT.md, "Reasons".
use Rattle.std.specs.Prelude.{ℕ, List, codes}
use Rattle.bdb_text_format.specs.declared.faults.TextReason.{TextReason}
use Rattle.bdb_text_format.specs.declared.faults.TextReason.TheVariants.{NoVersion, Version, UnknownKeyword, BadValue, RepeatedKeyword, NoType, Unsupported}
use Rattle.bdb_text_format.specs.declared.faults.TextReason.TheVariants.{NoSpace, BadDigit, BadEscape, KeyWithoutData, BadNumber, NoEnd, NameMissing}
use Rattle.bdb_text_format.specs.declared.faults.TextReason.TheVariants.{NameTwice, Conflict}

-- the code and the name of a reason
abbrev pub reason_entry : TextReason → ℕ × List ℕ
reason_entry NoVersion = (1, codes "NoVersion")
reason_entry Version = (2, codes "Version")
reason_entry UnknownKeyword = (3, codes "UnknownKeyword")
reason_entry BadValue = (4, codes "BadValue")
reason_entry RepeatedKeyword = (5, codes "RepeatedKeyword")
reason_entry NoType = (6, codes "NoType")
reason_entry Unsupported = (7, codes "Unsupported")
reason_entry NoSpace = (8, codes "NoSpace")
reason_entry BadDigit = (9, codes "BadDigit")
reason_entry BadEscape = (10, codes "BadEscape")
reason_entry KeyWithoutData = (11, codes "KeyWithoutData")
reason_entry BadNumber = (12, codes "BadNumber")
reason_entry NoEnd = (13, codes "NoEnd")
reason_entry NameMissing = (14, codes "NameMissing")
reason_entry NameTwice = (15, codes "NameTwice")
reason_entry Conflict = (16, codes "Conflict")

abbrev pub reason_code : TextReason → ℕ
reason_code reason = (reason_entry reason).0

abbrev pub reason_name : TextReason → List ℕ
reason_name reason = (reason_entry reason).1
