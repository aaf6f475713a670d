-- Why nothing is built, as an answer.
use Rattle.std.specs.Prelude.{◌≡◌, ⊤, string_bytes}
use Rattle.bdb_model.specs.Answers.{Answer, told}
use Rattle.bdb_tool_build.specs.declared.refusal.Refusal.{Refusal}
use Rattle.bdb_tool_build.specs.declared.refusal.Refusal.TheVariants.{Faulty, TooLarge, Memory}

-- a refusal is this answer, or lack of memory
abbrev pub Says : Answer → Refusal → Type 0
Says answer (Faulty line) = answer ≡ told 8 (string_bytes line)
Says answer (TooLarge line) = answer ≡ told 6 (string_bytes line)
Says answer Memory = ⊤

-- a refusal is one of the answers that are allowed, or lack of memory
abbrev pub IsRefusedAnswer : (Answer → Type 0) → Refusal → Type 0
IsRefusedAnswer allowed (Faulty line) = allowed (told 8 (string_bytes line))
IsRefusedAnswer allowed (TooLarge line) = allowed (told 6 (string_bytes line))
IsRefusedAnswer allowed Memory = ⊤
