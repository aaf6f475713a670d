-- Refusals as answers.
use Rattle.std.proofs.Common.{subst, string_bytes}
use Rattle.bdb_model.specs.Answers.{Answer, told}
use Rattle.bdb_tool_build.specs.declared.refusal.Refusal.{Refusal}
use Rattle.bdb_tool_build.specs.declared.refusal.Refusal.TheVariants.{Faulty, TooLarge, Memory}
use Rattle.bdb_tool_build.specs.Refusals.{IsRefusedAnswer, Says}

-- a refusal of an allowed answer
pub says_allowed : (allowed : Answer → Type 0) (answer : Answer) (refusal : Refusal) → Says answer refusal → allowed answer → IsRefusedAnswer allowed refusal
says_allowed allowed answer (Faulty line) says is = subst allowed says is
says_allowed allowed answer (TooLarge line) says is = subst allowed says is
says_allowed allowed answer Memory says is = tt

-- what is allowed by one rule is allowed by another
pub still_refused : (allowed others : Answer → Type 0) (refusal : Refusal) → ((answer : Answer) → allowed answer → others answer)
    → IsRefusedAnswer allowed refusal → IsRefusedAnswer others refusal
still_refused allowed others (Faulty line) wider refused = wider (told 8 (string_bytes line)) refused
still_refused allowed others (TooLarge line) wider refused = wider (told 6 (string_bytes line)) refused
still_refused allowed others Memory wider refused = tt
