-- Tests and rows.
use Rattle.std.proofs.Common.{◌≡◌, ◌&&◌, Bool, true, false, not, if◌then◌else◌, Option, Some, None, is_none, is_some, refl}

-- no row holds
pub none_row : {Code : Type 0} (b : Bool) (code : Code) (below : Option Code) → is_none (if b then Some code else below) ≡ (not b && is_none below)
none_row true code below = refl
none_row false code below = refl

pub some_if : {T : Type 0} (b : Bool) (answer : Option T) → is_some (if b then answer else None) ≡ (b && is_some answer)
some_if true answer = refl
some_if false answer = refl

pub not-none : {T : Type 0} (answer : Option T) → not (is_none answer) ≡ is_some answer
not-none None = refl
not-none (Some x) = refl
