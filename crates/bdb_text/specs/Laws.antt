-- What holds of the definitions.
use Rattle.std.specs.Prelude.{◌≡◌, ℕ, ◌<◌, Bool, List, Some, All, is_none, is_some}
use Rattle.bdb_spelling.specs.of_text_format.Terms.{bytes_spelled, spelling, text_fault, text_sections}

-- reading what was spelled gives the bytes back
abbrev pub SpelledIsRead : Type 0
SpelledIsRead = (print : Bool) (bytes : List ℕ) → All (λ (byte : ℕ). byte < 256) bytes → bytes_spelled print (spelling print bytes) ≡ Some bytes

-- a text is read, as one list of sections, exactly where it has no fault
abbrev pub ReadsOrFaults : Type 0
ReadsOrFaults = (text : List ℕ) → is_some (text_sections text) ≡ is_none (text_fault text)
