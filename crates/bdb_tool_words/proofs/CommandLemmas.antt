-- The first word.
use Rattle.std.proofs.Common.{◌≡◌, ℕ, List, [], ◌∷◌, drop, refl, Option, Some, None, slice_get, option_and_then}
use Rattle.bdb_tool_words.specs.Commands.{CommandRow, command_by, command_of, commands, row_named}

pub no_word : (words : List (List ℕ)) → None ≡ slice_get words 0 → command_of words ≡ None
unfolding command_of
no_word [] none = refl
no_word (word ∷ words) none = cc

pub of_word : (words : List (List ℕ)) (word : List ℕ) (row : Option CommandRow) → Some word ≡ slice_get words 0 → row ≡ row_named word commands
    → command_of words ≡ option_and_then (λ row. command_by row (drop 1 words)) row
unfolding command_of
of_word [] word row there is = cc
of_word (first ∷ words) word row there is = let same : first ≡ word = cc in rw (same, is) refl
