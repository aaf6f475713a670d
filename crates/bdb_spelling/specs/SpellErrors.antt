-- When each error comes.
use Rattle.std.specs.Prelude.{◌≡◌, ℕ, Bool, List, None, ⊤}
use Rattle.bdb_text_format.specs.Terms.{bytes_spelled}
use Rattle.bdb_spelling.specs.declared.spellings.SpellError.{SpellError}
use Rattle.bdb_spelling.specs.declared.spellings.SpellError.TheVariants.{Bad, Memory}

-- `Bad` comes only where a text is no spelling
abbrev pub IsSpellError : Bool → List ℕ → SpellError → Type 0
IsSpellError print text Bad = bytes_spelled print text ≡ None
IsSpellError print text Memory = ⊤
