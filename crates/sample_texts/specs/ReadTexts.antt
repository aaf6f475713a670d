-- What a text is read as, or its fault. Source: docs/FORMAT.md, "Dump text".
use Rattle.std.specs.Prelude.{◌≡◌, ℕ, List, ◌∷◌, Some, None}
use Prim.Native.String.{String}
use Rattle.bdb_text_format.specs.declared.sections.Section.{Section}
use Rattle.bdb_text_format.specs.Terms.{text_fault, text_sections}
use Rattle.sample_texts.specs.Texts.{lines}
use Rattle.bdb_text_format.specs.declared.faults.TextReason.{TextReason}

-- a text of these lines behind the first
abbrev pub headed : List String → List ℕ
headed all = lines ("VERSION=3" ∷ all)

-- a text has this fault, and isn't read
pub record IsFaulty (text : List ℕ) (line : ℕ) (reason : TextReason) : Type 0 where
  pub fault : text_fault text ≡ Some (record { line = line; reason = reason })
  pub none : text_sections text ≡ None

-- a text is read as these sections, and has no fault
pub record IsRead (text : List ℕ) (sections : List Section) : Type 0 where
  pub read : text_sections text ≡ Some sections
  pub none : text_fault text ≡ None
