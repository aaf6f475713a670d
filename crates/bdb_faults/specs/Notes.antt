-- What is noted of the faults of a stage. Source: docs/FORMAT.md, "Faults".
use Rattle.std.specs.Prelude.{◌≡◌, ◌⊎◌, ◌↔◌, ◌<◌, List, [], ◌∷◌, ◌++◌, Option, Some, None}
use Rattle.std.specs.List.{Contains}
use Rattle.bdb_format.specs.Terms.{ComesFirst}
use Rattle.bdb_format.specs.declared.kinds.Fault.{Fault}

-- a sink that had noted some faults has noted these too, after them
abbrev pub Notes : (List Fault → Type 0) → (List Fault → Type 0) → List Fault → Type 0
Notes before after more = (faults : List Fault) → before faults → after (faults ++ more)

-- these are the same faults, in any order and repeats allowed
abbrev pub AreSame : List Fault → List Fault → Type 0
AreSame noted faults = (fault : Fault) → Contains noted fault ↔ Contains faults fault

-- a sink that had noted some faults has noted just these too, in any order and repeats allowed
abbrev pub NotesAll : (List Fault → Type 0) → (List Fault → Type 0) → List Fault → Type 0
NotesAll before after faults = (more : List Fault) × AreSame more faults × Notes before after more

-- just these faults were noted, in any order and repeats allowed
abbrev pub HasJust : (List Fault → Type 0) → List Fault → Type 0
HasJust has faults = (noted : List Fault) × has noted × AreSame noted faults

-- by page and then by code
abbrev pub ComesBefore : Fault → Fault → Type 0
ComesBefore a b = (a.page < b.page) ⊎ ((a.page ≡ b.page) × (a.code < b.code))

-- each one comes before all later ones
abbrev pub Ascends : List Fault → Type 0
Ascends [] = Unit {0}
Ascends (fault ∷ later) = ((other : Fault) → Contains later other → ComesBefore fault other) × Ascends later

-- no two of them have the same page and code and differ otherwise
abbrev pub AreOne : List Fault → Type 0
AreOne faults = (a b : Fault) → Contains faults a → Contains faults b → a.page ≡ b.page → a.code ≡ b.code → a ≡ b

pub record IsFirstNoted (faults : List Fault) (fault : Fault) : Type 0 where
  pub holds : Contains faults fault
  pub first : (other : Fault) → Contains faults other → ComesFirst fault other

-- the first of some faults by page and then by code, if there are any
abbrev pub IsFirst : Option Fault → List Fault → Type 0
IsFirst None faults = faults ≡ []
IsFirst (Some fault) faults = IsFirstNoted faults fault

-- a list has these faults
abbrev pub HasNoted : List Fault → List Fault → Type 0
HasNoted list faults = list ≡ faults
