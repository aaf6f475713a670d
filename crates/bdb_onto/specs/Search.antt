-- The database of a name among databases in the order of their names, as a search by halving finds it.
use Rattle.std.specs.Prelude.{◌≡◌, ℕ, ◌<◌, ⊤, Bool, true, false, List, length, Option, Some, None, Result, Ok, Err, is_some, slice_get}
use Rattle.std.specs.Cmp.Lexicographic.{slice_cmp}
use Rattle.std.specs.List.{Contains}
use Rattle.std.specs.Ordering.{nat_cmp}
use Rattle.std.specs.declared.cmp.Ordering.{Ordering}
use Rattle.bdb_format.specs.Terms.{Less, is_name}
use Rattle.bdb_mkfile.specs.of_text_format.declared.sections.Section.{Section}
use Rattle.bdb_law_kept.specs.Later.{AllLater}
use Rattle.bdb_mkfile.specs.Builds.{name_of}
use Rattle.bdb_onto.specs.declared.base.Base.{Base}
use Rattle.bdb_onto.specs.Onto.{partner_of}

-- the order of a database's name and a name
abbrev pub order_of : List ℕ → Section → Ordering
order_of name database = slice_cmp nat_cmp (name_of database) name

abbrev pub has_name : List ℕ → Section → Bool
has_name name database = is_name (Some name) database.name

-- each name is less than all that come later
abbrev pub NamesRise : List Section → Type 0
NamesRise all = AllLater (λ a b. Less (name_of a) (name_of b)) all

abbrev pub AllNamed : List Section → Type 0
AllNamed all = (database : Section) → Contains all database → is_some database.name ≡ true

-- neither has the name of the other
abbrev pub Differs : Section → Section → Type 0
Differs a b = is_name b.name a.name ≡ false

-- under a master the databases of a base have names of their own, in the order of these; without one there is at most one, which has none
pub record HasNames (base : Base) : Type 0 where
  pub named : (database : Section) → Contains base.databases database → is_some database.name ≡ base.master
  pub rise : base.master ≡ true → NamesRise base.databases
  pub differ : AllLater Differs base.databases

-- the database at the place that a search answers
abbrev pub place_in : List Section → Result ℕ ℕ → Option Section
place_in all (Ok i) = slice_get all i
place_in all (Err i) = None

-- A place, where there is one.

abbrev pub IsWithin : ℕ → Option ℕ → Type 0
IsWithin n None = ⊤
IsWithin n (Some i) = i < n

abbrev pub at_place : List Section → Option ℕ → Option Section
at_place all None = None
at_place all (Some i) = slice_get all i

-- a place among databases at which this one stands, or none where there is none
pub record IsPlaceOf (all : List Section) (found : Option Section) (place : Option ℕ) : Type 0 where
  pub within : IsWithin (length all) place
  pub there : at_place all place ≡ found

-- the place of a section's partner in a base
abbrev pub IsPartnerAt : Base → Section → Option ℕ → Type 0
IsPartnerAt base section place = IsPlaceOf base.databases (partner_of base section) place
