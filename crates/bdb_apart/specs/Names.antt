-- The names of databases while they are found.
use Rattle.std.specs.Prelude.{◌≡◌, ◌<◌, ℕ, List, length, get_or, Option, Some, None}
use Rattle.std.specs.List.{flat_map}
use Rattle.std.specs.Option.{option_map}
use Rattle.bdb_rescue.specs.of_image.Metas.{meta_seen}
use Rattle.bdb_rescue.specs.of_overflow.Datum.{datum_seen}
use Rattle.bdb_rescue.specs.of_overflow.declared.datum.Datum.{Datum}
use Rattle.bdb_apart.specs.Found.{Found, name_in}
use Rattle.bdb_apart.specs.declared.name.Label.{Label}
use Rattle.bdb_apart.specs.declared.name.Label.TheVariants.{Key, Page}
use Rattle.bdb_apart.specs.declared.place.At.{At}

abbrev pub label_seen : Label → List ℕ
label_seen (Key datum) = datum_seen datum
label_seen (Page bytes) = bytes

abbrev pub named_seen : Option Datum → Option (List ℕ)
named_seen name = option_map datum_seen name

-- the names that entries give to the pages of a file
pub record AreNames (count : ℕ) (names : List (Option Datum)) (entries : List (List ℕ × ℕ)) : Type 0 where
  pub len : length names ≡ count
  pub each : (p : ℕ) → p < count → named_seen (get_or names p None) ≡ name_in p entries

-- a name, or else another
abbrev pub then_name : Option (List ℕ) → Option (List ℕ) → Option (List ℕ)
then_name None other = other
then_name (Some name) other = Some name

-- names with those of more entries
pub record AreNoted (old new : List (Option Datum)) (entries : List (List ℕ × ℕ)) : Type 0 where
  pub len : length new ≡ length old
  pub each : (p : ℕ) → p < length old → named_seen (get_or new p None) ≡ then_name (named_seen (get_or old p None)) (name_in p entries)

-- those that were noted, and the entries that are left, are all
pub record IsNoting {X : Type 0} (f : X → List (List ℕ × ℕ)) (initial now : List (Option Datum)) (all left : List X) : Type 0 where
  pub len : length now ≡ length initial
  pub each : (p : ℕ) → p < length initial
      → then_name (named_seen (get_or now p None)) (name_in p (flat_map f left)) ≡ then_name (named_seen (get_or initial p None)) (name_in p (flat_map f all))

-- a database by its name
abbrev pub entry_found : (List ℕ × At) → Found
entry_found entry = record { name = Some entry.0; meta = entry.1.meta; fields = meta_seen entry.1.fields }
