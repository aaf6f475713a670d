-- The data under a key are those that going over the list finds.
use Rattle.std.proofs.Common.{◌≡◌, Bool, true, false, List, [], ◌∷◌, map, filter, if◌then◌else◌, Option, Some, None, ℕ, refl}
use Rattle.bdb_recno.specs.of_format.Databases.{get_number}
use Rattle.bdb_recno.specs.of_format.Flags.{has_records}
use Rattle.bdb_recno.specs.of_format.Terms.{BytesKey, File, ListKey, Metadata, data_under, get, list_of, number_in}
use Rattle.bdb_databases.specs.declared.under.Sought.{Sought}
use Rattle.bdb_databases.specs.Under.{IsSought, listed_under, sought_number}

none_has : (list : List (ListKey × List ℕ)) → map (λ (entry : ListKey × List ℕ). entry.1) (filter (λ (entry : ListKey × List ℕ). false) list) ≡ []
none_has [] = refl
none_has (entry ∷ list) = none_has list

by_number : (number : Option ℕ) (list : List (ListKey × List ℕ)) (sought : Sought) → sought_number number sought → listed_under sought list ≡ get_number list number
by_number None list sought is = rw is (none_has list)
by_number (Some number) list sought is = rw is refl

by_kind : (records : Bool) (list : List (ListKey × List ℕ)) (key : List ℕ) (sought : Sought) → IsSought records key sought
    → listed_under sought list ≡ (if records then get_number list (number_in key) else get list (BytesKey key))
by_kind true list key sought is = by_number (number_in key) list sought is
by_kind false list key sought is = rw is refl

pub under_key : (file : File) (fields : Metadata) (key : List ℕ) (sought : Sought) → IsSought (has_records fields) key sought
    → listed_under sought (list_of file fields) ≡ data_under file fields key
under_key file fields key sought is = by_kind (has_records fields) (list_of file fields) key sought is
