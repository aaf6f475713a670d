-- What the lines of a header give. Source: docs/FORMAT.md, "Read header".
use Rattle.std.specs.Prelude.{ℕ, ◌==◌, ◌&&◌, ◌||◌, if◌then◌else◌, Bool, true, false, not, List, [], ◌∷◌, Option, Some, None, codes}
use Rattle.std.specs.List.{filter_map}
use Rattle.std.specs.Str.{bytes_eq}
use Rattle.bdb_places.specs.of_format.declared.kinds.Kind.{Kind}
use Rattle.bdb_places.specs.of_format.declared.kinds.Kind.TheVariants.{Btree, Recno, Hash, Queue}
use Rattle.bdb_places.specs.of_format.declared.kinds.Order.{Order}
use Rattle.bdb_places.specs.of_format.declared.kinds.Order.TheVariants.{Big, Little}
use Rattle.bdb_places.specs.of_format.declared.settings.Settings.{Settings}
use Rattle.bdb_places.specs.of_format.Terms.{plain_settings}
use Rattle.bdb_text_format.specs.TextSpelling.{bytes_spelled}
use Rattle.bdb_text_format.specs.Written.{HeaderLine}
use Rattle.bdb_text_format.specs.Keywords.{or_zero, number_read}

-- a byte before the name of an entry
abbrev pub with_byte : ℕ → Option HeaderLine → Option HeaderLine
with_byte byte None = None
with_byte byte (Some entry) = Some (record entry { name = byte ∷ entry.name })

-- a header line at its first equals sign
abbrev pub entry_of : List ℕ → Option HeaderLine
entry_of [] = None
entry_of (byte ∷ rest) = if byte == 61 then Some (record { name = []; value = rest }) else with_byte byte (entry_of rest)

-- the entries of the lines that have an equals sign
abbrev pub entries : List (List ℕ) → List HeaderLine
entries lines = filter_map entry_of lines

-- the value that a header gives a keyword
abbrev pub given : List ℕ → List HeaderLine → Option (List ℕ)
given name [] = None
given name (entry ∷ others) = if bytes_eq entry.name name then Some entry.value else given name others

-- what a header gives each keyword
abbrev pub Values : Type 0
Values = List ℕ → Option (List ℕ)

-- what lines give
abbrev pub values : List (List ℕ) → Values
values lines = λ name. given name (entries lines)

-- whether it is this value
abbrev pub is_value : List ℕ → Option (List ℕ) → Bool
is_value value None = false
is_value value (Some other) = bytes_eq other value

-- whether a keyword has this value
abbrev pub gives : List ℕ → List ℕ → Values → Bool
gives name value header = is_value value (header name)

-- the number of a value, or the usual one
abbrev pub number_or : ℕ → Option (List ℕ) → ℕ
number_or n None = n
number_or n (Some value) = or_zero (number_read value)

-- the bytes of a name
abbrev pub spelled_name : Option (List ℕ) → Option (List ℕ)
spelled_name None = None
spelled_name (Some value) = bytes_spelled true value

-- the name of a section
abbrev pub name_in : Values → Option (List ℕ)
name_in header = spelled_name (header (codes "database"))

-- whether a keyword is switched on
abbrev pub is_on : List ℕ → Values → Bool
is_on name header = gives name (codes "1") header

-- whether the type is this word
abbrev pub has_type : List ℕ → Values → Bool
has_type kind header = gives (codes "type") kind header

-- duplicates, sorted or not
abbrev pub repeats : Values → Bool
repeats header = is_on (codes "duplicates") header || is_on (codes "dupsort") header

-- whether keys are numbers of records
abbrev pub has_record_type : Values → Bool
has_record_type header = has_type (codes "recno") header || has_type (codes "queue") header

-- whether what a header says is in conflict
abbrev pub conflicts : Values → Bool
conflicts header =
    repeats header && has_record_type header
    || is_on (codes "recnum") header && (not (has_type (codes "btree") header) || repeats header)
    || is_on (codes "renumber") header && not (has_type (codes "recno") header)
    || gives (codes "keys") (codes "0") header && (has_type (codes "btree") header || has_type (codes "hash") header)
    || has_type (codes "queue") header && (number_or 0 (header (codes "re_len")) == 0)

-- the order of bytes
abbrev pub order_in : Values → Order
order_in header = if number_or 1234 (header (codes "db_lorder")) == 4321 then Big else Little

-- the settings of a header that says nothing of its own
abbrev pub plain_in : Kind → Values → Settings
plain_in kind header = plain_settings kind (number_or 4096 (header (codes "db_pagesize"))) (order_in header)

-- the settings; a header without a fault has a type
abbrev pub settings_in : Values → Settings
settings_in header =
    if has_type (codes "btree") header then record (plain_in Btree header) {
      duplicates = repeats header;
      sorted = is_on (codes "dupsort") header;
      recnum = is_on (codes "recnum") header;
      minkey = number_or 2 (header (codes "bt_minkey"));
    } else (if has_type (codes "hash") header then record (plain_in Hash header) {
      duplicates = repeats header;
      sorted = is_on (codes "dupsort") header;
      ffactor = number_or 0 (header (codes "h_ffactor"));
    } else (if has_type (codes "recno") header then record (plain_in Recno header) {
      renumber = is_on (codes "renumber") header;
      fixed = not (number_or 0 (header (codes "re_len")) == 0);
      re_len = number_or 0 (header (codes "re_len"));
      re_pad = number_or 32 (header (codes "re_pad"));
    } else record (plain_in Queue header) {
      fixed = true;
      re_len = number_or 0 (header (codes "re_len"));
      re_pad = number_or 32 (header (codes "re_pad"));
    }))

-- whether data lines are keys and data in turn
abbrev pub has_keys : Values → Bool
has_keys header = not (has_record_type header) || is_on (codes "keys") header

-- whether data lines are printed
abbrev pub prints : Values → Bool
prints header = gives (codes "format") (codes "print") header
