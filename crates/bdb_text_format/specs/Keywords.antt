-- The keywords of a header, as one table, and which values they take. Source: docs/FORMAT.md, "Read header".
use Rattle.std.specs.Prelude.{ℕ, ◌+◌, ◌*◌, ◌==◌, nat_le, ◌&&◌, if◌then◌else◌, Bool, true, false, not, List, [], ◌∷◌, length, drop, take, Option, Some, None}
use Rattle.std.specs.Prelude.{codes, is_some}
use Rattle.std.specs.List.{find, fold, list_all, list_any}
use Rattle.std.specs.Str.{bytes_eq}
use Rattle.bdb_text_format.specs.declared.keywords.Judged.{Judged}
use Rattle.bdb_text_format.specs.declared.keywords.Judged.TheVariants.{Fits, Bad, LeftOut}
use Rattle.bdb_places.specs.of_format.Terms.{digits_value, is_number}
use Rattle.bdb_text_format.specs.TextSpelling.{bytes_spelled, digit_value}

-- Numbers: one to ten decimal digits, or 0x and one to eight hexadecimal digits.

-- a number below 2^32
abbrev pub fitting : ℕ → Option ℕ
fitting n = if nat_le n 4294967295 then Some n else None

-- a number, or 0 where there is none
abbrev pub or_zero : Option ℕ → ℕ
or_zero None = 0
or_zero (Some n) = n

-- `0x` and one to eight hexadecimal digits
abbrev pub is_hex : List ℕ → Bool
is_hex text =
    bytes_eq (take 2 text) (codes "0x") && nat_le 3 (length text) && nat_le (length text) 10 && list_all (λ digit. is_some (digit_value digit)) (drop 2 text)

-- what hexadecimal digits say, from the high end on
abbrev pub hex_value : List ℕ → ℕ
hex_value text = fold (λ n digit. 16 * n + or_zero (digit_value digit)) 0 text

-- the number that a value says
abbrev pub number_read : List ℕ → Option ℕ
number_read text = if is_number text then fitting (digits_value text) else (if is_hex text then Some (hex_value (drop 2 text)) else None)

-- Values.

-- one of these words
abbrev pub one_of : List (List ℕ) → List ℕ → Judged
one_of words value = if list_any (bytes_eq value) words then Fits else Bad

-- one of these words; one more isn't supported
abbrev pub one_of_but : List (List ℕ) → List ℕ → List ℕ → Judged
one_of_but words other value = if bytes_eq value other then LeftOut else one_of words value

-- a number by two tests: what it asks for isn't supported, or it fits
abbrev pub judged_number : (ℕ → Bool) → (ℕ → Bool) → Option ℕ → Judged
judged_number fits left_out None = Bad
judged_number fits left_out (Some n) = if left_out n then LeftOut else (if fits n then Fits else Bad)

-- a number that is this or that; another isn't supported
abbrev pub number_that : (ℕ → Bool) → (ℕ → Bool) → List ℕ → Judged
number_that fits left_out value = judged_number fits left_out (number_read value)

-- any number
abbrev pub any_number : List ℕ → Judged
any_number value = number_that (λ n. true) (λ n. false) value

-- a printed spelling
abbrev pub a_spelling : List ℕ → Judged
a_spelling value = if is_some (bytes_spelled true value) then Fits else Bad

-- `0` or `1`
abbrev pub on_or_off : List ℕ → Judged
on_or_off value = one_of (codes "0" ∷ codes "1" ∷ []) value

-- a power of two from 512 to 32768
abbrev pub legal_size : ℕ → Bool
legal_size n = list_any (λ (size : ℕ). n == size) (512 ∷ 1024 ∷ 2048 ∷ 4096 ∷ 8192 ∷ 16384 ∷ 32768 ∷ [])

-- The table.

-- a keyword and what each value is to it
pub record Keyword : Type 0 where
  pub name : List ℕ
  pub judged : List ℕ → Judged

infix 70 ◌:=◌
abbrev pub ◌:=◌ : List ℕ → (List ℕ → Judged) → Keyword
name := judged = record { name = name; judged = judged }

-- the digits of an order of bytes
abbrev pub is_order : ℕ → Bool
is_order n = list_any (λ (m : ℕ). n == m) (1234 ∷ 4321 ∷ [])

-- the later part of the table
abbrev pub later_keywords : List Keyword
later_keywords =
    codes "chksum" := one_of_but (codes "0" ∷ []) (codes "1")
    ∷ codes "db_pagesize" := number_that legal_size (λ n. n == 65536)
    ∷ codes "db_lorder" := number_that is_order (λ n. false)
    ∷ codes "extentsize" := number_that (λ n. n == 0) (λ n. not (n == 0))
    ∷ codes "bt_minkey" := any_number
    ∷ codes "h_ffactor" := any_number
    ∷ codes "h_nelem" := any_number
    ∷ codes "re_len" := any_number
    ∷ codes "re_pad" := any_number
    ∷ []

-- the table of the keywords
abbrev pub keywords : List Keyword
keywords =
    codes "format" := one_of (codes "bytevalue" ∷ codes "print" ∷ [])
    ∷ codes "database" := a_spelling
    ∷ codes "type" := one_of_but (codes "btree" ∷ codes "hash" ∷ codes "recno" ∷ codes "queue" ∷ []) (codes "heap")
    ∷ codes "duplicates" := on_or_off
    ∷ codes "dupsort" := on_or_off
    ∷ codes "recnum" := on_or_off
    ∷ codes "renumber" := on_or_off
    ∷ codes "keys" := on_or_off
    ∷ later_keywords

-- the keyword of this name
abbrev pub find_named : List ℕ → List Keyword → Option Keyword
find_named name rows = find (λ (keyword : Keyword). bytes_eq name keyword.name) rows
