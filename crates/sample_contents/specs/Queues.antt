-- Queues with records of four bytes, 60 on a page. Source: docs/FORMAT.md, "Databases of a file".
use Rattle.std.specs.Prelude.{ℕ, List, [], ◌∷◌, ◌++◌, codes}
use Prim.Native.String.{String}
use Rattle.sample_contents.specs.Fields.{zeros, queue_page, zero_page, queue}

-- a slot of eight bytes: whether its record is valid, and the record
abbrev pub slot : ℕ → String → List ℕ
slot valid word = valid ∷ (codes word ++ zeros 3)

-- records 1 and 2 are valid, record 3 isn't; the first is 2, the next one would be 4
abbrev pub second_of_three : List ℕ
second_of_three = queue 2 4 4 60 (queue_page 1 (slot 1 "zzzz" ∷ slot 1 "abcd" ∷ slot 0 "zzzz" ∷ []) ∷ [])

-- records 59 and 60 end page 1, records 61, 62 and 63 begin page 2; 62 alone isn't valid, 60 is the first, 63 the next one
abbrev pub over_two_pages : List ℕ
over_two_pages = queue 60 63 4 60 (
    queue_page 1 (zeros 464 ∷ slot 1 "aaaa" ∷ slot 1 "bbbb" ∷ [])
    ∷ queue_page 2 (slot 1 "cccc" ∷ slot 0 "dddd" ∷ slot 1 "eeee" ∷ [])
    ∷ [])

-- page 1 is a zero page, and pages for records from 121 on aren't there
abbrev pub page_of_zeros : List ℕ
page_of_zeros = queue 1 1000 4 60 (zero_page ∷ queue_page 2 (slot 1 "cccc" ∷ []) ∷ [])

-- the bit of a valid record is set beside others
abbrev pub more_bits : List ℕ
more_bits = queue 1 3 4 60 (queue_page 1 (slot 0xff "aaaa" ∷ slot 0xfe "bbbb" ∷ []) ∷ [])
