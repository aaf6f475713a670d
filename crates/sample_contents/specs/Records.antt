-- Recnos: records on one leaf, and on leaves below internal pages that count them. Source: docs/FORMAT.md, "Databases of a file" and "Stage 8, contents".
use Rattle.std.specs.Prelude.{ℕ, List, [], ◌∷◌}
use Rattle.sample_contents.specs.Fields.{text, chain, deleted, recno_child, recno_leaf, recno_internal, recno}
use Rattle.sample_contents.specs.Chains.{five_bytes}

abbrev pub records : (flags re_len : ℕ) → List (List ℕ) → List ℕ
records flags re_len items = recno flags re_len (recno_leaf 1 0 0 items ∷ [])

-- records 1 and 3; record 2 is deleted
abbrev pub first_and_third : List ℕ
first_and_third = records 2 0 (text "a" ∷ deleted (text "") ∷ text "c" ∷ [])

-- leaves 2 and 3 with these records, and the count of each
abbrev pub counted_records : (flags re_len first second : ℕ) → (left right : List (List ℕ)) → List ℕ
counted_records flags re_len first second left right = recno flags re_len (
    recno_internal 1 2 (recno_child 2 first ∷ recno_child 3 second ∷ [])
    ∷ recno_leaf 2 0 3 left
    ∷ recno_leaf 3 2 0 right
    ∷ [])

-- two records below two internal pages, and the count on each
abbrev pub counted_records_twice : (outer inner : ℕ) → List ℕ
counted_records_twice outer inner = recno 2 0 (
    recno_internal 1 3 (recno_child 2 outer ∷ [])
    ∷ recno_internal 2 2 (recno_child 3 inner ∷ [])
    ∷ recno_leaf 3 0 0 (text "a" ∷ text "b" ∷ [])
    ∷ [])

-- records of a fixed length, and one of five bytes in a chain
abbrev pub record_in_a_chain : ℕ → List ℕ
record_in_a_chain re_len = recno 0x0a re_len (recno_leaf 1 0 0 (chain 2 5 ∷ []) ∷ five_bytes 2 1)
