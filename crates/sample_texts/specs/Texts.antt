-- The dump texts of whole images, and the lines that they are. Source: docs/FORMAT.md, "Dump text".
use Rattle.std.specs.Prelude.{ℕ, Bool, List, [], ◌∷◌, ◌++◌, codes}
use Prim.Native.String.{String}
use Rattle.std.specs.List.{flat_map}
use Rattle.bdb_text_format.specs.of_format.Terms.{databases, file_of, overwritten}
use Rattle.bdb_text_format.specs.Terms.{dump_text, line}
use Rattle.sample_contents.specs.Fields.{inline, one_leaf, pair, text}

-- the dump text of an image, with all its databases
abbrev pub text_of : Bool → List ℕ → List ℕ
text_of print image = dump_text print image (databases (file_of image))

-- lines that end with a line feed each
abbrev pub lines : List String → List ℕ
lines all = flat_map (λ text. line (codes text)) all

-- a section of a file with pages of 512 bytes, little-endian: the lines of its header that differ, and its data lines
abbrev pub section : (format kind : String) → (more data_lines : List String) → List ℕ
section format kind more data_lines =
    lines ("VERSION=3" ∷ [])
    ++ (line (codes "format=" ++ codes format)
    ++ (line (codes "type=" ++ codes kind)
    ++ (lines ("db_pagesize=512" ∷ "db_lorder=1234" ∷ [])
    ++ (lines more
    ++ (lines ("HEADER=END" ∷ [])
    ++ (lines data_lines ++ lines ("DATA=END" ∷ [])))))))

-- a leaf with the pair `a` and 5c 0a 41
abbrev pub unprinted_pair : List ℕ
unprinted_pair = one_leaf 0 (pair (text "a") (inline (0x5c ∷ 10 ∷ 0x41 ∷ [])) ∷ [])

-- the least number of keys on a page is 2^32 - 1
abbrev pub greatest_minkey : List ℕ
greatest_minkey = overwritten (one_leaf 0 []) 76 (255 ∷ 255 ∷ 255 ∷ 255 ∷ [])
