-- What is answered over a file, by its verdict and what is asked. Source: man/bdbtool.1.
use Rattle.std.specs.Prelude.{Bool, List, None, Option, Some, [], codes, decimal, if◌then◌else◌, slice_get, ℕ, ◌++◌, ◌∷◌}
use Rattle.bdb_file.specs.of_format.declared.kinds.Order.{Order}
use Rattle.bdb_file.specs.of_format.Terms.{Database, Faulty, File, Judgement, LeftOut, data_under, databases, file_of, head_of, kind_of, list_of, place_of}
use Rattle.bdb_tool_words.specs.of_text_format.Terms.{database_text, dump_text, is_btree, line}
use Rattle.bdb_tool_words.specs.of_model.Answers.{Answer, done, fault_line, list_text, pairs_text, told, unsupported_line, values_text}
use Rattle.bdb_tool_words.specs.Commands.{Convert, Dump, Get, ListAll, Range, Request, Stat, Verify}
use Rattle.bdb_tool_dump.specs.of_range.Ranges.{in_range}
use Rattle.bdb_stat.specs.declared.class.Class.TheVariants.{Meta, Internal, Leaf, Hash, Overflow, Free, Reserve, Queue, Tail}
use Rattle.bdb_stat.specs.Classes.{levels, pages_of}
use Rattle.bdb_stat.specs.Unused.{unused}
use Rattle.bdb_stat.specs.of_law_turned.Flipped.{flip_of, overlap_in}
use Rattle.bdb_file.specs.of_any_order.AnyOrder.{faults_by_rows, verdict_by}
use Rattle.bdb_file.specs.of_any_order.declared.rows.Rows.{Rows}
use Rattle.bdb_file.specs.of_format.declared.kinds.Fault.{Fault}
use Rattle.bdb_tool_dump.specs.of_tool_lines.Telling.{faults_text, first_status}
use Rattle.bdb_tool_print.specs.Survey.{figure_line}

abbrev pub not_found : Answer
not_found = told 9 (line (codes "not found"))

-- `verify`: the number of whole pages
abbrev pub sound_line : ℕ → List ℕ
sound_line pages = codes "sound, " ++ (decimal pages ++ line (codes " pages"))

-- `get`: the data of the key in the database with the name, each on a line

abbrev pub data_of_database : File → List ℕ → Option Database → List (List ℕ)
data_of_database file key None = []
data_of_database file key (Some database) = data_under file database.fields key

abbrev pub data_at : File → List ℕ → Option ℕ → List (List ℕ)
data_at file key None = []
data_at file key (Some place) = data_of_database file key (slice_get (databases file) place)

-- what the file has under this name and key; nothing where no database has the name
unfoldable pub data_named : File → Option (List ℕ) → List ℕ → List (List ℕ)
data_named file name key = data_at file key (place_of name (databases file))

abbrev pub found : Bool → List (List ℕ) → Answer
found prints [] = not_found
found prints (value ∷ values) = done (values_text prints (value ∷ values))

-- `dump`: the text of all databases, or that of the one with the name

abbrev pub database_in : List Database → Option ℕ → Option Database
database_in all None = None
database_in all (Some place) = slice_get all place

abbrev pub section_answer : Bool → List ℕ → Option Database → Answer
section_answer prints image None = not_found
section_answer prints image (Some database) = done (database_text prints image database)

abbrev pub dumped : Bool → List ℕ → Option (List ℕ) → Answer
dumped prints image None = done (dump_text prints image (databases (file_of image)))
dumped prints image (Some name) = section_answer prints image (database_in (databases (file_of image)) (place_of (Some name) (databases (file_of image))))

-- `range`: the pairs of a btree with a key in the range

abbrev pub not_btree : Answer
not_btree = told 12 (line (codes "not a btree"))

abbrev pub range_answer : Bool → File → List ℕ → List ℕ → Option Database → Answer
range_answer prints file from to None = not_found
range_answer prints file from to (Some database) =
    if is_btree (kind_of database.fields) then done (pairs_text prints (in_range (list_of file database.fields) from to)) else not_btree

abbrev pub ranged : Bool → File → Option (List ℕ) → List ℕ → List ℕ → Answer
ranged prints file name from to = range_answer prints file from to (database_in (databases file) (place_of name (databases file)))

-- `convert`: the file in the byte order, or the first page that is in the way

abbrev pub overlap_line : ℕ → List ℕ
overlap_line page = codes "items overlap, page " ++ line (decimal page)

abbrev pub converted : Option ℕ → Order → List ℕ → Answer
converted None order image = done (flip_of order image)
converted (Some page) order image = told 13 (overlap_line page)

-- `stat`: a line for each figure, with its name

unfoldable pub stat_text : File → List ℕ
stat_text file =
    figure_line (codes "pages") file.count
    ++ (figure_line (codes "meta") (pages_of file Meta)
    ++ (figure_line (codes "internal") (pages_of file Internal)
    ++ (figure_line (codes "leaf") (pages_of file Leaf)
    ++ (figure_line (codes "hash") (pages_of file Hash)
    ++ (figure_line (codes "overflow") (pages_of file Overflow)
    ++ (figure_line (codes "free") (pages_of file Free)
    ++ (figure_line (codes "reserve") (pages_of file Reserve)
    ++ (figure_line (codes "queue") (pages_of file Queue)
    ++ (figure_line (codes "tail") (pages_of file Tail)
    ++ (figure_line (codes "levels") (levels file)
    ++ figure_line (codes "unused") (unused file)))))))))))

-- what is answered over a sound file
abbrev pub sound_answer : Request → List ℕ → Answer
sound_answer Verify image = done (sound_line (head_of image).pages)
sound_answer ListAll image = done (list_text (databases (file_of image)))
sound_answer (Get name key prints) image = found prints (data_named (file_of image) name key)
sound_answer (Dump name prints) image = dumped prints image name
sound_answer (Range name from to prints) image = ranged prints (file_of image) name from to
sound_answer (Convert order) image = converted (overlap_in order image) order image
sound_answer Stat image = done (stat_text (file_of image))

-- what is answered by the verdict
abbrev pub judged_answer : Option Judgement → Request → List ℕ → Answer
judged_answer None request image = sound_answer request image
judged_answer (Some (Faulty fault)) request image = told 1 (fault_line fault)
judged_answer (Some (LeftOut name page)) request image = told 3 (unsupported_line name page)

-- `verify`: the line of a sound file, else a line for each fault of the first stage that has any, with the status of the first
abbrev pub verified : List Fault → List ℕ → Answer
verified [] image = sound_answer Verify image
verified (fault ∷ faults) image = told (first_status (fault ∷ faults)) (faults_text (fault ∷ faults))

-- what is asked of a file, by the rows that count; but for `verify` the first fault alone is told
abbrev pub asked_answer : Rows → Request → List ℕ → Answer
asked_answer rows Verify image = verified (faults_by_rows rows image) image
asked_answer rows request image = judged_answer (verdict_by rows image) request image
