-- Answers over a sound file.
use Rattle.std.proofs.Common.{◌≡◌, ℕ, ◌<◌, Bool, true, false, List, [], ◌∷◌, ◌++◌, length, inl, inr, sym, subst, ◌∙◌, ap, arith, refl, if◌then◌else◌, Option}
use Rattle.std.proofs.Common.{Some, None, Result, not, option_copied, option_map}
use Rattle.std.proofs.lemmas.Option.{slice_get-get_or}
use Rattle.bdb_file.specs.of_format.declared.kinds.Order.{Order}
use Rattle.bdb_file.specs.of_format.declared.kinds.Fault.{Fault}
use Rattle.bdb_file.specs.of_faults.Refusals.{IsFirstRefusal}
use Rattle.bdb_file.specs.of_format.Terms.{Database, Faulty, File, Judgement, LeftOut, ListKey, data_under, databases, file_of, first_judgement, judgement_of}
use Rattle.bdb_file.specs.of_format.Terms.{judgement_seen, kind_of, list_of, place_of, verdict_of}
use Rattle.bdb_file.specs.of_faults.declared.refusals.FirstError.{FirstError}
use Rattle.bdb_file.specs.of_faults.declared.refusals.FirstError.TheVariants.{Fault as FirstFault, Memory as FirstMemory}
use Rattle.bdb_tool_dump.specs.of_tool_lines.Telling.{judgement_line, judgement_status}
use Rattle.bdb_tool_words.specs.of_text_format.Terms.{bytes_spelled, database_text, dump_text, is_btree}
use Rattle.bdb_tool_words.specs.of_model.Answers.{Answer, done, fault_line, pairs_text, told, unsupported_line, value_line, values_text}
use Rattle.bdb_tool_ask.specs.FileAnswers.{asked_answer, converted, data_at, data_named, data_of_database, database_in, dumped, found, judged_answer, not_btree, not_found, range_answer, ranged, section_answer, sound_answer}
use Rattle.bdb_tool_words.specs.of_model.Change.{Change}
use Rattle.bdb_tool_words.specs.Commands.{Request, Verify, Get, Dump, Range, Convert, bounds_request, key_request}
use Rattle.bdb_tool_words.specs.Commands.{asked_name}
use Rattle.bdb_stat.specs.of_law_turned.Flipped.{overlap_in}
use Rattle.bdb_tool_dump.specs.of_range.Ranges.{in_range}
use Rattle.bdb_file.specs.of_databases.Named.{database_at, no_database}
use Rattle.bdb_file.specs.of_any_order.AnyOrder.{faults_by_rows, verdict_by}
use Rattle.bdb_file.specs.of_any_order.declared.rows.Rows.{Rows}
use Rattle.bdb_file.specs.of_any_order.declared.rows.Rows.TheVariants.{All}
use Rattle.bdb_file.proofs.of_any_order.RowsLemmas.{all_are_of_all, no_verdict}
use Rattle.bdb_tool_words.specs.WordsSeen.{request_seen}
use Rattle.bdb_tool_words.specs.declared.command.Request.{Request as CodeRequest}
use Rattle.bdb_tool_words.specs.declared.command.Request.TheVariants.{Get as GetWord, Range as RangeWord}
use Rattle.bdb_tool_dump.specs.of_tool_lines.Finished.{Finishes, HasOwnStatus, IsRefused, Reports, Tells}
use Rattle.bdb_tool_dump.proofs.of_tool_lines.FinishLemmas.{low_own, memory_finishes, told_finishes, written_finishes}
use Rattle.bdb_tool_dump.specs.of_tool_lines.declared.cut.Cut.{Cut}
use Rattle.bdb_tool_dump.specs.of_tool_lines.Printing.{Writes}
use Rattle.bdb_tool_dump.proofs.of_tool_lines.PrintingLemmas.{moved}

-- Statuses.

pub found_own : (prints : Bool) (values : List (List ℕ)) → HasOwnStatus (found prints values)
found_own prints [] = record { no_read_fault = λ is. omega arith; no_write_fault = λ is. omega arith; no_memory = λ is. omega arith }
found_own prints (value ∷ values) = low_own (found prints (value ∷ values)) (omega arith)

section_own : (prints : Bool) (image : List ℕ) (database : Option Database) → HasOwnStatus (section_answer prints image database)
section_own prints image None = record { no_read_fault = λ is. omega arith; no_write_fault = λ is. omega arith; no_memory = λ is. omega arith }
section_own prints image (Some database) = low_own (section_answer prints image (Some database)) (omega arith)

dumped_own : (prints : Bool) (image : List ℕ) (name : Option (List ℕ)) → HasOwnStatus (dumped prints image name)
dumped_own prints image None = low_own (dumped prints image None) (omega arith)
dumped_own prints image (Some name) = section_own prints image (database_in (databases (file_of image)) (place_of (Some name) (databases (file_of image))))

range_own_by : (prints : Bool) (pairs : List (ListKey × List ℕ)) (is : Bool) → HasOwnStatus (if is then done (pairs_text prints pairs) else not_btree)
range_own_by prints pairs true = low_own (done (pairs_text prints pairs)) (omega arith)
range_own_by prints pairs false = record { no_read_fault = λ is. omega arith; no_write_fault = λ is. omega arith; no_memory = λ is. omega arith }

range_own : (prints : Bool) (file : File) (from to : List ℕ) (database : Option Database) → HasOwnStatus (range_answer prints file from to database)
range_own prints file from to None = record { no_read_fault = λ is. omega arith; no_write_fault = λ is. omega arith; no_memory = λ is. omega arith }
range_own prints file from to (Some database) =
    range_own_by prints (in_range (list_of file database.fields) from to) (is_btree (kind_of database.fields))

pub ranged_own : (prints : Bool) (file : File) (name : Option (List ℕ)) (from to : List ℕ) → HasOwnStatus (ranged prints file name from to)
ranged_own prints file name from to = range_own prints file from to (database_in (databases file) (place_of name (databases file)))

pub converted_own : (overlap : Option ℕ) (order : Order) (image : List ℕ) → HasOwnStatus (converted overlap order image)
converted_own None order image = low_own (converted None order image) (omega arith)
converted_own (Some page) order image = record { no_read_fault = λ is. omega arith; no_write_fault = λ is. omega arith; no_memory = λ is. omega arith }

sound_own : (request : Request) (image : List ℕ) → HasOwnStatus (sound_answer request image)
sound_own (Get name key prints) image = found_own prints (data_named (file_of image) name key)
sound_own (Dump name prints) image = dumped_own prints image name
sound_own (Range name from to prints) image = ranged_own prints (file_of image) name from to
sound_own (Convert order) image = converted_own (overlap_in order image) order image
sound_own request image = low_own (sound_answer request image) (omega arith)

pub judged_own : (verdict : Option Judgement) (request : Request) (image : List ℕ) → HasOwnStatus (judged_answer verdict request image)
judged_own None request image = sound_own request image
judged_own (Some (Faulty fault)) request image = low_own (told 1 (fault_line fault)) (omega arith)
judged_own (Some (LeftOut name page)) request image = low_own (told 3 (unsupported_line name page)) (omega arith)

-- A file on which no row that counts holds.

pub sound_finishes : (verdict : Option Judgement) (image file : List ℕ) (asked : Request) (out err : Change) (status : ℕ)
    → Finishes (sound_answer asked file) out err status → verdict ≡ None → file ≡ image → Finishes (judged_answer verdict asked image) out err status
sound_finishes verdict image file asked out err status finishes sound same =
    subst (λ it. Finishes (judged_answer it asked image) out err status) (sym sound)
    (subst (λ bytes. Finishes (sound_answer asked bytes) out err status) same finishes)

pub readable_finishes : (rows : Rows) (image file : List ℕ) (asked : Request) (out err : Change) (status : ℕ)
    → Finishes (sound_answer asked file) out err status → faults_by_rows rows image ≡ [] → file ≡ image
    → Finishes (judged_answer (verdict_by rows image) asked image) out err status
readable_finishes rows image file asked out err status finishes none same =
    sound_finishes (verdict_by rows image) image file asked out err status finishes (no_verdict rows image none) same

-- A file that isn't sound.

-- what holds first was told
pub judgement_told : (judgement : Judgement) (written : Option (List ℕ)) (faults : ℕ) (err : Change) (status : ℕ)
    → Tells (judgement_line judgement) (judgement_status judgement) err status
    → Finishes (told (judgement_status judgement) (judgement_line judgement)) (moved written written faults faults) err status
judgement_told (Faulty fault) written faults err status tells =
    told_finishes 1 (fault_line fault) written faults err status (λ five. omega arith) (λ seven. omega arith) tells
judgement_told (LeftOut name page) written faults err status tells =
    told_finishes 3 (unsupported_line name page) written faults err status (λ five. omega arith) (λ seven. omega arith) tells

told_judged : (judgement : Judgement) (request : Request) (image : List ℕ) → told (judgement_status judgement) (judgement_line judgement)
    ≡ judged_answer (Some judgement) request image
told_judged (Faulty fault) request image = refl
told_judged (LeftOut name page) request image = refl

-- or that memory ran out
pub refused_finishes : (all : List Fault) (error : FirstError) (request : Request) (image : List ℕ) (written : Option (List ℕ)) (faults : ℕ) (err : Change)
    (status : ℕ) → IsFirstRefusal all error → IsRefused error err status
    → Finishes (judged_answer (first_judgement all) request image) (moved written written faults faults) err status
refused_finishes all (FirstFault named) request image written faults err status is (inl tells) =
    subst (λ (first : Option Fault). Finishes (judged_answer (option_map judgement_of first) request image) (moved written written faults faults) err status)
    (sym is)
    (subst (λ (answer : Answer). Finishes answer (moved written written faults faults) err status) (told_judged (judgement_seen named) request image)
    (judgement_told (judgement_seen named) written faults err status tells))
refused_finishes all (FirstFault named) request image written faults err status is (inr tells) =
    memory_finishes (judged_answer (first_judgement all) request image) written faults err status (judged_own (first_judgement all) request image) tells
refused_finishes all FirstMemory request image written faults err status is tells =
    memory_finishes (judged_answer (first_judgement all) request image) written faults err status (judged_own (first_judgement all) request image) tells

-- What is asked of a sound file.

not_verify_key : (name : Option (Option (List ℕ))) (key : Option (List ℕ)) (prints : Bool) → key_request name key prints ≡ Some Verify → ⊥
not_verify_key None key prints is = cc
not_verify_key (Some name) None prints is = cc
not_verify_key (Some name) (Some key) prints is = cc

not_verify_bounds : (name : Option (Option (List ℕ))) (from to : Option (List ℕ)) (prints : Bool) → bounds_request name from to prints ≡ Some Verify → ⊥
not_verify_bounds None from to prints is = cc
not_verify_bounds (Some name) None to prints is = cc
not_verify_bounds (Some name) (Some from) None prints is = cc
not_verify_bounds (Some name) (Some from) (Some to) prints is = cc

not_verify : (request : CodeRequest) → request_seen request ≡ Some Verify → ⊥
not_verify (GetWord it) is = not_verify_key (asked_name (option_copied it.name)) (bytes_spelled (not it.hex) it.key.now) it.print is
not_verify (RangeWord it) is =
    not_verify_bounds (asked_name (option_copied it.name)) (bytes_spelled (not it.hex) it.from.now) (bytes_spelled (not it.hex) it.to.now) it.print is
not_verify request is = cc

by_all : (asked : Request) (image : List ℕ) (out err : Change) (status : ℕ) → Finishes (judged_answer (verdict_of image) asked image) out err status
    → Finishes (judged_answer (verdict_by All image) asked image) out err status
by_all asked image out err status finishes =
    subst (λ it. Finishes (judged_answer it asked image) out err status) (sym (all_are_of_all image).1) finishes

-- all rows count, and the first that holds is told
pub asked_finishes : (request : CodeRequest) (asked : Request) (image : List ℕ) (out err : Change) (status : ℕ) → request_seen request ≡ Some asked
    → Finishes (judged_answer (verdict_of image) asked image) out err status → Finishes (asked_answer All asked image) out err status
asked_finishes request Verify image out err status is finishes = absurd (not_verify request is)
asked_finishes request asked image out err status is finishes = by_all asked image out err status finishes

-- `get`.

pub found_finishes : (prints : Bool) (values : List (List ℕ)) (first : List ℕ) (others : List (List ℕ)) (out err : Change) (written : Result Unit Cut)
    (status : ℕ) → values ≡ first ∷ others
    → Writes (value_line prints first ++ values_text prints others) out written → Reports written err status → Finishes (found prints values) out err status
unfolding values_text
found_finishes prints values first others out err written status is writes reports =
    subst (λ data_found. Finishes (found prints data_found) out err status) (sym is)
    (written_finishes (values_text prints (first ∷ others)) out err written status writes reports)

-- nothing was found
pub none_found : (prints : Bool) (values : List (List ℕ)) (written : Option (List ℕ)) (faults : ℕ) (err : Change) (status : ℕ) → values ≡ []
    → Tells not_found.err 9 err status → Finishes (found prints values) (moved written written faults faults) err status
none_found prints values written faults err status none tells =
    subst (λ data_there. Finishes (found prints data_there) (moved written written faults faults) err status) (sym none)
    (told_finishes 9 not_found.err written faults err status (λ five. omega arith) (λ seven. omega arith) tells)

pub data_found : (file : File) (name : Option (List ℕ)) (key : List ℕ) (i : ℕ) → place_of name (databases file) ≡ Some i → i < length (databases file)
    → data_named file name key ≡ data_under file (database_at file i).fields key
unfolding data_named
data_found file name key i is inside =
    ap (data_at file key) is ∙ ap (data_of_database file key) (slice_get-get_or (databases file) i no_database inside)

pub no_data : (file : File) (name : Option (List ℕ)) (key : List ℕ) → place_of name (databases file) ≡ None → data_named file name key ≡ []
unfolding data_named
no_data file name key none = ap (data_at file key) none

-- `dump`.

-- the section of the database with the name was written
pub section_finishes : (prints : Bool) (image name : List ℕ) (i : ℕ) (out err : Change) (written : Result Unit Cut) (status : ℕ)
    → place_of (Some name) (databases (file_of image)) ≡ Some i
    → i < length (databases (file_of image)) → Writes (database_text prints image (database_at (file_of image) i)) out written → Reports written err status
    → Finishes (dumped prints image (Some name)) out err status
section_finishes prints image name i out err written status is inside writes reports =
    let there = ap (database_in (databases (file_of image))) is ∙ slice_get-get_or (databases (file_of image)) i no_database inside in
    subst (λ database. Finishes (section_answer prints image database) out err status) (sym there)
    (written_finishes (database_text prints image (database_at (file_of image) i)) out err written status writes reports)

-- no database has the name
pub no_section : (prints : Bool) (image name : List ℕ) (written : Option (List ℕ)) (faults : ℕ) (err : Change) (status : ℕ)
    → place_of (Some name) (databases (file_of image)) ≡ None
    → Tells not_found.err 9 err status → Finishes (dumped prints image (Some name)) (moved written written faults faults) err status
no_section prints image name written faults err status none tells =
    subst (λ place. Finishes (section_answer prints image (database_in (databases (file_of image)) place)) (moved written written faults faults) err status)
    (sym none)
    (told_finishes 9 not_found.err written faults err status (λ five. omega arith) (λ seven. omega arith) tells)

-- all databases were written
pub all_finishes : (prints : Bool) (image : List ℕ) (asked : Option (Option (List ℕ))) (name : Option (List ℕ)) (out err : Change) (written : Result Unit Cut)
    (status : ℕ) → asked ≡ Some None
    → asked ≡ Some name → Writes (dump_text prints image (databases (file_of image))) out written → Reports written err status
    → Finishes (dumped prints image name) out err status
all_finishes prints image asked name out err written status none is writes reports =
    let same : None ≡ name = cc in
    subst (λ it. Finishes (dumped prints image it) out err status) same
    (written_finishes (dump_text prints image (databases (file_of image))) out err written status writes reports)
