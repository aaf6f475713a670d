-- What `repair` answers.
use Rattle.std.proofs.Common.{◌≡◌, ◌∙◌, ◌⊎◌, ℕ, Bool, true, false, List, [], ◌∷◌, Option, Some, None, Result, Ok, Err, IfOk, ap, arith, codes, inl, inr}
use Rattle.std.proofs.Common.{nat_lt, refl, sym, subst}
use Rattle.std.specs.Prelude.{⊤}
use Rattle.bdb_repair.proofs.of_format.KnownLemmas.{keeps_itself}
use Rattle.bdb_repair.proofs.of_format.ListLemmas.{one_answer}
use Rattle.bdb_repair.specs.of_text_format.Terms.{line}
use Rattle.bdb_repair.specs.of_format.declared.kinds.Unsupported.{Unsupported}
use Rattle.bdb_repair.specs.of_text_format.declared.sections.Section.{Section}
use Rattle.bdb_tool_ask.proofs.of_tool_lines.PrintingLemmas.{moved}
use Rattle.bdb_repair.specs.of_mkfile.Builds.{image_size}
use Rattle.bdb_repair.specs.of_mkfile.NamedImages.{HasBuiltTables}
use Rattle.bdb_repair.specs.of_model.Answers.{Answer, done, told, unsupported_line}
use Rattle.bdb_repair.specs.of_model.Change.{Change}
use Rattle.bdb_repair.specs.of_model.Lines.{memory_line}
use Rattle.bdb_repair.specs.declared.error.RepairError.{RepairError}
use Rattle.bdb_repair.specs.declared.error.RepairError.TheVariants.{NoMeta, TooLarge, Memory}
use Rattle.bdb_repair.specs.of_model.declared.shape.Shape.{Shape}
use Rattle.bdb_repair.specs.Apart.{AreBuilt, IsRepairedApart, apart_sections}
use Rattle.bdb_repair.specs.Parts.{repair_sections}
use Rattle.bdb_repair.specs.Repairs.{IsRepaired}
use Rattle.bdb_repair.specs.of_rescue.Guesses.{chosen, is_queue_or_master, unsupported_case}
use Rattle.bdb_repair.specs.of_survey.declared.guess.Guess.{Guess}
use Rattle.bdb_tool.specs.Outputs.{AreBuiltBy, IsApartAnswer, IsImageBy, IsRepairAnswer, IsRepairBy, IsRepairUnless}
use Rattle.bdb_tool.specs.Outputs.{IsUnlessUnsupported, no_metadata, not_one, shape_refusal}
use Rattle.bdb_tool_ask.specs.of_tool_lines.Finished.{Finishes, HasOwnStatus, Tells}
use Rattle.bdb_tool.specs.Parts.{Answered, Ends, IsBuiltTold, IsRepairBuilt, TellsWhy, Unanswered, refusal_by, refused_answer, repair_refusal}
use Rattle.bdb_tool_ask.proofs.of_tool_lines.FinishLemmas.{low_own, told_finishes}
use Rattle.bdb_tool_build.specs.Lines.{image_too_large_line}
use Rattle.bdb_tool.specs.declared.repairing.RepairRefusal.{RepairRefusal}
use Rattle.bdb_tool.specs.declared.repairing.RepairRefusal.TheVariants.{Case, NotOne}
use Rattle.bdb_tool_words.specs.declared.command.Built.{Built}
use Rattle.bdb_tool_words.specs.declared.command.Built.TheVariants.{Each, Shaped}

-- What is built is an answer.

-- the answer to a result is allowed; memory may have run out
abbrev pub Allows : (Answer → Type 0) → ℕ → Result (List ℕ) RepairError → Type 0
Allows allowed limit (Ok built) = allowed (done built)
Allows allowed limit (Err NoMeta) = allowed no_metadata
Allows allowed limit (Err TooLarge) = allowed (told 6 (image_too_large_line limit))
Allows allowed limit (Err Memory) = ⊤

shaped_allowed : (limit : ℕ) (shape : Option Shape) (found : Option Guess) (image : List ℕ) (result : Result (List ℕ) RepairError)
    → IsRepaired limit shape found image result → IfOk result (λ built. HasBuiltTables built) → Allows (IsRepairBy limit shape found image) limit result
shaped_allowed limit shape None image (Ok built) is tables = absurd is
shaped_allowed limit shape None image (Err NoMeta) is tables = refl
shaped_allowed limit shape None image (Err TooLarge) is tables = absurd is
shaped_allowed limit shape None image (Err Memory) is tables = absurd is
shaped_allowed limit shape (Some guess) image (Ok built) is tables =
    subst (λ large. IsImageBy large limit (repair_sections shape guess image) (done built)) (sym is.1)
    (record { image = built; built = is.0; tables = tables; answer_is = refl })
shaped_allowed limit shape (Some guess) image (Err NoMeta) is tables = absurd is
shaped_allowed limit shape (Some guess) image (Err TooLarge) is tables =
    subst (λ large. IsImageBy large limit (repair_sections shape guess image) (told 6 (image_too_large_line limit))) (sym is) refl
shaped_allowed limit shape (Some guess) image (Err Memory) is tables = tt

sections_allowed : (limit : ℕ) (sections : List Section) (result : Result (List ℕ) RepairError) → AreBuilt limit sections result
    → IfOk result (λ built. HasBuiltTables built) → Allows (AreBuiltBy limit sections) limit result
sections_allowed limit [] (Ok built) is tables = absurd is
sections_allowed limit [] (Err NoMeta) is tables = refl
sections_allowed limit [] (Err TooLarge) is tables = absurd is
sections_allowed limit [] (Err Memory) is tables = tt
sections_allowed limit (first ∷ others) (Ok built) is tables =
    subst (λ large. IsImageBy large limit (first ∷ others) (done built)) (sym is.1) (record { image = built; built = is.0; tables = tables; answer_is = refl })
sections_allowed limit (first ∷ others) (Err NoMeta) is tables = absurd is
sections_allowed limit (first ∷ others) (Err TooLarge) is tables =
    subst (λ large. IsImageBy large limit (first ∷ others) (told 6 (image_too_large_line limit))) (sym is) refl
sections_allowed limit (first ∷ others) (Err Memory) is tables = tt

apart_allowed : (limit : ℕ) (found : Option Guess) (image : List ℕ) (result : Result (List ℕ) RepairError) → IsRepairedApart limit found image result
    → IfOk result (λ built. HasBuiltTables built) → Allows (IsApartAnswer limit found image) limit result
apart_allowed limit None image (Ok built) is tables = absurd is
apart_allowed limit None image (Err NoMeta) is tables = refl
apart_allowed limit None image (Err TooLarge) is tables = absurd is
apart_allowed limit None image (Err Memory) is tables = tt
apart_allowed limit (Some guess) image (Ok built) is tables = sections_allowed limit (apart_sections guess image) (Ok built) is tables
apart_allowed limit (Some guess) image (Err NoMeta) is tables = sections_allowed limit (apart_sections guess image) (Err NoMeta) is tables
apart_allowed limit (Some guess) image (Err TooLarge) is tables = sections_allowed limit (apart_sections guess image) (Err TooLarge) is tables
apart_allowed limit (Some guess) image (Err Memory) is tables = tt

-- The answer is written, or told.

built_ends : (allowed : Answer → Type 0) (limit : ℕ) (result : Result (List ℕ) RepairError) (out err : Change) (status : ℕ) → Allows allowed limit result
    → IsBuiltTold limit result out err status → Ends allowed out err status
built_ends allowed limit (Ok built) out err status is finishes = Answered (done built) is finishes
built_ends allowed limit (Err NoMeta) out err status is finishes = Answered no_metadata is finishes
built_ends allowed limit (Err TooLarge) out err status is (inl finishes) = Answered (told 6 (image_too_large_line limit)) is finishes
built_ends allowed limit (Err TooLarge) out err status is (inr memory) = Unanswered memory.0 memory.1
built_ends allowed limit (Err Memory) out err status is memory = Unanswered memory.0 memory.1

-- what was told of a result was told of the same
pub told_as : (limit : ℕ) (result other : Result (List ℕ) RepairError) (out err : Change) (status : ℕ) → result ≡ other
    → IsBuiltTold limit other out err status → IsBuiltTold limit result out err status
told_as limit result other out err status is told_so = subst (λ r. IsBuiltTold limit r out err status) (sym is) told_so

-- that an image would be too large was told
large_told : (limit : ℕ) (written : Option (List ℕ)) (faults : ℕ) (err : Change) (status : ℕ)
    → (Tells (image_too_large_line limit) 6 err status ⊎ Tells memory_line 7 err status)
    → IsBuiltTold limit (Err TooLarge) (moved written written faults faults) err status
large_told limit written faults err status (inl tells) =
    inl (told_finishes 6 (image_too_large_line limit) written faults err status (λ five. omega arith) (λ seven. omega arith) tells)
large_told limit written faults err status (inr tells) = inr (keeps_itself written, tells)

no_meta_told : (limit : ℕ) (written : Option (List ℕ)) (faults : ℕ) (err : Change) (status : ℕ) → Tells no_metadata.err 10 err status
    → IsBuiltTold limit (Err NoMeta) (moved written written faults faults) err status
no_meta_told limit written faults err status tells =
    told_finishes 10 no_metadata.err written faults err status (λ five. omega arith) (λ seven. omega arith) tells

memory_told : (limit : ℕ) (written : Option (List ℕ)) (faults : ℕ) (err : Change) (status : ℕ) → Tells memory_line 7 err status
    → IsBuiltTold limit (Err Memory) (moved written written faults faults) err status
memory_told limit written faults err status tells = (keeps_itself written, tells)

-- why nothing was built was told
pub why_as : (limit : ℕ) (error other : RepairError) (err : Change) (status : ℕ) → error ≡ other → TellsWhy limit other err status
    → TellsWhy limit error err status
why_as limit error other err status is tells = subst (λ e. TellsWhy limit e err status) (sym is) tells

pub why_told : (limit : ℕ) (error : RepairError) (written : Option (List ℕ)) (faults : ℕ) (err : Change) (status : ℕ) → TellsWhy limit error err status
    → IsBuiltTold limit (Err error) (moved written written faults faults) err status
why_told limit NoMeta written faults err status tells = no_meta_told limit written faults err status tells
why_told limit TooLarge written faults err status tells = large_told limit written faults err status tells
why_told limit Memory written faults err status tells = memory_told limit written faults err status tells

-- what is built within a number of bytes that is the limit, by what the new file has
pub built_as : (limit max : ℕ) (built asked : Built) (guess : Option Guess) (image : List ℕ) (result : Result (List ℕ) RepairError) → max ≡ limit
    → asked ≡ built → IsRepairBuilt max built guess image result → IsRepairBuilt limit asked guess image result
built_as limit max built asked guess image result same is repaired =
    subst (λ n. IsRepairBuilt n asked guess image result) same (subst (λ (b : Built). IsRepairBuilt max b guess image result) (sym is) repaired)

-- The refusal, or else what is built, is an answer.

each_refused : (refusal : RepairRefusal) (left : Option Unsupported) (other : Bool) (limit : ℕ) (found : Option Guess) (image : List ℕ)
    → refusal_by false left other ≡ Some refusal → IsUnlessUnsupported left limit found image (refused_answer refusal)
each_refused refusal (Some name) other limit found image is = ap refused_answer (sym (one_answer _ _ is))
each_refused refusal None other limit found image is = absurd (let no : None ≡ Some refusal = is in cc)

shape_refused : (refusal : RepairRefusal) (left : Option Unsupported) (other : Bool) (limit : ℕ) (shape : Option Shape) (given : Option Guess) (image : List ℕ)
    → refusal_by true left other ≡ Some refusal → IsRepairUnless (not_one left other) limit shape given image (refused_answer refusal)
shape_refused refusal (Some name) other limit shape given image is = ap refused_answer (sym (one_answer _ _ is))
shape_refused refusal None true limit shape given image is = ap refused_answer (sym (one_answer _ _ is))
shape_refused refusal None false limit shape given image is = absurd (let no : None ≡ Some refusal = is in cc)

refused : (limit : ℕ) (refusal : RepairRefusal) (built : Built) (given : Option Guess) (image : List ℕ) → repair_refusal built given image ≡ Some refusal
    → IsRepairAnswer limit built given image (refused_answer refusal)
refused limit refusal Each given image is =
    each_refused refusal (unsupported_case given image) (is_queue_or_master given image) limit (chosen given image) image is
refused limit refusal (Shaped None) given image is = absurd (let no : None ≡ Some refusal = is in cc)
refused limit refusal (Shaped (Some shape)) given image is =
    shape_refused refusal (unsupported_case given image) (is_queue_or_master given image) limit (Some shape) given image is

refused_finishes : (refusal : RepairRefusal) (written : Option (List ℕ)) (faults : ℕ) (err : Change) (status : ℕ)
    → Tells (refused_answer refusal).err (refused_answer refusal).status err status
    → Finishes (refused_answer refusal) (moved written written faults faults) err status
refused_finishes (Case name) written faults err status tells =
    told_finishes 3 (unsupported_line name 0) written faults err status (λ five. omega arith) (λ seven. omega arith) tells
refused_finishes NotOne written faults err status tells =
    told_finishes 14 (line (codes "not one btree, hash or recno")) written faults err status (λ five. omega arith) (λ seven. omega arith) tells

pub unrepaired_ends : (limit : ℕ) (refusal : RepairRefusal) (built : Built) (given : Option Guess) (image : List ℕ) (written : Option (List ℕ)) (faults : ℕ)
    (err : Change) (status : ℕ) → repair_refusal built given image ≡ Some refusal
    → (Tells (refused_answer refusal).err (refused_answer refusal).status err status ⊎ Tells memory_line 7 err status)
    → Ends (IsRepairAnswer limit built given image) (moved written written faults faults) err status
unrepaired_ends limit refusal built given image written faults err status is (inl tells) =
    Answered (refused_answer refusal) (refused limit refusal built given image is) (refused_finishes refusal written faults err status tells)
unrepaired_ends limit refusal built given image written faults err status is (inr tells) = Unanswered (keeps_itself written) tells

each_allowed : (left : Option Unsupported) (other : Bool) (limit : ℕ) (found : Option Guess) (image : List ℕ) (result : Result (List ℕ) RepairError)
    → refusal_by false left other ≡ None → Allows (IsApartAnswer limit found image) limit result → Allows (IsUnlessUnsupported left limit found image) limit result
each_allowed None other limit found image result none allowed = allowed
each_allowed (Some name) other limit found image result none allowed = absurd (let no : Some (Case name) ≡ None = none in cc)

one_allowed : (left : Option Unsupported) (other : Bool) (limit : ℕ) (shape : Option Shape) (given : Option Guess) (image : List ℕ)
    (result : Result (List ℕ) RepairError) → refusal_by true left other ≡ None → Allows (IsRepairBy limit shape (chosen given image) image) limit result
    → Allows (IsRepairUnless (not_one left other) limit shape given image) limit result
one_allowed None false limit shape given image result none allowed = allowed
one_allowed None true limit shape given image result none allowed = absurd (let no : Some NotOne ≡ None = none in cc)
one_allowed (Some name) other limit shape given image result none allowed = absurd (let no : Some (Case name) ≡ None = none in cc)

repaired_allowed : (limit : ℕ) (built : Built) (given : Option Guess) (image : List ℕ) (result : Result (List ℕ) RepairError)
    → repair_refusal built given image ≡ None → IsRepairBuilt limit built (chosen given image) image result → IfOk result (λ built. HasBuiltTables built)
    → Allows (IsRepairAnswer limit built given image) limit result
repaired_allowed limit Each given image result none is tables =
    each_allowed (unsupported_case given image) (is_queue_or_master given image) limit (chosen given image) image result none
    (apart_allowed limit (chosen given image) image result is tables)
repaired_allowed limit (Shaped None) given image result none is tables = shaped_allowed limit None (chosen given image) image result is tables
repaired_allowed limit (Shaped (Some shape)) given image result none is tables =
    one_allowed (unsupported_case given image) (is_queue_or_master given image) limit (Some shape) given image result none
    (shaped_allowed limit (Some shape) (chosen given image) image result is tables)

pub repaired_ends : (limit : ℕ) (built : Built) (given : Option Guess) (image : List ℕ) (result : Result (List ℕ) RepairError) (out err : Change) (status : ℕ)
    → repair_refusal built given image ≡ None → IsRepairBuilt limit built (chosen given image) image result → IfOk result (λ built. HasBuiltTables built)
    → IsBuiltTold limit result out err status → Ends (IsRepairAnswer limit built given image) out err status
repaired_ends limit built given image result out err status none is tables told_so =
    built_ends (IsRepairAnswer limit built given image) limit result out err status (repaired_allowed limit built given image result none is tables) told_so

-- The status of an answer is one of its own.

image_own : (large : Bool) (limit : ℕ) (sections : List Section) (answer : Answer) → IsImageBy large limit sections answer → HasOwnStatus answer
image_own true limit sections answer is =
    rw is (record { no_read_fault = λ four. omega arith; no_write_fault = λ five. omega arith; no_memory = λ seven. omega arith })
image_own false limit sections answer is =
    rw is.answer_is (record { no_read_fault = λ four. omega arith; no_write_fault = λ five. omega arith; no_memory = λ seven. omega arith })

no_metadata_own : (answer : Answer) → answer ≡ no_metadata → HasOwnStatus answer
no_metadata_own answer is =
    rw is (record { no_read_fault = λ four. omega arith; no_write_fault = λ five. omega arith; no_memory = λ seven. omega arith })

own_by : (limit : ℕ) (shape : Option Shape) (found : Option Guess) (image : List ℕ) (answer : Answer) → IsRepairBy limit shape found image answer
    → HasOwnStatus answer
own_by limit shape None image answer is = no_metadata_own answer is
own_by limit shape (Some guess) image answer is =
    image_own (nat_lt limit (image_size (repair_sections shape guess image))) limit (repair_sections shape guess image) answer is

sections_own : (limit : ℕ) (sections : List Section) (answer : Answer) → AreBuiltBy limit sections answer → HasOwnStatus answer
sections_own limit [] answer is = no_metadata_own answer is
sections_own limit (first ∷ others) answer is = image_own (nat_lt limit (image_size (first ∷ others))) limit (first ∷ others) answer is

apart_own : (limit : ℕ) (found : Option Guess) (image : List ℕ) (answer : Answer) → IsApartAnswer limit found image answer → HasOwnStatus answer
apart_own limit None image answer is = no_metadata_own answer is
apart_own limit (Some guess) image answer is = sections_own limit (apart_sections guess image) answer is

unless_own : (left : Option Unsupported) (limit : ℕ) (found : Option Guess) (image : List ℕ) (answer : Answer) → IsUnlessUnsupported left limit found image answer
    → HasOwnStatus answer
unless_own None limit found image answer is = apart_own limit found image answer is
unless_own (Some name) limit found image answer is = rw is (low_own (told 3 (unsupported_line name 0)) (omega arith))

refusal_own : (name : Option Unsupported) (other : Bool) (refusal : Answer) → not_one name other ≡ Some refusal → HasOwnStatus refusal
refusal_own (Some name) other refusal is =
    rw (sym (one_answer _ _ is)) (record { no_read_fault = λ four. omega arith; no_write_fault = λ five. omega arith; no_memory = λ seven. omega arith })
refusal_own None true refusal is =
    rw (sym (one_answer _ _ is)) (record { no_read_fault = λ four. omega arith; no_write_fault = λ five. omega arith; no_memory = λ seven. omega arith })
refusal_own None false refusal is = absurd (let no : None ≡ Some refusal = is in cc)

shape_own : (shape : Option Shape) (given : Option Guess) (image : List ℕ) (refusal : Answer) → shape_refusal shape given image ≡ Some refusal
    → HasOwnStatus refusal
shape_own None given image refusal is = absurd (let no : None ≡ Some refusal = is in cc)
shape_own (Some shape) given image refusal is = refusal_own (unsupported_case given image) (is_queue_or_master given image) refusal is

shaped_unless_own : (refusal : Option Answer) (limit : ℕ) (shape : Option Shape) (given : Option Guess) (image : List ℕ) (answer : Answer)
    → shape_refusal shape given image ≡ refusal → IsRepairUnless refusal limit shape given image answer → HasOwnStatus answer
shaped_unless_own (Some refusal) limit shape given image answer same is = rw is (shape_own shape given image refusal same)
shaped_unless_own None limit shape given image answer same is = own_by limit shape (chosen given image) image answer is

pub repair_own : (limit : ℕ) (built : Built) (given : Option Guess) (image : List ℕ) (answer : Answer) → IsRepairAnswer limit built given image answer
    → HasOwnStatus answer
repair_own limit Each given image answer is = unless_own (unsupported_case given image) limit (chosen given image) image answer is
repair_own limit (Shaped shape) given image answer is =
    shaped_unless_own (shape_refusal shape given image) limit shape given image answer refl is
