-- Rows that follow one another, and the answer of a table with a value.
use Rattle.bdb_layout.proofs.of_format.PageLemmas.{answer_value}
use Rattle.std.proofs.Common.{◌≡◌, ℕ, List, [], ◌∷◌, ◌++◌, ◌∙◌, ◌<◌, ◌≤◌, length, refl, arith, append_assoc, None, Ok, Err}
use Rattle.bdb_layout.specs.of_format.declared.metadata.MetaFault.{MetaFault}
use Rattle.bdb_layout.specs.of_format.declared.kinds.Order.{Order}
use Rattle.bdb_layout.specs.of_format.declared.metadata.FileKind.{FileKind}
use Rattle.bdb_layout.specs.of_format.Terms.{Row, answer, coded, faulted, first_row, head_rows, kind_rows, metadata_rows}
use Rattle.bdb_meta.specs.RowGroups.{common_rows, left_out, length_rows, page_rows, version_rows}

-- rows that hold nowhere are passed
pub answer-passed : {T : Type 0} → (xs ys : List (Row ℕ)) (value : T) → answer {T = Unit {0}} xs tt ≡ Ok tt → answer (xs ++ ys) value ≡ answer ys value
answer-passed [] ys value h = refl
answer-passed (row ∷ xs) ys value h = grind (arith, answer-passed xs ys value)

-- the first row that holds answers, whatever follows
pub answer-first : {T : Type 0} → (xs ys : List (Row ℕ)) (value : T) (code : ℕ) → answer {T = Unit {0}} xs tt ≡ Err code → answer (xs ++ ys) value ≡ Err code
answer-first [] ys value code h = cc
answer-first (row ∷ xs) ys value code h = grind (arith, answer-first xs ys value code)

-- the value where no row holds
pub answer-value : {T : Type 0} → (xs : List (Row ℕ)) (value : T) → answer {T = Unit {0}} xs tt ≡ Ok tt → answer xs value ≡ Ok value
answer-value [] value h = refl
answer-value (row ∷ xs) value h = grind (arith, answer-value xs value)

-- a row that holds, whatever the value
pub answer-code : {T : Type 0} → (xs : List (Row ℕ)) (value : T) (code : ℕ) → answer {T = Unit {0}} xs tt ≡ Err code → answer xs value ≡ Err code
answer-code [] value code h = cc
answer-code (row ∷ xs) value code h = grind (arith, answer-code xs value code)

-- the rows of page 0, group by group, where it is long enough
head_rows-groups : {T : Type 0} → (image : List ℕ) (value : T) → 512 ≤ length image → answer (head_rows image) value
    ≡ answer (version_rows image ++ (page_rows image ++ length_rows image)) value
unfolding head_rows
head_rows-groups image value h = grind arith

pub head_rows-version : {T : Type 0} → (image : List ℕ) (value : T) (code : ℕ) → 512 ≤ length image
    → answer {T = Unit {0}} (version_rows image) tt ≡ Err code → answer (head_rows image) value ≡ Err code
head_rows-version image value code long version =
    head_rows-groups image value long ∙ answer-first (version_rows image) (page_rows image ++ length_rows image) value code version

pub head_rows-pages : {T : Type 0} → (image : List ℕ) (value : T) (code : ℕ) → 512 ≤ length image
    → answer {T = Unit {0}} (version_rows image) tt ≡ Ok tt → answer {T = Unit {0}} (page_rows image) tt ≡ Err code → answer (head_rows image) value ≡ Err code
head_rows-pages image value code long version pages =
    head_rows-groups image value long
    ∙ (answer-passed (version_rows image) (page_rows image ++ length_rows image) value version
    ∙ answer-first (page_rows image) (length_rows image) value code pages)

pub head_rows-length : {T : Type 0} → (image : List ℕ) (value : T) → 512 ≤ length image
    → answer {T = Unit {0}} (version_rows image) tt ≡ Ok tt → answer {T = Unit {0}} (page_rows image) tt ≡ Ok tt
    → answer (head_rows image) value ≡ answer (length_rows image) value
head_rows-length image value long version pages =
    head_rows-groups image value long
    ∙ (answer-passed (version_rows image) (page_rows image ++ length_rows image) value version
    ∙ answer-passed (page_rows image) (length_rows image) value pages)

pub head_rows-short : {T : Type 0} → (image : List ℕ) (value : T) → length image < 512 → answer (head_rows image) value ≡ Err 1
unfolding head_rows
head_rows-short image value h = grind arith

pub faulted-none : {T : Type 0} → (fault : ℕ → MetaFault) (xs : List (Row ℕ)) (value : T) → first_row xs ≡ None → faulted fault (answer xs value) ≡ Ok value
faulted-none fault xs value h = rw (answer_value xs value h)

-- an image that is too short
pub ruleset short_head = (head_rows-short)

-- the rows of metadata: those of any, then those of its kind
metadata-groups : {T : Type 0} → (order : Order) (page : List ℕ) (number last : ℕ) (kind : FileKind) (value : T)
    → answer (metadata_rows order page number last kind) value ≡ answer (common_rows order page number kind ++ kind_rows order page number last kind) value
unfolding metadata_rows
metadata-groups order page number last kind value = grind (arith, append_assoc)

-- a row of any metadata answers, whatever its kind
pub metadata-common : {T : Type 0} → (order : Order) (page : List ℕ) (number last : ℕ) (kind : FileKind) (value : T) (code : ℕ)
    → answer {T = Unit {0}} (common_rows order page number kind) tt ≡ Err code → answer (metadata_rows order page number last kind) value ≡ Err code
metadata-common order page number last kind value code common =
    metadata-groups order page number last kind value
    ∙ answer-first (common_rows order page number kind) (kind_rows order page number last kind) value code common

pub metadata-kind : {T : Type 0} → (order : Order) (page : List ℕ) (number last : ℕ) (kind : FileKind) (value : T)
    → answer {T = Unit {0}} (common_rows order page number kind) tt ≡ Ok tt
    → answer (metadata_rows order page number last kind) value ≡ answer (kind_rows order page number last kind) value
metadata-kind order page number last kind value common = grind (arith, metadata-groups, answer-passed)

-- what isn't read, by the codes of its rows
pub coded_left_out : {R : Type 0} (code : R → ℕ) (a b c : R) (order : Order) (page : List ℕ)
    → coded code (answer {T = Unit {0}} (left_out a b c order page) tt)
    ≡ answer {T = Unit {0}} (left_out (code a) (code b) (code c) order page) tt
coded_left_out code a b c order page = grind arith
