-- The faults of each stage ascend by page and code.
use Rattle.std.proofs.Common.{◌≡◌, ℕ, zero, suc, ◌+◌, ◌-◌, ◌<◌, ◌≤◌, Bool, true, false, cond, List, [], ◌∷◌, ◌++◌, map, arith, refl, sym, ◌∙◌, ap, subst, inl}
use Rattle.std.proofs.Common.{inr, ◌==◌, if◌then◌else◌, Option, Some, None, option_to_list}
use Rattle.std.specs.List.{Contains, range_with_len}
use Rattle.std.proofs.lemmas.List.Elements.{Contains-append_cases}
use Rattle.bdb_format.specs.Terms.{BtreeFields, File, HashFields, Metadata, QueueFields, Row, btree_contents, by_page, chain_faults, chain_rows}
use Rattle.bdb_format.specs.Terms.{contents_faults, contents_rows, database_faults, database_rows, faults_in, file_of, first_row, form_code, form_faults}
use Rattle.bdb_format.specs.Terms.{head_faults, head_of, head_rows, holds_somewhere, is_recno, master_faults, master_rows, or_else, ownership_faults}
use Rattle.bdb_format.specs.Terms.{ownership_rows, page_bytes, reach_faults, reach_rows, recno_contents, reference_faults, reference_rows, stage_faults}
use Rattle.bdb_format.specs.Terms.{structure_faults, structure_rows, tail_faults, tail_rows, tree_faults, tree_rows, ◌:?◌}
use Rattle.bdb_format.specs.declared.kinds.Fault.{Fault}
use Rattle.bdb_format.specs.declared.metadata.Head.{Head}
use Rattle.bdb_format.specs.Verdict.{holding}
use Rattle.bdb_format.proofs.MemberLemmas.{first_member, later_member, member_cases, no_member, of_map}
use Rattle.bdb_format.proofs.VerdictLemmas.{IsOfStage, of_by_page}
use Rattle.bdb_faults.specs.Notes.{Ascends, ComesBefore}

abbrev named : ℕ → ℕ → ℕ → Fault
named stage page code = record { stage = stage; page = page; code = code }

-- Codes that rise.

-- each is below all later ones
abbrev pub CodesRise : List ℕ → Type 0
CodesRise [] = Unit {0}
CodesRise (code ∷ codes) = ((later : ℕ) → Contains codes later → code < later) × CodesRise codes

pub one_rises : (code : Option ℕ) → CodesRise (option_to_list code)
one_rises None = tt
one_rises (Some code) = (λ later at. absurd (no_member [] later refl at), tt)

-- the codes of a table rise, each above the one before it
abbrev pub RowsRise : ℕ → List (Row ℕ) → Type 0
RowsRise n [] = Unit {0}
RowsRise n (row ∷ rows) = (n < row.code) × RowsRise row.code rows

record RiseFrom (n : ℕ) (codes : List ℕ) : Type 0 where
  above : (code : ℕ) → Contains codes code → n < code
  rise : CodesRise codes

rise_step : (n code : ℕ) (rest : List ℕ) (holds : Bool) → n < code → RiseFrom code rest → RiseFrom n (cond holds (code ∷ rest) rest)
rise_step n code rest true low rises = record {
  above = λ later at. elim (member_cases code rest later at) [ inl here ↦ omega arith | inr there ↦ omega (arith, rises.above later there) ];
  rise = (rises.above, rises.rise);
}
rise_step n code rest false low rises = record { above = λ later at. omega (arith, rises.above later at); rise = rises.rise }

rise_from : (n : ℕ) (rows : List (Row ℕ)) → RowsRise n rows → RiseFrom n (holding rows)
rise_from n [] rises = record { above = λ later at. absurd (no_member [] later refl at); rise = tt }
rise_from n (row ∷ rows) rises = rise_step n row.code (holding rows) row.holds rises.0 (rise_from row.code rows rises.1)

pub rows_rise : (n : ℕ) (rows : List (Row ℕ)) → RowsRise n rows → CodesRise (holding rows)
rows_rise n rows rises = (rise_from n rows rises).rise

-- Page by page.

append_ascends : (xs ys : List Fault) → Ascends xs → Ascends ys → ((x y : Fault) → Contains xs x → Contains ys y → ComesBefore x y) → Ascends (xs ++ ys)
append_ascends [] ys up_x up_y before = up_y
append_ascends (x ∷ xs) ys up_x up_y before = (
  λ other at. elim (Contains-append_cases xs ys other at) [
    | inl here ↦ up_x.0 other here
    | inr there ↦ before x other (first_member x xs) there
  ],
  append_ascends xs ys up_x.1 up_y (λ y z at_y at_z. before y z (later_member x xs y at_y) at_z),
)

-- the faults of one page
page_ascends : (stage page : ℕ) (codes : List ℕ) → CodesRise codes → Ascends (map (named stage page) codes)
page_ascends stage page [] rise = tt
page_ascends stage page (code ∷ codes) rise = (
  λ other at.
      let later = of_map (named stage page) codes other at in subst (ComesBefore (named stage page code)) later.2 (inr (refl, rise.0 later.0 later.1)),
  page_ascends stage page codes rise.1,
)

-- the faults of pages, each with codes that rise
pub by_page_ascends : (stage from n : ℕ) (codes : ℕ → List ℕ) → ((page : ℕ) → CodesRise (codes page)) → Ascends (by_page stage from n codes)
by_page_ascends stage from zero codes rise = tt
by_page_ascends stage from (suc n) codes rise =
    let here : List Fault = map (named stage from) (codes from) in
    let later : List Fault = by_page stage (from + 1) n codes in
    append_ascends here later (page_ascends stage from (codes from) (rise from)) (by_page_ascends stage (from + 1) n codes rise)
    (λ x y at_x at_y.
    let code = of_map (named stage from) (codes from) x at_x in
    let of : IsOfStage stage (from + 1) (from + 1 + n) codes y = of_by_page stage (from + 1) n codes y at_y in
    let page_x : x.page ≡ from = ap (λ (f : Fault). f.page) (sym code.2) in
    inl (omega (arith, of.from_low, page_x)))

-- those of a table whose codes rise
pub table_ascends : (stage from n : ℕ) (rows : ℕ → List (Row ℕ)) → ((page : ℕ) → RowsRise 0 (rows page))
    → Ascends (by_page stage from n (λ p. holding (rows p)))
table_ascends stage from n rows rise = by_page_ascends stage from n (λ p. holding (rows p)) (λ p. rows_rise 0 (rows p) (rise p))

-- The stages.

or_else_up : (faults others : List Fault) → Ascends faults → Ascends others → Ascends (or_else faults (λ _. others))
or_else_up [] others p q = q
or_else_up (fault ∷ faults) others p q = p

numbered_rise : (from n low : ℕ) (test : ℕ → Bool) → low < from → RowsRise low (map (λ code. code :? test code) (range_with_len from n))
numbered_rise from zero low test below = tt
numbered_rise from (suc n) low test below = (below, numbered_rise (from + 1) n from test (omega arith))

-- page 0 has at most one fault in stage 1
head_up : (image : List ℕ) → Ascends (head_faults image)
unfolding head_faults
head_up image = by_page_ascends 1 0 1 (λ p. option_to_list (first_row (head_rows image))) (λ p. one_rises (first_row (head_rows image)))

tail_up : (image : List ℕ) → Ascends (tail_faults image)
unfolding tail_faults
tail_up image =
    let head : Head = head_of image in
    table_ascends 1 (head.last + 1) (head.pages - (head.last + 1)) (tail_rows head image) (λ p. (omega arith, tt))

form_up : (image : List ℕ) → Ascends (form_faults image)
unfolding form_faults
form_up image =
    let head : Head = head_of image in
    by_page_ascends 2 0 (head.last + 1) (λ p. option_to_list (form_code head p (page_bytes head image p)))
    (λ p. one_rises (form_code head p (page_bytes head image p)))

chosen : (image : List ℕ) (stage k : ℕ) (here others : List ℕ → List Fault) → Ascends (here image) → Ascends (others image)
    → Ascends ((if stage == k then here else others) image)
chosen image stage k here others at_k at_others =
    elim (stage == k) as (λ b. Ascends (cond b here others image)) [ true ↦ at_k | false ↦ at_others ]

-- the faults of each stage ascend
pub stage_ascends : (image : List ℕ) (stage : ℕ) → Ascends (stage_faults image stage)
unfolding reference_faults ownership_faults reach_faults structure_faults master_faults contents_faults
stage_ascends image stage =
    let file : File = file_of image in
    chosen image stage 1 _ _ (or_else_up (head_faults image) (tail_faults image) (head_up image) (tail_up image))
    (chosen image stage 2 _ _ (form_up image)
    (chosen image stage 3 _ _
    (table_ascends 3 0 (file.last + 1) (reference_rows file) (λ p. (omega arith, (omega arith, (omega arith, (omega arith, tt))))))
    (chosen image stage 4 _ _ (table_ascends 4 1 file.last (ownership_rows file) (λ p. (omega arith, (omega arith, tt))))
    (chosen image stage 5 _ _ (table_ascends 5 1 file.last (reach_rows file) (λ p. (omega arith, tt)))
    (chosen image stage 6 _ _
    (table_ascends 6 0 (file.last + 1) (structure_rows file) (λ p. (omega arith, (omega arith, (omega arith, tt)))))
    (chosen image stage 7 _ _
    (table_ascends 7 0 (file.last + 1) (master_rows file)
    (λ p. (omega arith, (omega arith, (omega arith, (omega arith, (omega arith, tt)))))))
    (chosen image stage 8 _ _
    (table_ascends 8 0 (file.last + 1) (contents_rows file) (λ p. numbered_rise 1 9 0 (holds_somewhere file p) (omega arith)))
    tt)))))))

-- and so do those of the first of some stages that has any
pub faults_ascend : (image stages : List ℕ) → Ascends (faults_in stages image)
unfolding faults_in
faults_ascend image [] = tt
faults_ascend image (stage ∷ stages) =
    or_else_up (stage_faults image stage) (faults_in stages image) (stage_ascends image stage) (faults_ascend image stages)

-- those of chains and of leaves
pub chains_ascend : (file : File) → Ascends (chain_faults file)
unfolding chain_faults
chains_ascend file = table_ascends 6 0 (file.last + 1) (chain_rows file) (λ p. (omega arith, tt))

pub leaves_ascend : (file : File) → Ascends (tree_faults file)
unfolding tree_faults
leaves_ascend file = table_ascends 6 0 (file.last + 1) (tree_rows file) (λ p. (omega arith, (omega arith, tt)))

-- and of a database
database_rise : (file : File) (fields : Metadata) (p : ℕ) → RowsRise 0 (database_rows file fields p)
database_rise file (BtreeFields meta) p =
    elim (is_recno meta) as (λ b. RowsRise 0 (cond b (recno_contents file meta p) (btree_contents file meta p))) [
      | true ↦ (omega arith, (omega arith, tt))
      | false ↦ (omega arith, (omega arith, (omega arith, (omega arith, (omega arith, (omega arith, tt))))))
    ]
database_rise file (HashFields meta) p = (omega arith, (omega arith, (omega arith, (omega arith, (omega arith, tt)))))
database_rise file (QueueFields meta) p = tt

pub database_ascends : (file : File) (fields : Metadata) → Ascends (database_faults file fields)
unfolding database_faults
database_ascends file fields = table_ascends 8 0 (file.last + 1) (database_rows file fields) (database_rise file fields)
