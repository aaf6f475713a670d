-- Laws of the faults of a file, stage by stage.
use Rattle.std.proofs.Common.{◌≡◌, ◌⊎◌, ℕ, zero, suc, ◌+◌, ◌-◌, ◌<◌, ◌≤◌, Bool, true, false, cond, List, [], ◌∷◌, ◌++◌, map, Option, Some, None, arith, refl}
use Rattle.std.proofs.Common.{sym, ◌∙◌, ap, subst, inl, inr, ◌==◌, if◌then◌else◌, option_to_list}
use Rattle.std.specs.List.{Contains, range_with_len}
use Rattle.std.proofs.lemmas.Bool.{cases_order, eqb-true}
use Rattle.std.proofs.lemmas.List.Elements.{Contains-append_cases}
use borrow.Author.Count.{below_none, below_more}
use Rattle.bdb_format.specs.Terms.{ComesFirst, File, FirstIsLeast, Holds, Row, SoundWhereNoRowHolds, by_page, contents_faults}
use Rattle.bdb_format.specs.Terms.{contents_rows, faults_by, faults_in, faults_of, file_faults, file_of, first_fault, first_row, form_code, form_faults}
use Rattle.bdb_format.specs.Terms.{head_faults, head_of, head_rows, holds_somewhere, master_faults, master_rows, or_else, ownership_faults}
use Rattle.bdb_format.specs.Terms.{ownership_rows, page_bytes, reach_faults, reach_rows, reference_faults, reference_rows, stage_faults, structure_faults}
use Rattle.bdb_format.specs.Terms.{structure_rows, tail_faults, tail_rows, within_file, ◌:?◌}
use Rattle.bdb_format.specs.declared.kinds.Fault.{Fault}
use Rattle.bdb_format.specs.Verdict.{holding}
use Rattle.bdb_format.specs.declared.metadata.Head.{Head}
use Rattle.bdb_format.proofs.ListLemmas.{only_member}
use Rattle.bdb_format.proofs.MemberLemmas.{first_member, member_cases, no_member, is_empty, first_of_parts, of_map, in_map, of_flat_map, in_flat_map, of_range}
use Rattle.bdb_format.proofs.MemberLemmas.{in_range}

abbrev named : ℕ → ℕ → ℕ → Fault
named stage page code = record { stage = stage; page = page; code = code }

-- The codes of one page.

-- no code is less than the first one
abbrev pub LeastFirst : List ℕ → Type 0
LeastFirst codes = (c : ℕ) (cs : List ℕ) (x : ℕ) → codes ≡ c ∷ cs → Contains codes x → c ≤ x

pub one_code_least : (code : Option ℕ) → LeastFirst (option_to_list code)
one_code_least None c cs x same at = absurd cc
one_code_least (Some code) c cs x same at = grind (arith, only_member code x at)

-- the codes of a table rise, from one on
abbrev pub Rises : ℕ → List (Row ℕ) → Type 0
Rises n [] = Unit {0}
Rises n (row ∷ rows) = (n ≤ row.code) × Rises row.code rows

-- a row whose code doesn't hold counts for nothing
holding_step : (n code x : ℕ) (rest : List ℕ) (holds : Bool) → n ≤ code → (Contains rest x → code ≤ x) → Contains (cond holds (code ∷ rest) rest) x → n ≤ x
holding_step n code x rest true low above at = grind (arith, member_cases code rest x at)
holding_step n code x rest false low above at = omega (arith, above at)

pub holding_above : (n : ℕ) (rows : List (Row ℕ)) (x : ℕ) → Rises n rows → Contains (holding rows) x → n ≤ x
holding_above n [] x rises at = absurd (no_member [] x refl at)
holding_above n (row ∷ rows) x rises at = holding_step n row.code x (holding rows) row.holds rises.0 (holding_above row.code rows x rises.1) at

least_step : (code : ℕ) (rest : List ℕ) (holds : Bool) → ((x : ℕ) → Contains rest x → code ≤ x) → LeastFirst rest → LeastFirst (cond holds (code ∷ rest) rest)
least_step code rest true above least c cs x same at = grind (arith, member_cases code rest x at, above x)
least_step code rest false above least c cs x same at = least c cs x same at

pub holding_least : (n : ℕ) (rows : List (Row ℕ)) → Rises n rows → LeastFirst (holding rows)
holding_least n [] rises = λ c cs x same at. absurd (no_member [] x refl at)
holding_least n (row ∷ rows) rises =
    least_step row.code (holding rows) row.holds (λ x. holding_above row.code rows x rises.1) (holding_least row.code rows rises.1)

-- no row of a table holds
abbrev pub AllFail : List (Row ℕ) → Type 0
AllFail [] = Unit {0}
AllFail (row ∷ rows) = (row.holds ≡ false) × AllFail rows

-- no row holds where no code does
pub all_fail : (rows : List (Row ℕ)) → holding rows ≡ [] → AllFail rows
all_fail [] none = tt
all_fail (row ∷ rows) none = (grind arith, all_fail rows (grind arith))

-- a table of which no row holds has no code
pub none_holds : (rows : List (Row ℕ)) → AllFail rows → holding rows ≡ []
none_holds [] fail = refl
none_holds (row ∷ rows) fail = ap (λ b. cond b (row.code ∷ holding rows) (holding rows)) fail.0 ∙ none_holds rows fail.1

-- no row holds where none is the first to
pub none_is_first_row : (rows : List (Row ℕ)) → first_row rows ≡ None → AllFail rows
none_is_first_row [] none = tt
none_is_first_row (row ∷ rows) none = (grind arith, none_is_first_row rows (grind arith))

pub no_code : (code : Option ℕ) → option_to_list code ≡ [] → code ≡ None
no_code None none = refl
no_code (Some code) none = absurd cc

-- The faults of a stage, page by page.

-- a fault of a stage, at a page from one on, with a code of that page
pub record IsOfStage (stage low high : ℕ) (codes : ℕ → List ℕ) (fault : Fault) : Type 0 where
  pub same_stage : fault.stage ≡ stage
  pub from_low : low ≤ fault.page
  pub below_high : fault.page < high
  pub is_code : Contains (codes fault.page) fault.code

pub of_by_page : (stage from n : ℕ) (codes : ℕ → List ℕ) (fault : Fault) → Contains (by_page stage from n codes) fault
    → IsOfStage stage from (from + n) codes fault
of_by_page stage from n codes fault at =
    let page = of_flat_map (λ p. map (named stage p) (codes p)) (range_with_len from n) fault at in
    let code = of_map (named stage page.0) (codes page.0) fault page.2 in
    let within = of_range from n page.0 page.1 in
    subst (IsOfStage stage from (from + n) codes) code.2
    (record { same_stage = refl; from_low = within.0; below_high = within.1; is_code = code.1 })

pub in_by_page : (stage from n page code : ℕ) (codes : ℕ → List ℕ) → from ≤ page → page < from + n → Contains (codes page) code
    → Contains (by_page stage from n codes) (record { stage = stage; page = page; code = code })
in_by_page stage from n page code codes low high at =
    in_flat_map (λ p. map (named stage p) (codes p)) (range_with_len from n) page (named stage page code) (in_range from n page low high)
    (in_map (named stage page) (codes page) code at)

-- no fault of a stage, no code at any of its pages
pub no_codes_at : (stage from n page : ℕ) (codes : ℕ → List ℕ) → by_page stage from n codes ≡ [] → from ≤ page → page < from + n → codes page ≡ []
no_codes_at stage from n page codes none low high =
    is_empty (codes page) (λ code at. no_member (by_page stage from n codes) (named stage page code) none (in_by_page stage from n page code codes low high at))

-- no fault of a stage, no row of its table holds at any of its pages
pub no_rows_at : (stage from n page : ℕ) (rows : ℕ → List (Row ℕ)) → by_page stage from n (λ p. holding (rows p)) ≡ [] → from ≤ page → page < from + n
    → AllFail (rows page)
no_rows_at stage from n page rows none low high = all_fail (rows page) (no_codes_at stage from n page (λ p. holding (rows p)) none low high)

-- no code at any of its pages, no fault of a stage
pub no_faults : (stage from n : ℕ) (codes : ℕ → List ℕ) → ((page : ℕ) → from ≤ page → page < from + n → codes page ≡ []) → by_page stage from n codes ≡ []
no_faults stage from n codes none =
    is_empty (by_page stage from n codes) (λ fault at.
    let of : IsOfStage stage from (from + n) codes fault = of_by_page stage from n codes fault at in
    no_member (codes fault.page) fault.code (none fault.page of.from_low of.below_high) of.is_code)

-- the first fault of a list comes before all of them
abbrev pub FirstComesFirst : List Fault → Type 0
FirstComesFirst faults = (first : Fault) (rest : List Fault) (fault : Fault) → faults ≡ first ∷ rest → Contains faults fault → ComesFirst first fault

-- the first fault of a page has the page's first code
first_of_page : (stage page : ℕ) (codes : List ℕ) (first : Fault) (rest : List Fault) → LeastFirst codes → map (named stage page) codes ≡ first ∷ rest
    → (first.page ≡ page) × ((x : ℕ) → Contains codes x → first.code ≤ x)
first_of_page stage page [] first rest least same = absurd cc
first_of_page stage page (c ∷ cs) first rest least same =
    let is : named stage page c ≡ first = cc in
    (ap (λ (f : Fault). f.page) (sym is), λ x at. subst (λ (f : Fault). f.code ≤ x) is (least c cs x refl at))

-- the faults of one page and then those of the pages above it
two_parts : (stage page high : ℕ) (codes : ℕ → List ℕ) (later : List Fault) → LeastFirst (codes page) → FirstComesFirst later
    → ((fault : Fault) → Contains later fault → IsOfStage stage (page + 1) high codes fault)
    → FirstComesFirst (map (named stage page) (codes page) ++ later)
two_parts stage page high codes later least comes above first rest fault same at =
    let here : List Fault = map (named stage page) (codes page) in
    elim (first_of_parts here later first rest same) [
      | inl (more, begins) ↦
          let first_is = first_of_page stage page (codes page) first more least begins in
          elim (Contains-append_cases here later fault at) [
            | inl at_page ↦
                let code = of_map (named stage page) (codes page) fault at_page in
                inr (first_is.0 ∙ ap (λ (f : Fault). f.page) code.2, subst (λ (f : Fault). first.code ≤ f.code) code.2 (first_is.1 code.0 code.1))
            | inr at_later ↦ inl (omega (arith, (above fault at_later).from_low, first_is.0))
          ]
      | inr (nothing, begins) ↦ comes first rest fault begins (subst (λ fs. Contains (fs ++ later) fault) nothing at)
    ]

pub by_page_first : (stage from n : ℕ) (codes : ℕ → List ℕ) → ((page : ℕ) → LeastFirst (codes page)) → FirstComesFirst (by_page stage from n codes)
by_page_first stage from zero codes least = λ first rest fault same at. absurd (no_member [] fault refl at)
by_page_first stage from (suc n) codes least =
    two_parts stage from (from + 1 + n) codes (by_page stage (from + 1) n codes) (least from) (by_page_first stage (from + 1) n codes least)
    (of_by_page stage (from + 1) n codes)

-- The stages.

-- what holds of both lists holds of one of them
pub or_else_both : (P : List Fault → Type 0) (faults others : List Fault) → P faults → P others → P (or_else faults (λ _. others))
or_else_both P [] others p q = q
or_else_both P (fault ∷ faults) others p q = p

pub or_else_none : (faults others : List Fault) → or_else faults (λ _. others) ≡ [] → (faults ≡ []) × (others ≡ [])
or_else_none [] others none = (refl, none)
or_else_none (fault ∷ faults) others none = absurd cc

pub or_else_nothing : (faults : List Fault) → or_else faults (λ _. []) ≡ faults
or_else_nothing [] = refl
or_else_nothing (fault ∷ faults) = refl

or_else_first : (faults others : List Fault) (first : Fault) (rest : List Fault) → or_else faults (λ _. others) ≡ first ∷ rest
    → (faults ≡ first ∷ rest) ⊎ ((faults ≡ []) × (others ≡ first ∷ rest))
or_else_first [] others first rest same = inr (refl, same)
or_else_first (fault ∷ faults) others first rest same = inl same

-- all faults are of one stage, and the first comes before all of them
pub record InOrder (stage : ℕ) (faults : List Fault) : Type 0 where
  pub one_stage : (fault : Fault) → Contains faults fault → fault.stage ≡ stage
  pub rises : FirstComesFirst faults

pub by_page_in_order : (stage from n : ℕ) (codes : ℕ → List ℕ) → ((page : ℕ) → LeastFirst (codes page)) → InOrder stage (by_page stage from n codes)
by_page_in_order stage from n codes least = record {
  one_stage = λ fault at. (of_by_page stage from n codes fault at).same_stage;
  rises = by_page_first stage from n codes least;
}

-- those of a table whose codes rise
pub table_in_order : (stage from n : ℕ) (rows : ℕ → List (Row ℕ)) → ((p : ℕ) → Rises 1 (rows p)) → InOrder stage (by_page stage from n (λ p. holding (rows p)))
table_in_order stage from n rows rise = by_page_in_order stage from n (λ p. holding (rows p)) (λ p. holding_least 1 (rows p) (rise p))

nothing_in_order : (stage : ℕ) → InOrder stage []
nothing_in_order stage = by_page_in_order stage 0 0 (λ p. []) (λ p. one_code_least None)

-- a table whose codes are numbers that follow each other
pub numbered_rise : (from n low : ℕ) (test : ℕ → Bool) → low ≤ from → Rises low (map (λ code. code :? test code) (range_with_len from n))
numbered_rise from zero low test below = tt
numbered_rise from (suc n) low test below = (below, numbered_rise (from + 1) n from test (omega arith))

-- what holds of a stage and of all others holds of the choice between them
chosen : (P : ℕ → (List ℕ → List Fault) → Type 0) (stage k : ℕ) (here others : List ℕ → List Fault) → P k here → P stage others
    → P stage (if stage == k then here else others)
chosen P stage k here others at_k at_others = grind (arith, eqb-true)

-- what holds of each of the eight stages, and of no faults, holds of any stage
each_stage : (P : ℕ → (List ℕ → List Fault) → Type 0)
    → P 1 file_faults
    → P 2 form_faults
    → P 3 (within_file reference_faults)
    → P 4 (within_file ownership_faults)
    → P 5 (within_file reach_faults)
    → P 6 (within_file structure_faults)
    → P 7 (within_file master_faults)
    → P 8 (within_file contents_faults)
    → ((stage : ℕ) → P stage (λ image. []))
    → (stage : ℕ) → P stage (faults_by stage)
each_stage P one two three four five six seven eight others stage = grind (arith, chosen)

pub stage_in_order : (image : List ℕ) (stage : ℕ) → InOrder stage (stage_faults image stage)
unfolding head_faults tail_faults form_faults reference_faults ownership_faults reach_faults structure_faults master_faults contents_faults
stage_in_order image =
    let head : Head = head_of image in
    let file : File = file_of image in
    each_stage (λ stage faults. InOrder stage (faults image))
    (or_else_both (InOrder 1) (head_faults image) (tail_faults image)
    (by_page_in_order 1 0 1 (λ p. option_to_list (first_row (head_rows image))) (λ p. one_code_least (first_row (head_rows image))))
    (table_in_order 1 (head.last + 1) (head.pages - (head.last + 1)) (tail_rows head image) (λ p. (omega arith, tt))))
    (by_page_in_order 2 0 (head.last + 1) _ (λ p. one_code_least (form_code head p (page_bytes head image p))))
    (table_in_order 3 0 (file.last + 1) (reference_rows file) (λ p. (omega arith, (omega arith, (omega arith, (omega arith, tt))))))
    (table_in_order 4 1 file.last (ownership_rows file) (λ p. (omega arith, (omega arith, tt))))
    (table_in_order 5 1 file.last (reach_rows file) (λ p. (omega arith, tt)))
    (table_in_order 6 0 (file.last + 1) (structure_rows file) (λ p. (omega arith, (omega arith, (omega arith, tt)))))
    (table_in_order 7 0 (file.last + 1) (master_rows file) (λ p. (omega arith, (omega arith, (omega arith, (omega arith, (omega arith, tt)))))))
    (table_in_order 8 0 (file.last + 1) (contents_rows file) (λ p. numbered_rise 1 9 1 (holds_somewhere file p) (omega arith)))
    nothing_in_order

first_in : (faults : List Fault) (fault : Fault) → first_fault faults ≡ Some fault → Contains faults fault
first_in [] fault is = absurd cc
first_in (first ∷ faults) fault is = let same : first ≡ fault = cc in subst (Contains (first ∷ faults)) same (first_member first faults)

first_is_of : (image : List ℕ) (stage : ℕ) (fault : Fault) → first_fault (stage_faults image stage) ≡ Some fault → fault.stage ≡ stage
first_is_of image stage fault is = (stage_in_order image stage).one_stage fault (first_in (stage_faults image stage) fault is)

-- the faults are those of one stage, and no earlier stage has any
pub record IsFirstStage (image : List ℕ) (stage : ℕ) (faults : List Fault) : Type 0 where
  pub before : (s : ℕ) → s < stage → stage_faults image s ≡ []
  pub faults_are : stage_faults image stage ≡ faults

abbrev no_faults_before : List ℕ → ℕ → Type 0
no_faults_before image stage = (s : ℕ) → s < stage → stage_faults image s ≡ []

one_more : (image : List ℕ) (stage : ℕ) → no_faults_before image stage → stage_faults image stage ≡ [] → no_faults_before image (stage + 1)
one_more image stage before none = below_more (λ s. stage_faults image s ≡ []) stage before none

-- of stages that follow each other, the first one that has faults
first_of_stages : (n from : ℕ) (image : List ℕ) (first : Fault) (rest : List Fault) → no_faults_before image from
    → faults_in (range_with_len from n) image ≡ first ∷ rest → IsFirstStage image first.stage (first ∷ rest)
unfolding faults_in
first_of_stages zero from image first rest before same = absurd cc
first_of_stages (suc n) from image first rest before same =
    elim (or_else_first (stage_faults image from) (faults_in (range_with_len (from + 1) n) image) first rest same) [
      | inl here ↦
          let stage = first_is_of image from first (ap first_fault here) in
          subst (λ s. IsFirstStage image s (first ∷ rest)) (sym stage) (record { before = before; faults_are = here })
      | inr (none, later) ↦ first_of_stages n (from + 1) image first rest (one_more image from before none) later
    ]

first_stage : (image : List ℕ) (first : Fault) (rest : List Fault) → faults_of image ≡ first ∷ rest → IsFirstStage image first.stage (first ∷ rest)
unfolding faults_of
first_stage image first rest same = first_of_stages 8 1 image first rest (one_more image 0 (below_none (λ s. stage_faults image s ≡ [])) refl) same

-- where these stages have no faults, each of them has none
none_of : (stages : List ℕ) (image : List ℕ) (stage : ℕ) → faults_in stages image ≡ [] → Contains stages stage → stage_faults image stage ≡ []
unfolding faults_in
none_of [] image stage none at = absurd (no_member [] stage refl at)
none_of (first ∷ stages) image stage none at =
    let parts = or_else_none (stage_faults image first) (faults_in stages image) none in
    elim (member_cases first stages stage at) [ inl same ↦ ap (stage_faults image) (sym same) ∙ parts.0 | inr later ↦ none_of stages image stage parts.1 later ]

pub none_within : (from n : ℕ) (image : List ℕ) (stage : ℕ) → faults_in (range_with_len from n) image ≡ [] → from ≤ stage → stage < from + n
    → stage_faults image stage ≡ []
none_within from n image stage none low high = none_of (range_with_len from n) image stage none (in_range from n stage low high)

-- a file without faults has none in any stage
pub no_stage : (image : List ℕ) (stage : ℕ) → faults_of image ≡ [] → stage_faults image stage ≡ []
unfolding faults_of
no_stage image stage none =
    let here : (k : ℕ) → k < 8 → stage_faults image (k + 1) ≡ [] = λ k low. none_within 1 8 image (k + 1) none (omega arith) (omega arith) in
    each_stage (λ s faults. faults image ≡ []) (here 0 (omega arith)) (here 1 (omega arith)) (here 2 (omega arith)) (here 3 (omega arith))
    (here 4 (omega arith)) (here 5 (omega arith)) (here 6 (omega arith)) (here 7 (omega arith)) (λ s. refl) stage

-- Some of the stages.

-- the first of some stages has no faults
pub skip_stage : (image : List ℕ) (stage : ℕ) (stages : List ℕ) → stage_faults image stage ≡ [] → faults_in (stage ∷ stages) image ≡ faults_in stages image
unfolding faults_in
skip_stage image stage stages none = ap (λ faults. or_else faults (λ _. faults_in stages image)) none

-- of some stages the first ones have no faults
pub skip_stages : (image : List ℕ) (passed stages : List ℕ) → faults_in passed image ≡ [] → faults_in (passed ++ stages) image ≡ faults_in stages image
unfolding faults_in
skip_stages image [] stages none = refl
skip_stages image (stage ∷ passed) stages none =
    let parts = or_else_none (stage_faults image stage) (faults_in passed image) none in
    skip_stage image stage (passed ++ stages) parts.0 ∙ skip_stages image passed stages parts.1

-- each of these stages has no faults
abbrev pub NoneHas : List ℕ → List ℕ → Type 0
NoneHas image [] = Unit {0}
NoneHas image (stage ∷ stages) = (stage_faults image stage ≡ []) × NoneHas image stages

pub none_in : (image stages : List ℕ) → NoneHas image stages → faults_in stages image ≡ []
unfolding faults_in
none_in image [] none = refl
none_in image (stage ∷ stages) none = skip_stage image stage stages none.0 ∙ none_in image stages none.1

-- The verdict.

-- The laws.

-- the first of the faults is a row that holds
first_holds : (image : List ℕ) (fault : Fault) (faults : List Fault) → IsFirstStage image fault.stage (fault ∷ faults)
    → Holds image fault.stage fault.page fault.code
first_holds image fault faults is = grind (arith, first_member)

none_is_first : (image : List ℕ) (faults : List Fault) → faults_of image ≡ faults → ((stage page code : ℕ) → Holds image stage page code → ⊥)
    → faults_of image ≡ []
none_is_first image [] same none = same
none_is_first image (fault ∷ faults) same none =
    absurd (none fault.stage fault.page fault.code (first_holds image fault faults (first_stage image fault faults same)))

pub sound_where_no_row_holds : SoundWhereNoRowHolds
sound_where_no_row_holds image = grind (arith, no_member, no_stage, none_is_first)

-- a row holds in the stage of the first fault alone
same_stage : (image : List ℕ) (stage page code : ℕ) (fault : Fault) → Holds image fault.stage fault.page fault.code → Holds image stage page code
    → stage ≡ fault.stage
same_stage image stage page code fault first holds = grind (arith, cases_order, no_member)

pub first_is_least : FirstIsLeast
first_is_least image fault faults same =
    let found : IsFirstStage image fault.stage (fault ∷ faults) = first_stage image fault faults same in
    let holds = first_holds image fault faults found in
    record {
      holds = holds;
      first = λ stage page code other. same_stage image stage page code fault holds other;
      least = λ page code other. (stage_in_order image fault.stage).rises fault faults _ found.faults_are other.row;
    }
