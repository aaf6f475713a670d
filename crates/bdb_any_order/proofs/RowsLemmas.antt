-- The faults that count, by those of all rows.
use Rattle.std.proofs.Common.{◌≡◌, ℕ, ◌<◌, ◌≤◌, true, false, List, [], ◌∷◌, ◌++◌, None, arith, refl, sym, ◌∙◌, ap, ◌||◌, not}
use Rattle.std.specs.List.{filter, range_with_len}
use Rattle.bdb_btree.specs.of_format.declared.kinds.Fault.{Fault}
use Rattle.bdb_btree.specs.of_format.Terms.{File, contents_faults, faults_in, faults_of, file_of, first_judgement, master_faults, master_in, or_else, page_at}
use Rattle.bdb_btree.specs.of_format.Terms.{stage_faults, structure_faults}
use Rattle.bdb_btree.proofs.of_format.MemberLemmas.{all_pass}
use Rattle.bdb_btree.proofs.of_format.VerdictLemmas.{none_within, or_else_none, or_else_nothing}
use Rattle.bdb_any_order.specs.AnyOrder.{contents_by, counts, faults_by_rows, holds_under, is_of_order, stages_by, verdict_by}
use Rattle.bdb_any_order.specs.Laws.{AllAreOfAll, SameWithoutOrder, SoundInAnyOrder}
use Rattle.bdb_any_order.specs.declared.rows.Rows.{Rows}
use Rattle.bdb_any_order.specs.declared.rows.Rows.TheVariants.{All, AnyOrder}

-- Where all rows count.

pub or_else_twice : (xs ys zs : List Fault) → or_else (or_else xs (λ _. ys)) (λ _. zs) ≡ or_else xs (λ _. or_else ys (λ _. zs))
or_else_twice [] ys zs = refl
or_else_twice (x ∷ xs) ys zs = refl

-- some stages and stage 8 after them
all_stages : (image stages : List ℕ) → stages_by All stages image ≡ faults_in (stages ++ (8 ∷ [])) image
unfolding faults_in
all_stages image [] = sym (or_else_nothing (contents_faults (file_of image)))
all_stages image (stage ∷ stages) =
    or_else_twice (stage_faults image stage) (faults_in stages image) (contents_faults (file_of image))
    ∙ ap (λ fs. or_else (stage_faults image stage) (λ _. fs)) (all_stages image stages)

pub all_faults : (image : List ℕ) → faults_by_rows All image ≡ faults_of image
unfolding faults_by_rows faults_of
all_faults image = all_stages image (range_with_len 1 7)

pub all_are_of_all : AllAreOfAll
all_are_of_all image = (all_faults image, ap first_judgement (all_faults image))

-- Where no fault counts.

pub no_verdict : (rows : Rows) (image : List ℕ) → faults_by_rows rows image ≡ [] → verdict_by rows image ≡ None
no_verdict rows image none = ap first_judgement none

-- each stage before the last has none
no_early : (rows : Rows) (image : List ℕ) → faults_by_rows rows image ≡ [] → faults_in (range_with_len 1 7) image ≡ []
unfolding faults_by_rows
no_early rows image none = (or_else_none (faults_in (range_with_len 1 7) image) (contents_by rows (file_of image)) none).0

pub early_kept : (image : List ℕ) (stage : ℕ) → faults_by_rows AnyOrder image ≡ [] → 1 ≤ stage → stage < 8 → stage_faults image stage ≡ []
early_kept image stage none low high = none_within 1 7 image stage (no_early AnyOrder image none) low (omega arith)

pub structure_kept : (image : List ℕ) → faults_by_rows AnyOrder image ≡ [] → structure_faults (file_of image) ≡ []
structure_kept image none = early_kept image 6 none (omega arith) (omega arith)

pub master_kept : (image : List ℕ) → faults_by_rows AnyOrder image ≡ [] → master_faults (file_of image) ≡ []
master_kept image none = early_kept image 7 none (omega arith) (omega arith)

-- nor does one count of the last
pub contents_kept : (image : List ℕ) → faults_by_rows AnyOrder image ≡ [] → contents_by AnyOrder (file_of image) ≡ []
unfolding faults_by_rows
contents_kept image none = (or_else_none (faults_in (range_with_len 1 7) image) (contents_by AnyOrder (file_of image)) none).1

-- where no fault counts, none counts in any order
pub fewer : (image : List ℕ) → faults_by_rows All image ≡ [] → faults_by_rows AnyOrder image ≡ []
unfolding faults_by_rows
fewer image none =
    let file : File = file_of image in
    let parts = or_else_none (faults_in (range_with_len 1 7) image) (contents_faults file) none in
    ap (λ fs. or_else fs (λ _. contents_by AnyOrder file)) parts.0 ∙ ap (filter (counts file)) parts.1

pub sound_in_any_order : SoundInAnyOrder
sound_in_any_order image sound = fewer image (all_faults image ∙ sound)

-- Where no row of order holds.

others_count : (file : File) (fault : Fault) → is_of_order fault ≡ false → counts file fault ≡ true
others_count file fault other = ap (λ b. not b || holds_under file (master_in (page_at file 0)) fault) other

pub same_without_order : SameWithoutOrder
unfolding faults_by_rows
same_without_order image none =
    let file : File = file_of image in
    ap (λ fs. or_else (faults_in (range_with_len 1 7) image) (λ _. fs))
    (all_pass (counts file) (contents_faults file) (λ fault at. others_count file fault (none fault at)))
    ∙ all_faults image
