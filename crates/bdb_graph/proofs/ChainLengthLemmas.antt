-- How long chains are, page by page, and what is kept of that.
use Rattle.std.proofs.Common.{◌≡◌, ℕ, suc, ◌+◌, ◌*◌, ◌-◌, ◌^◌, ◌<◌, ◌≤◌, Bool, true, false, true≢false, cond, List, [], ◌∷◌, ◌++◌, map, length, get_or, arith}
use Rattle.std.proofs.Common.{refl, sym, ◌∙◌, ap, subst, length-append, length-take, ◌==◌, ◌||◌, not}
use Rattle.std.specs.List.{list_any, range_with_len}
use Rattle.std.proofs.Math.Nat.{mul-le-mul_right}
use Rattle.std.proofs.lemmas.Bool.{eqb-true, eq-eqb, ne_eqb, not-false}
use Rattle.std.proofs.lemmas.List.FromFn.{get_or-map-range_with_len, map-range_with_len_more}
use Rattle.bdb_image.specs.of_format.declared.metadata.Head.{Head}
use Rattle.bdb_image.specs.of_format.declared.references.Sort.{Sort}
use Rattle.bdb_image.specs.of_format.declared.references.Sort.TheVariants.{OverflowHead}
use Rattle.bdb_image.specs.of_format.Terms.{File, Page, all_references, asked_by, chain_in, file_of, fit_code, fit_rows, has_type, head_of, header_in}
use Rattle.bdb_image.specs.of_format.Terms.{is_head_reference, next_of, page_at, piece_in, pieces_of, type_in}
use Rattle.bdb_image.proofs.of_format.FileLemmas.{page_is}
use Rattle.bdb_image.proofs.of_format.GraphLemmas.{each_fits}
use Rattle.bdb_image.proofs.of_format.MemberLemmas.{none_passes}
use Rattle.bdb_image.proofs.of_format.ReferenceLemmas.{of_all}
use Rattle.bdb_image.proofs.of_format.VerdictLemmas.{AllFail, none_is_first_row}
use Rattle.bdb_graph.specs.declared.tally.Kinds.{Kinds}
use Rattle.bdb_graph.specs.ChainLengths.{AreLengths, chain_length, kept_length, length_in, may_head}
use Rattle.bdb_image.specs.Formed.{IsAccepted, IsFormed}
use Rattle.bdb_image.specs.Linked.{FitsChain, IsForest}
use Rattle.bdb_graph.specs.Walked.{IsWalked, names_head}
use Rattle.bdb_image.proofs.FirstLemmas.{formed_accepted}
use Rattle.bdb_graph.proofs.ForestLemmas.{sound_graph}
use Rattle.bdb_image.proofs.FormedLemmas.{IsPaged, accepted_paged}
use Rattle.bdb_graph.proofs.LinkedLemmas.{target_inside}
use Rattle.bdb_image.proofs.PieceLemmas.{piece_fits}

-- One page.

pub size_is : (image : List ℕ) → (file_of image).size ≡ (head_of image).page_size
unfolding file_of
size_is image = refl

-- a page holds no more of a value than a page has room
pub piece_short : (image : List ℕ) (p : ℕ) → p ≤ (head_of image).last → length (piece_in (page_at (file_of image) p)) ≤ (file_of image).size
piece_short image p inside = grind (arith, page_is, piece_fits, length-take, size_is)

-- Pages one after another.

-- a page, and those after it in a turn less
pub one_more : (turns : ℕ) (file : File) (p : ℕ)
    → length_in (suc turns) file p ≡ length (piece_in (page_at file p)) + cond (next_of file p == 0) 0 (length_in turns file (next_of file p))
unfolding length_in chain_in
one_more turns file p = grind (arith, length-append)

pub all_turns : (file : File) (head : ℕ) → length_in file.count file head ≡ chain_length file head
unfolding length_in pieces_of
all_turns file head = refl

pub no_turns : (file : File) (p : ℕ) → length_in 0 file p ≡ 0
unfolding length_in chain_in
no_turns file p = refl

-- What is kept.

none_named : (file : File) (head : ℕ) → list_any names_head (all_references file) ≡ false → FitsChain file head → ⊥
none_named file head none fits = true≢false (sym (ap is_head_reference fits.sort_is) ∙ none_passes names_head (all_references file) fits.owner none fits.held)

-- nothing is to be kept where no item names a chain
pub none_kept : (image : List ℕ) (kinds : Kinds) (lengths : List ℕ) → IsWalked image kinds → kinds.chains ≡ false → AreLengths (file_of image) lengths
none_kept image kinds lengths walked none =
    record { each = λ head fits. absurd (none_named (file_of image) head (sym walked.named.chains ∙ none) fits) }

only_one : (b : Bool) → not (b || false) ≡ false → b ≡ true
only_one true some = refl
only_one false some = absurd cc

asked_head : (target : Page) → has_type (7 ∷ []) (type_in target) ≡ true → (header_in target).previous ≡ 0 → may_head target ≡ true
asked_head target seven first = rw (seven, eq-eqb (header_in target).previous 0 first) refl

-- an item names a page that may be the head of a chain
named_head : (image : List ℕ) (head : ℕ) → IsForest image → FitsChain (file_of image) head → may_head (page_at (file_of image) head) ≡ true
unfolding fit_code
named_head image head forest fits =
    let file : File = file_of image in
    let holder : ℕ = fits.owner.holder in
    let target : Page = page_at file head in
    let held = of_all file fits.owner fits.held in
    let asked : Sort → ℕ → Type 0 = λ sort p. AllFail (fit_rows file (asked_by holder (page_at file holder) sort) p) in
    let fail : asked fits.owner.reference.sort fits.owner.reference.target =
    none_is_first_row (fit_rows file (asked_by holder (page_at file holder) fits.owner.reference.sort) fits.owner.reference.target)
    (each_fits file holder fits.owner.reference (sound_graph image forest.linked).references held.0 held.1) in
    let rows : asked OverflowHead head = subst (λ sort. asked sort head) fits.sort_is (subst (asked fits.owner.reference.sort) fits.target_is fail) in
    asked_head target (only_one (has_type (7 ∷ []) (type_in target)) rows.1.0)
    (sym (eqb-true 0 (header_in target).previous (not-false (0 == (header_in target).previous) rows.1.1.1.0)))

pub all_kept : (image : List ℕ) (lengths : List ℕ) → IsForest image
    → lengths ≡ map (kept_length (file_of image)) (range_with_len 0 ((file_of image).last + 1)) → AreLengths (file_of image) lengths
all_kept image lengths forest are =
    let file : File = file_of image in
    record {
      each = λ head fits.
          let inside : head ≤ file.last = target_inside image OverflowHead head forest.linked fits in
          ap (λ ls. get_or ls head 0) are
          ∙ (get_or-map-range_with_len (kept_length file) 0 (file.last + 1) head head 0 (omega arith) (omega arith)
          ∙ ap (λ b. cond b (chain_length file head) 0) (named_head image head forest fits));
    }

-- The loop over the pages of a chain.

-- what was added so far, and what the pages from `page` on hold in the turns that are left, are the whole
pub record IsAdded (file : File) (head turn page total : ℕ) : Type 0 where
  pub whole : total + length_in (file.count - turn) file page ≡ chain_length file head
  pub short : total ≤ turn * file.size

pub at_start : (file : File) (head : ℕ) → IsAdded file head 0 head 0
at_start file head =
    let all : file.count - 0 ≡ file.count = omega arith in
    let turns : length_in (file.count - 0) file head ≡ chain_length file head = ap (λ n. length_in n file head) all ∙ all_turns file head in
    record { whole = omega (arith, turns); short = omega arith }

-- a page is taken off
at_page : (file : File) (head turn page total : ℕ) → IsAdded file head turn page total → turn < file.count
    → total + (length (piece_in (page_at file page)) + cond (next_of file page == 0) 0 (length_in (file.count - (turn + 1)) file (next_of file page)))
    ≡ chain_length file head
at_page file head turn page total added more =
    let left : file.count - turn ≡ suc (file.count - (turn + 1)) = omega arith in
    ap (λ n. total + n) (sym (ap (λ turns. length_in turns file page) left ∙ one_more (file.count - (turn + 1)) file page)) ∙ added.whole

pub at_next : (file : File) (head turn page total length' next : ℕ) → IsAdded file head turn page total → turn < file.count
    → length' ≡ length (piece_in (page_at file page)) → next ≡ next_of file page → length' ≤ file.size → (next ≡ 0 → ⊥)
    → IsAdded file head (turn + 1) next (total + length')
at_next file head turn page total length' next added below is_length is_next small more =
    let rest : ℕ = length_in (file.count - (turn + 1)) file (next_of file page) in
    let whole : total + (length (piece_in (page_at file page)) + rest) ≡ chain_length file head =
    subst (λ b. total + (length (piece_in (page_at file page)) + cond b 0 rest) ≡ chain_length file head)
    (ne_eqb (next_of file page) 0 (λ none. more (is_next ∙ none)))
    (at_page file head turn page total added below) in
    let same : length_in (file.count - (turn + 1)) file next ≡ rest = ap (λ n. length_in (file.count - (turn + 1)) file n) is_next in
    let step : (turn + 1) * file.size ≡ turn * file.size + file.size = omega arith in
    record { whole = omega (arith, whole, same, is_length); short = omega (arith, added.short, small, step) }

pub at_last : (file : File) (head turn page total length' next : ℕ) → IsAdded file head turn page total → turn < file.count
    → length' ≡ length (piece_in (page_at file page)) → next ≡ next_of file page → next ≡ 0 → total + length' ≡ chain_length file head
at_last file head turn page total length' next added below is_length is_next last =
    let rest : ℕ = length_in (file.count - (turn + 1)) file (next_of file page) in
    let whole : total + (length (piece_in (page_at file page)) + 0) ≡ chain_length file head =
    subst (λ b. total + (length (piece_in (page_at file page)) + cond b 0 rest) ≡ chain_length file head) (eq-eqb (next_of file page) 0 (sym is_next ∙ last))
    (at_page file head turn page total added below) in
    omega (arith, whole, is_length)

pub at_end : (file : File) (head turn page total : ℕ) → IsAdded file head turn page total → file.count ≤ turn → total ≡ chain_length file head
at_end file head turn page total added done = grind (arith, no_turns)

-- the sum fits, since the pages of an image have no more bytes than it
pub sum_fits : (image : List ℕ) (head : Head) (turn total length' : ℕ) → IsFormed image head → turn < head.pages → total ≤ turn * (file_of image).size
    → length' ≤ (file_of image).size → total + length' ≤ 2 ^ 30
sum_fits image head turn total length' formed below added small =
    let accepted : IsAccepted image head = formed_accepted image head formed in
    let paged : IsPaged image head = accepted_paged image head accepted in
    let size : (file_of image).size ≡ head.page_size = size_is image ∙ ap (λ (h : Head). h.page_size) (sym formed.head_is) in
    let step : (turn + 1) * (file_of image).size ≡ turn * (file_of image).size + (file_of image).size = omega arith in
    let room : (turn + 1) * (file_of image).size ≤ head.pages * (file_of image).size = mul-le-mul_right (file_of image).size (omega arith) in
    let whole : length image ≡ head.pages * (file_of image).size = paged.whole ∙ ap (λ n. head.pages * n) (sym size) in
    omega (arith, added, small, step, room, whole, accepted.size)

-- The loop over all pages.

-- what is kept of one page more
pub kept_more : (file : File) (p : ℕ) (lengths : List ℕ) (kept : ℕ) → lengths ≡ map (kept_length file) (range_with_len 0 p) → kept ≡ kept_length file p
    → lengths ++ kept ∷ [] ≡ map (kept_length file) (range_with_len 0 (p + 1))
kept_more file p lengths kept are is = rw (map-range_with_len_more (kept_length file) 0 p p (omega arith), are, is) refl
