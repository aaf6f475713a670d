-- What begins at a page, and what that says of chains and sets.
use Rattle.std.proofs.Common.{◌≡◌, ℕ, ◌+◌, ◌<◌, Bool, true, false, cond, List, [], ◌∷◌, ◌++◌, map, length, arith, refl, sym, ◌∙◌, ap}
use Rattle.std.specs.Prelude.{◌==◌, ◌&&◌, Option, Some, None, slice_index_or}
use Rattle.std.specs.List.{range_with_len}
use Rattle.std.proofs.lemmas.Bool.{eq-eqb}
use Rattle.std.proofs.lemmas.List.FromFn.{get_or-map-range_with_len, length-map-range_with_len, map-range_with_len_more}
use Rattle.bdb_law_sums.specs.of_format.Terms.{DupLeaf, File, Free, Hash, Internal, Leaf, Meta, NoType, Overflow, Page, Queue, RecnoInternal, RecnoLeaf, Zero}
use Rattle.bdb_law_sums.specs.of_format.Terms.{header_in, page_at, piece_in}
use Rattle.bdb_survey.specs.declared.links.Extent.{Extent}
use Rattle.bdb_survey.specs.declared.survey.Row.{Row}
use Rattle.bdb_survey.specs.declared.survey.Row.TheVariants.{Nothing, Chain as ChainRow}
use Rattle.bdb_survey.specs.Rows.{chain_row, is_chain_of, is_leaf_row, leaf_row, row_at, row_by, way_row}
use Rattle.bdb_survey.specs.declared.down.Way.{Way}
use Rattle.bdb_survey.specs.declared.down.Way.TheVariants.{Ends, Child, Broken}
use Rattle.bdb_survey.specs.Ways.{way_from}
use Rattle.bdb_survey.specs.Links.{link_in, link_of, extent_of}
use Rattle.bdb_survey.specs.Salvage.{is_like, is_overflow, is_record_leaf, is_row, is_sorted_leaf, is_whole}
use Rattle.bdb_survey.proofs.WalkLemmas.{rest_none, whole_is_rest}
use Rattle.bdb_survey.proofs.WholeLemmas.{no_row, not_whole, some_row, whole_by, whole_row}

pub row_there : (file : File) (rows : List Row) (p : ℕ) (d : Row) → rows ≡ map (row_at file) (range_with_len 0 file.count) → p < file.count
    → slice_index_or rows p d ≡ row_at file p
row_there file rows p d are there = ap (λ rs. slice_index_or rs p d) are ∙ get_or-map-range_with_len (row_at file) 0 file.count p p d there (omega arith)

pub rows_long : (file : File) (rows : List Row) → rows ≡ map (row_at file) (range_with_len 0 file.count) → length rows ≡ file.count
rows_long file rows are = ap (λ rs. length rs) are ∙ length-map-range_with_len (row_at file) 0 file.count

pub row_past : (file : File) (p : ℕ) → page_at file p ≡ NoType → row_at file p ≡ Nothing
row_past file p none = ap (row_by file p) none

-- a page that isn't of the kind begins no row
no_first : (file : File) (test : Page → Bool) (p : ℕ) → test (page_at file p) ≡ false → link_in file test 0 p ≡ None
no_first file test p other =
    elim (p == 0) as (λ b. cond b None (link_of test 0 (page_at file p)) ≡ None) [
      | true ↦ refl
      | false ↦ ap (λ b. cond (b && (header_in (page_at file p)).previous == 0)
          (Some (record { length = length (piece_in (page_at file p)); next = (header_in (page_at file p)).next })) None) other
    ]

pub no_row_here : (file : File) (test : Page → Bool) (p : ℕ) → test (page_at file p) ≡ false → extent_of file test p ≡ None
no_row_here file test p other = whole_is_rest file test p ∙ rest_none file test file.count 0 p 0 0 (no_first file test p other)

-- Chains.

by_length : (file : File) (head total : ℕ) (found : Option Extent) → extent_of file is_overflow head ≡ found
    → is_whole file head total ≡ is_chain_of (chain_row found) total
by_length file head total None none = not_whole file head total none
by_length file head total (Some n) some = whole_by file head total n some

pub no_chain : (file : File) (head total : ℕ) (page : Page) → page_at file head ≡ page → is_overflow page ≡ false → is_whole file head total ≡ false
no_chain file head total page is other = not_whole file head total (no_row_here file is_overflow head (ap is_overflow is ∙ other))

never_way : (way : Way) (total : ℕ) → false ≡ is_chain_of (way_row way) total
never_way Ends total = refl
never_way (Child child) total = refl
never_way Broken total = refl

by_page : (file : File) (head total : ℕ) (page : Page) → page_at file head ≡ page → is_whole file head total ≡ is_chain_of (row_by file head page) total
by_page file head total Zero is = no_chain file head total Zero is refl
by_page file head total (Free header) is = no_chain file head total (Free header) is refl
by_page file head total (Meta fields) is = no_chain file head total (Meta fields) is refl
by_page file head total (Hash page) is = no_chain file head total (Hash page) is refl
by_page file head total (Internal page) is = no_chain file head total (Internal page) is refl ∙ never_way (way_from file head) total
by_page file head total (RecnoInternal page) is = no_chain file head total (RecnoInternal page) is refl ∙ never_way (way_from file head) total
by_page file head total (Leaf page) is = no_chain file head total (Leaf page) is refl
by_page file head total (RecnoLeaf page) is = no_chain file head total (RecnoLeaf page) is refl ∙ never (extent_of file is_record_leaf head)
  where
    never : (found : Option Extent) → false ≡ is_chain_of (leaf_row found) total
    never None = refl
    never (Some n) = refl
by_page file head total (DupLeaf page) is = no_chain file head total (DupLeaf page) is refl ∙ never (extent_of file is_sorted_leaf head)
  where
    never : (found : Option Extent) → false ≡ is_chain_of (leaf_row found) total
    never None = refl
    never (Some n) = refl
by_page file head total (Overflow header piece) is = by_length file head total (extent_of file is_overflow head) refl
by_page file head total (Queue number records) is = no_chain file head total (Queue number records) is refl
by_page file head total NoType is = no_chain file head total NoType is refl

pub chain_whole : (file : File) (head total : ℕ) (row : Row) → row ≡ row_at file head → is_whole file head total ≡ is_chain_of row total
chain_whole file head total row is = by_page file head total (page_at file head) refl ∙ ap (λ r. is_chain_of r total) (sym is)

-- a whole chain that begins at a page is a row
pub chain_is_row : (file : File) (head length pages : ℕ) (row : Row) → row ≡ row_at file head → row ≡ ChainRow length pages → is_row file is_overflow head
    ≡ true
chain_is_row file head length pages row is chain = whole_row file head length
    (chain_whole file head length row is ∙ (ap (λ r. is_chain_of r length) chain ∙ eq-eqb length length refl))

-- Leaves.

leaves_by : (file : File) (test : Page → Bool) (leaf : ℕ) (found : Option Extent) → extent_of file test leaf ≡ found
    → is_row file test leaf ≡ is_leaf_row (leaf_row found)
leaves_by file test leaf None none = no_row file test leaf none
leaves_by file test leaf (Some n) some = some_row file test leaf n some

pub no_leaf : (file : File) (leaf : ℕ) → is_row file (λ page. false) leaf ≡ false
no_leaf file leaf = no_row file (λ page. false) leaf (no_row_here file (λ page. false) leaf refl)

never_chain : (found : Option Extent) → false ≡ is_leaf_row (chain_row found)
never_chain None = refl
never_chain (Some n) = refl

never_leaves : (way : Way) → false ≡ is_leaf_row (way_row way)
never_leaves Ends = refl
never_leaves (Child child) = refl
never_leaves Broken = refl

leaves_page : (file : File) (leaf : ℕ) (page : Page) → is_row file (is_like page) leaf ≡ is_leaf_row (row_by file leaf page)
leaves_page file leaf Zero = no_leaf file leaf
leaves_page file leaf (Free header) = no_leaf file leaf
leaves_page file leaf (Meta fields) = no_leaf file leaf
leaves_page file leaf (Hash page) = no_leaf file leaf
leaves_page file leaf (Internal page) = no_leaf file leaf ∙ never_leaves (way_from file leaf)
leaves_page file leaf (RecnoInternal page) = no_leaf file leaf ∙ never_leaves (way_from file leaf)
leaves_page file leaf (Leaf page) = no_leaf file leaf
leaves_page file leaf (RecnoLeaf page) = leaves_by file is_record_leaf leaf (extent_of file is_record_leaf leaf) refl
leaves_page file leaf (DupLeaf page) = leaves_by file is_sorted_leaf leaf (extent_of file is_sorted_leaf leaf) refl
leaves_page file leaf (Overflow header piece) = no_leaf file leaf ∙ never_chain (extent_of file is_overflow leaf)
leaves_page file leaf (Queue number records) = no_leaf file leaf
leaves_page file leaf NoType = no_leaf file leaf

pub leaves_whole : (file : File) (leaf : ℕ) (row : Row) → row ≡ row_at file leaf → is_row file (is_like (page_at file leaf)) leaf ≡ is_leaf_row row
leaves_whole file leaf row is = leaves_page file leaf (page_at file leaf) ∙ ap is_leaf_row (sym is)

-- one row more
pub rows_more : (file : File) (p : ℕ) → map (row_at file) (range_with_len 0 (p + 1)) ≡ map (row_at file) (range_with_len 0 p) ++ row_at file p ∷ []
rows_more file p = map-range_with_len_more (row_at file) 0 p p (omega arith)
