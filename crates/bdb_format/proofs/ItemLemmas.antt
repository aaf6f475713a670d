-- The row of a page with an index: that of its index, else the least of its items, as one pass over them finds it.
use Rattle.std.proofs.Common.{◌≡◌, ℕ, zero, suc, ◌+◌, ◌<◌, List, [], ◌∷◌, ◌++◌, length, arith, refl, sym, ◌∙◌, ap, nat_lt, ◌||◌, Bool, false, Option, Some}
use Rattle.std.proofs.Common.{None, option_map}
use Rattle.std.specs.List.{list_any, range_with_len}
use Rattle.std.proofs.lemmas.Bool.{cases_order}
use Rattle.bdb_format.specs.declared.kinds.Order.{Order}
use Rattle.bdb_format.specs.declared.pages.ItemFault.{ItemFault}
use Rattle.bdb_format.specs.declared.pages.ItemFault.TheVariants.{Offset, Kind, Extent}
use Rattle.bdb_format.specs.Terms.{Row, all_item_rows, byte_at, entries_of, first_row, index_end, index_rows, is_code, is_wrong_entry_count, is_wrong_level}
use Rattle.bdb_format.specs.Terms.{item_code, item_row, item_rows, lesser, listed_code, ◌:?◌}
use Rattle.bdb_format.specs.declared.pages.PageType.{PageType}
use Rattle.bdb_format.proofs.PageLemmas.{map_none}
use Rattle.bdb_format.proofs.VerdictLemmas.{none_is_first_row}

-- the least code that f gives for a number below n
abbrev pub least_below : (ℕ → Option ℕ) → ℕ → Option ℕ
least_below f zero = None
least_below f (suc n) = lesser (least_below f n) (f n)

-- neither of two codes is there where their lesser isn't
lesser_none : (a b : Option ℕ) → lesser a b ≡ None → (a ≡ None) × (b ≡ None)
lesser_none None b none = (refl, none)
lesser_none (Some a) None none = absurd cc
lesser_none (Some a) (Some b) none = absurd cc

pub least_below_none : (f : ℕ → Option ℕ) (n i : ℕ) → least_below f n ≡ None → i < n → f i ≡ None
least_below_none f zero i none lt = absurd (omega arith)
least_below_none f (suc n) i none lt =
    let both = lesser_none (least_below f n) (f n) none in
    grind (arith, cases_order i n, both, least_below_none f n i both.0)

-- Three rows on all items are the least of the rows of each.

any_more : (p : ℕ → Bool) (a n k : ℕ) → a + n ≡ k → list_any p (range_with_len a (suc n)) ≡ (list_any p (range_with_len a n) || p k)
any_more p a zero k at = grind arith
any_more p a (suc n) k at = grind (arith, any_more p (a + 1) n k (omega arith))

abbrev first_of_three : Bool → Bool → Bool → Option ℕ
first_of_three a b c = first_row (22 :? a ∷ 23 :? b ∷ 24 :? c ∷ [])

-- one more item
one_more : (a b c : Bool) (fault : Option ItemFault)
    → lesser (first_of_three a b c) (option_map item_code fault)
    ≡ first_of_three (a || is_code 22 (option_map item_code fault)) (b || is_code 23 (option_map item_code fault))
    (c || is_code 24 (option_map item_code fault))
one_more a b c None = grind arith
one_more a b c (Some Offset) = grind arith
one_more a b c (Some Kind) = grind arith
one_more a b c (Some Extent) = grind arith

least_is_first : (fault : ℕ → Option ItemFault) (n : ℕ)
    → let f : ℕ → Option ℕ = λ i. option_map item_code (fault i) in
    let any : ℕ → Bool = λ code. list_any (λ i. is_code code (f i)) (range_with_len 0 n) in
    least_below f n ≡ first_of_three (any 22) (any 23) (any 24)
least_is_first fault zero = refl
least_is_first fault (suc n) =
    let f : ℕ → Option ℕ = λ i. option_map item_code (fault i) in
    let any : ℕ → ℕ → Bool = λ code m. list_any (λ i. is_code code (f i)) (range_with_len 0 m) in
    let more : (code : ℕ) → any code (suc n) ≡ (any code n || is_code code (f n)) = λ code. any_more (λ i. is_code code (f i)) 0 n n (omega arith) in
    rw (more 22, more 23, more 24) (ap (λ code. lesser code (f n)) (least_is_first fault n) ∙ one_more (any 22 n) (any 23 n) (any 24 n) (fault n))

pub least_items : (t : PageType) (order : Order) (page : List ℕ) → least_below (item_row t order page) (entries_of order page)
    ≡ first_row (all_item_rows t order page)
least_items t order page = least_is_first (λ index. first_row (item_rows t order page index)) (entries_of order page)

-- The rows of the index come first.

first_some : (rows others : List (Row ℕ)) (code : ℕ) → first_row rows ≡ Some code → first_row (rows ++ others) ≡ Some code
first_some [] others code some = absurd cc
first_some (row ∷ rows) others code some = grind (arith, first_some rows others code)

first_none : (rows others : List (Row ℕ)) → first_row rows ≡ None → first_row (rows ++ others) ≡ first_row others
first_none [] others none = refl
first_none (row ∷ rows) others none = grind (arith, first_none rows others)

pub index_first : (t : PageType) (order : Order) (page : List ℕ) (code : ℕ) → first_row (index_rows order page t) ≡ Some code
    → listed_code order page t ≡ Some code
unfolding listed_code
index_first t order page code some = first_some (index_rows order page t) (all_item_rows t order page) code some

pub items_next : (t : PageType) (order : Order) (page : List ℕ) → first_row (index_rows order page t) ≡ None
    → listed_code order page t ≡ first_row (all_item_rows t order page)
unfolding listed_code
items_next t order page none = first_none (index_rows order page t) (all_item_rows t order page) none

-- Where no row holds for the page, none of its index holds, and none of an item.

pub no_index_row : (order : Order) (page : List ℕ) (t : PageType) → listed_code order page t ≡ None → first_row (index_rows order page t) ≡ None
no_index_row order page t none = grind (arith, index_first t order page)

pub no_item_row : (order : Order) (page : List ℕ) (t : PageType) (i : ℕ) → listed_code order page t ≡ None → i < entries_of order page
    → first_row (item_rows t order page i) ≡ None
no_item_row order page t i none lt =
    let least : least_below (item_row t order page) (entries_of order page) ≡ None =
    least_items t order page ∙ sym (items_next t order page (no_index_row order page t none)) ∙ none in
    map_none item_code (first_row (item_rows t order page i)) (least_below_none (item_row t order page) (entries_of order page) i least lt)

-- the tests of the index
pub record IsIndexed (t : PageType) (order : Order) (page : List ℕ) : Type 0 where
  pub room : nat_lt (length page) (index_end order page) ≡ false
  pub level : is_wrong_level t (byte_at page 24) ≡ false
  pub entries : is_wrong_entry_count t (entries_of order page) ≡ false

pub index_passes : (order : Order) (page : List ℕ) (t : PageType) → first_row (index_rows order page t) ≡ None → IsIndexed t order page
unfolding index_rows
index_passes order page t none = grind (arith, none_is_first_row)
