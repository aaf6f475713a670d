-- Laws of pages in plain words. Source: docs/FORMAT.md, "Other pages" and "Words".
use Rattle.std.specs.Prelude.{◌≡◌, ◌≤◌, ℕ, List, ◌++◌, length, take, drop, reverse, slice_range, None}
use Rattle.bdb_format.specs.declared.kinds.Order.{Order}
use Rattle.bdb_format.specs.declared.metadata.Head.{Head}
use Rattle.bdb_format.specs.Numbers.{number, turned}
use Rattle.bdb_format.specs.Page.{Page}
use Rattle.bdb_format.specs.Reading.{abstract_page, header_of}
use Rattle.bdb_format.specs.Rows.{form_code}

-- the bytes of a page of a file stand for this page: no row of form holds for them, and they read as it
pub record PageOf (head : Head) (at : ℕ) (bytes : List ℕ) (page : Page) : Type 0 where
  pub formed : form_code head at bytes ≡ None
  pub reads : abstract_page head.order bytes ≡ page

-- bytes stand for at most one page
abbrev pub StandsForOne : Type 0
StandsForOne = (head : Head) (at : ℕ) (bytes : List ℕ) (page other : Page) → PageOf head at bytes page → PageOf head at bytes other → page ≡ other

-- a number whose bytes are byte-swapped says the same in the other order
abbrev pub NumbersTurn : Type 0
NumbersTurn = (order : Order) (bytes : List ℕ) → number (turned order) (reverse bytes) ≡ number order bytes

-- a page with each number of its header byte-swapped
abbrev pub turned_header : List ℕ → List ℕ
turned_header page =
    take 8 page ++ (reverse (slice_range page 8 12) ++ (reverse (slice_range page 12 16) ++ (reverse (slice_range page 16 20)
    ++ (reverse (slice_range page 20 22) ++ (reverse (slice_range page 22 24) ++ drop 24 page)))))

-- such a page has the same header in the other order
abbrev pub HeadersTurn : Type 0
HeadersTurn = (order : Order) (page : List ℕ) → 26 ≤ length page → header_of (turned order) (turned_header page) ≡ header_of order page
