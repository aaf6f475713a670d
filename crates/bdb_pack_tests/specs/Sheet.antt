-- What a sheet keeps: two pages, of which the second takes items.
use Rattle.std.specs.Prelude.{◌≡◌, ℕ, ◌%◌, ◌≤◌, true, List, length}
use Rattle.bdb_form.specs.of_format.declared.kinds.Order.{Order}
use Rattle.bdb_form.specs.of_format.Terms.{byte_at, entries_of}
use Rattle.bdb_pack.specs.Built.{Built}
use Rattle.bdb_pack.specs.Items.{HasPlace, PageItem, holds_item}
use Rattle.bdb_pack.specs.OnPages.{IsBegunOn}

pub record IsSheet (built : Built) : Type 0 where
  pub two : length built.pages ≡ 2
  pub begun : IsBegunOn built 1

-- the page holds such items, and the item has its place at the end of its index
pub record Takes (order : Order) (page : List ℕ) (item : PageItem) : Type 0 where
  pub holds : holds_item (byte_at page 25) item ≡ true
  pub place : HasPlace (byte_at page 25) (entries_of order page) item

-- it is a leaf of whole pairs, with one at least
pub record HasPairs (order : Order) (page : List ℕ) : Type 0 where
  pub type : byte_at page 25 ≡ 5
  pub even : entries_of order page % 2 ≡ 0
  pub some : 2 ≤ entries_of order page
