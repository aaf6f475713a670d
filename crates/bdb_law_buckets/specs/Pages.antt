-- Pages of a table in a file. Source: docs/FORMAT.md, "Hash items".
use Rattle.std.specs.Prelude.{◌≡◌, ℕ, false, List, map}
use Rattle.bdb_law_grove.specs.of_format.Terms.{Content, File, Hash, Item, Listed, page_at}

-- an item of a hash page is never deleted
abbrev pub hash_item : Content → Item
hash_item content = record { content = content; deleted = false }

-- A page of a file is one of a table with these items, between two others of its bucket. Its type says that its keys are in no order.
pub record IsHashIn (g : File) (p previous next : ℕ) (contents : List Content) : Type 0 where
  pub page : Listed Item
  pub is : page_at g p ≡ Hash page
  pub type_is : page.header.page_type ≡ 2
  pub previous_is : page.header.previous ≡ previous
  pub next_is : page.header.next ≡ next
  pub items : page.items ≡ map hash_item contents
