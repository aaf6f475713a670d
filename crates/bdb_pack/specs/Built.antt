-- Pages that are being built: their size, their order, and the bytes of each.
use Rattle.std.specs.Prelude.{◌≡◌, ℕ, ◌-◌, ◌*◌, ◌<◌, ◌≤◌, ◌^◌, IsTrue, zero, suc, List, [], ◌∷◌, ◌++◌, length, map, take, drop, get_or, set, replicate}
use Rattle.bdb_layout.specs.of_format.declared.kinds.Order.{Order}
use Rattle.bdb_layout.specs.of_format.declared.metadata.FileKind.TheVariants.{Btree}
use Rattle.bdb_layout.specs.of_format.Terms.{File, abstract_page, is_page_size, overwritten}
use Rattle.std.specs.List.{flat_map}

pub record Built : Type 0 where
  pub size : ℕ
  pub order : Order
  pub pages : List (List ℕ)

-- bytes cut into so many pages
abbrev pub cut : ℕ → ℕ → List ℕ → List (List ℕ)
cut size zero bytes = []
cut size (suc n) bytes = take size bytes ∷ cut size n (drop size bytes)

abbrev pub bytes_of : Built → ℕ → List ℕ
bytes_of built p = get_or built.pages p []

-- with other bytes on one page
abbrev pub with_page : Built → ℕ → List ℕ → Built
with_page built p page = record built { pages = set built.pages p page }

-- the bytes of all pages, and what they are after bytes are written from the beginning of one page on
abbrev pub joined_pages : List (List ℕ) → List ℕ
joined_pages pages = flat_map (λ page. page) pages

abbrev pub written_over : Built → ℕ → List ℕ → Built
written_over built p bytes = record built { pages = cut built.size (length built.pages) (overwritten (joined_pages built.pages) (p * built.size) bytes) }

-- the pages so far as a file, whose metadata isn't written yet
abbrev pub file_so_far : Built → File
file_so_far built = record {
  kind = Btree;
  size = built.size;
  count = length built.pages;
  last = length built.pages - 1;
  pages = map (abstract_page built.order) built.pages;
}

-- what a contract sees of `Pages`
abbrev pub built_of : ℕ → Order → ℕ → List ℕ → Built
built_of size order count bytes = record { size = size; order = order; pages = cut size count bytes }

-- and what it keeps of its fields
pub record IsWhole (size count : ℕ) (bytes : List ℕ) : Type 0 where
  pub legal : IsTrue (is_page_size size)
  pub few : count ≤ 2 ^ 21
  pub whole : length bytes ≡ count * size

-- with a zero page at the end
abbrev pub with_zeros : Built → Built
with_zeros built = record built { pages = built.pages ++ (replicate built.size 0 ∷ []) }

-- with a copy of a page at the end
abbrev pub with_copy : Built → ℕ → Built
with_copy built p = record built { pages = built.pages ++ (bytes_of built p ∷ []) }

-- without the last page
abbrev pub without_last : Built → Built
without_last built = record built { pages = take (length built.pages - 1) built.pages }

-- each page has the size
abbrev pub AreWhole : Built → Type 0
AreWhole built = (p : ℕ) → p < length built.pages → length (bytes_of built p) ≡ built.size
