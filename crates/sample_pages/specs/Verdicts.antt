-- What the definitions say of a whole image with pages of 512 bytes.
use Rattle.std.specs.Prelude.{ℕ, ◌+◌, ◌*◌, List, map, take, drop, Option, Result}
use Rattle.std.specs.List.{range_with_len}
use Rattle.bdb_format.specs.declared.metadata.Head.{Head}
use Rattle.bdb_format.specs.declared.metadata.MetaFault.{MetaFault}
use Rattle.bdb_format.specs.Terms.{Page, abstract_page, answer, faulted, form_code, head_fault, head_of, head_rows, page_code, queue_code}

-- what page 0 says of the file, or the first row of the file that holds
abbrev pub head_answer : List ℕ → Result Head MetaFault
head_answer image = faulted head_fault (answer (head_rows image) (head_of image))

-- the bytes of a page
abbrev pub page_at : List ℕ → ℕ → List ℕ
page_at image number = take 512 (drop (512 * number) image)

-- the numbers of the pages, up to the last by page 0
abbrev pub numbers : List ℕ → List ℕ
numbers image = range_with_len 0 ((head_of image).last + 1)

-- for each page the first row of form that holds, if one does; else the row of the file that holds
abbrev pub form_codes : List ℕ → Result (List (Option ℕ)) ℕ
form_codes image = answer (head_rows image) (map (λ number. form_code (head_of image) number (page_at image number)) (numbers image))

-- the first row of form of the pages above 0 of a btree or hash file, as a page's own call answers it
abbrev pub page_codes : List ℕ → List (Option ℕ)
page_codes image = map (λ number. page_code (head_of image).order number (page_at image number)) (range_with_len 1 (head_of image).last)

-- and for those of a queue file
abbrev pub queue_codes : List ℕ → List (Option ℕ)
queue_codes image = map (λ number. queue_code (head_of image).order number (page_at image number)) (range_with_len 1 (head_of image).last)

-- the pages without the order of their bytes
abbrev pub abstract_pages : List ℕ → List Page
abstract_pages image = map (λ number. abstract_page (head_of image).order (page_at image number)) (numbers image)
