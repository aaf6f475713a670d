-- Pages in both byte orders, and a file whose items overlap. The other order is that of an independent reading.
use Rattle.std.specs.Prelude.{ℕ, List, [], ◌∷◌, ◌++◌, replicate}
use Rattle.bdb_law_turned.specs.of_format.Terms.{overwritten}
use Rattle.sample_pages.specs.OnePair.{one_pair}

-- the file of one pair, whose first item has a length of 5, so that it goes into the second
abbrev pub overlapping : List ℕ
overlapping = overwritten one_pair 1016 (5 ∷ [])

-- a hash page with a set of two data on the page
abbrev pub set_page : List ℕ
set_page =
    (0 ∷ 0 ∷ 0 ∷ 0 ∷ 1 ∷ 0 ∷ 0 ∷ 0 ∷ 2 ∷ []) ++ (replicate 11 0 ++ ((2 ∷ 0 ∷ 243 ∷ 1 ∷ 0 ∷ 13 ∷ 254 ∷ 1 ∷ 243 ∷ 1 ∷ []) ++ (replicate 469 0 ++ ((2 ∷
    1 ∷ 0 ∷ 49 ∷ 1 ∷ 0 ∷ 1 ∷ 0 ∷ 50 ∷ 1 ∷ 0 ∷ 1 ∷ 97 ∷ [])))))

abbrev pub set_page_big : List ℕ
set_page_big =
    replicate 7 0 ++ ((1 ∷ 0 ∷ 0 ∷ 0 ∷ 2 ∷ []) ++ (replicate 9 0 ++ ((2 ∷ 1 ∷ 243 ∷ 0 ∷ 13 ∷ 1 ∷ 254 ∷ 1 ∷ 243 ∷ []) ++ (replicate 469 0 ++ ((2 ∷ 0 ∷
    1 ∷ 49 ∷ 0 ∷ 1 ∷ 0 ∷ 1 ∷ 50 ∷ 0 ∷ 1 ∷ 1 ∷ 97 ∷ []))))))

-- the metadata of a table, with its spares
abbrev pub table_metadata : List ℕ
table_metadata =
    (0 ∷ 0 ∷ 0 ∷ 0 ∷ 1 ∷ []) ++ (replicate 7 0 ++ ((97 ∷ 21 ∷ 6 ∷ 0 ∷ 9 ∷ 0 ∷ 0 ∷ 0 ∷ 0 ∷ 2 ∷ 0 ∷ 0 ∷ 0 ∷ 8 ∷ []) ++ (replicate 6 0 ++ ((2 ∷ []) ++
    (replicate 15 0 ++ ((1 ∷ []) ++ (replicate 23 0 ++ ((1 ∷ 0 ∷ 0 ∷ 0 ∷ 1 ∷ []) ++ (replicate 11 0 ++ ((3 ∷ 0 ∷ 0 ∷ 0 ∷ 209 ∷ 141 ∷ 104 ∷ 94 ∷ 1 ∷
    0 ∷ 0 ∷ 0 ∷ 1 ∷ []) ++ (replicate 411 0)))))))))))

abbrev pub table_metadata_big : List ℕ
table_metadata_big =
    replicate 7 0 ++ ((1 ∷ 0 ∷ 0 ∷ 0 ∷ 0 ∷ 0 ∷ 6 ∷ 21 ∷ 97 ∷ 0 ∷ 0 ∷ 0 ∷ 9 ∷ 0 ∷ 0 ∷ 2 ∷ 0 ∷ 0 ∷ 8 ∷ []) ++ (replicate 9 0 ++ ((2 ∷ []) ++
    (replicate 15 0 ++ ((1 ∷ []) ++ (replicate 23 0 ++ ((1 ∷ 0 ∷ 0 ∷ 0 ∷ 1 ∷ []) ++ (replicate 11 0 ++ ((3 ∷ 94 ∷ 104 ∷ 141 ∷ 209 ∷ 0 ∷ 0 ∷ 0 ∷ 1 ∷
    0 ∷ 0 ∷ 0 ∷ 1 ∷ []) ++ (replicate 408 0))))))))))

-- an internal page with a key in a chain
abbrev pub inner_page : List ℕ
inner_page =
    (0 ∷ 0 ∷ 0 ∷ 0 ∷ 1 ∷ 0 ∷ 0 ∷ 0 ∷ 33 ∷ []) ++ (replicate 11 0 ++ ((2 ∷ 0 ∷ 220 ∷ 1 ∷ 2 ∷ 3 ∷ 244 ∷ 1 ∷ 220 ∷ 1 ∷ []) ++ (replicate 446 0 ++ ((12 ∷
    0 ∷ 3 ∷ 0 ∷ 27 ∷ []) ++ (replicate 9 0 ++ ((3 ∷ 0 ∷ 26 ∷ 0 ∷ 0 ∷ 0 ∷ 145 ∷ 1 ∷ 0 ∷ 0 ∷ 0 ∷ 0 ∷ 1 ∷ 0 ∷ 1 ∷ []) ++ (replicate 7 0)))))))

abbrev pub inner_page_big : List ℕ
inner_page_big =
    replicate 7 0 ++ ((1 ∷ 0 ∷ 0 ∷ 0 ∷ 33 ∷ []) ++ (replicate 9 0 ++ ((2 ∷ 1 ∷ 220 ∷ 2 ∷ 3 ∷ 1 ∷ 244 ∷ 1 ∷ 220 ∷ []) ++ (replicate 447 0 ++ ((12 ∷
    3 ∷ 0 ∷ 0 ∷ 0 ∷ 0 ∷ 27 ∷ []) ++ (replicate 6 0 ++ ((3 ∷ 0 ∷ 0 ∷ 0 ∷ 0 ∷ 26 ∷ 0 ∷ 0 ∷ 1 ∷ 145 ∷ 0 ∷ 0 ∷ 1 ∷ 0 ∷ 0 ∷ 0 ∷ 0 ∷ 1 ∷ 0 ∷ 0 ∷ 0 ∷ 0 ∷
    []))))))))

-- a page of a chain
abbrev pub chain_page : List ℕ
chain_page =
    (0 ∷ 0 ∷ 0 ∷ 0 ∷ 1 ∷ 0 ∷ 0 ∷ 0 ∷ 2 ∷ []) ++ (replicate 11 0 ++ ((1 ∷ 0 ∷ 145 ∷ 1 ∷ 0 ∷ 7 ∷ []) ++ (replicate 400 98 ++ (replicate 86 0))))

abbrev pub chain_page_big : List ℕ
chain_page_big =
    replicate 7 0 ++ ((1 ∷ 0 ∷ 0 ∷ 0 ∷ 2 ∷ []) ++ (replicate 9 0 ++ ((1 ∷ 1 ∷ 145 ∷ 0 ∷ 7 ∷ []) ++ (replicate 400 98 ++ (replicate 86 0)))))

-- a queue page with one record
abbrev pub queue_page : List ℕ
queue_page =
    replicate 8 0 ++ ((1 ∷ []) ++ (replicate 16 0 ++ ((11 ∷ []) ++ (replicate 10 0 ++ ((1 ∷ 97 ∷ 98 ∷ 99 ∷ 100 ∷ 0 ∷ 0 ∷ 0 ∷ 0 ∷ 120 ∷ 120 ∷ 120 ∷
    120 ∷ []) ++ (replicate 463 0))))))

abbrev pub queue_page_big : List ℕ
queue_page_big =
    replicate 11 0 ++ ((1 ∷ []) ++ (replicate 13 0 ++ ((11 ∷ []) ++ (replicate 10 0 ++ ((1 ∷ 97 ∷ 98 ∷ 99 ∷ 100 ∷ 0 ∷ 0 ∷ 0 ∷ 0 ∷ 120 ∷ 120 ∷ 120 ∷
    120 ∷ []) ++ (replicate 463 0))))))
