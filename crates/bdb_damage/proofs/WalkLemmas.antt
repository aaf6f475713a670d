-- What is left of the walks over pages, and the rows that hold of a page.
use Rattle.std.proofs.Common.{◌≡◌, ℕ, suc, ◌+◌, ◌-◌, ◌<◌, ◌≤◌, Bool, true, false, cond, List, [], ◌∷◌, ◌++◌, map, arith, refl, sym, ◌∙◌, ap, Option, Some, None}
use Rattle.std.specs.Prelude.{Result, Ok, Err}
use Rattle.std.specs.List.{filter, flat_map, range_with_len}
use Rattle.std.specs.Option.{option_to_list}
use Rattle.bdb_apart.specs.of_format.declared.kinds.Order.{Order}
use Rattle.bdb_apart.specs.of_format.declared.rows.FormRow.{FormRow}
use Rattle.bdb_apart.specs.of_format.Terms.{Row, answer, coded, first_row, form_row_code}
use Rattle.bdb_apart.specs.of_rescue.Kept.{Reading, file_in}
use Rattle.bdb_apart.specs.Queues.{bytes_at}
use Rattle.bdb_damage.specs.Pages.{is_queue_file, is_renumbered, queue_row, refused_pages, renumbered_page, renumbered_pages, row_at, row_in, tree_row}
use Rattle.bdb_damage.specs.Walks.{refused_from, renumbered_from}

-- The first row of an answer.

pub answer_none : {T Rows : Type 0} (code : Rows → ℕ) (rows : List (Row ℕ)) (fields value : T) (result : Result T Rows)
    → coded code result ≡ answer rows fields → result ≡ Ok value → None ≡ first_row rows
answer_none code [] fields value result are is = refl
answer_none {T = T} {Rows = Rows} code (row ∷ rows) fields value result are is =
    by_row row.holds are (answer_none code rows fields value result)
  where
    by_row : (b : Bool) → coded code result ≡ cond b (Err row.code) (answer rows fields)
        → (coded code result ≡ answer rows fields → result ≡ Ok value → None ≡ first_row rows) → None ≡ cond b (Some row.code) (first_row rows)
    by_row true are rest = let never : Ok value ≡ Err row.code = sym (ap (coded code) is) ∙ are in absurd cc
    by_row false are rest = rest are is

pub answer_some : {T Rows : Type 0} (code : Rows → ℕ) (rows : List (Row ℕ)) (fields : T) (row : Rows) (result : Result T Rows)
    → coded code result ≡ answer rows fields → result ≡ Err row → Some (code row) ≡ first_row rows
answer_some code [] fields held result are is = let never : Err (code held) ≡ Ok fields = sym (ap (coded code) is) ∙ are in absurd cc
answer_some {T = T} {Rows = Rows} code (row ∷ rows) fields held result are is =
    by_row row.holds are (answer_some code rows fields held result)
  where
    by_row : (b : Bool) → coded code result ≡ cond b (Err row.code) (answer rows fields)
        → (coded code result ≡ answer rows fields → result ≡ Err held → Some (code held) ≡ first_row rows)
        → Some (code held) ≡ cond b (Some row.code) (first_row rows)
    by_row true are rest =
        let same : Err (code held) ≡ Err row.code = sym (ap (coded code) is) ∙ are in
        let one : code held ≡ row.code = cc in ap (λ n. Some n) one
    by_row false are rest = rest are is

-- The row of a page.

pub row_of_queue : (reading : Reading) (p : ℕ) (order : Order) (page : List ℕ) → is_queue_file reading ≡ true → order ≡ reading.guess.order
    → page ≡ bytes_at reading p → queue_row order page ≡ row_at reading p
unfolding row_at
row_of_queue reading p order page queue by is =
    ap (λ o. queue_row o page) by
    ∙ (ap (queue_row reading.guess.order) is
    ∙ sym (ap (λ b. row_in b reading.guess.order ((file_in reading).count - 1) (bytes_at reading p)) queue))

pub row_of_tree : (reading : Reading) (p last : ℕ) (order : Order) (page : List ℕ) → is_queue_file reading ≡ false → order ≡ reading.guess.order
    → last ≡ (file_in reading).count - 1 → page ≡ bytes_at reading p → tree_row order last page ≡ row_at reading p
unfolding row_at
row_of_tree reading p last order page queue by end is =
    ap (λ o. tree_row o last page) by
    ∙ (ap (λ n. tree_row reading.guess.order n page) end
    ∙ (ap (tree_row reading.guess.order ((file_in reading).count - 1)) is
    ∙ sym (ap (λ b. row_in b reading.guess.order ((file_in reading).count - 1) (bytes_at reading p)) queue)))

-- Refused pages.

pub all_refused : (reading : Reading) → refused_from reading 0 ≡ refused_pages reading
unfolding refused_pages
all_refused reading =
    ap (λ n. flat_map (λ p. map (λ code. record { stage = 2; page = p; code = code }) (option_to_list (row_at reading p))) (range_with_len 0 n))
    (let all : (file_in reading).count - 0 ≡ (file_in reading).count = omega arith in all)

refused_more : (reading : Reading) (p : ℕ) → p < (file_in reading).count
    → refused_from reading p ≡ map (λ code. record { stage = 2; page = p; code = code }) (option_to_list (row_at reading p)) ++ refused_from reading (p + 1)
refused_more reading p there =
    ap (λ n. flat_map (λ q. map (λ code. record { stage = 2; page = q; code = code }) (option_to_list (row_at reading q))) (range_with_len p n))
    (let more : (file_in reading).count - p ≡ suc ((file_in reading).count - (p + 1)) = omega (arith, there) in more)

pub refused_some : (reading : Reading) (p : ℕ) (row : FormRow) → p < (file_in reading).count → Some (form_row_code row) ≡ row_at reading p
    → refused_from reading p ≡ record { stage = 2; page = p; code = form_row_code row } ∷ refused_from reading (p + 1)
refused_some reading p row there is =
    refused_more reading p there
    ∙ ap (λ at. map (λ code. record { stage = 2; page = p; code = code }) (option_to_list at) ++ refused_from reading (p + 1)) (sym is)

pub refused_none : (reading : Reading) (p : ℕ) → p < (file_in reading).count → None ≡ row_at reading p → refused_from reading (p + 1) ≡ refused_from reading p
refused_none reading p there is =
    sym (refused_more reading p there
    ∙ ap (λ at. map (λ code. record { stage = 2; page = p; code = code }) (option_to_list at) ++ refused_from reading (p + 1)) (sym is))

pub refused_end : (reading : Reading) (p : ℕ) → (file_in reading).count ≤ p → refused_from reading p ≡ []
refused_end reading p past =
    ap (λ n. flat_map (λ q. map (λ code. record { stage = 2; page = q; code = code }) (option_to_list (row_at reading q))) (range_with_len p n))
    (let none : (file_in reading).count - p ≡ 0 = omega (arith, past) in none)

-- Pages with another number.

pub all_renumbered : (reading : Reading) → renumbered_from reading 0 ≡ renumbered_pages reading
unfolding renumbered_pages
all_renumbered reading =
    ap (λ n. map (renumbered_page reading) (filter (is_renumbered reading) (range_with_len 0 n)))
    (let all : (file_in reading).count - 0 ≡ (file_in reading).count = omega arith in all)

renumbered_by : (reading : Reading) (p : ℕ) (b : Bool) → is_renumbered reading p ≡ b → p < (file_in reading).count
    → renumbered_from reading p ≡ cond b (renumbered_page reading p ∷ renumbered_from reading (p + 1)) (renumbered_from reading (p + 1))
renumbered_by reading p b is there =
    ap (λ n. map (renumbered_page reading) (filter (is_renumbered reading) (range_with_len p n)))
    (let more : (file_in reading).count - p ≡ suc ((file_in reading).count - (p + 1)) = omega (arith, there) in more)
    ∙ (ap (λ c. map (renumbered_page reading) (cond c (p ∷ rest) rest)) is ∙ by_test b)
  where
    rest : List ℕ
    rest = filter (is_renumbered reading) (range_with_len (p + 1) ((file_in reading).count - (p + 1)))

    by_test : (b : Bool) → map (renumbered_page reading) (cond b (p ∷ rest) rest)
        ≡ cond b (renumbered_page reading p ∷ map (renumbered_page reading) rest) (map (renumbered_page reading) rest)
    by_test true = refl
    by_test false = refl

pub renumbered_some : (reading : Reading) (p : ℕ) → p < (file_in reading).count → true ≡ is_renumbered reading p
    → renumbered_from reading p ≡ renumbered_page reading p ∷ renumbered_from reading (p + 1)
renumbered_some reading p there is = renumbered_by reading p true (sym is) there

pub renumbered_none : (reading : Reading) (p : ℕ) → p < (file_in reading).count → false ≡ is_renumbered reading p
    → renumbered_from reading (p + 1) ≡ renumbered_from reading p
renumbered_none reading p there is = sym (renumbered_by reading p false (sym is) there)

pub renumbered_end : (reading : Reading) (p : ℕ) → (file_in reading).count ≤ p → renumbered_from reading p ≡ []
renumbered_end reading p past =
    ap (λ n. map (renumbered_page reading) (filter (is_renumbered reading) (range_with_len p n)))
    (let none : (file_in reading).count - p ≡ 0 = omega (arith, past) in none)
