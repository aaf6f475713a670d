-- The rows of the items that stay are the same after an entry is added.
use Rattle.std.proofs.Common.{◌≡◌, ℕ, ◌+◌, ◌-◌, ◌≤◌, false, cond, List, length, drop, arith, refl, ◌∙◌, ap, ◌==◌, nat_lt, slice_range}
use Rattle.bdb_pack.proofs.Common.{Order, byte_at, hash_end, hash_rows, index_end, internal_rows, item_row, leaf_rows, offset_of, recno_rows, PageType}
use Rattle.bdb_pack.proofs.PlaceLemmas.{byte_same, number_same}
use Rattle.bdb_pack.proofs.StandingLemmas.{slice_same}

-- an item that stays
pub record IsKept (order : Order) (page new : List ℕ) (i : ℕ) : Type 0 where
  pub high : ℕ
  pub long : length new ≡ length page
  pub type : byte_at new 25 ≡ byte_at page 25
  pub body : drop high new ≡ drop high page
  pub low : high ≤ offset_of order page i
  pub offset : offset_of order new i ≡ offset_of order page i
  pub before : offset_of order new (i - 1) ≡ offset_of order page (i - 1)
  pub now : nat_lt (offset_of order page i) (index_end order new) ≡ false
  pub once : nat_lt (offset_of order page i) (index_end order page) ≡ false

leaf_rows_same : (order : Order) (page new : List ℕ) (i : ℕ) → IsKept order page new i → leaf_rows order new i ≡ leaf_rows order page i
unfolding leaf_rows
leaf_rows_same order page new i is =
    let at : ℕ = offset_of order page i in
    let kind = byte_same new page is.high (at + 2) is.body (let low = is.low in omega (arith, low)) in
    let size = number_same 2 order new page is.high at is.body is.low in
    rw (is.offset, is.long, is.type, is.now, is.once, kind, size) refl

internal_rows_same : (order : Order) (page new : List ℕ) (i : ℕ) → IsKept order page new i → internal_rows order new i ≡ internal_rows order page i
unfolding internal_rows
internal_rows_same order page new i is =
    let at : ℕ = offset_of order page i in
    let kind = byte_same new page is.high (at + 2) is.body (let low = is.low in omega (arith, low)) in
    let size = number_same 2 order new page is.high at is.body is.low in
    rw (is.offset, is.long, is.now, is.once, kind, size) refl

recno_rows_same : (order : Order) (page new : List ℕ) (i : ℕ) → IsKept order page new i → recno_rows order new i ≡ recno_rows order page i
unfolding recno_rows
recno_rows_same order page new i is = rw (is.offset, is.long, is.now, is.once) refl

hash_rows_same : (order : Order) (page new : List ℕ) (i : ℕ) → IsKept order page new i → hash_rows order new i ≡ hash_rows order page i
unfolding hash_rows
hash_rows_same order page new i is =
    let at : ℕ = offset_of order page i in
    let kind = byte_same new page is.high at is.body is.low in
    let ends : hash_end order new i ≡ hash_end order page i =
    ap (λ n. cond (i == 0) n (offset_of order new (i - 1))) is.long ∙ ap (λ n. cond (i == 0) (length page) n) is.before in
    let run : slice_range new (at + 1) (hash_end order page i) ≡ slice_range page (at + 1) (hash_end order page i) =
    slice_same new page is.high (at + 1) (hash_end order page i) is.body (let low = is.low in omega (arith, low)) in
    rw (is.offset, is.before, is.long, is.now, is.once, kind, run) refl

pub rows_same : (order : Order) (page new : List ℕ) (i : ℕ) (t : PageType) → IsKept order page new i → item_row t order new i ≡ item_row t order page i
rows_same order page new i t is = grind (arith, hash_rows_same, internal_rows_same, recno_rows_same, leaf_rows_same)
