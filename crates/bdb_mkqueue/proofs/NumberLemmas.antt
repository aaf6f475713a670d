-- The pages and slots of records.
use Rattle.std.proofs.Common.{◌≡◌, ℕ, ◌+◌, ◌-◌, ◌*◌, ◌<◌, ◌≤◌, arith}
use Rattle.bdb_mkqueue.proofs.Common.{div-mul-le_self, page_of_record, slot_of}
use Rattle.std.proofs.lemmas.Nat.{div-add-mod', div-mul-add, le-div, mod_below}

-- a record stands in its slot of its page
pub place_of : (k n : ℕ) → 1 ≤ n → (page_of_record k n - 1) * k + 1 + slot_of k n ≡ n
place_of k n some = grind (arith, div-add-mod')

pub slot_low : (k n : ℕ) → 1 ≤ k → slot_of k n < k
slot_low k n some = mod_below (n - 1) k some

-- and the record there is it
pub page_here : (k q s : ℕ) → 1 ≤ q → s < k → page_of_record k ((q - 1) * k + 1 + s) ≡ q
page_here k q s some low = grind (arith, div-mul-add)

-- no later record stands on an earlier page
pub page_rises : (k m n : ℕ) → 1 ≤ k → m ≤ n → page_of_record k m ≤ page_of_record k n
page_rises k m n some low = grind (arith, div-mul-le_self, le-div)
