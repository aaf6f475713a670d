-- What is promised of a queue that was built.
use Rattle.std.proofs.Common.{◌≡◌, ℕ, ◌+◌, ◌-◌, ◌^◌, ◌<◌, ◌≤◌, Bool, false, cond, List, [], ◌∷◌, length, Option, Some, None, arith, refl, sym, ◌∙◌, ap, subst, ◌||◌, All}
use Rattle.bdb_mkqueue.proofs.Common.{div-le_self, eq-eqb, le-ltb, ne_eqb, QueueMeta, Settings, first_row, queue_code, queue_rows, Pair, AscendFrom, Built, HasRoom, IsQueueBuilt, IsQueueOn}
use Rattle.bdb_mkqueue.proofs.Common.{KeepsFirst, SaysQueue, queue_meta, queue_size, slots_of, HasLength, HasNext, IsQueueList, first_number, next_number}
use Rattle.bdb_mkqueue.proofs.LastLemmas.{next_last}
use Rattle.bdb_mkqueue.proofs.ListLemmas.{SaysList, queue_listed}
use Rattle.bdb_mkqueue.proofs.PageLemmas.{page_formed}
use Rattle.bdb_mkqueue.proofs.RecordLemmas.{next_low}
use Rattle.bdb_mkqueue.proofs.StepLemmas.{no_pair, records_long}

-- the next number fits its field
next_few : (list : List Pair) → All HasNext list → next_number 1 list < 2 ^ 32
next_few [] each = omega arith
next_few (x ∷ xs) each =
    let list : List Pair = x ∷ xs in
    let few = each (length list - 1) no_pair (omega arith) in
    omega (arith, next_last list (omega arith), few)

-- so there are few pages
size_few : (k : ℕ) (list : List Pair) → next_number 1 list < 2 ^ 32 → AscendFrom 1 list → 1 + queue_size k list ≤ 2 ^ 32
size_few k [] few is = omega arith
size_few k (x ∷ xs) few is = grind (arith, next_low, div-le_self)

first_low : (list : List Pair) → AscendFrom 1 list → (1 ≤ first_number list) × (first_number list ≤ next_number 1 list)
first_low [] is = (omega arith, omega arith)
first_low (x ∷ xs) is = grind (arith, next_low)

-- records have the length that the metadata says
pub lengths_for : (settings : Settings) (list : List Pair) (meta : QueueMeta) → IsQueueList settings list → meta ≡ queue_meta settings list
    → All (HasLength meta.re_len) list
lengths_for settings list meta for is = subst (λ n. All (HasLength n) list) (sym (ap (λ (m : QueueMeta). m.re_len) is)) for.long

says_list : (settings : Settings) (list : List Pair) (meta : QueueMeta) → IsQueueList settings list → meta ≡ queue_meta settings list
    → SaysList meta list
says_list settings list meta for is =
    record {
      first = ap (λ (m : QueueMeta). m.first) is;
      next = ap (λ (m : QueueMeta). m.current) is;
      ascend = for.ascend;
      long = λ r value at. records_long list meta.re_len r value (lengths_for settings list meta for is) at;
    }

-- rows of metadata that don't hold
no_rows : (extent none some first current wrapped : Bool) → extent ≡ false → none ≡ false → some ≡ false → first ≡ false → current ≡ false
    → wrapped ≡ false
    → cond {A = Option ℕ} extent (Some 15) (cond (none || some) (Some 16) (cond (first || current) (Some 17) (cond wrapped (Some 18) None))) ≡ None
no_rows extent none some first current wrapped one two three four five six = rw (one, two, three, four, five, six) refl

meta_formed : (settings : Settings) (list : List Pair) (built : Built) (meta : QueueMeta) (page : List ℕ) → IsQueueList settings list
    → meta ≡ queue_meta settings list → built.size ≡ settings.page_size → HasRoom built.size meta → SaysQueue built meta page
    → first_row (queue_rows built.order page) ≡ None
meta_formed settings list built meta page for is size room says = grind (arith, first_low, no_rows, eq-eqb, ne_eqb, le-ltb)

pub queue_built : (settings : Settings) (list : List Pair) (old new : Built) (meta : QueueMeta) → IsQueueList settings list
    → old.size ≡ settings.page_size → meta ≡ queue_meta settings list → HasRoom new.size meta → IsQueueOn meta list new → KeepsFirst old new
    → IsQueueBuilt settings list old new meta
queue_built settings list old new meta for size is room on kept =
    let few : length new.pages ≤ 2 ^ 32 =
    let fits = size_few meta.per_page list (next_few list for.few) for.ascend in omega (arith, fits, on.count) in
    record {
      meta_is = is;
      kept = kept;
      laid_out = on;
      formed = λ p above low.
          ap (queue_code new.order p) (on.pages p above low)
          ∙ page_formed new.order new.size meta.re_len p (slots_of list meta.per_page p) (omega (arith, low, few));
      meta_formed = λ page says. meta_formed settings list new meta page for is (kept.size ∙ size) room says;
      lists = λ file has. queue_listed meta list new file room (says_list settings list meta for is) on few has;
    }
