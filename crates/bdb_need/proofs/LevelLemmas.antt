-- Levels that are counted one after the other.
use Rattle.std.proofs.Common.{◌≡◌, ℕ, zero, suc, ◌+◌, ◌-◌, ◌*◌, ◌<◌, ◌≤◌, List, ◌∷◌, length, map, replicate, arith, sym, ◌∙◌, ap, ◌/◌, All}
use Rattle.bdb_need.proofs.Common.{length-replicate, All-replicate, mul-le, first_or, pages_over, spread_items}
use Rattle.bdb_mkhash.proofs.of_mkleaves.TreeCountLemmas.{few_over}
use Rattle.bdb_need.proofs.BehindLemmas.{All-behind, behind, equal_level, heads_of_items, level_halves, level_on, levels_few, self}

-- Items that all take 10 bytes.

-- of the levels over so many pages some are counted, up to one of `below` pages
pub record CountsDone (room pages total below : ℕ) : Type 0 where
  pub most : ℕ
  pub enough : below ≤ most
  pub sum : total + pages_over most room 10 (replicate below 10) ≡ pages_over pages room 10 (replicate pages 10)

-- each level has fewer pages than the one below
pub fewer : (below each : ℕ) → 2 ≤ each → 1 < below → (below - 1) / each + 1 < below
fewer below each two many = grind (arith, mul-le)

pub counts_next : (room pages total below : ℕ) → 60 ≤ room → 1 < below → CountsDone room pages total below
    → CountsDone room pages (total + ((below - 1) / (room / 10) + 1)) ((below - 1) / (room / 10) + 1)
counts_next room pages total below wide many done = by_most done.most done.enough done.sum
  where
    each : ℕ
    each = room / 10

    above : ℕ
    above = (below - 1) / each

    by_most : (most : ℕ) → below ≤ most
        → total + pages_over most room 10 (replicate below 10) ≡ pages_over pages room 10 (replicate pages 10)
        → CountsDone room pages (total + (above + 1)) (above + 1)
    by_most zero enough sum = absurd (omega (arith, enough, many))
    by_most (suc most) enough sum =
        let split : below ≡ suc (below - 1) = omega (arith, many) in
        let step = ap (λ n. pages_over (suc most) room 10 (replicate n 10)) split
        ∙ equal_level most room each 10 (below - 1) (omega arith) (omega (arith, wide)) (omega arith) (omega arith) (omega (arith, many)) in
        let one : pages_over most room 10 (replicate (suc above) 10) ≡ pages_over most room 10 (replicate (above + 1) 10) =
        ap (λ n. pages_over most room 10 (replicate n 10)) (let e : suc above ≡ above + 1 = omega arith in e) in
        let less = fewer below each (omega (arith, wide)) many in
        record { most = most; enough = omega (arith, less, enough); sum = omega (arith, step, sum, one) }

pub counts_end : (room pages total below : ℕ) → below ≤ 1 → CountsDone room pages total below
    → total ≡ pages_over pages room 10 (replicate pages 10)
counts_end room pages total below few done = grind (arith, length-replicate, few_over)

-- they are at most twice as many as the pages below
pub counts_bound : (room pages : ℕ) → 60 ≤ room → pages_over pages room 10 (replicate pages 10) ≤ 2 * pages
counts_bound room zero wide = omega arith
counts_bound room (suc pages) wide =
    let few = levels_few (suc pages) room 10 10 (replicate pages 10) (All-replicate (λ (c : ℕ). c ≤ room - 10) pages 10 (omega (arith, wide))) in
    let long = length-replicate {A = ℕ} pages 10 in
    omega (arith, few, long)

pub counts_few : (room pages total below : ℕ) → 60 ≤ room → CountsDone room pages total below → total ≤ 2 * pages
counts_few room pages total below wide done = grind (arith, counts_bound)

-- Items that have keys.

-- of the levels over pages some are counted, up to one over whose pages items take so much
pub record KeysDone (room : ℕ) (all : List ℕ) (total : ℕ) (items : List ℕ) : Type 0 where
  pub most : ℕ
  pub enough : length items < most
  pub sum : (first : ℕ) → total + pages_over most room 14 (first ∷ items) ≡ pages_over (length all + 1) room 14 (first ∷ all)
  pub fit : All (λ c. c ≤ room - 14) items

pub keys_begun : (room : ℕ) (all : List ℕ) → All (λ c. c ≤ room - 14) all → KeysDone room all 0 all
keys_begun room all fit = record { most = length all + 1; enough = omega arith; sum = λ first. omega arith; fit = fit }

firsts_behind : (room : ℕ) (items next : List ℕ) → ((first : ℕ) → map (first_or 0) (spread_items room 14 (first ∷ items)) ≡ first ∷ next)
    → next ≡ behind room (λ (x : ℕ). 14) self self (room - 14) items
firsts_behind room items next are =
    let both : 0 ∷ next ≡ 0 ∷ behind room (λ (x : ℕ). 14) self self (room - 14) items = sym (are 0) ∙ heads_of_items room 14 0 items in
    cc

pub keys_fewer : (room : ℕ) (items next : List ℕ) → ((first : ℕ) → map (first_or 0) (spread_items room 14 (first ∷ items)) ≡ first ∷ next)
    → All (λ c. c ≤ room - 14) items → 0 < length items → length next < length items
keys_fewer room items next are fit some =
    let is = ap length (firsts_behind room items next are) in
    let half = level_halves room 14 items fit in
    omega (arith, is, half, some)

pub keys_next : (room : ℕ) (all items next : List ℕ) (total : ℕ) → 0 < length items
    → ((first : ℕ) → map (first_or 0) (spread_items room 14 (first ∷ items)) ≡ first ∷ next) → KeysDone room all total items
    → KeysDone room all (total + (1 + length next)) next
keys_next room all items next total some are done = by_most done.most done.enough done.sum
  where
    is : next ≡ behind room (λ (x : ℕ). 14) self self (room - 14) items
    is = firsts_behind room items next are

    by_most : (most : ℕ) → length items < most
        → ((first : ℕ) → total + pages_over most room 14 (first ∷ items) ≡ pages_over (length all + 1) room 14 (first ∷ all))
        → KeysDone room all (total + (1 + length next)) next
    by_most zero enough sum = absurd (omega (arith, enough))
    by_most (suc most) enough sum =
        let less = keys_fewer room items next are done.fit some in
        record {
          most = most;
          enough = omega (arith, less, enough);
          sum = λ first.
              (let step = level_on most room 14 first items some in
              let long = ap length is in
              let same = ap (λ (ns : List ℕ). pages_over most room 14 (first ∷ ns)) is in
              let before = sum first in
              omega (arith, step, long, same, before));
          fit = rw is (All-behind (λ (x : ℕ). x ≤ room - 14) room (λ (x : ℕ). 14) self self (room - 14) items done.fit);
        }

pub keys_end : (room : ℕ) (all items : List ℕ) (total first : ℕ) → length items ≡ 0 → KeysDone room all total items
    → total ≡ pages_over (length all + 1) room 14 (first ∷ all)
keys_end room all items total first none done = grind (arith, few_over)

pub keys_few : (room : ℕ) (all items : List ℕ) (total : ℕ) → All (λ c. c ≤ room - 14) all → KeysDone room all total items → total ≤ 2 * length all
keys_few room all items total fit done =
    let sum = done.sum 0 in
    let most = levels_few (length all + 1) room 14 0 all fit in
    omega (arith, sum, most)
