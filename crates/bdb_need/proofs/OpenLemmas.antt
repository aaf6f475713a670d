-- Pages on which things are put, and how many they are.
use Rattle.std.proofs.Common.{◌≡◌, ℕ, zero, suc, ◌+◌, ◌-◌, ◌*◌, ◌<◌, ◌≤◌, List, [], ◌∷◌, ◌++◌, length, replicate, arith, refl, sym, ◌∙◌, ap, subst, length-append, ◌/◌, ◌%◌}
use Rattle.bdb_need.proofs.Common.{append_assoc, length-replicate, replicate-append-replicate, mul-le, ArePut, pages_on}
use Rattle.bdb_need.proofs.BehindLemmas.{behind, behind_fit, behind_full, behind_new, behind_open, length-spread, self}

pub pages-behind : (room left : ℕ) (costs : List ℕ) → pages_on room left costs ≡ suc (length (behind room self self self left costs))
pages-behind room left costs = length-spread room self self self left [] costs

pages_open : (room left c : ℕ) (rest : List ℕ) → c ≤ left → pages_on room (left - c) rest ≡ pages_on room left (c ∷ rest)
pages_open room left c rest fits =
    pages-behind room (left - c) rest
    ∙ (ap (λ (ns : List ℕ). suc (length ns)) (sym (behind_open room self self self left c rest fits)) ∙ sym (pages-behind room left (c ∷ rest)))

pages_new : (room left c : ℕ) (rest : List ℕ) → left < c → suc (pages_on room (room - c) rest) ≡ pages_on room left (c ∷ rest)
pages_new room left c rest full =
    ap suc (pages-behind room (room - c) rest)
    ∙ (ap (λ (ns : List ℕ). suc (length ns)) (sym (behind_new room self self self left c rest full)) ∙ sym (pages-behind room left (c ∷ rest)))

pub put_open : (room closed left c : ℕ) → c ≤ left
    → ArePut (record { room = room; closed = closed; left = left }) (record { room = room; closed = closed; left = left - c }) (c ∷ [])
put_open room closed left c fits = record { room = refl; pages = λ rest. ap (λ n. closed + n) (pages_open room left c rest fits); few = omega arith }

pub put_new : (room closed left c : ℕ) → left < c
    → ArePut (record { room = room; closed = closed; left = left }) (record { room = room; closed = closed + 1; left = room - c }) (c ∷ [])
put_new room closed left c full = record { room = refl; pages = λ rest. (let new = pages_new room left c rest full in omega (arith, new)); few = omega arith }

-- Many that take the same.

quotient : (n c : ℕ) → 0 < c → (q : ℕ) → q ≡ n / c → (q * c ≤ n) × (n < q * c + c)
quotient n c some q is = subst (λ k. (k * c ≤ n) × (n < k * c + c)) (sym is) (omega (arith, some), omega (arith, some))

divided : (n c : ℕ) → 0 < c → n ≡ n / c * c + n % c
divided n c some = omega (arith, some)

pub many_open : (room closed left count c : ℕ) → 0 < c → count ≤ left / c
    → ArePut (record { room = room; closed = closed; left = left }) (record { room = room; closed = closed; left = left - count * c })
    (replicate count c)
many_open room closed left count c some few = grind (arith, mul-le, quotient, pages-behind, behind_fit, self)

-- those that the open page has no room for: full pages, and one more
pub many_new : (room closed left count c here each more : ℕ) → 0 < c → c ≤ room → here ≡ left / c → each ≡ room / c → more ≡ count - here - 1
    → here < count
    → ArePut (record { room = room; closed = closed; left = left })
    (record { room = room; closed = closed + (more / each + 1); left = room - (more % each + 1) * c }) (replicate count c)
many_new room closed left count c here each more some fits here_is each_is more_is beyond =
    let open_parts = quotient left c some here here_is in
    let page_parts = quotient room c some each each_is in
    let positive : 0 < each = by_each each page_parts.1 in
    let none : left - here * c < c = omega (arith, open_parts) in
    let full : ℕ = more / each in
    let last : ℕ = more % each + 1 in
    let few : last ≤ each = omega (arith, positive) in
    let parts = divided more each positive in
    let split : count ≡ here + (full * each + last) = omega (arith, more_is, beyond, parts) in
    let total : (rest : List ℕ) → behind room self self self left (replicate count c ++ rest)
    ≡ replicate (suc full) c ++ behind room self self self (room - last * c) rest =
    λ rest.
    ap (λ n. behind room self self self left (replicate n c ++ rest)) split
    ∙ (ap (λ (ns : List ℕ). behind room self self self left (ns ++ rest)) (sym (replicate-append-replicate here (full * each + last) c))
    ∙ (ap (behind room self self self left) (append_assoc (replicate here c) (replicate (full * each + last) c) rest)
    ∙ (behind_fit room self here c left (replicate (full * each + last) c ++ rest) open_parts.0
    ∙ behind_full room self full each last c (left - here * c) rest refl none (omega arith) few page_parts.0 page_parts.1))) in
    let at_most : full + 1 ≤ count =
    let one = mul-le full 1 full each (omega arith) positive in
    omega (arith, split, one) in
    record {
      room = refl;
      pages = λ rest.
          (let after = pages-behind room (room - last * c) rest in
          let before = pages-behind room left (replicate count c ++ rest) in
          let long = ap length (total rest) in
          let both = length-append (replicate (suc full) c) (behind room self self self (room - last * c) rest) in
          let copies = length-replicate (suc full) c in
          omega (arith, after, before, long, both, copies));
      few = (let copies = length-replicate count c in omega (arith, at_most, copies));
    }
  where
    by_each : (n : ℕ) → room < n * c + c → 0 < n
    by_each zero past = absurd (omega (arith, past, fits))
    by_each (suc n) past = omega arith
