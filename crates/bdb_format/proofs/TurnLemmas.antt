-- Numbers and bytes that stand after other bytes, and pages whose numbers are byte-swapped.
use Rattle.std.proofs.Common.{◌≡◌, ◌∙◌, ℕ, ◌+◌, ◌-◌, ◌≤◌, List, ◌++◌, length, take, drop, reverse, refl, ap, arith, length-drop, slice_range}
use Rattle.std.proofs.Math.Seq.{drop-append-add, take-append_seam}
use Rattle.std.proofs.lemmas.List.{length-take-le, length-reverse, reverse-reverse, get_or-append-add, get_or-drop}
use Rattle.bdb_format.specs.declared.kinds.Order.{Order}
use Rattle.bdb_format.specs.declared.kinds.Order.TheVariants.{Big, Little}
use Rattle.bdb_format.specs.Terms.{byte_at, header_of, number, number_at, turned, turned_header}

-- what stands at a place past a piece
pub drop_past : (piece rest : List ℕ) (size at k : ℕ) → length piece ≡ size → at ≡ size + k → drop at (piece ++ rest) ≡ drop k rest
drop_past piece rest size at k e f = let d : drop (length piece + k) (piece ++ rest) ≡ drop k rest = drop-append-add piece rest k in cc

pub number_at_past :
    (n : ℕ) (order : Order) (piece rest : List ℕ) (size at k : ℕ) → length piece ≡ size → at ≡ size + k
    → number_at n order (piece ++ rest) at ≡ number_at n order rest k
unfolding number_at
number_at_past n order piece rest size at k e f = ap (λ bytes. number order (take n bytes)) (drop_past piece rest size at k e f)

pub byte_at_past : (piece rest : List ℕ) (size at k : ℕ) → length piece ≡ size → at ≡ size + k → byte_at (piece ++ rest) at ≡ byte_at rest k
byte_at_past piece rest size at k e f = let d = get_or-append-add piece rest k 0 in cc

-- the number that a piece spells at its front
pub number_at_front :
    (n : ℕ) (order : Order) (piece rest : List ℕ) → length piece ≡ n → number_at n order (piece ++ rest) 0 ≡ number order piece
unfolding number_at
number_at_front n order piece rest e = grind (arith, take-append_seam)

pub number-turned : (order : Order) (bytes : List ℕ) → number (turned order) (reverse bytes) ≡ number order bytes
number-turned Big bytes = refl
number-turned Little bytes = rw reverse-reverse refl

pub number_at_front_turned :
    (n : ℕ) (order : Order) (piece rest : List ℕ) → length piece ≡ n → number_at n (turned order) (reverse piece ++ rest) 0 ≡ number order piece
number_at_front_turned n order piece rest e =
    number_at_front n (turned order) (reverse piece) rest (length-reverse piece ∙ e) ∙ number-turned order piece

pub length-slice_range : (bytes : List ℕ) (from to : ℕ) → to ≤ length bytes → length (slice_range bytes from to) ≡ to - from
length-slice_range bytes from to h = length-take-le (to - from) (drop from bytes) (omega (arith, length-drop from bytes))

-- the header of a page, of which the numbers are byte-swapped, piece by piece
pub header-turned_pieces :
    (order : Order) (lsn own previous next entries high rest : List ℕ)
    → length lsn ≡ 8 → length own ≡ 4 → length previous ≡ 4 → length next ≡ 4 → length entries ≡ 2 → length high ≡ 2
    → header_of (turned order) (lsn ++ (reverse own ++ (reverse previous ++ (reverse next ++ (reverse entries ++ (reverse high ++ rest))))))
    ≡ record {
      number = number order own;
      previous = number order previous;
      next = number order next;
      entries = number order entries;
      high_free = number order high;
      level = byte_at rest 0;
      page_type = byte_at rest 1;
    }
header-turned_pieces order lsn own previous next entries high rest l0 l1 l2 l3 l4 l5 =
    let other : Order = turned order in
    let r1 : length (reverse own) ≡ 4 = length-reverse own ∙ l1 in
    let r2 : length (reverse previous) ≡ 4 = length-reverse previous ∙ l2 in
    let r3 : length (reverse next) ≡ 4 = length-reverse next ∙ l3 in
    let r4 : length (reverse entries) ≡ 2 = length-reverse entries ∙ l4 in
    let r5 : length (reverse high) ≡ 2 = length-reverse high ∙ l5 in
    let t5 : List ℕ = reverse high ++ rest in
    let t4 : List ℕ = reverse entries ++ t5 in
    let t3 : List ℕ = reverse next ++ t4 in
    let t2 : List ℕ = reverse previous ++ t3 in
    let t1 : List ℕ = reverse own ++ t2 in
    let page : List ℕ = lsn ++ t1 in
    let past : (at : ℕ) → byte_at page (24 + at) ≡ byte_at rest at =
    λ at. byte_at_past lsn t1 8 (24 + at) (16 + at) l0 (omega arith) ∙ (byte_at_past (reverse own) t2 4 (16 + at) (12 + at) r1 (omega arith)
    ∙ (byte_at_past (reverse previous) t3 4 (12 + at) (8 + at) r2 (omega arith) ∙ (byte_at_past (reverse next) t4 4 (8 + at) (4 + at) r3 (omega arith)
    ∙ (byte_at_past (reverse entries) t5 2 (4 + at) (2 + at) r4 (omega arith) ∙ byte_at_past (reverse high) rest 2 (2 + at) at r5 (omega arith))))) in
    rw (
      number_at_past 4 other lsn t1 8 8 0 l0 refl ∙ number_at_front_turned 4 order own t2 l1,
      number_at_past 4 other lsn t1 8 12 4 l0 refl ∙ (number_at_past 4 other (reverse own) t2 4 4 0 r1 refl ∙ number_at_front_turned 4 order previous t3 l2),
      number_at_past 4 other lsn t1 8 16 8 l0 refl ∙ (number_at_past 4 other (reverse own) t2 4 8 4 r1 refl
          ∙ (number_at_past 4 other (reverse previous) t3 4 4 0 r2 refl ∙ number_at_front_turned 4 order next t4 l3)),
      number_at_past 2 other lsn t1 8 20 12 l0 refl ∙ (number_at_past 2 other (reverse own) t2 4 12 8 r1 refl
          ∙ (number_at_past 2 other (reverse previous) t3 4 8 4 r2 refl ∙ (number_at_past 2 other (reverse next) t4 4 4 0 r3 refl
          ∙ number_at_front_turned 2 order entries t5 l4))),
      number_at_past 2 other lsn t1 8 22 14 l0 refl ∙ (number_at_past 2 other (reverse own) t2 4 14 10 r1 refl
          ∙ (number_at_past 2 other (reverse previous) t3 4 10 6 r2 refl ∙ (number_at_past 2 other (reverse next) t4 4 6 2 r3 refl
          ∙ (number_at_past 2 other (reverse entries) t5 2 2 0 r4 refl ∙ number_at_front_turned 2 order high rest l5)))),
      past 0,
      past 1,
    ) refl

-- a page with each number of its header byte-swapped has the same header in the other order
pub header-turned : (order : Order) (page : List ℕ) → 26 ≤ length page → header_of (turned order) (turned_header page) ≡ header_of order page
unfolding number_at
header-turned order page h =
    header-turned_pieces order (take 8 page) (slice_range page 8 12) (slice_range page 12 16) (slice_range page 16 20) (slice_range page 20 22)
    (slice_range page 22 24) (drop 24 page) (length-take-le 8 page (omega arith)) (length-slice_range page 8 12 (omega arith))
    (length-slice_range page 12 16 (omega arith)) (length-slice_range page 16 20 (omega arith)) (length-slice_range page 20 22 (omega arith))
    (length-slice_range page 22 24 (omega arith))
    ∙ rw (get_or-drop 24 page 0 0, get_or-drop 24 page 1 0) refl
