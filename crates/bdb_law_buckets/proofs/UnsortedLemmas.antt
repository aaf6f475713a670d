-- The pages of the buckets of a table have the type that says that their keys are in no order, and trees of data say how many these are.
use Rattle.std.proofs.Common.{◌≡◌, ℕ, zero, suc, ◌+◌, ◌<◌, ◌≤◌, Bool, List, [], ◌∷◌, length, Some, arith, sym, ◌∙◌, ap, subst, inl, inr, ◌^◌, All, Contains}
use Rattle.std.proofs.Common.{flat_map}
use Rattle.std.proofs.lemmas.List.Elements.{All-cons, All-nil}
use Rattle.std.proofs.lemmas.Nat.{pow_pos}
use Rattle.bdb_law_grove.specs.of_format.Terms.{Content, File, StoredPair, chain_in, page_at, pairs_of, type_in}
use Rattle.bdb_law_grove.proofs.of_format.ListLemmas.{only_member}
use Rattle.bdb_law_grove.proofs.of_format.MemberLemmas.{member_cases}
use Rattle.bdb_law_grove.proofs.AscendLemmas.{ascend_bounds}
use Rattle.bdb_law_buckets.specs.Pages.{IsHashIn}
use Rattle.bdb_law_buckets.specs.Tables.{BucketStands, HasSum, Keyed, PlacedUnit, StandingTablesAreBuilt, TableStands}
use Rattle.bdb_law_buckets.proofs.OverLemmas.{bucket_up, table_up, units_contents}
use Rattle.bdb_law_buckets.proofs.StoredLemmas.{AreStored, chain_end, chain_more, next_is, table_stored}
use Rattle.bdb_law_buckets.proofs.TableLemmas.{first_pages}

abbrev IsUnsorted : File → ℕ → Type 0
IsUnsorted g p = type_in (page_at g p) ≡ Some 2

type_is : (g : File) (p previous next : ℕ) (contents : List Content) → IsHashIn g p previous next contents → IsUnsorted g p
type_is g p previous next contents is = ap type_in is.is ∙ ap Some is.type_is

-- the pages of a bucket, in so many turns
bucket_unsorted : (g : File) (sorted : Bool) (turns previous p first beyond q : ℕ) (pages : List (List PlacedUnit)) → 1 ≤ first
    → beyond < first + turns
    → BucketStands g sorted previous p first beyond pages → Contains (chain_in turns g p) q → IsUnsorted g q
bucket_unsorted g sorted turns previous p first beyond q [] low few stands at = absurd stands
bucket_unsorted g sorted zero previous p first beyond q (units ∷ []) low few (is, stand) at =
    let up = ascend_bounds first beyond _ (units_contents g sorted first beyond units stand).ascend in absurd (omega (arith, few, up))
bucket_unsorted g sorted (suc turns) previous p first beyond q (units ∷ []) low few (is, stand) at = grind (arith, chain_end, next_is, only_member, type_is)
bucket_unsorted g sorted zero previous p first beyond q (units ∷ more ∷ pages) low few (next, is, stand, rest) at =
    let up = ascend_bounds first next _ (units_contents g sorted first next units stand).ascend in
    let on = bucket_up g sorted p next (next + 1) beyond (more ∷ pages) rest in absurd (omega (arith, few, up, on))
bucket_unsorted g sorted (suc turns) previous p first beyond q (units ∷ more ∷ pages) low few (next, is, stand, rest) at =
    let up = ascend_bounds first next _ (units_contents g sorted first next units stand).ascend in
    let here : Contains (p ∷ chain_in turns g next) q =
    subst (λ ps. Contains ps q) (chain_more g turns p next (next_is g p previous next units is) (λ e. omega (arith, e, low, up))) at in
    elim (member_cases p (chain_in turns g next) q here) [
      | inl same ↦ subst (IsUnsorted g) same (type_is g p previous next _ is)
      | inr later ↦ bucket_unsorted g sorted turns p next (next + 1) beyond q (more ∷ pages) (omega arith) (omega (arith, few, up)) rest later
    ]

-- those of buckets whose first pages follow each other
table_unsorted : (g : File) (sorted : Bool) (p first beyond : ℕ) (buckets : List (List (List PlacedUnit))) → 1 ≤ first → beyond < first + g.count
    → TableStands g sorted p first beyond buckets
    → (b q : ℕ) → b < length buckets → Contains (chain_in g.count g (p + b)) q → IsUnsorted g q
table_unsorted g sorted p first beyond [] low few stands b q under at = absurd (omega (arith, under))
table_unsorted g sorted p first beyond (bucket ∷ buckets) low few (middle, stands, rest) zero q under at =
    let on = table_up g sorted (p + 1) middle beyond buckets rest in
    let e : p + 0 ≡ p = omega arith in
    bucket_unsorted g sorted g.count 0 p first middle q bucket low (omega (arith, few, on)) stands
    (subst (λ k. Contains (chain_in g.count g k) q) e at)
table_unsorted g sorted p first beyond (bucket ∷ buckets) low few (middle, stands, rest) (suc b) q under at =
    let up = bucket_up g sorted 0 p first middle bucket stands in
    let e : p + suc b ≡ p + 1 + b = omega arith in
    table_unsorted g sorted (p + 1) middle beyond buckets (omega (arith, low, up)) (omega (arith, few, up)) rest b q (omega (arith, under))
    (subst (λ k. Contains (chain_in g.count g k) q) e at)

-- the data of pairs that are read have their sums
all_summed : (g : File) (sorted : Bool) (pairs : List StoredPair) (units : List Keyed) → AreStored g sorted pairs units
    → All (λ (pair : StoredPair). HasSum g pair.data_item) pairs
all_summed g sorted [] [] stored = All-nil (λ (pair : StoredPair). HasSum g pair.data_item)
all_summed g sorted [] (unit ∷ units) stored = absurd stored
all_summed g sorted (pair ∷ pairs) [] stored = absurd stored
all_summed g sorted (pair ∷ pairs) (unit ∷ units) (first, rest) =
    All-cons (λ (one : StoredPair). HasSum g one.data_item) pair pairs first.summed (all_summed g sorted pairs units rest)

pub tables_are_built : StandingTablesAreBuilt
tables_are_built g settings first bits beyond buckets counted low high few many stands =
    let some = pow_pos bits in
    let last = counted.counted in
    record {
      unsorted = λ b p under at.
          let within : b < 2 ^ bits = omega (arith, under, some) in
          table_unsorted g settings.sorted first (first + 2 ^ bits) beyond buckets (omega (arith, low)) (omega (arith, high, last, low, some)) stands
          b p (omega (arith, within, many))
          (subst (λ k. Contains (chain_in g.count g k) p) (first_pages settings first bits b few within) at);
      sums = λ b under.
          let within : b < 2 ^ bits = omega (arith, under, some) in
          subst (λ k. All (λ (pair : StoredPair). HasSum g pair.data_item) (flat_map (pairs_of g) (chain_in g.count g k)))
          (sym (first_pages settings first bits b few within))
          (all_summed g settings.sorted _ _
          (table_stored g settings.sorted first (first + 2 ^ bits) beyond buckets (omega (arith, low)) (omega (arith, high, last, low, some)) stands
          b (omega (arith, within, many))));
    }
