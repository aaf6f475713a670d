-- Runs of blocks whose lengths are byte-swapped.
use Rattle.std.proofs.Common.{◌≡◌, ◌∙◌, inl, inr, ℕ, ◌+◌, ◌-◌, ◌<◌, ◌≤◌, List, [], ◌∷◌, length, take, drop, refl, sym, ap, subst, arith, length-drop, cond}
use Rattle.std.proofs.Common.{slice_range, Bool, true, false, Option, Some, None, Contains, option_map}
use Rattle.std.proofs.lemmas.Bool.Decides.{nat_tests}
use Rattle.std.proofs.lemmas.List.{drop-drop, drop-take, take-take, length-take-le}
use Rattle.bdb_graph.proofs.of_format.MemberLemmas.{first_member, later_member, member_cases, no_member}
use Rattle.bdb_graph.proofs.of_format.TurnLemmas.{length-slice_range}
use Rattle.bdb_graph.proofs.of_layout.BlockLemmas.{after_first, blocks_of-cons, lacks_block, with_first, whole_block}
use Rattle.bdb_graph.specs.of_format.declared.kinds.Order.{Order}
use Rattle.bdb_graph.specs.of_format.Terms.{blocks_of, number, number_at, turned, two_at}
use Rattle.bdb_law_turned.specs.Fields.{Field, block_fields, field}
use Rattle.bdb_law_turned.specs.Apart.{IsUntouched}
use Rattle.bdb_law_turned.proofs.ReadLemmas.{IsTurned, number_same, slice_same}
use Rattle.bdb_law_turned.proofs.ApartLemmas.{Between}

-- these blocks stand one after another on a page, from a place up to another
abbrev pub RunsTo : Order → List ℕ → ℕ → ℕ → List (List ℕ) → Type 0
RunsTo order page from to [] = from ≡ to
RunsTo order page from to (block ∷ blocks) =
    (two_at order page from ≡ length block)
    × ((from + 4 + length block ≤ to)
    × ((two_at order page (from + 2 + length block) ≡ length block)
    × ((slice_range page (from + 2) (from + 2 + length block) ≡ block) × RunsTo order page (from + 4 + length block) to blocks)))

-- A slice of a slice.

rest_of_slice : (page : List ℕ) (from to n : ℕ) → from + n ≤ to → drop n (slice_range page from to) ≡ slice_range page (from + n) to
rest_of_slice page from to n inside =
    let m : ℕ = to - (from + n) in
    let size : to - from ≡ n + m = omega arith in
    let first : drop n (take (n + m) (drop from page)) ≡ take m (drop n (drop from page)) = drop-take n m (drop from page) in
    let second : drop n (drop from page) ≡ drop (from + n) page = drop-drop n from page in
    ap (λ (k : ℕ). drop n (take k (drop from page))) size ∙ (first ∙ ap (take m) second)

front_of_slice : (page : List ℕ) (from to n : ℕ) → from + n ≤ to → take n (slice_range page from to) ≡ take n (drop from page)
front_of_slice page from to n inside = take-take n (to - from) (drop from page) (omega arith)

number_in_slice : (order : Order) (page : List ℕ) (from to at : ℕ) → from + at + 2 ≤ to → two_at order (slice_range page from to) at
    ≡ two_at order page (from + at)
unfolding number_at
number_in_slice order page from to at inside =
    let rest : drop at (slice_range page from to) ≡ slice_range page (from + at) to = rest_of_slice page from to at (omega arith) in
    let front : take 2 (slice_range page (from + at) to) ≡ take 2 (drop (from + at) page) = front_of_slice page (from + at) to 2 (omega arith) in
    ap (λ bytes. number order (take 2 bytes)) rest ∙ ap (number order) front

part_of_slice : (page : List ℕ) (from to at n : ℕ) → from + at + n ≤ to → take n (drop at (slice_range page from to))
    ≡ slice_range page (from + at) (from + at + n)
part_of_slice page from to at n inside =
    let rest : drop at (slice_range page from to) ≡ slice_range page (from + at) to = rest_of_slice page from to at (omega arith) in
    let front : take n (slice_range page (from + at) to) ≡ take n (drop (from + at) page) = front_of_slice page (from + at) to n (omega arith) in
    let size : n ≡ from + at + n - (from + at) = omega arith in
    ap (take n) rest ∙ (front ∙ ap (λ (k : ℕ). take k (drop (from + at) page)) size)

-- A run reads as its blocks.

empty_slice : (order : Order) (page : List ℕ) (from to : ℕ) → from ≡ to → blocks_of order (slice_range page from to) ≡ Some []
unfolding blocks_of
empty_slice order page from to same = let none : to - from ≡ 0 = omega arith in rw none refl

pub run_reads : (order : Order) (page : List ℕ) (from to : ℕ) (blocks : List (List ℕ)) → to ≤ length page → RunsTo order page from to blocks
    → blocks_of order (slice_range page from to) ≡ Some blocks
run_reads order page from to [] inside run = empty_slice order page from to run
run_reads order page from to (block ∷ blocks) inside run =
    let n : ℕ = length block in
    let bytes : List ℕ = slice_range page from to in
    let room : from + 4 + n ≤ to = run.1.0 in
    let long : length bytes ≡ to - from = length-slice_range page from to inside in
    let first : n ≡ two_at order bytes 0 =
    sym (number_in_slice order page from to 0 (omega arith) ∙ (ap (two_at order page) (let z : from + 0 ≡ from = omega arith in z) ∙ run.0)) in
    let last : n ≡ two_at order bytes (n + 2) =
    sym (number_in_slice order page from to (n + 2) (omega arith) ∙ (ap (two_at order page) (let z : from + (n + 2) ≡ from + 2 + n = omega arith in z)
    ∙ run.1.1.0)) in
    let on : blocks_of order bytes ≡ option_map (λ rest. take n (drop 2 bytes) ∷ rest) (blocks_of order (drop (n + 4) bytes)) =
    whole_block order bytes n n first (omega arith) last refl in
    let data_is : take n (drop 2 bytes) ≡ block = part_of_slice page from to 2 n (omega arith) ∙ run.1.1.1.0 in
    let shift : from + (n + 4) ≡ from + 4 + n = omega arith in
    let rest_is : drop (n + 4) bytes ≡ slice_range page (from + 4 + n) to =
    rest_of_slice page from to (n + 4) (omega arith) ∙ ap (λ (k : ℕ). slice_range page k to) shift in
    let rest : blocks_of order (slice_range page (from + 4 + n) to) ≡ Some blocks = run_reads order page (from + 4 + n) to blocks inside run.1.1.1.1 in
    on ∙ (ap (λ bs. option_map (λ others. take n (drop 2 bytes) ∷ others) (blocks_of order bs)) rest_is
    ∙ (ap (option_map (λ others. take n (drop 2 bytes) ∷ others)) rest ∙ ap (λ b. Some (b ∷ blocks)) data_is))

-- A run in the other order.

pub run_turned : (fields : List Field) (page other : List ℕ) (order : Order) (from to : ℕ) (blocks : List (List ℕ)) → IsTurned fields page other
    → to ≤ length page
    → ((f : Field) → Contains (block_fields from blocks) f → Contains fields f)
    → ((k : ℕ) → from ≤ k → k < to → IsUntouched (block_fields from blocks) k → IsUntouched fields k)
    → RunsTo order page from to blocks → RunsTo (turned order) other from to blocks
run_turned fields page other order from to [] is inside has free run = run
run_turned fields page other order from to (block ∷ blocks) is inside has free run =
    let n : ℕ = length block in
    let room : from + 4 + n ≤ to = run.1.0 in
    let later : List Field = field (from + 2 + n) 2 ∷ block_fields (from + 4 + n) blocks in
    let first : two_at (turned order) other from ≡ two_at order page from =
    number_same fields page other order from 2 is (has (field from 2) (first_member (field from 2) later)) in
    let last : two_at (turned order) other (from + 2 + n) ≡ two_at order page (from + 2 + n) =
    number_same fields page other order (from + 2 + n) 2 is (has (field (from + 2 + n) 2) (later_member (field from 2) later (field (from + 2 + n) 2)
    (first_member (field (from + 2 + n) 2) (block_fields (from + 4 + n) blocks)))) in
    let rest_low : (f : Field) → Contains (block_fields (from + 4 + n) blocks) f → from + 4 + n ≤ f.begin = λ f at. blocks_behind (from + 4 + n) blocks f at in
    let data_free : (k : ℕ) → from + 2 ≤ k → k < from + 2 + n → IsUntouched (field from 2 ∷ later) k =
    λ k low high f at. elim (member_cases (field from 2) later f at) [
      | inl same ↦ let b : f.begin ≡ from = ap (λ (h : Field). h.begin) (sym same) in let w : f.width ≡ 2 = ap (λ (h : Field). h.width) (sym same) in inr
          (omega arith)
      | inr more ↦ elim (member_cases (field (from + 2 + n) 2) (block_fields (from + 4 + n) blocks) f more) [
        | inl same ↦ let b : f.begin ≡ from + 2 + n = ap (λ (h : Field). h.begin) (sym same) in inl (omega arith)
        | inr rest ↦ let b : from + 4 + n ≤ f.begin = rest_low f rest in inl (omega arith)
      ]
    ] in
    let bytes_same : slice_range other (from + 2) (from + 2 + n) ≡ slice_range page (from + 2) (from + 2 + n) =
    slice_same fields page other (from + 2) (from + 2 + n) is (omega arith) (λ k low high. free k (omega arith) (omega arith) (data_free k low high)) in
    let rest_free : (k : ℕ) → from + 4 + n ≤ k → k < to → IsUntouched (block_fields (from + 4 + n) blocks) k → IsUntouched fields k =
    λ k low high untouched. free k (omega arith) high (λ f at. elim (member_cases (field from 2) later f at) [
      | inl same ↦ let b : f.begin ≡ from = ap (λ (h : Field). h.begin) (sym same) in let w : f.width ≡ 2 = ap (λ (h : Field). h.width) (sym same) in inr
          (omega arith)
      | inr more ↦ elim (member_cases (field (from + 2 + n) 2) (block_fields (from + 4 + n) blocks) f more) [
        | inl same ↦ let b : f.begin ≡ from + 2 + n = ap (λ (h : Field). h.begin) (sym same) in let w : f.width ≡ 2 = ap (λ (h : Field). h.width) (sym same) in
            inr (omega arith)
        | inr rest ↦ untouched f rest
      ]
    ]) in
    let rest_has : (f : Field) → Contains (block_fields (from + 4 + n) blocks) f → Contains fields f =
    λ f at. has f (later_member (field from 2) later f (later_member (field (from + 2 + n) 2) (block_fields (from + 4 + n) blocks) f at)) in (
      first ∙ run.0,
      (
        room,
        (
          last ∙ run.1.1.0,
          (
            bytes_same ∙ run.1.1.1.0,
            run_turned fields page other order (from + 4 + n) to blocks is inside rest_has rest_free run.1.1.1.1,
          ),
        ),
      ),
    )
  where
    blocks_behind : (from : ℕ) (blocks : List (List ℕ)) (f : Field) → Contains (block_fields from blocks) f → from ≤ f.begin
    blocks_behind from [] f at = absurd (no_member [] f refl at)
    blocks_behind from (block ∷ blocks) f at =
        let n : ℕ = length block in
        elim (member_cases (field from 2) (field (from + 2 + n) 2 ∷ block_fields (from + 4 + n) blocks) f at) [
          | inl same ↦ let b : f.begin ≡ from = ap (λ (h : Field). h.begin) (sym same) in omega arith
          | inr more ↦ elim (member_cases (field (from + 2 + n) 2) (block_fields (from + 4 + n) blocks) f more) [
            | inl same ↦ let b : f.begin ≡ from + 2 + n = ap (λ (h : Field). h.begin) (sym same) in omega arith
            | inr rest ↦ let b : from + 4 + n ≤ f.begin = blocks_behind (from + 4 + n) blocks f rest in omega arith
          ]
        ]

-- the numbers of a run lie one after another
pub run_between : (order : Order) (page : List ℕ) (from to : ℕ) (blocks : List (List ℕ)) → RunsTo order page from to blocks
    → Between from (block_fields from blocks) to
run_between order page from to [] run = let same : from ≡ to = run in omega arith
run_between order page from to (block ∷ blocks) run =
    let n : ℕ = length block in
    let rest : Between (from + 4 + n) (block_fields (from + 4 + n) blocks) to = run_between order page (from + 4 + n) to blocks run.1.1.1.1 in
    let shift : from + 4 + n ≡ from + 2 + n + 2 = omega arith in
    (omega arith, (omega arith, subst (λ (k : ℕ). Between k (block_fields (from + 4 + n) blocks) to) shift rest))

-- What a run of blocks says of its page.

pub record Parts (order : Order) (bytes block : List ℕ) (blocks : List (List ℕ)) : Type 0 where
  pub first : two_at order bytes 0 ≡ length block
  pub room : length block + 4 ≤ length bytes
  pub last : two_at order bytes (length block + 2) ≡ length block
  pub held : take (length block) (drop 2 bytes) ≡ block
  pub rest : blocks_of order (drop (length block + 4) bytes) ≡ Some blocks

not_lacking : (order : Order) (bytes : List ℕ) → lacks_block order bytes ≡ false
    → (two_at order bytes 0 + 4 ≤ length bytes) × (two_at order bytes (two_at order bytes 0 + 2) ≡ two_at order bytes 0)
not_lacking order bytes whole = (grind (arith, nat_tests), grind (arith, nat_tests))

first_and_rest : {X : Type 0} (x y : X) (xs : List X) (found : Option (List X)) → option_map (λ others. x ∷ others) found ≡ Some (y ∷ xs)
    → (x ≡ y) × (found ≡ Some xs)
first_and_rest x y xs None same = absurd cc
first_and_rest x y xs (Some others) same = (cc, cc)

nothing : (order : Order) (block : List ℕ) (blocks : List (List ℕ)) → blocks_of order [] ≡ Some (block ∷ blocks) → ⊥
unfolding blocks_of
nothing order block blocks some = cc

pub run_parts : (order : Order) (bytes block : List ℕ) (blocks : List (List ℕ)) → blocks_of order bytes ≡ Some (block ∷ blocks) → Parts order bytes block blocks
run_parts order [] block blocks some = absurd (nothing order block blocks some)
run_parts order (b ∷ bs) block blocks some =
    let bytes : List ℕ = b ∷ bs in
    let turn : with_first order bytes (blocks_of order (after_first order bytes)) ≡ Some (block ∷ blocks) = sym (blocks_of-cons order b bs) ∙ some in
    let n : ℕ = two_at order bytes 0 in
    elim (lacks_block order bytes) as (λ lacks. lacks_block order bytes ≡ lacks
    → cond lacks None (option_map (λ others. take n (drop 2 bytes) ∷ others) (blocks_of order (after_first order bytes))) ≡ Some (block ∷ blocks)
    → Parts order bytes block blocks) [
      | true ↦ λ is same. absurd cc
      | false ↦ λ is same.
          let test : (n + 4 ≤ length bytes) × (two_at order bytes (n + 2) ≡ n) = not_lacking order bytes is in
          let found : (take n (drop 2 bytes) ≡ block) × (blocks_of order (after_first order bytes) ≡ Some blocks) =
          first_and_rest (take n (drop 2 bytes)) block blocks (blocks_of order (after_first order bytes)) same in
          let long : length (take n (drop 2 bytes)) ≡ n = length-take-le n (drop 2 bytes) (omega (arith, length-drop 2 bytes, test.0)) in
          let size : n ≡ length block = sym long ∙ ap length found.0 in
          record {
            first = size;
            room = subst (λ (k : ℕ). k + 4 ≤ length bytes) size test.0;
            last = subst (λ (k : ℕ). two_at order bytes (k + 2) ≡ k) size test.1;
            held = subst (λ (k : ℕ). take k (drop 2 bytes) ≡ block) size found.0;
            rest = subst (λ (k : ℕ). blocks_of order (drop (k + 4) bytes) ≡ Some blocks) size found.1;
          }
    ] refl turn

pub run_none : (order : Order) (bytes : List ℕ) → blocks_of order bytes ≡ Some [] → length bytes ≡ 0
run_none order [] some = refl
run_none order (b ∷ bs) some =
    let bytes : List ℕ = b ∷ bs in
    absurd (never (lacks_block order bytes) (take (two_at order bytes 0) (drop 2 bytes)) (blocks_of order (after_first order bytes))
    (sym (blocks_of-cons order b bs) ∙ some))
  where
    never : (lacks : Bool) (x : List ℕ) (found : Option (List (List ℕ))) → cond lacks None (option_map (λ others. x ∷ others) found) ≡ Some [] → ⊥
    never true x found same = cc
    never false x None same = cc
    never false x (Some others) same = cc

pub run_of : (order : Order) (page : List ℕ) (from to : ℕ) (blocks : List (List ℕ)) → from ≤ to → to ≤ length page
    → blocks_of order (slice_range page from to) ≡ Some blocks → RunsTo order page from to blocks
run_of order page from to [] ascends inside some =
    let none : length (slice_range page from to) ≡ 0 = run_none order (slice_range page from to) some in
    let long : length (slice_range page from to) ≡ to - from = length-slice_range page from to inside in
    omega arith
run_of order page from to (block ∷ blocks) ascends inside some =
    let bytes : List ℕ = slice_range page from to in
    let n : ℕ = length block in
    let parts : Parts order bytes block blocks = run_parts order bytes block blocks some in
    let long : length bytes ≡ to - from = length-slice_range page from to inside in
    let enough : n + 4 ≤ length bytes = parts.room in
    let room : from + 4 + n ≤ to = omega arith in
    let zero_on : from + 0 ≡ from = omega arith in
    let first : two_at order page from ≡ n = ap (two_at order page) (sym zero_on) ∙ (sym (number_in_slice order page from to 0 (omega arith)) ∙ parts.first) in
    let end_on : from + (n + 2) ≡ from + 2 + n = omega arith in
    let last : two_at order page (from + 2 + n) ≡ n =
    ap (two_at order page) (sym end_on) ∙ (sym (number_in_slice order page from to (n + 2) (omega arith)) ∙ parts.last) in
    let held : slice_range page (from + 2) (from + 2 + n) ≡ block = sym (part_of_slice page from to 2 n (omega arith)) ∙ parts.held in
    let shift : from + (n + 4) ≡ from + 4 + n = omega arith in
    let rest_is : drop (n + 4) bytes ≡ slice_range page (from + 4 + n) to =
    rest_of_slice page from to (n + 4) (omega arith) ∙ ap (λ (k : ℕ). slice_range page k to) shift in
    let rest : blocks_of order (slice_range page (from + 4 + n) to) ≡ Some blocks = ap (blocks_of order) (sym rest_is) ∙ parts.rest in
    (first, (room, (last, (held, run_of order page (from + 4 + n) to blocks room inside rest))))
