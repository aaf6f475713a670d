-- Hash pages whose numbers are byte-swapped.
use Rattle.std.proofs.Common.{◌≡◌, ◌∙◌, ◌⊎◌, inl, inr, ℕ, zero, suc, ◌+◌, ◌-◌, ◌*◌, ◌<◌, ◌≤◌, List, [], ◌∷◌, length, refl, sym, ap, subst, arith, slice_range}
use Rattle.std.proofs.Common.{false, ◌==◌, Some, None, unwrap_or, Contains}
use Rattle.std.proofs.Math.Dec.{eqb-suc-zero}
use Rattle.std.proofs.lemmas.Bool.Decides.{nat_tests}
use Rattle.bdb_graph.proofs.of_format.MemberLemmas.{first_member, later_member, no_member}
use Rattle.bdb_graph.proofs.of_layout.RowLemmas.{hash_fits}
use Rattle.bdb_graph.specs.of_layout.Fits.{FitsHash}
use Rattle.bdb_graph.specs.of_format.declared.kinds.Order.{Order}
use Rattle.bdb_graph.specs.of_format.Terms.{Chain, Content, Inline, Item, Set, Tree, blocks_of, byte_at, does_not_fall, entries_of, first_row, four_at}
use Rattle.bdb_graph.specs.of_format.Terms.{hash_content, hash_end, hash_item_at, hash_rows, misses_extent, offset_of, turned}
use Rattle.bdb_law_turned.specs.Fields.{Field, block_fields, field, hash_fields}
use Rattle.bdb_law_turned.specs.Apart.{IsUntouched, run_length}
pub use Rattle.bdb_law_turned.specs.Parts.{hash_part}
use Rattle.bdb_law_turned.specs.Parts.{hash_item_end}
use Rattle.bdb_law_turned.proofs.ReadLemmas.{IsTurned, number_same, slice_same}
use Rattle.bdb_law_turned.proofs.ApartLemmas.{Between, bounds}
use Rattle.bdb_law_turned.proofs.ListedLemmas.{ArePlaced, all_fields, in_index, in_item, untouched_in_item}
use Rattle.bdb_law_turned.proofs.RunLemmas.{RunsTo, run_between, run_of, run_reads, run_turned}
use Rattle.bdb_graph.proofs.of_layout.BlockLemmas.{some_left}
use Rattle.bdb_law_turned.proofs.InnerLemmas.{lower}

-- no row of a hash page holds
pub record IsHash (order : Order) (page : List ℕ) : Type 0 where
  pub room : 26 + 2 * entries_of order page ≤ length page
  pub rows : (i : ℕ) → i < entries_of order page → first_row (hash_rows order page i) ≡ None

abbrev pub hash_low : Order → List ℕ → ℕ → ℕ
hash_low order page i = offset_of order page i

abbrev pub hash_high : Order → List ℕ → ℕ → ℕ
hash_high order page i = hash_end order page i

abbrev pub hash_all : Order → List ℕ → List Field
hash_all order page = all_fields (entries_of order page) (hash_part order page)

content_is : (order : Order) (page : List ℕ) (i : ℕ)
    → (hash_item_at order page i).content ≡ hash_content order page (offset_of order page i) (hash_end order page i) (byte_at page (offset_of order page i))
unfolding hash_item_at
content_is order page i = refl

-- an item by its kind
pub data HashCase (order : Order) (page : List ℕ) (at end : ℕ) (content : Content) : Type 0 where
  IsInline : byte_at page at ≡ 1 → content ≡ Inline (slice_range page (at + 1) end) → HashCase order page at end content
  IsSet : byte_at page at ≡ 2 → (blocks : List (List ℕ)) → content ≡ Set blocks → RunsTo order page (at + 1) end blocks → HashCase order page at end content
  IsChain : byte_at page at ≡ 3 → content ≡ Chain (four_at order page (at + 4)) (four_at order page (at + 8)) → end ≡ at + 12
      → HashCase order page at end content
  IsTree : byte_at page at ≡ 4 → content ≡ Tree (four_at order page (at + 4)) → end ≡ at + 8 → HashCase order page at end content

one_to_four : (k : ℕ) → 1 ≤ k → k ≤ 4 → (k ≡ 1) ⊎ ((k ≡ 2) ⊎ ((k ≡ 3) ⊎ (k ≡ 4)))
one_to_four k low high = grind arith

pub hash_case : (order : Order) (page : List ℕ) (i : ℕ) → first_row (hash_rows order page i) ≡ None
    → HashCase order page (offset_of order page i) (hash_end order page i) (hash_item_at order page i).content
hash_case order page i none =
    let at : ℕ = offset_of order page i in
    let end : ℕ = hash_end order page i in
    let fits : FitsHash order page at end = hash_fits order page i none in
    let bytes : List ℕ = slice_range page (at + 1) end in
    let begins : at < end = fits.begins in
    elim (one_to_four (byte_at page at) fits.least fits.most) [
      | inl one ↦ IsInline one (content_is order page i ∙ ap (hash_content order page at end) one)
      | inr (inl two) ↦
          IsSet two (unwrap_or (blocks_of order bytes) []) (content_is order page i ∙ ap (hash_content order page at end) two)
          (run_of order page (at + 1) end (unwrap_or (blocks_of order bytes) []) (omega arith) fits.ends (some_left (blocks_of order bytes) (fits.set two)))
      | inr (inr (inl three)) ↦ IsChain three (content_is order page i ∙ ap (hash_content order page at end) three) (fits.chain three)
      | inr (inr (inr four)) ↦ IsTree four (content_is order page i ∙ ap (hash_content order page at end) four) (fits.tree four)
    ]

run_long : (order : Order) (page : List ℕ) (from to : ℕ) (blocks : List (List ℕ)) → RunsTo order page from to blocks → from + run_length blocks ≡ to
run_long order page from to [] run = let same : from ≡ to = run in omega arith
run_long order page from to (block ∷ blocks) run =
    let rest : from + 4 + length block + run_length blocks ≡ to = run_long order page (from + 4 + length block) to blocks run.1.1.1.1 in omega arith

-- the numbers of an item of which no row holds stand on the page
pub hash_ends_at : (order : Order) (page : List ℕ) (i at : ℕ) (item : Item) → at ≡ offset_of order page i → item ≡ hash_item_at order page i
    → first_row (hash_rows order page i) ≡ None → hash_item_end at item.content ≤ length page
hash_ends_at order page i at item at_is item_is none =
    let begin : ℕ = offset_of order page i in
    let end : ℕ = hash_end order page i in
    let fits : FitsHash order page begin end = hash_fits order page i none in
    let begins : begin < end = fits.begins in
    let ends : end ≤ length page = fits.ends in
    let same : hash_item_end at item.content ≡ hash_item_end begin (hash_item_at order page i).content =
    ap (λ (k : ℕ). hash_item_end k item.content) at_is ∙ ap (λ (it : Item). hash_item_end begin it.content) item_is in
    elim (hash_case order page i none) [
      | IsInline kind is ↦ let here : hash_item_end begin (hash_item_at order page i).content ≡ begin = ap (hash_item_end begin) is in omega arith
      | IsSet kind blocks is run ↦
          let here : hash_item_end begin (hash_item_at order page i).content ≡ begin + 1 + run_length blocks = ap (hash_item_end begin) is in
          let long : begin + 1 + run_length blocks ≡ end = run_long order page (begin + 1) end blocks run in
          omega arith
      | IsChain kind is at_end ↦ let here : hash_item_end begin (hash_item_at order page i).content ≡ begin + 12 = ap (hash_item_end begin) is in omega arith
      | IsTree kind is at_end ↦ let here : hash_item_end begin (hash_item_at order page i).content ≡ begin + 8 = ap (hash_item_end begin) is in omega arith
    ]

-- items lie one after another down from the page's end

hash_begins : (order : Order) (page : List ℕ) (i : ℕ) → first_row (hash_rows order page i) ≡ None → 26 + 2 * entries_of order page ≤ offset_of order page i
unfolding hash_rows
hash_begins order page i none = grind (arith, nat_tests)

falls : (order : Order) (page : List ℕ) (i : ℕ) → first_row (hash_rows order page (suc i)) ≡ None → offset_of order page (suc i) < offset_of order page i
unfolding hash_rows
falls order page i none =
    let no_zero : (suc i == 0) ≡ false = eqb-suc-zero i in
    let back : suc i - 1 ≡ i = omega arith in
    grind (arith, nat_tests, none, no_zero, back)

end_of_next : (order : Order) (page : List ℕ) (i : ℕ) → hash_end order page (suc i) ≡ offset_of order page i
end_of_next order page i =
    let no_zero : (suc i == 0) ≡ false = eqb-suc-zero i in
    let back : suc i - 1 ≡ i = omega arith in
    rw (no_zero, back) refl

descends : (order : Order) (page : List ℕ) → IsHash order page → (d j : ℕ) → j + d < entries_of order page
    → offset_of order page (j + d) ≤ offset_of order page j
descends order page is zero j lt = let same : j + 0 ≡ j = omega arith in let at : offset_of order page (j + 0)
    ≡ offset_of order page j = ap (offset_of order page) same in omega arith
descends order page is (suc d) j lt =
    let next : j + suc d ≡ suc (j + d) = omega arith in
    let rest : offset_of order page (j + d) ≤ offset_of order page j = descends order page is d j (omega arith) in
    let row : first_row (hash_rows order page (suc (j + d))) ≡ None = is.rows (suc (j + d)) (omega arith) in
    let step : offset_of order page (suc (j + d)) < offset_of order page (j + d) = falls order page (j + d) row in
    let at : offset_of order page (j + suc d) ≡ offset_of order page (suc (j + d)) = ap (offset_of order page) next in
    omega arith

later_ends : (order : Order) (page : List ℕ) → IsHash order page → (i j : ℕ) → j < i → i < entries_of order page
    → hash_end order page i ≤ offset_of order page j
later_ends order page is zero j lt below = absurd (omega arith)
later_ends order page is (suc i) j lt below =
    let there : j + (i - j) ≡ i = omega arith in
    let down : offset_of order page (j + (i - j)) ≤ offset_of order page j = descends order page is (i - j) j (omega arith) in
    let at : offset_of order page (j + (i - j)) ≡ offset_of order page i = ap (offset_of order page) there in
    let end : hash_end order page (suc i) ≡ offset_of order page i = end_of_next order page i in
    omega arith

compare : (i j : ℕ) → (i ≡ j) ⊎ ((i < j) ⊎ (j < i))
compare i j = grind arith

hash_between : (order : Order) (page : List ℕ) (at end : ℕ) (content : Content) → at < end → HashCase order page at end content
    → Between at (hash_fields at content) end
hash_between order page at end content begins (IsInline kind is) = subst (λ c. Between at (hash_fields at c) end) (sym is) (let l : at ≤ end = omega arith in l)
hash_between order page at end content begins (IsSet kind blocks is run) =
    subst (λ c. Between at (hash_fields at c) end) (sym is) (lower (at + 1) at end (block_fields (at + 1) blocks) (omega arith)
    (run_between order page (at + 1) end blocks run))
hash_between order page at end content begins (IsChain kind is ends) = subst (λ c. Between at (hash_fields at c) end) (sym is)
    (omega arith, (omega arith, omega arith))
hash_between order page at end content begins (IsTree kind is ends) = subst (λ c. Between at (hash_fields at c) end) (sym is) (omega arith, omega arith)

pub hash_placed : (order : Order) (page : List ℕ) → IsHash order page
    → ArePlaced (entries_of order page) (length page) (hash_part order page) (hash_low order page) (hash_high order page)
hash_placed order page is = record {
  room = is.room;
  begin = λ i lt. hash_begins order page i (is.rows i lt);
  end = λ i lt. (hash_fits order page i (is.rows i lt)).ends;
  parts = record {
    lies = λ i lt. hash_between order page (offset_of order page i) (hash_end order page i) (hash_item_at order page i).content
        (hash_fits order page i (is.rows i lt)).begins (hash_case order page i (is.rows i lt));
    apart = λ i j lt_i lt_j. elim (compare i j) [
      | inl same ↦ inl (ap (hash_part order page) same)
      | inr (inl before) ↦ inr (inr (later_ends order page is j i before lt_j))
      | inr (inr past) ↦ inr (inl (later_ends order page is i j past lt_i))
    ];
  };
}

-- What is read in the other order.

-- no number of an item holds its first byte
kind_untouched : (order : Order) (page : List ℕ) (at end : ℕ) (content : Content) → at < end → HashCase order page at end content
    → IsUntouched (hash_fields at content) at
kind_untouched order page at end content begins (IsInline kind is) f has = absurd (no_member [] f refl (subst (λ c. Contains (hash_fields at c) f) is has))
kind_untouched order page at end content begins (IsSet kind blocks is run) f has =
    let low : (at + 1 ≤ f.begin) × (f.begin + f.width ≤ end) =
    bounds (at + 1) (block_fields (at + 1) blocks) end f (run_between order page (at + 1) end blocks run) (subst (λ c. Contains (hash_fields at c) f) is has) in
    inl (omega arith)
kind_untouched order page at end content begins (IsChain kind is ends) f has =
    let between : Between (at + 4) (field (at + 4) 4 ∷ field (at + 8) 4 ∷ []) (at + 12) = (omega arith, (omega arith, omega arith)) in
    let low : (at + 4 ≤ f.begin) × (f.begin + f.width ≤ at + 12) =
    bounds (at + 4) (field (at + 4) 4 ∷ field (at + 8) 4 ∷ []) (at + 12) f between (subst (λ c. Contains (hash_fields at c) f) is has) in
    inl (omega arith)
kind_untouched order page at end content begins (IsTree kind is ends) f has =
    let between : Between (at + 4) (field (at + 4) 4 ∷ []) (at + 8) = (omega arith, omega arith) in
    let low : (at + 4 ≤ f.begin) × (f.begin + f.width ≤ at + 8) =
    bounds (at + 4) (field (at + 4) 4 ∷ []) (at + 8) f between (subst (λ c. Contains (hash_fields at c) f) is has) in
    inl (omega arith)

pub record HashTurned (order : Order) (page other : List ℕ) (i : ℕ) : Type 0 where
  pub offset : offset_of (turned order) other i ≡ offset_of order page i
  pub end : hash_end (turned order) other i ≡ hash_end order page i
  pub kind : byte_at other (offset_of order page i) ≡ byte_at page (offset_of order page i)
  pub content : hash_content (turned order) other (offset_of order page i) (hash_end order page i) (byte_at page (offset_of order page i))
      ≡ hash_content order page (offset_of order page i) (hash_end order page i) (byte_at page (offset_of order page i))
  pub extent : misses_extent (turned order) other (offset_of order page i) (hash_end order page i) (byte_at page (offset_of order page i))
      ≡ misses_extent order page (offset_of order page i) (hash_end order page i) (byte_at page (offset_of order page i))
  pub falls : does_not_fall (turned order) other i ≡ does_not_fall order page i

end_same : (order : Order) (page other : List ℕ) (n i : ℕ) → length other ≡ length page → i < n
    → ((j : ℕ) → j < n → offset_of (turned order) other j ≡ offset_of order page j) → hash_end (turned order) other i ≡ hash_end order page i
end_same order page other n zero lengths lt offsets = lengths
end_same order page other n (suc i) lengths lt offsets = end_of_next (turned order) other i ∙ (offsets i (omega arith) ∙ sym (end_of_next order page i))

falls_same : (order : Order) (page other : List ℕ) (n i : ℕ) → i < n → ((j : ℕ) → j < n → offset_of (turned order) other j ≡ offset_of order page j)
    → does_not_fall (turned order) other i ≡ does_not_fall order page i
falls_same order page other n zero lt offsets = refl
falls_same order page other n (suc i) lt offsets =
    let back : suc i - 1 ≡ i = omega arith in
    rw (back, offsets i (omega arith), offsets (suc i) lt) refl

pub hash_turned : (order : Order) (page other : List ℕ) (i : ℕ) → IsHash order page → IsTurned (hash_all order page) page other → i < entries_of order page
    → HashTurned order page other i
hash_turned order page other i hash is lt =
    let n : ℕ = entries_of order page in
    let at : ℕ = offset_of order page i in
    let end : ℕ = hash_end order page i in
    let part : ℕ → List Field = hash_part order page in
    let content : Content = (hash_item_at order page i).content in
    let placed = hash_placed order page hash in
    let none : first_row (hash_rows order page i) ≡ None = hash.rows i lt in
    let fits : FitsHash order page at end = hash_fits order page i none in
    let begins : at < end = fits.begins in
    let inside : end ≤ length page = fits.ends in
    let lengths : length other ≡ length page = is.same_length in
    let offsets : (j : ℕ) → j < n → offset_of (turned order) other j ≡ offset_of order page j =
    λ j below. number_same (hash_all order page) page other order (26 + 2 * j) 2 is (in_index n part j below) in
    let has : (f : Field) → Contains (part i) f → Contains (hash_all order page) f = λ f here. in_item n part i f lt here in
    let untouched : (k : ℕ) → at ≤ k → k < end → IsUntouched (part i) k → IsUntouched (hash_all order page) k =
    λ k low below free. untouched_in_item n (length page) part (hash_low order page) (hash_high order page) i k placed lt low below free in
    let four : (begin : ℕ) → Contains (part i) (field begin 4) → four_at (turned order) other begin ≡ four_at order page begin =
    λ begin here. number_same (hash_all order page) page other order begin 4 is (has (field begin 4) here) in
    let case : HashCase order page at end content = hash_case order page i none in
    let kinds : byte_at other at ≡ byte_at page at = is.kept at (untouched at (omega arith) begins (kind_untouched order page at end content begins case)) in
    let ends : hash_end (turned order) other i ≡ end = end_same order page other n i lengths lt offsets in
    let fall : does_not_fall (turned order) other i ≡ does_not_fall order page i = falls_same order page other n i lt offsets in
    elim case [
      | IsInline kind what ↦
          let nothing : part i ≡ [] = ap (hash_fields at) what in
          let free : (k : ℕ) → at + 1 ≤ k → k < end → IsUntouched (hash_all order page) k =
          λ k low below. untouched k (omega arith) below (λ f here. absurd (no_member (part i) f nothing here)) in
          let bytes : slice_range other (at + 1) end ≡ slice_range page (at + 1) end = slice_same (hash_all order page) page other (at + 1) end is inside free
          in
          record {
            offset = offsets i lt;
            end = ends;
            kind = kinds;
            content = rw kind (ap Inline bytes);
            extent = rw (kind, lengths) refl;
            falls = fall;
          }
      | IsSet kind blocks what run ↦
          let parts : part i ≡ block_fields (at + 1) blocks = ap (hash_fields at) what in
          let here : RunsTo (turned order) other (at + 1) end blocks =
          run_turned (hash_all order page) page other order (at + 1) end blocks is inside
          (λ f held. has f (subst (λ fields. Contains fields f) (sym parts) held))
          (λ k low below free. untouched k (omega arith) below (subst (λ fields. IsUntouched fields k) (sym parts) free)) run in
          let there_reads : blocks_of (turned order) (slice_range other (at + 1) end) ≡ Some blocks = run_reads (turned order) other (at + 1) end blocks
          (omega arith) here in
          let reads : blocks_of order (slice_range page (at + 1) end) ≡ Some blocks = run_reads order page (at + 1) end blocks inside run in
          record {
            offset = offsets i lt;
            end = ends;
            kind = kinds;
            content = rw (kind, there_reads, reads) refl;
            extent = rw (kind, lengths, there_reads, reads) refl;
            falls = fall;
          }
      | IsChain kind what size ↦
          let parts : part i ≡ field (at + 4) 4 ∷ field (at + 8) 4 ∷ [] = ap (hash_fields at) what in
          let head : four_at (turned order) other (at + 4) ≡ four_at order page (at + 4) =
          four (at + 4) (subst (λ fields. Contains fields (field (at + 4) 4)) (sym parts) (first_member (field (at + 4) 4) (field (at + 8) 4 ∷ []))) in
          let total : four_at (turned order) other (at + 8) ≡ four_at order page (at + 8) =
          four (at + 8) (subst (λ fields. Contains fields (field (at + 8) 4)) (sym parts)
          (later_member (field (at + 4) 4) (field (at + 8) 4 ∷ []) (field (at + 8) 4) (first_member (field (at + 8) 4) []))) in
          record {
            offset = offsets i lt;
            end = ends;
            kind = kinds;
            content = rw (kind, head, total) refl;
            extent = rw (kind, lengths) refl;
            falls = fall;
          }
      | IsTree kind what size ↦
          let parts : part i ≡ field (at + 4) 4 ∷ [] = ap (hash_fields at) what in
          let root : four_at (turned order) other (at + 4) ≡ four_at order page (at + 4) =
          four (at + 4) (subst (λ fields. Contains fields (field (at + 4) 4)) (sym parts) (first_member (field (at + 4) 4) [])) in
          record {
            offset = offsets i lt;
            end = ends;
            kind = kinds;
            content = rw (kind, root) refl;
            extent = rw (kind, lengths) refl;
            falls = fall;
          }
    ]

pub item_same : (order : Order) (page other : List ℕ) (i : ℕ) → HashTurned order page other i → hash_item_at (turned order) other i ≡ hash_item_at order page i
unfolding hash_item_at
item_same order page other i is = rw (is.end, is.offset, is.kind, is.content) refl

pub item_rows_same : (order : Order) (page other : List ℕ) (i : ℕ) → length other ≡ length page → entries_of (turned order) other ≡ entries_of order page
    → HashTurned order page other i → hash_rows (turned order) other i ≡ hash_rows order page i
unfolding hash_rows
item_rows_same order page other i lengths entries is = rw (is.end, is.falls, is.offset, is.kind, is.extent, lengths, entries) refl
