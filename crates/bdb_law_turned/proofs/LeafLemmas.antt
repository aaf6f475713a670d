-- Leaves whose numbers are byte-swapped.
use Rattle.std.proofs.Common.{◌≡◌, ◌∙◌, inl, inr, ℕ, ◌+◌, ◌-◌, ◌*◌, ◌<◌, ◌≤◌, List, [], ◌∷◌, length, refl, sym, ap, subst, arith, slice_range, false, None}
use Rattle.std.proofs.Common.{Contains}
use Rattle.std.proofs.lemmas.Bool.Decides.{nat_tests}
use Rattle.bdb_graph.proofs.of_format.MemberLemmas.{first_member, later_member, member_cases, no_member}
use Rattle.bdb_graph.proofs.of_format.TurnLemmas.{length-slice_range}
use Rattle.bdb_graph.specs.of_format.declared.kinds.Order.{Order}
use Rattle.bdb_graph.specs.of_format.Terms.{Chain, Content, Inline, Item, Set, Tree, Unknown, byte_at, entries_of, first_row, four_at, header_of, item_rows}
use Rattle.bdb_graph.specs.of_format.Terms.{kind_at, leaf_content, leaf_end, leaf_item_at, leaf_rows, listed, listed_code, no_item, offset_of, turned, two_at}
use Rattle.bdb_graph.specs.of_format.declared.pages.PageType.{PageType}
use Rattle.bdb_law_turned.specs.Fields.{Field, field, leaf_fields}
use Rattle.bdb_graph.specs.of_form.Ends.{leaf_item_end}
use Rattle.bdb_graph.proofs.of_form.EndLemmas.{IsInline, IsTree, IsChain, kind_case}
use Rattle.bdb_law_turned.specs.Overlaps.{listed_overlap}
use Rattle.bdb_law_turned.specs.Apart.{IsUntouched}
pub use Rattle.bdb_law_turned.specs.Parts.{leaf_high, leaf_part}
use Rattle.bdb_law_turned.proofs.ReadLemmas.{IsTurned, number_same, slice_same}
use Rattle.bdb_law_turned.proofs.ApartLemmas.{Between}
use Rattle.bdb_law_turned.proofs.ListedLemmas.{ArePlaced, all_fields, header_same, in_header, in_index, in_item, listed_apart, listed_same, rows_same}
use Rattle.bdb_law_turned.proofs.ListedLemmas.{untouched_in_header, untouched_in_item}
use Rattle.bdb_graph.proofs.of_format.LeafLemmas.{one_offset}

-- no row of a leaf holds, and no two of its items overlap
pub record IsLeaf (order : Order) (page : List ℕ) : Type 0 where
  pub room : 26 + 2 * entries_of order page ≤ length page
  pub rows : (i : ℕ) → i < entries_of order page → first_row (leaf_rows order page i) ≡ None
  pub apart : listed_overlap (λ at (item : Item). leaf_item_end at item.content) no_item (listed order page (leaf_item_at order page)) ≡ false

abbrev pub leaf_low : Order → List ℕ → ℕ → ℕ
leaf_low order page i = offset_of order page i

leaf_between : (at : ℕ) (content : Content) → Between at (leaf_fields at content) (leaf_item_end at content)
leaf_between at (Inline bytes) = (omega arith, omega arith)
leaf_between at (Set blocks) = omega arith
leaf_between at (Chain head total) = (omega arith, (omega arith, omega arith))
leaf_between at (Tree root) = (omega arith, omega arith)
leaf_between at Unknown = omega arith

leaf_begins : (order : Order) (page : List ℕ) (i : ℕ) → first_row (leaf_rows order page i) ≡ None → 26 + 2 * entries_of order page ≤ offset_of order page i
unfolding leaf_rows
leaf_begins order page i none = grind (arith, nat_tests)

pub leaf_ends : (order : Order) (page : List ℕ) (i : ℕ) → first_row (leaf_rows order page i) ≡ None → leaf_high order page i ≤ length page
leaf_ends order page i none =
    let at : ℕ = offset_of order page i in
    elim (kind_case order page i none) [
      | IsInline kind is inside ↦
          let long : length (slice_range page (at + 3) (at + 3 + two_at order page at)) ≡ at + 3 + two_at order page at - (at + 3) =
          length-slice_range page (at + 3) (at + 3 + two_at order page at) inside in
          let end : leaf_high order page i ≡ at + 3 + length (slice_range page (at + 3) (at + 3 + two_at order page at)) = ap (leaf_item_end at) is in
          omega arith
      | IsTree kind is inside ↦ let end : leaf_high order page i ≡ at + 12 = ap (leaf_item_end at) is in omega arith
      | IsChain kind is inside ↦ let end : leaf_high order page i ≡ at + 12 = ap (leaf_item_end at) is in omega arith
    ]

pub leaf_placed : (order : Order) (page : List ℕ) → IsLeaf order page
    → ArePlaced (entries_of order page) (length page) (leaf_part order page) (leaf_low order page) (leaf_high order page)
leaf_placed order page is = record {
  room = is.room;
  begin = λ i lt. leaf_begins order page i (is.rows i lt);
  end = λ i lt. leaf_ends order page i (is.rows i lt);
  parts = record {
    lies = λ i lt. leaf_between (offset_of order page i) (leaf_item_at order page i).content;
    apart = λ i j lt_i lt_j.
        elim (listed_apart (λ at (item : Item). leaf_item_end at item.content) no_item order page (leaf_item_at order page) is.apart i j lt_i lt_j) [
          | inl same ↦
              let item : leaf_item_at order page i ≡ leaf_item_at order page j = one_offset order page i j same in
              inl (cc)
          | inr rest ↦ inr rest
        ];
  };
}

-- What is read in the other order.

abbrev pub leaf_all : Order → List ℕ → List Field
leaf_all order page = all_fields (entries_of order page) (leaf_part order page)

-- the byte of an item's kind is in no number of the item
kind_untouched : (at : ℕ) (content : Content) → IsUntouched (leaf_fields at content) (at + 2)
kind_untouched at (Inline bytes) f has =
    elim (member_cases (field at 2) [] f has) [
      | inl same ↦ let b : f.begin ≡ at = ap (λ (h : Field). h.begin) (sym same) in let w : f.width ≡ 2 = ap (λ (h : Field). h.width) (sym same) in inr
          (omega arith)
      | inr later ↦ absurd (no_member [] f refl later)
    ]
kind_untouched at (Set blocks) f has = absurd (no_member [] f refl has)
kind_untouched at (Chain head total) f has =
    elim (member_cases (field (at + 4) 4) (field (at + 8) 4 ∷ []) f has) [
      | inl same ↦ let b : f.begin ≡ at + 4 = ap (λ (h : Field). h.begin) (sym same) in inl (omega arith)
      | inr later ↦ elim (member_cases (field (at + 8) 4) [] f later) [
        | inl same ↦ let b : f.begin ≡ at + 8 = ap (λ (h : Field). h.begin) (sym same) in inl (omega arith)
        | inr none ↦ absurd (no_member [] f refl none)
      ]
    ]
kind_untouched at (Tree root) f has =
    elim (member_cases (field (at + 4) 4) [] f has) [
      | inl same ↦ let b : f.begin ≡ at + 4 = ap (λ (h : Field). h.begin) (sym same) in inl (omega arith)
      | inr later ↦ absurd (no_member [] f refl later)
    ]
kind_untouched at Unknown f has = absurd (no_member [] f refl has)

inline_untouched : (at k : ℕ) (bytes : List ℕ) → at + 3 ≤ k → IsUntouched (leaf_fields at (Inline bytes)) k
inline_untouched at k bytes past f has =
    elim (member_cases (field at 2) [] f has) [
      | inl same ↦ let b : f.begin ≡ at = ap (λ (h : Field). h.begin) (sym same) in let w : f.width ≡ 2 = ap (λ (h : Field). h.width) (sym same) in inr
          (omega arith)
      | inr later ↦ absurd (no_member [] f refl later)
    ]

-- what is known of an item of a page that is byte-swapped
pub record ItemTurned (order : Order) (page other : List ℕ) (i : ℕ) : Type 0 where
  pub offset : offset_of (turned order) other i ≡ offset_of order page i
  pub kind : byte_at other (offset_of order page i + 2) ≡ byte_at page (offset_of order page i + 2)
  pub content : leaf_content (turned order) other (offset_of order page i) (kind_at page (offset_of order page i))
      ≡ leaf_content order page (offset_of order page i) (kind_at page (offset_of order page i))
  pub end : leaf_end (turned order) other (offset_of order page i) ≡ leaf_end order page (offset_of order page i)

pub item_turned : (order : Order) (page other : List ℕ) (i : ℕ) → IsLeaf order page → IsTurned (leaf_all order page) page other → i < entries_of order page
    → ItemTurned order page other i
item_turned order page other i leaf is lt =
    let n : ℕ = entries_of order page in
    let at : ℕ = offset_of order page i in
    let part : ℕ → List Field = leaf_part order page in
    let high : ℕ = leaf_high order page i in
    let content : Content = (leaf_item_at order page i).content in
    let placed = leaf_placed order page leaf in
    let none : first_row (leaf_rows order page i) ≡ None = leaf.rows i lt in
    let offset : offset_of (turned order) other i ≡ at = number_same (leaf_all order page) page other order (26 + 2 * i) 2 is (in_index n part i lt) in
    let has : (f : Field) → Contains (part i) f → Contains (leaf_all order page) f = λ f here. in_item n part i f lt here in
    let untouched : (k : ℕ) → at ≤ k → k < high → IsUntouched (part i) k → IsUntouched (leaf_all order page) k =
    λ k low below free. untouched_in_item n (length page) part (leaf_low order page) (leaf_high order page) i k placed lt low below free in
    let two : Contains (part i) (field at 2) → two_at (turned order) other at ≡ two_at order page at =
    λ here. number_same (leaf_all order page) page other order at 2 is (has (field at 2) here) in
    let four : (begin : ℕ) → Contains (part i) (field begin 4) → four_at (turned order) other begin ≡ four_at order page begin =
    λ begin here. number_same (leaf_all order page) page other order begin 4 is (has (field begin 4) here) in
    elim (kind_case order page i none) [
      | IsInline kind what inside ↦
          let n_bytes : ℕ = two_at order page at in
          let bytes : List ℕ = slice_range page (at + 3) (at + 3 + n_bytes) in
          let end : high ≡ at + 3 + length bytes = ap (leaf_item_end at) what in
          let long : length bytes ≡ at + 3 + n_bytes - (at + 3) = length-slice_range page (at + 3) (at + 3 + n_bytes) inside in
          let parts : part i ≡ field at 2 ∷ [] = ap (leaf_fields at) what in
          let same_length : two_at (turned order) other at ≡ n_bytes = two
          (subst (λ fields. Contains fields (field at 2)) (sym parts) (first_member (field at 2) [])) in
          let kind_free : IsUntouched (leaf_all order page) (at + 2) = untouched (at + 2) (omega arith) (omega arith) (kind_untouched at content) in
          let kinds : byte_at other (at + 2) ≡ byte_at page (at + 2) = is.kept (at + 2) kind_free in
          let free : (k : ℕ) → at + 3 ≤ k → k < at + 3 + n_bytes → IsUntouched (leaf_all order page) k =
          λ k low below. untouched k (omega arith) (omega arith) (subst (λ fields. IsUntouched fields k) (sym parts) (inline_untouched at k bytes low)) in
          let same_bytes : slice_range other (at + 3) (at + 3 + n_bytes) ≡ bytes =
          slice_same (leaf_all order page) page other (at + 3) (at + 3 + n_bytes) is inside free in
          record {
            offset = offset;
            kind = kinds;
            content = rw (kind, same_length) (ap Inline same_bytes);
            end = rw (kinds, kind, same_length) refl;
          }
      | IsTree kind what inside ↦
          let end : high ≡ at + 12 = ap (leaf_item_end at) what in
          let parts : part i ≡ field (at + 4) 4 ∷ [] = ap (leaf_fields at) what in
          let root : four_at (turned order) other (at + 4) ≡ four_at order page (at + 4) =
          four (at + 4) (subst (λ fields. Contains fields (field (at + 4) 4)) (sym parts) (first_member (field (at + 4) 4) [])) in
          let kinds : byte_at other (at + 2) ≡ byte_at page (at + 2) =
          is.kept (at + 2) (untouched (at + 2) (omega arith) (omega arith) (kind_untouched at content)) in
          record { offset = offset; kind = kinds; content = rw (kind, root) refl; end = rw (kinds, kind) refl }
      | IsChain kind what inside ↦
          let end : high ≡ at + 12 = ap (leaf_item_end at) what in
          let parts : part i ≡ field (at + 4) 4 ∷ field (at + 8) 4 ∷ [] = ap (leaf_fields at) what in
          let head : four_at (turned order) other (at + 4) ≡ four_at order page (at + 4) =
          four (at + 4) (subst (λ fields. Contains fields (field (at + 4) 4)) (sym parts) (first_member (field (at + 4) 4) (field (at + 8) 4 ∷ []))) in
          let total : four_at (turned order) other (at + 8) ≡ four_at order page (at + 8) =
          four (at + 8) (subst (λ fields. Contains fields (field (at + 8) 4)) (sym parts)
          (later_member (field (at + 4) 4) (field (at + 8) 4 ∷ []) (field (at + 8) 4) (first_member (field (at + 8) 4) []))) in
          let kinds : byte_at other (at + 2) ≡ byte_at page (at + 2) =
          is.kept (at + 2) (untouched (at + 2) (omega arith) (omega arith) (kind_untouched at content)) in
          record { offset = offset; kind = kinds; content = rw (kind, head, total) refl; end = rw (kinds, kind) refl }
    ]

pub item_same : (order : Order) (page other : List ℕ) (i : ℕ) → ItemTurned order page other i → leaf_item_at (turned order) other i ≡ leaf_item_at order page i
unfolding leaf_item_at
item_same order page other i is = rw (is.offset, is.kind, is.content) refl

pub item_rows_same : (order : Order) (page other : List ℕ) (i : ℕ) → length other ≡ length page → byte_at other 25 ≡ byte_at page 25
    → entries_of (turned order) other ≡ entries_of order page → ItemTurned order page other i → leaf_rows (turned order) other i ≡ leaf_rows order page i
unfolding leaf_rows
item_rows_same order page other i lengths type entries is = rw (is.offset, is.end, lengths, type, entries, is.kind) refl

-- what the other order says of a leaf
pub record LeafTurned (order : Order) (page other : List ℕ) : Type 0 where
  pub type : byte_at other 25 ≡ byte_at page 25
  pub number : four_at (turned order) other 8 ≡ four_at order page 8
  pub reads : listed (turned order) other (leaf_item_at (turned order) other) ≡ listed order page (leaf_item_at order page)
  pub rows : (t : PageType) → ((i : ℕ) → item_rows t order page i ≡ leaf_rows order page i)
      → ((i : ℕ) → item_rows t (turned order) other i ≡ leaf_rows (turned order) other i)
      → listed_code (turned order) other t ≡ listed_code order page t

pub leaf_turned : (order : Order) (page other : List ℕ) → IsLeaf order page → IsTurned (leaf_all order page) page other → LeafTurned order page other
leaf_turned order page other leaf is =
    let n : ℕ = entries_of order page in
    let part : ℕ → List Field = leaf_part order page in
    let placed = leaf_placed order page leaf in
    let free : (k : ℕ) → 24 ≤ k → k < 26 → IsUntouched (leaf_all order page) k =
    λ k low high. untouched_in_header n (length page) part (leaf_low order page) (leaf_high order page) k placed low high in
    let level : byte_at other 24 ≡ byte_at page 24 = is.kept 24 (free 24 (omega arith) (omega arith)) in
    let type : byte_at other 25 ≡ byte_at page 25 = is.kept 25 (free 25 (omega arith) (omega arith)) in
    let entries : entries_of (turned order) other ≡ n = number_same (leaf_all order page) page other order 20 2 is
    (in_header n part (field 20 2) (5, omega arith, refl)) in
    let own : four_at (turned order) other 8 ≡ four_at order page 8 =
    number_same (leaf_all order page) page other order 8 4 is (in_header n part (field 8 4) (2, omega arith, refl)) in
    let header : header_of (turned order) other ≡ header_of order page =
    header_same (leaf_all order page) page other order is (in_header n part) (free 24 (omega arith) (omega arith)) (free 25 (omega arith) (omega arith)) in
    let items : (i : ℕ) → i < n → ItemTurned order page other i = λ i lt. item_turned order page other i leaf is lt in
    record {
      type = type;
      number = own;
      reads = listed_same order page other (leaf_item_at order page) (leaf_item_at (turned order) other) header entries (λ i lt. (items i lt).offset)
          (λ i lt. item_same order page other i (items i lt));
      rows = λ t here there. rows_same t order page other is.same_length entries level
          (λ i lt. there i ∙ (item_rows_same order page other i is.same_length type entries (items i lt) ∙ sym (here i)));
    }
