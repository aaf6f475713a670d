-- Internal pages whose numbers are byte-swapped.
use Rattle.std.proofs.Common.{◌≡◌, ◌∙◌, inl, inr, ℕ, ◌+◌, ◌-◌, ◌*◌, ◌<◌, ◌≤◌, List, [], ◌∷◌, length, refl, sym, ap, subst, arith, slice_range, false, None}
use Rattle.std.proofs.Common.{Contains}
use Rattle.std.proofs.lemmas.Bool.Decides.{nat_tests}
use Rattle.bdb_graph.proofs.of_format.MemberLemmas.{first_member, later_member}
use Rattle.bdb_graph.proofs.of_format.TurnLemmas.{length-slice_range}
use Rattle.bdb_graph.proofs.of_layout.RowLemmas.{recno_fits}
use Rattle.bdb_graph.specs.of_format.declared.kinds.Order.{Order}
use Rattle.bdb_graph.specs.of_format.declared.pages.RecnoItem.{RecnoItem}
use Rattle.bdb_graph.specs.of_format.Terms.{Content, Inline, InternalItem, byte_at, entries_of, first_row, four_at, internal_item_at, internal_key}
use Rattle.bdb_graph.specs.of_format.Terms.{internal_rows, kind_at, listed, offset_of, recno_item_at, recno_rows, turned, two_at}
use Rattle.bdb_law_turned.specs.Fields.{Field, field, internal_fields, key_fields, no_internal, no_recno, recno_fields}
use Rattle.bdb_graph.specs.of_form.Ends.{internal_item_end}
use Rattle.bdb_graph.proofs.of_form.EndLemmas.{KeyInline as IsInline, KeyChain as IsChain, KeyCase, key_case}
use Rattle.bdb_law_turned.specs.Overlaps.{listed_overlap}
use Rattle.bdb_law_turned.specs.Apart.{IsUntouched}
pub use Rattle.bdb_law_turned.specs.Parts.{internal_high, internal_part, recno_high, recno_part}
use Rattle.bdb_law_turned.proofs.ReadLemmas.{IsTurned, number_same, slice_same}
use Rattle.bdb_law_turned.proofs.ApartLemmas.{Between, untouched_before, untouched_cons, untouched_past}
use Rattle.bdb_law_turned.proofs.ListedLemmas.{ArePlaced, all_fields, in_index, in_item, listed_apart, untouched_in_item}

-- no row of an internal page holds, and no two of its items overlap
pub record IsInternal (order : Order) (page : List ℕ) : Type 0 where
  pub room : 26 + 2 * entries_of order page ≤ length page
  pub rows : (i : ℕ) → i < entries_of order page → first_row (internal_rows order page i) ≡ None
  pub apart : listed_overlap (λ at (item : InternalItem). internal_item_end at item.key) no_internal (listed order page (internal_item_at order page)) ≡ false

abbrev pub internal_low : Order → List ℕ → ℕ → ℕ
internal_low order page i = offset_of order page i

abbrev pub internal_all : Order → List ℕ → List Field
internal_all order page = all_fields (entries_of order page) (internal_part order page)

pub same_item : (order : Order) (page : List ℕ) (i j : ℕ) → offset_of order page i ≡ offset_of order page j → internal_item_at order page i
    ≡ internal_item_at order page j
unfolding internal_item_at
same_item order page i j same =
    ap (λ (at : ℕ). let item : InternalItem = record {
      child = four_at order page (at + 4);
      count = four_at order page (at + 8);
      key = internal_key order page
          at (kind_at page at);
    } in item) same

internal_begins : (order : Order) (page : List ℕ) (i : ℕ) → first_row (internal_rows order page i) ≡ None
    → 26 + 2 * entries_of order page ≤ offset_of order page i
unfolding internal_rows
internal_begins order page i none = grind (arith, nat_tests)

key_between : (order : Order) (page : List ℕ) (at : ℕ) (key : Content) → KeyCase order page at key
    → Between (at + 12) (key_fields at key) (internal_item_end at key)
key_between order page at key (IsInline kind is inside) =
    subst (λ c. Between (at + 12) (key_fields at c) (internal_item_end at c)) (sym is)
    (let l : at + 12 ≤ at + 12 + length (slice_range page (at + 12) (at + 12 + two_at order page at)) = omega arith in l)
key_between order page at key (IsChain kind is inside) = subst (λ c. Between (at + 12) (key_fields at c) (internal_item_end at c)) (sym is)
    (omega arith, (omega arith, omega arith))

pub lower : (from low to : ℕ) (fields : List Field) → low ≤ from → Between from fields to → Between low fields to
lower from low to [] below between = let l : from ≤ to = between in omega arith
lower from low to (f ∷ fields) below between = let l : from ≤ f.begin = between.0 in (omega arith, between.1)

internal_between : (order : Order) (page : List ℕ) (at : ℕ) (item : InternalItem) → KeyCase order page at item.key
    → Between at (internal_fields at item) (internal_item_end at item.key)
internal_between order page at item case = (
  omega arith,
  (
    omega arith,
    (
      omega arith,
      lower (at + 12) (at + 8 + 4) (internal_item_end at item.key) (key_fields at item.key) (omega arith)
          (key_between order page at item.key case),
    ),
  ),
)

pub internal_ends : (order : Order) (page : List ℕ) (i : ℕ) → first_row (internal_rows order page i) ≡ None → internal_high order page i ≤ length page
internal_ends order page i none =
    let at : ℕ = offset_of order page i in
    elim (key_case order page i none) [
      | IsInline kind is inside ↦
          let long : length (slice_range page (at + 12) (at + 12 + two_at order page at)) ≡ at + 12 + two_at order page at - (at + 12) =
          length-slice_range page (at + 12) (at + 12 + two_at order page at) inside in
          let end : internal_high order page i ≡ at + 12 + length (slice_range page (at + 12) (at + 12 + two_at order page at)) = ap (internal_item_end at) is
          in
          omega arith
      | IsChain kind is inside ↦ let end : internal_high order page i ≡ at + 24 = ap (internal_item_end at) is in omega arith
    ]

pub internal_ends_at : (order : Order) (page : List ℕ) (i at : ℕ) (item : InternalItem) → at ≡ offset_of order page i → item ≡ internal_item_at order page i
    → first_row (internal_rows order page i) ≡ None → internal_item_end at item.key ≤ length page
internal_ends_at order page i at item at_is item_is none =
    let ends : internal_high order page i ≤ length page = internal_ends order page i none in
    let same : internal_item_end at item.key ≡ internal_high order page i =
    ap (λ (k : ℕ). internal_item_end k item.key) at_is ∙ ap (λ (it : InternalItem). internal_item_end (offset_of order page i) it.key) item_is in
    omega arith

pub internal_placed : (order : Order) (page : List ℕ) → IsInternal order page
    → ArePlaced (entries_of order page) (length page) (internal_part order page) (internal_low order page) (internal_high order page)
internal_placed order page is = record {
  room = is.room;
  begin = λ i lt. internal_begins order page i (is.rows i lt);
  end = λ i lt. internal_ends order page i (is.rows i lt);
  parts = record {
    lies = λ i lt. internal_between order page (offset_of order page i) (internal_item_at order page i) (key_case order page i (is.rows i lt));
    apart = λ i j lt_i lt_j.
        elim (listed_apart (λ at (item : InternalItem). internal_item_end at item.key) no_internal order page (internal_item_at order page) is.apart i j lt_i
        lt_j) [
          | inl same ↦
              let item : internal_item_at order page i ≡ internal_item_at order page j = same_item order page i j same in
              inl cc
          | inr rest ↦ inr rest
        ];
  };
}

pub record InternalTurned (order : Order) (page other : List ℕ) (i : ℕ) : Type 0 where
  pub offset : offset_of (turned order) other i ≡ offset_of order page i
  pub kind : byte_at other (offset_of order page i + 2) ≡ byte_at page (offset_of order page i + 2)
  pub size : two_at (turned order) other (offset_of order page i) ≡ two_at order page (offset_of order page i)
  pub child : four_at (turned order) other (offset_of order page i + 4) ≡ four_at order page (offset_of order page i + 4)
  pub count : four_at (turned order) other (offset_of order page i + 8) ≡ four_at order page (offset_of order page i + 8)
  pub key : internal_key (turned order) other (offset_of order page i) (kind_at page (offset_of order page i))
      ≡ internal_key order page (offset_of order page i) (kind_at page (offset_of order page i))

pub internal_turned : (order : Order) (page other : List ℕ) (i : ℕ) → IsInternal order page → IsTurned (internal_all order page) page other
    → i < entries_of order page
    → InternalTurned order page other i
internal_turned order page other i inner is lt =
    let n : ℕ = entries_of order page in
    let at : ℕ = offset_of order page i in
    let part : ℕ → List Field = internal_part order page in
    let high : ℕ = internal_high order page i in
    let key : Content = (internal_item_at order page i).key in
    let keys : List Field = key_fields at key in
    let placed = internal_placed order page inner in
    let none : first_row (internal_rows order page i) ≡ None = inner.rows i lt in
    let case : KeyCase order page at key = key_case order page i none in
    let has : (f : Field) → Contains (part i) f → Contains (internal_all order page) f = λ f here. in_item n part i f lt here in
    let untouched : (k : ℕ) → at ≤ k → k < high → IsUntouched (part i) k → IsUntouched (internal_all order page) k =
    λ k low below free. untouched_in_item n (length page) part (internal_low order page) (internal_high order page) i k placed lt low below free in
    let two : two_at (turned order) other at ≡ two_at order page at =
    number_same (internal_all order page) page other order at 2 is (has (field at 2) (first_member (field at 2) (field (at + 4) 4 ∷ field (at + 8) 4 ∷ keys)))
    in
    let four : (begin : ℕ) → Contains (part i) (field begin 4) → four_at (turned order) other begin ≡ four_at order page begin =
    λ begin here. number_same (internal_all order page) page other order begin 4 is (has (field begin 4) here) in
    let child_in : Contains (part i) (field (at + 4) 4) =
    later_member (field at 2) (field (at + 4) 4 ∷ field (at + 8) 4 ∷ keys) (field (at + 4) 4) (first_member (field (at + 4) 4) (field (at + 8) 4 ∷ keys)) in
    let count_in : Contains (part i) (field (at + 8) 4) =
    later_member (field at 2) (field (at + 4) 4 ∷ field (at + 8) 4 ∷ keys) (field (at + 8) 4)
    (later_member (field (at + 4) 4) (field (at + 8) 4 ∷ keys) (field (at + 8) 4) (first_member (field (at + 8) 4) keys)) in
    let in_key : (f : Field) → Contains keys f → Contains (part i) f =
    λ f here. later_member (field at 2) (field (at + 4) 4 ∷ field (at + 8) 4 ∷ keys) f
    (later_member (field (at + 4) 4) (field (at + 8) 4 ∷ keys) f (later_member (field (at + 8) 4) keys f here)) in
    let keys_between : Between (at + 12) keys high = key_between order page at key case in
    let rest_between : Between (at + 4) (field (at + 4) 4 ∷ field (at + 8) 4 ∷ keys) high =
    (omega arith, (omega arith, lower (at + 12) (at + 8 + 4) high keys (omega arith) keys_between)) in
    let kind_free : IsUntouched (part i) (at + 2) =
    untouched_cons (field at 2) (field (at + 4) 4 ∷ field (at + 8) 4 ∷ keys) (at + 2) (inr (omega arith))
    (untouched_before (at + 4) (field (at + 4) 4 ∷ field (at + 8) 4 ∷ keys) high (at + 2) rest_between (omega arith)) in
    let kind_of : at + 2 < high → byte_at other (at + 2) ≡ byte_at page (at + 2) = λ below. is.kept (at + 2) (untouched (at + 2) (omega arith) below kind_free)
    in
    elim case [
      | IsInline kind what inside ↦
          let n_bytes : ℕ = two_at order page at in
          let bytes : List ℕ = slice_range page (at + 12) (at + 12 + n_bytes) in
          let end : high ≡ at + 12 + length bytes = ap (internal_item_end at) what in
          let long : length bytes ≡ at + 12 + n_bytes - (at + 12) = length-slice_range page (at + 12) (at + 12 + n_bytes) inside in
          let parts : part i ≡ field at 2 ∷ field (at + 4) 4 ∷ field (at + 8) 4
          ∷ [] = ap (λ c. field at 2 ∷ field (at + 4) 4 ∷ field (at + 8) 4 ∷ key_fields at c) what in
          let plain : Between at (field at 2 ∷ field (at + 4) 4 ∷ field (at + 8) 4 ∷ []) (at + 12) = (omega arith, (omega arith, (omega arith, omega arith))) in
          let free : (k : ℕ) → at + 12 ≤ k → k < at + 12 + n_bytes → IsUntouched (internal_all order page) k =
          λ k low below. untouched k (omega arith) (omega arith) (subst (λ fields. IsUntouched fields k) (sym parts)
          (untouched_past at (field at 2 ∷ field (at + 4) 4 ∷ field (at + 8) 4 ∷ []) (at + 12) k plain low)) in
          let same_bytes : slice_range other (at + 12) (at + 12 + n_bytes) ≡ bytes =
          slice_same (internal_all order page) page other (at + 12) (at + 12 + n_bytes) is inside free in
          record {
            offset = number_same (internal_all order page) page other order (26 + 2 * i) 2 is (in_index n part i lt);
            kind = kind_of (omega arith);
            size = two;
            child = four (at + 4) child_in;
            count = four (at + 8) count_in;
            key = rw (kind, two) (ap Inline same_bytes);
          }
      | IsChain kind what inside ↦
          let end : high ≡ at + 24 = ap (internal_item_end at) what in
          let parts : keys ≡ field (at + 16) 4 ∷ field (at + 20) 4 ∷ [] = ap (key_fields at) what in
          let head : four_at (turned order) other (at + 16) ≡ four_at order page (at + 16) =
          four (at + 16) (in_key (field (at + 16) 4) (subst (λ fields. Contains fields (field (at + 16) 4)) (sym parts)
          (first_member (field (at + 16) 4) (field (at + 20) 4 ∷ [])))) in
          let total : four_at (turned order) other (at + 20) ≡ four_at order page (at + 20) =
          four (at + 20) (in_key (field (at + 20) 4) (subst (λ fields. Contains fields (field (at + 20) 4)) (sym parts)
          (later_member (field (at + 16) 4) (field (at + 20) 4 ∷ []) (field (at + 20) 4) (first_member (field (at + 20) 4) [])))) in
          record {
            offset = number_same (internal_all order page) page other order (26 + 2 * i) 2 is (in_index n part i lt);
            kind = kind_of (omega arith);
            size = two;
            child = four (at + 4) child_in;
            count = four (at + 8) count_in;
            key = rw (kind, head, total) refl;
          }
    ]

pub item_same : (order : Order) (page other : List ℕ) (i : ℕ) → InternalTurned order page other i → internal_item_at (turned order) other i
    ≡ internal_item_at order page i
unfolding internal_item_at
item_same order page other i is = rw (is.offset, is.kind, is.child, is.count, is.key) refl

pub item_rows_same : (order : Order) (page other : List ℕ) (i : ℕ) → length other ≡ length page → entries_of (turned order) other ≡ entries_of order page
    → InternalTurned order page other i → internal_rows (turned order) other i ≡ internal_rows order page i
unfolding internal_rows
item_rows_same order page other i lengths entries is = rw (is.offset, is.kind, is.size, lengths, entries) refl

-- Internal pages of recno trees.

pub record IsRecno (order : Order) (page : List ℕ) : Type 0 where
  pub room : 26 + 2 * entries_of order page ≤ length page
  pub rows : (i : ℕ) → i < entries_of order page → first_row (recno_rows order page i) ≡ None
  pub apart : listed_overlap (λ at (item : RecnoItem). at + 8) no_recno (listed order page (recno_item_at order page)) ≡ false

abbrev pub recno_low : Order → List ℕ → ℕ → ℕ
recno_low order page i = offset_of order page i

abbrev pub recno_all : Order → List ℕ → List Field
recno_all order page = all_fields (entries_of order page) (recno_part order page)

recno_begins : (order : Order) (page : List ℕ) (i : ℕ) → first_row (recno_rows order page i) ≡ None → 26 + 2 * entries_of order page ≤ offset_of order page i
unfolding recno_rows
recno_begins order page i none = grind (arith, nat_tests)

pub recno_placed : (order : Order) (page : List ℕ) → IsRecno order page
    → ArePlaced (entries_of order page) (length page) (recno_part order page) (recno_low order page) (recno_high order page)
recno_placed order page is = record {
  room = is.room;
  begin = λ i lt. recno_begins order page i (is.rows i lt);
  end = λ i lt. recno_fits order page i (is.rows i lt);
  parts = record {
    lies = λ i lt. (omega arith, (omega arith, omega arith));
    apart = λ i j lt_i lt_j.
        elim (listed_apart (λ at (item : RecnoItem). at + 8) no_recno order page (recno_item_at order page) is.apart i j lt_i lt_j) [
          | inl same ↦ inl (ap recno_fields same)
          | inr rest ↦ inr rest
        ];
  };
}

pub record RecnoTurned (order : Order) (page other : List ℕ) (i : ℕ) : Type 0 where
  pub offset : offset_of (turned order) other i ≡ offset_of order page i
  pub child : four_at (turned order) other (offset_of order page i) ≡ four_at order page (offset_of order page i)
  pub count : four_at (turned order) other (offset_of order page i + 4) ≡ four_at order page (offset_of order page i + 4)

pub recno_turned : (order : Order) (page other : List ℕ) (i : ℕ) → IsTurned (recno_all order page) page other → i < entries_of order page
    → RecnoTurned order page other i
recno_turned order page other i is lt =
    let n : ℕ = entries_of order page in
    let at : ℕ = offset_of order page i in
    let part : ℕ → List Field = recno_part order page in
    let four : (begin : ℕ) → Contains (part i) (field begin 4) → four_at (turned order) other begin ≡ four_at order page begin =
    λ begin here. number_same (recno_all order page) page other order begin 4 is (in_item n part i (field begin 4) lt here) in
    record {
      offset = number_same (recno_all order page) page other order (26 + 2 * i) 2 is (in_index n part i lt);
      child = four at (first_member (field at 4) (field (at + 4) 4 ∷ []));
      count = four (at + 4) (later_member (field at 4) (field (at + 4) 4 ∷ []) (field (at + 4) 4) (first_member (field (at + 4) 4) []));
    }

pub recno_same : (order : Order) (page other : List ℕ) (i : ℕ) → RecnoTurned order page other i → recno_item_at (turned order) other i
    ≡ recno_item_at order page i
unfolding recno_item_at
recno_same order page other i is = rw (is.offset, is.child, is.count) refl

pub recno_rows_same : (order : Order) (page other : List ℕ) (i : ℕ) → length other ≡ length page → entries_of (turned order) other ≡ entries_of order page
    → RecnoTurned order page other i → recno_rows (turned order) other i ≡ recno_rows order page i
unfolding recno_rows
recno_rows_same order page other i lengths entries is = rw (is.offset, lengths, entries) refl
