-- Pages with an index whose numbers are byte-swapped.
use Rattle.std.proofs.Common.{◌≡◌, ◌∙◌, ◌⊎◌, inl, inr, ℕ, ◌+◌, ◌*◌, ◌<◌, ◌≤◌, List, [], ◌∷◌, ◌++◌, map, length, get_or, refl, sym, ap, subst, arith}
use Rattle.std.proofs.Common.{slice_index, Bool, false, option_map}
use Rattle.std.specs.List.{Contains, flat_map, list_any, range_with_len}
use Rattle.std.proofs.lemmas.List.Elements.{Contains-append_cases, Contains-append_left, Contains-append_right}
use Rattle.std.proofs.lemmas.List.FromFn.{get_or-map-range_with_len, length-map-range_with_len}
use Rattle.bdb_graph.proofs.of_format.MemberLemmas.{first_member, later_member, none_passes, in_map, of_range, in_range}
use Rattle.bdb_graph.proofs.of_format.ListLemmas.{flat_map_same}
use Rattle.bdb_graph.proofs.of_format.PageLemmas.{index_offset, length_items}
use Rattle.std.proofs.lemmas.Bool.Decides.{nat_tests}
use Rattle.bdb_law_turned.specs.Overlaps.{listed_overlap, share_bytes}
use Rattle.bdb_graph.specs.of_format.declared.kinds.Order.{Order}
use Rattle.bdb_graph.specs.of_format.declared.pages.ItemFault.{ItemFault}
use Rattle.bdb_graph.specs.of_format.Terms.{Row, byte_at, entries_of, first_row, four_at, header_of, index_rows, is_code, item_code, item_row, item_rows}
use Rattle.bdb_graph.specs.of_format.Terms.{listed, listed_code, offset_of, turned, two_at}
use Rattle.bdb_graph.specs.of_format.declared.pages.PageType.{PageType}
use Rattle.bdb_law_turned.specs.Fields.{Field, field, header_fields, index_fields, listed_fields}
pub use Rattle.bdb_law_turned.specs.Parts.{all_fields}
use Rattle.bdb_law_turned.specs.Apart.{AreApart, IsUntouched, LieWithin}
use Rattle.bdb_law_turned.proofs.ReadLemmas.{IsTurned, number_same}
use Rattle.bdb_law_turned.proofs.ApartLemmas.{AreParts, Between, apart_append, apart_between, apart_parts, bounds, in_parts, index_between, of_parts}

-- the items lie behind the index, and on the page
pub record ArePlaced (n size : ℕ) (part : ℕ → List Field) (low high : ℕ → ℕ) : Type 0 where
  pub room : 26 + 2 * n ≤ size
  pub begin : (i : ℕ) → i < n → 26 + 2 * n ≤ low i
  pub end : (i : ℕ) → i < n → high i ≤ size
  pub parts : AreParts n part low high

pub header_between : Between 0 header_fields 24
header_between = (omega arith, (omega arith, (omega arith, (omega arith, (omega arith, (omega arith, (omega arith, omega arith)))))))

header_bounds : (f : Field) → Contains header_fields f → (0 ≤ f.begin) × (f.begin + f.width ≤ 24)
header_bounds f at = bounds 0 header_fields 24 f header_between at

index_bounds : (n : ℕ) (f : Field) → Contains (index_fields n) f → (26 ≤ f.begin) × (f.begin + f.width ≤ 26 + 2 * n)
index_bounds n f at =
    let all : (26 + 2 * 0 ≤ f.begin) × (f.begin + f.width ≤ 26 + 2 * (0 + n)) = bounds (26 + 2 * 0) (index_fields n) (26 + 2 * (0 + n)) f (index_between 0 n) at
    in
    (omega arith, omega arith)

-- where a number of the page stands
pub data Where (n : ℕ) (part : ℕ → List Field) (f : Field) : Type 0 where
  InHeader : Contains header_fields f → Where n part f
  InIndex : Contains (index_fields n) f → Where n part f
  InItem : (i : ℕ) → i < n → Contains (part i) f → Where n part f

pub where_is : (n : ℕ) (part : ℕ → List Field) (f : Field) → Contains (all_fields n part) f → Where n part f
where_is n part f at =
    elim (Contains-append_cases header_fields (index_fields n ++ flat_map part (range_with_len 0 n)) f at) [
      | inl header ↦ InHeader header
      | inr rest ↦ elim (Contains-append_cases (index_fields n) (flat_map part (range_with_len 0 n)) f rest) [
        | inl index ↦ InIndex index
        | inr items ↦ let found : (i : ℕ) × (i < n) × Contains (part i) f = of_parts n part f items in InItem found.0 found.1 found.2
      ]
    ]

pub placed_apart : (n size : ℕ) (part : ℕ → List Field) (low high : ℕ → ℕ) → ArePlaced n size part low high → AreApart (all_fields n part)
placed_apart n size part low high placed =
    apart_append header_fields (index_fields n ++ flat_map part (range_with_len 0 n)) (apart_between 0 header_fields 24 header_between)
    (apart_append (index_fields n) (flat_map part (range_with_len 0 n)) (apart_between (26 + 2 * 0) (index_fields n) (26 + 2 * (0 + n)) (index_between 0 n))
    (apart_parts n part low high placed.parts) (λ f g at_f at_g.
    let index : (26 ≤ f.begin) × (f.begin + f.width ≤ 26 + 2 * n) = index_bounds n f at_f in
    let found : (i : ℕ) × (i < n) × Contains (part i) g = of_parts n part g at_g in
    let item : (low found.0 ≤ g.begin) × (g.begin + g.width ≤ high found.0) =
    bounds (low found.0) (part found.0) (high found.0) g (placed.parts.lies found.0 found.1) found.2 in
    let behind : 26 + 2 * n ≤ low found.0 = placed.begin found.0 found.1 in
    inr (inl (omega arith))))
    (λ f g at_f at_g.
    let header : (0 ≤ f.begin) × (f.begin + f.width ≤ 24) = header_bounds f at_f in
    let past : 26 ≤ g.begin =
    elim (Contains-append_cases (index_fields n) (flat_map part (range_with_len 0 n)) g at_g) [
      | inl index ↦ (index_bounds n g index).0
      | inr items ↦
          let found : (i : ℕ) × (i < n) × Contains (part i) g = of_parts n part g items in
          let item : (low found.0 ≤ g.begin) × (g.begin + g.width ≤ high found.0) =
          bounds (low found.0) (part found.0) (high found.0) g (placed.parts.lies found.0 found.1) found.2 in
          let behind : 26 + 2 * n ≤ low found.0 = placed.begin found.0 found.1 in
          omega arith
    ] in
    inr (inl (omega arith)))

pub placed_within : (n size : ℕ) (part : ℕ → List Field) (low high : ℕ → ℕ) → ArePlaced n size part low high → LieWithin (all_fields n part) size
placed_within n size part low high placed f at =
    let room : 26 + 2 * n ≤ size = placed.room in
    elim (where_is n part f at) [
      | InHeader header ↦ let b : (0 ≤ f.begin) × (f.begin + f.width ≤ 24) = header_bounds f header in omega arith
      | InIndex index ↦ let b : (26 ≤ f.begin) × (f.begin + f.width ≤ 26 + 2 * n) = index_bounds n f index in omega arith
      | InItem i lt item ↦
          let b : (low i ≤ f.begin) × (f.begin + f.width ≤ high i) = bounds (low i) (part i) (high i) f (placed.parts.lies i lt) item in
          let e : high i ≤ size = placed.end i lt in
          omega arith
    ]

-- a place of an item that is in none of its numbers is in no number of the page
pub untouched_in_item : (n size : ℕ) (part : ℕ → List Field) (low high : ℕ → ℕ) (i k : ℕ) → ArePlaced n size part low high → i < n → low i ≤ k → k < high i
    → IsUntouched (part i) k → IsUntouched (all_fields n part) k
untouched_in_item n size part low high i k placed lt begins ends untouched f at =
    let behind : 26 + 2 * n ≤ low i = placed.begin i lt in
    elim (where_is n part f at) [
      | InHeader header ↦ let b : (0 ≤ f.begin) × (f.begin + f.width ≤ 24) = header_bounds f header in inr (omega arith)
      | InIndex index ↦ let b : (26 ≤ f.begin) × (f.begin + f.width ≤ 26 + 2 * n) = index_bounds n f index in inr (omega arith)
      | InItem j below item ↦
          let b : (low j ≤ f.begin) × (f.begin + f.width ≤ high j) = bounds (low j) (part j) (high j) f (placed.parts.lies j below) item in
          elim (placed.parts.apart i j lt below) [
            | inl same ↦ untouched f (subst (λ fields. Contains fields f) (sym same) item)
            | inr (inl before) ↦ inl (omega arith)
            | inr (inr past) ↦ inr (omega arith)
          ]
    ]

-- bytes 24 and 25 are in no number
pub untouched_in_header : (n size : ℕ) (part : ℕ → List Field) (low high : ℕ → ℕ) (k : ℕ) → ArePlaced n size part low high → 24 ≤ k → k < 26
    → IsUntouched (all_fields n part) k
untouched_in_header n size part low high k placed begins ends f at =
    elim (where_is n part f at) [
      | InHeader header ↦ let b : (0 ≤ f.begin) × (f.begin + f.width ≤ 24) = header_bounds f header in inr (omega arith)
      | InIndex index ↦ let b : (26 ≤ f.begin) × (f.begin + f.width ≤ 26 + 2 * n) = index_bounds n f index in inl (omega arith)
      | InItem j below item ↦
          let b : (low j ≤ f.begin) × (f.begin + f.width ≤ high j) = bounds (low j) (part j) (high j) f (placed.parts.lies j below) item in
          let behind : 26 + 2 * n ≤ low j = placed.begin j below in
          inl (omega arith)
    ]

pub in_header : (n : ℕ) (part : ℕ → List Field) (f : Field) → Contains header_fields f → Contains (all_fields n part) f
in_header n part f at = Contains-append_left header_fields (index_fields n ++ flat_map part (range_with_len 0 n)) f at

pub in_index : (n : ℕ) (part : ℕ → List Field) (i : ℕ) → i < n → Contains (all_fields n part) (field (26 + 2 * i) 2)
in_index n part i lt =
    Contains-append_right header_fields (index_fields n ++ flat_map part (range_with_len 0 n)) (field (26 + 2 * i) 2)
    (Contains-append_left (index_fields n) (flat_map part (range_with_len 0 n)) (field (26 + 2 * i) 2)
    (in_map (λ j. field (26 + 2 * j) 2) (range_with_len 0 n) i (in_range 0 n i (omega arith) (omega arith))))

pub in_item : (n : ℕ) (part : ℕ → List Field) (i : ℕ) (f : Field) → i < n → Contains (part i) f → Contains (all_fields n part) f
in_item n part i f lt at =
    Contains-append_right header_fields (index_fields n ++ flat_map part (range_with_len 0 n)) f
    (Contains-append_right (index_fields n) (flat_map part (range_with_len 0 n)) f (in_parts n part i f lt at))

-- What is read in the other order.

-- the header is the same
pub header_same : (fields : List Field) (bytes other : List ℕ) (order : Order) → IsTurned fields bytes other
    → ((f : Field) → Contains header_fields f → Contains fields f)
    → IsUntouched fields 24 → IsUntouched fields 25 → header_of (turned order) other ≡ header_of order bytes
header_same fields bytes other order is has level type =
    let four : (begin : ℕ) → Contains header_fields (field begin 4) → four_at (turned order) other begin ≡ four_at order bytes begin =
    λ begin at. number_same fields bytes other order begin 4 is (has (field begin 4) at) in
    let two : (begin : ℕ) → Contains header_fields (field begin 2) → two_at (turned order) other begin ≡ two_at order bytes begin =
    λ begin at. number_same fields bytes other order begin 2 is (has (field begin 2) at) in
    let h8 = four 8 (2, omega arith, refl) in
    let h12 = four 12 (3, omega arith, refl) in
    let h16 = four 16 (4, omega arith, refl) in
    let h20 = two 20 (5, omega arith, refl) in
    let h22 = two 22 (6, omega arith, refl) in
    let h24 : byte_at other 24 ≡ byte_at bytes 24 = is.kept 24 level in
    let h25 : byte_at other 25 ≡ byte_at bytes 25 = is.kept 25 type in
    rw (h8, h12, h16, h20, h22, h24, h25) refl

pub map_same : {X Y : Type 0} (f g : X → Y) (xs : List X) → ((x : X) → Contains xs x → f x ≡ g x) → map f xs ≡ map g xs
map_same f g [] same = refl
map_same f g (x ∷ xs) same =
    let here : f x ≡ g x = same x (first_member x xs) in
    let rest : map f xs ≡ map g xs = map_same f g xs (λ y at. same y (later_member x xs y at)) in
    cc

pub any_same : {X : Type 0} (f g : X → Bool) (xs : List X) → ((x : X) → Contains xs x → f x ≡ g x) → list_any f xs ≡ list_any g xs
any_same f g [] same = refl
any_same f g (x ∷ xs) same =
    let here : f x ≡ g x = same x (first_member x xs) in
    let rest : list_any f xs ≡ list_any g xs = any_same f g xs (λ y at. same y (later_member x xs y at)) in
    cc

below : (n i : ℕ) → Contains (range_with_len 0 n) i → i < n
below n i at = let range : (0 ≤ i) × (i < 0 + n) = of_range 0 n i at in omega arith

-- a page with an index reads the same where its header, its offsets and its items do
pub listed_same : {I : Type 0} (order : Order) (bytes other : List ℕ) (here there : ℕ → I) → header_of (turned order) other ≡ header_of order bytes
    → entries_of (turned order) other ≡ entries_of order bytes
    → ((i : ℕ) → i < entries_of order bytes → offset_of (turned order) other i ≡ offset_of order bytes i)
    → ((i : ℕ) → i < entries_of order bytes → there i ≡ here i)
    → listed (turned order) other there ≡ listed order bytes here
unfolding listed
listed_same order bytes other here there header entries offsets items =
    let n : ℕ = entries_of order bytes in
    let same_offsets : map (offset_of (turned order) other) (range_with_len 0 n) ≡ map (offset_of order bytes) (range_with_len 0 n) =
    map_same (offset_of (turned order) other) (offset_of order bytes) (range_with_len 0 n) (λ i at. offsets i (below n i at)) in
    let same_items : map there (range_with_len 0 n) ≡ map here (range_with_len 0 n) =
    map_same there here (range_with_len 0 n) (λ i at. items i (below n i at)) in
    rw (header, entries, same_offsets, same_items) refl

-- and so do its rows, where those of its items do
pub rows_same : (t : PageType) (order : Order) (bytes other : List ℕ) → length other ≡ length bytes → entries_of (turned order) other ≡ entries_of order bytes
    → byte_at other 24 ≡ byte_at bytes 24
    → ((i : ℕ) → i < entries_of order bytes → item_rows t (turned order) other i ≡ item_rows t order bytes i)
    → listed_code (turned order) other t ≡ listed_code order bytes t
unfolding listed_code index_rows
rows_same t order bytes other lengths entries level rows =
    let n : ℕ = entries_of order bytes in
    let some : (code : ℕ) → list_any (λ i. is_code code (item_row t (turned order) other i)) (range_with_len 0 n)
    ≡ list_any (λ i. is_code code (item_row t order bytes i)) (range_with_len 0 n) =
    λ code. any_same (λ i. is_code code (item_row t (turned order) other i)) (λ i. is_code code (item_row t order bytes i)) (range_with_len 0 n)
    (λ i at. ap (λ (rs : List (Row ItemFault)). is_code code (option_map item_code (first_row rs))) (rows i (below n i at))) in
    rw (lengths, entries, level, some 22, some 23, some 24) refl

-- The numbers of a page with an index, read off its bytes.

pub item_in : {I : Type 0} (order : Order) (page : List ℕ) (item_at : ℕ → I) (none : I) (i : ℕ) → i < entries_of order page
    → get_or (listed order page item_at).items i none ≡ item_at i
unfolding listed
item_in order page item_at none i lt = get_or-map-range_with_len item_at 0 (entries_of order page) i i none lt (omega arith)

length_offsets : {I : Type 0} (order : Order) (page : List ℕ) (item_at : ℕ → I) → length (listed order page item_at).offsets ≡ entries_of order page
unfolding listed
length_offsets order page item_at = length-map-range_with_len (offset_of order page) 0 (entries_of order page)

pub listed_fields_are : {I : Type 0} (item_fields : ℕ → I → List Field) (none : I) (order : Order) (page : List ℕ) (item_at : ℕ → I)
    → listed_fields item_fields none (listed order page item_at)
    ≡ all_fields (entries_of order page) (λ i. item_fields (offset_of order page i) (item_at i))
unfolding listed_fields
listed_fields_are item_fields none order page item_at =
    let p = listed order page item_at in
    let n : ℕ = entries_of order page in
    let offsets : length p.offsets ≡ n = length_offsets order page item_at in
    let items : length p.items ≡ n = length_items order page item_at in
    let parts : flat_map (λ i. item_fields (slice_index p.offsets i) (get_or p.items i none)) (range_with_len 0 n)
    ≡ flat_map (λ i. item_fields (offset_of order page i) (item_at i)) (range_with_len 0 n) =
    flat_map_same (λ i. item_fields (slice_index p.offsets i) (get_or p.items i none)) (λ i. item_fields (offset_of order page i) (item_at i))
    (range_with_len 0 n)
    (λ i at.
    let offset : slice_index p.offsets i ≡ offset_of order page i = index_offset order page item_at i (below n i at) in
    let item : get_or p.items i none ≡ item_at i = item_in order page item_at none i (below n i at) in
    rw (offset, item) refl) in
    rw (offsets, items, parts) refl

-- two items that don't overlap
pub apart_items : (begin end other other_end : ℕ) → share_bytes begin end other other_end ≡ false → (begin ≡ other) ⊎ ((end ≤ other) ⊎ (other_end ≤ begin))
apart_items begin end other other_end none = grind (arith, nat_tests)

pub listed_apart : {I : Type 0} (item_end : ℕ → I → ℕ) (none : I) (order : Order) (page : List ℕ) (item_at : ℕ → I)
    → listed_overlap item_end none (listed order page item_at) ≡ false → (i j : ℕ) → i < entries_of order page → j < entries_of order page
    → (offset_of order page i ≡ offset_of order page j)
    ⊎ ((item_end (offset_of order page i) (item_at i) ≤ offset_of order page j) ⊎ (item_end (offset_of order page j) (item_at j) ≤ offset_of order page i))
unfolding listed_overlap
listed_apart item_end none order page item_at no_overlap i j lt_i lt_j =
    let p = listed order page item_at in
    let n : ℕ = entries_of order page in
    let items : length p.items ≡ n = length_items order page item_at in
    let begin : ℕ → ℕ = λ k. slice_index p.offsets k in
    let end : ℕ → ℕ = λ k. item_end (slice_index p.offsets k) (get_or p.items k none) in
    let at_i : Contains (range_with_len 0 (length p.items)) i = in_range 0 (length p.items) i (omega arith) (omega arith) in
    let at_j : Contains (range_with_len 0 (length p.items)) j = in_range 0 (length p.items) j (omega arith) (omega arith) in
    let row : list_any (λ k. share_bytes (begin i) (end i) (begin k) (end k)) (range_with_len 0 (length p.items)) ≡ false =
    none_passes (λ m. list_any (λ k. share_bytes (begin m) (end m) (begin k) (end k)) (range_with_len 0 (length p.items))) (range_with_len 0 (length p.items)) i
    no_overlap at_i in
    let one : share_bytes (begin i) (end i) (begin j) (end j) ≡ false =
    none_passes (λ k. share_bytes (begin i) (end i) (begin k) (end k)) (range_with_len 0 (length p.items)) j row at_j in
    let o_i : begin i ≡ offset_of order page i = index_offset order page item_at i lt_i in
    let o_j : begin j ≡ offset_of order page j = index_offset order page item_at j lt_j in
    let e_i : end i ≡ item_end (offset_of order page i) (item_at i) = rw (o_i, item_in order page item_at none i lt_i) refl in
    let e_j : end j ≡ item_end (offset_of order page j) (item_at j) = rw (o_j, item_in order page item_at none j lt_j) refl in
    let all : (begin i ≡ begin j) ⊎ ((end i ≤ begin j) ⊎ (end j ≤ begin i)) = apart_items (begin i) (end i) (begin j) (end j) one in
    elim all [
      | inl same ↦ inl (sym o_i ∙ (same ∙ o_j))
      | inr (inl before) ↦ inr (inl (omega arith))
      | inr (inr past) ↦ inr (inr (omega arith))
    ]
