-- Metadata and pages without an index, whose numbers are byte-swapped.
use Rattle.std.proofs.Common.{◌≡◌, ◌∙◌, inl, inr, ℕ, zero, suc, ◌+◌, ◌*◌, ◌<◌, ◌≤◌, List, [], ◌∷◌, ◌++◌, map, length, refl, ap, subst, arith}
use Rattle.std.specs.Prelude.{not, nat_lt, ◌||◌, ◌==◌}
use Rattle.std.specs.List.{Contains, range_with_len}
use Rattle.std.proofs.lemmas.List.Elements.{Contains-append_cases, Contains-append_left, Contains-append_right}
use Rattle.bdb_graph.proofs.of_format.MemberLemmas.{first_member, later_member, of_range}
use Rattle.bdb_graph.specs.of_format.declared.kinds.Order.{Order}
use Rattle.bdb_graph.specs.of_format.declared.metadata.FileKind.{FileKind}
use Rattle.bdb_graph.specs.of_format.declared.metadata.BtreeMeta.{BtreeMeta}
use Rattle.bdb_graph.specs.of_format.declared.metadata.HashMeta.{HashMeta}
use Rattle.bdb_graph.specs.of_format.declared.metadata.QueueMeta.{QueueMeta}
use Rattle.bdb_graph.specs.of_format.Terms.{BtreeFields, HashFields, Metadata, QueueFields, Row, are_masks, btree_fields, btree_rows, byte_at, four_at}
use Rattle.bdb_graph.specs.of_format.Terms.{hash_fields as table_fields, lacks_spare, meta_rows, queue_fields, queue_rows, records_per_page, table_rows}
use Rattle.bdb_graph.specs.of_format.Terms.{turned, ◌:?◌}
use Rattle.bdb_law_turned.specs.Fields.{Field, common_fields, field, fours, kind_fields}
use Rattle.bdb_law_turned.specs.Apart.{IsUntouched}
use Rattle.bdb_law_turned.proofs.ReadLemmas.{IsTurned, number_same}
use Rattle.bdb_law_turned.proofs.ApartLemmas.{Between, bounds}
use Rattle.bdb_law_turned.proofs.ListedLemmas.{map_same}

pub fours_between : (begin n : ℕ) → Between begin (fours begin n) (begin + 4 * n)
fours_between begin zero = omega arith
fours_between begin (suc n) =
    let rest : Between (begin + 4) (fours (begin + 4) n) (begin + 4 + 4 * n) = fours_between (begin + 4) n in
    let end : begin + 4 + 4 * n ≡ begin + 4 * suc n = omega arith in
    (omega arith, subst (λ (to : ℕ). Between (begin + 4) (fours (begin + 4) n) to) end rest)

pub fours_have : (begin n i : ℕ) → i < n → Contains (fours begin n) (field (begin + 4 * i) 4)
fours_have begin zero i lt = absurd (omega arith)
fours_have begin (suc n) zero lt = let same : begin ≡ begin + 4 * 0 = omega arith in subst (λ (b : ℕ). Contains (fours begin (suc n)) (field b 4)) same
    (first_member (field begin 4) (fours (begin + 4) n))
fours_have begin (suc n) (suc i) lt =
    let same : begin + 4 + 4 * i ≡ begin + 4 * suc i = omega arith in
    subst (λ (b : ℕ). Contains (fours begin (suc n)) (field b 4)) same
    (later_member (field begin 4) (fours (begin + 4) n) (field (begin + 4 + 4 * i) 4) (fours_have (begin + 4) n i (omega arith)))

between_append : (from : ℕ) (xs : List Field) (middle next : ℕ) (ys : List Field) (to : ℕ) → Between from xs middle → middle ≤ next → Between next ys to
    → Between from (xs ++ ys) to
between_append from [] middle next ys to first gap second = lower next from ys to (let l : from ≤ middle = first in omega arith) second
  where
    lower : (from low : ℕ) (fields : List Field) (to : ℕ) → low ≤ from → Between from fields to → Between low fields to
    lower from low [] to below between = let l : from ≤ to = between in omega arith
    lower from low (f ∷ fields) to below between = let l : from ≤ f.begin = between.0 in (omega arith, between.1)
between_append from (f ∷ xs) middle next ys to first gap second = (first.0, between_append (f.begin + f.width) xs middle next ys to first.1 gap second)

-- Metadata.

common_between : Between 0 common_fields 52
common_between = between_append 0 (fours 0 6) (0 + 4 * 6) 28 (fours 28 6) (28 + 4 * 6) (fours_between 0 6) (omega arith) (fours_between 28 6)

abbrev pub meta_all : Metadata → List Field
meta_all fields = common_fields ++ kind_fields fields

pub meta_between : (fields : Metadata) → Between 0 (meta_all fields) 224
meta_between (BtreeFields meta) =
    between_append 0 common_fields 52 76 (fours 76 4) 224 common_between (omega arith)
    (widened 76 (fours 76 4) (76 + 4 * 4) 224 (omega arith) (fours_between 76 4))
  where
    widened : (from : ℕ) (fields : List Field) (to more : ℕ) → to ≤ more → Between from fields to → Between from fields more
    widened from [] to more up between = let l : from ≤ to = between in omega arith
    widened from (f ∷ fields) to more up between = (between.0, widened (f.begin + f.width) fields to more up between.1)
meta_between (HashFields meta) =
    between_append 0 common_fields 52 72 (fours 72 6 ++ fours 96 32) 224 common_between (omega arith)
    (between_append 72 (fours 72 6) (72 + 4 * 6) 96 (fours 96 32) (96 + 4 * 32) (fours_between 72 6) (omega arith) (fours_between 96 32))
meta_between (QueueFields meta) =
    between_append 0 common_fields 52 72 (fours 72 6) 224 common_between (omega arith)
    (widened 72 (fours 72 6) (72 + 4 * 6) 224 (omega arith) (fours_between 72 6))
  where
    widened : (from : ℕ) (fields : List Field) (to more : ℕ) → to ≤ more → Between from fields to → Between from fields more
    widened from [] to more up between = let l : from ≤ to = between in omega arith
    widened from (f ∷ fields) to more up between = (between.0, widened (f.begin + f.width) fields to more up between.1)

kind_between : (fields : Metadata) → Between 72 (kind_fields fields) 224
kind_between (BtreeFields meta) = between_append 72 [] 72 76 (fours 76 4) 224 (omega arith) (omega arith)
    (between_append 76 (fours 76 4) (76 + 4 * 4) 224 [] 224 (fours_between 76 4) (omega arith) (omega arith))
kind_between (HashFields meta) = between_append 72 (fours 72 6) (72 + 4 * 6) 96 (fours 96 32) (96 + 4 * 32) (fours_between 72 6) (omega arith)
    (fours_between 96 32)
kind_between (QueueFields meta) = between_append 72 (fours 72 6) (72 + 4 * 6) 224 [] 224 (fours_between 72 6) (omega arith) (omega arith)

-- bytes 24 to 27 are in no number of metadata
pub meta_untouched : (fields : Metadata) (k : ℕ) → 24 ≤ k → k < 28 → IsUntouched (meta_all fields) k
meta_untouched fields k low high f at =
    elim (Contains-append_cases common_fields (kind_fields fields) f at) [
      | inl common ↦ elim (Contains-append_cases (fours 0 6) (fours 28 6) f common) [
        | inl first ↦ let b : (0 ≤ f.begin) × (f.begin + f.width ≤ 0 + 4 * 6) = bounds 0 (fours 0 6) (0 + 4 * 6) f (fours_between 0 6) first in inr
            (omega arith)
        | inr second ↦ let b : (28 ≤ f.begin) × (f.begin + f.width ≤ 28 + 4 * 6) = bounds 28 (fours 28 6) (28 + 4 * 6) f (fours_between 28 6) second in inl
            (omega arith)
      ]
      | inr kind ↦ let b : (72 ≤ f.begin) × (f.begin + f.width ≤ 224) = bounds 72 (kind_fields fields) 224 f (kind_between fields) kind in inl (omega arith)
    ]

-- what is read of metadata
pub record CommonSame (order : Order) (page other : List ℕ) : Type 0 where
  pub number : four_at (turned order) other 8 ≡ four_at order page 8
  pub magic : four_at (turned order) other 12 ≡ four_at order page 12
  pub version : four_at (turned order) other 16 ≡ four_at order page 16
  pub size : four_at (turned order) other 20 ≡ four_at order page 20
  pub free : four_at (turned order) other 28 ≡ four_at order page 28
  pub last : four_at (turned order) other 32 ≡ four_at order page 32
  pub partitions : four_at (turned order) other 36 ≡ four_at order page 36
  pub flags : four_at (turned order) other 48 ≡ four_at order page 48
  pub encryption : byte_at other 24 ≡ byte_at page 24
  pub type : byte_at other 25 ≡ byte_at page 25
  pub metaflags : byte_at other 26 ≡ byte_at page 26

pub common_same : (fields : Metadata) (order : Order) (page other : List ℕ) → IsTurned (meta_all fields) page other → CommonSame order page other
common_same fields order page other is =
    let four : (begin : ℕ) → Contains common_fields (field begin 4) → four_at (turned order) other begin ≡ four_at order page begin =
    λ begin at. number_same (meta_all fields) page other order begin 4 is (Contains-append_left common_fields (kind_fields fields) (field begin 4) at) in
    record {
      number = four 8 (2, omega arith, refl);
      magic = four 12 (3, omega arith, refl);
      version = four 16 (4, omega arith, refl);
      size = four 20 (5, omega arith, refl);
      free = four 28 (6, omega arith, refl);
      last = four 32 (7, omega arith, refl);
      partitions = four 36 (8, omega arith, refl);
      flags = four 48 (11, omega arith, refl);
      encryption = is.kept 24 (meta_untouched fields 24 (omega arith) (omega arith));
      type = is.kept 25 (meta_untouched fields 25 (omega arith) (omega arith));
      metaflags = is.kept 26 (meta_untouched fields 26 (omega arith) (omega arith));
    }

-- a number that the kind adds
added : (fields : Metadata) (order : Order) (page other : List ℕ) (begin : ℕ) → IsTurned (meta_all fields) page other
    → Contains (kind_fields fields) (field begin 4)
    → four_at (turned order) other begin ≡ four_at order page begin
added fields order page other begin is at =
    number_same (meta_all fields) page other order begin 4 is (Contains-append_right common_fields (kind_fields fields) (field begin 4) at)

pub btree_same : (meta : BtreeMeta) (order : Order) (page other : List ℕ) → IsTurned (meta_all (BtreeFields meta)) page other
    → btree_fields (turned order) other ≡ btree_fields order page
btree_same meta order page other is =
    let common : CommonSame order page other = common_same (BtreeFields meta) order page other is in
    let four : (begin : ℕ) → Contains (fours 76 4) (field begin 4) → four_at (turned order) other begin ≡ four_at order page begin = λ begin at. added
    (BtreeFields meta) order page other begin is at in
    let e76 = four 76 (0, omega arith, refl) in
    let e80 = four 80 (1, omega arith, refl) in
    let e84 = four 84 (2, omega arith, refl) in
    let e88 = four 88 (3, omega arith, refl) in
    rw (common.flags, e76, e80, e84, e88, common.free) refl

pub table_same : (meta : HashMeta) (order : Order) (page other : List ℕ) → IsTurned (meta_all (HashFields meta)) page other
    → (table_fields (turned order) other ≡ table_fields order page) × (four_at (turned order) other 92 ≡ four_at order page 92)
    × (four_at (turned order) other 72 ≡ four_at order page 72)
table_same meta order page other is =
    let common : CommonSame order page other = common_same (HashFields meta) order page other is in
    let all : List Field = fours 72 6 ++ fours 96 32 in
    let four : (begin : ℕ) → Contains (fours 72 6) (field begin 4) → four_at (turned order) other begin ≡ four_at order page begin =
    λ begin at. added (HashFields meta) order page other begin is (Contains-append_left (fours 72 6) (fours 96 32) (field begin 4) at) in
    let e72 = four 72 (0, omega arith, refl) in
    let e76 = four 76 (1, omega arith, refl) in
    let e80 = four 80 (2, omega arith, refl) in
    let e84 = four 84 (3, omega arith, refl) in
    let e92 = four 92 (5, omega arith, refl) in
    let spares : map (λ group. four_at (turned order) other (96 + 4 * group)) (range_with_len 0 32) ≡ map (λ group. four_at order page (96 + 4 * group))
    (range_with_len 0 32) =
    map_same (λ group. four_at (turned order) other (96 + 4 * group)) (λ group. four_at order page (96 + 4 * group)) (range_with_len 0 32)
    (λ group at.
    let range : (0 ≤ group) × (group < 0 + 32) = of_range 0 32 group at in
    added (HashFields meta) order page other (96 + 4 * group) is
    (Contains-append_right (fours 72 6) (fours 96 32) (field (96 + 4 * group) 4) (fours_have 96 32 group (omega arith)))) in (
      ap (λ (gs : List ℕ). let m : HashMeta = record {
        flags = four_at (turned order) other 48;
        max_bucket = four_at (turned order) other 72;
        high_mask = four_at (turned order) other 76;
        low_mask = four_at (turned order) other 80;
        ffactor = four_at (turned order) other 84;
        spares = gs;
        free = four_at (turned order) other 28;
      } in m) spares
          ∙ rw (common.flags, e72, e76, e80, e84, common.free) refl,
      e92,
      e72,
    )

pub queue_same : (meta : QueueMeta) (order : Order) (page other : List ℕ) → IsTurned (meta_all (QueueFields meta)) page other
    → (queue_fields (turned order) other ≡ queue_fields order page) × (four_at (turned order) other 92 ≡ four_at order page 92)
queue_same meta order page other is =
    let four : (begin : ℕ) → Contains (fours 72 6) (field begin 4) → four_at (turned order) other begin ≡ four_at order page begin = λ begin at. added
    (QueueFields meta) order page other begin is at in
    let e72 = four 72 (0, omega arith, refl) in
    let e76 = four 76 (1, omega arith, refl) in
    let e80 = four 80 (2, omega arith, refl) in
    let e84 = four 84 (3, omega arith, refl) in
    let e88 = four 88 (4, omega arith, refl) in
    (rw (e72, e76, e80, e84, e88) refl, four 92 (5, omega arith, refl))

-- the rows of metadata
pub common_rows_same : (order : Order) (page other : List ℕ) (number : ℕ) (kind : FileKind) → length other ≡ length page → CommonSame order page other
    → meta_rows (turned order) other number kind ≡ meta_rows order page number kind
common_rows_same order page other number kind lengths same =
    rw (same.magic, same.version, same.size, lengths, same.encryption, same.metaflags, same.partitions) refl

pub btree_rows_same : (order : Order) (page other : List ℕ) (number : ℕ) → CommonSame order page other → btree_rows (turned order) other number
    ≡ btree_rows order page number
btree_rows_same order page other number same = rw (same.flags) refl

-- the rows of a table by what they look at
abbrev table_rows_by : ℕ → ℕ → ℕ → HashMeta → ℕ → List (Row ℕ)
table_rows_by char flags max meta last =
    11 :? not (char == 0x5e688dd1) ∷ 12 :? nat_lt 0x07 flags ∷ 13 :? not (are_masks meta) ∷ 14 :? (nat_lt last max || lacks_spare meta) ∷ []

pub table_rows_same : (order : Order) (page other : List ℕ) (last : ℕ) → CommonSame order page other → table_fields (turned order) other
    ≡ table_fields order page
    → four_at (turned order) other 92 ≡ four_at order page 92 → four_at (turned order) other 72 ≡ four_at order page 72
    → table_rows (turned order) other last ≡ table_rows order page last
table_rows_same order page other last same fields char max =
    ap (λ (meta : HashMeta). table_rows_by (four_at (turned order) other 92) (four_at (turned order) other 48) (four_at (turned order) other 72) meta last)
    fields
    ∙ (ap (λ (n : ℕ). table_rows_by n (four_at (turned order) other 48) (four_at (turned order) other 72) (table_fields order page) last) char
    ∙ (ap (λ (n : ℕ). table_rows_by (four_at order page 92) n (four_at (turned order) other 72) (table_fields order page) last) same.flags
    ∙ ap (λ (n : ℕ). table_rows_by (four_at order page 92) (four_at order page 48) n (table_fields order page) last) max))

abbrev queue_rows_by : ℕ → ℕ → QueueMeta → List (Row ℕ)
queue_rows_by extent size meta =
    15 :? not (extent == 0)
    ∷ 16 :? (records_per_page size meta.re_len == 0 || not (meta.per_page == records_per_page size meta.re_len))
    ∷ 17 :? (meta.first == 0 || meta.current == 0)
    ∷ 18 :? nat_lt meta.current meta.first
    ∷ []

pub queue_rows_same : (order : Order) (page other : List ℕ) → length other ≡ length page → queue_fields (turned order) other ≡ queue_fields order page
    → four_at (turned order) other 92 ≡ four_at order page 92 → queue_rows (turned order) other ≡ queue_rows order page
queue_rows_same order page other lengths fields extent =
    ap (λ (meta : QueueMeta). queue_rows_by (four_at (turned order) other 92) (length other) meta) fields
    ∙ (ap (λ (n : ℕ). queue_rows_by n (length other) (queue_fields order page)) extent
    ∙ ap (λ (n : ℕ). queue_rows_by (four_at order page 92) n (queue_fields order page)) lengths)
