-- The bytes of the fields that all metadata has: how they are written, and what is read from them.
use Rattle.std.proofs.Common.{◌≡◌, ℕ, ◌+◌, ◌-◌, ◌^◌, ◌<◌, ◌≤◌, List, [], ◌∷◌, ◌++◌, length, IsTrue, ap, ◌∙◌, arith, append_assoc, length-append}
use Rattle.std.proofs.lemmas.Bool.Decides.{nat_tests}
use Rattle.std.proofs.lemmas.List.{length-replicate}
use Rattle.bdb_layout.specs.of_format.declared.kinds.Order.{Order}
use Rattle.bdb_layout.specs.of_format.declared.metadata.FileKind.{FileKind}
use Rattle.bdb_layout.specs.of_format.Terms.{common_bytes, four_at, is_page_size, lsn_bytes, magic_of, spelled, type_of, version_of, zeros}
use Rattle.bdb_layout.proofs.of_format.SpellingLemmas.{length-spelled, number_at-in, number_at-behind}
use Rattle.bdb_meta.proofs.FilledLemmas.{Filled, zeros-spelled}

-- the pieces in the order in which they are written
pub common_pieces : (order : Order) (kind : FileKind) (size number free last flags : ℕ) →
    ((((((((((((zeros 4 ++ spelled 4 order 1) ++ spelled 4 order number) ++ spelled 4 order (magic_of kind)) ++ spelled 4 order (version_of kind))
    ++ spelled 4 order size) ++ zeros 1) ++ type_of kind ∷ []) ++ zeros 2) ++ spelled 4 order free) ++ spelled 4 order last) ++ zeros 12)
    ++ spelled 4 order flags) ++ zeros 20
    ≡ common_bytes order kind size number free last flags
unfolding common_bytes
common_pieces order kind size number free last flags = rw (zeros-spelled order) (simp append_assoc)

pub length-common : (order : Order) (kind : FileKind) (size number free last flags : ℕ) → length (common_bytes order kind size number free last flags) ≡ 72
unfolding common_bytes
length-common order kind size number free last flags = simp (length-append, length-spelled, length-replicate {A = ℕ})

pub free-common : (order : Order) (kind : FileKind) (size number free last flags : ℕ) (rest : List ℕ) → free < 2 ^ 32
    → four_at order (common_bytes order kind size number free last flags ++ rest) 28 ≡ free
unfolding common_bytes
free-common order kind size number free last flags rest h =
    let front : List ℕ = lsn_bytes order ++ (spelled 4 order number ++ (spelled 4 order (magic_of kind)
    ++ (spelled 4 order (version_of kind) ++ (spelled 4 order size ++ 0 ∷ type_of kind ∷ 0 ∷ 0 ∷ [])))) in
    number_at-in 4 order free (common_bytes order kind size number free last flags ++ rest) 0 28 front
    (spelled 4 order last ++ (zeros 12 ++ (spelled 4 order flags ++ zeros 20)) ++ rest)
    (simp append_assoc) (simp (length-append, length-spelled)) h

pub flags-common : (order : Order) (kind : FileKind) (size number free last flags : ℕ) (rest : List ℕ) → flags < 2 ^ 32
    → four_at order (common_bytes order kind size number free last flags ++ rest) 48 ≡ flags
unfolding common_bytes
flags-common order kind size number free last flags rest h =
    let front : List ℕ =
    lsn_bytes order ++ (spelled 4 order number ++ (spelled 4 order (magic_of kind) ++ (spelled 4 order (version_of kind) ++ (spelled 4 order size
    ++ (0 ∷ type_of kind ∷ 0 ∷ 0 ∷ (spelled 4 order free ++ (spelled 4 order last ++ zeros 12))))))) in
    number_at-in 4 order flags (common_bytes order kind size number free last flags ++ rest) 0 48 front (zeros 20 ++ rest)
    (simp append_assoc) (simp (length-append, length-spelled, length-replicate {A = ℕ})) h

-- what is read behind the common fields
pub behind-common : (order : Order) (kind : FileKind) (size number free last flags : ℕ) (rest : List ℕ) (place k : ℕ) → place ≡ 72 + k
    → four_at order (common_bytes order kind size number free last flags ++ rest) place ≡ four_at order rest k
behind-common order kind size number free last flags rest place k h =
    let common : List ℕ = common_bytes order kind size number free last flags in
    let place_is : place ≡ length common + k = omega (arith, length-common order kind size number free last flags) in
    ap (λ at. four_at order (common ++ rest) at) place_is ∙ number_at-behind 4 order common rest k

-- what is read behind a number
pub behind-number : (order : Order) (x : ℕ) (rest : List ℕ) (place k : ℕ) → place ≡ 4 + k → four_at order (spelled 4 order x ++ rest) place
    ≡ four_at order rest k
behind-number order x rest place k h =
    let place_is : place ≡ length (spelled 4 order x) + k = omega (arith, length-spelled 4 order x) in
    ap (λ at. four_at order (spelled 4 order x ++ rest) at) place_is ∙ number_at-behind 4 order (spelled 4 order x) rest k

-- a page that has its common fields, and zeros behind them
pub filled_common : {page : List ℕ} {size : ℕ} (order : Order) (kind : FileKind) (number free last flags : ℕ)
    → page ≡ common_bytes order kind size number free last flags ++ zeros (size - 72) → 72 ≤ size
    → Filled page size (common_bytes order kind size number free last flags) 72
filled_common {page} {size} order kind number free last flags h room = record
    { is = h; long = length-common order kind size number free last flags; room = room }

pub page_size-least : (size : ℕ) → IsTrue (is_page_size size) → 512 ≤ size
page_size-least size h = grind (arith, nat_tests)
