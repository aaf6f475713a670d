-- What is read from the bytes that spell metadata.
use Rattle.std.proofs.Common.{◌≡◌, ℕ, ◌+◌, ◌-◌, ◌^◌, ◌<◌, List, ◌++◌, length, refl, ◌∙◌, append_assoc, length-append}
use Rattle.bdb_layout.specs.of_format.declared.kinds.Order.{Order}
use Rattle.bdb_layout.specs.of_format.declared.metadata.BtreeMeta.{BtreeMeta}
use Rattle.bdb_layout.specs.of_format.declared.metadata.HashMeta.{HashMeta}
use Rattle.bdb_layout.specs.of_format.declared.metadata.QueueMeta.{QueueMeta}
use Rattle.bdb_layout.specs.of_format.declared.metadata.FileKind.TheVariants.{Btree, Hash, Queue}
use Rattle.bdb_layout.specs.of_format.Terms.{btree_bytes, btree_fields, common_bytes, four_at, hash_fields, last_field, queue_bytes, queue_fields, spelled}
use Rattle.bdb_layout.specs.of_format.Terms.{table_bytes, zeros}
use Rattle.bdb_layout.proofs.of_format.SpellingLemmas.{length-spelled, number_at-behind, number_at-first}
use Rattle.bdb_meta.specs.ReadBack.{BtreeFits, QueueFits, SparesFit, TableFits}
use Rattle.bdb_meta.proofs.CommonLemmas.{behind-common, behind-number, flags-common, free-common, length-common}
use Rattle.bdb_meta.proofs.SparesLemmas.{spares-in, spares_bytes}

-- a number that stands at a place behind the common fields
first : (order : Order) (x : ℕ) (rest : List ℕ) → x < 2 ^ 32 → four_at order (spelled 4 order x ++ rest) 0 ≡ x
first order x rest h = number_at-first 4 order x rest h

second : (order : Order) (a x : ℕ) (rest : List ℕ) → x < 2 ^ 32 → four_at order (spelled 4 order a ++ (spelled 4 order x ++ rest)) 4 ≡ x
second order a x rest h = behind-number order a (spelled 4 order x ++ rest) 4 0 refl ∙ first order x rest h

third : (order : Order) (a b x : ℕ) (rest : List ℕ) → x < 2 ^ 32 → four_at order (spelled 4 order a ++ (spelled 4 order b ++ (spelled 4 order x ++ rest))) 8 ≡ x
third order a b x rest h = behind-number order a (spelled 4 order b ++ (spelled 4 order x ++ rest)) 8 4 refl ∙ second order b x rest h

fourth : (order : Order) (a b c x : ℕ) (rest : List ℕ) → x < 2 ^ 32
    → four_at order (spelled 4 order a ++ (spelled 4 order b ++ (spelled 4 order c ++ (spelled 4 order x ++ rest)))) 12 ≡ x
fourth order a b c x rest h = behind-number order a (spelled 4 order b ++ (spelled 4 order c ++ (spelled 4 order x ++ rest))) 12 8 refl
    ∙ third order b c x rest h

fifth : (order : Order) (a b c d x : ℕ) (rest : List ℕ) → x < 2 ^ 32
    → four_at order (spelled 4 order a ++ (spelled 4 order b ++ (spelled 4 order c ++ (spelled 4 order d ++ (spelled 4 order x ++ rest))))) 16 ≡ x
fifth order a b c d x rest h =
    behind-number order a (spelled 4 order b ++ (spelled 4 order c ++ (spelled 4 order d ++ (spelled 4 order x ++ rest)))) 16 12 refl
    ∙ fourth order b c d x rest h

pub btree_fields-bytes : (order : Order) (size number last : ℕ) (meta : BtreeMeta) → BtreeFits meta
    → btree_fields order (btree_bytes order size number last meta) ≡ meta
unfolding btree_bytes
btree_fields-bytes order size number last meta fits =
    let end : List ℕ = zeros (size - 92) in
    let numbers : List ℕ = spelled 4 order meta.minkey ++ (spelled 4 order meta.re_len ++ (spelled 4 order meta.re_pad ++ (spelled 4 order meta.root ++ end)))
    in
    let behind = λ (place k : ℕ) (h : place ≡ 72 + (4 + k)).
    behind-common order Btree size number meta.free (last_field number last) meta.flags (zeros 4 ++ numbers) place (4 + k) h
    ∙ number_at-behind 4 order (zeros 4) numbers k in
    let flags = flags-common order Btree size number meta.free (last_field number last) meta.flags (zeros 4 ++ numbers) fits.flags in
    let free = free-common order Btree size number meta.free (last_field number last) meta.flags (zeros 4 ++ numbers) fits.free in
    let minkey = behind 76 0 refl ∙ first order meta.minkey _ fits.minkey in
    let re_len = behind 80 4 refl ∙ second order meta.minkey meta.re_len _ fits.re_len in
    let re_pad = behind 84 8 refl ∙ third order meta.minkey meta.re_len meta.re_pad _ fits.re_pad in
    let root = behind 88 12 refl ∙ fourth order meta.minkey meta.re_len meta.re_pad meta.root _ fits.root in
    rw (flags, minkey, re_len, re_pad, root, free)

pub btree_pieces : (order : Order) (size number last : ℕ) (meta : BtreeMeta) →
    (((((common_bytes order Btree size number meta.free (last_field number last) meta.flags ++ zeros 4) ++ spelled 4 order meta.minkey)
    ++ spelled 4 order meta.re_len)
    ++ spelled 4 order meta.re_pad) ++ spelled 4 order meta.root) ++ zeros (size - 92) ≡ btree_bytes order size number last meta
unfolding btree_bytes
btree_pieces order size number last meta = simp append_assoc

pub queue_fields-bytes : (order : Order) (size last : ℕ) (meta : QueueMeta) → QueueFits meta → queue_fields order (queue_bytes order size last meta) ≡ meta
unfolding queue_bytes
queue_fields-bytes order size last meta fits =
    let end : List ℕ = zeros (size - 92) in
    let numbers : List ℕ = spelled 4 order meta.first ++ (spelled 4 order meta.current
    ++ (spelled 4 order meta.re_len ++ (spelled 4 order meta.re_pad ++ (spelled 4 order meta.per_page ++ end)))) in
    let behind = behind-common order Queue size 0 0 last 0 numbers in
    let one = behind 72 0 refl ∙ first order meta.first _ fits.first in
    let current = behind 76 4 refl ∙ second order meta.first meta.current _ fits.current in
    let re_len = behind 80 8 refl ∙ third order meta.first meta.current meta.re_len _ fits.re_len in
    let re_pad = behind 84 12 refl ∙ fourth order meta.first meta.current meta.re_len meta.re_pad _ fits.re_pad in
    let per_page = behind 88 16 refl ∙ fifth order meta.first meta.current meta.re_len meta.re_pad meta.per_page _ fits.per_page in
    rw (one, current, re_len, re_pad, per_page)

pub queue_pieces : (order : Order) (size last : ℕ) (meta : QueueMeta) →
    (((((common_bytes order Queue size 0 0 last 0 ++ spelled 4 order meta.first) ++ spelled 4 order meta.current) ++ spelled 4 order meta.re_len)
    ++ spelled 4 order meta.re_pad) ++ spelled 4 order meta.per_page) ++ zeros (size - 92) ≡ queue_bytes order size last meta
unfolding queue_bytes
queue_pieces order size last meta = simp append_assoc

hash_meta_is : (flags max_bucket high_mask low_mask ffactor free : ℕ) (spares : List ℕ) (meta : HashMeta)
    → flags ≡ meta.flags → max_bucket ≡ meta.max_bucket → high_mask ≡ meta.high_mask → low_mask ≡ meta.low_mask → ffactor ≡ meta.ffactor → spares ≡ meta.spares
    → free ≡ meta.free
    → (record { flags = flags; max_bucket = max_bucket; high_mask = high_mask; low_mask = low_mask; ffactor = ffactor; spares = spares; free = free }) ≡ meta
hash_meta_is flags max_bucket high_mask low_mask ffactor free spares meta a b c d e f g = rw (a, b, c, d, e, f, g)

pub hash_fields-bytes : (order : Order) (size number last elements : ℕ) (meta : HashMeta) → TableFits meta
    → (hash_fields order (table_bytes order size number last elements meta)).spares ≡ meta.spares
    → hash_fields order (table_bytes order size number last elements meta) ≡ meta
unfolding table_bytes
hash_fields-bytes order size number last elements meta fits spares =
    let page : List ℕ = table_bytes order size number last elements meta in
    let end : List ℕ = spelled 4 order elements ++ (spelled 4 order 0x5e688dd1 ++ (spares_bytes order meta.spares ++ zeros (size - 224))) in
    let numbers : List ℕ = spelled 4 order meta.max_bucket ++ (spelled 4 order meta.high_mask
    ++ (spelled 4 order meta.low_mask ++ (spelled 4 order meta.ffactor ++ end))) in
    let behind = behind-common order Hash size number meta.free (last_field number last) meta.flags numbers in
    let flags = flags-common order Hash size number meta.free (last_field number last) meta.flags numbers fits.flags in
    let free = free-common order Hash size number meta.free (last_field number last) meta.flags numbers fits.free in
    let max_bucket = behind 72 0 refl ∙ first order meta.max_bucket _ fits.max_bucket in
    let high_mask = behind 76 4 refl ∙ second order meta.max_bucket meta.high_mask _ fits.high_mask in
    let low_mask = behind 80 8 refl ∙ third order meta.max_bucket meta.high_mask meta.low_mask _ fits.low_mask in
    let ffactor = behind 84 12 refl ∙ fourth order meta.max_bucket meta.high_mask meta.low_mask meta.ffactor _ fits.ffactor in
    hash_meta_is (four_at order page 48) (four_at order page 72) (four_at order page 76) (four_at order page 80) (four_at order page 84) (four_at order page 28)
    (hash_fields order page).spares meta flags max_bucket high_mask low_mask ffactor spares free

pub table_pieces : (order : Order) (size number last elements : ℕ) (meta : HashMeta) →
    (((((((common_bytes order Hash size number meta.free (last_field number last) meta.flags ++ spelled 4 order meta.max_bucket)
    ++ spelled 4 order meta.high_mask)
    ++ spelled 4 order meta.low_mask) ++ spelled 4 order meta.ffactor) ++ spelled 4 order elements) ++ spelled 4 order 0x5e688dd1)
    ++ spares_bytes order meta.spares) ++ zeros (size - 224)
    ≡ table_bytes order size number last elements meta
unfolding table_bytes
table_pieces order size number last elements meta = simp append_assoc

pub spares-bytes : (order : Order) (size number last elements : ℕ) (meta : HashMeta) → SparesFit meta
    → (hash_fields order (table_bytes order size number last elements meta)).spares ≡ meta.spares
unfolding table_bytes
spares-bytes order size number last elements meta fits =
    let common : List ℕ = common_bytes order Hash size number meta.free (last_field number last) meta.flags in
    let numbers : List ℕ =
    spelled 4 order meta.max_bucket ++ (spelled 4 order meta.high_mask ++ (spelled 4 order meta.low_mask ++ (spelled 4 order meta.ffactor
    ++ (spelled 4 order elements ++ spelled 4 order 0x5e688dd1)))) in
    let long : length (common ++ numbers) ≡ 96 = simp (length-append, length-spelled, length-common) in
    spares-in order (common ++ numbers) (zeros (size - 224)) meta.spares (table_bytes order size number last elements meta) long fits.count fits.each
    (simp append_assoc)
