-- The metadata of a table that was built, and the page that says it.
use Rattle.std.proofs.Common.{◌≡◌, ℕ, zero, suc, ◌+◌, ◌-◌, ◌≤◌, ◌^◌, ◌||◌, ◌&&◌, ◌%◌, Bool, true, false, cond, List, [], ◌∷◌, ◌++◌, length, None, Some, get_or}
use Rattle.std.proofs.Common.{append_assoc, pow-suc, arith, refl, sym, ◌∙◌, ap, length-append, count_ones, ◌*◌, ◌/◌, ◌==◌, not, nat_le, nat_lt, unwrap_or}
use lib.Count.{ones_step}
use Rattle.bdb_mkfile.proofs.Common.{both_true, find, flat_map, range_with_len, sum_by, and_right, eq-eqb, le-leb, le-ltb, ne_eqb, or_right, ones_le_self, pow_pos, get_or_append_left}
use Rattle.bdb_mkfile.proofs.Common.{get_or-replicate, length-replicate, length-map-range_with_len, sum_by-cons, Order, Head, HashMeta, Settings, are_masks, body_code, byte_at, common_bytes}
use Rattle.bdb_mkfile.proofs.Common.{first_row, form_code, four_at, group, has_bit, hash_fields, identity_rows, is_page_size, is_tree_type, is_zero, lacks_spare, last_field, magic_of, metadata_rows}
use Rattle.bdb_mkfile.proofs.Common.{page_code, page_type, spelled, table_bytes, version_of, zeros, none_pass, of_range, length-spelled, number_at-in, first_page_code, tree_metadata, ReadsAs}
use Rattle.bdb_mkfile.proofs.Common.{first_of_none, none_by, spread_on, page_room, Keyed, dealt, table_meta, bits_for, buckets_of, spread_bucket, table_bits, table_size, keyed_cost}
use Rattle.bdb_io.specs.of_format.declared.metadata.FileKind.TheVariants.{Hash, Queue}
use Rattle.bdb_need.proofs.of_meta.CommonLemmas.{length-common}
use Rattle.bdb_need.proofs.of_meta.SparesLemmas.{length-spares}
use Rattle.bdb_need.proofs.of_law_buckets.TableLemmas.{group_low}

-- How many bits.

found_from : (test : ℕ → Bool) (least a n d : ℕ) → least ≤ a → least ≤ d → least ≤ unwrap_or (find test (range_with_len a n)) d
found_from test least a zero d low other = other
found_from test least a (suc n) d low other = grind (arith, unwrap_or, find, range_with_len, Some, found_from test least (a + 1) n d (omega (arith, low)) other)

pub some_bits : (size cost : ℕ) → 1 ≤ bits_for size cost
some_bits size cost = found_from (λ bits. nat_le cost (2 ^ bits * (page_room size / 2))) 1 1 31 32 (omega arith) (omega arith)

-- they are no more than the spares can say
pub few_bits : (settings : Settings) (order : Order) (page : List ℕ) (first bits flags : ℕ)
    → hash_fields order page ≡ record (table_meta settings first bits) { flags = flags } → bits ≤ 31
few_bits settings order page first bits flags is =
    let said : length (hash_fields order page).spares ≡ 32 = length-map-range_with_len (λ g. four_at order page (96 + 4 * g)) 0 32 in
    let long : length (table_meta settings first bits).spares ≡ (bits + 1) + (31 - bits) = simp (length-append, length-replicate {A = ℕ}) in
    omega (arith, said, long, ap (λ (m : HashMeta). length m.spares) is)

-- Each bucket has a page.

spread_some : {A : Type 0} (room : ℕ) (first cost : A → ℕ) (left : ℕ) (page xs : List A) → 1 ≤ length (spread_on room first cost left page xs)
spread_some room first cost left page [] = omega arith
spread_some room first cost left page (x ∷ xs) = grind (arith, nat_le, spread_on, spread_some room first cost (left - cost x) (page ++ (x ∷ [])) xs)

sum_some : {A : Type 0} (f : A → ℕ) (xs : List A) → ((x : A) → 1 ≤ f x) → length xs ≤ sum_by f xs
sum_some f [] each = omega arith
sum_some f (x ∷ xs) each = omega (arith, each x, sum_some f xs each, sum_by-cons f x xs)

pub buckets_fit : (size : ℕ) (sorted : Bool) (units : List Keyed) → 2 ^ table_bits size units ≤ table_size size sorted units
buckets_fit size sorted units =
    let bits : ℕ = table_bits size units in
    let many : length (buckets_of bits units) ≡ 2 ^ bits = length-map-range_with_len (dealt bits units) 0 (2 ^ bits) in
    let each : length (buckets_of bits units) ≤ sum_by (λ bucket. length (spread_bucket size bucket)) (buckets_of bits units) =
    sum_some (λ bucket. length (spread_bucket size bucket)) (buckets_of bits units)
    (λ bucket. spread_some (page_room size) (keyed_cost size) (keyed_cost size) (page_room size) [] bucket) in
    omega (arith, many, each)

-- Masks and spares.

one_bit : (k : ℕ) → count_ones (2 ^ k) ≡ 1
one_bit zero = let step = ones_step 1 in let none = ones_le_self 0 in omega (arith, step, none)
one_bit (suc k) =
    let double : 2 ^ suc k ≡ 2 ^ k * 2 = pow-suc 2 k in
    let half : 2 ^ suc k / 2 ≡ 2 ^ k = omega (arith, double) in
    let low : 2 ^ suc k % 2 ≡ 0 = omega (arith, double) in
    let rest : count_ones (2 ^ suc k / 2) ≡ 1 = ap count_ones half ∙ one_bit k in
    let step = ones_step (2 ^ suc k) in omega (arith, step, low, rest)

pub masks_right : (settings : Settings) (first bits : ℕ) → 1 ≤ bits → are_masks (table_meta settings first bits) ≡ true
masks_right settings first zero some = absurd (omega arith)
masks_right settings first (suc k) some = grind (arith, pow-suc, pow_pos, eq-eqb, count_ones, one_bit, or_right, nat_le, both_true, le-leb)

spare_is : (settings : Settings) (first bits g : ℕ) → g ≤ bits → get_or (table_meta settings first bits).spares g 0 ≡ first
spare_is settings first bits g under = grind (arith, get_or_append_left, length-replicate, get_or-replicate)

-- each group of a bucket has its spare, where the first page isn't 0
spares_there : (settings : Settings) (first bits : ℕ) → 1 ≤ first → bits ≤ 31 → lacks_spare (table_meta settings first bits) ≡ false
spares_there settings first bits above few =
    let most : ℕ = 2 ^ bits - 1 in
    let positive = pow_pos bits in
    let low : group most ≤ bits = group_low bits most few (omega (arith, positive)) in
    none_pass (λ g. get_or (table_meta settings first bits).spares g 0 == 0) (range_with_len 0 (group most + 1))
    (λ g at.
    let bounds = of_range 0 (group most + 1) g at in
    ne_eqb (get_or (table_meta settings first bits).spares g 0) 0
    (λ none. omega (arith, none, above, spare_is settings first bits g (omega (arith, low, bounds.1)))))

pub few_flags : (duplicates sorted : Bool) → (cond duplicates 0x01 0) + (cond sorted 0x04 0) ≤ 0x05
few_flags true true = omega arith
few_flags true false = omega arith
few_flags false true = omega arith
few_flags false false = omega arith

-- The page.

pub length-table : (order : Order) (size number last elements : ℕ) (meta : HashMeta) → 224 ≤ size → length meta.spares ≡ 32
    → length (table_bytes order size number last elements meta) ≡ size
unfolding table_bytes
length-table order size number last elements meta least spares =
    simp (length-append, length-spelled, length-replicate {A = ℕ}, length-common, length-spares) (omega (arith, spares, least))

pub keyed_right : (order : Order) (size number last elements : ℕ) (meta : HashMeta) (page : List ℕ)
    → page ≡ table_bytes order size number last elements meta → four_at order page 92 ≡ 0x5e688dd1
unfolding table_bytes
keyed_right order size number last elements meta page bytes =
    let common : List ℕ = common_bytes order Hash size number meta.free (last_field number last) meta.flags in
    let numbers : List ℕ =
    spelled 4 order meta.max_bucket ++ (spelled 4 order meta.high_mask ++ (spelled 4 order meta.low_mask
    ++ (spelled 4 order meta.ffactor ++ spelled 4 order elements))) in
    let rest : List ℕ = flat_map (λ spare. spelled 4 order spare) meta.spares ++ zeros (size - 224) in
    let whole : page ≡ (common ++ numbers) ++ (spelled 4 order 0x5e688dd1 ++ rest) = bytes ∙ simp append_assoc in
    let front : 92 ≡ 0 + length (common ++ numbers) = simp (length-append, length-spelled, length-common) in
    number_at-in 4 order 0x5e688dd1 page 0 92 (common ++ numbers) rest whole front (omega arith)

-- A page of this number says the metadata of a table whose buckets' first pages follow each other from a page on, with so many bits to the number of
-- a bucket, and with flags that are known. On page 0 the file is a hash.
pub record IsTablePage (settings : Settings) (head : Head) (number first : ℕ) (page : List ℕ) (bits flags : ℕ) : Type 0 where
  pub reads : ReadsAs (record head { kind = Hash }) number page
  pub top : number ≡ 0 → head.kind ≡ Hash
  pub forest : head.kind ≡ Queue → ⊥
  pub legal : is_page_size head.page_size ≡ true
  pub long : length page ≡ head.page_size
  pub key : four_at head.order page 92 ≡ 0x5e688dd1
  pub fields : hash_fields head.order page ≡ record (table_meta settings first bits) { flags = flags }
  pub known : flags ≤ 0x07
  pub above : 1 ≤ first
  pub some : 1 ≤ bits
  pub room : 2 ^ bits ≤ head.last

-- no row of metadata holds for it
rows_accepted : (settings : Settings) (head : Head) (number first : ℕ) (page : List ℕ) (bits flags : ℕ)
    → IsTablePage settings head number first page bits flags → first_row (metadata_rows head.order page number head.last Hash) ≡ None
unfolding metadata_rows
rows_accepted settings head number first page bits flags is =
    let own : not (four_at head.order page 8 == number) ≡ false = ap not (eq-eqb (four_at head.order page 8) number is.reads.number_is) in
    let type : not (byte_at page 25 == 8) ≡ false = ap not (eq-eqb (byte_at page 25) 8 is.reads.type) in
    let magic : (nat_lt 0 number && not (four_at head.order page 12 == magic_of Hash)) ≡ false =
    and_right (nat_lt 0 number) (not (four_at head.order page 12 == magic_of Hash))
    (ap not (eq-eqb (four_at head.order page 12) (magic_of Hash) is.reads.magic)) in
    let version : (nat_lt 0 number && not (four_at head.order page 16 == version_of Hash)) ≡ false =
    and_right (nat_lt 0 number) (not (four_at head.order page 16 == version_of Hash))
    (ap not (eq-eqb (four_at head.order page 16) (version_of Hash) is.reads.version)) in
    let size : not (four_at head.order page 20 == length page) ≡ false =
    ap not (eq-eqb (four_at head.order page 20) (length page) (is.reads.size_is ∙ sym is.long)) in
    let plain : not (byte_at page 24 == 0) ≡ false = ap (λ b. not (b == 0)) is.reads.plain in
    let sum : has_bit (byte_at page 26) 0x01 ≡ false = ap (λ b. has_bit b 0x01) is.reads.flags in
    let parted : (has_bit (byte_at page 26) 0x06 || not (four_at head.order page 36 == 0)) ≡ false =
    ap (λ b. has_bit b 0x06 || not (four_at head.order page 36 == 0)) is.reads.flags ∙ ap (λ n. not (n == 0)) is.reads.partitions in
    let key : not (four_at head.order page 92 == 0x5e688dd1) ≡ false = ap (λ n. not (n == 0x5e688dd1)) is.key in
    let known : nat_lt 0x07 (four_at head.order page 48) ≡ false = ap (λ (m : HashMeta). nat_lt 0x07 m.flags) is.fields ∙ le-ltb 0x07 flags is.known in
    let masks : not (are_masks (hash_fields head.order page)) ≡ false =
    ap (λ m. not (are_masks m)) is.fields ∙ ap not (masks_right settings first bits is.some) in
    let within : nat_lt head.last (four_at head.order page 72) ≡ false =
    ap (λ (m : HashMeta). nat_lt head.last m.max_bucket) is.fields ∙ le-ltb head.last (2 ^ bits - 1) (omega (arith, is.room)) in
    let spares : (nat_lt head.last (four_at head.order page 72) || lacks_spare (hash_fields head.order page)) ≡ false =
    ap (λ b. b || lacks_spare (hash_fields head.order page)) within
    ∙ (ap lacks_spare is.fields
    ∙ spares_there settings first bits is.above (few_bits settings head.order page first bits flags is.fields)) in
    first_of_none (metadata_rows head.order page number head.last Hash)
    (own, (type, (magic, (version, (size, (plain, (sum, (parted, (key, (known, (masks, (spares, tt))))))))))))

-- above page 0 its number and its type are right
code_accepted : (settings : Settings) (head : Head) (number first : ℕ) (page : List ℕ) (bits flags : ℕ)
    → IsTablePage settings head number first page bits flags → page_code head.order number page ≡ None
unfolding page_code
code_accepted settings head number first page bits flags is =
    let type : byte_at page 25 ≡ 8 = is.reads.type in
    none_by (is_zero page) (first_row (identity_rows head.order page number is_tree_type)) (body_code head.order page (page_type (byte_at page 25)))
    (first_of_none (identity_rows head.order page number is_tree_type)
    (ap not (eq-eqb (four_at head.order page 8) number is.reads.number_is), (ap (λ b. not (is_tree_type b)) type, tt)))
    (ap (λ b. body_code head.order page (page_type b)) type)

-- no row of form holds for the metadata of a table
pub table_accepted : (settings : Settings) (head : Head) (number first : ℕ) (page : List ℕ) (bits flags : ℕ)
    → IsTablePage settings head number first page bits flags → form_code head number page ≡ None
table_accepted settings head zero first page bits flags is =
    first_page_code head page
    ∙ (ap (λ k. first_row (metadata_rows head.order page 0 head.last k)) (is.top refl) ∙ rows_accepted settings head 0 first page bits flags is)
table_accepted settings head (suc n) first page bits flags is =
    tree_metadata head (suc n) page Hash (omega arith) is.forest (code_accepted settings head (suc n) first page bits flags is)
    (ap is_page_size is.long ∙ is.legal) is.reads.type
    ∙ rows_accepted settings head (suc n) first page bits flags is
