-- What is read of the fields that all metadata has.
use Rattle.std.proofs.Common.{◌≡◌, ℕ, true, false, cond, ◌^◌, ◌<◌, List, [], ◌∷◌, ◌++◌, take, drop, arith, append_assoc, refl, ◌∙◌, ap, length-append}
use Rattle.std.specs.Prelude.{◌==◌, if◌then◌else◌}
use Rattle.std.proofs.lemmas.List.{take_at}
use Rattle.bdb_graph.specs.of_format.declared.kinds.Order.{Order}
use Rattle.bdb_graph.specs.of_format.declared.kinds.Order.TheVariants.{Big, Little}
use Rattle.bdb_graph.specs.of_format.declared.metadata.FileKind.{FileKind}
use Rattle.bdb_graph.specs.of_format.declared.metadata.FileKind.TheVariants.{Btree, Hash, Queue}
use Rattle.bdb_graph.specs.of_format.declared.metadata.Head.{Head}
use Rattle.bdb_graph.specs.of_format.Terms.{byte_at, common_bytes, four_at, is_magic, last_field, lsn_bytes, magic_of, number, number_at, order_of, spelled}
use Rattle.bdb_graph.specs.of_format.Terms.{type_of, version_of, zeros}
use Rattle.bdb_graph.proofs.of_format.SpellingLemmas.{byte_at-in, drop-behind, length-spelled, number_at-in}
use Rattle.bdb_graph.proofs.of_meta.FilledLemmas.{zeros-spelled}

-- what is read of the fields that all metadata has, from a page of this number in a file with this head
pub record ReadsAs (head : Head) (number : ℕ) (bytes : List ℕ) : Type 0 where
  pub order_is : order_of bytes ≡ head.order
  pub number_is : four_at head.order bytes 8 ≡ number
  pub magic : four_at head.order bytes 12 ≡ magic_of head.kind
  pub version : four_at head.order bytes 16 ≡ version_of head.kind
  pub size_is : four_at head.order bytes 20 ≡ head.page_size
  pub plain : byte_at bytes 24 ≡ 0
  pub type : byte_at bytes 25 ≡ type_of head.kind
  pub flags : byte_at bytes 26 ≡ 0
  pub last_is : four_at head.order bytes 32 ≡ last_field number head.last
  pub partitions : four_at head.order bytes 36 ≡ 0

-- from bytes in either order the magic number is told from itself byte-swapped
order_from : (order : Order) (kind : FileKind) → (if is_magic (number Little (spelled 4 order (magic_of kind))) then Little else Big) ≡ order
unfolding spelled
order_from Little Btree = refl
order_from Little Hash = refl
order_from Little Queue = refl
order_from Big Btree = refl
order_from Big Hash = refl
order_from Big Queue = refl

small_magic : (kind : FileKind) → magic_of kind < 2 ^ 32
small_magic Btree = omega arith
small_magic Hash = omega arith
small_magic Queue = omega arith

small_version : (kind : FileKind) → version_of kind < 2 ^ 32
small_version Btree = omega arith
small_version Hash = omega arith
small_version Queue = omega arith

small_field : (number last : ℕ) → last < 2 ^ 32 → last_field number last < 2 ^ 32
small_field number last small = elim (number == 0) as (λ b. cond b last 0 < 2 ^ 32) [ true ↦ small | false ↦ omega arith ]

order_read : (order : Order) (kind : FileKind) (bytes rest : List ℕ) → drop 12 bytes ≡ spelled 4 order (magic_of kind) ++ rest
    → order_of bytes ≡ order
unfolding number_at
order_read order kind bytes rest at =
    let magic : List ℕ = spelled 4 order (magic_of kind) in
    ap (λ bs. if is_magic (number Little (take 4 bs)) then Little else Big) at
    ∙ (ap (λ bs. if is_magic (number Little bs) then Little else Big) (take_at magic rest 4 (length-spelled 4 order (magic_of kind)))
    ∙ order_from order kind)

-- what all metadata spells is read back
pub reads_common : (head : Head) (number free flags : ℕ) (rest : List ℕ) → head.page_size < 2 ^ 32 → number < 2 ^ 32 → head.last < 2 ^ 32
    → ReadsAs head number (common_bytes head.order head.kind head.page_size number free (last_field number head.last) flags ++ rest)
unfolding common_bytes
reads_common head number free flags rest small_size small_number small_last =
    let order : Order = head.order in
    let last : ℕ = last_field number head.last in
    let magic : ℕ = magic_of head.kind in
    let version : ℕ = version_of head.kind in
    let type : ℕ = type_of head.kind in
    let bytes : List ℕ = common_bytes order head.kind head.page_size number free last flags ++ rest in
    let end : List ℕ = zeros 8 ++ (spelled 4 order flags ++ (zeros 20 ++ rest)) in
    let behind : List ℕ = spelled 4 order free ++ (spelled 4 order last ++ (spelled 4 order 0 ++ end)) in
    let bits : List ℕ = 0 ∷ type ∷ 0 ∷ 0 ∷ behind in
    let from_size : List ℕ = spelled 4 order head.page_size ++ bits in
    let from_version : List ℕ = spelled 4 order version ++ from_size in
    let from_magic : List ℕ = spelled 4 order magic ++ from_version in
    let from_number : List ℕ = spelled 4 order number ++ from_magic in
    let at0 : drop 0 bytes ≡ lsn_bytes order ++ from_number = rw (zeros-spelled order) (simp append_assoc) in
    let at8 : drop 8 bytes ≡ from_number = drop-behind bytes 0 8 (lsn_bytes order) from_number at0 (simp (length-append, length-spelled)) in
    let at12 : drop 12 bytes ≡ from_magic =
    drop-behind bytes 8 12 (spelled 4 order number) from_magic at8 (omega (arith, length-spelled 4 order number)) in
    let at16 : drop 16 bytes ≡ from_version =
    drop-behind bytes 12 16 (spelled 4 order magic) from_version at12 (omega (arith, length-spelled 4 order magic)) in
    let at20 : drop 20 bytes ≡ from_size =
    drop-behind bytes 16 20 (spelled 4 order version) from_size at16 (omega (arith, length-spelled 4 order version)) in
    let at24 : drop 24 bytes ≡ bits =
    drop-behind bytes 20 24 (spelled 4 order head.page_size) bits at20 (omega (arith, length-spelled 4 order head.page_size)) in
    let at28 : drop 28 bytes ≡ behind = drop-behind bytes 24 28 (0 ∷ type ∷ 0 ∷ 0 ∷ []) behind at24 refl in
    record {
      order_is = order_read order head.kind bytes from_version at12;
      number_is = number_at-in 4 order number bytes 8 8 [] from_magic at8 refl small_number;
      magic = number_at-in 4 order magic bytes 12 12 [] from_version at12 refl (small_magic head.kind);
      version = number_at-in 4 order version bytes 16 16 [] from_size at16 refl (small_version head.kind);
      size_is = number_at-in 4 order head.page_size bytes 20 20 [] bits at20 refl small_size;
      plain = byte_at-in bytes 24 24 [] 0 (type ∷ 0 ∷ 0 ∷ behind) at24 refl;
      type = byte_at-in bytes 24 25 (0 ∷ []) type (0 ∷ 0 ∷ behind) at24 refl;
      flags = byte_at-in bytes 24 26 (0 ∷ type ∷ []) 0 (0 ∷ behind) at24 refl;
      last_is = number_at-in 4 order last bytes 28 32 (spelled 4 order free) (spelled 4 order 0 ++ end) at28
          (omega (arith, length-spelled 4 order free)) (small_field number head.last small_last);
      partitions = number_at-in 4 order 0 bytes 28 36 (spelled 4 order free ++ spelled 4 order last) end
          (at28 ∙ simp append_assoc) (simp (length-append, length-spelled)) (omega arith);
    }
