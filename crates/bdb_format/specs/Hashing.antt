-- The hash of a key, its bucket, and the first page of a bucket. Source: docs/FORMAT.md, "Hash formulas".
use Rattle.std.specs.Prelude.{ℕ, ◌+◌, ◌*◌, ◌%◌, ◌^◌, nat_lt, if◌then◌else◌, List, slice_index, bit_and, bit_xor}
use Rattle.std.specs.Option.{unwrap_or}
use Rattle.std.specs.List.{find, fold, range_with_len}

-- one byte more
abbrev pub hash_step : ℕ → ℕ → ℕ
hash_step h byte = bit_xor (h * 16777619 % 2 ^ 32) byte

abbrev pub hash5 : List ℕ → ℕ
hash5 bytes = fold hash_step 0 bytes

-- the bucket of a hash
abbrev pub bucket : ℕ → ℕ → ℕ → ℕ → ℕ
bucket hash max_bucket high_mask low_mask =
    if nat_lt max_bucket (bit_and hash high_mask) then bit_and hash low_mask else bit_and hash high_mask

-- the group of a bucket below 2^32: the least g for which 2^g is above it
unfoldable pub group : ℕ → ℕ
group bucket = unwrap_or (find (λ g. nat_lt bucket (2 ^ g)) (range_with_len 0 33)) 33

-- the first page of a bucket
abbrev pub first_page : ℕ → List ℕ → ℕ
first_page bucket spares = bucket + slice_index spares (group bucket)
