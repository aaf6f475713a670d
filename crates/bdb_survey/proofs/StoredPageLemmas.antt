-- The pages that a guess reads.
use Rattle.std.proofs.Common.{◌≡◌, ℕ, ◌-◌, ◌*◌, ◌/◌, ◌<◌, ◌≤◌, List, map, length, take, drop, arith, refl}
use Rattle.std.specs.List.{range_with_len}
use Rattle.std.proofs.lemmas.List.{get_or_past}
use Rattle.std.proofs.lemmas.List.FromFn.{get_or-map-range_with_len, length-map-range_with_len}
use Rattle.bdb_law_sums.specs.of_format.declared.kinds.Order.{Order}
use Rattle.bdb_law_sums.specs.of_format.Terms.{NoType, page_at}
use Rattle.bdb_survey.specs.Salvage.{salvaged_file, salvaged_page}

pub count_is : (order : Order) (size : ℕ) (image : List ℕ) → (salvaged_file order size image).count ≡ length image / size
unfolding salvaged_file Rattle.bdb_law_sums.specs.of_format.File.file_as
count_is order size image = refl

pub last_is : (order : Order) (size : ℕ) (image : List ℕ) → (salvaged_file order size image).last ≡ length image / size - 1
unfolding salvaged_file Rattle.bdb_law_sums.specs.of_format.File.file_as
last_is order size image = refl

pub page_is : (order : Order) (size : ℕ) (image : List ℕ) (p : ℕ) → p < length image / size
    → page_at (salvaged_file order size image) p ≡ salvaged_page order (length image / size - 1) (take size (drop (p * size) image))
unfolding salvaged_file
page_is order size image p there =
    get_or-map-range_with_len (λ q. salvaged_page order (length image / size - 1) (take size (drop (q * size) image))) 0 (length image / size) p p NoType there
    (omega arith)

pub page_past : (order : Order) (size : ℕ) (image : List ℕ) (p : ℕ) → length image / size ≤ p → page_at (salvaged_file order size image) p ≡ NoType
unfolding salvaged_file
page_past order size image p past =
    get_or_past (map (λ q. salvaged_page order (length image / size - 1) (take size (drop (q * size) image))) (range_with_len 0 (length image / size))) p NoType
    (omega (arith, length-map-range_with_len (λ q. salvaged_page order (length image / size - 1) (take size (drop (q * size) image))) 0 (length image / size)))
