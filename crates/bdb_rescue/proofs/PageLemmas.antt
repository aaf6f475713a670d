-- A page of an image lies within it.
use Rattle.std.proofs.Common.{◌≡◌, ℕ, ◌+◌, ◌*◌, ◌<◌, ◌≤◌, true, length, arith, subst}
use Rattle.bdb_text_format.specs.of_format.Terms.{is_page_size}
use Rattle.bdb_rescue.specs.Kept.{Reading, file_in}
use Rattle.bdb_survey.proofs.of_format.SizeLemmas.{long_page}
use Rattle.bdb_survey.proofs.of_overflow.WholeLemmas.{page_room}
use Rattle.bdb_survey.proofs.StoredPageLemmas.{count_is}

pub page_ends : (reading : Reading) (p : ℕ) → is_page_size reading.guess.page_size ≡ true → p < (file_in reading).count
    → p * reading.guess.page_size + reading.guess.page_size ≤ length reading.image
page_ends reading p legal there =
    page_room (length reading.image) reading.guess.page_size p (omega (arith, long_page reading.guess.page_size legal))
    (subst (λ n. p < n) (count_is reading.guess.order reading.guess.page_size reading.image) there)
