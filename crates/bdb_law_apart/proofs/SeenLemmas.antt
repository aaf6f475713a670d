-- A sound file as it is read.
use Rattle.std.proofs.Common.{◌≡◌, ℕ, ◌<◌, ◌≤◌, Bool, true, false, List, arith, sym, ◌∙◌, ap, inl, inr, true≢false}
use Rattle.std.proofs.lemmas.Bool.{cases_lt}
use Rattle.bdb_apart.specs.of_format.Terms.{NoType, Page, Zero, file_of, header_in, page_at}
use Rattle.bdb_apart.proofs.of_homes.Homes.{home}
use Rattle.bdb_law_homes.proofs.of_format.FileLemmas.{past_last}
use Rattle.bdb_law_homes.specs.of_law_sums.Databases.{IsSoundForest}
use Rattle.bdb_law_homes.proofs.of_law_sums.MetaLemmas.{sound_forest}
use Rattle.bdb_law_homes.specs.of_law_whole.Guessed.{guessed}
use Rattle.bdb_law_homes.specs.of_law_whole.Kept.{IsSoundFile}
use Rattle.bdb_law_homes.specs.of_law_whole.Whole.{AreBytes, IsStructured}
use Rattle.bdb_law_homes.proofs.of_law_whole.KeptLemmas.{structured}
use Rattle.bdb_law_homes.proofs.of_law_whole.PageLemmas.{same_count, same_page, seen_alike}
use Rattle.bdb_law_homes.proofs.of_law_whole.SetLemmas.{level_fits}
use Rattle.bdb_law_homes.specs.Led.{IsOwned}
use Rattle.bdb_law_homes.specs.Owned.{HasByteLevels}
use Rattle.bdb_law_homes.proofs.SalvagedLemmas.{salvaged_homes_are_those}
use Rattle.bdb_law_homes.proofs.SoundLemmas.{sound_files_are_owned}

-- what is known of it
pub record IsSeen (image : List ℕ) : Type 0 where
  pub is : IsSoundFile image
  pub sound : IsSoundForest image
  pub whole : IsStructured image
  pub owned : IsOwned (file_of image)
  pub levels : HasByteLevels (file_of image)

byte_levels : (image : List ℕ) → AreBytes image → HasByteLevels (file_of image)
byte_levels image are p = elim (cases_lt (file_of image).last p) [
  | inl past ↦
      let none : (header_in (page_at (file_of image) p)).level ≡ 0 = ap (λ (page : Page). (header_in page).level) (past_last image p past) in
      omega (arith, none)
  | inr low ↦ level_fits image p are low
]

pub seen : (image : List ℕ) → IsSoundFile image → IsSeen image
seen image is =
    let sound : IsSoundForest image = sound_forest image is.small is.sound is.kind in
    record {
      is = is;
      sound = sound;
      whole = structured image sound;
      owned = sound_files_are_owned image sound.forest sound.kind;
      levels = byte_levels image is.bytes;
    }

-- up to the last page the pages are those of the file
pub page_is : (image : List ℕ) (p : ℕ) → IsSeen image → p ≤ (file_of image).last → page_at (guessed image) p ≡ page_at (file_of image) p
page_is image p is low = same_page image p is.sound.forest is.whole.kind low

-- a page of which something is told is one of these
pub inside : (image : List ℕ) (test : Page → Bool) (p : ℕ) → IsSeen image → test Zero ≡ test NoType → test NoType ≡ false
    → test (page_at (guessed image) p) ≡ true → p ≤ (file_of image).last
inside image test p is alike none some = elim (cases_lt (file_of image).last p) [
  | inl past ↦
      absurd
      (true≢false
      (sym some ∙ (seen_alike test image p is.sound.forest is.whole.kind alike ∙ (ap test (past_last image p past) ∙ none))))
  | inr low ↦ low
]

-- and so is one that has something in the file
pub inside_file : (image : List ℕ) (test : Page → Bool) (p : ℕ) → test NoType ≡ false → test (page_at (file_of image) p) ≡ true
    → p ≤ (file_of image).last
inside_file image test p none some = elim (cases_lt (file_of image).last p) [
  | inl past ↦ absurd (true≢false (sym some ∙ (ap test (past_last image p past) ∙ none)))
  | inr low ↦ low
]

pub below_count : (image : List ℕ) (p : ℕ) → IsSeen image → p ≤ (file_of image).last → p < (guessed image).count
below_count image p is low = omega (arith, low, is.owned.there, same_count image)

-- and the homes are those
pub home_is : (image : List ℕ) (p : ℕ) → IsSeen image → home (guessed image) p ≡ home (file_of image) p
home_is image p is = salvaged_homes_are_those image p is.sound.forest is.whole.kind
