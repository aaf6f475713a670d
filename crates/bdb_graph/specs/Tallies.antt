-- What is counted of the references to each page. Who owns a page is `owners` of bdb_format.
use Rattle.std.specs.Prelude.{◌≡◌, ℕ, ◌+◌, ◌-◌, ◌^◌, ◌<◌, ◌≤◌, ◌==◌, min, if◌then◌else◌, Bool, true, false, List, length, get_or, Option, Some, None}
use Rattle.std.specs.List.{filter, list_all, list_any}
use Rattle.bdb_graph.specs.declared.tally.Tally.{Tally}
use Rattle.bdb_image.specs.of_format.declared.references.Reference.{Reference}
use Rattle.bdb_image.specs.of_format.Terms.{File, Owner, first_holder, is_hash_meta, is_head_reference, owners}

abbrev pub owner : ℕ → Reference → Owner
owner holder reference = record { holder = holder; reference = reference }

abbrev pub names_page : ℕ → Owner → Bool
names_page p owner = owner.reference.target == p

-- the page that holds the first reference, if there is one
abbrev pub first_of : Tally → Option ℕ
first_of tally = if tally.count == 0 then None else Some tally.first

-- as far as owners are counted: where all are to the head of a chain to the end of the count's type, else to two, since no more is asked
abbrev pub counted_to : Bool → ℕ
counted_to true = 2 ^ 32 - 1
counted_to false = 2

-- what a tally says of the owners so far
pub record IsTally (tally : Tally) (os : List Owner) : Type 0 where
  pub counted : min (counted_to tally.heads_alone) tally.count ≡ min (counted_to tally.heads_alone) (length os)
  pub led : first_of tally ≡ first_holder os
  pub heads : tally.heads_alone ≡ list_all (λ (owner : Owner). is_head_reference owner.reference.sort) os

-- what stands for the tally of a page that isn't there
abbrev pub no_tally : Tally
no_tally = record { count = 0; first = 0; heads_alone = false }

-- each page has the tally of its owners among these
pub record AreTallies (tallies : List Tally) (os : List Owner) : Type 0 where
  pub each : (p : ℕ) → p < length tallies → IsTally (get_or tallies p no_tally) (filter (names_page p) os)

-- each page of the file has the tally of its owners
pub record AreTalliesOf (file : File) (tallies : List Tally) : Type 0 where
  pub len : length tallies ≡ file.last + 1
  pub each : (p : ℕ) → p ≤ file.last → IsTally (get_or tallies p no_tally) (owners file p)

-- and it's known whether the file has a hash table
pub record AreCounted (file : File) (tallies : List Tally) (has_table : Bool) : Type 0 where
  pub tallied : AreTalliesOf file tallies
  pub table : has_table ≡ list_any is_hash_meta file.pages
