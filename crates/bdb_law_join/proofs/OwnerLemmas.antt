-- The references to a page of a whole file come from some pages alone.
use Rattle.std.proofs.Common.{◌≡◌, ℕ, ◌+◌, ◌<◌, ◌≤◌, Bool, false, arith, ◌==◌}
use Rattle.std.specs.List.{filter, range_with_len}
use Rattle.std.proofs.lemmas.List.{append-nil}
use Rattle.bdb_graph.specs.of_format.Terms.{File, all_references, held_by, owners}
use Rattle.bdb_graph.proofs.of_format.MemberLemmas.{of_range}
use Rattle.bdb_pack.specs.of_law_grove.Part.{owners_among}
use Rattle.bdb_pack.proofs.of_law_grove.OwnerLemmas.{NamesNot, filter_first, held_none, names_page, one_of_range}

-- where only pages of a set name a page, its owners are those of that set
pub owners_are : (pages : ℕ → Bool) (file : File) (p : ℕ) → ((q : ℕ) → q ≤ file.last → pages q ≡ false → NamesNot file p q)
    → owners file p ≡ owners_among pages file p
unfolding owners all_references
owners_are pages file p others =
    filter_first pages (names_page p) (held_by file) (range_with_len 0 (file.last + 1)) (λ q at no'.
    let within : (0 ≤ q) × (q < 0 + (file.last + 1)) = of_range 0 (file.last + 1) q at in
    held_none file p q (others q (omega arith) no'))

-- the owners among one page are its own references
pub owners_of_one : (file : File) (m p : ℕ) → m ≤ file.last → owners_among (λ q. q == m) file p ≡ filter (names_page p) (held_by file m)
owners_of_one file m p high = grind (arith, names_page, one_of_range, append-nil)
