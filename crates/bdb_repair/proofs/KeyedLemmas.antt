-- What keys with their data take of a file.
use Rattle.std.proofs.Common.{◌≡◌, ℕ, ◌+◌, List, [], ◌∷◌, refl, sym, ◌∙◌, ap, flat_map, sum_by}
use Rattle.std.proofs.lemmas.List.Sums.{sum_by-append, sum_by-cons}
use Rattle.bdb_rescue.specs.Kept.{pairs_under, under}
use Rattle.bdb_repair.specs.Room.{datum_room, entry_room, pair_room}

under_room : (key : List ℕ) (values : List (List ℕ)) → sum_by pair_room (under key values) ≡ sum_by datum_room values
under_room key [] = refl
under_room key (value ∷ values) =
    sum_by-cons pair_room (key, value) (under key values)
    ∙ (ap (λ n. datum_room value + n) (under_room key values) ∙ sym (sum_by-cons datum_room value values))

-- as much as their pairs
entries_room : (entries : List (List ℕ × List (List ℕ))) → sum_by pair_room (flat_map pairs_under entries) ≡ sum_by entry_room entries
entries_room [] = refl
entries_room (entry ∷ entries) =
    sum_by-append pair_room (pairs_under entry) (flat_map pairs_under entries)
    ∙ (ap (λ n. n + sum_by pair_room (flat_map pairs_under entries)) (under_room entry.0 entry.1)
    ∙ (ap (λ n. entry_room entry + n) (entries_room entries) ∙ sym (sum_by-cons entry_room entry entries)))

pub all_entries_room : (entries : List (List ℕ × List (List ℕ))) (pairs : List (List ℕ × List ℕ)) → flat_map pairs_under entries ≡ pairs
    → sum_by entry_room entries ≡ sum_by pair_room pairs
all_entries_room entries pairs are = sym (entries_room entries) ∙ ap (sum_by pair_room) are
