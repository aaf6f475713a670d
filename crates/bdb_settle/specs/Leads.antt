-- Places that are sorted by the first bytes in which their keys may differ. Source: docs/FORMAT.md, "Order of keys".
use Rattle.std.specs.Prelude.{◌≡◌, ℕ, zero, suc, ◌+◌, ◌*◌, nat_lt, ◌&&◌, ◌||◌, not, Bool, List, drop, get_or, length, map, take}
use Rattle.std.specs.List.{All}
use Rattle.bdb_mktree.specs.of_format.declared.settings.Settings.{Settings}
use Rattle.bdb_mktree.specs.of_places.declared.place.Place.{Place}
use Rattle.bdb_mktree.specs.of_text_format.Terms.{placed_key}
use Rattle.bdb_mktree.specs.of_text_format.declared.pairs.Key.{Key}
use Rattle.bdb_mktree.specs.of_text_format.declared.pairs.Key.TheVariants.{Bytes, Number}
use Rattle.bdb_settle.specs.declared.leads.Led.{Led}
use Rattle.bdb_settle.specs.Settling.{place_before}

-- the first bytes as a number, the first of them the greatest; zeros behind the end
abbrev pub leading_number : ℕ → List ℕ → ℕ
leading_number zero bytes = 0
leading_number (suc n) bytes = leading_number n bytes * 256 + get_or bytes n 0

-- what a key is sorted by first, where all share so many bytes
abbrev pub lead_of : ℕ → Key → ℕ
lead_of shared (Bytes key) = leading_number 8 (drop shared key)
lead_of shared (Number n) = 0

abbrev pub led : List ℕ → ℕ → Place → Led
led bytes shared place = record { lead = lead_of shared (placed_key bytes place.key); place = place }

-- a key of bytes begins with these
abbrev pub Begins : List ℕ → Key → Type 0
Begins start (Bytes key) = take (length start) key ≡ start
Begins start (Number n) = Unit {0}

-- the keys of bytes at these places share so many first bytes
pub record Share (bytes : List ℕ) (places : List Place) (shared : ℕ) : Type 0 where
  pub start : List ℕ
  pub long : length start ≡ shared
  pub begin : All (λ (place : Place). Begins start (placed_key bytes place.key)) places

-- the order by leads, and by the pairs where these are the same
abbrev pub led_before : Settings → List ℕ → Led → Led → Bool
led_before settings bytes a b = nat_lt a.lead b.lead || (not (nat_lt b.lead a.lead) && place_before settings bytes a.place b.place)

-- of places, the first so many are those of the leads
pub record IsPutBack (leads : List Led) (places : List Place) (i : ℕ) : Type 0 where
  pub long : length places ≡ length leads
  pub put : take i places ≡ map (λ (item : Led). item.place) (take i leads)
