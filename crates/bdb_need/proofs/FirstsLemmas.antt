-- A list in which the items that begin pages are moved to the front.
use Rattle.std.proofs.Common.{◌≡◌, ℕ, ◌+◌, ◌-◌, ◌<◌, ◌≤◌, List, [], ◌∷◌, ◌++◌, drop, get_or, length, map, take, arith, refl, sym, ◌∙◌, ap}
use Rattle.bdb_need.proofs.Common.{drop_of_length-le, set, append-nil, append_assoc, drop-set-lt, drop_more, length-set, take_more_set, first_or, spread_items}
use Rattle.bdb_need.proofs.BehindLemmas.{behind, behind_new, behind_open, heads_of_items, self}

-- those that the rest of a level's items will add, where the open page has so many bytes left
abbrev pub added : ℕ → ℕ → List ℕ → List ℕ
added room left rest = behind room (λ (x : ℕ). 14) self self left rest

-- Of all items those before a place are passed: so many were kept, at the front, and they and those that the rest adds are those of all.
pub record FirstsKept (room left kept at : ℕ) (items all : List ℕ) : Type 0 where
  pub low : kept ≤ at
  pub long : length items ≡ length all
  pub sum : take kept items ++ added room left (drop at items) ≡ added room (room - 14) all

pub firsts_begun : (room : ℕ) (all : List ℕ) → FirstsKept room (room - 14) 0 0 all all
firsts_begun room all = record { low = omega arith; long = refl; sum = refl }

here : (room left at cost : ℕ) (items : List ℕ) → at < length items → cost ≡ get_or items at cost
    → added room left (drop at items) ≡ added room left (cost ∷ drop (at + 1) items)
here room left at cost items within is = ap (added room left) (drop_more items at cost within ∙ ap (λ n. n ∷ drop (at + 1) items) (sym is))

-- an item that fits the open page
pub next_fits : (room left left_now kept kept_now at cost : ℕ) (items items_now all : List ℕ) → FirstsKept room left kept at items all
    → at < length items → cost ≡ get_or items at cost → cost ≤ left → left_now ≡ left - cost → kept_now ≡ kept → items_now ≡ items
    → FirstsKept room left_now kept_now (at + 1) items_now all
next_fits room left left_now kept kept_now at cost items items_now all before within is fits left_is kept_is items_is =
    let low = before.low in
    record {
      low = omega (arith, kept_is, low);
      long = ap length items_is ∙ before.long;
      sum = rw (left_is, kept_is, items_is)
          (ap (λ (ns : List ℕ). take kept items ++ ns)
          (sym (here room left at cost items within is ∙ behind_open room (λ (x : ℕ). 14) self self left cost (drop (at + 1) items) fits))
          ∙ before.sum);
    }

-- an item that begins a page
pub next_begins : (room left left_now kept kept_now at cost : ℕ) (items items_now all : List ℕ) → FirstsKept room left kept at items all
    → at < length items → cost ≡ get_or items at cost → left < cost → left_now ≡ room - 14 → kept_now ≡ kept + 1
    → items_now ≡ set items kept cost → FirstsKept room left_now kept_now (at + 1) items_now all
next_begins room left left_now kept kept_now at cost items items_now all before within is full left_is kept_is items_is =
    let low = before.low in
    let rest : List ℕ = added room (room - 14) (drop (at + 1) items) in
    let under : kept < at + 1 = omega (arith, low) in
    let there : kept < length items = omega (arith, low, within) in
    record {
      low = omega (arith, kept_is, low);
      long = ap length items_is ∙ (length-set items kept cost ∙ before.long);
      sum = rw (left_is, kept_is, items_is)
          (ap (λ (ns : List ℕ). take (kept + 1) (set items kept cost) ++ added room (room - 14) ns) (drop-set-lt (at + 1) items kept cost under)
          ∙ (ap (λ (ns : List ℕ). ns ++ rest) (take_more_set items kept cost there)
          ∙ (append_assoc (take kept items) (cost ∷ []) rest
          ∙ (ap (λ (ns : List ℕ). take kept items ++ ns)
          (sym (here room left at cost items within is ∙ behind_new room (λ (x : ℕ). 14) self self left cost (drop (at + 1) items) full))
          ∙ before.sum))));
    }

pub all_kept : (room left kept at : ℕ) (items all next : List ℕ) → FirstsKept room left kept at items all → length items ≤ at
    → next ≡ take kept items → (first : ℕ) → map (first_or 0) (spread_items room 14 (first ∷ all)) ≡ first ∷ next
all_kept room left kept at items all next done past is first = grind (arith, heads_of_items, drop_of_length-le, append-nil)
