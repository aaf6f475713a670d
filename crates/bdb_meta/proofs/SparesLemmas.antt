-- The spares of a table, group by group: how they are written, and what is read from them.
use Rattle.std.proofs.Common.{◌≡◌, ℕ, zero, suc, ◌+◌, ◌*◌, ◌^◌, ◌<◌, ◌≤◌, List, [], ◌∷◌, ◌++◌, length, get_or, take, drop, refl, sym, ap, ◌∙◌, arith}
use Rattle.std.proofs.Common.{append_assoc, append-nil, length-append, length-take, flat_map}
use Rattle.std.proofs.lemmas.Grind.{flat_map-append}
use Rattle.std.proofs.lemmas.List.{take_more}
use Rattle.std.proofs.lemmas.List.FromFn.{fill_by_all}
use Rattle.bdb_layout.specs.of_format.declared.kinds.Order.{Order}
use Rattle.bdb_layout.specs.of_format.Terms.{four_at, hash_fields, overwritten, spelled}
use Rattle.bdb_layout.proofs.of_format.SpellingLemmas.{length-spelled, number_at-behind, number_at-first, overwritten_next}
use Rattle.bdb_meta.proofs.CommonLemmas.{behind-number}

abbrev pub spares_bytes : Order → List ℕ → List ℕ
spares_bytes order spares = flat_map (λ spare. spelled 4 order spare) spares

pub length-spares : (order : Order) (spares : List ℕ) → length (spares_bytes order spares) ≡ 4 * length spares
length-spares order [] = refl
length-spares order (x ∷ spares) = grind (arith, length-append, length-spelled, length-spares order spares)

-- one spare more
spares_more : (order : Order) (spares : List ℕ) (group : ℕ) → group < length spares
    → spares_bytes order (take (group + 1) spares) ≡ spares_bytes order (take group spares) ++ spelled 4 order (get_or spares group 0)
spares_more order spares group h =
    let f : ℕ → List ℕ = λ spare. spelled 4 order spare in
    ap (flat_map f) (take_more spares group 0 h)
    ∙ flat_map-append f (take group spares) (get_or spares group 0 ∷ [])
    ∙ ap (λ last. flat_map f (take group spares) ++ last) (append-nil (spelled 4 order (get_or spares group 0)))

pub spares_next : (order : Order) (old page new spares : List ℕ) (group : ℕ) → group < length spares → 96 + 4 * length spares ≤ length old
    → page ≡ overwritten old 96 (spares_bytes order (take group spares))
    → new ≡ overwritten page (96 + 4 * group) (spelled 4 order (get_or spares group 0))
    → new ≡ overwritten old 96 (spares_bytes order (take (group + 1) spares))
spares_next order old page new spares group h room so_far next =
    let before : List ℕ = spares_bytes order (take group spares) in
    let spare : List ℕ = spelled 4 order (get_or spares group 0) in
    let place : 96 + 4 * group ≡ 96 + length before = omega (arith, length-spares order (take group spares), length-take group spares) in
    next ∙ ap (λ bytes. overwritten bytes (96 + 4 * group) spare) so_far
    ∙ overwritten_next old 96 (96 + 4 * group) before spare place (omega arith)
    ∙ ap (overwritten old 96) (sym (spares_more order spares group h))

-- a spare is read where it was spelled
spare_at : (order : Order) (spares rest : List ℕ) (group : ℕ) → group < length spares → ((k : ℕ) → get_or spares k 0 < 2 ^ 32)
    → four_at order (spares_bytes order spares ++ rest) (4 * group) ≡ get_or spares group 0
spare_at order [] rest group h fits = absurd (omega arith)
spare_at order (x ∷ spares) rest zero h fits =
    ap (λ bytes. four_at order bytes 0) (append_assoc (spelled 4 order x) (spares_bytes order spares) rest)
    ∙ number_at-first 4 order x (spares_bytes order spares ++ rest) (fits 0)
spare_at order (x ∷ spares) rest (suc group) h fits =
    grind (arith, append_assoc, behind-number, spare_at order spares rest group (omega arith) (λ k. fits (suc k)))

-- the spares are read from a page on which they are spelled
pub spares-in : (order : Order) (front rest spares page : List ℕ) → length front ≡ 96 → length spares ≡ 32 → ((k : ℕ) → get_or spares k 0 < 2 ^ 32)
    → page ≡ front ++ (spares_bytes order spares ++ rest) → (hash_fields order page).spares ≡ spares
spares-in order front rest spares page long count fits is =
    let bytes : List ℕ = spares_bytes order spares in
    let each : (k : ℕ) → k < 32 → get_or spares k 0 ≡ four_at order page (96 + 4 * k) = λ k h.
    let place : 96 + 4 * k ≡ length front + 4 * k = omega arith in
    sym (ap (λ page. four_at order page (96 + 4 * k)) is ∙ ap (four_at order (front ++ (bytes ++ rest))) place
    ∙ number_at-behind 4 order front (bytes ++ rest) (4 * k) ∙ spare_at order spares rest k (omega arith) fits) in
    sym (fill_by_all (λ k. four_at order page (96 + 4 * k)) spares 32 0 count each)

pub spares-read : (order : Order) (old new spares : List ℕ) → length spares ≡ 32 → ((k : ℕ) → get_or spares k 0 < 2 ^ 32) → 96 ≤ length old
    → new ≡ overwritten old 96 (spares_bytes order spares) → (hash_fields order new).spares ≡ spares
spares-read order old new spares count fits room written =
    let long : length (take 96 old) ≡ 96 = omega (arith, length-take 96 old) in
    spares-in order (take 96 old) (drop (96 + length (spares_bytes order spares)) old) spares new long count fits written
