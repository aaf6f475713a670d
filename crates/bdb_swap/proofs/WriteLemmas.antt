-- Numbers byte-swapped one after another.
use Rattle.std.proofs.Common.{◌≡◌, ◌∙◌, ◌⊎◌, inl, inr, ℕ, suc, ◌+◌, ◌-◌, ◌*◌, ◌<◌, ◌≤◌, List, [], ◌∷◌, ◌++◌, length, drop, take, reverse, refl, sym, ap, subst}
use Rattle.std.proofs.Common.{arith, append-nil, append_assoc, slice_range, Contains}
use Rattle.std.proofs.lemmas.List.{ext_get_or, get_or-drop, get_or-reverse, get_or-take, get_or_append_left, get_or-append_right, length-reverse}
use Rattle.std.proofs.lemmas.List.{length-take-le}
use Rattle.std.proofs.lemmas.List.Elements.{Contains-append_left, Contains-append_right, Contains-append_cases}
use Rattle.bdb_io.proofs.of_format.MemberLemmas.{first_member, member_cases, no_member}
use Rattle.bdb_io.proofs.of_format.TurnLemmas.{length-slice_range}
use Rattle.bdb_io.specs.of_format.Terms.{byte_at, overwritten}
use Rattle.bdb_law_turned.specs.Fields.{Field, block_fields, field}
use Rattle.bdb_law_turned.specs.Apart.{run_length, AreApart, LieWithin}
use Rattle.bdb_law_turned.specs.Turning.{mirror, turned_round}
use Rattle.bdb_swap.specs.Turns.{Turns}
use Rattle.bdb_law_turned.proofs.PlaceLemmas.{get_or-turned_round, inside_or_not, length-turned_round, mirror-inside, mirror-outside}
use Rattle.bdb_io.proofs.of_format.SpellingLemmas.{length-overwritten}

some_last : (done : List Field) (f : Field) → Contains (done ++ f ∷ []) f
some_last done f = Contains-append_right done (f ∷ []) f (first_member f [])

-- a place outside the new number turns as before
mirror_same : (done : List Field) (f : Field) (k : ℕ) → AreApart (done ++ f ∷ []) → (suc k ≤ f.begin) ⊎ (f.begin + f.width ≤ k)
    → mirror (done ++ f ∷ []) k ≡ mirror done k
mirror_same done f k apart outside =
    let before : AreApart done = λ g h at_g at_h. apart g h (Contains-append_left done (f ∷ []) g at_g) (Contains-append_left done (f ∷ []) h at_h) in
    elim (inside_or_not done k) [
      | inl found ↦
          mirror-inside (done ++ f ∷ []) k found.0 apart (Contains-append_left done (f ∷ []) found.0 found.1) found.2 found.3
          ∙ sym (mirror-inside done k found.0 before found.1 found.2 found.3)
      | inr none ↦
          mirror-outside (done ++ f ∷ []) k (λ g at. elim (Contains-append_cases done (f ∷ []) g at) [
            | inl earlier ↦ none g earlier
            | inr last ↦ elim (member_cases f [] g last) [
              | inl same ↦ subst (λ (h : Field). (suc k ≤ h.begin) ⊎ (h.begin + h.width ≤ k)) same outside
              | inr later ↦ absurd (no_member [] g refl later)
            ]
          ]) ∙ sym (mirror-outside done k none)
    ]

place : (k begin width : ℕ) → ((suc k ≤ begin) ⊎ (begin + width ≤ k)) ⊎ ((begin ≤ k) × (k < begin + width))
place k begin width = grind arith

get_or-overwritten_before : (bytes : List ℕ) (at : ℕ) (piece : List ℕ) (k : ℕ) → at + length piece ≤ length bytes → k < at
    → byte_at (overwritten bytes at piece) k ≡ byte_at bytes k
get_or-overwritten_before bytes at piece k inside lt =
    let front : length (take at bytes) ≡ at = length-take-le at bytes (omega arith) in
    get_or_append_left (take at bytes) (piece ++ drop (at + length piece) bytes) 0 k (omega arith) ∙ get_or-take at bytes k 0 lt

get_or-overwritten_inside : (bytes : List ℕ) (at : ℕ) (piece : List ℕ) (k : ℕ) → at + length piece ≤ length bytes → at ≤ k → k < at + length piece
    → byte_at (overwritten bytes at piece) k ≡ byte_at piece (k - at)
get_or-overwritten_inside bytes at piece k inside low high =
    let front : length (take at bytes) ≡ at = length-take-le at bytes (omega arith) in
    get_or-append_right (take at bytes) (piece ++ drop (at + length piece) bytes) at k 0 front low
    ∙ get_or_append_left piece (drop (at + length piece) bytes) 0 (k - at) (omega arith)

get_or-overwritten_past : (bytes : List ℕ) (at : ℕ) (piece : List ℕ) (k : ℕ) → at + length piece ≤ length bytes → at + length piece ≤ k
    → byte_at (overwritten bytes at piece) k ≡ byte_at bytes k
get_or-overwritten_past bytes at piece k inside past =
    let front : length (take at bytes) ≡ at = length-take-le at bytes (omega arith) in
    let back : at + length piece + (k - at - length piece) ≡ k = omega arith in
    get_or-append_right (take at bytes) (piece ++ drop (at + length piece) bytes) at k 0 front (omega arith)
    ∙ (get_or-append_right piece (drop (at + length piece) bytes) (length piece) (k - at) 0 refl (omega arith)
    ∙ (get_or-drop (at + length piece) bytes (k - at - length piece) 0 ∙ ap (byte_at bytes) back))

-- Where the bytes of one more number are written in the reverse order, it is byte-swapped too; a second time they stay.
pub fields_are_written : (done : List Field) (f : Field) (bytes : List ℕ) → AreApart (done ++ f ∷ []) → LieWithin (done ++ f ∷ []) (length bytes)
    → overwritten (turned_round done bytes) f.begin (reverse (slice_range bytes f.begin (f.begin + f.width))) ≡ turned_round (done ++ f ∷ []) bytes
fields_are_written done f bytes apart within =
    let once : List ℕ = turned_round done bytes in
    let b : ℕ = f.begin in
    let w : ℕ = f.width in
    let inside : b + w ≤ length bytes = within f (some_last done f) in
    let slice : List ℕ = slice_range bytes b (b + w) in
    let piece : List ℕ = reverse slice in
    let long_slice : length slice ≡ b + w - b = length-slice_range bytes b (b + w) inside in
    let long : length piece ≡ w = length-reverse slice ∙ (long_slice ∙ omega arith) in
    let size : length once ≡ length bytes = length-turned_round done bytes in
    let all : List Field = done ++ f ∷ [] in
    ext_get_or 0 (overwritten once b piece) (turned_round all bytes) (length-overwritten once b piece (omega arith)
    ∙ (size ∙ sym (length-turned_round all bytes)))
    (λ k lt.
    let here : k < length bytes = omega (arith, length-overwritten once b piece) in
    let right : byte_at (turned_round all bytes) k ≡ byte_at bytes (mirror all k) = get_or-turned_round all bytes k here in
    elim (place k b w) [
      | inl (inl before) ↦
          get_or-overwritten_before once b piece k (omega arith) before
          ∙ (get_or-turned_round done bytes k here ∙ (ap (byte_at bytes) (sym (mirror_same done f k apart (inl before))) ∙ sym right))
      | inl (inr past) ↦
          get_or-overwritten_past once b piece k (omega arith) (omega arith)
          ∙ (get_or-turned_round done bytes k here ∙ (ap (byte_at bytes) (sym (mirror_same done f k apart (inr past))) ∙ sym right))
      | inr at ↦
          let low : b ≤ k = at.0 in
          let high : k < b + w = at.1 in
          let there : mirror all k ≡ (2 * b + w) - 1 - k = mirror-inside all k f apart (some_last done f) low high in
          let back : length slice - 1 - (k - b) ≡ w - 1 - (k - b) = ap (λ (n : ℕ). n - 1 - (k - b)) (long_slice ∙ (let z : b + w - b ≡ w = omega arith in z)) in
          let sums : b + (w - 1 - (k - b)) ≡ (2 * b + w) - 1 - k = omega arith in
          let short : k - b < length slice = omega arith in
          get_or-overwritten_inside once b piece k (omega arith) low (omega arith)
          ∙ (get_or-reverse slice (k - b) 0 short
          ∙ (ap (byte_at slice) back
          ∙ (get_or-take (b + w - b) (drop b bytes) (w - 1 - (k - b)) 0 (omega arith)
          ∙ (get_or-drop b bytes (w - 1 - (k - b)) 0 ∙ (ap (byte_at bytes) (sums ∙ sym there) ∙ sym right)))))
    ])

-- Numbers byte-swapped step by step.

-- one number
pub turns_one : (source old new : List ℕ) (at width : ℕ) → new ≡ overwritten old at (reverse (slice_range source at (at + width)))
    → Turns source (field at width ∷ []) old new
turns_one source old new at width is = record {
  turned = λ done apart within was. is
      ∙ (ap (λ bytes. overwritten bytes at (reverse (slice_range source at (at + width)))) was ∙ fields_are_written done (field at width) source apart within);
}

-- none
pub turns_none : (source old : List ℕ) → Turns source [] old old
turns_none source old = record { turned = λ done apart within was. was ∙ ap (λ fields. turned_round fields source) (sym (append-nil done)) }

-- some, and then others
pub turns_both : (source old middle new : List ℕ) (xs ys : List Field) → Turns source xs old middle → Turns source ys middle new
    → Turns source (xs ++ ys) old new
turns_both source old middle new xs ys first second = record {
  turned = λ done apart within was.
      let all : done ++ (xs ++ ys) ≡ (done ++ xs) ++ ys = sym (append_assoc done xs ys) in
      let apart_all : AreApart ((done ++ xs) ++ ys) = subst AreApart all apart in
      let within_all : LieWithin ((done ++ xs) ++ ys) (length source) = subst (λ fields. LieWithin fields (length source)) all within in
      let here : middle ≡ turned_round (done ++ xs) source =
      first.turned done (λ f g at_f at_g. apart_all f g (Contains-append_left (done ++ xs) ys f at_f) (Contains-append_left (done ++ xs) ys g at_g))
      (λ f at. within_all f (Contains-append_left (done ++ xs) ys f at)) was in
      second.turned (done ++ xs) apart_all within_all here ∙ ap (λ fields. turned_round fields source) (sym all);
}

-- the lengths of one block more
pub turns_block : (source old middle new last : List ℕ) (place : ℕ) (left rest : List (List ℕ)) (block : List ℕ) → left ≡ block ∷ rest
    → middle ≡ overwritten old place (reverse (slice_range source place (place + 2)))
    → new ≡ overwritten middle (place + 2 + length block) (reverse (slice_range source (place + 2 + length block) (place + 2 + length block + 2)))
    → Turns source (block_fields (place + (4 + length block)) rest) new last → Turns source (block_fields place left) old last
turns_block source old middle new last place left rest block is first second later =
    let next : place + (4 + length block) ≡ place + 4 + length block = omega arith in
    let later_there : Turns source (block_fields (place + 4 + length block) rest) new last = subst (λ (k : ℕ). Turns source (block_fields k rest) new last) next
    later in
    let two : Turns source (field place 2 ∷ field (place + 2 + length block) 2 ∷ []) old new =
    turns_both source old middle new (field place 2 ∷ []) (field (place + 2 + length block) 2 ∷ []) (turns_one source old middle place 2 first)
    (turns_one source middle new (place + 2 + length block) 2 second) in
    subst (λ blocks. Turns source (block_fields place blocks) old last) (sym is)
    (turns_both source old new last (field place 2 ∷ field (place + 2 + length block) 2 ∷ []) (block_fields (place + 4 + length block) rest) two later_there)

pub room_of_block : (n place : ℕ) (left rest : List (List ℕ)) (block : List ℕ) → left ≡ block ∷ rest → place + run_length left ≤ n
    → (place + 4 + length block ≤ n) × (place + (4 + length block) + run_length rest ≤ n)
room_of_block n place left rest block is room =
    let size : run_length left ≡ 4 + length block + run_length rest = ap run_length is in
    (omega arith, omega arith)

length_two : (source old new : List ℕ) (at : ℕ) → new ≡ overwritten old at (reverse (slice_range source at (at + 2))) → length old ≡ length source
    → at + 2 ≤ length source
    → length new ≡ length old
length_two source old new at is same inside =
    let piece : length (reverse (slice_range source at (at + 2))) ≡ at + 2 - at = length-reverse (slice_range source at (at + 2))
    ∙ length-slice_range source at (at + 2) inside in
    ap length is ∙ length-overwritten old at (reverse (slice_range source at (at + 2))) (omega arith)

pub two_lengths : (source old middle new : List ℕ) (at other : ℕ) → middle ≡ overwritten old at (reverse (slice_range source at (at + 2)))
    → new ≡ overwritten middle other (reverse (slice_range source other (other + 2))) → length old ≡ length source → at + 2 ≤ length source
    → other + 2 ≤ length source
    → length new ≡ length old
two_lengths source old middle new at other first second same one two =
    let middle_same : length middle ≡ length old = length_two source old middle at first same one in
    length_two source middle new other second (middle_same ∙ same) two ∙ middle_same
