-- Databases that stand one behind the other, as joints.
use Rattle.std.proofs.Common.{◌≡◌, ℕ, ◌+◌, ◌<◌, ◌≤◌, true, List, [], ◌∷◌, length, map, arith, refl, sym, ◌∙◌, ap, inl, inr, Contains, sum_by}
use Rattle.bdb_mkfile.proofs.Common.{cases_lt, sum_by-cons, first_member, later_member, member_cases, no_member, between_is, is_between, Section, Built, IsInPartOf, IsMetaOf, Joint, section_pages}
use Rattle.bdb_mkfile.proofs.Common.{DatabaseMeta, AreJointsFrom, AreLaid, IsDatabaseLaid, Laid, part_of, AreWrittenFrom, IsWrittenOn}

-- a database under its metadata page
abbrev pub joint_at : ℕ → Laid → Joint
joint_at number laid = record { meta = number; part = part_of laid }

abbrev pub joints_from : ℕ → List Laid → List Joint
joints_from number [] = []
joints_from number (laid ∷ row) = joint_at number laid ∷ joints_from (number + 1) row

abbrev sections_of : List Laid → List Section
sections_of row = map (λ (laid : Laid). laid.section) row

abbrev metas_of : List Laid → List DatabaseMeta
metas_of row = map (λ (laid : Laid). laid.meta) row

-- they are the joints of the sections
pub joints_are : (built : Built) (base beyond number : ℕ) (row : List Laid) → AreLaid built base beyond row
    → AreJointsFrom built.size built.order number (sections_of row) (joints_from number row)
joints_are built base beyond number [] are = tt
joints_are built base beyond number (laid ∷ row) are =
    (record { meta = refl; settings = are.1.says; list = refl }, joints_are built base laid.from (number + 1) row are.2)

-- they begin at the base
pub above_base : (built : Built) (base beyond : ℕ) (row : List Laid) → AreLaid built base beyond row → base ≤ beyond
above_base built base beyond [] are = omega (arith, are)
above_base built base beyond (laid ∷ row) are =
    let rest : base ≤ laid.from = above_base built base laid.from row are.2 in omega (arith, rest, are.0, are.1.count)

-- and have the pages of the sections, but for those with metadata
pub row_pages : (built : Built) (base beyond : ℕ) (row : List Laid) → AreLaid built base beyond row
    → beyond + length row ≡ base + sum_by (section_pages built.size) (sections_of row)
row_pages built base beyond [] are = omega (arith, are)
row_pages built base beyond (laid ∷ row) are =
    let rest : laid.from + length row ≡ base + sum_by (section_pages built.size) (sections_of row) = row_pages built base laid.from row are.2 in
    let all : sum_by (section_pages built.size) (sections_of (laid ∷ row))
    ≡ section_pages built.size laid.section + sum_by (section_pages built.size) (sections_of row) =
    sum_by-cons (section_pages built.size) laid.section (sections_of row) in
    omega (arith, rest, all, are.0, are.1.count)

-- what is so of one of the joints: it is that of a database, which stands between the base and the end, and has its metadata page among theirs
pub record IsOfRow (built after : Built) (base beyond number count : ℕ) (joint : Joint) : Type 0 where
  pub laid : Laid
  pub place : ℕ
  pub is : joint ≡ joint_at place laid
  pub low : number ≤ place
  pub high : place < number + count
  pub stands : IsDatabaseLaid built laid
  pub from : base ≤ laid.from
  pub within : laid.beyond ≤ beyond
  pub written : IsWrittenOn after place laid.meta

pub of_row : (built after : Built) (base beyond number : ℕ) (row : List Laid) (joint : Joint) → AreLaid built base beyond row
    → AreWrittenFrom after number (metas_of row) → Contains (joints_from number row) joint
    → IsOfRow built after base beyond number (length row) joint
of_row built after base beyond number [] joint are written at = absurd (no_member [] joint refl at)
of_row built after base beyond number (laid ∷ row) joint are written at =
    elim (member_cases (joint_at number laid) (joints_from (number + 1) row) joint at) [
      | inl here ↦ record {
        laid = laid;
        place = number;
        is = sym here;
        low = omega arith;
        high = omega arith;
        stands = are.1;
        from = above_base built base laid.from row are.2;
        within = omega (arith, are.0);
        written = written.0;
      }
      | inr later ↦
          let rest : IsOfRow built after base laid.from (number + 1) (length row) joint =
          of_row built after base laid.from (number + 1) row joint are.2 written.1 later in
          record {
            laid = rest.laid;
            place = rest.place;
            is = rest.is;
            low = omega (arith, rest.low);
            high = omega (arith, rest.high);
            stands = rest.stands;
            from = rest.from;
            within = omega (arith, rest.within, are.0, are.1.count);
            written = rest.written;
          }
    ]

-- the pages of a joint's part are between the base and the end
pub inside_row : (built : Built) (base beyond number : ℕ) (row : List Laid) (joint : Joint) (p : ℕ) → AreLaid built base beyond row
    → Contains (joints_from number row) joint → joint.part.pages p ≡ true → (base ≤ p) × (p < beyond)
inside_row built base beyond number [] joint p are at inside = absurd (no_member [] joint refl at)
inside_row built base beyond number (laid ∷ row) joint p are at inside =
    elim (member_cases (joint_at number laid) (joints_from (number + 1) row) joint at) [
      | inl here ↦
          let bounds = between_is laid.from laid.beyond p (ap (λ (j : Joint). j.part.pages p) here ∙ inside) in
          (omega (arith, above_base built base laid.from row are.2, bounds.0), omega (arith, bounds.1, are.0))
      | inr later ↦
          let rest : (base ≤ p) × (p < laid.from) = inside_row built base laid.from (number + 1) row joint p are.2 later inside in
          (rest.0, omega (arith, rest.1, are.0, are.1.count))
    ]

-- no page is of two parts
pub row_apart : (built : Built) (base beyond number : ℕ) (row : List Laid) (j k : Joint) (p : ℕ) → AreLaid built base beyond row
    → Contains (joints_from number row) j → Contains (joints_from number row) k → j.part.pages p ≡ true → k.part.pages p ≡ true → j ≡ k
row_apart built base beyond number [] j k p are here there one two = absurd (no_member [] j refl here)
row_apart built base beyond number (laid ∷ row) j k p are here there one two =
    elim (member_cases (joint_at number laid) (joints_from (number + 1) row) j here) [
      | inl first ↦ elim (member_cases (joint_at number laid) (joints_from (number + 1) row) k there) [
        | inl second ↦ sym first ∙ second
        | inr later ↦ absurd (never first later one two)
      ]
      | inr later ↦ elim (member_cases (joint_at number laid) (joints_from (number + 1) row) k there) [
        | inl second ↦ absurd (never second later two one)
        | inr last ↦ row_apart built base laid.from (number + 1) row j k p are.2 later last one two
      ]
    ]
  where
    never : {a b : Joint} → joint_at number laid ≡ a → Contains (joints_from (number + 1) row) b → a.part.pages p ≡ true → b.part.pages p ≡ true → ⊥
    never {a} {b} first later in_first in_later =
        let bounds = between_is laid.from laid.beyond p (ap (λ (j : Joint). j.part.pages p) first ∙ in_first) in
        let rest = inside_row built base laid.from (number + 1) row b p are.2 later in_later in
        omega (arith, bounds.0, rest.1)

-- each of these pages is of a part
pub row_covers : (built : Built) (base beyond number : ℕ) (row : List Laid) (p : ℕ) → AreLaid built base beyond row → base ≤ p → p < beyond
    → IsInPartOf (joints_from number row) p
row_covers built base beyond number [] p are low high = absurd (omega (arith, are, low, high))
row_covers built base beyond number (laid ∷ row) p are low high =
    elim (cases_lt p laid.from) [
      | inl below ↦
          let rest : IsInPartOf (joints_from (number + 1) row) p = row_covers built base laid.from (number + 1) row p are.2 low below in
          (rest.0, later_member (joint_at number laid) (joints_from (number + 1) row) rest.0 rest.1, rest.2)
      | inr above ↦ (
        joint_at number laid,
        first_member (joint_at number laid) (joints_from (number + 1) row),
        is_between laid.from laid.beyond p above (omega (arith, high, are.0)),
      )
    ]

-- and each of those is a metadata page
pub metas_cover : (number : ℕ) (row : List Laid) (p : ℕ) → number ≤ p → p < number + length row → IsMetaOf (joints_from number row) p
metas_cover number [] p low high = absurd (omega (arith, low, high))
metas_cover number (laid ∷ row) p low high =
    elim (cases_lt number p) [
      | inl below ↦
          let rest : IsMetaOf (joints_from (number + 1) row) p = metas_cover (number + 1) row p (omega (arith, below)) (omega (arith, high)) in
          (rest.0, later_member (joint_at number laid) (joints_from (number + 1) row) rest.0 rest.1, rest.2)
      | inr above ↦ (
        joint_at number laid,
        first_member (joint_at number laid) (joints_from (number + 1) row),
        (let e : number ≡ p = omega (arith, low, above) in e),
      )
    ]
