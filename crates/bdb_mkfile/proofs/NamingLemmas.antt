-- What the list of a master names: the metadata page of each section, and the databases of the sections.
use Rattle.std.proofs.Common.{◌≡◌, ◌⊎◌, ℕ, suc, ◌+◌, ◌^◌, ◌<◌, ◌≤◌, Bool, true, false, cond, List, [], ◌∷◌, length, map, Some, None, arith, refl, sym, ◌∙◌, ap, subst, inl, inr, eq-eqb, ◌==◌}
use Rattle.bdb_mkfile.proofs.Common.{All, AllZip, Contains, filter, bytes_eq, and_parts, cases_eq, false_from_ne_true, ne_eqb, All-head, All-tail, Order, Big, BytesKey, Database, Less, ascends}
use Rattle.bdb_mkfile.proofs.Common.{ascends_from, databases, file_of, head_of, is_key, is_page, less, list_of, page_named, settings_of, spelled, eq_same, less_trans, not_less_same, first_member}
use Rattle.bdb_mkfile.proofs.Common.{later_member, member_cases, no_member, length-spelled, number-spelled, Section, listed, HoldsLists, IsMetaOf, Joint, AreNamesApart, MasterPair, IsDatabase}
use Rattle.bdb_mkfile.proofs.Common.{name_in, IsDatabaseOf, IsNamed, EntriesNameDatabases, EntriesNameMetas, AreJointsFrom, IsJointOf, entries_from}
use Rattle.bdb_io.specs.of_format.Terms.{number as number_of}
use Rattle.bdb_need.proofs.of_mkleaves.UnitLemmas.{ascends_later}
use Rattle.bdb_io.proofs.of_format.ListLemmas.{one_answer}

-- Numbers of pages.

-- the four bytes of a number name the page of that number
pub spelled_named : (p : ℕ) → p < 2 ^ 32 → page_named (spelled 4 Big p) ≡ Some p
spelled_named p small =
    ap (λ (b : Bool). cond b (Some (number_of Big (spelled 4 Big p))) None) (eq-eqb (length (spelled 4 Big p)) 4 (length-spelled 4 Big p))
    ∙ ap (λ n. Some n) (number-spelled 4 Big p (omega (arith, small)))

-- the entries that name a page
abbrev naming : ℕ → List MasterPair → List MasterPair
naming p entries = filter (λ (entry : MasterPair). is_page (page_named entry.1) p) entries

-- an entry more
naming_by : (b : Bool) (entry : MasterPair) (entries : List MasterPair) (p : ℕ) → is_page (page_named entry.1) p ≡ b
    → naming p (entry ∷ entries) ≡ cond b (entry ∷ naming p entries) (naming p entries)
naming_by b entry entries p is = ap (λ c. cond c (entry ∷ naming p entries) (naming p entries)) is

-- the entry with a number names that page, and no other
names_own : (number : ℕ) (p : ℕ) → number < 2 ^ 32 → is_page (page_named (spelled 4 Big number)) p ≡ (number == p)
names_own number p small = ap (λ o. is_page o p) (spelled_named number small)

-- no entry names a page before the first number
none_named : (number p : ℕ) (sections : List Section) → number + length sections ≤ 2 ^ 32 → p < number
    → length (naming p (listed (entries_from number sections))) ≡ 0
none_named number p [] few low = refl
none_named number p (section ∷ sections) few low =
    let other : (number == p) ≡ false = ne_eqb number p (λ same. omega (arith, same, low)) in
    let rest : List MasterPair = listed (entries_from (number + 1) sections) in
    ap length (naming_by false (BytesKey (name_in section.name), spelled 4 Big number) rest p (names_own number p (omega (arith, few)) ∙ other))
    ∙ none_named (number + 1) p sections (omega (arith, few)) (omega (arith, low))

-- one names each page from the first number on, up to the last
one_named : (number p : ℕ) (sections : List Section) → number + length sections ≤ 2 ^ 32 → number ≤ p → p < number + length sections
    → length (naming p (listed (entries_from number sections))) ≡ 1
one_named number p [] few low high = absurd (omega (arith, low, high))
one_named number p (section ∷ sections) few low high =
    let small : number < 2 ^ 32 = omega (arith, few) in
    let entry : MasterPair = (BytesKey (name_in section.name), spelled 4 Big number) in
    let rest : List MasterPair = listed (entries_from (number + 1) sections) in
    elim (cases_eq number p) [
      | inl same ↦
          ap length (naming_by true entry rest p (names_own number p small ∙ eq-eqb number p same))
          ∙ ap suc (none_named (number + 1) p sections (omega (arith, few)) (omega (arith, same)))
      | inr other ↦
          ap length (naming_by false entry rest p (names_own number p small ∙ ne_eqb number p other))
          ∙ one_named (number + 1) p sections (omega (arith, few)) (omega (arith, low, other)) (omega (arith, high))
    ]

-- Joints.

-- the metadata pages of sections follow each other
joint_low : (size : ℕ) (order : Order) (number : ℕ) (sections : List Section) (joints : List Joint) (joint : Joint)
    → AreJointsFrom size order number sections joints → Contains joints joint → (number ≤ joint.meta) × (joint.meta < number + length sections)
joint_low size order number [] [] joint are at = absurd (no_member [] joint refl at)
joint_low size order number [] (first ∷ joints) joint are at = absurd are
joint_low size order number (section ∷ sections) [] joint are at = absurd are
joint_low size order number (section ∷ sections) (first ∷ joints) joint are at =
    let own : IsJointOf size order number section first = are.0 in
    elim (member_cases first joints joint at) [
      | inl here ↦
          let meta : joint.meta ≡ number = ap (λ (j : Joint). j.meta) (sym here) ∙ own.meta in (omega (arith, meta), omega (arith, meta))
      | inr later ↦
          let rest = joint_low size order (number + 1) sections joints joint are.1 later in
          (omega (arith, rest.0), omega (arith, rest.1))
    ]

-- each entry names the metadata page of a section
named_there : (size : ℕ) (order : Order) (number : ℕ) (sections : List Section) (joints : List Joint) (entry : MasterPair)
    → number + length sections ≤ 2 ^ 32 → AreJointsFrom size order number sections joints → Contains (listed (entries_from number sections)) entry
    → (p : ℕ) × (page_named entry.1 ≡ Some p) × (number ≤ p) × IsMetaOf joints p
named_there size order number [] joints entry few are at = absurd (no_member [] entry refl at)
named_there size order number (section ∷ sections) [] entry few are at = absurd are
named_there size order number (section ∷ sections) (first ∷ joints) entry few are at =
    let own : IsJointOf size order number section first = are.0 in
    elim (member_cases (BytesKey (name_in section.name), spelled 4 Big number) (listed (entries_from (number + 1) sections)) entry at) [
      | inl here ↦ (
        number,
        ap (λ (e : MasterPair). page_named e.1) (sym here) ∙ spelled_named number (omega (arith, few)),
        omega arith,
        (first, first_member first joints, own.meta),
      )
      | inr later ↦
          let rest : (p : ℕ) × (page_named entry.1 ≡ Some p) × (number + 1 ≤ p) × IsMetaOf joints p =
          named_there size order (number + 1) sections joints entry (omega (arith, few)) are.1 later in
          let joint : IsMetaOf joints rest.0 = rest.3 in
          (rest.0, rest.1, omega (arith, rest.2), (joint.0, later_member first joints joint.0 joint.1, joint.2))
    ]

-- Names.

abbrev pub names_of : List Section → List (List ℕ)
names_of sections = map (λ (section : Section). name_in section.name) sections

-- the entries behind a name have others
others_apart : (name low : List ℕ) (number : ℕ) (sections : List Section) (entry : MasterPair) → (low ≡ name) ⊎ Less name low
    → ascends_from low (names_of sections) ≡ true → Contains (listed (entries_from number sections)) entry → is_key (BytesKey name) entry.0 ≡ false
others_apart name low number [] entry above rise at = absurd (no_member [] entry refl at)
others_apart name low number (section ∷ sections) entry above rise at =
    let next : List ℕ = name_in section.name in
    let parts = and_parts (less low next) (ascends_from next (names_of sections)) rise in
    let higher : Less name next = elim above [
      | inl same ↦ subst (λ k. Less k next) same parts.0
      | inr lower ↦ less_trans name low next lower parts.0
    ] in
    elim (member_cases (BytesKey next, spelled 4 Big number) (listed (entries_from (number + 1) sections)) entry at) [
      | inl here ↦
          ap (λ (e : MasterPair). is_key (BytesKey name) e.0) (sym here)
          ∙ false_from_ne_true (bytes_eq name next) (λ same. not_less_same name (subst (Less name) (sym (eq_same name next same)) higher))
      | inr later ↦ others_apart name next (number + 1) sections entry (inr higher) parts.1 later
    ]

all_apart : (number : ℕ) (sections : List Section) → ascends (names_of sections) ≡ true → AreNamesApart (listed (entries_from number sections))
all_apart number [] rise = tt
all_apart number (section ∷ sections) rise =
    let name : List ℕ = name_in section.name in (
      λ other at. others_apart name name (number + 1) sections other (inl refl) rise at,
      all_apart (number + 1) sections (ascends_later name (names_of sections) rise),
    )

pub entries_name_metas : EntriesNameMetas
entries_name_metas size order number sections top joints named some few first are =
    record {
      nothing_else = λ entry at.
          let found : (p : ℕ) × (page_named entry.1 ≡ Some p) × (number ≤ p) × IsMetaOf joints p =
          named_there size order number sections joints entry few are at in
          let joint : IsMetaOf joints found.0 = found.3 in
          (found.0, found.1, omega (arith, found.2, some), (joint.0, later_member top joints joint.0 joint.1, joint.2));
      once = λ p above meta. elim (member_cases top joints meta.0 meta.1) [
        | inl here ↦
            let zero_is : p ≡ 0 = sym meta.2 ∙ (ap (λ (j : Joint). j.meta) (sym here) ∙ first) in absurd (omega (arith, zero_is, above))
        | inr later ↦
            let bounds = joint_low size order number sections joints meta.0 are later in
            one_named number p sections few (omega (arith, bounds.0, meta.2)) (omega (arith, bounds.1, meta.2))
      ];
      names = all_apart number sections named.ascend;
    }

-- Databases.

-- joints whose pages come before a number, or which are among those that are left
abbrev AreBefore : ℕ → List Joint → List Joint → Type 0
AreBefore number left joints = (joint : Joint) → Contains joints joint → (joint.meta < number) ⊎ Contains left joint

-- the joint at the first number is that of the first section
first_joint : (size : ℕ) (order : Order) (number : ℕ) (section : Section) (sections : List Section) (first joint : Joint) (left joints : List Joint)
    → AreJointsFrom size order number (section ∷ sections) (first ∷ left) → AreBefore number (first ∷ left) joints → Contains joints joint
    → joint.meta ≡ number → IsJointOf size order number section joint
first_joint size order number section sections first joint left joints are before at is =
    elim (before joint at) [
      | inl low ↦ absurd (omega (arith, low, is))
      | inr there ↦ elim (member_cases first left joint there) [
        | inl here ↦ subst (IsJointOf size order number section) here are.0
        | inr later ↦
            let bounds = joint_low size order (number + 1) sections left joint are.1 later in absurd (omega (arith, bounds.0, is))
      ]
    ]

-- then the others come before the next number
before_next : (size : ℕ) (order : Order) (number : ℕ) (section : Section) (first : Joint) (left joints : List Joint)
    → IsJointOf size order number section first → AreBefore number (first ∷ left) joints → AreBefore (number + 1) left joints
before_next size order number section first left joints own before joint at =
    elim (before joint at) [
      | inl low ↦ inl (omega (arith, low))
      | inr there ↦ elim (member_cases first left joint there) [
        | inl here ↦ inl (let meta : joint.meta ≡ number = ap (λ (j : Joint). j.meta) (sym here) ∙ own.meta in omega (arith, meta))
        | inr later ↦ inr later
      ]
    ]

same_bytes : (a b : List ℕ) → BytesKey a ≡ BytesKey b → a ≡ b
same_bytes a b same = cc

-- the database that the entry of a section names is the section's
one_database : (size : ℕ) (order : Order) (number : ℕ) (section : Section) (sections : List Section) (first : Joint) (left joints : List Joint)
    (image : List ℕ) (database : Database) → IsNamed size section → number < 2 ^ 32 → (head_of image).page_size ≡ size → (head_of image).order ≡ order
    → HoldsLists image joints → AreJointsFrom size order number (section ∷ sections) (first ∷ left) → AreBefore number (first ∷ left) joints
    → IsDatabase joints (BytesKey (name_in section.name), spelled 4 Big number) database → IsDatabaseOf size order image section database
one_database size order number section sections first left joints image database named small size_is order_is holds are before is =
    let meta : is.joint.meta ≡ number = one_answer is.joint.meta number (sym is.names ∙ spelled_named number small) in
    let own : IsJointOf size order number section is.joint =
    first_joint size order number section sections first is.joint left joints are before is.at meta in
    let name : section.name ≡ Some (name_in section.name) = named.name_is ∙ ap (λ n. Some (name_in n)) (sym named.name_is) in
    let key : is.key ≡ name_in section.name = sym (same_bytes (name_in section.name) is.key is.keyed) in
    record {
      name = is.name ∙ (ap (λ k. Some k) key ∙ sym name);
      settings_are =
          ap (λ s. settings_of s (head_of image).order database.fields) size_is
          ∙ (ap (λ o. settings_of size o database.fields) order_is ∙ (ap (settings_of size order) is.fields ∙ own.settings));
      list = ap (list_of (file_of image)) is.fields ∙ (holds.lists is.joint is.at ∙ own.list);
    }

all_databases : (size : ℕ) (order : Order) (number : ℕ) (sections : List Section) (left joints : List Joint) (image : List ℕ)
    (found : List Database) → All (IsNamed size) sections → number + length sections ≤ 2 ^ 32 → (head_of image).page_size ≡ size
    → (head_of image).order ≡ order → HoldsLists image joints → AreJointsFrom size order number sections left → AreBefore number left joints
    → AllZip (IsDatabase joints) (listed (entries_from number sections)) found → AllZip (IsDatabaseOf size order image) sections found
all_databases size order number [] left joints image [] named few size_is order_is holds are before is = tt
all_databases size order number [] left joints image (database ∷ found) named few size_is order_is holds are before is = is
all_databases size order number (section ∷ sections) left joints image [] named few size_is order_is holds are before is = is
all_databases size order number (section ∷ sections) [] joints image (database ∷ found) named few size_is order_is holds are before is = absurd are
all_databases size order number (section ∷ sections) (first ∷ left) joints image (database ∷ found) named few size_is order_is holds are before is = (
  one_database size order number section sections first left joints image database (All-head (IsNamed size) section sections named)
      (omega (arith, few)) size_is order_is holds are before is.0,
  all_databases size order (number + 1) sections left joints image found (All-tail (IsNamed size) section sections named) (omega (arith, few))
      size_is order_is holds are.1 (before_next size order number section first left joints are.0 before) is.1,
)

pub entries_name_databases : EntriesNameDatabases
entries_name_databases size order number sections top joints image named some few first are size_is order_is holds is =
    grind (arith, all_databases, databases, file_of, member_cases, Joint)
