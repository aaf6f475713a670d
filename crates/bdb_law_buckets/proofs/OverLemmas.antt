-- The pages of a bucket, and those of a table, are a branch.
use Rattle.std.proofs.Common.{◌≡◌, ℕ, ◌+◌, ◌<◌, ◌≤◌, Bool, true, false, cond, List, [], ◌∷◌, ◌++◌, length, arith, refl, sym, ◌∙◌, ap, subst, inl, inr}
use Rattle.std.specs.Prelude.{◌==◌, ◌||◌}
use Rattle.std.specs.List.{Contains, flat_map, list_any, range_with_len}
use Rattle.std.proofs.lemmas.Bool.{cases_eq, cases_lt, eq-eqb, ne_eqb, or_cases, or_left, or_right}
use Rattle.std.proofs.lemmas.Grind.{flat_map-append}
use Rattle.std.proofs.lemmas.List.{append-nil}
use Rattle.std.proofs.lemmas.List.Elements.{All-append, All-nil}
use Rattle.bdb_law_grove.specs.of_format.declared.references.Reference.{Reference}
use Rattle.bdb_law_grove.specs.of_format.Terms.{Content, File, refs}
use Rattle.bdb_law_grove.proofs.of_format.ListLemmas.{only_member, passes_here}
use Rattle.bdb_law_grove.proofs.of_format.MemberLemmas.{first_member, in_flat_map, in_map, in_range, member_cases, no_member, of_range}
use Rattle.bdb_law_grove.specs.Growing.{IsCounted}
use Rattle.bdb_law_grove.specs.Leaves.{Ascend, AscendIn, ContentFits, content_pages}
use Rattle.bdb_law_grove.specs.Part.{IsBranch, between}
use Rattle.bdb_law_grove.specs.Standing.{names}
use Rattle.bdb_law_grove.proofs.BranchLemmas.{branch_is_known, branches_follow, no_branch, of_list, pages_stand_over_branch}
use Rattle.bdb_law_grove.proofs.ChainLemmas.{between_is, is_between, same_test}
use Rattle.bdb_law_grove.proofs.LeafLemmas.{ascend_once}
use Rattle.bdb_law_buckets.specs.Tables.{BucketStands, ContentsStand, PlacedUnit, TableStands, UnitsStand, contents_of, contents_on}
use Rattle.bdb_law_grove.proofs.AscendLemmas.{ascend_bounds, ascend_follow, ascend_strictly, range_ascends}
use Rattle.bdb_law_buckets.proofs.PageLemmas.{IsNextOf, IsRight, is_next_of, names_are, page_right}

-- What keys name.

pub contents_follow : (g : File) (a b c : ℕ) (xs ys : List Content) → ContentsStand g a b xs → ContentsStand g b c ys → ContentsStand g a c (xs ++ ys)
contents_follow g a b c xs ys first second =
    record {
      branch = subst (IsBranch g (between a c)) (sym (flat_map-append content_pages xs ys))
          (branches_follow g a b c (flat_map content_pages xs) (flat_map content_pages ys) (ascend_bounds a b _ first.ascend)
          (ascend_bounds b c _ second.ascend) first.branch second.branch);
      fit = All-append (ContentFits g) xs ys first.fit second.fit;
      ascend = subst (AscendIn a c) (sym (flat_map-append content_pages xs ys))
          (ascend_follow a b c (flat_map content_pages xs) (flat_map content_pages ys) first.ascend second.ascend);
    }

pub no_contents : (g : File) (a : ℕ) → ContentsStand g a a []
no_contents g a = record { branch = no_branch g a; fit = All-nil (ContentFits g); ascend = omega arith }

pub units_contents : (g : File) (sorted : Bool) (first beyond : ℕ) (units : List PlacedUnit) → UnitsStand g sorted first beyond units
    → ContentsStand g first beyond (contents_on units)
units_contents g sorted first beyond [] same = subst (λ n. ContentsStand g first n []) (sym same) (no_contents g first)
units_contents g sorted first beyond (unit ∷ units) (here, rest) =
    contents_follow g first unit.beyond beyond (contents_of unit) (contents_on units) here.on
    (units_contents g sorted unit.beyond beyond units rest)

-- A bucket.

-- the pages of a bucket are numbered upwards
pub bucket_up : (g : File) (sorted : Bool) (previous p first beyond : ℕ) (pages : List (List PlacedUnit))
    → BucketStands g sorted previous p first beyond pages → first ≤ beyond
bucket_up g sorted previous p first beyond [] stands = absurd stands
bucket_up g sorted previous p first beyond (units ∷ []) (is, stand) =
    ascend_bounds first beyond _ (units_contents g sorted first beyond units stand).ascend
bucket_up g sorted previous p first beyond (units ∷ more ∷ pages) (next, is, stand, rest) =
    let one = ascend_bounds first next _ (units_contents g sorted first next units stand).ascend in
    let two = bucket_up g sorted p next (next + 1) beyond (more ∷ pages) rest in omega (arith, one, two)

pub table_up : (g : File) (sorted : Bool) (p first beyond : ℕ) (buckets : List (List (List PlacedUnit))) → TableStands g sorted p first beyond buckets
    → first ≤ beyond
table_up g sorted p first beyond [] same = omega (arith, same)
table_up g sorted p first beyond (bucket ∷ buckets) (middle, stands, rest) = grind (arith, bucket_up, table_up g sorted (p + 1) middle beyond buckets rest)

-- the first page of a bucket, over a branch that is entered by what it names
pub record IsOver (g : File) (previous p first beyond : ℕ) : Type 0 where
  pub here : IsNextOf g previous p
  pub branch : IsBranch g (between first beyond) (names g p)
  pub ascend : AscendIn first beyond (names g p)
  pub right : IsRight g p

-- a reference of a page is to a page of what it names
inside : (g : File) (pages : ℕ → Bool) (ps : List ℕ) (p : ℕ) (r : Reference) → IsBranch g pages (flat_map (names g) ps) → Contains ps p
    → Contains (refs g p) r → pages r.target ≡ true
inside g pages ps p r branch at held =
    branch.grove.entered r.target (in_flat_map (names g) ps p r.target at (in_map (λ (s : Reference). s.target) (refs g p) r held))

-- pages over a branch that is entered by what they name, one after the other
pub stand_over : (g : File) (first beyond : ℕ) (ps : List ℕ) → 1 ≤ first
    → ((p : ℕ) → Contains ps p → (1 ≤ p) × (p ≤ g.last) × (between first beyond p ≡ false))
    → ((p : ℕ) → Contains ps p → IsRight g p) → Ascend 0 ps → AscendIn first beyond (flat_map (names g) ps)
    → IsBranch g (between first beyond) (flat_map (names g) ps)
    → IsBranch g (λ q. between first beyond q || list_any (λ p. q == p) ps) ps
stand_over g first beyond ps low there right rise ascend branch =
    pages_stand_over_branch g (between first beyond) ps
    (record {
      page = λ p at.
          let is = there p at in
          record {
            low = is.0;
            high = is.1;
            new = is.2;
            fits = λ r held.
                let in_branch = inside g (between first beyond) ps p r branch at held in
                (right p at).fits r held (branch.grove.low r.target in_branch) (branch.grove.high r.target in_branch);
          };
      apart = λ p. ascend_once 0 p ps rise;
      once = λ e. ascend_once 0 e (flat_map (names g) ps) (ascend_strictly 0 first beyond (flat_map (names g) ps) low ascend);
      counts = λ p r at. (right p at).counts r;
    })
    (λ p at. (right p at).chains) (λ p r at. (right p at).sets r) branch

-- a page right before the pages that it stands over
over_next : (g : File) (previous p beyond : ℕ) → 1 ≤ p → beyond ≤ g.last + 1 → IsOver g previous p (p + 1) beyond
    → IsBranch g (between p beyond) (p ∷ [])
over_next g previous p beyond low high over =
    branch_is_known g (λ q. between (p + 1) beyond q || list_any (λ r. q == r) (p ∷ [])) (between p beyond) (p ∷ []) (p ∷ []) same (λ e at. at)
    (λ e at. at)
    (stand_over g (p + 1) beyond (p ∷ []) (omega arith)
    (λ q at. subst (λ n. (1 ≤ n) × (n ≤ g.last) × (between (p + 1) beyond n ≡ false)) (only_member p q at) (low, omega (arith, last, high), not_over))
    (λ q at. subst (IsRight g) (only_member p q at) over.right) (omega (arith, low), tt)
    (subst (AscendIn (p + 1) beyond) (sym (append-nil (names g p))) over.ascend)
    (subst (IsBranch g (between (p + 1) beyond)) (sym (append-nil (names g p))) over.branch))
  where
    last : p + 1 ≤ beyond
    last = ascend_bounds (p + 1) beyond (names g p) over.ascend

    not_over : between (p + 1) beyond p ≡ false
    not_over = no_between (between (p + 1) beyond p) refl
      where
        no_between : (b : Bool) → between (p + 1) beyond p ≡ b → b ≡ false
        no_between true is = let within = between_is (p + 1) beyond p is in absurd (omega (arith, within.0))
        no_between false is = refl

    same : (q : ℕ) → between p beyond q ≡ (between (p + 1) beyond q || list_any (λ r. q == r) (p ∷ []))
    same q =
        same_test (between p beyond q) (between (p + 1) beyond q || list_any (λ r. q == r) (p ∷ []))
        (λ is. let within = between_is p beyond q is in elim (cases_eq q p) [
          | inl at ↦ or_right (between (p + 1) beyond q) _ (passes_here (λ r. q == r) (p ∷ []) p (first_member p []) (eq-eqb q p at))
          | inr other ↦ or_left _ (list_any (λ r. q == r) (p ∷ [])) (is_between (p + 1) beyond q (omega (arith, within.0, other)) within.1)
        ])
        (λ is. elim (or_cases (between (p + 1) beyond q) (list_any (λ r. q == r) (p ∷ [])) is) [
          | inl more ↦ let within = between_is (p + 1) beyond q more in is_between p beyond q (omega (arith, within.0)) within.1
          | inr at ↦ let e = only_member p q (of_list (p ∷ []) q at) in is_between p beyond q (omega (arith, e)) (omega (arith, e, last))
        ])

pub bucket_over : (g : File) (sorted : Bool) (previous p first beyond : ℕ) (pages : List (List PlacedUnit)) → IsCounted g → 1 ≤ first
    → beyond ≤ g.last + 1
    → BucketStands g sorted previous p first beyond pages → IsOver g previous p first beyond
bucket_over g sorted previous p first beyond [] counted low high stands = absurd stands
bucket_over g sorted previous p first beyond (units ∷ []) counted low high (is, stand) =
    let contents = units_contents g sorted first beyond units stand in
    let all : names g p ≡ flat_map content_pages (contents_on units) =
    names_are g p previous 0 (contents_on units) counted.no_queue is ∙ append-nil (flat_map content_pages (contents_on units)) in
    record {
      here = is_next_of g previous p 0 (contents_on units) is;
      branch = subst (IsBranch g (between first beyond)) (sym all) contents.branch;
      ascend = subst (AscendIn first beyond) (sym all) contents.ascend;
      right = page_right g p previous 0 (contents_on units) counted.no_queue is contents.fit (λ some. absurd (some refl));
    }
bucket_over g sorted previous p first beyond (units ∷ more ∷ pages) counted low high (next, is, stand, rest) =
    let contents = units_contents g sorted first next units stand in
    let up : first ≤ next = ascend_bounds first next _ contents.ascend in
    let over = bucket_over g sorted p next (next + 1) beyond (more ∷ pages) counted (omega arith) high rest in
    let last : next + 1 ≤ beyond = ascend_bounds (next + 1) beyond _ over.ascend in
    let some : (next == 0) ≡ false = ne_eqb next 0 (λ e. omega (arith, e, low, up)) in
    let all : names g p ≡ flat_map content_pages (contents_on units) ++ (next ∷ []) =
    names_are g p previous next (contents_on units) counted.no_queue is
    ∙ ap (λ b. flat_map content_pages (contents_on units) ++ cond b [] (next ∷ [])) some in
    record {
      here = is_next_of g previous p next (contents_on units) is;
      branch = subst (IsBranch g (between first beyond)) (sym all)
          (branches_follow g first next beyond (flat_map content_pages (contents_on units)) (next ∷ []) up (omega (arith, last)) contents.branch
          (over_next g p next beyond (omega (arith, low, up)) high over));
      ascend = subst (AscendIn first beyond) (sym all)
          (ascend_follow first next beyond (flat_map content_pages (contents_on units)) (next ∷ []) contents.ascend
          (omega arith, omega (arith, last)));
      right = page_right g p previous next (contents_on units) counted.no_queue is contents.fit (λ other. over.here);
    }

-- A table.

-- the first pages of buckets, over what they name
pub record AreOver (g : File) (p n first beyond : ℕ) : Type 0 where
  pub branch : IsBranch g (between first beyond) (flat_map (names g) (range_with_len p n))
  pub ascend : AscendIn first beyond (flat_map (names g) (range_with_len p n))
  pub right : (q : ℕ) → Contains (range_with_len p n) q → IsRight g q
  pub here : (q : ℕ) → Contains (range_with_len p n) q → IsNextOf g 0 q

pub table_over : (g : File) (sorted : Bool) (p first beyond : ℕ) (buckets : List (List (List PlacedUnit))) → IsCounted g → 1 ≤ first
    → beyond ≤ g.last + 1
    → TableStands g sorted p first beyond buckets → AreOver g p (length buckets) first beyond × (first ≤ beyond)
table_over g sorted p first beyond [] counted low high same = grind (arith, no_branch, no_member)
table_over g sorted p first beyond (bucket ∷ buckets) counted low high (middle, stands, rest) =
    let rests = table_over g sorted (p + 1) middle beyond buckets counted (omega (arith, low, up)) high rest in
    let over = bucket_over g sorted 0 p first middle bucket counted low (omega (arith, rests.1, high)) stands in
    let ps : List ℕ = range_with_len (p + 1) (length buckets) in (
      record {
        branch = branches_follow g first middle beyond (names g p) (flat_map (names g) ps) up rests.1 over.branch rests.0.branch;
        ascend = ascend_follow first middle beyond (names g p) (flat_map (names g) ps) over.ascend rests.0.ascend;
        right = λ q at. elim (member_cases p ps q at) [ inl same ↦ subst (IsRight g) same over.right | inr later ↦ rests.0.right q later ];
        here = λ q at. elim (member_cases p ps q at) [ inl same ↦ subst (IsNextOf g 0) same over.here | inr later ↦ rests.0.here q later ];
      },
      omega (arith, up, rests.1),
    )
  where
    up : first ≤ middle
    up = bucket_up g sorted 0 p first middle bucket stands

-- the whole table is a branch that is entered by the first pages
pub table_branch : (g : File) (p n beyond : ℕ) → 1 ≤ p → beyond ≤ g.last + 1 → AreOver g p n (p + n) beyond → p + n ≤ beyond
    → IsBranch g (between p beyond) (range_with_len p n)
table_branch g p n beyond low high over up =
    branch_is_known g (λ q. between (p + n) beyond q || list_any (λ r. q == r) ps) (between p beyond) ps ps same (λ e at. at) (λ e at. at)
    (stand_over g (p + n) beyond ps (omega (arith, low))
    (λ q at. let in_row = of_range p n q at in (omega (arith, low, in_row.0), omega (arith, in_row.1, up, high), not_over q in_row.1))
    over.right (range_ascends 0 p n low) over.ascend over.branch)
  where
    ps : List ℕ
    ps = range_with_len p n

    not_over : (q : ℕ) → q < p + n → between (p + n) beyond q ≡ false
    not_over q under = no_between (between (p + n) beyond q) refl
      where
        no_between : (b : Bool) → between (p + n) beyond q ≡ b → b ≡ false
        no_between true is = let within = between_is (p + n) beyond q is in absurd (omega (arith, within.0, under))
        no_between false is = refl

    same : (q : ℕ) → between p beyond q ≡ (between (p + n) beyond q || list_any (λ r. q == r) ps)
    same q =
        same_test (between p beyond q) (between (p + n) beyond q || list_any (λ r. q == r) ps)
        (λ is. let within = between_is p beyond q is in elim (cases_lt q (p + n)) [
          | inl under ↦ or_right (between (p + n) beyond q) _ (passes_here (λ r. q == r) ps q (in_range p n q within.0 under) (eq-eqb q q refl))
          | inr over ↦ or_left _ (list_any (λ r. q == r) ps) (is_between (p + n) beyond q over within.1)
        ])
        (λ is. elim (or_cases (between (p + n) beyond q) (list_any (λ r. q == r) ps) is) [
          | inl more ↦ let within = between_is (p + n) beyond q more in is_between p beyond q (omega (arith, within.0)) within.1
          | inr at ↦ let in_row = of_range p n q (of_list ps q at) in is_between p beyond q in_row.0 (omega (arith, in_row.1, up))
        ])
