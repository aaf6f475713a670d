-- A page over entrances of a grove, which names heads of chains once more.
use Rattle.std.proofs.Common.{◌≡◌, ◌⊎◌, ℕ, ◌+◌, ◌<◌, ◌≤◌, Bool, true, false, List, [], ◌∷◌, ◌++◌, length, None, arith, refl, sym, ◌∙◌, ap, subst, inl, inr}
use Rattle.std.proofs.Common.{true≢false, length-append, ◌==◌, ◌&&◌, Contains}
use Rattle.std.proofs.lemmas.Bool.{cases_eq, eqb-true, ne_eqb, or_left, or_cases}
use Rattle.std.proofs.lemmas.List.{nil_from_length}
use Rattle.std.proofs.lemmas.List.Folds.{list_all-append}
use Rattle.std.proofs.lemmas.List.Sums.{list_all-from_AllPass}
use Rattle.bdb_law_grove.proofs.of_format.ListLemmas.{all_of, only_member}
use Rattle.bdb_law_grove.specs.of_format.declared.references.Reference.{Reference}
use Rattle.bdb_law_grove.specs.of_format.declared.references.Sort.{Sort}
use Rattle.bdb_law_grove.specs.of_format.declared.references.Sort.TheVariants.{Free, Root, Bucket, HashNext, Child, OverflowHead, OverflowNext, DuplicateRoot}
use Rattle.bdb_law_grove.specs.of_format.Terms.{File, Owner, fit_code, header_in, is_head_reference, page_at, refs}
use Rattle.bdb_law_grove.proofs.of_format.MemberLemmas.{first_member, in_map, later_member}
use Rattle.bdb_law_grove.specs.Part.{IsGrove, IsOwnedBy, are_heads_alone, owners_among}
use Rattle.bdb_law_grove.specs.Standing.{StandsOver, named_by, names}
use Rattle.bdb_law_grove.proofs.BesideLemmas.{owners_within}
use Rattle.bdb_law_grove.proofs.OwnerLemmas.{NamesNot, owner_among, unowned}
use Rattle.bdb_law_grove.proofs.SeveralLemmas.{count, first_head, named_count, named_owned, named_reference, one_at_most, some_count}
use Rattle.bdb_law_grove.proofs.StandLemmas.{page_stands_over, with_page}
use Rattle.bdb_law_levels.specs.Roots.{IsHeadOnce}

-- Numbers in lists.

member_or_none : (e : ℕ) (xs : List ℕ) → Contains xs e ⊎ (count e xs ≡ 0)
member_or_none e [] = inr refl
member_or_none e (x ∷ xs) = grind (arith, cases_eq, first_member, later_member, ne_eqb, member_or_none e xs)

pub counted_member : (e : ℕ) (xs : List ℕ) → 1 ≤ count e xs → Contains xs e
counted_member e xs some = elim (member_or_none e xs) [ inl at ↦ at | inr none ↦ absurd (omega arith) ]

not_counted : (e : ℕ) (xs : List ℕ) → (Contains xs e → ⊥) → count e xs ≡ 0
not_counted e xs other = elim (member_or_none e xs) [ inl at ↦ absurd (other at) | inr none ↦ none ]

-- Heads of chains.

is_head : (sort : Sort) → is_head_reference sort ≡ true → sort ≡ OverflowHead
is_head Free is = absurd cc
is_head Root is = absurd cc
is_head Bucket is = absurd cc
is_head HashNext is = absurd cc
is_head Child is = absurd cc
is_head OverflowHead is = refl
is_head OverflowNext is = absurd cc
is_head DuplicateRoot is = absurd cc

pub all_heads : (os : List Owner) → ((owner : Owner) → Contains os owner → is_head_reference owner.reference.sort ≡ true) → are_heads_alone os ≡ true
all_heads os heads =
    let test : Owner → Bool = λ owner. is_head_reference owner.reference.sort in
    list_all-from_AllPass test os (all_of (λ owner. test owner ≡ true) os heads)

same_code : (g : File) (p q : ℕ) (r s : Reference) → r.sort ≡ OverflowHead → s.sort ≡ OverflowHead → s.target ≡ r.target → fit_code g q s ≡ None
    → fit_code g p r ≡ None
unfolding fit_code
same_code g p q r s one two same fits = grind arith

-- a head that a page of a grove names is named by each other page as well as by that one
head_fits : (g : File) (pages : ℕ → Bool) (es : List ℕ) (p : ℕ) (r : Reference) → IsGrove g pages es → IsHeadOnce g pages r.target
    → r.sort ≡ OverflowHead → fit_code g p r ≡ None
head_fits g pages es p r grove head sort =
    let first = first_head (owners_among pages g r.target) (omega (arith, head.once)) in
    let found = owner_among pages g r.target first.0 first.1 in
    let named : is_head_reference found.2.sort ≡ true =
    ap (λ (o : Owner). is_head_reference o.reference.sort) found.4 ∙ first.2 head.heads in
    same_code g p found.0 r found.2 sort (is_head found.2.sort named) found.5 (grove.fits found.0 found.2 found.1 found.3)

-- What stands while levels are laid: a grove, no entrance of it twice, and heads of chains, each named once by its pages, and none of them twice.
pub record Stands (g : File) (pages : ℕ → Bool) (es heads : List ℕ) : Type 0 where
  pub grove : IsGrove g pages es
  pub once : (e : ℕ) → count e es ≤ 1
  pub named : (h : ℕ) → Contains heads h → IsHeadOnce g pages h
  pub alone : (h : ℕ) → count h heads ≤ 1

-- A page that names some children, and some heads.
pub record Names (g : File) (p : ℕ) (children taken : List ℕ) : Type 0 where
  pub sorts : (r : Reference) → Contains (refs g p) r
      → ((r.sort ≡ Child) × Contains children r.target) ⊎ ((r.sort ≡ OverflowHead) × Contains taken r.target)
  pub counts : (e : ℕ) → count e (names g p) ≡ count e children + count e taken

-- It is new, its children are entrances, and the heads are some of those that stand, which count it too.
pub record Takes (g : File) (pages : ℕ → Bool) (p : ℕ) (es fewer heads left : List ℕ) : Type 0 where
  pub children : List ℕ
  pub rest : List ℕ
  pub taken : List ℕ
  pub before : (e : ℕ) → count e es ≡ count e children + count e rest
  pub after : (e : ℕ) → count e fewer ≡ count e (p ∷ []) + count e rest
  pub heads_are : (h : ℕ) → count h heads ≡ count h taken + count h left
  pub low : 1 ≤ p
  pub high : p ≤ g.last
  pub new : pages p ≡ false
  pub names_them : Names g p children taken
  pub fits : (r : Reference) → Contains (refs g p) r → r.sort ≡ Child → fit_code g p r ≡ None
  pub shared : (h : ℕ) → Contains taken h → 2 ≤ (header_in (page_at g h)).entries

module _ {g : File} {pages : ℕ → Bool} {p : ℕ} {es fewer heads left : List ℕ} (takes : Takes g pages p es fewer heads left)
    (stands : Stands g pages es heads) where
  child_entrance : (e : ℕ) → Contains takes.children e → Contains es e
  child_entrance e at = counted_member e es (omega (arith, takes.before e, some_count e takes.children at))

  taken_head : (h : ℕ) → Contains takes.taken h → IsHeadOnce g pages h
  taken_head h at = stands.named h (counted_member h heads (omega (arith, takes.heads_are h, some_count h takes.taken at)))

  left_head : (h : ℕ) → Contains left h → IsHeadOnce g pages h
  left_head h at = stands.named h (counted_member h heads (omega (arith, takes.heads_are h, some_count h left at)))

  -- an entrance has no owner, and a head has one
  not_both : (e : ℕ) → Contains es e → IsHeadOnce g pages e → ⊥
  not_both e entrance head =
      let none : length (owners_among pages g e) ≡ 0 = ap length (unowned g pages es e stands.grove entrance) in omega (arith, head.once)

  not_taken : (e : ℕ) → Contains es e → count e takes.taken ≡ 0
  not_taken e entrance = not_counted e takes.taken (λ at. not_both e entrance (taken_head e at))

  -- no page is named twice
  once_named : (e : ℕ) → count e (names g p) ≤ 1
  once_named e =
      elim (member_or_none e takes.children) [
        | inl at ↦
            let none : count e takes.taken ≡ 0 = not_taken e (child_entrance e at) in
            omega (arith, takes.names_them.counts e, takes.before e, stands.once e)
        | inr none ↦ omega (arith, takes.names_them.counts e, takes.heads_are e, stands.alone e)
      ]

  -- a head that is left isn't named, and so it has the owner that it had
  left_alone : (h : ℕ) → Contains left h → NamesNot g h p
  left_alone h at r held target =
      let named : 1 ≤ count h (names g p) =
      some_count h (names g p) (subst (Contains (names g p)) target (in_map (λ (s : Reference). s.target) (refs g p) r held)) in
      let child : 1 ≤ count h takes.children =
      omega (arith, named, takes.names_them.counts h, takes.heads_are h, stands.alone h, some_count h left at) in
      not_both h (child_entrance h (counted_member h takes.children child)) (left_head h at)

  left_named : (h : ℕ) → Contains left h → IsHeadOnce g (with_page pages p) h
  left_named h at =
      let head : IsHeadOnce g pages h = left_head h at in
      let same : owners_among (with_page pages p) g h ≡ owners_among pages g h =
      owners_within pages (with_page pages p) g h (λ q is. or_left (pages q) (q == p) is)
      (λ q in_both out. elim (or_cases (pages q) (q == p) in_both) [
        | inl is ↦ absurd (true≢false (sym is ∙ out))
        | inr is ↦ subst (NamesNot g h) (sym (eqb-true q p is)) (left_alone h at)
      ]) in
      record {
        there = or_left (pages h) (h == p) head.there;
        heads = ap are_heads_alone same ∙ head.heads;
        once = ap length same ∙ head.once;
      }

  -- a head that the page names once more has two owners, both of them heads
  owner_is_head : (h : ℕ) → Contains takes.taken h → (owner : Owner) → Contains (named_by g p h) owner
      → is_head_reference owner.reference.sort ≡ true
  owner_is_head h at owner named =
      let found = named_reference g p h owner named in
      elim (takes.names_them.sorts found.0 found.1) [
        | inl child ↦ absurd (not_both h (subst (Contains es) found.3 (child_entrance found.0.target child.1)) (taken_head h at))
        | inr taken ↦ ap (λ (r : Reference). is_head_reference r.sort) found.2 ∙ ap is_head_reference taken.0
      ]

  shared_owned : (h : ℕ) → Contains takes.taken h → IsOwnedBy (owners_among pages g h ++ named_by g p h) (header_in (page_at g h)).entries
  shared_owned h at =
      let head : IsHeadOnce g pages h = taken_head h at in
      let both : length (owners_among pages g h ++ named_by g p h) ≡ 1 + count h (names g p) =
      omega (arith, head.once, length-append (owners_among pages g h) (named_by g p h), named_count p h (refs g p)) in
      inr (
        list_all-append (λ (o : Owner). is_head_reference o.reference.sort) (owners_among pages g h) (named_by g p h)
            ∙ (ap (λ b. b && are_heads_alone (named_by g p h)) head.heads ∙ all_heads (named_by g p h) (owner_is_head h at)),
        omega arith,
        omega (arith, both, once_named h, takes.shared h at),
      )

  -- what the page names as a head counts it
  counted : (r : Reference) → Contains (refs g p) r → is_head_reference r.sort ≡ true → 1 ≤ (header_in (page_at g r.target)).entries
  counted r at head =
      elim (takes.names_them.sorts r at) [
        | inl child ↦ absurd (true≢false (sym head ∙ ap is_head_reference child.0))
        | inr taken ↦ omega (arith, takes.shared r.target taken.1)
      ]

  named_owners : (q : ℕ) → 0 < length (named_by g p q) → IsOwnedBy (owners_among pages g q ++ named_by g p q) (header_in (page_at g q)).entries
  named_owners q some =
      let first = first_head (named_by g p q) some in
      let found = named_reference g p q first.0 first.1 in
      elim (takes.names_them.sorts found.0 found.1) [
        | inl child ↦
            named_owned g pages es p q stands.grove (subst (Contains es) found.3 (child_entrance found.0.target child.1)) some (once_named q) counted
        | inr taken ↦ shared_owned q (subst (Contains takes.taken) found.3 taken.1)
      ]

  -- an entrance that is one still isn't named
  not_new : (e : ℕ) → (e ≡ p → ⊥) → count e (p ∷ []) ≡ 0
  not_new e other = not_counted e (p ∷ []) (λ at. other (sym (only_member p e at)))

  still : (e : ℕ) → Contains fewer e → (e ≡ p → ⊥) → Contains es e
  still e at other = counted_member e es (omega (arith, takes.before e, takes.after e, not_new e other, some_count e fewer at))

  unnamed : (e : ℕ) → Contains fewer e → (e ≡ p → ⊥) → named_by g p e ≡ []
  unnamed e at other =
      let none : count e takes.taken ≡ 0 = not_taken e (still e at other) in
      let not_named : count e (names g p) ≡ 0 =
      omega (arith, none, takes.names_them.counts e, takes.before e, takes.after e, not_new e other, stands.once e, some_count e fewer at) in
      nil_from_length (named_by g p e) (named_count p e (refs g p) ∙ not_named)

  over : StandsOver g pages es p fewer
  over = record {
    page = record {
      low = takes.low;
      high = takes.high;
      new = takes.new;
      fits = λ r at. elim (takes.names_them.sorts r at) [
        | inl child ↦ takes.fits r at child.0
        | inr taken ↦ head_fits g pages es p r stands.grove (taken_head r.target taken.1) taken.0
      ];
    };
    inside = λ r at. elim (takes.names_them.sorts r at) [
      | inl child ↦ stands.grove.entered r.target (child_entrance r.target child.1)
      | inr taken ↦ (taken_head r.target taken.1).there
    ];
    owned = λ q is some. named_owners q some;
    entrance = counted_member p fewer (omega (arith, takes.after p, some_count p (p ∷ []) (first_member p [])));
    left = λ e at. elim (cases_eq e p) [ inl same ↦ inl same | inr other ↦ inr (still e at other, unnamed e at other) ];
    rest = λ e at none.
        let not_named : count e (names g p) ≡ 0 = sym (named_count p e (refs g p)) ∙ ap length none in
        counted_member e fewer (omega (arith, not_named, takes.names_them.counts e, takes.before e, takes.after e, some_count e es at));
  }

  -- so the page stands over the grove, and what is left stands
  pub stands_over : Stands g (with_page pages p) fewer left
  stands_over = record {
    grove = page_stands_over g pages es p fewer over stands.grove;
    once = λ e. elim (cases_eq e p) [
      | inl same ↦
          let outside : count e es ≡ 0 =
          not_counted e es (λ at. true≢false (sym (stands.grove.entered e at) ∙ (ap pages same ∙ takes.new))) in
          omega (arith, takes.after e, one_at_most (λ x. x == e) p, takes.before e)
      | inr other ↦ omega (arith, takes.after e, not_new e other, takes.before e, stands.once e)
    ];
    named = left_named;
    alone = λ h. omega (arith, takes.heads_are h, stands.alone h);
  }
