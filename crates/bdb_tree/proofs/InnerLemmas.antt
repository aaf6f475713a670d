-- The internal pages at or below a page: the page itself and those at or below its children, and the faults of all of them.
use Rattle.std.proofs.Common.{◌≡◌, ℕ, zero, suc, ◌+◌, ◌-◌, ◌≤◌, ◌⊎◌, Bool, List, [], ◌∷◌, ◌++◌, map, arith, refl, sym, ◌∙◌, ap, subst, inl, inr, Some, None}
use Rattle.std.proofs.Common.{Contains, filter, flat_map, is_some, unwrap_or}
use Rattle.std.proofs.lemmas.List.Elements.{Contains-append_cases, Contains-append_left, Contains-append_right}
use Rattle.bdb_faults.specs.Notes.{AreSame, NotesAll}
use Rattle.bdb_faults.proofs.SinkLemmas.{notes_same}
use Rattle.bdb_overflow.specs.of_format.declared.kinds.Fault.{Fault}
use Rattle.bdb_overflow.specs.of_format.Terms.{File, children_in, file_of, header_in, inner_in, inner_pages, page_at}
use Rattle.bdb_overflow.proofs.of_format.ListLemmas.{only_member}
use Rattle.bdb_overflow.proofs.of_format.MemberLemmas.{first_member, in_filter, in_flat_map, in_map, no_member, of_filter, of_flat_map, of_map}
use Rattle.bdb_overflow.specs.of_image.Linked.{IsForest}
use Rattle.bdb_tree.proofs.TreeLemmas.{child_is, inner_type, tree_cases}

-- Lists of pages.

abbrev is_inner : File → ℕ → Bool
is_inner file p = is_some (children_in (page_at file p))

abbrev below : File → ℕ → List ℕ
below file p = unwrap_or (children_in (page_at file p)) []

-- each page of one list is on the other
abbrev pub AreAmong : List ℕ → List ℕ → Type 0
AreAmong ps qs = (p : ℕ) → Contains ps p → Contains qs p

one_among : (p : ℕ) (ps : List ℕ) → Contains ps p → AreAmong (p ∷ []) ps
one_among p ps at q one = subst (Contains ps) (only_member p q one) at

kids_among : (file : File) (ps qs : List ℕ) → AreAmong ps qs → AreAmong (flat_map (below file) ps) (flat_map (below file) qs)
kids_among file ps qs among c at =
    let found = of_flat_map (below file) ps c at in in_flat_map (below file) qs found.0 c (among found.0 found.1) found.2

-- what is at or below pages is at or below those of a list with all of them
pub inner_among : (n : ℕ) (file : File) (ps qs : List ℕ) → AreAmong ps qs → AreAmong (inner_in n file ps) (inner_in n file qs)
inner_among zero file ps qs among p at = at
inner_among (suc n) file ps qs among p at =
    elim (Contains-append_cases (filter (is_inner file) ps) (inner_in n file (flat_map (below file) ps)) p at) [
      | inl here ↦
          let found = of_filter (is_inner file) ps p here in
          Contains-append_left (filter (is_inner file) qs) (inner_in n file (flat_map (below file) qs)) p
          (in_filter (is_inner file) qs p (among p found.0) found.1)
      | inr lower ↦
          Contains-append_right (filter (is_inner file) qs) (inner_in n file (flat_map (below file) qs)) p
          (inner_among n file (flat_map (below file) ps) (flat_map (below file) qs) (kids_among file ps qs among) p lower)
    ]

-- and it's at or below one of them
of_inner : (n : ℕ) (file : File) (ps : List ℕ) (q : ℕ) → Contains (inner_in n file ps) q
    → (p : ℕ) × Contains ps p × Contains (inner_in n file (p ∷ [])) q
of_inner zero file ps q at = absurd (no_member [] q refl at)
of_inner (suc n) file ps q at =
    elim (Contains-append_cases (filter (is_inner file) ps) (inner_in n file (flat_map (below file) ps)) q at) [
      | inl here ↦
          let found = of_filter (is_inner file) ps q here in (
            q,
            found.0,
            Contains-append_left (filter (is_inner file) (q ∷ [])) (inner_in n file (flat_map (below file) (q ∷ []))) q
                (in_filter (is_inner file) (q ∷ []) q (first_member q []) found.1),
          )
      | inr lower ↦
          let one = of_inner n file (flat_map (below file) ps) q lower in
          let found = of_flat_map (below file) ps one.0 one.1 in (
            found.0,
            found.1,
            Contains-append_right (filter (is_inner file) (found.0 ∷ [])) (inner_in n file (flat_map (below file) (found.0 ∷ []))) q
                (inner_among n file (one.0 ∷ []) (flat_map (below file) (found.0 ∷ []))
                (one_among one.0 (flat_map (below file) (found.0 ∷ []))
                (in_flat_map (below file) (found.0 ∷ []) found.0 one.0 (first_member found.0 []) found.2)) q one.2),
          )
    ]

-- A page.

abbrev level : File → ℕ → ℕ
level file p = (header_in (page_at file p)).level

none_in : (n : ℕ) (file : File) → inner_in n file [] ≡ []
none_in zero file = refl
none_in (suc n) file = none_in n file

-- a leaf has no internal page at or below it
pub no_inner : (file : File) (p : ℕ) → children_in (page_at file p) ≡ None → inner_pages file p ≡ []
unfolding inner_pages
no_inner file p none = grind (arith, none_in)

module _ {X : Type 0} (child : X → ℕ) where
  -- the items of an internal page, which lead one level down
  pub record LeadDown (file : File) (p : ℕ) (items : List X) : Type 0 where
    pub children : children_in (page_at file p) ≡ Some (map child items)
    pub levels : (item : X) → Contains items item → level file (child item) + 1 ≡ level file p
    pub high : 2 ≤ level file p

  pub leads_down : (image : List ℕ) (p : ℕ) (items : List X) → IsForest image → children_in (page_at (file_of image) p) ≡ Some (map child items)
      → LeadDown (file_of image) p items
  leads_down image p items forest are =
      let file : File = file_of image in
      record {
        children = are;
        levels = λ item at. (child_is image p (child item) (map child items) forest are (in_map child items item at)).level;
        high =
            elim (tree_cases image p forest (inner_type (page_at file p) (map child items) are)) [
              | inl inner ↦ inner.level
              | inr leaf ↦ absurd (let none : Some (map child items) ≡ None = sym are ∙ leaf.none in cc)
            ];
      }

  at_children : (file : File) (p c : ℕ) (items : List X) → LeadDown file p items → Contains (flat_map (below file) (p ∷ [])) c → Contains (map child items) c
  at_children file p c items down at =
      let found = of_flat_map (below file) (p ∷ []) c at in
      subst (λ cs. Contains (unwrap_or cs []) c) down.children
      (subst (λ q. Contains (below file q) c) (sym (only_member p found.0 found.1)) found.2)

  -- an internal page at or below a page is that page, or at or below one of its children
  inner_cases : (file : File) (p q : ℕ) (items : List X) → LeadDown file p items → Contains (inner_pages file p) q
      → (p ≡ q) ⊎ ((item : X) × Contains items item × Contains (inner_pages file (child item)) q)
  unfolding inner_pages
  inner_cases file p q items down at =
      let n : ℕ = level file p - 1 in
      let high : level file p ≡ suc n = let some = down.high in omega arith in
      elim (Contains-append_cases (filter (is_inner file) (p ∷ [])) (inner_in n file (flat_map (below file) (p ∷ []))) q
      (subst (λ k. Contains (inner_in k file (p ∷ [])) q) high at)) [
        | inl here ↦ inl (only_member p q (of_filter (is_inner file) (p ∷ []) q here).0)
        | inr lower ↦
            let one = of_inner n file (flat_map (below file) (p ∷ [])) q lower in
            let found = of_map child items one.0 (at_children file p one.0 items down one.1) in
            let low : n ≡ level file (child found.0) = omega (arith, down.levels found.0 found.1) in
            inr (
              found.0,
              found.1,
              subst (λ k. Contains (inner_in k file (child found.0 ∷ [])) q) low
                  (subst (λ c. Contains (inner_in n file (c ∷ [])) q) (sym found.2) one.2),
            )
      ]

  -- the page itself is one of them
  pub itself_inner : (file : File) (p : ℕ) (items : List X) → LeadDown file p items → Contains (inner_pages file p) p
  unfolding inner_pages
  itself_inner file p items down =
      let n : ℕ = level file p - 1 in
      let high : level file p ≡ suc n = let some = down.high in omega arith in
      subst (λ k. Contains (inner_in k file (p ∷ [])) p) (sym high)
      (Contains-append_left (filter (is_inner file) (p ∷ [])) (inner_in n file (flat_map (below file) (p ∷ []))) p
      (in_filter (is_inner file) (p ∷ []) p (first_member p []) (ap is_some down.children)))

  -- and so are those at or below its children
  pub child_inner : (file : File) (p q : ℕ) (items : List X) (item : X) → LeadDown file p items → Contains items item
      → Contains (inner_pages file (child item)) q → Contains (inner_pages file p) q
  unfolding inner_pages
  child_inner file p q items item down at lower =
      let n : ℕ = level file p - 1 in
      let high : level file p ≡ suc n = let some = down.high in omega arith in
      let low : level file (child item) ≡ n = omega (arith, down.levels item at) in
      let here : Contains (flat_map (below file) (p ∷ [])) (child item) =
      in_flat_map (below file) (p ∷ []) p (child item) (first_member p [])
      (subst (λ cs. Contains (unwrap_or cs []) (child item)) (sym down.children) (in_map child items item at)) in
      subst (λ k. Contains (inner_in k file (p ∷ [])) q) (sym high)
      (Contains-append_right (filter (is_inner file) (p ∷ [])) (inner_in n file (flat_map (below file) (p ∷ []))) q
      (inner_among n file (child item ∷ []) (flat_map (below file) (p ∷ [])) (one_among (child item) (flat_map (below file) (p ∷ [])) here) q
      (subst (λ k. Contains (inner_in k file (child item ∷ [])) q) low lower)))

  -- What is noted.

  module _ (give : ℕ → List Fault) where
    -- the faults of the internal pages at or below an item
    abbrev pub faults_below : File → X → List Fault
    faults_below file item = flat_map give (inner_pages file (child item))

    inner_faults : (file : File) (p : ℕ) (items : List X) → LeadDown file p items
        → AreSame (flat_map (faults_below file) items ++ give p) (flat_map give (inner_pages file p))
    inner_faults file p items down fault = (
      λ at. elim (Contains-append_cases (flat_map (faults_below file) items) (give p) fault at) [
        | inl lower ↦
            let one = of_flat_map (faults_below file) items fault lower in
            let found = of_flat_map give (inner_pages file (child one.0)) fault one.2 in
            in_flat_map give (inner_pages file p) found.0 fault (child_inner file p found.0 items one.0 down one.1 found.1) found.2
        | inr here ↦ in_flat_map give (inner_pages file p) p fault (itself_inner file p items down) here
      ],
      λ at.
          let found = of_flat_map give (inner_pages file p) fault at in
          elim (inner_cases file p found.0 items down found.1) [
            | inl same ↦ Contains-append_right (flat_map (faults_below file) items) (give p) fault (subst (λ q. Contains (give q) fault) (sym same) found.2)
            | inr lower ↦
                Contains-append_left (flat_map (faults_below file) items) (give p) fault
                (in_flat_map (faults_below file) items lower.0 fault lower.1
                (in_flat_map give (inner_pages file (child lower.0)) found.0 fault lower.2 found.2))
          ],
    )

    -- once those below the items of a page are noted, and its own, those of the internal pages at or below it are
    pub inner_noted : (before after : List Fault → Type 0) (file : File) (p : ℕ) (items : List X) → LeadDown file p items
        → NotesAll before after (flat_map (faults_below file) items ++ give p) → NotesAll before after (flat_map give (inner_pages file p))
    inner_noted before after file p items down all =
        notes_same before after (flat_map (faults_below file) items ++ give p) (flat_map give (inner_pages file p)) all
        (inner_faults file p items down)
