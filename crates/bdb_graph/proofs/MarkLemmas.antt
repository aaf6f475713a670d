-- What the marks of the pages say while a way up is gone and then marked.
use Rattle.std.proofs.Common.{◌≡◌, ◌⊎◌, ℕ, zero, suc, ◌+◌, ◌<◌, ◌≤◌, Bool, false, List, length, set, None, inl, inr, refl, sym, ◌∙◌, ap, subst, arith}
use Rattle.std.specs.Prelude.{replicate}
use Rattle.std.proofs.lemmas.Bool.{cases_eq, cases_order}
use Rattle.std.proofs.lemmas.List.{get_or-replicate, get_or_past, length-replicate, length-set, get_or-set_same, get_or-set_other}
use Rattle.bdb_graph.specs.declared.reach.Mark.{Mark}
use Rattle.bdb_graph.specs.declared.reach.Mark.TheVariants.{Open, Way, Known}
use Rattle.bdb_image.specs.of_format.Terms.{File, first_holder, owners, reaches}
use Rattle.bdb_graph.specs.Forest.{is_top}
use Rattle.bdb_graph.specs.Marks.{AreMarks, AreSettled, HasWay, IsAbove, IsFit, IsHeldBy, IsKnown, IsUp, mark_at}
use Rattle.bdb_graph.proofs.ForestLemmas.{no_top}
use Rattle.bdb_graph.proofs.ReachLemmas.{holder_there, never, reaches_above, reaches_alone, reaches_onward}

-- Ways.

one_more : (k : ℕ) (file : File) (p q h : ℕ) → IsUp file k p q → IsHeldBy file q h → IsUp file (suc k) p h
one_more zero file p q h up held = (h, ap (λ n. first_holder (owners file n)) up ∙ held, refl)
one_more (suc k) file p q h up held = (up.0, up.1, one_more k file up.0 q h up.2 held)

above_more : (file : File) (p q h : ℕ) → IsAbove file p q → IsHeldBy file q h → IsAbove file p h
above_more file p q h above held = (suc above.0, one_more above.0 file p q h above.1 held)

-- a page above another is above its holder, or it's that page
above_holder : (file : File) (p q h : ℕ) → (p ≡ q → ⊥) → IsHeldBy file p h → IsAbove file p q → IsAbove file h q
above_holder file p q h other held (zero, up) = absurd (other up)
above_holder file p q h other held (suc k, up) = let same : up.0 ≡ h = cc (up.1, held) in (k, subst (λ n. IsUp file k n q) same up.2)

above_none : (file : File) (p q : ℕ) → (p ≡ q → ⊥) → first_holder (owners file p) ≡ None → IsAbove file p q → ⊥
above_none file p q other none (zero, up) = other up
above_none file p q other none (suc k, up) = cc (up.1, none)

-- One mark is written.

after_set : (marks : List Mark) (w q : ℕ) (m : Mark) → w < length marks
    → ((q ≡ w) × (mark_at (set marks w m) q ≡ m)) ⊎ ((q ≡ w → ⊥) × (mark_at (set marks w m) q ≡ mark_at marks q))
after_set marks w q m h =
    elim (cases_eq q w) [
      | inl same ↦ inl (same, rw same (get_or-set_same marks w m Open h))
      | inr other ↦ inr (other, get_or-set_other marks w q m Open other)
    ]

-- where all pages are open, no way is
pub none_marked : (file : File) (n : ℕ) → AreSettled file (replicate n Open)
none_marked file n = record {
  way = λ q is. (let e : Open ≡ Way = sym (at q) ∙ is in cc);
  found = λ q reached is. absurd (let e : Open ≡ Known reached = sym (at q) ∙ is in cc);
  closed = λ q h known. absurd (subst IsKnown (at q) known);
}
  where
    at : (q : ℕ) → mark_at (replicate n Open) q ≡ Open
    at q =
        elim (cases_order q n) [
          | inr (inl low) ↦ get_or-replicate n q Open Open low
          | inl same ↦ get_or_past (replicate n Open) q Open (rw length-replicate (omega (arith, same)))
          | inr (inr above) ↦ get_or_past (replicate n Open) q Open (rw length-replicate (omega (arith, above)))
        ]

-- The way up.

pub record IsClimbing (file : File) (marks : List Mark) (from at : ℕ) : Type 0 where
  pub marked : HasWay from file marks
  pub here : IsAbove file from at
  pub there : at ≤ file.last
  pub len : length marks ≡ file.last + 1
  pub shut : (q h : ℕ) → mark_at marks q ≡ Way → IsHeldBy file q h → (mark_at marks h ≡ Way) ⊎ (h ≡ at)
  pub low : (q : ℕ) → mark_at marks q ≡ Way → is_top file q ≡ false

pub same_reach : (file : File) (marks : List Mark) (from at : ℕ) → IsFit file → IsClimbing file marks from at → reaches file from ≡ reaches file at
same_reach file marks from at fit climbing = reaches_above climbing.here.0 file from at fit climbing.here.1

-- the way comes to a page of which it's known
pub comes_to : (file : File) (marks : List Mark) (from at : ℕ) (reached : Bool) → IsFit file → IsClimbing file marks from at → mark_at marks at ≡ Known reached
    → reached ≡ reaches file from
comes_to file marks from at reached fit climbing is = sym (same_reach file marks from at fit climbing ∙ climbing.marked.found at reached is)

-- the way comes to a page of its own
pub comes_back : (file : File) (marks : List Mark) (from at : ℕ) → IsFit file → IsClimbing file marks from at → mark_at marks at ≡ Way
    → false ≡ reaches file from
comes_back file marks from at fit climbing is =
    sym
    (same_reach file marks from at fit climbing
    ∙ never file.count file (λ q. mark_at marks q ≡ Way) climbing.low (λ q h shut held. elim (climbing.shut q h shut held) [
      | inl way ↦ way
      | inr same ↦ subst (λ n. mark_at marks n ≡ Way) (sym same) is
    ]) at is)

-- the way comes to a page without a holder
pub comes_alone : (file : File) (marks : List Mark) (from at : ℕ) → IsFit file → IsClimbing file marks from at → first_holder (owners file at) ≡ None
    → is_top file at ≡ reaches file from
comes_alone file marks from at fit climbing none = reaches_alone file at none ∙ sym (same_reach file marks from at fit climbing)

-- an open page goes onto the way
module _ (file : File) (marks : List Mark) (from at : ℕ) (climbing : IsClimbing file marks from at) (here : mark_at marks at ≡ Open) where
  in_range : at < length marks
  in_range = omega (arith, climbing.there, climbing.len)

  -- marks of other pages stand, and a mark that isn't `Open` was there before
  was : (q : ℕ) (m : Mark) → (Way ≡ m → ⊥) → mark_at (set marks at Way) q ≡ m → mark_at marks q ≡ m
  was q m other is =
      elim (after_set marks at q Way in_range) [
        | inl set' ↦ absurd (other (sym set'.1 ∙ is))
        | inr kept ↦ sym kept.1 ∙ is
      ]

  stays : (q : ℕ) (m : Mark) → (Open ≡ m → ⊥) → mark_at marks q ≡ m → mark_at (set marks at Way) q ≡ m
  stays q m other is =
      elim (after_set marks at q Way in_range) [
        | inl set' ↦ absurd (other (sym here ∙ (ap (mark_at marks) (sym set'.0) ∙ is)))
        | inr kept ↦ kept.1 ∙ is
      ]

  was_known : (q : ℕ) → IsKnown (mark_at (set marks at Way) q) → IsKnown (mark_at marks q)
  was_known q known =
      elim (after_set marks at q Way in_range) [
        | inl set' ↦ absurd (subst IsKnown set'.1 known)
        | inr kept ↦ subst IsKnown kept.1 known
      ]

  stays_known : (q : ℕ) → IsKnown (mark_at marks q) → IsKnown (mark_at (set marks at Way) q)
  stays_known q known =
      elim (after_set marks at q Way in_range) [
        | inl set' ↦ absurd (subst IsKnown (ap (mark_at marks) set'.0 ∙ here) known)
        | inr kept ↦ subst IsKnown (sym kept.1) known
      ]

  pub onto_way : HasWay from file (set marks at Way)
  onto_way = record {
    way = λ q is.
        elim (after_set marks at q Way in_range) [
          | inl set' ↦ subst (IsAbove file from) (sym set'.0) climbing.here
          | inr kept ↦ climbing.marked.way q (sym kept.1 ∙ is)
        ];
    found = λ q reached is. climbing.marked.found q reached (was q (Known reached) (λ e. cc) is);
    closed = λ q h known held.
        elim (climbing.marked.closed q h (was_known q known) held) [
          | inl more ↦ inl (stays_known h more)
          | inr no' ↦ absurd no'
        ];
  }

  pub moves_on : (h : ℕ) → IsFit file → IsHeldBy file at h → IsClimbing file (set marks at Way) from h
  moves_on h fit held = record {
    marked = onto_way;
    here = above_more file from at h climbing.here held;
    there = holder_there file at h held;
    len = rw length-set climbing.len;
    shut = λ q k is held'.
        elim (after_set marks at q Way in_range) [
          | inl set' ↦ inr (cc (held, held', set'.0))
          | inr kept ↦
              elim (climbing.shut q k (sym kept.1 ∙ is) held') [
                | inl way ↦ inl (stays k Way (λ e. cc) way)
                | inr same ↦ inl (subst (λ n. mark_at (set marks at Way) n ≡ Way) (sym same) (get_or-set_same marks at Way Open in_range))
              ]
        ];
    low = λ q is.
        elim (after_set marks at q Way in_range) [
          | inl set' ↦ subst (λ n. is_top file n ≡ false) (sym set'.0) (no_top file at h fit.references held)
          | inr kept ↦ climbing.low q (sym kept.1 ∙ is)
        ];
  }

-- how many pages are open
abbrev pub openness : Mark → ℕ
openness Open = 1
openness mark = 0

-- The way is marked.

pub record IsMarking (file : File) (marks : List Mark) (at : ℕ) (reached : Bool) : Type 0 where
  pub marked : AreMarks (IsAbove file at) (λ h. h ≡ at) file marks
  pub reach : reaches file at ≡ reached
  pub there : at ≤ file.last
  pub len : length marks ≡ file.last + 1

pub begins : (file : File) (marks : List Mark) (from : ℕ) (reached : Bool) → HasWay from file marks → reached ≡ reaches file from → from ≤ file.last
    → length marks ≡ file.last + 1 → IsMarking file marks from reached
begins file marks from reached way is there len = record {
  marked = record {
    way = way.way;
    found = way.found;
    closed = λ q h known held. elim (way.closed q h known held) [ inl more ↦ inl more | inr no' ↦ absurd no' ];
  };
  reach = sym is;
  there = there;
  len = len;
}

-- it's known of all pages above one of which it is
all_above : (k : ℕ) (file : File) (marks : List Mark) (p q : ℕ) → ((p h : ℕ) → IsKnown (mark_at marks p) → IsHeldBy file p h → IsKnown (mark_at marks h))
    → IsKnown (mark_at marks p) → IsUp file k p q → IsKnown (mark_at marks q)
all_above zero file marks p q closed known up = subst (λ n. IsKnown (mark_at marks n)) up known
all_above (suc k) file marks p q closed known up = all_above k file marks up.0 q closed (closed p up.0 known up.1) up.2

-- the way comes to a page that was marked before
pub ends_marked : (file : File) (marks : List Mark) (at : ℕ) (reached before : Bool) → IsMarking file marks at reached → mark_at marks at ≡ Known before
    → AreSettled file marks
ends_marked file marks at reached before marking is =
    let here : IsKnown (mark_at marks at) = subst IsKnown (sym is) tt in
    let closed : (q h : ℕ) → IsKnown (mark_at marks q) → IsHeldBy file q h → IsKnown (mark_at marks h) =
    λ q h known held. elim (marking.marked.closed q h known held) [ inl more ↦ more | inr same ↦ subst (λ n. IsKnown (mark_at marks n)) (sym same) here ] in
    record {
      way = λ q way.
          let above = marking.marked.way q way in
          absurd (subst IsKnown way (all_above above.0 file marks at q closed here above.1));
      found = marking.marked.found;
      closed = λ q h known held. inl (closed q h known held);
    }

module _ (file : File) (marks : List Mark) (at : ℕ) (reached : Bool) (marking : IsMarking file marks at reached) where
  inside : at < length marks
  inside = omega (arith, marking.there, marking.len)

  now_found : (q : ℕ) (told : Bool) → mark_at (set marks at (Known reached)) q ≡ Known told → reaches file q ≡ told
  now_found q told is =
      elim (after_set marks at q (Known reached) inside) [
        | inl set' ↦
            let e : Known reached ≡ Known told = sym set'.1 ∙ is in
            let same : reached ≡ told = cc in
            ap (reaches file) set'.0 ∙ (marking.reach ∙ same)
        | inr kept ↦ marking.marked.found q told (sym kept.1 ∙ is)
      ]

  -- a page that is still on the way is another page above
  still_above : (q : ℕ) → mark_at (set marks at (Known reached)) q ≡ Way → (at ≡ q → ⊥) × IsAbove file at q
  still_above q is =
      elim (after_set marks at q (Known reached) inside) [
        | inl set' ↦ absurd (let e : Known reached ≡ Way = sym set'.1 ∙ is in cc)
        | inr kept ↦ (λ same. kept.0 (sym same), marking.marked.way q (sym kept.1 ∙ is))
      ]

  -- it's known of this page
  known_here : (q : ℕ) → q ≡ at → IsKnown (mark_at (set marks at (Known reached)) q)
  known_here q same =
      subst (λ n. IsKnown (mark_at (set marks at (Known reached)) n)) (sym same)
      (subst IsKnown (sym (get_or-set_same marks at (Known reached) Open inside)) tt)

  -- it's known of the holder of a page of which it is, unless the page is this one
  now_closed : (q h : ℕ) → IsKnown (mark_at (set marks at (Known reached)) q) → IsHeldBy file q h → IsKnown (mark_at (set marks at (Known reached)) h)
      ⊎ (q ≡ at)
  now_closed q h known held =
      elim (after_set marks at q (Known reached) inside) [
        | inl set' ↦ inr set'.0
        | inr kept ↦
            elim (marking.marked.closed q h (subst IsKnown kept.1 known) held) [
              | inr same ↦ inl (known_here h same)
              | inl more ↦
                  elim (after_set marks at h (Known reached) inside) [
                    | inl set' ↦ inl (known_here h set'.0)
                    | inr other ↦ inl (subst IsKnown (sym other.1) more)
                  ]
            ]
      ]

  pub marks_on : (h : ℕ) → IsFit file → IsHeldBy file at h → IsMarking file (set marks at (Known reached)) h reached
  marks_on h fit held = record {
    marked = record {
      way = λ q is. let above = still_above q is in above_holder file at q h above.0 held above.1;
      found = now_found;
      closed = λ q k known held'. elim (now_closed q k known held') [ inl more ↦ inl more | inr same ↦ inr (cc (held, held', same)) ];
    };
    reach = sym (reaches_onward file at h fit held) ∙ marking.reach;
    there = holder_there file at h held;
    len = rw length-set marking.len;
  }

  -- the way ends at a page without a holder
  pub ends_alone : first_holder (owners file at) ≡ None → AreSettled file (set marks at (Known reached))
  ends_alone none = record {
    way = λ q is. let above = still_above q is in above_none file at q above.0 none above.1;
    found = now_found;
    closed = λ q h known held. elim (now_closed q h known held) [ inl more ↦ inl more | inr same ↦ absurd (cc (none, held, same)) ];
  }

-- how many pages there are of which it isn't known
abbrev pub unmarked : Mark → ℕ
unmarked Open = 1
unmarked Way = 1
unmarked (Known reached) = 0
