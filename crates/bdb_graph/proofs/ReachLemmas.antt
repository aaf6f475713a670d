-- When a page reaches: following the holders of first references.
use Rattle.std.proofs.Common.{◌≡◌, ℕ, zero, suc, ◌≤◌, true, false, List, [], ◌∷◌, refl, sym, ◌∙◌, ap, subst, ◌+◌, ◌-◌, ◌<◌, ◌||◌, length, Option, Some, None}
use Rattle.std.proofs.Common.{inl, inr, arith, ◌==◌}
use Rattle.std.specs.List.{Contains, AllByRecursion, IsDistinct, list_any}
use Rattle.bdb_image.specs.of_format.Terms.{File, Owner, file_of, first_holder, if_some, owners, reaches, reaches_in, reference_faults}
use Rattle.bdb_graph.specs.Forest.{is_top, AllDistinct, IsWayUp, NotIn}
use Rattle.bdb_image.proofs.of_format.GraphLemmas.{is_owner}
use Rattle.bdb_image.proofs.of_format.MemberLemmas.{first_member}
use Rattle.bdb_image.proofs.of_format.FileLemmas.{count_is, last_page}
use Rattle.std.proofs.Math.Nat.{suc-add, zero-add}
use Rattle.std.proofs.lemmas.Bool.{cases_Bool, eqb-true, ne_eqb}
use Rattle.std.proofs.lemmas.Map.Steps.{length-le_from_distinct_below}
use Rattle.bdb_image.specs.of_format.declared.metadata.Head.{Head}
use Rattle.bdb_image.specs.Formed.{IsFormed}
use Rattle.bdb_graph.specs.Marks.{IsFit, IsHeldBy, IsUp}
use Rattle.bdb_image.proofs.FirstLemmas.{formed_last}
use Rattle.bdb_graph.proofs.ForestLemmas.{fewer, owned_inside, step, way_distinct, way_of, way_reaches}

pub at_end : (file : File) (turns p : ℕ) → is_top file p ≡ true → reaches_in turns file p ≡ true
unfolding reaches_in
at_end file zero p is = is
at_end file (suc turns) p is = ap (λ b. b || if_some (first_holder (owners file p)) (reaches_in turns file)) (at_end file turns p is)

-- another page that no reference names never reaches
pub stuck : (file : File) (turns p : ℕ) → is_top file p ≡ false → first_holder (owners file p) ≡ None → reaches_in turns file p ≡ false
unfolding reaches_in
stuck file zero p other none = other
stuck file (suc turns) p other none = grind (arith, stuck file turns p other none)

holder_of : (file : File) (p holder : ℕ) (os : List Owner) → owners file p ≡ os → first_holder os ≡ Some holder → holder ≤ file.last
holder_of file p holder [] same first = absurd cc
holder_of file p holder (owner ∷ os) same first =
    let is : owner.holder ≡ holder = cc in
    subst (λ h. h ≤ file.last) is (is_owner file p owner (subst (λ xs. Contains xs owner) (sym same) (first_member owner os))).inside

-- the holder of a reference is a page of the file
pub holder_there : (file : File) (p holder : ℕ) → first_holder (owners file p) ≡ Some holder → holder ≤ file.last
holder_there file p holder first = holder_of file p holder (owners file p) refl first

-- Files whose references fit.

pub fit_file : (image : List ℕ) (head : Head) → IsFormed image head → reference_faults (file_of image) ≡ [] → IsFit (file_of image)
fit_file image head formed none = grind (arith, formed_last, last_page, count_is)

-- Numbers up to another, none twice, are few.

abbrev pub AllUpTo : ℕ → List ℕ → Type 0
AllUpTo n [] = Unit {0}
AllUpTo n (x ∷ xs) = (x ≤ n) × AllUpTo n xs

apart : (x : ℕ) (xs : List ℕ) → NotIn x xs → AllByRecursion (λ y. (x == y) ≡ false) xs
apart x [] out = tt
apart x (y ∷ ys) out = (ne_eqb x y out.0, apart x ys out.1)

distinct : (xs : List ℕ) → AllDistinct xs → IsDistinct (λ x y. x == y) xs
unfolding IsDistinct
distinct [] all = tt
distinct (x ∷ xs) all = (apart x xs all.0, distinct xs all.1)

below : (n : ℕ) (xs : List ℕ) (q : ℕ) → AllUpTo n xs → list_any (λ x. q == x) xs ≡ true → q < n + 1
below n [] q all one = absurd cc
below n (x ∷ xs) q all one =
    elim (cases_Bool (q == x)) [
      | inl same ↦ omega (arith, all.0, eqb-true q x same)
      | inr other ↦ below n xs q all.1 (rw other at one)
    ]

pub few_distinct : (n : ℕ) (xs : List ℕ) → AllDistinct xs → AllUpTo n xs → length xs ≤ n + 1
few_distinct n xs all inside = length-le_from_distinct_below xs (n + 1) (distinct xs all) (λ q one. below n xs q inside one)

-- As many turns as there are pages are enough.

holders_inside : (file : File) (p : ℕ) (hs : List ℕ) → IsWayUp file p hs → AllUpTo file.last hs
holders_inside file p [] way = tt
holders_inside file p (h ∷ hs) way = (holder_there file p h way.0, holders_inside file h hs way.1)

more_turns : (k t : ℕ) (file : File) (p : ℕ) → reaches_in t file p ≡ true → reaches_in (k + t) file p ≡ true
unfolding reaches_in
more_turns zero t file p does = rw zero-add does
more_turns (suc k) t file p does = rw suc-add (let sooner = more_turns k t file p does in ap
    (λ b. b || if_some (first_holder (owners file p)) (reaches_in (k + t) file)) sooner)

enough : (file : File) (t p : ℕ) → IsFit file → p ≤ file.last → reaches_in t file p ≡ true → reaches file p ≡ true
enough file t p fit low does =
    let way = way_of t file p does in
    let few : length (p ∷ way.0) ≤ file.last + 1 =
    few_distinct file.last (p ∷ way.0) (way_distinct file p way.0 fit.references way.1) (low, holders_inside file p way.0 way.1) in
    let turns : (file.count - length way.0) + length way.0 ≡ file.count = omega (arith, few, fit.there) in
    subst (λ n. reaches_in n file p ≡ true) turns (more_turns (file.count - length way.0) (length way.0) file p (way_reaches file p way.0 fit.references way.1))

-- a page with a holder reaches where the holder does
pub reaches_onward : (file : File) (p h : ℕ) → IsFit file → IsHeldBy file p h → reaches file p ≡ reaches file h
reaches_onward file p h fit held = grind (arith, owned_inside, cases_Bool, enough, step, fewer)

-- a page without one reaches where it's an anchor or a reserve
pub reaches_alone : (file : File) (p : ℕ) → first_holder (owners file p) ≡ None → is_top file p ≡ reaches file p
reaches_alone file p none = grind (arith, cases_Bool, at_end, stuck)

pub reaches_above : (k : ℕ) (file : File) (p q : ℕ) → IsFit file → IsUp file k p q → reaches file p ≡ reaches file q
reaches_above zero file p q fit up = ap (reaches file) up
reaches_above (suc k) file p q fit up = reaches_onward file p up.0 fit up.1 ∙ reaches_above k file up.0 q fit up.2

-- where pages lead to one another alone, and none of them is an anchor or a reserve, none reaches
pub never : (t : ℕ) (file : File) (Shut : ℕ → Type 0) → ((q : ℕ) → Shut q → is_top file q ≡ false) → ((q h : ℕ) → Shut q → IsHeldBy file q h → Shut h) → (p : ℕ)
    → Shut p
    → reaches_in t file p ≡ false
unfolding reaches_in
never zero file Shut low on p shut = low p shut
never (suc t) file Shut low on p shut = rw (never t file Shut low on p shut)
    (of (first_holder (owners file p)) (λ h held. never t file Shut low on h (on p h shut held)))
  where
    of : (o : Option ℕ) → ((h : ℕ) → o ≡ Some h → reaches_in t file h ≡ false) → if_some o (reaches_in t file) ≡ false
    of None above = refl
    of (Some h) above = above h refl
