-- Things that are put on pages from left to right.
use Rattle.std.proofs.Common.{◌≡◌, ℕ, suc, ◌+◌, ◌-◌, ◌<◌, ◌≤◌, List, [], ◌∷◌, ◌++◌, length, map, get_or, arith, refl, sym, ◌∙◌, ap, subst, inl, inr, length-append, flat_map, sum_by}
use Rattle.bdb_mkleaves.proofs.Common.{cases_lt, le-leb, lt-leb, append-nil, append_assoc, map-append, sum_by-cons, sum_by_push, InnerType, Node, no_node, child_cost, first_cost, nodes_cost}
use Rattle.bdb_mkleaves.proofs.Common.{spread_items, spread_nodes, spread_on, spread_units, TreeUnit, page_room, unit_cost}

-- Steps.

-- what fits is put on the open page
pub put_on_open : {A : Type 0} (room : ℕ) (first cost : A → ℕ) (left : ℕ) (page : List A) (x : A) (xs : List A) → cost x ≤ left
    → spread_on room first cost left page (x ∷ xs) ≡ spread_on room first cost (left - cost x) (page ++ (x ∷ [])) xs
put_on_open room first cost left page x xs fits = rw (le-leb (cost x) left fits) refl

-- what doesn't begins a page
pub put_on_new : {A : Type 0} (room : ℕ) (first cost : A → ℕ) (left : ℕ) (page : List A) (x : A) (xs : List A) → left < cost x
    → spread_on room first cost left page (x ∷ xs) ≡ page ∷ spread_on room first cost (room - first x) (x ∷ []) xs
put_on_new room first cost left page x xs full = rw (lt-leb (cost x) left full) refl

-- things that fit together are all put on the open page
all_on_open : {A : Type 0} (room : ℕ) (first cost : A → ℕ) (left : ℕ) (page xs rest : List A) → sum_by cost xs ≤ left
    → spread_on room first cost left page (xs ++ rest) ≡ spread_on room first cost (left - sum_by cost xs) (page ++ xs) rest
all_on_open {A} room first cost left page [] rest fits = grind (arith, append-nil)
all_on_open {A} room first cost left page (x ∷ xs) rest fits =
    let sum : sum_by cost (x ∷ xs) ≡ cost x + sum_by cost xs = sum_by-cons cost x xs in
    put_on_open room first cost left page x (xs ++ rest) (omega (arith, sum, fits))
    ∙ (all_on_open room first cost (left - cost x) (page ++ (x ∷ [])) xs rest (omega (arith, sum, fits))
    ∙ (ap (λ n. spread_on room first cost n ((page ++ (x ∷ [])) ++ xs) rest)
    (let e : left - cost x - sum_by cost xs ≡ left - sum_by cost (x ∷ xs) = omega (arith, sum) in e)
    ∙ ap (λ (p : List A). spread_on room first cost (left - sum_by cost (x ∷ xs)) p rest) (append_assoc page (x ∷ []) xs)))

-- Groups.

-- The rest of the first page fits what is left there, and the first of each next group doesn't fit what the page before it leaves.
abbrev pub AreGreedy : {A : Type 0} → ℕ → (A → ℕ) → (A → ℕ) → ℕ → List A → List (List A) → Type 0
AreGreedy room first cost left rest [] = sum_by cost rest ≤ left
AreGreedy room first cost left rest ([] ∷ groups) = ⊥
AreGreedy room first cost left rest ((x ∷ xs) ∷ groups) =
    (sum_by cost rest ≤ left) × (left < sum_by cost rest + cost x) × AreGreedy room first cost (room - first x) xs groups

-- such groups are those of things that are spread
pub greedy_is_spread : {A : Type 0} (room : ℕ) (first cost : A → ℕ) (left : ℕ) (page rest : List A) (groups : List (List A))
    → AreGreedy room first cost left rest groups
    → spread_on room first cost left page (rest ++ flat_map (λ group. group) groups) ≡ (page ++ rest) ∷ groups
greedy_is_spread room first cost left page rest [] greedy = all_on_open room first cost left page rest [] greedy
greedy_is_spread room first cost left page rest ([] ∷ groups) greedy = absurd greedy
greedy_is_spread {A} room first cost left page rest ((x ∷ xs) ∷ groups) (fits, full, next) =
    grind (arith, all_on_open, put_on_new, greedy_is_spread room first cost (room - first x) (x ∷ []) xs groups next)

-- things by what they take
pub spread_map : {A B : Type 0} (f : A → B) (room : ℕ) (first cost : B → ℕ) (left : ℕ) (page xs : List A)
    → spread_on room first cost left (map f page) (map f xs)
    ≡ map (map f) (spread_on room (λ x. first (f x)) (λ x. cost (f x)) left page xs)
spread_map f room first cost left page [] = refl
spread_map {A} {B} f room first cost left page (x ∷ xs) =
    let first_of : A → ℕ = λ y. first (f y) in
    let cost_of : A → ℕ = λ y. cost (f y) in
    elim (cases_lt left (cost (f x))) [
      | inl full ↦
          put_on_new room first cost left (map f page) (f x) (map f xs) full
          ∙ (ap (λ (pages : List (List B)). map f page ∷ pages) (spread_map f room first cost (room - first (f x)) (x ∷ []) xs)
          ∙ sym (ap (map (map f)) (put_on_new room first_of cost_of left page x xs full)))
      | inr fits ↦
          put_on_open room first cost left (map f page) (f x) (map f xs) fits
          ∙ (ap (λ (p : List B). spread_on room first cost (left - cost (f x)) p (map f xs)) (sym (map-append f page (x ∷ [])))
          ∙ (spread_map f room first cost (left - cost (f x)) (page ++ (x ∷ [])) xs
          ∙ sym (ap (map (map f)) (put_on_open room first_of cost_of left page x xs fits))))
    ]

-- Leaves.

-- Levels.

level_greedy : (inner : InnerType) (room : ℕ) (node : Node) (nodes : List Node) (groups : List (List Node))
    → ((k : ℕ) → k < length groups + 1 → 0 < length (get_or ((node ∷ nodes) ∷ groups) k []))
    → ((k : ℕ) → k < length groups + 1 → nodes_cost inner (get_or ((node ∷ nodes) ∷ groups) k []) ≤ room)
    → ((k : ℕ) → k < length groups → room < nodes_cost inner (get_or ((node ∷ nodes) ∷ groups) k [])
    + child_cost inner (get_or (get_or groups k []) 0 no_node))
    → AreGreedy room (λ other. first_cost inner) (child_cost inner) (room - first_cost inner) nodes groups
level_greedy inner room node nodes [] some fits full = let low = fits 0 (omega arith) in omega (arith, low)
level_greedy inner room node nodes ([] ∷ groups) some fits full = let none = some 1 (omega arith) in absurd (omega (arith, none))
level_greedy inner room node nodes ((next ∷ more) ∷ groups) some fits full =
    let low = fits 0 (omega arith) in
    let high = full 0 (omega arith) in (
      omega (arith, low),
      omega (arith, low, high),
      level_greedy inner room next more groups (λ k under. some (suc k) (omega (arith, under))) (λ k under. fits (suc k) (omega (arith, under)))
          (λ k under. full (suc k) (omega (arith, under))),
    )

-- groups of nodes, each with room on its page, and the first of each next one without room on the page before
pub nodes_are_spread : (inner : InnerType) (room : ℕ) (groups : List (List Node))
    → ((k : ℕ) → k < length groups → 0 < length (get_or groups k []))
    → ((k : ℕ) → k < length groups → nodes_cost inner (get_or groups k []) ≤ room)
    → ((k : ℕ) → k + 1 < length groups
    → room < nodes_cost inner (get_or groups k []) + child_cost inner (get_or (get_or groups (k + 1) []) 0 no_node))
    → spread_nodes inner room (flat_map (λ group. group) groups) ≡ groups
nodes_are_spread inner room [] some fits full = refl
nodes_are_spread inner room ([] ∷ groups) some fits full = let none = some 0 (omega arith) in absurd (omega (arith, none))
nodes_are_spread inner room ((node ∷ nodes) ∷ groups) some fits full =
    greedy_is_spread room (λ other. first_cost inner) (child_cost inner) (room - first_cost inner) (node ∷ []) nodes groups
    (level_greedy inner room node nodes groups (λ k under. some k (omega (arith, under))) (λ k under. fits k (omega (arith, under)))
    (λ k under.
    subst (λ j. room < nodes_cost inner (get_or ((node ∷ nodes) ∷ groups) k [])
    + child_cost inner (get_or (get_or ((node ∷ nodes) ∷ groups) j []) 0 no_node))
    (let e : k + 1 ≡ suc k = omega arith in e) (full k (omega (arith, under)))))

-- what their items take is spread so too
pub items_are_spread : (inner : InnerType) (room : ℕ) (nodes : List Node)
    → spread_items room (first_cost inner) (map (child_cost inner) nodes) ≡ map (map (child_cost inner)) (spread_nodes inner room nodes)
items_are_spread inner room [] = refl
items_are_spread inner room (node ∷ nodes) =
    spread_map (child_cost inner) room (λ cost. first_cost inner) (λ cost. cost) (room - first_cost inner) (node ∷ []) nodes

-- The last page.

-- Things that are spread end with a page. One more is put there where it fits what that leaves, and else on a page after it.
record EndsOn {A : Type 0} (room : ℕ) (cost : A → ℕ) (page xs : List A) : Type 0 where
  closed : List (List A)
  last : List A
  is : spread_on room cost cost (room - sum_by cost page) page xs ≡ closed ++ (last ∷ [])
  more : (x : A) → cost x ≤ room - sum_by cost last
      → spread_on room cost cost (room - sum_by cost page) page (xs ++ (x ∷ [])) ≡ closed ++ ((last ++ (x ∷ [])) ∷ [])
  next : (x : A) → room - sum_by cost last < cost x
      → spread_on room cost cost (room - sum_by cost page) page (xs ++ (x ∷ [])) ≡ closed ++ (last ∷ (x ∷ []) ∷ [])

ends_on : {A : Type 0} (room : ℕ) (cost : A → ℕ) (page xs : List A) → EndsOn room cost page xs
ends_on room cost page [] = record {
  closed = [];
  last = page;
  is = refl;
  more = λ x low. put_on_open room cost cost (room - sum_by cost page) page x [] low;
  next = λ x high. put_on_new room cost cost (room - sum_by cost page) page x [] high;
}
ends_on {A} room cost page (y ∷ ys) =
    let left : ℕ = room - sum_by cost page in
    elim (cases_lt left (cost y)) [
      | inl full ↦
          let on : EndsOn room cost (y ∷ []) ys = ends_on room cost (y ∷ []) ys in
          let step : (zs : List A)
          → spread_on room cost cost left page (y ∷ zs) ≡ page ∷ spread_on room cost cost (room - sum_by cost (y ∷ [])) (y ∷ []) zs =
          λ zs. put_on_new room cost cost left page y zs full
          ∙ ap (λ n. page ∷ spread_on room cost cost (room - n) (y ∷ []) zs) (sym (sum_by-cons cost y [] ∙ omega arith)) in
          record {
            closed = page ∷ on.closed;
            last = on.last;
            is = step ys ∙ ap (λ (pages : List (List A)). page ∷ pages) on.is;
            more = λ x low. step (ys ++ (x ∷ [])) ∙ ap (λ (pages : List (List A)). page ∷ pages) (on.more x low);
            next = λ x high. step (ys ++ (x ∷ [])) ∙ ap (λ (pages : List (List A)). page ∷ pages) (on.next x high);
          }
      | inr fits ↦
          let on : EndsOn room cost (page ++ (y ∷ [])) ys = ends_on room cost (page ++ (y ∷ [])) ys in
          let step : (zs : List A) → spread_on room cost cost left page (y ∷ zs)
          ≡ spread_on room cost cost (room - sum_by cost (page ++ (y ∷ []))) (page ++ (y ∷ [])) zs =
          λ zs. put_on_open room cost cost left page y zs fits
          ∙ ap (λ n. spread_on room cost cost n (page ++ (y ∷ [])) zs)
          (let e : left - cost y ≡ room - sum_by cost (page ++ (y ∷ [])) = omega (arith, sum_by_push cost page y) in e) in
          record {
            closed = on.closed;
            last = on.last;
            is = step ys ∙ on.is;
            more = λ x low. step (ys ++ (x ∷ [])) ∙ on.more x low;
            next = λ x high. step (ys ++ (x ∷ [])) ∙ on.next x high;
          }
    ]

same_ends : {A : Type 0} (xs ys : List A) (x y : A) → xs ++ (x ∷ []) ≡ ys ++ (y ∷ []) → (xs ≡ ys) × (x ≡ y)
same_ends [] [] x y is = (refl, cc)
same_ends [] (b ∷ ys) x y is = let e = ap length is in absurd (omega (arith, e, length-append ys (y ∷ [])))
same_ends (a ∷ xs) [] x y is = let e = ap length is in absurd (omega (arith, e, length-append xs (x ∷ [])))
same_ends {A} (a ∷ xs) (b ∷ ys) x y is =
    let head : a ≡ b = cc in
    let rest : xs ++ (x ∷ []) ≡ ys ++ (y ∷ []) = cc in
    let (before, last) = same_ends xs ys x y rest in
    (ap (λ (l : List A). a ∷ l) before ∙ ap (λ (first : A). first ∷ ys) head, last)

-- One unit more is put on the last leaf where it fits what that leaves, and else on a leaf after it.
pub record IsSpreadOn (size : ℕ) (units : List TreeUnit) (unit : TreeUnit) (closed : List (List TreeUnit)) (last : List TreeUnit) : Type 0 where
  pub more : unit_cost size unit ≤ page_room size - sum_by (unit_cost size) last
      → spread_units size (units ++ (unit ∷ [])) ≡ closed ++ ((last ++ (unit ∷ [])) ∷ [])
  pub next : page_room size - sum_by (unit_cost size) last < unit_cost size unit
      → spread_units size (units ++ (unit ∷ [])) ≡ closed ++ (last ∷ (unit ∷ []) ∷ [])

pub spread_more : (size : ℕ) (units : List TreeUnit) (unit : TreeUnit) (closed : List (List TreeUnit)) (last : List TreeUnit)
    → spread_units size units ≡ closed ++ (last ∷ []) → IsSpreadOn size units unit closed last
spread_more size units unit closed last is =
    let cost : TreeUnit → ℕ = unit_cost size in
    let room : ℕ = page_room size in
    let on : EndsOn room cost [] units = ends_on room cost [] units in
    let all : (us : List TreeUnit) → spread_units size us ≡ spread_on room cost cost (room - 0) [] us =
    λ us. ap (λ n. spread_on room cost cost n [] us) (let e : room ≡ room - 0 = omega arith in e) in
    let (before, end) = same_ends on.closed closed on.last last (sym on.is ∙ (sym (all units) ∙ is)) in
    record {
      more = λ low.
          all (units ++ (unit ∷ []))
          ∙ (on.more unit (subst (λ (l : List TreeUnit). cost unit ≤ room - sum_by cost l) (sym end) low)
          ∙ (ap (λ (c : List (List TreeUnit)). c ++ ((on.last ++ (unit ∷ [])) ∷ [])) before
          ∙ ap (λ (l : List TreeUnit). closed ++ ((l ++ (unit ∷ [])) ∷ [])) end));
      next = λ high.
          all (units ++ (unit ∷ []))
          ∙ (on.next unit (subst (λ (l : List TreeUnit). room - sum_by cost l < cost unit) (sym end) high)
          ∙ (ap (λ (c : List (List TreeUnit)). c ++ (on.last ∷ (unit ∷ []) ∷ [])) before
          ∙ ap (λ (l : List TreeUnit). closed ++ (l ∷ (unit ∷ []) ∷ [])) end));
    }
