-- Sections whose names are apart.
use Rattle.std.proofs.Common.{◌≡◌, ℕ, ◌+◌, Bool, true, false, cond, not, List, [], ◌∷◌, ◌++◌, map, Option, Some, None, refl, sym, ◌∙◌, ap, subst, arith}
use Rattle.std.proofs.Common.{true≢false, append_assoc, ◌&&◌, is_none, is_some, unwrap_or}
use Rattle.bdb_mkfile.proofs.Common.{bytes_eq, both_true, All, fold, list_any, sum_by, All-cons, All-head, All-nil, All-tail, list_any-append, sum_by-cons, and_parts, or_parts, ascends, ascends_from}
use Rattle.bdb_mkfile.proofs.Common.{is_name, less, eq_self, same_unless_less, Section, AreNamedBehind, in_name_order, name_of, put_named, AreApart, IsApart, named_before, with_named}
use Rattle.bdb_mkfile.proofs.NameLemmas.{swapped}

-- What holds of each section.

pub put_all : (P : Section → Type 0) (section : Section) (list : List Section) → P section → All P list → All P (put_named section list)
put_all P section [] one all = All-cons P section [] one (All-nil P)
put_all P section (other ∷ others) one all =
    grind (arith, named_before, All-tail, All, put_named, All-cons, All-head, put_all P section others one (All-tail P other others all))

pub order_all : (P : Section → Type 0) (sections : List Section) → All P sections → All P (in_name_order sections)
order_all P [] all = all
order_all P (section ∷ sections) all =
    put_all P section (in_name_order sections) (All-head P section sections all) (order_all P sections (All-tail P section sections all))

put_sum : (f : Section → ℕ) (section : Section) (list : List Section) → sum_by f (put_named section list) ≡ f section + sum_by f list
put_sum f section [] = sum_by-cons f section []
put_sum f section (other ∷ others) = by_test (named_before section other) (put_sum f section others)
  where
    by_test : (b : Bool) → sum_by f (put_named section others) ≡ f section + sum_by f others
        → sum_by f (cond b (section ∷ other ∷ others) (other ∷ put_named section others)) ≡ f section + sum_by f (other ∷ others)
    by_test true later = sum_by-cons f section (other ∷ others)
    by_test false later =
        let first = sum_by-cons f other (put_named section others) in
        let second = sum_by-cons f other others in omega (arith, first, second, later)

-- a sum over sections doesn't depend on their order
pub order_sum : (f : Section → ℕ) (sections : List Section) → sum_by f (in_name_order sections) ≡ sum_by f sections
order_sum f [] = refl
order_sum f (section ∷ sections) = grind (arith, put_sum, in_name_order, sum_by-cons, order_sum f sections)

-- the order looks at names alone
put_map : (f : Section → Section) → ((s : Section) → name_of (f s) ≡ name_of s) → (section : Section) (list : List Section)
    → put_named (f section) (map f list) ≡ map f (put_named section list)
put_map f keeps section [] = refl
put_map f keeps section (other ∷ others) = grind (arith, less, name_of, put_named, named_before, put_map f keeps section others)

pub order_map : (f : Section → Section) → ((s : Section) → name_of (f s) ≡ name_of s) → (sections : List Section)
    → in_name_order (map f sections) ≡ map f (in_name_order sections)
order_map f keeps [] = refl
order_map f keeps (section ∷ sections) = ap (put_named (f section)) (order_map f keeps sections) ∙ put_map f keeps section (in_name_order sections)

-- Names that are apart.

-- sections put one after the other onto a list are those put from the last on
abbrev onto : List Section → List Section → List Section
onto list [] = list
onto list (section ∷ sections) = put_named section (onto list sections)

put_in : (section : Section) (list sections : List Section) → All (IsApart section) sections
    → onto (put_named section list) sections ≡ put_named section (onto list sections)
put_in section list [] all = refl
put_in section list (other ∷ others) all =
    ap (put_named other) (put_in section list others (All-tail (IsApart section) other others all))
    ∙ sym (swapped section other (onto list others) (All-head (IsApart section) other others all))

folded : (list sections : List Section) → AreApart sections → fold with_named list sections ≡ onto list sections
folded list [] apart = refl
folded list (section ∷ sections) apart = folded (put_named section list) sections apart.1 ∙ put_in section list sections apart.0

onto_none : (sections : List Section) → onto [] sections ≡ in_name_order sections
onto_none [] = refl
onto_none (section ∷ sections) = ap (put_named section) (onto_none sections)

pub fold_is_order : (sections : List Section) → AreApart sections → fold with_named [] sections ≡ in_name_order sections
fold_is_order sections apart = folded [] sections apart ∙ onto_none sections

-- Names ascend.

after_apart : (a b : Section) → IsApart a b → named_before a b ≡ false → named_before b a ≡ true
after_apart a b apart not_before = grind (arith, named_before)

ascends_behind : (value : List ℕ) (section : Section) (list : List Section) → less value (name_of section) ≡ true
    → ascends_from value (map name_of list) ≡ true → All (IsApart section) list → ascends_from value (map name_of (put_named section list)) ≡ true
ascends_behind value section [] low up all = both_true low refl
ascends_behind value section (other ∷ others) low up all =
    let first : less value (name_of other) ≡ true = (and_parts (less value (name_of other)) (ascends_from (name_of other) (map name_of others)) up).0 in
    let rest : ascends_from (name_of other) (map name_of others) ≡ true =
    (and_parts (less value (name_of other)) (ascends_from (name_of other) (map name_of others)) up).1 in
    by_test (named_before section other) refl first rest
    (λ is. ascends_behind (name_of other) section others (after_apart section other (All-head (IsApart section) other others all) is) rest
    (All-tail (IsApart section) other others all))
  where
    by_test : (b : Bool) → named_before section other ≡ b → less value (name_of other) ≡ true
        → ascends_from (name_of other) (map name_of others) ≡ true
        → (named_before section other ≡ false → ascends_from (name_of other) (map name_of (put_named section others)) ≡ true)
        → ascends_from value (map name_of (cond b (section ∷ other ∷ others) (other ∷ put_named section others))) ≡ true
    by_test true is first rest later = both_true low (both_true is rest)
    by_test false is first rest later = both_true first (later is)

put_ascends : (section : Section) (list : List Section) → ascends (map name_of list) ≡ true → All (IsApart section) list
    → ascends (map name_of (put_named section list)) ≡ true
put_ascends section [] up all = refl
put_ascends section (other ∷ others) up all = by_test (named_before section other) refl
  where
    by_test : (b : Bool) → named_before section other ≡ b
        → ascends (map name_of (cond b (section ∷ other ∷ others) (other ∷ put_named section others))) ≡ true
    by_test true is = both_true is up
    by_test false is =
        ascends_behind (name_of other) section others (after_apart section other (All-head (IsApart section) other others all) is) up
        (All-tail (IsApart section) other others all)

pub order_ascends : (sections : List Section) → AreApart sections → ascends (map name_of (in_name_order sections)) ≡ true
order_ascends [] apart = refl
order_ascends (section ∷ sections) apart =
    put_ascends section (in_name_order sections) (order_ascends sections apart.1) (order_all (IsApart section) sections apart.0)

-- Sections of which each has a name of its own.

abbrev pub HasName : Section → Type 0
HasName section = is_some section.name ≡ true

some_name : (name : Option (List ℕ)) → is_none name ≡ false → is_some name ≡ true
some_name None is = absurd cc
some_name (Some name) is = refl

named_behind : (name : Option (List ℕ)) (names : List (Option (List ℕ))) (sections : List Section) → AreNamedBehind (name ∷ names) sections
    → All HasName sections
named_behind name names [] named = All-nil HasName
named_behind name names (section ∷ sections) named =
    grind (arith, All-cons, some_name, or_parts, is_none, list_any, named_behind name (names ++ (section.name ∷ [])) sections named.2)

-- where the first section has a name, each has
pub all_named : (section : Section) (sections : List Section) → HasName section → AreNamedBehind [] (section ∷ sections)
    → All HasName (section ∷ sections)
all_named section sections first named = All-cons HasName section sections first (named_behind section.name [] sections named.2)

-- where it has none, no other section follows
pub alone_unnamed : (section : Section) (sections : List Section) → is_some section.name ≡ false → AreNamedBehind [] (section ∷ sections)
    → sections ≡ []
alone_unnamed section [] unnamed named = refl
alone_unnamed section (other ∷ others) unnamed named = grind (arith, is_none, or_parts, list_any, some_name)

not_this : (names more : List (Option (List ℕ))) (name other : Option (List ℕ)) → list_any (is_name other) (names ++ name ∷ more) ≡ false
    → is_name other name ≡ false
not_this names more name other none = grind (arith, or_parts, is_name, list_any, list_any-append)

later_apart : (names more : List (Option (List ℕ))) (name : Option (List ℕ)) (sections : List Section)
    → AreNamedBehind (names ++ name ∷ more) sections → All (λ (section : Section). is_name section.name name ≡ false) sections
later_apart names more name [] named = All-nil (λ (section : Section). is_name section.name name ≡ false)
later_apart names more name (section ∷ sections) named =
    All-cons (λ (s : Section). is_name s.name name ≡ false) section sections (not_this names more name section.name named.1)
    (later_apart names (more ++ (section.name ∷ [])) name sections
    (subst (λ ns. AreNamedBehind ns sections) (append_assoc names (name ∷ more) (section.name ∷ [])) named.2))

bytes_apart : (a b : List ℕ) → bytes_eq b a ≡ false → (not (less a b) && not (less b a)) ≡ false
bytes_apart a b other = by_tests (less a b) (less b a) (same_unless_less a b)
  where
    by_tests : (x y : Bool) → (x ≡ false → y ≡ false → a ≡ b) → (not x && not y) ≡ false
    by_tests true y same = refl
    by_tests false true same = refl
    by_tests false false same =
        absurd (true≢false (sym (ap (λ k. bytes_eq b k) (same refl refl) ∙ eq_self b) ∙ other))

names_apart : (a b : Option (List ℕ)) → is_some a ≡ true → is_some b ≡ true → is_name b a ≡ false
    → (not (less (unwrap_or a []) (unwrap_or b [])) && not (less (unwrap_or b []) (unwrap_or a []))) ≡ false
names_apart None b has_a has_b other = absurd (cc has_a)
names_apart (Some a) None has_a has_b other = absurd (cc has_b)
names_apart (Some a) (Some b) has_a has_b other = bytes_apart a b other

all_apart : (section : Section) (sections : List Section) → HasName section → All HasName sections
    → All (λ (other : Section). is_name other.name section.name ≡ false) sections → All (IsApart section) sections
all_apart section [] has all others = All-nil (IsApart section)
all_apart section (other ∷ rest) has all others =
    All-cons (IsApart section) other rest
    (names_apart section.name other.name has (All-head HasName other rest all)
    (All-head (λ (o : Section). is_name o.name section.name ≡ false) other rest others))
    (all_apart section rest has (All-tail HasName other rest all) (All-tail (λ (o : Section). is_name o.name section.name ≡ false) other rest others))

pub named_apart : (names : List (Option (List ℕ))) (sections : List Section) → All HasName sections → AreNamedBehind names sections
    → AreApart sections
named_apart names [] all named = tt
named_apart names (section ∷ sections) all named =
    let later : All HasName sections = All-tail HasName section sections all in (
      all_apart section sections (All-head HasName section sections all) later (later_apart names [] section.name sections named.2),
      named_apart (names ++ (section.name ∷ [])) sections later named.2,
    )
