-- Blocks of pairs are loaded in any order to what they are loaded to in theirs.
use Rattle.std.proofs.Common.{◌≡◌, ℕ, Bool, true, false, cond, List, [], ◌∷◌, ◌++◌, map, append_assoc, refl, sym, ◌∙◌, ap, subst, inl, inr}
use Rattle.std.proofs.Common.{All, Contains, fold}
use Rattle.std.specs.Prelude.{◌&&◌, ◌||◌, not}
use Rattle.std.specs.List.{filter, flat_map, list_any}
use Rattle.std.proofs.lemmas.Grind.{flat_map-append}
use Rattle.std.proofs.lemmas.List.Elements.{Contains-append_cases, filter-append}
use Rattle.std.proofs.lemmas.List.Sums.{fold-append}
use Rattle.bdb_apart.specs.of_format.declared.settings.Settings.{Settings}
use Rattle.bdb_apart.specs.of_format.Terms.{ListKey, less}
use Rattle.bdb_law_homes.proofs.of_format.ListLemmas.{all_of, map_joined, only_member}
use Rattle.bdb_law_homes.proofs.of_format.MemberLemmas.{first_member, later_member, of_filter, of_flat_map, of_map}
use Rattle.bdb_law_kept.specs.of_text_format.declared.pairs.Pair.{Pair}
use Rattle.bdb_law_kept.specs.of_settle.Loaded.{keeps_data, key_less, put, sorts_data, stands_before, with_loaded}
use Rattle.bdb_law_kept.specs.of_settle.Settling.{stays}
use Rattle.bdb_law_kept.proofs.of_settle.KeyOrderLemmas.{pairs_weakly}
use Rattle.bdb_law_kept.proofs.of_settle.PutLemmas.{put_behind}
use Rattle.bdb_law_kept.specs.Later.{AllLater}
use Rattle.bdb_law_kept.proofs.KeyedLemmas.{later_across}
use Rattle.bdb_law_kept.proofs.LaterLemmas.{later_map, later_other}
use Rattle.bdb_law_kept.proofs.SettledLemmas.{ComesBefore, InOrder, Stays, comes_stays, key_out, pair_out}
use Rattle.bdb_law_apart.proofs.ApartLemmas.{later_last}
use Rattle.bdb_law_apart.proofs.RecordLemmas.{split}

-- Between two parts.

abbrev Stands : Settings → Pair → Pair → Type 0
Stands settings a b = stands_before settings a b ≡ true

stands_stays : (settings : Settings) (a b : Pair) → Stands settings a b → Stays settings a b
stands_stays settings a b is =
    ap (λ first. not first && (stands_before settings a b || keeps_data settings)) ((pairs_weakly settings).one_way a b is)
    ∙ ap (λ second. second || keeps_data settings) is

put_first : (settings : Settings) (pair : Pair) (above : List Pair) → ((other : Pair) → Contains above other → Stands settings pair other)
    → with_loaded settings above pair ≡ pair ∷ above
put_first settings pair [] all = refl
put_first settings pair (other ∷ above) all =
    ap
    (λ b. cond b (pair ∷ other ∷ above)
    (cond (stands_before settings other pair || keeps_data settings) (other ∷ put (stands_before settings) (keeps_data settings) pair above) (pair ∷ above)))
    (all other (first_member other above))

-- pairs in their order are put between those that they stay behind and those that they stand before
put_between : (settings : Settings) (below pairs above : List Pair) → ((a b : Pair) → Contains below a → Contains pairs b → Stays settings a b)
    → AllLater (Stays settings) pairs → ((a b : Pair) → Contains pairs a → Contains above b → Stands settings a b)
    → fold (with_loaded settings) (below ++ above) pairs ≡ below ++ (pairs ++ above)
put_between settings below [] above behind turn before = refl
put_between settings below (pair ∷ pairs) above behind turn before =
    let all : All (λ other. stays (stands_before settings) (keeps_data settings) pair other ≡ true) below =
    all_of (λ other. stays (stands_before settings) (keeps_data settings) pair other ≡ true) below (λ a at. behind a pair at (first_member pair pairs)) in
    let here : with_loaded settings (below ++ above) pair ≡ (below ++ pair ∷ []) ++ above =
    put_behind (stands_before settings) (pairs_weakly settings) (keeps_data settings) pair below above all
    ∙ (ap (λ list. below ++ list) (put_first settings pair above (λ b at. before pair b (first_member pair pairs) at))
    ∙ sym (append_assoc below (pair ∷ []) above)) in
    ap (λ list. fold (with_loaded settings) list pairs) here
    ∙ (put_between settings (below ++ pair ∷ []) pairs above
    (λ a b at_a at_b. elim (Contains-append_cases below (pair ∷ []) a at_a) [
      | inl low ↦ behind a b low (later_member pair pairs b at_b)
      | inr last ↦ subst (λ x. Stays settings x b) (only_member pair a last) (turn.0 b at_b)
    ]) turn.1 (λ a b at_a at_b. before a b (later_member pair pairs a at_a) at_b)
    ∙ append_assoc below (pair ∷ []) (pairs ++ above))

-- Blocks.

-- a key with its value
abbrev pub Entry : Type 0
Entry = ListKey × List ℕ

abbrev pub out : {X : Type 0} → (X → List Entry) → X → List Pair
out f x = map pair_out (f x)

-- the keys of a block are less than those of another
abbrev pub IsBelow : {X : Type 0} → (X → List Entry) → X → X → Type 0
IsBelow f a b = (x y : Entry) → Contains (f a) x → Contains (f b) y → key_less (key_out x.0) (key_out y.0) ≡ true

-- neither is the other
abbrev pub IsOther : {X : Type 0} → (X → X → Bool) → X → X → Type 0
IsOther same a b = (same a b ≡ false) × (same b a ≡ false)

abbrev kept : {X : Type 0} → (X → List Entry) → (X → Bool) → List X → List Pair
kept f test xs = flat_map (out f) (filter test xs)

filter_same : {X : Type 0} (one other : X → Bool) (xs : List X) → ((x : X) → Contains xs x → one x ≡ other x) → filter one xs ≡ filter other xs
filter_same one other [] same = refl
filter_same one other (x ∷ xs) same =
    ap (λ b. cond b (x ∷ filter one xs) (filter one xs)) (same x (first_member x xs))
    ∙ ap (λ rest. cond (other x) (x ∷ rest) rest) (filter_same one other xs (λ y at. same y (later_member x xs y at)))

less_stands : (settings : Settings) (x y : Entry) → key_less (key_out x.0) (key_out y.0) ≡ true → Stands settings (pair_out x) (pair_out y)
less_stands settings x y low =
    ap
    (λ b. b || (not (key_less (key_out y.0) (key_out x.0)) && (sorts_data settings && less x.1 y.1)))
    low

-- a pair of the blocks that are kept is one of a block
record IsOfBlock {X : Type 0} (f : X → List Entry) (xs : List X) (pair : Pair) : Type 0 where
  block : X
  among : Contains xs block
  entry : Entry
  inside : Contains (f block) entry
  is : pair_out entry ≡ pair

of_kept : {X : Type 0} (f : X → List Entry) (test : X → Bool) (xs : List X) (pair : Pair) → Contains (kept f test xs) pair → IsOfBlock f xs pair
of_kept f test xs pair at =
    let block = of_flat_map (out f) (filter test xs) pair at in
    let entry = of_map pair_out (f block.0) pair block.2 in
    record { block = block.0; among = (of_filter test xs block.0 block.1).0; entry = entry.0; inside = entry.1; is = entry.2 }

-- one block more
kept_more : {X : Type 0} (settings : Settings) (same : X → X → Bool) (f : X → List Entry) (test : X → Bool) (xs : List X) (b : X) → Contains xs b
    → AllLater (IsBelow f) xs → AllLater (IsOther same) xs → same b b ≡ true → InOrder settings (f b) → test b ≡ false
    → fold (with_loaded settings) (kept f test xs) (out f b) ≡ kept f (λ x. test x || same b x) xs
kept_more {X = X} settings same f test xs b at below others itself order fresh =
    let parts = split xs b at in
    let before = parts.0 in
    let after = parts.1 in
    let low = subst (AllLater (IsBelow f)) parts.2 below in
    let other = subst (AllLater (IsOther same)) parts.2 others in
    ap (λ ys. fold (with_loaded settings) (kept f test ys) (out f b)) parts.2
    ∙ (ap (λ list. fold (with_loaded settings) list (out f b))
    (ap (flat_map (out f)) (filter-append test before (b ∷ after))
    ∙ (flat_map-append (out f) (filter test before) (filter test (b ∷ after))
    ∙ ap (λ p. kept f test before ++ flat_map (out f) (cond p (b ∷ filter test after) (filter test after))) fresh))
    ∙ (put_between settings (kept f test before) (out f b) (kept f test after)
    (λ x y at_x at_y.
    let one = of_kept f test before x at_x in
    let two = of_map pair_out (f b) y at_y in
    subst (λ p. Stays settings p y) one.is
    (subst (λ q. Stays settings (pair_out one.entry) q) two.2
    (stands_stays settings (pair_out one.entry) (pair_out two.0)
    (less_stands settings one.entry two.0
    (later_across (IsBelow f) before (b ∷ after) one.block b low one.among (first_member b after) one.entry two.0 one.inside two.1)))))
    (later_map (Stays settings) pair_out (f b) (later_other (ComesBefore settings) (λ x y. Stays settings (pair_out x) (pair_out y)) (f b)
    (λ x y at_x at_y. comes_stays settings x y) order))
    (λ x y at_x at_y.
    let one = of_map pair_out (f b) x at_x in
    let two = of_kept f test after y at_y in
    subst (λ p. Stands settings p y) one.2
    (subst (λ q. Stands settings (pair_out one.0) q) two.is
    (less_stands settings one.0 two.entry ((later_last (IsBelow f) before (b ∷ after) low).0 two.block two.among one.0 two.entry one.1 two.inside))))
    ∙ sym (ap (λ ys. kept f now ys) parts.2
    ∙ (ap (flat_map (out f)) (filter-append now before (b ∷ after))
    ∙ (flat_map-append (out f) (filter now before) (filter now (b ∷ after))
    ∙ (ap (λ ys. flat_map (out f) ys ++ flat_map (out f) (filter now (b ∷ after)))
    (filter_same now test before (λ x inside. unless_same (test x) (same b x)
    (later_across (IsOther same) before (b ∷ after) x b other inside (first_member b after)).1))
    ∙ (ap (λ p. kept f test before ++ flat_map (out f) (cond p (b ∷ filter now after) (filter now after))) (either_true (test b) (same b b) itself)
    ∙ ap (λ ys. kept f test before ++ (out f b ++ flat_map (out f) ys))
    (filter_same now test after (λ x inside. unless_same (test x) (same b x)
    ((later_last (IsOther same) before (b ∷ after) other).0 x inside).0)))))))))
  where
    now : X → Bool
    now x = test x || same b x

    unless_same : (p q : Bool) → q ≡ false → (p || q) ≡ p
    unless_same true q is = refl
    unless_same false q is = is

    either_true : (p q : Bool) → q ≡ true → (p || q) ≡ true
    either_true true q is = refl
    either_true false q is = is

-- the blocks that were loaded
in_turn : {X : Type 0} (settings : Settings) (same : X → X → Bool) (f : X → List Entry) (test : X → Bool) (xs bs : List X)
    → ((b : X) → Contains bs b → Contains xs b) → ((b : X) → Contains bs b → test b ≡ false) → AllLater (λ a b. same a b ≡ false) bs
    → AllLater (IsBelow f) xs → AllLater (IsOther same) xs → ((x : X) → same x x ≡ true) → ((x : X) → Contains xs x → InOrder settings (f x))
    → fold (with_loaded settings) (kept f test xs) (flat_map (out f) bs) ≡ kept f (λ x. test x || list_any (λ b. same b x) bs) xs
in_turn settings same f test xs [] inside fresh apart below others itself order =
    ap (flat_map (out f)) (filter_same test (λ x. test x || false) xs (λ x at. nothing_more (test x)))
  where
    nothing_more : (b : Bool) → b ≡ (b || false)
    nothing_more true = refl
    nothing_more false = refl
in_turn settings same f test xs (b ∷ bs) inside fresh apart below others itself order =
    fold-append (with_loaded settings) (kept f test xs) (out f b) (flat_map (out f) bs)
    ∙ (ap (λ list. fold (with_loaded settings) list (flat_map (out f) bs))
    (kept_more settings same f test xs b (inside b (first_member b bs)) below others (itself b) (order b (inside b (first_member b bs)))
    (fresh b (first_member b bs)))
    ∙ (in_turn settings same f (λ x. test x || same b x) xs bs (λ c at. inside c (later_member b bs c at))
    (λ c at. neither (test c) (same b c) (fresh c (later_member b bs c at)) (apart.0 c at)) apart.1 below others itself order
    ∙ ap (flat_map (out f))
    (filter_same (λ x. (test x || same b x) || list_any (λ c. same c x) bs) (λ x. test x || (same b x || list_any (λ c. same c x) bs)) xs
    (λ x at. or_moved (test x) (same b x) (list_any (λ c. same c x) bs)))))
  where
    neither : (p q : Bool) → p ≡ false → q ≡ false → (p || q) ≡ false
    neither p q one other = rw (one, other) refl

    or_moved : (p q r : Bool) → ((p || q) || r) ≡ (p || (q || r))
    or_moved true q r = refl
    or_moved false q r = refl

pub drop_empty : {X Y : Type 0} (f : X → List Y) (test : X → Bool) (xs : List X) → ((x : X) → Contains xs x → test x ≡ false → f x ≡ [])
    → flat_map f (filter test xs) ≡ flat_map f xs
drop_empty f test [] none = refl
drop_empty f test (x ∷ xs) none = by_test (test x) refl (drop_empty f test xs (λ y at. none y (later_member x xs y at)))
  where
    by_test : (b : Bool) → test x ≡ b → flat_map f (filter test xs) ≡ flat_map f xs
        → flat_map f (cond b (x ∷ filter test xs) (filter test xs)) ≡ f x ++ flat_map f xs
    by_test true is rest = ap (λ list. f x ++ list) rest
    by_test false is rest = rest ∙ sym (ap (λ list. list ++ flat_map f xs) (none x (first_member x xs) is))

-- blocks that are loaded in any order stand in theirs
pub blocks_load : {X : Type 0} (settings : Settings) (same : X → X → Bool) (f : X → List Entry) (xs bs : List X)
    → ((b : X) → Contains bs b → Contains xs b) → ((x : X) → Contains xs x → list_any (λ b. same b x) bs ≡ false → f x ≡ [])
    → AllLater (λ a b. same a b ≡ false) bs → AllLater (IsBelow f) xs → AllLater (IsOther same) xs → ((x : X) → same x x ≡ true)
    → ((x : X) → Contains xs x → InOrder settings (f x))
    → fold (with_loaded settings) [] (map pair_out (flat_map f bs)) ≡ map pair_out (flat_map f xs)
blocks_load {X = X} settings same f xs bs inside all apart below others itself order =
    ap (fold (with_loaded settings) []) (map_joined pair_out f bs)
    ∙ (ap (λ list. fold (with_loaded settings) list (flat_map (out f) bs)) (sym (nothing xs))
    ∙ (in_turn settings same f (λ x. false) xs bs inside (λ b at. refl) apart below others itself order
    ∙ (drop_empty (out f) (λ x. list_any (λ b. same b x) bs) xs (λ x at none. ap (map pair_out) (all x at none)) ∙ sym (map_joined pair_out f xs))))
  where
    nothing : (ys : List X) → kept f (λ x. false) ys ≡ []
    nothing [] = refl
    nothing (y ∷ ys) = nothing ys
