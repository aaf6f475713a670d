-- One pass over pairs in their order makes the list.
use Rattle.std.proofs.Common.{◌≡◌, ℕ, suc, ◌+◌, Bool, true, false, not, List, [], ◌∷◌, ◌++◌, length, get_or, map, refl, sym, ◌∙◌, ap, subst, arith, true≢false}
use Rattle.std.proofs.Common.{append_assoc, ◌-◌, reverse, ◌&&◌, ◌||◌, if◌then◌else◌, None, slice_get, All, fold}
use Rattle.std.specs.Cmp.{IsStrictWeakOrder}
use Rattle.std.specs.List.Sorted.{IsSortedBy}
use Rattle.std.proofs.lemmas.List.Elements.{All-head, All-tail, All-append, All-cons, All-nil}
use Rattle.std.proofs.lemmas.List.{reverse-reverse}
use Rattle.std.proofs.lemmas.Option.{slice_get-get_or}
use Rattle.bdb_mktree.specs.of_format.declared.settings.Settings.{Settings}
use Rattle.bdb_mktree.specs.of_text_format.declared.pairs.Pair.{Pair}
use Rattle.bdb_mktree.specs.of_text_format.declared.pairs.TextPair.{TextPair}
use Rattle.bdb_settle.specs.Loaded.{keeps_data, put, stands_before, unnumbered, with_loaded}
use Rattle.bdb_mktree.specs.of_places.declared.place.Place.{Place}
use Rattle.bdb_settle.specs.Settling.{Ascend, IsSettledTo, pair_on, place_before, stays}
use Rattle.bdb_settle.proofs.KeyOrderLemmas.{pairs_weakly}
use Rattle.bdb_settle.proofs.PutLemmas.{put_behind}

sorted_rest : {X : Type 0} (before : X → X → Bool) (x : X) (xs : List X) → IsSortedBy before (x ∷ xs) → IsSortedBy before xs
sorted_rest before x xs sorted k d low high =
    let e : suc k + 1 ≡ suc (k + 1) = omega arith in
    subst (λ n. before (get_or (x ∷ xs) n d) (get_or xs k d) ≡ false) e (sorted (suc k) d (omega arith) (omega arith))

-- places in the order of what stands there
pub ascend_from : {X : Type 0} (before : Pair → Pair → Bool) (pair_of : X → Pair) (last : X) (rest : List X)
    → IsSortedBy (λ a b. before (pair_of a) (pair_of b)) (last ∷ rest) → Ascend before (pair_of last) (map pair_of rest)
ascend_from before pair_of last [] sorted = tt
ascend_from before pair_of last (x ∷ rest) sorted = (
  sorted 0 x (omega arith) (omega arith),
  ascend_from before pair_of x rest (sorted_rest (λ a b. before (pair_of a) (pair_of b)) last (x ∷ rest) sorted),
)

-- what stays where a pair comes stays where a later one does
module _ (before : Pair → Pair → Bool) (weak : IsStrictWeakOrder before) (keeps : Bool) where
  still_stays : (last pair other : Pair) → before pair last ≡ false → stays before keeps last other ≡ true → stays before keeps pair other ≡ true
  still_stays last pair other up is = by_tests (before last other) (before other last) refl refl is
    where
      by_tests : (a b : Bool) → before last other ≡ a → before other last ≡ b → (not a && (b || keeps)) ≡ true → stays before keeps pair other ≡ true
      by_tests true b lo ol so = absurd cc
      by_tests false true lo ol so =
          let no : before pair other ≡ false = weak.chain pair last other up lo in
          let yes : before other pair ≡ true = before_later ol in
          rw (no, yes) refl
        where
          before_later : before other last ≡ true → before other pair ≡ true
          before_later it = later (before other pair) refl
            where
              later : (c : Bool) → before other pair ≡ c → before other pair ≡ true
              later true e = e
              later false e = absurd (true≢false (sym it ∙ weak.chain other pair last e up))
      by_tests false false lo ol so =
          let no : before pair other ≡ false = weak.chain pair last other up lo in
          rw (no, so) (either (before other pair))
        where
          either : (c : Bool) → (c || true) ≡ true
          either true = refl
          either false = refl

  all_stay : (last pair : Pair) (done : List Pair) → before pair last ≡ false → All (λ other. stays before keeps last other ≡ true) done
      → All (λ other. stays before keeps pair other ≡ true) done
  all_stay last pair [] up stay = All-nil (λ other. stays before keeps pair other ≡ true)
  all_stay last pair (other ∷ done) up stay =
      All-cons (λ other. stays before keeps pair other ≡ true) other done
      (still_stays last pair other up (All-head (λ other. stays before keeps last other ≡ true) other done stay))
      (all_stay last pair done up (All-tail (λ other. stays before keeps last other ≡ true) other done stay))

-- The pass.

pub begun : (settings : Settings) (bytes : List ℕ) (last : Place) (rest : List Place) → IsSortedBy (place_before settings bytes) (last ∷ rest)
    → IsSettledTo settings (map (pair_on bytes) (last ∷ rest)) [] (pair_on bytes last) (map (pair_on bytes) rest)
begun settings bytes last rest sorted = record {
  done = [];
  seen = refl;
  stay = All-nil (λ other. stays (stands_before settings) (keeps_data settings) (pair_on bytes last) other ≡ true);
  ascend = ascend_from (stands_before settings) (pair_on bytes) last rest sorted;
  whole = refl;
}

map_more : (xs : List Pair) (x : Pair) → map unnumbered xs ++ (unnumbered x ∷ []) ≡ map unnumbered (xs ++ (x ∷ []))
map_more [] x = refl
map_more (y ∷ ys) x = ap (λ zs. unnumbered y ∷ zs) (map_more ys x)

-- behind the last pair the next one is put where that stays, and else in its place
pub stepped : (settings : Settings) (all : List Pair) (list : List TextPair) (last pair : Pair) (rest : List Pair)
    → IsSettledTo settings all list last (pair ∷ rest) → (b : Bool) → (stands_before settings last pair || keeps_data settings) ≡ b
    → IsSettledTo settings all (if b then list ++ (unnumbered last ∷ []) else list) pair rest
stepped settings all list last pair rest so true is =
    let before = stands_before settings in
    let keeps = keeps_data settings in
    let still = all_stay before (pairs_weakly settings) keeps last pair so.done so.ascend.0 so.stay in
    let here : stays before keeps pair last ≡ true = rw (so.ascend.0, is) refl in
    let end : put before keeps pair (last ∷ []) ≡ last ∷ pair ∷ [] = rw (so.ascend.0, is) refl in
    record {
      done = so.done ++ (last ∷ []);
      seen = ap (λ l. l ++ (unnumbered last ∷ [])) so.seen ∙ map_more so.done last;
      stay = All-append (λ other. stays before keeps pair other ≡ true) so.done (last ∷ []) still
          (All-cons (λ other. stays before keeps pair other ≡ true) last [] here (All-nil (λ other. stays before keeps pair other ≡ true)));
      ascend = so.ascend.1;
      whole = so.whole ∙ ap (λ l. fold (with_loaded settings) l rest)
          (put_behind before (pairs_weakly settings) keeps pair so.done (last ∷ []) still ∙ ap (λ l. so.done ++ l) end
          ∙ sym (append_assoc so.done (last ∷ []) (pair ∷ [])));
    }
stepped settings all list last pair rest so false is =
    let before = stands_before settings in
    let keeps = keeps_data settings in
    let still = all_stay before (pairs_weakly settings) keeps last pair so.done so.ascend.0 so.stay in
    let end : put before keeps pair (last ∷ []) ≡ pair ∷ [] = rw (so.ascend.0, is) refl in
    record {
      done = so.done;
      seen = so.seen;
      stay = still;
      ascend = so.ascend.1;
      whole = so.whole ∙ ap (λ l. fold (with_loaded settings) l rest)
          (put_behind before (pairs_weakly settings) keeps pair so.done (last ∷ []) still ∙ ap (λ l. so.done ++ l) end);
    }

pub ended : (settings : Settings) (all : List Pair) (list : List TextPair) (last : Pair) → IsSettledTo settings all list last []
    → list ++ (unnumbered last ∷ []) ≡ map unnumbered (fold (with_loaded settings) [] all)
ended settings all list last so = ap (λ l. l ++ (unnumbered last ∷ [])) so.seen ∙ map_more so.done last ∙ ap (map unnumbered) (sym so.whole)

-- One step, in the words of the loop.

pub goes_on : (settings : Settings) (all : List Pair) (list list_then : List TextPair) (last last_then pair : Pair) (left rest : List Pair) (b : Bool)
    → IsSettledTo settings all list last left → left ≡ pair ∷ rest → (stands_before settings last pair || keeps_data settings) ≡ b
    → last_then ≡ pair → list_then ≡ (if b then list ++ (unnumbered last ∷ []) else list) → IsSettledTo settings all list_then last_then rest
goes_on settings all list list_then last last_then pair left rest b so is test last_is list_is = grind (arith, stepped)

-- What was taken off from the end stands the other way round.

pub none_left : {X : Type 0} (xs : List X) → slice_get xs (length xs - 1) ≡ None → xs ≡ []
none_left [] none = refl
none_left (x ∷ xs) none =
    let some = slice_get-get_or (x ∷ xs) (length (x ∷ xs) - 1) x (omega arith) in
    absurd (cc (some, none))

pub turned_back : {X : Type 0} (xs ys : List X) → xs ≡ reverse ys → ys ≡ reverse xs
turned_back xs ys is = sym (ap reverse is ∙ reverse-reverse ys)
