-- What pairs are put into stays in order.
use Rattle.std.proofs.Common.{◌≡◌, Bool, true, false, cond, not, List, [], ◌∷◌, refl, ◌∙◌, ap, ◌&&◌, ◌||◌, All, fold}
use Rattle.std.specs.Cmp.{IsStrictWeakOrder}
use Rattle.std.proofs.lemmas.Bool.{or_parts}
use Rattle.std.proofs.lemmas.List.Elements.{All-cons, All-head, All-nil, All-tail}
use Rattle.bdb_mktree.specs.of_format.declared.settings.Settings.{Settings}
use Rattle.bdb_mktree.specs.of_text_format.declared.pairs.Pair.{Pair}
use Rattle.bdb_settle.specs.Loaded.{keeps_data, put, stands_before, with_loaded}
use Rattle.bdb_settle.proofs.KeyOrderLemmas.{pairs_weakly}
use Rattle.bdb_settle.proofs.PutLemmas.{below}

-- What holds of each pair.

put_all : (P : Pair → Type 0) (before : Pair → Pair → Bool) (keeps : Bool) (pair : Pair) (list : List Pair) → P pair → All P list
    → All P (put before keeps pair list)
put_all P before keeps pair [] one all = All-cons P pair [] one (All-nil P)
put_all P before keeps pair (other ∷ others) one all =
    by_tests (before pair other) (before other pair || keeps) (All-head P other others all) (All-tail P other others all)
    (put_all P before keeps pair others one (All-tail P other others all))
  where
    by_tests : (a b : Bool) → P other → All P others → All P (put before keeps pair others)
        → All P (cond a (pair ∷ other ∷ others) (cond b (other ∷ put before keeps pair others) (pair ∷ others)))
    by_tests true b first later more = All-cons P pair (other ∷ others) one (All-cons P other others first later)
    by_tests false true first later more = All-cons P other (put before keeps pair others) first more
    by_tests false false first later more = All-cons P pair others one later

pub fold_all : (P : Pair → Type 0) (settings : Settings) (pairs list : List Pair) → All P pairs → All P list
    → All P (fold (with_loaded settings) list pairs)
fold_all P settings [] list each all = all
fold_all P settings (pair ∷ pairs) list each all =
    fold_all P settings pairs (with_loaded settings list pair) (All-tail P pair pairs each)
    (put_all P (stands_before settings) (keeps_data settings) pair list (All-head P pair pairs each) all)

-- Order.

abbrev pub follows : (Pair → Pair → Bool) → Bool → Pair → Pair → Bool
follows before keeps a b = before a b || (not (before b a) && keeps)

abbrev pub OrderedFrom : (Pair → Pair → Bool) → Bool → Pair → List Pair → Type 0
OrderedFrom before keeps last [] = Unit {0}
OrderedFrom before keeps last (pair ∷ pairs) = (follows before keeps last pair ≡ true) × OrderedFrom before keeps pair pairs

abbrev pub Ordered : (Pair → Pair → Bool) → Bool → List Pair → Type 0
Ordered before keeps [] = Unit {0}
Ordered before keeps (pair ∷ pairs) = OrderedFrom before keeps pair pairs

module _ (before : Pair → Pair → Bool) (weak : IsStrictWeakOrder before) (keeps : Bool) where
  before_follows : (a b : Pair) → before a b ≡ true → follows before keeps a b ≡ true
  before_follows a b is = ap (λ t. t || (not (before b a) && keeps)) is

  after_follows : (a b : Pair) → before b a ≡ false → (before a b || keeps) ≡ true → follows before keeps a b ≡ true
  after_follows a b not_before some = ap (λ t. before a b || (not t && keeps)) not_before ∙ some

  follows_alone : (a b : Pair) → keeps ≡ false → follows before keeps a b ≡ true → before a b ≡ true
  follows_alone a b alone is = by_tests (before a b) (not (before b a)) keeps alone is
    where
      by_tests : (s t k : Bool) → k ≡ false → (s || (t && k)) ≡ true → s ≡ true
      by_tests true t k none so = refl
      by_tests false t true none so = absurd cc
      by_tests false true false none so = absurd cc
      by_tests false false false none so = absurd cc

  -- a pair in the place of one that it neither stands before nor behind
  instead : (old new : Pair) (rest : List Pair) → keeps ≡ false → before old new ≡ false → OrderedFrom before keeps old rest
      → OrderedFrom before keeps new rest
  instead old new [] alone tie ordered = tt
  instead old new (next ∷ rest) alone tie ordered =
      (before_follows new next (below before weak new old next tie (follows_alone old next alone ordered.0)), ordered.1)

  put_from : (last pair : Pair) (list : List Pair) → follows before keeps last pair ≡ true → OrderedFrom before keeps last list
      → OrderedFrom before keeps last (put before keeps pair list)
  put_from last pair [] after ordered = (after, tt)
  put_from last pair (other ∷ others) after ordered =
      by_tests (before pair other) (before other pair || keeps) refl refl (λ further. put_from other pair others further ordered.1)
    where
      by_tests : (a b : Bool) → before pair other ≡ a → (before other pair || keeps) ≡ b
          → (follows before keeps other pair ≡ true → OrderedFrom before keeps other (put before keeps pair others))
          → OrderedFrom before keeps last (cond a (pair ∷ other ∷ others) (cond b (other ∷ put before keeps pair others) (pair ∷ others)))
      by_tests true b first second more = (after, (before_follows pair other first, ordered.1))
      by_tests false true first second more = (ordered.0, more (after_follows other pair first second))
      by_tests false false first second more =
          (after, instead other pair others (or_parts (before other pair) keeps second).1 (or_parts (before other pair) keeps second).0 ordered.1)

  put_ordered : (pair : Pair) (list : List Pair) → Ordered before keeps list → Ordered before keeps (put before keeps pair list)
  put_ordered pair [] ordered = tt
  put_ordered pair (other ∷ others) ordered = by_tests (before pair other) (before other pair || keeps) refl refl
    where
      by_tests : (a b : Bool) → before pair other ≡ a → (before other pair || keeps) ≡ b
          → Ordered before keeps (cond a (pair ∷ other ∷ others) (cond b (other ∷ put before keeps pair others) (pair ∷ others)))
      by_tests true b first second = (before_follows pair other first, ordered)
      by_tests false true first second = put_from other pair others (after_follows other pair first second) ordered
      by_tests false false first second =
          instead other pair others (or_parts (before other pair) keeps second).1 (or_parts (before other pair) keeps second).0 ordered

pub fold_ordered : (settings : Settings) (pairs list : List Pair) → Ordered (stands_before settings) (keeps_data settings) list
    → Ordered (stands_before settings) (keeps_data settings) (fold (with_loaded settings) list pairs)
fold_ordered settings [] list ordered = ordered
fold_ordered settings (pair ∷ pairs) list ordered =
    fold_ordered settings pairs (with_loaded settings list pair)
    (put_ordered (stands_before settings) (pairs_weakly settings) (keeps_data settings) pair list ordered)
