-- What becomes of a list that a pair is put into.
use Rattle.std.proofs.Common.{◌≡◌, Bool, true, false, cond, not, List, [], ◌∷◌, ◌++◌, refl, sym, ◌∙◌, ap, true≢false, ◌&&◌, ◌||◌, All}
use Rattle.std.specs.Cmp.{IsStrictWeakOrder}
use Rattle.std.proofs.lemmas.Bool.{or_parts, true_from_ne_false}
use Rattle.std.proofs.lemmas.List.Elements.{All-head, All-tail}
use Rattle.bdb_mktree.specs.of_text_format.declared.pairs.Pair.{Pair}
use Rattle.bdb_settle.specs.Loaded.{put}
use Rattle.bdb_settle.specs.Settling.{stays}

module _ (before : Pair → Pair → Bool) (weak : IsStrictWeakOrder before) where
  -- what stands before one that stands before a third, or beside it, stands before the third
  pub above : (a b c : Pair) → before a b ≡ true → before c b ≡ false → before a c ≡ true
  above a b c is not_above = true_from_ne_false (before a c) (λ no. true≢false (sym is ∙ weak.chain a c b no not_above))

  pub below : (a b c : Pair) → before b a ≡ false → before b c ≡ true → before a c ≡ true
  below a b c not_above is = true_from_ne_false (before a c) (λ no. true≢false (sym is ∙ weak.chain b a c not_above no))

  module _ (keeps : Bool) where
    -- a pair is put behind those that stay
    pub put_behind : (pair : Pair) (done rest : List Pair) → All (λ other. stays before keeps pair other ≡ true) done
        → put before keeps pair (done ++ rest) ≡ done ++ put before keeps pair rest
    put_behind pair [] rest stay = refl
    put_behind pair (other ∷ done) rest stay =
        one (before pair other) (before other pair || keeps) (All-head (λ other. stays before keeps pair other ≡ true) other done stay)
        (put_behind pair done rest (All-tail (λ other. stays before keeps pair other ≡ true) other done stay))
      where
        one : (first second : Bool) → (not first && second) ≡ true → put before keeps pair (done ++ rest) ≡ done ++ put before keeps pair rest
            → cond first (pair ∷ other ∷ (done ++ rest)) (cond second (other ∷ put before keeps pair (done ++ rest)) (pair ∷ (done ++ rest)))
            ≡ other ∷ (done ++ put before keeps pair rest)
        one true second is same = absurd cc
        one false false is same = absurd cc
        one false true is same = ap (λ others. other ∷ others) same

    put_before : (x other : Pair) (others : List Pair) → before x other ≡ true → put before keeps x (other ∷ others) ≡ x ∷ other ∷ others
    put_before x other others is = rw is refl

    put_after : (x other : Pair) (others : List Pair) → before x other ≡ false → (before other x || keeps) ≡ true
        → put before keeps x (other ∷ others) ≡ other ∷ put before keeps x others
    put_after x other others first second = rw (first, second) refl

    put_instead : (x other : Pair) (others : List Pair) → before x other ≡ false → (before other x || keeps) ≡ false
        → put before keeps x (other ∷ others) ≡ x ∷ others
    put_instead x other others first second = rw (first, second) refl

    module _ (x y : Pair) (is : before x y ≡ true) where
      behind : (rest : List Pair) → put before keeps y (x ∷ rest) ≡ x ∷ put before keeps y rest
      behind rest = put_after y x rest (weak.one_way x y is) (ap (λ b. b || keeps) is)

      both_more : (other : Pair) (others : List Pair) (yo xo oy ox : Bool) → before y other ≡ yo → before x other ≡ xo
          → (before other y || keeps) ≡ oy → (before other x || keeps) ≡ ox
          → put before keeps x (put before keeps y others) ≡ put before keeps y (put before keeps x others)
          → put before keeps x (put before keeps y (other ∷ others)) ≡ put before keeps y (put before keeps x (other ∷ others))
      both_more other others true xo oy ox is_yo is_xo is_oy is_ox same =
          let low : before x other ≡ true = above x y other is (weak.one_way y other is_yo) in
          ap (put before keeps x) (put_before y other others is_yo) ∙ put_before x y (other ∷ others) is
          ∙ sym (ap (put before keeps y) (put_before x other others low) ∙ behind (other ∷ others)
          ∙ ap (λ l. x ∷ l) (put_before y other others is_yo))
      both_more other others false true true ox is_yo is_xo is_oy is_ox same =
          ap (put before keeps x) (put_after y other others is_yo is_oy) ∙ put_before x other (put before keeps y others) is_xo
          ∙ sym (ap (put before keeps y) (put_before x other others is_xo) ∙ behind (other ∷ others)
          ∙ ap (λ l. x ∷ l) (put_after y other others is_yo is_oy))
      both_more other others false true false ox is_yo is_xo is_oy is_ox same =
          ap (put before keeps x) (put_instead y other others is_yo is_oy) ∙ put_before x y others is
          ∙ sym (ap (put before keeps y) (put_before x other others is_xo) ∙ behind (other ∷ others)
          ∙ ap (λ l. x ∷ l) (put_instead y other others is_yo is_oy))
      both_more other others false false true true is_yo is_xo is_oy is_ox same =
          ap (put before keeps x) (put_after y other others is_yo is_oy) ∙ put_after x other (put before keeps y others) is_xo is_ox
          ∙ ap (λ l. other ∷ l) same
          ∙ sym (ap (put before keeps y) (put_after x other others is_xo is_ox) ∙ put_after y other (put before keeps x others) is_yo is_oy)
      both_more other others false false true false is_yo is_xo is_oy is_ox same =
          ap (put before keeps x) (put_after y other others is_yo is_oy) ∙ put_instead x other (put before keeps y others) is_xo is_ox
          ∙ sym (ap (put before keeps y) (put_instead x other others is_xo is_ox) ∙ behind others)
      both_more other others false false false ox is_yo is_xo is_oy is_ox same =
          absurd (true≢false (sym (above x y other is (or_parts (before other y) keeps is_oy).0) ∙ is_xo))

      -- two pairs of which one stands before the other come into a list in either order
      pub put_both : (list : List Pair) → put before keeps x (put before keeps y list) ≡ put before keeps y (put before keeps x list)
      put_both [] = put_before x y [] is ∙ sym (behind [])
      put_both (other ∷ others) =
          both_more other others (before y other) (before x other) (before other y || keeps) (before other x || keeps) refl refl refl refl
          (put_both others)
