-- A pair that a later one of its key replaces makes no difference.
use Rattle.std.proofs.Common.{◌≡◌, ℕ, map, Bool, true, false, cond, not, List, [], ◌∷◌, ◌++◌, refl, sym, ◌∙◌, ap, subst, append_assoc, inl, inr, true≢false}
use Rattle.std.proofs.Common.{◌&&◌, ◌||◌}
use Rattle.std.specs.Cmp.{IsStrictWeakOrder}
use Rattle.std.specs.List.{All, Contains, fold}
use Rattle.std.proofs.lemmas.List.{map-append}
use Rattle.std.proofs.lemmas.List.Elements.{All-contains, All-head, All-tail, Contains-append_cases, Contains-append_left, Contains-append_right}
use Rattle.std.proofs.lemmas.List.Sums.{fold-append}
use Rattle.bdb_format.specs.declared.settings.Settings.{Settings}
use Rattle.bdb_format.specs.Terms.{less}
use Rattle.bdb_format.proofs.MemberLemmas.{in_map, later_member, member_cases, no_member}
use Rattle.bdb_mkfile.specs.of_text_format.declared.pairs.Key.{Key}
use Rattle.bdb_mkfile.specs.of_text_format.declared.pairs.Pair.{Pair}
use Rattle.bdb_mkfile.specs.of_text_format.declared.pairs.TextPair.{TextPair}
use Rattle.bdb_mkfile.specs.of_text_format.Terms.{holds_records}
use Rattle.bdb_mkfile.specs.of_settle.Loaded.{keeps_data, key_less, ordered, put, sorts_data, ordered_section, stands_before, unlined, unlined_pairs}
use Rattle.bdb_mkfile.specs.of_settle.Loaded.{unnumbered, with_loaded}
use Rattle.bdb_mkfile.proofs.of_settle.KeyOrderLemmas.{key_less_self, pairs_weakly}
use Rattle.bdb_mkfile.proofs.of_settle.PutLemmas.{put_both}
use Rattle.bdb_mkfile.specs.of_text_format.declared.sections.Section.{Section}
use Rattle.bdb_mkfile.specs.of_settle.LoadErrors.{pair_errors}
use Rattle.bdb_mkfile.specs.of_law_sections.Fit.{IsFitPair}
use Rattle.bdb_mkfile.proofs.of_settle.ErrorLemmas.{each_empty}
use Rattle.bdb_format.proofs.ListLemmas.{all_of}
use Rattle.bdb_law_kept.proofs.DumpLemmas.{none_of_pairs}
use Rattle.bdb_onto.specs.Bare.{with_before}
use Rattle.bdb_onto.specs.Lists.{IsCountable}
use Rattle.bdb_onto.specs.Replaced.{AreEnough, IsReplaced, replaces}

module _ (before : Pair → Pair → Bool) (weak : IsStrictWeakOrder before) where
  -- what stands on neither side of a pair stands as it does
  same_side : (p q x : Pair) → before p q ≡ false → before q p ≡ false → before q x ≡ before p x
  same_side p q x pq qp = by_test (before q x) (before p x) refl refl
    where
      by_test : (a b : Bool) → before q x ≡ a → before p x ≡ b → before q x ≡ before p x
      by_test true true qx px = qx ∙ sym px
      by_test false false qx px = qx ∙ sym px
      by_test true false qx px = absurd (true≢false (sym qx ∙ weak.chain q p x qp px))
      by_test false true qx px = absurd (true≢false (sym px ∙ weak.chain p q x pq qx))

  same_back : (p q x : Pair) → before p q ≡ false → before q p ≡ false → before x q ≡ before x p
  same_back p q x pq qp = by_test (before x q) (before x p) refl refl
    where
      by_test : (a b : Bool) → before x q ≡ a → before x p ≡ b → before x q ≡ before x p
      by_test true true xq xp = xq ∙ sym xp
      by_test false false xq xp = xq ∙ sym xp
      by_test true false xq xp = absurd (true≢false (sym xq ∙ weak.chain x p q xp pq))
      by_test false true xq xp = absurd (true≢false (sym xp ∙ weak.chain x q p xq qp))

  module _ (keeps : Bool) (none : keeps ≡ false) where
    put_by : (a b : Bool) (q x : Pair) (xs : List Pair) → before q x ≡ a → before x q ≡ b
        → put before keeps q (x ∷ xs) ≡ cond a (q ∷ x ∷ xs) (cond (b || false) (x ∷ put before keeps q xs) (q ∷ xs))
    put_by a b q x xs first second =
        ap (λ t. cond t (q ∷ x ∷ xs) (cond (before x q || keeps) (x ∷ put before keeps q xs) (q ∷ xs))) first
        ∙ ap (λ t. cond a (q ∷ x ∷ xs) (cond (t || keeps) (x ∷ put before keeps q xs) (q ∷ xs))) second
        ∙ ap (λ t. cond a (q ∷ x ∷ xs) (cond (b || t) (x ∷ put before keeps q xs) (q ∷ xs))) none

    -- a pair is replaced by one that stands on neither side of it
    put_over : (p q : Pair) (list : List Pair) → before p q ≡ false → before q p ≡ false
        → put before keeps q (put before keeps p list) ≡ put before keeps q list
    put_over p q [] pq qp = put_by false false q p [] qp pq
    put_over p q (x ∷ xs) pq qp = by_test (before p x) (before x p) refl refl (put_over p q xs pq qp)
      where
        by_test : (a b : Bool) → before p x ≡ a → before x p ≡ b
            → put before keeps q (put before keeps p xs) ≡ put before keeps q xs
            → put before keeps q (put before keeps p (x ∷ xs)) ≡ put before keeps q (x ∷ xs)
        by_test true b px xp later =
            ap (put before keeps q) (put_by true b p x xs px xp)
            ∙ put_by false false q p (x ∷ xs) qp pq
            ∙ sym (put_by true b q x xs (same_side p q x pq qp ∙ px) (same_back p q x pq qp ∙ xp))
        by_test false true px xp later =
            ap (put before keeps q) (put_by false true p x xs px xp)
            ∙ put_by false true q x (put before keeps p xs) (same_side p q x pq qp ∙ px) (same_back p q x pq qp ∙ xp)
            ∙ ap (λ l. x ∷ l) later
            ∙ sym (put_by false true q x xs (same_side p q x pq qp ∙ px) (same_back p q x pq qp ∙ xp))
        by_test false false px xp later =
            ap (put before keeps q) (put_by false false p x xs px xp)
            ∙ put_by false false q p xs qp pq
            ∙ sym (put_by false false q x xs (same_side p q x pq qp ∙ px) (same_back p q x pq qp ∙ xp))

    -- one that some later pair replaces makes no difference
    put_before_other : (p q : Pair) (list rest : List Pair) → before p q ≡ false → before q p ≡ false → Contains rest q
        → fold (λ l x. put before keeps x l) (put before keeps p list) rest ≡ fold (λ l x. put before keeps x l) list rest
    put_before_other p q list [] pq qp at = absurd (no_member [] q refl at)
    put_before_other p q list (r ∷ rest) pq qp at = by_test (before p r) (before r p) refl refl (λ l there. put_before_other p q l rest pq qp there)
      where
        later : (before p r ≡ false → before r p ≡ false → ⊥) → Contains rest q
        later apart =
            elim (member_cases r rest q at) [
              | inl same ↦ absurd (apart (subst (λ x. before p x ≡ false) (sym same) pq) (subst (λ x. before x p ≡ false) (sym same) qp))
              | inr there ↦ there
            ]

        by_test : (a b : Bool) → before p r ≡ a → before r p ≡ b
            → ((l : List Pair) → Contains rest q
            → fold (λ l x. put before keeps x l) (put before keeps p l) rest ≡ fold (λ l x. put before keeps x l) l rest)
            → fold (λ l x. put before keeps x l) (put before keeps r (put before keeps p list)) rest
            ≡ fold (λ l x. put before keeps x l) (put before keeps r list) rest
        by_test true b pr rp further =
            ap (λ l. fold (λ l x. put before keeps x l) l rest) (sym (put_both before weak keeps p r pr list))
            ∙ further (put before keeps r list) (later (λ is other. true≢false (sym pr ∙ is)))
        by_test false true pr rp further =
            ap (λ l. fold (λ l x. put before keeps x l) l rest) (put_both before weak keeps r p rp list)
            ∙ further (put before keeps r list) (later (λ is other. true≢false (sym rp ∙ other)))
        by_test false false pr rp further = ap (λ l. fold (λ l x. put before keeps x l) l rest) (put_over p r list pr rp)

-- Pairs of one key, where the last one stays.

-- data of a key are neither sorted nor kept
not_both : (d s r : Bool) → (r || (not s && not d)) ≡ true → ((s && not r) ≡ false) × ((d && not s && not r) ≡ false)
not_both true true true is = (refl, refl)
not_both true false true is = (refl, refl)
not_both false true true is = (refl, refl)
not_both false false true is = (refl, refl)
not_both true true false is = absurd (cc is)
not_both true false false is = absurd (cc is)
not_both false true false is = absurd (cc is)
not_both false false false is = (refl, refl)

module _ (settings : Settings) (text : List TextPair) where
  none_kept : replaces settings ≡ true → keeps_data settings ≡ false
  none_kept is = (not_both settings.duplicates settings.sorted (holds_records settings.kind) is).1

  tied : (a b : Pair) → a.key ≡ b.key → replaces settings ≡ true → stands_before settings a b ≡ false
  tied a b same is =
      let sorts : sorts_data settings ≡ false = (not_both settings.duplicates settings.sorted (holds_records settings.kind) is).0 in
      ap (λ k. key_less k b.key || (not (key_less b.key k) && (sorts_data settings && less a.value b.value))) same
      ∙ ap (λ t. t || (not (key_less b.key b.key) && (sorts_data settings && less a.value b.value))) (key_less_self b.key)
      ∙ ap (λ t. not (key_less b.key b.key) && (t && less a.value b.value)) sorts
      ∙ none_of (not (key_less b.key b.key))
    where
      none_of : (t : Bool) → (t && false) ≡ false
      none_of true = refl
      none_of false = refl

  pub all_enough : (full : List TextPair) → AreEnough settings text full full
  all_enough full = record { within = λ pair at. at; alike = λ list rest. refl }

  in_text : (rest : List TextPair) (pair : TextPair) → Contains text pair → Contains (unlined_pairs (rest ++ text)) (unlined pair)
  in_text [] pair at = in_map unlined text pair at
  in_text (x ∷ rest) pair at = later_member (unlined x) (unlined_pairs (rest ++ text)) (unlined pair) (in_text rest pair at)

  -- a pair whose key the text has may be left out
  pub one_left_out : (pair : TextPair) → IsReplaced settings text pair.key → AreEnough settings text (pair ∷ []) []
  one_left_out pair is = record {
    within = λ other at. absurd (no_member [] other refl at);
    alike = λ list rest.
        sym (put_before_other (stands_before settings) (pairs_weakly settings) (keeps_data settings) (none_kept is.replaces) (unlined pair)
        (unlined is.has.pair) list (unlined_pairs (rest ++ text)) (tied (unlined pair) (unlined is.has.pair) (sym is.has.same) is.replaces)
        (tied (unlined is.has.pair) (unlined pair) is.has.same is.replaces) (in_text rest is.has.pair is.has.among));
  }

  -- pairs behind others
  pub more_enough : (full kept more other : List TextPair) → AreEnough settings text full kept → AreEnough settings text more other
      → AreEnough settings text (full ++ more) (kept ++ other)
  more_enough full kept more other first second = record {
    within = λ pair at.
        elim (Contains-append_cases kept other pair at) [
          | inl here ↦ Contains-append_left full more pair (first.within pair here)
          | inr there ↦ Contains-append_right full more pair (second.within pair there)
        ];
    alike = λ list rest.
        ap (λ ps. fold (with_loaded settings) list (unlined_pairs ps)) (append_assoc kept other (rest ++ text))
        ∙ (ap (λ ps. fold (with_loaded settings) list (unlined_pairs (kept ++ ps))) (sym (append_assoc other rest text))
        ∙ (first.alike list (other ++ rest)
        ∙ (ap (λ ps. fold (with_loaded settings) list (unlined_pairs (full ++ ps))) (append_assoc other rest text)
        ∙ (parts full (other ++ (rest ++ text)) list
        ∙ (second.alike (fold (with_loaded settings) list (unlined_pairs full)) rest
        ∙ (sym (parts full (more ++ (rest ++ text)) list)
        ∙ ap (λ ps. fold (with_loaded settings) list (unlined_pairs ps)) (sym (append_assoc full more (rest ++ text)))))))));
  }
    where
      parts : (xs ys : List TextPair) (list : List Pair)
          → fold (with_loaded settings) list (unlined_pairs (xs ++ ys))
          ≡ fold (with_loaded settings) (fold (with_loaded settings) list (unlined_pairs xs)) (unlined_pairs ys)
      parts xs ys list =
          ap (fold (with_loaded settings) list) (map-append unlined xs ys)
          ∙ fold-append (with_loaded settings) list (unlined_pairs xs) (unlined_pairs ys)

  -- so the list is the same
  pub enough_ordered : (full kept : List TextPair) → AreEnough settings text full kept → ordered settings (kept ++ text) ≡ ordered settings (full ++ text)
  enough_ordered full kept enough = enough.alike [] []

  -- pairs of a key that the text has may all be left out
  pub all_left_out : (pairs : List TextPair) (key : Key) → IsReplaced settings text key → All (λ (pair : TextPair). pair.key ≡ key) pairs
      → AreEnough settings text pairs []
  all_left_out [] key is all = all_enough []
  all_left_out (pair ∷ pairs) key is all =
      more_enough (pair ∷ []) [] pairs [] (one_left_out pair
      (subst (IsReplaced settings text) (sym (All-head (λ (p : TextPair). p.key ≡ key) pair pairs all)) is))
      (all_left_out pairs key is (All-tail (λ (p : TextPair). p.key ≡ key) pair pairs all))

-- A section whose pages can be counted behind all pairs can be counted behind those that are left.

pub enough_countable : (size : ℕ) (section : Section) (full kept : List TextPair) → AreEnough section.settings section.pairs full kept
    → IsCountable size (with_before full section) → IsCountable size (with_before kept section)
enough_countable size section full kept enough countable =
    let settings : Settings = section.settings in
    let P : TextPair → Type 0 = IsFitPair (holds_records settings.kind) countable.most in
    let among : (pair : TextPair) → Contains (kept ++ section.pairs) pair → Contains (full ++ section.pairs) pair = λ pair at.
    elim (Contains-append_cases kept section.pairs pair at) [
      | inl here ↦ Contains-append_left full section.pairs pair (enough.within pair here)
      | inr there ↦ Contains-append_right full section.pairs pair there
    ] in
    let none : All (λ pair. pair_errors settings pair ≡ []) (full ++ section.pairs) =
    each_empty (pair_errors settings) (full ++ section.pairs) countable.pairs in
    record {
      most = countable.most;
      sized = countable.sized;
      fit = record {
        settings = countable.fit.settings;
        pairs = all_of P (kept ++ section.pairs) (λ pair at. All-contains P (full ++ section.pairs) pair countable.fit.pairs (among pair at));
      };
      wide = countable.wide;
      pairs =
          none_of_pairs settings (kept ++ section.pairs)
          (all_of (λ pair. pair_errors settings pair ≡ []) (kept ++ section.pairs)
          (λ pair at. All-contains (λ p. pair_errors settings p ≡ []) (full ++ section.pairs) pair none (among pair at)));
    }

-- and its list is the same
pub enough_section : (section : Section) (full kept : List TextPair) → AreEnough section.settings section.pairs full kept
    → ordered_section (with_before kept section) ≡ ordered_section (with_before full section)
enough_section section full kept enough =
    ap (λ (list : List Pair). record section { header_line = 0; pairs = map unnumbered list })
    (enough_ordered section.settings section.pairs full kept enough)
