-- Lists of records, from their end.
use Rattle.std.proofs.Common.{◌≡◌, ℕ, ◌+◌, ◌^◌, ◌<◌, ◌≤◌, List, [], ◌∷◌, length, drop, arith, sym, ◌∙◌, ap, subst, drop-cons, add-one, All}
use Rattle.std.proofs.lemmas.List.{drop_all}
use Rattle.std.proofs.lemmas.List.Elements.{All-cons}
use Rattle.bdb_need.specs.of_format.declared.settings.Settings.{Settings}
use Rattle.bdb_need.specs.of_text_format.declared.pairs.Pair.{Pair}
use Rattle.bdb_need.specs.of_text_format.Terms.{AscendFrom, number_of}
use Rattle.bdb_need.specs.of_mkqueue.Lists.{HasLength, HasNext, IsQueueList}
use Rattle.bdb_need.proofs.of_mkqueue.StepLemmas.{no_pair, pair_at}
use Rattle.bdb_building_tests.specs.Queues.{MayStandFrom}

-- numbers that ascend from one on ascend from a lesser one on
pub ascend_lower : (low high : ℕ) (xs : List Pair) → low ≤ high → AscendFrom high xs → AscendFrom low xs
ascend_lower low high [] below is = tt
ascend_lower low high (x ∷ xs) below is = (omega (arith, below, is.0), is.1)

-- a list none of whose records is looked at yet
pub none_looked_at : (settings : Settings) (list : List Pair) (place least : ℕ) → place ≡ length list → least < 2 ^ 32
    → MayStandFrom settings list place least
none_looked_at settings list place least at fits =
    let none : drop place list ≡ [] = drop_all place list (omega (arith, at)) in
    record {
      there = omega (arith, at);
      small = fits;
      ascend = subst (AscendFrom least) (sym none) tt;
      few = subst (All HasNext) (sym none) (λ k d below. absurd (omega arith));
      long = subst (All (HasLength settings.re_len)) (sym none) (λ k d below. absurd (omega arith));
    }

-- one record more
pub one_looked_at : (settings : Settings) (list : List Pair) (place number beyond : ℕ) → place < length list
    → number ≡ number_of (pair_at list place).key → number < beyond → length (pair_at list place).value ≡ settings.re_len
    → MayStandFrom settings list (place + 1) beyond → MayStandFrom settings list place number
one_looked_at settings list place number beyond low number_is below long is =
    let pair : Pair = pair_at list place in
    let cut : drop place list ≡ pair ∷ drop (place + 1) list =
    drop-cons list place no_pair low ∙ ap (λ n. pair ∷ drop n list) (sym (add-one place)) in
    record {
      there = omega (arith, low);
      small = omega (arith, below, is.small);
      ascend = subst (AscendFrom number) (sym cut) (
        omega (arith, number_is),
        ascend_lower (number_of pair.key + 1) beyond (drop (place + 1) list) (omega (arith, number_is, below)) is.ascend,
      );
      few = subst (All HasNext) (sym cut) (All-cons HasNext pair (drop (place + 1) list) (omega (arith, number_is, below, is.small)) is.few);
      long = subst (All (HasLength settings.re_len)) (sym cut)
          (All-cons (HasLength settings.re_len) pair (drop (place + 1) list) long is.long);
    }

-- all of them
pub all_looked_at : (settings : Settings) (list : List Pair) (least : ℕ) → 1 ≤ least → MayStandFrom settings list 0 least → IsQueueList settings list
all_looked_at settings list least some is = record { ascend = ascend_lower 1 least list some is.ascend; few = is.few; long = is.long }
