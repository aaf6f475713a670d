-- Whether all pairs are short, one after the other.
use Rattle.std.proofs.Common.{◌≡◌, ℕ, ◌+◌, ◌≤◌, Bool, true, List, Some, slice_get, drop, length, ◌∙◌, ap, sym, ◌&&◌}
use Rattle.bdb_mkfile.proofs.Common.{list_all, drop_all, drop_more, TextPair, is_short_pair}
use Rattle.std.proofs.lemmas.Option.{get_or_from_slice_get, slice_get_within}

pub all_on : (pairs : List TextPair) (i : ℕ) (pair : TextPair) (short : Bool) → slice_get pairs i ≡ Some pair → short ≡ is_short_pair pair
    → list_all is_short_pair (drop i pairs) ≡ (short && list_all is_short_pair (drop (i + 1) pairs))
all_on pairs i pair short at is =
    ap (list_all is_short_pair) (drop_more pairs i pair (slice_get_within pairs i pair at))
    ∙ ap (λ (p : TextPair). is_short_pair p && list_all is_short_pair (drop (i + 1) pairs)) (get_or_from_slice_get pairs i pair pair at)
    ∙ ap (λ b. b && list_all is_short_pair (drop (i + 1) pairs)) (sym is)

pub all_past : (pairs : List TextPair) (i : ℕ) → length pairs ≤ i → list_all is_short_pair (drop i pairs) ≡ true
all_past pairs i past = ap (list_all is_short_pair) (drop_all i pairs past)
