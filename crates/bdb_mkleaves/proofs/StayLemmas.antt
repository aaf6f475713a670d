-- What a pushed unit leaves as it was: the number of the first leaf, and the pages that are no leaves.
use Rattle.std.proofs.Common.{Bool, ◌≡◌, ℕ, ◌+◌, ◌<◌, ◌≤◌, true, false, List, [], ◌∷◌, ◌++◌, length, arith, refl, sym, ◌∙◌, ap}
use Rattle.bdb_mkleaves.proofs.Common.{Contains-append_right, File, first_member, IsLater, ascend_bounds, is_of, Built, file_so_far, AreFilled, rest_of, HasRoomNow, KeepsOthers, first_of, first_leaf}
use Rattle.bdb_mkleaves.proofs.Common.{numbers_of, Placed, Leaves}
use Rattle.bdb_mkleaves.proofs.RestLemmas.{is_one, is_rest, leaves_low, rest_is, rest_opened}
use Rattle.bdb_mkleaves.proofs.RunLemmas.{later_before}

first_closed : (closed : List ℕ) (last next : ℕ) → first_of (closed ++ (last ∷ [])) next ≡ first_of closed last
first_closed [] last next = refl
first_closed (p ∷ ps) last next = refl

-- the first leaf stays the first
pub first_now : (b : Bool) (leaves next : Leaves) (old one : Built) → HasRoomNow b leaves next old one → first_leaf next ≡ first_leaf leaves
first_now true leaves next old one (same, kept) = ap first_leaf same
first_now false leaves next old one opened = ap (λ ps. first_of ps next.last) opened.numbers ∙ first_closed leaves.closed.items leaves.last next.last

-- a page that is no leaf doesn't become one
stays_rest : (b : Bool) (leaves next : Leaves) (old one new : Built) (before : ℕ) → before ≤ length old.pages
    → ((p : ℕ) → is_of (numbers_of leaves) p ≡ true → p < length old.pages) → HasRoomNow b leaves next old one → length one.pages ≤ length new.pages
    → (p : ℕ) → rest_of before leaves old p ≡ true → rest_of before next new p ≡ true
stays_rest true leaves next old one new before low under (same, kept) more p is = grind (arith, rest_is, is_rest)
stays_rest false leaves next old one new before low under opened more p is =
    let a : ℕ = length old.pages in
    let parts = rest_is before (a + 1) (numbers_of leaves ++ (a ∷ [])) p (rest_opened before a (numbers_of leaves) low under p ∙ is) in
    is_rest before (length new.pages) (numbers_of next) p parts.0 (omega (arith, parts.1, more, opened.count))
    (ap (λ ps. is_of (ps ++ (next.last ∷ [])) p) opened.numbers
    ∙ (ap (λ q. is_of (numbers_of leaves ++ (q ∷ [])) p) opened.last ∙ parts.2))

-- so what stood in later files stands in those of now
pub stays_now : (b : Bool) (leaves next : Leaves) (old one new : Built) (before : ℕ) (closed : List (List Placed)) (units : List Placed)
    → AreFilled leaves old before closed units → HasRoomNow b leaves next old one → length one.pages ≤ length new.pages
    → KeepsOthers leaves.last old new
    → (g : File) → IsLater (rest_of before next new) (file_so_far new) g → IsLater (rest_of before leaves old) (file_so_far old) g
stays_now b leaves next old one new before closed units filled made more kept g later =
    let low = leaves_low leaves old _ _ filled.hold in
    later_before old new (rest_of before leaves old) (rest_of before next new) g kept.order kept.grows
    (stays_rest b leaves next old one new before (ascend_bounds before (length old.pages) _ filled.ascend) (λ p is. (low p is).0) made more)
    (λ p is.
    let parts = rest_is before (length old.pages) (numbers_of leaves) p is in (
      parts.1,
      kept.same p parts.1 (λ same.
          let last = is_one (numbers_of leaves) leaves.last
          (Contains-append_right leaves.closed.items (leaves.last ∷ []) leaves.last (first_member leaves.last [])) in
          cc (sym parts.2 ∙ (ap (is_of (numbers_of leaves)) same ∙ last))),
    ))
    later
