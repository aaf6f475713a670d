-- A page of zeros that is written from its front on.
use Rattle.std.proofs.Common.{◌≡◌, ℕ, ◌+◌, ◌-◌, ◌≤◌, Bool, List, [], ◌∷◌, ◌++◌, length, IsTrue, refl, sym, ap, ◌∙◌, arith, append_assoc, length-append, ◌==◌}
use Rattle.std.proofs.Common.{◌&&◌, slice_set}
use Rattle.std.proofs.Math.Seq.{drop-append-add}
use Rattle.std.proofs.lemmas.List.{take_at, set_at, drop-replicate, length-replicate, replicate-append-replicate}
use Rattle.bdb_layout.specs.of_format.declared.kinds.Order.{Order}
use Rattle.bdb_layout.specs.of_format.declared.kinds.Order.TheVariants.{Big, Little}
use Rattle.bdb_layout.specs.of_format.Terms.{is_zero, overwritten, spelled, zeros}
use Rattle.bdb_layout.proofs.of_format.SpellingLemmas.{length-spelled}

-- the page has `front` before `at`, and zeros from there on
pub record Filled (page : List ℕ) (size : ℕ) (front : List ℕ) (at : ℕ) : Type 0 where
  pub is : page ≡ front ++ zeros (size - at)
  pub long : length front ≡ at
  pub room : at ≤ size

zero_byte : (b : ℕ) (rest : Bool) → IsTrue ((b == 0) && rest) → (b ≡ 0) × IsTrue rest
zero_byte b rest h = grind arith

pub zero_page : (page : List ℕ) → IsTrue (is_zero page) → page ≡ zeros (length page)
zero_page [] h = refl
zero_page (b ∷ page) h =
    let both : (b ≡ 0) × IsTrue (is_zero page) = zero_byte b (is_zero page) h in
    rw both.0 (ap (λ rest. 0 ∷ rest) (zero_page page both.1))

pub zeros-spelled : (order : Order) → spelled 4 order 0 ≡ zeros 4
unfolding spelled
zeros-spelled Little = refl
zeros-spelled Big = refl

zeros-split : (size at k : ℕ) → at + k ≤ size → zeros (size - at) ≡ zeros k ++ zeros (size - (at + k))
zeros-split size at k room = grind (arith, replicate-append-replicate)

-- nothing is written yet
pub filled_none : (page : List ℕ) → IsTrue (is_zero page) → Filled page (length page) [] 0
filled_none page h = record { is = zero_page page h ∙ ap zeros (omega arith); long = refl; room = omega arith }

-- bytes are left 0
pub filled_zeros : {page front : List ℕ} {size at : ℕ} (k : ℕ) → Filled page size front at → at + k ≤ size → Filled page size (front ++ zeros k) (at + k)
filled_zeros {page} {front} {size} {at} k f room = grind (arith, zeros-split, append_assoc, length-append, length-replicate)

-- a piece is written next
pub filled_piece : {page new front : List ℕ} {size at : ℕ} (piece : List ℕ) (end : ℕ) → Filled page size front at → new ≡ overwritten page at piece
    → end ≡ at + length piece → end ≤ size → Filled new size (front ++ piece) end
filled_piece {page} {new} {front} {size} {at} piece end f wrote ends room = grind (arith, take_at, drop-append-add, drop-replicate, append_assoc, length-append)

-- a number is written next
pub filled_number : {page new front : List ℕ} {size at : ℕ} (order : Order) (x end : ℕ) → Filled page size front at
    → new ≡ overwritten page at (spelled 4 order x)
    → end ≡ at + 4 → end ≤ size → Filled new size (front ++ spelled 4 order x) end
filled_number order x end f wrote ends room = filled_piece (spelled 4 order x) end f wrote (omega (arith, ends, length-spelled 4 order x)) room

-- a byte is written next
pub filled_byte : {page new front : List ℕ} {size at : ℕ} (b : ℕ) → Filled page size front at → new ≡ slice_set page at b
    → at + 1 ≤ size → Filled new size (front ++ b ∷ []) (at + 1)
filled_byte {page} {new} {front} {size} {at} b f wrote room =
    let split : zeros (size - at) ≡ 0 ∷ zeros (size - (at + 1)) = zeros-split size at 1 room in
    record {
      is = wrote ∙ ap (λ xs. slice_set xs at b) (f.is ∙ ap (λ rest. front ++ rest) split) ∙ set_at front 0 (zeros (size - (at + 1))) b at f.long
          ∙ sym (append_assoc front (b ∷ []) (zeros (size - (at + 1))));
      long = omega (arith, f.long, length-append front (b ∷ []));
      room = room;
    }
