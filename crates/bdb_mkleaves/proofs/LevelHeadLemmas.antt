-- Pages of which some, heads of chains, count two references.
use Rattle.std.proofs.Common.{◌≡◌, ◌⊎◌, ℕ, ◌<◌, ◌≤◌, List, [], ◌∷◌, ◌++◌, length, arith, refl, sym, ◌∙◌, ap, subst, inl, inr, length-set, Contains}
use Rattle.bdb_mkleaves.proofs.Common.{cases_eq, get_or-set_other, first_member, later_member, member_cases, no_member, AreWhole, Built, bytes_of, CountsFew, counting_two, raised, raising}
use Rattle.bdb_mkleaves.proofs.EntryLemmas.{bytes_with}
use Rattle.bdb_mkleaves.proofs.InnerLemmas.{IsRaised, few_raised, is_raised, raised_again}

raised_other : (b : Built) (h q : ℕ) → (q ≡ h → ⊥) → bytes_of (raised b h) q ≡ bytes_of b q
raised_other b h q other = get_or-set_other b.pages h q (counting_two b.order (bytes_of b h)) [] other

raised_here : (b : Built) (h q : ℕ) → q ≡ h → q < length b.pages → bytes_of (raised b h) q ≡ counting_two b.order (bytes_of b q)
raised_here b h q same low = grind (arith, bytes_with)

pub raising_count : (b : Built) (hs : List ℕ) → length (raising b hs).pages ≡ length b.pages
raising_count b [] = refl
raising_count b (h ∷ hs) = raising_count (raised b h) hs ∙ length-set b.pages h (counting_two b.order (bytes_of b h))

pub raising_order : (b : Built) (hs : List ℕ) → (raising b hs).order ≡ b.order
raising_order b [] = refl
raising_order b (h ∷ hs) = raising_order (raised b h) hs

pub raising_size : (b : Built) (hs : List ℕ) → (raising b hs).size ≡ b.size
raising_size b [] = refl
raising_size b (h ∷ hs) = raising_size (raised b h) hs

pub raising_append : (b : Built) (xs ys : List ℕ) → raising b (xs ++ ys) ≡ raising (raising b xs) ys
raising_append b [] ys = refl
raising_append b (x ∷ xs) ys = raising_append (raised b x) xs ys

-- a page that is no head stays
pub raising_other : (b : Built) (hs : List ℕ) (q : ℕ) → (Contains hs q → ⊥) → bytes_of (raising b hs) q ≡ bytes_of b q
raising_other b [] q out = refl
raising_other b (h ∷ hs) q out = grind (arith, later_member, raised_other, first_member, raising_other (raised b h) hs q (λ at. out (later_member h hs q at)))

-- a page is as before, or counts two
pub raising_at : (b : Built) (hs : List ℕ) (q : ℕ) → q < length b.pages → 26 ≤ length (bytes_of b q)
    → (bytes_of (raising b hs) q ≡ bytes_of b q) ⊎ IsRaised b.order (bytes_of b q) (bytes_of (raising b hs) q)
raising_at b [] q low long = inl refl
raising_at b (h ∷ hs) q low long =
    let more : length (raised b h).pages ≡ length b.pages = length-set b.pages h (counting_two b.order (bytes_of b h)) in
    elim (cases_eq q h) [
      | inl same ↦
          let one : IsRaised b.order (bytes_of b q) (bytes_of (raised b h) q) =
          subst (IsRaised b.order (bytes_of b q)) (sym (raised_here b h q same low)) (is_raised b.order (bytes_of b q) long) in
          let next : 26 ≤ length (bytes_of (raised b h) q) = omega (arith, long, one.long) in
          elim (raising_at (raised b h) hs q (omega (arith, low, more)) next) [
            | inl e ↦ inr (subst (IsRaised b.order (bytes_of b q)) (sym e) one)
            | inr two ↦ inr (raised_again b.order (bytes_of b q) (bytes_of (raised b h) q) (bytes_of (raising (raised b h) hs) q) one two)
          ]
      | inr other ↦
          let stays = raised_other b h q other in
          let next : 26 ≤ length (bytes_of (raised b h) q) = subst (λ bs. 26 ≤ length bs) (sym stays) long in
          elim (raising_at (raised b h) hs q (omega (arith, low, more)) next) [
            | inl e ↦ inl (e ∙ stays)
            | inr two ↦ inr (subst (λ bs. IsRaised b.order bs (bytes_of (raising (raised b h) hs) q)) stays two)
          ]
    ]

-- a head counts two
pub raising_head : (b : Built) (hs : List ℕ) (q : ℕ) → Contains hs q → q < length b.pages → 26 ≤ length (bytes_of b q)
    → IsRaised b.order (bytes_of b q) (bytes_of (raising b hs) q)
raising_head b [] q at low long = absurd (no_member [] q refl at)
raising_head b (h ∷ hs) q at low long =
    let more : length (raised b h).pages ≡ length b.pages = length-set b.pages h (counting_two b.order (bytes_of b h)) in
    elim (cases_eq q h) [
      | inl same ↦
          let one : IsRaised b.order (bytes_of b q) (bytes_of (raised b h) q) =
          subst (IsRaised b.order (bytes_of b q)) (sym (raised_here b h q same low)) (is_raised b.order (bytes_of b q) long) in
          let next : 26 ≤ length (bytes_of (raised b h) q) = omega (arith, long, one.long) in
          elim (raising_at (raised b h) hs q (omega (arith, low, more)) next) [
            | inl e ↦ subst (IsRaised b.order (bytes_of b q)) (sym e) one
            | inr two ↦ raised_again b.order (bytes_of b q) (bytes_of (raised b h) q) (bytes_of (raising (raised b h) hs) q) one two
          ]
      | inr other ↦
          let stays = raised_other b h q other in
          let next : 26 ≤ length (bytes_of (raised b h) q) = subst (λ bs. 26 ≤ length bs) (sym stays) long in
          let later : Contains hs q = elim (member_cases h hs q at) [ inl here ↦ absurd (other (sym here)) | inr there ↦ there ] in
          subst (λ bs. IsRaised b.order bs (bytes_of (raising (raised b h) hs) q)) stays
          (raising_head (raised b h) hs q later (omega (arith, low, more)) next)
    ]

-- a page that counts few references goes on to
pub raising_few : (b : Built) (hs : List ℕ) (q : ℕ) → q < length b.pages → CountsFew b.order (bytes_of b q)
    → CountsFew b.order (bytes_of (raising b hs) q)
raising_few b hs q low few = grind (arith, raising_at, few_raised)

-- pages keep their size
pub raising_whole : (b : Built) (hs : List ℕ) → 26 ≤ b.size → AreWhole b → AreWhole (raising b hs)
raising_whole b hs least whole = grind (arith, raising_count, raising_at, raising_size)

-- like pages become like
pub raising_like : (a b : Built) (hs : List ℕ) (q : ℕ) → a.order ≡ b.order → q < length a.pages → q < length b.pages → bytes_of a q ≡ bytes_of b q
    → bytes_of (raising a hs) q ≡ bytes_of (raising b hs) q
raising_like a b [] q order low under same = same
raising_like a b (h ∷ hs) q order low under same =
    let more_a : length (raised a h).pages ≡ length a.pages = length-set a.pages h (counting_two a.order (bytes_of a h)) in
    let more_b : length (raised b h).pages ≡ length b.pages = length-set b.pages h (counting_two b.order (bytes_of b h)) in
    let next : bytes_of (raised a h) q ≡ bytes_of (raised b h) q =
    elim (cases_eq q h) [
      | inl here ↦
          raised_here a h q here low
          ∙ (ap (λ o. counting_two o (bytes_of a q)) order ∙ (ap (counting_two b.order) same ∙ sym (raised_here b h q here under)))
      | inr other ↦ raised_other a h q other ∙ (same ∙ sym (raised_other b h q other))
    ] in
    raising_like (raised a h) (raised b h) hs q order (omega (arith, low, more_a)) (omega (arith, under, more_b)) next
