-- Metadata that is written over pages.
use Rattle.std.proofs.Common.{◌≡◌, ◌⊎◌, ℕ, ◌+◌, ◌-◌, ◌<◌, ◌≤◌, List, [], ◌∷◌, ◌++◌, length, reverse, take, get_or, arith, refl, sym, ◌∙◌, ap, subst, inl, inr, length-append}
use Rattle.bdb_mkfile.proofs.Common.{get_or-set_other, get_or-set_same, length-set, length-take-le, reverse-append, take_more, Order, Built, bytes_of, with_page, written_over, page_whole}
use Rattle.bdb_mkfile.proofs.Common.{written_whole, AreLegal, DatabaseMeta, AreAsMany, ArePut, AreWrittenFrom, IsPut, IsWrittenOn, ReadsBack, meta_bytes}

-- what is written through the lent page
pub record IsLentTo (old : Built) (number : ℕ) (page written : List ℕ) (order : Order) (last : ℕ) (meta : DatabaseMeta) : Type 0 where
  pub there : number < length old.pages
  pub pages : AreLegal old
  pub order_is : order ≡ old.order
  pub last_is : last ≡ length old.pages - 1
  pub lent : page ≡ bytes_of old number
  pub long : length written ≡ length page
  pub bytes : written ≡ meta_bytes order (length page) number last meta
  pub fields : ReadsBack order written meta

pub put_is : (old : Built) (number : ℕ) (page written : List ℕ) (order : Order) (last : ℕ) (meta : DatabaseMeta)
    → IsLentTo old number page written order last meta → IsPut old (written_over old number written) number meta
put_is old number page written order last meta is =
    subst (λ b. IsPut old b number meta) (sym (written_whole old number written is.pages.whole is.there (is.long ∙ size)))
    (record {
      pages = record {
        legal = is.pages.legal;
        some = omega (arith, is.pages.some, count);
        few = omega (arith, is.pages.few, count);
        whole = page_whole old number written is.pages.whole is.there (is.long ∙ size);
      };
      many = record { size = refl; order = refl; count = count };
      written = record {
        bytes = here ∙ (is.bytes ∙ same);
        fields = subst (λ bs. ReadsBack old.order bs meta) (sym here) (subst (λ o. ReadsBack o written meta) is.order_is is.fields);
      };
      same = λ p other. get_or-set_other old.pages number p written [] other;
    })
  where
    size : length page ≡ old.size
    size = ap length is.lent ∙ is.pages.whole number is.there

    count : length (with_page old number written).pages ≡ length old.pages
    count = length-set old.pages number written

    here : bytes_of (with_page old number written) number ≡ written
    here = get_or-set_same old.pages number written [] is.there

    same : meta_bytes order (length page) number last meta
        ≡ meta_bytes old.order old.size number (length (with_page old number written).pages - 1) meta
    same =
        ap (λ o. meta_bytes o (length page) number last meta) is.order_is
        ∙ (ap (λ s. meta_bytes old.order s number last meta) size
        ∙ (ap (λ n. meta_bytes old.order old.size number n meta) is.last_is
        ∙ ap (λ n. meta_bytes old.order old.size number (n - 1) meta) (sym count)))

-- a page that stays is metadata still
still_on : (old new : Built) (number : ℕ) (meta : DatabaseMeta) → AreAsMany old new → bytes_of new number ≡ bytes_of old number
    → IsWrittenOn old number meta → IsWrittenOn new number meta
still_on old new number meta many same is = record {
  bytes =
      same
      ∙ (is.bytes
      ∙ (ap (λ o. meta_bytes o old.size number (length old.pages - 1) meta) (sym many.order)
      ∙ (ap (λ s. meta_bytes new.order s number (length old.pages - 1) meta) (sym many.size)
      ∙ ap (λ n. meta_bytes new.order new.size number (n - 1) meta) (sym many.count))));
  fields =
      subst (λ o. ReadsBack o (bytes_of new number) meta) (sym many.order)
      (subst (λ bs. ReadsBack old.order bs meta) (sym same) is.fields);
}

-- so are pages that stay
pub still_written : (old new : Built) (number : ℕ) (metas : List DatabaseMeta) → AreAsMany old new
    → ((p : ℕ) → number ≤ p → bytes_of new p ≡ bytes_of old p) → AreWrittenFrom old number metas → AreWrittenFrom new number metas
still_written old new number [] many same are = tt
still_written old new number (meta ∷ metas) many same are = (
  still_on old new number meta many (same number (omega arith)) are.0,
  still_written old new (number + 1) metas many (λ p above. same p (omega arith)) are.1,
)

-- as many as before, twice
pub many_again : (old now new : Built) → AreAsMany old now → AreAsMany now new → AreAsMany old new
many_again old now new first second = record { size = second.size ∙ first.size; order = second.order ∙ first.order; count = second.count ∙ first.count }

-- nothing is written yet
pub put_none : (old : Built) (beyond : ℕ) → ArePut old old beyond []
put_none old beyond = record { many = record { size = refl; order = refl; count = refl }; written = tt; same = λ p where_so. refl }

-- metadata on one page more, below the others
pub put_more : (old now new : Built) (beyond number : ℕ) (metas : List DatabaseMeta) (meta : DatabaseMeta) → ArePut old now beyond metas
    → IsPut now new number meta → number + length metas + 1 ≡ beyond → ArePut old new beyond (metas ++ (meta ∷ []))
put_more old now new beyond number metas meta are is at =
    record {
      many = many_again old now new are.many is.many;
      written =
          subst (λ ms. AreWrittenFrom new (beyond - length (metas ++ (meta ∷ []))) ms) (sym turned)
          (subst (λ n. AreWrittenFrom new n (meta ∷ reverse metas)) here (is.written, rest));
      same = λ p outside. is.same p (apart p outside) ∙ are.same p (still p outside);
    }
  where
    long : length (metas ++ (meta ∷ [])) ≡ length metas + 1
    long = length-append metas (meta ∷ [])

    here : number ≡ beyond - length (metas ++ (meta ∷ []))
    here = omega (arith, long, at)

    turned : reverse (metas ++ (meta ∷ [])) ≡ meta ∷ reverse metas
    turned = reverse-append metas (meta ∷ [])

    rest : AreWrittenFrom new (number + 1) (reverse metas)
    rest =
        still_written now new (number + 1) (reverse metas) is.many (λ p above. is.same p (λ e. omega (arith, e, above)))
        (let e : beyond - length metas ≡ number + 1 = omega (arith, at) in subst (λ n. AreWrittenFrom now n (reverse metas)) e are.written)

    apart : (p : ℕ) → (p < beyond - length (metas ++ (meta ∷ []))) ⊎ (beyond ≤ p) → p ≡ number → ⊥
    apart p outside e = elim outside [ inl low ↦ omega (arith, low, e, here) | inr high ↦ omega (arith, high, e, at) ]

    still : (p : ℕ) → (p < beyond - length (metas ++ (meta ∷ []))) ⊎ (beyond ≤ p) → (p < beyond - length metas) ⊎ (beyond ≤ p)
    still p outside = elim outside [ inl low ↦ inl (omega (arith, low, long, at)) | inr high ↦ inr high ]

-- the same where the metadata is at a place of a list
pub put_next : (other : DatabaseMeta) (old now new : Built) (beyond number i : ℕ) (metas : List DatabaseMeta) → ArePut old now beyond (take i metas)
    → IsPut now new (number - 1) (get_or metas i other) → i < length metas → number + i ≡ beyond → 1 ≤ number
    → ArePut old new beyond (take (i + 1) metas)
put_next other old now new beyond number i metas are is within at some =
    subst (ArePut old new beyond) (sym (take_more metas i other within))
    (put_more old now new beyond (number - 1) (take i metas) (get_or metas i other) are is
    (omega (arith, length-take-le i metas, within, at, some)))
