-- The types of pages that take items.
use Rattle.std.proofs.Common.{arith, ◌≡◌, ℕ, true, false, List, [], ◌∷◌, sym, ap, inl, inr, refl, subst, ◌⊎◌, ◌==◌}
use Rattle.bdb_pack.proofs.Common.{list_any, cases_Bool, eqb-true, Order, body_code, is_tree_type, listed_code, page_type, is_hash_type, is_leaf_type, takes_items}
use Rattle.bdb_layout.specs.of_format.declared.pages.PageType.TheVariants.{Hash as HashPage}

-- the first of a list of types, or one of the others
step : (byte t : ℕ) (others : List ℕ) → list_any (λ x. x == byte) (t ∷ others) ≡ true → (byte ≡ t) ⊎ (list_any (λ x. x == byte) others ≡ true)
step byte t others is = grind (arith, cases_Bool, eqb-true)

pub cases_leaf : (byte : ℕ) → is_leaf_type byte ≡ true → (byte ≡ 5) ⊎ ((byte ≡ 6) ⊎ (byte ≡ 12))
cases_leaf byte is = grind (arith, step)

pub cases_hash : (byte : ℕ) → is_hash_type byte ≡ true → (byte ≡ 2) ⊎ (byte ≡ 13)
cases_hash byte is =
    elim (step byte 2 (13 ∷ []) is) [ inl two ↦ inl two | inr later ↦ elim (step byte 13 [] later) [ inl thirteen ↦ inr thirteen | inr none ↦ absurd cc ] ]

pub hash_page : (byte : ℕ) → is_hash_type byte ≡ true → page_type byte ≡ HashPage
hash_page byte is = elim (cases_hash byte is) [ inl two ↦ ap page_type two | inr thirteen ↦ ap page_type thirteen ]

-- what holds for each type of a list holds for a byte that is one of them
abbrev pub EachType : (ℕ → Type 0) → List ℕ → Type 0
EachType P [] = Unit {0}
EachType P (t ∷ ts) = P t × EachType P ts

pub by_type : (P : ℕ → Type 0) (types : List ℕ) (byte : ℕ) → list_any (λ t. t == byte) types ≡ true → EachType P types → P byte
by_type P [] byte is each = absurd cc
by_type P (t ∷ ts) byte is each = elim (step byte t ts is) [ inl same ↦ subst P (sym same) each.0 | inr later ↦ by_type P ts byte later each.1 ]

-- a type that takes items is one of a page with an index
pub record Takes (byte : ℕ) : Type 0 where
  pub some : (byte == 0) ≡ false
  pub tree : is_tree_type byte ≡ true
  pub listed : (order : Order) (page : List ℕ) → body_code order page (page_type byte) ≡ listed_code order page (page_type byte)

pub takes : (byte : ℕ) → takes_items byte ≡ true → Takes byte
takes byte is =
    by_type Takes (2 ∷ 3 ∷ 4 ∷ 5 ∷ 6 ∷ 12 ∷ 13 ∷ []) byte is (
      record { some = refl; tree = refl; listed = λ order page. refl },
      (
        record { some = refl; tree = refl; listed = λ order page. refl },
        (
          record { some = refl; tree = refl; listed = λ order page. refl },
          (
            record { some = refl; tree = refl; listed = λ order page. refl },
            (
              record { some = refl; tree = refl; listed = λ order page. refl },
              (record { some = refl; tree = refl; listed = λ order page. refl }, (record { some = refl; tree = refl; listed = λ order page. refl }, tt)),
            ),
          ),
        ),
      ),
    )
