-- Pages of chains that are passed over.
use Rattle.std.proofs.Common.{◌≡◌, ℕ, zero, suc, ◌<◌, ◌≤◌, List, [], ◌∷◌, length, set, arith, refl, sym, ◌∙◌, ap, subst, get_or-set_other}
use Rattle.std.specs.List.{range_with_len}
use Rattle.std.proofs.lemmas.Bool.{cases_eq, cases_lt}
use Rattle.std.proofs.lemmas.List.{get_or-set_same, get_or_past}
use Rattle.std.proofs.lemmas.List.FromFn.{get_or-range_with_len, length-range_with_len}
use Rattle.bdb_image.specs.of_format.Terms.{File, next_of, page_at, piece_in}
use Rattle.bdb_graph.specs.Blanks.{ArePassed, ComesAfter, IsAfter, IsBlank}

-- a page comes after itself
pub same_page : (file : File) (p : ℕ) → IsAfter file p p
same_page file p = record { blanks = 0; comes = refl }

one_more : (n : ℕ) (file : File) (p q : ℕ) → ComesAfter n file p q → IsBlank file q → ComesAfter (suc n) file p (next_of file q)
one_more zero file p q comes blank = (subst (IsBlank file) (sym comes) blank, ap (next_of file) comes)
one_more (suc n) file p q comes blank = (comes.0, one_more n file (next_of file p) q comes.1 blank)

no_bytes : (bytes : List ℕ) → length bytes ≡ 0 → bytes ≡ []
no_bytes [] none = refl
no_bytes (b ∷ bs) none = absurd (omega (arith, none))

-- the page after one without data
pub next_after : (file : File) (p q len next : ℕ) → IsAfter file p q → 1 ≤ q → q ≤ file.last → len ≡ length (piece_in (page_at file q)) → len ≡ 0
    → next ≡ next_of file q
    → IsAfter file p next
next_after file p q len next after low high is_len none is_next =
    record {
      blanks = suc after.blanks;
      comes = subst (ComesAfter (suc after.blanks) file p) (sym is_next)
          (one_more after.blanks file p q after.comes (record { low = low; high = high; none = no_bytes (piece_in (page_at file q)) (sym is_len ∙ none) }));
    }

-- where each page stands for itself, none is passed over
pub none_passed : (file : File) (n : ℕ) (nexts : List ℕ) → nexts ≡ range_with_len 0 n → ArePassed file nexts
none_passed file n nexts are = grind (arith, cases_lt, get_or-range_with_len, get_or_past, length-range_with_len)

-- one page more that stands for another
pub passed_more : (file : File) (nexts : List ℕ) (p q : ℕ) → ArePassed file nexts → IsAfter file p q → p < length nexts → ArePassed file (set nexts p q)
passed_more file nexts p q are after low = grind (arith, cases_eq, set, get_or-set_same, get_or-set_other)
