-- The pairs of the master, in the order of the sections or of their names.
use Rattle.std.proofs.Common.{arith, ◌≡◌, ℕ, Bool, true, false, cond, not, List, [], ◌∷◌, map, get_or, refl, sym, ◌∙◌, ap, ◌&&◌, ◌||◌, All, fold}
use Rattle.bdb_mkfile.proofs.Common.{All-head, All-nil, All-tail, ascends, less, Section, loaded_pair, with_loaded, tree_pages, master_pages, master_settings, name_in, name_pair, name_entry}
use Rattle.bdb_mkfile.proofs.Common.{names_pages, in_name_order, put_named, AreApart, IsApart, named_before, with_named}
use Rattle.bdb_mkfile.proofs.ApartLemmas.{fold_is_order, order_ascends, put_all}

-- the names of sections in their order ascend
pub names_ascend : (sections : List Section) → AreApart sections
    → ascends (map (λ (section : Section). name_in section.name) (in_name_order sections)) ≡ true
names_ascend sections apart = order_ascends sections apart

other_way : (a b : Section) → IsApart a b → less (name_in a.name) (name_in b.name) ≡ false → less (name_in b.name) (name_in a.name) ≡ true
other_way a b apart is = grind (arith, named_before)

put_entry : (size : ℕ) (section : Section) (list : List Section) → All (IsApart section) list
    → with_loaded (master_settings size) (map name_entry list) (name_entry section) ≡ map name_entry (put_named section list)
put_entry size section [] all = refl
put_entry size section (other ∷ others) all =
    by_tests (less (name_in section.name) (name_in other.name)) (less (name_in other.name) (name_in section.name))
    (other_way section other (All-head (IsApart section) other others all))
    (put_entry size section others (All-tail (IsApart section) other others all))
  where
    by_tests : (x y : Bool) → (x ≡ false → y ≡ true)
        → with_loaded (master_settings size) (map name_entry others) (name_entry section) ≡ map name_entry (put_named section others)
        → cond (x || (not y && false)) (name_entry section ∷ name_entry other ∷ map name_entry others)
        (cond ((y || (not x && false)) || false) (name_entry other ∷ with_loaded (master_settings size) (map name_entry others) (name_entry section))
        (name_entry section ∷ map name_entry others))
        ≡ map name_entry (cond x (section ∷ other ∷ others) (other ∷ put_named section others))
    by_tests true y after same = refl
    by_tests false true after same = ap (λ l. name_entry other ∷ l) same
    by_tests false false after same = absurd (let e : false ≡ true = after refl in cc e)

apart_too : (a b : Section) → IsApart a b → IsApart b a
apart_too a b apart = grind (arith, named_before)

put_entries : (size : ℕ) (list sections : List Section) → AreApart sections → All (λ section. All (IsApart section) list) sections
    → fold (with_loaded (master_settings size)) (map name_entry list) (map name_entry sections) ≡ map name_entry (fold with_named list sections)
put_entries size list [] apart all = refl
put_entries size list (section ∷ sections) apart all =
    ap (λ l. fold (with_loaded (master_settings size)) l (map name_entry sections))
    (put_entry size section list (All-head (λ s. All (IsApart s) list) section sections all))
    ∙ put_entries size (put_named section list) sections apart.1
    (λ k d low. put_all (IsApart (get_or sections k d)) section list (apart_too section (get_or sections k d) (apart.0 k d low))
    (All-tail (λ s. All (IsApart s) list) section sections all k d low))

entries_are : (size : ℕ) (sections : List Section) → map (loaded_pair (master_settings size)) (map name_pair sections) ≡ map name_entry sections
entries_are size [] = refl
entries_are size (section ∷ sections) = ap (λ l. name_entry section ∷ l) (entries_are size sections)

-- the master of sections has as many pages in the order of the text as in that of the names
pub master_same : (size : ℕ) (sections : List Section) → AreApart sections → names_pages size (in_name_order sections) ≡ master_pages size sections
master_same size sections apart =
    ap (tree_pages (master_settings size))
    (sym (ap (fold (with_loaded (master_settings size)) []) (entries_are size sections)
    ∙ put_entries size [] sections apart (λ k d low. All-nil (IsApart (get_or sections k d)))
    ∙ ap (map name_entry) (fold_is_order sections apart)))
