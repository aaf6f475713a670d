-- The place of a database with a name, from a place on.
use Rattle.std.proofs.Common.{◌≡◌, ℕ, suc, ◌+◌, ◌<◌, ◌≤◌, true, false, List, ◌∷◌, length, drop, Option, Some, None, arith, refl, sym, ◌∙◌, ap, drop-cons}
use Rattle.std.proofs.lemmas.List.{drop_all}
use Rattle.bdb_recno.specs.of_format.Terms.{File, databases, is_name, place_from}
use Rattle.bdb_databases.specs.Named.{database_at, no_database}

one_left : (file : File) (i : ℕ) → i < length (databases file) → drop i (databases file) ≡ database_at file i ∷ drop (i + 1) (databases file)
one_left file i below =
    let next : suc i ≡ i + 1 = omega arith in drop-cons (databases file) i no_database below
    ∙ ap (λ n. database_at file i ∷ drop n (databases file)) next

pub place_found : (file : File) (i j : ℕ) (name : Option (List ℕ)) (found : Option ℕ) → found ≡ place_from i name (drop i (databases file))
    → i < length (databases file) → j ≡ i
    → true ≡ is_name name (database_at file j).name → Some j ≡ found
place_found file i j name found from below here is =
    let same : is_name name (database_at file i).name ≡ true = ap (λ k. is_name name (database_at file k).name) (sym here) ∙ sym is in
    ap (λ (n : ℕ). Some n) here ∙ sym (from ∙ (ap (place_from i name) (one_left file i below) ∙ rw same refl))

pub place_later : (file : File) (i j : ℕ) (name : Option (List ℕ)) (found : Option ℕ) → found ≡ place_from i name (drop i (databases file))
    → i < length (databases file) → j ≡ i
    → false ≡ is_name name (database_at file j).name → found ≡ place_from (i + 1) name (drop (i + 1) (databases file))
place_later file i j name found from below here is =
    let other : is_name name (database_at file i).name ≡ false = ap (λ k. is_name name (database_at file k).name) (sym here) ∙ sym is in
    from ∙ (ap (place_from i name) (one_left file i below) ∙ rw other refl)

pub place_none : (file : File) (i : ℕ) (name : Option (List ℕ)) (found : Option ℕ) → found ≡ place_from i name (drop i (databases file))
    → length (databases file) ≤ i → None ≡ found
place_none file i name found from all = sym (from ∙ ap (place_from i name) (drop_all i (databases file) all))
