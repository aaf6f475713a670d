-- What is left of the walks over what is given, and of what is left.
use Rattle.std.proofs.Common.{◌≡◌, ℕ, suc, ◌+◌, ◌-◌, ◌<◌, ◌≤◌, Bool, true, false, cond, List, [], ◌∷◌, ◌++◌, map, arith, refl, sym, ◌∙◌, ap, subst}
use Rattle.std.specs.Prelude.{Option, Some, None, not, ◌&&◌, ◌==◌}
use Rattle.std.specs.List.{All, filter, find, flat_map, range_with_len}
use Rattle.std.specs.Option.{option_map}
use Rattle.std.proofs.lemmas.Bool.{eq-eqb, eqb-true}
use Rattle.bdb_rescue.specs.of_format.Terms.{File, page_at}
use Rattle.bdb_rescue.specs.of_survey.Salvage.{is_taken, live_whole}
use Rattle.bdb_rescue.specs.Kept.{Reading, file_in, numbered_at, untaken_on, value_at, values_on}
use Rattle.bdb_rescue.specs.declared.kept.KeptValue.{KeptValue}
use Rattle.bdb_rescue.proofs.ListLemmas.{all_first, all_rest}
use Rattle.bdb_rescue.proofs.LooseLemmas.{leaf_values}
use Rattle.bdb_homes.specs.Homes.{home}
use Rattle.bdb_homes.specs.declared.home.Home.{Home}
use Rattle.bdb_apart.specs.Found.{Found, found}
use Rattle.bdb_apart.specs.Given.{db_at, fits_record, is_record_page, is_recno_db, meta_at, numbered_on, pairs_left, pairs_left_on, records_left}
use Rattle.bdb_apart.specs.Given.{records_beside, records_left_on, records_without}
use Rattle.bdb_apart.specs.Kept.{fits_in, holds_in, holds_of}
use Rattle.bdb_apart.specs.Left.{IsThere, is_fit, loose_from, loose_in, pages_from, pairs_from, start_by, start_held, start_of}
use Rattle.bdb_apart.specs.declared.holds.Holds.{Holds}
use Rattle.bdb_apart.proofs.GivenLemmas.{filter_same, numbered_is, start_if, start_is}
use Rattle.bdb_apart.proofs.KindLemmas.{takes_none, takes_those}

-- the first page of some that are left, and the others
pub first_page : (file : File) (old new : List ℕ) (p : ℕ) → old ≡ p ∷ new → All (IsThere file) old → p < file.count
first_page file old new p steps all = all_first (IsThere file) p new (subst (All (IsThere file)) steps all)

pub pages_rest : (file : File) (old new : List ℕ) (p : ℕ) → old ≡ p ∷ new → All (IsThere file) old → All (IsThere file) new
pages_rest file old new p steps all = all_rest (IsThere file) p new (subst (All (IsThere file)) steps all)

-- a walk over lists of pages goes on at the next page
pub next_page : {Y : Type 0} (f : ℕ → List Y) (here after : List Y) (old new : List ℕ) (p : ℕ) → here ≡ [] → old ≡ p ∷ new → after ≡ f p
    → after ++ flat_map f new ≡ here ++ flat_map f old
next_page f here after old new p none steps are =
    ap (λ ys. ys ++ flat_map f new) are
    ∙ sym (ap (λ ys. ys ++ flat_map f old) none ∙ ap (flat_map f) steps)

-- and ends where no page is left
pub no_page : {Y : Type 0} (f : ℕ → List Y) (here : List Y) (old : List ℕ) → here ≡ [] → old ≡ [] → here ++ flat_map f old ≡ []
no_page f here old none ends = ap (λ ys. ys ++ flat_map f old) none ∙ ap (flat_map f) ends

-- The pages from one on.

pub pages_more : (file : File) (p : ℕ) → p < file.count → pages_from file p ≡ p ∷ pages_from file (p + 1)
pages_more file p there = ap (range_with_len p) (let more : file.count - p ≡ suc (file.count - (p + 1)) = omega (arith, there) in more)

pub pages_none : (file : File) (p : ℕ) → file.count ≤ p → pages_from file p ≡ []
pages_none file p past = ap (range_with_len p) (let none : file.count - p ≡ 0 = omega (arith, past) in none)

-- all of them
pub all_pairs : (reading : Reading) → pairs_from reading None 0 ≡ pairs_left reading
unfolding pairs_left
all_pairs reading =
    ap (λ n. flat_map (pairs_left_on (file_in reading) (found reading)) (range_with_len 0 n))
    (let all : (file_in reading).count - 0 ≡ (file_in reading).count = omega arith in all)

pub all_records : (reading : Reading) → loose_from reading None 0 ≡ records_left reading
unfolding records_left
all_records reading =
    ap (λ n. flat_map (records_left_on (file_in reading) (found reading)) (range_with_len 0 n))
    (let all : (file_in reading).count - 0 ≡ (file_in reading).count = omega arith in all)

-- The records of a page that are left.

all_pass : {X : Type 0} (test : X → Bool) (xs : List X) → ((x : X) → test x ≡ true) → filter test xs ≡ xs
all_pass test [] pass = refl
all_pass test (x ∷ xs) pass = ap (λ b. cond b (x ∷ filter test xs) (filter test xs)) (pass x) ∙ ap (λ ys. x ∷ ys) (all_pass test xs pass)

abbrev value_of_placed : (ℕ × List ℕ) → List ℕ
value_of_placed placed = placed.1

all_values : (file : File) (start : ℕ) (places : List KeptValue) → map value_of_placed (map (numbered_at file start) places) ≡ map (value_at file) places
all_values file start [] = refl
all_values file start (place ∷ places) = ap (λ values. value_at file place ∷ values) (all_values file start places)

-- all are left where none fits
all_loose : (file : File) (p start : ℕ) (holds : Option Holds) → ((placed : ℕ × List ℕ) → is_fit holds placed ≡ false)
    → loose_in holds (map (numbered_at file start) (values_on file p)) ≡ live_whole file p
all_loose file p start holds none =
    ap (map value_of_placed) (all_pass (λ placed. not (is_fit holds placed)) (map (numbered_at file start) (values_on file p)) (λ placed. ap not (none placed)))
    ∙ (all_values file start (values_on file p) ∙ leaf_values file p)

abbrev told_loose : File → ℕ → Bool → Option (ℕ × Holds) → List (List ℕ)
told_loose file p taken None = loose_in None (map (numbered_at file 0) (cond taken [] (values_on file p)))
told_loose file p taken (Some (start, holds)) = loose_in (Some holds) (map (numbered_at file start) (cond taken [] (values_on file p)))

taken_none : (file : File) (p : ℕ) (told : Option (ℕ × Holds)) → told_loose file p true told ≡ []
taken_none file p None = refl
taken_none file p (Some (start, holds)) = refl

abbrev beside : File → ℕ → Option Found → Bool → Bool → Option Home → List (List ℕ)
beside file p None leaf taken h = live_whole file p
beside file p (Some db) leaf taken h = records_without file db p (start_if (is_recno_db db.fields) leaf db.meta taken h)

loose_by : (file : File) (p : ℕ) (db : Option Found) (h : Option Home) (leaf taken : Bool) → (h ≡ None → db ≡ None)
    → ((d : Found) (home : Home) → db ≡ Some d → h ≡ Some home → (home.meta == d.meta) ≡ true)
    → (leaf ≡ true → (start : ℕ) → map (numbered_at file start) (values_on file p) ≡ numbered_on file p start)
    → told_loose file p taken (start_held (option_map holds_in db) (cond leaf (start_of h) None)) ≡ cond taken [] (beside file p db leaf taken h)
loose_by file p db h leaf true none same numbered = taken_none file p (start_held (option_map holds_in db) (cond leaf (start_of h) None))
loose_by file p None h leaf false none same numbered = all_loose file p 0 None (λ placed. refl)
loose_by file p (Some db) None leaf false none same numbered = let gone : Some db ≡ None = none refl in absurd cc
loose_by file p (Some db) (Some home) false false none same numbered =
    all_loose file p 0 None (λ placed. refl) ∙ by_recno (is_recno_db db.fields)
  where
    by_recno : (recno : Bool) → live_whole file p ≡ records_without file db p (cond (recno && false && home.meta == db.meta && true) (Some home.start) None)
    by_recno true = refl
    by_recno false = refl
loose_by file p (Some db) (Some home) true false none same numbered = by_recno (is_recno_db db.fields) (home.meta == db.meta) refl (same db home refl refl)
  where
    by_recno : (recno at : Bool) → is_recno_db db.fields ≡ recno → at ≡ true
        → loose_in (Some (holds_of db.fields)) (map (numbered_at file home.start) (values_on file p))
        ≡ records_without file db p (cond (recno && true && at && true) (Some home.start) None)
    by_recno recno false is so = absurd cc
    by_recno true true is so =
        ap (loose_in (Some (holds_of db.fields))) (numbered refl home.start)
        ∙ ap (map value_of_placed)
        (filter_same (λ placed. not (fits_in (holds_of db.fields) placed)) (λ placed. not (fits_record db.fields placed)) (numbered_on file p home.start)
        (λ placed inside. ap not (takes_those db.fields placed is)))
    by_recno false true is so = all_loose file p home.start (Some (holds_of db.fields)) (λ placed. takes_none db.fields placed is)

-- the first with a metadata page has that page
pub at_page : (dbs : List Found) (m : ℕ) (db : Found) → find (λ (db : Found). db.meta == m) dbs ≡ Some db → (db.meta == m) ≡ true
at_page [] m db is = absurd cc
at_page (other ∷ others) m db is = by_test (other.meta == m) refl is (at_page others m db)
  where
    by_test : (b : Bool) → (other.meta == m) ≡ b → cond b (Some other) (find (λ (db : Found). db.meta == m) others) ≡ Some db
        → (find (λ (db : Found). db.meta == m) others ≡ Some db → (db.meta == m) ≡ true)
        → (db.meta == m) ≡ true
    by_test true at first rest = let same : other ≡ db = cc in ap (λ (db : Found). db.meta == m) (sym same) ∙ at
    by_test false at later rest = rest later

-- the same by the definitions
beside_is : (file : File) (p : ℕ) (db : Option Found)
    → beside file p db (is_record_page (page_at file p)) (is_taken file p) (home file p) ≡ records_beside file p db
beside_is file p None = refl
beside_is file p (Some db) = ap (records_without file db p) (start_is file db p (home file p))

loose_is : (file : File) (dbs : List Found) (p : ℕ) → told_loose file p (is_taken file p) (start_by file dbs p) ≡ records_left_on file dbs p
loose_is file dbs p =
    loose_by file p (db_at dbs (meta_at (home file p))) (home file p) (is_record_page (page_at file p)) (is_taken file p)
    (λ none. ap (λ h. db_at dbs (meta_at h)) none)
    (λ db home at is. turned home.meta db.meta (at_page dbs home.meta db (sym (ap (λ h. db_at dbs (meta_at h)) is) ∙ at)))
    (λ leaf start. numbered_is file p start leaf)
    ∙ ap (cond (is_taken file p) []) (beside_is file p (db_at dbs (meta_at (home file p))))
  where
    turned : (m n : ℕ) → (n == m) ≡ true → (m == n) ≡ true
    turned m n at = eq-eqb m n (sym (eqb-true n m at))

pub loose_some : (file : File) (dbs : List Found) (p start : ℕ) (holds : Holds) (records : List (ℕ × List ℕ)) → start_by file dbs p ≡ Some (start, holds)
    → records ≡ map (numbered_at file start) (untaken_on file p) → loose_in (Some holds) records ≡ records_left_on file dbs p
loose_some file dbs p start holds records told are =
    ap (loose_in (Some holds)) are ∙ (sym (ap (told_loose file p (is_taken file p)) told) ∙ loose_is file dbs p)

pub loose_none : (file : File) (dbs : List Found) (p : ℕ) (records : List (ℕ × List ℕ)) → start_by file dbs p ≡ None
    → records ≡ map (numbered_at file 0) (untaken_on file p) → loose_in None records ≡ records_left_on file dbs p
loose_none file dbs p records told are =
    ap (loose_in None) are ∙ (sym (ap (told_loose file p (is_taken file p)) told) ∙ loose_is file dbs p)
