-- Each pair and each loose record that is salvaged stands in just one part.
use Rattle.std.proofs.Common.{◌≡◌, ℕ, ◌+◌, ◌-◌, ◌≤◌, Bool, true, false, cond, List, [], ◌∷◌, ◌++◌, map, length, arith, refl, sym, ◌∙◌}
use Rattle.std.proofs.Common.{ap}
use Rattle.std.specs.Prelude.{Option, Some, None, ◌==◌, ◌&&◌, not, codes, decimal}
use Rattle.std.specs.List.{Contains, count_by, enumerate_from, filter, flat_map, fold, list_any, range_with_len, sum_by}
use Rattle.std.specs.Option.{is_some, option_to_list}
use Rattle.std.proofs.lemmas.Bool.{eq-eqb, eqb-false, eqb-true, ne_eqb}
use Rattle.std.proofs.lemmas.List.Sums.{count_by-le-length, sum_by-append, sum_by-cons}
use Rattle.std.proofs.lemmas.List.{length-map}
use Rattle.std.proofs.lemmas.Option.{none-some, same_Some}
use Rattle.bdb_rescue.specs.of_format.declared.metadata.QueueMeta.{QueueMeta}
use Rattle.bdb_rescue.specs.of_format.Terms.{BtreeFields, File, HashFields, Item, Meta, Metadata, Page, QueueFields, entries_in, less, page_at}
use Rattle.bdb_rescue.specs.of_survey.Salvage.{is_taken, live_value, live_whole, loose, loose_on, stored, stored_on}
use Rattle.bdb_rescue.specs.Kept.{Reading, file_in}
use Rattle.bdb_homes.specs.Homes.{home}
use Rattle.bdb_homes.specs.declared.home.Home.{Home}
use Rattle.bdb_apart.specs.Found.{Found, entries, found, found_beside, found_on, has_name, is_alone, is_master_leaf, name_in, name_of}
use Rattle.bdb_apart.specs.Found.{named_above, named_meta, only_found, pages_above, put_found, tree_fields, unnamed_above, unnamed_meta, with_found}
use Rattle.bdb_apart.specs.Given.{above, are_given, db_at, fits_record, found_in, gives_on, gives_pairs, holds_pairs, in_image, is_recno_db}
use Rattle.bdb_apart.specs.Given.{is_record_page, meta_at, names_found, numbered_entry, numbered_on, pairs_given, pairs_left, pairs_left_on, records_beside}
use Rattle.bdb_apart.specs.Given.{records_by, records_from, records_given, records_left, records_left_on, records_on, records_without, start_at, start_in}
use Rattle.bdb_apart.specs.Laws.{EachPairIsInOnePart, EachRecordIsInOnePart, pairs_naming, pairs_naming_on}
use Rattle.bdb_apart.specs.Queues.{queue_in}
use Rattle.bdb_apart.specs.Rows.{is_some_of}
use Rattle.bdb_apart.proofs.KnownLemmas.{known}
use Rattle.bdb_apart.proofs.LeftLemmas.{at_page}
use Rattle.bdb_rescue.proofs.of_law_sums.CountLemmas.{sum_parts, sum_plus, sum_same}
use Rattle.bdb_rescue.proofs.of_law_sums.NameLemmas.{sum_map}
use Rattle.bdb_rescue.proofs.of_law_sums.TreeLemmas.{sum_filter}
use Rattle.bdb_apart.proofs.SumLemmas.{one_marked, one_page, picked, sum_none, sum_parted, sum_turned}

-- A metadata page is that of one database at most.

abbrev pub is_of : ℕ → Found → Bool
is_of m db = db.meta == m

of_put : (m : ℕ) (dbs : List Found) (db : Found) → count_by (is_of m) (put_found dbs db) ≡ cond (is_of m db) 1 0 + count_by (is_of m) dbs
of_put m [] db = sum_by-cons (λ db. cond (is_of m db) 1 0) db []
of_put m (first ∷ dbs) db = by_order (less (name_of db) (name_of first)) (of_put m dbs db)
  where
    by_order : (b : Bool) → count_by (is_of m) (put_found dbs db) ≡ cond (is_of m db) 1 0 + count_by (is_of m) dbs
        → count_by (is_of m) (cond b (db ∷ first ∷ dbs) (first ∷ put_found dbs db)) ≡ cond (is_of m db) 1 0 + count_by (is_of m) (first ∷ dbs)
    by_order true rest = sum_by-cons (λ db. cond (is_of m db) 1 0) db (first ∷ dbs)
    by_order false rest =
        omega (
          arith,
          rest,
          sum_by-cons (λ db. cond (is_of m db) 1 0) first (put_found dbs db),
          sum_by-cons (λ db. cond (is_of m db) 1 0) first dbs,
        )

of_with : (m : ℕ) (dbs : List Found) (db : Found) → count_by (is_of m) (with_found dbs db) ≤ cond (is_of m db) 1 0 + count_by (is_of m) dbs
of_with m dbs db = by_name (list_any (has_name (name_of db)) dbs)
  where
    by_name : (b : Bool) → count_by (is_of m) (cond b dbs (put_found dbs db)) ≤ cond (is_of m db) 1 0 + count_by (is_of m) dbs
    by_name true = omega arith
    by_name false = omega (arith, of_put m dbs db)

of_folded : (m : ℕ) (old dbs : List Found) → count_by (is_of m) (fold with_found old dbs) ≤ count_by (is_of m) old + count_by (is_of m) dbs
of_folded m old [] = omega arith
of_folded m old (db ∷ dbs) =
    omega (arith, of_folded m (with_found old db) dbs, of_with m old db, sum_by-cons (λ db. cond (is_of m db) 1 0) db dbs)

pub one_field : (page : Page) → length (tree_fields page) ≤ 1
one_field (Meta (BtreeFields meta)) = omega arith
one_field (Meta (HashFields meta)) = omega arith
one_field page = omega arith

on_page : (file : File) (m p : ℕ) (name : List ℕ) → count_by (is_of m) (found_on file name p) ≤ 1
on_page file m p name =
    omega (
      arith,
      count_by-le-length (is_of m) (found_on file name p),
      length-map {B = Found} (tree_fields (page_at file p)) (λ (fields : Metadata). record { name = Some name; meta = p; fields = fields }),
      one_field (page_at file p),
    )

on_other : (m p : ℕ) (name : List ℕ) (fields : List Metadata) → (p == m) ≡ false
    → count_by (is_of m) (map (λ (f : Metadata). record { name = Some name; meta = p; fields = f }) fields) ≡ 0
on_other m p name fields other =
    sum_map (λ db. cond (is_of m db) 1 0) (λ (f : Metadata). record { name = Some name; meta = p; fields = f }) fields
    ∙ sum_none (λ (f : Metadata). cond (p == m) 1 0) fields (λ f. ap (λ (b : Bool). cond b 1 0) other)

-- how often a page has a database of this one
abbrev times : File → ℕ → ℕ → ℕ
times file m p = count_by (is_of m) (named_meta file (entries file) p) + count_by (is_of m) (unnamed_meta file (entries file) p)

once_on : (file : File) (m p : ℕ) → times file m p ≤ 1
once_on file m p = by_name (name_in p (entries file))
  where
    by_name : (name : Option (List ℕ)) → count_by (is_of m) (flat_map (λ name. found_on file name p) (option_to_list name))
        + count_by (is_of m) (cond (is_some name) [] (found_on file (codes "page " ++ decimal p) p)) ≤ 1
    by_name None = omega (arith, on_page file m p (codes "page " ++ decimal p))
    by_name (Some name) = omega (arith, sum_by-append (λ db. cond (is_of m db) 1 0) (found_on file name p) [], on_page file m p name)

never_on : (file : File) (m p : ℕ) → (p == m) ≡ false → times file m p ≡ 0
never_on file m p other = by_name (name_in p (entries file))
  where
    by_name : (name : Option (List ℕ)) → count_by (is_of m) (flat_map (λ name. found_on file name p) (option_to_list name))
        + count_by (is_of m) (cond (is_some name) [] (found_on file (codes "page " ++ decimal p) p)) ≡ 0
    by_name None = omega (arith, on_other m p (codes "page " ++ decimal p) (tree_fields (page_at file p)) other)
    by_name (Some name) =
        omega (
          arith,
          sum_by-append (λ db. cond (is_of m db) 1 0) (found_on file name p) [],
          on_other m p name (tree_fields (page_at file p)) other,
        )

once_above : (file : File) (m : ℕ) → count_by (is_of m) (named_above file ++ unnamed_above file) ≤ 1
once_above file m =
    omega (
      arith,
      sum_by-append (λ db. cond (is_of m db) 1 0) (named_above file) (unnamed_above file),
      sum_parts (λ db. cond (is_of m db) 1 0) (named_meta file (entries file)) (pages_above file),
      sum_parts (λ db. cond (is_of m db) 1 0) (unnamed_meta file (entries file)) (pages_above file),
      sum_plus (λ p. count_by (is_of m) (named_meta file (entries file) p)) (λ p. count_by (is_of m) (unnamed_meta file (entries file) p)) (pages_above file),
      one_page (times file m) m 1 (file.count - 1) (λ p other. never_on file m p (ne_eqb p m other)) (once_on file m m),
    )

one_only : (m : ℕ) (fields : List Metadata) → length fields ≤ 1 → count_by (is_of m) (map only_found fields) ≤ 1
one_only m fields one = omega (arith, count_by-le-length (is_of m) (map only_found fields), length-map fields only_found, one)

pub one_db : (reading : Reading) (m : ℕ) → count_by (is_of m) (found reading) ≤ 1
unfolding found
one_db reading m = by_queue (queue_in reading)
  where
    file : File
    file = file_in reading

    by_alone : (b : Bool)
        → count_by (is_of m) (cond b (map only_found (tree_fields (page_at file 0))) (fold with_found [] (named_above file ++ unnamed_above file))) ≤ 1
    by_alone true = one_only m (tree_fields (page_at file 0)) (one_field (page_at file 0))
    by_alone false = omega (arith, of_folded m [] (named_above file ++ unnamed_above file), once_above file m)

    by_queue : (queue : Option QueueMeta) → count_by (is_of m) (found_beside file queue) ≤ 1
    by_queue (Some meta) = one_only m (QueueFields meta ∷ []) (omega arith)
    by_queue None = by_alone (is_alone (page_at file 0))

turned : (m n : ℕ) → (n == m) ≡ false → (m == n) ≡ false
turned m n other = ne_eqb m n (λ same. eqb-false n m other (sym same))

found_meta : (dbs : List Found) (m : ℕ) (db : Found) → db_at dbs (Some m) ≡ Some db → db.meta ≡ m
found_meta dbs m db is = eqb-true db.meta m (at_page dbs m db is)

other_meta : (h home : Home) (db : Found) → h ≡ home → (db.meta == h.meta) ≡ false → (home.meta == db.meta) ≡ false
other_meta h home db same other = ap (λ (x : Home). x.meta == db.meta) (sym same) ∙ turned h.meta db.meta other

-- Pairs.

-- the pairs of a page are given once, or not at all
given_on : (reading : Reading) (p n : ℕ)
    → sum_by (λ db. cond (gives_pairs (file_in reading) db p) n 0) (found reading) ≡ cond (are_given (file_in reading) (found reading) p) n 0
given_on reading p n = by_above (above (file_in reading) p)
  where
    page : Page
    page = page_at (file_in reading) p

    by_db : (m : ℕ) (db : Option Found) → ((db' : Found) → db ≡ Some db' → db'.meta ≡ m)
        → picked (λ db. cond (is_some_of db.meta (Some m) && holds_pairs db.fields page) n 0) db ≡ cond (gives_on page db) n 0
    by_db m None at = refl
    by_db m (Some db) at = ap (λ b. cond (b && holds_pairs db.fields page) n 0) (eq-eqb m db.meta (sym (at db refl)))

    by_above : (at : Option ℕ) → sum_by (λ db. cond (is_some_of db.meta at && holds_pairs db.fields page) n 0) (found reading)
        ≡ cond (gives_on page (db_at (found reading) at)) n 0
    by_above None = sum_none (λ db. 0) (found reading) (λ db. refl)
    by_above (Some m) =
        one_marked (is_of m) (λ db. cond (is_some_of db.meta (Some m) && holds_pairs db.fields page) n 0) (found reading) (one_db reading m)
        (λ db other. ap (λ b. cond (b && holds_pairs db.fields page) n 0) (turned m db.meta other))
        ∙ by_db m (db_at (found reading) (Some m)) (λ db is. found_meta (found reading) m db is)

-- and each that isn't is left, or names a database
left_on : (file : File) (dbs : List Found) (p : ℕ) (test : (List ℕ × List ℕ) → Bool)
    → cond (are_given file dbs p) (count_by test (stored_on file p)) 0 + (count_by test (pairs_left_on file dbs p) + count_by test (pairs_naming_on file dbs p))
    ≡ count_by test (stored_on file p)
left_on file dbs p test = by_given (are_given file dbs p)
  where
    names : (List ℕ × List ℕ) → Bool
    names pair = is_master_leaf file p && names_found dbs pair

    by_given : (b : Bool) → cond b (count_by test (stored_on file p)) 0
        + (count_by test (cond b [] (filter (λ pair. not (names pair)) (stored_on file p))) + count_by test (cond b [] (filter names (stored_on file p))))
        ≡ count_by test (stored_on file p)
    by_given true = omega arith
    by_given false = omega (arith, sum_parted (λ pair. cond (test pair) 1 0) names (stored_on file p))

pub each_pair : EachPairIsInOnePart
unfolding stored pairs_given pairs_left
each_pair reading test =
    let given : sum_by (λ it. count_by test (pairs_given it)) (found_in reading) ≡ sum_by given_of pages =
    sum_map (λ it. count_by test (pairs_given it)) (in_image reading) dbs
    ∙ (sum_same (λ db. count_by test (pairs_given (in_image reading db))) (λ db. sum_by (given_by db) pages) dbs (λ db at. of_db db)
    ∙ (sum_turned given_by dbs pages ∙ sum_same (λ p. sum_by (λ db. given_by db p) dbs) given_of pages (λ p at. given_on reading p (all_on p)))) in
    let rest : count_by test (pairs_left reading) ≡ sum_by rest_on pages = sum_parts one (pairs_left_on file dbs) pages in
    let names : count_by test (pairs_naming reading) ≡ sum_by names_on pages = sum_parts one (pairs_naming_on file dbs) pages in
    let all : count_by test (stored file) ≡ sum_by all_on pages = sum_parts one (stored_on file) pages in
    let parts : sum_by (λ p. given_of p + (rest_on p + names_on p)) pages ≡ sum_by all_on pages =
    sum_same (λ p. given_of p + (rest_on p + names_on p)) all_on pages (λ p at. left_on file dbs p test) in
    let first : sum_by (λ p. given_of p + (rest_on p + names_on p)) pages ≡ sum_by given_of pages + sum_by (λ p. rest_on p + names_on p) pages =
    sum_plus given_of (λ p. rest_on p + names_on p) pages in
    let second : sum_by (λ p. rest_on p + names_on p) pages ≡ sum_by rest_on pages + sum_by names_on pages = sum_plus rest_on names_on pages in
    all ∙ (sym parts ∙ (first ∙ (ap (λ n. sum_by given_of pages + n) second ∙ sym (sums given rest names))))
  where
    file : File
    file = file_in reading

    dbs : List Found
    dbs = found reading

    pages : List ℕ
    pages = range_with_len 0 file.count

    one : (List ℕ × List ℕ) → ℕ
    one pair = cond (test pair) 1 0

    all_on : ℕ → ℕ
    all_on p = count_by test (stored_on file p)

    given_by : Found → ℕ → ℕ
    given_by db p = cond (gives_pairs file db p) (all_on p) 0

    given_of : ℕ → ℕ
    given_of p = cond (are_given file dbs p) (all_on p) 0

    rest_on : ℕ → ℕ
    rest_on p = count_by test (pairs_left_on file dbs p)

    names_on : ℕ → ℕ
    names_on p = count_by test (pairs_naming_on file dbs p)

    of_db : (db : Found) → count_by test (flat_map (stored_on file) (filter (gives_pairs file db) pages)) ≡ sum_by (given_by db) pages
    of_db db = sum_parts one (stored_on file) (filter (gives_pairs file db) pages) ∙ sum_filter all_on (gives_pairs file db) pages

    sums : {a b c a' b' c' : ℕ} → a ≡ a' → b ≡ b' → c ≡ c' → a + (b + c) ≡ a' + (b' + c')
    sums e f g = cc

-- Records.

-- the values of numbered records are those of the page
values_on : (file : File) (test : List ℕ → Bool) (n : ℕ) (items : List Item)
    → count_by (λ (placed : ℕ × List ℕ). test placed.1) (flat_map (numbered_entry file) (enumerate_from n items))
    ≡ count_by test (flat_map (live_value file) items)
values_on file test n [] = refl
values_on file test n (item ∷ items) =
    sum_by-append of_placed (numbered_entry file (n, item)) (flat_map (numbered_entry file) (enumerate_from (n + 1) items))
    ∙ (both (sum_map of_placed (λ (value : List ℕ). (n, value)) (live_value file item)) (values_on file test (n + 1) items)
    ∙ sym (sum_by-append (λ value. cond (test value) 1 0) (live_value file item) (flat_map (live_value file) items)))
  where
    of_placed : (ℕ × List ℕ) → ℕ
    of_placed placed = cond (test placed.1) 1 0

    both : {a b a' b' : ℕ} → a ≡ a' → b ≡ b' → a + b ≡ a' + b'
    both e f = cc

numbered_values : (file : File) (test : List ℕ → Bool) (p start : ℕ)
    → count_by (λ (placed : ℕ × List ℕ). test placed.1) (numbered_on file p start) ≡ count_by test (live_whole file p)
unfolding live_whole
numbered_values file test p start = values_on file test (start + 1) (entries_in (page_at file p))

-- the records of a page that a database gives, and those that it leaves
parted_on : (file : File) (db : Found) (p : ℕ) (test : List ℕ → Bool) (start : Option ℕ)
    → count_by (λ (placed : ℕ × List ℕ). test placed.1) (records_from file db p start) + count_by test (records_without file db p start)
    ≡ count_by test (live_whole file p)
parted_on file db p test None = omega arith
parted_on file db p test (Some start) =
    omega (
      arith,
      sum_map (λ value. cond (test value) 1 0) (λ (placed : ℕ × List ℕ). placed.1)
          (filter (λ placed. not (fits_record db.fields placed)) (numbered_on file p start)),
      sum_parted (λ (placed : ℕ × List ℕ). cond (test placed.1) 1 0) (fits_record db.fields) (numbered_on file p start),
      numbered_values file test p start,
    )

-- the records of a page that is in a set are given by none
taken_none : (file : File) (db : Found) (p : ℕ) (h : Option Home) → is_taken file p ≡ true → start_at file db p h ≡ None
taken_none file db p None taken = refl
taken_none file db p (Some home) taken = by_rest (is_recno_db db.fields && is_record_page (page_at file p) && home.meta == db.meta)
  where
    by_rest : (b : Bool) → cond (b && not (is_taken file p)) (Some home.start) None ≡ None
    by_rest false = refl
    by_rest true = ap (λ b. cond (not b) (Some home.start) None) taken

-- those of a page whose home is another are given by none
other_none : (file : File) (db : Found) (p : ℕ) (h : Option Home) → ((home : Home) → h ≡ Some home → (home.meta == db.meta) ≡ false)
    → start_at file db p h ≡ None
other_none file db p None other = refl
other_none file db p (Some home) other = by_kind (is_recno_db db.fields && is_record_page (page_at file p))
  where
    by_kind : (b : Bool) → cond (b && home.meta == db.meta && not (is_taken file p)) (Some home.start) None ≡ None
    by_kind false = refl
    by_kind true = ap (λ b. cond (b && not (is_taken file p)) (Some home.start) None) (other home refl)

-- each loose record of a page is given once, or left
records_parted : (reading : Reading) (p : ℕ) (test : List ℕ → Bool)
    → sum_by (λ db. count_by (λ (placed : ℕ × List ℕ). test placed.1) (records_on (file_in reading) db p)) (found reading)
    + count_by test (records_left_on (file_in reading) (found reading) p)
    ≡ count_by test (loose_on (file_in reading) p)
records_parted reading p test = by_taken (is_taken file p) refl
  where
    file : File
    file = file_in reading

    dbs : List Found
    dbs = found reading

    given_by : Found → ℕ
    given_by db = count_by (λ (placed : ℕ × List ℕ). test placed.1) (records_on file db p)

    none_given : (db : Found) → start_in file db p ≡ None → given_by db ≡ 0
    none_given db none = ap (λ start. count_by (λ (placed : ℕ × List ℕ). test placed.1) (records_from file db p start)) none

    by_db : (db : Option Found) → picked given_by db + count_by test (records_beside file p db) ≡ count_by test (live_whole file p)
    by_db None = omega arith
    by_db (Some db) = parted_on file db p test (start_in file db p)

    by_home : (h : Option Home) → home file p ≡ h
        → sum_by given_by dbs + count_by test (records_beside file p (db_at dbs (meta_at h))) ≡ count_by test (live_whole file p)
    by_home None is =
        let none : sum_by given_by dbs ≡ 0 =
        sum_none given_by dbs (λ db. none_given db (ap (start_at file db p) is)) in
        omega (arith, none)
    by_home (Some h) is =
        let one : sum_by given_by dbs ≡ picked given_by (db_at dbs (Some h.meta)) =
        one_marked (is_of h.meta) given_by dbs (one_db reading h.meta)
        (λ db other. none_given db
        (ap (start_at file db p) is
        ∙ other_none file db p (Some h) (λ home same. other_meta h home db (same_Some h home same) other))) in
        omega (arith, one, by_db (db_at dbs (Some h.meta)))

    by_taken : (b : Bool) → is_taken file p ≡ b
        → sum_by given_by dbs + count_by test (cond b [] (records_beside file p (db_at dbs (meta_at (home file p)))))
        ≡ count_by test (cond b [] (live_whole file p))
    by_taken true taken =
        let none : sum_by given_by dbs ≡ 0 = sum_none given_by dbs (λ db. none_given db (taken_none file db p (home file p) taken)) in
        omega (arith, none)
    by_taken false taken = by_home (home file p) refl

-- what a database gives that is no queue
given_records : (reading : Reading) (db : Found) (fields : Metadata) → ((meta : QueueMeta) → fields ≡ QueueFields meta → ⊥)
    → records_by reading db fields ≡ flat_map (records_on (file_in reading) db) (range_with_len 0 (file_in reading).count)
given_records reading db (BtreeFields meta) tree = refl
given_records reading db (HashFields meta) tree = refl
given_records reading db (QueueFields meta) tree = absurd (tree meta refl)

pub each_record : EachRecordIsInOnePart
unfolding loose records_given records_left
each_record reading test none =
    let given : sum_by (λ it. count_by of_placed (records_given it)) (found_in reading) ≡ sum_by given_of pages =
    sum_map (λ it. count_by of_placed (records_given it)) (in_image reading) dbs
    ∙ (sum_same (λ db. count_by of_placed (records_given (in_image reading db))) (λ db. sum_by (given_by db) pages) dbs of_db
    ∙ sum_turned given_by dbs pages) in
    let rest : count_by test (records_left reading) ≡ sum_by rest_on pages = sum_parts one (records_left_on file dbs) pages in
    let all : count_by test (loose file) ≡ sum_by all_on pages = sum_parts one (loose_on file) pages in
    let parts : sum_by (λ p. given_of p + rest_on p) pages ≡ sum_by all_on pages =
    sum_same (λ p. given_of p + rest_on p) all_on pages (λ p at. records_parted reading p test) in
    all ∙ (sym parts ∙ (sum_plus given_of rest_on pages ∙ sym (sums given rest)))
  where
    file : File
    file = file_in reading

    dbs : List Found
    dbs = found reading

    pages : List ℕ
    pages = range_with_len 0 file.count

    of_placed : (ℕ × List ℕ) → Bool
    of_placed placed = test placed.1

    one : List ℕ → ℕ
    one value = cond (test value) 1 0

    all_on : ℕ → ℕ
    all_on p = count_by test (loose_on file p)

    given_by : Found → ℕ → ℕ
    given_by db p = count_by of_placed (records_on file db p)

    given_of : ℕ → ℕ
    given_of p = sum_by (λ db. given_by db p) dbs

    rest_on : ℕ → ℕ
    rest_on p = count_by test (records_left_on file dbs p)

    of_db : (db : Found) → Contains dbs db → count_by of_placed (records_by reading db db.fields) ≡ sum_by (given_by db) pages
    of_db db at =
        ap (count_by of_placed) (given_records reading db db.fields (λ meta is. none-some meta (sym none ∙ known reading db at meta is)))
        ∙ sum_parts (λ placed. cond (of_placed placed) 1 0) (records_on file db) pages

    sums : {a b a' b' : ℕ} → a ≡ a' → b ≡ b' → a + b ≡ a' + b'
    sums e f = cc
