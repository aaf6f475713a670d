-- A file in which no pair replaces another has room for all data that it keeps.
use Rattle.std.proofs.Common.{◌≡◌, ℕ, zero, suc, ◌+◌, ◌-◌, ◌*◌, ◌<◌, ◌≤◌, true, false, List, [], ◌∷◌, ◌++◌, length, map, Option, Some, None}
use Rattle.std.proofs.Common.{◌∙◌, add-mul, arith, refl, sym, ap, subst, mul-le-mul_right, is_some, nat_lt, replicate}
use Rattle.std.specs.List.{All, enumerate_from, fold, sum_by}
use Rattle.std.proofs.lemmas.Bool.{le-ltb, lt-ltb}
use Rattle.std.proofs.lemmas.List.Elements.{All-append, All-cons, All-head, All-nil, All-tail, All-weaker}
use Rattle.std.proofs.lemmas.List.Sums.{sum_by-append, sum_by-cons}
use Rattle.bdb_model.specs.of_format.declared.kinds.Kind.{Kind}
use Rattle.bdb_model.specs.of_format.declared.kinds.Kind.TheVariants.{Btree, Recno, Hash, Queue}
use Rattle.bdb_model.specs.of_format.declared.settings.Settings.{Settings}
use Rattle.bdb_model.specs.of_format.Terms.{File, is_page_size}
use Rattle.bdb_model.proofs.of_format.SizeLemmas.{long_page}
use Rattle.bdb_model.specs.of_text_format.declared.pairs.Pair.{Pair}
use Rattle.bdb_model.specs.of_text_format.declared.pairs.Key.TheVariants.{Number}
use Rattle.bdb_model.specs.of_text_format.declared.sections.Section.{Section}
use Rattle.bdb_model.specs.of_text_format.Terms.{holds_records, number_of}
use Rattle.bdb_mkfile.specs.of_settle.Loaded.{keeps_data, loaded, loaded_pair, loaded_section, put, stands_before, unlined_pairs, unnumbered, with_loaded}
use Rattle.bdb_mkfile.specs.of_mkleaves.Spread.{tree_size}
use Rattle.bdb_mkfile.specs.of_mkleaves.Units.{TreeUnit, EntryUnit}
use Rattle.bdb_mkfile.specs.of_mktree.Lists.{keyed_units, missing, record_units, units_in}
use Rattle.bdb_mkfile.specs.of_mktree.Units.{leaf_type_of}
use Rattle.bdb_mkfile.specs.of_need.of_mkhash.Buckets.{table_units}
use Rattle.bdb_mkfile.specs.of_need.TreePages.{tree_pages}
use Rattle.bdb_mkfile.specs.of_need.Need.{list_pages, need_of, section_pages, sized}
use Rattle.bdb_mkfile.proofs.of_need.NeedLemmas.{listed_again}
use Rattle.bdb_mkfile.specs.Builds.{image_size}
use Rattle.bdb_rescue.specs.Text.{loose_settings}
use Rattle.bdb_rescue.specs.of_survey.declared.guess.Guess.{Guess}
use Rattle.bdb_rescue.specs.of_survey.Salvage.{loose, salvaged_file, stored}
use Rattle.bdb_model.specs.declared.shape.Duplicates.TheVariants.{No, Unsorted, Sorted}
use Rattle.bdb_model.specs.declared.shape.Shape.{Shape}
use Rattle.bdb_model.specs.declared.shape.Shape.TheVariants.{Btree as BtreeShape, Hash as HashShape, Recno as RecnoShape}
use Rattle.bdb_repair.specs.Laws.{ManyPairsAreTooLarge, PairsTakeRoom}
use Rattle.bdb_repair.specs.Parts.{loose_pair, loose_pairs, loose_part, loose_section, sections_of_file, shaped_pairs, shaped_section, stored_pairs}
use Rattle.bdb_repair.specs.Parts.{stored_section}
use Rattle.bdb_repair.specs.Room.{datum_room, least_room, pair_room, stored_room}
use Rattle.bdb_repair.specs.Shapes.{shaped_settings}
use Rattle.bdb_repair.proofs.RoomLemmas.{trees_have_room, unit_room}
use Rattle.bdb_repair.proofs.ListRoomLemmas.{all_kept, keeps_no_records, keyed_room, listed_room}
use Rattle.bdb_repair.proofs.TableRoomLemmas.{table_room, tables_have_room}

-- Records.

abbrev listed_record : ℕ → List ℕ → Pair
listed_record n value = record { key = Number n; value = value }

-- a record has a number below another
record IsBelow (n : ℕ) (pair : Pair) : Type 0 where
  number : ℕ
  value : List ℕ
  pair_is : pair ≡ listed_record number value
  below : number < n

-- a record whose number is above all others goes behind them
put_last : (guess : Guess) (n : ℕ) (value : List ℕ) (list : List Pair) → All (IsBelow n) list
    → put (stands_before (loose_settings guess)) false (listed_record n value) list ≡ list ++ (listed_record n value ∷ [])
put_last guess n value [] below = refl
put_last guess n value (other ∷ others) below =
    let here : IsBelow n other = All-head (IsBelow n) other others below in
    let not_before : nat_lt n here.number ≡ false = le-ltb n here.number (omega (arith, here.below)) in
    let behind : nat_lt here.number n ≡ true = lt-ltb here.number n here.below in
    let rest = put_last guess n value others (All-tail (IsBelow n) other others below) in
    subst (λ o. put (stands_before (loose_settings guess)) false (listed_record n value) (o ∷ others) ≡ o ∷ (others ++ (listed_record n value ∷ [])))
    (sym here.pair_is)
    (rw (not_before, behind) (ap (λ (ps : List Pair). listed_record here.number here.value ∷ ps) rest))

-- records that are numbered one after another lose nothing
numbered_room : (guess : Guess) (n : ℕ) (list : List Pair) (records : List (List ℕ)) → All (IsBelow n) list
    → sum_by listed_room (fold (with_loaded (loose_settings guess)) list (map (loaded_pair (loose_settings guess)) (map loose_pair (enumerate_from n records))))
    ≡ sum_by listed_room list + sum_by datum_room records
numbered_room guess n list [] below = omega arith
numbered_room guess n list (value ∷ records) below =
    let one : List Pair = listed_record n value ∷ [] in
    let more : All (IsBelow (n + 1)) (list ++ one) =
    All-append (IsBelow (n + 1)) list one
    (All-weaker (IsBelow n) (IsBelow (n + 1)) (λ pair is. record {
      number = is.number;
      value = is.value;
      pair_is = is.pair_is;
      below = omega (arith, is.below);
    }) list below)
    (All-cons (IsBelow (n + 1)) (listed_record n value) [] (record { number = n; value = value; pair_is = refl; below = omega arith })
    (All-nil (IsBelow (n + 1)))) in
    let sum = sum_by-append listed_room list one in
    let own = sum_by-cons listed_room (listed_record n value) [] in
    let first = sum_by-cons datum_room value records in
    let rest = numbered_room guess (n + 1) (list ++ one) records more in
    subst
    (λ l. sum_by listed_room (fold (with_loaded (loose_settings guess)) l
    (map (loaded_pair (loose_settings guess)) (map loose_pair (enumerate_from (n + 1) records))))
    ≡ sum_by listed_room list + sum_by datum_room (value ∷ records))
    (sym (put_last guess n value list below)) (omega (arith, sum, own, first, rest))

-- the units of records have their data, and those that are missing more
missing_room : (k : ℕ) (units : List TreeUnit) → sum_by unit_room units ≤ sum_by unit_room (replicate k missing ++ units)
missing_room zero units = omega arith
missing_room (suc k) units =
    let one = sum_by-cons unit_room missing (replicate k missing ++ units) in omega (arith, one, missing_room k units)

record_room : (next : ℕ) (pairs : List Pair) → sum_by listed_room pairs ≤ sum_by unit_room (record_units next pairs)
record_room next [] = omega arith
record_room next (pair ∷ pairs) =
    let unit : TreeUnit = EntryUnit pair.value false in
    let rest : List TreeUnit = record_units (number_of pair.key + 1) pairs in
    let one = sum_by-cons listed_room pair pairs in
    let two = sum_by-cons unit_room unit rest in
    omega (arith, one, two, missing_room (number_of pair.key - next) (unit ∷ rest), record_room (number_of pair.key + 1) pairs)

-- the pages of the tree of the loose records have room for them
loose_tree : (guess : Guess) (records : List (List ℕ)) → is_page_size guess.page_size ≡ true
    → sum_by datum_room records ≤ tree_pages (loose_settings guess) (loaded (loose_settings guess) (loose_pairs records)) * guess.page_size
loose_tree guess records legal =
    let list : List Pair = loaded (loose_settings guess) (loose_pairs records) in
    let units : List TreeUnit = record_units 1 list in
    let all = numbered_room guess 1 [] records (All-nil (IsBelow 1)) in
    omega (arith, all, record_room 1 list, trees_have_room (leaf_type_of Recno) guess.page_size false units (long_page guess.page_size legal))

-- Sections.

-- a list has room in its pages, where it's one of pairs
list_room : (kind : Kind) (settings : Settings) (list : List Pair) → settings.kind ≡ kind → holds_records kind ≡ false → 512 ≤ settings.page_size
    → sum_by listed_room list ≤ list_pages kind settings list * settings.page_size
list_room Btree settings list is none long =
    let room : sum_by listed_room list
    ≤ tree_size (leaf_type_of Btree) settings.page_size settings.sorted (keyed_units list) * settings.page_size =
    omega (arith, keyed_room list, trees_have_room (leaf_type_of Btree) settings.page_size settings.sorted (keyed_units list) long) in
    subst (λ k. sum_by listed_room list ≤ tree_size (leaf_type_of k) settings.page_size settings.sorted (units_in k list) * settings.page_size) (sym is) room
list_room Recno settings list is none long = absurd (cc none)
list_room Hash settings list is none long =
    omega (arith, table_room list, tables_have_room settings.page_size settings.sorted (table_units list) long)
list_room Queue settings list is none long = absurd (cc none)

-- the pages of a section have room for all pairs, where none replaces another
pub kept_pages : (size : ℕ) (section : Section) (pairs : List (List ℕ × List ℕ)) → is_page_size size ≡ true → keeps_data section.settings ≡ true
    → section.pairs ≡ stored_pairs pairs → sum_by pair_room pairs ≤ section_pages size (loaded_section section) * size
kept_pages size section pairs legal keeps are =
    let list : List Pair = loaded section.settings section.pairs in
    let all : sum_by listed_room list ≡ sum_by pair_room pairs =
    ap (λ ps. sum_by listed_room (loaded section.settings ps)) are ∙ all_kept section.settings pairs keeps in
    let again : unlined_pairs (map unnumbered list) ≡ list = listed_again list in
    let room : sum_by listed_room list ≤ list_pages section.settings.kind (sized size section) list * size =
    list_room section.settings.kind (sized size section) list refl (keeps_no_records section.settings keeps) (long_page size legal) in
    let pages : list_pages section.settings.kind (sized size section) (unlined_pairs (map unnumbered list))
    ≡ list_pages section.settings.kind (sized size section) list =
    ap (list_pages section.settings.kind (sized size section)) again in
    let some : list_pages section.settings.kind (sized size section) list ≤ section_pages size (loaded_section section) = omega (arith, pages) in
    let more = mul-le-mul_right size some in
    omega (arith, all, room, more)

loose_pages : (guess : Guess) (section : Section) (records : List (List ℕ)) → is_page_size guess.page_size ≡ true
    → section.settings ≡ loose_settings guess → section.pairs ≡ loose_pairs records
    → sum_by datum_room records ≤ section_pages guess.page_size (loaded_section section) * guess.page_size
loose_pages guess section records legal settings are =
    let size : ℕ = guess.page_size in
    let list : List Pair = loaded (loose_settings guess) (loose_pairs records) in
    let pages : tree_pages (loose_settings guess) (unlined_pairs (map unnumbered list)) ≡ tree_pages (loose_settings guess) list =
    ap (tree_pages (loose_settings guess)) (listed_again list) in
    let some : tree_pages (loose_settings guess) list ≤ section_pages size (loaded_section section) = rw (settings, are) (omega (arith, pages)) in
    let more = mul-le-mul_right size some in
    omega (arith, loose_tree guess records legal, more)

-- what the loose records take of the pages of their section, where there is one
part_pages : (guess : Guess) (records : List (List ℕ)) → is_page_size guess.page_size ≡ true
    → sum_by datum_room records ≤ sum_by (section_pages guess.page_size) (map loaded_section (loose_part guess records)) * guess.page_size
part_pages guess [] legal = omega arith
part_pages guess (value ∷ records) legal =
    let size : ℕ = guess.page_size in
    let section : Section = loose_section guess (value ∷ records) in
    let sum = sum_by-cons (section_pages size) (loaded_section section) [] in
    let only : sum_by (section_pages size) (loaded_section section ∷ []) ≡ section_pages size (loaded_section section) = omega (arith, sum) in
    omega (arith, ap (λ n. n * size) only, loose_pages guess section (value ∷ records) legal refl refl)

-- Files.

-- a file of the two sections with names
named_room : (guess : Guess) (pairs : List (List ℕ × List ℕ)) (records : List (List ℕ)) → is_page_size guess.page_size ≡ true
    → sum_by pair_room pairs + sum_by datum_room records ≤ image_size (stored_section guess pairs ∷ loose_part guess records)
named_room guess pairs records legal =
    let size : ℕ = guess.page_size in
    let first : Section = loaded_section (stored_section guess pairs) in
    let rest : List Section = map loaded_section (loose_part guess records) in
    let sum = sum_by-cons (section_pages size) first rest in
    let some : section_pages size first + sum_by (section_pages size) rest ≤ need_of (first ∷ rest) = omega (arith, sum) in
    let more = mul-le-mul_right size some in
    let split = add-mul (section_pages size first) (sum_by (section_pages size) rest) size in
    omega (arith, more, split, kept_pages size (stored_section guess pairs) pairs legal refl refl, part_pages guess records legal)

-- one of a section alone
alone_pages : (size : ℕ) (section : Section) → is_some section.name ≡ false → section.settings.page_size ≡ size
    → section_pages size (loaded_section section) * size ≤ image_size (section ∷ [])
alone_pages size section unnamed same =
    let sum = sum_by-cons (section_pages size) (loaded_section section) [] in
    let only : sum_by (section_pages size) (loaded_section section ∷ []) ≡ section_pages size (loaded_section section) = omega (arith, sum) in
    rw (unnamed, same) (omega (arith, ap (λ n. n * size) only))

-- one of a shape that keeps all pairs
alone_kept : (guess : Guess) (shape : Shape) (file : File) → is_page_size guess.page_size ≡ true → keeps_data (shaped_settings guess shape) ≡ true
    → shaped_pairs shape file ≡ stored_pairs (stored file) → stored_room file ≤ image_size (shaped_section guess shape file ∷ [])
alone_kept guess shape file legal keeps are =
    let section : Section = shaped_section guess shape file in
    omega (arith, kept_pages guess.page_size section (stored file) legal keeps are, alone_pages guess.page_size section refl refl)

alone_room : (guess : Guess) (shape : Shape) (file : File) → is_page_size guess.page_size ≡ true
    → least_room (Some shape) file ≤ image_size (shaped_section guess shape file ∷ [])
alone_room guess (BtreeShape No) file legal = omega arith
alone_room guess (BtreeShape Unsorted) file legal = alone_kept guess (BtreeShape Unsorted) file legal refl refl
alone_room guess (BtreeShape Sorted) file legal = omega arith
alone_room guess (HashShape No) file legal = omega arith
alone_room guess (HashShape Unsorted) file legal = alone_kept guess (HashShape Unsorted) file legal refl refl
alone_room guess (HashShape Sorted) file legal = omega arith
alone_room guess RecnoShape file legal =
    let section : Section = shaped_section guess RecnoShape file in
    omega (arith, loose_pages guess section (loose file) legal refl refl, alone_pages guess.page_size section refl refl)

parts_room : (shape : Option Shape) (guess : Guess) (file : File) → is_page_size guess.page_size ≡ true
    → least_room shape file ≤ image_size (sections_of_file shape guess file)
parts_room None guess file legal = named_room guess (stored file) (loose file) legal
parts_room (Some shape) guess file legal = alone_room guess shape file legal

pub pairs_take_room : PairsTakeRoom
pairs_take_room shape guess image legal = parts_room shape guess (salvaged_file guess.order guess.page_size image) legal

-- each pair takes four bytes
four_each : (pairs : List (List ℕ × List ℕ)) → 4 * length pairs ≤ sum_by pair_room pairs
four_each [] = omega arith
four_each (pair ∷ pairs) = let one = sum_by-cons pair_room pair pairs in omega (arith, one, four_each pairs)

pub many_pairs_are_too_large : ManyPairsAreTooLarge
many_pairs_are_too_large guess image max legal many =
    let pairs : List (List ℕ × List ℕ) = stored (salvaged_file guess.order guess.page_size image) in
    omega (arith, many, four_each pairs, pairs_take_room None guess image legal)
