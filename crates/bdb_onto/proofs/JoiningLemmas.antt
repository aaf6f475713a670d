-- Sections take their partners out of places, and what is left there is no section's partner.
use Rattle.std.proofs.Common.{◌≡◌, ℕ, zero, suc, ◌+◌, ◌<◌, Bool, true, false, cond, not, List, [], ◌∷◌, ◌++◌, length, map, set, get_or, take, drop, Option}
use Rattle.std.proofs.Common.{Some, None, refl, sym, ◌∙◌, ap, subst, arith, inl, inr, append-nil, append_assoc, true≢false, ◌||◌, option_to_list, slice_get}
use Rattle.std.specs.List.{All, AllZip, Contains, filter, find, flat_map, fold, list_any}
use Rattle.std.specs.Str.{bytes_eq}
use Rattle.std.proofs.lemmas.Bool.{false_from_ne_true}
use Rattle.std.proofs.lemmas.List.{drop-map, flat_map_more, length-map, map-append, take-map, take_more}
use Rattle.std.proofs.lemmas.List.Elements.{All-append, All-cons, All-drop, All-head, All-nil, All-tail, All-take}
use Rattle.std.proofs.Math.Seq.{drop-append_seam, take-append_seam}
use Rattle.std.proofs.lemmas.List.Folds.{list_any-append}
use Rattle.std.proofs.lemmas.List.Sums.{fold-append}
use Rattle.bdb_format.specs.Terms.{is_name}
use Rattle.bdb_format.proofs.LessLemmas.{eq_same, eq_self}
use Rattle.bdb_format.proofs.ListLemmas.{member_of}
use Rattle.bdb_format.proofs.MemberLemmas.{first_member, later_member, member_cases, no_member, none_pass, none_passes}
use Rattle.bdb_mkfile.specs.of_text_format.declared.sections.Section.{Section}
use Rattle.bdb_mkfile.specs.of_text_format.Terms.{ArePlaced, IsPlaced as IsPlacedIn, placed_pair, placed_pairs}
use Rattle.bdb_mkfile.specs.of_text_format.of_places.declared.place.Place.{Place}
use Rattle.bdb_mkfile.specs.of_law_sections.Fit.{AreNamedBehind}
use Rattle.bdb_mkfile.specs.of_settle.LoadErrors.{sooner}
use Rattle.bdb_mkfile.specs.of_settle.declared.load_error.LoadError.{LoadError}
use Rattle.bdb_law_kept.specs.Later.{AllLater}
use Rattle.bdb_onto.specs.declared.base.Base.{Base}
use Rattle.bdb_onto.specs.declared.joining.Placed.{Placed}
use Rattle.bdb_onto.specs.Joining.{IsJoinedTo, IsPlaced, behind, emptied, place_placed, placed_section, still, taken_at}
use Rattle.bdb_onto.specs.Onto.{is_left, is_partner, joined, joined_section, onto_errors, partner_of}
use Rattle.bdb_onto.specs.Search.{Differs, HasNames, IsPartnerAt, IsPlaceOf, IsWithin}
use Rattle.bdb_onto.proofs.JoinLemmas.{found_in}

-- Sections that have names of their own have partners of their own.

other_name : (names : List (Option (List ℕ))) (before : List Section) (section : Section) (after : List Section)
    → AreNamedBehind names (before ++ (section ∷ after)) → (other : Option (List ℕ)) → Contains names other → is_name section.name other ≡ false
other_name names [] section after named other at = none_passes (is_name section.name) names other named.1 at
other_name names (x ∷ before) section after named other at =
    other_name (names ++ (x.name ∷ [])) before section after named.2 other (in_front names (x.name ∷ []) other at)
  where
    in_front : (xs ys : List (Option (List ℕ))) (x : Option (List ℕ)) → Contains xs x → Contains (xs ++ ys) x
    in_front [] ys x at = absurd (no_member [] x refl at)
    in_front (y ∷ xs) ys x at =
        elim (member_cases y xs x at) [
          | inl same ↦ subst (Contains ((y ∷ xs) ++ ys)) same (first_member y (xs ++ ys))
          | inr later ↦ later_member y (xs ++ ys) x (in_front xs ys x later)
        ]

earlier_name : (names : List (Option (List ℕ))) (before : List Section) (section : Section) (after : List Section)
    → AreNamedBehind names (before ++ (section ∷ after)) → (other : Section) → Contains before other → is_name section.name other.name ≡ false
earlier_name names [] section after named other at = absurd (no_member [] other refl at)
earlier_name names (x ∷ before) section after named other at =
    elim (member_cases x before other at) [
      | inl same ↦
          subst (λ (s : Section). is_name section.name s.name ≡ false) same
          (other_name (names ++ (x.name ∷ [])) before section after named.2 x.name (last_member names x.name))
      | inr later ↦ earlier_name (names ++ (x.name ∷ [])) before section after named.2 other later
    ]
  where
    last_member : (xs : List (Option (List ℕ))) (x : Option (List ℕ)) → Contains (xs ++ (x ∷ [])) x
    last_member [] x = first_member x []
    last_member (y ∷ xs) x = later_member y (xs ++ (x ∷ [])) x (last_member xs x)

-- two names of which one is that of a database, and not the other
other_partner : (a b name : Option (List ℕ)) → is_name a name ≡ true → is_name a b ≡ false → is_name b name ≡ false
other_partner None None name is other = absurd (cc other)
other_partner None (Some b) None is other = refl
other_partner None (Some b) (Some name) is other = absurd (cc is)
other_partner (Some a) None None is other = absurd (cc is)
other_partner (Some a) None (Some name) is other = refl
other_partner (Some a) (Some b) None is other = absurd (cc is)
other_partner (Some a) (Some b) (Some name) is other =
    false_from_ne_true (bytes_eq b name) (λ same.
    true≢false (sym (eq_self a) ∙ ap (bytes_eq a) (eq_same a name is ∙ sym (eq_same b name same)) ∙ other))

-- the partner of a section is no earlier section's
still_there : (before : List Section) (section : Section) (after : List Section) (database : Section) → AreNamedBehind [] (before ++ (section ∷ after))
    → is_partner section database ≡ true → still before database ≡ Some database
still_there before section after database named partner =
    ap (λ b. cond (not b) (Some database) None)
    (none_pass (λ s. is_partner s database) before (λ other at.
    other_partner section.name other.name database.name partner (earlier_name [] before section after named other at)))

-- What stands in the places once one more section took its partner.

still_by : (before : List Section) (section database : Section) → is_partner section database ≡ false
    → still (before ++ (section ∷ [])) database ≡ still before database
still_by before section database other =
    ap (λ b. cond (not b) (Some database) None)
    (list_any-append (λ s. is_partner s database) before (section ∷ [])
    ∙ ap (λ b. list_any (λ s. is_partner s database) before || (b || false)) other ∙ or_none (list_any (λ s. is_partner s database) before))
  where
    or_none : (b : Bool) → (b || (false || false)) ≡ b
    or_none true = refl
    or_none false = refl

gone : (before : List Section) (section database : Section) → is_partner section database ≡ true → still (before ++ (section ∷ [])) database ≡ None
gone before section database partner =
    ap (λ b. cond (not b) (Some database) None)
    (list_any-append (λ s. is_partner s database) before (section ∷ [])
    ∙ ap (λ b. list_any (λ s. is_partner s database) before || (b || false)) partner ∙ or_one (list_any (λ s. is_partner s database) before))
  where
    or_one : (b : Bool) → (b || (true || false)) ≡ true
    or_one true = refl
    or_one false = refl

all_still : (before : List Section) (section : Section) (all : List Section)
    → ((database : Section) → Contains all database → is_partner section database ≡ false)
    → map (still (before ++ (section ∷ []))) all ≡ map (still before) all
all_still before section [] other = refl
all_still before section (x ∷ xs) other =
    ap (λ y. y ∷ map (still (before ++ (section ∷ []))) xs) (still_by before section x (other x (first_member x xs)))
    ∙ ap (λ ys. still before x ∷ ys) (all_still before section xs (λ database at. other database (later_member x xs database at)))

-- none is found exactly where none passes
none_found : {X : Type 0} (test : X → Bool) (xs : List X) → find test xs ≡ None → (x : X) → Contains xs x → test x ≡ false
none_found test [] none x at = absurd (no_member [] x refl at)
none_found {X} test (y ∷ ys) none x at = by_test (test y) refl none (λ is later. none_found test ys is x later)
  where
    by_test : (b : Bool) → test y ≡ b → cond b (Some y) (find test ys) ≡ None → (find test ys ≡ None → Contains ys x → test x ≡ false) → test x ≡ false
    by_test true passes is rest = absurd (cc is)
    by_test false fails is rest =
        elim (member_cases y ys x at) [ inl same ↦ subst (λ z. test z ≡ false) same fails | inr later ↦ rest is later ]

-- a database of another name than the partner's is no partner
not_partner : (section partner database : Section) → is_partner section partner ≡ true → is_name database.name partner.name ≡ false
    → is_partner section database ≡ false
not_partner section partner database is other = by_names section.name partner.name database.name is other
  where
    by_names : (a b c : Option (List ℕ)) → is_name a b ≡ true → is_name c b ≡ false → is_name a c ≡ false
    by_names None None None is other = absurd (cc other)
    by_names None None (Some c) is other = refl
    by_names None (Some b) c is other = absurd (cc is)
    by_names (Some a) None c is other = absurd (cc is)
    by_names (Some a) (Some b) None is other = refl
    by_names (Some a) (Some b) (Some c) is other =
        false_from_ne_true (bytes_eq a c) (λ same.
        true≢false (sym (eq_self b) ∙ ap (λ (n : List ℕ). bytes_eq n b) (sym (eq_same a b is) ∙ eq_same a c same) ∙ other))

pub own_name : (name : Option (List ℕ)) → is_name name name ≡ true
own_name None = refl
own_name (Some name) = eq_self name

emptied_at : (before : List Section) (section : Section) (all : List Section) (i : ℕ) → AllLater Differs all → i < length all
    → slice_get all i ≡ find (is_partner section) all
    → set (map (still before) all) i None ≡ map (still (before ++ (section ∷ []))) all
emptied_at before section [] i apart within is = absurd (omega (arith, within))
emptied_at before section (x ∷ xs) zero apart within is =
    let partner : is_partner section x ≡ true = (found_in (is_partner section) (x ∷ xs) x (sym is)).1 in
    ap (λ y. y ∷ map (still before) xs) (sym (gone before section x partner))
    ∙ ap (λ ys. still (before ++ (section ∷ [])) x ∷ ys)
    (sym (all_still before section xs (λ database at. not_partner section x database partner (apart.0 database at))))
emptied_at before section (x ∷ xs) (suc i) apart within is =
    let other : is_partner section x ≡ false = by_test (is_partner section x) refl is in
    ap (λ y. y ∷ set (map (still before) xs) i None) (sym (still_by before section x other))
    ∙ ap (λ ys. still (before ++ (section ∷ [])) x ∷ ys)
    (emptied_at before section xs i apart.1 (omega (arith, within)) (is ∙ ap (λ b. cond b (Some x) (find (is_partner section) xs)) other))
  where
    by_test : (b : Bool) → is_partner section x ≡ b → slice_get xs i ≡ cond b (Some x) (find (is_partner section) xs) → is_partner section x ≡ false
    by_test false fails is = fails
    by_test true passes is =
        let at : Contains xs x = member_of xs i x is in
        absurd (true≢false (sym (own_name x.name) ∙ apart.0 x at))

taken_is : (before : List Section) (section : Section) (after all : List Section) (i : ℕ) → AreNamedBehind [] (before ++ (section ∷ after))
    → i < length all → slice_get all i ≡ find (is_partner section) all
    → get_or (map (still before) all) i None ≡ find (is_partner section) all
taken_is before section after all i named within is = by_list all i within is (λ database found. (found_in (is_partner section) all database found).1)
  where
    by_list : (xs : List Section) (i : ℕ) → i < length xs → slice_get xs i ≡ find (is_partner section) all
        → ((database : Section) → find (is_partner section) all ≡ Some database → is_partner section database ≡ true)
        → get_or (map (still before) xs) i None ≡ find (is_partner section) all
    by_list [] i within is partner = absurd (omega (arith, within))
    by_list (x ∷ xs) zero within is partner = still_there before section after x named (partner x (sym is)) ∙ is
    by_list (x ∷ xs) (suc i) within is partner = by_list xs i (omega (arith, within)) is partner

-- One more section.

module _ (base : Base) (names : HasNames base) (before : List Section) (section : Section) (after : List Section)
    (named : AreNamedBehind [] (before ++ (section ∷ after))) where
  taken_partner : (place : Option ℕ) → IsPlaceOf base.databases (partner_of base section) place
      → taken_at (map (still before) base.databases) place ≡ partner_of base section
  taken_partner None at = at.there
  taken_partner (Some i) at = taken_is before section after base.databases i named at.within at.there

  left_places : (place : Option ℕ) → IsPlaceOf base.databases (partner_of base section) place
      → emptied (map (still before) base.databases) place ≡ map (still (before ++ (section ∷ []))) base.databases
  left_places None at = sym (all_still before section base.databases (none_found (is_partner section) base.databases (sym at.there)))
  left_places (Some i) at = emptied_at before section base.databases i names.differ at.within at.there

pub one_more : (base : Base) (sections : List Section) (places : List (Option Section)) (all : List Section) (placed : Placed) (rest : List Placed)
    → HasNames base → AreNamedBehind [] sections → IsJoinedTo base sections places all (placed ∷ rest)
    → IsJoinedTo base sections (emptied places placed.place) (all ++ (behind base.page_size base.order (taken_at places placed.place) placed.section ∷ [])) rest
one_more base sections places all placed rest names named to =
    let section : Section = placed.section in
    let after : List Section = map placed_section rest in
    let apart : AreNamedBehind [] (to.done ++ (section ∷ after)) = subst (AreNamedBehind []) to.split named in
    let place : IsPlaceOf base.databases (partner_of base section) placed.place = All-head (IsPlaced base) placed rest to.placed in
    let taken : taken_at places placed.place ≡ partner_of base section =
    ap (λ ps. taken_at ps placed.place) to.places_are ∙ taken_partner base names to.done section after apart placed.place place in
    record {
      done = to.done ++ (section ∷ []);
      split = to.split ∙ sym (append_assoc to.done (section ∷ []) after);
      placed = All-tail (IsPlaced base) placed rest to.placed;
      places_are = ap (λ ps. emptied ps placed.place) to.places_are ∙ left_places base names to.done section after apart placed.place place;
      joined_are =
          ap (λ ss. ss ++ (behind base.page_size base.order (taken_at places placed.place) section ∷ [])) to.joined_are
          ∙ ap (λ p. map (joined_section base) to.done ++ (behind base.page_size base.order p section ∷ [])) taken
          ∙ sym (map-append (joined_section base) to.done (section ∷ []));
    }

-- Sections with the places of their partners, and pairs before others.

pub no_places : (places : List (Option ℕ)) → length places ≡ 0 → places ≡ []
no_places [] none = refl
no_places (place ∷ places) none = absurd (omega (arith, none))

pub all_placed : (base : Base) (placed : List Placed) → AllZip (IsPartnerAt base) (map placed_section placed) (map place_placed placed)
    → All (IsPlaced base) placed
all_placed base [] zip = All-nil (IsPlaced base)
all_placed base (x ∷ xs) zip = All-cons (IsPlaced base) x xs zip.0 (all_placed base xs zip.1)

zip_push : (base : Base) (sections : List Section) (places : List (Option ℕ)) (section : Section) (place : Option ℕ)
    → AllZip (IsPartnerAt base) sections places → IsPartnerAt base section place
    → AllZip (IsPartnerAt base) (sections ++ section ∷ []) (places ++ place ∷ [])
zip_push base [] [] section place zip is = (is, tt)
zip_push base [] (y ∷ ys) section place zip is = absurd zip
zip_push base (x ∷ xs) [] section place zip is = absurd zip
zip_push base (x ∷ xs) (y ∷ ys) section place zip is = (zip.0, zip_push base xs ys section place zip.1 is)

one_further : (sections : List Section) (i : ℕ) (section : Section) → i < length sections → section ≡ get_or sections i section
    → take i sections ++ section ∷ [] ≡ take (i + 1) sections
one_further sections i section low at = ap (λ s. take i sections ++ s ∷ []) at ∙ sym (take_more sections i section low)

-- one more section has its place
pub zip_more : (base : Base) (sections : List Section) (i : ℕ) (section : Section) (places : List (Option ℕ)) (place : Option ℕ)
    → i < length sections → section ≡ get_or sections i section → AllZip (IsPartnerAt base) (take i sections) places → IsPartnerAt base section place
    → AllZip (IsPartnerAt base) (take (i + 1) sections) (places ++ place ∷ [])
zip_more base sections i section places place low at zip is =
    subst (λ ss. AllZip (IsPartnerAt base) ss (places ++ place ∷ [])) (one_further sections i section low at)
    (zip_push base (take i sections) places section place zip is)

-- and its errors are looked at
pub errors_more : (base : Base) (alone : Bool) (sections : List Section) (i : ℕ) (section : Section) (first : Option LoadError) → i < length sections
    → section ≡ get_or sections i section → first ≡ fold sooner None (flat_map (onto_errors base alone) (take i sections))
    → fold sooner first (onto_errors base alone section) ≡ fold sooner None (flat_map (onto_errors base alone) (take (i + 1) sections))
errors_more base alone sections i section first low at is =
    ap (λ error. fold sooner error (onto_errors base alone section)) is
    ∙ sym (fold-append sooner None (flat_map (onto_errors base alone) (take i sections)) (onto_errors base alone section))
    ∙ ap (fold sooner None)
    (flat_map_more (onto_errors base alone) [] (take i sections) section ∙ ap (flat_map (onto_errors base alone)) (one_further sections i section low at))

pub turned_placed : (bytes : List ℕ) (places : List Place) (n : ℕ) → ArePlaced bytes places → ArePlaced bytes (drop n places ++ take n places)
turned_placed bytes places n are =
    All-append (IsPlacedIn bytes) (drop n places) (take n places) (All-drop (IsPlacedIn bytes) n places are) (All-take (IsPlacedIn bytes) n places are)

pub turned_pairs : (bytes : List ℕ) (places : List Place) (n : ℕ)
    → placed_pairs bytes (drop n places ++ take n places) ≡ drop n (placed_pairs bytes places) ++ take n (placed_pairs bytes places)
turned_pairs bytes places n =
    map-append (placed_pair bytes) (drop n places) (take n places)
    ∙ (ap (λ ps. ps ++ map (placed_pair bytes) (take n places)) (sym (drop-map (placed_pair bytes) n places))
    ∙ ap (λ ps. drop n (placed_pairs bytes places) ++ ps) (sym (take-map (placed_pair bytes) n places)))

pub turned_again : {X : Type 0} (xs ys : List X) → drop (length xs) (xs ++ ys) ++ take (length xs) (xs ++ ys) ≡ ys ++ xs
turned_again xs ys = ap (λ zs. zs ++ take (length xs) (xs ++ ys)) (drop-append_seam xs ys) ∙ ap (λ zs. ys ++ zs) (take-append_seam xs ys)

pub zip_long : (base : Base) (sections : List Section) (places : List (Option ℕ)) → AllZip (IsPartnerAt base) sections places
    → length places ≡ length sections
zip_long base [] [] zip = refl
zip_long base [] (y ∷ ys) zip = absurd zip
zip_long base (x ∷ xs) [] zip = absurd zip
zip_long base (x ∷ xs) (y ∷ ys) zip = ap suc (zip_long base xs ys zip.1)

pub place_within : (base : Base) (sections : List Section) (places : List (Option Section)) (all : List Section) (placed : Placed) (rest : List Placed)
    → IsJoinedTo base sections places all (placed ∷ rest) → IsWithin (length places) placed.place
place_within base sections places all placed rest to =
    subst (λ n. IsWithin n placed.place) (sym (ap length to.places_are ∙ length-map base.databases (still to.done)))
    (All-head (IsPlaced base) placed rest to.placed).within

-- at first all databases stand in their places
pub at_first : (base : Base) (sections : List Section) (placed : List Placed) → map placed_section placed ≡ sections → All (IsPlaced base) placed
    → IsJoinedTo base sections (map Some base.databases) [] placed
at_first base sections placed are each = record { done = []; split = sym are; placed = each; places_are = refl; joined_are = refl }

left_over : (sections all : List Section) → flat_map option_to_list (map (still sections) all) ≡ filter (is_left sections) all
left_over sections [] = refl
left_over sections (x ∷ xs) = by_test (is_left sections x) (left_over sections xs)
  where
    by_test : (b : Bool) → flat_map option_to_list (map (still sections) xs) ≡ filter (is_left sections) xs
        → option_to_list (cond b (Some x) None) ++ flat_map option_to_list (map (still sections) xs)
        ≡ cond b (x ∷ filter (is_left sections) xs) (filter (is_left sections) xs)
    by_test true rest = ap (λ ys. x ∷ ys) rest
    by_test false rest = rest

-- and at the end those are left that are no section's partners
pub at_end : (base : Base) (sections : List Section) (places : List (Option Section)) (all : List Section) → IsJoinedTo base sections places all []
    → all ++ flat_map option_to_list places ≡ joined base sections
at_end base sections places all to =
    let whole : to.done ≡ sections = sym (append-nil to.done) ∙ sym to.split in
    ap (λ ss. ss ++ flat_map option_to_list places) to.joined_are
    ∙ ap (λ ps. map (joined_section base) to.done ++ flat_map option_to_list ps) to.places_are
    ∙ ap (λ ls. map (joined_section base) to.done ++ ls) (left_over to.done base.databases)
    ∙ ap (joined base) whole

pub nothing_left : (rest : List Placed) → length rest ≡ 0 → rest ≡ []
nothing_left [] none = refl
nothing_left (placed ∷ rest) none = absurd (omega (arith, none))
