-- A list in its order is loaded as it is.
use Rattle.std.proofs.Common.{◌≡◌, ℕ, ◌-◌, Bool, true, false, not, cond, List, [], ◌∷◌, ◌++◌, length, map, append-nil, append_assoc, arith, refl, sym, ◌∙◌, ap}
use Rattle.std.proofs.Common.{subst, inl, inr, ◌⊎◌, ◌&&◌, ◌||◌, ◌%◌, replicate, All, Contains, fold}
use Rattle.bdb_databases.specs.of_format.declared.settings.Settings.{Settings}
use Rattle.bdb_databases.specs.of_format.Terms.{BytesKey, ListKey, NumberKey, less}
use Rattle.bdb_databases.proofs.of_format.ListLemmas.{all_of, only_member}
use Rattle.bdb_databases.proofs.of_format.MemberLemmas.{first_member, later_member, no_member}
use Rattle.bdb_databases.proofs.of_format.LessLemmas.{less_not_back}
use Rattle.std.proofs.lemmas.List.Elements.{Contains-append_cases}
use Rattle.bdb_settle.specs.of_text_format.declared.pairs.Pair.{Pair}
use Rattle.bdb_settle.specs.of_text_format.declared.pairs.Key.{Key}
use Rattle.bdb_settle.specs.of_text_format.declared.pairs.Key.TheVariants.{Bytes, Number}
use Rattle.bdb_settle.specs.of_text_format.declared.pairs.TextPair.{TextPair}
use Rattle.bdb_settle.specs.of_text_format.Terms.{listed, listed_key}
use Rattle.bdb_settle.specs.Loaded.{loaded_pair, has_length, keeps_data, key_less, loaded, put, sorts_data, stands_before, with_loaded}
use Rattle.bdb_settle.specs.Settling.{stays}
use Rattle.bdb_settle.proofs.KeyOrderLemmas.{key_less_self, key_one_way, pairs_weakly}
use Rattle.bdb_settle.proofs.PutLemmas.{put_behind}
use Rattle.bdb_text.specs.WrittenLaw.{key_in, pair_in}
use Rattle.bdb_law_kept.specs.Later.{AllLater}
use Rattle.bdb_law_kept.proofs.LaterLemmas.{later_map, later_other}

-- Pairs put in turn.

abbrev pub Stays : Settings → Pair → Pair → Type 0
Stays settings a b = stays (stands_before settings) (keeps_data settings) b a ≡ true

-- pairs that stay behind those that are done, and behind each other, are put at the end in turn
put_in_turn : (settings : Settings) (done rest : List Pair) → ((a b : Pair) → Contains done a → Contains rest b → Stays settings a b)
    → AllLater (Stays settings) rest → fold (with_loaded settings) done rest ≡ done ++ rest
put_in_turn settings done [] across later = sym (append-nil done)
put_in_turn settings done (pair ∷ rest) across later =
    let all : All (λ other. stays (stands_before settings) (keeps_data settings) pair other ≡ true) done =
    all_of (λ other. stays (stands_before settings) (keeps_data settings) pair other ≡ true) done
    (λ a at. across a pair at (first_member pair rest)) in
    let here : with_loaded settings done pair ≡ done ++ pair ∷ [] =
    ap (put (stands_before settings) (keeps_data settings) pair) (sym (append-nil done))
    ∙ put_behind (stands_before settings) (pairs_weakly settings) (keeps_data settings) pair done [] all in
    ap (λ l. fold (with_loaded settings) l rest) here
    ∙ (put_in_turn settings (done ++ pair ∷ []) rest
    (λ a b at_a at_b. elim (Contains-append_cases done (pair ∷ []) a at_a) [
      | inl before ↦ across a b before (later_member pair rest b at_b)
      | inr last ↦ subst (λ x. Stays settings x b) (only_member pair a last) (later.0 b at_b)
    ]) later.1
    ∙ append_assoc done (pair ∷ []) rest)

-- Pairs of lists.

-- a key of a list as a key of a pair
abbrev pub key_out : ListKey → Key
key_out (BytesKey bytes) = Bytes bytes
key_out (NumberKey number) = Number number

abbrev pub pair_out : (ListKey × List ℕ) → Pair
pair_out (key, value) = record { key = key_out key; value = value }

-- a pair comes before another: its key is less, or it is the same, and data are kept as they come or ascend
abbrev pub ComesBefore : Settings → (ListKey × List ℕ) → (ListKey × List ℕ) → Type 0
ComesBefore settings a b =
    (key_less (key_out a.0) (key_out b.0) ≡ true)
    ⊎ ((a.0 ≡ b.0) × ((keeps_data settings ≡ true) ⊎ ((sorts_data settings ≡ true) × (less a.1 b.1 ≡ true))))

-- each comes before all later ones
abbrev pub InOrder : Settings → List (ListKey × List ℕ) → Type 0
InOrder settings list = AllLater (ComesBefore settings) list

either_way : (ab ba sorts keeps m m' : Bool) → (ab ≡ true → ba ≡ false) → ab ≡ true
    → (not (ba || (not ab && (sorts && m'))) && ((ab || (not ba && (sorts && m))) || keeps)) ≡ true
either_way ab ba sorts keeps m m' one is = rw (is, one is) refl

same_keys : (ab ba sorts keeps m m' : Bool) → ab ≡ false → ba ≡ false → (m ≡ true → m' ≡ false) → (keeps ≡ true → sorts ≡ false)
    → ((keeps ≡ true) ⊎ ((sorts ≡ true) × (m ≡ true)))
    → (not (ba || (not ab && (sorts && m'))) && ((ab || (not ba && (sorts && m))) || keeps)) ≡ true
same_keys ab ba sorts keeps m m' ahead back one apart (inl kept) = grind (arith, kept, apart kept, ahead, back)
same_keys ab ba sorts keeps m m' ahead back one apart (inr (sorted, less)) = grind (arith, sorted, less, one less, ahead, back)

not_both : (dup sorted records : Bool) → (dup && not sorted && not records) ≡ true → (sorted && not records) ≡ false
not_both dup sorted records kept = grind (arith, kept)

pub comes_stays : (settings : Settings) (a b : ListKey × List ℕ) → ComesBefore settings a b → Stays settings (pair_out a) (pair_out b)
comes_stays settings a b (inl below) =
    either_way (key_less (key_out a.0) (key_out b.0)) (key_less (key_out b.0) (key_out a.0)) (sorts_data settings) (keeps_data settings)
    (less a.1 b.1) (less b.1 a.1) (key_one_way (key_out a.0) (key_out b.0)) below
comes_stays settings a b (inr (same, kept)) =
    let ahead : key_less (key_out a.0) (key_out b.0) ≡ false =
    ap (λ k. key_less (key_out a.0) (key_out k)) (sym same) ∙ key_less_self (key_out a.0) in
    let back : key_less (key_out b.0) (key_out a.0) ≡ false = ap (λ k. key_less (key_out k) (key_out a.0)) (sym same) ∙ key_less_self (key_out a.0) in
    same_keys (key_less (key_out a.0) (key_out b.0)) (key_less (key_out b.0) (key_out a.0)) (sorts_data settings) (keeps_data settings)
    (less a.1 b.1) (less b.1 a.1) ahead back (less_not_back a.1 b.1)
    (not_both settings.duplicates settings.sorted _) kept

-- a record has the fixed length, where there is one
abbrev pub HasItsLength : Settings → (ListKey × List ℕ) → Type 0
HasItsLength settings pair = has_length settings ≡ true → length pair.1 ≡ settings.re_len

unfilled : (settings : Settings) (pair : TextPair) → HasItsLength settings (pair_in pair) → loaded_pair settings pair ≡ pair_out (pair_in pair)
unfilled settings pair long = by_key pair.key (has_length settings) long
  where
    none_more : (n : ℕ) → length pair.value ≡ n → pair.value ++ replicate (n - length pair.value) (settings.re_pad % 256) ≡ pair.value
    none_more n is =
        let none : n - length pair.value ≡ 0 = omega (arith, is) in
        ap (λ k. pair.value ++ replicate k (settings.re_pad % 256)) none ∙ append-nil pair.value

    by_length : (key : Key) (b : Bool) → (b ≡ true → length pair.value ≡ settings.re_len)
        → ◌≡◌ {A = Pair} (record {
          key = key;
          value = cond b (pair.value ++ replicate (settings.re_len - length pair.value)
              (settings.re_pad % 256)) pair.value;
        })
        (record { key = key; value = pair.value })
    by_length key true is = ap (λ (v : List ℕ). record { key = key; value = v }) (none_more settings.re_len (is refl))
    by_length key false is = refl

    by_key : (key : Key) (b : Bool) → (b ≡ true → length pair.value ≡ settings.re_len)
        → ◌≡◌ {A = Pair} (record {
          key = key;
          value = cond b (pair.value ++ replicate (settings.re_len - length pair.value)
              (settings.re_pad % 256)) pair.value;
        })
        (pair_out (key_in key, pair.value))
    by_key (Bytes bytes) b is = by_length (Bytes bytes) b is
    by_key (Number number) b is = by_length (Number number) b is

pub all_unfilled : (settings : Settings) (pairs : List TextPair)
    → ((pair : ListKey × List ℕ) → Contains (map pair_in pairs) pair → HasItsLength settings pair)
    → map (loaded_pair settings) pairs ≡ map pair_out (map pair_in pairs)
all_unfilled settings [] long = refl
all_unfilled settings (pair ∷ pairs) long =
    ap (λ p. p ∷ map (loaded_pair settings) pairs) (unfilled settings pair (long (pair_in pair) (first_member (pair_in pair) (map pair_in pairs))))
    ∙ ap (λ ps. pair_out (pair_in pair) ∷ ps)
    (all_unfilled settings pairs (λ other at. long other (later_member (pair_in pair) (map pair_in pairs) other at)))

listed_out : (pair : ListKey × List ℕ) → (listed_key (pair_out pair).key, (pair_out pair).value) ≡ pair
listed_out (BytesKey bytes, value) = refl
listed_out (NumberKey number, value) = refl

pub all_listed : (list : List (ListKey × List ℕ)) → listed (map pair_out list) ≡ list
all_listed [] = refl
all_listed (pair ∷ list) =
    ap (λ p. p ∷ listed (map pair_out list)) (listed_out pair) ∙ ap (λ ps. pair ∷ ps) (all_listed list)

-- pairs in their order, whose records have the fixed length, are loaded as they are
pub loads_as_it_is : (settings : Settings) (pairs : List TextPair) (list : List (ListKey × List ℕ)) → map pair_in pairs ≡ list
    → InOrder settings list → ((pair : ListKey × List ℕ) → Contains list pair → HasItsLength settings pair)
    → listed (loaded settings pairs) ≡ list
loads_as_it_is settings pairs list is ordered long =
    let unfilled_all : map (loaded_pair settings) pairs ≡ map pair_out list =
    all_unfilled settings pairs (λ pair at. long pair (subst (λ l. Contains l pair) is at)) ∙ ap (map pair_out) is in
    let put : fold (with_loaded settings) [] (map pair_out list) ≡ map pair_out list =
    put_in_turn settings [] (map pair_out list) (λ a b at_a at_b. absurd (no_member [] a refl at_a))
    (later_map (Stays settings) pair_out list
    (later_other (ComesBefore settings) (λ a b. Stays settings (pair_out a) (pair_out b)) list
    (λ a b at_a at_b. comes_stays settings a b) ordered)) in
    ap listed (ap (fold (with_loaded settings) []) unfilled_all ∙ put) ∙ all_listed list
