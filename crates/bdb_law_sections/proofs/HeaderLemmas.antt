-- What a header that fits says.
use Rattle.std.proofs.Common.{◌≡◌, ◌⊎◌, ℕ, ◌==◌, ◌&&◌, ◌||◌, if◌then◌else◌, Bool, true, false, not, List, [], ◌∷◌, ◌++◌, Option, Some, None, refl, sym, ◌∙◌, ap}
use Rattle.std.proofs.Common.{subst, arith, inl, inr, ◌-◌, ◌*◌, ◌^◌, ◌<◌, ◌≤◌, length, drop, take, length-drop, lit<, ◌+◌, codes, is_none, is_some, nat_le}
use Rattle.std.specs.List.{cons_option, fold, list_all, list_any}
use Rattle.std.proofs.lemmas.Bool.Decides.{nat_tests}
use Rattle.std.proofs.lemmas.Slice.Eq.{bytes_eq-Decides}
use Rattle.std.specs.Str.{bytes_eq}
use Rattle.bdb_text_format.specs.of_format.declared.kinds.Kind.TheVariants.{Queue}
use Rattle.bdb_text_format.specs.of_format.Terms.{digits_value, is_name, is_number, is_page_size}
use Rattle.bdb_text_format.specs.declared.keywords.Judged.TheVariants.{Fits, Bad, LeftOut}
use Rattle.bdb_text_format.specs.Terms.{HeaderLine, Values, conflicts, digit_value, entries, entry_fits, entry_of, fits, fitting, given, gives}
use Rattle.bdb_text_format.specs.Terms.{has_record_type, has_type, header_fits, hex_value, holds_records, is_hex, is_on, judged_number, keyword_fits}
use Rattle.bdb_text_format.specs.Terms.{keyword_named, legal_size, lines_fit, name_in, name_missing, number_or, number_read, or_zero, repeats, settings_in}
use Rattle.bdb_text_format.specs.Terms.{values}
use Rattle.std.proofs.Math.Pow.{pow_mono}
use Rattle.std.proofs.lemmas.Nat.{pow-add}
use Rattle.std.proofs.lemmas.Bool.{and_parts, not-true, or_cases, or_parts, or_right}
use Rattle.bdb_law_sections.specs.Fit.{AreFitSettings}

-- A value that a header gives fits its keyword.

entry_there : (before : List HeaderLine) (entry : Option HeaderLine) → entry_fits before entry ≡ true
    → (found : HeaderLine) × (entry ≡ Some found) × (keyword_fits found (keyword_named found.name) ≡ true)
entry_there before None is = absurd (cc is)
entry_there before (Some entry) is =
    (entry, refl, (and_parts (is_none (given entry.name before)) (keyword_fits entry (keyword_named entry.name)) is).1)

value_if : (name value : List ℕ) (entry : HeaderLine) (others : Option (List ℕ)) (b : Bool) → b ≡ bytes_eq entry.name name
    → (if b then Some entry.value else others) ≡ Some value
    → keyword_fits entry (keyword_named entry.name) ≡ true
    → (others ≡ Some value → (found : HeaderLine) × (found.value ≡ value) × (bytes_eq found.name name ≡ true)
    × (keyword_fits found (keyword_named found.name) ≡ true))
    → (found : HeaderLine) × (found.value ≡ value) × (bytes_eq found.name name ≡ true) × (keyword_fits found (keyword_named found.name) ≡ true)
value_if name value entry others true is given_is fits rest = (entry, (let e : entry.value ≡ value = cc given_is in e), sym is, fits)
value_if name value entry others false is given_is fits rest = rest given_is

pub given_fits : (before lines : List (List ℕ)) (name value : List ℕ) → lines_fit before lines ≡ true
    → given name (entries lines) ≡ Some value
    → (found : HeaderLine) × (found.value ≡ value) × (bytes_eq found.name name ≡ true) × (keyword_fits found (keyword_named found.name) ≡ true)
given_fits before [] name value fit is = absurd (cc is)
given_fits before (line ∷ lines) name value fit is =
    let first = entry_there (entries before) (entry_of line)
    (and_parts (entry_fits (entries before) (entry_of line)) (lines_fit (before ++ (line ∷ [])) lines) fit).0 in
    let rest : lines_fit (before ++ (line ∷ [])) lines ≡ true = (and_parts (entry_fits (entries before) (entry_of line))
    (lines_fit (before ++ (line ∷ [])) lines) fit).1 in
    let there : given name (first.0 ∷ entries lines) ≡ Some value = subst (λ o. given name (cons_option o (entries lines)) ≡ Some value) first.1 is in
    value_if name value first.0 (given name (entries lines)) (bytes_eq first.0.name name) refl there first.2
    (λ e. given_fits (before ++ (line ∷ [])) lines name value rest e)

-- Page sizes.

pub turned : (n m : ℕ) → (n == m) ≡ (m == n)
turned n m = grind (arith, nat_tests)

pub any_turned : (n : ℕ) (sizes : List ℕ) → list_any (λ (size : ℕ). n == size) sizes ≡ list_any (λ (size : ℕ). size == n) sizes
any_turned n [] = refl
any_turned n (size ∷ sizes) =
    ap (λ b. b || list_any (λ (size : ℕ). n == size) sizes) (turned n size) ∙ ap (λ b. (size == n) || b) (any_turned n sizes)

judged_legal : (n : ℕ) (out legal : Bool) → fits (if out then LeftOut else (if legal then Fits else Bad)) ≡ true → legal ≡ true
judged_legal n true legal is = absurd (cc is)
judged_legal n false true is = refl
judged_legal n false false is = absurd (cc is)

read_legal : (number : Option ℕ) → fits (judged_number legal_size (λ n. n == 65536) number) ≡ true → is_page_size (or_zero number) ≡ true
read_legal None is = absurd (cc is)
read_legal (Some n) is =
    sym (any_turned n (512 ∷ 1024 ∷ 2048 ∷ 4096 ∷ 8192 ∷ 16384 ∷ 32768 ∷ [])) ∙ judged_legal n (n == 65536) (legal_size n) is

size_legal : (header : List (List ℕ)) (value : Option (List ℕ)) → lines_fit [] header ≡ true → values header (codes "db_pagesize") ≡ value
    → is_page_size (number_or 4096 value) ≡ true
size_legal header None fit is = refl
size_legal header (Some value) fit is =
    let found = given_fits [] header (codes "db_pagesize") value fit is in
    let named : found.0.name ≡ codes "db_pagesize" = (bytes_eq-Decides found.0.name (codes "db_pagesize")).0 found.2 in
    let judged : keyword_fits found.0 (keyword_named (codes "db_pagesize")) ≡ true =
    subst (λ name. keyword_fits found.0 (keyword_named name) ≡ true) named found.3 in
    subst (λ v. is_page_size (or_zero (number_read v)) ≡ true) found.1 (read_legal (number_read found.0.value) judged)

-- Types.

-- the type of a header is one of the four
abbrev pub IsTyped : Values → Type 0
IsTyped header =
    (header (codes "type") ≡ Some (codes "btree")) ⊎ ((header (codes "type") ≡ Some (codes "hash"))
    ⊎ ((header (codes "type") ≡ Some (codes "recno")) ⊎ (header (codes "type") ≡ Some (codes "queue"))))

judged_word : (out word : Bool) → fits (if out then LeftOut else (if word then Fits else Bad)) ≡ true → word ≡ true
judged_word out word is = judged_legal 0 out word is

is_word : (value word : List ℕ) → bytes_eq value word ≡ true → (some : Option (List ℕ)) → some ≡ Some value → some ≡ Some word
is_word value word same some is = is ∙ ap (λ v. Some v) ((bytes_eq-Decides value word).0 same)

typed_by : (header : Values) (value : List ℕ) → header (codes "type") ≡ Some value
    → list_any (bytes_eq value) (codes "btree" ∷ codes "hash" ∷ codes "recno" ∷ codes "queue" ∷ []) ≡ true → IsTyped header
typed_by header value is any =
    elim (or_cases (bytes_eq value (codes "btree")) (list_any (bytes_eq value) (codes "hash" ∷ codes "recno" ∷ codes "queue" ∷ [])) any) [
      | inl a ↦ inl (is_word value (codes "btree") a (header (codes "type")) is)
      | inr others ↦
          elim (or_cases (bytes_eq value (codes "hash")) (list_any (bytes_eq value) (codes "recno" ∷ codes "queue" ∷ [])) others) [
            | inl b ↦ inr (inl (is_word value (codes "hash") b (header (codes "type")) is))
            | inr more ↦
                elim (or_cases (bytes_eq value (codes "recno")) (list_any (bytes_eq value) (codes "queue" ∷ [])) more) [
                  | inl c ↦ inr (inr (inl (is_word value (codes "recno") c (header (codes "type")) is)))
                  | inr last ↦
                      elim (or_cases (bytes_eq value (codes "queue")) false last) [
                        | inl d ↦ inr (inr (inr (is_word value (codes "queue") d (header (codes "type")) is)))
                        | inr none ↦ absurd (cc none)
                      ]
                ]
          ]
    ]

type_read : (header : List (List ℕ)) (value : Option (List ℕ)) → lines_fit [] header ≡ true → values header (codes "type") ≡ value
    → is_some value ≡ true → IsTyped (values header)
type_read header None fit is some = absurd (cc some)
type_read header (Some value) fit is some =
    let found = given_fits [] header (codes "type") value fit is in
    let named : found.0.name ≡ codes "type" = (bytes_eq-Decides found.0.name (codes "type")).0 found.2 in
    let judged : keyword_fits found.0 (keyword_named (codes "type")) ≡ true =
    subst (λ name. keyword_fits found.0 (keyword_named name) ≡ true) named found.3 in
    let words : List (List ℕ) = codes "btree" ∷ codes "hash" ∷ codes "recno" ∷ codes "queue" ∷ [] in
    let word : list_any (bytes_eq found.0.value) words ≡ true =
    judged_word (bytes_eq found.0.value (codes "heap")) (list_any (bytes_eq found.0.value) words) judged in
    typed_by (values header) value is (subst (λ v. list_any (bytes_eq v) words ≡ true) found.1 word)

-- Numbers are below 2^32.

least : (a b : ℕ) → nat_le a b ≡ true → a ≤ b
least a b is = grind (arith, nat_tests)

within : (a b n : ℕ) → (nat_le a n && nat_le n b) ≡ true → n ≤ b
within a b n is = least n b (and_parts (nat_le a n) (nat_le n b) is).1

hex_short : (text : List ℕ) → is_hex text ≡ true → length text ≤ 10
hex_short text is =
    let prefix = bytes_eq (take 2 text) (codes "0x") in
    let long = nat_le 3 (length text) in
    let short = nat_le (length text) 10 in
    let digits = list_all (λ (digit : ℕ). is_some (digit_value digit)) (drop 2 text) in
    least (length text) 10 (and_parts (prefix && long) short (and_parts (prefix && long && short) digits is).0).1

digit_small : (digit : ℕ) (a b c : Bool) → a ≡ (nat_le 48 digit && nat_le digit 57) → b ≡ (nat_le 97 digit && nat_le digit 102)
    → c ≡ (nat_le 65 digit && nat_le digit 70)
    → or_zero (if a then Some (digit - 48) else (if b then Some (digit - 87) else (if c then Some (digit - 55) else None))) < 16
digit_small digit true b c is_a is_b is_c = let h : digit ≤ 57 = within 48 57 digit (sym is_a) in omega arith
digit_small digit false true c is_a is_b is_c = let h : digit ≤ 102 = within 97 102 digit (sym is_b) in omega arith
digit_small digit false false true is_a is_b is_c = let h : digit ≤ 70 = within 65 70 digit (sym is_c) in omega arith
digit_small digit false false false is_a is_b is_c = omega arith

digits_small : (text : List ℕ) (n k : ℕ) → n < 2 ^ k → fold (λ (m digit : ℕ). 16 * m + or_zero (digit_value digit)) n text < 2 ^ (k + 4 * length text)
digits_small [] n k low = subst (λ j. n < 2 ^ j) (let e : k ≡ k + 4 * 0 = omega arith in e) low
digits_small (digit ∷ text) n k low =
    let d : or_zero (digit_value digit) < 16 =
    digit_small digit (nat_le 48 digit && nat_le digit 57) (nat_le 97 digit && nat_le digit 102) (nat_le 65 digit && nat_le digit 70) refl refl refl in
    let power : 2 ^ (k + 4) ≡ 2 ^ k * 16 = pow-add 2 k 4 in
    let more : 16 * n + or_zero (digit_value digit) < 2 ^ (k + 4) = omega (arith, power, d, low) in
    let e : (k + 4) + 4 * length text ≡ k + 4 * length (digit ∷ text) = omega arith in
    subst (λ j. fold (λ (m one : ℕ). 16 * m + or_zero (digit_value one)) (16 * n + or_zero (digit_value digit)) text < 2 ^ j) e
    (digits_small text (16 * n + or_zero (digit_value digit)) (k + 4) more)

hex_small : (text : List ℕ) (b : Bool) → b ≡ is_hex text → or_zero (if b then Some (hex_value (drop 2 text)) else None) < 2 ^ 32
hex_small text false is = lit< tt
hex_small text true is =
    let short : length text ≤ 10 = hex_short text (sym is) in
    let low : hex_value (drop 2 text) < 2 ^ (0 + 4 * length (drop 2 text)) = digits_small (drop 2 text) 0 0 (lit< tt) in
    let few : 0 + 4 * length (drop 2 text) ≤ 32 = omega (arith, length-drop 2 text, short) in
    let most : 2 ^ (0 + 4 * length (drop 2 text)) ≤ 2 ^ 32 = pow_mono few in omega (arith, low, most)

fitting_small : (n : ℕ) (b : Bool) → b ≡ nat_le n 4294967295 → or_zero (if b then Some n else None) < 2 ^ 32
fitting_small n false is = lit< tt
fitting_small n true is = let h : n ≤ 4294967295 = least n 4294967295 (sym is) in omega arith

read_small : (text : List ℕ) (b : Bool) → or_zero (if b then fitting (digits_value text) else (if is_hex text then Some (hex_value (drop 2 text)) else None)) <
    2 ^ 32
read_small text true = fitting_small (digits_value text) (nat_le (digits_value text) 4294967295) refl
read_small text false = hex_small text (is_hex text) refl

number_small : (value : Option (List ℕ)) → number_or 0 value < 2 ^ 32
number_small None = lit< tt
number_small (Some value) = read_small value (is_number value)

-- Settings.

pub record HeaderSays (header : Values) : Type 0 where
  pub typed : IsTyped header
  pub size : is_page_size (number_or 4096 (header (codes "db_pagesize"))) ≡ true
  pub no_conflict : conflicts header ≡ false

both : (a b c : Bool) → (a && (b || c)) ≡ false → a ≡ true → c ≡ false
both true b c is on = (or_parts b c is).1
both false b c is on = absurd (cc on)

-- pairs are counted only where there are no duplicates
counted_alone : (header : Values) → conflicts header ≡ false → is_on (codes "recnum") header ≡ true → repeats header ≡ false
counted_alone header none on =
    let records = repeats header && has_record_type header in
    let counts = is_on (codes "recnum") header && (not (has_type (codes "btree") header) || repeats header) in
    let renumbers = is_on (codes "renumber") header && not (has_type (codes "recno") header) in
    let keyless = gives (codes "keys") (codes "0") header && (has_type (codes "btree") header || has_type (codes "hash") header) in
    let narrow = has_type (codes "queue") header && (number_or 0 (header (codes "re_len")) == 0) in
    both (is_on (codes "recnum") header) (not (has_type (codes "btree") header)) (repeats header)
    (or_parts _ _ (or_parts _ _ (or_parts _ _ (or_parts _ _ none).0).0).0).1 on

not_narrow : (header : Values) → conflicts header ≡ false → has_type (codes "queue") header ≡ true → (number_or 0 (header (codes "re_len")) == 0) ≡ false
not_narrow header none queue =
    let records = repeats header && has_record_type header in
    let counts = is_on (codes "recnum") header && (not (has_type (codes "btree") header) || repeats header) in
    let renumbers = is_on (codes "renumber") header && not (has_type (codes "recno") header) in
    let keyless = gives (codes "keys") (codes "0") header && (has_type (codes "btree") header || has_type (codes "hash") header) in
    let narrow = has_type (codes "queue") header && (number_or 0 (header (codes "re_len")) == 0) in
    both (has_type (codes "queue") header) false (number_or 0 (header (codes "re_len")) == 0)
    (or_parts (records || counts || renumbers || keyless) narrow none).1 queue

-- the records of a queue have bytes
pub records_have_bytes : (header : Values) → HeaderSays header → (settings_in header).kind ≡ Queue → ((settings_in header).re_len == 0) ≡ false
records_have_bytes header says =
    elim says.typed [
      | inl btree ↦ rw btree (λ queue. absurd (cc queue))
      | inr other ↦ elim other [
        | inl hash ↦ rw hash (λ queue. absurd (cc queue))
        | inr records ↦ elim records [
          | inl recno ↦ rw recno (λ queue. absurd (cc queue))
          | inr queue ↦
              let is_queue : has_type (codes "queue") header ≡ true = rw queue refl in
              let narrow = not_narrow header says.no_conflict is_queue in
              rw queue (λ same. narrow)
        ]
      ]
    ]

pub settings_fit : (header : Values) → HeaderSays header → AreFitSettings (settings_in header)
settings_fit header says =
    elim says.typed [
      | inl btree ↦ rw btree (record {
        page_size = says.size;
        sorted = λ on. or_right (is_on (codes "duplicates") header) (is_on (codes "dupsort") header) on;
        counted = λ on. counted_alone header says.no_conflict on;
        records = λ on. absurd (cc on);
        re_len = lit< tt;
        fixed = λ queue. absurd (cc queue);
      })
      | inr other ↦ elim other [
        | inl hash ↦ rw hash (record {
          page_size = says.size;
          sorted = λ on. or_right (is_on (codes "duplicates") header) (is_on (codes "dupsort") header) on;
          counted = λ on. absurd (cc on);
          records = λ on. absurd (cc on);
          re_len = lit< tt;
          fixed = λ queue. absurd (cc queue);
        })
        | inr records ↦ elim records [
          | inl recno ↦ rw recno (record {
            page_size = says.size;
            sorted = λ on. absurd (cc on);
            counted = λ on. absurd (cc on);
            records = λ on. refl;
            re_len = number_small (header (codes "re_len"));
            fixed = λ queue. absurd (cc queue);
          })
          | inr queue ↦ rw queue (record {
            page_size = says.size;
            sorted = λ on. absurd (cc on);
            counted = λ on. absurd (cc on);
            records = λ on. refl;
            re_len = number_small (header (codes "re_len"));
            fixed = λ same. refl;
          })
        ]
      ]
    ]

-- a section holds records where its header says so
pub records_held : (header : Values) → IsTyped header → holds_records (settings_in header).kind ≡ has_record_type header
records_held header typed =
    elim typed [
      | inl btree ↦ rw btree refl
      | inr other ↦ elim other [
        | inl hash ↦ rw hash refl
        | inr records ↦ elim records [ inl recno ↦ rw recno refl | inr queue ↦ rw queue refl ]
      ]
    ]

-- what is so of a header that fits, behind sections of these names
pub record IsFitHeader (names : List (Option (List ℕ))) (header : List (List ℕ)) : Type 0 where
  pub says : HeaderSays (values header)
  pub there : name_missing names (name_in (values header)) ≡ false
  pub apart : list_any (is_name (name_in (values header))) names ≡ false

pub fit_header : (names : List (Option (List ℕ))) (header : List (List ℕ)) → header_fits names header ≡ true → IsFitHeader names header
fit_header names header fit =
    let lines = lines_fit [] header in
    let typed = is_some (values header (codes "type")) in
    let conflict = conflicts (values header) in
    let missing = name_missing names (name_in (values header)) in
    let twice = list_any (is_name (name_in (values header))) names in
    let rest : (typed && (not conflict && (not missing && not twice))) ≡ true = (and_parts lines (typed && (not conflict && (not missing && not twice))) fit).1
    in
    let more : (not conflict && (not missing && not twice)) ≡ true = (and_parts typed (not conflict && (not missing && not twice)) rest).1 in
    let last : (not missing && not twice) ≡ true = (and_parts (not conflict) (not missing && not twice) more).1 in
    let fits : lines ≡ true = (and_parts lines (typed && (not conflict && (not missing && not twice))) fit).0 in
    record {
      says = record {
        typed = type_read header (values header (codes "type")) fits refl (and_parts typed (not conflict && (not missing && not twice)) rest).0;
        size = size_legal header (values header (codes "db_pagesize")) fits refl;
        no_conflict = not-true conflict (and_parts (not conflict) (not missing && not twice) more).0;
      };
      there = not-true missing (and_parts (not missing) (not twice) last).0;
      apart = not-true twice (and_parts (not missing) (not twice) last).1;
    }
