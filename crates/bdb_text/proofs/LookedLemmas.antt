-- What the header of a written section gives.
use Rattle.std.proofs.Common.{◌≡◌, ℕ, ◌^◌, ◌<◌, ◌==◌, ◌&&◌, ◌||◌, Bool, true, false, not, if◌then◌else◌, List, [], length, Option, Some, None, is_some, refl}
use Rattle.std.proofs.Common.{sym, ap, ◌∙◌, codes, arith, decimal, unwrap_or, nat_le}
use Rattle.std.specs.List.{list_any}
use Rattle.std.proofs.lemmas.Bool.{true≢false, eqb-true, and_parts, leb-true, leb-false, ne_eqb}
use Rattle.bdb_spelling.specs.of_format.declared.kinds.Kind.{Kind}
use Rattle.bdb_spelling.specs.of_format.declared.kinds.Kind.TheVariants.{Btree, Recno, Hash, Queue}
use Rattle.bdb_spelling.specs.of_format.declared.kinds.Order.{Order}
use Rattle.bdb_spelling.specs.of_format.declared.kinds.Order.TheVariants.{Big, Little}
use Rattle.bdb_spelling.specs.of_format.declared.settings.Settings.{Settings}
use Rattle.bdb_spelling.specs.of_format.Terms.{ListKey, Row}
use Rattle.bdb_spelling.specs.of_text_format.Terms.{HeaderLine, Values, any_number, conflicts, entry_line, fits, format_text, has_keys, has_record_type}
use Rattle.bdb_spelling.specs.of_text_format.Terms.{header_lines, header_table, holds_records, is_value, keyword_fits, keyword_named, kind_text, legal_size}
use Rattle.bdb_spelling.specs.of_text_format.Terms.{name_in, number_or, or_zero, order_in, order_text, prints, settings_in, spelling, ◌=:◌}
use Rattle.bdb_text.proofs.LawLemmas.{spelled_read}
use Rattle.bdb_spelling.specs.of_text_format.declared.keywords.Judged.TheVariants.{Fits, Bad}
use Rattle.bdb_text.specs.WrittenLaw.{AreBytes, CanBeWritten, in_conflict}
use Rattle.bdb_text.proofs.LineLemmas.{has_feed, looked_up, table_fits}
use Rattle.bdb_text.proofs.ValueLemmas.{decimal-no_feed, number_read-decimal, spelling-no_feed}

abbrev pub made : Kind → ℕ → Order → Bool → Bool → Bool → Bool → Bool → ℕ → ℕ → ℕ → ℕ → Settings
made kind page_size order duplicates sorted recnum renumber fixed re_len re_pad minkey ffactor = record {
  kind = kind;
  page_size = page_size;
  order = order;
  duplicates = duplicates;
  sorted = sorted;
  recnum = recnum;
  renumber = renumber;
  fixed = fixed;
  re_len = re_len;
  re_pad = re_pad;
  minkey = minkey;
  ffactor = ffactor;
}

abbrev pub looked : Bool → Option (List ℕ) → Settings → Values
looked print name settings = λ keyword. looked_up keyword (header_table print name settings)

-- Conflicts.

no_conflict_by : (print : Bool) (name : Option (List ℕ)) (kind : Kind) (p : ℕ) (o : Order) (d s r n x : Bool) (l q m f : ℕ) → l < 2 ^ 32
    → in_conflict (made kind p o d s r n x l q m f) ≡ false → conflicts (looked print name (made kind p o d s r n x l q m f)) ≡ false
no_conflict_by print name Btree p o false false true n x l q m f len h = refl
no_conflict_by print name Btree p o true s true n x l q m f len h = absurd (true≢false h)
no_conflict_by print name Btree p o false true true n x l q m f len h = absurd (true≢false h)
no_conflict_by print name Btree p o true s false n x l q m f len h = refl
no_conflict_by print name Btree p o false true false n x l q m f len h = refl
no_conflict_by print name Btree p o false false false n x l q m f len h = refl
no_conflict_by print name Hash p o true s r n x l q m f len h = refl
no_conflict_by print name Hash p o false true r n x l q m f len h = refl
no_conflict_by print name Hash p o false false r n x l q m f len h = refl
no_conflict_by print name Recno p o d s r true x l q m f len h = refl
no_conflict_by print name Recno p o d s r false x l q m f len h = refl
no_conflict_by print name Queue p o d s r n x l q m f len h =
    ap (λ (value : Option ℕ). or_zero value == 0) (number_read-decimal l len) ∙ h

pub no_conflict : (print : Bool) (name : Option (List ℕ)) (settings : Settings) → settings.re_len < 2 ^ 32 → in_conflict settings ≡ false
    → conflicts (looked print name settings) ≡ false
no_conflict print name settings len h =
    no_conflict_by print name settings.kind settings.page_size settings.order settings.duplicates settings.sorted settings.recnum settings.renumber
    settings.fixed
    settings.re_len settings.re_pad settings.minkey settings.ffactor len h

-- Keys, spelling and name.

prints_by : (print : Bool) → is_value (codes "print") (Some (format_text print)) ≡ print
prints_by true = refl
prints_by false = refl

pub prints-looked : (print : Bool) (name : Option (List ℕ)) (settings : Settings) → prints (looked print name settings) ≡ print
prints-looked print name settings = prints_by print

records_by : (print : Bool) (name : Option (List ℕ)) (kind : Kind) (p : ℕ) (o : Order) (d s r n x : Bool) (l q m f : ℕ)
    → has_record_type (looked print name (made kind p o d s r n x l q m f)) ≡ holds_records kind
records_by print name Btree p o d s r n x l q m f = refl
records_by print name Hash p o d s r n x l q m f = refl
records_by print name Recno p o d s r n x l q m f = refl
records_by print name Queue p o d s r n x l q m f = refl

pub records-looked : (print : Bool) (name : Option (List ℕ)) (settings : Settings) → has_record_type (looked print name settings) ≡ holds_records settings.kind
records-looked print name settings =
    records_by print name settings.kind settings.page_size settings.order settings.duplicates settings.sorted settings.recnum settings.renumber settings.fixed
    settings.re_len settings.re_pad settings.minkey settings.ffactor

keys_by : (print : Bool) (name : Option (List ℕ)) (kind : Kind) (p : ℕ) (o : Order) (d s r n x : Bool) (l q m f : ℕ)
    → has_keys (looked print name (made kind p o d s r n x l q m f)) ≡ true
keys_by print name Btree p o d s r n x l q m f = refl
keys_by print name Hash p o d s r n x l q m f = refl
keys_by print name Recno p o d s r n x l q m f = refl
keys_by print name Queue p o d s r n x l q m f = refl

pub keys-looked : (print : Bool) (name : Option (List ℕ)) (settings : Settings) → has_keys (looked print name settings) ≡ true
keys-looked print name settings =
    keys_by print name settings.kind settings.page_size settings.order settings.duplicates settings.sorted settings.recnum settings.renumber settings.fixed
    settings.re_len settings.re_pad settings.minkey settings.ffactor

pub name-looked : (print : Bool) (name : Option (List ℕ)) (settings : Settings) → AreBytes (unwrap_or name []) → name_in (looked print name settings) ≡ name
name-looked print None settings h = refl
name-looked print (Some bytes) settings h = spelled_read true bytes h

-- Each line fits.

fits_format : (print : Bool) → keyword_fits (codes "format" =: format_text print) (keyword_named (codes "format")) ≡ true
fits_format true = refl
fits_format false = refl

fits_name : (bytes : List ℕ) → AreBytes bytes → keyword_fits (codes "database" =: spelling true bytes) (keyword_named (codes "database")) ≡ true
fits_name bytes h = ap (λ (read : Option (List ℕ)). fits (if is_some read then Fits else Bad)) (spelled_read true bytes h)

fits_any : (n : ℕ) → n < 2 ^ 32 → fits (any_number (decimal n)) ≡ true
fits_any n h = let read = number_read-decimal n h in rw read refl

-- a legal page size is small
pub legal_below : (n : ℕ) → legal_size n ≡ true → n < 2 ^ 32
legal_below n legal =
    elim (nat_le n 32768) as (λ small. nat_le n 32768 ≡ small → n < 2 ^ 32) [
      | true ↦ λ is. let few = leb-true n 32768 is in omega arith
      | false ↦ λ is.
          let large = leb-false n 32768 is in
          let none : legal_size n ≡ false = rw (
            ne_eqb n 512 (omega arith),
            ne_eqb n 1024 (omega arith),
            ne_eqb n 2048 (omega arith),
            ne_eqb n 4096 (omega arith),
            ne_eqb n 8192 (omega arith),
            ne_eqb n 16384 (omega arith),
            ne_eqb n 32768 (omega arith),
          ) refl in
          absurd (true≢false (sym legal ∙ none))
    ] refl

large_is_not_legal : (n : ℕ) (large : Bool) → (n == 65536) ≡ large → legal_size n ≡ true → large ≡ false
large_is_not_legal n true e h =
    let same : n ≡ 65536 = eqb-true n 65536 e in
    absurd (true≢false (sym h ∙ ap legal_size same))
large_is_not_legal n false e h = refl

fits_size : (n : ℕ) → n < 2 ^ 32 → legal_size n ≡ true → keyword_fits (codes "db_pagesize" =: decimal n) (keyword_named (codes "db_pagesize")) ≡ true
fits_size n small h =
    let read = number_read-decimal n small in
    let other = large_is_not_legal n (n == 65536) refl h in
    rw (read, other, h) refl

fits_type : (kind : Kind) → keyword_fits (codes "type" =: kind_text kind) (keyword_named (codes "type")) ≡ true
fits_type Btree = refl
fits_type Hash = refl
fits_type Recno = refl
fits_type Queue = refl

fits_order : (order : Order) → keyword_fits (codes "db_lorder" =: order_text order) (keyword_named (codes "db_lorder")) ≡ true
fits_order Little = refl
fits_order Big = refl

pub table_fits-header : (print : Bool) (name : Option (List ℕ)) (settings : Settings) (list : List (ListKey × List ℕ)) → CanBeWritten name settings list
    → table_fits [] (header_table print name settings) ≡ true
table_fits-header print name settings list can =
    let format = fits_format print in
    let named = fits_name (unwrap_or name []) can.name_bytes in
    let typed = fits_type settings.kind in
    let size = fits_size settings.page_size (legal_below settings.page_size can.page_size) can.page_size in
    let order = fits_order settings.order in
    let minkey = fits_any settings.minkey can.minkey in
    let ffactor = fits_any settings.ffactor can.ffactor in
    let len = fits_any settings.re_len can.re_len in
    let pad = fits_any settings.re_pad can.re_pad in
    rw (format, named, typed, size, order, minkey, ffactor, len, pad) refl

-- No line has a line feed.

feeds_format : (print : Bool) → has_feed (format_text print) ≡ false
feeds_format true = refl
feeds_format false = refl

feeds_kind : (kind : Kind) → has_feed (kind_text kind) ≡ false
feeds_kind Btree = refl
feeds_kind Hash = refl
feeds_kind Recno = refl
feeds_kind Queue = refl

feeds_order : (order : Order) → has_feed (order_text order) ≡ false
feeds_order Little = refl
feeds_order Big = refl

pub table_feeds : (print : Bool) (name : Option (List ℕ)) (settings : Settings) (list : List (ListKey × List ℕ)) → CanBeWritten name settings list
    → list_any (λ (row : Row HeaderLine). has_feed (entry_line row.code)) (header_table print name settings) ≡ false
table_feeds print name settings list can =
    let format = feeds_format print in
    let named = spelling-no_feed true (unwrap_or name []) in
    let typed = feeds_kind settings.kind in
    let size = decimal-no_feed settings.page_size (legal_below settings.page_size can.page_size) in
    let order = feeds_order settings.order in
    let minkey = decimal-no_feed settings.minkey can.minkey in
    let ffactor = decimal-no_feed settings.ffactor can.ffactor in
    let len = decimal-no_feed settings.re_len can.re_len in
    let pad = decimal-no_feed settings.re_pad can.re_pad in
    rw (format, named, typed, size, order, minkey, ffactor, len, pad) refl

-- The settings that the header gives show in the same lines.

on_by : (b : Bool) → is_value (codes "1") (if b then Some (codes "1") else None) ≡ b
on_by true = refl
on_by false = refl

order_by : (order : Order) → (if number_or 1234 (Some (order_text order)) == 4321 then Big else Little) ≡ order
order_by Little = refl
order_by Big = refl

-- a number whose line is left out where it is the usual one
shown_by : (usual n : ℕ) (same : Bool) → (n == usual) ≡ same → n < 2 ^ 32 → number_or usual (if not (n == usual) then Some (decimal n) else None) ≡ n
shown_by usual n true e h = let u : n ≡ usual = eqb-true n usual e in rw e (sym u)
shown_by usual n false e h = let read = number_read-decimal n h in rw (e, read) refl

size_by : (n : ℕ) → n < 2 ^ 32 → number_or 4096 (Some (decimal n)) ≡ n
size_by n h = ap or_zero (number_read-decimal n h)

duplicates_by : (d s : Bool)
    → ((is_value (codes "1") (if d || s then Some (codes "1") else None) || is_value (codes "1") (if s then Some (codes "1") else None))
    || is_value (codes "1") (if s then Some (codes "1") else None)) ≡ (d || s)
duplicates_by true true = refl
duplicates_by true false = refl
duplicates_by false true = refl
duplicates_by false false = refl

same_btree : (print : Bool) (name : Option (List ℕ)) (p q : ℕ) (o u : Order) (d e s t r v n m x y : Bool) (l k a b f g : ℕ) (i j : ℕ)
    → p ≡ q → o ≡ u → (d || s) ≡ (e || t) → s ≡ t → r ≡ v → f ≡ g
    → header_lines print name (made Btree p o d s r n x l a f i) ≡ header_lines print name (made Btree q u e t v m y k b g j)
same_btree print name p q o u d e s t r v n m x y l k a b f g i j ep eo ed es er ef = rw (ep, eo, ed, es, er, ef) refl

same_hash : (print : Bool) (name : Option (List ℕ)) (p q : ℕ) (o u : Order) (d e s t r v n m x y : Bool) (l k a b f g : ℕ) (i j : ℕ)
    → p ≡ q → o ≡ u → (d || s) ≡ (e || t) → s ≡ t → i ≡ j
    → header_lines print name (made Hash p o d s r n x l a f i) ≡ header_lines print name (made Hash q u e t v m y k b g j)
same_hash print name p q o u d e s t r v n m x y l k a b f g i j ep eo ed es ei = rw (ep, eo, ed, es, ei) refl

same_queue : (print : Bool) (name : Option (List ℕ)) (p q : ℕ) (o u : Order) (d e s t r v n m x y : Bool) (l k a b f g : ℕ) (i j : ℕ)
    → p ≡ q → o ≡ u → l ≡ k → a ≡ b
    → header_lines print name (made Queue p o d s r n x l a f i) ≡ header_lines print name (made Queue q u e t v m y k b g j)
same_queue print name p q o u d e s t r v n m x y l k a b f g i j ep eo el ea = rw (ep, eo, el, ea) refl

same_recno : (print : Bool) (name : Option (List ℕ)) (p q : ℕ) (o u : Order) (d e s t r v n m x y : Bool) (l k a b f g : ℕ) (i j : ℕ) (shows : Bool)
    → p ≡ q → o ≡ u → n ≡ m → (x && not (l == 0)) ≡ shows → (y && not (k == 0)) ≡ shows → (shows ≡ true → l ≡ k) → (shows ≡ true → a ≡ b)
    → header_lines print name (made Recno p o d s r n x l a f i) ≡ header_lines print name (made Recno q u e t v m y k b g j)
same_recno print name p q o u d e s t r v n m x y l k a b f g i j true ep eo en ex ey el ea =
    let same_length = el refl in
    let same_pad = ea refl in
    rw (ex, ey, ep, eo, en, same_length, same_pad) refl
same_recno print name p q o u d e s t r v n m x y l k a b f g i j false ep eo en ex ey el ea = rw (ex, ey, ep, eo, en) refl

-- a number whose line is left out
left_out_by : (usual n : ℕ) (shows all : Bool) → all ≡ shows → n < 2 ^ 32
    → number_or usual (if all then Some (decimal n) else None) ≡ (if shows then n else usual)
left_out_by usual n true all e h = let read = number_read-decimal n h in rw (e, read) refl
left_out_by usual n false all e h = rw e refl

shows_by : (x : Bool) (l length : ℕ) (shows : Bool) → (x && not (l == 0)) ≡ shows → length ≡ (if shows then l else 0)
    → (not (length == 0) && not (length == 0)) ≡ shows
shows_by x l length true e h =
    let long : not (l == 0) ≡ true = (and_parts x (not (l == 0)) e).1 in
    rw (h, long) refl
shows_by x l length false e h = rw h refl

not-zero_by : (n l : ℕ) (shows : Bool) → n ≡ (if shows then l else 0) → shows ≡ true → n ≡ l
not-zero_by n l true e h = e
not-zero_by n l false e h = absurd (true≢false (sym h))

pad_by : (n a : ℕ) (shows : Bool) → n ≡ (if shows then a else 32) → shows ≡ true → n ≡ a
pad_by n a true e h = e
pad_by n a false e h = absurd (true≢false (sym h))

lines_by : (print : Bool) (name : Option (List ℕ)) (kind : Kind) (p : ℕ) (o : Order) (d s r n x : Bool) (l a m f : ℕ)
    → p < 2 ^ 32 → l < 2 ^ 32 → a < 2 ^ 32 → m < 2 ^ 32 → f < 2 ^ 32
    → header_lines print name (settings_in (looked print name (made kind p o d s r n x l a m f))) ≡ header_lines print name (made kind p o d s r n x l a m f)
lines_by print name Btree p o d s r n x l a m f hp hl ha hm hf =
    same_btree print name (number_or 4096 (Some (decimal p))) p (order_in (looked print name (made Btree p o d s r n x l a m f))) o
    (is_value (codes "1") (if d || s then Some (codes "1") else None) || is_value (codes "1") (if s then Some (codes "1") else None)) d
    (is_value (codes "1") (if s then Some (codes "1") else None)) s
    (is_value (codes "1") (if r then Some (codes "1") else None)) r false n false x 0 l 32 a
    (number_or 2 (if not (m == 2) then Some (decimal m) else None)) m 0 f
    (size_by p hp) (order_by o) (duplicates_by d s) (on_by s) (on_by r) (shown_by 2 m (m == 2) refl hm)
lines_by print name Hash p o d s r n x l a m f hp hl ha hm hf =
    same_hash print name (number_or 4096 (Some (decimal p))) p (order_in (looked print name (made Hash p o d s r n x l a m f))) o
    (is_value (codes "1") (if d || s then Some (codes "1") else None) || is_value (codes "1") (if s then Some (codes "1") else None)) d
    (is_value (codes "1") (if s then Some (codes "1") else None)) s
    false r false n false x 0 l 32 a 2 m (number_or 0 (if not (f == 0) then Some (decimal f) else None)) f
    (size_by p hp) (order_by o) (duplicates_by d s) (on_by s) (shown_by 0 f (f == 0) refl hf)
lines_by print name Recno p o d s r n x l a m f hp hl ha hm hf =
    let len = left_out_by 0 l (x && not (l == 0)) (x && not (l == 0)) refl hl in
    let pad = left_out_by 32 a (x && not (l == 0)) (x && not (l == 0)) refl ha in
    same_recno print name (number_or 4096 (Some (decimal p))) p (order_in (looked print name (made Recno p o d s r n x l a m f))) o
    false d false s false r (is_value (codes "1") (if n then Some (codes "1") else None)) n
    (not (number_or 0 (if x && not (l == 0) then Some (decimal l) else None) == 0)) x
    (number_or 0 (if x && not (l == 0) then Some (decimal l) else None)) l (number_or 32 (if x && not (l == 0) then Some (decimal a) else None)) a 2 m 0 f
    (x && not (l == 0)) (size_by p hp) (order_by o) (on_by n)
    (shows_by x l (number_or 0 (if x && not (l == 0) then Some (decimal l) else None)) (x && not (l == 0)) refl len) refl
    (not-zero_by (number_or 0 (if x && not (l == 0) then Some (decimal l) else None)) l (x && not (l == 0)) len)
    (pad_by (number_or 32 (if x && not (l == 0) then Some (decimal a) else None)) a (x && not (l == 0)) pad)
lines_by print name Queue p o d s r n x l a m f hp hl ha hm hf =
    same_queue print name (number_or 4096 (Some (decimal p))) p (order_in (looked print name (made Queue p o d s r n x l a m f))) o
    false d false s false r false n true x (number_or 0 (Some (decimal l))) l (number_or 32 (Some (decimal a))) a 2 m 0 f
    (size_by p hp) (order_by o) (size_by l hl) (size_by a ha)

pub lines-looked : (print : Bool) (name : Option (List ℕ)) (settings : Settings) (list : List (ListKey × List ℕ)) → CanBeWritten name settings list
    → header_lines print name (settings_in (looked print name settings)) ≡ header_lines print name settings
lines-looked print name settings list can =
    lines_by print name settings.kind settings.page_size settings.order settings.duplicates settings.sorted settings.recnum settings.renumber settings.fixed
    settings.re_len settings.re_pad settings.minkey settings.ffactor (legal_below settings.page_size can.page_size) can.re_len can.re_pad can.minkey can.ffactor
