-- Metadata pages of homes, and of the databases that are found, are there.
use Rattle.std.proofs.Common.{◌≡◌, ℕ, zero, suc, ◌-◌, ◌<◌, ◌≤◌, Bool, true, false, cond, List, [], ◌∷◌, map, length, get_or, arith, refl, sym}
use Rattle.std.proofs.Common.{◌∙◌, ap, subst, inl, inr}
use Rattle.std.specs.Prelude.{Option, Some, None, ◌==◌, ◌&&◌, ◌^◌, ◌/◌, nat_le, nat_lt}
use Rattle.std.specs.List.{All, Contains, range_with_len}
use Rattle.std.specs.Option.{option_and_then, option_map}
use Rattle.std.proofs.lemmas.Bool.{cases_lt, eqb-true, lt-ltb, ltb-true, true≢false}
use Rattle.std.proofs.lemmas.List.{get_or_past}
use Rattle.std.proofs.lemmas.List.FromFn.{get_or-map-range_with_len, length-map-range_with_len}
use Rattle.std.proofs.lemmas.Option.{none-some, same_Some}
use Rattle.bdb_rescue.specs.of_format.declared.metadata.QueueMeta.{QueueMeta}
use Rattle.bdb_rescue.specs.of_format.Terms.{File, Metadata, NoType, Page}
use Rattle.bdb_rescue.specs.of_format.Terms.{is_meta, page_at}
use Rattle.bdb_rescue.specs.Kept.{Reading, file_in}
use Rattle.bdb_rescue.proofs.of_format.MemberLemmas.{first_member, later_member, no_member}
use Rattle.bdb_rescue.proofs.of_survey.StoredPageLemmas.{count_is, page_past}
use Rattle.bdb_homes.specs.Claims.{Claim, claim_of}
use Rattle.bdb_homes.specs.Homes.{ahead, behind, by_claim, claimed_in, from_side, home, later, led, numbered, or_else, own_home, page_after, page_before}
use Rattle.bdb_homes.specs.Homes.{records_on, spread}
use Rattle.bdb_homes.specs.declared.home.Home.{Home}
use Rattle.bdb_apart.specs.Found.{Found, found, is_alone}
use Rattle.bdb_apart.specs.Found.{tree_fields}
use Rattle.bdb_apart.specs.Given.{above, db_at, is_pair_page, meta_at}
use Rattle.bdb_apart.specs.Queues.{bytes_at, queue_in, queue_on}
use Rattle.bdb_apart.specs.Left.{IsThere}
use Rattle.bdb_apart.specs.Rows.{AreBelow, row_from}
use Rattle.bdb_apart.proofs.KnownLemmas.{stands}
use Rattle.bdb_apart.proofs.LeftLemmas.{at_page}
use Rattle.bdb_apart.proofs.RowLemmas.{row_there}

-- Homes lead to metadata.

abbrev Leads : File → Option Home → Type 0
Leads file o = (h : Home) → o ≡ Some h → is_meta (page_at file h.meta) ≡ true

no_home : (file : File) → Leads file None
no_home file h is = absurd (none-some h is)

that_home : (file : File) (home : Home) → is_meta (page_at file home.meta) ≡ true → Leads file (Some home)
that_home file home is h same = subst (λ (m : ℕ). is_meta (page_at file m) ≡ true) (ap (λ (x : Home). x.meta) (same_Some home h same)) is

then_home : (file : File) (f : Home → Option Home) (o : Option Home) → Leads file o → ((h : Home) → is_meta (page_at file h.meta) ≡ true → Leads file (f h))
    → Leads file (option_and_then f o)
then_home file f None leads next = no_home file
then_home file f (Some h) leads next = next h (leads h refl)

moved_home : (file : File) (n : ℕ) (o : Option Home) → Leads file o → Leads file (option_map (later n) o)
moved_home file n None leads = no_home file
moved_home file n (Some h) leads = that_home file (later n h) (leads h refl)

number_home : (file : File) (home : Home) → is_meta (page_at file home.meta) ≡ true → Leads file (numbered home)
number_home file home is = by_test (nat_lt home.start (2 ^ 32))
  where
    by_test : (b : Bool) → Leads file (cond b (Some home) None)
    by_test true = that_home file home is
    by_test false = no_home file

by_holder : (file : File) (homes : ℕ → Option Home) (claim : Option Claim) → ((p : ℕ) → Leads file (homes p)) → Leads file (by_claim file homes claim)
by_holder file homes None leads = no_home file
by_holder file homes (Some claim) leads = by_test (is_meta (page_at file claim.holder)) refl
  where
    by_test : (b : Bool) → is_meta (page_at file claim.holder) ≡ b
        → Leads file (cond b (Some (record { meta = claim.holder; start = 0 })) (option_map (later claim.below.before) (homes claim.holder)))
    by_test true is = that_home file (record { meta = claim.holder; start = 0 }) is
    by_test false is = moved_home file claim.below.before (homes claim.holder) (leads claim.holder)

claimed_home : (turns : ℕ) (file : File) (p : ℕ) → Leads file (claimed_in turns file p)
unfolding claimed_in
claimed_home zero file p = no_home file
claimed_home (suc turns) file p = by_holder file (claimed_in turns file) (claim_of file p) (claimed_home turns file)

its_home : (file : File) (p : ℕ) → Leads file (own_home file p)
unfolding own_home
its_home file p = then_home file numbered (claimed_in 255 file p) (claimed_home 255 file p) (number_home file)

either_home : (file : File) (first second : Option Home) → Leads file first → Leads file second → Leads file (or_else first second)
either_home file None second one other = other
either_home file (Some home) second one other = one

side_home : (file : File) (moved : ℕ → ℕ → Home → Option Home) (homes : ℕ → Option Home) (p : ℕ) (side : Option ℕ) → ((q : ℕ) → Leads file (homes q))
    → ((q : ℕ) (h : Home) → is_meta (page_at file h.meta) ≡ true → Leads file (moved p q h)) → Leads file (from_side moved homes p side)
side_home file moved homes p None leads keeps = no_home file
side_home file moved homes p (Some q) leads keeps = then_home file (moved p q) (homes q) (leads q) (keeps q)

spread_home : (file : File) (had : ℕ → Option Home) (side : ℕ → Option ℕ) (moved : ℕ → ℕ → Home → Option Home) (turns p : ℕ) → ((q : ℕ) → Leads file (had q))
    → ((p q : ℕ) (h : Home) → is_meta (page_at file h.meta) ≡ true → Leads file (moved p q h)) → Leads file (spread had side moved turns p)
unfolding spread
spread_home file had side moved zero p leads keeps = leads p
spread_home file had side moved (suc turns) p leads keeps =
    either_home file (had p) (from_side moved (spread had side moved turns) p (side p)) (leads p)
    (side_home file moved (spread had side moved turns) p (side p) (λ q. spread_home file had side moved turns q leads keeps) (keeps p))

ahead_home : (file : File) (p : ℕ) (home : Home) → is_meta (page_at file home.meta) ≡ true → Leads file (ahead file p home)
ahead_home file p home is = by_test (nat_le (records_on (page_at file p)) home.start)
  where
    by_test : (b : Bool) → Leads file (cond b (Some (record { meta = home.meta; start = home.start - records_on (page_at file p) })) None)
    by_test true = that_home file (record { meta = home.meta; start = home.start - records_on (page_at file p) }) is
    by_test false = no_home file

led_home : (file : File) (p : ℕ) → Leads file (led file p)
unfolding led
led_home file p =
    spread_home file (own_home file) (page_before file) (λ p q. behind file q) file.count p (its_home file)
    (λ p q h is. number_home file (later (records_on (page_at file q)) h) is)

-- a home is of metadata
home_leads : (file : File) (p : ℕ) → Leads file (home file p)
unfolding home
home_leads file p = spread_home file (led file) (page_after file) (λ p q. ahead file p) file.count p (led_home file) (λ p q h is. ahead_home file p h is)

-- Pages that are something are there.

pub there_by : (reading : Reading) (test : Page → Bool) (p : ℕ) → test NoType ≡ false → test (page_at (file_in reading) p) ≡ true → p < (file_in reading).count
there_by reading test p none is = elim (cases_lt p (file_in reading).count) [
  | inl low ↦ low
  | inr past ↦
      let same : (file_in reading).count ≡ length reading.image / reading.guess.page_size =
      count_is reading.guess.order reading.guess.page_size reading.image in
      absurd
      (true≢false
      (sym is
      ∙ (ap test (page_past reading.guess.order reading.guess.page_size reading.image p (subst (λ n. n ≤ p) same past)) ∙ none)))
]

-- Rows of pages.

above_there : (reading : Reading) (p m : ℕ) → above (file_in reading) p ≡ Some m → m < (file_in reading).count
above_there reading p m = by_test (is_alone (page_at file 0)) (is_pair_page (page_at file p)) refl
  where
    file : File
    file = file_in reading

    by_home : (o : Option Home) → Leads file o → meta_at o ≡ Some m → m < file.count
    by_home None leads is = absurd (none-some m is)
    by_home (Some h) leads is = subst (λ n. n < file.count) (same_Some h.meta m is) (there_by reading is_meta h.meta refl (leads h refl))

    by_test : (one pairs : Bool) → is_alone (page_at file 0) ≡ one → cond (one && pairs) (Some 0) (meta_at (home file p)) ≡ Some m → m < file.count
    by_test true true alone is = subst (λ n. n < file.count) (same_Some 0 m is) (there_by reading is_alone 0 refl alone)
    by_test true false alone is = by_home (home file p) (home_leads file p) is
    by_test false pairs alone is = by_home (home file p) (home_leads file p) is

-- the page that one is below
pub above_at : (file : File) (aboves : List (Option ℕ)) (p : ℕ) → aboves ≡ map (above file) (range_with_len 0 file.count) → p < file.count
    → get_or aboves p None ≡ above file p
above_at file aboves p are low = ap (λ xs. get_or xs p None) are ∙ get_or-map-range_with_len (above file) 0 file.count p p None low (omega arith)

pub aboves_len : (file : File) (aboves : List (Option ℕ)) → aboves ≡ map (above file) (range_with_len 0 file.count) → length aboves ≡ file.count
aboves_len file aboves are = ap length are ∙ length-map-range_with_len (above file) 0 file.count

-- the pages of a row are there
pub row_pages : (file : File) (aboves : List (Option ℕ)) (m : ℕ) → aboves ≡ map (above file) (range_with_len 0 file.count)
    → All (IsThere file) (row_from aboves m 0)
row_pages file aboves m are = subst (λ n. All (λ q. q < n) (row_from aboves m 0)) (aboves_len file aboves are) (row_there aboves m)

-- pages are below pages that are there
pub are_below : (reading : Reading) (aboves : List (Option ℕ)) → aboves ≡ map (above (file_in reading)) (range_with_len 0 (file_in reading).count)
    → AreBelow aboves
are_below reading aboves are p m is = elim (cases_lt p n) [
  | inl low ↦ subst (λ k. m < k) (sym len) (above_there reading p m (sym (above_at (file_in reading) aboves p are low) ∙ is))
  | inr past ↦ absurd (none-some m (sym (get_or_past aboves p None (subst (λ k. k ≤ p) (sym len) past)) ∙ is))
]
  where
    n : ℕ
    n = (file_in reading).count

    len : length aboves ≡ n
    len = aboves_len (file_in reading) aboves are

-- Databases that are found.

abbrev has_fields : Page → Bool
has_fields page = nat_lt 0 (length (tree_fields page))

some_fields : (page : Page) (fields : Metadata) → Contains (tree_fields page) fields → has_fields page ≡ true
some_fields page fields at = by_list (tree_fields page) at
  where
    by_list : (all : List Metadata) → Contains all fields → nat_lt 0 (length all) ≡ true
    by_list [] none = absurd (no_member [] fields refl none)
    by_list (first ∷ others) some = lt-ltb 0 (length (first ∷ others)) (omega arith)

-- the first with a metadata page is one of them
pub found_member : (dbs : List Found) (m : ℕ) (db : Found) → db_at dbs (Some m) ≡ Some db → Contains dbs db
found_member [] m db is = absurd (none-some db is)
found_member (first ∷ others) m db is = by_test (first.meta == m) is (found_member others m db)
  where
    by_test : (b : Bool) → cond b (Some first) (db_at others (Some m)) ≡ Some db → (db_at others (Some m) ≡ Some db → Contains others db)
        → Contains (first ∷ others) db
    by_test true same rest = subst (Contains (first ∷ others)) (same_Some first db same) (first_member first others)
    by_test false same rest = later_member first others db (rest same)

queue_low : (reading : Reading) (meta : QueueMeta) → queue_in reading ≡ Some meta → 0 < (file_in reading).count
unfolding queue_in
queue_low reading meta = by_test (nat_lt 0 (file_in reading).count) refl
  where
    by_test : (b : Bool) → nat_lt 0 (file_in reading).count ≡ b → cond b (queue_on reading.guess.order (bytes_at reading 0)) None ≡ Some meta
        → 0 < (file_in reading).count
    by_test true low is = ltb-true 0 (file_in reading).count low
    by_test false low is = absurd (none-some meta is)

-- the metadata page of a database that is found is there
meta_there : (reading : Reading) (db : Found) → Contains (found reading) db → db.meta < (file_in reading).count
meta_there reading db at = elim (stands reading db at) [
  | inl queue ↦ subst (λ m. m < (file_in reading).count) (ap (λ (x : Found). x.meta) queue.same) (queue_low reading queue.meta queue.queue)
  | inr there ↦ there_by reading has_fields db.meta refl (some_fields (page_at (file_in reading) db.meta) db.fields there)
]

-- no database is found with a metadata page that isn't there
pub none_past : (reading : Reading) (m : ℕ) → (file_in reading).count ≤ m → db_at (found reading) (Some m) ≡ None
none_past reading m past = by_db (db_at (found reading) (Some m)) refl
  where
    by_db : (db : Option Found) → db_at (found reading) (Some m) ≡ db → db ≡ None
    by_db None is = refl
    by_db (Some db) is =
        absurd
        (let low : db.meta < (file_in reading).count = meta_there reading db (found_member (found reading) m db is) in
        let same : db.meta ≡ m = eqb-true db.meta m (at_page (found reading) m db is) in
        omega (arith, low, same, past))
