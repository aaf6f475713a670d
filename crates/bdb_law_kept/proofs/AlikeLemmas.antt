-- Settings that load alike.
use Rattle.std.proofs.Common.{◌≡◌, ℕ, ◌+◌, ◌-◌, ◌*◌, ◌/◌, ◌≤◌, Bool, true, false, not, cond, List, [], length, arith, refl, sym, ◌∙◌, ap, subst, inl, inr, ◌&&◌}
use Rattle.std.proofs.Common.{◌||◌, nat_lt, Contains}
use Rattle.std.proofs.lemmas.Bool.Decides.{nat_tests}
use Rattle.std.proofs.Math.Nat.{div-mul-le_self, mul-le-mul_right}
use Rattle.bdb_databases.specs.of_format.declared.kinds.Kind.{Kind}
use Rattle.bdb_databases.specs.of_format.declared.kinds.Kind.TheVariants.{Btree, Recno, Hash, Queue}
use Rattle.bdb_databases.specs.of_format.declared.settings.Settings.{Settings}
use Rattle.bdb_databases.specs.of_format.Terms.{BtreeFields, HashFields, ListKey, Metadata, QueueFields, btree_settings, file_of, head_of, is_recno, list_of}
use Rattle.bdb_databases.specs.of_format.Terms.{pad4, recno_settings, records_per_page}
use Rattle.bdb_databases.proofs.of_format.ListLemmas.{all_of}
use Rattle.bdb_databases.proofs.of_format.MemberLemmas.{in_map}
use Rattle.bdb_databases.specs.of_image.Linked.{HasMetadata, IsForest}
use Rattle.bdb_settle.specs.of_text_format.declared.pairs.Key.{Key}
use Rattle.bdb_settle.specs.of_text_format.declared.pairs.Key.TheVariants.{Bytes, Number}
use Rattle.bdb_settle.specs.of_text_format.declared.pairs.TextPair.{TextPair}
use Rattle.bdb_settle.specs.of_text_format.Terms.{has_sets, holds_records, is_queue}
use Rattle.bdb_databases.proofs.of_queue.QueueLemmas.{IsQueue, queue_is}
use Rattle.bdb_settle.specs.Loaded.{has_length, keeps_data, sorts_data}
use Rattle.bdb_settle.specs.LoadErrors.{is_too_wide, is_zero, pair_errors}
use Rattle.bdb_text.specs.WrittenLaw.{key_in, pair_in}
use Rattle.bdb_law_kept.specs.Kept.{ListsAreKept, LoadsAlike, LoadsWithoutErrors, settings_in}
use Rattle.bdb_law_kept.proofs.LaterLemmas.{later_other}
use Rattle.bdb_law_kept.proofs.NumberedLemmas.{IsKeptList, IsNotZero}
use Rattle.bdb_law_kept.proofs.SettledLemmas.{ComesBefore, HasItsLength, InOrder, loads_as_it_is}
use Rattle.bdb_law_kept.proofs.SoundLemmas.{forest_of, has_fields, sound_kept}

-- Order.

sets_or_records : (kind : Kind) → has_sets kind ≡ not (holds_records kind)
sets_or_records Btree = refl
sets_or_records Recno = refl
sets_or_records Hash = refl
sets_or_records Queue = refl

same_sorts : (a b records : Bool) → (records ≡ false → a ≡ b) → (a && not records) ≡ (b && not records)
same_sorts a b true same = grind arith
same_sorts a b false same = ap (λ t. t && true) (same refl)

same_keeps : (d s d' s' records : Bool) → (records ≡ false → s ≡ s') → (records ≡ false → (d || s) ≡ (d' || s'))
    → (d && not s && not records) ≡ (d' && not s' && not records)
same_keeps d s d' s' true same also = grind arith
same_keeps d s d' s' false same also = grind (arith, same refl, also refl)

has_sets_of : (kind : Kind) → holds_records kind ≡ false → has_sets kind ≡ true
has_sets_of kind is = sets_or_records kind ∙ ap not is

pub sorts_alike : (settings others : Settings) → LoadsAlike settings others → sorts_data settings ≡ sorts_data others
sorts_alike settings others alike =
    ap (λ k. settings.sorted && not (holds_records k)) alike.kind
    ∙ same_sorts settings.sorted others.sorted (holds_records others.kind) (λ is. alike.sorted (has_sets_of others.kind is))

pub keeps_alike : (settings others : Settings) → LoadsAlike settings others → keeps_data settings ≡ keeps_data others
keeps_alike settings others alike =
    ap (λ k. settings.duplicates && not settings.sorted && not (holds_records k)) alike.kind
    ∙ same_keeps settings.duplicates settings.sorted others.duplicates others.sorted (holds_records others.kind)
    (λ is. alike.sorted (has_sets_of others.kind is)) (λ is. alike.duplicates (has_sets_of others.kind is))

before_alike : (settings others : Settings) (a b : ListKey × List ℕ) → LoadsAlike settings others → ComesBefore others a b → ComesBefore settings a b
before_alike settings others a b alike (inl below) = inl below
before_alike settings others a b alike (inr (same, inl kept)) = inr (same, inl (keeps_alike settings others alike ∙ kept))
before_alike settings others a b alike (inr (same, inr (sorted, below))) = inr (same, inr (sorts_alike settings others alike ∙ sorted, below))

pub order_alike : (settings others : Settings) (list : List (ListKey × List ℕ)) → LoadsAlike settings others → InOrder others list → InOrder settings list
order_alike settings others list alike order =
    later_other (ComesBefore others) (ComesBefore settings) list (λ a b at_a at_b before. before_alike settings others a b alike before) order

pub length_alike : (settings others : Settings) (pair : ListKey × List ℕ) → LoadsAlike settings others → HasItsLength others pair
    → HasItsLength settings pair
length_alike settings others pair alike long fixed = let same = alike.fixed fixed in long same.0 ∙ sym same.1

pub keeps_lists : ListsAreKept
keeps_lists image database settings pairs are alike =
    let others : Settings = settings_in image database.fields in
    let list : List (ListKey × List ℕ) = list_of (file_of image) database.fields in
    let kept : IsKeptList others list = sound_kept image database are.sound are.among in
    loads_as_it_is settings pairs list are.list_is (order_alike settings others list alike kept.ordered)
    (λ pair at. length_alike settings others pair alike (kept.long pair at))

-- Errors.

not_zero : (key : Key) → IsNotZero (key_in key) → is_zero key ≡ false
not_zero (Bytes bytes) some = refl
not_zero (Number number) some = grind (arith, nat_tests, some)

not_long : (fixed : Bool) (most n : ℕ) → (fixed ≡ true → n ≡ most) → (fixed && nat_lt most n) ≡ false
not_long true most n same = grind (arith, nat_tests, same refl)
not_long false most n same = refl

no_pair_errors : (settings : Settings) (pair : TextPair) → HasItsLength settings (pair_in pair) → IsNotZero (key_in pair.key)
    → pair_errors settings pair ≡ []
no_pair_errors settings pair long some =
    rw (not_long (has_length settings) settings.re_len (length pair.value) long, not_zero pair.key some) refl

-- a page with room for a record has a slot of its size
one_slot : (room pad : ℕ) → 1 ≤ room / pad → pad ≤ room
one_slot room pad some =
    let fits : room / pad * pad ≤ room = div-mul-le_self room pad in
    let more : 1 * pad ≤ room / pad * pad = mul-le-mul_right pad some in
    omega (arith, fits, more)

not_wide : (size re_len : ℕ) → 1 ≤ records_per_page size re_len → nat_lt (size - 28) (pad4 (re_len + 1)) ≡ false
not_wide size re_len some =
    let fits : pad4 (re_len + 1) ≤ size - 28 = one_slot (size - 28) (pad4 (re_len + 1)) some in
    grind (arith, nat_tests, fits)

fields_not_wide : (image : List ℕ) (fields : Metadata) → IsForest image → HasMetadata (file_of image) fields
    → is_queue (settings_in image fields).kind ≡ true
    → 1 ≤ records_per_page (settings_in image fields).page_size (settings_in image fields).re_len
fields_not_wide image (BtreeFields meta) forest has is = absurd (by_kind (is_recno meta) is)
  where
    by_kind : (b : Bool)
        → is_queue (cond b (recno_settings (head_of image).page_size (head_of image).order meta) (btree_settings (head_of image).page_size
        (head_of image).order meta)).kind ≡ true → ⊥
    by_kind true is = cc
    by_kind false is = cc
fields_not_wide image (HashFields meta) forest has is = absurd cc
fields_not_wide image (QueueFields meta) forest has is =
    let queue : IsQueue image meta = queue_is image meta forest has in omega (arith, queue.per_page, queue.some)

settings_not_wide : (settings others : Settings) (b : Bool) → LoadsAlike settings others → is_queue others.kind ≡ b
    → (is_queue others.kind ≡ true → 1 ≤ records_per_page others.page_size others.re_len) → is_too_wide settings.page_size settings ≡ false
settings_not_wide settings others true alike is some =
    let size : settings.page_size ≡ others.page_size = alike.page_size in
    let long : settings.re_len ≡ others.re_len = alike.wide is in
    ap (λ b. b && nat_lt (settings.page_size - 28) (pad4 (settings.re_len + 1))) (ap is_queue alike.kind ∙ is)
    ∙ not_wide settings.page_size settings.re_len
    (subst (λ n. 1 ≤ records_per_page n settings.re_len) (sym size) (subst (λ n. 1 ≤ records_per_page others.page_size n) (sym long) (some is)))
settings_not_wide settings others false alike is some =
    ap (λ b. b && nat_lt (settings.page_size - 28) (pad4 (settings.re_len + 1))) (ap is_queue alike.kind ∙ is)

pub loads_without_errors : LoadsWithoutErrors
loads_without_errors image database settings pairs are alike =
    let others : Settings = settings_in image database.fields in
    let list : List (ListKey × List ℕ) = list_of (file_of image) database.fields in
    let kept : IsKeptList others list = sound_kept image database are.sound are.among in
    record {
      each = all_of (λ pair. pair_errors settings pair ≡ []) pairs (λ pair at.
          let there : Contains list (pair_in pair) = subst (λ l. Contains l (pair_in pair)) are.list_is (in_map pair_in pairs pair at) in
          no_pair_errors settings pair (length_alike settings others (pair_in pair) alike (kept.long (pair_in pair) there)) (kept.some
          (pair_in pair) there));
      wide = settings_not_wide settings others (is_queue others.kind) alike refl
          (fields_not_wide image database.fields (forest_of image are.sound) (has_fields image database are.among));
    }
