-- What is given of a database as pairs of a section, page by page.
use Rattle.std.proofs.Common.{◌≡◌, ℕ, Bool, true, false, cond, List, ◌∷◌, ◌++◌, map, append_assoc, refl, sym, ◌∙◌, ap}
use Rattle.std.specs.List.{flat_map}
use Rattle.std.proofs.lemmas.List.{map-append}
use Rattle.bdb_rescue.specs.of_format.Flags.{has_records}
use Rattle.bdb_rescue.specs.of_format.Terms.{BtreeFields, HashFields, Metadata, QueueFields, is_fixed, is_recno}
use Rattle.bdb_rescue.specs.of_format.declared.metadata.QueueMeta.{QueueMeta}
use Rattle.bdb_rescue.specs.of_text_format.declared.pairs.TextPair.{TextPair}
use Rattle.bdb_rescue.specs.Gathered.{loose_pair, stored_pair}
use Rattle.bdb_rescue.specs.Kept.{Reading, file_in}
use Rattle.bdb_apart.specs.Found.{Found}
use Rattle.bdb_apart.specs.Given.{FoundIn, in_image, pairs_given, records_given}
use Rattle.bdb_apart.specs.Kept.{holds_of, row_in}
use Rattle.bdb_apart.specs.Left.{fit_on, pairs_on}
use Rattle.bdb_apart.specs.Text.{section_pairs}
use Rattle.bdb_apart.specs.declared.holds.Holds.{Holds}
use Rattle.bdb_apart.specs.declared.holds.Holds.TheVariants.{Leaves, Buckets, Records as OnLeaves, Slots}
use Rattle.bdb_apart.proofs.GivenLemmas.{given_on_leaves, given_pairs}

-- what one more page gives
pub more_pages : {Y : Type 0} (g : Y → TextPair) (f : ℕ → List Y) (now new all : List TextPair) (left rest : List ℕ) (p : ℕ) → left ≡ p ∷ rest
    → now ++ map g (flat_map f left) ≡ all → new ≡ now ++ map g (f p) → new ++ map g (flat_map f rest) ≡ all
more_pages g f now new all left rest p are so_far pushed =
    ap (λ pairs. pairs ++ map g (flat_map f rest)) pushed
    ∙ (append_assoc now (map g (f p)) (map g (flat_map f rest))
    ∙ (ap (λ pairs. now ++ pairs) (sym (map-append g (f p) (flat_map f rest)))
    ∙ (ap (λ pages. now ++ map g (flat_map f pages)) (sym are) ∙ so_far)))

-- Kinds.

abbrev pub records_held : Holds → Bool
records_held Leaves = false
records_held Buckets = false
records_held (OnLeaves len) = true
records_held Slots = true

held_records : (fields : Metadata) → records_held (holds_of fields) ≡ has_records fields
held_records (BtreeFields meta) = by_kind (is_recno meta)
  where
    by_kind : (recno : Bool) → records_held (cond recno (OnLeaves (cond (is_fixed meta) meta.re_len 0)) Leaves) ≡ recno
    by_kind true = refl
    by_kind false = refl
held_records (HashFields meta) = refl
held_records (QueueFields meta) = refl

told : (holds : Holds) (db : Found) → holds ≡ holds_of db.fields → has_records db.fields ≡ records_held holds
told holds db held = sym (held_records db.fields) ∙ ap records_held (sym held)

by_pairs : (it : FoundIn) → has_records it.db.fields ≡ false → map stored_pair (pairs_given it) ≡ section_pairs it
by_pairs it none = ap (λ b. cond b (map loose_pair (records_given it)) (map stored_pair (pairs_given it))) (sym none)

by_records : (it : FoundIn) → has_records it.db.fields ≡ true → map loose_pair (records_given it) ≡ section_pairs it
by_records it some = ap (λ b. cond b (map loose_pair (records_given it)) (map stored_pair (pairs_given it))) (sym some)

-- the pairs on the pages of a row, where a database has pairs
pub section_of_pairs : (reading other : Reading) (db : Found) (holds : Holds) (pages : List ℕ) → records_held holds ≡ false
    → other ≡ reading → holds ≡ holds_of db.fields → pages ≡ row_in reading db.meta
    → map stored_pair (flat_map (pairs_on (file_in other) holds) pages) ≡ section_pairs (in_image reading db)
section_of_pairs reading other db holds pages none same held row =
    ap (map stored_pair) (given_pairs reading other db holds pages same held row)
    ∙ by_pairs (in_image reading db) (told holds db held ∙ none)

-- its records, where it has some on leaves
pub section_of_records : (reading other : Reading) (db : Found) (len : ℕ) (pages : List ℕ) → other ≡ reading → OnLeaves len ≡ holds_of db.fields
    → pages ≡ row_in reading db.meta
    → map loose_pair (flat_map (fit_on (file_in other) (OnLeaves len)) pages) ≡ section_pairs (in_image reading db)
section_of_records reading other db len pages same held row =
    ap (map loose_pair) (given_on_leaves reading other db (OnLeaves len) pages (λ meta is. no_slots meta (held ∙ ap holds_of is)) same held row)
    ∙ by_records (in_image reading db) (told (OnLeaves len) db held)
  where
    no_slots : (meta : QueueMeta) → OnLeaves len ≡ holds_of (QueueFields meta) → ⊥
    no_slots meta is = absurd (cc is)

-- and in slots
pub section_of_slots : (it : FoundIn) → Slots ≡ holds_of it.db.fields → map loose_pair (records_given it) ≡ section_pairs it
section_of_slots it held = by_records it (told Slots it.db held)
