-- Sections that are fit, short and without errors: an image can be built of their lists.
use Rattle.std.proofs.Common.{◌≡◌, ℕ, ◌+◌, ◌-◌, ◌*◌, ◌≤◌, ◌^◌, true, false, List, [], ◌∷◌, length, map, get_or, Option, Some, None, refl, sym, ◌∙◌, ap, subst}
use Rattle.std.proofs.Common.{arith, inl, inr, true≢false, ◌==◌, IsTrue, is_some, nat_lt, All}
use Rattle.bdb_mkfile.proofs.Common.{mul-le-mul_right, nat_tests, All-head, All-map, Kind, Btree, Recno, Hash, Queue, Settings, is_page_size, pad4, Pair, Key, Bytes, Number, Section, holds_records}
use Rattle.bdb_mkfile.proofs.Common.{AreFit, AreFitSettings, AreNamedBehind, IsFitSection, is_number, IsShort, IsTreeList, IsTreeKind, IsTableList, HasNext, HasShortBytes, IsFit, IsKeyOf, load_error}
use Rattle.bdb_mkfile.proofs.Common.{page_size_in, filled_section, loaded, loaded_section, ordered_section, unnumbered, sections_filled, sound_pairs, load_into_lists, unlined_pairs, AreSettled}
use Rattle.bdb_mkfile.proofs.Common.{IsListOf, IsSettled, list_pages, name_in, need_of, sized, queue_pages, IsQueueAlone, IsTreeSettings, AreNamedSettings, IsNamed, AreApart, AreBuildable}
use Rattle.bdb_mkfile.proofs.Common.{AreNamedApart, IsBuildable, IsUnnamedAlone, listed_again}
use Rattle.bdb_mkfile.proofs.ListLemmas.{load_into_tables, queues_are_alone, records_are_few}
use Rattle.bdb_mkfile.proofs.AlikeLemmas.{list_alike}
use Rattle.bdb_mkfile.proofs.ApartLemmas.{HasName, all_named, alone_unnamed, named_apart}
use Rattle.bdb_mkfile.proofs.ShortLemmas.{HasShortList, loaded_short, settled_apart}

-- Each section.

key_of : (kind : Kind) (key : Key) → is_number key ≡ holds_records kind → IsKeyOf kind key
key_of Btree (Bytes bytes) is = tt
key_of Btree (Number number) is = absurd (cc is)
key_of Recno (Bytes bytes) is = absurd (cc is)
key_of Recno (Number number) is = tt
key_of Hash (Bytes bytes) is = tt
key_of Hash (Number number) is = absurd (cc is)
key_of Queue (Bytes bytes) is = absurd (cc is)
key_of Queue (Number number) is = tt

section_fits : (most : ℕ) (section : Section) → IsFitSection most section → IsFit section
section_fits most section fit = grind (arith, key_of)

-- what is so of a section among these when it is loaded
pub record IsReady (sections : List Section) (section : Section) : Type 0 where
  pub settings : AreFitSettings section.settings
  pub name : IsShort (name_in section.name)
  pub tree : IsTreeKind section.settings.kind → IsTreeList section.settings (loaded section.settings section.pairs)
  pub table : section.settings.kind ≡ Hash → IsTableList section.settings (loaded section.settings section.pairs)
  pub queue : section.settings.kind ≡ Queue → IsQueueAlone sections section

pub are_ready : (most : ℕ) (sections : List Section) → AreFit most sections → All HasShortList sections → load_error sections ≡ None
    → All (IsReady sections) sections
are_ready most sections fit short none k d low =
    let section : Section = get_or sections k d in
    let is_fit : IsFit section = section_fits most section (fit.each k d low) in
    let bytes : All HasShortBytes (loaded section.settings section.pairs) =
    loaded_short section (sound_pairs sections none k d low) (fit.each k d low).settings.re_len (short k d low).list in
    record {
      settings = (fit.each k d low).settings;
      name = (short k d low).name;
      tree = λ tree. load_into_lists sections none k d low tree is_fit bytes;
      table = λ hash. load_into_tables sections none k d low hash is_fit bytes;
      queue = λ queue. queues_are_alone sections none k d low queue ((fit.each k d low).settings.fixed queue) is_fit;
    }

-- a queue is the first section
first_is_queue : (sections rest : List Section) (first section : Section) → sections ≡ first ∷ rest → IsQueueAlone sections section → first ≡ section
first_is_queue sections rest first section are queue = let same : first ∷ rest ≡ section ∷ [] = sym are ∙ queue.alone in cc same

list_of_kind : (k : Kind) (sections rest : List Section) (first section : Section) → sections ≡ first ∷ rest → section.settings.kind ≡ k
    → IsReady sections section
    → IsListOf k (sized first.settings.page_size section) (loaded section.settings section.pairs)
list_of_kind Btree sections rest first section are same ready = grind (arith, list_alike, sized, loaded)
list_of_kind Recno sections rest first section are same ready = grind (arith, list_alike, sized, loaded)
list_of_kind Hash sections rest first section are same ready = grind (arith, list_alike, Btree, sized, loaded)
list_of_kind Queue sections rest first section are same ready = grind (arith, IsQueueAlone, Section, first_is_queue, pad4)

-- a section with its list, in the file of the first
settled_list : (sections rest : List Section) (first section : Section) → sections ≡ first ∷ rest → IsReady sections section
    → IsListOf section.settings.kind (sized first.settings.page_size section) (unlined_pairs (map unnumbered (loaded section.settings section.pairs)))
settled_list sections rest first section are ready = grind (arith, IsListOf, sized, listed_again, loaded, list_of_kind)

-- All sections.

-- sections as they are given, of which there is one at least, with their lists
pub record AreLoading (sections settled : List Section) : Type 0 where
  pub most : ℕ
  pub fit : AreFit most sections
  pub short : All HasShortList sections
  pub none : load_error sections ≡ None
  pub lists : settled ≡ map loaded_section sections

split_first : (sections : List Section) → (length sections == 0) ≡ false → (first : Section) × (rest : List Section) × (sections ≡ first ∷ rest)
split_first [] some = absurd (cc some)
split_first (first ∷ rest) some = (first, rest, refl)

-- sections in order, with their records filled up, are those that are loaded
pub lists_filled : (sections ordered : List Section) → ordered ≡ map ordered_section sections → map filled_section ordered ≡ map loaded_section sections
lists_filled sections ordered is = ap (map filled_section) is ∙ sections_filled sections

-- their page size is the same
pub filled_size : (sections : List Section) → page_size_in (map filled_section sections) ≡ page_size_in sections
filled_size [] = refl
filled_size (section ∷ sections) = refl

pub are_settled : (sections settled : List Section) → AreLoading sections settled → AreSettled settled
are_settled sections settled loading =
    let parts = split_first sections loading.fit.some in
    let first : Section = parts.0 in
    let rest : List Section = parts.1 in
    let ready : All (IsReady sections) sections = are_ready loading.most sections loading.fit loading.short loading.none in
    let each : All (λ s. IsSettled first.settings.page_size (loaded_section s)) sections = λ k d low.
    record { list = settled_list sections rest first (get_or sections k d) parts.2 (ready k d low) } in
    let one : IsReady sections first = All-head (IsReady sections) first rest (subst (All (IsReady sections)) parts.2 ready) in
    record {
      first = loaded_section first;
      rest = map loaded_section rest;
      are = loading.lists ∙ ap (map loaded_section) parts.2;
      legal = one.settings.page_size;
      each =
          subst (All (IsSettled first.settings.page_size)) (sym loading.lists)
          (All-map (IsSettled first.settings.page_size) loaded_section sections each);
    }

-- A section alone, without a name.

tree_settings : (settings : Settings) → IsTreeKind settings.kind → AreFitSettings settings → IsTreeSettings settings
tree_settings settings kind fit = grind (arith, holds_records)

buildable_kind : (k : Kind) (sections : List Section) (section : Section) → section.settings.kind ≡ k → IsReady sections section
    → (k ≡ Queue → queue_pages section.settings (loaded section.settings section.pairs) * section.settings.page_size ≤ 2 ^ 30)
    → IsBuildable k section.settings (loaded section.settings section.pairs)
buildable_kind Btree sections section same ready few = (tree_settings section.settings (inl same) ready.settings, ready.tree (inl same))
buildable_kind Recno sections section same ready few = (tree_settings section.settings (inr same) ready.settings, ready.tree (inr same))
buildable_kind Hash sections section same ready few = (ready.settings.page_size, ready.settings.sorted, ready.table same)
buildable_kind Queue sections section same ready few = grind (arith, IsQueueAlone, Pair, loaded, All, HasNext, records_are_few)

-- a queue alone has no more pages than are needed
queue_needs : (first : Section) → first.settings.kind ≡ Queue
    → queue_pages first.settings (loaded first.settings first.pairs) ≤ need_of (map loaded_section (first ∷ []))
queue_needs first queue = grind (arith, Pair, loaded, list_pages, unlined_pairs, unnumbered, queue_pages, listed_again)

-- what is needed has no more bytes than there may be
pub record IsWithin (max pages : ℕ) (settled : List Section) : Type 0 where
  pub max_low : max ≤ 2 ^ 30
  pub pages_are : pages ≡ need_of settled
  pub within : nat_lt max (pages * page_size_in settled) ≡ false

queue_few : (max pages : ℕ) (settled : List Section) (first : Section) → settled ≡ map loaded_section (first ∷ []) → IsWithin max pages settled
    → first.settings.kind ≡ Queue → queue_pages first.settings (loaded first.settings first.pairs) * first.settings.page_size ≤ 2 ^ 30
queue_few max pages settled first are within queue =
    grind (arith, need_of, loaded_section, queue_pages, loaded, queue_needs, nat_lt, page_size_in, nat_tests, mul-le-mul_right)

unnamed_alone : (max pages : ℕ) (sections settled rest : List Section) (first : Section) → sections ≡ first ∷ rest
    → settled ≡ map loaded_section sections → IsReady sections first → rest ≡ [] → IsWithin max pages settled
    → IsUnnamedAlone (loaded_section first) (map loaded_section rest)
unnamed_alone max pages sections settled rest first are lists ready none within =
    let list : List Pair = loaded first.settings first.pairs in
    let one : settled ≡ map loaded_section (first ∷ []) =
    lists ∙ ap (map loaded_section) are ∙ ap (λ ss. map loaded_section (first ∷ ss)) none in
    record {
      none = ap (map loaded_section) none;
      built =
          subst (IsBuildable first.settings.kind first.settings) (sym (listed_again list))
          (buildable_kind first.settings.kind sections first refl ready (queue_few max pages settled first one within));
    }

-- Sections with names.

named_settings : (k : Kind) (size : ℕ) (sections : List Section) (section : Section) → section.settings.kind ≡ k → IsTrue (is_page_size size)
    → IsReady sections section → HasName section → AreNamedSettings (sized size (loaded_section section))
named_settings Btree size sections section same legal ready has = grind (arith, holds_records)
named_settings Recno size sections section same legal ready has = grind (arith, holds_records)
named_settings Hash size sections section same legal ready has = inr (same, ready.settings.sorted)
named_settings Queue size sections section same legal ready has = absurd (true≢false (sym has ∙ ap is_some (ready.queue same).unnamed))

-- a name that there is
record IsNameOf (name : Option (List ℕ)) : Type 0 where
  bytes : List ℕ
  is : name ≡ Some bytes
  short : IsShort bytes

name_there : (name : Option (List ℕ)) → is_some name ≡ true → IsShort (name_in name) → IsNameOf name
name_there None has short = absurd (cc has)
name_there (Some name) has short = record { bytes = name; is = refl; short = short }

is_named : (sections rest : List Section) (first section : Section) → sections ≡ first ∷ rest → IsTrue (is_page_size first.settings.page_size)
    → IsReady sections section → HasName section → IsNamed first.settings.page_size (loaded_section section)
is_named sections rest first section are legal ready has =
    let name : IsNameOf section.name = name_there section.name has ready.name in
    record {
      name = name.bytes;
      name_is = name.is;
      short = name.short;
      settings = named_settings section.settings.kind first.settings.page_size sections section refl legal ready has;
      list = settled_list sections rest first section are ready;
    }

named_parts : (sections settled rest : List Section) (first : Section) → sections ≡ first ∷ rest → settled ≡ map loaded_section sections
    → IsTrue (is_page_size first.settings.page_size) → All (IsReady sections) sections → All HasName sections → AreNamedBehind [] sections
    → AreNamedApart first.settings.page_size settled
named_parts sections settled rest first are lists legal ready have named =
    let size : ℕ = first.settings.page_size in
    let each : All (λ s. IsNamed size (loaded_section s)) sections = λ k d low.
    is_named sections rest first (get_or sections k d) are legal (ready k d low) (have k d low) in
    record {
      legal = legal;
      each = subst (All (IsNamed size)) (sym lists) (All-map (IsNamed size) loaded_section sections each);
      apart = subst AreApart (sym lists) (settled_apart sections (named_apart [] sections have named));
    }

pub are_buildable : (max pages : ℕ) (sections settled : List Section) → AreLoading sections settled → IsWithin max pages settled
    → AreBuildable settled
are_buildable max pages sections settled loading within =
    let parts = split_first sections loading.fit.some in
    let first : Section = parts.0 in
    let rest : List Section = parts.1 in
    let ready : All (IsReady sections) sections = are_ready loading.most sections loading.fit loading.short loading.none in
    let one : IsReady sections first = All-head (IsReady sections) first rest (subst (All (IsReady sections)) parts.2 ready) in
    let named : AreNamedBehind [] (first ∷ rest) = subst (AreNamedBehind []) parts.2 loading.fit.names in
    record {
      first = loaded_section first;
      rest = map loaded_section rest;
      are = loading.lists ∙ ap (map loaded_section) parts.2;
      unnamed = λ is. unnamed_alone max pages sections settled rest first parts.2 loading.lists one (alone_unnamed first rest is named) within;
      named = λ is.
          named_parts sections settled rest first parts.2 loading.lists one.settings.page_size ready
          (subst (All HasName) (sym parts.2) (all_named first rest is named)) loading.fit.names;
    }
