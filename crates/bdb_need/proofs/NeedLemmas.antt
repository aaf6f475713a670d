-- The sections of a file, and its master.
use Rattle.std.proofs.Common.{◌≡◌, ℕ, ◌+◌, Bool, true, false, cond, List, ◌++◌, [], ◌∷◌, map, Some, None, arith, refl, sym, ◌∙◌, ap, subst, inl, is_some, slice_get}
use Rattle.bdb_need.proofs.Common.{All, list_all, sum_by, and_parts, All-cons, All-head, All-nil, All-tail, Btree, Settings, Pair, TextPair, Section, IsShort, IsTreeList, unlined_pairs, tree_pages}
use Rattle.bdb_need.proofs.Common.{loaded, loaded_pair, loaded_section, unnumbered, AreSettled, is_short, master_pages, master_settings, name_in, name_pair, need_of, section_pages}
use Rattle.std.proofs.lemmas.Bool.Decides.{nat_tests}
use Rattle.bdb_settle.specs.ListLaw.{HasShortBytes, IsKeyOf}
use Rattle.bdb_settle.specs.LoadErrors.{load_error}
use Rattle.bdb_settle.proofs.ListLawLemmas.{load_into_lists}
use Rattle.bdb_settle.proofs.OrderedLemmas.{fold_all}

pub listed_again : (pairs : List Pair) → unlined_pairs (map unnumbered pairs) ≡ pairs
listed_again [] = refl
listed_again (pair ∷ pairs) = ap (λ ps. pair ∷ ps) (listed_again pairs)

-- the section of the master that is made up
abbrev pub made_up : ℕ → List TextPair → Section
made_up size pairs = record { name = None; settings = master_settings size; header_line = 0; pairs = pairs }

abbrev HasBtreeKey : TextPair → Type 0
HasBtreeKey pair = IsKeyOf Btree pair.key

names_fit : (sections : List Section) → All HasBtreeKey (map name_pair sections)
names_fit [] = All-nil HasBtreeKey
names_fit (section ∷ sections) = All-cons HasBtreeKey (name_pair section) (map name_pair sections) tt (names_fit sections)

pub short_bytes : (bytes : List ℕ) → is_short bytes ≡ true → IsShort bytes
short_bytes bytes is = grind (arith, nat_tests)

abbrev pub HasShortName : Section → Type 0
HasShortName section = IsShort (name_in section.name)

-- names that pass the test are short
pub names_pass : (sections : List Section) → list_all (λ (section : Section). is_short (name_in section.name)) sections ≡ true → All HasShortName sections
names_pass [] is = All-nil HasShortName
names_pass (section ∷ sections) is =
    let parts = and_parts (is_short (name_in section.name)) (list_all (λ (s : Section). is_short (name_in s.name)) sections) is in
    All-cons HasShortName section sections (short_bytes (name_in section.name) parts.0) (names_pass sections parts.1)

names_short : (size : ℕ) (sections : List Section) → All (λ (section : Section). IsShort (name_in section.name)) sections
    → All HasShortBytes (map (loaded_pair (master_settings size)) (map name_pair sections))
names_short size [] all = All-nil HasShortBytes
names_short size (section ∷ sections) all =
    grind (arith, All-head, All-cons, All-tail, names_short size sections (All-tail (λ (s : Section). IsShort (name_in s.name)) section sections all))

pub pushed_one : (size : ℕ) (old new : List Section) (settings : Settings) (pairs : List TextPair) → old ≡ [] → settings ≡ master_settings size
    → new ≡ old ++ (record { name = None; settings = settings; header_line = 0; pairs = pairs } ∷ []) → new ≡ made_up size pairs ∷ []
pushed_one size old new settings pairs none settings_are pushed = grind (arith, None)

-- what settling makes of it
pub master_is : (size : ℕ) (settled master : List Section) (found : Section) (pairs : List TextPair) → master ≡ made_up size pairs ∷ []
    → settled ≡ map loaded_section master → Some found ≡ slice_get settled 0 → found ≡ loaded_section (made_up size pairs)
master_is size settled master found pairs one lists at = grind (arith, Some)

pub master_list : (size : ℕ) (master sections : List Section) (found : Section) (pairs : List TextPair) → master ≡ made_up size pairs ∷ []
    → load_error master ≡ None → pairs ≡ map name_pair sections → All (λ (section : Section). IsShort (name_in section.name)) sections
    → found ≡ loaded_section (made_up size pairs) → IsTreeList found.settings (unlined_pairs found.pairs)
master_list size master sections found pairs one none are short is =
    let sound : load_error (made_up size pairs ∷ []) ≡ None = ap load_error (sym one) ∙ none in
    let fit : All HasBtreeKey pairs = subst (All HasBtreeKey) (sym are) (names_fit sections) in
    let bytes : All HasShortBytes (loaded (master_settings size) pairs) =
    fold_all HasShortBytes (master_settings size) (map (loaded_pair (master_settings size)) pairs) []
    (subst (λ ps. All HasShortBytes (map (loaded_pair (master_settings size)) ps)) (sym are) (names_short size sections short))
    (All-nil HasShortBytes) in
    let list : IsTreeList (master_settings size) (loaded (master_settings size) pairs) =
    load_into_lists (made_up size pairs ∷ []) sound 0 (made_up size pairs) (omega arith) (inl refl)
    (record { pairs = fit; sorted = λ is. absurd cc }) bytes in
    subst (λ (s : Section). IsTreeList s.settings (unlined_pairs s.pairs)) (sym is)
    (subst (λ ps. IsTreeList (master_settings size) ps) (sym (listed_again (loaded (master_settings size) pairs))) list)

pub master_counted : (size pages : ℕ) (sections : List Section) (found : Section) (pairs : List TextPair) → pairs ≡ map name_pair sections
    → found ≡ loaded_section (made_up size pairs) → pages ≡ tree_pages found.settings (unlined_pairs found.pairs)
    → pages ≡ tree_pages (master_settings size) (loaded (master_settings size) (map name_pair sections))
master_counted size pages sections found pairs are is pages_are = grind (arith, listed_again)

-- Sections one after the other.

-- the first is the one that is found
pub first_is : (sections : List Section) (settled : AreSettled sections) (found : Section) → Some found ≡ slice_get sections 0
    → found ≡ settled.first
first_is sections settled found at =
    let same : Some found ≡ Some settled.first = at ∙ ap (λ (ss : List Section). slice_get ss 0) settled.are in cc

-- all pages of a section without a name
pub need_unnamed : (sections : List Section) (settled : AreSettled sections) (found : Section) (own : ℕ) → Some found ≡ slice_get sections 0
    → is_some found.name ≡ false → own ≡ sum_by (section_pages found.settings.page_size) sections → own ≡ need_of sections
need_unnamed sections settled found own at unnamed own_is = grind (arith, first_is)

-- all pages of sections with names
pub need_named : (sections : List Section) (settled : AreSettled sections) (found : Section) (own master pages : ℕ)
    → Some found ≡ slice_get sections 0 → is_some found.name ≡ true → own ≡ sum_by (section_pages found.settings.page_size) sections
    → master ≡ master_pages found.settings.page_size sections → pages ≡ own + (1 + master) → pages ≡ need_of sections
need_named sections settled found own master pages at named own_is master_is pages_are =
    let one = first_is sections settled found at in
    let size : ℕ = settled.first.settings.page_size in
    let all : List Section = settled.first ∷ settled.rest in
    let has_name : is_some settled.first.name ≡ true =
    ap (λ (s : Section). is_some s.name) (sym one) ∙ named in
    let own_all : own ≡ sum_by (section_pages size) all =
    own_is
    ∙ (ap (λ (s : Section). sum_by (section_pages s.settings.page_size) sections) one ∙ ap (sum_by (section_pages size)) settled.are) in
    let master_all : master ≡ master_pages size all =
    master_is ∙ (ap (λ (s : Section). master_pages s.settings.page_size sections) one ∙ ap (master_pages size) settled.are) in
    let whole : need_of all ≡ (1 + master_pages size all) + sum_by (section_pages size) all =
    ap (λ (b : Bool). cond b (1 + master_pages size all) 0 + sum_by (section_pages size) all) has_name in
    let same = ap need_of settled.are in
    omega (arith, pages_are, own_all, master_all, whole, same)
