-- Sections whose records are filled up, and what is counted of those that aren't yet.
use Rattle.std.proofs.Common.{arith, ◌≡◌, Bool, ℕ, ◌+◌, ◌-◌, List, [], ◌∷◌, map, Some, refl, sym, ◌∙◌, ap, subst, inl, inr, ◌&&◌, if◌then◌else◌, is_some, slice_get, All, sum_by}
use Rattle.bdb_need.proofs.Common.{and-false, All-cons, All-head, All-nil, All-tail, sum_by-cons, Btree, Recno, Hash, Queue, Settings, page_of_record, queue_size, next_number, unlined_pairs}
use Rattle.bdb_need.proofs.Common.{tree_pages, TextPair, Section, AscendFrom, holds_records, number_of, filled_pairs, filled_section, loaded, as_they_are, AreSettled, IsListOf, IsSettled}
use Rattle.bdb_need.proofs.Common.{master_pages, master_settings, name_pair, need_of, section_pages, sized}
use Rattle.bdb_mkhash.specs.of_format.declared.kinds.Kind.{Kind}
use Rattle.bdb_need.proofs.SectionLemmas.{filled_before}

-- Lists.

pub table_as_is : (settings : Settings) (pairs : List TextPair) → settings.kind ≡ Hash → filled_pairs settings pairs ≡ pairs
table_as_is settings pairs hash = as_they_are settings pairs (ap (λ k. settings.fixed && holds_records k) hash ∙ and-false settings.fixed)

-- numbers are as they were

pub ascend_before : (settings : Settings) (least : ℕ) (pairs : List TextPair) → AscendFrom least (unlined_pairs (filled_pairs settings pairs))
    → AscendFrom least (unlined_pairs pairs)
ascend_before settings least [] ascend = tt
ascend_before settings least (pair ∷ pairs) ascend = (ascend.0, ascend_before settings (number_of pair.key + 1) pairs ascend.1)

pub ascend_filled : (settings : Settings) (least : ℕ) (pairs : List TextPair) → AscendFrom least (unlined_pairs pairs)
    → AscendFrom least (unlined_pairs (filled_pairs settings pairs))
ascend_filled settings least [] ascend = tt
ascend_filled settings least (pair ∷ pairs) ascend = (ascend.0, ascend_filled settings (number_of pair.key + 1) pairs ascend.1)

next_filled : (settings : Settings) (least : ℕ) (pairs : List TextPair)
    → next_number least (unlined_pairs (filled_pairs settings pairs)) ≡ next_number least (unlined_pairs pairs)
next_filled settings least [] = refl
next_filled settings least (pair ∷ pairs) = next_filled settings (number_of pair.key + 1) pairs

pub queue_filled : (settings : Settings) (per_page : ℕ) (pairs : List TextPair)
    → queue_size per_page (unlined_pairs (filled_pairs settings pairs)) ≡ queue_size per_page (unlined_pairs pairs)
queue_filled settings per_page [] = refl
queue_filled settings per_page (pair ∷ pairs) = ap (λ n. page_of_record per_page (n - 1)) (next_filled settings 1 (pair ∷ pairs))

-- Sections with lists of their kinds.

as_is : (size : ℕ) (section : Section) (kind : Kind) → section.settings.kind ≡ kind → (kind ≡ Queue → ⊥) → IsSettled size section
    → filled_pairs section.settings section.pairs ≡ section.pairs
as_is size section Btree is other settled =
    filled_before (sized size section) section.pairs (inl is) (subst (λ k. IsListOf k (sized size section) (unlined_pairs section.pairs)) is settled.list)
as_is size section Recno is other settled =
    filled_before (sized size section) section.pairs (inr is) (subst (λ k. IsListOf k (sized size section) (unlined_pairs section.pairs)) is settled.list)
as_is size section Hash is other settled = table_as_is section.settings section.pairs is
as_is size section Queue is other settled = absurd (other refl)

settled_unless : (size : ℕ) (section : Section) (kind : Kind) → section.settings.kind ≡ kind → (kind ≡ Queue → ⊥) → IsSettled size section
    → IsSettled size (filled_section section)
settled_unless size section kind is other settled =
    subst (λ (pairs : List TextPair). IsSettled size (record section { pairs = pairs })) (sym (as_is size section kind is other settled)) settled

settled_as : (size : ℕ) (section : Section) (kind : Kind) → section.settings.kind ≡ kind → IsSettled size section → IsSettled size (filled_section section)
settled_as size section Btree is settled = settled_unless size section Btree is (λ e. cc) settled
settled_as size section Recno is settled = settled_unless size section Recno is (λ e. cc) settled
settled_as size section Hash is settled = settled_unless size section Hash is (λ e. cc) settled
settled_as size section Queue is settled = grind (arith, ascend_filled)

pages_unless : (size : ℕ) (section : Section) (kind : Kind) → section.settings.kind ≡ kind → (kind ≡ Queue → ⊥) → IsSettled size section
    → section_pages size (filled_section section) ≡ section_pages size section
pages_unless size section kind is other settled =
    ap (λ (pairs : List TextPair). section_pages size (record section { pairs = pairs })) (as_is size section kind is other settled)

pages_as : (size : ℕ) (section : Section) (kind : Kind) → section.settings.kind ≡ kind → IsSettled size section
    → section_pages size (filled_section section) ≡ section_pages size section
pages_as size section Btree is settled = pages_unless size section Btree is (λ e. cc) settled
pages_as size section Recno is settled = pages_unless size section Recno is (λ e. cc) settled
pages_as size section Hash is settled = pages_unless size section Hash is (λ e. cc) settled
pages_as size section Queue is settled = grind (arith, queue_filled)

each_filled : (size : ℕ) (sections : List Section) → All (IsSettled size) sections → All (IsSettled size) (map filled_section sections)
each_filled size [] all = All-nil (IsSettled size)
each_filled size (section ∷ sections) all =
    grind (arith, All-cons, settled_as, All-head, All-tail, each_filled size sections (All-tail (IsSettled size) section sections all))

pub settled_filled : (sections : List Section) → AreSettled sections → AreSettled (map filled_section sections)
settled_filled sections settled = record {
  first = filled_section settled.first;
  rest = map filled_section settled.rest;
  are = ap (map filled_section) settled.are;
  legal = settled.legal;
  each = each_filled settled.first.settings.page_size sections settled.each;
}

-- Pages.

same_names : (sections : List Section) → map name_pair (map filled_section sections) ≡ map name_pair sections
same_names [] = refl
same_names (section ∷ sections) = ap (λ pairs. name_pair section ∷ pairs) (same_names sections)

pub same_master : (size : ℕ) (sections : List Section) → master_pages size (map filled_section sections) ≡ master_pages size sections
same_master size sections = ap (λ pairs. tree_pages (master_settings size) (loaded (master_settings size) pairs)) (same_names sections)

sums : (size : ℕ) (sections : List Section) → All (IsSettled size) sections
    → sum_by (section_pages size) (map filled_section sections) ≡ sum_by (section_pages size) sections
sums size [] all = refl
sums size (section ∷ sections) all =
    sum_by-cons (section_pages size) (filled_section section) (map filled_section sections)
    ∙ ap (λ n. n + sum_by (section_pages size) (map filled_section sections))
    (pages_as size section section.settings.kind refl (All-head (IsSettled size) section sections all))
    ∙ ap (λ n. section_pages size section + n) (sums size sections (All-tail (IsSettled size) section sections all))
    ∙ sym (sum_by-cons (section_pages size) section sections)

pub need_before : (sections : List Section) → AreSettled sections → need_of (map filled_section sections) ≡ need_of sections
need_before sections settled =
    let size : ℕ = settled.first.settings.page_size in
    let all : List Section = settled.first ∷ settled.rest in
    let named : Bool = is_some settled.first.name in
    ap (λ ss. need_of (map filled_section ss)) settled.are
    ∙ ap (λ n. (if named then 1 + n else 0) + sum_by (section_pages size) (map filled_section all)) (same_master size all)
    ∙ ap (λ n. (if named then 1 + master_pages size all else 0) + n) (sums size all (subst (All (IsSettled size)) settled.are settled.each))
    ∙ sym (ap need_of settled.are)

-- The same, as it is counted.

pub sums_filled : (size : ℕ) (sections : List Section)
    → sum_by (λ (section : Section). section_pages size (filled_section section)) sections ≡ sum_by (section_pages size) (map filled_section sections)
sums_filled size [] = refl
sums_filled size (section ∷ sections) = omega (arith, sum_by-cons, sums_filled size sections)

pub each_before : (size : ℕ) (sections : List Section) → All (IsSettled size) (map filled_section sections)
    → All (λ section. IsSettled size (filled_section section)) sections
each_before size [] all = All-nil (λ section. IsSettled size (filled_section section))
each_before size (section ∷ sections) all =
    All-cons (λ section. IsSettled size (filled_section section)) section sections
    (All-head (IsSettled size) (filled_section section) (map filled_section sections) all)
    (each_before size sections (All-tail (IsSettled size) (filled_section section) (map filled_section sections) all))

-- the first section
pub first_filled : (sections : List Section) (found : Section) → Some found ≡ slice_get sections 0
    → Some (filled_section found) ≡ slice_get (map filled_section sections) 0
first_filled [] found at = absurd cc
first_filled (section ∷ sections) found at =
    let same : found ≡ section = cc in ap (λ s. Some (filled_section s)) same
