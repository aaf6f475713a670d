-- Laws of references that fit, owners and roles.
use Rattle.std.proofs.Common.{◌≡◌, ◌⊎◌, ℕ, zero, suc, ◌+◌, ◌<◌, ◌≤◌, Bool, true, false, not, ◌&&◌, ◌||◌, List, [], ◌∷◌, map, length, Option, None, arith, refl}
use Rattle.std.proofs.Common.{sym, ◌∙◌, ap, inl, inr, true≢false, nat_lt, ◌==◌, option_to_list}
use Rattle.std.specs.List.{Contains, list_any, range_with_len}
use Rattle.std.proofs.lemmas.Bool.{cases_Bool, not-false, eqb-true, and_parts, and_right}
use Rattle.bdb_format.specs.declared.kinds.Order.{Order}
use Rattle.bdb_format.specs.declared.metadata.Head.{Head}
use Rattle.bdb_format.specs.declared.metadata.FileKind.{FileKind}
use Rattle.bdb_format.specs.declared.metadata.FileKind.TheVariants.{Btree, Hash as HashFile, Queue as QueueFile}
use Rattle.bdb_format.specs.declared.references.Sort.{Sort}
use Rattle.bdb_format.specs.declared.references.Sort.TheVariants.{Root, Child}
use Rattle.bdb_format.specs.declared.references.Reference.{Reference}
use Rattle.bdb_format.specs.Terms.{Asked, BtreeFields, EachPageHasOneRole, File, HasRole, HashFields, Internal, Meta, Metadata, Owner, Page, QueueFields}
use Rattle.bdb_format.specs.Terms.{RecnoInternal, RolesExclude, RolesExcludeEachOther, Row, Zero, abstract_page, all_references, asked_by, byte_at}
use Rattle.bdb_format.specs.Terms.{child_types, code_of, fails_as, file_of, first_row, fit_code, form_code, form_faults, has_heads_alone, has_type, head_of}
use Rattle.bdb_format.specs.Terms.{header_in, identity_rows, is_anchor, is_anchor_in, is_hash_meta, is_meta, is_reserve, is_spare, is_zero, is_zero_page}
use Rattle.bdb_format.specs.Terms.{may_have_type, owners, ownership_faults, ownership_rows, page_as, page_at, page_bytes, page_type, reach_faults, reach_rows}
use Rattle.bdb_format.specs.Terms.{reaches, reference_faults, reference_rows, refs, root_types, some_fails, type_in, typed_code, ◌:?◌}
use Rattle.bdb_format.specs.declared.pages.PageType.{PageType}
use Rattle.bdb_format.specs.Verdict.{holding}
use Rattle.bdb_format.proofs.PageLemmas.{later_type}
use Rattle.bdb_format.proofs.ReferenceLemmas.{no_refs, of_all}
use Rattle.std.proofs.lemmas.Bool.Decides.{nat_tests}
use Rattle.bdb_format.proofs.MemberLemmas.{is_empty, no_member, none_passes, none_pass, of_map, of_filter, of_range}
use Rattle.bdb_format.proofs.VerdictLemmas.{AllFail, none_holds, none_is_first_row, no_code, no_codes_at, no_rows_at, no_faults, none_within}

-- References that fit.

abbrev first_of_four : Bool → Bool → Bool → Bool → Option ℕ
first_of_four a b c d = first_row (1 :? a ∷ 2 :? b ∷ 3 :? c ∷ 4 :? d ∷ [])

none_of_four : (a b c d : Bool)
    → fails_as 1 (first_of_four a b c d) ≡ false
    → fails_as 2 (first_of_four a b c d) ≡ false
    → fails_as 3 (first_of_four a b c d) ≡ false
    → fails_as 4 (first_of_four a b c d) ≡ false
    → first_of_four a b c d ≡ None
none_of_four a b c d not_1 not_2 not_3 not_4 = grind arith

-- a reference that fails as none of the codes fits
fails_as_none : (file : File) (p : ℕ) (reference : Reference)
    → fails_as 1 (fit_code file p reference) ≡ false
    → fails_as 2 (fit_code file p reference) ≡ false
    → fails_as 3 (fit_code file p reference) ≡ false
    → fails_as 4 (fit_code file p reference) ≡ false
    → fit_code file p reference ≡ None
unfolding fit_code
fails_as_none file p reference = none_of_four _ _ _ _

-- after stage 3 each reference fits
pub each_fits : (file : File) (p : ℕ) (reference : Reference) → reference_faults file ≡ [] → p ≤ file.last → Contains (refs file p) reference
    → fit_code file p reference ≡ None
unfolding reference_faults
each_fits file p reference none inside at =
    let fail = no_rows_at 3 0 (file.last + 1) p (reference_rows file) none (omega arith) (omega arith) in
    let passes : (code : ℕ) → some_fails file p code ≡ false → fails_as code (fit_code file p reference) ≡ false =
    λ code fails. none_passes (λ r. fails_as code (fit_code file p r)) (refs file p) reference fails at in
    fails_as_none file p reference (passes 1 fail.0) (passes 2 fail.1.0) (passes 3 fail.1.1.0) (passes 4 fail.1.1.1.0)

-- Owners.

-- a reference to a page, with its holder
pub record IsOwner (file : File) (p : ℕ) (owner : Owner) : Type 0 where
  pub inside : owner.holder ≤ file.last
  pub held : Contains (refs file owner.holder) owner.reference
  pub names : owner.reference.target ≡ p

pub is_owner : (file : File) (p : ℕ) (owner : Owner) → Contains (owners file p) owner → IsOwner file p owner
unfolding owners
is_owner file p owner at =
    let passed = of_filter (λ (o : Owner). o.reference.target == p) (all_references file) owner at in
    let all = of_all file owner passed.0 in
    record { inside = all.0; held = all.1; names = eqb-true owner.reference.target p passed.1 }

pub owner_fits : (file : File) (p : ℕ) (owner : Owner) → reference_faults file ≡ [] → Contains (owners file p) owner
    → fit_code file owner.holder owner.reference ≡ None
owner_fits file p owner none at =
    let is : IsOwner file p owner = is_owner file p owner at in
    each_fits file owner.holder owner.reference none is.inside is.held

-- No reference asks for metadata.

abbrev is_metadata_type : ℕ → Bool
is_metadata_type type = type == 8 || type == 9 || type == 10

root_is_no_metadata : (page : Page) → list_any is_metadata_type (root_types page) ≡ false
root_is_no_metadata (Meta (BtreeFields meta)) = grind arith
root_is_no_metadata page = refl

child_is_no_metadata : (page : Page) → list_any is_metadata_type (child_types page) ≡ false
child_is_no_metadata (Internal page) = grind arith
child_is_no_metadata (RecnoInternal page) = grind arith
child_is_no_metadata page = refl

asks_no_metadata : (holder : ℕ) (page : Page) (sort : Sort) → list_any is_metadata_type (asked_by holder page sort).types ≡ false
asks_no_metadata holder page Root = root_is_no_metadata page
asks_no_metadata holder page Child = child_is_no_metadata page
asks_no_metadata holder page sort = refl

no_metadata_among : (types : List ℕ) (meta : Metadata) → list_any is_metadata_type types ≡ false → has_type types (type_in (Meta meta)) ≡ false
no_metadata_among [] meta none = refl
no_metadata_among (type ∷ types) (BtreeFields fields) none = grind (arith, no_metadata_among types (BtreeFields fields))
no_metadata_among (type ∷ types) (HashFields fields) none = grind (arith, no_metadata_among types (HashFields fields))
no_metadata_among (type ∷ types) (QueueFields fields) none = grind (arith, no_metadata_among types (QueueFields fields))

metadata_misfits : (asked : Asked) (page : Page) → list_any is_metadata_type asked.types ≡ false → is_meta page ≡ true
    → not (has_type asked.types (type_in page) || (asked.or_zero && is_zero_page page)) ≡ true
metadata_misfits asked (Meta meta) none is = grind (arith, no_metadata_among asked.types meta none)
metadata_misfits asked page none is = absurd cc

-- a reference that fits doesn't name metadata
fits_no_metadata : (file : File) (p : ℕ) (reference : Reference) → fit_code file p reference ≡ None → is_meta (page_at file reference.target) ≡ true → ⊥
unfolding fit_code
fits_no_metadata file p reference fits is = grind (arith, metadata_misfits, asks_no_metadata, none_is_first_row)

-- Roles.

anchor_cases : (kind : FileKind) (page : Page) → is_anchor_in kind page ≡ true → (kind ≡ QueueFile) ⊎ (is_meta page ≡ true)
anchor_cases Btree page is = inr is
anchor_cases HashFile page is = inr is
anchor_cases QueueFile page is = inl refl

-- an anchor is a page of a queue file, or metadata
anchor_is : (file : File) (p : ℕ) → is_anchor file p ≡ true → (file.kind ≡ QueueFile) ⊎ (is_meta (page_at file p) ≡ true)
unfolding is_anchor
anchor_is file p is = anchor_cases file.kind (page_at file p) is

-- after stage 3 no reference names an anchor
pub anchor_unowned : (file : File) (p : ℕ) → reference_faults file ≡ [] → is_anchor file p ≡ true → owners file p ≡ []
anchor_unowned file p none is =
    is_empty (owners file p) (λ owner at.
    let owns : IsOwner file p owner = is_owner file p owner at in
    elim (anchor_is file p is) [
      | inl queue ↦ no_member (refs file owner.holder) owner.reference (no_refs file owner.holder queue) owns.held
      | inr meta ↦ fits_no_metadata file owner.holder owner.reference (owner_fits file p owner none at) (ap (λ target. is_meta (page_at file target)) owns.names
          ∙ meta)
    ])

-- what makes a page a reserve
pub record IsReserve (file : File) (p : ℕ) : Type 0 where
  pub has_table : list_any is_hash_meta file.pages ≡ true
  pub unowned : length (owners file p) ≡ 0
  pub spare : is_spare (page_at file p) ≡ true

pub reserve_is : (file : File) (p : ℕ) → is_reserve file p ≡ true → IsReserve file p
unfolding is_reserve
reserve_is file p is = grind (arith, and_parts, eqb-true)

spare_is_no_metadata : (page : Page) → is_spare page ≡ true → is_meta page ≡ true → ⊥
spare_is_no_metadata (Meta fields) spare is = cc
spare_is_no_metadata page spare is = cc

-- The rows of ownership, by the facts that they look at: anchor, reserve, heads alone, references and what a head counts.

abbrev has_no_owner : Bool → Bool → ℕ → Bool
has_no_owner anchor reserve n = not anchor && not reserve && n == 0

abbrev has_too_many : Bool → ℕ → ℕ → Bool
has_too_many heads n counted = (heads && nat_lt counted n) || (not heads && nat_lt 1 n)

abbrev RoleBy : Bool → Bool → Bool → ℕ → ℕ → Type 0
RoleBy anchor reserve heads n counted =
    (anchor ≡ true) ⊎ ((reserve ≡ true) ⊎ (((n ≡ 1) × (heads ≡ true → 1 ≤ counted)) ⊎ ((heads ≡ true) × (0 < n) × (n ≤ counted))))

role_by_rows : (anchor reserve heads : Bool) (n counted : ℕ) → has_no_owner anchor reserve n ≡ false → has_too_many heads n counted ≡ false
    → RoleBy anchor reserve heads n counted
role_by_rows true reserve heads n counted owned few = inl refl
role_by_rows false true heads n counted owned few = inr (inl refl)
role_by_rows false false true n counted owned few = inr (inr (inr (refl, grind (arith, nat_tests), grind (arith, nat_tests))))
role_by_rows false false false n counted owned few = inr (inr (inl (grind (arith, nat_tests), λ is. absurd cc)))

rows_by_role : (anchor reserve heads : Bool) (n counted : ℕ) → (anchor ≡ true → n ≡ 0) → (reserve ≡ true → n ≡ 0) → RoleBy anchor reserve heads n counted
    → (has_no_owner anchor reserve n ≡ false) × (has_too_many heads n counted ≡ false)
rows_by_role anchor reserve heads n counted unowned unnamed role = (grind (arith, nat_tests), grind (arith, nat_tests))

-- The laws.

-- a page where no row of ownership holds has a role
role_of : (file : File) (p : ℕ) → ownership_faults file ≡ [] → 1 ≤ p → p ≤ file.last → HasRole file p
unfolding ownership_faults
role_of file p none low high =
    let fail = no_rows_at 4 1 file.last p (ownership_rows file) none low (omega arith) in
    role_by_rows (is_anchor file p) (is_reserve file p) (has_heads_alone file p) (length (owners file p)) (header_in (page_at file p)).entries fail.0 fail.1.0

pub reached_of : (file : File) (p : ℕ) → reach_faults file ≡ [] → 1 ≤ p → p ≤ file.last → reaches file p ≡ true
unfolding reach_faults
reached_of file p none low high = not-false (reaches file p) (no_rows_at 5 1 file.last p (reach_rows file) none low (omega arith)).0

-- where each page has a role, no row of ownership holds
no_ownership_fault : (file : File) → reference_faults file ≡ [] → ((p : ℕ) → 1 ≤ p → p ≤ file.last → HasRole file p) → ownership_faults file ≡ []
unfolding ownership_faults
no_ownership_fault file none role = grind (arith, no_faults, rows_by_role, anchor_unowned, reserve_is, none_holds)

no_reach_fault : (file : File) → ((p : ℕ) → 1 ≤ p → p ≤ file.last → reaches file p ≡ true) → reach_faults file ≡ []
unfolding reach_faults
no_reach_fault file reached =
    no_faults 5 1 file.last (λ page. holding (reach_rows file page)) (λ p low high. none_holds (reach_rows file p) (ap not (reached p low (omega arith)), tt))

pub each_page_has_one_role : EachPageHasOneRole
each_page_has_one_role file = grind (arith, role_of, reached_of, no_ownership_fault, no_reach_fault)

-- no page is two of an anchor, a reserve and a page with owners
roles_exclude : (file : File) (p : ℕ) → reference_faults file ≡ [] → (file.kind ≡ QueueFile → list_any is_hash_meta file.pages ≡ false) → RolesExclude file p
roles_exclude file p none no_table =
    record {
      anchor_reserve = λ anchor reserve.
          elim (anchor_is file p anchor) [
            | inl queue ↦ true≢false (sym (reserve_is file p reserve).has_table ∙ no_table queue)
            | inr meta ↦ spare_is_no_metadata (page_at file p) (reserve_is file p reserve).spare meta
          ];
      anchor_owned = λ anchor owned. let unowned : length (owners file p) ≡ 0 = ap length (anchor_unowned file p none anchor) in omega arith;
      reserve_owned = λ reserve owned. let unowned : length (owners file p) ≡ 0 = (reserve_is file p reserve).unowned in omega arith;
    }

-- Queue files: a page is a zero page, the metadata of a queue, or a queue page.

-- where a code of a page that isn't empty is none, no row of its number and type holds, and no later one
of_no_code : (empty : Bool) (order : Order) (number : ℕ) (page : List ℕ) (is_type : ℕ → Bool) (rest : PageType → Option ℕ) → empty ≡ false
    → code_of empty order number page is_type rest ≡ None
    → (first_row (identity_rows order page number is_type) ≡ None) × (rest (page_type (byte_at page 25)) ≡ None)
of_no_code true order number page is_type rest some none = absurd cc
of_no_code false order number page is_type rest some none =
    (grind arith, grind arith)

-- a page of sound form that isn't a zero page: no row of its number and type holds, and none of a page of its type
formed_rows : (head : Head) (number : ℕ) (page : List ℕ) → is_zero page ≡ false → form_code head number page ≡ None
    → (first_row (identity_rows head.order page number (may_have_type head.kind number)) ≡ None)
    × (typed_code head number page (page_type (byte_at page 25)) ≡ None)
unfolding form_code
formed_rows head number page some none = grind (arith, of_no_code, and_right)

-- a page of sound form that isn't a zero page has no row of a page of its type
pub typed_none : (head : Head) (number : ℕ) (page : List ℕ) → is_zero page ≡ false → form_code head number page ≡ None
    → typed_code head number page (page_type (byte_at page 25)) ≡ None
typed_none head number page some none = (formed_rows head number page some none).1

-- a page of sound form that isn't a zero page has a type that it may have
pub type_fits : (head : Head) (number : ℕ) (page : List ℕ) → is_zero page ≡ false → form_code head number page ≡ None
    → may_have_type head.kind number (byte_at page 25) ≡ true
type_fits head number page some none =
    let rows : List (Row ℕ) = identity_rows head.order page number (may_have_type head.kind number) in
    let first : first_row rows ≡ None = (formed_rows head number page some none).0 in
    let fail : AllFail rows = none_is_first_row rows first in
    not-false (may_have_type head.kind number (byte_at page 25)) fail.1.0

pub queue_types : (number byte : ℕ) → may_have_type QueueFile number byte ≡ true → (byte ≡ 10) ⊎ (byte ≡ 11)
queue_types zero byte may = inl (eqb-true byte 10 may)
queue_types (suc number) byte may = inr (eqb-true byte 11 (sym (later_type QueueFile number byte) ∙ may))

no_table_of_type : (order : Order) (page : List ℕ) (byte : ℕ) → (byte ≡ 10) ⊎ (byte ≡ 11) → is_hash_meta (page_as order page (page_type byte)) ≡ false
no_table_of_type order page byte (inl metadata) = rw metadata refl
no_table_of_type order page byte (inr records) = rw records refl

pub zero_page : (order : Order) (page : List ℕ) → is_zero page ≡ true → abstract_page order page ≡ Zero
unfolding abstract_page
zero_page order page empty = rw (empty, abstract_page) refl

pub typed_page : (order : Order) (page : List ℕ) → is_zero page ≡ false → abstract_page order page ≡ page_as order page (page_type (byte_at page 25))
unfolding abstract_page
typed_page order page some = rw (some, abstract_page) refl

queue_page_is_no_table : (head : Head) (number : ℕ) (page : List ℕ) → head.kind ≡ QueueFile → form_code head number page ≡ None
    → is_hash_meta (abstract_page head.order page) ≡ false
queue_page_is_no_table head number page queue none =
    elim (cases_Bool (is_zero page)) [
      | inl empty ↦ ap is_hash_meta (zero_page head.order page empty)
      | inr some ↦
          let may : may_have_type QueueFile number (byte_at page 25) ≡ true = ap (λ kind. may_have_type kind number (byte_at page 25)) (sym queue)
          ∙ type_fits head number page some none in
          ap is_hash_meta (typed_page head.order page some) ∙ no_table_of_type head.order page (byte_at page 25) (queue_types number (byte_at page 25) may)
    ]

queue_has_no_table : (image : List ℕ) → form_faults image ≡ [] → (file_of image).kind ≡ QueueFile → list_any is_hash_meta (file_of image).pages ≡ false
unfolding file_of form_faults
queue_has_no_table image none queue =
    let head : Head = head_of image in
    let page : ℕ → Page = λ p. abstract_page head.order (page_bytes head image p) in
    none_pass is_hash_meta (map page (range_with_len 0 (head.last + 1))) (λ x at.
    let found : (p : ℕ) × Contains (range_with_len 0 (head.last + 1)) p × (page p ≡ x) = of_map page (range_with_len 0 (head.last + 1)) x at in
    let within : (0 ≤ found.0) × (found.0 < 0 + (head.last + 1)) = of_range 0 (head.last + 1) found.0 found.1 in
    let code : form_code head found.0 (page_bytes head image found.0) ≡ None =
    no_code _ (no_codes_at 2 0 (head.last + 1) found.0 (λ p. option_to_list (form_code head p (page_bytes head image p))) none within.0 within.1) in
    ap is_hash_meta (sym found.2) ∙ queue_page_is_no_table head found.0 (page_bytes head image found.0) queue code)

pub roles_exclude_each_other : RolesExcludeEachOther
roles_exclude_each_other image p none low high =
    roles_exclude (file_of image) p (none_within 1 3 image 3 none (omega arith) (omega arith))
    (queue_has_no_table image (none_within 1 3 image 2 none (omega arith) (omega arith)))
