-- The faults that are noted of a recno are those of its contents.
use Rattle.std.proofs.lemmas.Bool.{and_parts, and_from, false_from_ne_true}
use Rattle.bdb_tree.specs.of_format.Terms.{BtreeFields, File, Page, Row, btree_contents, by_page, children_in, contents_row_code, database_faults}
use Rattle.bdb_tree.specs.of_format.Terms.{database_rows, file_of, has_wrong_count, has_wrong_record, header_in, inner_in, inner_pages, is_fixed, is_recno}
use Rattle.bdb_tree.specs.of_format.Terms.{is_wrong_at, leaves, page_at, recno_contents, ◌:?◌}
use Rattle.bdb_tree.proofs.of_format.ListLemmas.{only_member}
use Rattle.std.proofs.Common.{◌≡◌, ◌⊎◌, ℕ, zero, suc, ◌+◌, ◌≤◌, Bool, true, false, cond, List, [], ◌∷◌, ◌++◌, arith, refl, sym, ◌∙◌, ap, subst, inl, inr, ◌&&◌}
use Rattle.std.proofs.Common.{All, Contains, filter, is_some}
use Rattle.std.proofs.lemmas.List.Elements.{All-contains, Contains-append_cases, Contains-append_left, Contains-append_right}
use Rattle.bdb_faults.specs.Notes.{NotesAll}
use Rattle.bdb_faults.proofs.SinkLemmas.{notes_both, notes_same}
use Rattle.bdb_tree.specs.of_image.Linked.{HasMetadata, IsForest}
use Rattle.bdb_tree.specs.of_format.declared.kinds.Fault.{Fault}
use Rattle.bdb_tree.specs.of_format.declared.metadata.BtreeMeta.{BtreeMeta}
use Rattle.bdb_tree.specs.of_format.Verdict.{holding}
use Rattle.bdb_tree.proofs.of_format.MemberLemmas.{first_member, later_member, member_cases, no_member, of_filter}
use Rattle.bdb_tree.proofs.of_format.VerdictLemmas.{in_by_page, of_by_page}
use Rattle.bdb_recno.specs.Counts.{HasRightCounts}
use Rattle.bdb_recno.specs.Noted.{count_faults, length_faults}
use Rattle.bdb_tree.specs.of_format.declared.rows.ContentsRow.{ContentsRow}
use Rattle.bdb_tree.specs.of_format.declared.rows.ContentsRow.TheVariants.{Count, RecordLength}
use Rattle.bdb_recno.specs.Pages.{IsRecnoPage}
use Rattle.bdb_recno.proofs.CountLemmas.{all_one, level_below, next_recno}
use Rattle.bdb_recno.proofs.NotedLemmas.{in_faults_on, in_wrong_at, of_faults_on, of_wrong_at}
use Rattle.bdb_recno.proofs.PageLemmas.{leaf_inside, leaves_recno, recno_inside, root_recno}

-- The pages that are looked at are there.

inner_recno : (n : ℕ) (image ps : List ℕ) (p : ℕ) → IsForest image → All (IsRecnoPage (file_of image)) ps → Contains (inner_in n (file_of image) ps) p
    → IsRecnoPage (file_of image) p
inner_recno zero image ps p forest all at = absurd (no_member [] p refl at)
inner_recno (suc n) image ps p forest all at =
    let file : File = file_of image in
    let inner : ℕ → Bool = λ q. is_some (children_in (page_at file q)) in
    elim (Contains-append_cases (filter inner ps) (inner_in n file (level_below file ps)) p at) [
      | inl here ↦ All-contains (IsRecnoPage file) ps p all (of_filter inner ps p here).0
      | inr below ↦ inner_recno n image (level_below file ps) p forest (next_recno image ps forest all) below
    ]

pub inner_inside : (image : List ℕ) (root p : ℕ) → IsForest image → IsRecnoPage (file_of image) root → Contains (inner_pages (file_of image) root) p
    → p ≤ (file_of image).last
unfolding inner_pages
inner_inside image root p forest recno at =
    recno_inside image p (inner_recno (header_in (page_at (file_of image) root)).level image (root ∷ []) p forest
    (all_one (IsRecnoPage (file_of image)) root recno) at)

-- The codes of a page.

of_two : (a b : Bool) (code : ℕ) → Contains (holding (6 :? a ∷ 7 :? b ∷ [])) code → ((code ≡ 6) × (a ≡ true)) ⊎ ((code ≡ 7) × (b ≡ true))
of_two true true code at =
    elim (member_cases 6 (7 ∷ []) code at) [ inl here ↦ inl (sym here, refl) | inr later ↦ inr (sym (only_member 7 code later), refl) ]
of_two true false code at = inl (sym (only_member 6 code at), refl)
of_two false true code at = inr (sym (only_member 7 code at), refl)
of_two false false code at = absurd (no_member [] code refl at)

in_six : (a b : Bool) → a ≡ true → Contains (holding (6 :? a ∷ 7 :? b ∷ [])) 6
in_six true b is = first_member 6 (cond b (7 ∷ []) [])
in_six false b is = absurd cc

in_seven : (a b : Bool) → b ≡ true → Contains (holding (6 :? a ∷ 7 :? b ∷ [])) 7
in_seven true true is = later_member 6 (7 ∷ []) 7 (first_member 7 [])
in_seven false true is = first_member 7 []
in_seven a false is = absurd cc

-- The faults.

-- the faults as they are noted: those of counts, then those of lengths
abbrev pub noted_faults : File → BtreeMeta → List Fault
noted_faults file meta =
    count_faults file (inner_pages file meta.root)
    ++ cond (is_fixed meta) (length_faults file meta (leaves file meta.root)) []

-- the rows of a recno at a page
abbrev rows_at : File → BtreeMeta → ℕ → List (Row ℕ)
rows_at file meta p = database_rows file (BtreeFields meta) p

recno_rows : (file : File) (meta : BtreeMeta) (p : ℕ) → is_recno meta ≡ true → rows_at file meta p ≡ recno_contents file meta p
recno_rows file meta p recno = ap (λ b. cond b (recno_contents file meta p) (btree_contents file meta p)) recno

-- the codes of a recno at a page
abbrev codes_at : File → BtreeMeta → ℕ → List ℕ
codes_at file meta p = holding (recno_contents file meta p)

abbrev recno_faults : File → BtreeMeta → List Fault
recno_faults file meta = by_page 8 0 (file.last + 1) (codes_at file meta)

-- a fault of a page of a list, by its row, is one of the recno
row_holds : (file : File) (meta : BtreeMeta) (row : ContentsRow) (test : Page → Bool) (pages : List ℕ) (p : ℕ) → Contains pages p → p ≤ file.last
    → test (page_at file p) ≡ true → (is_wrong_at file test pages p ≡ true → Contains (codes_at file meta p) (contents_row_code row))
    → Contains (recno_faults file meta) (record { stage = 8; page = p; code = contents_row_code row })
row_holds file meta row test pages p listed low wrong holds = grind (arith, in_by_page, in_wrong_at)

of_lengths : (b : Bool) (faults : List Fault) (fault : Fault) → Contains (cond b faults []) fault → (b ≡ true) × Contains faults fault
of_lengths true faults fault at = (refl, at)
of_lengths false faults fault at = absurd (no_member [] fault refl at)

noted_holds : (image : List ℕ) (meta : BtreeMeta) (fault : Fault) → IsForest image → IsRecnoPage (file_of image) meta.root
    → Contains (noted_faults (file_of image) meta) fault → Contains (recno_faults (file_of image) meta) fault
noted_holds image meta fault forest root at =
    let file : File = file_of image in
    let counts : List ℕ = inner_pages file meta.root in
    let lengths : List ℕ = leaves file meta.root in
    let fixed : Bool = is_fixed meta in
    elim (Contains-append_cases (count_faults file counts) (cond fixed (length_faults file meta lengths) []) fault at) [
      | inl counted ↦
          let on = of_faults_on file Count (has_wrong_count file) counts fault counted in
          subst (Contains (recno_faults file meta)) (sym on.is)
          (row_holds file meta Count (has_wrong_count file) counts on.page on.listed (inner_inside image meta.root on.page forest root on.listed) on.wrong
          (in_six (is_wrong_at file (has_wrong_count file) counts on.page) (fixed && is_wrong_at file (has_wrong_record file meta) lengths on.page)))
      | inr long ↦
          let of : (fixed ≡ true) × Contains (length_faults file meta lengths) fault = of_lengths fixed _ fault long in
          let on = of_faults_on file RecordLength (has_wrong_record file meta) lengths fault of.1 in
          subst (Contains (recno_faults file meta)) (sym on.is)
          (row_holds file meta RecordLength (has_wrong_record file meta) lengths on.page on.listed
          (leaf_inside image on.page (leaves_recno image meta.root on.page forest root on.listed)) on.wrong
          (λ wrong. in_seven (is_wrong_at file (has_wrong_count file) counts on.page)
          (fixed && is_wrong_at file (has_wrong_record file meta) lengths on.page) (and_from fixed _ of.0 wrong)))
    ]

same_fault : (fault : Fault) (code : ℕ) → fault.stage ≡ 8 → fault.code ≡ code
    → ◌≡◌ {A = Fault} (record { stage = 8; page = fault.page; code = code }) fault
same_fault fault code stage_is code_is = grind arith

holds_noted : (file : File) (meta : BtreeMeta) (fault : Fault) → Contains (recno_faults file meta) fault → Contains (noted_faults file meta) fault
holds_noted file meta fault at =
    let counts : List ℕ = inner_pages file meta.root in
    let lengths : List ℕ = leaves file meta.root in
    let fixed : Bool = is_fixed meta in
    let count_row : Bool = is_wrong_at file (has_wrong_count file) counts fault.page in
    let length_row : Bool = is_wrong_at file (has_wrong_record file meta) lengths fault.page in
    let long : List Fault = length_faults file meta lengths in
    let of = of_by_page 8 0 (file.last + 1) (codes_at file meta) fault at in
    elim (of_two count_row (fixed && length_row) fault.code of.is_code) [
      | inl (six, wrong) ↦
          let parts = of_wrong_at file (has_wrong_count file) counts fault.page wrong in
          Contains-append_left (count_faults file counts) (cond fixed long []) fault
          (subst (Contains (count_faults file counts)) (same_fault fault 6 of.same_stage six)
          (in_faults_on file Count (has_wrong_count file) counts fault.page parts.0 parts.1))
      | inr (seven, wrong) ↦
          let flags : (fixed ≡ true) × (length_row ≡ true) = and_parts fixed length_row wrong in
          let parts = of_wrong_at file (has_wrong_record file meta) lengths fault.page flags.1 in
          let there : Contains long fault =
          subst (Contains long) (same_fault fault 7 of.same_stage seven)
          (in_faults_on file RecordLength (has_wrong_record file meta) lengths fault.page parts.0 parts.1) in
          Contains-append_right (count_faults file counts) (cond fixed long []) fault
          (subst (λ b. Contains (cond b long []) fault) (sym flags.0) there)
    ]

by_page_same : (stage n : ℕ) (from : ℕ) (codes others : ℕ → List ℕ) → ((p : ℕ) → codes p ≡ others p)
    → by_page stage from n codes ≡ by_page stage from n others
by_page_same stage zero from codes others same = refl
by_page_same stage (suc n) from codes others same = rw (same from, by_page_same stage n (from + 1) codes others same) refl

faults_are : (file : File) (meta : BtreeMeta) → is_recno meta ≡ true → database_faults file (BtreeFields meta) ≡ recno_faults file meta
unfolding database_faults
faults_are file meta recno =
    by_page_same 8 (file.last + 1) 0 (λ p. holding (rows_at file meta p)) (codes_at file meta) (λ p. ap holding (recno_rows file meta p recno))

-- where records have a fixed length, the lengths are noted
pub lengths_noted : (before after : List Fault → Type 0) (fixed : Bool) (faults : List Fault) → fixed ≡ true → NotesAll before after faults
    → NotesAll before after (cond fixed faults [])
lengths_noted before after fixed faults is noted = subst (λ b. NotesAll before after (cond b faults [])) (sym is) noted

-- what is noted, counts and then lengths, is what the contents have
pub all_noted : (before middle after : List Fault → Type 0) (image : List ℕ) (meta : BtreeMeta) → IsForest image
    → HasMetadata (file_of image) (BtreeFields meta) → is_recno meta ≡ true
    → NotesAll before middle (count_faults (file_of image) (inner_pages (file_of image) meta.root))
    → NotesAll middle after (cond (is_fixed meta) (length_faults (file_of image) meta (leaves (file_of image) meta.root)) [])
    → NotesAll before after (database_faults (file_of image) (BtreeFields meta))
all_noted before middle after image meta forest has recno counts lengths =
    let file : File = file_of image in
    let root : IsRecnoPage file meta.root = root_recno image meta forest has recno in
    subst (NotesAll before after) (sym (faults_are file meta recno))
    (notes_same before after (noted_faults file meta) (recno_faults file meta)
    (notes_both before middle after (count_faults file (inner_pages file meta.root))
    (cond (is_fixed meta) (length_faults file meta (leaves file meta.root)) []) counts lengths)
    (λ fault. (λ at. noted_holds image meta fault forest root at, λ at. holds_noted file meta fault at)))

-- contents without a fault have right counts
pub right_counts : (image : List ℕ) (meta : BtreeMeta) → IsForest image → HasMetadata (file_of image) (BtreeFields meta) → is_recno meta ≡ true
    → database_faults (file_of image) (BtreeFields meta) ≡ []
    → HasRightCounts (file_of image) meta.root
right_counts image meta forest has recno none =
    let file : File = file_of image in
    let counts : List ℕ = inner_pages file meta.root in
    let root : IsRecnoPage file meta.root = root_recno image meta forest has recno in
    let no_faults : recno_faults file meta ≡ [] = sym (faults_are file meta recno) ∙ none in
    record {
      right = λ q there.
          false_from_ne_true (has_wrong_count file (page_at file q)) (λ wrong.
          no_member (recno_faults file meta) (record { stage = 8; page = q; code = 6 }) no_faults
          (row_holds file meta Count (has_wrong_count file) counts q there (inner_inside image meta.root q forest root there) wrong
          (in_six (is_wrong_at file (has_wrong_count file) counts q)
          (is_fixed meta && is_wrong_at file (has_wrong_record file meta) (leaves file meta.root) q))));
    }
