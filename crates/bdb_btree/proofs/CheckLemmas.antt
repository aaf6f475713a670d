-- The faults that are noted of a btree are those of its contents.
use Rattle.std.proofs.Common.{◌≡◌, ℕ, ◌+◌, ◌<◌, ◌≤◌, Bool, true, false, not, cond, List, [], ◌∷◌, ◌++◌, arith, refl, sym, ◌∙◌, ap, subst, inl, inr, ◌&&◌, ◌||◌}
use Rattle.std.proofs.Common.{◌==◌}
use Rattle.std.specs.List.{Contains, list_any}
use Rattle.std.proofs.lemmas.Bool.{and_parts, eq-eqb, eqb-true, or_cases, or_right}
use Rattle.std.proofs.lemmas.List.Folds.{list_any-append}
use Rattle.bdb_faults.specs.Notes.{AreSame, Notes, NotesAll}
use Rattle.bdb_faults.proofs.SinkLemmas.{notes_both, notes_one, notes_same}
use Rattle.bdb_ranks.specs.of_format.declared.kinds.Fault.{Fault}
use Rattle.bdb_ranks.specs.of_format.declared.metadata.BtreeMeta.{BtreeMeta}
use Rattle.bdb_ranks.specs.of_format.Terms.{BtreeFields, File, Row, StoredPair, btree_contents, by_page, counts_records, database_faults, file_of, groups}
use Rattle.bdb_ranks.specs.of_format.Terms.{has_bit, has_duplicate, has_duplicates, has_unsorted, has_wrong_count, has_wrong_separator, has_wrong_set}
use Rattle.bdb_ranks.specs.of_format.Terms.{holds_code, inner_pages, is_sorted, is_wrong_at, neighbours, page_at, recno_contents, tree_pairs}
use Rattle.bdb_ranks.specs.of_format.Verdict.{holding}
use Rattle.bdb_ranks.proofs.of_format.MemberLemmas.{filter_step, first_member, later_member, member_cases, no_member}
use Rattle.bdb_ranks.proofs.of_format.VerdictLemmas.{IsOfStage, in_by_page, of_by_page}
use Rattle.bdb_ranks.specs.of_image.Linked.{FitsTreeRoot, IsForest}
use Rattle.bdb_btree.specs.Counts.{IsKeyed}
use Rattle.bdb_btree.specs.Noted.{faults_at}
use Rattle.bdb_btree.specs.Rows.{has_wrong_order, no_pairs_passed, pairs_faults}
use Rattle.bdb_ranks.specs.of_format.declared.rows.ContentsRow.TheVariants.{Duplicates, DuplicateKind, KeyOrder, Separator, DuplicateOrder, Count}
use Rattle.bdb_btree.specs.declared.pair_rows.Rules.{Rules}
use Rattle.bdb_btree.proofs.InnerLemmas.{inner_pages_keyed}
use Rattle.bdb_btree.proofs.NotedLemmas.{has, has_in, in_has, is_fault, is_of, row_has}
use Rattle.bdb_btree.proofs.PairLemmas.{tree_pair}
use Rattle.bdb_btree.proofs.RowLemmas.{pairs_have}
use Rattle.bdb_ranks.proofs.of_tree.TreeLemmas.{typed_inside}
use Rattle.bdb_ranks.proofs.of_format.ListLemmas.{any_member}
use Rattle.bdb_ranks.proofs.of_format.PairLemmas.{neighbour_in}

-- A row that holds at a page holds of something there.

at_page : {X : Type 0} (page : X → ℕ) (test : X → Bool) (xs : List X) (p high : ℕ) → ((x : X) → Contains xs x → page x < high)
    → list_any (λ x. (page x == p) && test x) xs ≡ true → p < high
at_page page test xs p high inside some =
    let found = any_member (λ x. (page x == p) && test x) xs some in
    let same : page found.0 ≡ p = eqb-true (page found.0) p (and_parts (page found.0 == p) (test found.0) found.2).0 in
    let low : page found.0 < high = inside found.0 found.1 in
    omega arith

guarded : (b : Bool) (high : ℕ) (test : ℕ → Bool) → ((p : ℕ) → test p ≡ true → p < high) → (p : ℕ) → (b && test p) ≡ true → p < high
guarded b high test inside p holds = inside p (and_parts b (test p) holds).1

pub group_in : (pairs : List StoredPair) (group : StoredPair × List StoredPair) → Contains (groups pairs) group → Contains pairs group.0
group_in [] group at = absurd (no_member [] group refl at)
group_in (pair ∷ pairs) group at =
    elim (member_cases _ (groups pairs) group at) [
      | inl here ↦ subst (Contains (pair ∷ pairs)) (ap (λ (g : StoredPair × List StoredPair). g.0) here) (first_member pair pairs)
      | inr later ↦ later_member pair pairs group.0 (group_in pairs group later)
    ]

-- The codes that hold at a page.

pub code_later : (holds : Bool) (n code : ℕ) (codes : List ℕ) → Contains codes code → Contains (cond holds (n ∷ codes) codes) code
code_later true n code codes at = later_member n codes code at
code_later false n code codes at = at

code_first : (n code : ℕ) (codes : List ℕ) (holds : Bool) → holds ≡ true → n ≡ code → Contains (cond holds (n ∷ codes) codes) code
code_first n code codes true is same = subst (Contains (n ∷ codes)) same (first_member n codes)
code_first n code codes false is same = absurd cc

holds_first : (code n : ℕ) (holds rest : Bool) → holds ≡ true → n ≡ code → (((n == code) && holds) || rest) ≡ true
holds_first code n holds rest is same = rw (is, eq-eqb n code same) refl

pub of_code : (rows : List (Row ℕ)) (code : ℕ) → Contains (holding rows) code → holds_code code rows ≡ true
of_code [] code at = absurd (no_member [] code refl at)
of_code (row ∷ rows) code at =
    elim (filter_step row.code code (holding rows) row.holds at) [
      | inl here ↦ holds_first code row.code row.holds (holds_code code rows) here.0 here.1
      | inr later ↦ or_right ((row.code == code) && row.holds) (holds_code code rows) (of_code rows code later)
    ]

pub is_code : (rows : List (Row ℕ)) (code : ℕ) → holds_code code rows ≡ true → Contains (holding rows) code
is_code [] code holds = absurd cc
is_code (row ∷ rows) code holds =
    elim (or_cases ((row.code == code) && row.holds) (holds_code code rows) holds) [
      | inl here ↦
          let parts = and_parts (row.code == code) row.holds here in
          code_first row.code code (holding rows) row.holds parts.1 (eqb-true row.code code parts.0)
      | inr later ↦ code_later row.holds row.code code (holding rows) (is_code rows code later)
    ]

-- rows hold at pages below a number alone
abbrev AreBelow : ℕ → ℕ → List (Row ℕ) → Type 0
AreBelow p high [] = Unit {0}
AreBelow p high (row ∷ rows) = (row.holds ≡ true → p < high) × AreBelow p high rows

is_below : (rows : List (Row ℕ)) (p high code : ℕ) → AreBelow p high rows → holds_code code rows ≡ true → p < high
is_below [] p high code below holds = absurd cc
is_below (row ∷ rows) p high code below holds =
    elim (or_cases ((row.code == code) && row.holds) (holds_code code rows) holds) [
      | inl here ↦ below.0 (and_parts (row.code == code) row.holds here).1
      | inr later ↦ is_below rows p high code below.1 later
    ]

-- a list that has just the faults of a table has those that are listed page by page
same_by_page : (noted : List Fault) (rows : ℕ → List (Row ℕ)) (high : ℕ) → ((p : ℕ) → AreBelow p high (rows p))
    → ((fault : Fault) → has noted fault ≡ ((8 == fault.stage) && holds_code fault.code (rows fault.page)))
    → AreSame noted (by_page 8 0 high (λ p. holding (rows p)))
same_by_page noted rows high below are fault = (there, back)
  where
    codes : ℕ → List ℕ
    codes p = holding (rows p)

    there : Contains noted fault → Contains (by_page 8 0 high (λ p. holding (rows p))) fault
    there at =
        let parts = and_parts (8 == fault.stage) (holds_code fault.code (rows fault.page)) (sym (are fault) ∙ in_has noted fault at) in
        let low : fault.page < high = is_below (rows fault.page) fault.page high fault.code (below fault.page) parts.1 in
        subst (λ s. Contains (by_page 8 0 high (λ p. holding (rows p))) (record { stage = s; page = fault.page; code = fault.code }))
        (eqb-true 8 fault.stage parts.0)
        (in_by_page 8 0 high fault.page fault.code (λ p. holding (rows p)) (omega arith) (omega arith) (is_code (rows fault.page) fault.code parts.1))

    back : Contains (by_page 8 0 high (λ p. holding (rows p))) fault → Contains noted fault
    back at =
        let of : IsOfStage 8 0 (0 + high) (λ p. holding (rows p)) fault = of_by_page 8 0 high (λ p. holding (rows p)) fault at in
        has_in noted fault (are fault ∙ rw (eq-eqb 8 fault.stage (sym of.same_stage), of_code (rows fault.page) fault.code of.is_code) refl)

-- The table.

table_below : (image : List ℕ) (meta : BtreeMeta) (p : ℕ) → IsForest image → FitsTreeRoot (file_of image) meta.root
    → IsKeyed (file_of image) meta.root
    → AreBelow p ((file_of image).last + 1) (btree_contents (file_of image) meta p)
table_below image meta p forest fits keyed =
    let file : File = file_of image in
    let pairs : List StoredPair = tree_pairs file meta.root in
    let high : ℕ = file.last + 1 in
    let pair_low : (pair : StoredPair) → Contains pairs pair → pair.page < high =
    λ pair at. (let low : pair.page ≤ file.last = (tree_pair image meta.root pair forest (inl fits) at).inside in omega arith) in
    let page_low : (q : ℕ) → Contains (inner_pages file meta.root) q → q < high =
    λ q at. (let low : q ≤ file.last = typed_inside image (3 ∷ 5 ∷ 12 ∷ []) q
    (inner_pages_keyed image meta.root q forest keyed at) in omega arith) in (
      guarded (not (has_duplicates (BtreeFields meta))) high (has_duplicate pairs)
          (λ q holds. at_page (λ (pair : StoredPair). pair.page) _ pairs q high pair_low holds) p,
      (
        (λ holds. at_page (λ (pair : StoredPair). pair.page) _ pairs p high pair_low holds),
        (
          (λ holds. at_page (λ (two : StoredPair × StoredPair). two.1.page) _ (neighbours pairs) p high
              (λ two at. pair_low two.1 (neighbour_in pairs two at)) holds),
          (
            (λ holds. at_page (λ (q : ℕ). q) _ (inner_pages file meta.root) p high page_low holds),
            (
              guarded (is_sorted (BtreeFields meta)) high (has_unsorted file pairs)
                  (λ q holds. at_page (λ (group : StoredPair × List StoredPair). group.0.page) _ (groups pairs) q high
                  (λ group at. pair_low group.0 (group_in pairs group at)) holds) p,
              (
                guarded (counts_records meta) high (is_wrong_at file (has_wrong_count file) (inner_pages file meta.root))
                    (λ q holds. at_page (λ (r : ℕ). r) _ (inner_pages file meta.root) q high page_low holds) p,
                tt,
              ),
            ),
          ),
        ),
      ),
    )

-- the six rows as they are noted, and as the table has them
reorder : (a b c d e f : Bool) → (((((a || b) || c) || e) || d) || f) ≡ (a || (b || (c || (d || (e || (f || false))))))
reorder true b c d e f = refl
reorder false true c d e f = refl
reorder false false true d e f = refl
reorder false false false true true f = refl
reorder false false false true false f = refl
reorder false false false false true f = refl
reorder false false false false false true = refl
reorder false false false false false false = refl

one_stage : (s a b c d e f u v w x y z : Bool)
    → (((((((s && a) && u) || ((s && b) && v)) || ((s && c) && w)) || ((s && e) && y)) || ((s && d) && x)) || ((s && f) && z))
    ≡ (s && ((a && u) || ((b && v) || ((c && w) || ((d && x) || ((e && y) || ((f && z) || false)))))))
one_stage true a b c d e f u v w x y z = reorder (a && u) (b && v) (c && w) (d && x) (e && y) (f && z)
one_stage false a b c d e f u v w x y z = refl

-- what is noted
abbrev pub btree_noted : File → Rules → Bool → ℕ → List Fault
btree_noted file rules counts root =
    (pairs_faults file rules no_pairs_passed (tree_pairs file root)
    ++ faults_at Separator (λ p. has_wrong_separator file (page_at file p)) (inner_pages file root))
    ++ cond counts (faults_at Count (λ p. has_wrong_count file (page_at file p)) (inner_pages file root)) []

counts_have : (file : File) (counts : Bool) (pages : List ℕ) (fault : Fault)
    → has (cond counts (faults_at Count (λ p. has_wrong_count file (page_at file p)) pages) []) fault
    ≡ (is_of Count fault && (counts && is_wrong_at file (has_wrong_count file) pages fault.page))
counts_have file true pages fault = row_has (λ (p : ℕ). p) Count (λ p. has_wrong_count file (page_at file p)) pages fault
counts_have file false pages fault = nothing (is_of Count fault)
  where
    nothing : (a : Bool) → false ≡ (a && false)
    nothing true = refl
    nothing false = refl

-- the six rows, as they are noted
abbrev six_rows : File → BtreeMeta → Fault → Bool → Bool → Bool
six_rows file meta fault duplicates sorted =
    (((((is_of Duplicates fault && (not duplicates && has_duplicate (tree_pairs file meta.root) fault.page))
    || (is_of DuplicateKind fault && has_wrong_set file sorted (tree_pairs file meta.root) fault.page))
    || (is_of KeyOrder fault && has_wrong_order (tree_pairs file meta.root) fault.page))
    || (is_of DuplicateOrder fault && (sorted && has_unsorted file (tree_pairs file meta.root) fault.page)))
    || (is_of Separator fault && is_wrong_at file (has_wrong_separator file) (inner_pages file meta.root) fault.page))
    || (is_of Count fault && (counts_records meta && is_wrong_at file (has_wrong_count file) (inner_pages file meta.root) fault.page))

six_have : (file : File) (rules : Rules) (meta : BtreeMeta) (fault : Fault)
    → has (btree_noted file rules (counts_records meta) meta.root) fault ≡ six_rows file meta fault rules.duplicates rules.sorted
six_have file rules meta fault =
    let pairs : List Fault = pairs_faults file rules no_pairs_passed (tree_pairs file meta.root) in
    let pages : List ℕ = inner_pages file meta.root in
    let separators : List Fault = faults_at Separator (λ p. has_wrong_separator file (page_at file p)) pages in
    let counts : List Fault = cond (counts_records meta) (faults_at Count (λ p. has_wrong_count file (page_at file p)) pages) [] in
    list_any-append (is_fault fault) (pairs ++ separators) counts
    ∙ (ap (λ b. b || has counts fault) (list_any-append (is_fault fault) pairs separators)
    ∙ (ap (λ b. (b || has separators fault) || has counts fault) (pairs_have file rules meta.root fault)
    ∙ same_three _ _ _ _ _ (row_has (λ (p : ℕ). p) Separator (λ p. has_wrong_separator file (page_at file p)) pages fault)
    (counts_have file (counts_records meta) pages fault)))
  where
    same_three : (a b c d e : Bool) → b ≡ d → c ≡ e → ((a || b) || c) ≡ ((a || d) || e)
    same_three a b c d e x y = ap (λ z. (a || z) || c) x ∙ ap (λ z. (a || d) || z) y

noted_has : (file : File) (rules : Rules) (meta : BtreeMeta) (fault : Fault) → rules.duplicates ≡ has_duplicates (BtreeFields meta)
    → rules.sorted ≡ is_sorted (BtreeFields meta)
    → has (btree_noted file rules (counts_records meta) meta.root) fault
    ≡ ((8 == fault.stage) && holds_code fault.code (btree_contents file meta fault.page))
noted_has file rules meta fault duplicates sorted =
    let pairs : List StoredPair = tree_pairs file meta.root in
    six_have file rules meta fault
    ∙ (ap (λ b. six_rows file meta fault b rules.sorted) duplicates
    ∙ (ap (λ b. six_rows file meta fault (has_duplicates (BtreeFields meta)) b) sorted
    ∙ one_stage (8 == fault.stage) (1 == fault.code) (2 == fault.code) (3 == fault.code) (4 == fault.code) (5 == fault.code) (6 == fault.code)
    (not (has_duplicates (BtreeFields meta)) && has_duplicate pairs fault.page)
    (has_wrong_set file (is_sorted (BtreeFields meta)) pairs fault.page)
    (has_wrong_order pairs fault.page)
    (is_wrong_at file (has_wrong_separator file) (inner_pages file meta.root) fault.page)
    (is_sorted (BtreeFields meta) && has_unsorted file pairs fault.page)
    (counts_records meta && is_wrong_at file (has_wrong_count file) (inner_pages file meta.root) fault.page)))

-- the rows of a btree
faults_are : (file : File) (meta : BtreeMeta) → has_bit meta.flags 2 ≡ false
    → database_faults file (BtreeFields meta) ≡ by_page 8 0 (file.last + 1) (λ p. holding (btree_contents file meta p))
unfolding database_faults
faults_are file meta keyed =
    ap (λ b. by_page 8 0 (file.last + 1) (λ p. holding (cond b (recno_contents file meta p) (btree_contents file meta p)))) keyed

-- what is noted is what the contents have
pub noted_same : (image : List ℕ) (rules : Rules) (meta : BtreeMeta) → IsForest image → FitsTreeRoot (file_of image) meta.root
    → IsKeyed (file_of image) meta.root → has_bit meta.flags 2 ≡ false
    → rules.duplicates ≡ has_duplicates (BtreeFields meta) → rules.sorted ≡ is_sorted (BtreeFields meta)
    → AreSame (btree_noted (file_of image) rules (counts_records meta) meta.root) (database_faults (file_of image) (BtreeFields meta))
noted_same image rules meta forest fits keyed flags duplicates sorted =
    let file : File = file_of image in
    subst (AreSame (btree_noted file rules (counts_records meta) meta.root)) (sym (faults_are file meta flags))
    (same_by_page (btree_noted file rules (counts_records meta) meta.root) (btree_contents file meta) (file.last + 1)
    (λ p. table_below image meta p forest fits keyed) (λ fault. noted_has file rules meta fault duplicates sorted))

-- the rows on pairs, then separators, then counts
pub all_noted : (image : List ℕ) (rules : Rules) (meta : BtreeMeta) (counts : Bool) (before first second after : List Fault → Type 0)
    → IsForest image → FitsTreeRoot (file_of image) meta.root → IsKeyed (file_of image) meta.root → has_bit meta.flags 2 ≡ false
    → rules.duplicates ≡ has_duplicates (BtreeFields meta) → rules.sorted ≡ is_sorted (BtreeFields meta) → counts ≡ counts_records meta
    → Notes before first (pairs_faults (file_of image) rules no_pairs_passed (tree_pairs (file_of image) meta.root))
    → NotesAll first second
    (faults_at Separator (λ p. has_wrong_separator (file_of image) (page_at (file_of image) p)) (inner_pages (file_of image) meta.root))
    → NotesAll second after
    (cond counts (faults_at Count (λ p. has_wrong_count (file_of image) (page_at (file_of image) p)) (inner_pages (file_of image) meta.root)) [])
    → NotesAll before after (database_faults (file_of image) (BtreeFields meta))
all_noted image rules meta counts before first second after forest fits keyed flags duplicates sorted keeps one two three =
    let file : File = file_of image in
    let pairs : List Fault = pairs_faults file rules no_pairs_passed (tree_pairs file meta.root) in
    let separators : List Fault = faults_at Separator (λ p. has_wrong_separator file (page_at file p)) (inner_pages file meta.root) in
    let wrong : List Fault = faults_at Count (λ p. has_wrong_count file (page_at file p)) (inner_pages file meta.root) in
    notes_same before after (btree_noted file rules (counts_records meta) meta.root) (database_faults file (BtreeFields meta))
    (notes_both before second after (pairs ++ separators) (cond (counts_records meta) wrong [])
    (notes_both before first second pairs separators (notes_one before first pairs one) two)
    (subst (λ b. NotesAll second after (cond b wrong [])) keeps three))
    (noted_same image rules meta forest fits keyed flags duplicates sorted)
