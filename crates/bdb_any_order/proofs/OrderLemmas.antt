-- What is noted of the faults that count in any order, and how they stand.
use Rattle.std.proofs.Common.{◌≡◌, ◌⊎◌, ℕ, ◌+◌, ◌≤◌, Bool, true, false, cond, List, [], ◌∷◌, ◌++◌, length, Option, Some, None, arith, refl, sym, ap, subst, inl}
use Rattle.std.proofs.Common.{inr, append-nil, length-append, ne_eqb, ◌==◌, ◌||◌, not, Contains, filter, flat_map, is_some}
use Rattle.std.proofs.lemmas.Bool.{and_parts, eqb-true, or_cases, or_right}
use Rattle.std.proofs.lemmas.List.Elements.{Contains-append_cases, Contains-append_left, Contains-append_right}
use Rattle.bdb_btree.specs.of_faults.Notes.{Ascends, HasJust, Notes, NotesAll}
use Rattle.bdb_btree.proofs.of_faults.AscendLemmas.{faults_ascend, stage_ascends}
use Rattle.bdb_btree.proofs.of_faults.SinkLemmas.{noted_all}
use Rattle.bdb_btree.specs.of_format.declared.kinds.Fault.{Fault}
use Rattle.bdb_btree.specs.of_format.declared.metadata.BtreeMeta.{BtreeMeta}
use Rattle.bdb_btree.specs.of_format.Terms.{BtreeFields, File, Meta, Page, contents_faults, contents_rows, database_faults, database_rows, faults_in}
use Rattle.bdb_btree.specs.of_format.Terms.{fields_in, file_of, holds_code, is_meta, master_in, names_databases, page_at}
use Rattle.bdb_btree.specs.of_format.Verdict.{holding}
use Rattle.bdb_btree.proofs.of_format.MemberLemmas.{in_filter, in_flat_map, no_member, of_filter, of_flat_map}
use Rattle.bdb_btree.proofs.of_format.VerdictLemmas.{IsOfStage, of_by_page, or_else_both}
use Rattle.bdb_btree.proofs.CheckLemmas.{is_code as code_holding, of_code as holding_code}
use Rattle.bdb_btree.specs.of_image.Linked.{meta_pages}
use Rattle.bdb_btree.proofs.of_graph.ReadLemmas.{master_is}
use Rattle.bdb_any_order.specs.AnyOrder.{contents_by, counts, holds_under, is_of_order, stages_by}
use Rattle.bdb_any_order.specs.Contents.{faults_on}
use Rattle.bdb_any_order.specs.Laws.{MasterCounts}
use Rattle.bdb_any_order.specs.Noted.{HasNotedOthers, asked_on, by_asked, is_asked, is_master, is_other}
use Rattle.bdb_any_order.specs.declared.rows.Rows.{Rows}
use Rattle.bdb_any_order.specs.declared.rows.Rows.TheVariants.{All, AnyOrder}
use Rattle.bdb_any_order.specs.declared.rows.Which.{Which}
use Rattle.bdb_any_order.specs.declared.rows.Which.TheVariants.{Each, Master, Others}
use Rattle.bdb_any_order.proofs.DatabaseLemmas.{in_pages, of_pages}
use Rattle.bdb_btree.proofs.of_tree.ListedLemmas.{at_meta}
use Rattle.bdb_any_order.proofs.MergeLemmas.{at_page}

-- A sink that takes no notice of rows of order.

dropped : (faults : List Fault) (fault : Fault) → is_of_order fault ≡ true → filter is_other (faults ++ (fault ∷ [])) ≡ filter is_other faults
dropped [] fault is = ap (λ b. cond (not b) (fault ∷ []) []) is
dropped (first ∷ faults) fault is = ap (λ fs. cond (is_other first) (first ∷ fs) fs) (dropped faults fault is)

kept : (faults : List Fault) (fault : Fault) → is_of_order fault ≡ false
    → filter is_other (faults ++ (fault ∷ [])) ≡ filter is_other faults ++ (fault ∷ [])
kept [] fault is = ap (λ b. cond (not b) (fault ∷ []) []) is
kept (first ∷ faults) fault is =
    step (is_other first) (filter is_other (faults ++ (fault ∷ []))) (filter is_other faults) (kept faults fault is)
  where
    step : (b : Bool) (xs ys : List Fault) → xs ≡ ys ++ (fault ∷ []) → cond b (first ∷ xs) xs ≡ cond b (first ∷ ys) ys ++ (fault ∷ [])
    step true xs ys same = ap (λ fs. first ∷ fs) same
    step false xs ys same = same

some_noted : (faults : List Fault) (fault : Fault) → false ≡ (length (faults ++ (fault ∷ [])) == 0)
some_noted faults fault = sym (ne_eqb (length (faults ++ (fault ∷ []))) 0 (λ none. omega (arith, length-append faults (fault ∷ []))))

pub order_noted : {Sink : Type 0} (has : Sink → List Fault → Type 0) (found : Sink) (empty : Bool) (fault : Fault) → is_of_order fault ≡ true
    → Notes (HasNotedOthers has found empty) (HasNotedOthers has found false) (fault ∷ [])
order_noted has found empty fault is = λ faults noted. record {
  others = subst (has found) (sym (dropped faults fault is)) noted.others;
  says = some_noted faults fault;
}

pub other_noted : {Sink : Type 0} (has : Sink → List Fault → Type 0) (found after : Sink) (empty : Bool) (fault : Fault) → is_of_order fault ≡ false
    → Notes (has found) (has after) (fault ∷ [])
    → Notes (HasNotedOthers has found empty) (HasNotedOthers has after false) (fault ∷ [])
other_noted has found after empty fault is notes = λ faults noted. record {
  others = subst (has after) (sym (kept faults fault is)) (notes (filter is_other faults) noted.others);
  says = some_noted faults fault;
}

-- The faults of databases that are asked for.

record IsAsked (which : Which) (file : File) (fault : Fault) : Type 0 where
  page : ℕ
  is_page : Contains (meta_pages file) page
  asked : is_asked which (is_master file page) ≡ true
  on : Contains (faults_on file page) fault

of_if : {X : Type 0} (b : Bool) (xs : List X) (x : X) → Contains (cond b xs []) x → (b ≡ true) × Contains xs x
of_if true xs x at = (refl, at)
of_if false xs x at = absurd (no_member [] x refl at)

of_asked : (which : Which) (file : File) (fault : Fault) → Contains (by_asked which file) fault → IsAsked which file fault
of_asked which file fault at =
    let found = of_flat_map (asked_on which file) (meta_pages file) fault at in
    let parts = of_if (is_asked which (is_master file found.0)) (faults_on file found.0) fault found.2 in
    record { page = found.0; is_page = found.1; asked = parts.0; on = parts.1 }

in_asked : (which : Which) (file : File) (p : ℕ) (fault : Fault) → Contains (meta_pages file) p → is_asked which (is_master file p) ≡ true
    → Contains (faults_on file p) fault → Contains (by_asked which file) fault
in_asked which file p fault at asked on =
    in_flat_map (asked_on which file) (meta_pages file) p fault at
    (subst (λ b. Contains (cond b (faults_on file p) []) fault) (sym asked) on)

-- they are among those of stage 8
asked_counts : (which : Which) (image : List ℕ) (fault : Fault) → IsAsked which (file_of image) fault → Contains (contents_faults (file_of image)) fault
asked_counts which image fault is =
    of_pages image fault (in_flat_map (faults_on (file_of image)) (meta_pages (file_of image)) is.page fault is.is_page is.on)

-- The faults of a master.

of_database : (file : File) (meta : BtreeMeta) (fault : Fault) → Contains (database_faults file (BtreeFields meta)) fault
    → holds_code fault.code (database_rows file (BtreeFields meta) fault.page) ≡ true
unfolding database_faults
of_database file meta fault at =
    let codes : ℕ → List ℕ = λ p. holding (database_rows file (BtreeFields meta) p) in
    let is : IsOfStage 8 0 (0 + (file.last + 1)) codes fault = of_by_page 8 0 (file.last + 1) codes fault at in
    holding_code (database_rows file (BtreeFields meta) fault.page) fault.code is.is_code

in_database : (file : File) (meta : BtreeMeta) (fault : Fault) → Contains (contents_faults file) fault
    → holds_code fault.code (database_rows file (BtreeFields meta) fault.page) ≡ true
    → Contains (database_faults file (BtreeFields meta)) fault
unfolding contents_faults database_faults
in_database file meta fault at holds =
    let others : ℕ → List ℕ = λ p. holding (contents_rows file p) in
    let is : IsOfStage 8 0 (0 + (file.last + 1)) others fault = of_by_page 8 0 (file.last + 1) others fault at in
    at_page 8 0 (file.last + 1) others (λ p. holding (database_rows file (BtreeFields meta) p)) fault is
    (code_holding (database_rows file (BtreeFields meta) fault.page) fault.code holds)

-- a fault on the page of a master is one of its rows
of_master_page : (file : File) (p : ℕ) (fault : Fault) → is_master file p ≡ true → Contains (faults_on file p) fault
    → holds_under file (master_in (page_at file 0)) fault ≡ true
of_master_page file p fault master at =
    let parts = and_parts (p == 0) (is_some (master_in (page_at file p))) master in
    let first : p ≡ 0 = eqb-true p 0 parts.0 in
    step (page_at file 0) (subst (λ q. is_some (master_in (page_at file q)) ≡ true) first parts.1) (subst (λ q. Contains (faults_on file q) fault) first at)
  where
    flagged : (meta : BtreeMeta) (b : Bool) → is_some (cond b (Some meta) None) ≡ true
        → holds_code fault.code (database_rows file (BtreeFields meta) fault.page) ≡ true
        → holds_under file (cond b (Some meta) None) fault ≡ true
    flagged meta true some holds = holds
    flagged meta false some holds = absurd cc

    step : (page : Page) → is_some (master_in page) ≡ true → Contains (flat_map (database_faults file) (fields_in page)) fault
        → holds_under file (master_in page) fault ≡ true
    step (Meta (BtreeFields meta)) some on =
        flagged meta (names_databases meta) some
        (of_database file meta fault (subst (λ fs. Contains fs fault) (append-nil (database_faults file (BtreeFields meta))) on))
    step page some on = absurd cc

-- and the other way round
in_master_page : (file : File) (found : Option BtreeMeta) (fault : Fault) → master_in (page_at file 0) ≡ found → Contains (contents_faults file) fault
    → holds_under file found fault ≡ true
    → IsAsked Master file fault
in_master_page file None fault is at holds = absurd cc
in_master_page file (Some meta) fault is at holds =
    let page : page_at file 0 ≡ Meta (BtreeFields meta) = master_is (page_at file 0) meta is in
    let on : Contains (database_faults file (BtreeFields meta) ++ []) fault =
    subst (λ fs. Contains fs fault) (sym (append-nil (database_faults file (BtreeFields meta)))) (in_database file meta fault at holds) in
    record {
      page = 0;
      is_page = at_meta file 0 (omega arith) (ap is_meta page);
      asked = ap is_some is;
      on = subst (λ q. Contains (flat_map (database_faults file) (fields_in q)) fault) (sym page) on;
    }

-- What counts in any order is what the others have that isn't of order, and what the master has.

pub of_counted : (rows : Rows) (file : File) (fault : Fault) → Contains (contents_by rows file) fault → Contains (contents_faults file) fault
of_counted All file fault at = at
of_counted AnyOrder file fault at = (of_filter (counts file) (contents_faults file) fault at).0

abbrev holds_first : File → Fault → Bool
holds_first file fault = holds_under file (master_in (page_at file 0)) fault

of_others : (image : List ℕ) (fault : Fault) → IsAsked Others (file_of image) fault → is_other fault ≡ true
    → Contains (contents_by AnyOrder (file_of image)) fault
of_others image fault asked other =
    in_filter (counts (file_of image)) (contents_faults (file_of image)) fault (asked_counts Others image fault asked)
    (ap (λ b. b || holds_first (file_of image) fault) other)

of_master : (image : List ℕ) (fault : Fault) → IsAsked Master (file_of image) fault → Contains (contents_by AnyOrder (file_of image)) fault
of_master image fault asked =
    let file : File = file_of image in
    in_filter (counts file) (contents_faults file) fault (asked_counts Master image fault asked)
    (or_right (is_other fault) (holds_first file fault) (of_master_page file asked.page fault asked.asked asked.on))

in_either : (image : List ℕ) (fault : Fault) → Contains (contents_by AnyOrder (file_of image)) fault
    → (IsAsked Others (file_of image) fault × (is_other fault ≡ true)) ⊎ IsAsked Master (file_of image) fault
in_either image fault at = elim (or_cases (is_other fault) (holds_first file fault) listed.1) [
  | inl other ↦ by_page (is_master file page.0) refl other
  | inr master ↦ inr (in_master_page file (master_in (page_at file 0)) fault refl listed.0 master)
]
  where
    file : File
    file = file_of image

    listed : Contains (contents_faults file) fault × (counts file fault ≡ true)
    listed = of_filter (counts file) (contents_faults file) fault at

    page : (p : ℕ) × Contains (meta_pages file) p × Contains (faults_on file p) fault
    page = of_flat_map (faults_on file) (meta_pages file) fault (in_pages image fault listed.0)

    by_page : (b : Bool) → is_master file page.0 ≡ b → is_other fault ≡ true
        → (IsAsked Others file fault × (is_other fault ≡ true)) ⊎ IsAsked Master file fault
    by_page true is other = inr (record { page = page.0; is_page = page.1; asked = is; on = page.2 })
    by_page false is other = inl (record { page = page.0; is_page = page.1; asked = ap not is; on = page.2 }, other)

pub order_contents : {Sink : Type 0} (has : Sink → List Fault → Type 0) (image : List ℕ) (begun found : Sink) (empty none : Bool) (after : List Fault → Type 0)
    → HasNotedOthers has begun empty []
    → NotesAll (HasNotedOthers has begun empty) (HasNotedOthers has found none) (by_asked Others (file_of image))
    → NotesAll (has found) after (by_asked Master (file_of image))
    → HasJust after (contents_by AnyOrder (file_of image))
order_contents has image begun found empty none after start first second =
    let file : File = file_of image in
    let others = noted_all (HasNotedOthers has begun empty) (HasNotedOthers has found none) (by_asked Others file) start first in
    let left : List Fault = filter is_other others.0 in (
      left ++ second.0,
      second.2 left others.1.others,
      λ fault. (
        λ at. elim (Contains-append_cases left second.0 fault at) [
          | inl here ↦
              let passed = of_filter is_other others.0 fault here in
              of_others image fault (of_asked Others file fault ((others.2 fault).0 passed.0)) passed.1
          | inr there ↦ of_master image fault (of_asked Master file fault ((second.1 fault).0 there))
        ],
        λ at. elim (in_either image fault at) [
          | inl (asked, other) ↦ Contains-append_left left second.0 fault
              (in_filter is_other others.0 fault ((others.2 fault).1 (in_asked Others file asked.page fault asked.is_page asked.asked asked.on)) other)
          | inr asked ↦ Contains-append_right left second.0 fault ((second.1 fault).1
              (in_asked Master file asked.page fault asked.is_page asked.asked asked.on))
        ],
      ),
    )

-- those of each database are all
pub all_contents : (image : List ℕ) (before after : List Fault → Type 0) → before [] → NotesAll before after (by_asked Each (file_of image))
    → HasJust after (contents_by All (file_of image))
all_contents image before after start all =
    let it = noted_all before after (by_asked Each (file_of image)) start all in
    (it.0, it.1, λ fault. (λ at. of_pages image fault ((it.2 fault).0 at), λ at. (it.2 fault).1 (in_pages image fault at)))

pub master_counts : MasterCounts
master_counts image meta fault is at =
    let file : File = file_of image in
    let page : page_at file 0 ≡ Meta (BtreeFields meta) = master_is (page_at file 0) meta is in
    of_master image fault (record {
      page = 0;
      is_page = at_meta file 0 (omega arith) (ap is_meta page);
      asked = ap is_some is;
      on = subst (λ q. Contains (flat_map (database_faults file) (fields_in q)) fault) (sym page)
          (subst (λ fs. Contains fs fault) (sym (append-nil (database_faults file (BtreeFields meta)))) at);
    })

-- How they stand.

filtered_ascend : (test : Fault → Bool) (faults : List Fault) → Ascends faults → Ascends (filter test faults)
filtered_ascend test [] up = up
filtered_ascend test (fault ∷ faults) up = step (test fault) (filtered_ascend test faults up.1)
  where
    step : (b : Bool) → Ascends (filter test faults) → Ascends (cond b (fault ∷ filter test faults) (filter test faults))
    step true rest = (λ other at. up.0 other (of_filter test faults other at).0, rest)
    step false rest = rest

contents_ascend : (rows : Rows) (image : List ℕ) → Ascends (contents_by rows (file_of image))
contents_ascend All image = stage_ascends image 8
contents_ascend AnyOrder image = filtered_ascend (counts (file_of image)) (contents_faults (file_of image)) (stage_ascends image 8)

pub rows_ascend : (rows : Rows) (image stages : List ℕ) → Ascends (stages_by rows stages image)
rows_ascend rows image stages =
    or_else_both Ascends (faults_in stages image) (contents_by rows (file_of image)) (faults_ascend image stages) (contents_ascend rows image)
