-- The entries below the items of an internal page counted, and the internal pages whose counts are wrong noted.
use Rattle.std.proofs.lemmas.Bool.Decides.{nat_tests}
use Rattle.std.proofs.Common.{◌≡◌, ℕ, ◌+◌, ◌-◌, ◌^◌, ◌<◌, ◌≤◌, Bool, false, List, [], ◌∷◌, ◌++◌, length, length-append, map, not, arith, refl, sym, ◌∙◌}
use Rattle.std.proofs.Common.{append-nil, append_assoc, ap, subst, inl, inr, ◌==◌, ◌||◌, unwrap_or}
use Rattle.std.specs.List.{All, Contains, flat_map, list_any}
use Rattle.std.proofs.lemmas.List.Elements.{All-contains}
use Rattle.std.proofs.Math.Bool.{or-false, or_assoc}
use Rattle.bdb_faults.specs.Notes.{Notes, NotesAll}
use Rattle.bdb_faults.proofs.SinkLemmas.{notes_both, notes_none, notes_one}
use Rattle.bdb_tree.specs.of_format.Terms.{File, Item, Listed, RecnoInternal, RecnoLeaf, children_in, fault_if, file_of, has_wrong_count, header_in}
use Rattle.bdb_tree.specs.of_format.Terms.{inner_pages, page_at, tree_entries}
use Rattle.bdb_tree.specs.of_format.declared.rows.ContentsRow.TheVariants.{Count}
use Rattle.bdb_tree.specs.of_format.declared.rows.Row.TheVariants.{Contents}
use Rattle.bdb_tree.specs.of_format.declared.kinds.Fault.{Fault}
use Rattle.bdb_tree.specs.of_format.declared.pages.RecnoItem.{RecnoItem}
use Rattle.bdb_tree.proofs.of_format.ListLemmas.{all_of, only_member}
use Rattle.bdb_tree.proofs.of_format.MemberLemmas.{in_map, later_member, no_member, of_flat_map}
use Rattle.bdb_tree.specs.of_image.Linked.{IsForest}
use Rattle.bdb_tree.proofs.InnerLemmas.{faults_below, inner_noted, leads_down, no_inner}
use Rattle.bdb_recno.specs.Counts.{counted, miscounts}
use Rattle.bdb_recno.specs.Noted.{count_faults, fault_on}
use Rattle.bdb_recno.specs.Pages.{IsRecnoPage}
use Rattle.bdb_recno.proofs.PageLemmas.{child_of, child_recno, entries_below, entries_of_leaf, recno_cases}

pub all_one : (P : ℕ → Type 0) (x : ℕ) → P x → All P (x ∷ [])
all_one P x here = all_of P (x ∷ []) (λ y at. subst P (only_member x y at) here)

-- the pages right below these
abbrev pub level_below : File → List ℕ → List ℕ
level_below file pages = flat_map (λ p. unwrap_or (children_in (page_at file p)) []) pages

pub next_recno : (image : List ℕ) (pages : List ℕ) → IsForest image → All (IsRecnoPage (file_of image)) pages
    → All (IsRecnoPage (file_of image)) (level_below (file_of image) pages)
next_recno image pages forest all =
    let file : File = file_of image in
    all_of (IsRecnoPage file) (level_below file pages) (λ c at.
    let found = of_flat_map (λ p. unwrap_or (children_in (page_at file p)) []) pages c at in
    elim (recno_cases image found.0 forest (All-contains (IsRecnoPage file) pages found.0 all found.1)) [
      | inl internal ↦ child_recno image found.0 internal.0 c forest internal.1
          (subst (λ q. Contains (unwrap_or (children_in q) []) c) internal.1 found.2)
      | inr leaf ↦ absurd (no_member [] c refl (subst (λ q. Contains (unwrap_or (children_in q) []) c) leaf.1 found.2))
    ])

-- The items of an internal page.

abbrev pub level : File → ℕ → ℕ
level file p = (header_in (page_at file p)).level

-- the entries below these items
abbrev entries_under : File → List RecnoItem → List Item
entries_under file items = flat_map (λ (item : RecnoItem). tree_entries file item.child) items

-- the faults of counts at the internal pages at or below an item
abbrev faults_under : File → RecnoItem → List Fault
faults_under file item = faults_below (λ (it : RecnoItem). it.child) (fault_on file Count (has_wrong_count file)) file item

-- what an item names is a page of records one level below
abbrev pub IsBelow : File → ℕ → RecnoItem → Type 0
IsBelow file p item = IsRecnoPage file item.child × (level file item.child + 1 ≡ level file p)

-- the items of page p that are left, where those before them are counted and what is below them is noted
pub record IsPassed (before now : List Fault → Type 0) (file : File) (p entries : ℕ) (wrong : Bool) (left : List RecnoItem) : Type 0 where
  pub page : Listed RecnoItem
  pub here : page_at file p ≡ RecnoInternal page
  pub below : (item : RecnoItem) → Contains left item → IsBelow file p item
  pub low : entries ≤ 2 ^ 64 - 1
  pub sum : counted (entries + length (entries_under file left)) ≡ counted (length (entries_under file page.items))
  pub told : (wrong || list_any (miscounts file) left) ≡ list_any (miscounts file) page.items
  pub passed : List Fault
  pub noted : NotesAll before now passed
  pub rest : passed ++ flat_map (faults_under file) left ≡ flat_map (faults_under file) page.items

pub none_passed : (has : List Fault → Type 0) (image : List ℕ) (p : ℕ) (page : Listed RecnoItem) (left : List RecnoItem) → IsForest image
    → RecnoInternal page ≡ page_at (file_of image) p → left ≡ page.items → IsPassed has has (file_of image) p 0 false left
none_passed has image p page left forest is all =
    subst (λ items. IsPassed has has (file_of image) p 0 false items) (sym all)
    (record {
      page = page;
      here = sym is;
      below = λ item at.
          let child = in_map (λ (it : RecnoItem). it.child) page.items item at in
          (child_recno image p page item.child forest (sym is) child, (child_of image p page item.child forest (sym is) child).level);
      low = omega arith;
      sum = omega arith;
      told = refl;
      passed = [];
      noted = notes_none has;
      rest = refl;
    })

same_told : (below count n : ℕ) → below ≡ counted n → count < 2 ^ 32 → (below == count) ≡ (count == n)
same_told below count n is small = grind (arith, nat_tests)

-- one more item
pub more_passed : (before now after : List Fault → Type 0) (file : File) (p entries below sum count : ℕ) (wrong : Bool) (item : RecnoItem)
    (rest left : List RecnoItem)
    → left ≡ item ∷ rest → sum ≡ counted (entries + below) → count ≡ item.count → count < 2 ^ 32 → IsPassed before now file p entries wrong left
    → below ≡ counted (length (tree_entries file item.child)) → NotesAll now after (count_faults file (inner_pages file item.child))
    → IsPassed before after file p sum (wrong || not (below == count)) rest
more_passed before now after file p entries below sum count wrong item rest left next added kept small so_far is noted =
    let all : IsPassed before now file p entries wrong (item ∷ rest) = subst (IsPassed before now file p entries wrong) next so_far in
    let split : length (entries_under file (item ∷ rest)) ≡ length (tree_entries file item.child) + length (entries_under file rest) =
    length-append (tree_entries file item.child) (entries_under file rest) in
    record {
      page = all.page;
      here = all.here;
      below = λ other at. all.below other (later_member item rest other at);
      low = omega arith;
      sum = let had = all.sum in let low = all.low in omega arith;
      told =
          or_assoc wrong (not (below == count)) (list_any (miscounts file) rest)
          ∙ (ap (λ b. wrong || (not b || list_any (miscounts file) rest))
          (same_told below count (length (tree_entries file item.child)) is small ∙ ap (λ n. n == length (tree_entries file item.child)) kept)
          ∙ all.told);
      passed = all.passed ++ count_faults file (inner_pages file item.child);
      noted = notes_both before now after all.passed (count_faults file (inner_pages file item.child)) all.noted noted;
      rest = append_assoc all.passed (faults_under file item) (flat_map (faults_under file) rest) ∙ all.rest;
    }

joined : (file : File) (items : List RecnoItem) → entries_under file items ≡ flat_map (tree_entries file) (map (λ (it : RecnoItem). it.child) items)
joined file [] = refl
joined file (item ∷ items) = ap (λ es. tree_entries file item.child ++ es) (joined file items)

-- once all items are passed

pub all_counted : (before now : List Fault → Type 0) (image : List ℕ) (p entries : ℕ) (wrong : Bool) (left : List RecnoItem) → IsForest image → left ≡ []
    → IsPassed before now (file_of image) p entries wrong left → entries ≡ counted (length (tree_entries (file_of image) p))
all_counted before now image p entries wrong left forest none so_far =
    let all : IsPassed before now (file_of image) p entries wrong [] = subst (IsPassed before now (file_of image) p entries wrong) none so_far in
    let same : length (tree_entries (file_of image) p) ≡ length (entries_under (file_of image) all.page.items) =
    ap length (entries_below image p all.page forest all.here ∙ sym (joined (file_of image) all.page.items)) in
    let had = all.sum in
    let low = all.low in
    omega arith

pub all_passed : (before now after : List Fault → Type 0) (image : List ℕ) (p entries : ℕ) (wrong : Bool) (left : List RecnoItem) → IsForest image
    → left ≡ [] → IsPassed before now (file_of image) p entries wrong left → Notes now after (fault_if (Contents Count) p wrong)
    → NotesAll before after (count_faults (file_of image) (inner_pages (file_of image) p))
all_passed before now after image p entries wrong left forest none so_far last =
    let file : File = file_of image in
    let give : ℕ → List Fault = fault_on file Count (has_wrong_count file) in
    let all : IsPassed before now file p entries wrong [] = subst (IsPassed before now file p entries wrong) none so_far in
    let right : wrong ≡ has_wrong_count file (page_at file p) = sym (or-false wrong) ∙ (all.told ∙ ap (has_wrong_count file) (sym all.here)) in
    inner_noted (λ (it : RecnoItem). it.child) give before after file p all.page.items
    (leads_down (λ (it : RecnoItem). it.child) image p all.page.items forest (ap children_in all.here))
    (notes_both before now after (flat_map (faults_under file) all.page.items) (give p)
    (subst (NotesAll before now) (sym (append-nil all.passed) ∙ all.rest) all.noted)
    (subst (λ b. NotesAll now after (fault_if (Contents Count) p b)) right (notes_one now after (fault_if (Contents Count) p wrong) last)))

-- A leaf.

pub leaf_counted : (image : List ℕ) (p n : ℕ) (page : Listed Item) → IsForest image → RecnoLeaf page ≡ page_at (file_of image) p → n < 2 ^ 32
    → n ≡ length page.items → n ≡ counted (length (tree_entries (file_of image) p))
leaf_counted image p n page forest is small count =
    let all : length (tree_entries (file_of image) p) ≡ length page.items = ap length (entries_of_leaf image p page forest (sym is)) in omega arith

pub leaf_noted : (has : List Fault → Type 0) (file : File) (p : ℕ) (page : Listed Item) → RecnoLeaf page ≡ page_at file p
    → NotesAll has has (count_faults file (inner_pages file p))
leaf_noted has file p page is =
    subst (λ ps. NotesAll has has (count_faults file ps)) (sym (no_inner file p (ap children_in (sym is)))) (notes_none has)
