-- Pairs that are counted, and the counts of items.
use Rattle.std.proofs.Common.{◌≡◌, ℕ, ◌+◌, ◌-◌, ◌^◌, ◌<◌, ◌≤◌, Bool, true, false, cond, List, [], ◌∷◌, ◌++◌, length, length-append, arith, refl, sym, ◌∙◌, ap}
use Rattle.std.proofs.Common.{subst, append-nil, append_assoc, nat_lt, ◌||◌}
use Rattle.std.specs.List.{Contains, filter, flat_map, fold, list_any}
use Rattle.std.proofs.lemmas.Bool.Decides.{nat_tests}
use Rattle.std.proofs.Math.Bool.{or-false, or_assoc}
use Rattle.std.proofs.lemmas.List.Elements.{filter-append}
use Rattle.bdb_faults.specs.Notes.{Notes, NotesAll}
use Rattle.bdb_faults.proofs.SinkLemmas.{notes_both, notes_none, notes_one}
use Rattle.bdb_ranks.specs.of_format.Terms.{File, Internal, InternalItem, Listed, StoredPair, children_in, fault_if, file_of, has_wrong_count, inner_pages}
use Rattle.bdb_ranks.specs.of_format.Terms.{is_wrong_count, page_at, tree_pairs}
use Rattle.bdb_ranks.specs.of_format.declared.rows.ContentsRow.TheVariants.{Count}
use Rattle.bdb_ranks.specs.of_format.declared.rows.Row.TheVariants.{Contents}
use Rattle.bdb_ranks.specs.of_format.declared.kinds.Fault.{Fault}
use Rattle.bdb_ranks.proofs.of_format.MemberLemmas.{later_member}
use Rattle.bdb_ranks.specs.of_image.Linked.{IsForest}
use Rattle.bdb_btree.specs.Counts.{IsKeyed, added, count_pair, counted, counts_of}
use Rattle.bdb_btree.specs.Noted.{faults_at}
use Rattle.bdb_btree.specs.declared.counts.Counts.{Counts}
use Rattle.bdb_ranks.proofs.of_tree.InnerLemmas.{faults_below, inner_noted, leads_down}
use Rattle.bdb_btree.proofs.ItemLemmas.{keyed_child, level, pairs_joined}

-- Pairs.

abbrev pub live_in : List StoredPair → List StoredPair
live_in pairs = filter (λ (pair : StoredPair). pair.live) pairs

abbrev counts_with : ℕ → ℕ → Counts
counts_with live all = record { live = live; all = all }

same_counts : (a b c d : ℕ) → a ≡ b → c ≡ d → counts_with a c ≡ counts_with b d
same_counts a b c d first second = ap (λ n. counts_with n c) first ∙ ap (counts_with b) second

folded : (pairs : List StoredPair) (live all : ℕ) → live ≤ 2 ^ 64 - 1 → all ≤ 2 ^ 64 - 1
    → fold count_pair (counts_with live all) pairs ≡ counts_with (counted (live + length (live_in pairs))) (counted (all + length pairs))
folded [] live all one two = same_counts live (counted (live + 0)) all (counted (all + 0)) (omega arith) (omega arith)
folded (pair ∷ pairs) live all one two =
    elim pair.live as (λ b. fold count_pair (counts_with (cond b (counted (live + 1)) live) (counted (all + 1))) pairs
    ≡ counts_with (counted (live + length (cond b (pair ∷ live_in pairs) (live_in pairs)))) (counted (all + length (pair ∷ pairs)))) [
      | true ↦
          folded pairs (counted (live + 1)) (counted (all + 1)) (omega arith) (omega arith) ∙ same_counts _ _ _ _ (omega arith) (omega arith)
      | false ↦ folded pairs live (counted (all + 1)) one (omega arith) ∙ same_counts _ _ _ _ refl (omega arith)
    ]

-- those of a leaf, one after another
pub leaf_counted : (pairs : List StoredPair) → fold count_pair (record { live = 0; all = 0 }) pairs ≡ counts_of pairs
leaf_counted pairs = folded pairs 0 0 (omega arith) (omega arith) ∙ same_counts _ _ _ _ (omega arith) (omega arith)

-- Items.

abbrev pairs_under : File → List InternalItem → List StoredPair
pairs_under file items = flat_map (λ (item : InternalItem). tree_pairs file item.child) items

live_split : (xs ys : List StoredPair) → length (live_in (xs ++ ys)) ≡ length (live_in xs) + length (live_in ys)
live_split xs ys = ap length (filter-append (λ (pair : StoredPair). pair.live) xs ys) ∙ length-append (live_in xs) (live_in ys)

-- a count of an item is small enough to be compared with counts that stop
excludes_told : (count live all n m : ℕ) → live ≡ counted n → all ≡ counted m → count < 2 ^ 32
    → (nat_lt count live || nat_lt all count) ≡ (nat_lt count n || nat_lt m count)
excludes_told count live all n m one two small = grind (arith, nat_tests)

-- the faults of counts at the internal pages at or below an item
abbrev give : File → ℕ → List Fault
give file p = fault_if (Contents Count) p (has_wrong_count file (page_at file p))

abbrev faults_under : File → InternalItem → List Fault
faults_under file item = faults_below (λ (it : InternalItem). it.child) (give file) file item

-- the items of page p that are left, where what is below those before them is counted and noted
pub record IsPassed (before now : List Fault → Type 0) (file : File) (p : ℕ) (counts : Counts) (wrong : Bool) (left : List InternalItem) : Type 0 where
  pub page : Listed InternalItem
  pub here : page_at file p ≡ Internal page
  pub below : (item : InternalItem) → Contains left item → IsKeyed file item.child × (level file item.child + 1 ≡ level file p)
  pub low : (counts.live ≤ 2 ^ 64 - 1) × (counts.all ≤ 2 ^ 64 - 1)
  pub live : counted (counts.live + length (live_in (pairs_under file left))) ≡ counted (length (live_in (pairs_under file page.items)))
  pub all : counted (counts.all + length (pairs_under file left)) ≡ counted (length (pairs_under file page.items))
  pub told : (wrong || list_any (is_wrong_count file) left) ≡ list_any (is_wrong_count file) page.items
  pub passed : List Fault
  pub noted : NotesAll before now passed
  pub rest : passed ++ flat_map (faults_under file) left ≡ flat_map (faults_under file) page.items

pub none_passed : (has : List Fault → Type 0) (image : List ℕ) (p : ℕ) (page : Listed InternalItem) (left : List InternalItem) → IsForest image
    → IsKeyed (file_of image) p → page_at (file_of image) p ≡ Internal page → left ≡ page.items
    → IsPassed has has (file_of image) p (record { live = 0; all = 0 }) false left
none_passed has image p page left forest keyed is all =
    subst (λ items. IsPassed has has (file_of image) p (record { live = 0; all = 0 }) false items) (sym all)
    (record {
      page = page;
      here = is;
      below = λ item at. keyed_child image p page item forest keyed is at;
      low = (omega arith, omega arith);
      live = omega arith;
      all = omega arith;
      told = refl;
      passed = [];
      noted = notes_none has;
      rest = refl;
    })

-- one more item
pub more_passed : (before now after : List Fault → Type 0) (file : File) (p : ℕ) (counts below sum : Counts) (wrong out : Bool) (item : InternalItem)
    (rest left : List InternalItem)
    → left ≡ item ∷ rest → sum ≡ added counts below → out ≡ (nat_lt item.count below.live || nat_lt below.all item.count) → item.count < 2 ^ 32
    → IsPassed before now file p counts wrong left → below ≡ counts_of (tree_pairs file item.child)
    → NotesAll now after (faults_at Count (λ q. has_wrong_count file (page_at file q)) (inner_pages file item.child))
    → IsPassed before after file p sum (wrong || out) rest
more_passed before now after file p counts below sum wrong out item rest left next sum_is out_is small so_far is noted =
    let all : IsPassed before now file p counts wrong (item ∷ rest) = subst (IsPassed before now file p counts wrong) next so_far in
    let pairs : List StoredPair = tree_pairs file item.child in
    let later : List StoredPair = pairs_under file rest in
    let live_is : below.live ≡ counted (length (live_in pairs)) = ap (λ (c : Counts). c.live) is in
    let all_is : below.all ≡ counted (length pairs) = ap (λ (c : Counts). c.all) is in
    let live_all = live_split pairs later in
    let all_all = length-append pairs later in
    let live_had = all.live in
    let all_had = all.all in
    let live_low = all.low.0 in
    let all_low = all.low.1 in
    let live_sum : sum.live ≡ counted (counts.live + below.live) = ap (λ (c : Counts). c.live) sum_is in
    let all_sum : sum.all ≡ counted (counts.all + below.all) = ap (λ (c : Counts). c.all) sum_is in
    record {
      page = all.page;
      here = all.here;
      below = λ other at. all.below other (later_member item rest other at);
      low = (omega arith, omega arith);
      live = omega arith;
      all = omega arith;
      told =
          or_assoc wrong out (list_any (is_wrong_count file) rest)
          ∙ (ap (λ b. wrong || (b || list_any (is_wrong_count file) rest))
          (out_is ∙ excludes_told item.count below.live below.all (length (live_in pairs)) (length pairs) live_is all_is small)
          ∙ all.told);
      passed = all.passed ++ flat_map (give file) (inner_pages file item.child);
      noted = notes_both before now after all.passed (flat_map (give file) (inner_pages file item.child)) all.noted noted;
      rest = append_assoc all.passed (faults_under file item) (flat_map (faults_under file) rest) ∙ all.rest;
    }

-- once all items are passed

pub all_counted : (before now : List Fault → Type 0) (image : List ℕ) (p : ℕ) (counts : Counts) (wrong : Bool) (left : List InternalItem)
    → IsForest image → left ≡ [] → IsPassed before now (file_of image) p counts wrong left → counts ≡ counts_of (tree_pairs (file_of image) p)
all_counted before now image p counts wrong left forest none so_far =
    let file : File = file_of image in
    let all : IsPassed before now file p counts wrong [] = subst (IsPassed before now file p counts wrong) none so_far in
    let live_had = all.live in
    let all_had = all.all in
    let live_low = all.low.0 in
    let all_low = all.low.1 in
    same_counts counts.live (counted (length (live_in (pairs_under file all.page.items)))) counts.all
    (counted (length (pairs_under file all.page.items))) (omega arith) (omega arith)
    ∙ ap counts_of (sym (pairs_joined image p all.page forest all.here))

pub all_passed : (before now after : List Fault → Type 0) (image : List ℕ) (p : ℕ) (counts : Counts) (wrong : Bool) (left : List InternalItem)
    → IsForest image → left ≡ [] → IsPassed before now (file_of image) p counts wrong left → Notes now after (fault_if (Contents Count) p wrong)
    → NotesAll before after (faults_at Count (λ q. has_wrong_count (file_of image) (page_at (file_of image) q)) (inner_pages (file_of image) p))
all_passed before now after image p counts wrong left forest none so_far last =
    let file : File = file_of image in
    let all : IsPassed before now file p counts wrong [] = subst (IsPassed before now file p counts wrong) none so_far in
    let right : wrong ≡ has_wrong_count file (page_at file p) = sym (or-false wrong) ∙ (all.told ∙ ap (has_wrong_count file) (sym all.here)) in
    inner_noted (λ (it : InternalItem). it.child) (give file) before after file p all.page.items
    (leads_down (λ (it : InternalItem). it.child) image p all.page.items forest (ap children_in all.here))
    (notes_both before now after (flat_map (faults_under file) all.page.items) (give file p)
    (subst (NotesAll before now) (sym (append-nil all.passed) ∙ all.rest) all.noted)
    (subst (λ b. NotesAll now after (fault_if (Contents Count) p b)) right (notes_one now after (fault_if (Contents Count) p wrong) last)))
