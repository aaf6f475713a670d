-- Levels of which the last page, the root, is placed on an earlier one.
use Rattle.std.proofs.Common.{◌≡◌, ℕ, zero, suc, ◌+◌, ◌-◌, ◌<◌, ◌≤◌, ◌&&◌, not, Bool, true, List, [], ◌∷◌, length, replicate, arith, refl, sym, ◌∙◌, ap, subst, length-take}
use Rattle.bdb_mkleaves.proofs.Common.{Contains, flat_map, range_with_len, sum_by, and_parts, eqb-false, ne_eqb, not-true, get_or-take, sum_by-cons, eqb, page_so_far, abstract_page, byte_at, page_at}
use Rattle.bdb_mkleaves.proofs.Common.{page_code, of_flat_map, IsLater, IsSamePage, InnerType, Node, Built, bytes_of, file_so_far, without_last, HasTowerOn, IsRootPlaced, HasLiveKeys, HoldsChildrenOn}
use Rattle.bdb_mkleaves.proofs.Common.{AreChildren, heads_of, node_over, EndsInRoot, HasTower, Child}
use Rattle.bdb_places.specs.of_format.Terms.{entries_of}
use Rattle.bdb_mkleaves.proofs.InnerLemmas.{children_are_formed}
use Rattle.bdb_mkleaves.proofs.LevelLawLemmas.{keys_of}
use Rattle.bdb_mkleaves.proofs.LevelLemmas.{as_many}
use Rattle.bdb_mkleaves.proofs.LevelTakeLemmas.{heads_few}
use Rattle.bdb_mkleaves.proofs.RunLemmas.{later_before}
use Rattle.bdb_mkleaves.proofs.TowerLemmas.{is_under, pages_under, under_are}

-- Sets of pages.

-- the pages of a set but one
abbrev pub pages_but : (ℕ → Bool) → ℕ → ℕ → Bool
pages_but pages first p = pages p && not (eqb p first)

pub is_but : (pages : ℕ → Bool) (first p : ℕ) → pages p ≡ true → (p ≡ first → ⊥) → pages_but pages first p ≡ true
is_but pages first p there other = ap (λ b. b && not (eqb p first)) there ∙ ap not (ne_eqb p first other)

pub but_are : (pages : ℕ → Bool) (first p : ℕ) → pages_but pages first p ≡ true → (pages p ≡ true) × (p ≡ first → ⊥)
but_are pages first p at =
    let (there, other) = and_parts (pages p) (not (eqb p first)) at in
    (there, eqb-false p first (not-true (eqb p first) other))

-- Heads of keys.

pub zero_at : (n k : ℕ) → byte_at (replicate n 0) k ≡ 0
zero_at zero k = refl
zero_at (suc n) zero = refl
zero_at (suc n) (suc k) = zero_at n k

-- they stand among the pages, and not on one of zeros
head_stands : (inner : InnerType) (old : Built) (children : List Child) (nodes : List Node) (first h : ℕ) → AreChildren inner old children nodes
    → bytes_of old first ≡ replicate old.size 0 → Contains (flat_map (heads_of inner) nodes) h → (h < length old.pages) × (h ≡ first → ⊥)
head_stands inner old children nodes first h are blank at =
    let (node, among, head) = of_flat_map (heads_of inner) nodes h at in
    let (leaf, key) = keys_of inner old children nodes node are among in
    let (low, few) = heads_few inner old leaf node key h head in (
      low,
      λ same.
          let e : byte_at (bytes_of old h) 25 ≡ 0 = ap (λ k. byte_at (bytes_of old k) 25) same
          ∙ (ap (λ bs. byte_at bs 25) blank ∙ zero_at old.size 25) in
          let f : byte_at (bytes_of old h) 25 ≡ 7 = few.type_is in
          absurd (omega (arith, e, f)),
    )

-- The levels.

form_same : (first root sum p : ℕ) (now new : Built) → IsRootPlaced first root sum now new → p < root → (p ≡ first → ⊥)
    → page_code new.order p (bytes_of new p) ≡ page_code now.order p (bytes_of now p)
form_same first root sum p now new placed low other =
    ap (λ o. page_code o p (bytes_of new p)) placed.order ∙ ap (page_code now.order p) (placed.same p low other)

-- the pages of a set below a number, but for one
abbrev pages_on : (ℕ → Bool) → ℕ → ℕ → ℕ → Bool
pages_on pages first root = pages_under (pages_but pages first) root

on_are : (pages : ℕ → Bool) (first root p : ℕ) → pages_on pages first root p ≡ true → (pages p ≡ true) × (p ≡ first → ⊥) × (p < root)
on_are pages first root p at =
    let (there, low) = under_are (pages_but pages first) root p at in
    let (among, other) = but_are pages first p there in
    (among, other, low)

is_on : (pages : ℕ → Bool) (first root p : ℕ) → pages p ≡ true → (p ≡ first → ⊥) → p < root → pages_on pages first root p ≡ true
is_on pages first root p there other low = is_under (pages_but pages first) root p (is_but pages first p there other) low

-- over two nodes or more the root is the last page
pub ends_of : (inner : InnerType) (old mid : Built) (nodes : List Node) (root : ℕ) (children : List Child) → AreChildren inner old children nodes
    → 2 ≤ length children → HasTower inner old mid nodes root → EndsInRoot inner old mid nodes root
ends_of inner old mid nodes root children are several tower =
    let many = as_many inner old children nodes are in
    tower.ends (omega (arith, several, many))

-- children count what their nodes do
counted_alike : (inner : InnerType) (old : Built) (children : List Child) (nodes : List Node) → AreChildren inner old children nodes
    → sum_by (λ (child : Child). child.count) children ≡ sum_by (λ (node : Node). node.count) nodes
counted_alike inner old [] [] are = refl
counted_alike inner old [] (node ∷ nodes) are = absurd are
counted_alike inner old (child ∷ children) [] are = absurd are
counted_alike inner old (child ∷ children) (node ∷ nodes) are =
    let rest = counted_alike inner old children nodes are.1 in
    sum_by-cons (λ (other : Child). other.count) child children
    ∙ (ap (λ n. n + sum_by (λ (other : Child). other.count) children) (sym are.0.count_is)
    ∙ (ap (λ n. node.count + n) rest ∙ sym (sum_by-cons (λ (other : Node). other.count) node nodes)))

pub tower_on : (inner : InnerType) (old mid new : Built) (nodes : List Node) (first root sum : ℕ) (children : List Child)
    → AreChildren inner old children nodes → 2 ≤ length children → first < length old.pages → bytes_of old first ≡ replicate old.size 0
    → HasTower inner old mid nodes root → sum ≡ sum_by (λ (child : Child). child.count) children
    → IsRootPlaced first root sum mid new → HasTowerOn inner old new nodes first
tower_on inner old mid new nodes first root sum children are several stood blank tower adds placed =
    let ends = ends_of inner old mid nodes root children are several tower in
    let count = placed.count in
    let low_root = ends.low in
    let last = ends.last in
    let fewer : Built = without_last mid in
    let count_fewer : length fewer.pages ≡ root = omega (arith, length-take (length mid.pages - 1) mid.pages, last) in
    let stands : (h : ℕ) → Contains (flat_map (heads_of inner) nodes) h → (h < length old.pages) × (h ≡ first → ⊥) =
    λ h at. head_stands inner old children nodes first h are blank at in
    let holds : HoldsChildrenOn inner new first ends.level ends.below = placed.holds inner ends.level ends.below ends.holds in
    record {
      levels = ends.levels;
      top = node_over first ends.below;
      top_is = refl;
      size = placed.size ∙ tower.size;
      order = placed.order ∙ tower.order;
      whole = placed.whole;
      grows = omega (arith, count, low_root);
      numbers = ends.numbers ∙ ap (λ k. range_with_len (length old.pages) (k - length old.pages)) (sym count);
      count = let all = tower.count in omega (arith, count, last, all);
      tower = λ g pages all at_first heads later.
          let set : ℕ → Bool = pages_on pages first root in
          let before : IsLater set (file_so_far fewer) g =
          later_before fewer new set pages g placed.order (omega (arith, count, count_fewer)) (λ q at. (on_are pages first root q at).0)
          (λ q at.
          let (there, other, low) = on_are pages first root q at in (
            omega (arith, low, count_fewer),
            placed.same q low other ∙ sym (get_or-take (length mid.pages - 1) mid.pages q [] (omega (arith, low, last))),
          ))
          later in
          ends.tower g set new first
          (λ q high low. is_on pages first root q (all q high (omega (arith, low, count))) (λ e. omega (arith, e, high, stood)) low)
          (λ h at. let (low, other) = stands h at in is_on pages first root h (heads h at) other (omega (arith, low, low_root)))
          before holds (omega (arith, stood, low_root, count)) (later.same first at_first);
      spread = ends.spread first;
      counts =
          let counts = ends.counts first in
          record {
            two = λ p (low, other) at.
                ap (λ o. entries_of o (bytes_of new p)) placed.order
                ∙ (ap (entries_of mid.order) (placed.same p (omega (arith, low, low_root)) other) ∙ counts.two p low at);
            same = λ p (low, other) out. placed.same p (omega (arith, low, low_root)) other ∙ counts.same p low out;
          };
      later = λ pages among.
          let here = tower.later pages (λ p at. (among p at).0) in
          record {
            no_queue_before = here.no_queue_before;
            no_queue = λ is. cc;
            grows = omega (arith, count, low_root);
            same = λ p at.
                let (low, other) = among p at in
                subst (IsSamePage (page_at (file_so_far old) p))
                (page_so_far mid p (omega (arith, low, low_root, last))
                ∙ (ap (abstract_page mid.order) (sym (placed.same p (omega (arith, low, low_root)) other))
                ∙ (ap (λ o. abstract_page o (bytes_of new p)) (sym placed.order) ∙ sym (page_so_far new p (omega (arith, low, low_root, count))))))
                (here.same p at);
          };
      formed = λ p low here.
          form_same first root sum p mid new placed (omega (arith, here, count)) (λ e. omega (arith, e, low, stood))
          ∙ tower.formed p low (omega (arith, here, count, last));
      root_formed = children_are_formed inner new.order (bytes_of new first) first ends.level ends.below holds ends.high ends.some;
      root_type = holds.type_is;
      live = λ p low here.
          subst (λ o. HasLiveKeys o (bytes_of new p)) (sym placed.order)
          (subst (HasLiveKeys mid.order) (sym (placed.same p (omega (arith, here, count)) (λ e. omega (arith, e, low, stood))))
          (tower.live p low (omega (arith, here, count, last))));
      root_live = holds.live;
      summed = placed.summed ∙ (adds ∙ counted_alike inner old children nodes are);
      form_kept = λ p low other. form_same first root sum p mid new placed (omega (arith, low, low_root)) other ∙ tower.form_kept p low;
      kept = λ p low other no_head. placed.same p (omega (arith, low, low_root)) other ∙ tower.kept p low no_head;
    }
