-- Heads of chains, and trees that stay on later pages.
use Rattle.std.proofs.Common.{◌≡◌, ℕ, ◌<◌, ◌≤◌, Bool, true, List, [], length, map, refl, sym, ◌∙◌, ap, subst, All, Contains, flat_map}
use Rattle.bdb_mkleaves.proofs.Common.{All-contains, Chain, Content, File, Inline, Set, Tree, Unknown, only_member, no_member, of_flat_map, IsLater, key_heads, Built, bytes_of, file_so_far, CountsOne}
use Rattle.bdb_mkleaves.proofs.Common.{HasLiveKeys, HasTreeOn, HeadCounts, IsLaidOut, IsTreeOn, TreeParts, heads_named, leaf_heads, Placed, PlacedEntry, PlacedPairs, PlacedTree, CountsOneFrom}
use Rattle.bdb_mkleaves.proofs.Common.{set_type, TreeUnit, LeafType}
use Rattle.bdb_places.specs.of_format.Terms.{entries_of as count_on}
use Rattle.bdb_law_levels.specs.Roots.{pages_of as level_pages}
use Rattle.bdb_mkleaves.specs.Layout.{live_entry}

-- the head that a content names counts one reference
pub head_one : (low : ℕ) (built : Built) (content : Content) (h : ℕ) → CountsOneFrom low built content → Contains (key_heads content) h
    → (low ≤ h) × (h < length built.pages) × CountsOne built.order (bytes_of built h)
head_one low built (Inline bytes) h counts at = absurd (no_member [] h refl at)
head_one low built (Chain head total) h counts at =
    subst (λ k. (low ≤ k) × (k < length built.pages) × CountsOne built.order (bytes_of built k)) (only_member head h at) counts
head_one low built (Set blocks) h counts at = absurd (no_member [] h refl at)
head_one low built (Tree root) h counts at = absurd (no_member [] h refl at)
head_one low built Unknown h counts at = absurd (no_member [] h refl at)

-- so does each that some contents name
pub heads_one : (low : ℕ) (built : Built) (contents : List Content) (h : ℕ) → All (CountsOneFrom low built) contents
    → Contains (flat_map key_heads contents) h → (low ≤ h) × (h < length built.pages) × CountsOne built.order (bytes_of built h)
heads_one low built contents h counts at =
    let (content, among, head) = of_flat_map key_heads contents h at in
    head_one low built content h (All-contains (CountsOneFrom low built) contents content counts among) head

-- a tree stands where the heads of its chains stay
pub tree_stays : (type : LeafType) (old new : Built) (pages more : ℕ → Bool) (counted : Bool) (units : List TreeUnit) (root : ℕ)
    → new.size ≡ old.size → new.order ≡ old.order → ((g : File) → IsLater more (file_so_far new) g → IsLater pages (file_so_far old) g)
    → (on : IsTreeOn type old pages counted units root)
    → ((h : ℕ) → Contains (leaf_heads type on.tree.placed) h → pages h ≡ true
    → (more h ≡ true) × (h < length new.pages) × (bytes_of new h ≡ bytes_of old h))
    → ((p : ℕ) → Contains (level_pages on.tree.above) p → pages p ≡ true
    → (more p ≡ true) × (p < length new.pages) × (bytes_of new p ≡ bytes_of old p))
    → (now : IsTreeOn type new more counted units root) × (now.tree ≡ on.tree)
tree_stays type old new pages more counted units root size order before on same levels_same = (
  record {
    tree = on.tree;
    root_is = on.root_is;
    out = subst (λ n. IsLaidOut type n counted units on.tree) (sym size) on.out;
    rest = on.rest;
    first = on.first;
    beyond = on.beyond;
    all = on.all;
    stands = λ g is_counted later. on.stands g is_counted (before g later);
    heads = λ h at.
        subst (λ n. HeadCounts new more (heads_named type n on.tree) h) (sym size)
        (let was = on.heads h at in
        let (there, low, kept) = same h at was.there in
        let now : count_on new.order (bytes_of new h) ≡ count_on old.order (bytes_of old h) =
        ap (λ o. count_on o (bytes_of new h)) order ∙ ap (count_on old.order) kept in
        record { there = there; low = low; one = λ out. now ∙ was.one out; two = λ named. now ∙ was.two named });
    levels = λ p at.
        let was = on.levels p at in
        let (there, low, kept) = levels_same p at was.there in
        record {
          there = there;
          low = low;
          live = subst (λ o. HasLiveKeys o (bytes_of new p)) (sym order) (subst (HasLiveKeys old.order) (sym kept) was.live);
        };
  },
  refl,
)

-- and so does that of a unit's data, where the heads stay that these contents don't name
pub has_tree_stays : (old new : Built) (pages more : ℕ → Bool) (named next : List Content) (unit : Placed) → new.size ≡ old.size
    → new.order ≡ old.order → ((g : File) → IsLater more (file_so_far new) g → IsLater pages (file_so_far old) g)
    → ((h : ℕ) → pages h ≡ true → h < length old.pages → (Contains (flat_map key_heads named) h → ⊥)
    → (more h ≡ true) × (h < length new.pages) × (bytes_of new h ≡ bytes_of old h) × (Contains (flat_map key_heads next) h → ⊥))
    → HasTreeOn old pages named unit → HasTreeOn new more next unit
has_tree_stays old new pages more named next (PlacedEntry entry) size order before same has = tt
has_tree_stays old new pages more named next (PlacedPairs key first others) size order before same has = tt
has_tree_stays old new pages more named next (PlacedTree key root values) size order before same (sorted, on, apart, aside) =
    let type : LeafType = set_type sorted in
    let (now, tree) = tree_stays type old new pages more true (map live_entry values) root size order before on
    (λ h at there. let stays = same h there (on.heads h at).low (apart h at) in (stays.0, stays.1, stays.2))
    (λ p at there. let stays = same p there (on.levels p at).low (aside p at) in (stays.0, stays.1, stays.2)) in (
      sorted,
      now,
      subst (λ (t : TreeParts). (h : ℕ) → Contains (leaf_heads type t.placed) h → Contains (flat_map key_heads next) h → ⊥) (sym tree)
          (λ h at. (same h (on.heads h at).there (on.heads h at).low (apart h at)).3),
      subst (λ (t : TreeParts). (p : ℕ) → Contains (level_pages t.above) p → Contains (flat_map key_heads next) p → ⊥) (sym tree)
          (λ p at. (same p (on.levels p at).there (on.levels p at).low (aside p at)).3),
    )
