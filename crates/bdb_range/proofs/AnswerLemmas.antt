-- What the code of a span knows, put together.
use Rattle.std.proofs.Common.{◌≡◌, ◌∙◌, ℕ, ◌+◌, ◌^◌, ◌<◌, ◌≤◌, List, [], ◌∷◌, ◌++◌, length, sym, ap, subst, arith, false, Option, Some, None, MatchOption}
use Rattle.std.specs.List.{prefix_len}
use Rattle.std.proofs.lemmas.List.{length-append}
use Rattle.bdb_btree.specs.of_format.declared.metadata.BtreeMeta.{BtreeMeta}
use Rattle.bdb_btree.specs.of_format.Terms.{BtreeFields, File, database_faults, file_of, head_of, header_in, is_recno, leaves, page_at}
use Rattle.bdb_btree.proofs.of_format.FileLemmas.{count_is}
use Rattle.bdb_btree.specs.of_image.Linked.{HasMetadata, IsForest}
use Rattle.bdb_btree.proofs.of_image.FirstLemmas.{formed_accepted}
use Rattle.bdb_btree.proofs.of_image.FormedLemmas.{accepted_paged}
use Rattle.bdb_tree.specs.Descent.{descent}
use Rattle.bdb_tree.specs.Trees.{IsRoot}
use Rattle.bdb_tree.proofs.LinkLemmas.{few_leaves}
use Rattle.bdb_btree.specs.Pairs.{AreLeaves}
use Rattle.bdb_btree.specs.Search.{is_below}
use Rattle.bdb_btree.proofs.WalkLemmas.{are_leaves}
use Rattle.bdb_range.specs.InRange.{empty_leaves, holding_leaves}
use Rattle.bdb_range.specs.Spans.{Covers, Splits, goes_on}
use Rattle.bdb_range.proofs.LeafLemmas.{is_root, suffix_leaves}
use Rattle.bdb_range.proofs.SplitLemmas.{descents_split}
use Rattle.bdb_range.proofs.SpanLemmas.{walks_are_short, walks_cover}

-- what is known of the leaves behind the one to which a descent leads
pub record AreBehind (image : List ℕ) (meta : BtreeMeta) (from : List ℕ) (leaf : ℕ) (others : List ℕ) : Type 0 where
  pub split : Splits (file_of image) meta.root from leaf
  pub are : others ≡ split.after
  pub fit : AreLeaves (file_of image) others
  pub few : length others + 1 < 2 ^ 32

after_first : (old new : List ℕ) (first : ℕ) (after : List ℕ) (r : Option ℕ) → old ≡ first ∷ after
    → MatchOption r ((old ≡ []) × (new ≡ [])) (λ x. old ≡ x ∷ new) → new ≡ after
after_first old new first after None is next = absurd (let none : old ≡ [] = next.0 in cc)
after_first old new first after (Some x) is next = cc

others_fit : (image : List ℕ) (meta : BtreeMeta) (from : List ℕ) (leaf : ℕ) → IsForest image → HasMetadata (file_of image) (BtreeFields meta)
    → (split : Splits (file_of image) meta.root from leaf) → AreLeaves (file_of image) split.after
others_fit image meta from leaf forest has split =
    let file : File = file_of image in
    let all : AreLeaves file (leaves file meta.root) = are_leaves image meta.root forest (is_root image meta forest has) in
    let there : AreLeaves file (leaf ∷ split.after) = suffix_leaves file split.before (leaf ∷ split.after) (subst (AreLeaves file) split.are all) in
    there.1

-- a file has fewer leaves than a count can hold
others_few : (image : List ℕ) (meta : BtreeMeta) (from : List ℕ) (leaf : ℕ) → IsForest image → HasMetadata (file_of image) (BtreeFields meta)
    → (split : Splits (file_of image) meta.root from leaf) → length split.after + 1 < 2 ^ 32
others_few image meta from leaf forest has split =
    let file : File = file_of image in
    let all : length (leaves file meta.root) ≤ file.count = few_leaves image meta.root forest (is_root image meta forest has) in
    let pages : (head_of image).pages ≤ 2 ^ 21 = (accepted_paged image (head_of image) (formed_accepted image (head_of image) forest.formed)).few in
    let count : file.count ≡ (head_of image).pages = count_is image in
    let size : length (leaves file meta.root) ≡ length split.before + length (leaf ∷ split.after) =
    ap length split.are ∙ length-append split.before (leaf ∷ split.after) in
    omega arith

-- a walk from the leaf of a descent on, without its first leaf, is of those behind it
pub are_behind : (image : List ℕ) (meta : BtreeMeta) (from : List ℕ) (leaf number at : ℕ) (old new : List ℕ) (first : Option ℕ) → IsForest image
    → HasMetadata (file_of image) (BtreeFields meta) → is_recno meta ≡ false → database_faults (file_of image) (BtreeFields meta) ≡ []
    → leaf ≡ descent (header_in (page_at (file_of image) meta.root)).level (file_of image) (is_below (file_of image) from) meta.root → number ≡ leaf
    → at ≡ number
    → ((root : ℕ) (before after : List ℕ) → IsRoot (file_of image) root → leaves (file_of image) root ≡ before ++ (at ∷ after) → old ≡ at ∷ after)
    → MatchOption first ((old ≡ []) × (new ≡ [])) (λ x. old ≡ x ∷ new) → AreBehind image meta from leaf new
are_behind image meta from leaf number at old new first forest has keys none is one two tree next =
    let file : File = file_of image in
    let split : Splits file meta.root from leaf = subst (Splits file meta.root from) (sym is) (descents_split image meta from forest has keys none) in
    let same : at ≡ leaf = two ∙ one in
    let all : leaves file meta.root ≡ split.before ++ (at ∷ split.after) = split.are ∙ ap (λ (p : ℕ). split.before ++ (p ∷ split.after)) (sym same) in
    let are : new ≡ split.after = after_first old new at split.after first (tree meta.root split.before split.after (is_root image meta forest has) all) next in
    record {
      split = split;
      are = are;
      fit = subst (AreLeaves file) (sym are) (others_fit image meta from leaf forest has split);
      few = subst (λ (ps : List ℕ). length ps + 1 < 2 ^ 32) (sym are) (others_few image meta from leaf forest has split);
    }

-- the span that the walk gives
pub record IsSpan (image : List ℕ) (meta : BtreeMeta) (from to : List ℕ) (leaf count : ℕ) : Type 0 where
  pub covers : Covers (file_of image) meta.root leaf (count + 1) from to
  pub few : count ≤ holding_leaves (file_of image) meta.root from to + empty_leaves (file_of image) meta.root

pub span_is : (image walked : List ℕ) (meta : BtreeMeta) (from to : List ℕ) (leaf count : ℕ) (others : List ℕ) → IsForest image
    → HasMetadata (file_of image) (BtreeFields meta)
    → is_recno meta ≡ false → database_faults (file_of image) (BtreeFields meta) ≡ [] → AreBehind image meta from leaf others → walked ≡ image
    → count ≡ prefix_len (goes_on (file_of walked) to) others → IsSpan image meta from to leaf count
span_is image walked meta from to leaf count others forest has keys none behind same counted =
    let file : File = file_of image in
    let split : Splits file meta.root from leaf = behind.split in
    let walk : count ≡ prefix_len (goes_on file to) split.after =
    counted ∙ (ap (λ i. prefix_len (goes_on (file_of i) to) others) same ∙ ap (prefix_len (goes_on file to)) behind.are) in
    let next : 1 + prefix_len (goes_on file to) split.after ≡ count + 1 = omega arith in
    record {
      covers = subst (λ (n : ℕ). Covers file meta.root leaf n from to) next (walks_cover image meta from to leaf forest has keys none split);
      few = subst (λ (n : ℕ). n ≤ holding_leaves file meta.root from to + empty_leaves file meta.root) (sym walk)
          (walks_are_short file meta.root from to leaf split);
    }
