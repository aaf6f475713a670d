-- Keys that are chains, by the heads of these: what is found of one is known for each pair that names it. Source: docs/FORMAT.md, "Items".
use Rattle.std.specs.Prelude.{◌≡◌, ℕ, true, List, [], ◌∷◌, Option, Some, None}
use Rattle.std.specs.BTreeMap.{BTreeMap, get}
use Rattle.std.specs.BTreeSet.{BTreeSet, contains}
use Rattle.std.specs.Ordering.{nat_cmp}
use Rattle.bdb_tree.specs.of_image.Linked.{FitsChain}
use Rattle.bdb_tree.specs.of_overflow.declared.datum.Datum.{Datum}
use Rattle.bdb_tree.specs.of_overflow.declared.datum.Datum.TheVariants.{Chained, Inline as InlineDatum}
use Rattle.bdb_tree.specs.of_overflow.Keys.{has_key}
use Rattle.bdb_tree.specs.of_format.Terms.{Chain, Content, File, Inline, Set, Tree, Unknown, file_of, hash5, joined, page_at, pieces_of}
use Rattle.bdb_buckets.specs.Places.{IsRead, StandsOn, key_content}
use Rattle.bdb_buckets.specs.Told.{Told}

-- these pairs stand in the file of this image
abbrev pub AreOf : List ℕ → List Told → Type 0
AreOf image [] = Unit {0}
AreOf image (t ∷ ts) = (t.image ≡ image) × AreOf image ts

-- and so do those of these pages
abbrev pub AreAllOf : List ℕ → List (List Told) → Type 0
AreAllOf image [] = Unit {0}
AreAllOf image (page ∷ pages) = AreOf image page × AreAllOf image pages

-- the value of the chain with this head
abbrev pub chain_value : List ℕ → ℕ → List ℕ
chain_value image head = joined (pieces_of (file_of image) head)

-- the head of a chain that an item is, if it's one
abbrev pub chain_head : Content → Option ℕ
chain_head (Chain head total) = Some head
chain_head (Inline bytes) = None
chain_head (Set blocks) = None
chain_head (Tree root) = None
chain_head Unknown = None

-- the head of the chain that the key of the pair with this index of a page is, if it's one
abbrev pub head_on : List ℕ → ℕ → ℕ → Option ℕ
head_on image p i = chain_head (key_content (page_at (file_of image) p) i)

-- a key is in the chain with this head, which fits, or where there is none among the bytes of its page
abbrev pub IsHeldBy : File → Option ℕ → Datum → Type 0
IsHeldBy file (Some head) key = FitsChain file head
IsHeldBy file None (InlineDatum bytes) = Unit {0}
IsHeldBy file None (Chained pieces) = ⊥

-- what the code knows of a pair that it has read, with its key and the head of this
pub record IsKeyed (head : Option ℕ) (key : Datum) (p i : ℕ) (t : Told) : Type 0 where
  pub read : IsRead p i t
  pub headed : head ≡ head_on t.image p i
  pub held : IsHeldBy (file_of t.image) head key

-- the head of the chain that the key of a pair is, if it's one, where the pair stands on its page
pub record IsHead (head : Option ℕ) (t : Told) : Type 0 where
  pub index : ℕ
  pub stands : StandsOn t.pair.page index t
  pub is : head ≡ head_on t.image t.pair.page index

-- these are hashes of chains, by their heads
pub record AreHashes (image : List ℕ) (hashes : BTreeMap ℕ ℕ) : Type 0 where
  pub each : (head hash : ℕ) → get nat_cmp hashes head ≡ Some hash → hash ≡ hash5 (chain_value image head)

-- keys that were seen, in the file of an image
pub record Seen : Type 0 where
  pub image : List ℕ
  pub keys : BTreeSet (List ℕ)

-- the chains with these heads are among the keys
pub record AreAmong (seen : Seen) (heads : BTreeSet ℕ) : Type 0 where
  pub each : (head : ℕ) → contains nat_cmp heads head ≡ true → has_key seen.keys (chain_value seen.image head) ≡ true
