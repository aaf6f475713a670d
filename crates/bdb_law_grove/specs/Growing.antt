-- How groves grow while a file is built: what a later file keeps of an earlier one, and the laws by which its pages are groves too.
-- The face of a page is what other pages see of it, its type, its level, the page before it and what it counts, and what it asks of the pages that
-- it names. A page that keeps its face and its references is as good as the one before.
-- Source: docs/FORMAT.md, "References" and "Stage 3, references" to "Stage 5, reach".
use Rattle.std.specs.Prelude.{◌≡◌, ◌⊎◌, ℕ, ◌+◌, ◌<◌, ◌≤◌, ◌==◌, ◌||◌, length, Bool, true, List, [], ◌∷◌, ◌++◌, None}
use Rattle.std.specs.List.{Contains}
use Rattle.bdb_format.specs.declared.metadata.FileKind.TheVariants.{Queue}
use Rattle.bdb_format.specs.declared.references.Reference.{Reference}
use Rattle.bdb_format.specs.declared.references.Sort.{Sort}
use Rattle.bdb_format.specs.declared.pages.Header.{Header}
use Rattle.bdb_format.specs.Terms.{Chain, File, Overflow, Page, asked_by, fit_code, header_in, is_head_reference, is_zero_page, joined, page_at, refs}
use Rattle.bdb_format.specs.Terms.{targets_in, type_in, value_of}
use Rattle.bdb_law_grove.specs.Part.{IsGrove, IsWayIn, are_heads_alone, between, owners_among}

-- A page stays as it was, but that a page of a chain may count more references.
pub record IsCountedMore (old new : Page) : Type 0 where
  pub header : Header
  pub piece : List ℕ
  pub count : ℕ
  pub before : old ≡ Overflow header piece
  pub after : new ≡ Overflow (record header { entries = count }) piece
  pub more : header.entries ≤ count

abbrev pub IsSamePage : Page → Page → Type 0
IsSamePage old new = (new ≡ old) ⊎ IsCountedMore old new

-- a later file has at least the pages of an earlier one, and those of a set as they were
pub record IsLater (pages : ℕ → Bool) (old new : File) : Type 0 where
  pub no_queue_before : old.kind ≡ Queue → ⊥
  pub no_queue : new.kind ≡ Queue → ⊥
  pub grows : old.last ≤ new.last
  pub same : (p : ℕ) → pages p ≡ true → IsSamePage (page_at old p) (page_at new p)

-- what other pages see of a page, and what it asks of those that it names, stays; a chain's count may rise
pub record KeepsFace (old new : Page) : Type 0 where
  pub type : type_in new ≡ type_in old
  pub zero : is_zero_page new ≡ is_zero_page old
  pub level : (header_in new).level ≡ (header_in old).level
  pub previous : (header_in new).previous ≡ (header_in old).previous
  pub entries : (header_in old).entries ≤ (header_in new).entries
  pub asks : (holder : ℕ) (sort : Sort) → asked_by holder new sort ≡ asked_by holder old sort

-- a grove is one in each later file
abbrev pub GroveLasts : Type 0
GroveLasts = (f g : File) (pages : ℕ → Bool) (es : List ℕ) → IsLater pages f g → IsGrove f pages es → IsGrove g pages es

-- A page of a grove takes in an entrance by one more reference, which comes last; all other pages stay. It is led up to
-- from another entrance, so that no ring comes about.
pub record TakesIn (f g : File) (pages : ℕ → Bool) (es fewer : List ℕ) (p : ℕ) (r : Reference) : Type 0 where
  pub no_queue_before : f.kind ≡ Queue → ⊥
  pub no_queue : g.kind ≡ Queue → ⊥
  pub grows : f.last ≤ g.last
  pub others : (q : ℕ) → pages q ≡ true → (q ≡ p → ⊥) → page_at g q ≡ page_at f q
  pub face : KeepsFace (page_at f p) (page_at g p)
  pub names : refs g p ≡ refs f p ++ (r ∷ [])
  pub fits : fit_code g p r ≡ None
  pub counts : is_head_reference r.sort ≡ true → 1 ≤ (header_in (page_at g r.target)).entries
  pub inside : pages p ≡ true
  pub entrance : Contains es r.target
  -- the entrances but the one that is taken in
  pub gone : Contains fewer r.target → ⊥
  pub left : (e : ℕ) → Contains fewer e → Contains es e
  pub rest : (e : ℕ) → Contains es e → (e ≡ r.target) ⊎ Contains fewer e
  pub led : (hs : List ℕ) × IsWayIn f pages fewer p hs

-- then its pages are a grove without this entrance
abbrev pub GroveTakesIn : Type 0
GroveTakesIn = (f g : File) (pages : ℕ → Bool) (es fewer : List ℕ) (p : ℕ) (r : Reference) → TakesIn f g pages es fewer p r → IsGrove f pages es
    → IsGrove g pages fewer

-- two groves without a page in common are one grove, with the entrances of both
abbrev pub GrovesStandTogether : Type 0
GrovesStandTogether =
    (f : File) (one two both : ℕ → Bool) (es gs : List ℕ) → ((p : ℕ) → both p ≡ (one p || two p)) → ((p : ℕ) → one p ≡ true → two p ≡ true → ⊥)
    → IsGrove f one es → IsGrove f two gs → IsGrove f both (es ++ gs)

-- a page that names nothing is a grove, and its own entrance
abbrev pub PageAlone : Type 0
PageAlone = (f : File) (p : ℕ) → 1 ≤ p → p ≤ f.last → refs f p ≡ [] → IsGrove f (λ q. q == p) (p ∷ [])

-- A chain as it is laid out: each page names the one before it, and the number after its own, the last none. What it counts may rise.
abbrev pub chain_header : ℕ → ℕ → ℕ → ℕ → ℕ → Header
chain_header p previous next length count =
    record { number = p; previous = previous; next = next; entries = count; high_free = length; level = 0; page_type = 7 }

-- this page of the file is one of a chain, with this piece of the value
abbrev pub IsLink : File → ℕ → ℕ → ℕ → List ℕ → Type 0
IsLink g previous p next piece = (count : ℕ) × (1 ≤ count) × (page_at g p ≡ Overflow (chain_header p previous next (length piece) count) piece)

-- the pages from this number on are a chain with these pieces
abbrev pub IsRun : File → ℕ → ℕ → List (List ℕ) → Type 0
IsRun g previous p [] = ⊥
IsRun g previous p (piece ∷ []) = IsLink g previous p 0 piece
IsRun g previous p (piece ∷ next ∷ pieces) = IsLink g previous p (p + 1) piece × IsRun g p (p + 1) (next ∷ pieces)

-- a file that is no queue's, and has the pages that it counts
pub record IsCounted (g : File) : Type 0 where
  pub no_queue : g.kind ≡ Queue → ⊥
  pub counted : g.last < g.count
  pub pages : length g.pages ≡ g.last + 1

-- pages from a number on are a grove that is entered by the first of them, and hold the value
pub record IsChainOf (g : File) (p : ℕ) (pieces : List (List ℕ)) : Type 0 where
  pub grove : IsGrove g (between p (p + length pieces)) (p ∷ [])
  pub value : (total : ℕ) → value_of g (Chain p total) ≡ joined pieces

-- the pages of a chain are
abbrev pub ChainsStand : Type 0
ChainsStand = (g : File) (previous p : ℕ) (pieces : List (List ℕ)) → IsCounted g → 1 ≤ p → p + length pieces ≤ g.last + 1 → IsRun g previous p pieces
    → IsChainOf g p pieces

-- Pages that keep their references and their faces, as the head of a chain whose count rises.
pub record KeepsFaces (pages : ℕ → Bool) (old new : File) : Type 0 where
  pub grows : old.last ≤ new.last
  pub refs_same : (p : ℕ) → pages p ≡ true → refs new p ≡ refs old p
  pub faces : (p : ℕ) → pages p ≡ true → KeepsFace (page_at old p) (page_at new p)

-- then they are a grove as before
abbrev pub GroveKeepsFaces : Type 0
GroveKeepsFaces = (f g : File) (pages : ℕ → Bool) (es : List ℕ) → KeepsFaces pages f g → IsGrove f pages es → IsGrove g pages es

-- A page above all others of a grove shares the head of a chain, which counts it: the reference comes last, and all other pages stay.
pub record Shares (f g : File) (pages : ℕ → Bool) (es : List ℕ) (p : ℕ) (r : Reference) : Type 0 where
  pub no_queue_before : f.kind ≡ Queue → ⊥
  pub no_queue : g.kind ≡ Queue → ⊥
  pub grows : f.last ≤ g.last
  pub others : (q : ℕ) → pages q ≡ true → (q ≡ p → ⊥) → page_at g q ≡ page_at f q
  pub face : KeepsFace (page_at f p) (page_at g p)
  pub names : refs g p ≡ refs f p ++ (r ∷ [])
  pub fits : fit_code g p r ≡ None
  pub inside : pages p ≡ true
  pub greatest : (q : ℕ) → pages q ≡ true → q ≤ p
  -- the head is owned already, by heads of chains alone, and counts one more
  pub head : is_head_reference r.sort ≡ true
  pub there : pages r.target ≡ true
  pub no_entrance : Contains es r.target → ⊥
  pub heads : are_heads_alone (owners_among pages f r.target) ≡ true
  pub some : 1 ≤ length (owners_among pages f r.target)
  pub counted : length (owners_among pages f r.target) + 1 ≤ (header_in (page_at g r.target)).entries

-- then its pages are a grove with the same entrances
abbrev pub GroveShares : Type 0
GroveShares = (f g : File) (pages : ℕ → Bool) (es : List ℕ) (p : ℕ) (r : Reference) → Shares f g pages es p r → IsGrove f pages es → IsGrove g pages es

-- a name that comes last is a reference that comes last
abbrev pub ReferencesComeLast : Type 0
ReferencesComeLast =
    (f g : File) (p target : ℕ) (sort : Sort) → (f.kind ≡ Queue → ⊥) → (g.kind ≡ Queue → ⊥)
    → targets_in p (page_at g p) ≡ targets_in p (page_at f p) ++ ((sort, target) ∷ [])
    → refs g p ≡ refs f p ++ (record { place = length (targets_in p (page_at f p)); sort = sort; target = target } ∷ [])
