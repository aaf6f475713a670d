-- The way down, page by page.
use Rattle.std.proofs.Common.{◌≡◌, ℕ, zero, suc, ◌-◌, ◌+◌, ◌<◌, ◌≤◌, Bool, true, false, cond, List, [], ◌∷◌, map, drop, arith, refl, sym, ◌∙◌, ap}
use Rattle.std.specs.Prelude.{◌==◌, ◌&&◌, ◌||◌, not, nat_lt, slice_get, Option, Some, None, is_none}
use Rattle.std.proofs.lemmas.Bool.{eq-eqb, ne_eqb}
use Rattle.bdb_law_sums.specs.of_format.declared.pages.RecnoItem.{RecnoItem}
use Rattle.bdb_law_sums.specs.of_format.declared.references.Sort.TheVariants.{Child}
use Rattle.bdb_law_sums.specs.of_format.Terms.{BtreeFields, DupLeaf, File, Free, Hash, HashFields, Internal, InternalItem, Leaf, Listed, Meta, Metadata}
use Rattle.bdb_law_sums.specs.of_format.Terms.{NoType, Overflow, Page, Queue, QueueFields, RecnoInternal, RecnoLeaf, Zero, asked_by, children_in, first_row}
use Rattle.bdb_law_sums.specs.of_format.Terms.{fit_code, has_type, header_in, is_zero_page, page_at, type_in, ◌:?◌}
use Rattle.bdb_survey.specs.declared.down.Way.{Way}
use Rattle.bdb_survey.specs.declared.down.Way.TheVariants.{Ends, Child as ChildWay, Broken}
use Rattle.bdb_survey.specs.Salvage.{down, down_by, down_in, fits_below}
use Rattle.bdb_survey.specs.Ways.{fits_as, go_on, plain_type, way_by, way_from}

-- Children that fit.

meta_type : (fields : Metadata) (b : Bool) → has_type (cond b (5 ∷ 12 ∷ []) (3 ∷ [])) (type_in (Meta fields)) ≡ false
meta_type (BtreeFields meta) true = refl
meta_type (BtreeFields meta) false = refl
meta_type (HashFields meta) true = refl
meta_type (HashFields meta) false = refl
meta_type (QueueFields meta) true = refl
meta_type (QueueFields meta) false = refl

meta_record : (fields : Metadata) (b : Bool) → has_type (cond b (6 ∷ []) (4 ∷ [])) (type_in (Meta fields)) ≡ false
meta_record (BtreeFields meta) true = refl
meta_record (BtreeFields meta) false = refl
meta_record (HashFields meta) true = refl
meta_record (HashFields meta) false = refl
meta_record (QueueFields meta) true = refl
meta_record (QueueFields meta) false = refl

plain : (types : List ℕ) → ((fields : Metadata) → has_type types (type_in (Meta fields)) ≡ false) → (page : Page) → has_type types (type_in page)
    ≡ has_type types (plain_type page)
plain types meta Zero = refl
plain types meta (Free header) = refl
plain types meta (Meta fields) = meta fields
plain types meta (Hash page) = refl
plain types meta (Internal page) = refl
plain types meta (RecnoInternal page) = refl
plain types meta (Leaf page) = refl
plain types meta (RecnoLeaf page) = refl
plain types meta (DupLeaf page) = refl
plain types meta (Overflow header piece) = refl
plain types meta (Queue number records) = refl
plain types meta NoType = refl

rows_none : (a b z c : Bool) → is_none {T = ℕ} (first_row (1 :? a ∷ (2 :? not (b || (false && z)) ∷ (3 :? not c ∷ (4 :? not true ∷ []))))) ≡ (not a && (b && c))
rows_none true true z c = refl
rows_none true false z c = refl
rows_none false true z true = refl
rows_none false true z false = refl
rows_none false false z c = refl

fits_by : (file : File) (p child level : ℕ) (page : Page) (types : List ℕ) → page_at file p ≡ page → Rattle.bdb_law_sums.specs.of_format.References.child_types page ≡ types
    → (header_in page).level - 1 ≡ level
    → ((fields : Metadata) → has_type types (type_in (Meta fields)) ≡ false)
    → fits_below file p child ≡ fits_as file types level child
unfolding fit_code
fits_by file p child level page types is of below meta =
    let target : Page = page_at file child in
    ap (λ asked. is_none (first_row (Rattle.bdb_law_sums.specs.of_format.References.fit_rows file asked child)))
    (ap (λ pg. asked_by p pg Child) is
    ∙ (ap (λ ts. record { types = ts; or_zero = false; level = Some ((header_in page).level - 1); previous = None }) of
    ∙ ap (λ n. record { types = types; or_zero = false; level = Some n; previous = None }) below))
    ∙ (rows_none (child == 0 || nat_lt file.last child) (has_type types (type_in target)) (is_zero_page target) (level == (header_in target).level)
    ∙ ap (λ b. not (child == 0 || nat_lt file.last child) && (b && level == (header_in target).level)) (plain types meta target))

pub keyed_fits : (file : File) (p child level below : ℕ) (view : Listed InternalItem) (types : List ℕ) → page_at file p ≡ Internal view
    → view.header.level ≡ level → types ≡ cond (level == 2) (5 ∷ 12 ∷ []) (3 ∷ []) → below ≡ level - 1
    → fits_below file p child ≡ fits_as file types below child
keyed_fits file p child level below view types is same are lower =
    fits_by file p child below (Internal view) types is (ap (λ n. cond (n == 2) (5 ∷ 12 ∷ []) (3 ∷ [])) same ∙ sym are) (ap (λ n. n - 1) same ∙ sym lower)
    (λ fields. ap (λ ts. has_type ts (type_in (Meta fields))) are ∙ meta_type fields (level == 2))

pub record_fits : (file : File) (p child level below : ℕ) (view : Listed RecnoItem) (types : List ℕ) → page_at file p ≡ RecnoInternal view
    → view.header.level ≡ level → types ≡ cond (level == 2) (6 ∷ []) (4 ∷ []) → below ≡ level - 1
    → fits_below file p child ≡ fits_as file types below child
record_fits file p child level below view types is same are lower =
    fits_by file p child below (RecnoInternal view) types is (ap (λ n. cond (n == 2) (6 ∷ []) (4 ∷ [])) same ∙ sym are) (ap (λ n. n - 1) same ∙ sym lower)
    (λ fields. ap (λ ts. has_type ts (type_in (Meta fields))) are ∙ meta_record fields (level == 2))

-- the first of the pages below
pub first_child : {I : Type 0} (child_of : I → ℕ) (items : List I) (item : I) → slice_get items 0 ≡ Some item → map child_of items ≡ child_of item
    ∷ map child_of (drop 1 items)
first_child child_of [] item some = absurd (let none : None ≡ Some item = some in cc)
first_child child_of (x ∷ xs) item some = let same : x ≡ item = (let eq : Some x ≡ Some item = some in cc) in ap (λ i. child_of i ∷ map child_of xs) same

-- Turns.

by_children : (below : ℕ → Option ℕ) (fits : ℕ → Bool) (p : ℕ) (children : Option (List ℕ)) → down_by below fits p children
    ≡ go_on below p (way_by fits children)
by_children below fits p None = refl
by_children below fits p (Some []) = refl
by_children below fits p (Some (child ∷ others)) =
    elim (fits child) as (λ b. cond b (below child) None ≡ go_on below p (cond b (ChildWay child) Broken)) [
      | true ↦ refl
      | false ↦ refl
    ]

turn : (t : ℕ) (file : File) (p : ℕ) → down_in (suc t) file p ≡ go_on (down_in t file) p (way_from file p)
unfolding down_in
turn t file p = by_children (down_in t file) (fits_below file p) p (children_in (page_at file p))

zero_turn : (file : File) (p : ℕ) → down_in zero file p ≡ None
unfolding down_in
zero_turn file p = refl

-- what is left of the way down
pub record IsOnWay (file : File) (root level page : ℕ) : Type 0 where
  pub same : down file root ≡ down_in (255 - level) file page

pub at_zero : (file : File) (root : ℕ) → root ≡ 0 → down file root ≡ None
unfolding down
at_zero file root none = ap (λ b. cond b None (down_in 255 file root)) (eq-eqb root 0 none)

pub at_root : (file : File) (root : ℕ) → (root ≡ 0 → ⊥) → IsOnWay file root 0 root
unfolding down
at_root file root some = record { same = ap (λ b. cond b None (down_in 255 file root)) (ne_eqb root 0 some) }

left : (level : ℕ) → level < 255 → 255 - level ≡ suc (255 - (level + 1))
left level below = omega arith

pub at_turn : (file : File) (root level page : ℕ) → IsOnWay file root level page → level < 255
    → down file root ≡ go_on (down_in (255 - (level + 1)) file) page (way_from file page)
at_turn file root level page at below = at.same ∙ (ap (λ t. down_in t file page) (left level below) ∙ turn (255 - (level + 1)) file page)

pub at_end : (file : File) (root level page : ℕ) → IsOnWay file root level page → 255 ≤ level → down file root ≡ None
at_end file root level page at past =
    let none : 255 - level ≡ 0 = omega arith in
    at.same ∙ (ap (λ t. down_in t file page) none ∙ zero_turn file page)

-- an internal page goes on to its first child
pub way_internal : (file : File) (p child : ℕ) (page : Page) (others : List ℕ) (fits : Bool) → page_at file p ≡ page → children_in page ≡ Some (child ∷ others)
    → fits ≡ fits_below file p child
    → cond fits (ChildWay child) Broken ≡ way_from file p
way_internal file p child page others fits is children same =
    ap (λ b. cond b (ChildWay child) Broken) same
    ∙ sym (ap (λ pg. way_by (fits_below file p) (children_in pg)) is ∙ ap (way_by (fits_below file p)) children)

pub at_ends : (file : File) (root level page : ℕ) (way : Way) → IsOnWay file root level page → level < 255 → way ≡ way_from file page → way ≡ Ends
    → down file root ≡ Some page
at_ends file root level page way at below is ends = at_turn file root level page at below ∙ ap (go_on (down_in (255 - (level + 1)) file) page) (sym is ∙ ends)

pub at_broken : (file : File) (root level page : ℕ) (way : Way) → IsOnWay file root level page → level < 255 → way ≡ way_from file page → way ≡ Broken
    → down file root ≡ None
at_broken file root level page way at below is broken = at_turn file root level page at below ∙ ap (go_on (down_in (255 - (level + 1)) file) page)
    (sym is ∙ broken)

pub at_child : (file : File) (root level page child : ℕ) (way : Way) → IsOnWay file root level page → level < 255 → way ≡ way_from file page
    → way ≡ ChildWay child → IsOnWay file root (level + 1) child
at_child file root level page child way at below is on = record {
  same = at_turn file root level page at below
      ∙ ap (go_on (down_in (255 - (level + 1)) file) page) (sym is ∙ on);
}
