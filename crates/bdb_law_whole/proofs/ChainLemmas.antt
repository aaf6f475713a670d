-- Each chain that an item of a sound file names is whole: each page names the one before it, no page comes twice, and the total is right.
use Rattle.std.proofs.Common.{◌≡◌, ◌⊎◌, ℕ, zero, suc, ◌+◌, ◌≤◌, Bool, true, false, List, [], ◌∷◌, length, arith, refl, sym, ◌∙◌, ap, subst, inl, inr, ◌==◌}
use Rattle.std.proofs.Common.{◌&&◌, not, nat_lt, Some, None, Contains}
use Rattle.std.proofs.lemmas.Bool.{and_from, cases_Bool, cases_eq, eq-eqb, eqb-false, eqb-true, ltb-false, ne_eqb, not-false, or_parts}
use Rattle.bdb_survey.specs.of_format.declared.kinds.Order.{Order}
use Rattle.bdb_survey.specs.of_format.declared.references.Reference.{Reference}
use Rattle.bdb_survey.specs.of_format.declared.references.Sort.TheVariants.{OverflowNext}
use Rattle.bdb_survey.specs.of_format.Terms.{Chain, File, Overflow, Page, abstract_page, asked_by, byte_at, chain_in, chains_in, content_chains, contents_in}
use Rattle.bdb_survey.specs.of_format.Terms.{file_of, fit_code, fit_rows, has_type, head_of, header_in, is_wrong_length, is_zero, is_zero_page, joined, listed}
use Rattle.bdb_survey.specs.of_format.Terms.{next_of, page_as, page_at, page_bytes, page_type, pieces_of, reference_faults, refs, structure_faults}
use Rattle.bdb_survey.specs.of_format.Terms.{structure_rows, targets_in, type_in}
use Rattle.bdb_survey.specs.of_format.declared.pages.PageType.{PageType}
use Rattle.bdb_survey.specs.of_format.declared.pages.PageType.TheVariants.{Free as FreePage, Hash as HashPage, Internal as InternalPage}
use Rattle.bdb_survey.specs.of_format.declared.pages.PageType.TheVariants.{RecnoInternal as RecnoInternalPage, Leaf as LeafPage, RecnoLeaf as RecnoLeafPage}
use Rattle.bdb_survey.specs.of_format.declared.pages.PageType.TheVariants.{Overflow as OverflowPage, HashMeta as HashMetaPage, BtreeMeta as BtreeMetaPage}
use Rattle.bdb_survey.specs.of_format.declared.pages.PageType.TheVariants.{QueueMeta as QueueMetaPage, Queue as QueuePage, DupLeaf as DupLeafPage}
use Rattle.bdb_survey.specs.of_format.declared.pages.PageType.TheVariants.{Other as OtherPage}
use Rattle.bdb_survey.proofs.of_format.BoolLemmas.{first_or_none}
use Rattle.bdb_survey.proofs.of_format.GraphLemmas.{each_fits, typed_page}
use Rattle.bdb_survey.proofs.of_format.MemberLemmas.{first_member, in_flat_map, none_passes}
use Rattle.bdb_survey.proofs.of_format.ReferenceLemmas.{forest_names, of_all}
use Rattle.bdb_survey.proofs.of_format.TypeLemmas.{if_type, of_type}
use Rattle.bdb_survey.proofs.of_format.VerdictLemmas.{AllFail, no_rows_at, none_is_first_row}
use Rattle.bdb_survey.proofs.of_format.FileLemmas.{count_is, kind_is, last_page, page_is}
use Rattle.bdb_survey.specs.of_image.Fits.{asks_previous}
use Rattle.bdb_survey.specs.of_graph.Forest.{AllDistinct, IsWayDown, Names}
use Rattle.bdb_survey.specs.of_image.Linked.{FitsChain, IsForest}
use Rattle.bdb_survey.proofs.of_image.FirstLemmas.{formed_last}
use Rattle.bdb_survey.proofs.of_image.FitLemmas.{zero_type}
use Rattle.bdb_survey.proofs.of_graph.ForestLemmas.{no_page_twice_below, sound_graph}
use Rattle.bdb_survey.proofs.of_graph.ReachLemmas.{AllUpTo, few_distinct}
use Rattle.bdb_survey.specs.Salvage.{follows, is_link, is_overflow, is_row, is_whole}
use Rattle.bdb_law_whole.specs.Whole.{IsStructured}

-- Pages of type 7.

other_byte : (byte k : ℕ) → (byte == k) ≡ true → (k == 7) ≡ false → Some byte ≡ Some 7 → ⊥
other_byte byte k is other seven = eqb-false k 7 other (sym (eqb-true byte k is) ∙ cc)

seven_as : (order : Order) (page : List ℕ) → type_in (page_as order page (page_type (byte_at page 25))) ≡ Some 7
    → is_overflow (page_as order page (page_type (byte_at page 25))) ≡ true
unfolding listed
seven_as order page =
    let byte : ℕ = byte_at page 25 in
    let P : PageType → Type 0 = λ t. type_in (page_as order page t) ≡ Some 7 → is_overflow (page_as order page t) ≡ true in
    if_type P (byte == 0) FreePage _ (λ is seven. absurd cc) (λ _.
    if_type P (byte == 2) HashPage _ (λ is seven. absurd (other_byte byte 2 is refl seven)) (λ _.
    if_type P (byte == 3) InternalPage _ (λ is seven. absurd cc) (λ _.
    if_type P (byte == 4) RecnoInternalPage _ (λ is seven. absurd cc) (λ _.
    if_type P (byte == 5) LeafPage _ (λ is seven. absurd cc) (λ _.
    if_type P (byte == 6) RecnoLeafPage _ (λ is seven. absurd cc) (λ _.
    if_type P (byte == 7) OverflowPage _ (λ is seven. refl) (λ _.
    if_type P (byte == 8) HashMetaPage _ (λ is seven. absurd cc) (λ _.
    if_type P (byte == 9) BtreeMetaPage _ (λ is seven. absurd cc) (λ _.
    if_type P (byte == 10) QueueMetaPage _ (λ is seven. absurd cc) (λ _.
    if_type P (byte == 11) QueuePage _ (λ is seven. absurd cc) (λ _.
    if_type P (byte == 12) DupLeafPage _ (λ is seven. absurd cc) (λ _.
    if_type P (byte == 13) HashPage OtherPage (λ is seven. absurd (other_byte byte 13 is refl seven)) (λ _ seven. absurd cc)))))))))))))

seven_page : (image : List ℕ) (p : ℕ) → p ≤ (file_of image).last → type_in (page_at (file_of image) p) ≡ Some 7
    → is_overflow (page_at (file_of image) p) ≡ true
seven_page image p low seven =
    let order : Order = (head_of image).order in
    let page : List ℕ = page_bytes (head_of image) image p in
    let is : page_at (file_of image) p ≡ abstract_page order page = page_is image p (omega (arith, low, last_page image)) in
    elim (cases_Bool (is_zero page)) [
      | inl zeros ↦ absurd (let none : None ≡ Some 7 = zero_type order page zeros ∙ (ap type_in (sym is) ∙ seven) in cc)
      | inr some ↦
          let typed : page_at (file_of image) p ≡ page_as order page (page_type (byte_at page 25)) = is ∙ typed_page order page some in
          ap is_overflow typed ∙ seven_as order page (ap type_in (sym typed) ∙ seven)
    ]

-- Pages of chains.

-- a page of a chain that names this page before it
record OnChain (file : File) (before p : ℕ) : Type 0 where
  inside : p ≤ file.last
  above : 1 ≤ p
  type : type_in (page_at file p) ≡ Some 7
  back : (header_in (page_at file p)).previous ≡ before

named_on_chain : (file : File) (h before : ℕ) (reference : Reference) → reference_faults file ≡ [] → h ≤ file.last → Contains (refs file h) reference
    → asked_by h (page_at file h) reference.sort ≡ asks_previous (7 ∷ []) before → OnChain file before reference.target
unfolding fit_code
named_on_chain file h before reference none low held asks =
    let target : ℕ = reference.target in
    let fail : AllFail (fit_rows file (asks_previous (7 ∷ []) before) target) =
    subst (λ asked. AllFail (fit_rows file asked target)) asks
    (none_is_first_row (fit_rows file (asked_by h (page_at file h) reference.sort) target) (each_fits file h reference none low held)) in
    let range = or_parts (target == 0) (nat_lt file.last target) fail.0 in
    let some : target ≡ 0 → ⊥ = eqb-false target 0 range.0 in
    let typed : has_type (7 ∷ []) (type_in (page_at file target)) ≡ true =
    first_or_none (has_type (7 ∷ []) (type_in (page_at file target))) (false && is_zero_page (page_at file target)) refl fail.1.0 in
    record {
      inside = ltb-false file.last target range.1;
      above = omega arith;
      type = of_type (λ type. type ≡ Some 7) (7 ∷ []) (type_in (page_at file target)) (refl, tt) typed;
      back = sym (eqb-true before (header_in (page_at file target)).previous (not-false _ fail.1.1.1.0));
    }

-- the head of a chain
head_on_chain : (image : List ℕ) (head : ℕ) → IsForest image → FitsChain (file_of image) head → OnChain (file_of image) 0 head
head_on_chain image head forest is =
    let file : File = file_of image in
    let held = of_all file is.owner is.held in
    subst (OnChain file 0) is.target_is
    (named_on_chain file is.owner.holder 0 is.owner.reference (sound_graph image forest.linked).references held.0 held.1
    (ap (asked_by is.owner.holder (page_at file is.owner.holder)) is.sort_is))

abbrev next_reference : ℕ → Reference
next_reference target = record { place = 0; sort = OverflowNext; target = target }

next_target : (p : ℕ) (page : Page) → is_overflow page ≡ true → ((header_in page).next ≡ 0 → ⊥)
    → targets_in p page ≡ (OverflowNext, (header_in page).next) ∷ []
next_target p (Overflow header piece) is more = rw (ne_eqb header.next 0 more) refl
next_target p page is more = absurd cc

-- a page of a chain names the one after it
next_held : (image : List ℕ) (before p : ℕ) → IsStructured image → OnChain (file_of image) before p → (next_of (file_of image) p ≡ 0 → ⊥)
    → Contains (refs (file_of image) p) (next_reference (next_of (file_of image) p))
unfolding refs
next_held image before p sound on more =
    let file : File = file_of image in
    let names =
    forest_names file.kind p (page_at file p) (λ queue. sound.kind (sym (kind_is image) ∙ queue))
    ∙ next_target p (page_at file p) (seven_page image p on.inside on.type) more in
    rw names (first_member (next_reference (next_of file p)) [])

next_on_chain : (image : List ℕ) (before p : ℕ) → IsStructured image → OnChain (file_of image) before p → (next_of (file_of image) p ≡ 0 → ⊥)
    → OnChain (file_of image) p (next_of (file_of image) p)
next_on_chain image before p sound on more =
    named_on_chain (file_of image) p p (next_reference (next_of (file_of image) p)) (sound_graph image sound.forest.linked).references on.inside
    (next_held image before p sound on more) refl

-- Rows.

not_zero : (p : ℕ) → 1 ≤ p → not (p == 0) ≡ true
not_zero p above = ap not (ne_eqb p 0 (λ is. omega arith))

-- a page that isn't 0, is one of these, and names the page before it
pub linked : (file : File) (test : Page → Bool) (before p : ℕ) → 1 ≤ p → test (page_at file p) ≡ true → (header_in (page_at file p)).previous ≡ before
    → is_link file test before p ≡ true
linked file test before p above is back =
    and_from (not (p == 0) && test (page_at file p)) ((header_in (page_at file p)).previous == before)
    (and_from (not (p == 0)) (test (page_at file p)) (not_zero p above) is)
    (eq-eqb (header_in (page_at file p)).previous before back)

pub follows_last : (file : File) (test : Page → Bool) (before p : ℕ) → is_link file test before p ≡ true → next_of file p ≡ 0
    → follows file test before (p ∷ []) ≡ true
follows_last file test before p link last = and_from (is_link file test before p) (next_of file p == 0) link (eq-eqb (next_of file p) 0 last)

pub follows_more : (file : File) (test : Page → Bool) (before p : ℕ) (ps : List ℕ) → is_link file test before p ≡ true → follows file test p ps ≡ true
    → follows file test before (p ∷ ps) ≡ true
follows_more file test before p [] link rest = absurd cc
follows_more file test before p (q ∷ ps) link rest = and_from (is_link file test before p) (follows file test p (q ∷ ps)) link rest

-- one turn
pub turn_ends : (turns : ℕ) (file : File) (p : ℕ) → next_of file p ≡ 0 → chain_in (suc turns) file p ≡ p ∷ []
unfolding chain_in
turn_ends turns file p last = rw (eq-eqb (next_of file p) 0 last) refl

pub turn_goes_on : (turns : ℕ) (file : File) (p : ℕ) → (next_of file p ≡ 0 → ⊥)
    → chain_in (suc turns) file p ≡ p ∷ chain_in turns file (next_of file p)
unfolding chain_in
turn_goes_on turns file p more = rw (ne_eqb (next_of file p) 0 more) refl

-- that many pages follow each other on a chain
record IsLong (turns : ℕ) (image : List ℕ) (p : ℕ) : Type 0 where
  after : List ℕ
  way : IsWayDown (file_of image) p after
  long : length after ≡ turns
  inside : AllUpTo (file_of image).last after

next_named : (image : List ℕ) (before p : ℕ) → IsStructured image → OnChain (file_of image) before p → (next_of (file_of image) p ≡ 0 → ⊥)
    → Names (file_of image) p (next_of (file_of image) p)
next_named image before p sound on more =
    record { reference = next_reference (next_of (file_of image) p); held = next_held image before p sound on more; target = refl; other = refl }

-- a chain is a whole row within so many turns, or it has as many pages after its first
row_or_long : (turns : ℕ) (image : List ℕ) (before p : ℕ) → IsStructured image → OnChain (file_of image) before p
    → (follows (file_of image) is_overflow before (chain_in turns (file_of image) p) ≡ true) ⊎ IsLong turns image p
row_or_long zero image before p sound on = inr (record { after = []; way = tt; long = refl; inside = tt })
row_or_long (suc turns) image before p sound on =
    let file : File = file_of image in
    let next : ℕ = next_of file p in
    let link : is_link file is_overflow before p ≡ true = linked file is_overflow before p on.above (seven_page image p on.inside on.type) on.back in
    elim (cases_eq next 0) [
      | inl last ↦ inl (ap (follows file is_overflow before) (turn_ends turns file p last) ∙ follows_last file is_overflow before p link last)
      | inr more ↦
          let on_next : OnChain file p next = next_on_chain image before p sound on more in
          elim (row_or_long turns image p next sound on_next) [
            | inl row ↦ inl (ap (follows file is_overflow before) (turn_goes_on turns file p more)
                ∙ follows_more file is_overflow before p (chain_in turns file next) link row)
            | inr long ↦
                inr (record {
                  after = next ∷ long.after;
                  way = (next_named image before p sound on more, long.way);
                  long = omega (arith, long.long);
                  inside = (on_next.inside, long.inside);
                })
          ]
    ]

-- the chain that is named is a whole row
chain_follows : (image : List ℕ) (head : ℕ) → IsStructured image → FitsChain (file_of image) head → is_row (file_of image) is_overflow head ≡ true
chain_follows image head sound is =
    let file : File = file_of image in
    let on : OnChain file 0 head = head_on_chain image head sound.forest is in
    elim (row_or_long file.count image 0 head sound on) [
      | inl row ↦ row
      | inr long ↦
          let all : AllDistinct (head ∷ long.after) = no_page_twice_below image head long.after sound.forest.linked on.inside long.way in
          let few : length (head ∷ long.after) ≤ file.last + 1 = few_distinct file.last (head ∷ long.after) all (on.inside, long.inside) in
          absurd (omega (arith, few, long.long, count_is image, last_page image, formed_last image (head_of image) sound.forest.formed))
    ]

-- the chains that the items of a page name have the lengths that these tell
total_is : (image : List ℕ) (p head total : ℕ) → IsStructured image → p ≤ (file_of image).last
    → Contains (contents_in (page_at (file_of image) p)) (Chain head total) → length (joined (pieces_of (file_of image) head)) ≡ total
unfolding structure_faults
total_is image p head total sound low held =
    let file : File = file_of image in
    let fail : AllFail (structure_rows file p) = no_rows_at 6 0 (file.last + 1) p (structure_rows file) sound.structure (omega arith) (omega arith) in
    eqb-true (length (joined (pieces_of file head))) total
    (not-false _ (none_passes (is_wrong_length file) (chains_in (page_at file p)) (head, total) fail.0
    (in_flat_map content_chains (contents_in (page_at file p)) (Chain head total) (head, total) held (first_member (head, total) []))))

-- so each chain that a content of a page names is whole
pub named_whole : (image : List ℕ) (p head total : ℕ) → IsStructured image → p ≤ (file_of image).last
    → Contains (contents_in (page_at (file_of image) p)) (Chain head total) → FitsChain (file_of image) head
    → is_whole (file_of image) head total ≡ true
unfolding is_whole
named_whole image p head total sound low held fits =
    let file : File = file_of image in
    and_from (is_row file is_overflow head) (length (joined (pieces_of file head)) == total) (chain_follows image head sound fits)
    (eq-eqb (length (joined (pieces_of file head))) total (total_is image p head total sound low held))
