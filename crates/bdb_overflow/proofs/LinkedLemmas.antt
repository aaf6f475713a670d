-- The chains of a linked image are whole: each page of one names the next, and a way down has no page twice.
use Rattle.std.proofs.Common.{◌≡◌, ◌⊎◌, ℕ, zero, suc, ◌+◌, ◌/◌, ◌<◌, ◌≤◌, Bool, true, false, not, cond, List, [], ◌∷◌, length, Option, Some, None, arith, refl}
use Rattle.std.proofs.Common.{sym, ◌∙◌, ap, subst, inl, inr, ◌==◌, ◌||◌, ◌&&◌, nat_lt, Contains}
use Rattle.std.proofs.lemmas.Bool.{cases_eq, eq-eqb, eqb-false, eqb-true, ltb-false, ne_eqb, or_parts}
use Rattle.bdb_graph.specs.of_format.declared.kinds.Order.{Order}
use Rattle.bdb_graph.specs.of_format.declared.metadata.FileKind.{FileKind}
use Rattle.bdb_graph.specs.of_format.declared.metadata.FileKind.TheVariants.{Btree, Hash, Queue}
use Rattle.bdb_graph.specs.of_format.declared.metadata.Head.{Head}
use Rattle.bdb_graph.specs.of_format.declared.references.Reference.{Reference}
use Rattle.bdb_graph.specs.of_format.declared.references.Sort.{Sort}
use Rattle.bdb_graph.specs.of_format.declared.references.Sort.TheVariants.{OverflowHead, OverflowNext}
use Rattle.bdb_graph.specs.of_format.Terms.{File, Overflow, Owner, Page, all_references, asked_by, body_code, byte_at, chain_in, file_as}
use Rattle.bdb_graph.specs.of_format.Terms.{file_of, first_row, fit_code, fit_rows, form_code, has_type, head_of, header_in, header_of, identity_rows}
use Rattle.bdb_graph.specs.of_format.Terms.{is_page_size, is_tree_type, is_zero, is_zero_page, may_have_type, next_of, owners, page_at, page_bytes, page_code}
use Rattle.bdb_graph.specs.of_format.Terms.{page_type, piece_in, pieces_of, refs, targets_in, targets_of, two_at, type_in}
use Rattle.bdb_graph.proofs.of_format.GraphLemmas.{IsOwner, each_fits, is_owner, type_fits}
use Rattle.bdb_graph.proofs.of_format.MemberLemmas.{first_member, in_filter}
use Rattle.bdb_graph.proofs.of_format.PageLemmas.{chain_room, later_type}
use Rattle.bdb_graph.proofs.of_format.VerdictLemmas.{AllFail, none_is_first_row}
use Rattle.bdb_graph.proofs.ReachLemmas.{AllUpTo, few_distinct}
use Rattle.bdb_graph.specs.Forest.{AllDistinct, IsWayDown, Names}
use Rattle.bdb_graph.specs.of_image.Linked.{FitsChain, IsForest}
use Rattle.bdb_graph.proofs.of_image.CodeLemmas.{code_by}
use Rattle.bdb_graph.proofs.of_image.FirstLemmas.{formed_accepted, formed_last, formed_page}
use Rattle.bdb_graph.proofs.of_image.FitLemmas.{type_byte}
use Rattle.bdb_graph.proofs.ForestLemmas.{no_page_twice_below, sound_graph}
use Rattle.bdb_graph.proofs.of_image.FormedLemmas.{IsPaged, accepted_paged, page_length}
use Rattle.bdb_graph.proofs.of_image.HeldLemmas.{other_formed}
use Rattle.bdb_overflow.specs.Whole.{EndsIn, IsLink, IsWholeChain, next_at}
use Rattle.bdb_overflow.proofs.WholeLemmas.{after_piece, count_as, data_at, link_next, link_piece, overflow_page, pieces_in, pieces_turn}
use Rattle.bdb_graph.proofs.of_format.ReferenceLemmas.{forest_names}
use Rattle.bdb_graph.proofs.of_format.FileLemmas.{kind_is, last_page, page_is}
use Rattle.bdb_graph.proofs.of_format.SizeLemmas.{size_bounds}

-- Pages of a linked image.

-- a page of a chain, up to the last page
pub record IsOnChain (image : List ℕ) (p : ℕ) : Type 0 where
  pub inside : p ≤ (head_of image).last
  pub link : IsLink (head_of image).order (head_of image).page_size image p

paged : (image : List ℕ) → IsForest image → IsPaged image (head_of image)
paged image forest = accepted_paged image (head_of image) (formed_accepted image (head_of image) forest.formed)

pub legal_size : (image : List ℕ) → IsForest image → is_page_size (head_of image).page_size ≡ true
legal_size image forest = (paged image forest).legal

-- how many pages the file has
pub pages_is : (image : List ℕ) → (head_of image).pages ≡ length image / (head_of image).page_size
unfolding head_of
pages_is image = refl

pub count_is : (image : List ℕ) → (file_of image).count ≡ length image / (head_of image).page_size
unfolding file_of head_of
count_is image = refl

length_is : (image : List ℕ) (p : ℕ) → IsForest image → p ≤ (head_of image).last → length (page_bytes (head_of image) image p) ≡ (head_of image).page_size
length_is image p forest low =
    page_length image (head_of image) p (formed_accepted image (head_of image) forest.formed) (omega (arith, formed_last image (head_of image) forest.formed))

no_queue : (kind : FileKind) (p byte : ℕ) → 1 ≤ p → byte ≡ 7 → may_have_type kind p byte ≡ true → kind ≡ Queue → ⊥
no_queue Btree p byte low seven may queue = cc
no_queue Hash p byte low seven may queue = cc
no_queue Queue zero byte low seven may queue = omega arith
no_queue Queue (suc p) byte low seven may queue = let eleven : byte ≡ 11 = eqb-true byte 11 (sym (later_type Queue p byte) ∙ may) in omega arith

-- where no row of a page holds, none of its type does
body_none : (zeros : Bool) (identity body : Option ℕ) → zeros ≡ false → code_by zeros identity body ≡ None → body ≡ None
body_none true identity body some none = absurd cc
body_none false (Some code) body some none = absurd cc
body_none false None body some none = none

code_none : (order : Order) (p : ℕ) (page : List ℕ) → is_zero page ≡ false → page_code order p page ≡ None → body_code order page (page_type (byte_at page 25))
    ≡ None
unfolding page_code
code_none order p page some none = body_none (is_zero page) (first_row (identity_rows order page p is_tree_type))
    (body_code order page (page_type (byte_at page 25))) some none

-- the data of a page of type 7 lie on it
has_room : (image : List ℕ) (p : ℕ) → IsForest image → 1 ≤ p → p ≤ (head_of image).last → is_zero (page_bytes (head_of image) image p) ≡ false
    → byte_at (page_bytes (head_of image) image p) 25 ≡ 7
    → 26 + two_at (head_of image).order (page_bytes (head_of image) image p) 22 ≤ (head_of image).page_size
has_room image p forest low high some seven =
    let head : Head = head_of image in
    let page : List ℕ = page_bytes head image p in
    let formed : form_code head p page ≡ None = formed_page image p forest.formed.form high in
    let kind : head.kind ≡ Queue → ⊥ = no_queue head.kind p (byte_at page 25) low seven (type_fits head p page some formed) in
    let code : page_code head.order p page ≡ None = other_formed head p page kind formed (λ is. omega arith) (λ is. omega arith) in
    let body : body_code head.order page (page_type 7) ≡ None = ap (λ b. body_code head.order page (page_type b)) (sym seven)
    ∙ code_none head.order p page some code in
    let room : 26 + two_at head.order page 22 ≤ length page = chain_room head.order page body in
    omega (arith, room, length_is image p forest high)

-- References to pages of chains.

asks_seven : (t : Option ℕ) (zero_page : Bool) → not (has_type (7 ∷ []) t || (false && zero_page)) ≡ false → t ≡ Some 7
asks_seven None z fits = absurd cc
asks_seven (Some t) z fits = grind (arith, cases_eq, Some, ne_eqb)

-- a reference that asks for type 7 names a page of a chain
named_on_chain : (image : List ℕ) (h : ℕ) (reference : Reference) → IsForest image → h ≤ (file_of image).last → Contains (refs (file_of image) h) reference
    → ((page : Page) → (asked_by h page reference.sort).types ≡ 7 ∷ []) → ((page : Page) → (asked_by h page reference.sort).or_zero ≡ false)
    → IsOnChain image reference.target
unfolding fit_code
named_on_chain image h reference forest low held seven zeros =
    let file : File = file_of image in
    let head : Head = head_of image in
    let target : ℕ = reference.target in
    let asked = asked_by h (page_at file h) reference.sort in
    let fail : AllFail (fit_rows file asked target) =
    none_is_first_row (fit_rows file asked target) (each_fits file h reference (sound_graph image forest.linked).references low held) in
    let range : ((target == 0) ≡ false) × (nat_lt file.last target ≡ false) = or_parts (target == 0) (nat_lt file.last target) fail.0 in
    let some : target ≡ 0 → ⊥ = eqb-false target 0 range.0 in
    let high : target ≤ head.last = omega (arith, ltb-false file.last target range.1, last_page image) in
    let kind : not (has_type (7 ∷ []) (type_in (page_at file target)) || (false && is_zero_page (page_at file target))) ≡ false =
    subst (λ types. not (has_type types (type_in (page_at file target)) || (false && is_zero_page (page_at file target))) ≡ false) (seven (page_at file h))
    (subst (λ b. not (has_type asked.types (type_in (page_at file target)) || (b && is_zero_page (page_at file target))) ≡ false) (zeros (page_at file h))
    fail.1.0) in
    let byte : (is_zero (page_bytes head image target) ≡ false) × (byte_at (page_bytes head image target) 25 ≡ 7) =
    type_byte head.order (page_bytes head image target) 7 (ap type_in (sym (page_is image target high))
    ∙ asks_seven (type_in (page_at file target)) (is_zero_page (page_at file target)) kind) in
    let room = has_room image target forest (omega arith) high byte.0 byte.1 in
    let last : head.last < length image / head.page_size = omega (arith, formed_last image head forest.formed, pages_is image) in
    record { inside = high; link = record { low = omega arith; high = omega arith; kind = byte.1; room = room } }

head_asks : (h : ℕ) (sort : Sort) (page : Page) → sort ≡ OverflowHead → (asked_by h page sort).types ≡ 7 ∷ []
head_asks h sort page is = ap (λ s. (asked_by h page s).types) is

head_not_zero : (h : ℕ) (sort : Sort) (page : Page) → sort ≡ OverflowHead → (asked_by h page sort).or_zero ≡ false
head_not_zero h sort page is = ap (λ s. (asked_by h page s).or_zero) is

-- the head of a chain
head_on_chain : (image : List ℕ) (p : ℕ) → IsForest image → FitsChain (file_of image) p → IsOnChain image p
unfolding owners
head_on_chain image p forest fits =
    let file : File = file_of image in
    let at : Contains (owners file p) fits.owner =
    in_filter (λ (o : Owner). o.reference.target == p) (all_references file) fits.owner fits.held (eq-eqb fits.owner.reference.target p fits.target_is) in
    let is : IsOwner file p fits.owner = is_owner file p fits.owner at in
    subst (IsOnChain image) fits.target_is
    (named_on_chain image fits.owner.holder fits.owner.reference forest is.inside is.held
    (λ page. head_asks fits.owner.holder fits.owner.reference.sort page fits.sort_is)
    (λ page. head_not_zero fits.owner.holder fits.owner.reference.sort page fits.sort_is))

-- The next page.

link_is : (image : List ℕ) (p : ℕ) → IsForest image → IsOnChain image p
    → page_at (file_of image) p ≡ Overflow (header_of (head_of image).order (page_bytes (head_of image) image p))
    (data_at (head_of image).order (head_of image).page_size image p)
link_is image p forest on = grind (arith, page_is, overflow_page, length_is, size_bounds, legal_size)

linked_next : (image : List ℕ) (p : ℕ) → IsForest image → IsOnChain image p
    → next_of (file_of image) p ≡ next_at (head_of image).order (head_of image).page_size image p
linked_next image p forest on = ap (λ page. (header_in page).next) (link_is image p forest on)

linked_piece : (image : List ℕ) (p : ℕ) → IsForest image → IsOnChain image p → piece_in (page_at (file_of image) p)
    ≡ data_at (head_of image).order (head_of image).page_size image p
linked_piece image p forest on = ap piece_in (link_is image p forest on)

abbrev next_reference : ℕ → Reference
next_reference target = record { place = 0; sort = OverflowNext; target = target }

-- a page of a chain names the page after it
names_next : (image : List ℕ) (p : ℕ) → IsForest image → IsOnChain image p → (next_at (head_of image).order (head_of image).page_size image p ≡ 0 → ⊥)
    → Contains (refs (file_of image) p) (next_reference (next_at (head_of image).order (head_of image).page_size image p))
unfolding refs
names_next image p forest on more =
    let head : Head = head_of image in
    let file : File = file_of image in
    let page : List ℕ = page_bytes head image p in
    let next : ℕ = next_at head.order head.page_size image p in
    let byte : (is_zero page ≡ false) × (byte_at page 25 ≡ 7) = type_byte head.order page 7
    (ap type_in (sym (page_is image p on.inside) ∙ link_is image p forest on)) in
    let formed : form_code head p page ≡ None = formed_page image p forest.formed.form on.inside in
    let kind : file.kind ≡ Queue → ⊥ = λ queue. no_queue head.kind p (byte_at page 25) on.link.low on.link.kind (type_fits head p page byte.0 formed)
    (sym (kind_is image) ∙ queue) in
    let names : targets_of file.kind p (page_at file p) ≡ (OverflowNext, next) ∷ [] =
    forest_names file.kind p (page_at file p) kind ∙ (ap (targets_in p) (link_is image p forest on) ∙ rw (ne_eqb next 0 more) refl) in
    rw names (first_member (next_reference next) [])

next_on_chain : (image : List ℕ) (p : ℕ) → IsForest image → IsOnChain image p → (next_at (head_of image).order (head_of image).page_size image p ≡ 0 → ⊥)
    → IsOnChain image (next_at (head_of image).order (head_of image).page_size image p)
next_on_chain image p forest on more =
    named_on_chain image p (next_reference (next_at (head_of image).order (head_of image).page_size image p)) forest (omega (arith, on.inside, last_page image))
    (names_next image p forest on more)
    (λ page. refl) (λ page. refl)

next_named : (image : List ℕ) (p : ℕ) → IsForest image → IsOnChain image p → (next_at (head_of image).order (head_of image).page_size image p ≡ 0 → ⊥)
    → Names (file_of image) p (next_at (head_of image).order (head_of image).page_size image p)
next_named image p forest on more = grind (arith, names_next)

-- A chain ends.

-- that many pages follow each other on a chain
record IsLong (turns : ℕ) (image : List ℕ) (p : ℕ) : Type 0 where
  after : List ℕ
  way : IsWayDown (file_of image) p after
  long : length after ≡ turns
  inside : AllUpTo (head_of image).last after

-- a chain ends in so many turns, or it has as many pages after its first
ends_or_long : (turns : ℕ) (image : List ℕ) (p : ℕ) → IsForest image → IsOnChain image p → EndsIn turns (head_of image).order (head_of image).page_size image p
    ⊎ IsLong turns image p
ends_or_long zero image p forest on = inr (record { after = []; way = tt; long = refl; inside = tt })
ends_or_long (suc turns) image p forest on =
    let next : ℕ = next_at (head_of image).order (head_of image).page_size image p in
    elim (cases_eq next 0) [
      | inl last ↦ inl (on.link, inl last)
      | inr more ↦
          let on_next : IsOnChain image next = next_on_chain image p forest on more in
          elim (ends_or_long turns image next forest on_next) [
            | inl ends ↦ inl (on.link, inr ends)
            | inr long ↦ inr (record {
              after = next ∷ long.after;
              way = (next_named image p forest on more, long.way);
              long = omega (arith, long.long);
              inside = (on_next.inside, long.inside);
            })
          ]
    ]

not_long : (turns : ℕ) (image : List ℕ) (p : ℕ) → IsForest image → IsOnChain image p → (head_of image).last < turns → IsLong turns image p → ⊥
not_long turns image p forest on many long =
    let all : AllDistinct (p ∷ long.after) = no_page_twice_below image p long.after forest.linked (omega (arith, on.inside, last_page image)) long.way in
    let few : length (p ∷ long.after) ≤ (head_of image).last + 1 = few_distinct (head_of image).last (p ∷ long.after) all (on.inside, long.inside) in
    omega (arith, few, long.long)

-- a chain of a linked image is whole
pub linked_whole : (image : List ℕ) (p : ℕ) → IsForest image → FitsChain (file_of image) p
    → IsWholeChain (head_of image).order (head_of image).page_size image p
linked_whole image p forest fits = grind (arith, head_on_chain, formed_last, pages_is, ends_or_long, not_long)

-- The file of the image, and its pages as such.

same_turns : (turns : ℕ) (image : List ℕ) (p : ℕ) → IsForest image → IsOnChain image p
    → pieces_in turns (file_of image) p ≡ pieces_in turns (file_as (head_of image).order (head_of image).page_size image) p
unfolding chain_in
same_turns zero image p forest on = refl
same_turns (suc turns) image p forest on =
    let head : Head = head_of image in
    let file : File = file_of image in
    let other : File = file_as head.order head.page_size image in
    let next : ℕ = next_at head.order head.page_size image p in
    let is_next : next_of other p ≡ next = link_next head.order head.page_size image p (long_enough image forest) on.link in
    let is_piece : piece_in (page_at other p) ≡ data_at head.order head.page_size image p = link_piece head.order head.page_size image p
    (long_enough image forest) on.link in
    let rest : after_piece (next == 0) (data_at head.order head.page_size image p) (pieces_in turns file next)
    ≡ after_piece (next == 0) (data_at head.order head.page_size image p) (pieces_in turns other next) =
    elim (cases_eq next 0) [
      | inl last ↦ rw (eq-eqb next 0 last) refl
      | inr more ↦ ap (after_piece (next == 0) (data_at head.order head.page_size image p))
          (same_turns turns image next forest (next_on_chain image p forest on more))
    ] in
    pieces_turn turns file p
    ∙ (turn_of turns file p next (data_at head.order head.page_size image p) (linked_next image p forest on) (linked_piece image p forest on)
    ∙ (rest
    ∙ (sym (turn_of turns other p next (data_at head.order head.page_size image p) is_next is_piece)
    ∙ sym (pieces_turn turns other p))))
  where
    turn_of : (turns : ℕ) (file : File) (p next : ℕ) (piece : List ℕ) → next_of file p ≡ next → piece_in (page_at file p) ≡ piece
        → after_piece (next_of file p == 0) (piece_in (page_at file p)) (pieces_in turns file (next_of file p))
        ≡ after_piece (next == 0) piece (pieces_in turns file next)
    turn_of turns file p next piece n d = ap (λ m. after_piece (m == 0) (piece_in (page_at file p)) (pieces_in turns file m)) n
        ∙ ap (λ d. after_piece (next == 0) d (pieces_in turns file next)) d

    long_enough : (image : List ℕ) → IsForest image → 26 ≤ (head_of image).page_size
    long_enough image forest = omega (arith, (size_bounds (head_of image).page_size (legal_size image forest)).0)

pub linked_pieces : (image : List ℕ) (p : ℕ) → IsForest image → FitsChain (file_of image) p
    → pieces_of (file_as (head_of image).order (head_of image).page_size image) p ≡ pieces_of (file_of image) p
unfolding pieces_of
linked_pieces image p forest fits = grind (arith, count_is, count_as, pieces_in, same_turns, head_on_chain)

-- what the chains of a linked image are
pub ruleset linked_chains = (legal_size, linked_whole, linked_pieces, count_is)
