-- What salvage reads of a sound file by next pages, pieces and items is what the file has.
use Rattle.std.proofs.Common.{◌≡◌, ℕ, zero, suc, Bool, true, false, List, [], ◌∷◌, length, map, refl, ◌∙◌, ap, ◌==◌, ◌&&◌, not, if◌then◌else◌, flat_map}
use Rattle.bdb_survey.specs.of_format.Terms.{Chain, Content, Inline, Item, NoType, Page, Set, Tree, Unknown, Zero, chain, chain_in, entries_in, file_of}
use Rattle.bdb_survey.specs.of_format.Terms.{header_in, joined, next_of, page_at, piece_in, pieces_of}
use Rattle.bdb_survey.proofs.of_format.ListLemmas.{flat_map_same}
use Rattle.bdb_survey.specs.Salvage.{follows, is_link, is_overflow, is_row, is_whole, live_value, live_whole, whole_values}
use Rattle.bdb_law_whole.specs.Guessed.{guessed}
use Rattle.bdb_law_whole.specs.Whole.{IsStructured}
use Rattle.bdb_law_whole.proofs.PageLemmas.{same_count, seen_alike}

same_next : (image : List ℕ) (p : ℕ) → IsStructured image → next_of (guessed image) p ≡ next_of (file_of image) p
same_next image p sound = seen_alike (λ (page : Page). (header_in page).next) image p sound.forest sound.kind refl

same_turns : (turns : ℕ) (image : List ℕ) (p : ℕ) → IsStructured image → chain_in turns (guessed image) p ≡ chain_in turns (file_of image) p
unfolding chain_in
same_turns zero image p sound = refl
same_turns (suc turns) image p sound =
    ap (λ n. p ∷ elim (n == 0) [ true ↦ [] | false ↦ chain_in turns (guessed image) n ]) (same_next image p sound)
    ∙ ap (λ ps. p ∷ elim (next_of (file_of image) p == 0) [ true ↦ [] | false ↦ ps ]) (same_turns turns image (next_of (file_of image) p) sound)

pub same_chain : (image : List ℕ) (head : ℕ) → IsStructured image → chain (guessed image) head ≡ chain (file_of image) head
same_chain image head sound =
    ap (λ turns. chain_in turns (guessed image) head) (same_count image) ∙ same_turns (file_of image).count image head sound

-- a map of functions that give the same
map_same : {X Y : Type 0} (f g : X → Y) (xs : List X) → ((x : X) → f x ≡ g x) → map f xs ≡ map g xs
map_same f g [] same = refl
map_same f g (x ∷ xs) same = ap (λ y. y ∷ map f xs) (same x) ∙ ap (λ ys. g x ∷ ys) (map_same f g xs same)

same_pieces : (image : List ℕ) (head : ℕ) → IsStructured image → pieces_of (guessed image) head ≡ pieces_of (file_of image) head
unfolding pieces_of
same_pieces image head sound =
    ap (map (λ p. piece_in (page_at (guessed image) p))) (same_chain image head sound)
    ∙ map_same (λ p. piece_in (page_at (guessed image) p)) (λ p. piece_in (page_at (file_of image) p)) (chain (file_of image) head)
    (λ p. seen_alike piece_in image p sound.forest sound.kind refl)

same_link : (image : List ℕ) (test : Page → Bool) (before p : ℕ) → IsStructured image → test Zero ≡ test NoType
    → is_link (guessed image) test before p ≡ is_link (file_of image) test before p
same_link image test before p sound alike =
    ap (λ b. not (p == 0) && b && (header_in (page_at (guessed image) p)).previous == before) (seen_alike test image p sound.forest sound.kind alike)
    ∙ ap (λ n. not (p == 0) && test (page_at (file_of image) p) && n == before)
    (seen_alike (λ (page : Page). (header_in page).previous) image p sound.forest sound.kind refl)

same_follows : (image : List ℕ) (test : Page → Bool) (before : ℕ) (ps : List ℕ) → IsStructured image → test Zero ≡ test NoType
    → follows (guessed image) test before ps ≡ follows (file_of image) test before ps
same_follows image test before [] sound alike = refl
same_follows image test before (p ∷ []) sound alike =
    ap (λ b. b && next_of (guessed image) p == 0) (same_link image test before p sound alike)
    ∙ ap (λ n. is_link (file_of image) test before p && n == 0) (same_next image p sound)
same_follows image test before (p ∷ (q ∷ ps)) sound alike =
    ap (λ b. b && follows (guessed image) test p (q ∷ ps)) (same_link image test before p sound alike)
    ∙ ap (λ b. is_link (file_of image) test before p && b) (same_follows image test p (q ∷ ps) sound alike)

pub same_row : (image : List ℕ) (test : Page → Bool) (head : ℕ) → IsStructured image → test Zero ≡ test NoType
    → is_row (guessed image) test head ≡ is_row (file_of image) test head
same_row image test head sound alike =
    ap (follows (guessed image) test 0) (same_chain image head sound) ∙ same_follows image test 0 (chain (file_of image) head) sound alike

pub same_whole : (image : List ℕ) (head total : ℕ) → IsStructured image → is_whole (guessed image) head total ≡ is_whole (file_of image) head total
unfolding is_whole
same_whole image head total sound =
    ap (λ b. b && length (joined (pieces_of (guessed image) head)) == total) (same_row image is_overflow head sound refl)
    ∙ ap (λ pieces. is_row (file_of image) is_overflow head && length (joined pieces) == total) (same_pieces image head sound)

pub same_values : (image : List ℕ) (content : Content) → IsStructured image
    → whole_values (guessed image) content ≡ whole_values (file_of image) content
unfolding whole_values
same_values image (Inline bytes) sound = refl
same_values image (Set blocks) sound = refl
same_values image (Chain head total) sound =
    ap (λ b. if b then joined (pieces_of (guessed image) head) ∷ [] else []) (same_whole image head total sound)
    ∙ ap (λ pieces. if is_whole (file_of image) head total then joined pieces ∷ [] else []) (same_pieces image head sound)
same_values image (Tree root) sound = refl
same_values image Unknown sound = refl

same_live : (image : List ℕ) (item : Item) → IsStructured image → live_value (guessed image) item ≡ live_value (file_of image) item
same_live image item sound = ap (λ values. if item.deleted then [] else values) (same_values image item.content sound)

-- the live values of a page
pub same_values_on : (image : List ℕ) (p : ℕ) → IsStructured image → live_whole (guessed image) p ≡ live_whole (file_of image) p
unfolding live_whole
same_values_on image p sound =
    ap (flat_map (live_value (guessed image))) (seen_alike entries_in image p sound.forest sound.kind refl)
    ∙ flat_map_same (live_value (guessed image)) (live_value (file_of image)) (entries_in (page_at (file_of image) p))
    (λ item at. same_live image item sound)
