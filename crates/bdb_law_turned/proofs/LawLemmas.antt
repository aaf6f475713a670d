-- What a file keeps in an order.
use Rattle.std.proofs.Common.{◌≡◌, ◌∙◌, ℕ, List, [], length, refl, sym, ap, cond, true, false, None}
use Rattle.bdb_graph.specs.of_format.declared.kinds.Order.{Order}
use Rattle.bdb_graph.specs.of_format.declared.kinds.Order.TheVariants.{Big, Little}
use Rattle.bdb_graph.specs.of_format.declared.metadata.Head.{Head}
use Rattle.bdb_graph.specs.of_format.Terms.{BtreeFields, File, HashFields, Metadata, QueueFields, btree_settings, databases, faults_of, file_of, head_of}
use Rattle.bdb_graph.specs.of_format.Terms.{is_anchor, is_recno, is_reserve, list_of, owners, recno_settings, refs, settings_of, turned}
use Rattle.bdb_law_turned.specs.Flipped.{first_overlap, flip_of, flipped, has_order, overlap_in, same_order}
use Rattle.bdb_law_turned.specs.Laws.{FilesFlip, Flips, FlippedFilesKeepDatabases}
use Rattle.bdb_law_turned.proofs.FlipLemmas.{TurnsWhole, image_turns}

same_is : (order other : Order) → same_order order other ≡ true → order ≡ other
same_is Little Little is = refl
same_is Big Big is = refl
same_is Little Big is = absurd cc
same_is Big Little is = absurd cc

other_is : (order other : Order) → same_order order other ≡ false → order ≡ turned other
other_is Little Little is = absurd cc
other_is Big Big is = absurd cc
other_is Little Big is = refl
other_is Big Little is = refl

not_same : (order : Order) → same_order order (turned order) ≡ false
not_same Little = refl
not_same Big = refl

-- an image that has the order is as it was
stays : (order : Order) (image : List ℕ) → faults_of image ≡ [] → has_order order image ≡ true → Flips order image
stays order image none same =
    let flip : flip_of order image ≡ image = rw same refl in
    record {
      head = ap head_of flip ∙ ap (λ (o : Order). record (head_of image) { order = o }) (sym (same_is order (head_of image).order same));
      file = ap file_of flip;
      long = ap length flip;
      sound = ap faults_of flip ∙ none;
      back = ap (flip_of (head_of image).order) flip ∙ rw (ap (λ (o : Order). same_order o (head_of image).order)
          (sym (same_is order (head_of image).order same)) ∙ same) refl;
    }

-- else all its pages are byte-swapped
turns : (order : Order) (image : List ℕ) → TurnsWhole image → has_order order image ≡ false → Flips order image
turns order image whole other =
    let flip : flip_of order image ≡ flipped image = rw other refl in
    let is : order ≡ turned (head_of image).order = other_is order (head_of image).order other in
    let there : has_order (head_of image).order (flipped image) ≡ false =
    ap (λ (head : Head). same_order (head_of image).order head.order) whole.head ∙ not_same (head_of image).order in
    record {
      head = ap head_of flip ∙ (whole.head ∙ ap (λ (o : Order). record (head_of image) { order = o }) (sym is));
      file = ap file_of flip ∙ whole.file;
      long = ap length flip ∙ whole.long;
      sound = ap faults_of flip ∙ whole.sound;
      back = ap (flip_of (head_of image).order) flip ∙ rw there whole.back;
    }

pub files_flip : FilesFlip
files_flip order image small none no_overlap =
    elim (has_order order image) as (λ b. has_order order image ≡ b → Flips order image) [
      | true ↦ λ same. stays order image none same
      | false ↦ λ other.
          let no_page : first_overlap (file_of image) ≡ None = let same : overlap_in order image ≡ first_overlap (file_of image) = rw other refl in sym same
          ∙ no_overlap in
          turns order image (image_turns image small none no_page) other
    ] refl

settings_by : (size : ℕ) (order other : Order) (fields : Metadata) → settings_of size order fields ≡ record (settings_of size other fields) { order = order }
settings_by size order other (BtreeFields meta) =
    elim (is_recno meta) as (λ recno. cond recno (recno_settings size order meta) (btree_settings size order meta)
    ≡ record (cond recno (recno_settings size other meta) (btree_settings size other meta)) { order = order }) [
      | true ↦ refl
      | false ↦ refl
    ]
settings_by size order other (HashFields meta) = refl
settings_by size order other (QueueFields meta) = refl

pub flipped_files_keep_databases : FlippedFilesKeepDatabases
flipped_files_keep_databases order image small none no_overlap =
    let flips : Flips order image = files_flip order image small none no_overlap in
    record {
      references = λ p. ap (λ (file : File). refs file p) flips.file;
      anchors = λ p. ap (λ (file : File). is_anchor file p) flips.file;
      reserves = λ p. ap (λ (file : File). is_reserve file p) flips.file;
      owners = λ p. ap (λ (file : File). owners file p) flips.file;
      databases = ap databases flips.file;
      lists = λ fields. ap (λ (file : File). list_of file fields) flips.file;
      settings = λ fields. ap (λ (head : Head). settings_of head.page_size head.order fields) flips.head
          ∙ settings_by (head_of image).page_size order (head_of image).order fields;
    }
