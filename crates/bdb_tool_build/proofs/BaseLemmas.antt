-- The base that a sound image is, and its databases by their names.
use Rattle.std.proofs.Common.{◌≡◌, ℕ, ◌+◌, ◌^◌, ◌<◌, ◌≤◌, Bool, true, false, cond, List, [], ◌∷◌, ◌++◌, length, get_or, map, suc, take, Option, Some, None}
use Rattle.std.proofs.Common.{refl, sym, ◌∙◌, ap, is_some, option_map, subst}
use Rattle.std.proofs.lemmas.List.{length-map, map-append, map_more}
use Rattle.std.proofs.lemmas.List.Elements.{All-cons, All-nil}
use Rattle.std.proofs.lemmas.Option.{slice_get-get_or, slice_get-map}
use Rattle.bdb_model.specs.of_format.declared.metadata.BtreeMeta.{BtreeMeta}
use Rattle.bdb_model.specs.of_format.Terms.{BtreeFields, DupLeaf, Free, Hash, HashFields, Internal, Leaf, Meta, Metadata, NoType, Overflow, Page, Queue}
use Rattle.bdb_model.specs.of_format.Terms.{QueueFields, RecnoInternal, RecnoLeaf, Zero, databases, file_of, master_in, names_databases}
use Rattle.bdb_model.specs.of_format.Terms.{Database, list_of, verdict_of}
use Rattle.bdb_model.specs.of_text_format.declared.sections.Section.{Section}
use Rattle.bdb_file.specs.of_image.Metas.{meta_in}
use Rattle.bdb_file.specs.of_databases.Named.{database_at, no_database}
use Rattle.bdb_onto.specs.of_text.WrittenLaw.{AreBytes}
use Rattle.bdb_onto.specs.Bare.{bare, bare_of}
use Rattle.bdb_onto.specs.Bases.{IsBase, base_of, base_section, text_pair}
use Rattle.bdb_onto.specs.Onto.{pairs_from, partner_of}
use Rattle.bdb_onto.specs.Search.{IsPartnerAt, at_place}
use Rattle.bdb_onto.specs.declared.base.Base.{Base}
use Rattle.bdb_onto.proofs.BareLemmas.{partner_placed}
use Rattle.bdb_onto.proofs.SearchLemmas.{has_names}

abbrev pub is_master : Option Metadata → Bool
is_master (Some (BtreeFields meta)) = names_databases meta
is_master (Some (HashFields meta)) = false
is_master (Some (QueueFields meta)) = false
is_master None = false

has : (b : Bool) (meta : BtreeMeta) → is_some (cond b (Some meta) None) ≡ b
has true meta = refl
has false meta = refl

of_page : (page : Page) → is_some (master_in page) ≡ is_master (meta_in page)
of_page (Meta (BtreeFields meta)) = has (names_databases meta) meta
of_page (Meta (HashFields meta)) = refl
of_page (Meta (QueueFields meta)) = refl
of_page Zero = refl
of_page (Free header) = refl
of_page (Hash items) = refl
of_page (Internal items) = refl
of_page (RecnoInternal items) = refl
of_page (Leaf items) = refl
of_page (RecnoLeaf items) = refl
of_page (DupLeaf items) = refl
of_page (Overflow header bytes) = refl
of_page (Queue number records) = refl
of_page NoType = refl

pub master_of : (page : Page) (fields : Option Metadata) → fields ≡ meta_in page → is_master fields ≡ is_some (master_in page)
master_of page fields is = ap is_master is ∙ sym (of_page page)

-- the database at a place without its pairs, behind those before it
pub more_bare : (image : List ℕ) (all : List Section) (i : ℕ) (section : Section) → i < length (databases (file_of image))
    → all ≡ map bare (map (base_section image) (take i (databases (file_of image)))) → section ≡ bare (base_section image (database_at (file_of image) i))
    → all ++ (section ∷ []) ≡ map bare (map (base_section image) (take (i + 1) (databases (file_of image))))
more_bare image all i section within so_far is =
    rw (so_far, is)
    (sym (ap (map bare) (map_more (base_section image) (databases (file_of image)) i no_database within)
    ∙ map-append bare (map (base_section image) (take i (databases (file_of image)))) (base_section image (database_at (file_of image) i) ∷ [])))

pub all_bytes : (bytes : List ℕ) → ((i : ℕ) → get_or bytes i 0 < 256) → AreBytes bytes
all_bytes [] fits = All-nil (λ (byte : ℕ). byte < 256)
all_bytes (byte ∷ bytes) fits = All-cons (λ (b : ℕ). b < 256) byte bytes (fits 0) (all_bytes bytes (λ i. fits (suc i)))

-- the base that an image is, which is sound
pub is_base : (image : List ℕ) → length image ≤ 2 ^ 30 → verdict_of image ≡ None → AreBytes image → IsBase (base_of image)
is_base image size sound bytes = record { image = image; sound = record { size = size; sound = sound }; bytes = bytes; are = refl }

-- The database that a section is loaded onto, which is sought in the base without its pairs.

pub placed_within : (image : List ℕ) (base : Base) (place : ℕ) → base ≡ bare_of (base_of image) → place < length base.databases
    → place < length (databases (file_of image))
placed_within image base place is within =
    subst (λ n. place < n)
    (ap (λ (b : Base). length b.databases) is
    ∙ (length-map (map (base_section image) (databases (file_of image))) bare ∙ length-map (databases (file_of image)) (base_section image))) within

in_base : (image : List ℕ) (base : Base) (section : Section) (place : Option ℕ) → IsBase (base_of image) → base ≡ bare_of (base_of image)
    → IsPartnerAt base section place → at_place (map (base_section image) (databases (file_of image))) place ≡ partner_of (base_of image) section
in_base image base section place is_base is at =
    partner_placed (base_of image) section place (has_names (base_of image) is_base) (subst (λ b. IsPartnerAt b section place) is at)

pub partner_here : (image : List ℕ) (base : Base) (section : Section) (place : ℕ) → IsBase (base_of image) → base ≡ bare_of (base_of image)
    → IsPartnerAt base section (Some place) → place < length (databases (file_of image))
    → map text_pair (list_of (file_of image) (database_at (file_of image) place).fields) ≡ pairs_from (partner_of (base_of image) section)
partner_here image base section place is_base is at within =
    let all : List Database = databases (file_of image) in
    ap pairs_from
    (sym (slice_get-map (base_section image) all place ∙ ap (option_map (base_section image)) (slice_get-get_or all place no_database within))
    ∙ in_base image base section (Some place) is_base is at)

pub no_partner_here : (image : List ℕ) (base : Base) (section : Section) → IsBase (base_of image) → base ≡ bare_of (base_of image)
    → IsPartnerAt base section None → [] ≡ pairs_from (partner_of (base_of image) section)
no_partner_here image base section is_base is at = ap pairs_from (in_base image base section None is_base is at)
