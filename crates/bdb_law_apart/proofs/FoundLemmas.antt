-- The databases that are found in a sound file are those that it has.
use Rattle.std.proofs.Common.{◌≡◌, ◌≢◌, ℕ, ◌-◌, ◌<◌, ◌≤◌, Bool, true, false, cond, List, [], ◌∷◌, ◌++◌, map, length, append-nil, arith, refl, sym}
use Rattle.std.proofs.Common.{◌∙◌, ap}
use Rattle.std.proofs.Common.{subst, inl, inr, true≢false}
use Rattle.std.specs.Prelude.{Option, Some, None, ◌==◌, nat_lt, not, codes, decimal}
use Rattle.std.specs.List.{Contains, fold, list_any}
use Rattle.std.specs.Option.{is_some, option_to_list, unwrap_or}
use Rattle.std.proofs.lemmas.Bool.{cases_eq, eq-eqb, eqb-true}
use Rattle.std.proofs.lemmas.Option.{same_Some}
use Rattle.bdb_apart.specs.of_format.declared.metadata.BtreeMeta.{BtreeMeta}
use Rattle.bdb_apart.specs.of_format.declared.metadata.FileKind.{FileKind}
use Rattle.bdb_apart.specs.of_format.declared.metadata.FileKind.TheVariants.{Btree, Hash as HashFile, Queue}
use Rattle.bdb_apart.specs.of_format.Terms.{BtreeFields, File, HashFields, Meta, Metadata, Page, QueueFields, StoredPair, byte_at, file_of, head_of, is_meta}
use Rattle.bdb_apart.specs.of_format.Terms.{is_page, less, master_in, master_pairs, named_by, names_databases, naming, page_at, page_bytes, pairs_under}
use Rattle.bdb_apart.specs.of_format.Terms.{type_of}
use Rattle.bdb_apart.specs.of_rescue.Kept.{Reading}
use Rattle.bdb_apart.specs.Found.{Found, entries, found, found_beside, found_on, has_name, is_alone, name_in, name_of, named_above, named_meta}
use Rattle.bdb_apart.specs.Found.{only_found, pages_above, put_found, tree_fields, unnamed_above, unnamed_meta, with_found}
use Rattle.bdb_apart.specs.Given.{db_at}
use Rattle.bdb_apart.specs.Queues.{queue_in, queue_on}
use Rattle.bdb_apart.proofs.KnownLemmas.{of_fold}
use Rattle.bdb_apart.proofs.LeftLemmas.{at_page}
use Rattle.bdb_apart.proofs.MetaLemmas.{found_member}
use Rattle.bdb_law_homes.proofs.of_format.ListLemmas.{any_member, only_member}
use Rattle.bdb_law_homes.proofs.of_format.LessLemmas.{eq_same}
use Rattle.bdb_law_homes.proofs.of_format.MemberLemmas.{first_member, in_flat_map, in_map, in_range, is_empty, later_member, member_cases, no_member, of_filter}
use Rattle.bdb_law_homes.proofs.of_format.MemberLemmas.{of_flat_map, of_map, of_range}
use Rattle.bdb_law_homes.proofs.of_image.HeldLemmas.{own_type}
use Rattle.bdb_law_homes.proofs.of_image.FirstLemmas.{formed_page}
use Rattle.bdb_law_homes.proofs.of_law_sums.MetaLemmas.{named_once}
use Rattle.bdb_law_homes.proofs.of_law_sums.ReadLemmas.{no_queue_meta}
use Rattle.bdb_law_homes.specs.of_law_whole.Guessed.{guessed}
use Rattle.bdb_apart.specs.Read.{read}
use Rattle.bdb_law_apart.proofs.EntryLemmas.{HasMaster, in_entries, of_entries}
use Rattle.bdb_law_apart.proofs.MasterLemmas.{Names, one_key, page_of}
use Rattle.bdb_law_apart.proofs.SeenLemmas.{IsSeen, below_count, inside, inside_file, page_is}

-- Page 0 is no queue.

not_queue : (kind : FileKind) → kind ≢ Queue → (type_of kind == type_of Queue) ≡ false
not_queue Btree other = refl
not_queue HashFile other = refl
not_queue Queue other = absurd (other refl)

no_queue_on : (reading : Reading) (page : List ℕ) → (byte_at page 25 == type_of Queue) ≡ false → queue_on reading.guess.order page ≡ None
no_queue_on reading page other = rw other refl

pub no_queue : (image : List ℕ) → IsSeen image → queue_in (read image) ≡ None
unfolding queue_in
no_queue image is =
    let bytes : List ℕ = page_bytes (head_of image) image 0 in
    let byte : byte_at bytes 25 ≡ type_of (head_of image).kind =
    own_type (head_of image) bytes (formed_page image 0 is.sound.forest.formed.form (omega arith)) in
    let none : queue_on (head_of image).order bytes ≡ None =
    no_queue_on (read image) bytes (ap (λ n. n == type_of Queue) byte ∙ not_queue (head_of image).kind is.whole.kind) in
    either (nat_lt 0 (guessed image).count) none
  where
    either : (b : Bool) → queue_on (head_of image).order (page_bytes (head_of image) image 0) ≡ None
        → cond b (queue_on (head_of image).order (page_bytes (head_of image) image 0)) None ≡ None
    either true none = none
    either false none = refl

-- Names by entries.

name_member : (p : ℕ) (es : List (List ℕ × ℕ)) (name : List ℕ) → name_in p es ≡ Some name → Contains es (name, p)
name_member p [] name is = absurd cc
name_member p ((key, q) ∷ es) name is = by_page (q == p) refl is (name_member p es name)
  where
    by_page : (b : Bool) → (q == p) ≡ b → cond b (Some key) (name_in p es) ≡ Some name → (name_in p es ≡ Some name → Contains es (name, p))
        → Contains ((key, q) ∷ es) (name, p)
    by_page true here is rest =
        let page : q ≡ p = eqb-true q p here in
        let same : key ≡ name = same_Some key name is in
        subst (λ n. Contains ((key, q) ∷ es) (name, n)) page (subst (λ k. Contains ((key, q) ∷ es) (k, q)) same (first_member (key, q) es))
    by_page false other is rest = later_member (key, q) es (name, p) (rest is)

name_there : (p : ℕ) (es : List (List ℕ × ℕ)) (key : List ℕ) → Contains es (key, p) → is_some (name_in p es) ≡ true
name_there p [] key at = absurd (no_member [] (key, p) refl at)
name_there p ((other, q) ∷ es) key at = by_page (q == p) refl (name_there p es key)
  where
    by_page : (b : Bool) → (q == p) ≡ b → (Contains es (key, p) → is_some (name_in p es) ≡ true) → is_some (cond b (Some other) (name_in p es)) ≡ true
    by_page true here rest = refl
    by_page false apart rest = elim (member_cases (other, q) es (key, p) at) [
      | inl same ↦
          let page : q ≡ p = ap (λ (e : List ℕ × ℕ). e.1) same in
          absurd (true≢false (sym (eq-eqb q p page) ∙ apart))
      | inr later ↦ rest later
    ]

some_name : (o : Option (List ℕ)) → is_some o ≡ true → (name : List ℕ) × (o ≡ Some name)
some_name None is = absurd cc
some_name (Some name) is = (name, refl)

-- Databases in the order of their names.

stays_put : (dbs : List Found) (db x : Found) → Contains dbs x → Contains (put_found dbs db) x
stays_put [] db x at = absurd (no_member [] x refl at)
stays_put (other ∷ others) db x at = by_order (less (name_of db) (name_of other)) (λ later. stays_put others db x later)
  where
    by_order : (b : Bool) → (Contains others x → Contains (put_found others db) x)
        → Contains (cond b (db ∷ other ∷ others) (other ∷ put_found others db)) x
    by_order true rest = later_member db (other ∷ others) x at
    by_order false rest = elim (member_cases other others x at) [
      | inl same ↦ subst (Contains (other ∷ put_found others db)) same (first_member other (put_found others db))
      | inr later ↦ later_member other (put_found others db) x (rest later)
    ]

is_put : (dbs : List Found) (db : Found) → Contains (put_found dbs db) db
is_put [] db = first_member db []
is_put (other ∷ others) db = by_order (less (name_of db) (name_of other)) (is_put others db)
  where
    by_order : (b : Bool) → Contains (put_found others db) db → Contains (cond b (db ∷ other ∷ others) (other ∷ put_found others db)) db
    by_order true rest = first_member db (other ∷ others)
    by_order false rest = later_member other (put_found others db) db rest

stays_with : (dbs : List Found) (db x : Found) → Contains dbs x → Contains (with_found dbs db) x
stays_with dbs db x at = by_name (list_any (has_name (name_of db)) dbs)
  where
    by_name : (b : Bool) → Contains (cond b dbs (put_found dbs db)) x
    by_name true = at
    by_name false = stays_put dbs db x at

stays_folded : (more dbs : List Found) (x : Found) → Contains dbs x → Contains (fold with_found dbs more) x
stays_folded [] dbs x at = at
stays_folded (db ∷ more) dbs x at = stays_folded more (with_found dbs db) x (stays_with dbs db x at)

-- one has this name
record HasNamed (dbs : List Found) (db : Found) : Type 0 where
  it : Found
  among : Contains dbs it
  name : name_of db ≡ name_of it

named_with : (dbs : List Found) (db : Found) → HasNamed (with_found dbs db) db
named_with dbs db = by_name (list_any (has_name (name_of db)) dbs) refl
  where
    by_name : (b : Bool) → list_any (has_name (name_of db)) dbs ≡ b → HasNamed (cond b dbs (put_found dbs db)) db
    by_name true some =
        let found = any_member (has_name (name_of db)) dbs some in
        record { it = found.0; among = found.1; name = eq_same (name_of db) (name_of found.0) found.2 }
    by_name false none = record { it = db; among = is_put dbs db; name = refl }

-- each that is put is there, or another of its name
named_folded : (more dbs : List Found) (db : Found) → Contains more db → HasNamed (fold with_found dbs more) db
named_folded [] dbs db at = absurd (no_member [] db refl at)
named_folded (first ∷ more) dbs db at = elim (member_cases first more db at) [
  | inl same ↦
      let here : HasNamed (with_found dbs first) first = named_with dbs first in
      record {
        it = here.it;
        among = stays_folded more (with_found dbs first) here.it here.among;
        name = ap name_of (sym same) ∙ here.name;
      }
  | inr later ↦ named_folded more (with_found dbs first) db later
]

-- Metadata.

pub fields_meta : (page : Page) (fields : Metadata) → Contains (tree_fields page) fields → page ≡ Meta fields
fields_meta (Meta (BtreeFields tree)) fields at = ap Meta (only_member (BtreeFields tree) fields at)
fields_meta (Meta (HashFields table)) fields at = ap Meta (only_member (HashFields table) fields at)
fields_meta (Meta (QueueFields queue)) fields at = absurd (no_member [] fields refl at)
fields_meta page fields at = absurd (no_member [] fields refl at)

-- metadata of a sound file is that of a tree or a table
pub meta_fields : (image : List ℕ) (p : ℕ) (fields : Metadata) → IsSeen image → page_at (file_of image) p ≡ Meta fields
    → Contains (tree_fields (Meta fields)) fields
meta_fields image p (BtreeFields tree) is page = first_member (BtreeFields tree) []
meta_fields image p (HashFields table) is page = first_member (HashFields table) []
meta_fields image p (QueueFields queue) is page =
    absurd
    (no_queue_meta image queue is.sound.forest is.sound.kind
    (record { page = p; inside = inside_file image is_meta p refl (ap is_meta page); is = page }))

first_of : {X : Type 0} (xs : List X) → length xs ≡ 1 → (x : X) × Contains xs x
first_of [] one = absurd (omega (arith, one))
first_of (x ∷ xs) one = (x, first_member x xs)

-- a pair of the master names it, where it isn't page 0
named_here : (image : List ℕ) (p : ℕ) (fields : Metadata) → IsSeen image → 1 ≤ p → page_at (file_of image) p ≡ Meta fields
    → (pair : StoredPair) × Contains (master_pairs (file_of image)) pair × (named_by (file_of image) pair.data_item ≡ Some p)
named_here image p fields is above page =
    let file : File = file_of image in
    let low : p ≤ file.last = inside_file image is_meta p refl (ap is_meta page) in
    let one = first_of (naming file p) (named_once file p is.sound.master low above (ap is_meta page)) in
    let kept = of_filter (λ (pair : StoredPair). is_page (named_by file pair.data_item) p) (master_pairs file) one.0 one.1 in
    (one.0, kept.0, names (named_by file one.0.data_item) kept.1)
  where
    names : (o : Option ℕ) → is_page o p ≡ true → o ≡ Some p
    names None is = absurd cc
    names (Some n) is = ap Some (eqb-true n p is)

-- Under a master.

-- a database that an entry names
pub record IsNamed (image : List ℕ) (db : Found) : Type 0 where
  pub key : List ℕ
  pub names : Names (file_of image) key db.meta
  pub name_is : db.name ≡ Some key
  pub page : page_at (file_of image) db.meta ≡ Meta db.fields

of_option : (o : Option (List ℕ)) (name : List ℕ) → Contains (option_to_list o) name → o ≡ Some name
of_option None name at = absurd (no_member [] name refl at)
of_option (Some other) name at = ap Some (only_member other name at)

of_named : (image : List ℕ) (meta : BtreeMeta) (db : Found) → HasMaster image meta → Contains (named_above (guessed image)) db → IsNamed image db
of_named image meta db has at =
    let g : File = guessed image in
    let page = of_flat_map (named_meta g (entries g)) (pages_above g) db at in
    let p : ℕ = page.0 in
    let name = of_flat_map (λ name. found_on g name p) (option_to_list (name_in p (entries g))) db page.2 in
    let key : List ℕ = name.0 in
    let fields = of_map (λ fields. record { name = Some key; meta = p; fields = fields }) (tree_fields (page_at g p)) db name.2 in
    let names : Names (file_of image) key p =
    of_entries image meta key p has (name_member p (entries g) key (of_option (name_in p (entries g)) key name.1)) in
    let low = page_of image names.pair p has.is names.among names.names in
    subst (IsNamed image) fields.2
    (record {
      key = key;
      names = names;
      name_is = refl;
      page = sym (page_is image p has.is low.1) ∙ fields_meta (page_at g p) fields.0 fields.1;
    })

none_unnamed : (image : List ℕ) (meta : BtreeMeta) → HasMaster image meta → unnamed_above (guessed image) ≡ []
none_unnamed image meta has = is_empty (unnamed_above g) (λ db at.
    let page = of_flat_map (unnamed_meta g (entries g)) (pages_above g) db at in
    let within = of_range 1 (g.count - 1) page.0 page.1 in
    by_name page.0 db within.0 (is_some (name_in page.0 (entries g))) refl page.2)
  where
    g : File
    g = guessed image

    by_name : (p : ℕ) (db : Found) → 1 ≤ p → (b : Bool) → is_some (name_in p (entries g)) ≡ b
        → Contains (cond b [] (found_on g (codes "page " ++ decimal p) p)) db → ⊥
    by_name p db above true some at = no_member [] db refl at
    by_name p db above false none at =
        let fields = of_map (λ fields. record { name = Some (codes "page " ++ decimal p); meta = p; fields = fields }) (tree_fields (page_at g p)) db at in
        let here : page_at g p ≡ Meta fields.0 = fields_meta (page_at g p) fields.0 fields.1 in
        let low : p ≤ (file_of image).last = inside image is_meta p has.is refl refl (ap is_meta here) in
        let pair = named_here image p fields.0 has.is above (sym (page_is image p has.is low) ∙ here) in
        true≢false (sym (name_there p (entries g) pair.0.key (in_entries image meta pair.0 p has pair.1 pair.2)) ∙ none)

pub is_no_other : (page : Page) (meta : BtreeMeta) → master_in page ≡ Some meta → is_alone page ≡ false
is_no_other (Meta (BtreeFields tree)) meta is = by_flag (names_databases tree) is
  where
    by_flag : (b : Bool) → cond b (Some tree) None ≡ Some meta → not b ≡ false
    by_flag true is = refl
    by_flag false is = absurd cc
is_no_other page meta is = absurd cc

pub found_master : (image : List ℕ) (meta : BtreeMeta) → HasMaster image meta
    → found (read image) ≡ fold with_found [] (named_above (guessed image))
unfolding found
found_master image meta has =
    let g : File = guessed image in
    let other : is_alone (page_at g 0) ≡ false = ap is_alone (page_is image 0 has.is (omega arith)) ∙ is_no_other (page_at (file_of image) 0) meta has.master in
    ap (found_beside g) (no_queue image has.is)
    ∙ (ap (λ b. cond b (map only_found (tree_fields (page_at g 0))) (fold with_found [] (named_above g ++ unnamed_above g))) other
    ∙ ap (fold with_found []) (ap (λ dbs. named_above g ++ dbs) (none_unnamed image meta has) ∙ append-nil (named_above g)))

same_found : (a b : Found) → a.name ≡ b.name → a.meta ≡ b.meta → a.fields ≡ b.fields → a ≡ b
same_found a b name meta fields =
    ap (λ n. record { name = n; meta = a.meta; fields = a.fields }) name
    ∙ (ap (λ m. record { name = b.name; meta = m; fields = a.fields }) meta ∙ ap (λ f. record { name = b.name; meta = b.meta; fields = f }) fields)

pub same_fields : (page : Page) (a b : Metadata) → page ≡ Meta a → page ≡ Meta b → a ≡ b
same_fields page a b one other = let both : Meta a ≡ Meta b = sym one ∙ other in cc

pub found_named : (image : List ℕ) (meta : BtreeMeta) (db : Found) → HasMaster image meta → Contains (found (read image)) db
    → Contains (named_above (guessed image)) db × IsNamed image db
found_named image meta db has at =
    elim (of_fold [] (named_above (guessed image)) db (subst (λ dbs. Contains dbs db) (found_master image meta has) at)) [
      | inl named ↦ (named, of_named image meta db has named)
      | inr none ↦ absurd (no_member [] db refl none)
    ]

pub named_found : (image : List ℕ) (meta : BtreeMeta) (db : Found) → HasMaster image meta → Contains (named_above (guessed image)) db
    → Contains (found (read image)) db
named_found image meta db has at =
    let file : File = file_of image in
    let other : HasNamed (found (read image)) db =
    subst (λ dbs. HasNamed dbs db) (sym (found_master image meta has)) (named_folded (named_above (guessed image)) [] db at) in
    let one : IsNamed image db = of_named image meta db has at in
    let two : IsNamed image other.it = (found_named image meta other.it has other.among).1 in
    let names : one.key ≡ two.key = sym (ap (λ n. unwrap_or n []) one.name_is) ∙ (other.name ∙ ap (λ n. unwrap_or n []) two.name_is) in
    let page : db.meta ≡ other.it.meta =
    one_key image one.names.pair two.names.pair db.meta other.it.meta has.is one.names.among two.names.among
    (one.names.key_is ∙ (names ∙ sym two.names.key_is)) one.names.names two.names.names in
    let same : db ≡ other.it =
    same_found db other.it (one.name_is ∙ (ap Some names ∙ sym two.name_is)) page
    (same_fields (page_at file db.meta) db.fields other.it.fields one.page (ap (page_at file) page ∙ two.page)) in
    subst (Contains (found (read image))) (sym same) other.among

-- the database of a metadata page that the master names
pub record IsOn (image : List ℕ) (p : ℕ) (fields : Metadata) : Type 0 where
  pub db : Found
  pub among : Contains (found (read image)) db
  pub meta_is : db.meta ≡ p
  pub fields_are : db.fields ≡ fields

pub on_page : (image : List ℕ) (meta : BtreeMeta) (p : ℕ) (fields : Metadata) → HasMaster image meta → 1 ≤ p → page_at (file_of image) p ≡ Meta fields
    → IsOn image p fields
on_page image meta p fields has above page =
    let g : File = guessed image in
    let is : IsSeen image = has.is in
    let pair = named_here image p fields is above page in
    let low : p ≤ (file_of image).last = inside_file image is_meta p refl (ap is_meta page) in
    let some = some_name (name_in p (entries g)) (name_there p (entries g) pair.0.key (in_entries image meta pair.0 p has pair.1 pair.2)) in
    let db : Found = record { name = Some some.0; meta = p; fields = fields } in
    let there : Contains (tree_fields (page_at g p)) fields =
    subst (λ pg. Contains (tree_fields pg) fields) (sym (page_is image p is low ∙ page)) (meta_fields image p fields is page) in
    let here : Contains (found_on g some.0 p) db = in_map (λ fields. record { name = Some some.0; meta = p; fields = fields }) (tree_fields (page_at g p))
    fields there in
    let name : Contains (option_to_list (name_in p (entries g))) some.0 =
    subst (λ o. Contains (option_to_list o) some.0) (sym some.1) (first_member some.0 []) in
    let count : p < g.count = below_count image p is low in
    record {
      db = db;
      among = named_found image meta db has
          (in_flat_map (named_meta g (entries g)) (pages_above g) p db (in_range 1 (g.count - 1) p above (omega (arith, count)))
          (in_flat_map (λ name. found_on g name p) (option_to_list (name_in p (entries g))) some.0 db name here));
      meta_is = refl;
      fields_are = refl;
    }

-- Without a master.

-- there's no metadata but that on page 0
pub none_above : (image : List ℕ) (p : ℕ) (fields : Metadata) → IsSeen image → master_in (page_at (file_of image) 0) ≡ None
    → page_at (file_of image) p ≡ Meta fields → p ≡ 0
unfolding master_pairs
none_above image p fields is alone page = elim (cases_eq p 0) [
  | inl zero ↦ zero
  | inr other ↦
      let pair = named_here image p fields is (omega (arith, other)) page in
      absurd (no_member (master_pairs (file_of image)) pair.0 (ap (pairs_under (file_of image)) alone) pair.1)
]

is_single : (page : Page) → master_in page ≡ None → (fields : Metadata) → page ≡ Meta fields → Contains (tree_fields (Meta fields)) fields
    → (is_alone page ≡ true) × (tree_fields page ≡ fields ∷ [])
is_single (Meta (BtreeFields tree)) none fields page at = (by_flag (names_databases tree) none, list)
  where
    by_flag : (b : Bool) → cond b (Some tree) None ≡ None → not b ≡ true
    by_flag true is = absurd cc
    by_flag false is = refl

    list : BtreeFields tree ∷ [] ≡ fields ∷ []
    list = ap (λ f. f ∷ []) (same_fields (Meta (BtreeFields tree)) (BtreeFields tree) fields refl page)
is_single (Meta (HashFields table)) none fields page at =
    (refl, ap (λ f. f ∷ []) (same_fields (Meta (HashFields table)) (HashFields table) fields refl page))
is_single (Meta (QueueFields queue)) none fields page at =
    absurd (no_member [] fields refl (subst (λ pg. Contains (tree_fields pg) fields) (sym page) at))
is_single page none fields is at = absurd cc

pub found_alone : (image : List ℕ) (fields : Metadata) → IsSeen image → master_in (page_at (file_of image) 0) ≡ None
    → page_at (file_of image) 0 ≡ Meta fields → (is_alone (page_at (guessed image) 0) ≡ true) × (found (read image) ≡ only_found fields ∷ [])
unfolding found
found_alone image fields is none page =
    let g : File = guessed image in
    let same : page_at g 0 ≡ page_at (file_of image) 0 = page_is image 0 is (omega arith) in
    let one = is_single (page_at g 0) (ap master_in same ∙ none) fields (same ∙ page) (meta_fields image 0 fields is page) in (
      one.0,
      ap (found_beside g) (no_queue image is)
          ∙ (ap (λ b. cond b (map only_found (tree_fields (page_at g 0))) (fold with_found [] (named_above g ++ unnamed_above g))) one.0
          ∙ ap (map only_found) one.1),
    )

-- Any.

-- the database that is found with a metadata page
pub record IsFoundAt (image : List ℕ) (m : ℕ) (fields : Metadata) : Type 0 where
  pub db : Found
  pub at : db_at (found (read image)) (Some m) ≡ Some db
  pub among : Contains (found (read image)) db
  pub meta_is : db.meta ≡ m
  pub fields_are : db.fields ≡ fields

find_there : (dbs : List Found) (m : ℕ) (db : Found) → Contains dbs db → db.meta ≡ m → (x : Found) × (db_at dbs (Some m) ≡ Some x)
find_there [] m db at is = absurd (no_member [] db refl at)
find_there (first ∷ dbs) m db at is = by_meta (first.meta == m) refl (λ later. find_there dbs m db later is)
  where
    by_meta : (b : Bool) → (first.meta == m) ≡ b → (Contains dbs db → (x : Found) × (db_at dbs (Some m) ≡ Some x))
        → (x : Found) × (cond b (Some first) (db_at dbs (Some m)) ≡ Some x)
    by_meta true here rest = (first, refl)
    by_meta false other rest = elim (member_cases first dbs db at) [
      | inl same ↦ absurd (true≢false (sym (eq-eqb first.meta m (ap (λ (x : Found). x.meta) same ∙ is)) ∙ other))
      | inr later ↦ rest later
    ]

pub of_master_page : (image : List ℕ) (meta : BtreeMeta) (m : ℕ) (fields : Metadata) → HasMaster image meta → 1 ≤ m
    → page_at (file_of image) m ≡ Meta fields → IsFoundAt image m fields
of_master_page image meta m fields has above page =
    let file : File = file_of image in
    let on : IsOn image m fields = on_page image meta m fields has above page in
    let first = find_there (found (read image)) m on.db on.among on.meta_is in
    let there : Contains (found (read image)) first.0 = found_member (found (read image)) m first.0 first.1 in
    let page_same : first.0.meta ≡ m = eqb-true first.0.meta m (at_page (found (read image)) m first.0 first.1) in
    let named : IsNamed image first.0 = (found_named image meta first.0 has there).1 in
    record {
      db = first.0;
      at = first.1;
      among = there;
      meta_is = page_same;
      fields_are = same_fields (page_at file m) first.0.fields fields (ap (page_at file) (sym page_same) ∙ named.page) page;
    }

pub of_only_page : (image : List ℕ) (fields : Metadata) → IsSeen image → master_in (page_at (file_of image) 0) ≡ None
    → page_at (file_of image) 0 ≡ Meta fields → IsFoundAt image 0 fields
of_only_page image fields is none page =
    let all : found (read image) ≡ only_found fields ∷ [] = (found_alone image fields is none page).1 in
    record {
      db = only_found fields;
      at = ap (λ dbs. db_at dbs (Some 0)) all;
      among = subst (λ dbs. Contains dbs (only_found fields)) (sym all) (first_member (only_found fields) []);
      meta_is = refl;
      fields_are = refl;
    }
