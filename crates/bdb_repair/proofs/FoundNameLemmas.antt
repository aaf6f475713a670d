-- The databases that are found are fit, and have names of their own.
use Rattle.std.proofs.Common.{◌≡◌, ℕ, Bool, true, false, cond, List, [], ◌∷◌, ◌++◌, length, map, Option, Some, None, refl, subst, inl, inr, ◌∙◌}
use Rattle.std.specs.Prelude.{◌==◌, ◌&&◌, ◌||◌, not, codes, decimal}
use Rattle.std.specs.List.{All, flat_map, fold, list_any}
use Rattle.std.specs.Option.{is_none, is_some, option_to_list, unwrap_or}
use Rattle.std.specs.Str.{bytes_eq}
use Rattle.std.proofs.lemmas.List.Elements.{All-append, All-cons, All-head, All-nil, All-tail}
use Rattle.std.proofs.lemmas.List.Folds.{list_any-append}
use Rattle.bdb_model.specs.of_format.Databases.{is_name}
use Rattle.bdb_model.specs.of_format.Terms.{BtreeFields, File, HashFields, Meta, Metadata, Page, less, page_at}
use Rattle.bdb_model.specs.of_text_format.declared.sections.Section.{Section}
use Rattle.bdb_model.specs.of_text_format.Reasons.{is_first, name_missing}
use Rattle.bdb_model.proofs.of_format.LessLemmas.{differ_back}
use Rattle.bdb_law_kept.specs.of_text.WrittenLaw.{AreBytes}
use Rattle.bdb_mkfile.specs.of_law_sections.Fit.{AreNamedBehind}
use Rattle.bdb_apart.specs.Found.{Found, entries, found_on, has_name, name_in, name_of, named_above, named_meta, pages_above, put_found, tree_fields, unnamed_above}
use Rattle.bdb_apart.specs.Found.{unnamed_meta, with_found}
use Rattle.bdb_apart.specs.Given.{FoundIn, in_image}
use Rattle.bdb_rescue.specs.Kept.{Reading, file_in}
use Rattle.bdb_repair.specs.Apart.{section_in}
use Rattle.bdb_repair.proofs.MetaFitLemmas.{IsFitMeta, table_fits, tree_fits}

-- Lists that are put together.

pub all_flat : {A B : Type 0} (P : B → Type 0) (f : A → List B) (xs : List A) → ((x : A) → All P (f x)) → All P (flat_map f xs)
all_flat P f [] each = All-nil P
all_flat P f (x ∷ xs) each = All-append P (f x) (flat_map f xs) (each x) (all_flat P f xs each)

-- Names.

-- a database with a name, whose metadata are fit
pub record IsNamedFit (db : Found) : Type 0 where
  pub name : List ℕ
  pub name_is : db.name ≡ Some name
  pub fields : IsFitMeta db.fields

-- the fields of metadata on a page are fit
on_page : (reading : Reading) (p : ℕ) (page : Page) → AreBytes reading.image → page_at (file_in reading) p ≡ page → All IsFitMeta (tree_fields page)
on_page reading p (Meta (BtreeFields meta)) bytes is =
    All-cons IsFitMeta (BtreeFields meta) [] (tree_fits reading p meta bytes is) (All-nil IsFitMeta)
on_page reading p (Meta (HashFields meta)) bytes is = All-cons IsFitMeta (HashFields meta) [] (table_fits reading p meta is) (All-nil IsFitMeta)
on_page reading p page bytes is = All-nil IsFitMeta

pub page_fits : (reading : Reading) (p : ℕ) → AreBytes reading.image → All IsFitMeta (tree_fields (page_at (file_in reading) p))
page_fits reading p bytes = on_page reading p (page_at (file_in reading) p) bytes refl

named_fit : (name : List ℕ) (p : ℕ) (all : List Metadata) → All IsFitMeta all
    → All IsNamedFit (map (λ fields. record { name = Some name; meta = p; fields = fields }) all)
named_fit name p [] fit = All-nil IsNamedFit
named_fit name p (fields ∷ all) fit =
    All-cons IsNamedFit (record { name = Some name; meta = p; fields = fields }) (map (λ it. record { name = Some name; meta = p; fields = it }) all)
    (record { name = name; name_is = refl; fields = All-head IsFitMeta fields all fit }) (named_fit name p all (All-tail IsFitMeta fields all fit))

found_fit : (reading : Reading) (name : List ℕ) (p : ℕ) → AreBytes reading.image → All IsNamedFit (found_on (file_in reading) name p)
found_fit reading name p bytes = named_fit name p (tree_fields (page_at (file_in reading) p)) (page_fits reading p bytes)

with_name : (reading : Reading) (p : ℕ) (name : Option (List ℕ)) → AreBytes reading.image
    → All IsNamedFit (flat_map (λ name. found_on (file_in reading) name p) (option_to_list name))
with_name reading p None bytes = All-nil IsNamedFit
with_name reading p (Some name) bytes =
    All-append IsNamedFit (found_on (file_in reading) name p) [] (found_fit reading name p bytes) (All-nil IsNamedFit)

without_name : (reading : Reading) (p : ℕ) (has : Bool) → AreBytes reading.image
    → All IsNamedFit (cond has [] (found_on (file_in reading) (codes "page " ++ decimal p) p))
without_name reading p true bytes = All-nil IsNamedFit
without_name reading p false bytes = found_fit reading (codes "page " ++ decimal p) p bytes

pub above_fit : (reading : Reading) → AreBytes reading.image → All IsNamedFit (named_above (file_in reading) ++ unnamed_above (file_in reading))
above_fit reading bytes =
    let file : File = file_in reading in
    let names : List (List ℕ × ℕ) = entries file in
    All-append IsNamedFit (named_above file) (unnamed_above file)
    (all_flat IsNamedFit (named_meta file names) (pages_above file) (λ p. with_name reading p (name_in p names) bytes))
    (all_flat IsNamedFit (unnamed_meta file names) (pages_above file) (λ p. without_name reading p (is_some (name_in p names)) bytes))

-- In their order.

all_put : (P : Found → Type 0) (dbs : List Found) (db : Found) → P db → All P dbs → All P (put_found dbs db)
all_put P [] db one all = All-cons P db [] one (All-nil P)
all_put P (other ∷ others) db one all =
    by_test (less (name_of db) (name_of other)) (all_put P others db one (All-tail P other others all))
  where
    by_test : (b : Bool) → All P (put_found others db) → All P (cond b (db ∷ other ∷ others) (other ∷ put_found others db))
    by_test true rest = All-cons P db (other ∷ others) one all
    by_test false rest = All-cons P other (put_found others db) (All-head P other others all) rest

all_with : (P : Found → Type 0) (dbs : List Found) (db : Found) → P db → All P dbs → All P (with_found dbs db)
all_with P dbs db one all = by_test (list_any (has_name (name_of db)) dbs)
  where
    by_test : (b : Bool) → All P (cond b dbs (put_found dbs db))
    by_test true = all
    by_test false = all_put P dbs db one all

pub all_found : (P : Found → Type 0) (dbs more : List Found) → All P dbs → All P more → All P (fold with_found dbs more)
all_found P dbs [] all rest = all
all_found P dbs (db ∷ more) all rest =
    all_found P (with_found dbs db) more (all_with P dbs db (All-head P db more rest) all) (All-tail P db more rest)

-- each has a name that none behind it has
abbrev pub AreApart : List Found → Type 0
AreApart [] = Unit {0}
AreApart (db ∷ dbs) = (list_any (has_name (name_of db)) dbs ≡ false) × AreApart dbs

neither : (a b : Bool) → (a || b) ≡ false → (a ≡ false) × (b ≡ false)
neither true b none = absurd (cc none)
neither false b none = (refl, none)

nor : (a b : Bool) → a ≡ false → b ≡ false → (a || b) ≡ false
nor true b first second = first
nor false b first second = second

any_put : (test : Found → Bool) (dbs : List Found) (db : Found) → test db ≡ false → list_any test dbs ≡ false → list_any test (put_found dbs db) ≡ false
any_put test [] db one none = nor (test db) false one refl
any_put test (other ∷ others) db one none =
    let parts = neither (test other) (list_any test others) none in
    by_test (less (name_of db) (name_of other)) parts.0 (any_put test others db one parts.1)
  where
    by_test : (b : Bool) → test other ≡ false → list_any test (put_found others db) ≡ false
        → list_any test (cond b (db ∷ other ∷ others) (other ∷ put_found others db)) ≡ false
    by_test true first rest = nor (test db) (list_any test (other ∷ others)) one none
    by_test false first rest = nor (test other) (list_any test (put_found others db)) first rest

put_apart : (dbs : List Found) (db : Found) → list_any (has_name (name_of db)) dbs ≡ false → AreApart dbs → AreApart (put_found dbs db)
put_apart [] db new apart = (refl, tt)
put_apart (other ∷ others) db new apart =
    let parts = neither (bytes_eq (name_of db) (name_of other)) (list_any (has_name (name_of db)) others) new in
    by_test (less (name_of db) (name_of other)) parts.0 (put_apart others db parts.1 apart.1)
  where
    by_test : (b : Bool) → bytes_eq (name_of db) (name_of other) ≡ false → AreApart (put_found others db)
        → AreApart (cond b (db ∷ other ∷ others) (other ∷ put_found others db))
    by_test true differ rest = (new, apart)
    by_test false differ rest = (any_put (has_name (name_of other)) others db (differ_back (name_of db) (name_of other) differ) apart.0, rest)

with_apart : (dbs : List Found) (db : Found) → AreApart dbs → AreApart (with_found dbs db)
with_apart dbs db apart = by_test (list_any (has_name (name_of db)) dbs) refl
  where
    by_test : (b : Bool) → list_any (has_name (name_of db)) dbs ≡ b → AreApart (cond b dbs (put_found dbs db))
    by_test true has = apart
    by_test false new = put_apart dbs db new apart

pub found_apart : (dbs more : List Found) → AreApart dbs → AreApart (fold with_found dbs more)
found_apart dbs [] apart = apart
found_apart dbs (db ∷ more) apart = found_apart (with_found dbs db) more (with_apart dbs db apart)

-- Sections with these names.

-- none of these has a name
abbrev AreNew : List (Option (List ℕ)) → List Found → Type 0
AreNew names dbs = All (λ (db : Found). list_any (is_name db.name) names ≡ false) dbs

differ_so : (one two : Option (List ℕ)) (n m : List ℕ) → one ≡ Some n → two ≡ Some m → bytes_eq (unwrap_or one []) (unwrap_or two []) ≡ false
    → is_name two one ≡ false
differ_so (Some one) (Some two) n m first second differ = differ_back one two differ
differ_so (Some one) None n m first second differ = absurd (cc second)
differ_so None two n m first second differ = absurd (cc first)

still_new : (names : List (Option (List ℕ))) (db : Found) (name : List ℕ) (dbs : List Found) → db.name ≡ Some name → All IsNamedFit dbs
    → list_any (has_name (name_of db)) dbs ≡ false → AreNew names dbs → AreNew (names ++ (db.name ∷ [])) dbs
still_new names db name [] is named none new = All-nil (λ (it : Found). list_any (is_name it.name) (names ++ (db.name ∷ [])) ≡ false)
still_new names db name (other ∷ others) is named none new =
    let P : Found → Type 0 = λ (it : Found). list_any (is_name it.name) names ≡ false in
    let parts = neither (bytes_eq (name_of db) (name_of other)) (list_any (has_name (name_of db)) others) none in
    let here : IsNamedFit other = All-head IsNamedFit other others named in
    let differ : is_name other.name db.name ≡ false = differ_so db.name other.name name here.name is here.name_is parts.0 in
    All-cons (λ (it : Found). list_any (is_name it.name) (names ++ (db.name ∷ [])) ≡ false) other others
    (list_any-append (is_name other.name) names (db.name ∷ [])
    ∙ nor (list_any (is_name other.name) names) (is_name other.name db.name || false) (All-head P other others new) (nor (is_name other.name db.name) false differ refl))
    (still_new names db name others is (All-tail IsNamedFit other others named) parts.1 (All-tail P other others new))

no_and : (b : Bool) → (b && false) ≡ false
no_and true = refl
no_and false = refl

not_missing : (names : List (Option (List ℕ))) (name : Option (List ℕ)) (given : List ℕ) → name ≡ Some given → list_any is_none names ≡ false
    → name_missing names name ≡ false
not_missing names name given is some = rw (is, some) (no_and (not (is_first names)))

more_some : (names : List (Option (List ℕ))) (name : Option (List ℕ)) (given : List ℕ) → name ≡ Some given → list_any is_none names ≡ false
    → list_any is_none (names ++ (name ∷ [])) ≡ false
more_some names name given is some = list_any-append is_none names (name ∷ []) ∙ rw (some, is) refl

behind : (reading : Reading) (names : List (Option (List ℕ))) (dbs : List Found) → list_any is_none names ≡ false → All IsNamedFit dbs → AreApart dbs
    → AreNew names dbs → AreNamedBehind names (map section_in (map (in_image reading) dbs))
behind reading names [] some named apart new = tt
behind reading names (db ∷ dbs) some named apart new =
    let P : Found → Type 0 = λ (it : Found). list_any (is_name it.name) names ≡ false in
    let here : IsNamedFit db = All-head IsNamedFit db dbs named in (
      not_missing names db.name here.name here.name_is some,
      All-head P db dbs new,
      behind reading (names ++ (db.name ∷ [])) dbs (more_some names db.name here.name here.name_is some) (All-tail IsNamedFit db dbs named) apart.1
          (still_new names db here.name dbs here.name_is (All-tail IsNamedFit db dbs named) apart.0 (All-tail P db dbs new)),
    )

all_new : (dbs : List Found) → AreNew [] dbs
all_new [] = All-nil (λ (it : Found). list_any (is_name it.name) [] ≡ false)
all_new (db ∷ dbs) = All-cons (λ (it : Found). list_any (is_name it.name) [] ≡ false) db dbs refl (all_new dbs)

-- each section has a name of its own
pub named_apart : (reading : Reading) (dbs : List Found) → All IsNamedFit dbs → AreApart dbs → AreNamedBehind [] (map section_in (map (in_image reading) dbs))
named_apart reading dbs named apart = behind reading [] dbs refl named apart (all_new dbs)
