-- What is answered of the databases that are found.
use Rattle.std.proofs.Common.{◌≡◌, ◌⊎◌, ℕ, ◌+◌, ◌≤◌, Bool, true, false, cond, List, [], ◌∷◌, ◌++◌, length, map, Option, Some, None, Result, Ok, Err, arith, refl, sym, ◌∙◌, ap, subst, inl, inr, ne_eqb}
use Rattle.std.specs.Prelude.{◌==◌, IfErr, IfOk, IsTrue, OnOk, nat_lt}
use Rattle.std.specs.List.{All, flat_map, fold}
use Rattle.std.proofs.lemmas.List.Elements.{All-cons, All-head, All-nil, All-tail}
use Rattle.bdb_model.specs.of_format.declared.metadata.QueueMeta.{QueueMeta}
use Rattle.bdb_model.specs.of_format.Terms.{BtreeFields, HashFields, Meta, Metadata, Page, QueueFields, is_page_size, page_at}
use Rattle.bdb_model.specs.of_text_format.declared.sections.Section.{Section}
use Rattle.bdb_law_kept.specs.of_text.WrittenLaw.{AreBytes}
use Rattle.bdb_mkfile.specs.Builds.{Builds, image_size}
use Rattle.bdb_mkfile.specs.Loading.{AreLoadable, IsLoadRefusal, loading_error, or_else, size_error}
use Rattle.bdb_mkfile.specs.of_law_sections.Fit.{AreNamedBehind, IsFitSection}
use Rattle.bdb_mkfile.proofs.of_law_sections.PairLemmas.{section_longer}
use Rattle.bdb_mkfile.specs.of_settle.LoadErrors.{load_error, page_size_in, section_errors, sooner}
use Rattle.bdb_mkfile.specs.of_settle.declared.load_error.LoadError.{LoadError}
use Rattle.bdb_mkfile.specs.of_settle.declared.load_error.LoadError.TheVariants.{TooLarge as TooLargeImage, Memory as MemoryForIt}
use Rattle.bdb_apart.specs.Found.{Found, found, found_beside, found_under, is_alone, named_above, only_found, tree_fields, unnamed_above, with_found}
use Rattle.bdb_apart.specs.Given.{in_image}
use Rattle.bdb_apart.specs.Queues.{queue_in}
use Rattle.bdb_rescue.specs.Kept.{Reading, file_in}
use Rattle.bdb_rescue.specs.of_survey.declared.guess.Guess.{Guess}
use Rattle.bdb_rescue.specs.declared.error.SalvageError.{SalvageError}
use Rattle.bdb_repair.specs.declared.error.RepairError.TheVariants.{NoMeta, Memory}
use Rattle.bdb_repair.specs.Apart.{AreBuilt, IsRepairedApart, apart_sections, section_in, sections_in}
use Rattle.bdb_repair.specs.Repairs.{may_come, repair_answer, repair_refusal}
use Rattle.bdb_repair.proofs.FoundNameLemmas.{IsNamedFit, above_fit, all_found, found_apart, named_apart, page_fits}
use Rattle.bdb_repair.proofs.GivenFitLemmas.{IsGoodSection, queue_good, section_good}
use Rattle.bdb_repair.proofs.MetaFitLemmas.{IsFitMeta, queue_fits}
use Rattle.bdb_repair.proofs.RepairLemmas.{IsReadBy, large_only, not_large, without_error}

-- Sections that are good.

all_longer : (least most : ℕ) (sections : List Section) → least ≤ most → All (IsFitSection least) sections → All (IsFitSection most) sections
all_longer least most [] low fit = All-nil (IsFitSection most)
all_longer least most (section ∷ sections) low fit =
    All-cons (IsFitSection most) section sections (section_longer least most section low (All-head (IsFitSection least) section sections fit))
    (all_longer least most sections low (All-tail (IsFitSection least) section sections fit))

all_fit : (size : ℕ) (alone : Bool) (sections : List Section) → All (IsGoodSection size alone) sections → (most : ℕ) × All (IsFitSection most) sections
all_fit size alone [] good = (0, All-nil (IsFitSection 0))
all_fit size alone (section ∷ sections) good =
    let here : IsGoodSection size alone section = All-head (IsGoodSection size alone) section sections good in
    let rest = all_fit size alone sections (All-tail (IsGoodSection size alone) section sections good) in (
      here.most + rest.0,
      All-cons (IsFitSection (here.most + rest.0)) section sections (section_longer here.most (here.most + rest.0) section (omega arith) here.fit)
          (all_longer rest.0 (here.most + rest.0) sections (omega arith) rest.1),
    )

no_errors : (size : ℕ) (alone : Bool) (sections : List Section) → All (IsGoodSection size alone) sections → flat_map (section_errors size alone) sections ≡ []
no_errors size alone [] good = refl
no_errors size alone (section ∷ sections) good =
    let here : IsGoodSection size alone section = All-head (IsGoodSection size alone) section sections good in
    rw (here.errors) (no_errors size alone sections (All-tail (IsGoodSection size alone) section sections good))

-- sections that can be loaded, and have no error
record AreFit (sections : List Section) : Type 0 where
  each : All (IsGoodSection (page_size_in sections) (length sections == 1)) sections
  names : AreNamedBehind [] sections

loadable : (sections : List Section) → (length sections == 0) ≡ false → AreFit sections → AreLoadable sections
loadable sections some fit =
    let all = all_fit (page_size_in sections) (length sections == 1) sections fit.each in
    record { most = all.0; fit = record { some = some; each = all.1; names = fit.names } }

without_errors : (sections : List Section) → AreFit sections → load_error sections ≡ None
without_errors sections fit = ap (fold sooner None) (no_errors (page_size_in sections) (length sections == 1) sections fit.each)

-- What is found.

trees_good : (reading : Reading) (size : ℕ) (alone : Bool) (dbs : List Found) → IsTrue (is_page_size reading.guess.page_size) → All IsNamedFit dbs
    → All (IsGoodSection size alone) (map section_in (map (in_image reading) dbs))
trees_good reading size alone [] legal all = All-nil (IsGoodSection size alone)
trees_good reading size alone (db ∷ dbs) legal all =
    All-cons (IsGoodSection size alone) (section_in (in_image reading db)) (map section_in (map (in_image reading) dbs))
    (section_good size alone (in_image reading db) legal (All-head IsNamedFit db dbs all).fields)
    (trees_good reading size alone dbs legal (All-tail IsNamedFit db dbs all))

-- those that entries name, and those by their pages
named_found : (reading : Reading) → IsTrue (is_page_size reading.guess.page_size) → AreBytes reading.image
    → AreFit (map section_in (map (in_image reading) (fold with_found [] (named_above (file_in reading) ++ unnamed_above (file_in reading)))))
named_found reading legal bytes =
    let more : List Found = named_above (file_in reading) ++ unnamed_above (file_in reading) in
    let dbs : List Found = fold with_found [] more in
    let all : All IsNamedFit dbs = all_found IsNamedFit [] more (All-nil IsNamedFit) (above_fit reading bytes) in
    let sections : List Section = map section_in (map (in_image reading) dbs) in
    record {
      each = trees_good reading (page_size_in sections) (length sections == 1) dbs legal all;
      names = named_apart reading dbs all (found_apart [] more tt);
    }

only_one : (reading : Reading) (fields : Metadata) → IsTrue (is_page_size reading.guess.page_size) → IsFitMeta fields
    → AreFit (section_in (in_image reading (only_found fields)) ∷ [])
only_one reading fields legal fit =
    let section : Section = section_in (in_image reading (only_found fields)) in
    let size : ℕ = page_size_in (section ∷ []) in
    record {
      each =
          All-cons (IsGoodSection size true) section [] (section_good size true (in_image reading (only_found fields)) legal fit)
          (All-nil (IsGoodSection size true));
      names = (refl, refl, tt);
    }

no_section : AreFit []
no_section = record { each = All-nil (IsGoodSection 0 false); names = tt }

alone_found : (reading : Reading) (page : Page) → IsTrue (is_page_size reading.guess.page_size) → All IsFitMeta (tree_fields page)
    → AreFit (map section_in (map (in_image reading) (map only_found (tree_fields page))))
alone_found reading (Meta (BtreeFields meta)) legal fit = only_one reading (BtreeFields meta) legal (All-head IsFitMeta (BtreeFields meta) [] fit)
alone_found reading (Meta (HashFields meta)) legal fit = only_one reading (HashFields meta) legal (All-head IsFitMeta (HashFields meta) [] fit)
alone_found reading page legal fit = no_section

under_fit : (reading : Reading) → IsTrue (is_page_size reading.guess.page_size) → AreBytes reading.image
    → AreFit (map section_in (map (in_image reading) (found_under (file_in reading) (page_at (file_in reading) 0))))
under_fit reading legal bytes = by_test (is_alone (page_at (file_in reading) 0))
  where
    by_test : (b : Bool) → AreFit (map section_in (map (in_image reading) (cond b (map only_found (tree_fields (page_at (file_in reading) 0)))
        (fold with_found [] (named_above (file_in reading) ++ unnamed_above (file_in reading))))))
    by_test true = alone_found reading (page_at (file_in reading) 0) legal (page_fits reading 0 bytes)
    by_test false = named_found reading legal bytes

queue_found : (reading : Reading) (meta : QueueMeta) → IsTrue (is_page_size reading.guess.page_size) → AreBytes reading.image → queue_in reading ≡ Some meta
    → AreFit (section_in (in_image reading (only_found (QueueFields meta))) ∷ [])
queue_found reading meta legal bytes is =
    let section : Section = section_in (in_image reading (only_found (QueueFields meta))) in
    record {
      each =
          All-cons (IsGoodSection reading.guess.page_size true) section [] (queue_good reading meta legal (queue_fits reading meta bytes legal is))
          (All-nil (IsGoodSection reading.guess.page_size true));
      names = (refl, refl, tt);
    }

beside_fit : (reading : Reading) (queue : Option QueueMeta) → IsTrue (is_page_size reading.guess.page_size) → AreBytes reading.image → queue_in reading ≡ queue
    → AreFit (map section_in (map (in_image reading) (found_beside (file_in reading) queue)))
beside_fit reading (Some meta) legal bytes is = queue_found reading meta legal bytes is
beside_fit reading None legal bytes is = under_fit reading legal bytes

found_fit : (reading : Reading) → IsTrue (is_page_size reading.guess.page_size) → AreBytes reading.image → AreFit (sections_in reading)
unfolding found
found_fit reading legal bytes = beside_fit reading (queue_in reading) legal bytes refl

-- Loading them.

pub found_loadable : (reading : Reading) (sections : List Section) → is_page_size reading.guess.page_size ≡ true → AreBytes reading.image
    → sections ≡ sections_in reading → (length sections == 0) ≡ false → AreLoadable sections
found_loadable reading sections legal bytes are some = loadable sections some (subst AreFit (sym are) (found_fit reading legal bytes))

no_error : (reading : Reading) (sections : List Section) → is_page_size reading.guess.page_size ≡ true → AreBytes reading.image → sections ≡ sections_in reading
    → load_error sections ≡ None
no_error reading sections legal bytes are = without_errors sections (subst AreFit (sym are) (found_fit reading legal bytes))

refusal : (max : ℕ) (sections : List Section) (error : LoadError) → load_error sections ≡ None → IsLoadRefusal max sections error
    → (error ≡ MemoryForIt) ⊎ ((nat_lt max (image_size sections) ≡ true) × (error ≡ TooLargeImage))
refusal max sections error none refused =
    elim (without_error (load_error sections) (size_error max sections) error none refused) [
      | inl memory ↦ inl memory
      | inr large ↦ inr (large_only (nat_lt max (image_size sections)) error large)
    ]

may : (max : ℕ) (sections : List Section) (loaded : Result (List ℕ) LoadError) → load_error sections ≡ None → IfErr loaded (IsLoadRefusal max sections)
    → IfErr loaded (λ error. IsTrue (may_come error))
may max sections (Ok built) none refused = tt
may max sections (Err error) none refused =
    elim (refusal max sections error none refused) [
      | inl memory ↦ ap may_come memory
      | inr large ↦ ap may_come large.1
    ]

pub found_may_come : (max : ℕ) (reading : Reading) (sections : List Section) (loaded : Result (List ℕ) LoadError)
    → is_page_size reading.guess.page_size ≡ true → AreBytes reading.image → sections ≡ sections_in reading → IfErr loaded (IsLoadRefusal max sections)
    → IfErr loaded (λ error. IsTrue (may_come error))
found_may_come max reading sections loaded legal bytes are refused = may max sections loaded (no_error reading sections legal bytes are) refused

built : (max : ℕ) (first : Section) (others : List Section) (loaded : Result (List ℕ) LoadError) → load_error (first ∷ others) ≡ None
    → IfOk loaded (λ image. Builds (first ∷ others) image) → OnOk loaded (loading_error max (first ∷ others) ≡ None)
    → IfErr loaded (IsLoadRefusal max (first ∷ others)) → AreBuilt max (first ∷ others) (repair_answer loaded)
built max first others (Ok image) none builds sound refused =
    let size : size_error max (first ∷ others) ≡ None = sym (ap (λ e. or_else e (size_error max (first ∷ others))) none) ∙ sound in
    (builds, not_large (nat_lt max (image_size (first ∷ others))) size)
built max first others (Err error) none builds sound refused =
    elim (refusal max (first ∷ others) error none refused) [
      | inl memory ↦ subst (λ e. AreBuilt max (first ∷ others) (Err (repair_refusal e))) (sym memory) tt
      | inr large ↦ subst (λ e. AreBuilt max (first ∷ others) (Err (repair_refusal e))) (sym large.1) large.0
    ]

all_built : (max : ℕ) (sections : List Section) (loaded : Result (List ℕ) LoadError) → (length sections == 0) ≡ false → load_error sections ≡ None
    → IfOk loaded (λ image. Builds sections image) → OnOk loaded (loading_error max sections ≡ None) → IfErr loaded (IsLoadRefusal max sections)
    → AreBuilt max sections (repair_answer loaded)
all_built max [] loaded some none builds sound refused = absurd (cc some)
all_built max (first ∷ others) loaded some none builds sound refused = built max first others loaded none builds sound refused

-- by the guess that was found
by_guess : (max : ℕ) (given : Option Guess) (image : List ℕ) (reading : Reading) (sections : List Section) (answer : Result (List ℕ) LoadError)
    → IsReadBy given image reading → sections ≡ sections_in reading → AreBuilt max sections (repair_answer answer)
    → IsRepairedApart max given image (repair_answer answer)
unfolding apart_sections
by_guess max given image reading sections answer read are is =
    subst (λ g. IsRepairedApart max g image (repair_answer answer)) (sym read.guess)
    (subst (λ bytes. AreBuilt max (sections_in (record { guess = reading.guess; image = bytes })) (repair_answer answer)) read.image_is
    (subst (λ all. AreBuilt max all (repair_answer answer)) are is))

pub found_built : (max : ℕ) (given : Option Guess) (image : List ℕ) (reading : Reading) (sections : List Section) (loaded : Result (List ℕ) LoadError)
    → IsReadBy given image reading → AreBytes reading.image → sections ≡ sections_in reading → (length sections == 0) ≡ false
    → IfOk loaded (λ image. Builds sections image) → OnOk loaded (loading_error max sections ≡ None) → IfErr loaded (IsLoadRefusal max sections)
    → IsRepairedApart max given image (repair_answer loaded)
found_built max given image reading sections loaded read bytes are some builds sound refused =
    by_guess max given image reading sections loaded read are
    (all_built max sections loaded some (no_error reading sections read.legal bytes are) builds sound refused)

-- where no database is found, nothing is built
none_built : (max : ℕ) (sections : List Section) → (length sections == 0) ≡ true → AreBuilt max sections (Err NoMeta)
none_built max [] none = tt
none_built max (first ∷ others) none =
    let some : (length (first ∷ others) == 0) ≡ false = ne_eqb (length (first ∷ others)) 0 (λ zero. omega (arith, zero)) in absurd (cc (sym none ∙ some))

pub nothing_built : (max : ℕ) (given : Option Guess) (image : List ℕ) (reading : Reading) (sections : List Section) → IsReadBy given image reading
    → sections ≡ sections_in reading → (length sections == 0) ≡ true → IsRepairedApart max given image (Err NoMeta)
unfolding apart_sections
nothing_built max given image reading sections read are none =
    subst (λ g. IsRepairedApart max g image (Err NoMeta)) (sym read.guess)
    (subst (λ bytes. AreBuilt max (sections_in (record { guess = reading.guess; image = bytes })) (Err NoMeta)) read.image_is
    (subst (λ all. AreBuilt max all (Err NoMeta)) are (none_built max sections none)))
