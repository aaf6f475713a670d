-- A section without an error of loading: one with its name and pairs whose settings load alike has none either.
use Rattle.std.proofs.Common.{◌≡◌, ℕ, ◌+◌, ◌-◌, Bool, true, false, List, [], ◌∷◌, ◌++◌, length, map, refl, sym, ◌∙◌, ap}
use Rattle.std.specs.Prelude.{◌==◌, ◌&&◌, ◌||◌, not, nat_lt, is_some}
use Rattle.std.specs.List.{flat_map}
use Rattle.bdb_repair.specs.of_format.declared.settings.Settings.{Settings}
use Rattle.bdb_repair.specs.of_format.Terms.{ListKey, pad4}
use Rattle.bdb_repair.specs.of_text_format.declared.pairs.Key.{Key}
use Rattle.bdb_repair.specs.of_text_format.declared.pairs.Key.TheVariants.{Bytes, Number}
use Rattle.bdb_repair.specs.of_text_format.declared.pairs.TextPair.{TextPair}
use Rattle.bdb_repair.specs.of_text_format.declared.sections.Section.{Section}
use Rattle.bdb_repair.specs.of_text_format.Terms.{is_queue}
use Rattle.bdb_repair.specs.of_settle.Loaded.{has_length}
use Rattle.bdb_repair.specs.of_settle.LoadErrors.{header_errors, is_among_names, is_too_long, is_too_wide, is_zero, pair_errors, section_errors, where_so}
use Rattle.bdb_repair.specs.of_settle.declared.load_error.LoadError.{LoadError}
use Rattle.bdb_load.specs.of_law_kept.Kept.{LoadsAlike}
use Rattle.bdb_load.specs.of_law_kept.of_text.WrittenLaw.{key_in, pair_in}
use Rattle.bdb_load.proofs.of_law_kept.of_settle.ErrorLemmas.{both_empty}

not_so : (holds : Bool) (error : LoadError) → where_so holds error ≡ [] → holds ≡ false
not_so true error none = absurd (cc none)
not_so false error none = refl

neither_so : (one two : Bool) (first second : LoadError) → one ≡ false → two ≡ false → where_so one first ++ where_so two second ≡ []
neither_so one two first second not_one not_two = rw (not_one, not_two) refl

-- Pairs.

not_long : (settings others : Settings) (len : ℕ) → LoadsAlike settings others → (has_length others && nat_lt others.re_len len) ≡ false
    → (has_length settings && nat_lt settings.re_len len) ≡ false
not_long settings others len alike none = by_fixed (has_length settings) refl
  where
    by_fixed : (b : Bool) → has_length settings ≡ b → (b && nat_lt settings.re_len len) ≡ false
    by_fixed true fixed =
        let same = alike.fixed fixed in
        ap (λ n. nat_lt n len) same.1 ∙ (sym (ap (λ c. c && nat_lt others.re_len len) same.0) ∙ none)
    by_fixed false free = refl

same_zero : (a b : Key) → key_in a ≡ key_in b → is_zero a ≡ is_zero b
same_zero (Bytes x) (Bytes y) is = refl
same_zero (Bytes x) (Number n) is = absurd (cc is)
same_zero (Number m) (Bytes y) is = absurd (cc is)
same_zero (Number m) (Number n) is = let same : m ≡ n = cc is in ap (λ k. k == 0) same

pair_without : (settings others : Settings) (pair other : TextPair) → LoadsAlike settings others → pair_in pair ≡ pair_in other
    → pair_errors others other ≡ [] → pair_errors settings pair ≡ []
pair_without settings others pair other alike is none =
    let parts = both_empty (where_so (is_too_long others other) _) (where_so (is_zero other.key) _) none in
    let short : is_too_long others pair ≡ false =
    ap (λ (p : ListKey × List ℕ). has_length others && nat_lt others.re_len (length p.1)) is ∙ not_so (is_too_long others other) _ parts.0 in
    neither_so (is_too_long settings pair) (is_zero pair.key) _ _ (not_long settings others (length pair.value) alike short)
    (same_zero pair.key other.key (ap (λ (p : ListKey × List ℕ). p.0) is) ∙ not_so (is_zero other.key) _ parts.1)

pairs_without : (settings others : Settings) (pairs same : List TextPair) → LoadsAlike settings others → map pair_in pairs ≡ map pair_in same
    → flat_map (pair_errors others) same ≡ [] → flat_map (pair_errors settings) pairs ≡ []
pairs_without settings others [] same alike is none = refl
pairs_without settings others (pair ∷ pairs) [] alike is none = absurd (cc is)
pairs_without settings others (pair ∷ pairs) (other ∷ same) alike is none =
    let here : pair_in pair ≡ pair_in other = cc is in
    let rest : map pair_in pairs ≡ map pair_in same = cc is in
    let parts = both_empty (pair_errors others other) (flat_map (pair_errors others) same) none in
    ap (λ errors. errors ++ flat_map (pair_errors settings) pairs) (pair_without settings others pair other alike here parts.0)
    ∙ pairs_without settings others pairs same alike rest parts.1

-- Headers.

not_wide : (size : ℕ) (settings others : Settings) → LoadsAlike settings others → is_too_wide size others ≡ false → is_too_wide size settings ≡ false
not_wide size settings others alike none =
    ap (λ kind. is_queue kind && nat_lt (size - 28) (pad4 (settings.re_len + 1))) alike.kind ∙ by_queue (is_queue others.kind) refl none
  where
    by_queue : (b : Bool) → is_queue others.kind ≡ b → (b && nat_lt (size - 28) (pad4 (others.re_len + 1))) ≡ false
        → (b && nat_lt (size - 28) (pad4 (settings.re_len + 1))) ≡ false
    by_queue true queue wide = ap (λ n. nat_lt (size - 28) (pad4 (n + 1))) (alike.wide queue) ∙ wide
    by_queue false other wide = refl

-- a section has the name and the pairs of another, and settings that load as those of that
pub record IsLike (section other : Section) : Type 0 where
  pub name_is : section.name ≡ other.name
  pub alike : LoadsAlike section.settings other.settings
  pub pairs_are : map pair_in section.pairs ≡ map pair_in other.pairs

header_without : (size : ℕ) (alone : Bool) (section other : Section) → IsLike section other → header_errors size alone other ≡ []
    → header_errors size alone section ≡ []
header_without size alone section other like none =
    let parts = both_empty (where_so (is_too_wide size other.settings) _) (where_so (is_among_names alone other) _) none in
    let among : is_among_names alone section ≡ is_among_names alone other =
    ap (λ kind. is_queue kind && (is_some section.name || not alone)) like.alike.kind
    ∙ ap (λ name. is_queue other.settings.kind && (is_some name || not alone)) like.name_is in
    neither_so (is_too_wide size section.settings) (is_among_names alone section) _ _
    (not_wide size section.settings other.settings like.alike (not_so (is_too_wide size other.settings) _ parts.0))
    (among ∙ not_so (is_among_names alone other) _ parts.1)

pub section_without : (size : ℕ) (alone : Bool) (section other : Section) → IsLike section other → section_errors size alone other ≡ []
    → section_errors size alone section ≡ []
section_without size alone section other like none =
    let parts = both_empty (header_errors size alone other) (flat_map (pair_errors other.settings) other.pairs) none in
    ap (λ errors. errors ++ flat_map (pair_errors section.settings) section.pairs) (header_without size alone section other like parts.0)
    ∙ pairs_without section.settings other.settings section.pairs other.pairs like.alike like.pairs_are parts.1
