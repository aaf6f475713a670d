-- Onto a base without databases a section is loaded as by itself; and where no error is the first, none holds.
use Rattle.std.proofs.Common.{◌≡◌, Bool, List, [], ◌++◌, length, map, Option, ap, ◌==◌, find, flat_map}
use Rattle.std.proofs.lemmas.List.Elements.{All-weaker}
use Rattle.bdb_mkfile.specs.of_text_format.declared.sections.Section.{Section}
use Rattle.bdb_mkfile.specs.of_settle.Loaded.{unlined_pairs, unnumbered}
use Rattle.bdb_mkfile.specs.of_settle.declared.load_error.LoadError.{LoadError}
use Rattle.bdb_mkfile.specs.of_settle.declared.load_error.LoadError.TheVariants.{RecordTooLong, QueueAmongNames, OntoKind, OntoNames}
use Rattle.bdb_mkfile.specs.of_settle.LoadErrors.{is_among_names, is_too_wide, pair_errors, where_so}
use Rattle.bdb_mkfile.proofs.of_settle.ErrorLemmas.{both_empty, each_empty, no_errors, not_so}
use Rattle.bdb_onto.specs.declared.base.Base.{Base}
use Rattle.bdb_onto.specs.Laws.{NoFirstErrorIsNone, OntoNothingIsLoading}
use Rattle.bdb_onto.specs.Onto.{HasNoErrorsOnto, in_base, is_misnamed, is_other, is_partner, loaded_from, onto_errors, pairs_from, partner_of}
use Rattle.bdb_onto.specs.Onto.{settings_from, settings_onto}

-- a section loaded onto a partner, or onto none
abbrev loaded_by : Base → Section → Option Section → Section
loaded_by base section partner =
    let settings = in_base base (settings_from section.settings partner) in
    record section {
      settings = settings;
      header_line = 0;
      pairs = map unnumbered (loaded_from settings (unlined_pairs (pairs_from partner)) section.pairs);
    }

pub onto_nothing : OntoNothingIsLoading
onto_nothing base section none = ap (λ all. loaded_by base section (find (is_partner section) all)) none

-- a section without errors has none of each row
no_rows : (base : Base) (alone : Bool) (section : Section) → onto_errors base alone section ≡ [] → HasNoErrorsOnto base alone section
no_rows base alone section none =
    let settings = settings_onto base section in
    let line = section.header_line in
    let of_pairs : List LoadError = flat_map (pair_errors settings) section.pairs in
    let of_names : List LoadError = where_so (is_misnamed base section) (OntoNames line) in
    let of_kind : List LoadError = where_so (is_other section.settings (partner_of base section)) (OntoKind line) in
    let of_queue : List LoadError = where_so (is_among_names alone section) (QueueAmongNames line) in
    let of_width : List LoadError = where_so (is_too_wide base.page_size settings) (RecordTooLong line) in
    let wide = both_empty of_width (of_queue ++ (of_kind ++ (of_names ++ of_pairs))) none in
    let among = both_empty of_queue (of_kind ++ (of_names ++ of_pairs)) wide.1 in
    let like = both_empty of_kind (of_names ++ of_pairs) among.1 in
    let named = both_empty of_names of_pairs like.1 in
    record {
      wide = not_so (is_too_wide base.page_size settings) (RecordTooLong line) wide.0;
      among = not_so (is_among_names alone section) (QueueAmongNames line) among.0;
      like = not_so (is_other section.settings (partner_of base section)) (OntoKind line) like.0;
      named = not_so (is_misnamed base section) (OntoNames line) named.0;
      pairs = named.1;
    }

pub no_first_error_is_none : NoFirstErrorIsNone
no_first_error_is_none base sections none =
    let alone : Bool = length sections == 1 in
    let errors = flat_map (onto_errors base alone) sections in
    All-weaker (λ section. onto_errors base alone section ≡ []) (HasNoErrorsOnto base alone) (no_rows base alone) sections
    (each_empty (onto_errors base alone) sections (no_errors errors none))
