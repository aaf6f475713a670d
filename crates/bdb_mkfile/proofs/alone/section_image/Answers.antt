use Rattle.std.proofs.Common.{List, sym, subst, IfOk}
use Rattle.bdb_mkfile.proofs.Common.{Settings, pairs_of, TextPair, unlined_pairs, file_settings, IsBuildable, IsListImage}
use Rattle.bdb_mkfile.proofs.AlikeLemmas.{buildable_own}
use Rattle.bdb_mkfile.proofs.alone.section_image.Goals as goal

pub list_image-requires-clause-built : goal.list_image-requires-clause-built
list_image-requires-clause-built c =
    let section = c.args.section in
    subst (λ (s : Settings). IsBuildable s.kind s (pairs_of c.as_slice.result)) (sym c.file_settings-settings.ensures)
    (subst (λ (ps : List TextPair). IsBuildable (file_settings section.settings).kind (file_settings section.settings) (unlined_pairs ps))
    (sym c.as_slice.ensures)
    (buildable_own section.settings (unlined_pairs section.pairs) c.requires))

pub returns : goal.returns
returns c =
    let own : Settings = file_settings c.args.section.settings in
    subst (λ (ps : List TextPair). IfOk c.list_image.result (λ image. IsListImage own.kind own (unlined_pairs ps) image)) c.as_slice.ensures
    (subst (λ (s : Settings). IfOk c.list_image.result (λ image. IsListImage s.kind s (pairs_of c.as_slice.result) image)) c.file_settings-settings.ensures
    c.list_image.ensures)
