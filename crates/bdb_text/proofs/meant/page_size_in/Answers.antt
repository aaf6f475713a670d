use Rattle.std.proofs.Common.{ℕ, List, ap, ◌∙◌}
use Rattle.bdb_spelling.specs.of_text_format.Terms.{number_or}
use Rattle.bdb_text.specs.Fields.{values_in}
use Rattle.bdb_text.proofs.meant.page_size_in.Goals as goal

pub returns : goal.returns
returns c = c.number_or.ensures ∙ ap (λ (name : List ℕ). number_or 4096 (values_in c.args.fields.now name)) c.as_slice.ensures
