use Rattle.std.proofs.Common.{◌∙◌}
use Rattle.bdb_tool_ask.proofs.ConvertLemmas.{flipped_printed, overlap_told}
use Rattle.bdb_tool_ask.proofs.converting.answer_convert.Goals as goal

pub returns-in-Ok : goal.returns-in-Ok
returns-in-Ok g c =
    flipped_printed _ _ _ _ _ _ _ _ (c.image.ensures ∙ c.forest-forest.ensures ∙ c.linked-linked.ensures.pages) c.in-Ok.ensures
    (rw c.bytes.ensures at c.put.ensures) c.report.ensures

pub returns-in-Err-Overlap : goal.returns-in-Err-Overlap
returns-in-Err-Overlap g c =
    overlap_told _ _ _ _ _ _ _ _ _ (c.image.ensures ∙ c.forest-forest.ensures ∙ c.linked-linked.ensures.pages) c.in-Err-Overlap.field-0-is
    c.in-Err-Overlap.ensures
    c.tell_overlap.ensures
