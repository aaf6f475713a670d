use Rattle.bdb_tool_ask.proofs.RangeLemmas.{no_btree_told, range_printed}
use Rattle.bdb_tool_ask.proofs.ranging.answer_range.Goals as goal

pub returns-in-Some-pairs_between : goal.returns-in-Some-pairs_between
returns-in-Some-pairs_between g c =
    range_printed _ _ _ _ _ _ _ _ _ _ _ _ _ _ _ _ _ c.in-Ok.ensures c.in-Ok-spelled.ensures c.in-Ok-spelled-2.ensures c.name_bytes.ensures
    c.as_slice.ensures c.as_slice-2.ensures c.in-Some.ensures.place c.in-Some.ensures.inside c.in-Some-pairs_between.ensures c.write_pairs.ensures
    c.report.ensures

pub returns : goal.returns
returns g c = λ name from to asked_is first_is second_is.
    no_btree_told _ _ _ _ _ _ _ _ _ _ c.in-Ok.ensures c.name_bytes.ensures c.in-Some.ensures.place c.in-Some.ensures.inside c.in-None.ensures
    c.tell-in-None.ensures name from to asked_is
