use Rattle.std.proofs.Common.{◌^◌, refl, ◌∙◌, ap, arith}
use Rattle.bdb_need.proofs.Common.{chain_pages, length_chain, record_cost, pair_seen, slice_seen, filled_pair, filled_pairs, filled_value, values_in}
use Rattle.bdb_need.proofs.DataLemmas.{short_here, sum_end, sum_more, value_here, values_past, values_within}
use Rattle.bdb_need.proofs.RecordLemmas.{filled_here, filled_past, filled_within, number_after, pair_here, records_end, records_next}
use Rattle.bdb_need.proofs.records.record_pages.Goals as goal

pub overflow_sub-number : goal.overflow_sub-number
overflow_sub-number c =
    let settings = c.args.settings.now in
    let pairs = slice_seen c.args.pairs in
    let pair = pair_seen c.at-pair.result in
    let at = pair_here pairs c.loop-i.i pair c.at-pair.ensures in
    number_after c.args.size (filled_pairs settings pairs) c.loop-i.i c.loop-i.next c.from-number.result
    (filled_pair settings pair) c.loop-i.open c.loop-i.invariant.0
    (filled_within settings pairs c.loop-i.i at.0)
    (filled_here settings pairs c.loop-i.i pair at.0 at.1) (c.from-number.ensures ∙ c.number_of.ensures)

pub length_chain-chains-requires-clause-short : goal.length_chain-chains-requires-clause-short
length_chain-chains-requires-clause-short c =
    let settings = c.args.settings.now in
    let pairs = slice_seen c.args.pairs in
    let pair = pair_seen c.at-pair.result in
    let i = c.loop-i.i in
    let at = pair_here pairs i pair c.at-pair.ensures in
    let within = filled_within settings pairs i at.0 in
    rw c.filled_len-len.ensures
    (short_here (values_in (filled_pairs settings pairs)) i (filled_value settings pair.value) c.requires.short
    (values_within (filled_pairs settings pairs) i within)
    (value_here (filled_pairs settings pairs) i (filled_pair settings pair) _ within
    (filled_here settings pairs i pair at.0 at.1) refl))

pub loop-i-preserved : goal.loop-i-preserved
loop-i-preserved c =
    let settings = c.args.settings.now in
    let pairs = slice_seen c.args.pairs in
    let filled = filled_pairs settings pairs in
    let pair = filled_pair settings (pair_seen c.at-pair.result) in
    let i = c.loop-i.i in
    let at = pair_here pairs i (pair_seen c.at-pair.result) c.at-pair.ensures in
    let within = filled_within settings pairs i at.0 in
    let here = filled_here settings pairs i (pair_seen c.at-pair.result) at.0 at.1 in (
      records_next c.args.size filled i c.loop-i.next c.from-number.result c.record_cost-missing.result c.record_cost.result pair
          c.loop-i.open c.put_many.new.self c.put.new.self c.loop-i.invariant.0 within here
          (c.from-number.ensures ∙ c.number_of.ensures) (omega (arith, c.from-number.ensures, c.number_of.type_inv)) c.record_cost-missing.ensures.cost
          (c.record_cost.ensures.cost ∙ ap (record_cost c.args.size) c.filled_len-len.ensures) c.put_many.ensures
          c.put.ensures,
      sum_more (chain_pages c.args.size) (values_in filled) i pair.value c.loop-i.chains c.length_chain-chains.result (2 ^ 32)
          (values_within filled i within) (value_here filled i pair _ within here refl)
          c.loop-i.invariant.1 (c.length_chain-chains.ensures.pages ∙ ap (length_chain c.args.size) c.filled_len-len.ensures)
          c.length_chain-chains.ensures.few,
    )

pub returns-clause-pages : goal.returns-clause-pages
returns-clause-pages c sorted =
    let settings = c.args.settings.now in
    let pairs = slice_seen c.args.pairs in
    let past = filled_past settings pairs c.loop-i.i (omega arith) in
    records_end c.args.size sorted (filled_pairs settings pairs) c.loop-i.i c.loop-i.next c.loop-i.chains c.tree_pages.result c.loop-i.open
    past c.loop-i.invariant.0
    (sum_end (chain_pages c.args.size) (values_in (filled_pairs settings pairs)) c.loop-i.i c.loop-i.chains
    (values_past (filled_pairs settings pairs) c.loop-i.i past) c.loop-i.invariant.1.0)
    c.tree_pages.ensures.pages
