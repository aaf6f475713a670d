use Rattle.std.proofs.Common.{◌^◌, arith}
use Rattle.bdb_need.proofs.Common.{values_seen, chain_pages}
use Rattle.bdb_need.proofs.DataLemmas.{short_here, sum_end, sum_more}
use Rattle.bdb_need.proofs.data.data_chains.Goals as goal

pub chain_pages-pages-requires-clause-short : goal.chain_pages-pages-requires-clause-short
chain_pages-pages-requires-clause-short c =
    short_here (values_seen c.args.values) c.loop-i.i _ c.requires.short (omega arith)
    c.at.ensures

pub loop-i-preserved : goal.loop-i-preserved
loop-i-preserved c =
    sum_more (chain_pages c.args.size) (values_seen c.args.values) c.loop-i.i _ c.loop-i.pages c.chain_pages-pages.result (2 ^ 32)
    (omega arith)
    c.at.ensures
    c.loop-i.invariant c.chain_pages-pages.ensures.pages c.chain_pages-pages.ensures.few

pub returns-clause-pages : goal.returns-clause-pages
returns-clause-pages c = sum_end (chain_pages c.args.size) (values_seen c.args.values) c.loop-i.i c.loop-i.pages (omega arith) c.loop-i.invariant.0
