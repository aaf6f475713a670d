use Rattle.std.proofs.Common.{sym, ◌∙◌, ap, option_map}
use Rattle.bdb_text_format.specs.Terms.{pair_seen, slice_seen}
use Rattle.bdb_mkqueue.proofs.LastLemmas.{first_is, none_first}
use Rattle.bdb_mkqueue.proofs.build.first_number.Goals as goal

pub returns-in-Some : goal.returns-in-Some
returns-in-Some c =
    c.number_of.ensures
    ∙ first_is (slice_seen c.args.list) (pair_seen c.in-Some.pair) (sym c.first.ensures ∙ ap (option_map pair_seen) c.in-Some.is)

pub returns-in-None : goal.returns-in-None
returns-in-None c = none_first (slice_seen c.args.list) (sym c.first.ensures ∙ ap (option_map pair_seen) c.in-None.is)
