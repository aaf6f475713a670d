use Rattle.std.proofs.Common.{◌∙◌, sym}
use Rattle.bdb_image.specs.of_format.Terms.{file_of}
use Rattle.bdb_graph.proofs.MarkLemmas.{comes_alone, comes_back, comes_to, moves_on}
use Rattle.bdb_graph.proofs.reach.leads_up.Goals as goal

-- The holder stands above.
pub up-preserved : goal.up-preserved
up-preserved c =
    moves_on (file_of c.args.roles.now) c.up.marks c.args.from c.up.at c.up.invariant c.in-Open.is c.in-Some.holder c.requires.fit
    (sym c.first_holder.ensures ∙ c.in-Some.is)

-- No holder is there to follow.
pub returns-in-None-clause-reach : goal.returns-in-None-clause-reach
returns-in-None-clause-reach c =
    c.is_top.ensures
    ∙ comes_alone (file_of c.args.roles.now) c.up.marks c.args.from c.up.at c.requires.fit c.up.invariant
    (sym c.first_holder.ensures ∙ c.in-None.is)

-- A ring never reaches.
pub returns-in-Way-clause-reach : goal.returns-in-Way-clause-reach
returns-in-Way-clause-reach c = comes_back (file_of c.args.roles.now) c.up.marks c.args.from c.up.at c.requires.fit c.up.invariant c.in-Way.is

pub returns-in-Known-clause-reach : goal.returns-in-Known-clause-reach
returns-in-Known-clause-reach c =
    comes_to (file_of c.args.roles.now) c.up.marks c.args.from c.up.at c.in-Known.reached c.requires.fit c.up.invariant c.in-Known.is
