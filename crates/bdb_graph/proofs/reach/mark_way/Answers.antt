use Rattle.std.proofs.Common.{◌∙◌, sym}
use Rattle.bdb_image.specs.of_format.Terms.{file_of}
use Rattle.bdb_graph.proofs.MarkLemmas.{begins, ends_alone, ends_marked, marks_on}
use Rattle.bdb_graph.proofs.reach.mark_way.Goals as goal

pub up-init : goal.up-init
up-init c = begins (file_of c.args.roles.now) c.args.marks.now c.args.from c.args.reached c.requires.way c.requires.reach c.requires.page c.requires.len

pub returns-in-Known : goal.returns-in-Known
returns-in-Known c = ends_marked (file_of c.args.roles.now) c.up.marks c.up.at c.args.reached c.in-Known.field-0 c.up.invariant c.in-Known.is

pub up-preserved : goal.up-preserved
up-preserved c =
    marks_on (file_of c.args.roles.now) c.up.marks c.up.at c.args.reached c.up.invariant c.in-Some.holder c.requires.fit
    (sym c.first_holder.ensures ∙ c.in-Some.is)

pub returns-in-None : goal.returns-in-None
returns-in-None c =
    ends_alone (file_of c.args.roles.now) c.up.marks c.up.at c.args.reached c.up.invariant (sym c.first_holder.ensures ∙ c.in-None.is)
