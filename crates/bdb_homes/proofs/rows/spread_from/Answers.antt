use Rattle.std.proofs.Common.{◌∙◌, ap, arith, sym}
use Rattle.bdb_homes.specs.Spreading.{side_of}
use Rattle.bdb_homes.proofs.SpreadLemmas.{lacks_fewer}
use Rattle.bdb_homes.proofs.WalkLemmas.{ends_alone, ends_given, ends_none, ends_unmoved, none_of, walk_begins, walk_on}
use Rattle.bdb_homes.proofs.rows.spread_from.Goals as goal

pub row-init : goal.row-init
row-init c = walk_begins c.args.faces.now c.args.homes.now c.args.from c.args.page c.requires.len c.requires.page

-- The page has no home to give.
pub returns-in_default : goal.returns-in_default
returns-in_default c = ends_alone c.args.faces.now c.args.homes.now c.row.homes c.args.from c.args.page c.row.at c.row.invariant c.in_default.is

-- No page stands behind it.
pub returns-in_default-beside : goal.returns-in_default-beside
returns-in_default-beside c =
    ends_none c.args.faces.now c.args.homes.now c.row.homes c.args.from c.args.page c.row.at c.row.invariant
    (λ file are. sym c.in_default-beside.is ∙ (c.beside.ensures.side file are ∙ ap (λ side. side_of side file c.row.at) c.opposite.ensures))

-- That page has a home.
pub returns-then-is_some : goal.returns-then-is_some
returns-then-is_some c =
    ends_given c.args.faces.now c.args.homes.now c.row.homes c.args.from c.args.page c.row.at c.row.invariant c.in-Some-beside.next
    (sym c.is_some.ensures ∙ c.if-is_some.true)
    (λ file are. sym c.in-Some-beside.is ∙ (c.beside.ensures.side file are ∙ ap (λ side. side_of side file c.row.at) c.opposite.ensures))

-- No home follows for it.
pub returns-in_default-moved : goal.returns-in_default-moved
returns-in_default-moved c =
    ends_unmoved c.args.faces.now c.args.homes.now c.row.homes c.args.from c.args.page c.row.at c.row.invariant c.in-Some-beside.next c.in-Some.home
    c.in-Some.is
    (λ file are. sym c.in-Some-beside.is ∙ (c.beside.ensures.side file are ∙ ap (λ side. side_of side file c.row.at) c.opposite.ensures))
    (λ file are. sym c.in_default-moved.is ∙ c.moved.ensures file are)

-- One page less is without a home.
pub row-smaller : goal.row-smaller
row-smaller c =
    omega (
      arith,
      lacks_fewer c.row.homes c.in-Some-beside.next c.in-Some-moved.given (omega (arith, c.in-Some-beside.ensures.there, c.row.invariant.len))
          (none_of _ (sym c.is_some.ensures ∙ c.if-is_some.false)),
    )

pub row-preserved : goal.row-preserved
row-preserved c =
    walk_on c.args.faces.now c.args.homes.now c.row.homes c.args.from c.args.page c.row.at c.row.invariant c.in-Some-beside.next c.in-Some.home
    c.in-Some-moved.given (omega (arith, c.in-Some-beside.ensures.there)) c.in-Some.is (none_of _ (sym c.is_some.ensures ∙ c.if-is_some.false))
    (λ file are. sym c.in-Some-beside.is ∙ (c.beside.ensures.side file are ∙ ap (λ side. side_of side file c.row.at) c.opposite.ensures))
    (λ file are. sym c.in-Some-moved.is ∙ c.moved.ensures file are)
