use Rattle.std.proofs.Common.{◌≡◌, cond, sym, ◌∙◌, ap, arith, subst, ◌==◌, true, false, Some, None}
use Rattle.std.proofs.lemmas.Bool.{eq-eqb, ne_eqb}
use Rattle.bdb_law_sums.specs.of_format.Terms.{File, pieces_of}
use Rattle.bdb_survey.specs.Links.{extent_of}
use Rattle.bdb_survey.specs.Salvage.{is_overflow, salvaged_file}
use Rattle.bdb_survey.proofs.StoredPageLemmas.{count_is}
use Rattle.bdb_survey.proofs.WholeLemmas.{not_whole, some_row, whole_by}
use Rattle.bdb_survey.proofs.chain.chain_of.Goals as goal

-- No row, and so no chain.
pub returns-in_err-extent-clause-whole : goal.returns-in_err-extent-clause-whole
returns-in_err-extent-clause-whole g c =
    let file : File = salvaged_file c.args.guess.order c.args.guess.page_size c.args.image.now in
    let none : extent_of file is_overflow c.args.head ≡ None = subst (λ f. extent_of f is_overflow c.args.head ≡ None) c.over-pages.ensures
    (sym c.row_extent.ensures.extent ∙ c.in_err-extent.was) in
    c.from_residual.ensures ∙ sym (ap (λ b. cond b (Some (pieces_of file c.args.head)) None) (not_whole file c.args.head c.args.total none))

-- A row of another length.
pub returns-then-extent-from-clause-whole : goal.returns-then-extent-from-clause-whole
returns-then-extent-from-clause-whole g c =
    let file : File = salvaged_file c.args.guess.order c.args.guess.page_size c.args.image.now in
    let some : extent_of file is_overflow c.args.head ≡ Some c.in_ok-extent.extent = subst
    (λ f. extent_of f is_overflow c.args.head ≡ Some c.in_ok-extent.extent) c.over-pages.ensures (sym c.row_extent.ensures.extent ∙ c.in_ok-extent.was) in
    let other : (c.in_ok-extent.extent.length == c.args.total) ≡ false = ne_eqb c.in_ok-extent.extent.length c.args.total
    (λ e. c.if-extent-from.true (e ∙ sym c.from.ensures)) in
    sym (ap (λ b. cond b (Some (pieces_of file c.args.head)) None) (whole_by file c.args.head c.args.total c.in_ok-extent.extent some ∙ other))

pub pieces-requires : goal.pieces-requires
pieces-requires g c = some_row c.over-pages.result is_overflow c.args.head c.in_ok-extent.extent (sym c.row_extent.ensures.extent ∙ c.in_ok-extent.was)

pub returns-clause-whole : goal.returns-clause-whole
returns-clause-whole g c =
    let file : File = salvaged_file c.args.guess.order c.args.guess.page_size c.args.image.now in
    let some : extent_of file is_overflow c.args.head ≡ Some c.in_ok-extent.extent = subst
    (λ f. extent_of f is_overflow c.args.head ≡ Some c.in_ok-extent.extent) c.over-pages.ensures (sym c.row_extent.ensures.extent ∙ c.in_ok-extent.was) in
    let same : (c.in_ok-extent.extent.length == c.args.total) ≡ true = eq-eqb c.in_ok-extent.extent.length c.args.total
    (c.if-extent-from.false ∙ c.from.ensures) in
    ap (λ pieces. Some pieces) (c.pieces.ensures ∙ ap (λ f. pieces_of f c.args.head) c.over-pages.ensures)
    ∙ sym (ap (λ b. cond b (Some (pieces_of file c.args.head)) None) (whole_by file c.args.head c.args.total c.in_ok-extent.extent some ∙ same))

-- The walk takes no more steps than there are pages.
pub returns-in_err-extent-clause-bound : goal.returns-in_err-extent-clause-bound
returns-in_err-extent-clause-bound g c = omega (
  arith,
  c.row_extent.ensures.bound,
  ap (λ (f : File). f.count) c.over-pages.ensures,
  count_is c.args.guess.order
      c.args.guess.page_size c.args.image.now,
)

pub returns-then-extent-from-clause-bound : goal.returns-then-extent-from-clause-bound
returns-then-extent-from-clause-bound g c = omega (
  arith,
  c.row_extent.ensures.bound,
  ap (λ (f : File). f.count) c.over-pages.ensures,
  count_is
      c.args.guess.order c.args.guess.page_size c.args.image.now,
)

pub returns-clause-bound : goal.returns-clause-bound
returns-clause-bound g c = omega (
  arith,
  c.row_extent.ensures.bound,
  ap (λ (f : File). f.count) c.over-pages.ensures,
  count_is c.args.guess.order
      c.args.guess.page_size c.args.image.now,
)
