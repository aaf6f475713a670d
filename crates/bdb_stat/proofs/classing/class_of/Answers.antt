use Rattle.std.proofs.Common.{◌∙◌, ap, arith, sym}
use Rattle.bdb_law_turned.proofs.of_format.FileLemmas.{kind_is}
use Rattle.bdb_law_turned.specs.of_format.declared.metadata.Head.{Head}
use Rattle.bdb_law_turned.specs.of_format.Terms.{file_of, is_meta, is_queue}
use Rattle.bdb_stat.specs.Classes.{class_by_type}
use Rattle.bdb_stat.proofs.ClassLemmas.{by_meta, by_queue, by_reserve, by_type, has_class, past_last}
use Rattle.bdb_stat.proofs.classing.class_of.Goals as goal

pub returns-then-number-head : goal.returns-then-number-head
returns-then-number-head c =
    past_last (file_of c.args.linked.now) c.args.number
    (let last = sym c.head-head.ensures.last in omega (arith, last, c.if-number-head.true))

pub page-page-requires : goal.page-page-requires
page-page-requires c =
    let last = sym c.head-head.ensures.last in omega (arith, last, c.if-number-head.false)

pub returns-then-is_meta : goal.returns-then-is_meta
returns-then-is_meta c =
    let last = sym c.head-head.ensures.last in
    by_meta (file_of c.args.linked.now) c.args.number (omega (arith, last, c.if-number-head.false))
    (sym (ap is_meta c.page-page.ensures.page) ∙ (sym c.is_meta.ensures ∙ c.if-is_meta.true))

pub returns-then-is_queue : goal.returns-then-is_queue
returns-then-is_queue c =
    let last = sym c.head-head.ensures.last in
    by_queue (file_of c.args.linked.now) c.args.number (omega (arith, last, c.if-number-head.false))
    (sym (ap is_meta c.page-page.ensures.page) ∙ (sym c.is_meta.ensures ∙ c.if-is_meta.false))
    (ap is_queue (kind_is c.args.linked.now ∙ sym (ap (λ (h : Head). h.kind) c.head-head.ensures.head)) ∙ (sym c.is_queue.ensures ∙ c.if-is_queue.true))

pub is_reserve-requires-clause-inside : goal.is_reserve-requires-clause-inside
is_reserve-requires-clause-inside c =
    let last = sym c.head-head.ensures.last in omega (arith, last, c.if-number-head.false)

pub is_reserve-requires-clause-no_queue : goal.is_reserve-requires-clause-no_queue
is_reserve-requires-clause-no_queue c =
    ap is_queue (kind_is c.args.linked.now ∙ sym (ap (λ (h : Head). h.kind) c.head-head.ensures.head)) ∙ (sym c.is_queue.ensures ∙ c.if-is_queue.false)

pub returns-then-is_reserve : goal.returns-then-is_reserve
returns-then-is_reserve c =
    let last = sym c.head-head.ensures.last in
    by_reserve (file_of c.args.linked.now) c.args.number (omega (arith, last, c.if-number-head.false))
    (sym (ap is_meta c.page-page.ensures.page) ∙ (sym c.is_meta.ensures ∙ c.if-is_meta.false))
    (ap is_queue (kind_is c.args.linked.now ∙ sym (ap (λ (h : Head). h.kind) c.head-head.ensures.head)) ∙ (sym c.is_queue.ensures ∙ c.if-is_queue.false))
    (sym c.is_reserve.ensures ∙ c.if-is_reserve.true)

pub class_by_type-requires : goal.class_by_type-requires
class_by_type-requires c none =
    let last = sym c.head-head.ensures.last in
    has_class c.args.linked.now c.args.number c.head-head.ensures.forest (omega (arith, last, c.if-number-head.false))
    (ap is_queue (kind_is c.args.linked.now ∙ sym (ap (λ (h : Head). h.kind) c.head-head.ensures.head)) ∙ (sym c.is_queue.ensures ∙ c.if-is_queue.false))
    (sym (ap class_by_type c.page-page.ensures.page) ∙ none)

pub returns : goal.returns
returns c =
    let last = sym c.head-head.ensures.last in
    by_type (file_of c.args.linked.now) c.args.number c.class_by_type.result (omega (arith, last, c.if-number-head.false))
    (sym (ap is_meta c.page-page.ensures.page) ∙ (sym c.is_meta.ensures ∙ c.if-is_meta.false))
    (ap is_queue (kind_is c.args.linked.now ∙ sym (ap (λ (h : Head). h.kind) c.head-head.ensures.head)) ∙ (sym c.is_queue.ensures ∙ c.if-is_queue.false))
    (sym c.is_reserve.ensures ∙ c.if-is_reserve.false) (c.class_by_type.ensures ∙ ap class_by_type c.page-page.ensures.page)
