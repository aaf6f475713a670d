use Rattle.std.proofs.Common.{◌∙◌, ◌<◌, ap, arith, sym}
use Rattle.bdb_law_turned.proofs.of_format.FileLemmas.{count_is}
use Rattle.bdb_law_turned.specs.of_format.declared.metadata.Head.{Head}
use Rattle.bdb_law_turned.specs.of_format.Terms.{file_of, page_at}
use Rattle.bdb_stat.specs.Unused.{unused_in}
use Rattle.bdb_stat.proofs.StatLemmas.{all_below, by_words, few_pages, is_small, none_below, one_below, unused_fits}
use Rattle.bdb_stat.proofs.counting.stat.Goals as goal

-- No page is counted yet.
pub loop-number-init : goal.loop-number-init
loop-number-init c = record {
  below = none_below (file_of c.args.linked.now) c.of-stat.result
      (c.of-stat.ensures.pages ∙ (ap (λ (h : Head). h.pages) c.head-head.ensures.head ∙ sym (count_is c.args.linked.now)))
      c.of-stat.ensures.classes c.of-stat.ensures.levels c.of-stat.ensures.unused;
  long = c.in_ok-starts.ensures ∙ by_words c.args.linked.now c.head-head.result c.head-head.ensures.forest c.head-head.ensures.head;
}

pub count-requires : goal.count-requires
count-requires c other =
    let low : c.loop-number.number < (file_of c.args.linked.now).count =
    omega (arith, c.loop-number-test.true, ap (λ (h : Head). h.pages) c.head-head.ensures.head, count_is c.args.linked.now) in
    omega (
      arith,
      c.loop-number.invariant.below.classes other,
      few_pages (file_of c.args.linked.now) other c.loop-number.number,
      (is_small c.args.linked.now c.head-head.ensures.forest).pages,
      low,
    )

pub overflow_add-stat : goal.overflow_add-stat
overflow_add-stat c =
    let low : c.loop-number.number < (file_of c.args.linked.now).count =
    omega (arith, c.loop-number-test.true, ap (λ (h : Head). h.pages) c.head-head.ensures.head, count_is c.args.linked.now) in
    let most = unused_fits c.args.linked.now c.loop-number.number c.head-head.ensures.forest low in
    let here = c.unused_on.ensures.unused ∙ ap (λ it. unused_in (file_of it).size (page_at (file_of it) c.loop-number.number)) c.requires in
    omega (arith, most, here, c.count.ensures.unused, c.loop-number.invariant.below.unused)

pub loop-number-preserved : goal.loop-number-preserved
loop-number-preserved c = record {
  below = one_below (file_of c.args.linked.now) c.loop-number.number c.class_of-class.result c.loop-number.stat c.count.new.self c.tree_level.result
      c.max.result
      c.unused_on.result c.loop-number.invariant.below c.class_of-class.ensures c.count.ensures c.tree_level.ensures c.max.ensures
      (c.unused_on.ensures.unused ∙ ap (λ it. unused_in (file_of it).size (page_at (file_of it) c.loop-number.number)) c.requires);
  long = c.unused_on.ensures.same ∙ c.loop-number.invariant.long;
}

pub returns : goal.returns
returns c =
    all_below (file_of c.args.linked.now) c.loop-number.number c.loop-number.stat
    (omega (arith, c.loop-number-test.false, c.loop-number.auto.number-end, ap (λ (h : Head). h.pages) c.head-head.ensures.head, count_is c.args.linked.now))
    c.loop-number.invariant.below
