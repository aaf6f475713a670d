use Rattle.std.proofs.Common.{◌∙◌, ap, arith, sym}
use Rattle.bdb_faults.specs.of_format.declared.metadata.Head.{Head}
use Rattle.bdb_faults.specs.of_format.Terms.{file_of, is_meta}
use Rattle.bdb_faults.proofs.of_format.FileLemmas.{last_page}
use Rattle.bdb_image.proofs.MetaLemmas.{all_metas, no_more_meta, one_more_meta}
use Rattle.bdb_image.proofs.meta.metas_of.Goals as goal
use Rattle.bdb_image.proofs.meta.metas_of.Goals.{then-is_meta+in_ok-push, else-is_meta}

pub loop-number-preserved : goal.loop-number-preserved
loop-number-preserved c =
    let file = file_of c.args.formed.now in
    let seen = c.is_meta.ensures ∙ ap is_meta c.page_at.ensures in
    elim c.if-is_meta.branch [
      | then-is_meta+in_ok-push w ↦
          cc (
            w.in_ok-push.ensures.items,
            one_more_meta file c.loop-number.number c.loop-number.metas.items c.loop-number.invariant
                (sym w.if-is_meta.true ∙ seen),
          )
      | else-is_meta w ↦ cc (no_more_meta file c.loop-number.number c.loop-number.metas.items c.loop-number.invariant (sym w.if-is_meta.false ∙ seen))
    ]

pub returns : goal.returns
returns c =
    let last = ap (λ (head : Head). head.last) c.head-number-end.ensures.head in
    all_metas (file_of c.args.formed.now) c.loop-number.number c.loop-number.metas.items (omega (arith, last, last_page c.args.formed.now))
    c.loop-number.invariant
