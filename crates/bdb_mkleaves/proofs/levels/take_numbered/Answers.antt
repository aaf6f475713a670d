use Rattle.std.proofs.Common.{refl, sym, ◌∙◌, ap, subst}
use Rattle.bdb_mkleaves.proofs.Common.{leb-true, recno_bytes, Numbered, OnRecno, has_room_on, TakesNow}
use Rattle.bdb_mkleaves.proofs.LevelTakeLemmas.{heads_few, lacks, numbered_same, taken}
use Rattle.bdb_mkleaves.proofs.levels.take_numbered.Goals as goal

pub returns-then-takes : goal.returns-then-takes
returns-then-takes c = λ level nodes node holds some child.
    subst (λ b. TakesNow b Numbered level c.args.pages.now c.append_count.new.pages c.args.page nodes node) (sym c.if-takes.true)
    (taken Numbered c.args.pages.now c.args.pages.now c.append_count.new.pages c.args.page level nodes node
    (OnRecno (record { child = c.args.child.page; count = c.args.child.count })) c.requires.legal c.requires.whole c.requires.asked.there holds
    (heads_few Numbered c.args.pages.now c.args.child.leaf node child.key) refl c.append_count.ensures.page
    (leb-true _ _ (sym c.has_room_for_recno-takes.ensures.room ∙ c.if-takes.true))
    (λ held. c.append_count.ensures.holds level nodes node held (numbered_same c.args.child node child.page_is child.count_is)))

pub returns-else-takes : goal.returns-else-takes
returns-else-takes c = λ level nodes node holds some child.
    subst (λ b. TakesNow b Numbered level c.args.pages.now c.args.pages.now c.args.page nodes node) (sym c.if-takes.false) (
      refl,
      lacks Numbered c.args.pages.now c.args.page level nodes node holds some tt
          (ap (λ i. has_room_on c.args.pages.now c.args.page (recno_bytes c.args.pages.now.order i))
          (sym (numbered_same c.args.child node child.page_is child.count_is))
          ∙ (sym c.has_room_for_recno-takes.ensures.room ∙ c.if-takes.false)),
    )
