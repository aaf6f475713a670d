use Rattle.std.proofs.Common.{◌≡◌, ◌∙◌, ℕ, ◌+◌, ◌<◌, ap, arith, cond, length, refl, subst, sym, min}
use Rattle.std.proofs.lemmas.List.{length-set}
use Rattle.bdb_io.specs.of_format.Terms.{entries_of, offset_of}
use Rattle.bdb_swap.specs.Crossing.{AreEnds}
use Rattle.bdb_swap.proofs.EndLemmas.{ends_next}
use Rattle.bdb_swap.proofs.WalkLemmas.{none_noted, noted_next}
use Rattle.bdb_swap.specs.declared.crossing.Noted.{Noted}
use Rattle.bdb_swap.proofs.ranged.note_ends.Goals as goal
use Rattle.bdb_swap.proofs.ranged.note_ends.Goals.{then-note_end, else-note_end}

-- So much of the item is there that it tells its end.
pub end_at-requires : goal.end_at-requires
end_at-requires g c =
    let below : c.loop-i.i < entries_of c.args.order c.args.page.now = omega (arith, c.u16_at-i-end.ensures) in
    omega (arith, (c.requires.items c.loop-i.i below).room, c.from-at.ensures, c.offset_at.ensures)

pub note_end-requires-clause-inside : goal.note_end-requires-clause-inside
note_end-requires-clause-inside g c =
    let below : c.loop-i.i < entries_of c.args.order c.args.page.now = omega (arith, c.u16_at-i-end.ensures) in
    let placed = c.requires.items c.loop-i.i below in
    omega (arith, placed.some, placed.within, c.from-at.ensures, c.offset_at.ensures, c.loop-i.invariant.same)

pub note_end-requires-clause-low : goal.note_end-requires-clause-low
note_end-requires-clause-low g c =
    let below : c.loop-i.i < entries_of c.args.order c.args.page.now = omega (arith, c.u16_at-i-end.ensures) in
    let at : c.from-at.result ≡ offset_of c.args.order c.args.page.now c.loop-i.i = c.from-at.ensures ∙ c.offset_at.ensures in
    let end = c.end_at.ensures ∙ ap (g.K.EndKind.end c.args.order c.args.page.now) at in
    omega (arith, end, (c.requires.items c.loop-i.i below).within)

pub returns-clause-ends : goal.returns-clause-ends
returns-clause-ends g c =
    let all : c.loop-i.i ≡ entries_of c.args.order c.args.page.now = omega (arith, c.u16_at-i-end.ensures) in
    subst (λ n. AreEnds c.loop-i.ends n (offset_of c.args.order c.args.page.now)
    (λ i. g.K.EndKind.end c.args.order c.args.page.now (offset_of c.args.order c.args.page.now i))) all c.loop-i.invariant.ends

pub loop-i-init : goal.loop-i-init
loop-i-init g c = record { ends = c.requires.clear; same = refl; noted = none_noted c.args.ends.now c.requires.clear }

-- One item more is noted.
pub loop-i-preserved : goal.loop-i-preserved
loop-i-preserved g c =
    let below : c.loop-i.i < entries_of c.args.order c.args.page.now = omega (arith, c.u16_at-i-end.ensures) in
    let placed = c.requires.items c.loop-i.i below in
    let at : c.from-at.result ≡ offset_of c.args.order c.args.page.now c.loop-i.i = c.from-at.ensures ∙ c.offset_at.ensures in
    let end : c.end_at.result ≡ g.K.EndKind.end c.args.order c.args.page.now (offset_of c.args.order c.args.page.now c.loop-i.i) =
    c.end_at.ensures ∙ ap (g.K.EndKind.end c.args.order c.args.page.now) at in
    let first : c.if-note_end.noted.first ≡ c.loop-i.noted.first =
    elim c.if-note_end.branch [ then-note_end w ↦ ap (λ (n : Noted). n.first) w.noted-is | else-note_end w ↦ ap (λ (n : Noted). n.first) w.noted-is ] in
    let places : c.if-note_end.noted.places ≡ c.loop-i.noted.places + cond c.note_end.result 1 0 =
    elim c.if-note_end.branch [
      | then-note_end w ↦ ap (λ (n : Noted). n.places) w.noted-is ∙ ap (λ b. c.loop-i.noted.places + cond b 1 0) (sym w.if-note_end.true)
      | else-note_end w ↦ ap (λ (n : Noted). n.places) w.noted-is ∙ (omega arith ∙ ap (λ b. c.loop-i.noted.places + cond b 1 0) (sym w.if-note_end.false))
    ] in
    record {
      ends = ends_next c.loop-i.ends c.note_end.new.ends c.loop-i.i c.from-at.result c.end_at.result (offset_of c.args.order c.args.page.now)
          (λ i. g.K.EndKind.end c.args.order c.args.page.now (offset_of c.args.order c.args.page.now i)) c.loop-i.invariant.ends c.note_end.ensures.noted at end
          (λ i lt same. ap (g.K.EndKind.end c.args.order c.args.page.now) same);
      same = ap length c.note_end.ensures.noted ∙ (length-set c.loop-i.ends c.from-at.result c.end_at.result ∙ c.loop-i.invariant.same);
      noted = noted_next c.loop-i.ends c.note_end.new.ends c.loop-i.noted.first c.loop-i.noted.places c.from-at.result c.end_at.result c.min.result
          c.if-note_end.noted.places c.note_end.result c.loop-i.invariant.noted
          (omega (arith, at, placed.some, placed.within, c.loop-i.invariant.same, c.requires.size))
          (omega (arith, placed.some, end)) c.note_end.ensures.noted c.note_end.ensures.first
          (c.min.ensures ∙ ap (λ (n : ℕ). min n c.from-at.result) first)
          places;
    }
