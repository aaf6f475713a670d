use Rattle.std.proofs.Common.{◌≡◌, ℕ, zero, suc, refl, ◌+◌, ◌<◌, ◌∙◌, length, arith, subst, sym}
use Rattle.std.proofs.lemmas.Bool.{eqb-false, eqb-true}
use Rattle.bdb_need.proofs.LevelLemmas.{KeysDone, keys_end, keys_few, keys_fewer, keys_next}
use Rattle.bdb_need.proofs.levels.levels_over_keys.Goals as goal

pos_of_ne : (n : ℕ) → (n ≡ 0 → ⊥) → 0 < n
pos_of_ne zero none = absurd (none refl)
pos_of_ne (suc n) none = omega arith

-- there is a level to count
some : (c : goal.After-len) → 0 < length c.loop-items.items.items
some c =
    let none = eqb-false _ _ (sym c.is_empty.ensures ∙ c.loop-items-test.true) in
    pos_of_ne (length c.loop-items.items.items) (λ zero_long. none (c.loop-items.items.ok.0 ∙ zero_long))

next : (c : goal.After-len)
    → KeysDone c.args.room c.args.items.items (c.loop-items.total + (1 + length c.keep_firsts.new.items.items)) c.keep_firsts.new.items.items
next c = keys_next c.args.room c.args.items.items c.loop-items.items.items c.keep_firsts.new.items.items c.loop-items.total (some c)
    c.keep_firsts.ensures c.loop-items.invariant

pub overflow_add-total-in-loop-items : goal.overflow_add-total-in-loop-items
overflow_add-total-in-loop-items c =
    let few = keys_few _ _ _ _ c.requires.fit (next c) in
    omega (arith, few, c.len.ensures, c.keep_firsts.new.items.ok.0)

pub loop-items-smaller : goal.loop-items-smaller
loop-items-smaller c = keys_fewer c.args.room c.loop-items.items.items c.keep_firsts.new.items.items c.keep_firsts.ensures c.loop-items.invariant.fit (some c)

pub loop-items-preserved : goal.loop-items-preserved
loop-items-preserved c =
    subst (λ n. KeysDone c.args.room c.args.items.items (c.loop-items.total + (1 + n)) c.keep_firsts.new.items.items)
    (sym (c.len.ensures ∙ c.keep_firsts.new.items.ok.0)) (next c)

pub returns-clause-pages : goal.returns-clause-pages
returns-clause-pages c first =
    keys_end c.args.room c.args.items.items c.loop-items.items.items c.loop-items.total first
    (sym c.loop-items.items.ok.0 ∙ eqb-true _ _ (sym c.is_empty.ensures ∙ c.loop-items-test.false)) c.loop-items.invariant

pub returns-clause-few : goal.returns-clause-few
returns-clause-few c = keys_few c.args.room c.args.items.items c.loop-items.items.items c.loop-items.total c.requires.fit c.loop-items.invariant
