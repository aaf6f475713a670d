use Rattle.std.proofs.Common.{◌≡◌, ◌∙◌, ◌+◌, ◌++◌, ap, arith, length, map, subst, sym}
use Rattle.std.specs.Vec.{with_items}
use Rattle.std.proofs.lemmas.List.{with_items_is}
use Rattle.bdb_image.specs.of_format.Terms.{file_of, fit_code}
use Rattle.bdb_image.specs.Buckets.{bucket_names}
use Rattle.bdb_graph.specs.Leaps.{HasLeaps}
use Rattle.bdb_image.specs.Noted.{misfits_of}
use Rattle.bdb_image.specs.of_slots.Slots.{placed}
use Rattle.bdb_graph.specs.Tallies.{AreTallies, owner}
use Rattle.bdb_graph.proofs.TableLemmas.{tallied_more}
use Rattle.bdb_graph.proofs.table.tally_buckets.Goals as goal

-- The buckets of this group are tallied, and judged.
pub groups-preserved : goal.groups-preserved
groups-preserved c =
    let len : length c.note_run.new.leaps ≡ c.groups.pages.leaps.len =
    c.note_run.auto.leaps ∙ (ap length c.deref_mut.ensures.value ∙ sym c.groups.pages.leaps.ok.0) in
    let items : (with_items c.groups.pages.leaps c.note_run.new.leaps).items ≡ c.note_run.new.leaps =
    with_items_is c.groups.pages.leaps c.note_run.new.leaps len in
    tallied_more (file_of c.args.formed.now) c.args.tallies.now c.groups.tallies c.note_run.new.tallies c.groups.pages
    (record { fits = c.groups.pages.fits; leaps = with_items c.groups.pages.leaps c.note_run.new.leaps }) c.groups.misfits c.misfits.result
    c.both-misfits.result c.args.holder c.args.buckets.now c.groups.bucket c.run_from-run.result.first c.run_from-run.result.len c.groups.invariant
    c.run_from-run.ensures.names c.run_from-run.ensures.within
    (record { fits = c.groups.invariant.known.fits; leaps = subst (HasLeaps c.note_run.new.tallies) (sym items) c.note_run.ensures.leaps })
    c.note_run.ensures.tallies (λ place. c.misfits.ensures c.args.holder place) c.both-misfits.ensures

-- The last bucket is passed.
pub returns-clause-tallies : goal.returns-clause-tallies
returns-clause-tallies c = λ os place are.
    let all : c.groups.bucket ≡ c.args.buckets.now.max_bucket + 1 = omega (arith, c.groups.invariant.low) in
    subst (λ n. AreTallies c.groups.tallies (os ++ map (owner c.args.holder) (placed place (bucket_names c.args.buckets.now.spares 0 n)))) all
    (c.groups.invariant.tallied os place are)

pub returns-clause-misfits : goal.returns-clause-misfits
returns-clause-misfits c = λ place.
    let all : c.groups.bucket ≡ c.args.buckets.now.max_bucket + 1 = omega (arith, c.groups.invariant.low) in
    subst (λ n. c.groups.misfits ≡ misfits_of (fit_code (file_of c.args.formed.now) c.args.holder) (placed place (bucket_names c.args.buckets.now.spares 0 n)))
    all
    (c.groups.invariant.judged place)
