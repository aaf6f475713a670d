use Rattle.std.proofs.Common.{ap, sym, subst}
use Rattle.bdb_mktree.proofs.Common.{first_leaf, IsKeyedPushed, unit_seen}
use Rattle.bdb_mktree.proofs.BuildingLemmas.{before_kept, building_pushed, entry_keyed}
use Rattle.bdb_mktree.proofs.builder.TreeBuilder.push.Goals as goal

pub returns-in_ok-push_keyed-in-Keyed-clause-building : goal.returns-in_ok-push_keyed-in-Keyed-clause-building
returns-in_ok-push_keyed-in-Keyed-clause-building c =
    (building_pushed c.args.self.now c.push_keyed.new.self c.args.pages.now c.push_keyed.new.pages (unit_seen c.args.unit.now) c.requires.building
    (subst (IsKeyedPushed c.args.self.now.leaves c.push_keyed.new.self c.args.pages.now c.push_keyed.new.pages c.args.self.now.settings.sorted)
    (sym (ap unit_seen c.in-Keyed.is)) c.in_ok-push_keyed-in-Keyed.ensures.pushed)
    c.requires.suits c.requires.next).0

pub returns-in_ok-push_keyed-in-Keyed-clause-units : goal.returns-in_ok-push_keyed-in-Keyed-clause-units
returns-in_ok-push_keyed-in-Keyed-clause-units c =
    (building_pushed c.args.self.now c.push_keyed.new.self c.args.pages.now c.push_keyed.new.pages (unit_seen c.args.unit.now) c.requires.building
    (subst (IsKeyedPushed c.args.self.now.leaves c.push_keyed.new.self c.args.pages.now c.push_keyed.new.pages c.args.self.now.settings.sorted)
    (sym (ap unit_seen c.in-Keyed.is)) c.in_ok-push_keyed-in-Keyed.ensures.pushed)
    c.requires.suits c.requires.next).1

pub returns-in_ok-push_keyed-in-Keyed-clause-kept : goal.returns-in_ok-push_keyed-in-Keyed-clause-kept
returns-in_ok-push_keyed-in-Keyed-clause-kept c =
    let building = c.requires.building in
    before_kept c.args.self.now.leaves c.args.pages.now c.push_keyed.new.pages (first_leaf c.args.self.now.leaves) building.closed building.units
    building.counted.filled c.in_ok-push_keyed-in-Keyed.ensures.pushed.pushed.kept

pub returns-in_ok-push_entry-in-Entry-clause-building : goal.returns-in_ok-push_entry-in-Entry-clause-building
returns-in_ok-push_entry-in-Entry-clause-building c =
    (building_pushed c.args.self.now c.push_entry.new.self c.args.pages.now c.push_entry.new.pages (unit_seen c.args.unit.now) c.requires.building
    (subst (IsKeyedPushed c.args.self.now.leaves c.push_entry.new.self c.args.pages.now c.push_entry.new.pages c.args.self.now.settings.sorted)
    (sym (ap unit_seen c.in-Entry.is))
    (entry_keyed c.args.self.now.leaves c.push_entry.new.self c.args.pages.now c.push_entry.new.pages c.args.self.now.settings.sorted
    c.in-Entry.value.now c.in-Entry.deleted c.in_ok-push_entry-in-Entry.ensures.pushed))
    c.requires.suits c.requires.next).0

pub returns-in_ok-push_entry-in-Entry-clause-units : goal.returns-in_ok-push_entry-in-Entry-clause-units
returns-in_ok-push_entry-in-Entry-clause-units c =
    (building_pushed c.args.self.now c.push_entry.new.self c.args.pages.now c.push_entry.new.pages (unit_seen c.args.unit.now) c.requires.building
    (subst (IsKeyedPushed c.args.self.now.leaves c.push_entry.new.self c.args.pages.now c.push_entry.new.pages c.args.self.now.settings.sorted)
    (sym (ap unit_seen c.in-Entry.is))
    (entry_keyed c.args.self.now.leaves c.push_entry.new.self c.args.pages.now c.push_entry.new.pages c.args.self.now.settings.sorted
    c.in-Entry.value.now c.in-Entry.deleted c.in_ok-push_entry-in-Entry.ensures.pushed))
    c.requires.suits c.requires.next).1

pub returns-in_ok-push_entry-in-Entry-clause-kept : goal.returns-in_ok-push_entry-in-Entry-clause-kept
returns-in_ok-push_entry-in-Entry-clause-kept c =
    let building = c.requires.building in
    before_kept c.args.self.now.leaves c.args.pages.now c.push_entry.new.pages (first_leaf c.args.self.now.leaves) building.closed building.units
    building.counted.filled c.in_ok-push_entry-in-Entry.ensures.pushed.kept
