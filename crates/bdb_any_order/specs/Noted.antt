-- What the checks of a file note. Source: docs/FORMAT.md, "Faults".
use Rattle.std.specs.Prelude.{◌≡◌, ℕ, ◌==◌, ◌&&◌, not, if◌then◌else◌, Bool, true, List, [], length}
use Rattle.std.specs.List.{filter, flat_map}
use Rattle.std.specs.Option.{is_some}
use Rattle.bdb_any_order.specs.declared.rows.Which.{Which}
use Rattle.bdb_any_order.specs.declared.rows.Which.TheVariants.{Each, Master, Others}
use Rattle.bdb_any_order.specs.AnyOrder.{is_of_order}
use Rattle.bdb_any_order.specs.Contents.{faults_on}
use Rattle.bdb_btree.specs.of_format.declared.kinds.Fault.{Fault}
use Rattle.bdb_btree.specs.of_format.Terms.{File, master_in, page_at}
use Rattle.bdb_btree.specs.of_image.Linked.{meta_pages}

-- a fault that isn't of order
abbrev pub is_other : Fault → Bool
is_other fault = not (is_of_order fault)

-- a sink before another has noted some faults: it says whether there are any, and the other has those that aren't of order
pub record HasNotedOthers {Sink : Type 0} (has : Sink → List Fault → Type 0) (found : Sink) (empty : Bool) (faults : List Fault) : Type 0 where
  pub others : has found (filter is_other faults)
  pub says : empty ≡ (length faults == 0)

-- the metadata of a master is on a page
abbrev pub is_master : File → ℕ → Bool
is_master file p = p == 0 && is_some (master_in (page_at file p))

-- a database is among those that are asked for: the master, or another one
abbrev pub is_asked : Which → Bool → Bool
is_asked Each master = true
is_asked Master master = master
is_asked Others master = not master

-- the faults of the database with its metadata on a page, if it's asked for
abbrev pub asked_on : Which → File → ℕ → List Fault
asked_on which file p = if is_asked which (is_master file p) then faults_on file p else []

-- the faults of all that are asked for
abbrev pub by_asked : Which → File → List Fault
by_asked which file = flat_map (asked_on which file) (meta_pages file)
