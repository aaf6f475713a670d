-- The faults of the first five stages in the order in which they are noted. Source: docs/FORMAT.md, "Faults".
use Rattle.std.specs.Prelude.{ℕ, ◌++◌, ◌||◌, false, List, map, Option}
use Rattle.std.specs.List.{list_any}
use Rattle.bdb_faults.specs.of_format.declared.kinds.Fault.{Fault}
use Rattle.bdb_faults.specs.of_format.declared.references.Reference.{Reference}
use Rattle.bdb_faults.specs.of_format.Terms.{fails_as, fault_if}
use Rattle.bdb_faults.specs.of_format.declared.rows.ReferenceRow.TheVariants.{OutOfRange, WrongKind, WrongLevel, WrongBack}
use Rattle.bdb_faults.specs.of_format.declared.rows.Row.TheVariants.{Reference as ReferenceRow}
use Rattle.bdb_image.specs.declared.fits.Misfits.{Misfits}

-- the faults of a stage at a page, by the codes that hold there
abbrev pub page_faults : ℕ → ℕ → List ℕ → List Fault
page_faults stage page codes = map (λ code. record { stage = stage; page = page; code = code }) codes

abbrev pub no_misfits : Misfits
no_misfits = record { target = false; page_type = false; level = false; previous = false }

-- with which codes some of these references fail
abbrev pub misfits_of : (Reference → Option ℕ) → List Reference → Misfits
misfits_of fit references = record {
  target = list_any (λ reference. fails_as 1 (fit reference)) references;
  page_type = list_any (λ reference. fails_as 2 (fit reference)) references;
  level = list_any (λ reference. fails_as 3 (fit reference)) references;
  previous = list_any (λ reference. fails_as 4 (fit reference)) references;
}

-- the same, with one more reference
abbrev pub more_misfits : Misfits → Option ℕ → Misfits
more_misfits misfits code = record {
  target = misfits.target || fails_as 1 code;
  page_type = misfits.page_type || fails_as 2 code;
  level = misfits.level || fails_as 3 code;
  previous = misfits.previous || fails_as 4 code;
}

-- the same, with others behind them
abbrev pub both_misfits : Misfits → Misfits → Misfits
both_misfits a b = record {
  target = a.target || b.target;
  page_type = a.page_type || b.page_type;
  level = a.level || b.level;
  previous = a.previous || b.previous;
}

-- the faults of the references of a page
abbrev pub misfit_faults : Misfits → ℕ → List Fault
misfit_faults misfits page =
    fault_if (ReferenceRow OutOfRange) page misfits.target
    ++ (fault_if (ReferenceRow WrongKind) page misfits.page_type
    ++ (fault_if (ReferenceRow WrongLevel) page misfits.level ++ fault_if (ReferenceRow WrongBack) page misfits.previous))
