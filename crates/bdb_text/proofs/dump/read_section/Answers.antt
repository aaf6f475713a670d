use Rattle.std.proofs.Common.{◌≡◌, ◌+◌, refl, rules, Err}
use Rattle.bdb_text.specs.Fields.{values_in}
use Rattle.bdb_text.specs.DataTo.{IsDataFault}
use Rattle.bdb_text.specs.ReadTo.{IsHeaderFault}
use Rattle.bdb_text.specs.SectionTo.{IsSectionFault, names_of}
use Rattle.bdb_text.proofs.SectionLemmas.{data_fault_is, end_fault_is, first_fault, header_fault, on_more, section_is_read}
use Rattle.bdb_text.proofs.dump.read_section.Goals as goal

pub returns-in-Some-clause-err : goal.returns-in-Some-clause-err
returns-in-Some-clause-err c =
    rw c.fault_at.ensures
    (first_fault (names_of c.args.earlier.now) c.args.text.now c.cut_line-first.result.line.now _ c.args.start c.in-Some.reason c.cut_line-first.ensures.lines
    c.in-Some.ensures)

pub returns-in_err-header-clause-err : goal.returns-in_err-header-clause-err
returns-in_err-header-clause-err c =
    let error = c.in_err-header.field-0.0 in
    let is : c.from_residual.result ≡ Err error = search rules in
    rw is
    (on_more (IsHeaderFault c.cut_line-first.result.rest.now (c.args.start + 1)) (IsSectionFault (names_of c.args.earlier.now) c.args.text.now c.args.start)
    error
    (λ fault is. header_fault (names_of c.args.earlier.now) c.args.text.now c.cut_line-first.result.line.now c.cut_line-first.result.rest.now c.args.start fault
    c.cut_line-first.ensures.lines
    c.in_default.ensures is)
    c.in_err-header.ensures.err)

pub returns-in-Some-end_reason-clause-err : goal.returns-in-Some-end_reason-clause-err
returns-in-Some-end_reason-clause-err c =
    let named = rw c.deref.ensures.value at c.in_ok-name.ensures.ok in
    let reason = rw c.deref-2.ensures.value at c.in-Some-end_reason.ensures in
    rw c.fault_at-in-Some-end_reason.ensures
    (end_fault_is (names_of c.args.earlier.now) c.args.text.now c.cut_line-first.result.line.now c.cut_line-first.result.rest.now c.args.start
    c.in_ok-header.header
    c.in_ok-name.name
    c.in-Some-end_reason.reason c.cut_line-first.ensures.lines c.in_default.ensures c.in_ok-header.ensures.ok named reason)

pub returns-in_err-data-clause-err : goal.returns-in_err-data-clause-err
returns-in_err-data-clause-err c =
    let named = rw c.deref.ensures.value at c.in_ok-name.ensures.ok in
    let none = rw c.deref-2.ensures.value at c.in_default-end_reason.ensures in
    let told = rw c.deref-3.ensures.value at c.in_err-data.ensures.err in
    let error = c.in_err-data.field-0.0 in
    let is : c.from_residual-in_err-data.result ≡ Err error = search rules in
    rw is
    (on_more (IsDataFault (values_in c.in_ok-header.header.fields.items) c.in_ok-header.header.rest.now (c.in_ok-header.header.number + 1))
    (IsSectionFault (names_of c.args.earlier.now) c.args.text.now c.args.start) error
    (λ fault is. data_fault_is (names_of c.args.earlier.now) c.args.text.now c.cut_line-first.result.line.now c.cut_line-first.result.rest.now c.args.start
    c.in_ok-header.header c.in_ok-name.name fault
    c.cut_line-first.ensures.lines c.in_default.ensures c.in_ok-header.ensures.ok named none is)
    told)

pub returns-clause-ok : goal.returns-clause-ok
returns-clause-ok c =
    let named = rw c.deref.ensures.value at c.in_ok-name.ensures.ok in
    let none = rw c.deref-2.ensures.value at c.in_default-end_reason.ensures in
    let read = rw c.deref-3.ensures.value at c.in_ok-data.ensures.ok in
    let settings = rw c.deref-4.ensures.value at c.settings_in.ensures in
    section_is_read (names_of c.args.earlier.now) c.args.text.now c.cut_line-first.result.line.now c.cut_line-first.result.rest.now c.args.start
    c.in_ok-header.header
    c.in_ok-name.name _
    c.in_ok-data.data c.cut_line-first.ensures.lines c.in_default.ensures c.in_ok-header.ensures.ok named none read (rw settings refl) refl refl
