-- Whether anything was noted.
use Rattle.std.proofs.Common.{◌≡◌, List, [], ◌∷◌, length, refl, sym, ◌∙◌, ap, arith, ◌==◌, true, false}
use Rattle.std.proofs.lemmas.Bool.{eq-eqb, eqb-true}
use Rattle.bdb_format.specs.declared.kinds.Fault.{Fault}
use Rattle.bdb_format.proofs.MemberLemmas.{is_empty, no_member}
use Rattle.bdb_btree.specs.of_faults.Notes.{NotesAll}
use Rattle.bdb_btree.proofs.of_faults.SinkLemmas.{noted_all}

module _ (before after : List Fault → Type 0) (faults : List Fault) (begun : before []) (all : NotesAll before after faults) where
  pub none_noted : ((noted : List Fault) → after noted → true ≡ (length noted == 0)) → faults ≡ []
  none_noted says =
      let it = noted_all before after faults begun all in
      let none : length it.0 ≡ 0 = eqb-true (length it.0) 0 (sym (says it.0 it.1)) in
      is_empty faults (λ fault at. no_member it.0 fault (empty it.0 none) ((it.2 fault).1 at))
    where
      empty : (xs : List Fault) → length xs ≡ 0 → xs ≡ []
      empty [] none = refl
      empty (x ∷ xs) none = absurd (omega arith)

  pub some_noted : ((noted : List Fault) → after noted → false ≡ (length noted == 0)) → faults ≡ [] → ⊥
  some_noted says none =
      let it = noted_all before after faults begun all in
      let nothing : it.0 ≡ [] = is_empty it.0 (λ fault at. no_member faults fault none ((it.2 fault).0 at)) in
      let zero : (length it.0 == 0) ≡ true = eq-eqb (length it.0) 0 (ap length nothing) in
      let bad : false ≡ true = says it.0 it.1 ∙ zero in
      absurd cc
