-- Where a reference of joined parts comes from, and that it fits.
use Rattle.std.proofs.Common.{◌≡◌, ◌⊎◌, ℕ, ◌+◌, ◌≤◌, true, false, List, [], Option, Some, None, arith, refl, ◌∙◌, subst, inl, inr, Contains}
use Rattle.bdb_graph.specs.of_format.declared.references.Reference.{Reference}
use Rattle.bdb_graph.specs.of_format.Terms.{File, Meta, Metadata, fails_as, first_row, fit_code, fit_rows, page_at, reference_faults, reference_rows, refs}
use Rattle.bdb_graph.specs.of_format.Terms.{some_fails}
use Rattle.bdb_graph.specs.of_format.Verdict.{holding}
use Rattle.bdb_graph.proofs.of_format.MemberLemmas.{none_pass}
use Rattle.bdb_graph.proofs.of_format.VerdictLemmas.{no_faults, none_holds}
use Rattle.bdb_pack.specs.of_law_grove.Part.{entrance_sort, entrance_asks}
use Rattle.bdb_law_join.specs.Joining.{Joint, AreJoined}
use Rattle.bdb_law_join.proofs.MetaLemmas.{NamesEntrance, names_entrance, asks_same}

-- a reference of a joint's metadata page to an entrance of its part
abbrev pub IsFromMeta : Joint → ℕ → Reference → Type 0
IsFromMeta j q r = (j.meta ≡ q) × NamesEntrance j.part.fields r

-- a reference that comes from the part itself, or from its metadata page
abbrev pub IsFrom : Joint → ℕ → Reference → Type 0
IsFrom j q r = IsFromMeta j q r ⊎ (j.part.pages q ≡ true)

pub page_of_meta : (file : File) (joints : List Joint) (j : Joint) (q : ℕ) → AreJoined file joints → Contains joints j → j.meta ≡ q
    → page_at file q ≡ Meta j.part.fields
page_of_meta file joints j q all member is = subst (λ m. page_at file m ≡ Meta j.part.fields) is (all.named j member)

-- each reference lands in the part of one joint, and comes from there
pub source : (file : File) (joints : List Joint) (q : ℕ) (r : Reference) → AreJoined file joints → q ≤ file.last → Contains (refs file q) r
    → (j : Joint) × Contains joints j × (j.part.pages r.target ≡ true) × IsFrom j q r
source file joints q r all high at =
    elim (all.shared_out.each q high) [
      | inl (j, member, is) ↦
          let names : NamesEntrance j.part.fields r =
          names_entrance file q j.part.fields r all.forest (page_of_meta file joints j q all member is)
          (λ zero. all.no_free j member (is ∙ zero)) at in
          (j, member, (all.parts j member).branch.grove.entered r.target names.target, inl (is, names))
      | inr (j, member, inside) ↦ (j, member, (all.parts j member).branch.grove.closed q r inside at, inr inside)
    ]

-- a reference into a part comes from this part or its metadata page
pub source_into : (file : File) (joints : List Joint) (j : Joint) (q p : ℕ) (r : Reference) → AreJoined file joints → Contains joints j
    → j.part.pages p ≡ true → q ≤ file.last → Contains (refs file q) r → r.target ≡ p → IsFrom j q r
source_into file joints j q p r all member inside high at names =
    let found = source file joints q r all high at in
    let lands : found.0.part.pages p ≡ true = subst (λ t. found.0.part.pages t ≡ true) names found.2 in
    subst (λ (k : Joint). IsFrom k q r) (all.shared_out.one_part found.0 j p found.1 member lands inside) found.3

-- a metadata page's reference fits
fits_from_meta : (file : File) (q : ℕ) (fields : Metadata) (r : Reference) → page_at file q ≡ Meta fields → r.sort ≡ entrance_sort fields
    → first_row (fit_rows file (entrance_asks fields) r.target) ≡ None → fit_code file q r ≡ None
unfolding fit_code
fits_from_meta file q fields r is sort fits = grind (arith, asks_same)

all_fit : (file : File) (joints : List Joint) (q : ℕ) (r : Reference) → AreJoined file joints → q ≤ file.last → Contains (refs file q) r
    → fit_code file q r ≡ None
all_fit file joints q r all high at =
    let found = source file joints q r all high at in
    elim found.3 [
      | inl (is, names) ↦
          fits_from_meta file q found.0.part.fields r (page_of_meta file joints found.0 q all found.1 is) names.sort
          ((all.parts found.0 found.1).entered.fit r.target names.target)
      | inr inside ↦ (all.parts found.0 found.1).branch.grove.fits q r inside at
    ]

fails_not : (code : ℕ) (fit : Option ℕ) → fit ≡ None → fails_as code fit ≡ false
fails_not code None none = refl
fails_not code (Some other) none = absurd cc

-- stage 3
pub references_none : (file : File) (joints : List Joint) → AreJoined file joints → reference_faults file ≡ []
unfolding reference_faults
references_none file joints all =
    no_faults 3 0 (file.last + 1) (λ p. holding (reference_rows file p)) (λ p low high.
    let fails : (code : ℕ) → some_fails file p code ≡ false =
    λ code. none_pass (λ r. fails_as code (fit_code file p r)) (refs file p)
    (λ r at. fails_not code (fit_code file p r) (all_fit file joints p r all (omega arith) at)) in
    none_holds (reference_rows file p) (fails 1, (fails 2, (fails 3, (fails 4, tt)))))
