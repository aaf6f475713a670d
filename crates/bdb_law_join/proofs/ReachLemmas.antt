-- Each page of joined parts reaches: the way up to an entrance goes on to its metadata page.
use Rattle.std.proofs.Common.{◌≡◌, ℕ, ◌<◌, ◌≤◌, true, List, [], ◌∷◌, length, Some, arith, refl, sym, ◌∙◌, ap, subst, inl, inr, Contains}
use Rattle.std.proofs.lemmas.Bool.{or_left}
use Rattle.bdb_graph.specs.of_format.Terms.{File, Owner, first_holder, is_anchor, is_reserve, owners, reaches}
use Rattle.bdb_graph.proofs.of_format.GraphLemmas.{IsOwner, is_owner}
use Rattle.bdb_graph.proofs.of_format.MemberLemmas.{first_member, member_or_not}
use Rattle.bdb_graph.specs.Marks.{IsFit}
use Rattle.bdb_graph.proofs.ReachLemmas.{at_end, reaches_onward}
use Rattle.bdb_pack.specs.of_law_grove.Part.{IsWayIn, entrances}
use Rattle.bdb_pack.proofs.of_law_grove.BesideLemmas.{first_inside}
use Rattle.bdb_law_join.specs.Joining.{Joint, AreJoined}
use Rattle.bdb_law_join.proofs.SourceLemmas.{source_into, references_none}
use Rattle.bdb_law_join.proofs.RoleLemmas.{entrance_count, inner_owners, joint_is_anchor}

one_owner : (os : List Owner) → length os ≡ 1 → (owner : Owner) × Contains os owner × (first_holder os ≡ Some owner.holder)
one_owner [] one = absurd (omega (arith, one))
one_owner (owner ∷ os) one = (owner, first_member owner os, refl)

-- the only owner of an entrance is its metadata page
entrance_holder : (file : File) (joints : List Joint) (j : Joint) (e : ℕ) → AreJoined file joints → Contains joints j
    → Contains (entrances j.part.fields) e → first_holder (owners file e) ≡ Some j.meta
entrance_holder file joints j e all member entrance =
    let first = one_owner (owners file e) (entrance_count file joints j e all member entrance) in
    let is : IsOwner file e first.0 = is_owner file e first.0 first.1 in
    let lands : j.part.pages e ≡ true = (all.parts j member).branch.grove.entered e entrance in
    elim (source_into file joints j first.0.holder e first.0.reference all member lands is.inside is.held is.names) [
      | inl (same, named) ↦ first.2 ∙ ap (λ h. Some h) (sym same)
      | inr inside ↦
          absurd ((all.parts j member).branch.grove.apart first.0.holder first.0.reference inside is.held
          (subst (Contains (entrances j.part.fields)) (sym is.names) entrance))
    ]

meta_reaches : (file : File) (joints : List Joint) (j : Joint) → AreJoined file joints → Contains joints j → reaches file j.meta ≡ true
meta_reaches file joints j all member =
    at_end file file.count j.meta (or_left (is_anchor file j.meta) (is_reserve file j.meta) (joint_is_anchor file joints j all member))

-- no page of the part names an entrance, so a way in ends there, and goes on to the metadata page
way_reaches : (file : File) (joints : List Joint) (j : Joint) (p : ℕ) (hs : List ℕ) → IsFit file → AreJoined file joints → Contains joints j
    → j.part.pages p ≡ true → IsWayIn file j.part.pages (entrances j.part.fields) p hs → reaches file p ≡ true
way_reaches file joints j p [] fit all member inside entrance =
    reaches_onward file p j.meta fit (entrance_holder file joints j p all member entrance) ∙ meta_reaches file joints j all member
way_reaches file joints j p (h ∷ hs) fit all member inside way =
    elim (member_or_not (entrances j.part.fields) p) [
      | inl entrance ↦
          reaches_onward file p j.meta fit (entrance_holder file joints j p all member entrance) ∙ meta_reaches file joints j all member
      | inr inner ↦
          reaches_onward file p h fit (ap first_holder (inner_owners file joints j p all member inside inner) ∙ way.0)
          ∙ way_reaches file joints j h hs fit all member (first_inside j.part.pages file p h way.0) way.1
    ]

-- stage 5, page by page
pub reached : (file : File) (joints : List Joint) (p : ℕ) → AreJoined file joints → file.last < file.count → p ≤ file.last → reaches file p ≡ true
reached file joints p all there high =
    elim (all.shared_out.each p high) [
      | inl (j, member, is) ↦ subst (λ q. reaches file q ≡ true) is (meta_reaches file joints j all member)
      | inr (j, member, inside) ↦
          let way = (all.parts j member).branch.grove.led p inside in
          way_reaches file joints j p way.0 (record { references = references_none file joints all; there = there }) all member inside way.1
    ]
