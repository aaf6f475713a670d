-- The owners and the role of each page of joined parts.
use Rattle.std.proofs.Common.{◌≡◌, ◌⊎◌, ℕ, ◌≤◌, true, false, List, [], ◌∷◌, length, arith, refl, sym, ◌∙◌, ap, subst, inl, inr, true≢false, ◌==◌, ◌&&◌}
use Rattle.std.proofs.Common.{Contains}
use Rattle.std.proofs.lemmas.Bool.{eqb-false}
use Rattle.bdb_graph.specs.of_format.declared.metadata.FileKind.{FileKind}
use Rattle.bdb_graph.specs.of_format.declared.metadata.FileKind.TheVariants.{Btree, Hash as HashFile, Queue as QueueFile}
use Rattle.bdb_graph.specs.of_format.Terms.{BtreeFields, File, HasRole, HashFields, IsOwnedOnce, IsSharedHead, Metadata, Owner, Page, QueueFields}
use Rattle.bdb_graph.specs.of_format.Terms.{has_heads_alone, header_in, is_anchor, is_anchor_in, is_head_reference, is_meta, owners, page_at}
use Rattle.bdb_graph.proofs.of_format.GraphLemmas.{IsOwner, is_owner, anchor_unowned}
use Rattle.bdb_graph.proofs.of_format.MemberLemmas.{first_member, member_or_not}
use Rattle.bdb_pack.specs.of_law_grove.Part.{IsOwnedBy, are_heads_alone, entrances, entrance_sort, owners_among}
use Rattle.bdb_pack.proofs.of_law_grove.SeveralLemmas.{count, some_count}
use Rattle.bdb_law_join.specs.Joining.{Joint, AreJoined}
use Rattle.bdb_law_join.proofs.OwnerLemmas.{owners_are, owners_of_one}
use Rattle.bdb_law_join.proofs.MetaLemmas.{count_of_meta}
use Rattle.bdb_law_join.proofs.SourceLemmas.{source_into, references_none}

-- Owners.

-- the owners of an entrance are the references of its metadata page
entrance_owners : (file : File) (joints : List Joint) (j : Joint) (e : ℕ) → AreJoined file joints → Contains joints j
    → Contains (entrances j.part.fields) e → owners file e ≡ owners_among (λ q. q == j.meta) file e
entrance_owners file joints j e all member entrance =
    let lands : j.part.pages e ≡ true = (all.parts j member).branch.grove.entered e entrance in
    owners_are (λ q. q == j.meta) file e (λ q high other r at names.
    elim (source_into file joints j q e r all member lands high at names) [
      | inl (is, named) ↦ eqb-false q j.meta other (sym is)
      | inr inside ↦ (all.parts j member).branch.grove.apart q r inside at (subst (Contains (entrances j.part.fields)) (sym names) entrance)
    ])

-- the owners of another page of a part are pages of the part
pub inner_owners : (file : File) (joints : List Joint) (j : Joint) (p : ℕ) → AreJoined file joints → Contains joints j → j.part.pages p ≡ true
    → (Contains (entrances j.part.fields) p → ⊥) → owners file p ≡ owners_among j.part.pages file p
inner_owners file joints j p all member inside inner =
    owners_are j.part.pages file p (λ q high other r at names.
    elim (source_into file joints j q p r all member inside high at names) [
      | inl (is, named) ↦ inner (subst (Contains (entrances j.part.fields)) names named.target)
      | inr within ↦ true≢false (sym within ∙ other)
    ])

-- Roles.

-- an entrance has one owner
pub entrance_count : (file : File) (joints : List Joint) (j : Joint) (e : ℕ) → AreJoined file joints → Contains joints j
    → Contains (entrances j.part.fields) e → length (owners file e) ≡ 1
entrance_count file joints j e all member entrance =
    let counted : length (owners file e) ≡ count e (entrances j.part.fields) =
    ap length (entrance_owners file joints j e all member entrance)
    ∙ (ap length (owners_of_one file j.meta e (all.shared_out.meta_there j member))
    ∙ count_of_meta file j.meta e j.part.fields all.forest (all.named j member) (all.no_free j member)) in
    let few : count e (entrances j.part.fields) ≤ 1 = (all.parts j member).entered.once e in
    let some : 1 ≤ count e (entrances j.part.fields) = some_count e (entrances j.part.fields) entrance in
    omega arith

-- some owners, none of which names the head of a chain
not_heads : (os : List Owner) → 1 ≤ length os → ((owner : Owner) → Contains os owner → is_head_reference owner.reference.sort ≡ false)
    → are_heads_alone os ≡ false
not_heads [] some none = absurd (omega arith)
not_heads (owner ∷ os) some none = ap (λ b. b && are_heads_alone os) (none owner (first_member owner os))

entrance_no_head : (fields : Metadata) → is_head_reference (entrance_sort fields) ≡ false
entrance_no_head (BtreeFields meta) = refl
entrance_no_head (HashFields meta) = refl
entrance_no_head (QueueFields meta) = refl

entrance_heads : (file : File) (joints : List Joint) (j : Joint) (e : ℕ) → AreJoined file joints → Contains joints j
    → Contains (entrances j.part.fields) e → has_heads_alone file e ≡ false
entrance_heads file joints j e all member entrance =
    let lands : j.part.pages e ≡ true = (all.parts j member).branch.grove.entered e entrance in
    let counted : length (owners file e) ≡ 1 = entrance_count file joints j e all member entrance in
    not_heads (owners file e) (omega arith) (λ owner at.
    let is : IsOwner file e owner = is_owner file e owner at in
    elim (source_into file joints j owner.holder e owner.reference all member lands is.inside is.held is.names) [
      | inl (same, named) ↦ ap is_head_reference named.sort ∙ entrance_no_head j.part.fields
      | inr inside ↦
          absurd ((all.parts j member).branch.grove.apart owner.holder owner.reference inside is.held
          (subst (Contains (entrances j.part.fields)) (sym is.names) entrance))
    ])

meta_anchor : (kind : FileKind) (page : Page) → is_meta page ≡ true → is_anchor_in kind page ≡ true
meta_anchor Btree page is = is
meta_anchor HashFile page is = is
meta_anchor QueueFile page is = refl

meta_is_anchor : (file : File) (p : ℕ) → is_meta (page_at file p) ≡ true → is_anchor file p ≡ true
unfolding is_anchor
meta_is_anchor file p is = meta_anchor file.kind (page_at file p) is

pub joint_is_anchor : (file : File) (joints : List Joint) (j : Joint) → AreJoined file joints → Contains joints j → is_anchor file j.meta ≡ true
joint_is_anchor file joints j all member = meta_is_anchor file j.meta (ap is_meta (all.named j member))

owned_role : (file : File) (p : ℕ) (os : List Owner) → owners file p ≡ os → IsOwnedBy os (header_in (page_at file p)).entries
    → IsOwnedOnce file p ⊎ IsSharedHead file p
owned_role file p os same owned = subst (λ xs. IsOwnedBy xs (header_in (page_at file p)).entries) (sym same) owned

part_role : (file : File) (joints : List Joint) (j : Joint) (p : ℕ) → AreJoined file joints → Contains joints j → j.part.pages p ≡ true
    → IsOwnedOnce file p ⊎ IsSharedHead file p
part_role file joints j p all member inside =
    elim (member_or_not (entrances j.part.fields) p) [
      | inl entrance ↦
          inl (
            entrance_count file joints j p all member entrance,
            λ heads. absurd (true≢false (sym heads ∙ entrance_heads file joints j p all member entrance)),
          )
      | inr inner ↦
          owned_role file p (owners_among j.part.pages file p) (inner_owners file joints j p all member inside inner)
          ((all.parts j member).branch.grove.owned p inside inner)
    ]

pub role_of : (file : File) (joints : List Joint) (p : ℕ) → AreJoined file joints → p ≤ file.last → HasRole file p
role_of file joints p all high =
    elim (all.shared_out.each p high) [
      | inl (j, member, is) ↦ inl (subst (λ q. is_anchor file q ≡ true) is (joint_is_anchor file joints j all member))
      | inr (j, member, inside) ↦ inr (inr (part_role file joints j p all member inside))
    ]

-- No page of a part is metadata, which has no owner.

not_owned : (file : File) (p : ℕ) → owners file p ≡ [] → IsOwnedOnce file p ⊎ IsSharedHead file p → ⊥
not_owned file p none (inl (one, counts)) = omega (arith, ap length none)
not_owned file p none (inr (heads, some, few)) = omega (arith, ap length none)

pub no_meta_inside : (file : File) (joints : List Joint) (j : Joint) (p : ℕ) → AreJoined file joints → Contains joints j → j.part.pages p ≡ true
    → is_meta (page_at file p) ≡ true → ⊥
no_meta_inside file joints j p all member inside is =
    not_owned file p (anchor_unowned file p (references_none file joints all) (meta_is_anchor file p is))
    (part_role file joints j p all member inside)
