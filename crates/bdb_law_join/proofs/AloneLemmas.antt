-- One part alone, under page 0.
use Rattle.std.proofs.Common.{◌≡◌, ◌⊎◌, ℕ, zero, suc, ◌+◌, ◌≤◌, true, false, [], ◌∷◌, None, arith, refl, sym, ◌∙◌, ap, subst, inl, inr, Contains}
use Rattle.std.proofs.lemmas.Bool.{cases_Bool, and_left, and_right}
use Rattle.bdb_graph.specs.of_format.Terms.{File, Meta, Metadata, databases, file_of, first_judgement, is_meta, is_named_kind, master_faults, master_in}
use Rattle.bdb_graph.specs.of_format.Terms.{master_pairs, master_rows, page_at, pairs_under}
use Rattle.bdb_graph.specs.of_format.Verdict.{holding}
use Rattle.bdb_graph.proofs.of_format.ListLemmas.{only_member}
use Rattle.bdb_graph.proofs.of_format.MemberLemmas.{first_member}
use Rattle.bdb_graph.proofs.of_format.VerdictLemmas.{AllFail, no_faults, none_holds}
use Rattle.bdb_pack.specs.of_law_grove.Part.{Part}
use Rattle.bdb_law_join.specs.Alone.{JoinsAlone, StandsAlone}
use Rattle.bdb_law_join.specs.Joining.{AreJoined, HoldsLists, IsInPartOf, IsMetaOf, Joint, ShareOut}
use Rattle.bdb_law_join.proofs.JoinLemmas.{joins_under_master}
use Rattle.bdb_law_join.proofs.RoleLemmas.{no_meta_inside}

-- the part under page 0
abbrev pub joint_of : Part → Joint
joint_of part = record { meta = 0; part = part }

-- The part is joined.

both_at_zero : (part : Part) (j : Joint) → Contains (joint_of part ∷ []) j → joint_of part ≡ j
both_at_zero part j at = only_member (joint_of part) j at

-- two joints of this list are one
one_joint : (part : Part) (j k : Joint) → Contains (joint_of part ∷ []) j → Contains (joint_of part ∷ []) k → j ≡ k
one_joint part j k one two = sym (both_at_zero part j one) ∙ both_at_zero part k two

-- what is so of the joint is so of each of the list
pub of_joint : (part : Part) (P : Joint → Type 0) → P (joint_of part) → (j : Joint) → Contains (joint_of part ∷ []) j → P j
of_joint part P is j at = subst P (both_at_zero part j at) is

each_shared : (file : File) (part : Part) (p : ℕ) → ((q : ℕ) → 1 ≤ q → q ≤ file.last → part.pages q ≡ true) → p ≤ file.last
    → IsMetaOf (joint_of part ∷ []) p ⊎ IsInPartOf (joint_of part ∷ []) p
each_shared file part zero all high = inl (joint_of part, first_member (joint_of part) [], refl)
each_shared file part (suc p) all high = inr (joint_of part, first_member (joint_of part) [], all (suc p) (omega arith) high)

-- page 0 and a part of all other pages share the file out
pub shared_alone : (file : File) (part : Part) → ((p : ℕ) → 1 ≤ p → p ≤ file.last → part.pages p ≡ true) → ShareOut file (joint_of part ∷ [])
shared_alone file part all =
    record {
      each = λ p high. each_shared file part p all high;
      meta_there = of_joint part (λ (j : Joint). j.meta ≤ file.last) (omega arith);
      one_part = λ j k p one two _ _. one_joint part j k one two;
    }

joined : (file : File) (part : Part) → StandsAlone file part → AreJoined file (joint_of part ∷ [])
joined file part alone = grind (arith, shared_alone, of_joint)

-- Stage 7: page 0 is no master, and no other page is metadata.

pub no_pairs_at : (file : File) (fields : Metadata) → page_at file 0 ≡ Meta fields → master_in (Meta fields) ≡ None → master_pairs file ≡ []
unfolding master_pairs
no_pairs_at file fields named none = ap (λ page. pairs_under file (master_in page)) named ∙ ap (pairs_under file) none

-- a page is of a named kind where it's metadata above page 0 alone
pub named_kind : (file : File) (p : ℕ) → (1 ≤ p → is_meta (page_at file p) ≡ true → ⊥) → is_named_kind file p ≡ false
named_kind file zero other = refl
named_kind file (suc p) other = grind (arith, cases_Bool, and_right)

pub no_other_meta : (file : File) (part : Part) (p : ℕ) → StandsAlone file part → 1 ≤ p → p ≤ file.last → is_meta (page_at file p) ≡ true → ⊥
no_other_meta file part p alone above high is =
    no_meta_inside file (joint_of part ∷ []) (joint_of part) p (joined file part alone) (first_member (joint_of part) []) (alone.all p above high) is

pub master_rows_fail : (file : File) (p : ℕ) → master_pairs file ≡ [] → is_named_kind file p ≡ false → AllFail (master_rows file p)
master_rows_fail file p none other = grind (arith, and_left)

master_none : (file : File) (part : Part) → StandsAlone file part → master_faults file ≡ []
unfolding master_faults
master_none file part alone =
    no_faults 7 0 (file.last + 1) (λ p. holding (master_rows file p)) (λ p low high.
    none_holds (master_rows file p)
    (master_rows_fail file p (no_pairs_at file part.fields alone.named alone.no_master)
    (named_kind file p (λ above is. no_other_meta file part p alone above (omega arith) is))))

-- Its databases.

-- page 0 that is no master is the database
pub unnamed_at : (file : File) (fields : Metadata) → page_at file 0 ≡ Meta fields → master_in (Meta fields) ≡ None
    → databases file ≡ record { name = None; fields = fields } ∷ []
unfolding databases
unnamed_at file fields named none = grind (arith, None)

pub joins_alone : JoinsAlone
joins_alone image part form alone =
    let file : File = file_of image in
    let holds : HoldsLists image (joint_of part ∷ []) =
    joins_under_master image (joint_of part ∷ []) (record { form = form; joined = joined file part alone }) (master_none file part alone) in
    record {
      sound = holds.sound;
      verdict = ap first_judgement holds.sound;
      alone = unnamed_at file part.fields alone.named alone.no_master;
      list = alone.is.list;
    }
