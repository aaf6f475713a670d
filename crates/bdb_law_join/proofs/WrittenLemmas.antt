-- A tree under metadata that is written over page 0.
use Rattle.std.proofs.Common.{◌≡◌, ℕ, ◌+◌, ◌≤◌, true, List, [], ◌∷◌, length, None, set, arith, refl, sym, ◌∙◌, Contains}
use Rattle.std.proofs.lemmas.List.{get_or-set_other, get_or-set_same, length-set}
use Rattle.bdb_graph.specs.of_format.declared.metadata.BtreeMeta.{BtreeMeta}
use Rattle.bdb_graph.specs.of_format.Terms.{File, ListKey, head_of, page_code}
use Rattle.bdb_graph.proofs.of_format.MemberLemmas.{first_member}
use Rattle.bdb_graph.proofs.of_format.FileLemmas.{last_page}
use Rattle.bdb_pack.specs.of_law_grove.Growing.{IsCounted, IsLater}
use Rattle.bdb_pack.specs.of_law_grove.Part.{IsPart, Part}
use Rattle.bdb_pack.proofs.of_law_grove.ChainLemmas.{between_is, is_between}
use Rattle.bdb_pack.specs.Built.{Built, bytes_of, file_so_far, with_page}
use Rattle.bdb_pack.proofs.CutLemmas.{page_whole}
use Rattle.bdb_law_join.specs.Filed.{AreFiled, IsSpelled}
use Rattle.bdb_law_join.specs.Joining.{IsJoined, Joint}
use Rattle.bdb_law_join.specs.Written.{HoldsTree, IsWritten, WrittenPagesAreRead, WrittenTreesAreSound, tree_part}
use Rattle.bdb_law_join.proofs.AloneLemmas.{joint_of, joins_alone, of_joint, shared_alone}
use Rattle.bdb_law_join.proofs.FiledLemmas.{IsTopped, btrees_are_spelled, filed_parts_are_joined, has_head, page_length, read_back}

-- the pages after page 0 is written over
topped : (built : Built) (page : List ℕ) (meta : BtreeMeta) (image : List ℕ) → IsWritten built page meta image
    → IsTopped (with_page built 0 page) meta image
topped built page meta image is = grind (arith, set, length-set, get_or-set_same, page_whole, page_length)

pub written_pages_are_read : WrittenPagesAreRead
written_pages_are_read built page meta image is =
    let top = topped built page meta image is in
    (has_head (with_page built 0 page) meta image top, read_back (with_page built 0 page) meta image top)

-- the pages above page 0 stay
pub above_stay : (built : Built) (page : List ℕ) (p : ℕ) → 1 ≤ p → bytes_of (with_page built 0 page) p ≡ bytes_of built p
above_stay built page p above = get_or-set_other built.pages 0 p page [] (λ same. omega (arith, above, same))

-- the tree under page 0
filed : (built : Built) (page : List ℕ) (meta : BtreeMeta) (list : List (ListKey × List ℕ)) (image : List ℕ) → HoldsTree built meta list
    → IsWritten built page meta image → AreFiled built (with_page built 0 page) (joint_of (tree_part built meta list) ∷ [])
filed built page meta list image holds is =
    record {
      pages = top.pages;
      order = refl;
      grows = sym count;
      first = (joint_of part, first_member (joint_of part) [], refl);
      top = meta;
      spells = top.spells;
      shared_out = shared_alone (file_so_far after) part
          (λ p above high. is_between 1 (length built.pages) p above (omega (arith, high, count, is.pages.some)));
      spelled = of_joint part (IsSpelled after)
          (btrees_are_spelled after (joint_of part) meta top.pages (omega (arith, top.pages.some)) refl top.spells (λ zero. holds.no_free));
      same = λ j p member inside.
          of_joint part (λ (k : Joint). k.part.pages p ≡ true → bytes_of after p ≡ bytes_of built p)
          (λ within. above_stay built page p (between_is 1 (length built.pages) p within).0) j member inside;
      parts = of_joint part (λ (k : Joint). (g : File) → IsCounted g → IsLater k.part.pages (file_so_far built) g → IsPart g k.part) holds.part;
      formed = λ j p member inside.
          of_joint part (λ (k : Joint). k.part.pages p ≡ true → page_code built.order p (bytes_of built p) ≡ None)
          (λ within. let low = between_is 1 (length built.pages) p within in holds.formed p low.0 low.1) j member inside;
    }
  where
    part : Part
    part = tree_part built meta list

    after : Built
    after = with_page built 0 page

    top : IsTopped after meta image
    top = topped built page meta image is

    count : length after.pages ≡ length built.pages
    count = length-set built.pages 0 page

pub written_trees_are_sound : WrittenTreesAreSound
written_trees_are_sound built page meta list image holds is =
    let part : Part = tree_part built meta list in
    let after : Built = with_page built 0 page in
    let member : Contains (joint_of part ∷ []) (joint_of part) = first_member (joint_of part) [] in
    let all : IsJoined image (joint_of part ∷ []) =
    filed_parts_are_joined built after (joint_of part ∷ []) image (filed built page meta list image holds is) is.image_is in
    let last : (head_of image).last + 1 ≡ length built.pages =
    (written_pages_are_read built page meta image is).0.tells.last ∙ length-set built.pages 0 page in
    joins_alone image part all.form (record {
      forest = all.joined.forest;
      all = λ p above high. is_between 1 (length built.pages) p above (omega (arith, high, last_page image, last));
      is = all.joined.parts (joint_of part) member;
      named = all.joined.named (joint_of part) member;
      no_free = all.joined.no_free (joint_of part) member refl;
      no_master = rw (holds.no_master) refl;
    })
