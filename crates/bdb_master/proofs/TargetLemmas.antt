-- Pages that aren't there are no metadata pages.
use Rattle.std.proofs.Common.{◌≡◌, ℕ, ◌+◌, ◌<◌, false, List, length, arith, sym, ◌∙◌, ap, subst, ◌&&◌, nat_lt, Option, get_or, take, option_to_list}
use Rattle.bdb_format.specs.declared.kinds.Fault.{Fault}
use Rattle.bdb_btree.specs.of_faults.Notes.{Notes, NotesAll}
use Rattle.bdb_btree.proofs.of_faults.SinkLemmas.{notes_next, notes_one}
use Rattle.bdb_master.specs.Entries.{NamedPair, by_target, entry_fault, target_fault}
use Rattle.bdb_format.specs.Terms.{File, file_of, head_of, is_meta, is_named_kind}
use Rattle.bdb_format.proofs.FileLemmas.{last_page, past_last}
use Rattle.std.proofs.Math.Bool.{and-false}

pub not_there : (image : List ℕ) (p : ℕ) → (head_of image).last < p → false ≡ is_named_kind (file_of image) p
not_there image p past = sym (ap (λ b. nat_lt 0 p && b) (ap is_meta (past_last image p (omega (arith, past, last_page image)))) ∙ and-false (nat_lt 0 p))

-- one pair more
pub target_more : (before middle after : List Fault → Type 0) (file : File) (entries : List NamedPair) (i : ℕ) (e : NamedPair) (page : ℕ) (names : Option ℕ)
    (found : Option Fault) → i < length entries → e ≡ get_or entries i e → page ≡ e.page → names ≡ e.names → found ≡ target_fault file page names
    → NotesAll before middle (by_target file (take i entries)) → Notes middle after (option_to_list found)
    → NotesAll before after (by_target file (take (i + 1) entries))
target_more before middle after file entries i e page names found low is is_page are_names is_found first second =
    let give : NamedPair → List Fault = λ (entry : NamedPair). option_to_list (entry_fault file entry) in
    let same : found ≡ entry_fault file e = is_found ∙ (ap (λ p. target_fault file p names) is_page ∙ ap (target_fault file e.page) are_names) in
    notes_next before middle after give entries i e low first
    (subst (λ one. NotesAll middle after (give one)) is
    (notes_one middle after (give e) (subst (λ f. Notes middle after (option_to_list f)) same second)))
