use Rattle.std.proofs.Common.{◌≡◌, ◌++◌, ◌∷◌, [], ◌∙◌, ap, refl}
use Rattle.bdb_mkfile.proofs.Common.{map-append, unlined, Bytes, TextPair, entry_of}
use Rattle.bdb_text_format.specs.Terms.{unlined_pairs}
use Rattle.bdb_mkfile.proofs.master.push_entry.Goals as goal

pub returns : goal.returns
returns c =
    let pair : TextPair = record { key = Bytes c.name_of.result.now; value = c.high_first-value.result; line = 0 } in
    let is : unlined pair ≡ entry_of c.args.number c.args.section.now = rw (c.name_of.ensures, c.high_first-value.ensures) refl in
    ap unlined_pairs c.in_ok-push.ensures.ok
    ∙ (map-append unlined c.args.entries.now (pair ∷ []) ∙ ap (λ p. unlined_pairs c.args.entries.now ++ (p ∷ [])) is)
