use Rattle.std.proofs.Common.{ℕ, ap, sym, ◌∙◌}
use Rattle.bdb_apart.specs.of_format.Terms.{File, page_at}
use Rattle.bdb_apart.specs.of_layout.Seen.{content_seen}
use Rattle.bdb_apart.specs.of_survey.Items.{slot_at, slots_in}
use Rattle.bdb_apart.specs.of_rescue.Kept.{file_in}
use Rattle.bdb_damage.proofs.TallyLemmas.{chain_len, inline_len}
use Rattle.bdb_damage.proofs.record_counts.value_len.Goals as goal

pub returns-in-Inline : goal.returns-in-Inline
returns-in-Inline c =
    inline_len (file_in c.args.salvaged.now) c.args.place c.in-Inline.bytes.now
    (sym (c.content.ensures
    ∙ (ap (λ (f : File). (slot_at (slots_in (page_at f c.args.place.page)) c.from.result).content) c.pages.ensures
    ∙ ap (λ (i : ℕ). (slot_at (slots_in (page_at (file_in c.args.salvaged.now) c.args.place.page)) i).content) c.from.ensures))
    ∙ ap content_seen c.in-Inline.is)

pub returns-in-Overflow : goal.returns-in-Overflow
returns-in-Overflow c =
    c.from-in-Overflow.ensures
    ∙ chain_len (file_in c.args.salvaged.now) c.args.place _ c.in-Overflow.total
    (sym (c.content.ensures
    ∙ (ap (λ (f : File). (slot_at (slots_in (page_at f c.args.place.page)) c.from.result).content) c.pages.ensures
    ∙ ap (λ (i : ℕ). (slot_at (slots_in (page_at (file_in c.args.salvaged.now) c.args.place.page)) i).content) c.from.ensures))
    ∙ ap content_seen c.in-Overflow.is)
    c.requires
