use Rattle.std.proofs.Common.{◌≡◌, ◌*◌, true, false, inr, map, sym, ◌∙◌, ap, nat_lt}
use Rattle.bdb_mkfile.proofs.Common.{list_all, TooLarge, page_size_in, filled_section, need_of, is_short_section}
use Rattle.bdb_mkfile.proofs.BuildLemmas.{builds, laid_out_as, no_error, refused_late, too_large, built_tables}
use Rattle.bdb_mkfile.proofs.FitLemmas.{are_buildable, are_settled, filled_size, lists_filled}
use Rattle.bdb_mkfile.proofs.ShortLemmas.{all_short, too_long}
use Rattle.bdb_mkfile.proofs.loading.load_sound.Goals as goal

-- A name, a key or a datum that is too long makes the image too large.
pub returns-then-not-are_short-clause-refused : goal.returns-then-not-are_short-clause-refused
returns-then-not-are_short-clause-refused c =
    refused_late c.args.max c.args.sections TooLarge c.requires.none
    (inr (too_long c.args.max c.requires.fit.most c.args.sections c.requires.max c.requires.fit.fit c.requires.none
    (ap (list_all is_short_section) (sym c.in_ok-ordered.ensures) ∙ sym c.are_short.ensures ∙ c.if-not-are_short.true)))

-- What is counted is that of the sections once their records are filled up.
pub filled_need-requires : goal.filled_need-requires
filled_need-requires c =
    are_settled c.args.sections (map filled_section c.in_ok-ordered.ordered) (record {
      most = c.requires.fit.most;
      fit = c.requires.fit.fit;
      short = all_short c.args.sections
          (ap (list_all is_short_section) (sym c.in_ok-ordered.ensures) ∙ sym c.are_short.ensures ∙ c.if-not-are_short.false);
      none = c.requires.none;
      lists = lists_filled c.args.sections c.in_ok-ordered.ordered c.in_ok-ordered.ensures;
    })

pub returns-then-are_too_many-clause-refused : goal.returns-then-are_too_many-clause-refused
returns-then-are_too_many-clause-refused c =
    let above : nat_lt c.args.max (c.in_ok-pages.pages * page_size_in (map filled_section c.in_ok-ordered.ordered)) ≡ true =
    ap (λ n. nat_lt c.args.max (c.in_ok-pages.pages * n)) (filled_size c.in_ok-ordered.ordered ∙ sym c.page_size_in-size.ensures) ∙ sym c.are_too_many.ensures
    ∙ c.if-are_too_many.true in
    refused_late c.args.max c.args.sections TooLarge c.requires.none
    (inr (too_large c.args.max c.in_ok-pages.pages c.args.sections (map filled_section c.in_ok-ordered.ordered)
    (lists_filled c.args.sections c.in_ok-ordered.ordered c.in_ok-ordered.ensures) c.in_ok-pages.ensures above))

pub settled_image-requires : goal.settled_image-requires
settled_image-requires c =
    let within : nat_lt c.args.max (c.in_ok-pages.pages * page_size_in c.in_ok-settled.settled) ≡ false =
    ap (λ ss. nat_lt c.args.max (c.in_ok-pages.pages * page_size_in ss)) c.in_ok-settled.ensures
    ∙ ap (λ n. nat_lt c.args.max (c.in_ok-pages.pages * n)) (filled_size c.in_ok-ordered.ordered ∙ sym c.page_size_in-size.ensures) ∙ sym c.are_too_many.ensures
    ∙ c.if-are_too_many.false in
    are_buildable c.args.max c.in_ok-pages.pages c.args.sections c.in_ok-settled.settled (record {
      most = c.requires.fit.most;
      fit = c.requires.fit.fit;
      short = all_short c.args.sections
          (ap (list_all is_short_section) (sym c.in_ok-ordered.ensures) ∙ sym c.are_short.ensures ∙ c.if-not-are_short.false);
      none = c.requires.none;
      lists = c.in_ok-settled.ensures ∙ lists_filled c.args.sections c.in_ok-ordered.ordered c.in_ok-ordered.ensures;
    }) (record { max_low = c.requires.max; pages_are = c.in_ok-pages.ensures ∙ ap need_of (sym c.in_ok-settled.ensures); within = within })

pub returns-clause-built : goal.returns-clause-built
returns-clause-built c =
    builds c.args.sections c.in_ok-settled.settled c.in_ok-settled_image.field-0
    (c.in_ok-settled.ensures ∙ lists_filled c.args.sections c.in_ok-ordered.ordered c.in_ok-ordered.ensures) c.in_ok-settled_image.ensures

pub returns-clause-tables : goal.returns-clause-tables
returns-clause-tables c = built_tables c.in_ok-settled.settled c.in_ok-settled_image.field-0 c.in_ok-settled_image.ensures

pub returns-clause-laid_out : goal.returns-clause-laid_out
returns-clause-laid_out c =
    laid_out_as c.args.sections c.in_ok-settled.settled c.in_ok-settled_image.field-0
    (c.in_ok-settled.ensures ∙ lists_filled c.args.sections c.in_ok-ordered.ordered c.in_ok-ordered.ensures) c.in_ok-settled_image.ensures

pub returns-clause-sound : goal.returns-clause-sound
returns-clause-sound c =
    let within : nat_lt c.args.max (c.in_ok-pages.pages * page_size_in (map filled_section c.in_ok-ordered.ordered)) ≡ false =
    ap (λ n. nat_lt c.args.max (c.in_ok-pages.pages * n)) (filled_size c.in_ok-ordered.ordered ∙ sym c.page_size_in-size.ensures) ∙ sym c.are_too_many.ensures
    ∙ c.if-are_too_many.false in
    no_error c.args.max c.in_ok-pages.pages c.args.sections (map filled_section c.in_ok-ordered.ordered) c.requires.none
    (lists_filled c.args.sections c.in_ok-ordered.ordered c.in_ok-ordered.ensures) c.in_ok-pages.ensures within
