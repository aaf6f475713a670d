-- The settings that the header of a text tells show in the same header lines, and load alike.
use Rattle.std.proofs.Common.{◌≡◌, ℕ, Bool, true, false, cond, List, [], ◌∷◌, ◌++◌, map, Option, refl, sym, ◌∙◌, ap, true≢false, ◌&&◌, ◌||◌, ◌==◌, not}
use Rattle.std.specs.List.{AllZip}
use Rattle.bdb_repair.specs.of_format.declared.kinds.Kind.{Kind}
use Rattle.bdb_repair.specs.of_format.declared.kinds.Kind.TheVariants.{Btree, Recno, Hash, Queue}
use Rattle.bdb_repair.specs.of_format.declared.settings.Settings.{Settings}
use Rattle.bdb_repair.specs.of_format.Terms.{Row}
use Rattle.bdb_repair.specs.of_text_format.Terms.{HeaderLine, entry_line, header_end, header_lines, header_table, is_queue, is_recno, shows_length}
use Rattle.bdb_repair.specs.of_text_format.Terms.{version_line, written}
use Rattle.bdb_repair.specs.Apart.{told_settings}
use Rattle.bdb_load.specs.of_law_kept.Kept.{LoadsAlike}

-- Rows of a header.

-- a row that is written exactly where another is, and then as that
record IsWrittenAs (row other : Row HeaderLine) : Type 0 where
  holds : row.holds ≡ other.holds
  code : other.holds ≡ true → row.code ≡ other.code

the_same : (row : Row HeaderLine) → IsWrittenAs row row
the_same row = record { holds = refl; code = λ is. refl }

neither : (row other : Row HeaderLine) → row.holds ≡ false → other.holds ≡ false → IsWrittenAs row other
neither row other first second = record { holds = first ∙ sym second; code = λ is. absurd (true≢false (sym is ∙ second)) }

written_alike : (rows others : List (Row HeaderLine)) → AllZip IsWrittenAs rows others → written rows ≡ written others
written_alike [] [] alike = refl
written_alike [] (other ∷ others) alike = absurd alike
written_alike (row ∷ rows) [] alike = absurd alike
written_alike (row ∷ rows) (other ∷ others) (one, alike) =
    ap (λ b. cond b (row.code ∷ written rows) (written rows)) one.holds
    ∙ (ap (λ ws. cond other.holds (row.code ∷ ws) ws) (written_alike rows others alike) ∙ by_test other.holds one.code)
  where
    by_test : (b : Bool) → (b ≡ true → row.code ≡ other.code)
        → cond b (row.code ∷ written others) (written others) ≡ cond b (other.code ∷ written others) (written others)
    by_test true code = ap (λ (line : HeaderLine). line ∷ written others) (code refl)
    by_test false code = refl

-- Settings without a length.

abbrev untold : Settings → Settings
untold settings = record settings { fixed = false; re_len = 0; re_pad = 32 }

not_shown : (kind : Kind) (fixed some : Bool) → (is_queue kind || is_recno kind && fixed && some) ≡ false
    → (is_queue kind || is_recno kind && false && not (0 == 0)) ≡ false
not_shown Btree fixed some none = refl
not_shown Recno fixed some none = refl
not_shown Hash fixed some none = refl
not_shown Queue fixed some none = none

untold_alike : (print : Bool) (name : Option (List ℕ)) (settings : Settings) → shows_length settings ≡ false
    → AllZip IsWrittenAs (header_table print name (untold settings)) (header_table print name settings)
untold_alike print name settings none =
    let also : shows_length (untold settings) ≡ false = not_shown settings.kind settings.fixed (not (settings.re_len == 0)) none in (
      the_same _,
      (
        the_same _,
        (
          the_same _,
          (
            the_same _,
            (
              the_same _,
              (
                the_same _,
                (
                  the_same _,
                  (
                    the_same _,
                    (
                      the_same _,
                      (the_same _, (neither _ _ also none, (neither _ _ also none, (the_same _, (the_same _, tt))))),
                    ),
                  ),
                ),
              ),
            ),
          ),
        ),
      ),
    )

pub told_lines : (print : Bool) (name : Option (List ℕ)) (settings : Settings)
    → header_lines print name (told_settings settings) ≡ header_lines print name settings
told_lines print name settings = by_test (shows_length settings) refl
  where
    by_test : (b : Bool) → shows_length settings ≡ b → header_lines print name (cond b settings (untold settings)) ≡ header_lines print name settings
    by_test true is = refl
    by_test false is =
        ap (λ entries. version_line ∷ (map entry_line entries ++ header_end ∷ []))
        (written_alike (header_table print name (untold settings)) (header_table print name settings) (untold_alike print name settings is))

queue_shows : (queue other : Bool) → queue ≡ true → (queue || other) ≡ false → ⊥
queue_shows true other is none = true≢false none
queue_shows false other is none = true≢false (sym is)

pub told_alike : (settings : Settings) → LoadsAlike (told_settings settings) settings
told_alike settings = by_test (shows_length settings) refl
  where
    by_test : (b : Bool) → shows_length settings ≡ b → LoadsAlike (cond b settings (untold settings)) settings
    by_test true is = record {
      kind = refl;
      page_size = refl;
      sorted = λ sets. refl;
      duplicates = λ sets. refl;
      fixed = λ fixed. (fixed, refl);
      wide = λ queue. refl;
    }
    by_test false is = record {
      kind = refl;
      page_size = refl;
      sorted = λ sets. refl;
      duplicates = λ sets. refl;
      fixed = λ fixed. absurd (true≢false (sym fixed));
      wide = λ queue. absurd (queue_shows (is_queue settings.kind) _ queue is);
    }

pub told_order : (settings : Settings) → (told_settings settings).order ≡ settings.order
told_order settings = by_test (shows_length settings)
  where
    by_test : (b : Bool) → (cond b settings (untold settings)).order ≡ settings.order
    by_test true = refl
    by_test false = refl
