-- Databases that stand on their pages while others are built behind them.
use Rattle.std.proofs.Common.{◌≡◌, ℕ, ◌+◌, ◌<◌, ◌≤◌, true, List, [], ◌∷◌, ◌++◌, length, replicate, arith, refl, sym, ◌∙◌, ap, subst, inl, inr, length-append}
use Rattle.bdb_mkfile.proofs.Common.{cases_lt, get_or_append_left, reverse-append, page_so_far, File, ListKey, Metadata, abstract_page, file_of, is_zero, page_at, page_code, settings_of, IsLater}
use Rattle.bdb_mkfile.proofs.Common.{IsSamePage, between, between_is, Section, listed, Built, bytes_of, file_so_far, with_zeros, added_zero, HasPagesOf, unlined_pairs, list_pages, sized, own_settings}
use Rattle.bdb_mkfile.proofs.Common.{DatabaseMeta, AreAdded, AreDatabasesBuilt, AreLaid, HoldsPart, IsDatabaseLaid, IsSectionBuilt, Laid, TreeIsIn, meta_for, settings_in, fields_of}
use Rattle.bdb_need.specs.of_mkleaves.Leaves.{KeepsAll, KeepsBefore}

-- Pages that are kept.

-- those below a number, where those below a greater one are
pub fewer : (old new : Built) (low high : ℕ) → low ≤ high → KeepsBefore high old new → KeepsBefore low old new
fewer old new low high below kept =
    record { size = kept.size; order = kept.order; grows = kept.grows; same = λ p under. kept.same p (omega (arith, under, below)) }

pub kept_again : (old now new : Built) → KeepsAll old now → KeepsAll now new → KeepsAll old new
kept_again old now new first second =
    record {
      size = second.size ∙ first.size;
      order = second.order ∙ first.order;
      grows = omega (arith, first.grows, second.grows);
      same = λ p low. second.same p (omega (arith, low, first.grows)) ∙ first.same p low;
    }

-- a file that is later than the pages of which some were kept is later than those before
later_before : (old new : Built) (from beyond : ℕ) (g : File) → beyond ≤ length old.pages → KeepsBefore beyond old new
    → IsLater (between from beyond) (file_so_far new) g → IsLater (between from beyond) (file_so_far old) g
later_before old new from beyond g there kept later =
    record {
      no_queue_before = λ queue. cc;
      no_queue = later.no_queue;
      grows = omega (arith, later.grows, kept.grows);
      same = λ p inside. subst (λ page. IsSamePage page (page_at g p)) (same p (between_is from beyond p inside).1) (later.same p inside);
    }
  where
    same : (p : ℕ) → p < beyond → page_at (file_so_far new) p ≡ page_at (file_so_far old) p
    same p low =
        page_so_far new p (omega (arith, low, there, kept.grows))
        ∙ (ap (λ o. abstract_page o (bytes_of new p)) kept.order
        ∙ (ap (abstract_page old.order) (kept.same p low) ∙ sym (page_so_far old p (omega (arith, low, there)))))

-- an image that has the pages of which some were kept has those before
pub has_before : (old new : Built) (from beyond : ℕ) (image : List ℕ) → beyond ≤ length old.pages → KeepsBefore beyond old new
    → HasPagesOf new (between from beyond) image → HasPagesOf old (between from beyond) image
has_before old new from beyond image there kept has =
    record {
      counted = has.counted;
      later = later_before old new from beyond (file_of image) there kept has.later;
      order = has.order ∙ kept.order;
      same = λ p at low. has.same p at (omega (arith, low, kept.grows)) ∙ kept.same p (between_is from beyond p at).1;
    }

-- a part stands as long as its pages are kept
pub holds_still : (old new : Built) (from beyond : ℕ) (fields : Metadata) (list : List (ListKey × List ℕ)) → KeepsBefore beyond old new
    → HoldsPart old from beyond fields list → HoldsPart new from beyond fields list
holds_still old new from beyond fields list kept holds =
    record {
      there = omega (arith, holds.there, kept.grows);
      formed = λ p low high.
          ap (λ o. page_code o p (bytes_of new p)) kept.order ∙ (ap (page_code old.order p) (kept.same p high) ∙ holds.formed p low high);
      part = λ g counted later. holds.part g counted (later_before old new from beyond g holds.there kept later);
      buckets = λ g counted later. holds.buckets g counted (later_before old new from beyond g holds.there kept later);
    }

pub laid_still : (old new : Built) (laid : Laid) → KeepsBefore laid.beyond old new → IsDatabaseLaid old laid → IsDatabaseLaid new laid
laid_still old new laid kept is =
    record {
      count =
          is.count
          ∙ ap (λ size. laid.from + list_pages laid.section.settings.kind (sized size laid.section) (unlined_pairs laid.section.pairs)) (sym kept.size);
      counts = is.counts;
      meta_is =
          subst (λ o. laid.meta ≡ meta_for laid.section.settings.kind (settings_in new.size o laid.section) (unlined_pairs laid.section.pairs) laid.from)
          (sym kept.order)
          (subst (λ s. laid.meta ≡ meta_for laid.section.settings.kind (settings_in s old.order laid.section) (unlined_pairs laid.section.pairs) laid.from)
          (sym kept.size) is.meta_is);
      tree = λ image has.
          subst (λ o. TreeIsIn laid.section.settings.kind (settings_in new.size o laid.section) image (unlined_pairs laid.section.pairs) laid.from)
          (sym kept.order)
          (subst (λ s. TreeIsIn laid.section.settings.kind (settings_in s old.order laid.section) image (unlined_pairs laid.section.pairs) laid.from)
          (sym kept.size) (is.tree image (has_before old new laid.from laid.beyond image is.holds.there kept has)));
      says =
          subst (λ o. settings_of new.size o (fields_of laid.meta) ≡ own_settings laid.section.settings.kind new.size o laid.section.settings)
          (sym kept.order)
          (subst (λ s. settings_of s old.order (fields_of laid.meta) ≡ own_settings laid.section.settings.kind s old.order laid.section.settings)
          (sym kept.size) is.says);
      holds = holds_still old new laid.from laid.beyond (fields_of laid.meta) (listed (unlined_pairs laid.section.pairs)) kept is.holds;
      spelled = is.spelled;
    }

-- and databases one behind the other do
pub all_still : (old new : Built) (base beyond : ℕ) (row : List Laid) → KeepsBefore beyond old new → AreLaid old base beyond row
    → AreLaid new base beyond row
all_still old new base beyond [] kept are = are
all_still old new base beyond (laid ∷ row) kept are =
    let here : KeepsBefore laid.beyond old new = fewer old new laid.beyond beyond (omega (arith, are.0)) kept in (
      are.0,
      laid_still old new laid here are.1,
      all_still old new base laid.from row (fewer old new laid.from beyond (omega (arith, are.0, are.1.count)) kept) are.2,
    )

-- Databases that were built.

-- one more section before the others
pub built_more : (sections : List Section) (section : Section) (old now new : Built) (metas : List DatabaseMeta) (meta : DatabaseMeta)
    → AreDatabasesBuilt sections old now metas → IsSectionBuilt section now new meta → AreDatabasesBuilt (section ∷ sections) old new (metas ++ (meta ∷ []))
built_more sections section old now new metas meta are is =
    record {
      kept = kept_again old now new are.kept is.kept;
      row = record { section = section; meta = meta; from = length now.pages; beyond = length new.pages } ∷ are.row;
      sections_are = ap (λ ss. section ∷ ss) are.sections_are;
      metas_are = ap (λ ms. meta ∷ ms) are.metas_are ∙ sym (reverse-append metas (meta ∷ []));
      laid = (refl, is.laid, all_still now new (length old.pages) (length now.pages) are.row is.kept are.laid);
    }

-- Zero pages.

pub added_more : (old now new : Built) (count : ℕ) → AreAdded old now count → new ≡ with_zeros now → AreAdded old new (count + 1)
added_more old now new count are is = subst (λ b. AreAdded old b (count + 1)) (sym is) (record {
  kept = kept_again old now (with_zeros now) are.kept keeps;
  many = omega (arith, long, are.many);
  zero_pages = λ p low high. elim (cases_lt p (length now.pages)) [
    | inl below ↦ ap is_zero (keeps.same p below) ∙ are.zero_pages p low below
    | inr above ↦
        let e : length now.pages ≡ p = omega (arith, above, high, long) in
        subst (λ q. is_zero (bytes_of (with_zeros now) q) ≡ true) e (added_zero now)
  ];
})
  where
    long : length (with_zeros now).pages ≡ length now.pages + 1
    long = length-append now.pages (replicate now.size 0 ∷ [])

    keeps : KeepsAll now (with_zeros now)
    keeps = record {
      size = refl;
      order = refl;
      grows = omega (arith, long);
      same = λ p low. get_or_append_left now.pages (replicate now.size 0 ∷ []) [] p low;
    }
