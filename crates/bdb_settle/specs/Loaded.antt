-- What loading does to the pairs of a section. Source: docs/FORMAT.md, "What loading does to a list" and "Order of keys".
use Rattle.std.specs.Prelude.{ℕ, ◌-◌, ◌%◌, nat_lt, ◌&&◌, ◌||◌, not, if◌then◌else◌, Bool, true, false, List, [], ◌∷◌, ◌++◌, length, map, replicate}
use Rattle.std.specs.List.{fold}
use Rattle.bdb_mktree.specs.of_format.declared.settings.Settings.{Settings}
use Rattle.bdb_mktree.specs.of_format.Terms.{less}
use Rattle.bdb_mktree.specs.of_text_format.declared.pairs.Pair.{Pair}
use Rattle.bdb_mktree.specs.of_text_format.declared.pairs.Key.{Key}
use Rattle.bdb_mktree.specs.of_text_format.declared.pairs.Key.TheVariants.{Bytes, Number}
use Rattle.bdb_mktree.specs.of_text_format.declared.pairs.TextPair.{TextPair}
pub use Rattle.bdb_mktree.specs.of_text_format.Pairs.{unlined, unlined_pairs, unnumbered}
use Rattle.bdb_mktree.specs.of_text_format.declared.sections.Section.{Section}
use Rattle.bdb_mktree.specs.of_text_format.Terms.{holds_records}

-- Order.

-- bytes in byte order, numbers ascending; no kind has both
abbrev pub key_less : Key → Key → Bool
key_less (Bytes a) (Bytes b) = less a b
key_less (Bytes a) (Number n) = false
key_less (Number m) (Bytes b) = true
key_less (Number m) (Number n) = nat_lt m n

-- whether the data of a key stand in byte order, each once
abbrev pub sorts_data : Settings → Bool
sorts_data settings = settings.sorted && not (holds_records settings.kind)

-- whether the data of a key stand one behind the other, as they come
abbrev pub keeps_data : Settings → Bool
keeps_data settings = settings.duplicates && not settings.sorted && not (holds_records settings.kind)

-- a pair stands before another: its key is less, or it is the same and its datum is less, where data are sorted
abbrev pub stands_before : Settings → Pair → Pair → Bool
stands_before settings a b = key_less a.key b.key || (not (key_less b.key a.key) && (sorts_data settings && less a.value b.value))

-- Lists.

-- a pair goes behind those that stand before it; one that neither stands before it nor behind it is replaced, or passed where all data are kept
abbrev pub put : (Pair → Pair → Bool) → Bool → Pair → List Pair → List Pair
put before keeps pair [] = pair ∷ []
put before keeps pair (other ∷ others) =
    if before pair other then pair ∷ other ∷ others
    else (if before other pair || keeps then other ∷ put before keeps pair others else pair ∷ others)

-- a list with one pair more
abbrev pub with_loaded : Settings → List Pair → Pair → List Pair
with_loaded settings list pair = put (stands_before settings) (keeps_data settings) pair list

-- whether records have a fixed length
abbrev pub has_length : Settings → Bool
has_length settings = settings.fixed && holds_records settings.kind

-- a record that is shorter than the fixed length is filled up at its end with the low byte of re_pad
abbrev pub filled_value : Settings → List ℕ → List ℕ
filled_value settings value = if has_length settings then value ++ replicate (settings.re_len - length value) (settings.re_pad % 256) else value

abbrev pub loaded_pair : Settings → TextPair → Pair
loaded_pair settings pair = record { key = pair.key; value = filled_value settings pair.value }

-- the list of the pairs of a section, taken in turn from the empty list on
abbrev pub loaded : Settings → List TextPair → List Pair
loaded settings pairs = fold (with_loaded settings) [] (map (loaded_pair settings) pairs)

-- Lists whose records aren't filled up yet.

-- the list of pairs as they are
abbrev pub ordered : Settings → List TextPair → List Pair
ordered settings pairs = fold (with_loaded settings) [] (unlined_pairs pairs)

-- a pair with its record filled up
abbrev pub filled_pair : Settings → TextPair → TextPair
filled_pair settings pair = record pair { value = filled_value settings pair.value }

abbrev pub filled_pairs : Settings → List TextPair → List TextPair
filled_pairs settings pairs = map (filled_pair settings) pairs

-- Sections.

-- a section with its list, in which no line has a number
abbrev pub loaded_section : Section → Section
loaded_section section = record section { header_line = 0; pairs = map unnumbered (loaded section.settings section.pairs) }

-- a section with its list, whose records aren't filled up yet
abbrev pub ordered_section : Section → Section
ordered_section section = record section { header_line = 0; pairs = map unnumbered (ordered section.settings section.pairs) }

-- a section with its records filled up
abbrev pub filled_section : Section → Section
filled_section section = record section { pairs = filled_pairs section.settings section.pairs }
