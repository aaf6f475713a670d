-- The keys that came before a pair of a master, and the faults of the pairs that repeat one.
use Rattle.std.proofs.Common.{arith, ◌≡◌, ℕ, Bool, true, false, not, cond, List, [], ◌∷◌, ◌++◌, refl, sym, ◌∙◌, ap, append_assoc, append-nil, Some, None, ◌||◌}
use Rattle.std.proofs.Common.{flat_map, nat_cmp, option_to_list}
use Rattle.std.specs.BTreeSet.{BTreeSet, IsEmpty, Updates}
use Rattle.std.specs.Cmp.Lexicographic.{slice_cmp}
use Rattle.std.specs.Str.{bytes_eq}
use Rattle.std.proofs.lemmas.Map.Text.{is_eq-slice_cmp}
use Rattle.bdb_format.specs.declared.kinds.Fault.{Fault}
use Rattle.bdb_overflow.specs.Keys.{has_item, has_key, repeated_by}
use Rattle.bdb_btree.specs.of_faults.Notes.{Notes, NotesAll}
use Rattle.bdb_btree.proofs.of_faults.SinkLemmas.{notes_nothing, notes_one, notes_then}
use Rattle.bdb_btree.specs.Held.{ItemPair}
use Rattle.bdb_master.specs.Entries.{NamedPair, by_repeat, entry_of, fault_at, key_of, live_entries, repeat_fault, repeat_of}
use Rattle.bdb_master.specs.Names.{HasAdded}
use Rattle.bdb_master.proofs.EntryLemmas.{live_first}
use Rattle.bdb_format.specs.Terms.{File, named_by, value_of}
use Rattle.bdb_format.proofs.BoolLemmas.{cond_or}
use Rattle.bdb_format.proofs.LessLemmas.{eq_same}
use Rattle.bdb_buckets.proofs.ChainedLemmas.{among_after, among_unchanged}

abbrev faults_of : List NamedPair → List Fault
faults_of entries = flat_map (λ entry. option_to_list (repeat_fault entry)) entries

-- the keys are those of the pairs that were passed, the last one first, and of these those that repeat a key are noted
pub record IsNoted (before now : List Fault → Type 0) (keys : BTreeSet (List ℕ)) (file : File) (all left : List ItemPair) : Type 0 where
  pub passed : List NamedPair
  pub keys_are : (sought : List ℕ) → has_key keys sought ≡ has_item key_of passed sought
  pub more : List Fault
  pub notes : Notes before now more
  pub whole : more ++ faults_of (repeated_by key_of passed (live_entries file left)) ≡ by_repeat (live_entries file all)

-- a pair is noted where its key isn't new
one_noted : (x : NamedPair) (later : List NamedPair) (has : Bool)
    → option_to_list (cond (not has) None (Some (repeat_of x))) ++ faults_of later ≡ faults_of (cond has (x ∷ later) later)
one_noted x later true = refl
one_noted x later false = refl

-- one pair more, which is live
pub noted_on : (before now after : List Fault → Type 0) (keys more : BTreeSet (List ℕ)) (file : File) (all old left : List ItemPair) (pair : ItemPair)
    (value : List ℕ) (is_new : Bool)
    → IsNoted before now keys file all old → old ≡ pair ∷ left → pair.value.deleted ≡ false → value ≡ value_of file pair.key.content
    → is_new ≡ not (has_key keys value) → HasAdded keys more value
    → Notes now after (option_to_list (cond is_new None (Some (fault_at pair.page 4)))) → IsNoted before after more file all left
noted_on before now after keys more file all old left pair value is_new noted steps live is new added notes =
    let x : NamedPair = entry_of file (named_by file pair.value.content) pair in
    let has : Bool = has_item key_of noted.passed x.key in
    let says : is_new ≡ not has = new ∙ ap not (ap (has_key keys) is ∙ noted.keys_are x.key) in
    let one : List Fault = option_to_list (cond is_new None (Some (repeat_of x))) in
    let later : List NamedPair = repeated_by key_of (x ∷ noted.passed) (live_entries file left) in
    record {
      passed = x ∷ noted.passed;
      keys_are = λ sought.
          added.each sought
          ∙ (ap (λ (v : List ℕ). bytes_eq v sought || has_key keys sought) is ∙ ap (λ b. bytes_eq x.key sought || b) (noted.keys_are sought));
      more = noted.more ++ one;
      notes = notes_then before now after noted.more one noted.notes notes;
      whole =
          append_assoc noted.more one (faults_of later)
          ∙ (ap (λ fs. noted.more ++ fs)
          (ap (λ b. option_to_list (cond b None (Some (repeat_of x))) ++ faults_of later) says ∙ one_noted x later has
          ∙ ap (λ entries. faults_of (repeated_by key_of noted.passed entries))
          (sym (live_first file old left pair (named_by file pair.value.content) steps live refl)))
          ∙ noted.whole);
    }

pub begun : (has : List Fault → Type 0) (keys : BTreeSet (List ℕ)) (file : File) (all : List ItemPair) → IsEmpty keys → IsNoted has has keys file all all
begun has keys file all empty = record {
  passed = [];
  keys_are = λ sought. rw empty refl;
  more = [];
  notes = notes_nothing has;
  whole = refl;
}

pub all_noted : (before after : List Fault → Type 0) (keys : BTreeSet (List ℕ)) (file : File) (all left : List ItemPair)
    → IsNoted before after keys file all left
    → left ≡ [] → NotesAll before after (by_repeat (live_entries file all))
all_noted before after keys file all left noted none = grind (arith, append-nil, notes_one)

-- The names that were seen.

-- a key that is among them changes nothing
pub added_again : (keys : BTreeSet (List ℕ)) (key : List ℕ) → has_key keys key ≡ true → HasAdded keys keys key
added_again keys key has = record { each = λ sought. again sought (bytes_eq key sought) refl }
  where
    again : (sought : List ℕ) (same : Bool) → bytes_eq key sought ≡ same → has_key keys sought ≡ (bytes_eq key sought || has_key keys sought)
    again sought true is = ap (has_key keys) (sym (eq_same key sought is)) ∙ (has ∙ ap (λ b. b || has_key keys sought) (sym is))
    again sought false is = ap (λ b. b || has_key keys sought) (sym is)

-- a key that was added is one more
pub added_once : (old new : BTreeSet (List ℕ)) (key : List ℕ) → Updates (slice_cmp nat_cmp) old new key true → HasAdded old new key
added_once old new key updates = grind (arith, is_eq-slice_cmp, cond_or)

-- how a name is added
pub ruleset names_added = (among_after, among_unchanged, added_once)
