-- The databases of a sound file, as what a text is loaded onto. Source: docs/FORMAT.md, "Loading onto a file".
use Rattle.std.specs.Prelude.{◌≡◌, ℕ, List, map, is_some}
use Rattle.bdb_format.specs.Terms.{BytesKey, Database, ListKey, NumberKey, databases, file_of, head_of, list_of, master_in, page_at}
use Rattle.bdb_mkfile.specs.of_text_format.declared.pairs.Key.TheVariants.{Bytes, Number}
use Rattle.bdb_mkfile.specs.of_text_format.declared.pairs.TextPair.{TextPair}
use Rattle.bdb_mkfile.specs.of_text_format.declared.sections.Section.{Section}
use Rattle.bdb_law_kept.specs.of_text.WrittenLaw.{AreBytes}
use Rattle.bdb_law_kept.specs.Kept.{IsSound, settings_in}
use Rattle.bdb_onto.specs.declared.base.Base.{Base}

-- a pair of a list as it stands in a section, without a line
abbrev pub text_pair : (ListKey × List ℕ) → TextPair
text_pair (BytesKey bytes, value) = record { key = Bytes bytes; value = value; line = 0 }
text_pair (NumberKey number, value) = record { key = Number number; value = value; line = 0 }

-- a database of an image as a section with its list
abbrev pub base_section : List ℕ → Database → Section
base_section image database = record {
  name = database.name;
  settings = settings_in image database.fields;
  header_line = 0;
  pairs = map text_pair (list_of (file_of image) database.fields);
}

-- the base that an image is
abbrev pub base_of : List ℕ → Base
base_of image = record {
  master = is_some (master_in (page_at (file_of image) 0));
  page_size = (head_of image).page_size;
  order = (head_of image).order;
  databases = map (base_section image) (databases (file_of image));
}

-- a base that a sound image is
pub record IsBase (base : Base) : Type 0 where
  pub image : List ℕ
  pub sound : IsSound image
  pub bytes : AreBytes image
  pub are : base ≡ base_of image

-- the base that this image is, which is sound
abbrev pub IsBaseOf : List ℕ → Base → Type 0
IsBaseOf image base = IsBase base × (base ≡ base_of image)
