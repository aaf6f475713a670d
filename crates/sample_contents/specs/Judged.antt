-- What the definitions say of whole images.
use Rattle.std.specs.Prelude.{ℕ, List, map, codes}
use Prim.Native.String.{String}
use Rattle.std.specs.List.{flat_map}
use Rattle.sample_graphs.specs.of_format.declared.kinds.Fault.{Fault}
use Rattle.sample_graphs.specs.of_format.declared.settings.Settings.{Settings}
use Rattle.sample_graphs.specs.of_format.Terms.{BytesKey, ListKey, Metadata, NumberKey, data_under, database_faults, fields_in, file_of, head_of, list_of}
use Rattle.sample_graphs.specs.of_format.Terms.{page_at, settings_of}

-- the metadata on a page of an image
abbrev pub fields_at : List ℕ → ℕ → List Metadata
fields_at image p = fields_in (page_at (file_of image) p)

-- the faults of stage 8 of the database whose metadata page is given
abbrev pub contents_at : List ℕ → ℕ → List Fault
contents_at image p = flat_map (database_faults (file_of image)) (fields_at image p)

-- the list of the database whose metadata page is given
abbrev pub list_at : List ℕ → ℕ → List (ListKey × List ℕ)
list_at image p = flat_map (list_of (file_of image)) (fields_at image p)

-- an entry of a list, with bytes as its key, and with a number
abbrev pub entry : (key datum : String) → ListKey × List ℕ
entry key datum = (BytesKey (codes key), codes datum)

abbrev pub numbered : ℕ → String → ListKey × List ℕ
numbered n datum = (NumberKey n, codes datum)

-- the settings of the database whose metadata page is given
abbrev pub settings_at : List ℕ → ℕ → List Settings
settings_at image p = map (settings_of (head_of image).page_size (head_of image).order) (fields_at image p)

-- what the database whose metadata page is given has under the bytes of a key
abbrev pub under : List ℕ → ℕ → String → List (List ℕ)
under image p key = flat_map (λ fields. data_under (file_of image) fields (codes key)) (fields_at image p)
