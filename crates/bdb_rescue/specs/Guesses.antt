-- In which order and with which page size an image is read. Source: docs/FORMAT.md, "Salvage".
use Rattle.std.specs.Prelude.{ℕ, nat_lt, ◌==◌, ◌&&◌, ◌||◌, if◌then◌else◌, Bool, false, List, length, Option, Some, None}
use Rattle.std.specs.Option.{option_or}
use Rattle.bdb_text_format.specs.of_format.declared.kinds.Order.{Order}
use Rattle.bdb_text_format.specs.of_format.declared.kinds.Order.TheVariants.{Big, Little}
use Rattle.bdb_text_format.specs.of_format.declared.metadata.FileKind.TheVariants.{Btree, Hash, Queue}
use Rattle.bdb_text_format.specs.of_format.Terms.{four_at, is_page_size, magic_of}
use Rattle.bdb_text_format.specs.of_format.declared.kinds.Unsupported.{Unsupported}
use Rattle.bdb_survey.specs.declared.guess.Guess.{Guess}
use Rattle.bdb_survey.specs.of_meta.FirstPage.{first_page_case, first_page_is_queue_or_master}

-- the magic number of a kind of file
abbrev pub is_known_magic : ℕ → Bool
is_known_magic n = n == magic_of Btree || n == magic_of Hash || n == magic_of Queue

-- what page 0 tells where it's read in this order: it has a magic number and a legal page size
abbrev pub guess_in : Order → List ℕ → Option Guess
guess_in order image =
    if is_known_magic (four_at order image 12) && is_page_size (four_at order image 20)
    then Some (record { order = order; page_size = four_at order image 20 })
    else None

-- what page 0 tells
unfoldable pub guess_of : List ℕ → Option Guess
guess_of image = if nat_lt (length image) 24 then None else option_or (guess_in Little image) (guess_in Big image)

-- the guess that is given, or else the one that page 0 tells
abbrev pub chosen : Option Guess → List ℕ → Option Guess
chosen (Some guess) image = Some guess
chosen None image = guess_of image

-- What page 0 says of the file, where no guess is given and it tells one.

abbrev pub case_by : Option Guess → List ℕ → Option Unsupported
case_by None image = None
case_by (Some told) image = first_page_case told.order image

-- the first case that isn't supported
abbrev pub unsupported_case : Option Guess → List ℕ → Option Unsupported
unsupported_case (Some guess) image = None
unsupported_case None image = case_by (guess_of image) image

abbrev pub is_queue_or_master_by : Option Guess → List ℕ → Bool
is_queue_or_master_by None image = false
is_queue_or_master_by (Some told) image = first_page_is_queue_or_master told.order image

-- it is metadata of a queue, or of a btree whose pairs name databases
abbrev pub is_queue_or_master : Option Guess → List ℕ → Bool
is_queue_or_master (Some guess) image = false
is_queue_or_master None image = is_queue_or_master_by (guess_of image) image
