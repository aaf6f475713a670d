-- The lines of `stat`.
use Rattle.std.proofs.Common.{◌≡◌, ℕ, List, [], ◌∷◌, ◌++◌, append_assoc, refl, sym, subst, ◌∙◌, ap, codes, decimal}
use Rattle.bdb_file.specs.of_format.Terms.{File, file_of}
use Rattle.bdb_stat.specs.Figures.{IsStat}
use Rattle.bdb_stat.specs.declared.class.Class.TheVariants.{Meta, Internal, Leaf, Hash, Overflow, Free, Reserve, Queue, Tail}
use Rattle.bdb_stat.specs.declared.figures.Stat.{Stat}
use Rattle.bdb_tool_words.specs.of_text_format.Terms.{line}
use Rattle.bdb_tool_ask.specs.Figures.{figures_text, last_figures, other_figures}
use Rattle.bdb_tool_ask.specs.FileAnswers.{stat_text}
use Rattle.bdb_tool_print.specs.Survey.{figure, figure_line}

-- a figure with its name, and what follows
abbrev pub figure_then : List ℕ → ℕ → List ℕ → List ℕ
figure_then name n rest = name ++ (codes " " ++ (decimal n ++ (10 ∷ rest)))

line_then : (name : List ℕ) (n : ℕ) (rest : List ℕ) → figure_then name n rest ≡ figure_line name n ++ rest
unfolding figure figure_line
line_then name n rest =
    sym (append_assoc name (codes " " ++ line (decimal n)) rest
    ∙ ap (λ (it : List ℕ). name ++ (codes " " ++ it)) (append_assoc (decimal n) (10 ∷ []) rest))

-- four lines as they are written
abbrev pub four_written : (first second third fourth : List ℕ) (a b c d : ℕ) → List ℕ
four_written first second third fourth a b c d = figure_then first a (figure_then second b (figure_then third c (figure_then fourth d [])))

pub four_lines : (first second third fourth : List ℕ) (a b c d : ℕ)
    → four_written first second third fourth a b c d
    ≡ figure_line first a ++ (figure_line second b ++ (figure_line third c ++ figure_line fourth d))
unfolding figure figure_line
four_lines first second third fourth a b c d =
    line_then first a (figure_then second b (figure_then third c (figure_line fourth d)))
    ∙ ap (λ (it : List ℕ). figure_line first a ++ it) (line_then second b (figure_then third c (figure_line fourth d))
    ∙ ap (λ (it : List ℕ). figure_line second b ++ it) (line_then third c (figure_line fourth d)))

-- four texts before others
four_before : (a b c d rest : List ℕ) → (a ++ (b ++ (c ++ d))) ++ rest ≡ a ++ (b ++ (c ++ (d ++ rest)))
four_before a b c d rest =
    append_assoc a (b ++ (c ++ d)) rest
    ∙ ap (λ (it : List ℕ). a ++ it) (append_assoc b (c ++ d) rest ∙ ap (λ (it : List ℕ). b ++ it) (append_assoc c d rest))

-- all lines, of figures in their order
all_lines : (stat : Stat) → figures_text stat
    ≡ figure_line (codes "pages") stat.pages
    ++ (figure_line (codes "meta") stat.meta
    ++ (figure_line (codes "internal") stat.internal
    ++ (figure_line (codes "leaf") stat.leaf
    ++ (figure_line (codes "hash") stat.hash
    ++ (figure_line (codes "overflow") stat.overflow
    ++ (figure_line (codes "free") stat.free
    ++ (figure_line (codes "reserve") stat.reserve ++ last_figures stat)))))))
all_lines stat =
    four_before (figure_line (codes "pages") stat.pages) (figure_line (codes "meta") stat.meta) (figure_line (codes "internal") stat.internal)
    (figure_line (codes "leaf") stat.leaf) (other_figures stat ++ last_figures stat)
    ∙ ap (λ (it : List ℕ). figure_line (codes "pages") stat.pages ++ (figure_line (codes "meta") stat.meta
    ++ (figure_line (codes "internal") stat.internal ++ (figure_line (codes "leaf") stat.leaf ++ it))))
    (four_before (figure_line (codes "hash") stat.hash) (figure_line (codes "overflow") stat.overflow) (figure_line (codes "free") stat.free)
    (figure_line (codes "reserve") stat.reserve) (last_figures stat))

figures_of : (file : File) (stat : Stat) → IsStat file stat → figures_text stat ≡ stat_text file
unfolding stat_text
figures_of file stat is =
    all_lines stat
    ∙ rw (
      is.pages,
      is.classes Meta,
      is.classes Internal,
      is.classes Leaf,
      is.classes Hash,
      is.classes Overflow,
      is.classes Free,
      is.classes Reserve,
      is.classes Queue,
      is.classes Tail,
      is.levels,
      is.unused,
    ) refl

-- the figures of a file that was read as its image
pub stat_lines : (read image : List ℕ) (stat : Stat) → read ≡ image → IsStat (file_of read) stat → figures_text stat ≡ stat_text (file_of image)
stat_lines read image stat same is = subst (λ (bytes : List ℕ). figures_text stat ≡ stat_text (file_of bytes)) same (figures_of (file_of read) stat is)
