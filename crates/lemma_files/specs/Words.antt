-- The words that begin the lists of patterns.
use Rattle.std.specs.Prelude.{ℕ, List, Option, Some, None, codes, if◌then◌else◌}
use Rattle.model_syntax.specs.Names.{same}
use Rattle.model_reader.specs.Words.{op_of, cmp_of}
use Rattle.lemma_files.specs.declared.words.Word.{Word}
use Rattle.lemma_files.specs.declared.words.Word.TheVariants as word

-- the words that are no operation and no comparison
abbrev pub form_of : List ℕ → Option Word
form_of t =
    if same t (codes "len") then Some word.Length
    else (if same t (codes "not") then Some word.Not
    else (if same t (codes "both") then Some word.Both
    else (if same t (codes "either") then Some word.Either
    else (if same t (codes "word") then Some word.ToWord
    else (if same t (codes "byte") then Some word.ToByte
    else (if same t (codes "get") then Some word.Get
    else (if same t (codes "tab") then Some word.Tab
    else None)))))))

abbrev pub word_of : List ℕ → Option Word
word_of t = elim (op_of t) [
  | Some op ↦ Some (word.Bin op)
  | None ↦ elim (cmp_of t) [ Some cmp ↦ Some (word.Test cmp) | None ↦ form_of t ]
]
