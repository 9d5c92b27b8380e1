-- The words of a command line, and the command that they name.
use Rattle.std.specs.Prelude.{ℕ, nat_eq, nat_le, ◌&&◌, List, [], ◌∷◌, length, Option, Some, None, option_and_then, codes}
use Rattle.std.specs.Prelude.{bytes_eq, if◌then◌else◌}
use Rattle.rup_base.specs.Number.{numeral, number}
use Rattle.run_setup.specs.Digits.{behind}

-- the words behind the command's own are a file's name and what else the row takes; those of `bench` are two numbers
pub data Command : Type 0 where
  usage : Command
  compile : (model : List ℕ) → (lemmas : List (List ℕ)) → Command
  replay : (model tree : List ℕ) → (size : ℕ) → Command
  code : (model tree : List ℕ) → Command
  run : (image : List ℕ) → (arguments : List (List ℕ)) → Command
  eval : (model : List ℕ) → (arguments : List (List ℕ)) → Command
  show : (image : List ℕ) → Command
  bench : (seed count : ℕ) → Command

-- the greatest size of an image's code in bytes, which holds where no word says another
abbrev pub most_size : ℕ
most_size = 1_000_000

-- decimal digits, 48 being `0`, which leads no other digit
abbrev pub decimal_number : List ℕ → Option ℕ
decimal_number [] = None
decimal_number (b ∷ []) = numeral 10 (b ∷ [])
decimal_number (b ∷ (c ∷ ds)) = if nat_eq b 48 then None else numeral 10 (b ∷ (c ∷ ds))

abbrev pub size_within : ℕ → Option ℕ
size_within n = if nat_le n most_size then Some n else None

-- the size that a word `size=N` says
abbrev pub size_of : List ℕ → Option ℕ
size_of word = option_and_then size_within (option_and_then decimal_number (behind (codes "size=") word))

abbrev pub replay_within : List ℕ → List ℕ → Option ℕ → Command
replay_within model tree None = usage
replay_within model tree (Some size) = replay model tree size

abbrev pub replay_of : List ℕ → List (List ℕ) → Command
replay_of model (tree ∷ []) = replay model tree most_size
replay_of model (tree ∷ (size ∷ [])) = replay_within model tree (size_of size)
replay_of model words = usage

-- the greatest number of lemma files
abbrev pub most_lemma_files : ℕ
most_lemma_files = 16

abbrev pub compile_of : List ℕ → List (List ℕ) → Command
compile_of model words = if nat_le (length words) most_lemma_files then compile model words else usage

abbrev pub code_of : List ℕ → List (List ℕ) → Command
code_of model (tree ∷ []) = code model tree
code_of model words = usage

abbrev pub show_of : List ℕ → List (List ℕ) → Command
show_of image [] = show image
show_of image words = usage

-- the greatest number of statements that `bench` draws
abbrev pub most_count : ℕ
most_count = 1990

abbrev pub count_within : ℕ → Option ℕ
count_within n = if nat_le 1 n && nat_le n most_count then Some n else None

-- the number of statements that a word says
abbrev pub count_of : List ℕ → Option ℕ
count_of word = option_and_then count_within (number word)

abbrev pub bench_with : Option ℕ → Option ℕ → Command
bench_with None count = usage
bench_with (Some seed) None = usage
bench_with (Some seed) (Some count) = bench seed count

unfoldable pub bench_numbers : List ℕ → List ℕ → Command
bench_numbers seed count = bench_with (number seed) (count_of count)

abbrev pub bench_of : List ℕ → List (List ℕ) → Command
bench_of seed (count ∷ []) = bench_numbers seed count
bench_of seed words = usage

-- words that fit no row of the command table are usage
abbrev pub command_of : List (List ℕ) → Command
command_of [] = usage
command_of (c ∷ []) = usage
command_of (c ∷ (file ∷ words)) =
    if bytes_eq c (codes "compile") then compile_of file words
    else if bytes_eq c (codes "replay") then replay_of file words
    else if bytes_eq c (codes "code") then code_of file words
    else if bytes_eq c (codes "run") then run file words
    else if bytes_eq c (codes "eval") then eval file words
    else if bytes_eq c (codes "show") then show_of file words
    else if bytes_eq c (codes "bench") then bench_of file words
    else usage
