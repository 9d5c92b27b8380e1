-- `show IMAGE`: what it asks of the files and answers, the listing of an image, and what it promises.
use Rattle.std.specs.Prelude.{◌≡◌, ℕ, ◌+◌, ◌≤◌, List, [], ◌∷◌, ◌++◌, length, map, Some, Result, Ok, Err, codes}
use Rattle.std.specs.Fmt.{decimal}
use Rattle.rup_base.specs.declared.refusal.Refusal.{Refusal}
use Rattle.rup_io.specs.Files.{Holds}
use Rattle.cost_poly.specs.Polynomial.{symbols}
use Rattle.image_layout.specs.declared.image.Image.{Image}
use Rattle.image_layout.specs.Reading.{read}
use Rattle.image_layout.specs.Spelling.{code_offset}
use Rattle.run_setup.specs.Arguments.{words_of_bytes}
use Rattle.run_setup.specs.Digits.{eight_digits}
use Rattle.rup_top.specs.declared.answer.Answer.{Answer}
use Rattle.rup_top.specs.Answer.{line, done, refused}
use Rattle.rup_top.specs.Bounds.{bound_text}
use Rattle.rup_top.specs.Frame.{Told, Call, IsUndisturbed, Script, asks, comes_to, exactly, Writes}
use Rattle.rup_top.specs.Inputs.{image_limit}

-- ---- What it answers.

-- an image doesn't keep the names of its entry symbols
abbrev pub symbol_name : ℕ → List ℕ
symbol_name s = codes "s" ++ decimal s

abbrev pub symbol_names : List (List ℕ)
symbol_names = map symbol_name symbols

abbrev pub header_line : Image → List ℕ
header_line i =
    line (codes "image " ++ decimal i.version ++ codes " entry " ++ decimal i.entry ++ codes " stack " ++ decimal i.stack
    ++ codes " code " ++ decimal (length i.code)
    ++ codes " tables " ++ decimal (length i.tables) ++ codes " bound " ++ bound_text symbol_names i.bound)

-- a number in eight digits, and a byte behind it
abbrev pub column : ℕ → ℕ → List ℕ
column number byte = eight_digits number ++ byte ∷ []

-- a word of the code behind its offset from the image's start; a space is 32, a line feed 10
abbrev pub word_line : ℕ → ℕ → List ℕ
word_line offset word = column offset 32 ++ column word 10

abbrev pub word_lines : ℕ → List ℕ → List ℕ
word_lines offset [] = []
word_lines offset (word ∷ words) = word_line offset word ++ word_lines (offset + 4) words

abbrev pub listing : Image → List ℕ
listing i = header_line i ++ word_lines (code_offset i) (words_of_bytes i.code)

abbrev pub show_answer : Result Image Refusal → Answer
show_answer (Ok i) = done (listing i) []
show_answer (Err refusal) = refused refusal

abbrev pub show_script : List ℕ → Script
show_script image = asks 1 image image_limit (λ bytes. comes_to (λ a. exactly (show_answer (read bytes)) a))

-- ---- What it promises.

-- the file is an image within its limit
pub record HoldsImage (held : Told) (image : List ℕ) : Type 0 where
  pub bytes : List ℕ
  pub image_held : Holds held image bytes
  pub image_fits : length bytes ≤ image_limit
  pub i : Image
  pub image_is : read bytes ≡ Ok i

-- the listing of an image is written
pub record ShowKeeps (image : List ℕ) (call : Call) : Type 0 where
  pub shows_image : (held : List (List ℕ × List ℕ)) → call.files.held ≡ Some held → (given : HoldsImage call.files.held image)
      → IsUndisturbed call → Writes (listing given.i) call
