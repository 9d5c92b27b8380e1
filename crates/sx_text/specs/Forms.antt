-- The forms of a text, with their places, and what is wrong with bytes that are no text.
use Rattle.std.specs.Prelude.{ℕ, zero, suc, ◌+◌, nat_eq, List, [], ◌∷◌, length, take, Option, Some, None, Result, Ok, Err}
use Rattle.std.specs.Prelude.{if◌then◌else◌}
use Rattle.rup_base.specs.declared.arg.Place.{Place}
use Rattle.rup_base.specs.declared.refusal.TextWhy.{TextWhy}
use Rattle.rup_base.specs.declared.refusal.TextWhy.TheVariants as why
use Rattle.rup_base.specs.declared.refusal.Refusal.{Refusal}
use Rattle.rup_base.specs.declared.refusal.Refusal.TheVariants.{NotText}
use Rattle.sx_text.specs.declared.byte_class.Class.TheVariants.{Space, Note, Open, Close, Word, Bad}
use Rattle.sx_text.specs.declared.tree.Sx.{Sx}
use Rattle.sx_text.specs.declared.tree.Sx.TheVariants.{Atom, Kids}
use Rattle.sx_text.specs.Bytes.{class, word_length, line_length}

abbrev pub place : ℕ → ℕ → Place
place from behind = record { start = from; end = behind }

-- What the rest of a text holds: its forms up to the first `)` that closes a list from before, and for
-- each such `)` the offset behind it and the forms that follow.
abbrev pub Rest : Type 0
Rest = List Sx × List (ℕ × List Sx)

-- a `(` before a rest: the forms up to its `)` are inside, and what follows that `)` stands beside the list
abbrev pub opened : ℕ → Rest → Rest
opened at (kids, []) = (kids, [])
opened at (kids, close ∷ closes) = (Kids (place at close.0) kids ∷ close.1, closes)

-- a `)` before a rest
abbrev pub closed : ℕ → Rest → Rest
closed at rest = ([], (at + 1, rest.0) ∷ rest.1)

-- an atom before a rest
abbrev pub worded : ℕ → List ℕ → Rest → Rest
worded at text rest = (Atom (place at (at + length text)) text ∷ rest.0, rest.1)

-- the rest of a text from offset `at` on, of which the first n bytes are passed over
unfoldable pub rest_of : ℕ → ℕ → List ℕ → Rest
rest_of n at [] = ([], [])
rest_of (suc n) at (b ∷ bs) = rest_of n (at + 1) bs
rest_of zero at (b ∷ bs) = elim (class b) [
  | Space ↦ rest_of 0 (at + 1) bs
  | Note ↦ rest_of (line_length bs) (at + 1) bs
  | Open ↦ opened at (rest_of 0 (at + 1) bs)
  | Close ↦ closed at (rest_of 0 (at + 1) bs)
  | Word ↦ worded at (b ∷ take (word_length bs) bs) (rest_of (word_length bs) (at + 1) bs)
  | Bad ↦ ([], [])
]

-- the greatest number of lists that are open at one place
abbrev pub deepest : ℕ
deepest = 256

-- the first fault from offset `at` on, inside `level` open lists, where the first n bytes are passed over
unfoldable pub fault : ℕ → ℕ → ℕ → List ℕ → Option (ℕ × TextWhy)
fault n zero at [] = None
fault n (suc level) at [] = Some (at, why.Unclosed)
fault (suc n) level at (b ∷ bs) = fault n level (at + 1) bs
fault zero level at (b ∷ bs) = elim (class b) [
  | Space ↦ fault 0 level (at + 1) bs
  | Note ↦ fault (line_length bs) level (at + 1) bs
  | Open ↦ if nat_eq level deepest then Some (at, why.Deep) else fault 0 (level + 1) (at + 1) bs
  | Close ↦ elim level [ zero ↦ Some (at, why.Extra) | suc outer ↦ fault 0 outer (at + 1) bs ]
  | Word ↦ fault (word_length bs) level (at + 1) bs
  | Bad ↦ Some (at, why.Byte)
]

-- the forms of a file that is a text, else its first fault; the file's name is a word of the command
abbrev pub judged : ℕ → Option (ℕ × TextWhy) → List Sx → Result (List Sx) Refusal
judged word None forms = Ok forms
judged word (Some (at, why)) forms = Err (NotText word at why)

abbrev pub read : ℕ → List ℕ → Result (List Sx) Refusal
read word bytes = judged word (fault 0 0 0 bytes) (rest_of 0 0 bytes).0
