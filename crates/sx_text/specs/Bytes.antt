-- What a byte does in a text of forms, by its code in ASCII.
use Rattle.std.specs.Prelude.{ℕ, ◌+◌, Bool, true, false, ◌||◌, ◌&&◌, nat_le, nat_eq, List, [], ◌∷◌, if◌then◌else◌}
use Rattle.sx_text.specs.declared.byte_class.Class.{Class}
use Rattle.sx_text.specs.declared.byte_class.Class.TheVariants.{Space, Note, Open, Close, Word, Bad}

-- space, tab, line feed and carriage return
abbrev pub is_blank : ℕ → Bool
is_blank b = nat_eq b 32 || nat_eq b 9 || nat_eq b 10 || nat_eq b 13

-- 59 is `;`, 40 `(`, 41 `)`; the other bytes from 0x21 to 0x7e make atoms
abbrev pub class : ℕ → Class
class b =
    if is_blank b then Space
    else (if nat_eq b 59 then Note
    else (if nat_eq b 40 then Open
    else (if nat_eq b 41 then Close
    else (if nat_le 33 b && nat_le b 126 then Word
    else Bad))))

abbrev pub is_word_class : Class → Bool
is_word_class Word = true
is_word_class _ = false

-- the byte stands in atoms
abbrev pub in_atom : ℕ → Bool
in_atom b = is_word_class (class b)

-- how many bytes in front stand in atoms
abbrev pub word_length : List ℕ → ℕ
word_length [] = 0
word_length (b ∷ bs) = if in_atom b then 1 + word_length bs else 0

-- how many bytes stand before the first line feed, all where there is none
abbrev pub line_length : List ℕ → ℕ
line_length [] = 0
line_length (b ∷ bs) = if nat_eq b 10 then 0 else 1 + line_length bs
