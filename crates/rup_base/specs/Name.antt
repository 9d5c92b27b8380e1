-- Names: 1 to 64 bytes of ASCII, a letter or `_`, then letters, digits and `_`. 95 is `_`.
use Rattle.std.specs.Prelude.{ℕ, Bool, false, ◌&&◌, ◌||◌, nat_le, nat_eq, List, [], ◌∷◌, length, Option, Some, None}
use Rattle.std.specs.Prelude.{if◌then◌else◌}
use Rattle.std.specs.Char.{is_ascii_alphabetic, is_ascii_alphanumeric}
use Rattle.std.specs.List.{list_all}

-- the greatest number of bytes in a name
abbrev pub longest_name : ℕ
longest_name = 64

-- a letter or `_`
abbrev pub begins_name : ℕ → Bool
begins_name b = is_ascii_alphabetic b || nat_eq b 95

-- a letter, a digit or `_`
abbrev pub continues_name : ℕ → Bool
continues_name b = is_ascii_alphanumeric b || nat_eq b 95

-- a byte that begins a name, and bytes that continue it
abbrev pub is_word : List ℕ → Bool
is_word [] = false
is_word (b ∷ bs) = begins_name b && list_all continues_name bs

-- the bytes are a name
abbrev pub is_name : List ℕ → Bool
is_name bytes = nat_le (length bytes) longest_name && is_word bytes

-- the name that the bytes are, if they are one
abbrev pub name_of : List ℕ → Option (List ℕ)
name_of bytes = if is_name bytes then Some bytes else None
