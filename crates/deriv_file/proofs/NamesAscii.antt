-- The bytes of a name are UTF-8.
use Rattle.std.proofs.Common.{◌≡◌, ℕ, ◌<◌, Bool, true, false, ◌||◌, List, [], ◌∷◌, IsTrue, IsUtf8, nat_le, nat_eq, length}
use Rattle.std.proofs.Common.{leb-true, eqb-true, refl, arith}
use Rattle.std.proofs.lemmas.Bool.{and_parts}
use Rattle.std.specs.Int.{is_in_range}
use Rattle.std.specs.List.{list_all, AllByRecursion}
use Rattle.std.proofs.lemmas.List.Elements.{All-from_recursion}
use Rattle.std.proofs.lemmas.Str.{IsUtf8-from_ascii}
use Rattle.std.proofs.lemmas.Str.Ascii.{IsAscii-from_all}
use Rattle.std.specs.Char.{is_ascii_alphabetic, is_ascii_alphanumeric}
use Rattle.rup_base.specs.Name.{is_name, is_word, begins_name, continues_name}

-- what follows from each of two tests follows from either
either : {P : Type 0} → (a b : Bool) → (a ≡ true → P) → (b ≡ true → P) → (a || b) ≡ true → P
either true b f g h = f refl
either false b f g h = g h

in_range : (least greatest b : ℕ) → greatest < 128 → is_in_range least greatest b ≡ true → b < 128
in_range least greatest b low h =
    let top = leb-true b greatest (and_parts (nat_le least b) (nat_le b greatest) h).1 in
    omega (arith, top, low)

underscore : (b : ℕ) → nat_eq b 95 ≡ true → b < 128
underscore b h = let is = eqb-true b 95 h in omega (arith, is)

begins_ascii : (b : ℕ) → begins_name b ≡ true → b < 128
begins_ascii b h =
    either (is_ascii_alphabetic b) (nat_eq b 95)
    (either (is_in_range 65 90 b) (is_in_range 97 122 b) (in_range 65 90 b (omega arith)) (in_range 97 122 b (omega arith)))
    (underscore b) h

continues_ascii : (b : ℕ) → continues_name b ≡ true → b < 128
continues_ascii b h =
    either (is_ascii_alphanumeric b) (nat_eq b 95)
    (either (is_in_range 48 57 b || is_in_range 65 90 b) (is_in_range 97 122 b)
    (either (is_in_range 48 57 b) (is_in_range 65 90 b) (in_range 48 57 b (omega arith)) (in_range 65 90 b (omega arith)))
    (in_range 97 122 b (omega arith)))
    (underscore b) h

all_ascii : (bs : List ℕ) → list_all continues_name bs ≡ true → AllByRecursion (λ b. b < 128) bs
all_ascii [] h = tt
all_ascii (b ∷ bs) h =
    let parts = and_parts (continues_name b) (list_all continues_name bs) h in
    (continues_ascii b parts.0, all_ascii bs parts.1)

word_ascii : (bs : List ℕ) → is_word bs ≡ true → AllByRecursion (λ b. b < 128) bs
word_ascii [] h = tt
word_ascii (b ∷ bs) h =
    let parts = and_parts (begins_name b) (list_all continues_name bs) h in
    (begins_ascii b parts.0, all_ascii bs parts.1)

pub name_utf8 : (bytes : List ℕ) → IsTrue (is_name bytes) → IsUtf8 bytes
name_utf8 bytes h =
    IsUtf8-from_ascii bytes (IsAscii-from_all bytes
    (All-from_recursion (λ b. b < 128) bytes (word_ascii bytes (and_parts (nat_le (length bytes) 64) (is_word bytes) h).1)))
