-- Atoms are read back: names, numbers and words.
use Rattle.std.proofs.Common.{◌≡◌, refl, ℕ, ◌≤◌, true, List, arith, Ok, Some, None}
use Rattle.std.proofs.lemmas.Bool.Decides.{nat_tests}
use Rattle.std.specs.Fmt.{decimal}
use Rattle.rup_base.specs.Name.{is_name}
use Rattle.rup_base.specs.declared.arg.Place.{Place}
use Rattle.model_syntax.specs.declared.expr.Expr.TheVariants as v
use Rattle.model_syntax.specs.declared.stmt.Lin.TheVariants as l
use Rattle.rup_base.specs.Number as numbers
use Rattle.model_reader.specs.Parts as parts
use Rattle.model_reader.specs.Expressions.{atom_expr}
use Rattle.model_reader.specs.Facts.{atom_side}
use Rattle.model_syntax.specs.Kinds.{is_word}
use Rattle.model_printer.specs.Printing as printing
use Rattle.model_printer.proofs.Backs.{at_atom, IsBack}
use Rattle.model_printer.proofs.Decimal.{number_decimal, name_is_no_number}

pub word_within : (n : ℕ) → is_word n ≡ true → n ≤ 4294967295
word_within n h = grind (arith, nat_tests)

pub name_back : (x : List ℕ) → is_name x ≡ true → IsBack parts.name printing.atom x
name_back x h c b = at_atom x c (λ r. parts.name r ≡ Ok x) b (λ p. rw h refl)

known_number : (p : Place) (t : List ℕ) (n : ℕ) → numbers.number t ≡ Some n → parts.known p (numbers.number t) ≡ Ok n
known_number p t n h = rw h refl

pub number_back : (n : ℕ) → is_word n ≡ true → IsBack parts.number printing.number n
number_back n h c b =
    at_atom (decimal n) c (λ r. parts.number r ≡ Ok n) b (λ p. known_number p (decimal n) n (number_decimal n (word_within n h)))

literal : (p : Place) (t : List ℕ) (n : ℕ) → numbers.number t ≡ Some n → atom_expr p t ≡ Ok (v.Lit n)
literal p t n h = rw (h, atom_expr) refl

pub literal_back : (p : Place) (n : ℕ) → is_word n ≡ true → atom_expr p (decimal n) ≡ Ok (v.Lit n)
literal_back p n h = literal p (decimal n) n (number_decimal n (word_within n h))

variable : (p : Place) (t : List ℕ) → numbers.number t ≡ None → is_name t ≡ true → atom_expr p t ≡ Ok (v.Var t)
variable p t h i = rw (h, atom_expr) (rw i refl)

pub variable_back : (p : Place) (x : List ℕ) → is_name x ≡ true → atom_expr p x ≡ Ok (v.Var x)
variable_back p x h = variable p x (name_is_no_number x h) h

constant : (p : Place) (t : List ℕ) (n : ℕ) → numbers.number t ≡ Some n → atom_side p t ≡ Ok (l.Const n)
constant p t n h = rw (h, atom_side) refl

pub constant_back : (p : Place) (n : ℕ) → is_word n ≡ true → atom_side p (decimal n) ≡ Ok (l.Const n)
constant_back p n h = constant p (decimal n) n (number_decimal n (word_within n h))

unknown : (p : Place) (t : List ℕ) → numbers.number t ≡ None → is_name t ≡ true → atom_side p t ≡ Ok (l.Var t)
unknown p t h i = rw (h, atom_side) (rw i refl)

pub unknown_back : (p : Place) (x : List ℕ) → is_name x ≡ true → atom_side p x ≡ Ok (l.Var x)
unknown_back p x h = unknown p x (name_is_no_number x h) h
