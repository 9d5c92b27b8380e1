-- The values of elements' addresses and of entries' offsets, and what is read there.
use Rattle.std.proofs.Common.{◌≡◌, refl, ◌∙◌, ap, arith, ℕ, ◌+◌, ◌*◌, ◌/◌, ◌%◌, ◌^◌, ◌<◌, ◌≤◌, ◌⊎◌, inl, inr, nat_eq, Bool, true}
use Rattle.std.proofs.Common.{false, List, Option, Some, None, if◌then◌else◌}
use Rattle.std.specs.FinMap.{get}
use Rattle.std.specs.Int.{w32, to_le_bytes}
use Rattle.rup_base.specs.declared.arg.Arg.{Arg}
use Rattle.rup_base.specs.declared.arg.Arg.TheVariants as arg
use Rattle.rv_memory.specs.Ranges.{Bytes, Stands}
use Rattle.sym_heap.specs.declared.parts.Clause.{Clause}
use Rattle.sym_heap.specs.Elements.{element_bytes, element_top}
use Rattle.sym_heap.specs.Fits.{IsArray}
use Rattle.bed_syntax.specs.Shape.{is_known, expr_locals}
use Rattle.bed_syntax.specs.declared.operation.BOp.TheVariants as bop
use Rattle.bed_syntax.specs.declared.operation.Size.TheVariants as size
use Rattle.bed_syntax.specs.declared.expression.BExpr.{BExpr}
use Rattle.bed_syntax.specs.declared.expression.BExpr.TheVariants as b
use Rattle.bed_meaning.specs.Access.{word, loaded}
use Rattle.bed_meaning.specs.Locals.{Vars, local_at}
use Rattle.bed_meaning.specs.Value.{value}
use Rattle.expr_rules.specs.Elements.{size_of, offset, address}
use Rattle.expr_rules.proofs.Codes.{value_lit, value_var, value_bin, locals_lit, locals_var, locals_bin}

-- Elements have one byte or four.

abbrev pub IsSize : ℕ → Type 0
IsSize bytes = (bytes ≡ 1) ⊎ (bytes ≡ 4)

pub size_is : (bytes : ℕ) (found : Option Arg) → IsArray bytes found → IsSize bytes
size_is bytes (Some (arg.Bytes ns)) is = inl is.0
size_is bytes (Some (arg.Words ns)) is = inr is.0
size_is bytes (Some (arg.Word n)) is = absurd is
size_is bytes None is = absurd is

-- Where they stand.

module _ (mem : Bytes) (vars : Vars) where
  pub value_offset : (bytes i : ℕ) (e : BExpr) → IsSize bytes → bytes * i < 2 ^ 32 → value e mem vars ≡ Some i
      → value (offset bytes e) mem vars ≡ Some (bytes * i)
  value_offset bytes i e (inl one) small is =
      let place : i ≡ 1 * i = omega arith in
      rw one (is ∙ ap Some place)
  value_offset bytes i e (inr four) small is =
      let less : 4 * i < 2 ^ 32 = rw four at small in
      let place : i * 2 ^ (2 % 32) % 2 ^ 32 ≡ 4 * i = omega (arith, less) in
      rw four (value_bin mem vars bop.Slu e (b.Lit 2) i 2 is (value_lit mem vars 2) ∙ ap Some place)

  pub value_address : (k : Clause) (start i : ℕ) (e : BExpr) → IsSize k.size → local_at vars k.pointer ≡ Some start
      → start + k.size * i < 2 ^ 32 → value e mem vars ≡ Some i
      → value (address k e) mem vars ≡ Some (start + k.size * i)
  value_address k start i e bytes pointer small is =
      let place : (start + k.size * i) % 2 ^ 32 ≡ start + k.size * i = omega (arith, small) in
      value_bin mem vars bop.Add (b.Var k.pointer) (offset k.size e) start (k.size * i) (value_var mem vars k.pointer ∙ pointer)
      (value_offset k.size i e bytes (omega (arith, small)) is) ∙ ap Some place

module _ (xs : List ℕ) where
  pub locals_offset : (bytes : ℕ) (e : BExpr) → expr_locals e xs ≡ xs → expr_locals (offset bytes e) xs ≡ xs
  locals_offset bytes e is = by (nat_eq bytes 1) where
    by : (one : Bool) → expr_locals (if one then e else b.Bin bop.Slu e (b.Lit 2)) xs ≡ xs
    by true = is
    by false = locals_bin xs bop.Slu e (b.Lit 2) is (locals_lit xs 2)

  pub locals_address : (k : Clause) (e : BExpr) → is_known xs k.pointer ≡ true → expr_locals e xs ≡ xs
      → expr_locals (address k e) xs ≡ xs
  locals_address k e pointer is =
      locals_bin xs bop.Add (b.Var k.pointer) (offset k.size e) (locals_var xs k.pointer pointer) (locals_offset k.size e is)

-- What is read there.

-- a word from its bytes
pub word_of : (byte : ℕ → Option ℕ) (at n : ℕ) → n ≤ 4294967295 → byte at ≡ Some (n % 256) → byte (at + 1) ≡ Some (n / 256 % 256)
    → byte (at + 2) ≡ Some (n / 65536 % 256)
    → byte (at + 3) ≡ Some (n / 16777216 % 256) → word byte size.Four at ≡ Some n
word_of byte at n small one two three four =
    let whole : n % 256 + 256 * (n / 256 % 256 + 256 * (n / 65536 % 256 + 256 * (n / 16777216 % 256)))
    ≡ n = omega (arith, small) in
    rw (one, two, three, four) (ap Some whole)

-- an element that stands at a multiple of its size
pub loaded_element : (bytes start n : ℕ) (mem : Bytes) → IsSize bytes → start % bytes ≡ 0 → n ≤ element_top bytes
    → Stands mem start (element_bytes bytes n) → loaded (size_of bytes) mem start ≡ Some n
loaded_element bytes start n mem (inl one) aligned small stands =
    let here : Stands mem start (element_bytes 1 n) = rw one at stands in
    let place : start + 0 ≡ start = omega arith in
    let multiple : start % 1 ≡ 0 = omega arith in
    let found : get mem start ≡ Some n = rw place at (here 0 n refl) in
    rw one (rw multiple found)
loaded_element bytes start n mem (inr four) aligned small stands =
    let here : Stands mem start (to_le_bytes w32 n) = rw four at stands in
    let most : n ≤ 4294967295 = rw four at small in
    let place : start + 0 ≡ start = omega arith in
    let multiple : start % 4 ≡ 0 = rw four at aligned in
    let first : get mem start ≡ Some (n % 256) = rw place at (here 0 (n % 256) refl) in
    rw four (rw multiple (word_of (λ a. get mem a) start n most first (here 1 (n / 256 % 256) refl)
    (here 2 (n / 65536 % 256) refl) (here 3 (n / 16777216 % 256) refl)))
