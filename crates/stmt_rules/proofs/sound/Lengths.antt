-- The code of an array's length, and the element of a count, in a state that fits.
use Rattle.std.proofs.Common.{◌≡◌, refl, sym, ◌∙◌, ap, subst, arith, ℕ, suc, ◌+◌, ◌*◌, ◌<◌, ◌≤◌, ◌^◌, ◌%◌, inl, inr, Bool, true}
use Rattle.std.proofs.Common.{false, ◌&&◌, nat_abs, nat_eq, List, [], ◌∷◌, length, Option, Some, None, slice_get, ℤ, pos, negsuc}
use Rattle.std.proofs.Common.{◌≤ℤ◌}
use Rattle.std.specs.Prelude.{option_map}
use Rattle.std.specs.Int.Signed.{le_z}
use Rattle.std.proofs.Math.Nat.{mul-le-mul_left}
use Rattle.std.proofs.lemmas.Bool.Decides.{nat_tests}
use Rattle.std.proofs.lemmas.Int.{ints}
use Rattle.std.proofs.lemmas.Option.{slice_get_within}
use Rattle.rup_base.specs.declared.arg.Arg.{Arg}
use Rattle.rv_memory.specs.Ranges.{Bytes}
use Rattle.side_certs.specs.LinearForm.{LinearForm, value_at}
use Rattle.model_syntax.specs.declared.expr.Scalar.{Scalar}
use Rattle.model_syntax.specs.declared.expr.Scalar.TheVariants.{Word, Byte, Flag}
use Rattle.model_syntax.specs.Environment.{elements}
use Rattle.model_syntax.proofs.laws.Arrays.{and_parts}
use Rattle.sym_heap.specs.declared.parts.Clause.{Clause}
use Rattle.sym_heap.specs.Context.{top_of}
use Rattle.sym_heap.specs.Elements.{element_top}
use Rattle.sym_heap.specs.Fits.{Call, ClauseFits, array_bytes}
use Rattle.sym_heap.specs.Scoped.{element_size}
use Rattle.sym_heap.proofs.laws.Elements.{element_read}
use Rattle.sym_heap.proofs.laws.Writes.{bytes_length}
use Rattle.bed_syntax.specs.declared.expression.BExpr.{BExpr, fold-roll-BExpr}
use Rattle.bed_syntax.specs.declared.expression.BExpr.TheOpen as o
use Rattle.bed_syntax.specs.declared.expression.BExpr.TheVariants as b
use Rattle.bed_meaning.specs.Access.{loaded}
use Rattle.bed_meaning.specs.Locals.{Vars, local_at}
use Rattle.bed_meaning.specs.Value.{value, value_step, then_some}
use Rattle.expr_rules.specs.Elements.{size_of}
use Rattle.expr_rules.specs.Words.{most, number_of, in_range, number_in}
use Rattle.expr_rules.specs.rules.Len.{code}
use Rattle.expr_rules.proofs.laws.Addresses.{IsSize, size_is, value_address, loaded_element}
use Rattle.stmt_rules.specs.Loops.{place_of, element_kind}
use Rattle.stmt_rules.proofs.sound.Counted.{Value, value_lit, value_var}

-- Lengths.

-- a form that is a number has that value
number_value : (f : LinearForm) (k : ℤ) → number_of f ≡ Some k → (v : ℕ → ℕ) → value_at v f ≡ k
number_value f k is v = by f.terms refl where
  by : (ts : List (ℕ × ℤ)) → f.terms ≡ ts → value_at v f ≡ k
  by [] e =
      let here : Some f.constant ≡ Some k = rw e at is in
      let one : f.constant ≡ k = cc in
      rw e (omega (arith, ints, one))
  by (t ∷ ts) e =
      let some : nat_eq (length (t ∷ ts)) 0 ≡ false = grind (arith, nat_tests) in
      absurd (let bad : None ≡ Some k = rw (e, some) at is in cc)

in_range_is : (low high n : ℕ) (k : ℤ) → in_range low high k ≡ Some n → k ≡ pos n
in_range_is low high n k is = by (le_z (pos low) k && le_z k (pos high)) refl where
  by : (t : Bool) → (le_z (pos low) k && le_z k (pos high)) ≡ t → k ≡ pos n
  by true e =
      let sides = and_parts (le_z (pos low) k) (le_z k (pos high)) e in
      let least : pos low ≤ℤ k = omega (arith, ints, sides.0) in
      let here : Some (nat_abs k) ≡ Some n = rw e at is in
      let size : nat_abs k ≡ n = cc in
      whole k size least
    where
      whole : (z : ℤ) → nat_abs z ≡ n → pos low ≤ℤ z → z ≡ pos n
      whole (pos m) size least = let same : m ≡ n = size in ap pos same
      whole (negsuc m) size least = absurd (omega (arith, ints, least))
  by false e = absurd (let bad : None ≡ Some n = rw e at is in cc)

number_in_value : (n : ℕ) (f : LinearForm) → number_in 0 most f ≡ Some n → (v : ℕ → ℕ) → value_at v f ≡ pos n
number_in_value n f is v = by (number_of f) refl where
  by : (t : Option ℤ) → number_of f ≡ t → value_at v f ≡ pos n
  by None e = absurd (let bad : None ≡ Some n = rw e at is in cc)
  by (Some k) e = number_value f k e v ∙ in_range_is 0 most n k (rw e at is)

-- the code of the length has the number of elements
pub length_value : (call : Call) (v : ℕ → ℕ) (k : Clause) (found : Option Arg) (mem : Bytes) (vars : Vars) (e : BExpr)
    → ClauseFits call v k found mem (local_at vars) → code k ≡ Some e
    → value e mem vars ≡ Some (length (elements found))
length_value call v k found mem vars e f is = by k.length_local refl where
  literal : (t : Option ℕ) → number_in 0 most k.length ≡ t → option_map b.Lit t ≡ Some e
      → value e mem vars ≡ Some (length (elements found))
  literal None n made = absurd (let bad : None ≡ Some e = made in cc)
  literal (Some m) n made =
      let here : Some (b.Lit m) ≡ Some e = made in
      let code_is : b.Lit m ≡ e = cc in
      let form : pos m ≡ pos (length (elements found)) = sym (number_in_value m k.length n v) ∙ f.form in
      let number : m ≡ length (elements found) = omega (arith, ints, form) in
      ap (λ z. value z mem vars) (sym code_is) ∙ value_lit mem vars m ∙ ap Some number

  by : (t : Option ℕ) → k.length_local ≡ t → value e mem vars ≡ Some (length (elements found))
  by None none = literal (number_in 0 most k.length) refl (rw none at is)
  by (Some l) some =
      let here : Some (b.Var l) ≡ Some e = rw some at is in
      let code_is : b.Var l ≡ e = cc in
      ap (λ z. value z mem vars) (sym code_is) ∙ value_var mem vars l ∙ f.length_local l some

-- Elements.

-- where the element of an index stands
pub record StandsAt (call : Call) (k : Clause) (i : ℕ) : Type 0 where
  pub sized : IsSize k.size
  pub aligned : (call.pointers k.param + k.size * i) % k.size ≡ 0
  pub small : call.pointers k.param + k.size * i < 2 ^ 32

pub element_stands : (call : Call) (v : ℕ → ℕ) (k : Clause) (found : Option Arg) (mem : Bytes) (vars : Vars) (i : ℕ)
    → ClauseFits call v k found mem (local_at vars) → i < length (elements found) → StandsAt call k i
element_stands call v k found mem vars i f less = by (size_is k.size found f.array) where
  long : length (array_bytes found) ≡ k.size * length (elements found)
  long = bytes_length k.size found f.array

  product : k.size * suc i ≤ k.size * length (elements found)
  product = mul-le-mul_left k.size (omega (arith, less))

  ends : call.pointers k.param + length (array_bytes found) ≤ 2 ^ 32
  ends = f.ends

  by : IsSize k.size → StandsAt call k i
  by (inl one) =
      let less_one : k.size * suc i ≡ k.size * i + k.size = omega arith in
      record { sized = inl one; aligned = rw one (omega arith); small = omega (arith, long, product, ends, less_one, one) }
  by (inr four) =
      let less_one : k.size * suc i ≡ k.size * i + k.size = omega arith in
      let aligned : call.pointers k.param % 4 ≡ 0 = subst (λ (s : ℕ). call.pointers k.param % s ≡ 0) four f.aligned in
      record {
        sized = inr four;
        aligned = rw four (omega (arith, aligned));
        small = omega (arith, long, product, ends, less_one, four);
      }

-- the element of the count is loaded
pub element_value : (call : Call) (v : ℕ → ℕ) (k : Clause) (found : Option Arg) (mem : Bytes) (vars : Vars) (li i n : ℕ)
    → ClauseFits call v k found mem (local_at vars) → local_at vars li ≡ Some i
    → slice_get (elements found) i ≡ Some n → (value (place_of k li) mem vars ≡ Some (call.pointers k.param + k.size * i))
    × ((value (b.Load (size_of k.size) (place_of k li)) mem vars ≡ Some n) × (n ≤ element_top k.size))
element_value call v k found mem vars li i n f count at =
    let less = slice_get_within (elements found) i n at in
    let s = element_stands call v k found mem vars i f less in
    let start = call.pointers k.param in
    let place : value (place_of k li) mem vars
    ≡ Some (start + k.size * i) = value_address mem vars k start i (b.Var li) s.sized f.pointer s.small
    (value_var mem vars li ∙ count) in
    let bytes = element_read k.size found mem start i n f.array f.stands at in
    let load : loaded (size_of k.size) mem (start + k.size * i)
    ≡ Some n = loaded_element k.size (start + k.size * i) n mem s.sized s.aligned bytes.1 bytes.0 in
    let whole : value (b.Load (size_of k.size) (place_of k li)) mem vars
    ≡ then_some (value (place_of k li) mem vars) (loaded (size_of k.size) mem) =
    ap (λ (g : Value). g mem vars)
    (ap value (sym (b.rolls-Load (size_of k.size) (place_of k li)))
    ∙ fold-roll-BExpr Value value_step (o.Load (size_of k.size) (place_of k li))) in
    (place, (whole ∙ ap (λ z. then_some z (loaded (size_of k.size) mem)) place ∙ load, bytes.1))

-- Types of elements.

pub kind_is : (t : Scalar) (k : Clause) → element_size t ≡ Some k.size → (element_kind k ≡ t) × (element_top k.size ≡ top_of t)
kind_is Word k is = let four : 4 ≡ k.size = cc in rw (sym four) (refl, refl)
kind_is Byte k is = let one : 1 ≡ k.size = cc in rw (sym one) (refl, refl)
kind_is Flag k is = absurd (let bad : None ≡ Some k.size = is in cc)
