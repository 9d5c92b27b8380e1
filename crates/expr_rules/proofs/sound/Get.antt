-- e-get is sound: the element stands at its address, which is a multiple of its size.
use Rattle.std.proofs.Common.{◌≡◌, sym, ◌∙◌, ap, subst, arith, ℕ, ◌+◌, ◌*◌, ◌%◌, ◌^◌, ◌<◌, ◌≤◌, inl, inr, List, [], ◌∷◌, length}
use Rattle.std.proofs.Common.{get_or, Option, Some, Ok, pos, negsuc, ◌≤ℤ◌}
use Rattle.std.proofs.lemmas.Int.{ints}
use Rattle.std.proofs.lemmas.Option.{slice_get-get_or}
use Rattle.rup_base.specs.declared.arg.Arg.{Arg}
use Rattle.rv_memory.specs.Ranges.{Bytes}
use Rattle.side_certs.specs.LinearForm.{LinearForm, value_at}
use Rattle.side_certs.specs.declared.certificate.Cert.{Cert}
use Rattle.model_syntax.specs.declared.expr.Scalar.{Scalar}
use Rattle.model_syntax.specs.declared.expr.Scalar.TheVariants.{Word, Byte, Flag}
use Rattle.model_syntax.specs.declared.program.Param.{Param}
use Rattle.model_syntax.specs.declared.scope.NameType.TheVariants.{Array as Many}
use Rattle.model_syntax.specs.Entries.{entry_names}
use Rattle.model_syntax.specs.Environment.{Env, value_of, elements}
use Rattle.model_syntax.specs.Names.{Name}
use Rattle.model_syntax.specs.Scope.{Scope, look_up, element_in}
use Rattle.model_syntax.proofs.laws.Bindings.{same_is}
use Rattle.model_syntax.proofs.laws.Expressions.{element_is}
use Rattle.sym_heap.specs.declared.parts.Clause.{Clause}
use Rattle.sym_heap.specs.Context.{Context, own, is_clause, top_of}
use Rattle.sym_heap.specs.Elements.{element_top}
use Rattle.sym_heap.specs.Fits.{Call, ClauseFits, array_bytes}
use Rattle.sym_heap.specs.Scoped.{IsArrayOf, element_size}
use Rattle.sym_heap.proofs.laws.Elements.{element_read}
use Rattle.sym_heap.proofs.laws.Extending.{Standing, standing}
use Rattle.sym_heap.proofs.laws.Writes.{bytes_length}
use Rattle.bed_meaning.specs.Locals.{Vars, local_at}
use Rattle.bed_meaning.specs.Value.{value}
use Rattle.expr_rules.specs.declared.output.ExprOut.{ExprOut}
use Rattle.expr_rules.specs.Elements.{size_of, address}
use Rattle.expr_rules.specs.Words.{sum_of, fresh_result}
use Rattle.expr_rules.specs.Sound.{ExprDone, Yields}
use Rattle.expr_rules.specs.rules.Get.{code, element, after}
use Rattle.expr_rules.proofs.Codes.{value_load, locals_load}
use Rattle.expr_rules.proofs.Came.{Of, came_one, locals_back}
use Rattle.expr_rules.proofs.Reading.{read_done}
use Rattle.expr_rules.proofs.Sums.{value_sum}
use Rattle.expr_rules.proofs.laws.Addresses.{IsSize, size_is, value_address, locals_address, loaded_element}
use Rattle.expr_rules.proofs.laws.Yields.{yields_found, yields_shown}

-- an element is not above the top of its type
pub top_is : (t : Scalar) (bytes : ℕ) → element_size t ≡ Some bytes → element_top bytes ≤ top_of t
top_is Word bytes is = let same : 4 ≡ bytes = cc in subst (λ (n : ℕ). element_top n ≤ 4294967295) same (omega arith)
top_is Byte bytes is = let same : 1 ≡ bytes = cc in subst (λ (n : ℕ). element_top n ≤ 255) same (omega arith)
top_is Flag bytes is = absurd (cc)

-- an element of an array stands at a multiple of its size, and the array does not pass 2^32
record Placed (start bytes i : ℕ) : Type 0 where
  pub small : start + bytes * i < 2 ^ 32
  pub aligned : (start + bytes * i) % bytes ≡ 0

placed : (start bytes i n whole : ℕ) → IsSize bytes → start % bytes ≡ 0 → whole ≡ bytes * n → start + whole ≤ 2 ^ 32 → i < n
    → Placed start bytes i
placed start bytes i n whole (inl one) aligned size ends less =
    let size_one : whole ≡ 1 * n = rw one at size in
    rw one (record { small = omega (arith, size_one, ends, less); aligned = omega arith })
placed start bytes i n whole (inr four) aligned size ends less =
    let size_four : whole ≡ 4 * n = rw four at size in
    let start_aligned : start % 4 ≡ 0 = rw four at aligned in
    rw four (record { small = omega (arith, size_four, ends, less); aligned = omega (arith, start_aligned) })

-- what is loaded of an array
read : (call : Call) (v : ℕ → ℕ) (k : Clause) (found : Option Arg) (i : ℕ) (p : ExprOut) (mem : Bytes) (vars : Vars)
    → ClauseFits call v k found mem (local_at vars) → i < length (elements found)
    → value p.code mem vars ≡ Some i → (value (code k p.code) mem vars ≡ Some (get_or (elements found) i 0))
    × (get_or (elements found) i 0 ≤ element_top k.size)
read call v k found i p mem vars here less index =
    let start : ℕ = call.pointers k.param in
    let n : ℕ = get_or (elements found) i 0 in
    let bytes : IsSize k.size = size_is k.size found here.array in
    let place : Placed start k.size i =
    placed start k.size i (length (elements found)) (length (array_bytes found)) bytes here.aligned
    (bytes_length k.size found here.array) here.ends less in
    let stands = element_read k.size found mem start i n here.array here.stands (slice_get-get_or (elements found) i 0 less) in (
      value_load mem vars (size_of k.size) (address k p.code) (start + k.size * i)
          (value_address mem vars k start i p.code bytes here.pointer place.small index)
          ∙ loaded_element k.size (start + k.size * i) n mem bytes place.aligned stands.1 stands.0,
      stands.1,
    )

pub sound : (ps : List Param) (scope : Scope) (f : Env → ℕ) (before : Context) (p : ExprOut) (mid : Context)
    → ExprDone ps scope f Word before p mid → (certs : List Cert) (at : ℕ) (a : Name) (t : Scalar)
    → element_in (look_up scope a) ≡ Ok t
    → Yields (ExprDone ps scope (λ env. get_or (elements (value_of env a)) (f env) 0) t before) (after certs at a p mid)
sound ps scope f before p mid d certs at a t typed =
    yields_found (ExprDone ps scope sem t before) mid (own mid a) at 4 (λ k. element certs at k p) (λ k owned. by k owned)
  where
    sem : Env → ℕ
    sem env = get_or (elements (value_of env a)) (f env) 0

    by : (k : Clause) → own mid a ≡ Some k → Yields (ExprDone ps scope sem t before) (element certs at k p mid)
    by k owned =
        yields_shown (ExprDone ps scope sem t before) mid at certs goal
        (λ _. fresh_result at (element_top k.size) (code k p.code))
        (λ closes. read_done (Of f Word p) ps scope before mid (came_one ps scope f Word before mid p d) sem t at
        (element_top k.size) (code k p.code) (top_is t k.size size)
        (λ xs has. locals_load xs (size_of k.size) (address k p.code)
        (locals_address xs k p.code ((locals_back before mid xs d.extends has).pointers stands.place k stands.at)
        (d.locals xs has)))
        (λ call v env mem vars fits r.
        let here : ClauseFits call v k (value_of env a) mem (local_at vars) = fits.clauses a k owned in
        let shown : pos 0 ≤ℤ value_at v goal = closes v fits.holds in
        let value_is = value_sum v (negsuc 0) ((pos 1, k.length) ∷ (negsuc 0, p.form) ∷ []) in
        let form = here.form in
        let index = r.form in
        read call v k (value_of env a) (f env) p mem vars here (omega (arith, ints, shown, value_is, form, index)) r.value))
      where
        goal : LinearForm
        goal = sum_of (negsuc 0) ((pos 1, k.length) ∷ (negsuc 0, p.form) ∷ [])

        stands : Standing (is_clause a) mid.clauses k
        stands = standing (is_clause a) mid.clauses k owned

        array : IsArrayOf (entry_names ps) scope k
        array = d.scoped.clauses stands.place k stands.at

        size : element_size t ≡ Some k.size
        size =
            let name : k.name ≡ a = same_is k.name a stands.passes in
            let element = element_is (look_up scope a) t typed in
            let both : Some (Many array.element array.len) ≡ Some (Many t element.0) = sym array.type ∙ ap (look_up scope) name
            ∙ element.1 in
            let same : array.element ≡ t = cc in
            subst (λ (u : Scalar). element_size u ≡ Some k.size) same array.size
