-- How long an image within the limits is, and its lists.
use Rattle.std.proofs.Common.{◌≡◌, ℕ, ◌+◌, ◌-◌, ◌*◌, ◌≤◌, List, [], ◌∷◌, ◌++◌, length, replicate, Option, Some, None, ℤ, refl}
use Rattle.std.proofs.Common.{length-append, arith}
use Rattle.std.specs.Prelude.{sum_by}
use Rattle.std.specs.List.{flat_map, AllByRecursion}
use Rattle.std.proofs.lemmas.List.{length-replicate}
use Rattle.std.proofs.lemmas.List.Sums.{sum_by-cons}
use Rattle.rup_base.specs.declared.arg.Kind.{Kind}
use Rattle.rup_base.specs.declared.arg.Kind.TheVariants.{Word, Byte, Bytes, Words}
use Rattle.side_certs.specs.LinearForm.{LinearForm}
use Rattle.cost_poly.specs.declared.term.Term.{Term}
use Rattle.image_layout.specs.declared.image.Image.{Image}
use Rattle.image_layout.specs.Spelling.{registers_of, symbols_of, wide, parameter, form_term, requirement, symbol, bound_term}
use Rattle.image_layout.specs.Spelling.{lists, header_length, code_offset, image_length, fixed_fields, spelling, symbol_count}
use Rattle.image_layout.specs.Spelling.{IsRequirement, IsWithinLimits}
use Rattle.image_layout.proofs.Limits.{params_few, terms_few, rets_few, bound_few}

parameter_size : (k : Kind) → length (parameter k) ≡ 8
parameter_size Word = refl
parameter_size Byte = refl
parameter_size (Bytes None) = refl
parameter_size (Bytes (Some n)) = refl
parameter_size (Words None) = refl
parameter_size (Words (Some n)) = refl

params_size : (ks : List Kind) → length (flat_map parameter ks) ≡ 8 * length ks
params_size [] = refl
params_size (k ∷ ks) = omega (arith, length-append (parameter k) (flat_map parameter ks), parameter_size k, params_size ks)

terms_size : (ts : List (ℕ × ℤ)) → length (flat_map form_term ts) ≡ 12 * length ts
terms_size [] = refl
terms_size (t ∷ ts) = let rest : length (flat_map form_term ts) ≡ 12 * length ts = terms_size ts in omega (arith, rest)

pub requirement_size : (f : LinearForm) → length (requirement f) ≡ 12 + 12 * length f.terms
requirement_size f = omega (arith, terms_size f.terms)

requirements_size : (count : ℕ) (fs : List LinearForm) → count ≤ 8 → AllByRecursion (IsRequirement count) fs
    → length (flat_map requirement fs) ≤ 108 * length fs
requirements_size count [] few all = omega arith
requirements_size count (f ∷ fs) few all =
    let terms : 0 + length f.terms ≤ count = terms_few 0 count f.terms (omega arith) all.0.terms_fit in
    omega (
      arith,
      length-append (requirement f) (flat_map requirement fs),
      requirements_size count fs few all.1,
      requirement_size
          f,
      terms,
      few,
    )

symbol_size : (s : Option ℕ) → length (symbol s) ≡ 4
symbol_size None = refl
symbol_size (Some n) = refl

rets_size : (rs : List (Option ℕ)) → length (flat_map symbol rs) ≡ 4 * length rs
rets_size [] = refl
rets_size (r ∷ rs) = omega (arith, length-append (symbol r) (flat_map symbol rs), symbol_size r, rets_size rs)

bound_size : (ts : List Term) → length (flat_map bound_term ts) ≡ 16 * length ts
bound_size [] = refl
bound_size (t ∷ ts) =
    let size : length (bound_term t)
    ≡ 16 = omega (
      arith,
      length-append (symbol t.first) (symbol t.second ++ wide t.coefficient),
      length-append
          (symbol t.second) (wide t.coefficient),
      symbol_size t.first,
      symbol_size t.second,
    ) in
    omega (arith, length-append (bound_term t) (flat_map bound_term ts), size, bound_size ts)

symbols_near : (k : Kind) → symbols_of k ≤ registers_of k
symbols_near Word = omega arith
symbols_near Byte = omega arith
symbols_near (Bytes None) = omega arith
symbols_near (Bytes (Some n)) = omega arith
symbols_near (Words None) = omega arith
symbols_near (Words (Some n)) = omega arith

symbols_few : (ks : List Kind) → symbol_count ks ≤ sum_by registers_of ks
symbols_few [] = omega arith
symbols_few (k ∷ ks) = omega (arith, symbols_near k, symbols_few ks, sum_by-cons symbols_of k ks, sum_by-cons registers_of k ks)

-- the numbers of entries in the lists, and the bytes of the requirements
pub record AreFew (i : Image) : Type 0 where
  pub params : length i.params ≤ 8
  pub requirements : length (flat_map requirement i.requires_) ≤ 108 * 4096
  pub rets : length i.rets ≤ 10
  pub bound : length i.bound ≤ 45

pub lists_few : (i : Image) → IsWithinLimits i → AreFew i
lists_few i w =
    let count : symbol_count i.params ≤ 8 = omega (arith, symbols_few i.params, w.registers_most) in
    let kinds : length i.params ≤ 8 = omega (arith, params_few i.params, w.registers_most) in
    record {
      params = kinds;
      requirements = omega (arith, requirements_size (symbol_count i.params) i.requires_ count w.requires_fit, w.requires_most);
      rets = omega (arith, rets_few i.params i.rets w.rets_fit, kinds);
      bound = bound_few (symbol_count i.params) i.bound count w.bound_fits;
    }

pub lists_size : (i : Image) → length (lists i) ≡ 8 * length i.params + length (flat_map requirement i.requires_)
    + 4 * length i.rets + 16 * length i.bound
lists_size i =
    omega (
      arith,
      length-append (flat_map parameter i.params)
          (flat_map requirement i.requires_ ++ (flat_map symbol i.rets ++ flat_map bound_term i.bound)),
      length-append (flat_map requirement i.requires_) (flat_map symbol i.rets ++ flat_map bound_term i.bound),
      length-append (flat_map symbol i.rets) (flat_map bound_term i.bound),
      params_size i.params,
      rets_size i.rets,
      bound_size i.bound,
    )

pub lists_small : (i : Image) → IsWithinLimits i → length (lists i) ≤ 450000
lists_small i w = let few = lists_few i w in omega (arith, lists_size i, few.params, few.requirements, few.rets, few.bound)

pub entry_small : (i : Image) → IsWithinLimits i → i.entry ≤ 1600000
entry_small i w = omega (arith, lists_small i w, w.entry_below, w.code_most)

pub params_most : (i : Image) → IsWithinLimits i → length i.params ≤ 8
params_most i w = omega (arith, params_few i.params, w.registers_most)

pub spelling_size : (i : Image) → length (spelling i) ≡ image_length i
spelling_size i =
    omega (
      arith,
      length-append (fixed_fields i) (lists i ++ (replicate (code_offset i - header_length i) 0 ++ (i.code ++ i.tables))),
      length-append (lists i) (replicate (code_offset i - header_length i) 0 ++ (i.code ++ i.tables)),
      length-append (replicate (code_offset i - header_length i) 0) (i.code ++ i.tables),
      length-append i.code i.tables,
      length-replicate {A = ℕ} (code_offset i - header_length i) 0,
      fixed_size i,
    )
  where
    fixed_size : (i : Image) → length (fixed_fields i) ≡ 48
    fixed_size i = refl

pub image_small : (i : Image) → IsWithinLimits i → length (spelling i) ≤ 1600000
image_small i w = omega (arith, spelling_size i, lists_small i w, w.code_most, w.tables_most)
