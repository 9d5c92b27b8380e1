-- Each entry of the lists: where its fields are right it stands there and may, and where it stands there and may its
-- fields are right.
use Rattle.std.proofs.Common.{◌≡◌, ℕ, zero, suc, ◌+◌, ◌*◌, ◌^◌, ◌<◌, ◌≤◌, Bool, true, false, not, ◌&&◌, ◌||◌, List, [], ◌∷◌, ◌++◌}
use Rattle.std.proofs.Common.{length, drop, Option, Some, None, ℤ, pos, nat_le, nat_lt, nat_eq, refl, sym, ap, ◌∙◌, append_assoc}
use Rattle.std.proofs.Common.{arith}
use Rattle.std.specs.Prelude.{⊤, sum_by}
use Rattle.std.specs.List.{flat_map}
use Rattle.std.specs.Ordering.{int_eq}
use Rattle.std.proofs.lemmas.Bool.{leb-true, le-leb, ltb-true, lt-ltb, eqb-true}
use Rattle.std.proofs.lemmas.Bool.Decides.{nat_tests}
use Rattle.rup_base.specs.declared.arg.Kind.{Kind}
use Rattle.rup_base.specs.declared.arg.Kind.TheVariants.{Word, Byte, Bytes, Words}
use Rattle.side_certs.specs.LinearForm.{LinearForm, is_small}
use Rattle.side_certs.proofs.laws.Terms.{both, and_parts}
use Rattle.cost_poly.specs.declared.term.Term.{Term}
use Rattle.cost_poly.specs.Polynomial.{goes_behind, greatest_coefficient}
use Rattle.image_layout.specs.Spelling.{registers_of, number, long, wide, parameter, form_term, requirement, symbol, bound_term}
use Rattle.image_layout.specs.Spelling.{IsParameter}
use Rattle.image_layout.specs.Reading.{field, first_wrong, word_at, wide_at, long_at, none, symbol_of, fields_of, values_of}
use Rattle.image_layout.specs.Reading.{end_of, registers_for, kind_of, kind_field, parameters, next_symbol, terms, requirements}
use Rattle.image_layout.specs.Reading.{is_result, results, is_entry_symbol, is_second, coefficient_field, bound_terms, first_at}
use Rattle.image_layout.specs.Reading.{second_at}
use Rattle.image_layout.proofs.Stands.{IsBytes, word_again, wide_again, long_again, word_stands, wide_stands, long_stands}
use Rattle.image_layout.proofs.Stands.{field_parts, field_made, AllFit, IsFound, IsAgain, list_found, list_again}

-- Parameters.

abbrev pub ParamFits : List Kind → Kind → Type 0
ParamFits before kind = IsParameter kind × (sum_by registers_of before + registers_of kind ≤ 8)

no_length : (n : ℕ) → (false || nat_eq n 0) ≡ true → n ≡ 0
no_length n h = eqb-true n 0 h

record IsKind (code n : ℕ) (k : Kind) : Type 0 where
  known : code < 6
  length_fits : (nat_le 4 code || nat_eq n 0) ≡ true
  small : n < 2 ^ 32
  kind : kind_of code n ≡ k
  spelled : parameter k ≡ number code ++ number n
  fits : IsParameter k
  registers : registers_of k ≡ registers_for code

kind_is : (code n : ℕ) → code < 6 → (nat_le 4 code || nat_eq n 0) ≡ true → n < 2 ^ 32 → IsKind code n (kind_of code n)
kind_is zero n lt h small = let e = no_length n h in
    record { known = lt; length_fits = h; small = small; kind = refl; spelled = rw e refl; fits = tt; registers = refl }
kind_is (suc zero) n lt h small = let e = no_length n h in
    record { known = lt; length_fits = h; small = small; kind = refl; spelled = rw e refl; fits = tt; registers = refl }
kind_is (suc (suc zero)) n lt h small = let e = no_length n h in
    record { known = lt; length_fits = h; small = small; kind = refl; spelled = rw e refl; fits = tt; registers = refl }
kind_is (suc (suc (suc zero))) n lt h small = let e = no_length n h in
    record { known = lt; length_fits = h; small = small; kind = refl; spelled = rw e refl; fits = tt; registers = refl }
kind_is (suc (suc (suc (suc zero)))) n lt h small =
    record { known = lt; length_fits = h; small = small; kind = refl; spelled = refl; fits = small; registers = refl }
kind_is (suc (suc (suc (suc (suc zero))))) n lt h small =
    record { known = lt; length_fits = h; small = small; kind = refl; spelled = refl; fits = small; registers = refl }
kind_is (suc (suc (suc (suc (suc (suc code)))))) n lt h small = absurd (omega arith)

code_of : (k : Kind) → IsParameter k → (code : ℕ) × (n : ℕ) × IsKind code n k
code_of Word fit = (0, 0, kind_is 0 0 (omega arith) refl (omega arith))
code_of Byte fit = (1, 0, kind_is 1 0 (omega arith) refl (omega arith))
code_of (Bytes None) fit = (2, 0, kind_is 2 0 (omega arith) refl (omega arith))
code_of (Words None) fit = (3, 0, kind_is 3 0 (omega arith) refl (omega arith))
code_of (Bytes (Some n)) fit = (4, n, kind_is 4 n (omega arith) refl fit)
code_of (Words (Some n)) fit = (5, n, kind_is 5 n (omega arith) refl fit)

pub param_found : (bytes : List ℕ) → IsBytes bytes → IsFound bytes (parameters bytes) parameter ParamFits
param_found bytes are before at right =
    let code = word_at bytes at in
    let n = word_at bytes (at + 4) in
    let used = sum_by registers_of before in
    let p = field_parts (kind_field bytes used at) (field bytes (at + 4) 4 (nat_le 4 code || nat_eq n 0) ∷ []) right in
    let q = field_parts (field bytes (at + 4) 4 (nat_le 4 code || nat_eq n 0)) [] p.1 in
    let a = and_parts (nat_le (at + 4) (length bytes)) (nat_lt code 6 && nat_le (used + registers_for code) 8) p.0 in
    let b = and_parts (nat_lt code 6) (nat_le (used + registers_for code) 8) a.1 in
    let d = and_parts (nat_le (at + 4 + 4) (length bytes)) (nat_le 4 code || nat_eq n 0) q.0 in
    let first = word_stands bytes at are a.0 in
    let second = word_stands bytes (at + 4) are d.0 in
    let k = kind_is code n (ltb-true _ _ b.0) d.1 second.1 in
    let next : at + 4 + 4 ≡ at + 8 = omega arith in
    let behind : drop (at + 4) bytes ≡ number n ++ drop (at + 8) bytes = second.0 ∙ ap (λ (i : ℕ). number n ++ drop i bytes) next
    in
    let stands : drop at bytes ≡ (number code ++ number n) ++ drop (at + 8) bytes =
    first.0 ∙ ap (λ (x : List ℕ). number code ++ x) behind
    ∙ sym (append_assoc (number code) (number n) (drop (at + 8) bytes)) in
    let room : used + registers_for code ≤ 8 = leb-true _ _ b.1 in
    (stands ∙ ap (λ (x : List ℕ). x ++ drop (at + 8) bytes) (sym k.spelled), (k.fits, omega (arith, room, k.registers)))

pub param_again : (bytes : List ℕ) → IsAgain bytes (parameters bytes) parameter ParamFits
param_again bytes before at kind rest fit stands =
    let o = code_of kind fit.0 in
    let code = o.0 in
    let n = o.1 in
    let k = o.2 in
    let used = sum_by registers_of before in
    let split : drop at bytes ≡ number code ++ (number n ++ rest) = stands ∙ ap (λ (x : List ℕ). x ++ rest) k.spelled
    ∙ append_assoc (number code) (number n) rest in
    let a = word_again bytes (number n ++ rest) at code (omega (arith, k.known)) split in
    let b = word_again bytes rest (at + 4) n k.small a.2 in
    let code_is = a.0 in
    let n_is = b.0 in
    let room : nat_le (used + registers_for code) 8 ≡ true = le-leb _ _ (omega (arith, fit.1, k.registers)) in
    let known : nat_lt code 6 ≡ true = lt-ltb _ _ k.known in
    let first : (kind_field bytes used at).right ≡ true = both a.1 (rw code_is (both known room)) in
    let second : (field bytes (at + 4) 4 (nat_le 4 (word_at bytes at) || nat_eq (word_at bytes (at + 4)) 0)).right
    ≡ true = both b.1 (rw (code_is, n_is) k.length_fits) in
    let next : at + 8 ≡ at + 4 + 4 = omega arith in
    let f2 = field bytes (at + 4) 4 (nat_le 4 (word_at bytes at) || nat_eq (word_at bytes (at + 4)) 0) in (
      field_made (kind_field bytes used at) (f2 ∷ []) first (field_made f2 [] second refl),
      rw (code_is, n_is) k.kind,
      rw next b.2,
    )

-- Terms of requirements.

pub not_true : (b : Bool) → not b ≡ true → b ≡ false
not_true true e = absurd (cc)
not_true false e = refl

abbrev pub TermFits : ℕ → List (ℕ × ℤ) → ℕ × ℤ → Type 0
TermFits count before t = (next_symbol 0 before ≤ t.0) × (t.0 < count) × (int_eq t.1 (pos 0) ≡ false) × (is_small t.1 ≡ true)

pub term_found : (bytes : List ℕ) (count : ℕ) → IsBytes bytes → IsFound bytes (terms count bytes) form_term (TermFits count)
term_found bytes count are before at right =
    let s = word_at bytes at in
    let c = long_at bytes (at + 4) in
    let least = next_symbol 0 before in
    let p = field_parts (field bytes at 4 (nat_le least s && nat_lt s count))
    (field bytes (at + 4) 8 (not (int_eq c (pos 0)) && is_small c) ∷ []) right in
    let q = field_parts (field bytes (at + 4) 8 (not (int_eq c (pos 0)) && is_small c)) [] p.1 in
    let a = and_parts (nat_le (at + 4) (length bytes)) (nat_le least s && nat_lt s count) p.0 in
    let b = and_parts (nat_le least s) (nat_lt s count) a.1 in
    let d = and_parts (nat_le (at + 4 + 8) (length bytes)) (not (int_eq c (pos 0)) && is_small c) q.0 in
    let e = and_parts (not (int_eq c (pos 0))) (is_small c) d.1 in
    let first = word_stands bytes at are a.0 in
    let second = long_stands bytes (at + 4) are d.0 in
    let next : at + 4 + 8 ≡ at + 12 = omega arith in
    let behind : drop (at + 4) bytes ≡ long c ++ drop (at + 12) bytes = second ∙ ap (λ (i : ℕ). long c ++ drop i bytes) next in (
      first.0 ∙ ap (λ (x : List ℕ). number s ++ x) behind
          ∙ sym (append_assoc (number s) (long c) (drop (at + 12) bytes)),
      (leb-true _ _ b.0, ltb-true _ _ b.1, not_true (int_eq c (pos 0)) e.0, e.1),
    )

pub term_again : (bytes : List ℕ) (count : ℕ) → count ≤ 8 → IsAgain bytes (terms count bytes) form_term (TermFits count)
term_again bytes count few before at t rest fit stands =
    let least = next_symbol 0 before in
    let a = word_again bytes (long t.1 ++ rest) at t.0 (omega (arith, fit.1)) (stands ∙ append_assoc (number t.0) (long t.1) rest)
    in
    let b = long_again bytes rest (at + 4) t.1 fit.3 a.2 in
    let s_is = a.0 in
    let c_is = b.0 in
    let from : nat_le least t.0 ≡ true = le-leb _ _ fit.0 in
    let below : nat_lt t.0 count ≡ true = lt-ltb _ _ fit.1 in
    let not_zero : not (int_eq t.1 (pos 0)) ≡ true = let z = fit.2 in rw z refl in
    let first : (field bytes at 4 (nat_le least (word_at bytes at) && nat_lt (word_at bytes at) count)).right
    ≡ true = both a.1 (rw s_is (both from below)) in
    let second : (field bytes (at + 4) 8
    (not (int_eq (long_at bytes (at + 4)) (pos 0)) && is_small (long_at bytes (at + 4)))).right
    ≡ true = both b.1 (rw c_is (both not_zero fit.3)) in
    let next : at + 12 ≡ at + 4 + 8 = omega arith in
    let f1 = field bytes at 4 (nat_le least (word_at bytes at) && nat_lt (word_at bytes at) count) in
    let f2 = field bytes (at + 4) 8 (not (int_eq (long_at bytes (at + 4)) (pos 0)) && is_small (long_at bytes (at + 4))) in
    (field_made f1 (f2 ∷ []) first (field_made f2 [] second refl), rw (s_is, c_is) refl, rw next b.2)

-- Requirements.

abbrev pub FormFits : ℕ → List LinearForm → LinearForm → Type 0
FormFits count before f = (is_small f.constant ≡ true) × AllFit (TermFits count) [] f.terms × (length f.terms < 2 ^ 32)

terms_end : (count : ℕ) (bytes : List ℕ) (n at : ℕ) → end_of (terms count bytes) n at ≡ at + 12 * n
terms_end count bytes zero at = omega arith
terms_end count bytes (suc n) at =
    let rest : end_of (terms count bytes) n (at + 12) ≡ at + 12 + 12 * n = terms_end count bytes n (at + 12) in
    omega (arith, rest)

pub form_found : (bytes : List ℕ) (count : ℕ) → IsBytes bytes
    → IsFound bytes (requirements count bytes) requirement (FormFits count)
form_found bytes count are before at right =
    let k = long_at bytes at in
    let n = word_at bytes (at + 8) in
    let p = field_parts (field bytes at 8 (is_small k))
    (field bytes (at + 8) 4 true ∷ fields_of (terms count bytes) [] n (at + 12)) right in
    let q = field_parts (field bytes (at + 8) 4 true) (fields_of (terms count bytes) [] n (at + 12)) p.1 in
    let a = and_parts (nat_le (at + 8) (length bytes)) (is_small k) p.0 in
    let b = and_parts (nat_le (at + 8 + 4) (length bytes)) true q.0 in
    let ts = values_of (terms count bytes) n (at + 12) in
    let list = list_found bytes (terms count bytes) form_term (TermFits count) (term_found bytes count are) [] n (at + 12) q.1 in
    let first = long_stands bytes at are a.0 in
    let second = word_stands bytes (at + 8) are b.0 in
    let next : at + 8 + 4 ≡ at + 12 = omega arith in
    let size : length ts ≡ n = list.2 in
    let end : end_of (terms count bytes) n (at + 12)
    ≡ at + (12 + 12 * length ts) = omega (arith, terms_end count bytes n (at + 12), size) in
    let counted : number n ≡ number (length ts) = ap number (sym size) in
    let behind : drop (at + 8) bytes ≡ number (length ts) ++ (flat_map form_term ts ++ drop (at + (12 + 12 * length ts)) bytes) =
    second.0 ∙ ap (λ (i : ℕ). number n ++ drop i bytes) next ∙ ap (λ (x : List ℕ). number n ++ x) list.0
    ∙ ap (λ (i : ℕ). number n ++ (flat_map form_term ts ++ drop i bytes)) end
    ∙ ap (λ (x : List ℕ). x ++ (flat_map form_term ts ++ drop (at + (12 + 12 * length ts)) bytes)) counted in
    let rest = drop (at + (12 + 12 * length ts)) bytes in (
      first ∙ ap (λ (x : List ℕ). long k ++ x) behind
          ∙ sym (ap (λ (x : List ℕ). long k ++ x) (append_assoc (number (length ts)) (flat_map form_term ts) rest))
          ∙ sym (append_assoc (long k) (number (length ts) ++ flat_map form_term ts) rest),
      (a.1, list.1, omega (arith, size, second.1)),
    )

pub form_again : (bytes : List ℕ) (count : ℕ) → count ≤ 8 → IsAgain bytes (requirements count bytes) requirement (FormFits count)
form_again bytes count few before at f rest fit stands =
    let ts = f.terms in
    let split : drop at bytes ≡ long f.constant ++ (number (length ts) ++ (flat_map form_term ts ++ rest)) =
    stands ∙ append_assoc (long f.constant) (number (length ts) ++ flat_map form_term ts) rest
    ∙ ap (λ (x : List ℕ). long f.constant ++ x) (append_assoc (number (length ts)) (flat_map form_term ts) rest) in
    let a = long_again bytes (number (length ts) ++ (flat_map form_term ts ++ rest)) at f.constant fit.0 split in
    let b = word_again bytes (flat_map form_term ts ++ rest) (at + 8) (length ts) fit.2 a.2 in
    let next : at + 8 + 4 ≡ at + 12 = omega arith in
    let behind : drop (at + 12) bytes ≡ flat_map form_term ts ++ rest = rw next at b.2 in
    let list = list_again bytes (terms count bytes) form_term (TermFits count) (term_again bytes count few) [] ts (at + 12) rest
    fit.1 behind in
    let k_is = a.0 in
    let n_is = b.0 in
    let first : (field bytes at 8 (is_small (long_at bytes at))).right ≡ true = both a.1 (rw k_is fit.0) in
    let second : (field bytes (at + 8) 4 true).right ≡ true = both b.1 refl in
    let end : at + (12 + 12 * length ts) ≡ end_of (terms count bytes) (length ts) (at + 12) =
    omega (arith, terms_end count bytes (length ts) (at + 12)) in
    let others : first_wrong (fields_of (terms count bytes) [] (word_at bytes (at + 8)) (at + 12)) ≡ None = rw n_is list.0 in
    let f2 = field bytes (at + 8) 4 true in
    let fs = fields_of (terms count bytes) [] (word_at bytes (at + 8)) (at + 12) in (
      field_made (field bytes at 8 (is_small (long_at bytes at))) (f2 ∷ fs) first (field_made f2 fs second others),
      rw
          (k_is, n_is, list.1) refl,
      rw end list.2,
    )

-- Results and symbols.

abbrev pub SymbolFits : Option ℕ → Type 0
SymbolFits None = ⊤
SymbolFits (Some s) = s < none

symbol_spelled : (n : ℕ) → n < 2 ^ 32 → (symbol (symbol_of n) ≡ number n) × SymbolFits (symbol_of n)
symbol_spelled n lt = by_test (nat_eq n none) refl
  where
    by_test : (same : Bool) → nat_eq n none ≡ same → (symbol (symbol_of n) ≡ number n) × SymbolFits (symbol_of n)
    by_test true e = let n_is : n ≡ none = eqb-true n none e in rw e (ap number (sym n_is), tt)
    by_test false e = rw e (refl, grind (arith, nat_tests))

symbol_stands : (bytes : List ℕ) (at : ℕ) → IsBytes bytes → nat_le (at + 4) (length bytes) ≡ true
    → (drop at bytes ≡ symbol (symbol_of (word_at bytes at)) ++ drop (at + 4) bytes) × SymbolFits (symbol_of (word_at bytes at))
symbol_stands bytes at are whole =
    let p = word_stands bytes at are whole in
    let q = symbol_spelled (word_at bytes at) p.1 in
    (p.0 ∙ ap (λ (x : List ℕ). x ++ drop (at + 4) bytes) (sym q.0), q.1)

symbol_again : (bytes rest : List ℕ) (at : ℕ) (s : Option ℕ) → SymbolFits s → drop at bytes ≡ symbol s ++ rest
    → (symbol_of (word_at bytes at) ≡ s) × (nat_le (at + 4) (length bytes) ≡ true) × (drop (at + 4) bytes ≡ rest)
symbol_again bytes rest at None fit stands =
    let p = word_again bytes rest at none (omega arith) stands in
    let is = p.0 in
    (rw is refl, p.1, p.2)
symbol_again bytes rest at (Some s) fit stands =
    let p = word_again bytes rest at s (omega (arith, fit)) stands in
    let is = p.0 in
    let other : nat_eq s none ≡ false = grind (arith, nat_tests, fit) in
    (rw (is, other) refl, p.1, p.2)

abbrev pub RetFits : List Kind → List (Option ℕ) → Option ℕ → Type 0
RetFits kinds before r = (is_result kinds before r ≡ true) × SymbolFits r

pub ret_found : (bytes : List ℕ) (kinds : List Kind) → IsBytes bytes → IsFound bytes (results kinds bytes) symbol (RetFits kinds)
ret_found bytes kinds are before at right =
    let p = field_parts (field bytes at 4 (is_result kinds before (symbol_of (word_at bytes at)))) [] right in
    let a = and_parts (nat_le (at + 4) (length bytes)) (is_result kinds before (symbol_of (word_at bytes at))) p.0 in
    let first = symbol_stands bytes at are a.0 in
    (first.0, (a.1, first.1))

pub ret_again : (bytes : List ℕ) (kinds : List Kind) → IsAgain bytes (results kinds bytes) symbol (RetFits kinds)
ret_again bytes kinds before at r rest fit stands =
    let a = symbol_again bytes rest at r fit.1 stands in
    let is = a.0 in
    let right : (field bytes at 4 (is_result kinds before (symbol_of (word_at bytes at)))).right
    ≡ true = both a.1 (rw is fit.0) in
    (field_made (field bytes at 4 (is_result kinds before (symbol_of (word_at bytes at)))) [] right refl, is, a.2)

-- Terms of the bound.

pub record BoundFits (count : ℕ) (before : List Term) (t : Term) : Type 0 where
  pub entry : is_entry_symbol count t.first ≡ true
  pub second : is_second count t.first t.second ≡ true
  pub behind : goes_behind before t.first t.second ≡ true
  pub small : (nat_le 1 t.coefficient && nat_le t.coefficient greatest_coefficient) ≡ true
  pub first_fits : SymbolFits t.first
  pub second_fits : SymbolFits t.second

pub bound_found : (bytes : List ℕ) (count : ℕ) → IsBytes bytes
    → IsFound bytes (bound_terms count bytes) bound_term (BoundFits count)
bound_found bytes count are before at right =
    let s = first_at bytes at in
    let t = second_at bytes at in
    let c = wide_at bytes (at + 8) in
    let f1 = field bytes at 4 (is_entry_symbol count s) in
    let f2 = field bytes (at + 4) 4 (is_second count s t) in
    let f3 = field bytes at 4 (goes_behind before s t) in
    let f4 = coefficient_field bytes (at + 8) in
    let p1 = field_parts f1 (f2 ∷ f3 ∷ f4 ∷ []) right in
    let p2 = field_parts f2 (f3 ∷ f4 ∷ []) p1.1 in
    let p3 = field_parts f3 (f4 ∷ []) p2.1 in
    let p4 = field_parts f4 [] p3.1 in
    let a1 = and_parts (nat_le (at + 4) (length bytes)) (is_entry_symbol count s) p1.0 in
    let a2 = and_parts (nat_le (at + 4 + 4) (length bytes)) (is_second count s t) p2.0 in
    let a3 = and_parts (nat_le (at + 4) (length bytes)) (goes_behind before s t) p3.0 in
    let a4 = and_parts (nat_le (at + 8 + 8) (length bytes)) (nat_le 1 c && nat_le c greatest_coefficient) p4.0 in
    let first = symbol_stands bytes at are a1.0 in
    let second = symbol_stands bytes (at + 4) are a2.0 in
    let third = wide_stands bytes (at + 8) are a4.0 in
    let next : at + 4 + 4 ≡ at + 8 = omega arith in
    let last : at + 8 + 8 ≡ at + 16 = omega arith in
    let rest = drop (at + 16) bytes in
    let wide_part : drop (at + 8) bytes ≡ wide c ++ rest = third.0 ∙ ap (λ (i : ℕ). wide c ++ drop i bytes) last in
    let second_part : drop (at + 4) bytes
    ≡ symbol t ++ (wide c ++ rest) = second.0 ∙ ap (λ (i : ℕ). symbol t ++ drop i bytes) next
    ∙ ap (λ (x : List ℕ). symbol t ++ x) wide_part in (
      first.0 ∙ ap (λ (x : List ℕ). symbol s ++ x) second_part
          ∙ sym (ap (λ (x : List ℕ). symbol s ++ x) (append_assoc (symbol t) (wide c) rest))
          ∙ sym (append_assoc (symbol s) (symbol t ++ wide c) rest),
      record { entry = a1.1; second = a2.1; behind = a3.1; small = a4.1; first_fits = first.1; second_fits = second.1 },
    )

pub bound_again : (bytes : List ℕ) (count : ℕ) → IsAgain bytes (bound_terms count bytes) bound_term (BoundFits count)
bound_again bytes count before at x rest fit stands =
    let s = x.first in
    let t = x.second in
    let c = x.coefficient in
    let split : drop at bytes ≡ symbol s ++ (symbol t ++ (wide c ++ rest)) =
    stands ∙ append_assoc (symbol s) (symbol t ++ wide c) rest
    ∙ ap (λ (y : List ℕ). symbol s ++ y) (append_assoc (symbol t) (wide c) rest) in
    let size = and_parts (nat_le 1 c) (nat_le c greatest_coefficient) fit.small in
    let most : c ≤ 2 ^ 40 = leb-true _ _ size.1 in
    let a = symbol_again bytes (symbol t ++ (wide c ++ rest)) at s fit.first_fits split in
    let b = symbol_again bytes (wide c ++ rest) (at + 4) t fit.second_fits a.2 in
    let next : at + 4 + 4 ≡ at + 8 = omega arith in
    let behind : drop (at + 8) bytes ≡ wide c ++ rest = rw next at b.2 in
    let d = wide_again bytes rest (at + 8) c (omega (arith, most)) behind in
    let last : at + 16 ≡ at + 8 + 8 = omega arith in
    let s_is : first_at bytes at ≡ s = a.0 in
    let t_is : second_at bytes at ≡ t = b.0 in
    let c_is : wide_at bytes (at + 8) ≡ c = d.0 in
    let r1 : (field bytes at 4 (is_entry_symbol count (first_at bytes at))).right ≡ true = both a.1 (rw s_is fit.entry) in
    let r2 : (field bytes (at + 4) 4 (is_second count (first_at bytes at) (second_at bytes at))).right
    ≡ true = both b.1 (rw (s_is, t_is) fit.second) in
    let r3 : (field bytes at 4 (goes_behind before (first_at bytes at) (second_at bytes at))).right
    ≡ true = both a.1 (rw (s_is, t_is) fit.behind) in
    let r4 : (coefficient_field bytes (at + 8)).right ≡ true = both d.1 (rw c_is fit.small) in
    let f1 = field bytes at 4 (is_entry_symbol count (first_at bytes at)) in
    let f2 = field bytes (at + 4) 4 (is_second count (first_at bytes at) (second_at bytes at)) in
    let f3 = field bytes at 4 (goes_behind before (first_at bytes at) (second_at bytes at)) in
    let f4 = coefficient_field bytes (at + 8) in (
      field_made f1 (f2 ∷ f3 ∷ f4 ∷ []) r1
          (field_made f2 (f3 ∷ f4 ∷ []) r2 (field_made f3 (f4 ∷ []) r3 (field_made f4 [] r4 refl))),
      rw (s_is, t_is, c_is) refl,
      rw last d.2,
    )
