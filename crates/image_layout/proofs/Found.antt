-- Bytes without a wrong field are the layout of what they say.
use Rattle.std.proofs.Common.{◌≡◌, ℕ, zero, suc, ◌+◌, ◌-◌, ◌*◌, ◌^◌, ◌<◌, ◌≤◌, Bool, true, false, List, [], ◌∷◌, ◌++◌, length}
use Rattle.std.proofs.Common.{take, drop, replicate, Option, Some, None, nat_le, nat_eq, refl, sym, ap, ◌∙◌, append_assoc, arith}
use Rattle.std.specs.List.{flat_map}
use Rattle.std.specs.Int.{next_multiple_of}
use Rattle.std.proofs.lemmas.Bool.{le-leb, eqb-true}
use Rattle.std.proofs.lemmas.List.{drop-drop, take-append-drop, length-append, length-take, length-drop, nil_from_length}
use Rattle.std.proofs.lemmas.List.{append-nil}
use Rattle.side_certs.proofs.laws.Terms.{both, and_parts}
use Rattle.image_layout.specs.Spelling.{symbol_count, number, parameter, requirement, symbol, bound_term, lists, code_offset}
use Rattle.image_layout.specs.Spelling.{header_length, fixed_numbers, fixed_fields, spelling, image_length, IsWithinLimits}
use Rattle.image_layout.specs.Spelling.{Layout}
use Rattle.image_layout.specs.Reading.{field, first_wrong, word_at, Entries, fields_of, values_of, parameters, forms, results}
use Rattle.image_layout.specs.Reading.{bound_terms, params_of, params_end, requires_of, requires_end, rets_of, rets_end, bound_of}
use Rattle.image_layout.specs.Reading.{header_end, mark, all_zeros, image_of}
use Rattle.image_layout.proofs.Stands.{IsBytes, word_stands, field_made, AllFit, IsFound, list_found}
use Rattle.image_layout.proofs.Steps.{ParamFits, FormFits, RetFits, BoundFits, param_found, form_found, ret_found, bound_found}
use Rattle.image_layout.proofs.Limits.{params_limits, forms_limits, rets_limits, bound_limits, nothing_seen}
use Rattle.image_layout.proofs.Rights.{Right}

-- The fixed numbers, as a list of their own.

abbrev pub words : List ℕ → Entries ℕ
words bytes = record { fields = λ before at. field bytes at 4 true ∷ []; value = word_at bytes; size = λ n. 4 }

abbrev pub IsWord : List ℕ → ℕ → Type 0
IsWord before n = n < 2 ^ 32

words_found : (bytes : List ℕ) → IsBytes bytes → IsFound bytes (words bytes) number IsWord
words_found bytes are before at right = by_test (nat_le (at + 4) (length bytes)) refl
  where
    by_test : (whole : Bool) → nat_le (at + 4) (length bytes) ≡ whole
        → (drop at bytes ≡ number (word_at bytes at) ++ drop (at + 4) bytes) × (word_at bytes at < 2 ^ 32)
    by_test true e = word_stands bytes at are e
    by_test false e = absurd (let bad : ◌≡◌ {A = Option ℕ} (Some at) None = rw e at right in cc)

words_whole : (bytes : List ℕ) (before : List ℕ) (n at : ℕ) → at + 4 * n ≤ length bytes
    → first_wrong (fields_of (words bytes) before n at) ≡ None
words_whole bytes before zero at le = refl
words_whole bytes before (suc n) at le =
    let whole : nat_le (at + 4) (length bytes) ≡ true = le-leb _ _ (omega (arith, le)) in
    field_made (field bytes at 4 true) (fields_of (words bytes) (before ++ word_at bytes at ∷ []) n (at + 4)) (both whole refl)
    (words_whole bytes (before ++ word_at bytes at ∷ []) n (at + 4) (omega (arith, le)))

zeros_are : (bs : List ℕ) → all_zeros bs ≡ true → bs ≡ replicate (length bs) 0
zeros_are [] h = refl
zeros_are (b ∷ bs) h =
    let p = and_parts (nat_eq b 0) (all_zeros bs) h in
    let zero_is : b ≡ 0 = eqb-true b 0 p.0 in
    rw zero_is (ap (λ (x : List ℕ). 0 ∷ x) (zeros_are bs p.1))

-- so many bytes from an offset, and those behind them
part : (bytes : List ℕ) (at size : ℕ) → drop at bytes ≡ take size (drop at bytes) ++ drop (at + size) bytes
part bytes at size = sym (take-append-drop size (drop at bytes))
    ∙ ap (λ (x : List ℕ). take size (drop at bytes) ++ x) (drop-drop size at bytes)

pub four : (a b d e rest : List ℕ) → a ++ (b ++ (d ++ (e ++ rest))) ≡ (a ++ (b ++ (d ++ e))) ++ rest
four a b d e rest =
    sym (append_assoc a (b ++ (d ++ e)) rest
    ∙ ap (λ (x : List ℕ). a ++ x) (append_assoc b (d ++ e) rest ∙ ap (λ (x : List ℕ). b ++ x) (append_assoc d e rest)))

-- The lists.

pub record Listed (bytes : List ℕ) : Type 0 where
  pub stand : drop 48 bytes ≡ lists (image_of bytes) ++ drop (header_end bytes) bytes
  pub params_fit : AllFit ParamFits [] (params_of bytes)
  pub forms_fit : AllFit (FormFits (symbol_count (params_of bytes))) [] (requires_of bytes)
  pub rets_fit : AllFit (RetFits (params_of bytes)) [] (rets_of bytes)
  pub bound_fit : AllFit (BoundFits (symbol_count (params_of bytes))) [] (bound_of bytes)
  pub params_count : length (params_of bytes) ≡ word_at bytes 32
  pub requires_count : length (requires_of bytes) ≡ word_at bytes 36
  pub rets_count : length (rets_of bytes) ≡ word_at bytes 40
  pub bound_count : length (bound_of bytes) ≡ word_at bytes 44

listed : (bytes : List ℕ) → IsBytes bytes → Right bytes → Listed bytes
unfolding params_of params_end requires_of requires_end rets_of rets_end bound_of header_end image_of
listed bytes are r =
    let count = symbol_count (params_of bytes) in
    let ps = list_found bytes (parameters bytes) parameter ParamFits (param_found bytes are) [] (word_at bytes 32) 48 r.params in
    let fs = list_found bytes (forms bytes) requirement (FormFits count) (form_found bytes count are) [] (word_at bytes 36)
    (params_end bytes) r.requires_ in
    let rs = list_found bytes (results (params_of bytes) bytes) symbol (RetFits (params_of bytes))
    (ret_found bytes (params_of bytes) are) [] (word_at bytes 40) (requires_end bytes) r.rets in
    let ts = list_found bytes (bound_terms count bytes) bound_term (BoundFits count) (bound_found bytes count are) []
    (word_at bytes 44) (rets_end bytes) r.bound in
    let a = flat_map parameter (params_of bytes) in
    let b = flat_map requirement (requires_of bytes) in
    let d = flat_map symbol (rets_of bytes) in
    let e = flat_map bound_term (bound_of bytes) in
    record {
      stand = ps.0 ∙ ap (λ (x : List ℕ). a ++ x) (fs.0 ∙ ap (λ (x : List ℕ). b ++ x) (rs.0 ∙ ap (λ (x : List ℕ). d ++ x) ts.0))
          ∙ four a b d e (drop (header_end bytes) bytes);
      params_fit = ps.1;
      forms_fit = fs.1;
      rets_fit = rs.1;
      bound_fit = ts.1;
      params_count = ps.2;
      requires_count = fs.2;
      rets_count = rs.2;
      bound_count = ts.2;
    }

-- the header ends behind the lists
header_is : (bytes : List ℕ) → Right bytes → Listed bytes → header_end bytes ≡ header_length (image_of bytes)
header_is bytes r l =
    let sizes : length (drop 48 bytes) ≡ length (lists (image_of bytes)) + length (drop (header_end bytes) bytes) =
    ap length l.stand ∙ length-append (lists (image_of bytes)) (drop (header_end bytes) bytes) in
    omega (arith, sizes, length-drop 48 bytes, length-drop (header_end bytes) bytes, r.fixed, r.header_inside)

pub behind : (n : ℕ) → n ≤ next_multiple_of n 16
behind n = omega arith

code_size : (bytes : List ℕ) → Right bytes → length (take (word_at bytes 16) (drop (word_at bytes 12) bytes)) ≡ word_at bytes 16
code_size bytes r = omega (
  arith,
  length-take (word_at bytes 16) (drop (word_at bytes 12) bytes),
  length-drop (word_at bytes 12)
      bytes,
  r.ends,
)

tables_size : (bytes : List ℕ) → Right bytes → length (take (word_at bytes 20) (drop (word_at bytes 12 + word_at bytes 16) bytes))
    ≡ word_at bytes 20
tables_size bytes r =
    omega (
      arith,
      length-take (word_at bytes 20) (drop (word_at bytes 12 + word_at bytes 16) bytes),
      length-drop
          (word_at bytes 12 + word_at bytes 16) bytes,
      r.ends,
    )

offset_is : (bytes : List ℕ) → Right bytes → Listed bytes → code_offset (image_of bytes) ≡ word_at bytes 12
offset_is bytes r l = sym (r.offset ∙ ap (λ (n : ℕ). next_multiple_of n 16) (header_is bytes r l))

length_is : (bytes : List ℕ) → Right bytes → Listed bytes → image_length (image_of bytes) ≡ word_at bytes 8
unfolding image_of
length_is bytes r l =
    let offset : code_offset (image_of bytes) ≡ word_at bytes 12 = offset_is bytes r l in
    omega (arith, offset, code_size bytes r, tables_size bytes r, r.ends, r.size)

numbers_are : (bytes : List ℕ) → Right bytes → Listed bytes → values_of (words bytes) 11 4 ≡ fixed_numbers (image_of bytes)
unfolding image_of
numbers_are bytes r l =
    let a : word_at bytes 8 ≡ image_length (image_of bytes) = sym (length_is bytes r l) in
    let b : word_at bytes 12 ≡ code_offset (image_of bytes) = sym (offset_is bytes r l) in
    let d : word_at bytes 16 ≡ length (take (word_at bytes 16) (drop (word_at bytes 12) bytes)) = sym (code_size bytes r) in
    let e : word_at bytes 20 ≡ length (take (word_at bytes 20) (drop (word_at bytes 12 + word_at bytes 16) bytes)) =
    sym (tables_size bytes r) in
    let f : word_at bytes 32 ≡ length (params_of bytes) = sym l.params_count in
    let g : word_at bytes 36 ≡ length (requires_of bytes) = sym l.requires_count in
    let h : word_at bytes 40 ≡ length (rets_of bytes) = sym l.rets_count in
    let i : word_at bytes 44 ≡ length (bound_of bytes) = sym l.bound_count in
    ap (λ (x : List ℕ). word_at bytes 4 ∷ x)
    (cons_is a (cons_is b (cons_is d
    (cons_is e (cons_is refl (cons_is refl (cons_is f (cons_is g (cons_is h (cons_is i refl))))))))))
  where
    cons_is : {x y : ℕ} {xs ys : List ℕ} → x ≡ y → xs ≡ ys → x ∷ xs ≡ y ∷ ys
    cons_is {x = x} {y = y} {xs = xs} {ys = ys} p q = ap (λ (z : ℕ). z ∷ xs) p ∙ ap (λ (zs : List ℕ). y ∷ zs) q

filled_is : (bytes : List ℕ) → Right bytes → Listed bytes
    → drop (header_end bytes) bytes ≡ replicate (code_offset (image_of bytes) - header_length (image_of bytes)) 0
    ++ drop (word_at bytes 12) bytes
filled_is bytes r l =
    let header = header_end bytes in
    let offset = word_at bytes 12 in
    let filling = take (offset - header) (drop header bytes) in
    let from : header ≤ offset = omega (arith, behind header, r.offset) in
    let size : length filling ≡ offset - header =
    omega (arith, length-take (offset - header) (drop header bytes), length-drop header bytes, from, r.ends) in
    let same : offset - header ≡ code_offset (image_of bytes) - header_length (image_of bytes) =
    omega (arith, offset_is bytes r l, header_is bytes r l) in
    let next : header + (offset - header) ≡ offset = omega (arith, from) in
    part bytes header (offset - header) ∙ ap (λ (i : ℕ). filling ++ drop i bytes) next
    ∙ ap (λ (x : List ℕ). x ++ drop offset bytes) (zeros_are filling r.filled ∙ ap (λ (n : ℕ). replicate n 0) (size ∙ same))

tail_is : (bytes : List ℕ) → Right bytes
    → drop (word_at bytes 12) bytes
    ≡ take (word_at bytes 16) (drop (word_at bytes 12) bytes)
    ++ take (word_at bytes 20) (drop (word_at bytes 12 + word_at bytes 16) bytes)
tail_is bytes r =
    let offset = word_at bytes 12 in
    let code = take (word_at bytes 16) (drop offset bytes) in
    let tables_offset = offset + word_at bytes 16 in
    let tables = take (word_at bytes 20) (drop tables_offset bytes) in
    let nothing : drop (tables_offset + word_at bytes 20) bytes
    ≡ [] = nil_from_length (drop (tables_offset + word_at bytes 20) bytes)
    (omega (arith, length-drop (tables_offset + word_at bytes 20) bytes, r.ends)) in
    part bytes offset (word_at bytes 16)
    ∙ ap (λ (x : List ℕ). code ++ x)
    (part bytes tables_offset (word_at bytes 20) ∙ ap (λ (x : List ℕ). tables ++ x) nothing ∙ append-nil tables)

fixed_is : (bytes : List ℕ) → IsBytes bytes → Right bytes → Listed bytes → bytes ≡ fixed_fields (image_of bytes) ++ drop 48 bytes
fixed_is bytes are r l =
    let first = word_stands bytes 0 are (le-leb _ _ (omega (arith, r.fixed))) in
    let marked : number (word_at bytes 0) ≡ mark = ap number r.marked in
    let rest = list_found bytes (words bytes) number IsWord (words_found bytes are) [] 11 4 (words_whole bytes [] 11 4 r.fixed) in
    let numbers : drop 4 bytes ≡ flat_map number (fixed_numbers (image_of bytes)) ++ drop 48 bytes =
    rest.0 ∙ ap (λ (ns : List ℕ). flat_map number ns ++ drop 48 bytes) (numbers_are bytes r l) in
    first.0 ∙ ap (λ (x : List ℕ). x ++ drop 4 bytes) marked ∙ ap (λ (x : List ℕ). mark ++ x) numbers
    ∙ sym (append_assoc mark (flat_map number (fixed_numbers (image_of bytes))) (drop 48 bytes))

spelled : (bytes : List ℕ) → IsBytes bytes → Right bytes → Listed bytes → bytes ≡ spelling (image_of bytes)
unfolding image_of
spelled bytes are r l =
    let zeros = replicate (code_offset (image_of bytes) - header_length (image_of bytes)) 0 in
    fixed_is bytes are r l ∙ ap (λ (x : List ℕ). fixed_fields (image_of bytes) ++ x)
    (l.stand ∙ ap (λ (x : List ℕ). lists (image_of bytes) ++ x)
    (filled_is bytes r l ∙ ap (λ (x : List ℕ). zeros ++ x) (tail_is bytes r)))

within : (bytes : List ℕ) → Right bytes → Listed bytes → IsWithinLimits (image_of bytes)
unfolding image_of
within bytes r l =
    let ps = params_limits [] (params_of bytes) (omega arith) l.params_fit in
    let offset : code_offset (image_of bytes) ≡ word_at bytes 12 = offset_is bytes r l in
    let code = code_size bytes r in
    record {
      version_is = r.version;
      code_whole = rw code r.code_whole;
      code_some = omega (arith, code, r.code_some);
      code_most = omega (arith, code, r.code_most);
      tables_most = omega (arith, tables_size bytes r, r.tables_most);
      entry_whole = r.entry_whole;
      entry_from = omega (arith, offset, r.entry_from);
      entry_below = omega (arith, offset, code, r.entry_below);
      stack_whole = r.stack_whole;
      stack_most = r.stack_most;
      params_fit = ps.0;
      registers_most = omega (arith, ps.1);
      requires_most = omega (arith, l.requires_count, r.requires_most);
      requires_fit = forms_limits (symbol_count (params_of bytes)) [] (requires_of bytes) l.forms_fit;
      rets_fit = rets_limits (params_of bytes) 2 [] [] (rets_of bytes) refl nothing_seen l.rets_fit;
      bound_fits = bound_limits (symbol_count (params_of bytes)) [] (bound_of bytes) l.bound_fit;
    }

pub is_layout : (bytes : List ℕ) → IsBytes bytes → Right bytes → Layout (image_of bytes) bytes
is_layout bytes are r = let l = listed bytes are r in record { within = within bytes r l; bytes_are = spelled bytes are r l }
