-- The layout of an image has no wrong field, and says the image.
use Rattle.std.proofs.Common.{◌≡◌, ℕ, zero, suc, ◌+◌, ◌-◌, ◌*◌, ◌%◌, ◌≤◌, true, List, [], ◌∷◌, ◌++◌, length, get_or, take, drop}
use Rattle.std.proofs.Common.{replicate, Option, Some, None, ℤ, refl, sym, ap, ◌∙◌, append_assoc, arith}
use Rattle.std.specs.List.{flat_map, AllByRecursion}
use Rattle.std.specs.Int.{w32, from_le_bytes, next_multiple_of}
use Rattle.std.proofs.Math.Seq.{take-length}
use Rattle.std.proofs.lemmas.List.{take_at, drop_at, drop-drop, length-append, length-drop, length-replicate}
use Rattle.rup_base.specs.declared.arg.Kind.{Kind}
use Rattle.rup_base.specs.declared.arg.Kind.TheVariants.{Word, Byte, Bytes, Words}
use Rattle.side_certs.specs.LinearForm.{LinearForm}
use Rattle.side_certs.proofs.laws.Terms.{both}
use Rattle.cost_poly.specs.declared.term.Term.{Term}
use Rattle.image_layout.specs.declared.image.Image.{Image}
use Rattle.image_layout.specs.Spelling.{symbol_count, number, long, wide, parameter, form_term, requirement, symbol, bound_term}
use Rattle.image_layout.specs.Spelling.{lists, code_offset, header_length, fixed_numbers, spelling, image_length, IsRequirement}
use Rattle.image_layout.specs.Spelling.{IsWithinLimits, Layout}
use Rattle.image_layout.specs.Reading.{field, first_wrong, word_at, fields_of, parameters, requirements, forms, results}
use Rattle.image_layout.specs.Reading.{bound_terms, params_of, params_end, requires_of, requires_end, rets_of, rets_end, bound_of}
use Rattle.image_layout.specs.Reading.{header_end, mark, all_zeros, image_of}
use Rattle.image_layout.proofs.Listed.{symbols_few}
use Rattle.image_layout.proofs.Stands.{field_made, AllFit, IsAgain, list_again, word_again}
use Rattle.image_layout.proofs.Steps.{ParamFits, FormFits, RetFits, BoundFits, param_again, form_again, ret_again, bound_again}
use Rattle.image_layout.proofs.Limits.{params_fit, params_few, forms_fit, terms_few, rets_fit, rets_few, bound_fit, bound_few}
use Rattle.image_layout.proofs.Limits.{nothing_seen}
use Rattle.image_layout.proofs.Rights.{Right}
use Rattle.image_layout.proofs.Found.{words, IsWord, four, behind}

-- Each number of an image within the limits has room in four bytes.

length-parameter : (k : Kind) → length (parameter k) ≡ 8
length-parameter Word = refl
length-parameter Byte = refl
length-parameter (Bytes None) = refl
length-parameter (Bytes (Some n)) = refl
length-parameter (Words None) = refl
length-parameter (Words (Some n)) = refl

length-params : (ks : List Kind) → length (flat_map parameter ks) ≡ 8 * length ks
length-params [] = refl
length-params (k ∷ ks) =
    let rest : length (flat_map parameter ks) ≡ 8 * length ks = length-params ks in
    omega (arith, rest, length-parameter k, length-append (parameter k) (flat_map parameter ks))

length-terms : (ts : List (ℕ × ℤ)) → length (flat_map form_term ts) ≡ 12 * length ts
length-terms [] = refl
length-terms (t ∷ ts) =
    let rest : length (flat_map form_term ts) ≡ 12 * length ts = length-terms ts in
    let one : length (form_term t) ≡ 12 = refl in
    omega (arith, rest, one, length-append (form_term t) (flat_map form_term ts))

length-requirement : (f : LinearForm) → length (requirement f) ≡ 12 + 12 * length f.terms
length-requirement f =
    let inner : length (number (length f.terms) ++ flat_map form_term f.terms) ≡ 4 + length (flat_map form_term f.terms) =
    length-append (number (length f.terms)) (flat_map form_term f.terms) in
    let outer : length (requirement f) ≡ 8 + length (number (length f.terms) ++ flat_map form_term f.terms) =
    length-append (long f.constant) (number (length f.terms) ++ flat_map form_term f.terms) in
    omega (arith, inner, outer, length-terms f.terms)

length-forms : (count : ℕ) (fs : List LinearForm) → count ≤ 8 → AllByRecursion (IsRequirement count) fs
    → length (flat_map requirement fs) ≤ 108 * length fs
length-forms count [] few limits = omega arith
length-forms count (f ∷ fs) few limits =
    let rest : length (flat_map requirement fs) ≤ 108 * length fs = length-forms count fs few limits.1 in
    let size : 0 + length f.terms ≤ count = terms_few 0 count f.terms (omega arith) limits.0.terms_fit in
    omega (arith, rest, size, few, length-requirement f, length-append (requirement f) (flat_map requirement fs))

length-symbol : (s : Option ℕ) → length (symbol s) ≡ 4
length-symbol None = refl
length-symbol (Some s) = refl

length-rets : (rs : List (Option ℕ)) → length (flat_map symbol rs) ≡ 4 * length rs
length-rets [] = refl
length-rets (r ∷ rs) =
    let rest : length (flat_map symbol rs) ≡ 4 * length rs = length-rets rs in
    omega (arith, rest, length-symbol r, length-append (symbol r) (flat_map symbol rs))

length-bound : (ts : List Term) → length (flat_map bound_term ts) ≡ 16 * length ts
length-bound [] = refl
length-bound (t ∷ ts) =
    let rest : length (flat_map bound_term ts) ≡ 16 * length ts = length-bound ts in
    let inner : length (symbol t.second ++ wide t.coefficient)
    ≡ length (symbol t.second) + 8 = length-append (symbol t.second) (wide t.coefficient) in
    omega (
      arith,
      rest,
      inner,
      length-symbol t.first,
      length-symbol t.second,
      length-append (symbol t.first)
          (symbol t.second ++ wide t.coefficient),
      length-append (bound_term t) (flat_map bound_term ts),
    )

record Few (i : Image) : Type 0 where
  symbols : symbol_count i.params ≤ 8
  params : length i.params ≤ 8
  rets : length i.rets ≤ 10
  bound : length i.bound ≤ 45
  header : header_length i ≤ 500_000

few_are : (i : Image) → IsWithinLimits i → Few i
few_are i w =
    let symbols : symbol_count i.params ≤ 8 = omega (arith, symbols_few i.params, w.registers_most) in
    let params : length i.params ≤ 8 = omega (arith, params_few i.params, w.registers_most) in
    let rets : length i.rets ≤ 10 = omega (arith, rets_few i.params i.rets w.rets_fit, params) in
    let bound : length i.bound ≤ 45 = bound_few (symbol_count i.params) i.bound symbols w.bound_fits in
    let a = flat_map parameter i.params in
    let b = flat_map requirement i.requires_ in
    let d = flat_map symbol i.rets in
    let e = flat_map bound_term i.bound in
    let all : length (lists i) ≡ length a + (length b + (length d + length e)) =
    omega (arith, length-append a (b ++ (d ++ e)), length-append b (d ++ e), length-append d e) in
    let forms_most : length b ≤ 108 * length i.requires_ = length-forms (symbol_count i.params) i.requires_ symbols w.requires_fit
    in
    let params_size : length a ≡ 8 * length i.params = length-params i.params in
    let rets_size : length d ≡ 4 * length i.rets = length-rets i.rets in
    let bound_size : length e ≡ 16 * length i.bound = length-bound i.bound in
    record {
      symbols = symbols;
      params = params;
      rets = rets;
      bound = bound;
      header = omega (arith, all, forms_most, params_size, rets_size, bound_size, params, rets, bound, w.requires_most);
    }

near : (n : ℕ) → next_multiple_of n 16 ≤ n + 16
near n = omega arith

numbers_fit : (i : Image) → IsWithinLimits i → Few i → AllFit IsWord [] (fixed_numbers i)
numbers_fit i w few =
    let offset : code_offset i ≤ 500_016 = omega (arith, near (header_length i), few.header) in (
      omega (arith, w.version_is),
      (
        omega (arith, offset, w.code_most, w.tables_most),
        (
          omega (arith, offset),
          (
            omega (arith, w.code_most),
            (
              omega (arith, w.tables_most),
              (
                omega (arith, offset, w.entry_below, w.code_most),
                (
                  omega (arith, w.stack_most),
                  (
                    omega (arith, few.params),
                    (
                      omega (arith, w.requires_most),
                      (omega (arith, few.rets), (omega (arith, few.bound), tt)),
                    ),
                  ),
                ),
              ),
            ),
          ),
        ),
      ),
    )

-- The fixed numbers.

words_again : (bytes : List ℕ) → IsAgain bytes (words bytes) number IsWord
words_again bytes before at n rest fit stands =
    let p = word_again bytes rest at n fit stands in
    (field_made (field bytes at 4 true) [] (both p.1 refl) refl, p.0, p.2)

abbrev zeros : Image → List ℕ
zeros i = replicate (code_offset i - header_length i) 0

abbrev tail : Image → List ℕ
tail i = zeros i ++ (i.code ++ i.tables)

record Numbers (i : Image) (bytes : List ℕ) : Type 0 where
  marked : word_at bytes 0 ≡ from_le_bytes w32 mark
  version : word_at bytes 4 ≡ i.version
  size : word_at bytes 8 ≡ image_length i
  offset : word_at bytes 12 ≡ code_offset i
  code : word_at bytes 16 ≡ length i.code
  tables : word_at bytes 20 ≡ length i.tables
  entry : word_at bytes 24 ≡ i.entry
  stack : word_at bytes 28 ≡ i.stack
  params : word_at bytes 32 ≡ length i.params
  requires_ : word_at bytes 36 ≡ length i.requires_
  rets : word_at bytes 40 ≡ length i.rets
  bound : word_at bytes 44 ≡ length i.bound
  behind_them : drop 48 bytes ≡ lists i ++ tail i

numbers_again : (i : Image) (bytes : List ℕ) → IsWithinLimits i → Few i → bytes ≡ spelling i → Numbers i bytes
numbers_again i bytes w few is =
    let ns = flat_map number (fixed_numbers i) in
    let rest = lists i ++ tail i in
    let split : drop 0 bytes ≡ number (from_le_bytes w32 mark) ++ (ns ++ rest) = is ∙ append_assoc mark ns rest in
    let m = word_again bytes (ns ++ rest) 0 (from_le_bytes w32 mark) (omega arith) split in
    let ws = list_again bytes (words bytes) number IsWord (words_again bytes) [] (fixed_numbers i) 4 rest (numbers_fit i w few)
    m.2 in
    record {
      marked = m.0;
      version = ap (λ (xs : List ℕ). get_or xs 0 0) ws.1;
      size = ap (λ (xs : List ℕ). get_or xs 1 0) ws.1;
      offset = ap (λ (xs : List ℕ). get_or xs 2 0) ws.1;
      code = ap (λ (xs : List ℕ). get_or xs 3 0) ws.1;
      tables = ap (λ (xs : List ℕ). get_or xs 4 0) ws.1;
      entry = ap (λ (xs : List ℕ). get_or xs 5 0) ws.1;
      stack = ap (λ (xs : List ℕ). get_or xs 6 0) ws.1;
      params = ap (λ (xs : List ℕ). get_or xs 7 0) ws.1;
      requires_ = ap (λ (xs : List ℕ). get_or xs 8 0) ws.1;
      rets = ap (λ (xs : List ℕ). get_or xs 9 0) ws.1;
      bound = ap (λ (xs : List ℕ). get_or xs 10 0) ws.1;
      behind_them = ws.2;
    }

-- The lists.

record ParamsAgain (i : Image) (bytes : List ℕ) : Type 0 where
  right : first_wrong (fields_of (parameters bytes) [] (word_at bytes 32) 48) ≡ None
  are : params_of bytes ≡ i.params
  behind_them : drop (params_end bytes) bytes
      ≡ flat_map requirement i.requires_ ++ (flat_map symbol i.rets ++ (flat_map bound_term i.bound ++ tail i))

params_again : (i : Image) (bytes : List ℕ) → IsWithinLimits i → Numbers i bytes → ParamsAgain i bytes
unfolding params_of params_end
params_again i bytes w n =
    let b = flat_map requirement i.requires_ in
    let d = flat_map symbol i.rets in
    let e = flat_map bound_term i.bound in
    let count = n.params in
    let split : drop 48 bytes ≡ flat_map parameter i.params ++ (b ++ (d ++ (e ++ tail i))) =
    n.behind_them ∙ sym (four (flat_map parameter i.params) b d e (tail i)) in
    let p = list_again bytes (parameters bytes) parameter ParamFits (param_again bytes) [] i.params 48 (b ++ (d ++ (e ++ tail i)))
    (params_fit [] i.params w.params_fit (omega (arith, w.registers_most))) split in
    record { right = rw count p.0; are = rw count p.1; behind_them = rw count p.2 }

record FormsAgain (i : Image) (bytes : List ℕ) : Type 0 where
  right : first_wrong (fields_of (forms bytes) [] (word_at bytes 36) (params_end bytes)) ≡ None
  are : requires_of bytes ≡ i.requires_
  behind_them : drop (requires_end bytes) bytes ≡ flat_map symbol i.rets ++ (flat_map bound_term i.bound ++ tail i)

forms_again : (i : Image) (bytes : List ℕ) → IsWithinLimits i → Few i → Numbers i bytes → ParamsAgain i bytes → FormsAgain i bytes
unfolding requires_of requires_end
forms_again i bytes w few n ps =
    let count = n.requires_ in
    let kinds = ps.are in
    let k = symbol_count i.params in
    let p = list_again bytes (requirements k bytes) requirement (FormFits k) (form_again bytes k few.symbols) [] i.requires_
    (params_end bytes) (flat_map symbol i.rets ++ (flat_map bound_term i.bound ++ tail i))
    (forms_fit k [] i.requires_ few.symbols w.requires_fit) ps.behind_them in
    record { right = rw (kinds, count) p.0; are = rw (kinds, count) p.1; behind_them = rw (kinds, count) p.2 }

record RetsAgain (i : Image) (bytes : List ℕ) : Type 0 where
  right : first_wrong (fields_of (results (params_of bytes) bytes) [] (word_at bytes 40) (requires_end bytes)) ≡ None
  are : rets_of bytes ≡ i.rets
  behind_them : drop (rets_end bytes) bytes ≡ flat_map bound_term i.bound ++ tail i

rets_again : (i : Image) (bytes : List ℕ) → IsWithinLimits i → Few i → Numbers i bytes → ParamsAgain i bytes → FormsAgain i bytes
    → RetsAgain i bytes
unfolding rets_of rets_end
rets_again i bytes w few n ps fs =
    let count = n.rets in
    let kinds = ps.are in
    let p = list_again bytes (results i.params bytes) symbol (RetFits i.params) (ret_again bytes i.params) [] i.rets
    (requires_end bytes) (flat_map bound_term i.bound ++ tail i)
    (rets_fit i.params 2 [] [] i.rets few.params refl nothing_seen w.rets_fit) fs.behind_them in
    record { right = rw (kinds, count) p.0; are = rw (kinds, count) p.1; behind_them = rw (kinds, count) p.2 }

record BoundAgain (i : Image) (bytes : List ℕ) : Type 0 where
  right : first_wrong (fields_of (bound_terms (symbol_count (params_of bytes)) bytes) [] (word_at bytes 44) (rets_end bytes))
      ≡ None
  are : bound_of bytes ≡ i.bound
  behind_them : drop (header_end bytes) bytes ≡ tail i

bound_again_ : (i : Image) (bytes : List ℕ) → IsWithinLimits i → Few i → Numbers i bytes → ParamsAgain i bytes → RetsAgain i bytes
    → BoundAgain i bytes
unfolding bound_of header_end
bound_again_ i bytes w few n ps rs =
    let count = n.bound in
    let kinds = ps.are in
    let k = symbol_count i.params in
    let p = list_again bytes (bound_terms k bytes) bound_term (BoundFits k) (bound_again bytes k) [] i.bound (rets_end bytes)
    (tail i) (bound_fit k [] i.bound few.symbols w.bound_fits) rs.behind_them in
    record { right = rw (kinds, count) p.0; are = rw (kinds, count) p.1; behind_them = rw (kinds, count) p.2 }

-- Behind the lists.

zeros_right : (n : ℕ) → all_zeros (replicate n 0) ≡ true
zeros_right zero = refl
zeros_right (suc n) = zeros_right n

record TailAgain (i : Image) (bytes : List ℕ) : Type 0 where
  fixed : 48 ≤ length bytes
  header : header_end bytes ≡ header_length i
  from : header_length i ≤ code_offset i
  size : image_length i ≡ length bytes
  filled : all_zeros (take (word_at bytes 12 - header_end bytes) (drop (header_end bytes) bytes)) ≡ true
  code : take (word_at bytes 16) (drop (word_at bytes 12) bytes) ≡ i.code
  tables : take (word_at bytes 20) (drop (word_at bytes 12 + word_at bytes 16) bytes) ≡ i.tables

tail_again : (i : Image) (bytes : List ℕ) → IsWithinLimits i → Numbers i bytes → BoundAgain i bytes → TailAgain i bytes
tail_again i bytes w n b =
    let sizes : length (drop 48 bytes) ≡ length (lists i) + length (tail i) =
    ap length n.behind_them ∙ length-append (lists i) (tail i) in
    let left : length (drop (header_end bytes) bytes) ≡ length (tail i) = ap length b.behind_them in
    let parts : length (tail i) ≡ (code_offset i - header_length i) + (length i.code + length i.tables) =
    omega (
      arith,
      length-append (zeros i) (i.code ++ i.tables),
      length-append i.code i.tables,
      length-replicate {A = ℕ}
          (code_offset i - header_length i) 0,
    ) in
    let header : header_end bytes ≡ header_length i =
    omega (arith, sizes, left, parts, w.code_some, length-drop 48 bytes, length-drop (header_end bytes) bytes) in
    let from : header_length i ≤ code_offset i = behind (header_length i) in
    let gap : word_at bytes 12 - header_end bytes ≡ code_offset i - header_length i = omega (arith, header, n.offset) in
    let offset_is : header_end bytes + (code_offset i - header_length i)
    ≡ word_at bytes 12 = omega (arith, header, n.offset, from) in
    let zeros_size : length (zeros i) ≡ code_offset i - header_length i =
    length-replicate {A = ℕ} (code_offset i - header_length i) 0 in
    let filling : take (word_at bytes 12 - header_end bytes) (drop (header_end bytes) bytes)
    ≡ zeros i = rw (b.behind_them, gap)
    (take_at (zeros i) (i.code ++ i.tables) (code_offset i - header_length i) zeros_size) in
    let code_stands : drop (word_at bytes 12) bytes ≡ i.code ++ i.tables =
    ap (λ (k : ℕ). drop k bytes) (sym offset_is) ∙ sym (drop-drop (code_offset i - header_length i) (header_end bytes) bytes)
    ∙ ap (drop (code_offset i - header_length i)) b.behind_them
    ∙ drop_at (zeros i) (i.code ++ i.tables) (code_offset i - header_length i) zeros_size in
    let tables_stand : drop (word_at bytes 12 + word_at bytes 16) bytes ≡ i.tables =
    sym (drop-drop (word_at bytes 16) (word_at bytes 12) bytes) ∙ ap (drop (word_at bytes 16)) code_stands
    ∙ drop_at i.code i.tables (word_at bytes 16) (sym n.code) in
    let tables_size = n.tables in
    record {
      fixed = omega (arith, sizes, parts, w.code_some, length-drop 48 bytes);
      header = header;
      from = from;
      size = omega (arith, sizes, parts, w.code_some, length-drop 48 bytes, from);
      filled = ap all_zeros filling ∙ zeros_right (code_offset i - header_length i);
      code = ap (take (word_at bytes 16)) code_stands ∙ take_at i.code i.tables (word_at bytes 16) (sym n.code);
      tables = ap (take (word_at bytes 20)) tables_stand ∙ ap (λ (k : ℕ). take k i.tables) tables_size ∙ take-length i.tables;
    }

pub record Again (i : Image) (bytes : List ℕ) : Type 0 where
  pub right : Right bytes
  pub from : header_end bytes ≤ word_at bytes 12
  pub is : image_of bytes ≡ i

pub layout_again : (i : Image) (bytes : List ℕ) → Layout i bytes → Again i bytes
unfolding image_of
layout_again i bytes layout =
    let w = layout.within in
    let few = few_are i w in
    let n = numbers_again i bytes w few layout.bytes_are in
    let ps = params_again i bytes w n in
    let fs = forms_again i bytes w few n ps in
    let rs = rets_again i bytes w few n ps fs in
    let b = bound_again_ i bytes w few n ps rs in
    let t = tail_again i bytes w n b in
    let offset : word_at bytes 12 ≡ next_multiple_of (header_end bytes) 16 =
    n.offset ∙ ap (λ (k : ℕ). next_multiple_of k 16) (sym t.header) in
    record {
      right = record {
        fixed = t.fixed;
        marked = n.marked;
        version = n.version ∙ w.version_is;
        size = n.size ∙ t.size;
        offset = offset;
        code_whole = ap (λ (k : ℕ). k % 4) n.code ∙ w.code_whole;
        code_some = omega (arith, n.code, w.code_some);
        code_most = omega (arith, n.code, w.code_most);
        tables_most = omega (arith, n.tables, w.tables_most);
        entry_whole = ap (λ (k : ℕ). k % 4) n.entry ∙ w.entry_whole;
        entry_from = omega (arith, n.entry, n.offset, w.entry_from);
        entry_below = omega (arith, n.entry, n.offset, n.code, w.entry_below);
        stack_whole = ap (λ (k : ℕ). k % 16) n.stack ∙ w.stack_whole;
        stack_most = omega (arith, n.stack, w.stack_most);
        requires_most = omega (arith, n.requires_, w.requires_most);
        params = ps.right;
        requires_ = fs.right;
        rets = rs.right;
        bound = b.right;
        filled = t.filled;
        header_inside = omega (arith, t.header, t.from, t.size);
        ends = omega (arith, n.offset, n.code, n.tables, t.size);
      };
      from = omega (arith, t.header, t.from, n.offset);
      is = image_made i (word_at bytes 4) (word_at bytes 24) (word_at bytes 28) (params_of bytes) (requires_of bytes)
          (rets_of bytes) (bound_of bytes) (take (word_at bytes 16) (drop (word_at bytes 12) bytes))
          (take (word_at bytes 20) (drop (word_at bytes 12 + word_at bytes 16) bytes)) n.version n.entry n.stack ps.are fs.are
          rs.are b.are t.code t.tables;
    }
  where
    image_made : (i : Image) (version entry stack : ℕ) (params : List Kind) (requires_ : List LinearForm) (rets : List (Option ℕ))
        (bound : List Term) (code tables : List ℕ) → version ≡ i.version → entry ≡ i.entry → stack ≡ i.stack
        → params ≡ i.params → requires_ ≡ i.requires_ → rets ≡ i.rets → bound ≡ i.bound → code ≡ i.code → tables ≡ i.tables
        → record {
          version = version;
          params = params;
          requires_ = requires_;
          rets = rets;
          bound = bound;
          entry = entry;
          stack = stack;
          code = code;
          tables = tables;
        } ≡ i
    image_made i version entry stack params requires_ rets bound code tables a b d e f g h j k =
        rw (a, b, d, e, f, g, h, j, k) refl
