-- e-tab is sound: the entry stands in the table's text at its offset.
use Rattle.std.proofs.Common.{◌≡◌, refl, ◌∙◌, ap, arith, ℕ, zero, suc, ◌+◌, ◌*◌, ◌/◌, ◌%◌, ◌^◌, ◌<◌, ◌≤◌, inl, inr, nat_le, true}
use Rattle.std.proofs.Common.{List, [], ◌∷◌, length, map, get_or, Some, slice_get, pos, negsuc, ◌≤ℤ◌, ◌+ℤ◌}
use Rattle.std.specs.Int.{w32, to_le_bytes}
use Rattle.std.specs.List.{list_all}
use Rattle.std.proofs.lemmas.Bool.{leb-true}
use Rattle.std.proofs.lemmas.Int.{ints}
use Rattle.std.proofs.lemmas.Option.{slice_get-get_or}
use Rattle.rup_base.specs.Gather.{all_true, greatest}
use Rattle.rv_memory.specs.Ranges.{Bytes}
use Rattle.side_certs.specs.LinearForm.{LinearForm, value_at}
use Rattle.side_certs.specs.declared.certificate.Cert.{Cert}
use Rattle.model_syntax.specs.declared.expr.Scalar.{Scalar}
use Rattle.model_syntax.specs.declared.expr.Scalar.TheVariants.{Word, Byte, Flag}
use Rattle.model_syntax.specs.declared.program.Param.{Param}
use Rattle.model_syntax.specs.Environment.{Env}
use Rattle.model_syntax.specs.Formed.{numbers_formed}
use Rattle.model_syntax.specs.Kinds.{is_word}
use Rattle.model_syntax.specs.Limits.{entry_bytes}
use Rattle.model_syntax.specs.Scope.{Scope}
use Rattle.model_syntax.specs.Spelling.{is_table, has_entry}
use Rattle.model_syntax.proofs.laws.Arrays.{and_parts}
use Rattle.sym_heap.specs.Context.{Context, top_of}
use Rattle.sym_heap.proofs.laws.Elements.{chunk}
use Rattle.bed_meaning.specs.Access.{entry}
use Rattle.bed_meaning.specs.Locals.{Vars}
use Rattle.bed_meaning.specs.Value.{value}
use Rattle.expr_rules.specs.declared.output.ExprOut.{ExprOut}
use Rattle.expr_rules.specs.Elements.{size_of, offset}
use Rattle.expr_rules.specs.Words.{sum_of, fresh_result}
use Rattle.expr_rules.specs.Sound.{ExprDone, Yields}
use Rattle.expr_rules.specs.rules.Tab as tab
use Rattle.expr_rules.specs.rules.Tab.{text, code, after, is_small}
use Rattle.expr_rules.proofs.Codes.{value_table, locals_table}
use Rattle.expr_rules.proofs.Came.{Of, came_one}
use Rattle.expr_rules.proofs.Reading.{read_done}
use Rattle.expr_rules.proofs.Sums.{value_sum}
use Rattle.expr_rules.proofs.laws.Addresses.{IsSize, value_offset, locals_offset, word_of}
use Rattle.expr_rules.proofs.laws.Yields.{yields_shown}

-- The greatest entry.

pub below_greatest : (ns : List ℕ) (i : ℕ) → get_or ns i 0 ≤ greatest ns
below_greatest [] i = omega arith
below_greatest (n ∷ ns) zero = omega arith
below_greatest (n ∷ ns) (suc i) = let rest = below_greatest ns i in omega (arith, rest)

words_small : (ns : List ℕ) → all_true (map is_word ns) ≡ true → greatest ns ≤ 4294967295
words_small [] all = omega arith
words_small (n ∷ ns) all =
    let parts = and_parts (is_word n) (all_true (map is_word ns)) all in
    let one : n ≤ 4294967295 = leb-true _ _ parts.0 in
    let rest = words_small ns parts.1 in
    omega (arith, one, rest)

bytes_small : (ns : List ℕ) → list_all (λ n. nat_le n 255) ns ≡ true → greatest ns ≤ 255
bytes_small [] all = omega arith
bytes_small (n ∷ ns) all =
    let parts = and_parts (nat_le n 255) (list_all (λ m. nat_le m 255) ns) all in
    let one : n ≤ 255 = leb-true _ _ parts.0 in
    let rest = bytes_small ns parts.1 in
    omega (arith, one, rest)

-- a table's entries are of its type
pub greatest_is : (t : Scalar) (ns : List ℕ) → numbers_formed ns ≡ true → is_table t ns ≡ true → greatest ns ≤ top_of t
greatest_is Word ns formed table = words_small ns formed
greatest_is Byte ns formed table = bytes_small ns (and_parts (has_entry ns) (list_all (λ n. nat_le n 255) ns) table).1
greatest_is Flag ns formed table = absurd (cc)

-- The text.

-- an entry that stands in the list stands in the text
entry_found : (t : Scalar) (ns : List ℕ) (i n : ℕ) → is_table t ns ≡ true → slice_get ns i ≡ Some n → n ≤ top_of t
    → entry (size_of (entry_bytes t)) (text t ns) (entry_bytes t * i) ≡ Some n
entry_found Word ns i n table at small =
    let multiple : 4 * i % 4 ≡ 0 = omega arith in
    let start : 4 * i + 0 ≡ 4 * i = omega arith in
    let byte = λ (k b : ℕ) (less : k < 4) (here : slice_get (to_le_bytes w32 n) k ≡ Some b). chunk (to_le_bytes w32) 4 (λ m. refl)
    ns i n k at less ∙ here in
    rw multiple (word_of (λ a. slice_get (text Word ns) a) (4 * i) n small
    (rw start at (byte 0 (n % 256) (omega arith) refl)) (byte 1 (n / 256 % 256) (omega arith) refl)
    (byte 2 (n / 65536 % 256) (omega arith) refl) (byte 3 (n / 16777216 % 256) (omega arith) refl))
entry_found Byte ns i n table at small =
    let multiple : 1 * i % 1 ≡ 0 = omega arith in
    let start : 1 * i + 0 ≡ 1 * i = omega arith in
    let byte : slice_get (text Byte ns) (1 * i + 0)
    ≡ Some (n % 256) = chunk (tab.entry Byte) 1 (λ m. refl) ns i n 0 at (omega arith) in
    let same : n % 256 ≡ n = omega (arith, small) in
    rw multiple (rw start at byte ∙ ap Some same)
entry_found Flag ns i n table at small = absurd (cc)

-- the offset of an entry
table_size : (t : Scalar) (ns : List ℕ) → is_table t ns ≡ true → IsSize (entry_bytes t)
table_size Word ns table = inr refl
table_size Byte ns table = inl refl
table_size Flag ns table = absurd (cc)

offset_small : (t : Scalar) (i : ℕ) → i < 65536 → entry_bytes t * i < 2 ^ 32
offset_small Word i less = omega (arith, less)
offset_small Byte i less = omega (arith, less)
offset_small Flag i less = omega (arith, less)

-- what is looked up in a table
read : (t : Scalar) (ns : List ℕ) (i : ℕ) (p : ExprOut) (mem : Bytes) (vars : Vars) → numbers_formed ns ≡ true
    → is_table t ns ≡ true → length ns ≤ 65536 → i < length ns → value p.code mem vars ≡ Some i
    → (value (code t ns p.code) mem vars ≡ Some (get_or ns i 0)) × (get_or ns i 0 ≤ greatest ns)
read t ns i p mem vars formed table few less index =
    let n : ℕ = get_or ns i 0 in
    let below = below_greatest ns i in
    let most = greatest_is t ns formed table in
    let offset_is = value_offset mem vars (entry_bytes t) i p.code (table_size t ns table)
    (offset_small t i (omega (arith, less, few))) index in (
      value_table mem vars (size_of (entry_bytes t)) (text t ns) (offset (entry_bytes t) p.code) (entry_bytes t * i) offset_is
          ∙ entry_found t ns i n table (slice_get-get_or ns i 0 less) (omega (arith, below, most)),
      below,
    )

pub sound : (ps : List Param) (scope : Scope) (f : Env → ℕ) (before : Context) (p : ExprOut) (mid : Context)
    → ExprDone ps scope f Word before p mid → (certs : List Cert) (at : ℕ) (t : Scalar) (ns : List ℕ)
    → numbers_formed ns ≡ true → is_table t ns ≡ true → is_small ns ≡ true
    → Yields (ExprDone ps scope (λ env. get_or ns (f env) 0) t before) (after certs at t ns p mid)
sound ps scope f before p mid d certs at t ns formed table small =
    yields_shown (ExprDone ps scope sem t before) mid at certs goal (λ _. fresh_result at (greatest ns) (code t ns p.code))
    (λ closes. read_done (Of f Word p) ps scope before mid (came_one ps scope f Word before mid p d) sem t at (greatest ns)
    (code t ns p.code) (greatest_is t ns formed table)
    (λ xs has. locals_table xs (size_of (entry_bytes t)) (text t ns) (offset (entry_bytes t) p.code)
    (locals_offset xs (entry_bytes t) p.code (d.locals xs has)))
    (λ call v env mem vars fits r.
    let shown : pos 0 ≤ℤ value_at v goal = closes v fits.holds in
    let value_is = value_sum v (pos (length ns) +ℤ negsuc 0) ((negsuc 0, p.form) ∷ []) in
    let index = r.form in
    read t ns (f env) p mem vars formed table (leb-true _ _ small) (omega (arith, ints, shown, value_is, index)) r.value))
  where
    sem : Env → ℕ
    sem env = get_or ns (f env) 0

    goal : LinearForm
    goal = sum_of (pos (length ns) +ℤ negsuc 0) ((negsuc 0, p.form) ∷ [])
