-- The image around the code of a model is within the limits of its layout.
use Rattle.std.proofs.Common.{◌≡◌, refl, sym, ◌∙◌, ap, subst, arith, ℕ, ◌+◌, ◌*◌, ◌%◌, ◌≤◌, ◌^◌, Bool, true, false, ◌&&◌, List}
use Rattle.std.proofs.Common.{[], ◌∷◌, ◌++◌, length, map, Option, Some, None}
use Rattle.std.specs.Prelude.{sum_by}
use Rattle.std.specs.Int.{next_multiple_of}
use Rattle.std.specs.List.{AllByRecursion, flat_map}
use Rattle.rup_base.specs.declared.arg.Kind.{Kind}
use Rattle.std.proofs.lemmas.Bool.{leb-true}
use Rattle.std.proofs.lemmas.List.Sums.{sum_by-cons}
use Rattle.rup_base.specs.Gather.{all_true}
use Rattle.rup_base.specs.Name.{is_name}
use Rattle.side_certs.specs.LinearForm.{LinearForm}
use Rattle.cost_poly.specs.declared.term.Term.{Term}
use Rattle.cost_poly.specs.Polynomial.{BoundFrom}
use Rattle.model_syntax.specs.declared.program.Len.TheVariants.{Fixed, Named}
use Rattle.model_syntax.specs.declared.program.Param.{Param}
use Rattle.model_syntax.specs.declared.program.Param.TheVariants as param
use Rattle.model_syntax.specs.declared.program.Model.{Model}
use Rattle.model_syntax.specs.Entries.{entry_names, result_place}
use Rattle.model_syntax.specs.Formed.{param_formed, facts_formed, stmt_formed, ret_formed, model_formed}
use Rattle.model_syntax.specs.Kinds.{is_word}
use Rattle.model_syntax.specs.Types as types
use Rattle.model_types.specs.declared.typed.Typed.{Typed}
use Rattle.model_syntax.specs.Types.{kind_of}
use Rattle.sym_heap.specs.Start as start
use Rattle.image_layout.specs.declared.image.Image.{Image}
use Rattle.image_layout.specs.Spelling as layout
use Rattle.image_layout.specs.Spelling.{parameter, symbol, bound_term, registers_of, symbols_of, symbol_count, lists}
use Rattle.image_layout.specs.Spelling.{header_length, code_offset, IsParameter, IsRequirement, IsWithinLimits}
use Rattle.image_layout.proofs.laws.Length.{lists_small}
use Rattle.bed_syntax.specs.declared.weights.Weights.{Weights}
use Rattle.bed_syntax.specs.declared.weights.TheConstants as weights
use Rattle.model_command.specs.declared.command.ModelCommand.{ModelCommand}
use Rattle.model_command.specs.Measures.{IsMeasured, IsSmall}
use Rattle.pipeline.specs.Around.{image_from, image_around, IsLimited}
use Rattle.pipeline.specs.Written.{bytes_of}
use Rattle.pipeline.proofs.Required.{facts_fit}
use Rattle.pipeline.proofs.Returning.{results_fit}

-- Parameters.

pub both_true : (p q : Bool) → (p && q) ≡ true → (p ≡ true) × (q ≡ true)
both_true true q is = (refl, is)
both_true false q is = absurd (let bad : false ≡ true = is in cc)

pub params_formed : (m : Model) → model_formed m ≡ true → all_true (map param_formed m.params) ≡ true
params_formed m formed =
    let name = both_true (is_name m.name) _ formed in
    (both_true (all_true (map param_formed m.params))
    (facts_formed m.requires_ && (all_true (map stmt_formed m.body) && all_true (map ret_formed m.rets))) name.1).0

pub word_is : (n : ℕ) → is_word n ≡ true → n ≤ 4294967295
word_is n is = leb-true n 4294967295 is

param_fits : (q : Param) → param_formed q ≡ true → IsParameter (kind_of q)
param_fits (param.Word x) formed = tt
param_fits (param.Byte x) formed = tt
param_fits (param.Bytes a (Fixed n)) formed = let few = word_is n (both_true (is_name a) (is_word n) formed).1 in
    omega (arith, few)
param_fits (param.Bytes a (Named x)) formed = tt
param_fits (param.Words a (Fixed n)) formed = let few = word_is n (both_true (is_name a) (is_word n) formed).1 in
    omega (arith, few)
param_fits (param.Words a (Named x)) formed = tt

params_fit : (ps : List Param) → all_true (map param_formed ps) ≡ true → AllByRecursion IsParameter (map kind_of ps)
params_fit [] formed = tt
params_fit (q ∷ qs) formed =
    let both = both_true (param_formed q) (all_true (map param_formed qs)) formed in
    (param_fits q both.0, params_fit qs both.1)

pub same_registers : (q : Param) → registers_of (kind_of q) ≡ start.registers_of q
same_registers (param.Word x) = refl
same_registers (param.Byte x) = refl
same_registers (param.Bytes a (Fixed n)) = refl
same_registers (param.Bytes a (Named x)) = refl
same_registers (param.Words a (Fixed n)) = refl
same_registers (param.Words a (Named x)) = refl

registers_are : (ps : List Param) → sum_by registers_of (map kind_of ps) ≡ start.registers ps
registers_are [] = refl
registers_are (q ∷ qs) = omega (arith, sum_by-cons registers_of (kind_of q) (map kind_of qs), same_registers q, registers_are qs)

symbols_step : (q : Param) (qs : List Param) → length (entry_names (q ∷ qs)) ≡ symbols_of (kind_of q) + length (entry_names qs)
symbols_step (param.Word x) qs = omega arith
symbols_step (param.Byte x) qs = omega arith
symbols_step (param.Bytes a (Fixed n)) qs = omega arith
symbols_step (param.Bytes a (Named x)) qs = omega arith
symbols_step (param.Words a (Fixed n)) qs = omega arith
symbols_step (param.Words a (Named x)) qs = omega arith

symbols_are : (ps : List Param) → symbol_count (map kind_of ps) ≡ length (entry_names ps)
symbols_are [] = refl
symbols_are (q ∷ qs) = omega (arith, sum_by-cons symbols_of (kind_of q) (map kind_of qs), symbols_step q qs, symbols_are qs)

-- The whole image.

-- a word has four bytes
pub code_length : (ws : List ℕ) → length (bytes_of ws) ≡ 4 * length ws
code_length [] = refl
code_length (w ∷ ws) = let rest : length (bytes_of ws) ≡ 4 * length ws = code_length ws in omega (arith, rest)

whole_words : (k : ℕ) → next_multiple_of k 16 % 4 ≡ 0
whole_words k = omega arith

-- the image is entered where its code begins
pub entry_is : (m : Model) (bound : List Term) (stack : ℕ) (code tables : List ℕ)
    → code_offset (image_around m bound stack code tables) ≡ (image_around m bound stack code tables).entry
entry_is m bound stack code tables = refl

pub entry_whole : (m : Model) (bound : List Term) (stack : ℕ) (code tables : List ℕ)
    → (image_around m bound stack code tables).entry % 4 ≡ 0
entry_whole m bound stack code tables = whole_words (header_length (image_from 0 m bound stack code tables))

pub within : (w : Weights) (m : Model) (c : ModelCommand) (stack : ℕ) (ws tables : List ℕ) → types.Well m → model_formed m ≡ true
    → IsMeasured w m c → IsSmall c
    → AllByRecursion IsLimited (start.start m).facts → 1 ≤ length ws → length ws ≤ 250000 → length tables ≤ 131072
    → stack % 16 ≡ 0 → stack ≤ 4096
    → IsWithinLimits (image_around m c.bound stack (bytes_of ws) tables)
within w m c stack ws tables well formed measured small limited some most short aligned low =
    let size = code_length ws in
    let entry = entry_is m c.bound stack (bytes_of ws) tables in
    let facts = facts_fit m well in
    let symbols = symbols_are m.params in
    record {
      version_is = refl;
      code_whole = omega (arith, size);
      code_some = omega (arith, size, some);
      code_most = omega (arith, size, most);
      tables_most = short;
      entry_whole = entry_whole m c.bound stack (bytes_of ws) tables;
      entry_from = omega (arith, entry);
      entry_below = omega (arith, entry, size, some);
      stack_whole = aligned;
      stack_most = low;
      params_fit = params_fit m.params (params_formed m formed);
      registers_most = omega (arith, registers_are m.params, measured.args, small.few_args);
      requires_most = facts.few;
      requires_fit = subst (λ (n : ℕ). AllByRecursion (IsRequirement n) (start.start m).facts) (sym symbols) (facts.fit limited);
      rets_fit = results_fit m well;
      bound_fits = subst (λ (n : ℕ). BoundFrom 0 n c.bound) (sym symbols) measured.symbols;
    }

-- the lists are as short with any code as with one instruction
pub lists_short : (w : Weights) (m : Model) (c : ModelCommand) (stack : ℕ) (code tables : List ℕ) → types.Well m
    → model_formed m ≡ true → IsMeasured w m c → IsSmall c
    → AllByRecursion IsLimited (start.start m).facts → length (lists (image_from 0 m c.bound stack code tables)) ≤ 450000
lists_short w m c stack code tables well formed measured small limited =
    lists_small (image_around m c.bound 0 (bytes_of (0 ∷ [])) [])
    (within w m c 0 (0 ∷ []) [] well formed measured small limited (omega arith) (omega arith) (omega arith) refl (omega arith))

-- so are the lists of an image that has the model's
pub short_image : (t : Typed) (c : ModelCommand) (i : Image) → IsMeasured weights.Weights.LARGE t.inner c → IsSmall c
    → i.params ≡ map kind_of t.inner.params → i.requires_ ≡ (start.start t.inner).facts
    → i.rets ≡ map (result_place t.inner.params) t.inner.rets
    → i.bound ≡ c.bound → AllByRecursion IsLimited i.requires_ → length (lists i) ≤ 450000
short_image t c i measured small params requirements rets bound limited =
    let facts = subst (λ (fs : List LinearForm). AllByRecursion IsLimited fs) requirements limited in
    rw (params, requirements, rets, bound)
    (lists_short weights.Weights.LARGE t.inner c 0 [] [] t.well t.formed measured small facts)
