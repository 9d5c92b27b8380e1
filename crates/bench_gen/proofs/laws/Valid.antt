-- Each generated model is well typed, formed, spellable and within the limits, and its arguments meet it.
use Rattle.std.proofs.Common.{◌≡◌, refl, arith, ℕ, zero, suc, ◌+◌, ◌*◌, ◌≤◌, true, List, [], ◌∷◌, length, map, Some, Ok}
use Rattle.std.specs.List.{range_with_len}
use Rattle.std.proofs.lemmas.Bool.{le-leb}
use Rattle.rup_base.specs.Gather.{all_true}
use Rattle.rup_base.specs.declared.arg.Arg.TheVariants as arg
use Rattle.model_syntax.specs.Answer.{◌>>=◌}
use Rattle.model_syntax.specs.Formed.{model_formed}
use Rattle.model_syntax.specs.Kinds.{is_byte, is_word}
use Rattle.model_syntax.specs.Limits.{Within}
use Rattle.model_syntax.specs.Scope.{Scope, look_up, bind, scalar_may_take}
use Rattle.model_syntax.specs.Spelling.{Spellable}
use Rattle.model_syntax.specs.Types.{Well, Block, stmt, in_turn, results}
use Rattle.model_syntax.specs.Value.{Meets}
use Rattle.model_syntax.specs.declared.expr.Scalar.TheVariants.{Word, Byte}
use Rattle.model_syntax.specs.declared.program.Len.TheVariants.{Named}
use Rattle.model_syntax.specs.declared.scope.NameType.TheVariants.{Scalar as One, Array as Many}
use Rattle.model_syntax.proofs.laws.Numbers.{low_byte}
use Rattle.bench_gen.specs.Generator.{word_name, array_name, length_name, scalar, first, statements, body, rets, model, byte}
use Rattle.bench_gen.specs.Generator.{arguments}
use Rattle.bench_gen.proofs.Modest.{Singles, drawn_singles, first_singles}
use Rattle.bench_gen.proofs.Nodes.{below_eight}
use Rattle.bench_gen.proofs.Typing.{Stands, Ends, first_leads, first_of, drawn_end}

-- Formed, spellable, within the limits.

singles : (seed count : ℕ) → Singles (8 + count) (body seed count)
singles seed count = first_singles 8 0 count (8 + count) (statements count seed) (omega arith) refl (drawn_singles count seed)

pub formed : (seed count : ℕ) → model_formed (model seed count) ≡ true
formed seed count = rw (singles seed count).formed refl

pub spellable : (seed count : ℕ) → Spellable (model seed count)
spellable seed count = (singles seed count).spelled

pub within : (seed count : ℕ) → count ≤ 1990 → Within (model seed count)
within seed count few =
    let of = singles seed count in
    record {
      few_statements = omega (arith, of.count, few);
      shallow_expressions = of.depth;
      shallow_blocks = omega (arith, of.blocks);
      small_tables = omega (arith, of.tables);
    }

-- Well typed.

-- the scope that the parameters make
abbrev start : Scope
start = bind length_name (One Word) (bind array_name (Many Byte (Named length_name)) (bind word_name (One Word) []))

-- and behind it so many scalars
abbrev scope_at : ℕ → Scope
scope_at zero = start
scope_at (suc k) = bind (scalar k) (One Word) (scope_at k)

eight_stand : Stands (scope_at 8)
eight_stand = record {
  word = refl;
  array = refl;
  element = refl;
  scalars = below_eight (λ k. look_up (scope_at 8) (scalar k) ≡ Some (One Word)) refl refl refl refl refl refl refl refl;
}

bound_first : (k : ℕ) (bs : List Block) → look_up (scope_at k) word_name ≡ Some (One Word)
    → scalar_may_take (look_up (scope_at k) (scalar k)) ≡ Ok tt
    → Ends bs (scope_at (suc k)) → Ends (stmt (first k) ∷ bs) (scope_at k)
bound_first k bs word may rest = first_of (first k) bs (scope_at k) (scope_at (suc k)) (first_leads k (scope_at k) word may) rest

body_end : (seed count : ℕ) → Ends (map stmt (body seed count)) start
body_end seed count =
    bound_first 0 _ refl refl (bound_first 1 _ refl refl (bound_first 2 _ refl refl (bound_first 3 _ refl refl
    (bound_first 4 _ refl refl (bound_first 5 _ refl refl (bound_first 6 _ refl refl (bound_first 7 _ refl refl
    (drawn_end count seed (scope_at 8) eight_stand))))))))

judged : (bs : List Block) (k : ℕ) (c d : Scope) → in_turn bs (0, c) ≡ Ok (k, d) → Stands d
    → (in_turn bs (0, c) >>= (λ end. results c end.1 0 [] rets)) ≡ Ok tt
judged bs k c d ends stands = rw (ends, stands.scalars 0 (omega arith), stands.scalars 1 (omega arith)) refl

pub well : (seed count : ℕ) → Well (model seed count)
well seed count =
    let end = body_end seed count in
    let last = end.leads 0 in
    judged (map stmt (body seed count)) last.0 start end.scope last.1 end.stands

-- The arguments.

all_bytes : (seed : ℕ) (ks : List ℕ) → all_true (map is_byte (map (byte seed) ks)) ≡ true
all_bytes seed [] = refl
all_bytes seed (k ∷ ks) = rw (low_byte (7 * k + seed), all_bytes seed ks) refl

met_with : (seed count : ℕ) (bs : List ℕ) → is_word seed ≡ true → is_word (length bs) ≡ true → all_true (map is_byte bs) ≡ true
    → Meets (model seed count) (arg.Word seed ∷ arg.Bytes bs ∷ [])
met_with seed count bs small few each = rw (small, few, each) refl

pub met : (seed count : ℕ) → seed ≤ 4294967295 → Meets (model seed count) (arguments seed)
met seed count small =
    met_with seed count (map (byte seed) (range_with_len 0 64)) (le-leb seed 4294967295 small) refl
    (all_bytes seed (range_with_len 0 64))
