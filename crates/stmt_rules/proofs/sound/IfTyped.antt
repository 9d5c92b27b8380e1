-- What the rules of models say of a conditional's parts.
use Rattle.std.proofs.Common.{◌≡◌, ℕ, true, ◌&&◌, List, [], map, Ok, if◌then◌else◌}
use Rattle.rup_base.specs.Gather.{all_true}
use Rattle.rup_base.specs.declared.refusal.TypePlace.TheVariants.{Statement}
use Rattle.model_syntax.specs.declared.expr.Expr.{Expr}
use Rattle.model_syntax.specs.declared.expr.Scalar.TheVariants.{Flag}
use Rattle.model_syntax.specs.declared.stmt.Le.{Le}
use Rattle.model_syntax.specs.declared.stmt.Stmt.{Stmt}
use Rattle.model_syntax.specs.declared.stmt.Stmt.TheOpen as s
use Rattle.model_syntax.specs.Environment.{carry}
use Rattle.model_syntax.specs.ExprType.{type_of, wanted}
use Rattle.model_syntax.specs.Formed.{expr_formed, stmt_formed, stmt_formed_step, names_formed, facts_formed}
use Rattle.model_syntax.specs.Limits.{next}
use Rattle.model_syntax.specs.Names.{Name}
use Rattle.model_syntax.specs.Scope.{Scope}
use Rattle.model_syntax.specs.Spelling.{expr_spellable, stmt_spellable, stmt_spellable_step}
use Rattle.model_syntax.specs.Types as types
use Rattle.model_syntax.specs.Value.{Turn, run, in_turn, eval, is_true}
use Rattle.model_syntax.proofs.laws.Answered.{first_answered, at_answered, answer_is}
use Rattle.model_syntax.proofs.laws.Expressions.{wanted_is}
use Rattle.stmt_rules.proofs.Sequence.{and_parts}

-- its parts are formed and spellable
pub record IfFormed (test : Expr) (names : List Name) (keep : List Le) (first second : List Stmt) : Type 0 where
  pub test_formed : expr_formed test ≡ true
  pub test_spelled : expr_spellable test ≡ true
  pub first_formed : all_true (map stmt_formed first) ≡ true
  pub first_spelled : all_true (map stmt_spellable first) ≡ true
  pub second_formed : all_true (map stmt_formed second) ≡ true
  pub second_spelled : all_true (map stmt_spellable second) ≡ true

pub if_parts : (test : Expr) (names : List Name) (keep : List Le) (first second : List Stmt)
    → stmt_formed_step (s.If test names keep (map stmt_formed first) (map stmt_formed second)) ≡ true
    → stmt_spellable_step (s.If test names keep (map stmt_spellable first) (map stmt_spellable second)) ≡ true
    → IfFormed test names keep first second
if_parts test names keep first second formed spelled =
    let blocks = all_true (map stmt_formed first) && all_true (map stmt_formed second) in
    let f = and_parts (expr_formed test) (names_formed names && (facts_formed keep && blocks)) formed in
    let g = and_parts (names_formed names) (facts_formed keep && blocks) f.1 in
    let h = and_parts (facts_formed keep) blocks g.1 in
    let both = and_parts (all_true (map stmt_formed first)) (all_true (map stmt_formed second)) h.1 in
    let p = and_parts (expr_spellable test && all_true (map stmt_spellable first)) (all_true (map stmt_spellable second)) spelled
    in
    let q = and_parts (expr_spellable test) (all_true (map stmt_spellable first)) p.0 in
    record {
      test_formed = f.0;
      test_spelled = q.0;
      first_formed = both.0;
      first_spelled = q.1;
      second_formed = both.1;
      second_spelled = p.1;
    }

-- the values after it
abbrev pub branched : Expr → List Name → List Stmt → List Stmt → Turn
branched test names first second env =
    if is_true (eval test env) then carry names (in_turn (map run first) env) env
    else carry names (in_turn (map run second) env) env

-- what typing says of it
pub record IfTyped (test : Expr) (names : List Name) (keep : List Le) (first second : List Stmt) (k : ℕ) (scope : Scope)
    (after : types.State) : Type 0 where
  pub flag : type_of test scope ≡ Ok Flag
  pub distinct : types.distinct [] names ≡ Ok tt
  pub one : types.State
  pub two : types.State
  pub joined : Scope
  pub first_typed : types.in_turn (map types.stmt first) (next k, scope) ≡ Ok one
  pub second_typed : types.in_turn (map types.stmt second) (one.0, scope) ≡ Ok two
  pub joined_is : types.joined names one.1 two.1 scope ≡ Ok joined
  pub facts : types.facts keep joined ≡ Ok tt
  pub is : (two.0, joined) ≡ after

pub if_typed : (test : Expr) (names : List Name) (keep : List Le) (first second : List Stmt) (k : ℕ) (scope : Scope)
    (after : types.State)
    → types.stmt_step (s.If test names keep (map types.stmt first) (map types.stmt second)) (k, scope) ≡ Ok after
    → IfTyped test names keep first second k scope after
if_typed test names keep first second k scope after is =
    let found = first_answered (types.at (Statement k) (wanted Flag (type_of test scope))) _ after is in
    let once = first_answered (types.at (Statement k) (types.distinct [] names)) _ after found.1.1 in
    let one = first_answered (types.in_turn (map types.stmt first) (next k, scope)) _ after once.1.1 in
    let two = first_answered (types.in_turn (map types.stmt second) (one.0.0, scope)) _ after one.1.1 in
    let joined = first_answered (types.at (Statement k) (types.joined names one.0.1 two.0.1 scope)) _ after two.1.1 in
    let facts = first_answered (types.at (Statement k) (types.facts keep joined.0)) _ after joined.1.1 in
    record {
      flag = (wanted_is Flag (type_of test scope) found.0
          (at_answered (Statement k) (wanted Flag (type_of test scope)) found.0 found.1.0)).0;
      distinct = at_answered (Statement k) (types.distinct [] names) tt once.1.0;
      one = one.0;
      two = two.0;
      joined = joined.0;
      first_typed = one.1.0;
      second_typed = two.1.0;
      joined_is = at_answered (Statement k) (types.joined names one.0.1 two.0.1 scope) joined.0 joined.1.0;
      facts = at_answered (Statement k) (types.facts keep joined.0) tt facts.1.0;
      is = answer_is (two.0.0, joined.0) after facts.1.1;
    }
