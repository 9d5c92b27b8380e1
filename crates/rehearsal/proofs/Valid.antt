-- The model is well typed, formed, spellable and within the limits.
use Rattle.std.proofs.Common.{◌≡◌, refl, arith, ℕ, Bool, true, Result}
use Rattle.rup_base.specs.declared.refusal.TypeWhy.{TypeWhy}
use Rattle.model_syntax.specs.declared.scope.Linear.{Linear}
use Rattle.model_syntax.specs.ExprType.{Typing, type_step}
use Rattle.model_syntax.specs.Formed.{model_formed, side_formed_step, expr_formed_step, stmt_formed_step}
use Rattle.model_syntax.specs.Limits as limits
use Rattle.model_syntax.specs.Limits.{Within}
use Rattle.model_syntax.specs.Linear.{linear_step}
use Rattle.model_syntax.specs.Scope.{Scope}
use Rattle.model_syntax.specs.Spelling.{Spellable, stmt_spellable_step, expr_spellable_step}
use Rattle.model_syntax.specs.Types.{Well, Rule, Block, names_step, stmt_step}
use Rattle.rehearsal.specs.Example.{model}
use Rattle.rehearsal.proofs.Nodes.{at_first, at_looked_up, at_x, at_y, at_low, at_high}

pub well : Well model
well =
    rw (
      at_low (Scope → Rule) names_step,
      at_high (Scope → Rule) names_step,
      at_low (Result Linear TypeWhy) linear_step,
      at_high (Result Linear TypeWhy) linear_step,
      at_x Block stmt_step,
      at_y Block stmt_step,
      at_first (Scope → Typing) type_step,
      at_looked_up (Scope → Typing) type_step,
    )
    refl

pub formed : model_formed model ≡ true
formed =
    rw (
      at_low Bool side_formed_step,
      at_high Bool side_formed_step,
      at_x Bool stmt_formed_step,
      at_y Bool stmt_formed_step,
      at_first Bool expr_formed_step,
      at_looked_up Bool expr_formed_step,
    )
    refl

pub spellable : Spellable model
spellable =
    rw (
      at_x Bool stmt_spellable_step,
      at_y Bool stmt_spellable_step,
      at_first Bool expr_spellable_step,
      at_looked_up Bool
          expr_spellable_step,
    ) refl

pub within : Within model
within = record {
  few_statements = omega (arith, count);
  shallow_expressions = omega (arith, depth);
  shallow_blocks = omega (arith, blocks);
  small_tables = omega (arith, tables);
}
  where
    count : limits.statements model ≡ 2
    count = rw (at_x ℕ limits.stmt_count_step, at_y ℕ limits.stmt_count_step) refl

    depth : limits.depth model ≡ 3
    depth =
        rw (
          at_x ℕ limits.stmt_depth_step,
          at_y ℕ limits.stmt_depth_step,
          at_first ℕ limits.expr_depth_step,
          at_looked_up ℕ
              limits.expr_depth_step,
        ) refl

    blocks : limits.blocks model ≡ 1
    blocks = rw (at_x ℕ limits.stmt_blocks_step, at_y ℕ limits.stmt_blocks_step) refl

    tables : limits.tables model ≡ 16
    tables =
        rw (
          at_x ℕ limits.stmt_tables_step,
          at_y ℕ limits.stmt_tables_step,
          at_first ℕ limits.expr_tables_step,
          at_looked_up ℕ limits.expr_tables_step,
        )
        refl
