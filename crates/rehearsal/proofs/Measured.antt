-- The numbers beside the command are its own, and it passes no limit.
use Rattle.std.proofs.Common.{◌≡◌, refl, arith, ℕ, List, [], ◌∷◌}
use Rattle.bed_syntax.specs.Shape.{expr_size_step, cmd_size, cmd_size_step, expr_depth_step, cmd_depth_step, expr_locals_step}
use Rattle.bed_syntax.specs.Shape.{cmd_locals, cmd_locals_step, noted}
use Rattle.bed_syntax.specs.Tables.{expr_tables_step, cmd_tables, cmd_tables_step}
use Rattle.bed_syntax.specs.Weight.{expr_weight, expr_weight_step, cmd_weight_step}
use Rattle.bed_syntax.specs.declared.weights.Weights.{Weights}
use Rattle.bed_syntax.specs.declared.weights.TheConstants as weights
use Rattle.model_command.specs.Measures.{IsMeasured, IsSmall}
use Rattle.rehearsal.specs.Example.{model, table, byte_read, entry, body, command}
use Rattle.rehearsal.proofs.Nodes.{at_byte, at_entry, at_body}

abbrev pub w : Weights
w = weights.Weights.LARGE

pub byte_weight : expr_weight w byte_read ≡ 5
byte_weight = at_byte ℕ (expr_weight_step w)

pub entry_weight : expr_weight w entry ≡ 27
entry_weight = at_entry ℕ (expr_weight_step w)

pub locals_from : (xs : List ℕ) → cmd_locals body xs ≡ noted 6 (noted 0 (noted 3 (noted 0 xs)))
locals_from xs =
    rw (
      at_body (List ℕ → List ℕ) cmd_locals_step,
      at_entry (List ℕ → List ℕ) expr_locals_step,
      at_byte (List ℕ → List ℕ)
          expr_locals_step,
    ) refl

pub measured : IsMeasured w model command
measured = record {
  args = refl;
  weight = rw (at_body ℕ (cmd_weight_step w), byte_weight, entry_weight) refl;
  locals = rw (locals_from (0 ∷ 1 ∷ [])) refl;
  depth = rw (at_body ℕ cmd_depth_step, at_entry ℕ expr_depth_step, at_byte ℕ expr_depth_step) refl;
  symbols = (omega arith, omega arith, omega arith, omega arith, tt);
}

pub small : IsSmall command
small = record {
  size = omega (arith, nodes);
  tables = rw tables (omega arith);
  table_bytes = rw tables (omega arith);
  few_args = omega arith;
  few_rets = omega arith;
  slots = omega arith;
  light = omega arith;
}
  where
    nodes : cmd_size body ≡ 12
    nodes = rw (at_body ℕ cmd_size_step, at_entry ℕ expr_size_step, at_byte ℕ expr_size_step) refl

    tables : cmd_tables body ≡ table ∷ []
    tables = rw (
      at_body (List (List ℕ)) cmd_tables_step,
      at_entry (List (List ℕ)) expr_tables_step,
      at_byte (List (List ℕ))
          expr_tables_step,
    ) refl
