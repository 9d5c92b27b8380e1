-- How many and how large the commands are that a block gives.
use Rattle.std.specs.Prelude.{◌≡◌, ℕ, ◌-◌, ◌*◌, ◌≤◌, true, List, length, map, sum}
use Rattle.rup_base.specs.Gather.{all_true, joined}
use Rattle.model_syntax.specs.declared.stmt.Stmt.{Stmt}
use Rattle.model_syntax.specs.Limits.{stmt_tables}
use Rattle.model_syntax.specs.Spelling.{stmt_spellable}
use Rattle.sym_heap.specs.Context.{Context}
use Rattle.equations.specs.Book.{Turn, Laws}
use Rattle.deriv_tree.specs.Measure.{block_size}
use Rattle.deriv_tree.specs.declared.tree.Block.{Block}
use Rattle.bed_syntax.specs.Shape.{cmd_size}
use Rattle.bed_syntax.specs.Tables.{cmd_tables}
use Rattle.expr_rules.specs.Sound.{Yields}
use Rattle.stmt_rules.specs.declared.output.StmtOut.{StmtOut}
use Rattle.stmt_rules.specs.Loops.{are_entries}
use Rattle.stmt_rules.specs.Row.{block_judged}

-- a block of nodes for these statements gives few commands, with no more table bytes than the statements, and trip forms over so
-- many entry symbols, with no negative number
pub record AreSmall (block : Block) (ts : List Stmt) (count : ℕ) (out : StmtOut) : Type 0 where
  pub size : sum (map cmd_size out.cmds) ≤ 20 * block_size block
  pub tables : length (joined (map cmd_tables out.cmds)) ≤ block_size block - 1
  pub table_bytes : sum (map length (joined (map cmd_tables out.cmds))) ≤ sum (map stmt_tables ts)
  pub entries : are_entries count out.trips ≡ true

abbrev pub CommandsAreSmall : Type 0
CommandsAreSmall =
    (turn : Turn) → Laws turn → (block : Block) (at owner cond : ℕ) (ts : List Stmt) (before : Context)
    → all_true (map stmt_spellable ts) ≡ true
    → Yields (λ out after. AreSmall block ts before.entries out) ((block_judged turn block).row at owner cond ts before)
