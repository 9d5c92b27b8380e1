-- When what statements give is right: from each state that fits the context before and has room for the locals that the commands
-- set, they run to a state that fits the context after at the values after, within their bound. What is said of contexts alone
-- holds whether or not any state fits.
use Rattle.std.specs.Prelude.{◌≡◌, ℕ, ◌≤◌, true, false, List, ◌++◌, length, map, Some, Ok, slice_get}
use Rattle.rup_base.specs.Gather.{all_true}
use Rattle.std.specs.FinMap.{get}
use Rattle.rv_memory.specs.Ranges.{Bytes, Within}
use Rattle.side_certs.specs.LinearForm.{LinearForm}
use Rattle.model_syntax.specs.declared.program.Param.{Param}
use Rattle.model_syntax.specs.Environment.{Env, value_of}
use Rattle.model_syntax.specs.declared.stmt.Stmt.{Stmt}
use Rattle.model_syntax.specs.Formed.{stmt_formed}
use Rattle.model_syntax.specs.Names.{Name}
use Rattle.model_syntax.specs.Scope.{Scope}
use Rattle.model_syntax.specs.Sound.{IsTyped}
use Rattle.model_syntax.specs.Spelling.{stmt_spellable}
use Rattle.model_syntax.specs.Types as types
use Rattle.model_syntax.specs.Value.{run, in_turn}
use Rattle.sym_heap.specs.declared.parts.Clause.{Clause}
use Rattle.sym_heap.specs.Context.{Context}
use Rattle.sym_heap.specs.Fits.{Call, IsConsistent, FitsBy, Agree, ReservedKept, range_of}
use Rattle.sym_heap.specs.Moves.{Moves}
use Rattle.sym_heap.specs.Scoped.{IsScoped}
use Rattle.bed_syntax.specs.declared.weights.Weights.{Weights}
use Rattle.bed_meaning.specs.Locals.{Vars, local_at}
use Rattle.bed_meaning.specs.Runs.{All, Runs}
use Rattle.expr_rules.specs.Sound.{Yields}
use Rattle.expr_rules.specs.Words.{Rule}
use Rattle.stmt_rules.specs.declared.output.StmtOut.{StmtOut}
use Rattle.equations.specs.Book.{Turn, Laws}
use Rattle.deriv_tree.specs.declared.tree.StmtNode.{StmtNode}
use Rattle.deriv_tree.specs.declared.tree.Block.{Block}
use Rattle.stmt_rules.specs.Row.{judged, block_judged, handed}
use Rattle.stmt_rules.specs.Bound.{cost_all, all_below}

-- an array that was not written to holds the same list
abbrev pub UnwrittenKept : List Clause → List Clause → Env → Env → Type 0
UnwrittenKept before after env after_env =
    (i : ℕ) (k l : Clause) → slice_get before i ≡ Some k → slice_get after i ≡ Some l → l.writes ≡ k.writes
    → value_of after_env l.name ≡ value_of env k.name

-- the address is in no array's range
abbrev pub IsOutside : Call → List Clause → ℕ → Type 0
IsOutside call ks address = (i : ℕ) (k : Clause) → slice_get ks i ≡ Some k → Within (range_of call k.param) address → ⊥

pub record StmtRan (w : Weights) (call : Call) (sem : Env → Env) (before : Context) (out : StmtOut) (after : Context)
    (numbers : ℕ → ℕ) (env : Env) (mem : Bytes) (vars : Vars) : Type 0 where
  -- each symbol of the context before has the number that it had
  pub others : ℕ → ℕ
  pub agree : Agree (length before.tops) numbers others
  pub left_mem : Bytes
  pub left : Vars
  pub ticks : ℕ
  pub runs : Runs w (All out.cmds) mem vars left_mem left ticks
  pub fits : FitsBy call others after (sem env) left_mem (local_at left)
  pub kept : ReservedKept before (local_at vars) (local_at left)
  pub unwritten : UnwrittenKept before.clauses after.clauses env (sem env)
  pub outside : (address : ℕ) → IsOutside call before.clauses address → get left_mem address ≡ get mem address
  pub time : ticks ≤ (cost_all w call out.cmds out.trips).0

pub record StmtDone (ps : List Param) (scope end_scope : Scope) (sem : Env → Env) (before : Context) (out : StmtOut)
    (after : Context) : Type 0 where
  pub moves : Moves before after
  pub consistent : IsConsistent after
  pub scoped : IsScoped ps end_scope after
  -- names keep values of their types
  pub typed : (lengths : Name → ℕ) (env : Env) → IsTyped lengths scope env → IsTyped lengths end_scope (sem env)
  -- the commands have as many loops as there are trip forms
  pub trips : (w : Weights) (call : Call) (rest : List LinearForm)
      → cost_all w call out.cmds (out.trips ++ rest) ≡ ((cost_all w call out.cmds out.trips).0, rest)
  -- where the names in scope have values of their types
  pub runs : (lengths : Name → ℕ) (w : Weights) (call : Call) (numbers : ℕ → ℕ) (env : Env) (mem : Bytes) (vars : Vars)
      → IsTyped lengths scope env
      → FitsBy call numbers before env mem (local_at vars) → all_below (length vars) out.cmds ≡ true
      → StmtRan w call sem before out after numbers env mem vars

-- a rule for a statement is sound in every context that says of names what a scope does in which the statement is formed,
-- spellable and well typed
abbrev pub IsSoundFor : Stmt → Rule StmtOut → Type 0
IsSoundFor t rule =
    (ps : List Param) (scope : Scope) (k : ℕ) (after : types.State) (before : Context) → IsConsistent before
    → IsScoped ps scope before
    → stmt_formed t ≡ true → stmt_spellable t ≡ true → types.stmt t (k, scope) ≡ Ok after
    → Yields (StmtDone ps scope after.1 (run t) before) (rule before)

-- a note is sound in every context
abbrev pub IsSoundNote : Rule StmtOut → Type 0
IsSoundNote rule =
    (ps : List Param) (scope : Scope) (before : Context) → IsConsistent before → IsScoped ps scope before
    → Yields (StmtDone ps scope scope (λ env. env) before) (rule before)

-- the rows of statements one after another
abbrev pub AreSound : List Stmt → Rule StmtOut → Type 0
AreSound ts rule =
    (ps : List Param) (scope : Scope) (k : ℕ) (after : types.State) (before : Context) → IsConsistent before
    → IsScoped ps scope before
    → all_true (map stmt_formed ts) ≡ true → all_true (map stmt_spellable ts) ≡ true
    → types.in_turn (map types.stmt ts) (k, scope) ≡ Ok after
    → Yields (StmtDone ps scope after.1 (in_turn (map run ts)) before) (rule before)

-- with the equations of every book, whatever the derivation of a block gives is right
abbrev pub BlocksAreSound : Type 0
BlocksAreSound = (turn : Turn) → Laws turn → (block : Block) (at owner cond : ℕ) (ts : List Stmt)
    → AreSound ts ((block_judged turn block).row at owner cond ts)

-- so is what a node gives that is handed over with a statement: a note for no statement, else for this one
abbrev pub StatementsAreSound : Type 0
StatementsAreSound =
    (turn : Turn) → Laws turn → (node : StmtNode) (at : ℕ) (t : Stmt)
    → ((judged turn node).is_note ≡ true → IsSoundNote (handed (judged turn node) at t))
    × ((judged turn node).is_note ≡ false → IsSoundFor t (handed (judged turn node) at t))
