-- Turns of a loop: in which states they begin, and that in each of them, whatever the ones before have written, the context at
-- the start of the loop's block fits. The context before the block, after the loop's bounds, is c in all turns.
use Rattle.std.specs.Prelude.{◌≡◌, ◌≢◌, ℕ, ◌≤◌, true, false, List, [], ◌∷◌, ◌++◌, length, take, slice_get, Some, None}
use Rattle.std.specs.Prelude.{if◌then◌else◌}
use Rattle.rup_base.specs.declared.arg.Arg.TheVariants as arg
use Rattle.rv_memory.specs.Ranges.{Bytes}
use Rattle.side_certs.specs.LinearForm.{symbol}
use Rattle.model_syntax.specs.declared.expr.Scalar.TheVariants.{Word}
use Rattle.model_syntax.specs.Environment.{Env, value_of, put, carry}
use Rattle.model_syntax.specs.Names.{Name, listed}
use Rattle.sym_heap.specs.declared.parts.Held.{Held}
use Rattle.sym_heap.specs.declared.parts.Clause.{Clause}
use Rattle.sym_heap.specs.Context.{Context, scalar, own, is_free, held, top_of, with_top, with_scalar, back_to}
use Rattle.sym_heap.specs.Ends.{standing, with_ends}
use Rattle.sym_heap.specs.Fits.{Call, Locals, IsConsistent, FitsBy, FitsOn, Agree}
use Rattle.sym_heap.specs.Moves.{Follow, local_of}
use Rattle.sym_heap.specs.Settle.{FitsRest, among, settle, AllStood}

-- Contexts.

-- further reserved locals
abbrev pub reserving : List ℕ → Context → Context
reserving ls c = record c { reserved = c.reserved ++ ls }

-- the loop's name has a fresh symbol, in the local of the count
abbrev pub with_count : Name → ℕ → Context → Context
with_count x li c = with_scalar (held x li (symbol (length c.tops)) Word) (with_top (top_of Word) c)

-- the locals of the scalars that are not listed
abbrev pub unlisted_locals : List Name → List Held → List ℕ
unlisted_locals names [] = []
unlisted_locals names (h ∷ hs) = if listed h.name names then unlisted_locals names hs else h.local ∷ unlisted_locals names hs

-- the context at the start of the block, but for the facts that are added there: each listed scalar has a fresh symbol in its
-- local, and then the loop's name in the local of the count; reserved are the locals of the scalars that are not listed, and the
-- two of the loop
abbrev pub block_start : List Name → Name → ℕ → ℕ → Context → Context
block_start names x li lh c = reserving (unlisted_locals names c.scalars ++ li ∷ lh ∷ []) (with_count x li (settle names c c))

-- the context after the loop, but for the facts that are added there: listed scalars have fresh symbols, and the clauses the
-- writes of the end of the block
abbrev pub after_loop : List Name → Context → Context → Context
after_loop names end_ c = settle names c (with_ends names (standing end_) (standing end_) (back_to c end_))

-- States.

-- A turn begins in a state in which the context before the block is true, with the same numbers of symbols in every turn, but
-- that the listed scalars may have any numbers of their types; each has its own in its local. The arrays hold what the turns
-- before have left in them.
pub record TurnBegins (names : List Name) (call : Call) (numbers : ℕ → ℕ) (c : Context) (env : Env) (mem : Bytes)
    (locals : Locals) : Type 0 where
  pub consistent : IsConsistent c
  pub fits : FitsRest (among names) call numbers c env mem locals
  pub stood : AllStood names c c env locals

-- what the conditions at the end of the block say of its context
pub record EndsLike (names : List Name) (c end_ : Context) : Type 0 where
  -- each listed scalar stands in the local that it had before the loop, and is of its type
  pub places : (y : Name) → listed y names ≡ true → local_of (scalar end_ y) ≡ local_of (scalar c y)
  pub kinds : (y : Name) (h l : Held) → listed y names ≡ true → scalar c y ≡ Some h → scalar end_ y ≡ Some l → l.kind ≡ h.kind
  -- each clause has the name that it had before, and its writes too unless its name is listed
  pub follow : Follow c.clauses end_.clauses
  pub named : (i : ℕ) (k l : Clause) → slice_get c.clauses i ≡ Some k → slice_get end_.clauses i ≡ Some l → l.name ≡ k.name
  pub counted : (i : ℕ) (k l : Clause) → slice_get c.clauses i ≡ Some k → slice_get end_.clauses i ≡ Some l
      → listed k.name names ≡ false → l.writes ≡ k.writes

-- what a block leaves of the state in which the turn began
pub record TurnLeaves (names : List Name) (c end_ : Context) (env end_env : Env) (locals end_locals : Locals) : Type 0 where
  -- an array with as many writes as before has its value
  pub unwritten : (i : ℕ) (k l : Clause) → slice_get c.clauses i ≡ Some k → slice_get end_.clauses i ≡ Some l
      → l.writes ≡ k.writes → value_of end_env l.name ≡ value_of env k.name
  -- the locals of scalars that are not listed, which were reserved, are as before
  pub locals_kept : (x : Name) (h : Held) → scalar c x ≡ Some h → listed x names ≡ false → end_locals h.local ≡ locals h.local

-- only this local was set
abbrev pub IsSet : ℕ → Locals → Locals → Type 0
IsSet l before after = (j : ℕ) → j ≢ l → after j ≡ before j

pub record TurnsFit : Type 0 where
  -- the first turn begins where a state fits
  pub first : (names : List Name) (call : Call) (numbers : ℕ → ℕ) (c : Context) (env : Env) (mem : Bytes) (locals : Locals)
      → FitsBy call numbers c env mem locals → TurnBegins names call numbers c env mem locals
  -- a free local, as the count's and the last's, may be set
  pub counts : (names : List Name) (call : Call) (numbers : ℕ → ℕ) (c : Context) (env : Env) (mem : Bytes) (l : ℕ)
      (locals after : Locals) → TurnBegins names call numbers c env mem locals → is_free c l None ≡ true → IsSet l locals after
      → TurnBegins names call numbers c env mem after
  -- where a turn begins the start of the block fits, the count being the number of the loop's name
  pub starts : (names : List Name) (x : Name) (li lh n : ℕ) (call : Call) (numbers : ℕ → ℕ) (c : Context) (env : Env)
      (mem : Bytes) (locals : Locals) → TurnBegins names call numbers c env mem locals
      → is_free c li None ≡ true → own c x ≡ None → n ≤ 4294967295 → locals li ≡ Some n
      → FitsOn call (length c.tops) numbers (block_start names x li lh c) (put x (arg.Word n) env) mem locals
  -- where a turn ends, in a state that fits the end of the block by whichever numbers, the next one begins
  pub ends : (names : List Name) (call : Call) (numbers others : ℕ → ℕ) (c end_ : Context) (env end_env : Env)
      (mem end_mem : Bytes) (locals end_locals : Locals) → TurnBegins names call numbers c env mem locals
      → FitsBy call others end_ end_env end_mem end_locals → Agree (length c.tops) numbers others
      → EndsLike names c end_ → TurnLeaves names c end_ env end_env locals end_locals
      → TurnBegins names call numbers c (carry names end_env env) end_mem end_locals
  -- the three together: after a turn and the next count the start of the block fits again, whatever the turn has written
  pub again : (names : List Name) (x : Name) (li lh n : ℕ) (call : Call) (numbers others : ℕ → ℕ) (c end_ : Context)
      (env end_env : Env) (mem end_mem : Bytes) (locals end_locals after : Locals)
      → TurnBegins names call numbers c env mem locals
      → FitsBy call others end_ end_env end_mem end_locals → Agree (length c.tops) numbers others
      → EndsLike names c end_ → TurnLeaves names c end_ env end_env locals end_locals
      → is_free c li None ≡ true → own c x ≡ None → IsSet li end_locals after → n ≤ 4294967295 → after li ≡ Some n
      → FitsOn call (length c.tops) numbers (block_start names x li lh c) (put x (arg.Word n) (carry names end_env env))
      end_mem after
  -- after the last turn, or none, the context after the loop fits
  pub leaves : (names : List Name) (call : Call) (numbers : ℕ → ℕ) (c end_ : Context) (env : Env) (mem : Bytes)
      (locals : Locals) → TurnBegins names call numbers c env mem locals → EndsLike names c end_ → IsConsistent end_
      → take (length c.tops) end_.tops ≡ c.tops → end_.entries ≡ c.entries
      → FitsOn call (length c.tops) numbers (after_loop names end_ c) env mem locals
