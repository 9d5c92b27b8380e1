-- The nodes of a block in order are sound where each of them is.
use Rattle.std.proofs.Common.{◌≡◌, refl, sym, ◌∙◌, ap, subst, arith, ℕ, ◌+◌, Bool, true, false, List, [], ◌∷◌, map, Some, Ok}
use Rattle.rup_base.specs.Gather.{all_true}
use Rattle.model_syntax.specs.declared.program.Param.{Param}
use Rattle.model_syntax.specs.declared.stmt.Stmt.{Stmt}
use Rattle.model_syntax.specs.Environment.{Env, value_of}
use Rattle.model_syntax.specs.Formed.{stmt_formed}
use Rattle.model_syntax.specs.Scope.{Scope}
use Rattle.model_syntax.specs.Spelling.{stmt_spellable}
use Rattle.model_syntax.specs.Types as types
use Rattle.model_syntax.specs.Value.{run, in_turn}
use Rattle.model_syntax.proofs.laws.Answered.{first_answered, answer_is}
use Rattle.sym_heap.specs.declared.parts.Clause.{Clause}
use Rattle.sym_heap.specs.Context.{Context}
use Rattle.sym_heap.specs.Fits.{IsConsistent}
use Rattle.sym_heap.specs.Scoped.{IsScoped}
use Rattle.sym_heap.proofs.laws.Moves.{moves_nothing}
use Rattle.bed_meaning.specs.Runs.{done}
use Rattle.expr_rules.specs.Sound.{Yields}
use Rattle.expr_rules.proofs.laws.Yields.{yields_then}
use Rattle.stmt_rules.specs.declared.output.StmtOut.{StmtOut}
use Rattle.stmt_rules.specs.Row.{StmtJudged, walk}
use Rattle.stmt_rules.specs.Sound.{StmtDone, IsSoundFor, IsSoundNote, AreSound}
use Rattle.stmt_rules.specs.Words.{nothing, joined}
use Rattle.stmt_rules.proofs.Sequence.{and_parts, seq_done}

pub record IsSoundNode (n : StmtJudged) : Type 0 where
  pub note : (at : ℕ) → IsSoundNote (n.as_note at)
  pub statement : (at : ℕ) (t : Stmt) → IsSoundFor t (n.row at t)

abbrev pub SoundNodes : List StmtJudged → Type 0
SoundNodes [] = Unit {0}
SoundNodes (n ∷ ns) = IsSoundNode n × SoundNodes ns

-- nothing was done yet
nothing_done : (ps : List Param) (scope : Scope) (c : Context) → IsConsistent c → IsScoped ps scope c
    → StmtDone ps scope scope (λ env. env) c nothing c
nothing_done ps scope c s scoped = record {
  moves = moves_nothing c;
  consistent = s;
  scoped = scoped;
  typed = λ lengths env is. is;
  trips = λ w call rest. refl;
  runs = λ lengths w call numbers env mem vars is fits room. record {
    others = numbers;
    agree = λ n less. refl;
    left_mem = mem;
    left = vars;
    ticks = 0;
    runs = done mem vars;
    fits = fits;
    kept = λ l in_list. refl;
    unwritten = λ i x y at_x at_y writes.
        (let both : Some y ≡ Some x = sym at_y ∙ at_x in let one : y ≡ x = cc in ap (λ (z : Clause). value_of env z.name) one);
    outside = λ address out. refl;
    time = omega arith;
  };
}

module _ (ps : List Param) (owner cond : ℕ) (start : Context) (first : Scope) where
  -- from what the nodes before gave on
  abbrev pub IsWalked : List StmtJudged → Type 0
  IsWalked ns =
      (at : ℕ) (ts : List Stmt) (scope : Scope) (k : ℕ) (end_ : types.State) (f : Env → Env) (out : StmtOut) (c : Context)
      → all_true (map stmt_formed ts) ≡ true → all_true (map stmt_spellable ts) ≡ true
      → types.in_turn (map types.stmt ts) (k, scope) ≡ Ok end_
      → StmtDone ps first scope f start out c
      → Yields (StmtDone ps first end_.1 (λ env. in_turn (map run ts) (f env)) start) (walk owner cond ns at ts out c)

  none_walked : IsWalked []
  none_walked at [] scope k end_ f out c formed spelled typed so_far =
      let is : (k, scope) ≡ end_ = answer_is (k, scope) end_ typed in
      subst (λ (e : types.State). StmtDone ps first e.1 f start out c) is so_far
  none_walked at (t ∷ ts) scope k end_ f out c formed spelled typed so_far = tt

  note_walked : (n : StmtJudged) (ns : List StmtJudged) → IsSoundNode n → IsWalked ns → n.is_note ≡ true → IsWalked (n ∷ ns)
  note_walked n ns sound more e at ts scope k end_ f out c formed spelled typed so_far = rw e
      (yields_then (StmtDone ps first end_.1 (λ env. in_turn (map run ts) (f env)) start) c
      (StmtDone ps scope scope (λ env. env) c) (n.as_note at)
      (λ o. walk owner cond ns (at + n.size) ts (joined out o)) (sound.note at ps scope c so_far.consistent so_far.scoped)
      (λ o d one. more (at + n.size) ts scope k end_ f (joined out o) d formed spelled typed
      (seq_done ps first scope scope f (λ env. env) start c d out o so_far one)))

  statement_walked : (n : StmtJudged) (ns : List StmtJudged) → IsSoundNode n → IsWalked ns → n.is_note ≡ false → IsWalked (n ∷ ns)
  statement_walked n ns sound more e at [] scope k end_ f out c formed spelled typed so_far = rw e tt
  statement_walked n ns sound more e at (t ∷ rest) scope k end_ f out c formed spelled typed so_far =
      let formed_parts = and_parts (stmt_formed t) (all_true (map stmt_formed rest)) formed in
      let spelled_parts = and_parts (stmt_spellable t) (all_true (map stmt_spellable rest)) spelled in
      let typed_parts = first_answered (types.stmt t (k, scope)) (types.in_turn (map types.stmt rest)) end_ typed in
      let mid = typed_parts.0 in
      rw e
      (yields_then (StmtDone ps first end_.1 (λ env. in_turn (map run rest) (run t (f env))) start) c
      (StmtDone ps scope mid.1 (run t) c) (n.row at t)
      (λ o. walk owner cond ns (at + n.size) rest (joined out o))
      (sound.statement at t ps scope k mid c so_far.consistent so_far.scoped formed_parts.0 spelled_parts.0 typed_parts.1.0)
      (λ o d one. more (at + n.size) rest mid.1 mid.0 end_ (λ env. run t (f env)) (joined out o) d formed_parts.1 spelled_parts.1
      typed_parts.1.1
      (seq_done ps first scope mid.1 f (run t) start c d out o so_far one)))

  walked : (ns : List StmtJudged) → SoundNodes ns → IsWalked ns
  walked [] sound = none_walked
  walked (n ∷ ns) sound = by (walked ns sound.1) n.is_note refl where
    by : IsWalked ns → (b : Bool) → n.is_note ≡ b → IsWalked (n ∷ ns)
    by more true e = note_walked n ns sound.0 more e
    by more false e = statement_walked n ns sound.0 more e

-- a block is sound where its nodes are
pub block_sound : (owner cond : ℕ) (ns : List StmtJudged) → SoundNodes ns → (at : ℕ) (ts : List Stmt)
    → AreSound ts (walk owner cond ns at ts nothing)
block_sound owner cond ns sound at ts ps scope k after before s scoped formed spelled typed =
    walked ps owner cond before scope ns sound at ts scope k after (λ env. env) nothing before formed spelled typed
    (nothing_done ps scope before s scoped)
