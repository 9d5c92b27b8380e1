-- A side of a conditional: its block is right from where it began, the
-- conditions at its end hold, and the context goes back to what
-- it was but for symbols.
use Rattle.std.proofs.Common.{◌≡◌, refl, sym, ◌∙◌, ap, subst, ℕ, Bool, true, false, List, length, map, Ok}
use Rattle.rup_base.specs.Gather.{all_true}
use Rattle.side_certs.specs.LinearForm.{LinearForm}
use Rattle.side_certs.specs.Closes.{Holds}
use Rattle.side_certs.specs.declared.certificate.Cert.{Cert}
use Rattle.model_syntax.specs.declared.program.Param.{Param}
use Rattle.model_syntax.specs.declared.stmt.Le.{Le}
use Rattle.model_syntax.specs.declared.stmt.Stmt.{Stmt}
use Rattle.model_syntax.specs.Formed.{stmt_formed}
use Rattle.model_syntax.specs.Names.{Name}
use Rattle.model_syntax.specs.Scope.{Scope}
use Rattle.model_syntax.specs.Spelling.{stmt_spellable}
use Rattle.model_syntax.specs.Types as types
use Rattle.model_syntax.specs.Value.{Turn, run, in_turn}
use Rattle.sym_heap.specs.Context.{Context, back_to}
use Rattle.sym_heap.specs.Ends.{Standing, standing, restored}
use Rattle.sym_heap.specs.Fits.{IsConsistent}
use Rattle.sym_heap.specs.Scoped.{IsScoped}
use Rattle.sym_heap.proofs.laws.Moves.{restored_moves}
use Rattle.expr_rules.specs.Sound.{AllKnown, AllHold, Yields}
use Rattle.expr_rules.specs.Words.{Rule, ◌>>=◌, give}
use Rattle.expr_rules.proofs.laws.Yields.{yields_then}
use Rattle.stmt_rules.specs.declared.output.StmtOut.{StmtOut}
use Rattle.stmt_rules.specs.Nesting.{end_form, unlisted_kept, ended}
use Rattle.stmt_rules.specs.Sound.{StmtDone, AreSound}
use Rattle.stmt_rules.specs.rules.If.{Side, begins, facts_shown, ends, side}
use Rattle.stmt_rules.proofs.sound.Begun.{begun, begins_are, begun_consistent, begun_scoped, started}
use Rattle.stmt_rules.proofs.sound.Joined.{forms_of, Shown, all_shown_hold}

-- what stands at an end that met its conditions
pub record HasEnded (names : List Name) (keep : List Le) (before : Standing) (end_ : Context) (s : Standing) (after : Context) :
    Type 0 where
  pub stood : s ≡ standing end_
  pub after_is : after ≡ restored before end_
  pub kept : unlisted_kept names before.clauses end_.clauses ≡ true
  pub hold : (v : ℕ → ℕ) → Holds v end_.facts end_.tops → AllHold v (forms_of (end_form names end_.scalars before.scalars) keep)

pub ends_yield : (at place : ℕ) (names : List Name) (keep : List Le) (certs : List Cert) (before : Standing) (e : Context)
    → Yields (HasEnded names keep before e) (ends at names keep place certs before e)
ends_yield at place names keep certs before e = by (unlisted_kept names before.clauses e.clauses) refl where
  facts : unlisted_kept names before.clauses e.clauses ≡ true
      → Yields (HasEnded names keep before e) ((facts_shown at names keep place certs before >>= (λ _. ended before)) e)
  facts kept =
      yields_then (HasEnded names keep before e) e (Shown e (forms_of (end_form names e.scalars before.scalars) keep))
      (facts_shown at names keep place certs before) (λ _. ended before)
      (all_shown_hold at place certs (end_form names e.scalars before.scalars) keep e)
      (λ u d shown. record { stood = ap standing shown.0; after_is = ap (restored before) shown.0; kept = kept; hold = shown.1 })

  by : (b : Bool) → unlisted_kept names before.clauses e.clauses ≡ b
      → Yields (HasEnded names keep before e) (ends at names keep place certs before e)
  by true is = rw is (facts is)
  by false is = rw is tt

-- a side that was taken from the context mid on
pub record SideDone (ps : List Param) (scope end_scope : Scope) (sem : Turn) (names : List Name) (keep : List Le)
    (facts : List LinearForm) (mid : Context) (r : Side) (after : Context) : Type 0 where
  pub end_ : Context
  pub stood : r.1 ≡ standing end_
  pub after_is : after ≡ back_to mid end_
  pub done : StmtDone ps scope end_scope sem (begun names facts mid) r.0 end_
  pub kept : unlisted_kept names mid.clauses end_.clauses ≡ true
  pub hold : (v : ℕ → ℕ) → Holds v end_.facts end_.tops → AllHold v (forms_of (end_form names end_.scalars mid.scalars) keep)

pub side_yields : (ps : List Param) (scope : Scope) (k : ℕ) (after : types.State) (at place : ℕ) (names : List Name)
    (keep : List Le) (certs : List Cert) (facts : List LinearForm)
    (ts : List Stmt) (block : Rule StmtOut) (mid : Context)
    → AreSound ts block → IsConsistent mid → IsScoped ps scope mid → AllKnown (length mid.tops) facts
    → all_true (map stmt_formed ts) ≡ true → all_true (map stmt_spellable ts) ≡ true
    → types.in_turn (map types.stmt ts) (k, scope) ≡ Ok after
    → Yields (SideDone ps scope after.1 (in_turn (map run ts)) names keep facts mid)
    (side at names keep place certs facts block mid)
side_yields ps scope k after at place names keep certs facts ts block mid sound good scoped known formed spelled typed =
    yields_then Q mid (λ _ d. d ≡ begun names facts mid) (begins at names facts mid.scalars) (λ _. block >>= ending)
    (begins_are at names facts mid)
    (λ u d is. subst (λ (z : Context). Yields Q ((block >>= ending) z)) (sym is)
    (yields_then Q (begun names facts mid) (StmtDone ps scope after.1 (in_turn (map run ts)) (begun names facts mid)) block ending
    (sound ps scope k after (begun names facts mid) (begun_consistent names facts mid known good)
    (begun_scoped ps scope names facts mid scoped) formed spelled typed)
    (λ out e done. yields_then Q e (HasEnded names keep (standing mid) e) (ends at names keep place certs (standing mid))
    (λ s. give (out, s))
    (ends_yield at place names keep certs (standing mid) e)
    (λ s f has_ended. record {
      end_ = e;
      stood = has_ended.stood;
      after_is = has_ended.after_is ∙ (restored_moves mid e (started names facts mid e done.moves)).0;
      done = done;
      kept = has_ended.kept;
      hold = has_ended.hold;
    }))))
  where
    Q : Side → Context → Type 0
    Q = SideDone ps scope after.1 (in_turn (map run ts)) names keep facts mid

    ending : StmtOut → Rule Side
    ending out = ends at names keep place certs (standing mid) >>= (λ s. give (out, s))
