-- How a side of a conditional begins: the facts of the flag are added,
-- and the locals of scalars that are not listed are reserved.
use Rattle.std.proofs.Common.{◌≡◌, refl, sym, ap, subst, ℕ, zero, suc, Bool, true, false, nat_eq, List, [], ◌∷◌, ◌++◌}
use Rattle.std.proofs.Common.{append_assoc, length}
use Rattle.std.proofs.lemmas.List.{append-nil}
use Rattle.rv_memory.specs.Ranges.{Bytes}
use Rattle.side_certs.specs.LinearForm.{LinearForm}
use Rattle.model_syntax.specs.declared.program.Param.{Param}
use Rattle.model_syntax.specs.Environment.{Env}
use Rattle.model_syntax.specs.Names.{Name}
use Rattle.model_syntax.specs.Scope.{Scope}
use Rattle.sym_heap.specs.Context.{Context, has, has_room, with_fact}
use Rattle.sym_heap.specs.Fits.{Call, Locals, IsConsistent, FitsBy}
use Rattle.sym_heap.specs.Moves.{Moves, Began}
use Rattle.sym_heap.specs.Scoped.{IsScoped}
use Rattle.sym_heap.specs.Start.{with_facts}
use Rattle.sym_heap.specs.Turns.{reserving, unlisted_locals}
use Rattle.sym_heap.proofs.laws.Extending.{consistent_fact, fits_fact}
use Rattle.sym_heap.proofs.laws.Moves.{take_front, take_on}
use Rattle.sym_heap.proofs.laws.Turns.{reserving_fits}
use Rattle.expr_rules.specs.Sound.{AllKnown, AllHold, Yields}
use Rattle.expr_rules.specs.Words.{◌>>=◌, added}
use Rattle.expr_rules.proofs.laws.Yields.{yields_then}
use Rattle.stmt_rules.specs.Nesting.{all_added, unlisted_reserved}
use Rattle.stmt_rules.specs.rules.If.{begins}

-- the context in which a side begins
abbrev pub begun : List Name → List LinearForm → Context → Context
begun names facts c = reserving (unlisted_locals names c.scalars) (with_facts facts c)

all_added_are : (at : ℕ) (fs : List LinearForm) (c : Context) → Yields (λ _ d. d ≡ with_facts fs c) (all_added at fs c)
all_added_are at [] c = ap (λ (r : List LinearForm). record c { facts = r }) (sym (append-nil c.facts))
all_added_are at (f ∷ fs) c = by (has_room c) refl (all_added_are at fs (with_fact f c)) where
  one_more : with_facts fs (with_fact f c) ≡ with_facts (f ∷ fs) c
  one_more = ap (λ (r : List LinearForm). record c { facts = r }) (append_assoc c.facts (f ∷ []) fs)

  by : (b : Bool) → has_room c ≡ b → Yields (λ _ d. d ≡ with_facts fs (with_fact f c)) (all_added at fs (with_fact f c))
      → Yields (λ _ d. d ≡ with_facts (f ∷ fs) c) ((added at f >>= (λ _. all_added at fs)) c)
  by true e more = rw e (subst (λ (z : Context). Yields (λ _ d. d ≡ z) (all_added at fs (with_fact f c))) one_more more)
  by false e more = rw e tt

-- a form that is known, or holds, of a list of them
first_known : (n : ℕ) (f : LinearForm) (fs : List LinearForm) → AllKnown n (f ∷ fs) → AllKnown n fs
first_known n f fs known i g at = known (suc i) g at

pub facts_consistent : (fs : List LinearForm) (c : Context) → AllKnown (length c.tops) fs → IsConsistent c
    → IsConsistent (with_facts fs c)
facts_consistent [] c known s =
    subst IsConsistent (ap (λ (r : List LinearForm). record c { facts = r }) (sym (append-nil c.facts))) s
facts_consistent (f ∷ fs) c known s =
    subst IsConsistent (ap (λ (r : List LinearForm). record c { facts = r }) (append_assoc c.facts (f ∷ []) fs))
    (facts_consistent fs (with_fact f c) (first_known (length c.tops) f fs known) (consistent_fact c f (known zero f refl) s))

pub facts_fit : (call : Call) (v : ℕ → ℕ) (env : Env) (mem : Bytes) (locals : Locals) (fs : List LinearForm) (c : Context)
    → AllKnown (length c.tops) fs → AllHold v fs → FitsBy call v c env mem locals → FitsBy call v (with_facts fs c) env mem locals
facts_fit call v env mem locals [] c known hold fits =
    subst (λ (d : Context). FitsBy call v d env mem locals)
    (ap (λ (r : List LinearForm). record c { facts = r }) (sym (append-nil c.facts))) fits
facts_fit call v env mem locals (f ∷ fs) c known hold fits =
    subst (λ (d : Context). FitsBy call v d env mem locals)
    (ap (λ (r : List LinearForm). record c { facts = r }) (append_assoc c.facts (f ∷ []) fs))
    (facts_fit call v env mem locals fs (with_fact f c) (first_known (length c.tops) f fs known) (λ i g at. hold (suc i) g at)
    (fits_fact call v c f env mem locals (known zero f refl) (hold zero f refl) fits))

-- a state that fits after the test fits where a side begins whose facts hold
pub begun_fits : (call : Call) (v : ℕ → ℕ) (env : Env) (mem : Bytes) (locals : Locals) (names : List Name) (fs : List LinearForm)
    (c : Context)
    → AllKnown (length c.tops) fs → AllHold v fs → FitsBy call v c env mem locals
    → FitsBy call v (begun names fs c) env mem locals
begun_fits call v env mem locals names fs c known hold fits =
    reserving_fits call v (with_facts fs c) (unlisted_locals names c.scalars) env mem locals
    (facts_fit call v env mem locals fs c known hold fits)

-- a scope counts for scalars, clauses and entries alone
pub begun_scoped : (ps : List Param) (scope : Scope) (names : List Name) (fs : List LinearForm) (c : Context)
    → IsScoped ps scope c → IsScoped ps scope (begun names fs c)
begun_scoped ps scope names fs c s = record {
  scalars = s.scalars;
  every_scalar = s.every_scalar;
  clauses = s.clauses;
  scalars_once = s.scalars_once;
  clauses_once = s.clauses_once;
  entries = s.entries;
  few = s.few;
}

pub facts_scoped : (ps : List Param) (scope : Scope) (fs : List LinearForm) (c : Context) → IsScoped ps scope c
    → IsScoped ps scope (with_facts fs c)
facts_scoped ps scope fs c s = record {
  scalars = s.scalars;
  every_scalar = s.every_scalar;
  clauses = s.clauses;
  scalars_once = s.scalars_once;
  clauses_once = s.clauses_once;
  entries = s.entries;
  few = s.few;
}

-- what the start of a side gives
pub begins_are : (at : ℕ) (names : List Name) (fs : List LinearForm) (c : Context)
    → Yields (λ _ d. d ≡ begun names fs c) (begins at names fs c.scalars c)
begins_are at names fs c =
    yields_then (λ _ d. d ≡ begun names fs c) c (λ _ d. d ≡ with_facts fs c) (all_added at fs)
    (λ _. unlisted_reserved names c.scalars) (all_added_are at fs c)
    (λ u d is. ap (λ (z : Context). reserving (unlisted_locals names c.scalars) z) is)

-- locals that are reserved stay so with further ones
pub more_reserved : (l : ℕ) (ns ms : List ℕ) → has l ns ≡ true → has l (ns ++ ms) ≡ true
more_reserved l [] ms is = absurd (let bad : false ≡ true = is in cc)
more_reserved l (n ∷ ns) ms is = by (nat_eq n l) refl (λ rest. more_reserved l ns ms rest) where
  by : (b : Bool) → nat_eq n l ≡ b → (has l ns ≡ true → has l (ns ++ ms) ≡ true) → has l (n ∷ (ns ++ ms)) ≡ true
  by true e more = rw e refl
  by false e more = rw e (more (rw e at is))

pub begun_consistent : (names : List Name) (fs : List LinearForm) (c : Context) → AllKnown (length c.tops) fs → IsConsistent c
    → IsConsistent (begun names fs c)
begun_consistent names fs c known good = record {
  entries_known = s.entries_known;
  scalars_known = s.scalars_known;
  lengths_known = s.lengths_known;
  facts_known = s.facts_known;
  scalars_apart = s.scalars_apart;
  clauses_apart = s.clauses_apart;
  pointers_reserved = λ i k at. more_reserved k.pointer c.reserved (unlisted_locals names c.scalars) (s.pointers_reserved i k at);
  lengths_reserved = λ i k l at is. more_reserved l c.reserved (unlisted_locals names c.scalars) (s.lengths_reserved i k l at is);
} where
  s : IsConsistent (with_facts fs c)
  s = facts_consistent fs c known good

-- what a block makes of its start is the beginning of the way back
pub started : (names : List Name) (fs : List LinearForm) (mid end_ : Context) → Moves (begun names fs mid) end_ → Began mid end_
started names fs mid end_ m = record {
  reserved = rw m.reserved (take_front mid.reserved (unlisted_locals names mid.scalars));
  facts = take_on mid.facts (mid.facts ++ fs) end_.facts (take_front mid.facts fs) m.facts;
  tops = m.tops;
  entries = m.entries;
}
