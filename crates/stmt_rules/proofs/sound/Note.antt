-- s-note is sound.
use Rattle.std.proofs.Common.{◌≡◌, refl, sym, ◌∙◌, ap, subst, arith, ℕ, ◌+◌, Bool, true, false, List, [], ◌∷◌, length, Option}
use Rattle.std.proofs.Common.{Some, None, ℤ, pos, negsuc, nat_le}
use Rattle.std.specs.Ordering.{int_eq}
use Rattle.side_certs.specs.LinearForm.{LinearForm, is_within, rises_from}
use Rattle.side_certs.specs.Closes.{closes}
use Rattle.side_certs.specs.declared.certificate.Cert.{Cert}
use Rattle.side_certs.proofs.laws.Closing.{closed_holds}
use Rattle.side_certs.proofs.laws.Known.{FactsBelow, below_nothing, nothing_below, goal_known}
use Rattle.model_syntax.specs.declared.program.Param.{Param}
use Rattle.model_syntax.specs.Environment.{value_of}
use Rattle.model_syntax.specs.Scope.{Scope}
use Rattle.sym_heap.specs.declared.parts.Clause.{Clause}
use Rattle.sym_heap.specs.Context.{Context, has_room, with_fact}
use Rattle.sym_heap.specs.Fits.{IsConsistent, Known}
use Rattle.sym_heap.specs.Scoped.{IsScoped}
use Rattle.sym_heap.proofs.laws.Extending.{below_known, consistent_fact, fits_fact}
use Rattle.sym_heap.proofs.laws.Moves.{fact_moves}
use Rattle.sym_heap.proofs.laws.Scopes.{fact_scoped}
use Rattle.sym_heap.proofs.laws.States.{known_below}
use Rattle.bed_meaning.specs.Locals.{local_at}
use Rattle.bed_meaning.specs.Runs.{done}
use Rattle.stmt_rules.specs.Words.{nothing, term_before, pairs, flat, most_symbol}
use Rattle.expr_rules.specs.Sound.{Yields}
use Rattle.expr_rules.specs.Words.{◌>>=◌, need, give, cert, added}
use Rattle.expr_rules.proofs.laws.Yields.{yields_need, yields_found}
use Rattle.stmt_rules.specs.declared.output.StmtOut.{StmtOut}
use Rattle.stmt_rules.specs.Row.{note_counts, note_row}
use Rattle.stmt_rules.specs.Sound.{StmtDone, IsSoundNote}
use Rattle.stmt_rules.specs.rules.Note as note
use Rattle.deriv_tree.specs.declared.tree.Step.{Step}

-- the symbols of a form that was given as arguments rise, and no coefficient is 0
pairs_rise : (least : ℕ) (args : List ℤ) (ts : List (ℕ × ℤ)) → pairs least args ≡ Some ts → rises_from least ts ≡ true
pairs_rise least [] ts is = let none : [] ≡ ts = cc in subst (λ (l : List (ℕ × ℤ)). rises_from least l ≡ true) none refl
pairs_rise least (s ∷ []) ts is = absurd (let bad : None ≡ Some ts = is in cc)
pairs_rise least (negsuc s ∷ k ∷ rest) ts is = absurd (let bad : None ≡ Some ts = is in cc)
pairs_rise least (pos s ∷ k ∷ rest) ts is =
    by (nat_le least s) refl (nat_le s most_symbol) refl (int_eq k (pos 0)) refl (λ us there. pairs_rise (s + 1) rest us there)
  where
    by : (a : Bool) → nat_le least s ≡ a → (b : Bool) → nat_le s most_symbol ≡ b → (d : Bool) → int_eq k (pos 0) ≡ d
        → ((us : List (ℕ × ℤ)) → pairs (s + 1) rest ≡ Some us → rises_from (s + 1) us ≡ true) → rises_from least ts ≡ true
    by false e b f d g more = absurd (let bad : None ≡ Some ts = rw e at is in cc)
    by true e false f d g more = absurd (let bad : None ≡ Some ts = rw (e, f) at is in cc)
    by true e true f true g more = absurd (let bad : None ≡ Some ts = rw (e, f, g) at is in cc)
    by true e true f false g more = on (pairs (s + 1) rest) refl (rw (e, f, g) at is) where
      on : (o : Option (List (ℕ × ℤ))) → pairs (s + 1) rest ≡ o → term_before (Some s) k (pairs (s + 1) rest) ≡ Some ts
          → rises_from least ts ≡ true
      on None at there = absurd (let bad : None ≡ Some ts = rw at at there in cc)
      on (Some us) at there =
          let both : Some ((s, k) ∷ us) ≡ Some ts = rw at at there in
          let one : (s, k) ∷ us ≡ ts = cc in
          subst (λ (l : List (ℕ × ℤ)). rises_from least l ≡ true) one (rw (e, g, more us at) refl)

flat_rises : (args : List ℤ) (f : LinearForm) → flat args ≡ Some f → rises_from 0 f.terms ≡ true
flat_rises [] f is = absurd (let bad : None ≡ Some f = is in cc)
flat_rises (k ∷ rest) f is = by (pairs 0 rest) refl where
  by : (o : Option (List (ℕ × ℤ))) → pairs 0 rest ≡ o → rises_from 0 f.terms ≡ true
  by None at = absurd (let bad : None ≡ Some f = rw at at is in cc)
  by (Some ts) at = on (is_within (record { constant = k; terms = ts })) refl where
    on : (b : Bool) → is_within (record { constant = k; terms = ts }) ≡ b → rises_from 0 f.terms ≡ true
    on false e = absurd (let bad : None ≡ Some f = rw (at, e) at is in cc)
    on true e =
        let both : Some (record { constant = k; terms = ts }) ≡ Some f = rw (at, e) at is in
        let one : record { constant = k; terms = ts } ≡ f = cc in
        subst (λ (g : LinearForm). rises_from 0 g.terms ≡ true) one (pairs_rise 0 rest ts at)

-- a form that a certificate closes mentions only symbols with a top
pub closed_known : (c : Context) (args : List ℤ) (f : LinearForm) (k : Cert) → IsConsistent c → flat args ≡ Some f
    → closes c.facts c.tops f k ≡ true → Known (length c.tops) f
closed_known c args f k s is closed =
    below_known (length c.tops) f (nothing_below (length c.tops) 0 f.terms (flat_rises args f is)
    (goal_known c.facts c.tops f k closed facts)) where
      facts : FactsBelow (length c.tops) c.facts
      facts i g at = below_nothing (length c.tops) g.terms (known_below (length c.tops) g.terms (s.facts_known i g at))

-- a form that was closed becomes a fact
pub note_done : (ps : List Param) (scope : Scope) (c : Context) (args : List ℤ) (f : LinearForm) (k : Cert) → IsConsistent c
    → IsScoped ps scope c
    → flat args ≡ Some f → closes c.facts c.tops f k ≡ true → StmtDone ps scope scope (λ env. env) c nothing (with_fact f c)
note_done ps scope c args f k s scoped is closed = record {
  moves = fact_moves c f;
  consistent = consistent_fact c f known s;
  scoped = fact_scoped ps scope c f scoped;
  typed = λ lengths env typed. typed;
  trips = λ w call rest. refl;
  runs = λ lengths w call numbers env mem vars typed fits room. record {
    others = numbers;
    agree = λ n less. refl;
    left_mem = mem;
    left = vars;
    ticks = 0;
    runs = done mem vars;
    fits = fits_fact call numbers c f env mem (local_at vars) known (closed_holds c.facts c.tops f k closed numbers fits.holds)
        fits;
    kept = λ l in_list. refl;
    unwritten = λ i x y at_x at_y writes.
        (let both : Some y ≡ Some x = sym at_y ∙ at_x in let one : y ≡ x = cc in ap (λ (z : Clause). value_of env z.name) one);
    outside = λ address out. refl;
    time = omega arith;
  };
} where
  known : Known (length c.tops) f
  known = closed_known c args f k s is closed

-- whatever a note's node gives is right
pub note_sound : (step : Step) (alone : Bool) (at : ℕ) → IsSoundNote (note_row step alone at)
note_sound step alone at ps scope c s scoped =
    yields_need Q c alone at 1 (λ _. need (note_counts step) at 2 >>= (λ _. note.row at step.args step.certs))
    (λ inside. yields_need Q c (note_counts step) at 2 (λ _. note.row at step.args step.certs)
    (λ counts. yields_found Q c (flat step.args) at 3 (λ f. cert at step.certs f >>= (λ _. added at f >>= (λ _. give nothing)))
    (λ f is. certs f is step.certs)))
  where
    Q : StmtOut → Context → Type 0
    Q = StmtDone ps scope scope (λ env. env) c

    room : (f : LinearForm) (k : Cert) → flat step.args ≡ Some f → closes c.facts c.tops f k ≡ true → (b : Bool) → has_room c ≡ b
        → Yields Q ((added at f >>= (λ _. give nothing)) c)
    room f k is closed true e = rw e (note_done ps scope c step.args f k s scoped is closed)
    room f k is closed false e = rw e tt

    certs : (f : LinearForm) → flat step.args ≡ Some f → (ks : List Cert)
        → Yields Q ((cert at ks f >>= (λ _. added at f >>= (λ _. give nothing))) c)
    certs f is [] = tt
    certs f is (k ∷ ks) = by (closes c.facts c.tops f k) refl where
      by : (b : Bool) → closes c.facts c.tops f k ≡ b
          → Yields Q ((cert at (k ∷ ks) f >>= (λ _. added at f >>= (λ _. give nothing))) c)
      by true e = rw e (room f k is e (has_room c) refl)
      by false e = rw e tt
