-- What is read early is what some path reads first.
use Rattle.std.proofs.Common.{◌≡◌, refl, sym, ap, ◌∙◌, subst, ℕ, zero, suc, Bool, true, false, not, ◌||◌, ◌&&◌, nat_eq, List, []}
use Rattle.std.proofs.Common.{◌∷◌, ◌++◌, map}
use Rattle.std.specs.Bool.{⊤}
use Rattle.bed_syntax.specs.Pressure.{occurs, occurs_step, Early, early, early_step, early_in_turn}
use Rattle.bed_syntax.specs.Paths.{Event, Reads, Sets, Path, read_by, read_by_step, followed, all_followed, turns, paths}
use Rattle.bed_syntax.specs.Paths.{paths_step, reads_first, some_first, EarlyIsSomePath}
use Rattle.bed_syntax.specs.Intervals.{Point}
use Rattle.bed_syntax.specs.declared.expression.BExpr.{BExpr, BExpr-F, map-BExpr, roll-BExpr, fold-roll-BExpr, ind-BExpr}
use Rattle.bed_syntax.specs.declared.expression.BExpr.TheOpen as e
use Rattle.bed_syntax.specs.declared.command.Cmd.{Cmd, Cmd-F, map-Cmd, roll-Cmd, fold-roll-Cmd, ind-Cmd}
use Rattle.bed_syntax.specs.declared.command.Cmd.TheOpen as c

-- Tests.

or_none : (a : Bool) → (a || false) ≡ a
or_none true = refl
or_none false = refl

or_grouped : (a b d : Bool) → (a || (b || d)) ≡ ((a || b) || d)
or_grouped true b d = refl
or_grouped false b d = refl

or_over : (t k l : Bool) → (t || (k || l)) ≡ ((t || k) || (t || l))
or_over true k l = refl
or_over false k l = refl

and_over : (t k l : Bool) → (t && (k || l)) ≡ ((t && k) || (t && l))
and_over true k l = refl
and_over false k l = refl

exchanged : (a b d f : Bool) → ((a || b) || (d || f)) ≡ ((a || d) || (b || f))
exchanged true b d f = refl
exchanged false true true f = refl
exchanged false true false f = refl
exchanged false false d f = refl

-- where it holds of false it holds of true
abbrev Rises : (Bool → Bool) → Type 0
Rises f = f false ≡ true → f true ≡ true

always : (f : Bool → Bool) → Rises f → f false ≡ true → (z : Bool) → f z ≡ true
always f rises is true = rises is
always f rises is false = is

turn_first : (f g : Bool → Bool) (k : Bool) → Rises f → f (k || g (f k)) ≡ f (k || g false)
turn_first f g true rises = refl
turn_first f g false rises = by (f false) refl
  where
    by : (b : Bool) → f false ≡ b → f (g (f false)) ≡ f (g false)
    by false is = ap (λ z. f (g z)) is
    by true is = always f rises is (g (f false)) ∙ sym (always f rises is (g false))

turn_next : (f g : Bool → Bool) (k : Bool) → Rises f → Rises g → f (k || g (f (k || g false))) ≡ f (k || g false)
turn_next f g true rises more = refl
turn_next f g false rises more = by (g false) refl (f false) refl
  where
    by : (u : Bool) → g false ≡ u → (b : Bool) → f false ≡ b → f (g (f (g false))) ≡ f (g false)
    by true is b of = ap f (always g more is (f (g false)) ∙ sym is)
    by false is true of = always f rises of (g (f (g false))) ∙ sym (always f rises of (g false))
    by false is false of = ap (λ z. f (g z)) (ap f is ∙ of)

-- Paths.

-- there is one
abbrev Full : List Path → Type 0
Full [] = ⊥
Full (a ∷ ps) = ⊤

-- there is one, and some of them read the local first where it is read early
record Tells (x : ℕ) (ps : List Path) (first : Early) : Type 0 where
  full : Full ps
  same : (k : Bool) → some_first x ps k ≡ first x k

module _ (x : ℕ) where
  first_both : (a b : Path) (k : Bool) → reads_first x (a ++ b) k ≡ reads_first x a (reads_first x b k)
  first_both [] b k = refl
  first_both (Reads y ∷ a) b k = ap (λ z. nat_eq y x || z) (first_both a b k)
  first_both (Sets y ∷ a) b k = ap (λ z. not (nat_eq y x) && z) (first_both a b k)

  first_or : (a : Path) (k l : Bool) → reads_first x a (k || l) ≡ (reads_first x a k || reads_first x a l)
  first_or [] k l = refl
  first_or (Reads y ∷ a) k l = ap (λ z. nat_eq y x || z) (first_or a k l)
      ∙ or_over (nat_eq y x) (reads_first x a k) (reads_first x a l)
  first_or (Sets y ∷ a) k l = ap (λ z. not (nat_eq y x) && z) (first_or a k l)
      ∙ and_over (not (nat_eq y x)) (reads_first x a k) (reads_first x a l)

  some_or : (ps : List Path) (k l : Bool) → some_first x ps (k || l) ≡ (some_first x ps k || some_first x ps l)
  some_or [] k l = refl
  some_or (a ∷ ps) k l =
      ap (λ z. z || some_first x ps (k || l)) (first_or a k l)
      ∙ ap (λ z. (reads_first x a k || reads_first x a l) || z) (some_or ps k l)
      ∙ exchanged (reads_first x a k) (reads_first x a l) (some_first x ps k) (some_first x ps l)

  some_rises : (ps : List Path) → Rises (some_first x ps)
  some_rises ps is = some_or ps true false ∙ ap (λ z. some_first x ps true || z) is ∙ or_true (some_first x ps true)
    where
      or_true : (b : Bool) → (b || true) ≡ true
      or_true true = refl
      or_true false = refl

  some_append : (ps qs : List Path) (k : Bool) → some_first x (ps ++ qs) k ≡ (some_first x ps k || some_first x qs k)
  some_append [] qs k = refl
  some_append (a ∷ ps) qs k =
      ap (λ z. reads_first x a k || z) (some_append ps qs k)
      ∙ or_grouped (reads_first x a k) (some_first x ps k) (some_first x qs k)

  some_behind : (a : Path) (qs : List Path) (k : Bool) → Full qs
      → some_first x (map (λ b. a ++ b) qs) k ≡ reads_first x a (some_first x qs k)
  some_behind a [] k full = absurd full
  some_behind a (b ∷ []) k full =
      or_none (reads_first x (a ++ b) k) ∙ first_both a b k ∙ ap (reads_first x a) (sym (or_none (reads_first x b k)))
  some_behind a (b ∷ d ∷ qs) k full =
      ap (λ z. z || some_first x (map (λ b. a ++ b) (d ∷ qs)) k) (first_both a b k)
      ∙ ap (λ z. reads_first x a (reads_first x b k) || z) (some_behind a (d ∷ qs) k tt)
      ∙ sym (first_or a (reads_first x b k) (some_first x (d ∷ qs) k))

  some_followed : (ps qs : List Path) (k : Bool) → Full qs → some_first x (followed ps qs) k ≡ some_first x ps (some_first x qs k)
  some_followed [] qs k full = refl
  some_followed (a ∷ ps) qs k full =
      some_append (map (λ b. a ++ b) qs) (followed ps qs) k
      ∙ ap (λ z. z || some_first x (followed ps qs) k) (some_behind a qs k full)
      ∙ ap (λ z. reads_first x a (some_first x qs k) || z) (some_followed ps qs k full)

  full_append : (ps qs : List Path) → Full ps → Full (ps ++ qs)
  full_append [] qs full = absurd full
  full_append (a ∷ ps) qs full = tt

  full_followed : (ps qs : List Path) → Full ps → Full qs → Full (followed ps qs)
  full_followed [] qs full more = absurd full
  full_followed (a ∷ ps) [] full more = absurd more
  full_followed (a ∷ ps) (b ∷ qs) full more = tt

  full_turns : (n : ℕ) (test body : List Path) → Full test → Full (turns n test body)
  full_turns zero test body full = full
  full_turns (suc n) test body full = full_followed test ([] ∷ followed body (turns n test body)) full tt

  -- a loop reads it first where its test does, or what comes behind, or its body
  one_turn : (n : ℕ) (test body : List Path) (k : Bool) → Full test
      → some_first x (turns (suc n) test body) k ≡ some_first x test (k || some_first x body (some_first x (turns n test body) k))
  one_turn n test body k full =
      some_followed test ([] ∷ followed body (turns n test body)) k tt
      ∙ ap (λ z. some_first x test (k || z)) (some_followed body (turns n test body) k (full_turns n test body full))

  some_turns : (n : ℕ) (test body : List Path) (k : Bool) → Full test
      → some_first x (turns (suc n) test body) k ≡ some_first x test (k || some_first x body false)
  some_turns zero test body k full =
      one_turn zero test body k full ∙ turn_first (some_first x test) (some_first x body) k (some_rises test)
  some_turns (suc n) test body k full =
      one_turn (suc n) test body k full
      ∙ ap (λ z. some_first x test (k || some_first x body z)) (some_turns n test body k full)
      ∙ turn_next (some_first x test) (some_first x body) k (some_rises test) (some_rises body)

  -- Expressions.

  abbrev Says : BExpr → Type 0
  Says a = (k : Bool) → reads_first x (read_by a) k ≡ (occurs a x || k)

  abbrev ProvedExpr : Type 0
  ProvedExpr = (a : BExpr) × Says a

  abbrev bare_expr : BExpr-F ProvedExpr → BExpr-F BExpr
  bare_expr y = map-BExpr ProvedExpr BExpr (λ p. p.0) y

  step_says : (y : BExpr-F ProvedExpr) (k : Bool)
      → reads_first x (read_by_step (map-BExpr BExpr Path read_by (bare_expr y))) k
      ≡ (occurs_step (map-BExpr BExpr Point occurs (bare_expr y)) x || k)
  step_says (e.Lit n) k = refl
  step_says (e.Var z) k = refl
  step_says (e.Bin op a b) k =
      first_both (read_by a.0) (read_by b.0) k
      ∙ ap (reads_first x (read_by a.0)) (b.1 k)
      ∙ a.1 (occurs b.0 x || k)
      ∙ or_grouped (occurs a.0 x) (occurs b.0 x) k
  step_says (e.Load size a) k = a.1 k
  step_says (e.Table size bytes a) k = a.1 k

  expr_rolled : (y : BExpr-F BExpr)
      → ((k : Bool) → reads_first x (read_by_step (map-BExpr BExpr Path read_by y)) k
      ≡ (occurs_step (map-BExpr BExpr Point occurs y) x || k))
      → Says (roll-BExpr y)
  expr_rolled y h k =
      ap (λ (p : Path). reads_first x p k) (fold-roll-BExpr Path read_by_step y)
      ∙ h k
      ∙ sym (ap (λ (p : Point). p x || k) (fold-roll-BExpr Point occurs_step y))

  expr_says : (a : BExpr) → Says a
  expr_says = ind-BExpr Says (λ z y is. subst (λ r. Says (roll-BExpr r)) is (expr_rolled (bare_expr y) (step_says y)))

  -- Commands.

  module _ (n : ℕ) where
    abbrev Proved : Type 0
    Proved = (a : Cmd) × Tells x (paths (suc n) a) (early a)

    abbrev bare : Cmd-F Proved → Cmd-F Cmd
    bare y = map-Cmd Proved Cmd (λ p. p.0) y

    all_tell : (cs : List Proved)
        → Tells x (all_followed (map (paths (suc n)) (map (λ p. p.0) cs))) (early_in_turn (map early (map (λ p. p.0) cs)))
    all_tell [] = record { full = tt; same = or_none }
    all_tell (a ∷ cs) =
        let more = all_tell cs in
        let rest : List Path = all_followed (map (paths (suc n)) (map (λ p. p.0) cs)) in
        record {
          full = full_followed (paths (suc n) a.0) rest a.1.full more.full;
          same = λ k.
              some_followed (paths (suc n) a.0) rest k more.full
              ∙ ap (some_first x (paths (suc n) a.0)) (more.same k)
              ∙ a.1.same (early_in_turn (map early (map (λ p. p.0) cs)) x k);
        }

    step_tells : (y : Cmd-F Proved)
        → Tells x (paths_step (suc n) (map-Cmd Cmd (List Path) (paths (suc n)) (bare y)))
        (early_step (map-Cmd Cmd Early early (bare y)))
    step_tells (c.Set z a) = record {
      full = tt;
      same = λ k.
          or_none (reads_first x (read_by a ++ Sets z ∷ []) k)
          ∙ first_both (read_by a) (Sets z ∷ []) k
          ∙ expr_says a (not (nat_eq z x) && k);
    }
    step_tells (c.Store size a b) = record {
      full = tt;
      same = λ k.
          or_none (reads_first x (read_by a ++ read_by b) k)
          ∙ first_both (read_by a) (read_by b) k
          ∙ ap (reads_first x (read_by a)) (expr_says b k)
          ∙ expr_says a (occurs b x || k);
    }
    step_tells (c.Cond a p q) =
        let first : List Path = paths (suc n) p.0 in
        let second : List Path = paths (suc n) q.0 in
        let some : Full (first ++ second) = full_append first second p.1.full in
        record {
          full = full_followed (read_by a ∷ []) (first ++ second) tt some;
          same = λ k.
              some_followed (read_by a ∷ []) (first ++ second) k some
              ∙ or_none (reads_first x (read_by a) (some_first x (first ++ second) k))
              ∙ expr_says a (some_first x (first ++ second) k)
              ∙ ap (λ z. occurs a x || z) (some_append first second k)
              ∙ ap (λ z. occurs a x || (z || some_first x second k)) (p.1.same k)
              ∙ ap (λ z. occurs a x || (early p.0 x k || z)) (q.1.same k);
        }
    step_tells (c.Seq cs) = all_tell cs
    step_tells (c.While a p) =
        let test : List Path = read_by a ∷ [] in
        let body : List Path = paths (suc n) p.0 in
        record {
          full = full_turns (suc n) test body tt;
          same = λ k.
              some_turns n test body k tt
              ∙ or_none (reads_first x (read_by a) (k || some_first x body false))
              ∙ expr_says a (k || some_first x body false)
              ∙ ap (λ z. occurs a x || (k || z)) (p.1.same false);
        }

    rolled : (y : Cmd-F Cmd) → Tells x (paths_step (suc n) (map-Cmd Cmd (List Path) (paths (suc n)) y))
        (early_step (map-Cmd Cmd Early early y))
        → Tells x (paths (suc n) (roll-Cmd y)) (early (roll-Cmd y))
    rolled y h = rw (fold-roll-Cmd (List Path) (paths_step (suc n)) y, fold-roll-Cmd Early early_step y) h

    cmd_tells : (a : Cmd) → Tells x (paths (suc n) a) (early a)
    cmd_tells = ind-Cmd (λ a. Tells x (paths (suc n) a) (early a))
        (λ z y is. subst (λ r. Tells x (paths (suc n) (roll-Cmd r)) (early (roll-Cmd r))) is (rolled (bare y) (step_tells y)))

pub early_paths : EarlyIsSomePath
early_paths n a x k = (cmd_tells x n a).same k
