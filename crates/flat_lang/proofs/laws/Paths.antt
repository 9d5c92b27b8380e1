-- What is found backwards is what the paths say, for every number of turns from one on.
use Rattle.std.proofs.Common.{Bool, false, ◌||◌, ◌≡◌, refl, sym, ap, ◌∙◌, subst, ℕ, suc, List, [], ◌∷◌, ◌++◌, map, Option, Some}
use Rattle.std.proofs.Common.{None}
use Rattle.flat_lang.specs.declared.flat.FStmt.{FStmt, FStmt-F, fold-roll-FStmt, map-FStmt, roll-FStmt, ind-FStmt}
use Rattle.flat_lang.specs.declared.flat.FStmt.TheOpen as f
use Rattle.flat_lang.specs.declared.flat.Flat.{Flat}
use Rattle.flat_lang.specs.Paths.{Event, read, write, Ways, only, both, loops, takes, some_takes, Step, Route, routes, single}
use Rattle.flat_lang.specs.Paths.{route_step, route, code_route, ends, flat_steps, flat_ways}
use Rattle.flat_lang.specs.Backwards.{Lives, Point, Walk, reads, sets, walks, turned, tested, one, walk_step, walk, code_walk}
use Rattle.flat_lang.specs.Backwards.{returned, flat_points, flat_need}
use Rattle.flat_lang.proofs.laws.Turns.{Full, full_append, full_both, full_loops, some_append, some_both, some_loops, some_read}
use Rattle.flat_lang.proofs.laws.Turns.{some_only}

pub record Same (r : Route) (w : Walk) : Type 0 where
  pub full : Full r.ways
  pub need : (v : ℕ) (k : Bool) → some_takes v r.ways k ≡ w.need v k

-- statements by paths, and the same backwards
abbrev pub Alike : List Step → List Point → Type 0
Alike [] [] = Unit {0}
Alike [] (q ∷ qs) = ⊥
Alike (s ∷ ss) [] = ⊥
Alike (s ∷ ss) (q ∷ qs) = (s.writes ≡ q.writes) × (((v : ℕ) → some_takes v s.after false ≡ q.after v) × Alike ss qs)

abbrev pub Steps : Route → Walk → Type 0
Steps r w = (m : Ways) (l : Lives) → Full m → ((v : ℕ) → some_takes v m false ≡ l v) → Alike (r.steps m) (w.points l)

pub record Goes (r : Route) (w : Walk) : Type 0 where
  pub same : Same r w
  pub steps : Steps r w

alike_append : (ss ts : List Step) (qs rs : List Point) → Alike ss qs → Alike ts rs → Alike (ss ++ ts) (qs ++ rs)
alike_append [] ts [] rs h g = g
alike_append [] ts (q ∷ qs) rs h g = absurd h
alike_append (s ∷ ss) ts [] rs h g = absurd h
alike_append (s ∷ ss) ts (q ∷ qs) rs h g = (h.0, (h.1.0, alike_append ss ts qs rs h.1.1 g))

nil_goes : Goes (routes []) (walks [])
nil_goes = record {
  same = record { full = tt; need = λ v k. some_only v [] k };
  steps = λ m l full is. tt;
}

then_goes : (r : Route) (rs : List Route) (w : Walk) (ws : List Walk) → Goes r w → Goes (routes rs) (walks ws)
    → Goes (routes (r ∷ rs)) (walks (w ∷ ws))
then_goes r rs w ws h g = record {
  same = record {
    full = full_both r.ways (routes rs).ways h.same.full g.same.full;
    need = λ v k. some_both v r.ways (routes rs).ways k g.same.full ∙ h.same.need v (some_takes v (routes rs).ways k)
        ∙ ap (λ t. w.need v t) (g.same.need v k);
  };
  steps = λ m l full is.
      alike_append (r.steps (both (routes rs).ways m)) ((routes rs).steps m) (w.points (λ v. (walks ws).need v (l v)))
      ((walks ws).points l)
      (h.steps (both (routes rs).ways m) (λ v. (walks ws).need v (l v)) (full_both (routes rs).ways m g.same.full full)
      (λ v. some_both v (routes rs).ways m false full ∙ ap (λ t. some_takes v (routes rs).ways t) (is v) ∙ g.same.need v (l v)))
      (g.steps m l full is);
}

single_goes : (writes : Option ℕ) (es : List Event) (need : ℕ → Bool → Bool) → ((v : ℕ) (k : Bool) → takes v es k ≡ need v k)
    → Goes (single writes es) (one writes need)
single_goes writes es need h = record {
  same = record { full = tt; need = λ v k. some_only v es k ∙ h v k };
  steps = λ m l full is. (refl, (is, tt));
}

module _ (x : ℕ) (ra rb : Route) (wa wb : Walk) (ga : Goes ra wa) (gb : Goes rb wb) where
  abbrev choice : Route
  choice = record {
    ways = both (only (read x ∷ [])) (ra.ways ++ rb.ways);
    steps = λ after. record { writes = None; after = after } ∷ (ra.steps after ++ rb.steps after);
  }

  abbrev choice_walk : Walk
  choice_walk = record {
    need = λ v k. reads x v (wa.need v k || wb.need v k);
    points = λ l. record { writes = None; after = l } ∷ (wa.points l ++ wb.points l);
  }

  if_goes : Goes choice choice_walk
  if_goes = record {
    same = record {
      full = full_both (only (read x ∷ [])) (ra.ways ++ rb.ways) tt (full_append ra.ways rb.ways ga.same.full);
      need = λ v k.
          some_both v (only (read x ∷ [])) (ra.ways ++ rb.ways) k (full_append ra.ways rb.ways ga.same.full)
          ∙ some_read v x (some_takes v (ra.ways ++ rb.ways) k)
          ∙ ap (λ t. reads x v t) (some_append v ra.ways rb.ways k ∙ ap (λ t. t || some_takes v rb.ways k) (ga.same.need v k)
          ∙ ap (λ t. wa.need v k || t) (gb.same.need v k));
    };
    steps = λ m l full is. (
      refl,
      (
        is,
        alike_append (ra.steps m) (rb.steps m) (wa.points l) (wb.points l) (ga.steps m l full is)
            (gb.steps m l full is),
      ),
    );
  }

  module _ (n : ℕ) where
    abbrev test : Ways
    test = both ra.ways (only (read x ∷ []))

    abbrev around : Ways
    around = loops (suc n) test rb.ways

    abbrev in_front : Ways → Ways
    in_front m = both (only (read x ∷ [])) (m ++ both rb.ways (both around m))

    abbrev loop : Route
    loop = record {
      ways = around;
      steps = λ after. record { writes = None; after = after } ∷ (ra.steps (in_front after) ++ rb.steps (both around after));
    }

    abbrev loop_walk : Walk
    loop_walk = record {
      need = λ v k. turned wa x wb v k;
      points = λ l. record { writes = None; after = l }
          ∷ (wa.points (λ v. tested wa x wb v (l v)) ++ wb.points (λ v. turned wa x wb v (l v)));
    }

    full_test : Full test
    full_test = full_both ra.ways (only (read x ∷ [])) ga.same.full tt

    full_around : Full around
    full_around = full_loops (suc n) test rb.ways full_test

    test_need : (v : ℕ) (k : Bool) → some_takes v test k ≡ wa.need v (reads x v k)
    test_need v k = some_both v ra.ways (only (read x ∷ [])) k tt ∙ ap (λ t. some_takes v ra.ways t) (some_read v x k)
        ∙ ga.same.need v (reads x v k)

    around_need : (v : ℕ) (k : Bool) → some_takes v around k ≡ turned wa x wb v k
    around_need v k =
        some_loops v n test rb.ways k full_test
        ∙ test_need v (k || some_takes v rb.ways false)
        ∙ ap (λ t. wa.need v (reads x v (k || t))) (gb.same.need v false)

    behind : (m : Ways) (l : Lives) → Full m → ((v : ℕ) → some_takes v m false ≡ l v) → (v : ℕ)
        → some_takes v (both around m) false ≡ turned wa x wb v (l v)
    behind m l full is v = some_both v around m false full ∙ ap (λ t. some_takes v around t) (is v) ∙ around_need v (l v)

    before : (m : Ways) (l : Lives) → Full m → ((v : ℕ) → some_takes v m false ≡ l v) → (v : ℕ)
        → some_takes v (in_front m) false ≡ tested wa x wb v (l v)
    before m l full is v =
        some_both v (only (read x ∷ [])) (m ++ both rb.ways (both around m)) false
        (full_append m (both rb.ways (both around m)) full)
        ∙ some_read v x (some_takes v (m ++ both rb.ways (both around m)) false)
        ∙ ap (λ t. reads x v t) (some_append v m (both rb.ways (both around m)) false
        ∙ ap (λ t. t || some_takes v (both rb.ways (both around m)) false) (is v)
        ∙ ap (λ t. l v || t) (some_both v rb.ways (both around m) false (full_both around m full_around full)
        ∙ gb.same.need v (some_takes v (both around m) false)
        ∙ ap (λ t. wb.need v t) (behind m l full is v)))

    while_goes : Goes loop loop_walk
    while_goes = record {
      same = record { full = full_around; need = around_need };
      steps = λ m l full is. (
        refl,
        (
          is,
          alike_append (ra.steps (in_front m)) (rb.steps (both around m))
              (wa.points (λ v. tested wa x wb v (l v))) (wb.points (λ v. turned wa x wb v (l v)))
              (ga.steps (in_front m) (λ v. tested wa x wb v (l v))
              (full_both (only (read x ∷ [])) (m ++ both rb.ways (both around m)) tt
              (full_append m (both rb.ways (both around m)) full)) (before m l full is))
              (gb.steps (both around m) (λ v. turned wa x wb v (l v)) (full_both around m full_around full) (behind m l full is)),
        ),
      );
    }

module _ (n : ℕ) where
  abbrev Fine : FStmt → Type 0
  Fine c = Goes (route (suc n) c) (walk c)

  abbrev Proved : Type 0
  Proved = (c : FStmt) × Fine c

  abbrev bare : FStmt-F Proved → FStmt-F FStmt
  bare y = map-FStmt Proved FStmt (λ p. p.0) y

  row_goes : (cs : List Proved) → Goes (routes (map (route (suc n)) (map (λ p. p.0) cs))) (walks (map walk (map (λ p. p.0) cs)))
  row_goes [] = nil_goes
  row_goes (c ∷ cs) = then_goes (route (suc n) c.0) (map (route (suc n)) (map (λ p. p.0) cs)) (walk c.0)
      (map walk (map (λ p. p.0) cs)) c.1 (row_goes cs)

  step_goes : (y : FStmt-F Proved)
      → Goes (route_step (suc n) (map-FStmt FStmt Route (route (suc n)) (bare y)))
      (walk_step (map-FStmt FStmt Walk walk (bare y)))
  step_goes (f.Lit x value) = single_goes (Some x) (write x ∷ []) (λ v k. sets x v k) (λ v k. refl)
  step_goes (f.Copy x y) = single_goes (Some x) (read y ∷ write x ∷ []) (λ v k. reads y v (sets x v k)) (λ v k. refl)
  step_goes (f.Bin op x y z) = single_goes (Some x) (read y ∷ read z ∷ write x ∷ []) (λ v k. reads y v (reads z v (sets x v k)))
      (λ v k. refl)
  step_goes (f.Load size x y) = single_goes (Some x) (read y ∷ write x ∷ []) (λ v k. reads y v (sets x v k)) (λ v k. refl)
  step_goes (f.Table size x k y) = single_goes (Some x) (read y ∷ write x ∷ []) (λ v k. reads y v (sets x v k)) (λ v k. refl)
  step_goes (f.Store size x y) = single_goes None (read x ∷ read y ∷ []) (λ v k. reads x v (reads y v k)) (λ v k. refl)
  step_goes (f.If x a b) = if_goes x _ _ _ _ (row_goes a) (row_goes b)
  step_goes (f.While a x b) = while_goes x _ _ _ _ (row_goes a) (row_goes b) n

  node_goes : (y : FStmt-F Proved) → Fine (roll-FStmt (bare y))
  node_goes y =
      subst (λ r. Goes r (walk (roll-FStmt (bare y)))) (sym (fold-roll-FStmt Route (route_step (suc n)) (bare y)))
      (subst (λ w. Goes (route_step (suc n) (map-FStmt FStmt Route (route (suc n)) (bare y))) w)
      (sym (fold-roll-FStmt Walk walk_step (bare y))) (step_goes y))

  stmt_goes : (c : FStmt) → Fine c
  stmt_goes = ind-FStmt Fine (λ x y is. subst (λ z. Fine (roll-FStmt z)) is (node_goes y))

  pub body_goes : (cs : List FStmt) → Goes (code_route (suc n) cs) (code_walk cs)
  body_goes [] = nil_goes
  body_goes (c ∷ cs) = then_goes (route (suc n) c) (map (route (suc n)) cs) (walk c) (map walk cs) (stmt_goes c) (body_goes cs)

  -- of a whole code
  pub steps_alike : (flat : Flat) → Alike (flat_steps (suc n) flat) (flat_points flat)
  steps_alike flat = (body_goes flat.body).steps (ends flat.rets) (returned flat.rets) tt (λ v. refl)

  pub start_alike : (flat : Flat) (v : ℕ) → some_takes v (flat_ways (suc n) flat) false ≡ flat_need flat v
  start_alike flat v =
      some_both v (code_route (suc n) flat.body).ways (ends flat.rets) false tt
      ∙ (body_goes flat.body).same.need v (returned flat.rets v)
