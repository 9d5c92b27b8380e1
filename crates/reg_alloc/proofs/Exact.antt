-- The walk over sets finds for each variable what its needs say.
use Rattle.std.proofs.Common.{◌≡◌, refl, ap, ◌∙◌, subst, sym, arith, ℕ, zero, suc, ◌+◌, Bool, true, false, not, ◌||◌, ◌&&◌}
use Rattle.std.proofs.Common.{nat_eq, nat_lt, List, [], ◌∷◌, ◌++◌, map, length, replicate, Option, Some, None}
use Rattle.flat_lang.specs.declared.flat.FStmt.{FStmt, FStmt-F, fold-roll-FStmt, map-FStmt, roll-FStmt, ind-FStmt}
use Rattle.flat_lang.specs.declared.flat.FStmt.TheOpen as f
use Rattle.flat_lang.specs.declared.flat.Flat.{Flat}
use Rattle.flat_lang.specs.Paths.{read, takes}
use Rattle.flat_lang.specs.Backwards.{Lives, Point, Walk, reads, sets, walks, turned, tested, one, walk_step, walk, code_walk}
use Rattle.flat_lang.specs.Backwards.{returned, flat_points, flat_need}
use Rattle.reg_alloc.specs.declared.watch.Watch.{Watch}
use Rattle.reg_alloc.specs.Marks.{Marks, blank, either}
use Rattle.reg_alloc.specs.Visit.{Visit, seen, visits, single, put, cut, head, at_test, visit_step, visit, code_visit}
use Rattle.reg_alloc.specs.Check.{marked, at_end, at_start, front_from}

-- the set of the first n variables for which something holds
abbrev pub from : ℕ → Lives → Marks
from zero m = []
from (suc n) m = m 0 ∷ from n (λ v. m (suc v))

two : (a b : Bool) (l r : Marks) → a ≡ b → l ≡ r → a ∷ l ≡ b ∷ r
two a b l r h g = ap (λ x. x ∷ l) h ∙ ap (λ (y : Marks). b ∷ y) g

pub from_same : (n : ℕ) (m r : Lives) → ((v : ℕ) → m v ≡ r v) → from n m ≡ from n r
from_same zero m r h = refl
from_same (suc n) m r h = two (m 0) (r 0) (from n (λ v. m (suc v))) (from n (λ v. r (suc v))) (h 0)
    (from_same n (λ v. m (suc v)) (λ v. r (suc v)) (λ v. h (suc v)))

reads_first : (k : Bool) → true ≡ reads 0 0 k
reads_first k = grind (arith)

reads_past : (v : ℕ) (k : Bool) → k ≡ reads 0 (suc v) k
reads_past v k = grind (arith)

reads_before : (x : ℕ) (k : Bool) → k ≡ reads (suc x) 0 k
reads_before x k = grind (arith)

reads_next : (x v : ℕ) (k : Bool) → reads x v k ≡ reads (suc x) (suc v) k
reads_next x v k = let e : nat_eq v x ≡ nat_eq (suc v) (suc x) = grind (arith) in ap (λ b. b || k) e

sets_first : (k : Bool) → false ≡ sets 0 0 k
sets_first k = grind (arith)

sets_past : (v : ℕ) (k : Bool) → k ≡ sets 0 (suc v) k
sets_past v k = grind (arith)

sets_before : (x : ℕ) (k : Bool) → k ≡ sets (suc x) 0 k
sets_before x k = grind (arith)

sets_next : (x v : ℕ) (k : Bool) → sets x v k ≡ sets (suc x) (suc v) k
sets_next x v k = let e : nat_eq v x ≡ nat_eq (suc v) (suc x) = grind (arith) in ap (λ b. not b && k) e

pub put_is : (n x : ℕ) (m : Lives) → put (from n m) x ≡ from n (λ v. reads x v (m v))
put_is zero x m = refl
put_is (suc n) zero m = two _ _ _ _ (reads_first (m 0))
    (from_same n (λ v. m (suc v)) (λ v. reads 0 (suc v) (m (suc v))) (λ v. reads_past v (m (suc v))))
put_is (suc n) (suc x) m =
    two (m 0) (reads (suc x) 0 (m 0)) (put (from n (λ v. m (suc v))) x) (from n (λ v. reads (suc x) (suc v) (m (suc v))))
    (reads_before x (m 0))
    (put_is n x (λ v. m (suc v)) ∙ from_same n (λ v. reads x v (m (suc v))) (λ v. reads (suc x) (suc v) (m (suc v)))
    (λ v. reads_next x v (m (suc v))))

pub cut_is : (n x : ℕ) (m : Lives) → cut (from n m) x ≡ from n (λ v. sets x v (m v))
cut_is zero x m = refl
cut_is (suc n) zero m = two _ _ _ _ (sets_first (m 0))
    (from_same n (λ v. m (suc v)) (λ v. sets 0 (suc v) (m (suc v))) (λ v. sets_past v (m (suc v))))
cut_is (suc n) (suc x) m =
    two (m 0) (sets (suc x) 0 (m 0)) (cut (from n (λ v. m (suc v))) x) (from n (λ v. sets (suc x) (suc v) (m (suc v))))
    (sets_before x (m 0))
    (cut_is n x (λ v. m (suc v)) ∙ from_same n (λ v. sets x v (m (suc v))) (λ v. sets (suc x) (suc v) (m (suc v)))
    (λ v. sets_next x v (m (suc v))))

pub either_is : (n : ℕ) (m r : Lives) → either (from n m) (from n r) ≡ from n (λ v. m v || r v)
either_is zero m r = refl
either_is (suc n) m r = ap (λ (y : Marks). (m 0 || r 0) ∷ y) (either_is n (λ v. m (suc v)) (λ v. r (suc v)))

pub length-from : (n : ℕ) (m : Lives) → length (from n m) ≡ n
length-from zero m = refl
length-from (suc n) m = ap suc (length-from n (λ v. m (suc v)))

pub none_is : (n : ℕ) → replicate n false ≡ from n (λ v. false)
none_is zero = refl
none_is (suc n) = ap (λ (y : Marks). false ∷ y) (none_is n)

blank_is : (n : ℕ) (m : Lives) → blank (from n m) ≡ from n (λ v. false)
blank_is n m = ap (λ k. replicate k false) (length-from n m) ∙ none_is n

module _ (n : ℕ) where
  -- what is kept of points, from the last to the first
  abbrev pub replay : List Point → Watch → Watch
  replay [] watch = watch
  replay (q ∷ qs) watch = seen q.writes (from n q.after) (replay qs watch)

  replay_append : (qs rs : List Point) (watch : Watch) → replay (qs ++ rs) watch ≡ replay qs (replay rs watch)
  replay_append [] rs watch = refl
  replay_append (q ∷ qs) rs watch = ap (seen q.writes (from n q.after)) (replay_append qs rs watch)

  pub record Exact (c : Visit) (w : Walk) : Type 0 where
    pub back : (m : Lives) → c.back (from n m) ≡ from n (λ v. w.need v (m v))
    pub note : (m : Lives) (watch : Watch) → c.note (from n m) watch ≡ replay (w.points m) watch

  nothing_exact : Exact (visits []) (walks [])
  nothing_exact = record { back = λ m. refl; note = λ m watch. refl }

  then_exact : (c : Visit) (cs : List Visit) (w : Walk) (ws : List Walk) → Exact c w → Exact (visits cs) (walks ws)
      → Exact (visits (c ∷ cs)) (walks (w ∷ ws))
  then_exact c cs w ws first rest = record {
    back = λ m. ap c.back (rest.back m) ∙ first.back (λ v. (walks ws).need v (m v));
    note = λ m watch.
        ap (λ (z : Marks). c.note z ((visits cs).note (from n m) watch)) (rest.back m)
        ∙ ap (c.note (from n (λ v. (walks ws).need v (m v)))) (rest.note m watch)
        ∙ first.note (λ v. (walks ws).need v (m v)) (replay ((walks ws).points m) watch)
        ∙ sym (replay_append (w.points (λ v. (walks ws).need v (m v))) ((walks ws).points m) watch);
  }

  single_exact : (writes : Option ℕ) (back : Marks → Marks) (need : ℕ → Bool → Bool)
      → ((m : Lives) → back (from n m) ≡ from n (λ v. need v (m v))) → Exact (single writes back) (one writes need)
  single_exact writes back need h = record { back = h; note = λ m watch. refl }

  module _ (x : ℕ) (a b : Visit) (va vb : Walk) (first : Exact a va) (second : Exact b vb) where
    abbrev choice : Visit
    choice = record {
      back = λ set. put (either (a.back set) (b.back set)) x;
      note = λ set watch. seen None set (a.note set (b.note set watch));
    }

    abbrev choice_walk : Walk
    choice_walk = record {
      need = λ v k. reads x v (va.need v k || vb.need v k);
      points = λ l. record { writes = None; after = l } ∷ (va.points l ++ vb.points l);
    }

    if_exact : Exact choice choice_walk
    if_exact = record {
      back = λ m.
          ap (λ (z : Marks). put (either z (b.back (from n m))) x) (first.back m)
          ∙ ap (λ (z : Marks). put (either (from n (λ v. va.need v (m v))) z) x) (second.back m)
          ∙ ap (λ (z : Marks). put z x) (either_is n (λ v. va.need v (m v)) (λ v. vb.need v (m v)))
          ∙ put_is n x (λ v. va.need v (m v) || vb.need v (m v));
      note = λ m watch.
          ap (seen None (from n m)) (ap (a.note (from n m)) (second.note m watch) ∙ first.note m (replay (vb.points m) watch)
          ∙ sym (replay_append (va.points m) (vb.points m) watch));
    }

    abbrev loop : Visit
    loop = record {
      back = λ set. head a x b set;
      note = λ set watch. seen None set (a.note (at_test a x b set) (b.note (head a x b set) watch));
    }

    abbrev loop_walk : Walk
    loop_walk = record {
      need = λ v k. turned va x vb v k;
      points = λ l. record { writes = None; after = l }
          ∷ (va.points (λ v. tested va x vb v (l v)) ++ vb.points (λ v. turned va x vb v (l v)));
    }

    head_is : (m : Lives) → head a x b (from n m) ≡ from n (λ v. turned va x vb v (m v))
    head_is m =
        ap (λ (z : Marks). a.back (put (either (from n m) (b.back z)) x)) (blank_is n m)
        ∙ ap (λ (z : Marks). a.back (put (either (from n m) z) x)) (second.back (λ v. false))
        ∙ ap (λ (z : Marks). a.back (put z x)) (either_is n m (λ v. vb.need v false))
        ∙ ap a.back (put_is n x (λ v. m v || vb.need v false))
        ∙ first.back (λ v. reads x v (m v || vb.need v false))

    test_is : (m : Lives) → at_test a x b (from n m) ≡ from n (λ v. tested va x vb v (m v))
    test_is m =
        ap (λ (z : Marks). put (either (from n m) (b.back z)) x) (head_is m)
        ∙ ap (λ (z : Marks). put (either (from n m) z) x) (second.back (λ v. turned va x vb v (m v)))
        ∙ ap (λ (z : Marks). put z x) (either_is n m (λ v. vb.need v (turned va x vb v (m v))))
        ∙ put_is n x (λ v. m v || vb.need v (turned va x vb v (m v)))

    while_exact : Exact loop loop_walk
    while_exact = record {
      back = head_is;
      note = λ m watch.
          ap (seen None (from n m))
          (ap (λ (z : Marks). a.note z (b.note (head a x b (from n m)) watch)) (test_is m)
          ∙ ap (λ (z : Marks). a.note (from n (λ v. tested va x vb v (m v))) (b.note z watch)) (head_is m)
          ∙ ap (a.note (from n (λ v. tested va x vb v (m v)))) (second.note (λ v. turned va x vb v (m v)) watch)
          ∙ first.note (λ v. tested va x vb v (m v)) (replay (vb.points (λ v. turned va x vb v (m v))) watch)
          ∙ sym (replay_append (va.points (λ v. tested va x vb v (m v))) (vb.points (λ v. turned va x vb v (m v))) watch));
    }

  abbrev Fine : FStmt → Type 0
  Fine c = Exact (visit c) (walk c)

  abbrev Proved : Type 0
  Proved = (c : FStmt) × Fine c

  abbrev bare : FStmt-F Proved → FStmt-F FStmt
  bare y = map-FStmt Proved FStmt (λ p. p.0) y

  abbrev visits_of : List Proved → List Visit
  visits_of cs = map visit (map (λ p. p.0) cs)

  abbrev walks_of : List Proved → List Walk
  walks_of cs = map walk (map (λ p. p.0) cs)

  row_exact : (cs : List Proved) → Exact (visits (visits_of cs)) (walks (walks_of cs))
  row_exact [] = nothing_exact
  row_exact (c ∷ cs) = then_exact (visit c.0) (visits_of cs) (walk c.0) (walks_of cs) c.1 (row_exact cs)

  moved : (x y : ℕ) (m : Lives) → put (cut (from n m) x) y ≡ from n (λ v. reads y v (sets x v (m v)))
  moved x y m = ap (λ (z : Marks). put z y) (cut_is n x m) ∙ put_is n y (λ v. sets x v (m v))

  step_exact : (y : FStmt-F Proved)
      → Exact (visit_step (map-FStmt FStmt Visit visit (bare y))) (walk_step (map-FStmt FStmt Walk walk (bare y)))
  step_exact (f.Lit x value) = single_exact (Some x) (λ set. cut set x) (λ v k. sets x v k) (λ m. cut_is n x m)
  step_exact (f.Copy x y) = single_exact (Some x) (λ set. put (cut set x) y) (λ v k. reads y v (sets x v k)) (moved x y)
  step_exact (f.Bin op x y z) =
      single_exact (Some x) (λ set. put (put (cut set x) z) y) (λ v k. reads y v (reads z v (sets x v k)))
      (λ m. ap (λ (s : Marks). put s y) (moved x z m) ∙ put_is n y (λ v. reads z v (sets x v (m v))))
  step_exact (f.Load size x y) = single_exact (Some x) (λ set. put (cut set x) y) (λ v k. reads y v (sets x v k)) (moved x y)
  step_exact (f.Table size x k y) = single_exact (Some x) (λ set. put (cut set x) y) (λ v k. reads y v (sets x v k)) (moved x y)
  step_exact (f.Store size x y) =
      single_exact None (λ set. put (put set y) x) (λ v k. reads x v (reads y v k))
      (λ m. ap (λ (s : Marks). put s x) (put_is n y m) ∙ put_is n x (λ v. reads y v (m v)))
  step_exact (f.If x a b) = if_exact x (visits (visits_of a)) (visits (visits_of b)) (walks (walks_of a)) (walks (walks_of b))
      (row_exact a) (row_exact b)
  step_exact (f.While a x b) = while_exact x (visits (visits_of a)) (visits (visits_of b)) (walks (walks_of a))
      (walks (walks_of b)) (row_exact a) (row_exact b)

  node_exact : (y : FStmt-F Proved) → Fine (roll-FStmt (bare y))
  node_exact y =
      subst (λ r. Exact r (walk (roll-FStmt (bare y)))) (sym (fold-roll-FStmt Visit visit_step (bare y)))
      (subst (λ w. Exact (visit_step (map-FStmt FStmt Visit visit (bare y))) w) (sym (fold-roll-FStmt Walk walk_step (bare y)))
      (step_exact y))

  stmt_exact : (c : FStmt) → Fine c
  stmt_exact = ind-FStmt Fine (λ x y is. subst (λ z. Fine (roll-FStmt z)) is (node_exact y))

  pub body_exact : (cs : List FStmt) → Exact (code_visit cs) (code_walk cs)
  body_exact [] = nothing_exact
  body_exact (c ∷ cs) = then_exact (visit c) (map visit cs) (walk c) (map walk cs) (stmt_exact c) (body_exact cs)

  or_false : (b : Bool) → (b || false) ≡ b
  or_false true = refl
  or_false false = refl

  marked_is : (rets : List ℕ) → marked rets (from n (λ v. false)) ≡ from n (λ v. takes v (map read rets) false)
  marked_is [] = refl
  marked_is (r ∷ rets) = ap (λ (z : Marks). put z r) (marked_is rets) ∙ put_is n r (λ v. takes v (map read rets) false)

  pub end_is : (rets : List ℕ) → marked rets (replicate n false) ≡ from n (returned rets)
  end_is rets =
      ap (marked rets) (none_is n) ∙ marked_is rets
      ∙ from_same n (λ v. takes v (map read rets) false) (returned rets) (λ v. sym (or_false (takes v (map read rets) false)))

pub front_is : (args k n : ℕ) (m : Lives) → front_from args k (from n m) ≡ from n (λ v. nat_lt (k + v) args && m v)
front_is args k zero m = refl
front_is args k (suc n) m =
    let here : k ≡ k + 0 = omega arith in
    two (nat_lt k args && m 0) (nat_lt (k + 0) args && m 0) (front_from args (k + 1) (from n (λ v. m (suc v))))
    (from n (λ v. nat_lt (k + suc v) args && m (suc v)))
    (ap (λ j. nat_lt j args && m 0) here)
    (front_is args (k + 1) n (λ v. m (suc v))
    ∙ from_same n (λ v. nat_lt (k + 1 + v) args && m (suc v)) (λ v. nat_lt (k + suc v) args && m (suc v))
    (λ v. let e : k + 1 + v ≡ k + suc v = omega arith in ap (λ j. nat_lt j args && m (suc v)) e))

-- of a whole code
pub start_is : (flat : Flat) → at_start flat ≡ from flat.vars (flat_need flat)
start_is flat = ap (code_visit flat.body).back (end_is flat.vars flat.rets)
    ∙ (body_exact flat.vars flat.body).back (returned flat.rets)

pub notes_are : (flat : Flat) (watch : Watch) → (code_visit flat.body).note (at_end flat) watch
    ≡ replay flat.vars (flat_points flat) watch
notes_are flat watch =
    ap (λ (z : Marks). (code_visit flat.body).note z watch) (end_is flat.vars flat.rets)
    ∙ (body_exact flat.vars flat.body).note (returned flat.rets) watch
