-- What the public calls answer, by what they compute.
use Rattle.std.proofs.Common.{◌≡◌, refl, ap, ◌∙◌, subst, sym, arith, ℕ, zero, suc, ◌<◌, ◌≤◌, Bool, true, false, List, [], ◌∷◌}
use Rattle.std.proofs.Common.{◌++◌, map, reverse, Option, Some, None, Result, Ok, Err, IfOk, ◌↔◌, if◌then◌else◌}
use Rattle.std.specs.Prelude.{slice_index_or}
use Rattle.std.proofs.lemmas.List.{reverse-append, reverse-reverse}
use Rattle.rup_base.specs.declared.no_memory.NoMemory.{NoMemory}
use Rattle.flat_lang.specs.declared.flat.Flat.{Flat}
use Rattle.flat_lang.specs.Paths.{some_takes, Step, flat_steps, flat_ways}
use Rattle.flat_lang.specs.Backwards.{Lives, Point, flat_points, flat_need}
use Rattle.flat_lang.proofs.laws.Paths.{Alike, steps_alike, start_alike}
use Rattle.reg_alloc.specs.declared.plan.Plan.{Plan}
use Rattle.reg_alloc.specs.declared.watch.Watch.{Watch}
use Rattle.reg_alloc.specs.declared.watch.Watch.TheVariants.{Lists}
use Rattle.reg_alloc.specs.Marks.{Marks, below, listed}
use Rattle.reg_alloc.specs.Visit.{seen, code_visit}
use Rattle.reg_alloc.specs.PlanOk.{PlanOk}
use Rattle.reg_alloc.specs.Liveness.{read_first, IsLiveness}
use Rattle.reg_alloc.specs.Check.{plan_fits, lists_of, live_lists, at_end, at_start}
use Rattle.reg_alloc.proofs.Exact.{from, replay, start_is, notes_are}
use Rattle.reg_alloc.proofs.Decided.{from_at, fits_say, fits_since}

below_same : (k : ℕ) (t r : ℕ → Bool) → ((v : ℕ) → v < k → t v ≡ r v) → below k t ≡ below k r
below_same zero t r h = refl
below_same (suc k) t r h =
    ap (λ b. if b then below k t ++ k ∷ [] else below k t) (h k (omega arith))
    ∙ ap (λ (l : List ℕ). if r k then l ++ k ∷ [] else l) (below_same k t r (λ v less. h v (omega arith)))

seen_lists : (vars : ℕ) (o : Option ℕ) (set : Marks) (lists : List (List ℕ))
    → seen o set (Lists vars lists) ≡ Lists vars (lists ++ listed vars set ∷ [])
seen_lists vars None set lists = refl
seen_lists vars (Some x) set lists = refl

module _ (flat : Flat) where
  abbrev after_of : Point → List ℕ
  after_of q = listed flat.vars (from flat.vars q.after)

  replay_lists : (qs : List Point) → replay flat.vars qs (Lists flat.vars []) ≡ Lists flat.vars (reverse (map after_of qs))
  replay_lists [] = refl
  replay_lists (q ∷ qs) =
      ap (seen q.writes (from flat.vars q.after)) (replay_lists qs)
      ∙ seen_lists flat.vars q.writes (from flat.vars q.after) (reverse (map after_of qs))
      ∙ ap (λ (l : List (List ℕ)). Lists flat.vars l) (sym (reverse-append (after_of q ∷ []) (map after_of qs)))

  listed_is : (m : Lives) → listed flat.vars (from flat.vars m) ≡ below flat.vars m
  listed_is m = below_same flat.vars (λ v. slice_index_or (from flat.vars m) v false) m (λ v less. from_at flat.vars m v less)

  alike_lists : (ss : List Step) (qs : List Point) → Alike ss qs
      → map after_of qs ≡ map (read_first flat.vars) (map (λ s. s.after) ss)
  alike_lists [] [] alike = refl
  alike_lists [] (q ∷ qs) alike = absurd alike
  alike_lists (s ∷ ss) [] alike = absurd alike
  alike_lists (s ∷ ss) (q ∷ qs) alike =
      ap (λ (l : List ℕ). l ∷ map after_of qs)
      (listed_is q.after ∙ below_same flat.vars q.after (λ v. some_takes v s.after false) (λ v less. sym (alike.1.0 v)))
      ∙ ap (λ (l : List (List ℕ)). read_first flat.vars s.after ∷ l) (alike_lists ss qs alike.1.1)

  lists_are : live_lists flat ≡ listed flat.vars (from flat.vars (flat_need flat)) ∷ map after_of (flat_points flat)
  lists_are =
      let front = listed flat.vars (from flat.vars (flat_need flat)) in
      let rest = map after_of (flat_points flat) in
      ap (λ (z : Marks). reverse (lists_of (seen None z ((code_visit flat.body).note (at_end flat) (Lists flat.vars [])))))
      (start_is flat)
      ∙ ap (λ (w : Watch). reverse (lists_of (seen None (from flat.vars (flat_need flat)) w)))
      (notes_are flat (Lists flat.vars []) ∙ replay_lists (flat_points flat))
      ∙ reverse-append (reverse rest) (front ∷ [])
      ∙ ap (λ (l : List (List ℕ)). front ∷ l) (reverse-reverse rest)

  exact : IsLiveness flat (live_lists flat)
  exact n =
      lists_are
      ∙ ap (λ (l : List ℕ). l ∷ map after_of (flat_points flat))
      (listed_is (flat_need flat) ∙ below_same flat.vars (flat_need flat) (λ v. some_takes v (flat_ways (suc n) flat) false)
      (λ v less. sym (start_alike n flat v)))
      ∙ ap (λ (l : List (List ℕ)). read_first flat.vars (flat_ways (suc n) flat) ∷ l)
      (alike_lists (flat_steps (suc n) flat) (flat_points flat) (steps_alike n flat))

pub is_liveness : (flat : Flat) (r : Result (List (List ℕ)) NoMemory) → IfOk r (λ lists. lists ≡ live_lists flat)
    → IfOk r (λ lists. IsLiveness flat lists)
is_liveness flat (Ok lists) h = subst (λ l. IsLiveness flat l) (sym h) (exact flat)
is_liveness flat (Err e) h = h

pub are_live : (flat : Flat) → flat.args ≤ flat.vars → (r : Result (List ℕ) NoMemory)
    → IfOk r (λ live. live ≡ listed flat.args (at_start flat))
    → IfOk r (λ live. (n : ℕ) → live ≡ read_first flat.args (flat_ways (suc n) flat))
are_live flat few (Ok live) h = λ n.
    h
    ∙ ap (listed flat.args) (start_is flat)
    ∙ below_same flat.args (λ v. slice_index_or (from flat.vars (flat_need flat)) v false) (flat_need flat)
    (λ v less. from_at flat.vars (flat_need flat) v (omega arith))
    ∙ below_same flat.args (flat_need flat) (λ v. some_takes v (flat_ways (suc n) flat) false)
    (λ v less. sym (start_alike n flat v))
are_live flat few (Err e) h = h

pub fits_plan : (flat : Flat) (plan : Plan) (r : Result Bool NoMemory) → IfOk r (λ fits. fits ≡ plan_fits flat plan)
    → IfOk r (λ fits. (fits ≡ true) ↔ PlanOk flat plan)
fits_plan flat plan (Ok fits) h = ((λ is. fits_say flat plan (sym h ∙ is)), (λ ok. h ∙ fits_since flat plan ok))
fits_plan flat plan (Err e) h = h
