-- The code over places does what the code over variables does.
use Rattle.std.proofs.Common.{◌≡◌, refl, ◌∙◌, ℕ, zero, suc, Bool, true, false, ◌||◌, nat_eq, List, [], ◌∷◌, map, Option, Some}
use Rattle.std.proofs.Common.{None, slice_get, arith}
use Rattle.std.specs.List.{AllByRecursion}
use Rattle.flat_lang.specs.declared.flat.Flat.{Flat}
use Rattle.flat_lang.specs.Paths.{read, takes, some_takes, Step, flat_steps}
use Rattle.flat_lang.specs.Backwards.{Lives, Point, returned, flat_points}
use Rattle.flat_lang.proofs.laws.Paths.{Alike, steps_alike, start_alike}
use Rattle.flat_lang.proofs.laws.Renaming.{Apart, AllApart, body_keeps}
use Rattle.reg_alloc.specs.declared.plan.Plan.{Plan}
use Rattle.reg_alloc.specs.PlanOk.{PlanOk, Clear}
use Rattle.reg_alloc.specs.Kept.{place_number, PlacesKeep}
use Rattle.reg_alloc.proofs.laws.Numbers.{numbers_differ}

or_left : (a b : Bool) → a ≡ true → (a || b) ≡ true
or_left true b h = refl
or_left false b h = absurd (cc)

or_right : (a b : Bool) → b ≡ true → (a || b) ≡ true
or_right true b h = refl
or_right false b h = h

reads_itself : (r s : ℕ) → s ≡ r → nat_eq r s ≡ true
reads_itself r s h = grind (arith, h)

result_read : (rets : List ℕ) (i r : ℕ) → slice_get rets i ≡ Some r → takes r (map read rets) false ≡ true
result_read [] i r h = absurd (let bad : ◌≡◌ {A = Option ℕ} None (Some r) = h in cc)
result_read (s ∷ rets) zero r h = let e : s ≡ r = cc in or_left (nat_eq r s) (takes r (map read rets) false) (reads_itself r s e)
result_read (s ∷ rets) (suc i) r h = or_right (nat_eq r s) (takes r (map read rets) false) (result_read rets i r h)

module _ (flat : Flat) (plan : Plan) (ok : PlanOk flat plan) where
  point_apart : (o : Option ℕ) (l : Lives) (s : Step) → s.writes ≡ o → ((v : ℕ) → some_takes v s.after false ≡ l v)
      → Clear plan.places s → Apart (place_number plan) o l
  point_apart None l s writes after clear = tt
  point_apart (Some x) l s writes after clear = λ v live other same.
      numbers_differ flat.vars plan.places ok.one_each ok.places v x other (clear x v writes (after v ∙ live) other) same

  points_apart : (ss : List Step) (qs : List Point) → Alike ss qs → AllByRecursion (Clear plan.places) ss
      → AllApart (place_number plan) qs
  points_apart [] [] alike clear = tt
  points_apart [] (q ∷ qs) alike clear = absurd alike
  points_apart (s ∷ ss) [] alike clear = absurd alike
  points_apart (s ∷ ss) (q ∷ qs) alike clear =
      (point_apart q.writes q.after s alike.0 alike.1.0 clear.0, points_apart ss qs alike.1.1 clear.1)

  pub flat_apart : AllApart (place_number plan) (flat_points flat)
  flat_apart = points_apart (flat_steps 1 flat) (flat_points flat) (steps_alike 0 flat) (ok.writes 0)

pub keep : PlacesKeep
keep flat plan ok w s t places starts is =
    let went = body_keeps (place_number plan) w flat.tables flat.body (returned flat.rets) s t places (flat_apart flat plan ok)
    (λ x n live found. starts x n (0, start_alike 0 flat x ∙ live) found) is in
    record {
      places_after = went.vars;
      runs = went.runs;
      results = λ i r n at found. went.agrees r n
          (or_left (takes r (map read flat.rets) false) false (result_read flat.rets i r at)) found;
    }
