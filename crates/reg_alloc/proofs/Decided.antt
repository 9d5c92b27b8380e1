-- What the walk over sets decides of a plan is what the paths say.
use Rattle.std.proofs.Common.{◌≡◌, refl, ap, ◌∙◌, subst, sym, arith, ℕ, zero, suc, ◌+◌, ◌<◌, Bool, true, false, not, ◌||◌, ◌&&◌}
use Rattle.std.proofs.Common.{nat_eq, nat_lt, List, [], ◌∷◌, map, length, Option, Some, None, slice_get, ◌⊎◌, inl, inr}
use Rattle.std.specs.Prelude.{slice_index_or, option_map, unwrap_or}
use Rattle.std.specs.List.{AllByRecursion}
use Rattle.std.proofs.lemmas.Bool.{cases_eq, ltb-true}
use Rattle.std.proofs.lemmas.List.{length-map}
use Rattle.std.proofs.lemmas.Option.{slice_get-map, get_or_from_slice_get, unwrap_or-slice_get}
use Rattle.rup_base.specs.Gather.{all_true}
use Rattle.flat_lang.specs.declared.flat.Flat.{Flat}
use Rattle.flat_lang.specs.Paths.{Step, flat_steps, LiveAtStart}
use Rattle.flat_lang.specs.Backwards.{Lives, Point, flat_points, flat_need}
use Rattle.flat_lang.proofs.laws.Paths.{Alike, steps_alike, start_alike}
use Rattle.reg_alloc.specs.declared.plan.At.{At}
use Rattle.reg_alloc.specs.declared.plan.Plan.{Plan}
use Rattle.reg_alloc.specs.declared.watch.Watch.TheVariants.{Places}
use Rattle.reg_alloc.specs.Marks.{Marks, alone, alone_from}
use Rattle.reg_alloc.specs.Visit.{seen, code_visit}
use Rattle.reg_alloc.specs.PlanOk.{is_place, Share, Clear, PlanOk}
use Rattle.reg_alloc.specs.Kept.{number}
use Rattle.reg_alloc.specs.Check.{all_below, arguments_fit, fits_to_start, code_fits, plan_fits, at_end}
use Rattle.reg_alloc.proofs.laws.Numbers.{and_left, and_right, and_both, number_positive, same_number, each_valid, within}
use Rattle.reg_alloc.proofs.Exact.{from, replay, front_is, start_is, notes_are}

head_says : (live : Bool) (n q k x : ℕ) → (not (live && nat_eq n q) || nat_eq k x) ≡ true → live ≡ true → n ≡ q → k ≡ x
head_says true n q k x h live same = grind (arith, h, same)
head_says false n q k x h live same = absurd (cc)

head_since : (live : Bool) (n q k x : ℕ) → (live ≡ true → n ≡ q → k ≡ x) → (not (live && nat_eq n q) || nat_eq k x) ≡ true
head_since false n q k x h = refl
head_since true n q k x h = by_case (cases_eq n q)
  where
    by_case : (n ≡ q) ⊎ (n ≡ q → ⊥) → (not (true && nat_eq n q) || nat_eq k x) ≡ true
    by_case (inl same) = let e = h refl same in grind (arith, e)
    by_case (inr other) = grind (arith, other)

says : (q x k : ℕ) (ps : List ℕ) (m : Lives) → alone_from q x k ps (from (length ps) m) ≡ true → (i p : ℕ)
    → slice_get ps i ≡ Some p → m i ≡ true → p ≡ q → k + i ≡ x
says q x k [] m h i p is live same = absurd (let bad : ◌≡◌ {A = Option ℕ} None (Some p) = is in cc)
says q x k (n ∷ ps) m h zero p is live same =
    let e : n ≡ p = cc in
    let here = head_says (m 0) n q k x
    (and_left (not (m 0 && nat_eq n q) || nat_eq k x) (alone_from q x (k + 1) ps (from (length ps) (λ v. m (suc v)))) h)
    live (e ∙ same) in
    omega arith
says q x k (n ∷ ps) m h (suc i) p is live same =
    let rest = says q x (k + 1) ps (λ v. m (suc v))
    (and_right (not (m 0 && nat_eq n q) || nat_eq k x) (alone_from q x (k + 1) ps (from (length ps) (λ v. m (suc v)))) h) i
    p is live same in
    omega arith

since : (q x k : ℕ) (ps : List ℕ) (m : Lives) → ((i p : ℕ) → slice_get ps i ≡ Some p → m i ≡ true → p ≡ q → k + i ≡ x)
    → alone_from q x k ps (from (length ps) m) ≡ true
since q x k [] m h = refl
since q x k (n ∷ ps) m h =
    and_both (not (m 0 && nat_eq n q) || nat_eq k x) (alone_from q x (k + 1) ps (from (length ps) (λ v. m (suc v))))
    (head_since (m 0) n q k x (λ live same. let e = h 0 n refl live same in omega arith))
    (since q x (k + 1) ps (λ v. m (suc v)) (λ i p is live same. let e = h (suc i) p is live same in omega arith))

pub from_at : (n : ℕ) (m : Lives) (u : ℕ) → u < n → slice_index_or (from n m) u false ≡ m u
from_at zero m u h = absurd (omega arith)
from_at (suc n) m zero h = refl
from_at (suc n) m (suc u) h = from_at n (λ v. m (suc v)) u (omega arith)

at_from : (n : ℕ) (m : Lives) (u : ℕ) → slice_index_or (from n m) u false ≡ true → m u ≡ true
at_from zero m u h = absurd (cc)
at_from (suc n) m zero h = h
at_from (suc n) m (suc u) h = at_from n (λ v. m (suc v)) u h

last_or : (n u : ℕ) (test : ℕ → Bool) → u < suc n → (u < n → test u ≡ true) → test n ≡ true → test u ≡ true
last_or n u test less before last = by_case (cases_eq u n)
  where
    by_case : (u ≡ n) ⊎ (u ≡ n → ⊥) → test u ≡ true
    by_case (inl same) = ap test same ∙ last
    by_case (inr other) = before (omega arith)

below_says : (n : ℕ) (test : ℕ → Bool) → all_below n test ≡ true → (u : ℕ) → u < n → test u ≡ true
below_says zero test h u less = absurd (omega arith)
below_says (suc n) test h u less =
    last_or n u test less (λ smaller. below_says n test (and_left (all_below n test) (test n) h) u smaller)
    (and_right (all_below n test) (test n) h)

below_since : (n : ℕ) (test : ℕ → Bool) → ((u : ℕ) → u < n → test u ≡ true) → all_below n test ≡ true
below_since zero test h = refl
below_since (suc n) test h = and_both (all_below n test) (test n) (below_since n test (λ u less. h u (omega arith)))
    (h n (omega arith))

or_since : (a b : Bool) → (a ≡ true → b ≡ true) → (not a || b) ≡ true
or_since true b h = h refl
or_since false b h = refl

or_says : (a b : Bool) → (not a || b) ≡ true → a ≡ true → b ≡ true
or_says true b h is = h
or_says false b h is = absurd (cc)

mapped : (o : Option At) (p : ℕ) → option_map number o ≡ Some p → (a : At) × ((o ≡ Some a) × (number a ≡ p))
mapped None p h = absurd (let bad : ◌≡◌ {A = Option ℕ} None (Some p) = h in cc)
mapped (Some a) p h = (a, (refl, let e : ◌≡◌ {A = Option ℕ} (Some (number a)) (Some p) = h in cc))

module _ (flat : Flat) (plan : Plan) (one_each : length plan.places ≡ flat.vars)
    (valid : all_true (map (is_place flat.vars) plan.places) ≡ true) where
  abbrev nums : List ℕ
  nums = map number plan.places

  counted : length nums ≡ flat.vars
  counted = length-map {A = At} {B = ℕ} plan.places number ∙ one_each

  number_at : (i : ℕ) (a : At) → slice_get plan.places i ≡ Some a → slice_get nums i ≡ Some (number a)
  number_at i a is = slice_get-map number plan.places i ∙ ap (λ o. option_map number o) is

  clear_says : (x : ℕ) (l : Lives) → alone nums x (from flat.vars l) ≡ true → (v : ℕ) → l v ≡ true → (v ≡ x → ⊥)
      → Share plan.places v x → ⊥
  clear_says x l h v live other share =
      let is = number_at v share.0 share.1.0 in
      let are : slice_index_or nums x 0
      ≡ number share.0 = get_or_from_slice_get nums x (number share.0) 0 (number_at x share.0 share.1.1) in
      let all : alone nums x (from (length nums) l) ≡ true = subst (λ n. alone nums x (from n l) ≡ true) (sym counted) h in
      let e = says (slice_index_or nums x 0) x 0 nums l all v (number share.0) is live (sym are) in
      other (omega arith)

  sharing : (x i p : ℕ) (o : Option At) → slice_get plan.places x ≡ o → slice_get nums i ≡ Some p → p ≡ slice_index_or nums x 0
      → Share plan.places i x
  sharing x i p None are is same =
      let m = mapped (slice_get plan.places i) p (sym (slice_get-map number plan.places i) ∙ is) in
      let none : slice_index_or nums x 0
      ≡ 0 = sym (unwrap_or-slice_get nums x 0)
      ∙ ap (λ o. unwrap_or o 0) (slice_get-map number plan.places x ∙ ap (λ o. option_map number o) are) in
      absurd (number_positive flat.vars m.0 (each_valid flat.vars plan.places valid i m.0 m.1.0) (m.1.1 ∙ same ∙ none))
  sharing x i p (Some b) are is same =
      let m = mapped (slice_get plan.places i) p (sym (slice_get-map number plan.places i) ∙ is) in
      let there : slice_index_or nums x 0 ≡ number b = get_or_from_slice_get nums x (number b) 0 (number_at x b are) in
      let e = same_number flat.vars m.0 b (each_valid flat.vars plan.places valid i m.0 m.1.0)
      (each_valid flat.vars plan.places valid x b are) (m.1.1 ∙ same ∙ there) in
      (b, (m.1.0 ∙ ap Some e, are))

  clear_since : (x : ℕ) (l : Lives) → ((v : ℕ) → l v ≡ true → (v ≡ x → ⊥) → Share plan.places v x → ⊥)
      → alone nums x (from flat.vars l) ≡ true
  clear_since x l h = subst (λ n. alone nums x (from n l) ≡ true) counted (since (slice_index_or nums x 0) x 0 nums l each)
    where
      each : (i p : ℕ) → slice_get nums i ≡ Some p → l i ≡ true → p ≡ slice_index_or nums x 0 → 0 + i ≡ x
      each i p is live same = by_case (cases_eq i x)
        where
          by_case : (i ≡ x) ⊎ (i ≡ x → ⊥) → 0 + i ≡ x
          by_case (inl e) = omega arith
          by_case (inr other) = absurd (h i live other (sharing x i p (slice_get plan.places x) refl is same))

  abbrev one_fits : Option ℕ → Lives → Bool → Bool
  one_fits None l fit = fit
  one_fits (Some x) l fit = fit && alone nums x (from flat.vars l)

  abbrev all_fit : List Point → Bool
  all_fit [] = true
  all_fit (q ∷ qs) = one_fits q.writes q.after (all_fit qs)

  seen_fits : (o : Option ℕ) (l : Lives) (fit : Bool) → seen o (from flat.vars l) (Places nums fit)
      ≡ Places nums (one_fits o l fit)
  seen_fits None l fit = refl
  seen_fits (Some x) l fit = refl

  replay_fits : (qs : List Point) → replay flat.vars qs (Places nums true) ≡ Places nums (all_fit qs)
  replay_fits [] = refl
  replay_fits (q ∷ qs) = ap (seen q.writes (from flat.vars q.after)) (replay_fits qs) ∙ seen_fits q.writes q.after (all_fit qs)

  one_says : (o : Option ℕ) (l : Lives) (fit : Bool) → one_fits o l fit ≡ true → (x : ℕ) → o ≡ Some x
      → alone nums x (from flat.vars l) ≡ true
  one_says None l fit h x is = absurd (let bad : ◌≡◌ {A = Option ℕ} None (Some x) = is in cc)
  one_says (Some y) l fit h x is = let e : y ≡ x = cc in
      subst (λ z. alone nums z (from flat.vars l) ≡ true) e (and_right fit (alone nums y (from flat.vars l)) h)

  one_rest : (o : Option ℕ) (l : Lives) (fit : Bool) → one_fits o l fit ≡ true → fit ≡ true
  one_rest None l fit h = h
  one_rest (Some y) l fit h = and_left fit (alone nums y (from flat.vars l)) h

  one_since : (o : Option ℕ) (l : Lives) (fit : Bool) → fit ≡ true
      → ((x : ℕ) → o ≡ Some x → alone nums x (from flat.vars l) ≡ true) → one_fits o l fit ≡ true
  one_since None l fit h g = h
  one_since (Some x) l fit h g = and_both fit (alone nums x (from flat.vars l)) h (g x refl)

  fits_clear : (ss : List Step) (qs : List Point) → Alike ss qs → all_fit qs ≡ true → AllByRecursion (Clear plan.places) ss
  fits_clear [] [] alike h = tt
  fits_clear [] (q ∷ qs) alike h = tt
  fits_clear (s ∷ ss) [] alike h = absurd alike
  fits_clear (s ∷ ss) (q ∷ qs) alike h = (
    λ x v writes live other share. clear_says x q.after (one_says q.writes q.after (all_fit qs) h x (sym alike.0 ∙ writes)) v
        (sym (alike.1.0 v) ∙ live) other share,
    fits_clear ss qs alike.1.1 (one_rest q.writes q.after (all_fit qs) h),
  )

  clear_fits : (ss : List Step) (qs : List Point) → Alike ss qs → AllByRecursion (Clear plan.places) ss → all_fit qs ≡ true
  clear_fits [] [] alike h = refl
  clear_fits [] (q ∷ qs) alike h = absurd alike
  clear_fits (s ∷ ss) [] alike h = absurd alike
  clear_fits (s ∷ ss) (q ∷ qs) alike h =
      one_since q.writes q.after (all_fit qs) (clear_fits ss qs alike.1.1 h.1)
      (λ x is. clear_since x q.after (λ v live other share. h.0 x v (alike.0 ∙ is) (alike.1.0 v ∙ live) other share))

  -- of the arguments
  abbrev fronted : Lives
  fronted v = nat_lt (0 + v) flat.args && flat_need flat v

  abbrev test : ℕ → Bool
  test u = not (slice_index_or (from flat.vars fronted) u false) || alone nums u (from flat.vars fronted)

  fronted_since : (v : ℕ) → v < flat.args → LiveAtStart flat v → fronted v ≡ true
  fronted_since v less live =
      let e : flat_need flat v ≡ true = sym (start_alike live.0 flat v) ∙ live.1 in
      and_both (nat_lt (0 + v) flat.args) (flat_need flat v) (grind (arith, less)) e

  fronted_less : (v : ℕ) → fronted v ≡ true → v < flat.args
  fronted_less v h = let e = ltb-true (0 + v) flat.args (and_left (nat_lt (0 + v) flat.args) (flat_need flat v) h) in omega arith

  fronted_live : (v : ℕ) → fronted v ≡ true → LiveAtStart flat v
  fronted_live v h = (0, start_alike 0 flat v ∙ and_right (nat_lt (0 + v) flat.args) (flat_need flat v) h)

  abbrev ArgumentsApart : Type 0
  ArgumentsApart = (u v : ℕ) → u < flat.args → v < flat.args → LiveAtStart flat u → LiveAtStart flat v → (u ≡ v → ⊥)
      → Share plan.places u v → ⊥

  arguments_say : all_below flat.args test ≡ true → ArgumentsApart
  arguments_say h u v less also live lives other share =
      let here : u < flat.vars = subst (λ n. u < n) one_each (within plan.places u share.0 share.1.0) in
      let holds : slice_index_or (from flat.vars fronted) u false
      ≡ true = from_at flat.vars fronted u here ∙ fronted_since u less live in
      let free = or_says (slice_index_or (from flat.vars fronted) u false) (alone nums u (from flat.vars fronted))
      (below_says flat.args test h u less) holds in
      clear_says u fronted free v (fronted_since v also lives) (λ e. other (sym e)) (share.0, (share.1.1, share.1.0))

  arguments_since : ArgumentsApart → all_below flat.args test ≡ true
  arguments_since h = below_since flat.args test (λ u less.
      or_since (slice_index_or (from flat.vars fronted) u false) (alone nums u (from flat.vars fronted)) (λ holds.
      clear_since u fronted (λ v live other share.
      h u v less (fronted_less v live) (fronted_live u (at_from flat.vars fronted u holds)) (fronted_live v live)
      (λ e. other (sym e)) (share.0, (share.1.1, share.1.0)))))

  code_fits_is : code_fits flat nums ≡ (all_fit (flat_points flat) && all_below flat.args test)
  code_fits_is =
      ap (λ (z : Marks). fits_to_start flat.args z ((code_visit flat.body).note (at_end flat) (Places nums true))) (start_is flat)
      ∙ ap (fits_to_start flat.args (from flat.vars (flat_need flat)))
      (notes_are flat (Places nums true) ∙ replay_fits (flat_points flat))
      ∙ ap (λ (z : Marks). all_fit (flat_points flat) && arguments_fit flat.args nums z)
      (front_is flat.args 0 flat.vars (flat_need flat))

  pub code_says : code_fits flat nums ≡ true → PlanOk flat plan
  code_says h =
      let both : (all_fit (flat_points flat) && all_below flat.args test) ≡ true = sym code_fits_is ∙ h in
      record {
        one_each = one_each;
        places = valid;
        writes = λ n. fits_clear (flat_steps (suc n) flat) (flat_points flat) (steps_alike n flat)
            (and_left (all_fit (flat_points flat)) (all_below flat.args test) both);
        arguments = arguments_say (and_right (all_fit (flat_points flat)) (all_below flat.args test) both);
      }

  pub code_since : PlanOk flat plan → code_fits flat nums ≡ true
  code_since ok =
      code_fits_is ∙ and_both (all_fit (flat_points flat)) (all_below flat.args test)
      (clear_fits (flat_steps 1 flat) (flat_points flat) (steps_alike 0 flat) (ok.writes 0)) (arguments_since ok.arguments)

same_numbers : (a b : ℕ) → nat_eq a b ≡ true → a ≡ b
same_numbers a b h = grind (arith, h)

equal_numbers : (a b : ℕ) → a ≡ b → nat_eq a b ≡ true
equal_numbers a b h = grind (arith, h)

pub fits_say : (flat : Flat) (plan : Plan) → plan_fits flat plan ≡ true → PlanOk flat plan
fits_say flat plan h =
    let first = nat_eq (length plan.places) flat.vars in
    let second = all_true (map (is_place flat.vars) plan.places) in
    let front = and_left (first && second) (code_fits flat (map number plan.places)) h in
    code_says flat plan (same_numbers (length plan.places) flat.vars (and_left first second front)) (and_right first second front)
    (and_right (first && second) (code_fits flat (map number plan.places)) h)

pub fits_since : (flat : Flat) (plan : Plan) → PlanOk flat plan → plan_fits flat plan ≡ true
fits_since flat plan ok =
    let first = nat_eq (length plan.places) flat.vars in
    let second = all_true (map (is_place flat.vars) plan.places) in
    and_both (first && second) (code_fits flat (map number plan.places))
    (and_both first second (equal_numbers (length plan.places) flat.vars ok.one_each) ok.places)
    (code_since flat plan ok.one_each ok.places ok)
