-- Sides over names whose forms keep the limits: what their numbers are at most.
use Rattle.std.proofs.Common.{◌≡◌, refl, sym, ◌∙◌, ap, subst, arith, ℕ, suc, ◌+◌, ◌*◌, ◌≤◌, ◌^◌, Bool, true, false, List, [], ◌∷◌}
use Rattle.std.proofs.Common.{◌++◌, length, Option, Some, None, Result, Ok, Err, ℤ, pos, negsuc, neg_ℤ, ◌+ℤ◌, ◌*ℤ◌, nat_eq}
use Rattle.std.proofs.Common.{nat_le, if◌then◌else◌}
use Rattle.std.specs.Prelude.{is_ok}
use Rattle.std.proofs.lemmas.Bool.{eqb-true, leb-true}
use Rattle.std.proofs.Math.IntN.{*ℤ_comm}
use Rattle.std.proofs.lemmas.Int.{ints}
use Rattle.std.proofs.lemmas.Slice.Eq.{bytes_eq-Decides as bytes_decides}
use Rattle.rup_base.specs.declared.refusal.TypeWhy.{TypeWhy}
use Rattle.rup_base.specs.declared.refusal.TypeWhy.TheVariants.{WideForm}
use Rattle.side_certs.specs.LinearForm.{LinearForm, constant, rises_from}
use Rattle.side_certs.specs.LinearForm as forms
use Rattle.side_certs.specs.Closes.{Near, number_at}
use Rattle.side_certs.proofs.laws.Combinations.{number_plus, number_times, next_plus, next_times}
use Rattle.side_certs.proofs.laws.Limits.{merge_rises, times_rise}
use Rattle.side_certs.specs.Combination.{IsNext, lesser}
use Rattle.side_certs.proofs.laws.Products.{sum_times, times_sum, times_times, near_product}
use Rattle.model_syntax.specs.declared.stmt.Lin.{Lin, Lin-F, map-Lin, roll-Lin, out-Lin, fold-Lin, fold-roll-Lin, ind-Lin}
use Rattle.model_syntax.specs.declared.stmt.Lin.TheFolds.{fold_out-Lin}
use Rattle.model_syntax.specs.declared.stmt.Lin.TheVariants as lin
use Rattle.model_syntax.specs.declared.stmt.Lin.TheVariants.{rolls-Sum, rolls-Scale}
use Rattle.model_syntax.specs.declared.stmt.Lin.TheOpen as l
use Rattle.model_syntax.specs.declared.scope.Term.{Term}
use Rattle.model_syntax.specs.declared.scope.Linear.{Linear}
use Rattle.model_syntax.specs.Answer.{◌>>=◌}
use Rattle.model_syntax.specs.Linear as model
use Rattle.model_syntax.specs.Linear.{number, few, term, more, added, scaled, form}
use Rattle.model_syntax.specs.Names.{Name, same}
use Rattle.sym_heap.specs.Sides.{side, side_step, names, names_step, AllNear, HasSmallConstant, literal}
use Rattle.sym_heap.proofs.Declared.{Answered, answered}
use Rattle.sym_heap.proofs.Limits.{number_is, few_is}

-- a product of numbers, times a whole number
product_groups : (k m : ℕ) (z : ℤ) → pos (k * m) *ℤ z ≡ pos k *ℤ (pos m *ℤ z)
product_groups k m z =
    *ℤ_comm (pos (k * m)) z ∙ sym (times_times z (pos k) m) ∙ ap (λ (y : ℤ). y *ℤ pos m) (*ℤ_comm z (pos k))
    ∙ times_times (pos k) z m ∙ ap (λ (y : ℤ). pos k *ℤ y) (*ℤ_comm z (pos m))

module _ (place : Option ℕ) (f : Name → LinearForm) where
  abbrev g : Name → ℤ
  g x = number_at place (f x)

  -- the names' numbers, each times its factor
  abbrev weight : List Term → ℤ
  weight [] = pos 0
  weight (t ∷ ts) = (pos t.factor *ℤ g t.name) +ℤ weight ts

  abbrev Light : List Term → Type 0
  Light [] = Unit {0}
  Light (t ∷ ts) = Near (2 ^ 40) (g t.name) × (t.factor ≤ 2 ^ 40) × Light ts

  more_weight : (x : Name) (k : ℕ) (ts us : List Term) → Near (2 ^ 40) (g x) → k ≤ 2 ^ 40 → Light ts → more x k ts ≡ Ok us
      → (weight us ≡ weight ts +ℤ (pos k *ℤ g x)) × Light us
  more_weight x k [] us near small all is =
      let one : term x k ∷ [] ≡ us = cc in
      subst (λ (l : List Term). (weight l ≡ pos 0 +ℤ (pos k *ℤ g x)) × Light l) one (omega (arith, ints), (near, small, tt))
  more_weight x k (t ∷ ts) us near small all is =
      by (same t.name x) refl (λ rest r. more_weight x k ts rest near small all.2 r) where
        by : (is_same : Bool) → same t.name x ≡ is_same
            → ((rest : List Term) → more x k ts ≡ Ok rest → (weight rest ≡ weight ts +ℤ (pos k *ℤ g x)) × Light rest)
            → (weight us ≡ weight (t ∷ ts) +ℤ (pos k *ℤ g x)) × Light us
        by true e next =
            let here_is : (number (t.factor + k) >>= (λ n. Ok (term t.name n ∷ ts)))
            ≡ Ok us = subst (λ (b : Bool).
            (if b then (number (t.factor + k) >>= (λ n. Ok (term t.name n ∷ ts)))
            else (more x k ts >>= (λ rest. Ok (t ∷ rest)))) ≡ Ok us) e is in
            let parts : Answered (number (t.factor + k)) (λ n. Ok (term t.name n ∷ ts)) us = answered _ _ us here_is in
            let num_is = number_is (t.factor + k) parts.value parts.one in
            let whole : term t.name parts.value ∷ ts
            ≡ us = (let two : Ok (term t.name parts.value ∷ ts) ≡ Ok us = parts.two in cc) in
            let at : t.name ≡ x = (bytes_decides t.name x).0 e in
            let sum : pos parts.value *ℤ g t.name ≡ (pos t.factor *ℤ g t.name) +ℤ (pos k *ℤ g t.name) =
            ap (λ (n : ℕ). pos n *ℤ g t.name) (sym num_is.0) ∙ sum_times (pos t.factor) (pos k) (g t.name) in
            let same_number : pos k *ℤ g t.name ≡ pos k *ℤ g x = ap (λ (y : Name). pos k *ℤ g y) at in
            subst (λ (l : List Term). (weight l ≡ weight (t ∷ ts) +ℤ (pos k *ℤ g x)) × Light l) whole
            (omega (arith, ints, sum, same_number), (all.0, omega (arith, num_is.0, num_is.1), all.2))
        by false e next =
            let rest_is : (more x k ts >>= (λ rest. Ok (t ∷ rest)))
            ≡ Ok us = subst (λ (b : Bool).
            (if b then (number (t.factor + k) >>= (λ n. Ok (term t.name n ∷ ts)))
            else (more x k ts >>= (λ rest. Ok (t ∷ rest)))) ≡ Ok us) e is in
            let parts : Answered (more x k ts) (λ rest. Ok (t ∷ rest)) us = answered _ _ us rest_is in
            let whole : t ∷ parts.value ≡ us = (let two : Ok (t ∷ parts.value) ≡ Ok us = parts.two in cc) in
            let r = next parts.value parts.one in
            let weight_is = r.0 in
            subst (λ (l : List Term). (weight l ≡ weight (t ∷ ts) +ℤ (pos k *ℤ g x)) × Light l) whole
            (omega (arith, ints, weight_is), (all.0, all.1, r.1))

  few_length : (ts us : List Term) → few ts ≡ Ok us → length us ≤ 16
  few_length ts us is = by (nat_le (length ts) 16) refl where
    by : (short : Bool) → nat_le (length ts) 16 ≡ short → length us ≤ 16
    by true e = let same_list : ts ≡ us = few_is ts us is in let less : length ts ≤ 16 = leb-true _ _ e in
        let sizes = ap length same_list in omega (arith, less, sizes)
    by false e = absurd (let bad : ◌≡◌ {A = Result (List Term) TypeWhy} (Err WideForm) (Ok us) = subst
        (λ (b : Bool). ◌≡◌ {A = Result (List Term) TypeWhy} (if b then Ok ts else Err WideForm) (Ok us)) e is in cc)

  record Heavy (ts us vs : List Term) : Type 0 where
    pub weight_is : weight vs ≡ weight ts +ℤ weight us
    pub light : Light vs
    pub short : length vs ≤ 16

  added_weight : (ts us vs : List Term) → Light ts → Light us → length ts ≤ 16 → added ts us ≡ Ok vs → Heavy ts us vs
  added_weight ts [] vs one two short is = let same_list : ts ≡ vs = cc in
      subst (λ (l : List Term). Heavy ts [] l) same_list (record { weight_is = omega (arith, ints); light = one; short = short })
  added_weight ts (u ∷ us) vs one two short is =
      let first : Answered (more u.name u.factor ts) (λ sum. few sum >>= (λ kept. added kept us)) vs = answered _ _ vs is in
      let m = more_weight u.name u.factor ts first.value two.0 two.1 one first.one in
      let second : Answered (few first.value) (λ kept. added kept us) vs = answered _ _ vs first.two in
      let kept : first.value ≡ second.value = few_is first.value second.value second.one in
      let rest : Heavy second.value us vs =
      added_weight second.value us vs (subst Light kept m.1) two.2 (few_length first.value second.value second.one)
      second.two in
      let a = m.0 in
      let b = rest.weight_is in
      let c = ap weight kept in
      record { weight_is = omega (arith, ints, a, b, c); light = rest.light; short = rest.short }

  record Multiplied (k : ℕ) (ts us : List Term) : Type 0 where
    pub weight_is : weight us ≡ pos k *ℤ weight ts
    pub light : Light us
    pub size : length us ≡ length ts

  scaled_weight : (k : ℕ) (ts us : List Term) → Light ts → scaled k ts ≡ Ok us → Multiplied k ts us
  scaled_weight k [] us all is = let one : [] ≡ us = cc in
      subst (λ (l : List Term). Multiplied k [] l) one (record { weight_is = omega (arith, ints); light = tt; size = refl })
  scaled_weight k (t ∷ ts) us all is =
      let one : Answered (number (k * t.factor)) (λ n. scaled k ts >>= (λ rest. Ok (term t.name n ∷ rest))) us =
      answered _ _ us is in
      let num_is = number_is (k * t.factor) one.value one.one in
      let two : Answered (scaled k ts) (λ rest. Ok (term t.name one.value ∷ rest)) us = answered _ _ us one.two in
      let rest : Multiplied k ts two.value = scaled_weight k ts two.value all.2 two.one in
      let whole : term t.name one.value ∷ two.value
      ≡ us = (let e : Ok (term t.name one.value ∷ two.value) ≡ Ok us = two.two in cc) in
      let head : pos one.value *ℤ g t.name ≡ pos k *ℤ (pos t.factor *ℤ g t.name) =
      ap (λ (n : ℕ). pos n *ℤ g t.name) (sym num_is.0) ∙ product_groups k t.factor (g t.name) in
      let split = times_sum (pos k) (pos t.factor *ℤ g t.name) (weight ts) in
      let tail = rest.weight_is in
      subst (λ (l : List Term). Multiplied k (t ∷ ts) l) whole (record {
        weight_is = omega (arith, ints, head, split, tail);
        light = (all.0, omega (arith, num_is.0, num_is.1), rest.light);
        size = ap suc rest.size;
      })

  weight_near : (ts : List Term) → Light ts → Near (2 ^ 80 * length ts) (weight ts)
  weight_near [] all = (omega (arith, ints), omega (arith, ints))
  weight_near (t ∷ ts) all =
      let first = near_product (2 ^ 40) (2 ^ 40) (pos t.factor) (g t.name) (omega (arith, ints), omega (arith, ints, all.1)) all.0
      in
      let rest = weight_near ts all.2 in
      (omega (arith, ints, first.0, rest.0), omega (arith, ints, first.1, rest.1))

  -- a side's number by its names
  record Weighed (whole : LinearForm) (p : Linear) : Type 0 where
    pub sum : number_at place whole ≡ number_at place (constant (pos p.constant)) +ℤ weight p.terms
    pub light : Light p.terms
    pub short : length p.terms ≤ 16

  base_plus : (a b : ℕ) → number_at place (constant (pos (a + b)))
      ≡ number_at place (constant (pos a)) +ℤ number_at place (constant (pos b))
  base_plus a b = by place where
    by : (o : Option ℕ) → number_at o (constant (pos (a + b))) ≡ number_at o (constant (pos a)) +ℤ number_at o (constant (pos b))
    by None = omega (arith, ints)
    by (Some s) = refl

  base_times : (k a : ℕ) → number_at place (constant (pos (k * a))) ≡ pos k *ℤ number_at place (constant (pos a))
  base_times k a = by place where
    by : (o : Option ℕ) → number_at o (constant (pos (k * a))) ≡ pos k *ℤ number_at o (constant (pos a))
    by None = omega (arith, ints)
    by (Some s) = omega (arith, ints)

  near_front : (xs ys : List Name) → AllNear place f (xs ++ ys) → AllNear place f xs
  near_front [] ys all = tt
  near_front (x ∷ xs) ys all = (all.0, near_front xs ys all.1)

  near_back : (xs ys : List Name) → AllNear place f (xs ++ ys) → AllNear place f ys
  near_back [] ys all = all
  near_back (x ∷ xs) ys all = near_back xs ys all.1

  pub near_both : (xs ys : List Name) → AllNear place f xs → AllNear place f ys → AllNear place f (xs ++ ys)
  near_both [] ys one two = two
  near_both (x ∷ xs) ys one two = (one.0, near_both xs ys one.1 two)

  abbrev Claim : Result Linear TypeWhy → LinearForm → List Name → Type 0
  Claim found whole ns = AllNear place f ns → (p : Linear) → found ≡ Ok p → Weighed whole p

  abbrev IsWeighed : Lin → Type 0
  IsWeighed a = Claim (model.linear a) (side f a) (names a)

  abbrev Proved : Type 0
  Proved = (a : Lin) × IsWeighed a

  abbrev bare : Lin-F Proved → Lin-F Lin
  bare y = map-Lin Proved Lin (λ p. p.0) y

  abbrev StepWeighed : Lin-F Lin → Type 0
  StepWeighed y =
      Claim (model.linear_step (map-Lin Lin (Result Linear TypeWhy) model.linear y))
      (side_step f (map-Lin Lin LinearForm (side f) y)) (names_step (map-Lin Lin (List Name) names y))

  sum_weighed : (p q r : Linear) (a b : LinearForm) → Weighed a p → Weighed b q → model.plus p q ≡ Ok r
      → Weighed (forms.plus a b) r
  sum_weighed p q r a b one two is =
      let first : Answered (number (p.constant + q.constant)) (λ n. added p.terms q.terms >>= (λ ts. Ok (form n ts))) r =
      answered _ _ r is in
      let second : Answered (added p.terms q.terms) (λ ts. Ok (form first.value ts)) r = answered _ _ r first.two in
      let num_is = number_is (p.constant + q.constant) first.value first.one in
      let terms : Heavy p.terms q.terms second.value =
      added_weight p.terms q.terms second.value one.light two.light one.short second.one in
      let whole : form first.value second.value ≡ r = (let e : Ok (form first.value second.value) ≡ Ok r = second.two in cc) in
      let numbers = number_plus place a b in
      let base = ap (λ (n : ℕ). number_at place (constant (pos n))) (sym num_is.0) ∙ base_plus p.constant q.constant in
      let x = one.sum in
      let y = two.sum in
      let z = terms.weight_is in
      subst (λ (l : Linear). Weighed (forms.plus a b) l) whole
      (record { sum = omega (arith, ints, numbers, base, x, y, z); light = terms.light; short = terms.short })

  times_weighed : (k : ℕ) (p r : Linear) (a : LinearForm) → Weighed a p → model.times k p ≡ Ok r
      → Weighed (forms.times (pos k) a) r
  times_weighed k p r a one is = by (nat_eq k 0) refl where
    numbers : number_at place (forms.times (pos k) a) ≡ pos k *ℤ number_at place a
    numbers = number_times place (pos k) a

    scaled_whole : Result Linear TypeWhy
    scaled_whole = number (k * p.constant) >>= (λ n. scaled k p.terms >>= (λ ts. Ok (form n ts)))

    base_nothing : number_at place (constant (pos 0)) ≡ pos 0
    base_nothing = at place where
      at : (o : Option ℕ) → number_at o (constant (pos 0)) ≡ pos 0
      at None = refl
      at (Some s) = refl

    by : (none : Bool) → nat_eq k 0 ≡ none → Weighed (forms.times (pos k) a) r
    by true e =
        let zero_k : k ≡ 0 = eqb-true _ _ e in
        let whole : form 0 [] ≡ r = (let two : Ok (form 0 [])
        ≡ Ok r = subst (λ (b : Bool). (if b then Ok (form 0 []) else scaled_whole) ≡ Ok r) e is in cc) in
        let nothing : pos k *ℤ number_at place a ≡ pos 0 = ap (λ (m : ℕ). pos m *ℤ number_at place a) zero_k ∙ omega (arith, ints)
        in
        let all = numbers in
        let base = base_nothing in
        subst (λ (l : Linear). Weighed (forms.times (pos k) a) l) whole
        (record { sum = omega (arith, ints, all, nothing, base); light = tt; short = omega arith })
    by false e =
        let some : scaled_whole ≡ Ok r = subst (λ (b : Bool). (if b then Ok (form 0 []) else scaled_whole) ≡ Ok r) e is in
        let first : Answered (number (k * p.constant)) (λ n. scaled k p.terms >>= (λ ts. Ok (form n ts))) r =
        answered _ _ r some in
        let second : Answered (scaled k p.terms) (λ ts. Ok (form first.value ts)) r = answered _ _ r first.two in
        let num_is = number_is (k * p.constant) first.value first.one in
        let terms : Multiplied k p.terms second.value = scaled_weight k p.terms second.value one.light second.one in
        let whole : form first.value second.value ≡ r = (let two : Ok (form first.value second.value) ≡ Ok r = second.two in cc)
        in
        let base = ap (λ (n : ℕ). number_at place (constant (pos n))) (sym num_is.0) ∙ base_times k p.constant in
        let all = numbers in
        let x = ap (λ (z : ℤ). pos k *ℤ z) one.sum in
        let split = times_sum (pos k) (number_at place (constant (pos p.constant))) (weight p.terms) in
        let y = terms.weight_is in
        let size = terms.size in
        let less = one.short in
        subst (λ (l : Linear). Weighed (forms.times (pos k) a) l) whole
        (record { sum = omega (arith, ints, all, base, x, split, y); light = terms.light; short = omega (arith, size, less) })

  step_weighed : (y : Lin-F Proved) → StepWeighed (bare y)
  step_weighed (l.Const n) near p is =
      let one : model.form n [] ≡ p = cc in
      subst (λ (q : Linear). Weighed (constant (pos n)) q) one
      (record { sum = omega (arith, ints); light = tt; short = omega arith })
  step_weighed (l.Var x) near p is =
      let one : model.form 0 (model.term x 1 ∷ []) ≡ p = cc in
      subst (λ (q : Linear). Weighed (f x) q) one
      (record { sum = var_sum x place refl; light = (near.0, omega arith, tt); short = omega arith })
    where
      var_sum : (x : Name) (o : Option ℕ) → place ≡ o
          → number_at place (f x) ≡ number_at place (constant (pos 0)) +ℤ ((pos 1 *ℤ number_at place (f x)) +ℤ pos 0)
      var_sum x None e = rw e (omega (arith, ints))
      var_sum x (Some s) e = rw e (omega (arith, ints))
  step_weighed (l.Sum a b) near p is =
      let left : Answered (model.linear a.0) (λ x. model.linear b.0 >>= (λ y. model.plus x y)) p = answered _ _ p is in
      let right : Answered (model.linear b.0) (λ y. model.plus left.value y) p = answered _ _ p left.two in
      sum_weighed left.value right.value p (side f a.0) (side f b.0)
      (a.1 (near_front (names a.0) (names b.0) near) left.value left.one)
      (b.1 (near_back (names a.0) (names b.0) near) right.value right.one) right.two
  step_weighed (l.Scale k a) near p is =
      let inner : Answered (model.linear a.0) (λ x. model.times k x) p = answered _ _ p is in
      times_weighed k inner.value p (side f a.0) (a.1 near inner.value inner.one) inner.two

  rolled : (y : Lin-F Lin) → StepWeighed y → IsWeighed (roll-Lin y)
  rolled y h = rw (
    fold-roll-Lin (Result Linear TypeWhy) model.linear_step y,
    fold-roll-Lin LinearForm (side_step f) y,
    fold-roll-Lin (List Name) names_step y,
  ) h

  weighed : (a : Lin) → IsWeighed a
  weighed = ind-Lin IsWeighed (λ z y is. subst (λ r. IsWeighed (roll-Lin r)) is (rolled (bare y) (step_weighed y)))

  pub side_near : (a : Lin) → is_ok (model.linear a) ≡ true → AllNear place f (names a) → HasSmallConstant a
      → Near (2 ^ 86) (number_at place (side f a))
  side_near a ok near small = by (model.linear a) refl where
    base_near : (n : ℕ) → n ≤ 2 ^ 40 → Near (2 ^ 40) (number_at place (constant (pos n)))
    base_near n less = at place where
      at : (o : Option ℕ) → Near (2 ^ 40) (number_at o (constant (pos n)))
      at None = (omega (arith, ints, less), omega (arith, ints, less))
      at (Some s) = (omega (arith, ints), omega (arith, ints))

    by : (o : Result Linear TypeWhy) → model.linear a ≡ o → Near (2 ^ 86) (number_at place (side f a))
    by (Ok p) e =
        let w = weighed a near p e in
        let terms = weight_near p.terms w.light in
        let base = base_near p.constant (small p e) in
        let sum = w.sum in
        let short = w.short in (
          omega (arith, ints, sum, short, terms.0, terms.1, base.0, base.1),
          omega
              (arith, ints, sum, short, terms.0, terms.1, base.0, base.1),
        )
    by (Err why_) e = absurd (let none : is_ok (model.linear a) ≡ false = rw e refl in let bad : true ≡ false = sym ok ∙ none in
        cc)

-- The constants of sides.

plus_constant : (p q r : Linear) → model.plus p q ≡ Ok r → r.constant ≤ 2 ^ 40
plus_constant p q r is =
    let first : Answered (number (p.constant + q.constant)) (λ n. added p.terms q.terms >>= (λ ts. Ok (form n ts))) r =
    answered _ _ r is in
    let second : Answered (added p.terms q.terms) (λ ts. Ok (form first.value ts)) r = answered _ _ r first.two in
    let num_is = number_is (p.constant + q.constant) first.value first.one in
    let whole : form first.value second.value ≡ r = (let e : Ok (form first.value second.value) ≡ Ok r = second.two in cc) in
    subst (λ (l : Linear). l.constant ≤ 2 ^ 40) whole (omega (arith, num_is.0, num_is.1))

times_constant : (k : ℕ) (p r : Linear) → model.times k p ≡ Ok r → r.constant ≤ 2 ^ 40
times_constant k p r is = by (nat_eq k 0) refl where
  scaled_whole : Result Linear TypeWhy
  scaled_whole = number (k * p.constant) >>= (λ n. scaled k p.terms >>= (λ ts. Ok (form n ts)))

  by : (none : Bool) → nat_eq k 0 ≡ none → r.constant ≤ 2 ^ 40
  by true e =
      let whole : form 0 [] ≡ r = (let two : Ok (form 0 [])
      ≡ Ok r = subst (λ (b : Bool). (if b then Ok (form 0 []) else scaled_whole) ≡ Ok r) e is in cc) in
      subst (λ (l : Linear). l.constant ≤ 2 ^ 40) whole (omega arith)
  by false e =
      let some : scaled_whole ≡ Ok r = subst (λ (b : Bool). (if b then Ok (form 0 []) else scaled_whole) ≡ Ok r) e is in
      let first : Answered (number (k * p.constant)) (λ n. scaled k p.terms >>= (λ ts. Ok (form n ts))) r = answered _ _ r some in
      let second : Answered (scaled k p.terms) (λ ts. Ok (form first.value ts)) r = answered _ _ r first.two in
      let num_is = number_is (k * p.constant) first.value first.one in
      let whole : form first.value second.value ≡ r = (let two : Ok (form first.value second.value) ≡ Ok r = second.two in cc) in
      subst (λ (l : Linear). l.constant ≤ 2 ^ 40) whole (omega (arith, num_is.0, num_is.1))

-- a literal is small, and the constants of all other sides are judged
pub small_constant : (a : Lin) (o : Option ℕ) → o ≡ literal a → ((n : ℕ) → o ≡ Some n → n ≤ 2 ^ 40) → HasSmallConstant a
small_constant a o is small p linear_is =
    by (out-Lin a) refl (sym (fold_out-Lin (Result Linear TypeWhy) model.linear_step a) ∙ linear_is) where
      by : (y : Lin-F Lin) → out-Lin a ≡ y → model.linear_step (map-Lin Lin (Result Linear TypeWhy) model.linear (out-Lin a))
          ≡ Ok p
          → p.constant ≤ 2 ^ 40
      by (l.Const n) e q =
          let one : Ok (model.form n []) ≡ Ok p = rw e at q in
          let whole : model.form n [] ≡ p = cc in
          let here : o ≡ Some n = is ∙ rw e refl in
          subst (λ (l : Linear). l.constant ≤ 2 ^ 40) whole (small n here)
      by (l.Var x) e q =
          let one : Ok (model.form 0 (model.term x 1 ∷ [])) ≡ Ok p = rw e at q in
          let whole : model.form 0 (model.term x 1 ∷ []) ≡ p = cc in
          subst (λ (l : Linear). l.constant ≤ 2 ^ 40) whole (omega arith)
      by (l.Sum b d) e q =
          let left : Answered (model.linear b) (λ x. model.linear d >>= (λ y. model.plus x y)) p = answered _ _ p (rw e at q) in
          let right : Answered (model.linear d) (λ y. model.plus left.value y) p = answered _ _ p left.two in
          plus_constant left.value right.value p right.two
      by (l.Scale k b) e q =
          let inner : Answered (model.linear b) (λ x. model.times k x) p = answered _ _ p (rw e at q) in
          times_constant k inner.value p inner.two

-- Sides by their parts.

fold_of_sum : {A : Type 0} (step : Lin-F A → A) (a p q : Lin) → a ≡ lin.Sum p q
    → fold-Lin A step a ≡ step (l.Sum (fold-Lin A step p) (fold-Lin A step q))
fold_of_sum {A} step a p q is = ap (fold-Lin A step) (is ∙ sym (rolls-Sum p q)) ∙ fold-roll-Lin A step (l.Sum p q)

fold_of_multiple : {A : Type 0} (step : Lin-F A → A) (a : Lin) (k : ℕ) (p : Lin) → a ≡ lin.Scale k p
    → fold-Lin A step a ≡ step (l.Scale k (fold-Lin A step p))
fold_of_multiple {A} step a k p is = ap (fold-Lin A step) (is ∙ sym (rolls-Scale k p)) ∙ fold-roll-Lin A step (l.Scale k p)

pub number_of_sum : (place : Option ℕ) (f : Name → LinearForm) (a p q : Lin) → a ≡ lin.Sum p q
    → number_at place (side f a) ≡ number_at place (side f p) +ℤ number_at place (side f q)
number_of_sum place f a p q is = ap (number_at place) (fold_of_sum (side_step f) a p q is)
    ∙ number_plus place (side f p) (side f q)

pub number_of_multiple : (place : Option ℕ) (f : Name → LinearForm) (a : Lin) (k : ℕ) (p : Lin) → a ≡ lin.Scale k p
    → number_at place (side f a) ≡ pos k *ℤ number_at place (side f p)
number_of_multiple place f a k p is = ap (number_at place) (fold_of_multiple (side_step f) a k p is)
    ∙ number_times place (pos k) (side f p)

pub names_of_sum : (a p q : Lin) → a ≡ lin.Sum p q → names a ≡ names p ++ names q
names_of_sum a p q is = fold_of_sum names_step a p q is

pub small_sum : (a p q : Lin) → a ≡ lin.Sum p q → HasSmallConstant a
small_sum a p q is r linear_is =
    let whole : model.linear_step (l.Sum (model.linear p) (model.linear q))
    ≡ Ok r = sym (fold_of_sum model.linear_step a p q is) ∙ linear_is in
    let left : Answered (model.linear p) (λ x. model.linear q >>= (λ y. model.plus x y)) r = answered _ _ r whole in
    let right : Answered (model.linear q) (λ y. model.plus left.value y) r = answered _ _ r left.two in
    plus_constant left.value right.value r right.two

pub next_of_sum : (f : Name → LinearForm) (a p q : Lin) (least : ℕ) (s r : Option ℕ) → a ≡ lin.Sum p q → IsNext (side f p) least s
    → IsNext (side f q) least r → IsNext (side f a) least (lesser s r)
next_of_sum f a p q least s r is one two =
    subst (λ (g : LinearForm). IsNext g least (lesser s r)) (sym (fold_of_sum (side_step f) a p q is))
    (next_plus (side f p) (side f q) least s r one two)

pub next_of_multiple : (f : Name → LinearForm) (a : Lin) (k : ℕ) (p : Lin) (least : ℕ) (s : Option ℕ) → a ≡ lin.Scale k p
    → IsNext (side f p) least s → IsNext (side f a) least s
next_of_multiple f a k p least s is one =
    subst (λ (g : LinearForm). IsNext g least s) (sym (fold_of_multiple (side_step f) a k p is))
    (next_times (pos k) (side f p) least s one)

pub sum_rises : (f : Name → LinearForm) (a p q : Lin) → a ≡ lin.Sum p q → rises_from 0 (side f p).terms ≡ true
    → rises_from 0 (side f q).terms ≡ true → rises_from 0 (side f a).terms ≡ true
sum_rises f a p q is one two =
    subst (λ (g : LinearForm). rises_from 0 g.terms ≡ true) (sym (fold_of_sum (side_step f) a p q is))
    (merge_rises (side f p).terms (side f q).terms 0 one two)

pub multiple_rises : (f : Name → LinearForm) (a : Lin) (k : ℕ) (p : Lin) → a ≡ lin.Scale k p
    → rises_from 0 (side f p).terms ≡ true → rises_from 0 (side f a).terms ≡ true
multiple_rises f a k p is one =
    subst (λ (g : LinearForm). rises_from 0 g.terms ≡ true) (sym (fold_of_multiple (side_step f) a k p is))
    (times_rise (pos k) 0 (side f p).terms one)

-- Differences.

pub number_of_difference : (place : Option ℕ) (f g : LinearForm)
    → number_at place (forms.minus f g) ≡ number_at place f +ℤ neg_ℤ (number_at place g)
number_of_difference place f g =
    let whole = number_plus place f (forms.times (negsuc 0) g) in
    let other = number_times place (negsuc 0) g in
    omega (arith, ints, whole, other)

pub next_of_difference : (f g : LinearForm) (least : ℕ) (s r : Option ℕ) → IsNext f least s → IsNext g least r
    → IsNext (forms.minus f g) least (lesser s r)
next_of_difference f g least s r one two =
    next_plus f (forms.times (negsuc 0) g) least s r one (next_times (negsuc 0) g least r two)

pub difference_rises : (f g : LinearForm) → rises_from 0 f.terms ≡ true → rises_from 0 g.terms ≡ true
    → rises_from 0 (forms.minus f g).terms ≡ true
difference_rises f g one two = merge_rises f.terms (forms.times (negsuc 0) g).terms 0 one (times_rise (negsuc 0) 0 g.terms two)

pub names_of_multiple : (a : Lin) (k : ℕ) (p : Lin) → a ≡ lin.Scale k p → names a ≡ names p
names_of_multiple a k p is = fold_of_multiple names_step a k p is

pub small_multiple : (a : Lin) (k : ℕ) (p : Lin) → a ≡ lin.Scale k p → HasSmallConstant a
small_multiple a k p is r linear_is =
    let whole : model.linear_step (l.Scale k (model.linear p))
    ≡ Ok r = sym (fold_of_multiple model.linear_step a k p is) ∙ linear_is in
    let inner : Answered (model.linear p) (λ x. model.times k x) r = answered _ _ r whole in
    times_constant k inner.value r inner.two
