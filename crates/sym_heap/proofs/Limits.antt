-- Sides over names with numbers of their own: their forms have the same numbers.
use Rattle.std.proofs.Common.{◌≡◌, refl, sym, ◌∙◌, ap, subst, arith, ℕ, ◌+◌, ◌*◌, ◌≤◌, ◌^◌, Bool, true, false, List, [], ◌∷◌}
use Rattle.std.proofs.Common.{length, Result, Ok, Err, ℤ, pos, ◌*ℤ◌, nat_eq, nat_le, if◌then◌else◌}
use Rattle.std.proofs.Math.Nat.{mul-add}
use Rattle.std.proofs.lemmas.Bool.{eqb-true, leb-true}
use Rattle.std.proofs.lemmas.Int.{ints}
use Rattle.std.proofs.lemmas.Slice.Eq.{bytes_eq-Decides as bytes_decides}
use Rattle.rup_base.specs.declared.refusal.TypeWhy.{TypeWhy}
use Rattle.rup_base.specs.declared.refusal.TypeWhy.TheVariants.{WideForm}
use Rattle.side_certs.specs.LinearForm.{LinearForm, constant, symbol, is_small, is_within, within, rises_from, merge, terms_times}
use Rattle.side_certs.specs.LinearForm.{coefficient, share}
use Rattle.side_certs.specs.LinearForm as linear
use Rattle.side_certs.proofs.laws.Limits.{merge_rises, times_rise}
use Rattle.model_syntax.specs.declared.scope.Term.{Term}
use Rattle.model_syntax.specs.declared.scope.Linear.{Linear}
use Rattle.model_syntax.specs.Linear.{number, few, term, more, added, scaled, form, times, plus}
use Rattle.model_syntax.specs.Answer.{◌>>=◌}
use Rattle.model_syntax.specs.Names.{Name, same}
use Rattle.side_certs.proofs.laws.Coefficients.{coefficient_merge, coefficient_times, Below, below_merge, below_times}
use Rattle.sym_heap.proofs.Declared.{Answered, answered}

pub number_is : (n k : ℕ) → number n ≡ Ok k → (n ≡ k) × (n ≤ 2 ^ 40)
number_is n k is = by (nat_le n (2 ^ 40)) refl where
  by : (small : Bool) → nat_le n (2 ^ 40) ≡ small → (n ≡ k) × (n ≤ 2 ^ 40)
  by true e = (
    (let one : ◌≡◌ {A = Result ℕ TypeWhy} (Ok n) (Ok k) = subst
        (λ (b : Bool). ◌≡◌ {A = Result ℕ TypeWhy} (if b then Ok n else Err WideForm) (Ok k)) e is in cc),
    leb-true _ _ e,
  )
  by false e = absurd (let one : ◌≡◌ {A = Result ℕ TypeWhy} (Err WideForm) (Ok k) = subst
      (λ (b : Bool). ◌≡◌ {A = Result ℕ TypeWhy} (if b then Ok n else Err WideForm) (Ok k)) e is in cc)

pub few_is : (ts us : List Term) → few ts ≡ Ok us → ts ≡ us
few_is ts us is = by (nat_le (length ts) 16) refl where
  by : (short : Bool) → nat_le (length ts) 16 ≡ short → ts ≡ us
  by true e = let one : ◌≡◌ {A = Result (List Term) TypeWhy} (Ok ts) (Ok us) =
      subst (λ (b : Bool). ◌≡◌ {A = Result (List Term) TypeWhy} (if b then Ok ts else Err WideForm) (Ok us)) e is in cc
  by false e = absurd (let one : ◌≡◌ {A = Result (List Term) TypeWhy} (Err WideForm) (Ok us) = subst
      (λ (b : Bool). ◌≡◌ {A = Result (List Term) TypeWhy} (if b then Ok ts else Err WideForm) (Ok us)) e is in cc)

-- Names that are known have numbers, of which no two are equal.
module _ (num : Name → ℕ) (Known : Name → Type 0) (apart : (x y : Name) → Known x → Known y → num x ≡ num y → x ≡ y) where
  -- the factors of a number, summed, and the first of them
  abbrev pub total : ℕ → List Term → ℕ
  total s [] = 0
  total s (t ∷ ts) = (if nat_eq (num t.name) s then t.factor else 0) + total s ts

  abbrev pub first : ℕ → List Term → ℕ
  first s [] = 0
  first s (t ∷ ts) = if nat_eq (num t.name) s then t.factor else first s ts

  -- known names with small factors
  abbrev pub AllGood : List Term → Type 0
  AllGood [] = Unit {0}
  AllGood (t ∷ ts) = Known t.name × (t.factor ≤ 2 ^ 40) × AllGood ts

  -- each number has one factor
  pub record Good (ts : List Term) : Type 0 where
    pub all : AllGood ts
    pub once : (s : ℕ) → total s ts ≡ first s ts

  first_small : (s : ℕ) (ts : List Term) → AllGood ts → first s ts ≤ 2 ^ 40
  first_small s [] all = omega arith
  first_small s (t ∷ ts) all = by (nat_eq (num t.name) s) (first_small s ts all.2) where
    by : (b : Bool) → first s ts ≤ 2 ^ 40 → (if b then t.factor else first s ts) ≤ 2 ^ 40
    by true rest = all.1
    by false rest = rest

  pub total_small : (s : ℕ) (ts : List Term) → Good ts → total s ts ≤ 2 ^ 40
  total_small s ts good = let one = good.once s in let small = first_small s ts good.all in omega (arith, one, small)

  abbrev here : Name → ℕ → ℕ → ℕ
  here x k s = if nat_eq (num x) s then k else 0

  record More (x : Name) (k : ℕ) (ts us : List Term) : Type 0 where
    pub all : AllGood us
    pub total_is : (s : ℕ) → total s us ≡ total s ts + here x k s
    pub first_is : (s : ℕ) → first s us ≡ first s ts + here x k s

  more_is : (x : Name) (k : ℕ) (ts us : List Term) → Known x → k ≤ 2 ^ 40 → AllGood ts → more x k ts ≡ Ok us → More x k ts us
  more_is x k [] us known small all is =
      let one : term x k ∷ [] ≡ us = cc in
      subst (λ (l : List Term). More x k [] l) one
      (record { all = (known, small, tt); total_is = λ s. omega arith; first_is = λ s. omega arith })
  more_is x k (t ∷ ts) us known small all is = by (same t.name x) refl (λ rest r. more_is x k ts rest known small all.2 r) where
    found : t.name ≡ x → (n : ℕ) → t.factor + k ≡ n → n ≤ 2 ^ 40 → More x k (t ∷ ts) (term t.name n ∷ ts)
    found at n sum small_n = record {
      all = (all.0, small_n, all.2);
      total_is = λ s. rw (← at) (one (nat_eq (num t.name) s) (total s ts));
      first_is = λ s. rw (← at) (two (nat_eq (num t.name) s) (first s ts));
    } where
      one : (b : Bool) (r : ℕ) → (if b then n else 0) + r ≡ ((if b then t.factor else 0) + r) + (if b then k else 0)
      one true r = omega (arith, sum)
      one false r = omega arith

      two : (b : Bool) (r : ℕ) → (if b then n else r) ≡ (if b then t.factor else r) + (if b then k else 0)
      two true r = sym sum
      two false r = omega arith

    behind : same t.name x ≡ false → (rest : List Term) → More x k ts rest → More x k (t ∷ ts) (t ∷ rest)
    behind differ rest m = record {
      all = (all.0, all.1, m.all);
      total_is = λ s. let r = m.total_is s in omega (arith, r);
      first_is = λ s. two s (nat_eq (num t.name) s) refl (nat_eq (num x) s) refl (m.first_is s);
    } where
      two : (s : ℕ) (b : Bool) → nat_eq (num t.name) s ≡ b → (d : Bool) → nat_eq (num x) s ≡ d
          → first s rest ≡ first s ts + here x k s
          → first s (t ∷ rest) ≡ first s (t ∷ ts) + here x k s
      two s true e true d r =
          let at_t : num t.name ≡ s = eqb-true _ _ e in
          let at_x : num x ≡ s = eqb-true _ _ d in
          let equal : t.name ≡ x = apart t.name x all.0 known (at_t ∙ sym at_x) in
          let yes : same t.name x ≡ true = (bytes_decides t.name x).1 equal in
          absurd (let bad : true ≡ false = sym yes ∙ differ in cc)
      two s true e false d r = rw (e, d) (omega arith)
      two s false e g d r = rw e r

    by : (is_same : Bool) → same t.name x ≡ is_same → ((rest : List Term) → more x k ts ≡ Ok rest → More x k ts rest)
        → More x k (t ∷ ts) us
    by true e next =
        let here_is : (number (t.factor + k) >>= (λ n. Ok (term t.name n ∷ ts)))
        ≡ Ok us = subst (λ (b : Bool).
        (if b then (number (t.factor + k) >>= (λ n. Ok (term t.name n ∷ ts)))
        else (more x k ts >>= (λ rest. Ok (t ∷ rest)))) ≡ Ok us) e is in
        let parts : Answered (number (t.factor + k)) (λ n. Ok (term t.name n ∷ ts)) us = answered _ _ us here_is in
        let num_is = number_is (t.factor + k) parts.value parts.one in
        let whole : term t.name parts.value ∷ ts ≡ us = (let two : Ok (term t.name parts.value ∷ ts) ≡ Ok us = parts.two in cc) in
        subst (λ (l : List Term). More x k (t ∷ ts) l) whole
        (found ((bytes_decides t.name x).0 e) parts.value num_is.0 (omega (arith, num_is.0, num_is.1)))
    by false e next =
        let rest_is : (more x k ts >>= (λ rest. Ok (t ∷ rest)))
        ≡ Ok us = subst (λ (b : Bool).
        (if b then (number (t.factor + k) >>= (λ n. Ok (term t.name n ∷ ts)))
        else (more x k ts >>= (λ rest. Ok (t ∷ rest)))) ≡ Ok us) e is in
        let parts : Answered (more x k ts) (λ rest. Ok (t ∷ rest)) us = answered _ _ us rest_is in
        let whole : t ∷ parts.value ≡ us = (let two : Ok (t ∷ parts.value) ≡ Ok us = parts.two in cc) in
        subst (λ (l : List Term). More x k (t ∷ ts) l) whole (behind e parts.value (next parts.value parts.one))

  record Added (ts us vs : List Term) : Type 0 where
    pub good : Good vs
    pub total_is : (s : ℕ) → total s vs ≡ total s ts + total s us

  added_is : (ts us vs : List Term) → Good ts → AllGood us → added ts us ≡ Ok vs → Added ts us vs
  added_is ts [] vs good all is = let one : ts ≡ vs = cc in
      subst (λ (l : List Term). Added ts [] l) one (record { good = good; total_is = λ s. omega arith })
  added_is ts (u ∷ us) vs good all is =
      let one : Answered (more u.name u.factor ts) (λ sum. few sum >>= (λ kept. added kept us)) vs = answered _ _ vs is in
      let m : More u.name u.factor ts one.value = more_is u.name u.factor ts one.value all.0 all.1 good.all one.one in
      let two : Answered (few one.value) (λ kept. added kept us) vs = answered _ _ vs one.two in
      let short : one.value ≡ two.value = few_is one.value two.value two.one in
      let sum_good : Good one.value =
      record {
        all = m.all;
        once = λ s. let a = m.total_is s in let b = m.first_is s in let c = good.once s in
            omega (arith, a, b, c);
      } in
      let rest : Added two.value us vs = added_is two.value us vs (subst (λ (l : List Term). Good l) short sum_good) all.2 two.two
      in
      record {
        good = rest.good;
        total_is = λ s. let a = m.total_is s in let b = rest.total_is s in let c : total s one.value
            ≡ total s two.value = ap (total s) short in omega (arith, a, b, c);
      }

  record Scaled (k : ℕ) (ts us : List Term) : Type 0 where
    pub all : AllGood us
    pub total_is : (s : ℕ) → total s us ≡ k * total s ts
    pub first_is : (s : ℕ) → first s us ≡ k * first s ts

  scaled_is : (k : ℕ) (ts us : List Term) → AllGood ts → scaled k ts ≡ Ok us → Scaled k ts us
  scaled_is k [] us all is = let one : [] ≡ us = cc in
      subst (λ (l : List Term). Scaled k [] l) one (record { all = tt; total_is = λ s. omega arith; first_is = λ s. omega arith })
  scaled_is k (t ∷ ts) us all is =
      let one : Answered (number (k * t.factor)) (λ n. scaled k ts >>= (λ rest. Ok (term t.name n ∷ rest))) us =
      answered _ _ us is in
      let num_is = number_is (k * t.factor) one.value one.one in
      let two : Answered (scaled k ts) (λ rest. Ok (term t.name one.value ∷ rest)) us = answered _ _ us one.two in
      let rest : Scaled k ts two.value = scaled_is k ts two.value all.2 two.one in
      let whole : term t.name one.value ∷ two.value
      ≡ us = (let e : Ok (term t.name one.value ∷ two.value) ≡ Ok us = two.two in cc) in
      subst (λ (l : List Term). Scaled k (t ∷ ts) l) whole (record {
        all = (all.0, omega (arith, num_is.0, num_is.1), rest.all);
        total_is = λ s. total_by (nat_eq (num t.name) s) (total s ts) (total s two.value) one.value num_is.0 (rest.total_is s);
        first_is = λ s. first_by (nat_eq (num t.name) s) (first s ts) (first s two.value) one.value num_is.0 (rest.first_is s);
      }) where
        total_by : (b : Bool) (r q n : ℕ) → k * t.factor ≡ n → q ≡ k * r
            → (if b then n else 0) + q ≡ k * ((if b then t.factor else 0) + r)
        total_by true r q n at is = let sums : k * (t.factor + r) ≡ k * t.factor + k * r = mul-add k t.factor r in
            omega (arith, at, is, sums)
        total_by false r q n at is = omega (arith, is)

        first_by : (b : Bool) (r q n : ℕ) → k * t.factor ≡ n → q ≡ k * r → (if b then n else q) ≡ k * (if b then t.factor else r)
        first_by true r q n at is = sym at
        first_by false r q n at is = is

  -- Forms that have the same numbers.

  pub record Like (p : Linear) (f : LinearForm) : Type 0 where
    pub good : Good p.terms
    pub constant_is : f.constant ≡ pos p.constant
    pub coefficient_is : (s : ℕ) → coefficient s f.terms ≡ pos (total s p.terms)
    pub rises : rises_from 0 f.terms ≡ true
    pub below : Below 8 f.terms

  pub sum_like : (p q r : Linear) (f g : LinearForm) → Like p f → Like q g → plus p q ≡ Ok r → Like r (linear.plus f g)
  sum_like p q r f g one two is =
      let first_part : Answered (number (p.constant + q.constant)) (λ n. added p.terms q.terms >>= (λ ts. Ok (form n ts))) r =
      answered _ _ r is in
      let second_part : Answered (added p.terms q.terms) (λ ts. Ok (form first_part.value ts)) r = answered _ _ r first_part.two
      in
      let num_is = number_is (p.constant + q.constant) first_part.value first_part.one in
      let terms : Added p.terms q.terms second_part.value =
      added_is p.terms q.terms second_part.value one.good two.good.all second_part.one in
      let whole : form first_part.value second_part.value
      ≡ r = (let e : Ok (form first_part.value second_part.value) ≡ Ok r = second_part.two in cc) in
      subst (λ (l : Linear). Like l (linear.plus f g)) whole (record {
        good = terms.good;
        constant_is = (let x = one.constant_is in let y = two.constant_is in let n = num_is.0 in omega (arith, ints, x, y, n));
        coefficient_is = λ s. (let x = one.coefficient_is s in let y = two.coefficient_is s in
            let z = coefficient_merge s f.terms g.terms in let t = terms.total_is s in omega (arith, ints, x, y, z, t));
        rises = merge_rises f.terms g.terms 0 one.rises two.rises;
        below = below_merge 8 f.terms g.terms one.below two.below;
      })

  product : (k n : ℕ) (z : ℤ) → z ≡ pos n → (pos k *ℤ z) ≡ pos (k * n)
  product k n z is = rw is (omega (arith, ints))

  none_like : (p : Linear) (f : LinearForm) → Like p f → Like (form 0 []) (linear.times (pos 0) f)
  none_like p f one = record {
    good = record { all = tt; once = λ s. refl };
    constant_is = (let x = product 0 p.constant f.constant one.constant_is in omega (arith, ints, x));
    coefficient_is = λ s. (let x = coefficient_times s (pos 0) f.terms in
        let y = product 0 (total s p.terms) (coefficient s f.terms) (one.coefficient_is s) in omega (arith, ints, x, y));
    rises = times_rise (pos 0) 0 f.terms one.rises;
    below = below_times 8 (pos 0) f.terms one.below;
  }

  pub times_like : (k : ℕ) (p r : Linear) (f : LinearForm) → Like p f → times k p ≡ Ok r → Like r (linear.times (pos k) f)
  times_like k p r f one is = by (nat_eq k 0) refl where
    scaled_whole : Result Linear TypeWhy
    scaled_whole = number (k * p.constant) >>= (λ n. scaled k p.terms >>= (λ ts. Ok (form n ts)))

    by : (none : Bool) → nat_eq k 0 ≡ none → Like r (linear.times (pos k) f)
    by true e =
        let zero_k : k ≡ 0 = eqb-true _ _ e in
        let whole : form 0 [] ≡ r = (let two : Ok (form 0 [])
        ≡ Ok r = subst (λ (b : Bool). (if b then Ok (form 0 []) else scaled_whole) ≡ Ok r) e is in cc) in
        subst (λ (m : ℕ). Like r (linear.times (pos m) f)) (sym zero_k)
        (subst (λ (l : Linear). Like l (linear.times (pos 0) f)) whole (none_like p f one))
    by false e =
        let some : scaled_whole ≡ Ok r = subst (λ (b : Bool). (if b then Ok (form 0 []) else scaled_whole) ≡ Ok r) e is in
        let first_part : Answered (number (k * p.constant)) (λ n. scaled k p.terms >>= (λ ts. Ok (form n ts))) r =
        answered _ _ r some in
        let second_part : Answered (scaled k p.terms) (λ ts. Ok (form first_part.value ts)) r = answered _ _ r first_part.two in
        let num_is = number_is (k * p.constant) first_part.value first_part.one in
        let terms : Scaled k p.terms second_part.value = scaled_is k p.terms second_part.value one.good.all second_part.one in
        let whole : form first_part.value second_part.value
        ≡ r = (let two : Ok (form first_part.value second_part.value) ≡ Ok r = second_part.two in cc) in
        subst (λ (l : Linear). Like l (linear.times (pos k) f)) whole (record {
          good = record {
            all = terms.all;
            once = λ s. terms.total_is s ∙ ap (λ (n : ℕ). k * n) (one.good.once s) ∙ sym (terms.first_is s);
          };
          constant_is = (let x = product k p.constant f.constant one.constant_is in x ∙ ap pos num_is.0);
          coefficient_is = λ s. coefficient_times s (pos k) f.terms
              ∙ product k (total s p.terms) (coefficient s f.terms) (one.coefficient_is s) ∙ ap pos (sym (terms.total_is s));
          rises = times_rise (pos k) 0 f.terms one.rises;
          below = below_times 8 (pos k) f.terms one.below;
        })
