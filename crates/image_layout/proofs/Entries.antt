-- Reading the entries of a list one after another, as a loop does.
use Rattle.std.proofs.Common.{◌≡◌, ℕ, suc, ◌+◌, ◌-◌, ◌<◌, ◌≤◌, Bool, true, false, List, [], ◌∷◌, ◌++◌, Option, Some, None, Ok}
use Rattle.std.proofs.Common.{Err, refl, sym, ap, ◌∙◌, append_assoc, arith}
use Rattle.std.specs.Prelude.{if◌then◌else◌}
use Rattle.std.proofs.lemmas.List.{append-nil}
use Rattle.rup_base.specs.Answers.{Answers}
use Rattle.rup_base.specs.declared.fail.Fail.{Fail}
use Rattle.rup_base.specs.declared.fail.Fail.TheVariants.{Refused, NoMemory}
use Rattle.rup_base.specs.declared.refusal.Refusal.{Refusal}
use Rattle.rup_base.specs.declared.refusal.Refusal.TheVariants.{NotImage}
use Rattle.image_layout.specs.Reading.{Field, first_wrong, verdict, judged, Entries, fields_of, values_of, end_of}

-- Judgements.

pub wrong-none : (xs ys : List Field) → first_wrong xs ≡ None → first_wrong (xs ++ ys) ≡ first_wrong ys
wrong-none [] ys h = refl
wrong-none (x ∷ xs) ys h = by_test (λ h. wrong-none xs ys h) x.right refl
  where
    by_test : (first_wrong xs ≡ None → first_wrong (xs ++ ys) ≡ first_wrong ys) → (right : Bool) → x.right ≡ right
        → first_wrong ((x ∷ xs) ++ ys) ≡ first_wrong ys
    by_test others true e = rw e (others (rw e at h))
    by_test others false e = absurd (let bad : ◌≡◌ {A = Option ℕ} (Some x.at) None = rw e at h in cc)

pub wrong-some : (xs ys : List Field) (a : ℕ) → first_wrong xs ≡ Some a → first_wrong (xs ++ ys) ≡ Some a
wrong-some [] ys a h = absurd (cc)
wrong-some (x ∷ xs) ys a h = by_test (λ h. wrong-some xs ys a h) x.right refl
  where
    by_test : (first_wrong xs ≡ Some a → first_wrong (xs ++ ys) ≡ Some a) → (right : Bool) → x.right ≡ right
        → first_wrong ((x ∷ xs) ++ ys) ≡ Some a
    by_test others true e = rw e (others (rw e at h))
    by_test others false e = rw e (rw e at h)

pub verdict_ok : {A : Type 0} (o : Option ℕ) (v x : A) → verdict o v ≡ Ok x → (o ≡ None) × (v ≡ x)
verdict_ok None v x e = (refl, cc)
verdict_ok (Some a) v x e = absurd (cc)

pub verdict_err : {A : Type 0} (o : Option ℕ) (v : A) (r : Refusal) → verdict o v ≡ Err r
    → (a : ℕ) × (o ≡ Some a) × (r ≡ NotImage a)
verdict_err None v r e = absurd (cc)
verdict_err (Some a) v r e = (a, refl, cc)

-- behind the same fields, lists of fields with the same first wrong field have the same
pub between : (xs ys zs : List Field) → first_wrong ys ≡ first_wrong zs → first_wrong (xs ++ ys) ≡ first_wrong (xs ++ zs)
between [] ys zs h = h
between (x ∷ xs) ys zs h = ap (λ (o : Option ℕ). if x.right then o else Some x.at) (between xs ys zs h)

-- what is wrong in the first of two lists of fields is wrong in both
pub wrong_first : {A B : Type 0} (xs ys : List Field) (f : Fail) (v : A) (w : B) → Answers {T = A} (Err f) (judged xs v)
    → Answers {T = B} (Err f) (judged (xs ++ ys) w)
wrong_first {B = B} xs ys NoMemory v w h = tt
wrong_first xs ys (Refused r) v w h =
    let p = verdict_err (first_wrong xs) v r h in
    ap (λ (o : Option ℕ). verdict o w) (wrong-some xs ys p.0 p.1) ∙ ap Err (sym p.2)

-- what is wrong in the second is wrong in both, where nothing is in the first
pub wrong_second : {A B : Type 0} (xs ys : List Field) (f : Fail) (v : A) (w : B) → first_wrong xs ≡ None
    → Answers {T = A} (Err f) (judged ys v) → Answers {T = B} (Err f) (judged (xs ++ ys) w)
wrong_second xs ys NoMemory v w right h = tt
wrong_second xs ys (Refused r) v w right h =
    let p = verdict_err (first_wrong ys) v r h in
    ap (λ (o : Option ℕ). verdict o w) (wrong-none xs ys right ∙ p.1) ∙ ap Err (sym p.2)

-- what is wrong in a list of fields is so whatever the value
pub wrong_alone : {A B : Type 0} (xs : List Field) (f : Fail) (v : A) (w : B) → Answers {T = A} (Err f) (judged xs v)
    → Answers {T = B} (Err f) (judged xs w)
wrong_alone {B = B} xs NoMemory v w h = tt
wrong_alone xs (Refused r) v w h =
    let p = verdict_err (first_wrong xs) v r h in
    ap (λ (o : Option ℕ). verdict o w) p.1 ∙ ap Err (sym p.2)

abbrev pub done : Unit {0}
done = tt

-- The way through a list: the entries before, and how many are left from an offset on.

pub record OnTheWay {A : Type 0} (e : Entries A) (count start : ℕ) (before : List A) (left at : ℕ) : Type 0 where
  pub same : first_wrong (fields_of e before left at) ≡ first_wrong (fields_of e [] count start)
  pub values : before ++ values_of e left at ≡ values_of e count start
  pub ends : end_of e left at ≡ end_of e count start

pub starts : {A : Type 0} (e : Entries A) (count start : ℕ) → OnTheWay e count start [] (count - 0) start
starts e count start = let n : count - 0 ≡ count = omega arith in rw n (record { same = refl; values = refl; ends = refl })

pub goes_on : {A : Type 0} (e : Entries A) (count start : ℕ) (before : List A) (i at : ℕ) (x : A) → i < count
    → judged (e.fields before at) (e.value at) ≡ Ok x
    → OnTheWay e count start before (count - i) at → OnTheWay e count start (before ++ x ∷ []) (count - (i + 1)) (at + e.size x)
goes_on e count start before i at x lt right so_far =
    let n : count - i ≡ suc (count - (i + 1)) = omega arith in
    let p = verdict_ok (first_wrong (e.fields before at)) (e.value at) x right in
    let value = p.1 in
    let now : OnTheWay e count start before (suc (count - (i + 1))) at = rw n at so_far in
    rw (← value) (record {
      same = sym (wrong-none (e.fields before at)
          (fields_of e (before ++ e.value at ∷ []) (count - (i + 1)) (at + e.size (e.value at))) p.0) ∙ now.same;
      values = append_assoc before (e.value at ∷ []) (values_of e (count - (i + 1)) (at + e.size (e.value at))) ∙ now.values;
      ends = now.ends;
    })

pub goes_wrong : {A B : Type 0} (e : Entries A) (count start : ℕ) (before : List A) (i at : ℕ) (f : Fail) (v : B) → i < count
    → Answers {T = A} (Err f) (judged (e.fields before at) (e.value at))
    → OnTheWay e count start before (count - i) at → Answers {T = B} (Err f) (judged (fields_of e [] count start) v)
goes_wrong e count start before i at NoMemory v lt h so_far = tt
goes_wrong e count start before i at (Refused r) v lt h so_far =
    let n : count - i ≡ suc (count - (i + 1)) = omega arith in
    let p = verdict_err (first_wrong (e.fields before at)) (e.value at) r h in
    let now : OnTheWay e count start before (suc (count - (i + 1))) at = rw n at so_far in
    let first = sym now.same ∙ wrong-some (e.fields before at)
    (fields_of e (before ++ e.value at ∷ []) (count - (i + 1)) (at + e.size (e.value at))) p.0 p.1 in
    ap (λ (o : Option ℕ). verdict o v) first ∙ ap Err (sym p.2)

pub is_done : {A : Type 0} (e : Entries A) (count start : ℕ) (before : List A) (i at : ℕ) → count ≤ i
    → OnTheWay e count start before (count - i) at
    → (first_wrong (fields_of e [] count start) ≡ None) × (values_of e count start ≡ before) × (end_of e count start ≡ at)
is_done e count start before i at le so_far =
    let n : count - i ≡ 0 = omega arith in
    let now : OnTheWay e count start before 0 at = rw n at so_far in
    (sym now.same, sym now.values ∙ append-nil before, sym now.ends)

-- the list and the offset behind it
pub gives_both : {A : Type 0} (e : Entries A) (count start : ℕ) (before : List A) (i at : ℕ) → count ≤ i
    → OnTheWay e count start before (count - i) at
    → judged {A = List A × ℕ} (fields_of e [] count start) (values_of e count start, end_of e count start) ≡ Ok (before, at)
gives_both e count start before i at le so_far =
    let p = is_done e count start before i at le so_far in
    rw (p.0, p.1, p.2) refl

-- what the reader of a list gives, where it gives something
pub given : {A : Type 0} (e : Entries A) (n start : ℕ) (xs : List A) (at : ℕ)
    → judged {A = List A × ℕ} (fields_of e [] n start) (values_of e n start, end_of e n start) ≡ Ok (xs, at)
    → (first_wrong (fields_of e [] n start) ≡ None) × (xs ≡ values_of e n start) × (at ≡ end_of e n start)
given {A = A} e n start xs at h =
    let made : List A × ℕ = (values_of e n start, end_of e n start) in
    let p = verdict_ok {A = List A × ℕ} (first_wrong (fields_of e [] n start)) made (xs, at) h in
    (p.0, sym (ap (λ (x : List A × ℕ). x.0) p.1), sym (ap (λ (x : List A × ℕ). x.1) p.1))
