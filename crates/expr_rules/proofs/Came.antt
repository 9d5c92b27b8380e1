-- From a context to a later one of the same rule: what was added at its end, and what is known in each state that fits. A
-- rule's proof starts with what its kids give, follows the rule's words, and ends with its code and its form.
use Rattle.std.proofs.Common.{◌≡◌, refl, sym, ◌∙◌, ap, subst, arith, ℕ, suc, ◌≤◌, true, false, List, [], ◌∷◌, ◌++◌, length, take}
use Rattle.std.proofs.Common.{Some, slice_get, ℤ, pos, ◌≤ℤ◌}
use Rattle.rv_memory.specs.Ranges.{Bytes}
use Rattle.side_certs.specs.LinearForm.{LinearForm, value_at}
use Rattle.model_syntax.specs.declared.expr.Scalar.{Scalar}
use Rattle.model_syntax.specs.declared.program.Param.{Param}
use Rattle.model_syntax.specs.Environment.{Env}
use Rattle.model_syntax.specs.Names.{Name}
use Rattle.model_syntax.specs.Scope.{Scope}
use Rattle.model_syntax.specs.Sound.{IsTyped}
use Rattle.model_syntax.specs.Value.{is_true}
use Rattle.sym_heap.specs.declared.parts.Held.{Held}
use Rattle.sym_heap.specs.declared.parts.Clause.{Clause}
use Rattle.sym_heap.specs.Context.{Context, top_of, with_top, with_fact}
use Rattle.sym_heap.specs.Fits.{Call, Known, IsConsistent, FitsBy, Agree}
use Rattle.sym_heap.specs.Scoped.{IsScoped}
use Rattle.sym_heap.proofs.laws.Extending.{longer, known_more, known_value, given, given_here, given_agrees, agree_self, agree_on}
use Rattle.sym_heap.proofs.laws.Extending.{consistent_top, consistent_fact, fits_top, fits_fact}
use Rattle.sym_heap.proofs.laws.Scopes.{fresh_scoped, fact_scoped}
use Rattle.bed_syntax.specs.Shape.{expr_locals}
use Rattle.bed_meaning.specs.Locals.{Vars, local_at}
use Rattle.bed_meaning.specs.Value.{value}
use Rattle.expr_rules.specs.declared.output.ExprOut.{ExprOut}
use Rattle.expr_rules.specs.Sound.{Extends, AllKnown, AllHold, HasLocals, ExprRan, ExprDone}

-- Lists that grow at their end.

take_all : {A : Type 0} (xs : List A) → take (length xs) xs ≡ xs
take_all [] = refl
take_all (x ∷ xs) = ap (λ l. x ∷ l) (take_all xs)

take_front : {A : Type 0} (xs ys : List A) → take (length xs) (xs ++ ys) ≡ xs
take_front [] ys = refl
take_front (x ∷ xs) ys = ap (λ l. x ∷ l) (take_front xs ys)

take_on : {A : Type 0} (xs ys zs : List A) → take (length xs) ys ≡ xs → take (length ys) zs ≡ ys → take (length xs) zs ≡ xs
take_on [] ys zs a b = refl
take_on (x ∷ xs) [] zs a b = absurd (let bad : [] ≡ x ∷ xs = a in cc)
take_on (x ∷ xs) (y ∷ ys) [] a b = absurd (let bad : [] ≡ y ∷ ys = b in cc)
take_on (x ∷ xs) (y ∷ ys) (z ∷ zs) a b =
    let one : y ∷ take (length xs) ys ≡ x ∷ xs = a in
    let two : z ∷ take (length ys) zs ≡ y ∷ ys = b in
    let tail_one : take (length xs) ys ≡ xs = cc in
    let tail_two : take (length ys) zs ≡ ys = cc in
    let head : z ≡ x = cc in
    ap (λ l. z ∷ l) (take_on xs ys zs tail_one tail_two) ∙ ap (λ w. w ∷ xs) head

take_less : {A : Type 0} (xs ys : List A) → take (length xs) ys ≡ xs → length xs ≤ length ys
take_less [] ys is = omega arith
take_less (x ∷ xs) [] is = absurd (let bad : [] ≡ x ∷ xs = is in cc)
take_less (x ∷ xs) (y ∷ ys) is =
    let both : y ∷ take (length xs) ys ≡ x ∷ xs = is in
    let tail : take (length xs) ys ≡ xs = cc in
    let more = take_less xs ys tail in
    omega (arith, more)

-- Contexts.

pub extends_self : (c : Context) → Extends c c
extends_self c = record {
  scalars = refl;
  clauses = refl;
  reserved = refl;
  entries = refl;
  facts = take_all c.facts;
  tops = take_all c.tops;
}

pub extends_on : (c d e : Context) → Extends c d → Extends d e → Extends c e
extends_on c d e a b = record {
  scalars = b.scalars ∙ a.scalars;
  clauses = b.clauses ∙ a.clauses;
  reserved = b.reserved ∙ a.reserved;
  entries = b.entries ∙ a.entries;
  facts = take_on c.facts d.facts e.facts a.facts b.facts;
  tops = take_on c.tops d.tops e.tops a.tops b.tops;
}

pub extends_top : (c : Context) (top : ℕ) → Extends c (with_top top c)
extends_top c top = record {
  scalars = refl;
  clauses = refl;
  reserved = refl;
  entries = refl;
  facts = take_all c.facts;
  tops = take_front c.tops (top ∷ []);
}

pub extends_fact : (c : Context) (f : LinearForm) → Extends c (with_fact f c)
extends_fact c f = record {
  scalars = refl;
  clauses = refl;
  reserved = refl;
  entries = refl;
  facts = take_front c.facts (f ∷ []);
  tops = take_all c.tops;
}

pub more_tops : (c d : Context) → Extends c d → length c.tops ≤ length d.tops
more_tops c d e = take_less c.tops d.tops e.tops

pub locals_back : (c d : Context) (xs : List ℕ) → Extends c d → HasLocals c xs → HasLocals d xs
locals_back c d xs e has = record {
  scalars = λ i h at. has.scalars i h (ap (λ (l : List Held). slice_get l i) (sym e.scalars) ∙ at);
  pointers = λ i k at. has.pointers i k (ap (λ (l : List Clause). slice_get l i) (sym e.clauses) ∙ at);
  lengths = λ i l k at is. has.lengths i l k (ap (λ (ks : List Clause). slice_get ks i) (sym e.clauses) ∙ at) is;
}

-- What a rule has of a kid.

-- what holds of contexts alone
pub record Kid (before mid : Context) (out : ExprOut) : Type 0 where
  pub known : Known (length mid.tops) out.form
  pub yes_known : AllKnown (length mid.tops) out.yes
  pub no_known : AllKnown (length mid.tops) out.no
  pub locals : (xs : List ℕ) → HasLocals before xs → expr_locals out.code xs ≡ xs

-- what holds in a state, with these numbers of symbols
pub record Right (n : ℕ) (t : Scalar) (out : ExprOut) (v : ℕ → ℕ) (mem : Bytes) (vars : Vars) : Type 0 where
  pub value : value out.code mem vars ≡ Some n
  pub small : n ≤ top_of t
  pub form : value_at v out.form ≡ pos n
  pub yes : is_true n ≡ true → AllHold v out.yes
  pub no : is_true n ≡ false → AllHold v out.no

all_known_more : (n m : ℕ) (fs : List LinearForm) → n ≤ m → AllKnown n fs → AllKnown m fs
all_known_more n m fs less known i f at = known_more n m f less (known i f at)

all_hold_more : (v w : ℕ → ℕ) (n : ℕ) (fs : List LinearForm) → Agree n v w → AllKnown n fs → AllHold v fs → AllHold w fs
all_hold_more v w n fs agree known holds i f at =
    subst (λ (z : ℤ). pos 0 ≤ℤ z) (sym (known_value v w n f agree (known i f at))) (holds i f at)

pub kid_more : (before mid after : Context) (out : ExprOut) → Extends mid after → Kid before mid out → Kid before after out
kid_more before mid after out e kid =
    let less = more_tops mid after e in
    record {
      known = known_more (length mid.tops) (length after.tops) out.form less kid.known;
      yes_known = all_known_more (length mid.tops) (length after.tops) out.yes less kid.yes_known;
      no_known = all_known_more (length mid.tops) (length after.tops) out.no less kid.no_known;
      locals = kid.locals;
    }

pub right_more : (before mid : Context) (out : ExprOut) (n : ℕ) (t : Scalar) (v w : ℕ → ℕ) (mem : Bytes) (vars : Vars)
    → Kid before mid out → Agree (length mid.tops) v w
    → Right n t out v mem vars → Right n t out w mem vars
right_more before mid out n t v w mem vars kid agree r = record {
  value = r.value;
  small = r.small;
  form = known_value v w (length mid.tops) out.form agree kid.known ∙ r.form;
  yes = λ is. all_hold_more v w (length mid.tops) out.yes agree kid.yes_known (r.yes is);
  no = λ is. all_hold_more v w (length mid.tops) out.no agree kid.no_known (r.no is);
}

-- What is known in a state: of the numbers of symbols, the values, the memory and the locals.
abbrev pub Fact : Type 1
Fact = (ℕ → ℕ) → Env → Bytes → Vars → Type 0

-- the fact stays where the symbols of the context keep their numbers
abbrev pub Stays : Context → Fact → Type 0
Stays c R = (v w : ℕ → ℕ) (env : Env) (mem : Bytes) (vars : Vars) → Agree (length c.tops) v w → R v env mem vars
    → R w env mem vars

pub record Reached (R : Fact) (call : Call) (before mid : Context) (numbers : ℕ → ℕ) (env : Env) (mem : Bytes) (vars : Vars) :
    Type 0 where
  pub others : ℕ → ℕ
  pub agree : Agree (length before.tops) numbers others
  pub fits : FitsBy call others mid env mem (local_at vars)
  pub is : R others env mem vars

pub record Came (R : Fact) (ps : List Param) (scope : Scope) (before mid : Context) : Type 0 where
  pub extends : Extends before mid
  pub consistent : IsConsistent mid
  pub scoped : IsScoped ps scope mid
  pub stays : Stays mid R
  pub runs : (lengths : Name → ℕ) (call : Call) (numbers : ℕ → ℕ) (env : Env) (mem : Bytes) (vars : Vars)
      → IsTyped lengths scope env → FitsBy call numbers before env mem (local_at vars)
      → Reached R call before mid numbers env mem vars

-- nothing was added yet
abbrev pub Nothing : Fact
Nothing v env mem vars = Unit {0}

pub came_start : (ps : List Param) (scope : Scope) (c : Context) → IsConsistent c → IsScoped ps scope c
    → Came Nothing ps scope c c
came_start ps scope c consistent scoped = record {
  extends = extends_self c;
  consistent = consistent;
  scoped = scoped;
  stays = λ v w env mem vars agree is. tt;
  runs = λ lengths call numbers env mem vars values fits.
      record { others = numbers; agree = agree_self (length c.tops) numbers; fits = fits; is = tt };
}

module _ (R : Fact) (ps : List Param) (scope : Scope) (before mid : Context) (came : Came R ps scope before mid) where
  -- a further symbol has a number up to its top
  abbrev pub WithNumber : (Env → ℕ) → Fact
  WithNumber num v env mem vars = R v env mem vars × (v (length mid.tops) ≡ num env)

  pub came_fresh : (top : ℕ) (num : Env → ℕ)
      → ((v : ℕ → ℕ) (env : Env) (mem : Bytes) (vars : Vars) → R v env mem vars → num env ≤ top)
      → Came (WithNumber num) ps scope before (with_top top mid)
  came_fresh top num small =
      let one : length (mid.tops ++ top ∷ []) ≡ suc (length mid.tops) = longer mid.tops top in
      record {
        extends = extends_on before mid (with_top top mid) came.extends (extends_top mid top);
        consistent = consistent_top mid top came.consistent;
        scoped = fresh_scoped ps scope mid top came.scoped;
        stays = λ v w env mem vars agree is. (
          came.stays v w env mem vars (λ s less. agree s (omega (arith, one, less))) is.0,
          agree (length mid.tops) (omega (arith, one)) ∙ is.1,
        );
        runs = λ lengths call numbers env mem vars values fits.
            (let r : Reached R call before mid numbers env mem vars = came.runs lengths call numbers env mem vars values fits in
            let w : ℕ → ℕ = given r.others (length mid.tops) (num env) in
            let later : Agree (length mid.tops) r.others w = given_agrees r.others (length mid.tops) (num env) in
            record {
              others = w;
              agree = agree_on (length before.tops) (length mid.tops) numbers r.others w (more_tops before mid came.extends)
                  r.agree later;
              fits = fits_top call r.others mid top (num env) env mem (local_at vars) (small r.others env mem vars r.is) r.fits;
              is = (came.stays r.others w env mem vars later r.is, given_here r.others (length mid.tops) (num env));
            });
      }

  -- a fact that holds is added
  pub came_fact : (f : LinearForm) → Known (length mid.tops) f
      → ((v : ℕ → ℕ) (env : Env) (mem : Bytes) (vars : Vars) → R v env mem vars → pos 0 ≤ℤ value_at v f)
      → Came R ps scope before (with_fact f mid)
  came_fact f known holds = record {
    extends = extends_on before mid (with_fact f mid) came.extends (extends_fact mid f);
    consistent = consistent_fact mid f known came.consistent;
    scoped = fact_scoped ps scope mid f came.scoped;
    stays = came.stays;
    runs = λ lengths call numbers env mem vars values fits.
        (let r : Reached R call before mid numbers env mem vars = came.runs lengths call numbers env mem vars values fits in
        record {
          others = r.others;
          agree = r.agree;
          fits = fits_fact call r.others mid f env mem (local_at vars) known (holds r.others env mem vars r.is) r.fits;
          is = r.is;
        });
  }

  -- the end: code and form
  pub came_done : (sem : Env → ℕ) (t : Scalar) (out : ExprOut) → Kid before mid out
      → ((call : Call) (v : ℕ → ℕ) (env : Env) (mem : Bytes) (vars : Vars) → FitsBy call v mid env mem (local_at vars)
      → R v env mem vars → Right (sem env) t out v mem vars)
      → ExprDone ps scope sem t before out mid
  came_done sem t out kid right = record {
    extends = came.extends;
    consistent = came.consistent;
    scoped = came.scoped;
    known = kid.known;
    yes_known = kid.yes_known;
    no_known = kid.no_known;
    locals = kid.locals;
    runs = λ lengths call numbers env mem vars values fits.
        (let r : Reached R call before mid numbers env mem vars = came.runs lengths call numbers env mem vars values fits in
        let end_ : Right (sem env) t out r.others mem vars = right call r.others env mem vars r.fits r.is in
        record {
          others = r.others;
          agree = r.agree;
          fits = r.fits;
          value = end_.value;
          small = end_.small;
          form = end_.form;
          yes = end_.yes;
          no = end_.no;
        });
  }

-- what an expression gives is what a rule has of it
abbrev pub Of : (Env → ℕ) → Scalar → ExprOut → Fact
Of sem t out v env mem vars = Right (sem env) t out v mem vars

pub kid_of : (ps : List Param) (scope : Scope) (sem : Env → ℕ) (t : Scalar) (before after : Context) (out : ExprOut)
    → ExprDone ps scope sem t before out after → Kid before after out
kid_of ps scope sem t before after out d =
    record { known = d.known; yes_known = d.yes_known; no_known = d.no_known; locals = d.locals }

pub came_one : (ps : List Param) (scope : Scope) (sem : Env → ℕ) (t : Scalar) (before after : Context) (out : ExprOut)
    → ExprDone ps scope sem t before out after → Came (Of sem t out) ps scope before after
came_one ps scope sem t before after out d = record {
  extends = d.extends;
  consistent = d.consistent;
  scoped = d.scoped;
  stays = λ v w env mem vars agree r. right_more before after out (sem env) t v w mem vars
      (kid_of ps scope sem t before after out d) agree r;
  runs = λ lengths call numbers env mem vars values fits.
      (let r : ExprRan call (sem env) t before out after numbers env mem vars = d.runs lengths call numbers env mem vars values
      fits in
      record {
        others = r.others;
        agree = r.agree;
        fits = r.fits;
        is = record { value = r.value; small = r.small; form = r.form; yes = r.yes; no = r.no };
      });
}

-- two facts
abbrev pub And : Fact → Fact → Fact
And R S v env mem vars = R v env mem vars × S v env mem vars

-- one after the other
pub came_on : (R S : Fact) (ps : List Param) (scope : Scope) (before mid after : Context) → Came R ps scope before mid
    → Came S ps scope mid after → Came (And R S) ps scope before after
came_on R S ps scope before mid after one two =
    let less = more_tops mid after two.extends in
    record {
      extends = extends_on before mid after one.extends two.extends;
      consistent = two.consistent;
      scoped = two.scoped;
      stays = λ v w env mem vars agree is. (
        one.stays v w env mem vars (λ s below. agree s (omega (arith, less, below))) is.0,
        two.stays v w env mem vars agree
            is.1,
      );
      runs = λ lengths call numbers env mem vars values fits.
          (let r : Reached R call before mid numbers env mem vars = one.runs lengths call numbers env mem vars values fits in
          let s : Reached S call mid after r.others env mem vars = two.runs lengths call r.others env mem vars values r.fits in
          record {
            others = s.others;
            agree = agree_on (length before.tops) (length mid.tops) numbers r.others s.others (more_tops before mid one.extends)
                r.agree s.agree;
            fits = s.fits;
            is = (one.stays r.others s.others env mem vars s.agree r.is, s.is);
          });
    }
