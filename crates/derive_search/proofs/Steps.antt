-- What a step of the code gives, as the search says it.
use Rattle.std.proofs.Common.{◌≡◌, sym, ap, ◌∙◌, ℕ, Bool, true, false, List, Option, None, Result, Ok, Err, if◌then◌else◌}
use Rattle.rup_base.specs.Answers.{AnswersWith}
use Rattle.rup_base.specs.declared.fail.Fail.{Fail}
use Rattle.rup_base.specs.declared.fail.Fail.TheVariants.{Refused, NoMemory}
use Rattle.rup_base.specs.declared.refusal.Refusal.{Refusal}
use Rattle.side_certs.specs.LinearForm.{LinearForm}
use Rattle.side_certs.specs.declared.certificate.Cert.{Cert}
use Rattle.cert_search.specs.Search.{found}
use Rattle.sym_heap.specs.Context.{Context}
use Rattle.derive_search.specs.declared.seeker.Seeker.{Seeker}
use Rattle.expr_rules.specs.Words.{Rule}
use Rattle.derive_search.specs.Words.{Seek, ◌>>=◌, where_holds, with_context, in_context}
use Rattle.derive_search.specs.Rows.{has_few_facts, certificate}

pub certificate_is : (c : Context) (goal : LinearForm) (o : Option Cert) (facts : List LinearForm) (tops : List ℕ)
    → has_few_facts c ≡ true → facts ≡ c.facts → tops ≡ c.tops → o ≡ found facts tops goal → o ≡ certificate c goal
certificate_is c goal o facts tops few facts_are tops_are is =
    is ∙ ap (λ (fs : List LinearForm). found fs tops goal) facts_are ∙ ap (λ (ts : List ℕ). found c.facts ts goal) tops_are
    ∙ sym (ap (λ (b : Bool). if b then found c.facts c.tops goal else None) few)

pub no_certificate : (c : Context) (goal : LinearForm) → has_few_facts c ≡ false → None ≡ certificate c goal
no_certificate c goal many = sym (ap (λ (b : Bool). if b then found c.facts c.tops goal else None) many)

-- a step in the context
pub answers_within : {A : Type 0} (result : Result A Fail) (after : Context) (t : Seeker) (r : Result (A × Context) Refusal)
    → AnswersWith result after r → AnswersWith result (record t { ctx = after }) (with_context t r)
answers_within (Ok a) after t r is = ap (with_context t) is
answers_within (Err (Refused refusal)) after t r is = ap (with_context t) is
answers_within (Err NoMemory) after t r is = tt

-- a condition, goals, and then a step in the context
pub where_step : {A B : Type 0} (test : Context → Bool) (refusal : Refusal) (m : Seek A) (rule : A → Rule B) (s t : Seeker)
    (a : A) (result : Result B Fail) (after : Context)
    → test s.ctx ≡ true → m s ≡ Ok (a, t) → AnswersWith result after (rule a t.ctx)
    → AnswersWith result (record t { ctx = after }) (where_holds test refusal (m >>= (λ x. in_context (rule x))) s)
where_step test refusal m rule s t a result after there derived is =
    rw (there, derived) (answers_within result after t (rule a t.ctx) is)
