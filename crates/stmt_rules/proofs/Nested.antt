-- One kept fact further.
use Rattle.std.proofs.Common.{◌≡◌, refl, sym, ◌∙◌, ap, subst, ℕ, ◌+◌, ◌-◌, ◌≤◌, true, List, ◌∷◌, length, take, drop}
use Rattle.std.proofs.Common.{slice_index_or, Option, Result, Ok, Err}
use Rattle.rup_base.specs.Word.{counted}
use Rattle.rup_base.specs.Answers.{AnswersWith}
use Rattle.rup_base.specs.declared.fail.Fail.{Fail}
use Rattle.rup_base.specs.declared.fail.Fail.TheVariants.{Refused, NoMemory}
use Rattle.side_certs.specs.LinearForm.{LinearForm, within}
use Rattle.side_certs.specs.declared.certificate.Cert.{Cert}
use Rattle.side_certs.proofs.laws.Combinations.{split_first}
use Rattle.model_syntax.specs.Names.{Name}
use Rattle.model_syntax.specs.declared.stmt.Le.{Le}
use Rattle.sym_heap.specs.Context.{Context}
use Rattle.sym_heap.specs.declared.parts.Held.{Held}
use Rattle.sym_heap.specs.Sides.{form_in, difference}
use Rattle.expr_rules.specs.Words.{fact_there}
use Rattle.model_syntax.specs.Linear.{is_narrow}
use Rattle.stmt_rules.specs.Narrow.{all_narrow}
use Rattle.stmt_rules.specs.Nesting.{all_shown, shown_at, all_kept, kept_fact}
use Rattle.stmt_rules.proofs.Reserving.{narrow_first}

-- facts of which the first is r
module _ (facts : List Le) (r : Le) (long : 1 ≤ length facts) (is : r ≡ slice_index_or facts 0 r) where
  abbrev pub facts_left : List Le
  facts_left = take (length facts - 1) (drop 1 facts)

  pub narrow_here : all_narrow facts ≡ true → is_narrow r ≡ true
  narrow_here e = (narrow_first r facts_left (ap all_narrow (sym (split_first facts r long is)) ∙ e)).0

  pub narrow_left : all_narrow facts ≡ true → all_narrow facts_left ≡ true
  narrow_left e = (narrow_first r facts_left (ap all_narrow (sym (split_first facts r long is)) ∙ e)).1

  -- a certificate that closes its goal
  pub shown_on : (at place : ℕ) (certs : List Cert) (k : Cert) (form : Name → LinearForm) (c d : Context) → 1 ≤ length certs
      → k ≡ slice_index_or certs 0 k
      → shown_at at place k (within (difference form r)) c ≡ Ok (tt, c)
      → all_shown at place certs form facts c
      ≡ all_shown at (counted (place + 1)) (take (length certs - 1) (drop 1 certs)) form facts_left c
  shown_on at place certs k form c d many first shown =
      ap (λ l. all_shown at place certs form l c) (split_first facts r long is)
      ∙ ap (λ l. all_shown at place l form (r ∷ facts_left) c) (split_first certs k many first)
      ∙ rw shown refl

  -- a fact that is added
  pub kept_on : (at : ℕ) (c d : Context) → kept_fact at r c ≡ Ok (tt, d) → all_kept at facts c ≡ all_kept at facts_left d
  kept_on at c d kept = ap (λ l. all_kept at l c) (split_first facts r long is) ∙ rw kept refl

  -- a certificate that does not, or a form that passes the limits
  pub shown_stops : (at place : ℕ) (certs : List Cert) (k : Cert) (form : Name → LinearForm) (c other after : Context) (f : Fail)
      → 1 ≤ length certs
      → k ≡ slice_index_or certs 0 k
      → AnswersWith {T = Unit {0}} (Err f) other (shown_at at place k (within (difference form r)) c)
      → AnswersWith {T = Unit {0}} (Err f) after (all_shown at place certs form facts c)
  shown_stops at place certs k form c other after (Refused refusal) many first stop =
      ap (λ l. all_shown at place certs form l c) (split_first facts r long is)
      ∙ ap (λ l. all_shown at place l form (r ∷ facts_left) c) (split_first certs k many first)
      ∙ rw stop refl
  shown_stops at place certs k form c other after NoMemory many first stop = tt

-- a fact in the forms that the scalars have
pub kept_given : (at : ℕ) (r : Le) (c d : Context) (result : Result (Unit {0}) Fail) (scalars : List Held)
    (form : Name → LinearForm) (o : Option LinearForm)
    → scalars ≡ c.scalars → form ≡ form_in scalars → o ≡ within (difference form r) → AnswersWith result d (fact_there at o c)
    → AnswersWith result d (kept_fact at r c)
kept_given at r c d result scalars form o stood forms is answer =
    subst (λ (z : Option LinearForm). AnswersWith result d (fact_there at z c))
    (is ∙ ap (λ (h : Name → LinearForm). within (difference h r)) (forms ∙ ap form_in stood)) answer
