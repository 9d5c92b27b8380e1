-- The numbers of a goal less a form, times a multiplier, and its symbols.
use Rattle.std.proofs.Common.{◌≡◌, ℕ, true, Option, pos, negsuc, neg_ℤ, ◌+ℤ◌, ◌*ℤ◌, arith}
use Rattle.std.proofs.lemmas.Int.{ints}
use Rattle.side_certs.specs.LinearForm.{LinearForm, rises_from, minus, times}
use Rattle.side_certs.specs.Closes.{number_at}
use Rattle.side_certs.specs.Combination.{IsNext, lesser}
use Rattle.side_certs.proofs.laws.Combinations.{number_plus, number_times, next_plus, next_times}
use Rattle.side_certs.proofs.laws.Limits.{merge_rises, times_rise}

module _ (goal f : LinearForm) (m : ℕ) where
  abbrev multiple : LinearForm
  multiple = times (pos m) f

  pub number_less : (place : Option ℕ)
      → number_at place (minus goal multiple) ≡ number_at place goal +ℤ neg_ℤ (pos m *ℤ number_at place f)
  number_less place =
      let whole = number_plus place goal (times (negsuc 0) multiple) in
      let negated = number_times place (negsuc 0) multiple in
      let product = number_times place (pos m) f in
      omega (arith, ints, whole, negated, product)

  pub next_less : (least : ℕ) (a b : Option ℕ) → IsNext goal least a → IsNext f least b
      → IsNext (minus goal multiple) least (lesser a b)
  next_less least a b one two =
      let negated = next_times (negsuc 0) multiple least b (next_times (pos m) f least b two) in
      next_plus goal (times (negsuc 0) multiple) least a b one negated

  pub rises_less : rises_from 0 goal.terms ≡ true → rises_from 0 f.terms ≡ true → rises_from 0 (minus goal multiple).terms ≡ true
  rises_less p q = merge_rises goal.terms _ 0 p (times_rise (negsuc 0) 0 multiple.terms (times_rise (pos m) 0 f.terms q))
