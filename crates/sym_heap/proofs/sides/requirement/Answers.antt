use Rattle.std.proofs.Common.{◌≡◌, ℕ, ◌≤◌, ◌^◌, Option, Some, None, refl, sym, ◌∙◌, arith}
use Rattle.std.specs.Prelude.{IfSome}
use Rattle.side_certs.specs.LinearForm.{LinearForm, within}
use Rattle.sym_heap.specs.Sides as spec
use Rattle.sym_heap.proofs.Narrow.{small_constant}
use Rattle.sym_heap.proofs.sides.requirement.Goals as goal

small : (o : Option ℕ) → IfSome o (λ n. n ≤ 4294967295) → (n : ℕ) → o ≡ Some n → n ≤ 2 ^ 40
small (Some m) less n is = let same : m ≡ n = cc in omega (arith, less, same)
small None less n is = absurd (let bad : ◌≡◌ {A = Option ℕ} None (Some n) = is in cc)

pub unreachable-requires : goal.unreachable-requires
unreachable-requires c =
    let low = small_constant c.args.r.now.low c.literal.result c.literal.ensures.literal
    (small c.literal.result c.literal.ensures.word) in
    let high = small_constant c.args.r.now.high c.literal-2.result c.literal-2.ensures.literal
    (small c.literal-2.result c.literal-2.ensures.word) in
    let form : LinearForm = spec.difference (spec.form_in c.args.scalars.now) c.args.r.now in
    let keeps : within form ≡ Some form = rw (c.requires.keeps low high) refl in
    let none : None ≡ within form = sym c.in-None.is ∙ c.difference.ensures in
    absurd (let bad : ◌≡◌ {A = Option LinearForm} None (Some form) = none ∙ keeps in cc)
