use Rattle.std.proofs.Common.{arith, subst, Result}
use Rattle.rup_base.specs.Answers.{Answers}
use Rattle.rup_base.specs.declared.refusal.Refusal.{Refusal}
use Rattle.image_layout.specs.declared.image.Image.{Image}
use Rattle.image_layout.proofs.laws.Layouts.{is_found, is_read}
use Rattle.image_layout.proofs.reading.read_image.Goals as goal

pub returns-clause-found : goal.returns-clause-found
returns-clause-found c = is_found c.args.bytes.now c.read_fields.result (λ i. omega (arith, c.type_inv.bytes i))
    c.read_fields.ensures

pub returns-clause-only : goal.returns-clause-only
returns-clause-only c = λ i layout. subst (λ (answer : Result Image Refusal). Answers c.read_fields.result answer)
    (is_read c.args.bytes.now i layout) c.read_fields.ensures
