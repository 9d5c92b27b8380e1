-- What is read is laid out so, and what is laid out so is read.
use Rattle.std.proofs.Common.{◌≡◌, ℕ, List, Option, Result, Ok, Err, ap, subst, ◌∙◌}
use Rattle.std.specs.Prelude.{IfOk}
use Rattle.rup_base.specs.Answers.{Answers}
use Rattle.rup_base.specs.declared.fail.Fail.{Fail}
use Rattle.image_layout.specs.declared.image.Image.{Image}
use Rattle.image_layout.specs.Spelling.{Layout}
use Rattle.image_layout.specs.Reading.{first_wrong, verdict, fields, image_of, read}
use Rattle.image_layout.proofs.Entries.{verdict_ok}
use Rattle.image_layout.proofs.Stands.{IsBytes}
use Rattle.image_layout.proofs.Rights.{rights, none_wrong}
use Rattle.image_layout.proofs.Found.{is_layout}
use Rattle.image_layout.proofs.Again.{layout_again}

pub is_found : (bytes : List ℕ) (r : Result Image Fail) → IsBytes bytes → Answers r (read bytes) → IfOk r (λ i. Layout i bytes)
is_found bytes (Ok i) are h =
    let p = verdict_ok (first_wrong (fields bytes)) (image_of bytes) i h in
    subst (λ (x : Image). Layout x bytes) p.1 (is_layout bytes are (rights bytes p.0))
is_found bytes (Err e) are h = tt

pub is_read : (bytes : List ℕ) (i : Image) → Layout i bytes → read bytes ≡ Ok i
is_read bytes i layout =
    let a = layout_again i bytes layout in
    ap (λ (o : Option ℕ). verdict o (image_of bytes)) (none_wrong bytes a.from a.right) ∙ ap Ok a.is
