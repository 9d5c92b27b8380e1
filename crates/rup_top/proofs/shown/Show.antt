-- What `show` must show: its answers are its own, and it writes the listing of an image.
use Rattle.std.proofs.Common.{◌≡◌, ℕ, List, [], Some, Result, Ok, Err, refl, sym, subst, ap, ◌∙◌}
use Rattle.rup_base.specs.declared.refusal.Refusal.{Refusal}
use Rattle.image_layout.specs.declared.image.Image.{Image}
use Rattle.image_layout.specs.Reading.{read}
use Rattle.rup_top.specs.declared.answer.Answer.{Answer}
use Rattle.rup_top.specs.Answer.{done}
use Rattle.rup_top.specs.Frame.{Told, Call, IsUndisturbed, Comes, Ends, Writes, comes_to, exactly}
use Rattle.rup_top.specs.Inputs.{image_limit}
use Rattle.rup_top.specs.commands.Show.{HoldsImage, ShowKeeps, listing, show_answer, show_script}
use Rattle.rup_top.proofs.Ends.{IsProper, proper_done, proper_refused, leads, Shows, Gives, written}
use Rattle.rup_top.proofs.Held.{comes_behind}

-- ---- Its answers.

proper_shown : (i : Result Image Refusal) → IsProper (show_answer i)
proper_shown (Ok i) = proper_done _ refl
proper_shown (Err r) = proper_refused r

-- ---- The listing.

listing_gives : (files : List (List ℕ × List ℕ)) (image : List ℕ) (given : HoldsImage (Some files) image) (a : Answer)
    → Comes (Some files) (show_script image) a → Gives (listing given.i) a
listing_gives files image given a comes =
    let is : a ≡ show_answer (read given.bytes) =
    comes_behind files 1 image image_limit (λ bytes. comes_to (λ b. exactly (show_answer (read bytes)) b)) a given.bytes
    given.image_held given.image_fits comes in
    let same : a ≡ done (listing given.i) [] = is ∙ ap show_answer given.image_is in
    record { status_is = ap (λ (x : Answer). x.status) same; out_is = ap (λ (x : Answer). x.out) same }

show_written : (image : List ℕ) (call : Call) → Ends (show_script image) call → (held : List (List ℕ × List ℕ))
    → call.files.held ≡ Some held
    → (given : HoldsImage call.files.held image) → IsUndisturbed call → Writes (listing given.i) call
show_written image call ends held told given quiet =
    let P : Told → Type 0 = λ h. (g : HoldsImage h image) → Writes (listing g.i) call in
    subst P (sym told) (λ g. written (show_script image) (listing g.i) call held told quiet ends (listing_gives held image g))
    given

pub show_shows : (image : List ℕ) → Shows (show_script image) (λ call. ShowKeeps image call)
show_shows image =
    record {
      proper = λ held a comes. leads IsProper held (show_script image) proper_refused
          (λ bytes b is. subst IsProper (sym is) (proper_shown (read bytes))) a comes;
      keeps = λ call ends. record { shows_image = show_written image call ends };
    }
