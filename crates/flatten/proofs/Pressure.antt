-- The pressure of the code of a command is at most that of the command.
use Rattle.std.proofs.Common.{◌≡◌, refl, sym, ap, ◌∙◌, arith, ℕ, ◌+◌, ◌<◌, ◌≤◌, true, false, ◌||◌, ◌&&◌, nat_eq, nat_lt, List, []}
use Rattle.std.proofs.Common.{◌∷◌, ◌++◌, map}
use Rattle.std.proofs.lemmas.Bool.{ltb-true, lt-ltb}
use Rattle.bed_syntax.specs.Intervals.{Point, some, most_covering}
use Rattle.bed_syntax.specs.Pressure.{points, early, all_points, pressure}
use Rattle.bed_syntax.specs.Shape.{is_known, cmd_locals, cmd_depth, numbers, locals_of}
use Rattle.bed_syntax.specs.declared.command.Cmd.{Cmd}
use Rattle.flat_lang.specs.Backwards.{returned, flat_need}
use Rattle.flat_lang.specs.Paths.{read, takes}
use Rattle.flat_lang.specs.Pressure.{body_points, interval_points, flat_pressure}
use Rattle.flat_lang.specs.declared.flat.Flat.{Flat}
use Rattle.flatten.specs.Code.{place, flat_of}
use Rattle.flatten.proofs.Covering.{Low, most_low, low_most}
use Rattle.flatten.proofs.Distinct.{locals_unique}
use Rattle.flatten.proofs.Fitting.{Under, Fits, under_or, fits_some, fits_both, fits_one, low_fits, both_of, and_of}
use Rattle.flatten.proofs.Growth.{cmd_grows}
use Rattle.flatten.proofs.Kept.{arguments_first}
use Rattle.flatten.proofs.Places.{Known, Extends, extends_through, extends_all_noted, same_place}
use Rattle.flatten.proofs.Pressed.{Comes, cmd_comes, same_test, or_false}

read_at_end : (names : List ℕ) (x : ℕ) → Known names x → (rets : List ℕ)
    → takes (place names x) (map read (map (place names) rets)) false ≡ is_known rets x
read_at_end names x known [] = refl
read_at_end names x known (y ∷ rets) =
    ap (λ b. b || takes (place names x) (map read (map (place names) rets)) false) (same_test names x y known)
    ∙ ap (λ b. nat_eq y x || b) (read_at_end names x known rets)

module _ (cmd : Cmd) (args : ℕ) (rets : List ℕ) where
  abbrev names : List ℕ
  names = locals_of cmd args rets

  abbrev flat : Flat
  flat = flat_of cmd args rets

  comes : Comes names flat.body (points cmd) (early cmd)
  comes = cmd_comes names cmd 0

  first : Extends (numbers args) names
  first = extends_through (numbers args) (cmd_locals cmd (numbers args)) names (cmd_grows cmd (numbers args))
      (extends_all_noted rets (cmd_locals cmd (numbers args)))

  argument : (x : ℕ) → Known names x → nat_lt (place names x) args ≡ true → nat_lt x args ≡ true
  argument x known is =
      let below : place names x < args = ltb-true (place names x) args is in
      let own : place names (place names x) ≡ place names x = (arguments_first args (place names x) names first below).1 in
      let e : x ≡ place names x = same_place names x (place names x) known (sym own) in
      lt-ltb x args (omega arith)

  returns : (x : ℕ) → Known names x → returned flat.rets (place names x) ≡ is_known rets x
  returns x known = or_false (takes (place names x) (map read (map (place names) rets)) false) ∙ read_at_end names x known rets

  needs : (x : ℕ) → Known names x → flat_need flat (place names x) ≡ early cmd x (is_known rets x)
  needs x known = comes.same x (returned flat.rets (place names x)) known ∙ ap (early cmd x) (returns x known)

  abbrev shown : Point
  shown v = nat_lt v args && (some (body_points flat.body) v || returned flat.rets v)

  abbrev seen : Point
  seen x = nat_lt x args && (some (points cmd) x || is_known rets x)

  end_under : Under names (λ v. returned flat.rets v) (λ x. is_known rets x)
  end_under x known is = sym (returns x known) ∙ is

  shown_under : Under names shown seen
  shown_under x known is =
      let parts = both_of (nat_lt (place names x) args)
      (some (body_points flat.body) (place names x) || returned flat.rets (place names x)) is in
      and_of (nat_lt x args) (some (points cmd) x || is_known rets x) (argument x known parts.0)
      (under_or names (some (body_points flat.body)) (λ v. returned flat.rets v) (some (points cmd)) (λ x. is_known rets x)
      (fits_some names (body_points flat.body) (points cmd) comes.fits) end_under x
      known parts.1)

  entry_under : Under names (λ v. shown v || flat_need flat v) (λ x. seen x || early cmd x (is_known rets x))
  entry_under =
      under_or names shown (λ v. flat_need flat v) seen (λ x. early cmd x (is_known rets x)) shown_under
      (λ x known is. sym (needs x known) ∙ is)

  fits : Fits names (interval_points flat) (all_points cmd args rets)
  fits = (
    (λ v. shown v || flat_need flat v) ∷ [],
    body_points flat.body ++ (λ v. returned flat.rets v) ∷ [],
    (
      refl,
      (
        (entry_under, tt),
        fits_both names (body_points flat.body) (points cmd) ((λ v. returned flat.rets v) ∷ []) ((λ x. is_known rets x) ∷ [])
            comes.fits
            (fits_one names ((λ v. returned flat.rets v) ∷ []) (λ x. is_known rets x) (end_under, tt)),
      ),
    ),
  )

  pub pressed : flat_pressure flat ≤ pressure cmd args rets
  pressed =
      let most : ℕ = most_covering (all_points cmd args rets) names in
      let low : Low names most (λ x. false) (all_points cmd args rets) = most_low names (all_points cmd args rets) in
      low_most _ (most + cmd_depth cmd) (interval_points flat)
      (low_fits names (locals_unique cmd args rets) (cmd_depth cmd) most (all_points cmd args rets) (interval_points flat)
      (λ x. false) (λ v. false) (λ x known is. is) fits low)
