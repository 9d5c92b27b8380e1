-- A run behind the others holds the first places.
use Rattle.std.proofs.Common.{◌≡◌, ◌+◌, List, [], ◌∷◌, ◌++◌, length, replicate, sum, sym, ◌∙◌, ap, append_assoc, length-append}
use Rattle.std.proofs.Common.{arith}
use Rattle.std.proofs.lemmas.List.{append-nil, length-replicate}
use Rattle.deriv_tree.specs.declared.listed.Listed.{Listed}
use Rattle.deriv_tree.specs.Shape.{kids}
use Rattle.deriv_file.specs.declared.places.Place.{Place}
use Rattle.deriv_file.specs.declared.places.Run.{Run}
use Rattle.deriv_file.specs.Places.{places_of_run, places_of_runs, called_for, kid_place, block_place}

pub runs_snoc : (rs : List Run) (r : Run) → places_of_runs (rs ++ r ∷ []) ≡ places_of_run r ++ places_of_runs rs
runs_snoc [] r = sym (append-nil (places_of_run r))
runs_snoc (s ∷ rs) r = ap (λ ps. ps ++ places_of_run s) (runs_snoc rs r)
    ∙ append_assoc (places_of_run r) (places_of_runs rs) (places_of_run s)

pub length-called_for : (p : Place) (n : Listed) → length (called_for p n) ≡ kids n.step.rule + sum n.counts
length-called_for p n =
    omega (
      arith,
      length-append (replicate (kids n.step.rule) (kid_place p n.step.rule)) (replicate (sum n.counts) (block_place p)),
      length-replicate (kids n.step.rule) (kid_place p n.step.rule),
      length-replicate (sum n.counts) (block_place p),
    )
