-- What the calls compute, from the end of a code to its start.
use Rattle.std.specs.Prelude.{ℕ, zero, suc, ◌+◌, Bool, true, false, not, ◌&&◌, ◌||◌, nat_eq, nat_lt, List, [], ◌∷◌, map, length}
use Rattle.std.specs.Prelude.{reverse, replicate, slice_index_or, None}
use Rattle.rup_base.specs.Gather.{all_true}
use Rattle.flat_lang.specs.declared.flat.Flat.{Flat}
use Rattle.reg_alloc.specs.declared.plan.Plan.{Plan}
use Rattle.reg_alloc.specs.declared.watch.Watch.{Watch}
use Rattle.reg_alloc.specs.declared.watch.Watch.TheVariants.{Places, Lists, Conflicts}
use Rattle.reg_alloc.specs.PlanOk.{is_place}
use Rattle.reg_alloc.specs.Kept.{number}
use Rattle.reg_alloc.specs.Marks.{Marks, alone}
use Rattle.reg_alloc.specs.Visit.{put, seen, code_visit}

-- the results are put in
abbrev pub marked : List ℕ → Marks → Marks
marked [] set = set
marked (r ∷ rets) set = put (marked rets set) r

-- live at the end are the results
abbrev pub at_end : Flat → Marks
at_end flat = marked flat.rets (replicate flat.vars false)

abbrev pub at_start : Flat → Marks
at_start flat = (code_visit flat.body).back (at_end flat)

-- what is in the set and below a number, the first of the set being v
abbrev pub front_from : ℕ → ℕ → Marks → Marks
front_from args v [] = []
front_from args v (live ∷ set) = (nat_lt v args && live) ∷ front_from args (v + 1) set

abbrev pub all_below : ℕ → (ℕ → Bool) → Bool
all_below zero test = true
all_below (suc n) test = all_below n test && test n

-- of the variables below a number that are in the set, none has the place of another
abbrev pub arguments_fit : ℕ → List ℕ → Marks → Bool
arguments_fit args places set = all_below args (λ u. not (slice_index_or set u false) || alone places u set)

-- the statements fit, and so do the arguments that are live at the start
abbrev pub fits_to_start : ℕ → Marks → Watch → Bool
fits_to_start args set (Places places fit) = fit && arguments_fit args places (front_from args 0 set)
fits_to_start args set (Lists vars lists) = false
fits_to_start args set (Conflicts conflicts) = false

abbrev pub code_fits : Flat → List ℕ → Bool
code_fits flat places = fits_to_start flat.args (at_start flat) ((code_visit flat.body).note (at_end flat) (Places places true))

abbrev pub plan_fits : Flat → Plan → Bool
plan_fits flat plan =
    (nat_eq (length plan.places) flat.vars && all_true (map (is_place flat.vars) plan.places))
    && code_fits flat (map number plan.places)

abbrev pub lists_of : Watch → List (List ℕ)
lists_of (Places places fit) = []
lists_of (Lists vars lists) = lists
lists_of (Conflicts conflicts) = []

-- the lists are kept from the last to the first, and the start's is the last to be kept
abbrev pub live_lists : Flat → List (List ℕ)
live_lists flat = reverse (lists_of (seen None (at_start flat) ((code_visit flat.body).note (at_end flat) (Lists flat.vars []))))
