-- The walk over statements from the end to the start, over sets of live variables.
use Rattle.std.specs.Prelude.{ℕ, true, false, ◌&&◌, List, [], ◌∷◌, ◌++◌, map, Option, Some, None, slice_set, slice_index_or}
use Rattle.flat_lang.specs.declared.flat.FStmt.{FStmt, FStmt-F, fold-FStmt}
use Rattle.flat_lang.specs.declared.flat.FStmt.TheOpen as f
use Rattle.reg_alloc.specs.declared.watch.Watch.{Watch}
use Rattle.reg_alloc.specs.declared.watch.Watch.TheVariants.{Places, Lists, Conflicts}
use Rattle.reg_alloc.specs.Marks.{Marks, blank, either, listed, alone}

-- what is in the set is put into the set of x
abbrev pub met : List Marks → ℕ → Marks → List Marks
met conflicts x set = slice_set conflicts x (either (slice_index_or conflicts x []) set)

-- what is kept of a statement, by what it writes and what is live after it
abbrev pub seen : Option ℕ → Marks → Watch → Watch
seen None set (Places places fit) = Places places fit
seen (Some x) set (Places places fit) = Places places (fit && alone places x set)
seen None set (Conflicts conflicts) = Conflicts conflicts
seen (Some x) set (Conflicts conflicts) = Conflicts (met conflicts x set)
seen writes set (Lists vars lists) = Lists vars (lists ++ listed vars set ∷ [])

-- a piece of code: what is live before it, and what is kept of its statements, by what is live after it
pub record Visit : Type 0 where
  pub back : Marks → Marks
  pub note : Marks → Watch → Watch

abbrev pub visits : List Visit → Visit
visits [] = record { back = λ set. set; note = λ set watch. watch }
visits (a ∷ rest) = record {
  back = λ set. a.back ((visits rest).back set);
  note = λ set watch. a.note ((visits rest).back set) ((visits rest).note set watch);
}

abbrev pub single : Option ℕ → (Marks → Marks) → Visit
single writes back = record { back = back; note = seen writes }

abbrev pub put : Marks → ℕ → Marks
put set x = slice_set set x true

abbrev pub cut : Marks → ℕ → Marks
cut set x = slice_set set x false

-- what is live at a loop's head, and at its test
abbrev pub head : Visit → ℕ → Visit → Marks → Marks
head a x b set = a.back (put (either set (b.back (blank set))) x)

abbrev pub at_test : Visit → ℕ → Visit → Marks → Marks
at_test a x b set = put (either set (b.back (head a x b set))) x

abbrev pub visit_step : FStmt-F Visit → Visit
visit_step (f.Lit x n) = single (Some x) (λ set. cut set x)
visit_step (f.Copy x y) = single (Some x) (λ set. put (cut set x) y)
visit_step (f.Bin op x y z) = single (Some x) (λ set. put (put (cut set x) z) y)
visit_step (f.Load size x y) = single (Some x) (λ set. put (cut set x) y)
visit_step (f.Table size x k y) = single (Some x) (λ set. put (cut set x) y)
visit_step (f.Store size x y) = single None (λ set. put (put set y) x)
visit_step (f.If x a b) = record {
  back = λ set. put (either ((visits a).back set) ((visits b).back set)) x;
  note = λ set watch. seen None set ((visits a).note set ((visits b).note set watch));
}
visit_step (f.While a x b) = record {
  back = λ set. head (visits a) x (visits b) set;
  note = λ set watch. seen None set
      ((visits a).note (at_test (visits a) x (visits b) set) ((visits b).note (head (visits a) x (visits b) set) watch));
}

abbrev pub visit : FStmt → Visit
visit = fold-FStmt Visit visit_step

abbrev pub code_visit : List FStmt → Visit
code_visit body = visits (map visit body)
