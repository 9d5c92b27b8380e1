-- Each model that is read is formed, and the text of models can spell its tables.
use Rattle.std.proofs.Common.{◌≡◌, sym, subst, ℕ, List, [], ◌∷◌, map, Ok, codes}
use Rattle.rup_base.specs.declared.arg.Place.{Place}
use Rattle.sx_text.specs.declared.tree.Sx.{Sx, Sx-F, ind-Sx, map-Sx, roll-Sx}
use Rattle.sx_text.specs.declared.tree.Sx.TheVariants.{rolls-Atom, rolls-Kids}
use Rattle.sx_text.specs.declared.tree.Sx.TheOpen as x
use Rattle.model_syntax.specs.Formed.{fact_formed}
use Rattle.model_syntax.specs.declared.expr.Expr.{Expr}
use Rattle.model_syntax.specs.declared.stmt.Le.{Le}
use Rattle.model_syntax.specs.declared.program.Model.{Model}
use Rattle.rup_base.specs.Name.{is_name}
use Rattle.model_reader.specs.Parts as parts
use Rattle.model_reader.specs.Parts.{Reading}
use Rattle.model_reader.specs.Facts.{fact, facts_of}
use Rattle.model_reader.specs.Models.{model, whole}
use Rattle.model_reader.specs.Reading.{reading, atom_reading, list_reading}
use Rattle.model_reader.proofs.laws.Readings.{reading-Atom, reading-Kids}
use Rattle.model_reader.proofs.Gives.{Gives, given, refused, ◌⊳◌}
use Rattle.model_reader.proofs.Fine.{IsFine, AreFine, no_more, IsExpr, IsFact, IsModel, AreFacts, name_gives, name_part}
use Rattle.model_reader.proofs.Fine.{each_passes, behind_gives, nth_gives}
use Rattle.model_reader.proofs.FineExprs.{atom_expr_gives, list_expr_gives, table_gives, atom_side_gives, list_side_gives}
use Rattle.model_reader.proofs.FineExprs.{list_fact_gives}
use Rattle.model_reader.proofs.FineStmts.{list_stmt_gives, block_gives, atom_sort_gives, list_sort_gives, list_param_gives}
use Rattle.model_reader.proofs.FineStmts.{params_gives, atom_ret_gives, list_ret_gives, rets_gives, list_model_gives}

atom_fine : (p : Place) (t : List ℕ) → IsFine (atom_reading p t)
atom_fine p t = record {
  expr = atom_expr_gives p t;
  entries = λ s. refused;
  side = atom_side_gives p t;
  fact = refused;
  keep = refused;
  names = refused;
  element = refused;
  stmt = refused;
  block = refused;
  sort = atom_sort_gives p t;
  param = refused;
  params = refused;
  requires_ = refused;
  ret = atom_ret_gives p t;
  rets = refused;
  model = refused;
}

facts_give : (word : List ℕ) (p : Place) (fs : List Reading) → AreFine fs → Gives (facts_of word p fs) AreFacts
facts_give word p fs h = behind_gives word p fs h ⊳ λ args k. each_passes fact_formed fact (λ f l. l.fact) args k

list_fine : (p : Place) (fs : List Reading) → AreFine fs → IsFine (list_reading p fs)
list_fine p fs h = record {
  expr = list_expr_gives p fs h;
  entries = λ t. table_gives t p fs;
  side = list_side_gives p fs h;
  fact = list_fact_gives p fs h;
  keep = facts_give (codes "keep") p fs h;
  names = each_passes is_name parts.name (λ f k. name_gives f) fs h;
  element = name_part p fs h 0 ⊳ λ x k. no_more 1 fs ⊳ λ u _. given k;
  stmt = list_stmt_gives p fs h;
  block = block_gives p fs h;
  sort = list_sort_gives p fs h;
  param = list_param_gives p fs h;
  params = params_gives p fs h;
  requires_ = facts_give (codes "require") p fs h;
  ret = list_ret_gives p fs h;
  rets = rets_gives p fs h;
  model = list_model_gives p fs h;
}

abbrev Holds : Sx → Type 0
Holds form = IsFine (reading form)

abbrev Proved : Type 0
Proved = (form : Sx) × Holds form

abbrev forms_of : List Proved → List Sx
forms_of ks = map (λ (k : Proved). k.0) ks

all_fine : (ks : List Proved) → AreFine (map reading (forms_of ks))
all_fine [] = tt
all_fine (k ∷ ks) = (k.1, all_fine ks)

layer : (y : Sx-F Proved) → Holds (roll-Sx (map-Sx Proved Sx (λ k. k.0) y))
layer (x.Atom p t) = subst Holds (sym (rolls-Atom p t)) (subst IsFine (sym (reading-Atom p t)) (atom_fine p t))
layer (x.Kids p ks) =
    subst Holds (sym (rolls-Kids p (forms_of ks)))
    (subst IsFine (sym (reading-Kids p (forms_of ks))) (list_fine p (map reading (forms_of ks)) (all_fine ks)))

fine : (form : Sx) → IsFine (reading form)
fine = ind-Sx Holds (λ z y is. subst (λ form. Holds (roll-Sx form)) is (layer y))

pub expr_is_fine : (form : Sx) (a : Expr) → (reading form).expr ≡ Ok a → IsExpr a
expr_is_fine form = (fine form).expr.has

pub fact_is_fine : (form : Sx) (a : Le) → (reading form).fact ≡ Ok a → IsFact a
fact_is_fine form = (fine form).fact.has

each_fine : (forms : List Sx) → AreFine (map reading forms)
each_fine [] = tt
each_fine (form ∷ forms) = (fine form, each_fine forms)

-- the one model of a text
whole_gives : (p : Place) (forms : List Sx) → Gives (whole p (map reading forms)) IsModel
whole_gives p forms =
    nth_gives model (λ f k. k.model) p (map reading forms) (each_fine forms) 0 ⊳ λ m h.
    no_more 1 (map reading forms) ⊳ λ u _. given h

pub whole_is_fine : (p : Place) (forms : List Sx) (m : Model) → whole p (map reading forms) ≡ Ok m → IsModel m
whole_is_fine p forms = (whole_gives p forms).has
