-- What each form is read as, and what each text is.
use Rattle.std.specs.Prelude.{◌≡◌, ℕ, ◌+◌, List, [], map, length, Result, Ok, Err, Some, None, codes}
use Rattle.rup_base.specs.declared.arg.Place.{Place}
use Rattle.rup_base.specs.Answers.{and_then}
use Rattle.rup_base.specs.declared.refusal.Refusal.{Refusal}
use Rattle.rup_base.specs.declared.refusal.Refusal.TheVariants.{NotModel, OverLimit}
use Rattle.sx_text.specs.declared.tree.Sx.{Sx, Sx-F, fold-Sx}
use Rattle.sx_text.specs.declared.tree.Sx.TheOpen as x
use Rattle.sx_text.specs.Forms.{place, read}
use Rattle.model_syntax.specs.Limits.{over_limit}
use Rattle.model_syntax.specs.declared.program.Model.{Model}
use Rattle.model_reader.specs.Parts.{Answer, Reading, wrong, each, alone, name}
use Rattle.model_reader.specs.Expressions.{atom_expr, list_expr, entries_of}
use Rattle.model_reader.specs.Facts.{atom_side, list_side, list_fact, facts_of}
use Rattle.model_reader.specs.Statements.{list_stmt, block_of}
use Rattle.model_reader.specs.Models.{atom_sort, list_sort, list_param, params_of, atom_ret, list_ret, rets_of, list_model, whole}

abbrev pub atom_reading : Place → List ℕ → Reading
atom_reading p t = record {
  at = p;
  text = t;
  expr = atom_expr p t;
  entries = λ _. wrong p;
  side = atom_side p t;
  fact = wrong p;
  keep = wrong p;
  names = wrong p;
  element = wrong p;
  stmt = wrong p;
  block = wrong p;
  sort = atom_sort p t;
  param = wrong p;
  params = wrong p;
  requires_ = wrong p;
  ret = atom_ret p t;
  rets = wrong p;
  model = wrong p;
}

abbrev pub list_reading : Place → List Reading → Reading
list_reading p fs = record {
  at = p;
  text = [];
  expr = list_expr p fs;
  entries = λ t. entries_of t p fs;
  side = list_side p fs;
  fact = list_fact p fs;
  keep = facts_of (codes "keep") p fs;
  names = each name fs;
  element = alone name p fs;
  stmt = list_stmt p fs;
  block = block_of p fs;
  sort = list_sort p fs;
  param = list_param p fs;
  params = params_of p fs;
  requires_ = facts_of (codes "require") p fs;
  ret = list_ret p fs;
  rets = rets_of p fs;
  model = list_model p fs;
}

abbrev pub reading_step : Sx-F Reading → Reading
reading_step (x.Atom p t) = atom_reading p t
reading_step (x.Kids p fs) = list_reading p fs

abbrev pub reading : Sx → Reading
reading = fold-Sx Reading reading_step

-- the forms of a text as a model; on the outermost level a form is missing at the text's end
abbrev pub model_of_forms : ℕ → List Sx → Answer Model
model_of_forms size forms = whole (place 0 (size + 1)) (map reading forms)

-- the bytes are a text of this model, whatever its size; their forms do not depend on the word, here 0, that
-- names their file
abbrev pub Reads : List ℕ → Model → Type 0
Reads bytes m = (forms : List Sx) × (read 0 bytes ≡ Ok forms) × (model_of_forms (length bytes) forms ≡ Ok m)

-- what the forms of a model's file are read as; its grammar is refused as no model
abbrev pub not_model : {A : Type 0} → Answer A → Result A Refusal
not_model (Ok a) = Ok a
not_model (Err at) = Err (NotModel at)

abbrev pub limited : Model → Result Model Refusal
limited m = elim (over_limit m) [ None ↦ Ok m | Some (which, count) ↦ Err (OverLimit which count) ]

-- the model of a file's bytes: first the text, then the grammar, then the limits
abbrev pub read_model : ℕ → List ℕ → Result Model Refusal
read_model word bytes =
    and_then (read word bytes) (λ forms. and_then (not_model (model_of_forms (length bytes) forms)) limited)
