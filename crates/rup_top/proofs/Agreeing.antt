-- The image that `replay` wrote for a model is run to what the model is evaluated to.
use Rattle.std.proofs.Common.{◌≡◌, ℕ, List, length, Some, Ok, sym, subst, ap, ◌∙◌, arith}
use Rattle.rup_base.specs.declared.arg.Kind.{Kind}
use Rattle.image_layout.proofs.laws.Layouts.{is_read}
use Rattle.image_layout.proofs.laws.Length.{image_small}
use Rattle.image_layout.specs.Spelling.{spelling}
use Rattle.model_reader.specs.Reading.{read_model}
use Rattle.run_setup.specs.Reading.{ReadsAll}
use Rattle.rup_top.proofs.Reading.{typed_well}
use Rattle.rup_top.specs.Agreement.{HoldsBoth, RunIsEval}
use Rattle.rup_top.specs.commands.Run.{CallsGood}
use Rattle.rup_top.specs.commands.Eval.{CallsModel}
use Rattle.rup_top.proofs.shown.Run.{run_gives}
use Rattle.rup_top.proofs.shown.Eval.{eval_gives}

module _ (files : List (List ℕ × List ℕ)) (model image : List ℕ) (texts : List (List ℕ))
    (given : HoldsBoth (Some files) model image texts) where
  for_eval : CallsModel (Some files) model texts
  for_eval = record {
    bytes = given.text;
    model_held = given.text_held;
    model_fits = given.text_fits;
    m = given.m;
    model_is = given.model_is;
    args = given.args;
    args_taken = given.args_taken;
    meets = given.meets;
    small = given.small;
  }

  for_run : CallsGood (Some files) image texts
  for_run =
      let sizes : length given.bytes ≡ length (spelling given.written.image) = ap length given.written.layout.bytes_are in
      let P : List Kind → Type 0 = λ ks. ReadsAll (Some files) 2 ks texts (Ok given.args) in
      record {
        bytes = given.bytes;
        image_held = given.bytes_held;
        image_fits = omega (arith, sizes, image_small given.written.image given.written.layout.within);
        i = given.written.image;
        image_is = is_read given.bytes given.written.image given.written.layout;
        m = given.m;
        well = typed_well given.m (read_model 1 given.text) given.model_is;
        good = given.written.good;
        args = given.args;
        args_taken = subst P (sym given.written.good.params_are) given.args_taken;
        meets = given.meets;
        small = given.small;
        in_time = given.in_time;
      }

pub run_is_eval : RunIsEval
unfolding for_run for_eval
run_is_eval files model image texts given a b runs evals =
    let ran = run_gives files image texts (for_run files model image texts given) a runs in
    let found = eval_gives files model texts (for_eval files model image texts given) b evals in
    (ran.status_is, found.status_is, ran.out_is ∙ sym found.out_is)
