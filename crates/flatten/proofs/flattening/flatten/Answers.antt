use Rattle.std.proofs.Common.{◌≡◌, ◌≤◌, sym, ap, subst, ◌∙◌}
use Rattle.bed_syntax.specs.Named.{cmd_names}
use Rattle.bed_syntax.specs.Pressure.{pressure}
use Rattle.bed_syntax.specs.Weight.{cmd_weight}
use Rattle.bed_syntax.specs.declared.weights.Weights.{Weights}
use Rattle.flat_lang.specs.Count.{code_names, code_weight}
use Rattle.flat_lang.specs.Pressure.{flat_pressure}
use Rattle.flat_lang.specs.Whole.{IsWhole}
use Rattle.flatten.specs.Code.{flat_of}
use Rattle.flatten.specs.Keeps.{Keeps}
use Rattle.bed_syntax.specs.Tables.{cmd_tables}
use Rattle.flatten.proofs.Flattened.{for_ok, weighs, named, listed, whole}
use Rattle.flatten.proofs.Kept.{keeps}
use Rattle.flatten.proofs.Pressure.{pressed}
use Rattle.flatten.proofs.flattening.flatten.Goals as goal

pub returns-clause-keeps : goal.returns-clause-keeps
returns-clause-keeps c =
    for_ok c.code_of.result (λ flat. flat ≡ flat_of c.args.c.now c.args.args c.args.rets.now)
    (λ flat. Keeps c.args.c.now c.args.args c.args.rets.now flat)
    (λ flat is. subst (λ f. Keeps c.args.c.now c.args.args c.args.rets.now f) (sym is)
    (keeps c.args.c.now c.args.args c.args.rets.now)) c.code_of.ensures

pub returns-clause-whole : goal.returns-clause-whole
returns-clause-whole c =
    for_ok c.code_of.result (λ flat. flat ≡ flat_of c.args.c.now c.args.args c.args.rets.now) (λ flat. IsWhole flat)
    (λ flat is. subst (λ f. IsWhole f) (sym is)
    (whole c.args.c.now c.args.args c.args.rets.now c.requires.small c.requires.few_args c.requires.few_rets))
    c.code_of.ensures

pub returns-clause-tables : goal.returns-clause-tables
returns-clause-tables c =
    for_ok c.code_of.result (λ flat. flat ≡ flat_of c.args.c.now c.args.args c.args.rets.now)
    (λ flat. flat.tables ≡ cmd_tables c.args.c.now)
    (λ flat is. ap (λ f. f.tables) is ∙ listed c.args.c.now c.args.args c.args.rets.now) c.code_of.ensures

pub returns-clause-weight : goal.returns-clause-weight
returns-clause-weight c =
    for_ok c.code_of.result (λ flat. flat ≡ flat_of c.args.c.now c.args.args c.args.rets.now)
    (λ flat. (w : Weights) → w.variable ≡ w.set → code_weight w flat.body ≡ cmd_weight w c.args.c.now)
    (λ flat is w same. ap (λ f. code_weight w f.body) is ∙ weighs c.args.c.now c.args.args c.args.rets.now w same)
    c.code_of.ensures

pub returns-clause-names : goal.returns-clause-names
returns-clause-names c =
    for_ok c.code_of.result (λ flat. flat ≡ flat_of c.args.c.now c.args.args c.args.rets.now)
    (λ flat. code_names flat.body ≡ cmd_names c.args.c.now)
    (λ flat is. ap (λ f. code_names f.body) is ∙ named c.args.c.now c.args.args c.args.rets.now) c.code_of.ensures

pub returns-clause-pressure : goal.returns-clause-pressure
returns-clause-pressure c =
    for_ok c.code_of.result (λ flat. flat ≡ flat_of c.args.c.now c.args.args c.args.rets.now)
    (λ flat. flat_pressure flat ≤ pressure c.args.c.now c.args.args c.args.rets.now)
    (λ flat is. subst (λ f. flat_pressure f ≤ pressure c.args.c.now c.args.args c.args.rets.now) (sym is)
    (pressed c.args.c.now c.args.args c.args.rets.now)) c.code_of.ensures
