use Rattle.model_reader.proofs.laws.Exact.{answered_only, answered_all, answered_spellable, answered_formed}
use Rattle.model_reader.proofs.reader.read_model.Goals as goal

pub returns : goal.returns
returns c =
    let word = c.args.word in
    let bytes = c.args.bytes.now in
    let result = c.model_of_text.result in
    record {
      exact = c.model_of_text.ensures;
      only = answered_only word bytes result c.model_of_text.ensures;
      spellable = answered_spellable word bytes result c.model_of_text.ensures;
      formed = answered_formed word bytes result c.model_of_text.ensures;
      all = λ m reads within. answered_all word bytes result m reads within c.model_of_text.ensures;
    }
