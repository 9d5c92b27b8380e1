use Rattle.lemma_files.proofs.Exact.{answered_only, answered_all}
use Rattle.lemma_files.proofs.reader.read_lemmas.Goals as goal

pub returns : goal.returns
returns c =
    let word = c.args.word in
    let bytes = c.args.bytes.now in
    let result = c.lemmas_of_text.result in
    record {
      exact = c.lemmas_of_text.ensures;
      only = answered_only word bytes result c.lemmas_of_text.ensures;
      all = λ lemmas reads. answered_all word bytes result lemmas reads c.lemmas_of_text.ensures;
    }
