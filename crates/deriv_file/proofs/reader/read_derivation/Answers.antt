use Rattle.deriv_file.proofs.laws.FileOf.{reads_file, reads_exact, reads_whole}
use Rattle.deriv_file.proofs.reader.read_derivation.Goals as goal

pub returns : goal.returns
returns c = record {
  file = reads_file c.args.bytes.now c.answer.result c.answer.ensures;
  exact = reads_exact c.args.bytes.now c.answer.result c.answer.ensures;
  answer = c.answer.ensures;
  whole = reads_whole c.args.bytes.now c.answer.result c.answer.ensures;
}
