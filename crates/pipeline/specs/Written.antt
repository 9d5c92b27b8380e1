-- What is written for a model: any bytes that are an image of it within a bound and a weight, with the operations of a
-- command.
use Rattle.std.specs.Prelude.{◌≡◌, ℕ, ◌*◌, ◌≤◌, List, length}
use Rattle.std.specs.List.{flat_map}
use Rattle.std.specs.Int.{w32, to_le_bytes}
use Rattle.cost_poly.specs.declared.term.Term.{Term}
use Rattle.model_syntax.specs.declared.program.Model.{Model}
use Rattle.bed_syntax.specs.declared.command.Cmd.{Cmd}
use Rattle.bed_syntax.specs.Named.{cmd_names}
use Rattle.rv_emit.specs.Names.{op_words}
use Rattle.image_layout.specs.declared.image.Image.{Image}
use Rattle.image_layout.specs.Spelling.{Layout}
use Rattle.run_setup.specs.Good.{Good}

-- the words of code, little endian
abbrev pub bytes_of : List ℕ → List ℕ
bytes_of words = flat_map (to_le_bytes w32) words

-- An image of version 1 with the bound, and with at most as many instructions as the weight, whose operations that are
-- known by the words of their instructions are those of the command, in
-- order. It is good for the model: `Good` says that parameters,
-- requirements and results are the model's, and that each call returns within the bound with the model's value.
pub record Written (m : Model) (command : Cmd) (bound : List Term) (weight : ℕ) (bytes : List ℕ) : Type 0 where
  pub image : Image
  pub layout : Layout image bytes
  pub version_is : image.version ≡ 1
  pub bound_is : image.bound ≡ bound
  pub code_size : length image.code ≤ 4 * weight
  pub words : List ℕ
  pub code_is : image.code ≡ bytes_of words
  pub names_are : op_words words ≡ cmd_names command
  pub good : Good m image
