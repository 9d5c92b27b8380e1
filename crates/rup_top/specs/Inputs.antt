-- What commands read: the limits of files, and the model of a text.
use Rattle.std.specs.Prelude.{ℕ, List, Result}
use Rattle.rup_base.specs.Answers.{and_then}
use Rattle.rup_base.specs.declared.refusal.Refusal.{Refusal}
use Rattle.model_syntax.specs.declared.program.Model.{Model}
use Rattle.model_reader.specs.Reading.{read_model}
use Rattle.model_types.specs.Checked.{checked}

-- the greatest lengths of a model's, a lemma file's, a derivation's and an image's file, in bytes
abbrev pub model_limit : ℕ
model_limit = 1_048_576

abbrev pub lemma_limit : ℕ
lemma_limit = 1_048_576

abbrev pub tree_limit : ℕ
tree_limit = 16_777_216

abbrev pub image_limit : ℕ
image_limit = 2_097_152

-- the well typed model of the bytes of word 1, or the first refusal
abbrev pub typed_model : List ℕ → Result Model Refusal
typed_model bytes = and_then (read_model 1 bytes) checked
