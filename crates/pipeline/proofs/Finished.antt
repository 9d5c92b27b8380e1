-- What is written around the code of a model.
use Rattle.std.proofs.Common.{◌≡◌, refl, sym, ◌∙◌, subst, arith, ℕ, ◌≤◌, ◌%◌, true, List, map, length}
use Rattle.std.specs.List.{AllByRecursion}
use Rattle.std.proofs.lemmas.List.{length-map}
use Rattle.side_certs.specs.LinearForm.{LinearForm}
use Rattle.bed_syntax.specs.Named.{cmd_names}
use Rattle.bed_syntax.specs.declared.weights.Weights.{Weights}
use Rattle.model_command.specs.declared.command.ModelCommand.{ModelCommand}
use Rattle.model_command.specs.Measures.{IsMeasured, IsSmall}
use Rattle.model_syntax.specs.declared.program.Model.{Model}
use Rattle.model_syntax.specs.Formed.{model_formed}
use Rattle.model_syntax.specs.Types.{Well}
use Rattle.rv_code.specs.Word.{word_of}
use Rattle.rv_emit.specs.Names.{named_in}
use Rattle.rv_emit.specs.declared.emission.Emitted.{Emitted}
use Rattle.rv_emit.proofs.laws.WordNames.{words_named}
use Rattle.image_layout.specs.declared.image.Image.{Image}
use Rattle.image_layout.specs.Spelling.{Layout, IsWithinLimits}
use Rattle.pipeline.specs.Around.{image_around, IsLimited}
use Rattle.pipeline.specs.Serves.{Serves}
use Rattle.pipeline.specs.Written.{Written, bytes_of}
use Rattle.pipeline.proofs.Called.{good}
use Rattle.pipeline.proofs.Limits.{code_length, within}

abbrev pub image_for : Model → ModelCommand → Emitted → Image
image_for m c e = image_around m c.bound e.stack (bytes_of (map word_of e.code)) e.tables

pub image_within : (w : Weights) (m : Model) (c : ModelCommand) (e : Emitted) (i : Image) → Well m → model_formed m ≡ true
    → IsMeasured w m c → IsSmall c
    → 1 ≤ length e.code → length e.code ≤ c.weight → length e.tables ≤ 131072 → e.stack % 16 ≡ 0 → e.stack ≤ 4096
    → i ≡ image_for m c e → AllByRecursion IsLimited i.requires_ → IsWithinLimits i
image_within w m c e i well formed measured small some counted short aligned low is limited =
    let size : length (map word_of e.code) ≡ length e.code = length-map e.code word_of in
    let facts = subst (λ (x : Image). AllByRecursion IsLimited x.requires_) is limited in
    subst IsWithinLimits (sym is)
    (within w m c e.stack (map word_of e.code) e.tables well formed measured small facts (omega (arith, size, some))
    (omega (arith, size, counted, small.light)) short aligned low)

pub written : (m : Model) (c : ModelCommand) (e : Emitted) (i : Image) (bytes : List ℕ) → Well m → model_formed m ≡ true
    → Serves m c (map word_of e.code) e.tables e.stack → length e.code ≤ c.weight → named_in e.code ≡ cmd_names c.command
    → i ≡ image_for m c e → Layout i bytes → Written m c.command c.bound c.weight bytes
written m c e i bytes well formed serves counted names is layout =
    let size : length (map word_of e.code) ≡ length e.code = length-map e.code word_of in
    record {
      image = image_for m c e;
      layout = subst (λ (x : Image). Layout x bytes) is layout;
      version_is = refl;
      bound_is = refl;
      code_size = omega (arith, code_length (map word_of e.code), size, counted);
      words = map word_of e.code;
      code_is = refl;
      names_are = words_named e.code ∙ names;
      good = good m c (map word_of e.code) e.tables e.stack well formed serves;
    }
