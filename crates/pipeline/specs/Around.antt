-- The image around the code of a model.
use Rattle.std.specs.Prelude.{◌≡◌, ℕ, true, List, map}
use Rattle.side_certs.specs.LinearForm.{LinearForm, is_within, rises_from}
use Rattle.cost_poly.specs.declared.term.Term.{Term}
use Rattle.model_syntax.specs.declared.program.Model.{Model}
use Rattle.model_syntax.specs.Entries.{result_place}
use Rattle.model_syntax.specs.Types.{kind_of}
use Rattle.sym_heap.specs.Start.{start}
use Rattle.image_layout.specs.declared.image.Image.{Image}
use Rattle.image_layout.specs.Spelling.{code_offset}

-- The parameters and results of the model, and its requirements, which are the facts at its start. Where the code begins
-- depends on none of entry, stack, code and tables.
abbrev pub image_from : ℕ → Model → List Term → ℕ → List ℕ → List ℕ → Image
image_from entry m bound stack code tables =
    record {
      version = 1;
      params = map kind_of m.params;
      requires_ = (start m).facts;
      rets = map (result_place m.params) m.rets;
      bound = bound;
      entry = entry;
      stack = stack;
      code = code;
      tables = tables;
    }

-- the image that is entered at its first instruction
abbrev pub image_around : Model → List Term → ℕ → List ℕ → List ℕ → Image
image_around m bound stack code tables =
    image_from (code_offset (image_from 0 m bound stack code tables)) m bound stack code tables

-- what every form of the code keeps: its numbers are small and its symbols rise
abbrev pub IsLimited : LinearForm → Type 0
IsLimited f = (is_within f ≡ true) × (rises_from 0 f.terms ≡ true)
