-- What holds of the whole code of a command.
use Rattle.std.proofs.Common.{◌≡◌, refl, ap, ◌∙◌, arith, ℕ, zero, suc, ◌^◌, ◌<◌, ◌≤◌, List, length, get_or, map, Some, Result, Ok}
use Rattle.std.proofs.Common.{Err, IfOk, slice_get, option_map, All}
use Rattle.std.proofs.lemmas.List.{length-map}
use Rattle.std.proofs.lemmas.Option.{slice_get-map, slice_get-get_or, get_or_from_slice_get}
use Rattle.bed_syntax.specs.Named.{cmd_names}
use Rattle.bed_syntax.specs.Shape.{cmd_locals, cmd_size, numbers, locals_of}
use Rattle.bed_syntax.specs.Weight.{cmd_weight}
use Rattle.bed_syntax.specs.declared.weights.Weights.{Weights}
use Rattle.bed_syntax.specs.declared.command.Cmd.{Cmd}
use Rattle.flat_lang.specs.Count.{code_names, code_weight, code_size}
use Rattle.flat_lang.specs.Whole.{IsWhole}
use Rattle.flat_lang.specs.declared.flat.Flat.{Flat}
use Rattle.flatten.specs.Code.{place, flat_of}
use Rattle.bed_syntax.specs.Tables.{cmd_tables}
use Rattle.flatten.proofs.CountedCommands.{CmdSame, cmd_same}
use Rattle.flatten.proofs.Growth.{cmd_grows}
use Rattle.flatten.proofs.Kept.{arguments_first}
use Rattle.flatten.proofs.Places.{Known, Extends, extends_through, extends_all_noted, known_all_noted}
use Rattle.flatten.proofs.WholeCode.{cmd_whole}

-- a fact of the value of an answer that is there
pub for_ok : {A E : Type 0} (r : Result A E) (P Q : A → Type 0) → ((x : A) → P x → Q x) → IfOk r P → IfOk r Q
for_ok (Ok x) P Q f h = f x h
for_ok (Err e) P Q f h = h

-- weights of nothing
abbrev none : Weights
none = record { literal = 0; variable = 0; operation = 0; load = 0; table = 0; set = 0; store = 0; test = 0; turn = 0; entry = 0 }

module _ (cmd : Cmd) (args : ℕ) (rets : List ℕ) where
  abbrev names : List ℕ
  names = locals_of cmd args rets

  abbrev flat : Flat
  flat = flat_of cmd args rets

  pub weighs : (w : Weights) → w.variable ≡ w.set → code_weight w flat.body ≡ cmd_weight w cmd
  weighs w same = let all : CmdSame w same names cmd = cmd_same w same names cmd in (all.counts 0).weight

  abbrev same : CmdSame none refl names cmd
  same = cmd_same none refl names cmd

  pub named : code_names flat.body ≡ cmd_names cmd
  named = (same.counts 0).names

  pub listed : flat.tables ≡ cmd_tables cmd
  listed = same.tables

  first : Extends (numbers args) names
  first = extends_through (numbers args) (cmd_locals cmd (numbers args)) names (cmd_grows cmd (numbers args))
      (extends_all_noted rets (cmd_locals cmd (numbers args)))

  room_for : (n : ℕ) → n ≡ args → args ≤ length names
  room_for zero e = omega arith
  room_for (suc n) e = let h = arguments_first args n names first (omega arith) in let p : place names n ≡ n = h.1 in
      let k : Known names n = h.0 in omega arith

  results_below : All (λ x. x < flat.vars) flat.rets
  results_below k d below =
      let n : length (map (place names) rets) ≡ length rets = length-map rets (place names) in
      let x : ℕ = get_or rets k 0 in
      let is : slice_get rets k ≡ Some x = slice_get-get_or rets k 0 (omega arith) in
      let at : slice_get (map (place names) rets) k
      ≡ Some (place names x) = slice_get-map (place names) rets k ∙ ap (option_map (place names)) is in
      let e : get_or (map (place names) rets) k d
      ≡ place names x = get_or_from_slice_get (map (place names) rets) k (place names x) d at in
      let known : Known names x = known_all_noted rets (cmd_locals cmd (numbers args)) k x is in
      omega arith

  pub whole : cmd_size cmd < 2 ^ 30 → args ≤ 8 → length rets ≤ 2 → IsWhole flat
  whole small few_args few_rets =
      let few : code_size flat.body ≤ cmd_size cmd = (same.counts 0).size in
      let n : length (map (place names) rets) ≡ length rets = length-map rets (place names) in
      let room : args ≤ length names = room_for args refl in
      record {
        body = cmd_whole flat.vars (length flat.tables) names cmd (numbers args) 0
            (extends_all_noted rets (cmd_locals cmd (numbers args))) (omega arith) (omega arith);
        args = few_args;
        arguments = omega arith;
        rets = omega arith;
        results = results_below;
        few = omega arith;
      }
