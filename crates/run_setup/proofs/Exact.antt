-- The words of the results are words: so says type soundness of a well typed model.
use Rattle.std.proofs.Common.{◌≡◌, ◌<◌, ◌^◌, ℕ, true, false, List, [], ◌∷◌, map, arith}
use Rattle.std.specs.Prelude.{⊤}
use Rattle.std.specs.List.{AllByRecursion}
use Rattle.std.proofs.lemmas.Bool.{leb-true}
use Rattle.rup_base.specs.Gather.{all_true}
use Rattle.rup_base.specs.declared.arg.Arg.{Arg}
use Rattle.rup_base.specs.declared.arg.Arg.TheVariants as arg
use Rattle.model_syntax.specs.declared.program.Ret.{Ret}
use Rattle.model_syntax.specs.declared.program.Ret.TheVariants as ret
use Rattle.model_syntax.specs.Environment.{Env}
use Rattle.model_syntax.specs.Kinds.{is_word, is_of_kind}
use Rattle.model_syntax.specs.Scope.{Scope}
use Rattle.model_syntax.specs.Sound.{kind_of_value, IsResult, AreResults}
use Rattle.model_syntax.proofs.laws.Arrays.{and_parts}

-- the elements of an array of words are words
abbrev pub HasWords : Arg → Type 0
HasWords (arg.Words words) = AllByRecursion (λ n. n < 2 ^ 32) words
HasWords result = ⊤

words_below : (ns : List ℕ) → all_true (map is_word ns) ≡ true → AllByRecursion (λ n. n < 2 ^ 32) ns
words_below [] all = tt
words_below (n ∷ ns) all =
    let both = and_parts (is_word n) (all_true (map is_word ns)) all in
    let least = leb-true n 4294967295 both.0 in
    (omega (arith, least), words_below ns both.1)

like_argument : (argument v : Arg) → is_of_kind (kind_of_value argument) v ≡ true → HasWords v
like_argument argument (arg.Word n) is = tt
like_argument argument (arg.Bytes ns) is = tt
like_argument (arg.Word n) (arg.Words ns) is = absurd (let bad : false ≡ true = is in cc)
like_argument (arg.Bytes ms) (arg.Words ns) is = absurd (let bad : false ≡ true = is in cc)
like_argument (arg.Words ms) (arg.Words ns) is = words_below ns (and_parts _ (all_true (map is_word ns)) is).1

result_fits : (c : Scope) (env : Env) (r : Ret) (v : Arg) → IsResult c env r v → HasWords v
result_fits c env (ret.Scalar x) (arg.Word n) result = tt
result_fits c env (ret.Scalar x) (arg.Bytes ns) result = tt
result_fits c env (ret.Scalar x) (arg.Words ns) result = absurd (let bad = result.is in cc)
result_fits c env (ret.Array a p) v result = like_argument result.argument v result.same

pub results_fit : (c : Scope) (env : Env) (rets : List Ret) (found : List Arg) → AreResults c env rets found
    → AllByRecursion HasWords found
results_fit c env [] [] all = tt
results_fit c env [] (v ∷ found) all = absurd all
results_fit c env (r ∷ rets) [] all = absurd all
results_fit c env (r ∷ rets) (v ∷ found) all = (result_fits c env r v all.0, results_fit c env rets found all.1)
