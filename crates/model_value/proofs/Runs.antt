-- What a statement, a block and a turn add to what was run.
use Rattle.std.proofs.Common.{◌≡◌, sym, ◌∙◌, ap, arith, ℕ, suc, ◌+◌, ◌<◌, ◌≤◌, refl, Bool, true, false, List, [], ◌∷◌, map}
use Rattle.std.proofs.Common.{length, drop, get_or, Option, Some, Result, Ok, Err, OnOk, if◌then◌else◌}
use Rattle.rup_base.specs.declared.arg.Arg.{Arg}
use Rattle.rup_base.specs.declared.arg.Arg.TheVariants.{Word}
use Rattle.model_syntax.specs.declared.stmt.Stmt.{Stmt}
use Rattle.model_syntax.specs.Environment.{Env, value_of, put, carry}
use Rattle.model_syntax.specs.Names.{Name, same, listed}
use Rattle.model_syntax.proofs.laws.Bindings.{value_else}
use Rattle.model_value.proofs.Puts.{value_put}
use Rattle.model_syntax.specs.Value.{Turn, run, in_turn, folded, loop_turn, numbers}
use Rattle.model_value.specs.Bindings.{SameValues}
use Rattle.model_value.specs.Blocks.{add, come_back, handed_back, Restores, SameButFor}
use Rattle.model_value.proofs.Restoring.{front_of, restores_alike, block_carries, other_carries, counter_carries, not_hidden}
use Rattle.model_value.proofs.Restoring.{all_handed_back}
use Rattle.model_value.proofs.Alike.{block_alike}
use Rattle.model_value.proofs.Turns.{numbers_more, numbers_none}

pub on_ok : {T E P Q : Type 0} (r : Result T E) → (P → Q) → OnOk r P → OnOk r Q
on_ok (Ok a) more holds = more holds
on_ok (Err why) more holds = tt

-- a statement more
pub one_run : (ws : List Stmt) (i : ℕ) (w : Stmt) (before after end : Env) → i < length ws → w ≡ get_or ws i w
    → SameValues after (run w before)
    → SameValues (in_turn (map run (drop i ws)) before) end → SameValues (in_turn (map run (drop (i + 1) ws)) after) end
one_run ws i w before after end inside is alike so_far =
    let one : i + 1 ≡ suc i = omega arith in
    let there : drop i ws ≡ w ∷ drop (suc i) ws = front_of ws i w inside ∙ ap (λ h. h ∷ drop (suc i) ws) (sym is) in
    rw one (λ y. block_alike (drop (suc i) ws) after (run w before) alike y
    ∙ (λ j. value_of (in_turn (map run (sym there j)) before) y) ∙ so_far y)

-- what is handed back restores the names
handed_restores : (back : List Name) (kept : List (Option Arg)) (outer inner end after : Env) → kept ≡ map (value_of outer) back
    → SameValues inner end
    → ((y : Name) → value_of after y ≡ handed_back back kept (value_of inner) y) → Restores back outer end after
handed_restores back kept outer inner end after are alike gives =
    restores_alike back outer inner end after alike
    (λ y. gives y ∙ (λ j. handed_back back (are j) (value_of inner) y) ∙ all_handed_back back outer (value_of inner) y)

pub block_back : (xs : List Name) (ws : List Stmt) (back again : List Name) (kept : List (Option Arg)) (env inner after : Env)
    → back ≡ come_back xs ws → again ≡ come_back xs ws
    → kept ≡ map (value_of env) back → SameValues inner (in_turn (map run ws) env)
    → ((y : Name) → value_of after y ≡ handed_back again kept (value_of inner) y)
    → SameValues after (carry xs (in_turn (map run ws) env) env)
block_back xs ws back again kept env inner after is of are alike gives =
    let restores : Restores (come_back xs ws) env (in_turn (map run ws) env) after =
    handed_restores (come_back xs ws) kept env inner (in_turn (map run ws) env) after (are ∙ ap (map (value_of env)) is) alike
    (λ y. gives y ∙ (λ j. handed_back (of j) kept (value_of inner) y)) in
    λ y. restores y ∙ sym (block_carries xs ws env y)

pub turn_back : (x : Name) (i : ℕ) (ws : List Stmt) (back : List Name) (kept : List (Option Arg)) (env start inner after : Env)
    → kept ≡ map (value_of env) back
    → start ≡ put x (Word i) env → SameValues inner (in_turn (map run ws) start)
    → ((y : Name) → value_of after y ≡ handed_back back kept (value_of inner) y)
    → Restores back env (in_turn (map run ws) (put x (Word i) env)) after
turn_back x i ws back kept env start inner after are begins alike gives =
    handed_restores back kept env inner (in_turn (map run ws) (put x (Word i) env)) after are
    (λ y. alike y ∙ (λ j. value_of (in_turn (map run ws) (begins j)) y)) gives

-- Turns of a loop.

module _ (x : Name) (xs : List Name) (ws : List Stmt) (high : ℕ) (outer final : Env) where
  abbrev turn : ℕ → Turn
  turn = loop_turn x xs (map run ws)

  abbrev hidden : List Name
  hidden = add xs [] x

  -- but for a hidden counter the environment tells what one does from which the turns that are left lead to the end
  pub record MidLoop (i : ℕ) (env : Env) : Type 0 where
    pub state : Env
    pub alike : SameButFor hidden env state
    pub outside : (y : Name) → listed y hidden ≡ true → value_of state y ≡ value_of outer y
    pub leads : SameValues (folded turn (numbers i high) state) final

  begins_alike : (i : ℕ) (env state : Env) → SameButFor hidden env state → SameValues (put x (Word i) env) (put x (Word i) state)
  begins_alike i env state alike = λ y. by y (same x y) refl
    where
      by : (y : Name) (one : Bool) → same x y ≡ one → value_of (put x (Word i) env) y ≡ value_of (put x (Word i) state) y
      by y true one = value_put x y (Word i) env ∙ ap (λ b. if b then Some (Word i) else value_of env y) one
          ∙ sym (value_put x y (Word i) state ∙ ap (λ b. if b then Some (Word i) else value_of state y) one)
      by y false one = value_else x y (Word i) env one ∙ alike y (not_hidden x y xs one) ∙ sym (value_else x y (Word i) state one)

  -- a turn more
  pub one_turn : (i : ℕ) (back : List Name) (before after : Env) → i < high → back ≡ come_back xs ws
      → Restores back before (in_turn (map run ws) (put x (Word i) before)) after
      → MidLoop i before → MidLoop (i + 1) after
  one_turn i back before after more is restores mid = record {
    state = turn i mid.state;
    alike = λ y out.
        restores y ∙ (λ j. if listed y (is j) then mid.alike y out j else ends y j)
        ∙ sym (other_carries x i xs ws mid.state y out);
    outside = λ y at. counter_carries x i xs ws mid.state y at ∙ mid.outside y at;
    leads = λ y. (λ j. value_of (folded turn (sym (numbers_more i high more) j) mid.state) y) ∙ mid.leads y;
  } where
    ends : SameValues (in_turn (map run ws) (put x (Word i) before)) (in_turn (map run ws) (put x (Word i) mid.state))
    ends = block_alike ws (put x (Word i) before) (put x (Word i) mid.state) (begins_alike i before mid.state mid.alike)

  -- the counter's value comes back at the end
  pub last_turn : (i : ℕ) (names again : List Name) (kept : List (Option Arg)) (env after : Env) → high ≤ i → names ≡ hidden
      → again ≡ hidden → kept ≡ map (value_of outer) names
      → MidLoop i env → ((y : Name) → value_of after y ≡ handed_back again kept (value_of env) y) → SameValues after final
  last_turn i names again kept env after over is of are mid gives = λ y. by y (listed y hidden) refl
    where
      restores : Restores hidden outer env after
      restores = handed_restores hidden kept outer env env after (are ∙ ap (map (value_of outer)) is) (λ y. refl)
          (λ y. gives y ∙ (λ j. handed_back (of j) kept (value_of env) y))

      at_end : (y : Name) → value_of mid.state y ≡ value_of final y
      at_end y = (λ j. value_of (folded turn (sym (numbers_none i high over) j) mid.state) y) ∙ mid.leads y

      by : (y : Name) (b : Bool) → listed y hidden ≡ b → value_of after y ≡ value_of final y
      by y true at = restores y ∙ ap (λ c. if c then value_of outer y else value_of env y) at ∙ sym (mid.outside y at)
          ∙ at_end y
      by y false at = restores y ∙ ap (λ c. if c then value_of outer y else value_of env y) at ∙ mid.alike y at ∙ at_end y
