-- The words of the search. It takes one goal after another, each from the context that those before have left, and is refused at
-- the first goal for which no row fits, or at the first node too many. There is no return to an earlier choice.
use Rattle.std.specs.Prelude.{ℕ, ◌+◌, nat_lt, Bool, Result, Ok, Err, if◌then◌else◌}
use Rattle.rup_base.specs.Answers.{and_then_with}
use Rattle.rup_base.specs.declared.refusal.Refusal.{Refusal}
use Rattle.rup_base.specs.declared.refusal.Refusal.TheVariants.{OverNodes}
use Rattle.sym_heap.specs.Context.{Context}
use Rattle.deriv_tree.specs.Shape.{most_nodes}
use Rattle.expr_rules.specs.Words.{Rule}
use Rattle.derive_search.specs.declared.seeker.Seeker.{Seeker}

-- what a goal gives, and where the search stands after it
abbrev pub Seek : Type 0 → Type 0
Seek A = Seeker → Result (A × Seeker) Refusal

infixl 10 ◌>>=◌
-- one goal after the other
abbrev pub ◌>>=◌ : {A B : Type 0} → Seek A → (A → Seek B) → Seek B
(first >>= next) s = and_then_with (first s) next

abbrev pub give : {A : Type 0} → A → Seek A
give a s = Ok (a, s)

-- the refusal of the first node too many
abbrev pub over : Refusal
over = OverNodes 20_001

-- a goal is counted as it is entered, before its conditions, and its node has the number that was reached
abbrev pub enter : {A : Type 0} → (ℕ → Seek A) → Seek A
enter next s = if nat_lt s.entered most_nodes then next s.entered (record s { entered = s.entered + 1 }) else Err over

-- a condition on the context: where it fails the search ends here
abbrev pub where_holds : {A : Type 0} → (Context → Bool) → Refusal → Seek A → Seek A
where_holds test refusal next s = if test s.ctx then next s else Err refusal

abbrev pub with_context : {A : Type 0} → Seeker → Result (A × Context) Refusal → Result (A × Seeker) Refusal
with_context s (Ok p) = Ok (p.0, record s { ctx = p.1 })
with_context s (Err refusal) = Err refusal

-- a step that enters no goal
abbrev pub in_context : {A : Type 0} → Rule A → Seek A
in_context rule s = with_context s (rule s.ctx)
