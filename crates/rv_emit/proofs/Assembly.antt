-- The whole code is put together from its parts, and what holds of it.
use Rattle.std.proofs.Common.{◌≡◌, ℕ, suc, ◌+◌, ◌*◌, ◌<◌, ◌≤◌, true, List, [], ◌∷◌, ◌++◌, length, map, sum, refl, sym, ap, ◌∙◌}
use Rattle.std.proofs.Common.{subst, arith, length-append, append-nil}
use Rattle.std.proofs.lemmas.List.{length-map}
use Rattle.bed_syntax.specs.declared.weights.TheConstants as weights
use Rattle.flat_lang.specs.Count.{code_names}
use Rattle.flat_lang.specs.Whole.{IsWhole}
use Rattle.flat_lang.specs.declared.flat.FStmt.{FStmt}
use Rattle.flat_lang.specs.declared.flat.Flat.{Flat}
use Rattle.reg_alloc.specs.PlanOk.{PlanOk}
use Rattle.reg_alloc.specs.declared.plan.At.{At}
use Rattle.reg_alloc.specs.declared.plan.At.TheVariants.{Reg as Register, Slot}
use Rattle.reg_alloc.specs.declared.plan.Plan.{Plan}
use Rattle.rv_code.specs.Field.{reg, imm12}
use Rattle.rv_code.specs.declared.instruction.Instr.{Instr}
use Rattle.rv_code.specs.declared.instruction.Instr.TheVariants.{Addi, Jalr}
use Rattle.rv_code.specs.Word.{word_of}
use Rattle.rv_code.proofs.laws.Same.{same}
use Rattle.rv_emit.specs.Branching.{jump_count, jumps_in, code_jumps}
use Rattle.rv_emit.specs.Code.{fetch, save, block_code}
use Rattle.rv_emit.specs.Emission.{Puts, backwards, offset_of}
use Rattle.rv_emit.specs.Fit.{all_fit}
use Rattle.rv_emit.specs.Names.{named_in}
use Rattle.rv_emit.specs.Returns.{RunsAs}
use Rattle.rv_emit.specs.Tables.{filled, text_of, offsets_from}
use Rattle.rv_emit.specs.Whole.{place, slots_in, saved_in, stack_of, saves, restores, live_arguments, moves_in, moves_out}
use Rattle.rv_emit.specs.Whole.{offset_in, entering, leaving, enter, leave, body_of, code_of}
use Rattle.rv_emit.proofs.Emitting.{puts_length, puts_then, sum_cons}
use Rattle.rv_emit.proofs.NamedCode.{named-append, fetch_nameless, save_nameless, block_named}
use Rattle.rv_emit.proofs.Placed.{Emits}
use Rattle.rv_emit.proofs.Plans.{placement}
use Rattle.rv_emit.proofs.Returned.{runs_as}
use Rattle.rv_emit.proofs.Site.{Site}
use Rattle.rv_emit.proofs.Straight.{Enough}
use Rattle.rv_emit.proofs.Branched.{jumps-append, block_few}
use Rattle.rv_emit.proofs.Lengths.{length-from_slot, length-literal, length-copied, length-bin, length-load, length-table}
use Rattle.rv_emit.proofs.Lengths.{length-store}
use Rattle.rv_emit.proofs.TableText.{filled_few}

pub length-offsets_from : (tables : List (List ℕ)) (start : ℕ) → length (offsets_from start tables) ≡ length tables
length-offsets_from [] start = refl
length-offsets_from (bytes ∷ tables) start = ap suc (length-offsets_from tables (start + length (filled bytes)))

-- the end, the body and the start, one before another
pub assembled : (f : Flat) (plan : Plan) (offsets live : List ℕ) (body : List FStmt) (rets : List ℕ) (c0 c1 c2 c3 : List Instr)
    → c0 ≡ [] → offsets ≡ offsets_from 0 f.tables → live ≡ live_arguments f → body ≡ f.body → rets ≡ f.rets
    → Puts c0 c1 (leaving plan rets) → Puts c1 c2 (block_code (place plan) (offset_of offsets) body (length c1))
    → Puts c2 c3 (entering plan live) → map word_of c3 ≡ backwards (code_of f plan)
assembled f plan offsets live body rets c0 c1 c2 c3 none offsets_are live_is body_is rets_are a1 a2 a3 =
    let b1 : Puts [] c1 (leave f plan) =
    subst (λ c. Puts c c1 (leave f plan)) none (subst (λ rs. Puts c0 c1 (leaving plan rs)) rets_are a1) in
    let size = puts_length [] c1 (leave f plan) b1 in
    let here : length c1 ≡ length (leave f plan) = omega arith in
    let e1 : Puts c1 c2 (block_code (place plan) (offset_of (offsets_from 0 f.tables)) body (length c1)) =
    subst (λ o. Puts c1 c2 (block_code (place plan) (offset_of o) body (length c1))) offsets_are a2 in
    let e2 : Puts c1 c2 (block_code (place plan) (offset_in f) f.body (length c1)) =
    subst (λ b. Puts c1 c2 (block_code (place plan) (offset_in f) b (length c1))) body_is e1 in
    let b2 : Puts c1 c2 (body_of f plan) = subst (λ n. Puts c1 c2 (block_code (place plan) (offset_in f) f.body n)) here e2 in
    let b3 : Puts c2 c3 (enter f plan) = subst (λ xs. Puts c2 c3 (entering plan xs)) live_is a3 in
    puts_then [] c2 c3 (body_of f plan ++ leave f plan) (enter f plan) (puts_then [] c1 c2 (leave f plan) (body_of f plan) b1 b2)
    b3

same_length : (a b : List Instr) → map word_of a ≡ map word_of b → length a ≡ length b
same_length a b words =
    let first = length-map {A = Instr} {B = ℕ} a word_of in
    let second = length-map {A = Instr} {B = ℕ} b word_of in
    let both : length (map word_of a) ≡ length (map word_of b) = ap length words in
    omega arith

pub code_some : (f : Flat) (plan : Plan) (code : List Instr) → map word_of code ≡ map word_of (code_of f plan) → 1 ≤ length code
code_some f plan code words = let size = same_length code (code_of f plan) words in omega arith

-- instructions with the same words are the same
codes_same : (a b : List Instr) → map word_of a ≡ map word_of b → a ≡ b
codes_same [] [] words = refl
codes_same [] (j ∷ b) words = absurd (cc)
codes_same (i ∷ a) [] words = absurd (cc)
codes_same (i ∷ a) (j ∷ b) words =
    let first : word_of i ≡ word_of j = cc in
    let rest : map word_of a ≡ map word_of b = cc in
    ap (λ x. x ∷ a) (same i j first) ∙ ap (λ x. j ∷ x) (codes_same a b rest)

nameless_saves : (rs : List ℕ) (first : ℕ) → named_in (saves first rs) ≡ []
nameless_saves [] first = refl
nameless_saves (r ∷ rs) first = nameless_saves rs (first + 1)

nameless_restores : (rs : List ℕ) (first : ℕ) → named_in (restores first rs) ≡ []
nameless_restores [] first = refl
nameless_restores (r ∷ rs) first = nameless_restores rs (first + 1)

nameless_in : (place : ℕ → At) (xs : List ℕ) → named_in (moves_in place xs) ≡ []
nameless_in place [] = refl
nameless_in place (x ∷ xs) = rw (save_nameless (10 + x) (place x)) (nameless_in place xs)

nameless_out : (place : ℕ → At) (rets : List ℕ) (q : ℕ) → named_in (moves_out place q rets) ≡ []
nameless_out place [] q = refl
nameless_out place (x ∷ rets) q = rw (fetch_nameless (10 + q) (place x)) (nameless_out place rets (q + 1))

pub named : (f : Flat) (plan : Plan) (code : List Instr) → map word_of code ≡ map word_of (code_of f plan)
    → named_in code ≡ code_names f.body
named f plan code words =
    let down = saves (slots_in plan.places) (saved_in plan.places) in
    let ins = moves_in (place plan) (live_arguments f) in
    let outs = moves_out (place plan) 0 f.rets in
    let up = restores (slots_in plan.places) (saved_in plan.places) in
    let end : List Instr = Addi (reg 2) (reg 2) (imm12 (stack_of plan.places)) ∷ Jalr (reg 0) (reg 1) (imm12 0) ∷ [] in
    let entered : named_in (enter f plan)
    ≡ [] = named-append down ins ∙ ap (λ x. x ++ named_in ins)
    (nameless_saves (saved_in plan.places) (slots_in plan.places)) ∙ nameless_in (place plan) (live_arguments f) in
    let left : named_in (leave f plan)
    ≡ [] = named-append outs (up ++ end) ∙ ap (λ x. x ++ named_in (up ++ end)) (nameless_out (place plan) f.rets 0)
    ∙ named-append up end ∙ ap (λ x. x ++ named_in end) (nameless_restores (saved_in plan.places) (slots_in plan.places)) in
    ap named_in (codes_same code (code_of f plan) words)
    ∙ named-append (enter f plan) (body_of f plan ++ leave f plan)
    ∙ ap (λ x. x ++ named_in (body_of f plan ++ leave f plan)) entered
    ∙ named-append (body_of f plan) (leave f plan)
    ∙ ap (λ x. named_in (body_of f plan) ++ x) left
    ∙ append-nil (named_in (body_of f plan))
    ∙ block_named (place plan) (offset_in f) f.body (length (leave f plan))

-- the weights are enough whatever the places are
enough : (l : Site) → Enough weights.Weights.LARGE l
enough l =
    record {
      literal = λ p v valid. length-literal p v;
      variable = λ p q valid also. length-copied p q;
      operation = λ o p q r valid also too. length-bin o p q r;
      load = λ z p q valid also. length-load z p q;
      table = λ z p q offset n valid also. length-table z p q offset n;
      store = λ z p q valid also. length-store z p q;
      test = λ p valid. let first = length-from_slot 5 p in omega arith;
      turn = λ p valid. let first = length-from_slot 5 p in omega arith;
    }

-- the code runs as its three-address code
pub runs : (f : Flat) (plan : Plan) (code : List Instr) (text : List ℕ) (stack : ℕ) → IsWhole f → PlanOk f plan → f.vars ≤ 400
    → all_fit f.body ≡ true → map word_of code ≡ map word_of (code_of f plan) → length code < 260000 → text ≡ text_of f.tables
    → stack ≡ stack_of plan.places → RunsAs weights.Weights.LARGE f (map word_of code) text stack
runs f plan code text stack whole ok few fit words short text_is stack_is =
    let exact = code_of f plan in
    let size = same_length code exact words in
    let emits : Emits f plan exact text stack =
    record { code_is = refl; text_is = text_is; stack_is = stack_is; short = omega arith } in
    subst (λ ws. RunsAs weights.Weights.LARGE f ws text stack) (sym words)
    (runs_as weights.Weights.LARGE f plan (λ l is. enough l) ok (placement f plan ok few) whole fit exact text stack emits)

jumps_saves : (rs : List ℕ) (first : ℕ) → jumps_in (saves first rs) ≡ 0
jumps_saves [] first = refl
jumps_saves (r ∷ rs) first = let rest = jumps_saves rs (first + 1) in omega arith

jumps_restores : (rs : List ℕ) (first : ℕ) → jumps_in (restores first rs) ≡ 0
jumps_restores [] first = refl
jumps_restores (r ∷ rs) first = let rest = jumps_restores rs (first + 1) in omega arith

save_none : (r : ℕ) (p : At) → jump_count (save r p) ≡ 0
save_none r (Register q) = refl
save_none r (Slot j) = refl

fetch_none : (r : ℕ) (p : At) → jump_count (fetch r p) ≡ 0
fetch_none r (Register q) = refl
fetch_none r (Slot j) = refl

jumps_moved_in : (place : ℕ → At) (xs : List ℕ) → jumps_in (moves_in place xs) ≡ 0
jumps_moved_in place [] = refl
jumps_moved_in place (x ∷ xs) = let one = save_none (10 + x) (place x) in let rest = jumps_moved_in place xs in omega arith

jumps_moved_out : (place : ℕ → At) (rets : List ℕ) (q : ℕ) → jumps_in (moves_out place q rets) ≡ 0
jumps_moved_out place [] q = refl
jumps_moved_out place (x ∷ rets) q = let one = fetch_none (10 + q) (place x) in let rest = jumps_moved_out place rets (q + 1) in
    omega arith

pub branched : (f : Flat) (plan : Plan) (code : List Instr) → map word_of code ≡ map word_of (code_of f plan)
    → jumps_in code ≤ 1 + code_jumps f.body
branched f plan code words =
    let down = saves (slots_in plan.places) (saved_in plan.places) in
    let ins = moves_in (place plan) (live_arguments f) in
    let outs = moves_out (place plan) 0 f.rets in
    let up = restores (slots_in plan.places) (saved_in plan.places) in
    let end : List Instr = Addi (reg 2) (reg 2) (imm12 (stack_of plan.places)) ∷ Jalr (reg 0) (reg 1) (imm12 0) ∷ [] in
    let is = ap jumps_in (codes_same code (code_of f plan) words) in
    let j1 = jumps-append (enter f plan) (body_of f plan ++ leave f plan) in
    let j2 = jumps-append (body_of f plan) (leave f plan) in
    let j3 = jumps-append down ins in
    let j4 = jumps_saves (saved_in plan.places) (slots_in plan.places) in
    let j5 = jumps_moved_in (place plan) (live_arguments f) in
    let j6 = jumps-append outs (up ++ end) in
    let j7 = jumps-append up end in
    let j8 = jumps_moved_out (place plan) f.rets 0 in
    let j9 = jumps_restores (saved_in plan.places) (slots_in plan.places) in
    let body = block_few (place plan) (offset_in f) f.body (length (leave f plan)) in
    omega arith

pub stack_low : (f : Flat) (plan : Plan) → PlanOk f plan → f.vars ≤ 400 → stack_of plan.places ≤ 4096
stack_low f plan ok few = let p = placement f plan ok few in omega (arith, p.few)

-- the tables' text has at most three bytes more for each table
pub text_few : (tables : List (List ℕ)) → length (text_of tables) ≤ sum (map length tables) + 3 * length tables
text_few [] = omega arith
text_few (bytes ∷ tables) =
    let rest = text_few tables in
    let first = filled_few bytes in
    let size = length-append (filled bytes) (text_of tables) in
    let total = sum_cons (length bytes) (map length tables) in
    let all : length (text_of (bytes ∷ tables)) ≡ length (filled bytes) + length (text_of tables) = size in
    omega (arith, all, total, first, rest)
