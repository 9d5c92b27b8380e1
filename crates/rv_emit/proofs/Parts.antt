-- The parts of the whole code, and where they stand.
use Rattle.std.proofs.Common.{◌≡◌, ℕ, suc, ◌+◌, ◌-◌, List, [], ◌∷◌, ◌++◌, length, refl, ap, ◌∙◌, subst, arith, append_assoc}
use Rattle.std.proofs.Common.{length-append}
use Rattle.flat_lang.specs.declared.flat.Flat.{Flat}
use Rattle.reg_alloc.specs.declared.plan.At.{At}
use Rattle.reg_alloc.specs.declared.plan.Plan.{Plan}
use Rattle.rv_code.specs.Field.{reg, imm12}
use Rattle.rv_code.specs.declared.instruction.Instr.{Instr}
use Rattle.rv_code.specs.declared.instruction.Instr.TheVariants.{Addi, Jalr}
use Rattle.rv_emit.specs.Whole.{place, slots_in, saved_in, stack_of, saves, restores, live_arguments, moves_in, moves_out, leave}
use Rattle.rv_emit.specs.Whole.{body_of, code_of}
use Rattle.rv_emit.proofs.Runs.{Has, HasAll, has_front, has_back}
use Rattle.rv_emit.proofs.Exit.{Is}
use Rattle.rv_emit.proofs.Leave.{has_all, is_last}

-- the parts of the code
pub record Parts (f : Flat) (plan : Plan) (code : List Instr) : Type 0 where
  pub takes : Is code 0 (Addi (reg 2) (reg 2) (imm12 (4096 - stack_of plan.places)))
  pub keeps : HasAll code 1 (saves (slots_in plan.places) (saved_in plan.places))
  pub enters : HasAll code (1 + length (saved_in plan.places)) (moves_in (place plan) (live_arguments f))
  pub runs : HasAll code (1 + length (saved_in plan.places) + length (live_arguments f)) (body_of f plan)
  pub results : HasAll code (1 + length (saved_in plan.places) + length (live_arguments f) + length (body_of f plan))
      (moves_out (place plan) 0 f.rets)
  pub brings_back : HasAll code (1 + length (saved_in plan.places) + length (live_arguments f) + length (body_of f plan)
      + length f.rets) (restores (slots_in plan.places) (saved_in plan.places))
  pub gives_back : Is code (1 + length (saved_in plan.places) + length (live_arguments f) + length (body_of f plan)
      + length f.rets + length (saved_in plan.places)) (Addi (reg 2) (reg 2) (imm12 (stack_of plan.places)))
  pub returns : Is code (1 + length (saved_in plan.places) + length (live_arguments f) + length (body_of f plan) + length f.rets
      + length (saved_in plan.places) + 1) (Jalr (reg 0) (reg 1) (imm12 0))
  pub last_are : 1 + length (saved_in plan.places) + length (live_arguments f) + length (body_of f plan) + length (leave f plan)
      ≡ length code

length-moves_in : (place : ℕ → At) (xs : List ℕ) → length (moves_in place xs) ≡ length xs
length-moves_in place [] = refl
length-moves_in place (x ∷ xs) = ap suc (length-moves_in place xs)

length-moves_out : (place : ℕ → At) (rets : List ℕ) (q : ℕ) → length (moves_out place q rets) ≡ length rets
length-moves_out place [] q = refl
length-moves_out place (x ∷ rets) q = ap suc (length-moves_out place rets (q + 1))

length-saves : (rs : List ℕ) (first : ℕ) → length (saves first rs) ≡ length rs
length-saves [] first = refl
length-saves (r ∷ rs) first = ap suc (length-saves rs (first + 1))

length-restores : (rs : List ℕ) (first : ℕ) → length (restores first rs) ≡ length rs
length-restores [] first = refl
length-restores (r ∷ rs) first = ap suc (length-restores rs (first + 1))

is_of : (code : List Instr) (k : ℕ) (i : Instr) → Has code k i → Is code k i
is_of code k i has = let next = has.next in record { stands = has.stands; inside = omega arith }

pub parts_of : (f : Flat) (plan : Plan) (code : List Instr) → code ≡ code_of f plan → Parts f plan code
parts_of f plan code is =
    let first : Instr = Addi (reg 2) (reg 2) (imm12 (4096 - stack_of plan.places)) in
    let back : Instr = Addi (reg 2) (reg 2) (imm12 (stack_of plan.places)) in
    let last : Instr = Jalr (reg 0) (reg 1) (imm12 0) in
    let down = saves (slots_in plan.places) (saved_in plan.places) in
    let ins = moves_in (place plan) (live_arguments f) in
    let body = body_of f plan in
    let outs = moves_out (place plan) 0 f.rets in
    let up = restores (slots_in plan.places) (saved_in plan.places) in
    let regrouped : code ≡ [] ++ ((first ∷ (down ++ (ins ++ (body ++ (outs ++ (up ++ back ∷ [])))))) ++ last ∷ []) =
    is ∙ simp append_assoc in
    let all = has_all code [] (first ∷ (down ++ (ins ++ (body ++ (outs ++ (up ++ back ∷ [])))))) last [] regrouped in
    let n_down = length-saves (saved_in plan.places) (slots_in plan.places) in
    let n_ins = length-moves_in (place plan) (live_arguments f) in
    let n_outs = length-moves_out (place plan) f.rets 0 in
    let n_up = length-restores (saved_in plan.places) (slots_in plan.places) in
    let k1 = 1 + length (saved_in plan.places) in
    let k2 = k1 + length (live_arguments f) in
    let k3 = k2 + length body in
    let k4 = k3 + length f.rets in
    let k5 = k4 + length (saved_in plan.places) in
    let after_down : HasAll code k1 (ins ++ (body ++ (outs ++ (up ++ back ∷ [])))) =
    subst (λ n. HasAll code n (ins ++ (body ++ (outs ++ (up ++ back ∷ []))))) (ap (λ n. 1 + n) n_down)
    (has_back code 1 down (ins ++ (body ++ (outs ++ (up ++ back ∷ [])))) all.1) in
    let after_ins : HasAll code k2 (body ++ (outs ++ (up ++ back ∷ []))) =
    subst (λ n. HasAll code n (body ++ (outs ++ (up ++ back ∷ [])))) (ap (λ n. k1 + n) n_ins)
    (has_back code k1 ins (body ++ (outs ++ (up ++ back ∷ []))) after_down) in
    let after_body = has_back code k2 body (outs ++ (up ++ back ∷ [])) after_ins in
    let after_outs : HasAll code k4 (up ++ back ∷ []) =
    subst (λ n. HasAll code n (up ++ back ∷ [])) (ap (λ n. k3 + n) n_outs)
    (has_back code k3 outs (up ++ back ∷ []) after_body) in
    let after_up : HasAll code k5 (back ∷ []) =
    subst (λ n. HasAll code n (back ∷ [])) (ap (λ n. k4 + n) n_up) (has_back code k4 up (back ∷ []) after_outs) in
    let size1 = length-append up (back ∷ []) in
    let size2 = length-append outs (up ++ back ∷ []) in
    let size3 = length-append body (outs ++ (up ++ back ∷ [])) in
    let size4 = length-append ins (body ++ (outs ++ (up ++ back ∷ []))) in
    let size5 = length-append down (ins ++ (body ++ (outs ++ (up ++ back ∷ [])))) in
    let place : length (first ∷ (down ++ (ins ++ (body ++ (outs ++ (up ++ back ∷ [])))))) ≡ k5 + 1 = omega arith in
    let size6 = length-append outs (up ++ back ∷ last ∷ []) in
    let size7 = length-append up (back ∷ last ∷ []) in
    let whole : length code ≡ length ((first ∷ (down ++ (ins ++ (body ++ (outs ++ (up ++ back ∷ [])))))) ++ last ∷ []) =
    ap length regrouped in
    let size8 = length-append (first ∷ (down ++ (ins ++ (body ++ (outs ++ (up ++ back ∷ [])))))) (last ∷ []) in
    record {
      takes = is_of code 0 first all.0;
      keeps = has_front code 1 down (ins ++ (body ++ (outs ++ (up ++ back ∷ [])))) all.1;
      enters = has_front code k1 ins (body ++ (outs ++ (up ++ back ∷ []))) after_down;
      runs = has_front code k2 body (outs ++ (up ++ back ∷ [])) after_ins;
      results = has_front code k3 outs (up ++ back ∷ []) after_body;
      brings_back = has_front code k4 up (back ∷ []) after_outs;
      gives_back = is_of code k5 back after_up.0;
      returns = subst (λ n. Is code n last) place
          (is_last code (first ∷ (down ++ (ins ++ (body ++ (outs ++ (up ++ back ∷ [])))))) last regrouped);
      last_are = omega arith;
    }
