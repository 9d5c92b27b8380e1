use Rattle.std.proofs.Common.{◌≡◌, ◌+◌, ◌*◌, ◌≤◌, true, sum, map, length, Result, Ok, Err, IfOk, ap, sym, subst, arith}
use Rattle.bed_syntax.specs.declared.weights.TheConstants as weights
use Rattle.flat_lang.specs.Count.{code_weight, code_names}
use Rattle.flat_lang.specs.Whole.{IsWhole}
use Rattle.flat_lang.specs.declared.flat.Flat.{Flat}
use Rattle.reg_alloc.specs.PlanOk.{PlanOk}
use Rattle.reg_alloc.specs.declared.plan.Plan.{Plan}
use Rattle.rv_code.specs.Word.{word_of}
use Rattle.rv_emit.specs.Fit.{all_fit}
use Rattle.rv_emit.specs.Names.{named_in}
use Rattle.rv_emit.specs.Returns.{RunsAs}
use Rattle.rv_emit.specs.Tables.{text_of, AreAligned}
use Rattle.rv_emit.specs.Whole.{stack_of, code_of}
use Rattle.rv_emit.specs.declared.emission.Emitted.{Emitted}
use Rattle.rv_emit.specs.Branching.{jumps_in, code_jumps}
use Rattle.rv_emit.proofs.Assembly.{named, branched, runs, text_few, stack_low}
use Rattle.rv_emit.proofs.TableText.{tables_aligned}
use Rattle.rv_emit.proofs.emission.emit.Goals as goal

run_by : {E : Type 0} (r : Result Emitted E) (f : Flat) (plan : Plan) → IsWhole f → PlanOk f plan → f.vars ≤ 400
    → code_weight weights.Weights.LARGE f.body ≤ 250000 → IfOk r (λ e. map word_of e.code ≡ map word_of (code_of f plan))
    → IfOk r (λ e. length e.code ≤ code_weight weights.Weights.LARGE f.body + 48)
    → IfOk r (λ e. e.tables ≡ text_of f.tables) → IfOk r (λ e. e.stack ≡ stack_of plan.places)
    → IfOk r (λ e. all_fit f.body ≡ true) → IfOk r (λ e. RunsAs weights.Weights.LARGE f (map word_of e.code) e.tables e.stack)
run_by (Err e) f plan whole ok few light code counted tables stack fit = code
run_by (Ok e) f plan whole ok few light code counted tables stack fit =
    runs f plan e.code e.tables e.stack whole ok few fit code (omega (arith, counted, light)) tables stack

pub returns-clause-runs : goal.returns-clause-runs
returns-clause-runs c =
    let e = c.assemble.ensures in
    run_by c.assemble.result c.args.f.now c.args.p.now c.requires.whole c.requires.plan c.requires.few c.requires.light e.code
    e.counted e.tables e.stack e.fit

low_by : {E : Type 0} (r : Result Emitted E) (f : Flat) (plan : Plan) → PlanOk f plan → f.vars ≤ 400
    → IfOk r (λ e. e.stack ≡ stack_of plan.places) → IfOk r (λ e. e.stack ≤ 4096)
low_by (Err e) f plan ok few stack = stack
low_by (Ok e) f plan ok few stack = omega (arith, stack, stack_low f plan ok few)

pub returns-clause-stack_small : goal.returns-clause-stack_small
returns-clause-stack_small c =
    low_by c.assemble.result c.args.f.now c.args.p.now c.requires.plan c.requires.few c.assemble.ensures.stack

few_by : {E : Type 0} (r : Result Emitted E) (f : Flat) → IfOk r (λ e. e.tables ≡ text_of f.tables)
    → IfOk r (λ e. length e.tables ≤ sum (map length f.tables) + 3 * length f.tables)
few_by (Err e) f tables = tables
few_by (Ok e) f tables = omega (arith, text_few f.tables, ap length tables)

pub returns-clause-tables_small : goal.returns-clause-tables_small
returns-clause-tables_small c = few_by c.assemble.result c.args.f.now c.assemble.ensures.tables

named_by : {E : Type 0} (r : Result Emitted E) (f : Flat) (plan : Plan)
    → IfOk r (λ e. map word_of e.code ≡ map word_of (code_of f plan)) → IfOk r (λ e. named_in e.code ≡ code_names f.body)
named_by (Err e) f plan code = code
named_by (Ok e) f plan code = named f plan e.code code

pub returns-clause-names : goal.returns-clause-names
returns-clause-names c = named_by c.assemble.result c.args.f.now c.args.p.now c.assemble.ensures.code

aligned_by : {E : Type 0} (r : Result Emitted E) (f : Flat) → IfOk r (λ e. e.tables ≡ text_of f.tables)
    → IfOk r (λ e. AreAligned f.tables e.tables)
aligned_by (Err e) f tables = tables
aligned_by (Ok e) f tables = subst (λ text. AreAligned f.tables text) (sym tables) (tables_aligned f.tables)

pub returns-clause-tables_aligned : goal.returns-clause-tables_aligned
returns-clause-tables_aligned c = aligned_by c.assemble.result c.args.f.now c.assemble.ensures.tables

branched_by : {E : Type 0} (r : Result Emitted E) (f : Flat) (plan : Plan)
    → IfOk r (λ e. map word_of e.code ≡ map word_of (code_of f plan)) → IfOk r (λ e. jumps_in e.code ≤ 1 + code_jumps f.body)
branched_by (Err e) f plan code = code
branched_by (Ok e) f plan code = branched f plan e.code code

pub returns-clause-jumps : goal.returns-clause-jumps
returns-clause-jumps c = branched_by c.assemble.result c.args.f.now c.args.p.now c.assemble.ensures.code
