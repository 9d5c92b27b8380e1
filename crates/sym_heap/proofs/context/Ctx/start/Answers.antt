use Rattle.std.proofs.Common.{rules, arith, ◌≡◌, ◌+◌, ◌≤◌}
use Rattle.sym_heap.specs.Start.{empty, next_local, with_params, registers}
use Rattle.sym_heap.proofs.Declared.{few_registers}
use Rattle.sym_heap.proofs.Formed.{requirements_formed}
use Rattle.sym_heap.proofs.Starting.{after_params}
use Rattle.sym_heap.proofs.context.Ctx.start.Goals as goal

pub declare-requires : goal.declare-requires
declare-requires c = let few : registers c.args.m.now.params ≤ 8 = few_registers c.args.m.now c.requires in search (rules, few)

pub count_entries-requires : goal.count_entries-requires
count_entries-requires c =
    let few : registers c.args.m.now.params ≤ 8 = few_registers c.args.m.now c.requires in
    let all : next_local (with_params 0 c.args.m.now.params empty) ≡ next_local empty + registers c.args.m.now.params =
    after_params 0 c.args.m.now.params empty in
    rw (c.in_ok-declare.ensures, c.as_slice.ensures, c.empty-context.ensures) (omega (arith, few, all))

pub require-requires : goal.require-requires
require-requires c =
    rw (c.count_entries.ensures, c.in_ok-declare.ensures, c.as_slice.ensures, c.empty-context.ensures, c.as_slice-2.ensures)
    (requirements_formed c.args.m.now c.requires)
