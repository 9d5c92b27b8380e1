use Rattle.rup_top.proofs.Dispatched.{two, on_usage, plain, keeps, writes_only, writes_all, compiled}
use Rattle.rup_top.proofs.Ends.{ending, three, four, five, at_most, unchanged}
use Rattle.rup_top.proofs.Told.{told}
use Rattle.rup_top.proofs.top_call.top.Goals as goal

pub returns-clause-usage_only : goal.returns-clause-usage_only
returns-clause-usage_only g c = two _ _ c.call.ensures.ends

pub returns-clause-usage : goal.returns-clause-usage
returns-clause-usage g c = on_usage _ _ c.call.ensures.ends

pub returns-clause-told : goal.returns-clause-told
returns-clause-told g c = told _ _ c.call.ensures.ends

pub returns-clause-status : goal.returns-clause-status
returns-clause-status g c = at_most _ _ (λ a comes. plain _ _ a comes) (ending _ _ c.call.ensures.ends)

pub returns-clause-read_fault : goal.returns-clause-read_fault
returns-clause-read_fault g c = three _ _ (λ a comes. plain _ _ a comes) (ending _ _ c.call.ensures.ends)

pub returns-clause-write_fault : goal.returns-clause-write_fault
returns-clause-write_fault g c = four _ _ (λ a comes. plain _ _ a comes) (ending _ _ c.call.ensures.ends)

pub returns-clause-no_memory : goal.returns-clause-no_memory
returns-clause-no_memory g c = five _ _ (λ a comes. plain _ _ a comes) (ending _ _ c.call.ensures.ends)

pub returns-clause-unchanged : goal.returns-clause-unchanged
returns-clause-unchanged g c = unchanged _ _ (λ a comes. plain _ _ a comes) (ending _ _ c.call.ensures.ends)

pub returns-clause-writes_only : goal.returns-clause-writes_only
returns-clause-writes_only g c = writes_only _ _ (keeps _ _ c.call.ensures.ends)

pub returns-clause-writes_all : goal.returns-clause-writes_all
returns-clause-writes_all g c = writes_all _ _ (keeps _ _ c.call.ensures.ends)

pub returns-clause-keeps : goal.returns-clause-keeps
returns-clause-keeps g c = keeps _ _ c.call.ensures.ends

pub returns-clause-compiled : goal.returns-clause-compiled
returns-clause-compiled g c = compiled _ _ (keeps _ _ c.call.ensures.ends)
