use Rattle.std.proofs.Common.{◌+◌, ◌*◌, length}
use Rattle.derive_search.proofs.seek.+seek.Given as goal

-- Each call is for a lower level, or for the same one and fewer steps, or one step further.

abbrev pub decreases-goal : goal.decreases-goal
decreases-goal g l = 32 * l.deep

abbrev pub decreases-seek : goal.decreases-seek
decreases-seek g l = 32 * l.deep + 1

abbrev pub decreases-element : goal.decreases-element
decreases-element g l = 32 * l.deep + 2

abbrev pub decreases-entry : goal.decreases-entry
decreases-entry g l = 32 * l.deep + 2

abbrev pub decreases-parts : goal.decreases-parts
decreases-parts g l = 32 * l.deep + 3

abbrev pub decreases-with_row : goal.decreases-with_row
decreases-with_row g l = 32 * l.deep + 4

abbrev pub decreases-by_step : goal.decreases-by_step
decreases-by_step g l = 32 * l.deep + 2 * length l.rest.now + 2

abbrev pub decreases-by_steps : goal.decreases-by_steps
decreases-by_steps g l = 32 * l.deep + 2 * length l.steps.now + 1
