-- The search over s-for outside its block: from its bounds to the start of the block, and from the block's end on. Conditions and
-- contexts are those of the rule.
use Rattle.std.specs.Prelude.{ℕ, pos, Bool, ◌&&◌, List, [], ◌∷◌, ◌++◌, Option, Some, None, option_map, option_and_then, Result}
use Rattle.std.specs.Prelude.{Ok, Err, if◌then◌else◌}
use Rattle.std.specs.List.{list_all}
use Rattle.rup_base.specs.declared.refusal.Refusal.{Refusal}
use Rattle.model_syntax.specs.Names.{Name}
use Rattle.model_syntax.specs.declared.expr.Expr.{Expr}
use Rattle.model_syntax.specs.declared.stmt.Le.{Le}
use Rattle.side_certs.specs.LinearForm.{LinearForm, within}
use Rattle.side_certs.specs.declared.certificate.Cert.{Cert}
use Rattle.sym_heap.specs.Context.{Context}
use Rattle.sym_heap.specs.Ends.{Standing, standing, restored}
use Rattle.sym_heap.specs.Sides.{form_in}
use Rattle.deriv_tree.specs.declared.rule.Rule.TheVariants.{SFor}
use Rattle.deriv_tree.specs.declared.tree.ExprNode.{ExprNode}
use Rattle.deriv_tree.specs.declared.tree.StmtNode.{StmtNode}
use Rattle.expr_rules.specs.Words.{Rule}
use Rattle.stmt_rules.specs.Loops.{given_first, one_more, all_named}
use Rattle.stmt_rules.specs.Nesting.{end_form}
use Rattle.stmt_rules.specs.rules.For as for_rule
use Rattle.derive_search.specs.declared.trips.Trip.{Trip}
use Rattle.derive_search.specs.declared.turns.Plan.{Plan}
use Rattle.derive_search.specs.declared.turns.LoopStart.{LoopStart}
use Rattle.derive_search.specs.Words.{Seek, ◌>>=◌, give, in_context}
use Rattle.derive_search.specs.Expressions.{seek}
use Rattle.derive_search.specs.Elements.{count_locals}
use Rattle.derive_search.specs.Kept.{certificates}
use Rattle.derive_search.specs.Guide.{Guide}
use Rattle.derive_search.specs.Locals.{Homes}
use Rattle.derive_search.specs.Nodes.{Adds, stuck, node_with, block, ended, in_order}
use Rattle.derive_search.specs.Trips.{trip_for}

-- Up to the block.

-- locals, trip form and certificates: the arguments, and the certificates that come before those of the end
abbrev pub plan_of : (ℕ × ℕ) → Trip → List Cert → Plan
plan_of l t certs = record {
  counter = record { count = l.0; last = l.1; trips = t.form };
  args = pos l.0 ∷ pos l.1 ∷ t.args;
  certs = t.cert ∷ certs;
}

-- each kept fact is shown at the start, with the name as the first bound
abbrev pub start_certs : Name → List Le → LinearForm → Context → Option (List Cert)
start_certs x keep low c = certificates c (given_first x low (form_in c.scalars)) keep

abbrev pub with_trip : (ℕ × ℕ) → Option (List Cert) → Option Trip → Option Plan
with_trip l certs None = None
with_trip l certs (Some t) = option_map (plan_of l t) certs

abbrev pub planned_at : ℕ → Name → List Le → LinearForm → LinearForm → Context → (ℕ × ℕ) → Option Plan
planned_at entries x keep low high c l = with_trip l (start_certs x keep low c) (trip_for entries c low high)

abbrev pub planned : Homes → ℕ → Name → List Le → LinearForm → LinearForm → Context → Option Plan
planned h entries x keep low high c = option_and_then (planned_at entries x keep low high c) (count_locals h x c)

-- the block begins: what stood before it, and what stands at its start
abbrev pub loop_started : Refusal → Plan → Standing → Result (Unit {0} × Context) Refusal → Result (LoopStart × Context) Refusal
loop_started refusal p before (Ok q) = Ok (record { plan = p; before = before; start = standing q.1 }, q.1)
loop_started refusal p before (Err other) = Err refusal

abbrev pub loop_with : ℕ → Refusal → Name → List Name → List Le → LinearForm → LinearForm → Option Plan → Rule LoopStart
loop_with at refusal x names keep low high None c = Err refusal
loop_with at refusal x names keep low high (Some p) c =
    loop_started refusal p (standing c) (for_rule.begins at x names keep p.counter low high c.scalars c)

-- after the bounds, which have these forms
abbrev pub loop_begun : Homes → ℕ → ℕ → Refusal → Name → List Name → List Le → LinearForm → LinearForm → Rule LoopStart
loop_begun h entries at refusal x names keep low high c =
    loop_with at refusal x names keep low high (planned h entries x keep low high c) c

-- After the block.

-- listed scalars stand in their locals, and clauses have their names and, where they aren't listed, their writes
abbrev pub stays : List Name → Standing → Context → Bool
stays names before c =
    list_all (for_rule.stands_still before.scalars c.scalars) names && all_named names before.clauses c.clauses

-- each kept fact is shown at the end, with one more than its number of the start for the name
abbrev pub end_certs : Name → List Name → List Le → Standing → Context → Option (List Cert)
end_certs x names keep start c =
    option_and_then (λ f. certificates c (given_first x f (end_form names c.scalars start.scalars)) keep)
    (within (one_more (form_in start.scalars x)))

-- the node over the bounds and the block
abbrev pub loop_node : Plan → List Cert → ExprNode → ExprNode → List StmtNode → StmtNode
loop_node p certs low high nodes = node_with SFor p.args (p.certs ++ certs) (low ∷ high ∷ []) (block nodes ∷ [])

abbrev pub loop_left : ℕ → Refusal → Name → List Name → List Le → ExprNode → ExprNode → LoopStart → List StmtNode
    → Option (List Cert) → Rule StmtNode
loop_left at refusal x names keep low high o nodes None c = Err refusal
loop_left at refusal x names keep low high o nodes (Some certs) c =
    ended refusal (loop_node o.plan certs low high nodes) (for_rule.leaves at x names keep (standing c) (restored o.before c))

-- after the block of these nodes
abbrev pub loop_ended : ℕ → Refusal → Name → List Name → List Le → ExprNode → ExprNode → LoopStart → List StmtNode → Rule StmtNode
loop_ended at refusal x names keep low high o nodes c =
    if stays names o.before c
    then loop_left at refusal x names keep low high o nodes (end_certs x names keep o.start c) c
    else Err refusal

-- Goals.

-- the number of entry symbols
abbrev pub entries_now : Rule ℕ
entries_now c = Ok (c.entries, c)

-- the nodes of the bounds, and how the block begins; the rule reads its arguments before the bounds
abbrev pub loop_opened : Guide → ℕ → ℕ → ℕ → Name → Expr → Expr → List Name → List Le → Seek ((ExprNode × ExprNode) × LoopStart)
loop_opened guide deep at stmt x low high names keep = do
  entries ← in_context entries_now
  f ← seek guide deep stmt low
  g ← seek guide deep stmt high
  o ← in_context (loop_begun guide.homes entries at (stuck stmt) x names keep f.out.form g.out.form)
  give ((f.node, g.node), o)

-- a loop, of whose block are given the searches of its statements
abbrev pub seek_for : Guide → ℕ → ℕ → ℕ → Name → Expr → Expr → List Name → List Le → List Adds → Seek StmtNode
seek_for guide deep at stmt x low high names keep ts = do
  o ← loop_opened guide deep at stmt x low high names keep
  nodes ← in_order ts []
  in_context (loop_ended at (stuck stmt) x names keep o.0.0 o.0.1 o.1 nodes)
