-- The derivation that the search finds is an instance.
use Rattle.std.proofs.Common.{◌≡◌, refl, sym, ◌∙◌, ap, subst, arith, ℕ, ◌≤◌, Bool, true, false, ◌&&◌, List, [], map, sum, Result}
use Rattle.std.proofs.Common.{Ok, Err, is_ok}
use Rattle.rup_base.specs.Answers.{and_then}
use Rattle.rup_base.specs.declared.refusal.Refusal.{Refusal}
use Rattle.model_syntax.specs.declared.program.Model.{Model}
use Rattle.model_syntax.proofs.laws.Bindings.{same_self}
use Rattle.sym_heap.specs.Start.{start}
use Rattle.equations.specs.Book.{Turn}
use Rattle.lemma_files.specs.declared.terms.Lemma.{Lemma}
use Rattle.rup_base.specs.Gather.{greatest}
use Rattle.deriv_tree.specs.Measure as measure
use Rattle.deriv_tree.specs.Measure.{size, stmt_size, stmt_size_step, block_size_step}
use Rattle.deriv_tree.specs.Shape.{most_nodes, stmt_shaped_step, block_shaped, block_shaped_step}
use Rattle.deriv_tree.specs.declared.tree.Derivation.{Derivation}
use Rattle.deriv_tree.specs.declared.tree.StmtNode.{StmtNode}
use Rattle.deriv_tree.specs.declared.tree.Block.{Block, fold-roll-Block}
use Rattle.deriv_tree.specs.declared.tree.Block.TheOpen.{Block-F}
use Rattle.stmt_rules.specs.Row.{StmtJudged, BlockJudged, block_step, judged_step, block_judged}
use Rattle.stmt_rules.specs.Words.{nothing}
use Rattle.replayer.specs.Ends.{are_named, are_kept}
use Rattle.replayer.specs.Replayed.{instance}
use Rattle.derive_search.specs.declared.seeker.Seeker.{Seeker}
use Rattle.derive_search.specs.Nodes.{in_order}
use Rattle.derive_search.specs.Statements.{seek_stmt}
use Rattle.derive_search.specs.Derive.{guide_of, at_start, is_end, derivation, finished, derived_within}
use Rattle.derive_search.specs.Instance.{Gives, BlockDerives, IsInstance, DerivationsAreInstances}
use Rattle.derive_search.proofs.laws.Choosing.{left_true}
use Rattle.derive_search.proofs.Blocks.{block_derives}
use Rattle.derive_search.proofs.StmtLaw.{all_derive}

-- Models.

right_true : (a b : Bool) → a && b ≡ true → b ≡ true
right_true true b h = h
right_true false b h = absurd (let bad : false ≡ true = h in cc)

instance_of : (lemmas : List Lemma) (turn : Turn) (m : Model) (ns : List StmtNode) (t : Seeker)
    → BlockDerives (guide_of lemmas turn m) m.body (at_start m) ns t → is_end m t.ctx ≡ true
    → IsInstance lemmas turn m (derivation m ns)
instance_of lemmas turn m ns t d is =
    let b : Block-F Block StmtNode = record { nodes = ns } in
    let named : are_named m.params m.rets t.ctx
    ≡ true = left_true (are_named m.params m.rets t.ctx) (are_kept m.params m.rets t.ctx) is in
    let kept : are_kept m.params m.rets t.ctx
    ≡ true = right_true (are_named m.params m.rets t.ctx) (are_kept m.params m.rets t.ctx) is in
    let shaped : block_shaped (derivation m ns).body
    ≡ true = rw (fold-roll-Block Bool Bool block_shaped_step stmt_shaped_step b) d.shaped in
    let sized : size (derivation m ns) ≡ sum (map stmt_size ns) = rw (fold-roll-Block ℕ ℕ block_size_step stmt_size_step b) refl
    in
    let few : t.entered ≤ most_nodes = d.few (omega arith) in
    let entered = d.entered in
    let small : size (derivation m ns) ≤ most_nodes = omega (arith, sized, few, entered) in
    let nodes : (block_judged turn (derivation m ns).body).row 0 (size (derivation m ns)) 4 m.body (start m)
    ≡ Ok (d.outs nothing, t.ctx) =
    rw (fold-roll-Block BlockJudged StmtJudged block_step (judged_step turn) b) (d.row (size (derivation m ns)) 4 nothing) in
    let all : instance turn m (derivation m ns) (start m)
    ≡ Ok (d.outs nothing, t.ctx) = rw (same_self m.name, nodes, named, kept) refl in
    let deep : measure.depth (derivation m ns) ≡ greatest (map measure.stmt_depth ns) =
    rw (fold-roll-Block ℕ ℕ measure.block_depth_step measure.stmt_depth_step b) refl in
    let bound = d.shallow in
    record {
      whole = record { shaped = shaped; small = small };
      shallow = λ plain within. (let one = within.shallow_expressions in let two = within.shallow_blocks in
          let most = bound plain in omega (arith, deep, most, one, two));
      out = d.outs nothing;
      after = t.ctx;
      is = all;
    }

abbrev or_this : Derivation → Result Derivation Refusal → Derivation
or_this d (Ok e) = e
or_this d (Err refusal) = d

module _ (lemmas : List Lemma) (turn : Turn) (m : Model) (d : Derivation) where
  finished_instance : (ns : List StmtNode) (t : Seeker) → BlockDerives (guide_of lemmas turn m) m.body (at_start m) ns t
      → finished m ns t ≡ Ok d → IsInstance lemmas turn m d
  finished_instance ns t derives is = by (is_end m t.ctx) refl where
    by : (b : Bool) → is_end m t.ctx ≡ b → IsInstance lemmas turn m d
    by true e =
        let one : finished m ns t ≡ Ok (derivation m ns) = rw e refl in
        let two : derivation m ns ≡ d = ap (or_this d) (sym one ∙ is) in
        subst (λ (z : Derivation). IsInstance lemmas turn m z) two (instance_of lemmas turn m ns t derives e)
    by false e =
        let one : is_ok (finished m ns t) ≡ false = rw e refl in
        let two : is_ok (finished m ns t) ≡ true = ap is_ok is in
        absurd (let bad : false ≡ true = sym one ∙ two in cc)

  derived_instance : (deep : ℕ) → derived_within deep lemmas turn m ≡ Ok d → IsInstance lemmas turn m d
  derived_instance deep is =
      by (in_order (map (seek_stmt (guide_of lemmas turn m) deep) m.body) [] (at_start m))
      (block_derives (guide_of lemmas turn m) deep m.body (all_derive (guide_of lemmas turn m) deep m.body) (at_start m)) is where
        by : (r : Result (List StmtNode × Seeker) Refusal) → Gives (BlockDerives (guide_of lemmas turn m) m.body (at_start m)) r
            → and_then r (λ p. finished m p.0 p.1) ≡ Ok d → IsInstance lemmas turn m d
        by (Ok p) all is = finished_instance p.0 p.1 all is
        by (Err refusal) all is = absurd (let bad : false ≡ true = ap is_ok is in cc)

pub derivations_are_instances : DerivationsAreInstances
derivations_are_instances lemmas turn m d is = derived_instance lemmas turn m d most_nodes is
