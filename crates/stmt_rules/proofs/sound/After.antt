-- The context after a conditional moved from that after its test: arrays follow their parameters, and what is bound in a reserved
-- local was there before.
use Rattle.std.proofs.Common.{◌≡◌, refl, sym, ◌∙◌, ap, subst, ℕ, Bool, true, false, List, ◌++◌, length, take, Some}
use Rattle.side_certs.specs.LinearForm.{LinearForm}
use Rattle.model_syntax.specs.Names.{Name, listed}
use Rattle.sym_heap.specs.declared.parts.Held.{Held}
use Rattle.sym_heap.specs.declared.parts.Clause.{Clause}
use Rattle.sym_heap.specs.Context.{Context, scalar, has, back_to}
use Rattle.sym_heap.specs.Ends.{standing, with_ends}
use Rattle.sym_heap.specs.Moves.{Moves, Follow, ParamsOnce, local_of}
use Rattle.sym_heap.specs.Settle.{settle}
use Rattle.sym_heap.specs.Start.{with_facts}
use Rattle.sym_heap.specs.Turns.{unlisted_locals}
use Rattle.sym_heap.proofs.laws.Moves.{take_front, take_on, over_moves}
use Rattle.sym_heap.proofs.laws.Settling.{NoneLost, IsSettled, settle_static, beside}
use Rattle.stmt_rules.proofs.sound.Begun.{begun, more_reserved}

module _ (names : List Name) (mid one two : Context) (facts more : List LinearForm)
    (first : Moves (begun names facts mid) one) (second : Moves (begun names more (back_to mid one)) two) where
  abbrev ended_over : Context
  ended_over = with_ends names (standing one) (standing two) (back_to mid two)

  -- both blocks have only added symbols
  pub more_tops : take (length mid.tops) two.tops ≡ mid.tops
  more_tops = take_on mid.tops one.tops two.tops first.tops second.tops

  pub moves_after : (fs : List LinearForm) → NoneLost names one ended_over → ParamsOnce mid.clauses
      → Moves mid (with_facts fs (settle names one ended_over))
  moves_after fs lost once = record {
    arrays = subst (λ (ks : List Clause). Follow mid.clauses ks) (sym s.clauses)
        (over_moves names mid one two once first.arrays).arrays;
    locals = λ x h at in_list. by x h at in_list (listed x names) refl;
    reserved = s.reserved;
    facts = rw s.facts (take_front mid.facts fs);
    tops = take_on mid.tops two.tops (settle names one ended_over).tops more_tops s.tops;
    entries = s.entries ∙ second.entries ∙ first.entries;
  } where
    s : IsSettled names one ended_over (settle names one ended_over)
    s = settle_static names one ended_over lost

    by : (x : Name) (h : Held) → scalar (settle names one ended_over) x ≡ Some h → has h.local mid.reserved ≡ true
        → (b : Bool) → listed x names ≡ b → local_of (scalar mid x) ≡ Some h.local
    by x h at in_list false e = ap local_of (sym (s.unlisted x e) ∙ at)
    by x h at in_list true e =
        let there = beside (scalar (settle names one ended_over) x) (scalar one x) h at (rw e at (s.places x)) in
        let reserved : has there.scalar_there.local (mid.reserved ++ unlisted_locals names mid.scalars) ≡ true =
        more_reserved there.scalar_there.local mid.reserved (unlisted_locals names mid.scalars)
        (subst (λ (l : ℕ). has l mid.reserved ≡ true) there.local in_list) in
        first.locals x there.scalar_there there.is reserved ∙ ap Some (sym there.local)
