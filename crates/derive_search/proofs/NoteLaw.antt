-- What the search finds before a statement are notes: each is an instance of the rule of notes.
use Rattle.std.proofs.Common.{◌≡◌, refl, ap, arith, ℕ, ◌+◌, ◌≤◌, nat_le, Bool, true, false, if◌then◌else◌, ℤ, List, [], ◌∷◌, map}
use Rattle.std.proofs.Common.{length, sum, Option, Some, None, is_some, Ok}
use Rattle.std.proofs.Math.Nat.{max-le}
use Rattle.std.proofs.lemmas.List.Sums.{sum_by-cons}
use Rattle.model_syntax.specs.declared.stmt.Le.{Le}
use Rattle.model_syntax.specs.declared.stmt.Stmt.{Stmt, Stmt-F}
use Rattle.side_certs.specs.LinearForm.{LinearForm}
use Rattle.sym_heap.specs.Context.{Context, with_fact}
use Rattle.lemma_files.specs.Fits.{fits_layer}
use Rattle.lemma_files.specs.declared.terms.Lemma.{Lemma}
use Rattle.lemma_files.specs.declared.terms.Lemma.TheVariants.{Rewrite, Note}
use Rattle.deriv_tree.specs.Measure as measure
use Rattle.deriv_tree.specs.Measure.{stmt_size, stmt_size_step, block_size_step}
use Rattle.deriv_tree.specs.Shape.{most_nodes, stmt_shaped, stmt_shaped_step, block_shaped_step}
use Rattle.deriv_tree.specs.declared.rule.Rule.TheVariants as rule
use Rattle.deriv_tree.specs.declared.tree.StmtNode.{StmtNode, fold-roll-StmtNode}
use Rattle.deriv_tree.specs.declared.tree.Block.{Block}
use Rattle.deriv_tree.specs.declared.tree.Block.TheOpen.{StmtNode-F}
use Rattle.stmt_rules.specs.Row.{StmtJudged, BlockJudged, block_step, judged_step, judged, note_row}
use Rattle.stmt_rules.specs.Words.{flat, nothing, joined}
use Rattle.derive_search.specs.Guide.{Guide}
use Rattle.derive_search.specs.declared.notes.Noted.{Noted}
use Rattle.derive_search.specs.declared.seeker.Seeker.{Seeker}
use Rattle.derive_search.specs.Words.{give, in_context}
use Rattle.derive_search.specs.Nodes.{in_order}
use Rattle.derive_search.specs.Notes.{note_of, note_node, taken, given, noted, notes_of, notes_before}
use Rattle.derive_search.specs.Instance.{Gives, BlockDerives}
use Rattle.derive_search.proofs.Adding.{Added, Notes, added_none, all_notes}
use Rattle.derive_search.proofs.Shown.{certificate_closes}
use Rattle.derive_search.proofs.Stands.{step}
use Rattle.derive_search.proofs.laws.Notes.{NoteHolds, note_holds}
use Rattle.derive_search.proofs.laws.Walking.{gives_enter}

-- The rule's row.

some_args : (args : List ℤ) (f : LinearForm) → flat args ≡ Some f → nat_le 1 (length args) ≡ true
some_args [] f is = absurd (let bad : false ≡ true = ap is_some is in cc)
some_args (k ∷ args) f is = grind arith

row_gives : (at : ℕ) (c : Context) (n : Noted) → NoteHolds c n
    → note_row (step rule.SNote n.args (n.cert ∷ [])) true at c ≡ Ok (nothing, with_fact n.form c)
row_gives at c n holds =
    rw (some_args n.args n.form holds.read, holds.read, certificate_closes c n.form n.cert holds.shown, holds.room) refl

-- Nodes.

module _ (guide : Guide) where
  -- the state after a note
  abbrev after : Noted → Seeker → Seeker
  after n k = record k { entered = k.entered + 1; ctx = with_fact n.form k.ctx }

  -- the node of a note before those of a block's statements
  noted_first : (n : Noted) (k : Seeker) → NoteHolds k.ctx n → k.entered + 1 ≤ most_nodes
      → (ts : List Stmt) (rest : List StmtNode) (u : Seeker)
      → BlockDerives guide ts (after n k) rest u → BlockDerives guide ts k (note_node n ∷ rest) u
  noted_first n k holds room ts rest u d =
      let m : StmtNode = note_node n in
      let x : StmtNode-F Block StmtNode = record { step = step rule.SNote n.args (n.cert ∷ []); kids = []; blocks = [] } in
      let judged_as : judged guide.turn m ≡ judged_step guide.turn (record { step = x.step; kids = []; blocks = [] }) =
      fold-roll-StmtNode BlockJudged StmtJudged block_step (judged_step guide.turn) x in
      let size : stmt_size m ≡ 1 = fold-roll-StmtNode ℕ ℕ block_size_step stmt_size_step x in
      let shaped : stmt_shaped m ≡ true = fold-roll-StmtNode Bool Bool block_shaped_step stmt_shaped_step x in
      let deep : measure.stmt_depth m ≡ 1 =
      fold-roll-StmtNode ℕ ℕ measure.block_depth_step measure.stmt_depth_step x in
      let sum_is : sum (map stmt_size (m ∷ rest)) ≡ stmt_size m + sum (map stmt_size rest) =
      sum_by-cons (λ i. i) (stmt_size m) (map stmt_size rest) in
      let sizes : List ℕ = map (λ j. j.size) (map (judged guide.turn) rest) in
      let sized_is : sum (map (λ j. j.size) (map (judged guide.turn) (m ∷ rest))) ≡ (judged guide.turn m).size + sum sizes =
      sum_by-cons (λ i. i) (judged guide.turn m).size sizes in
      let one : (judged guide.turn m).size ≡ 1 = ap (λ (j : StmtJudged). j.size) judged_as in
      let entered = d.entered in let sized = d.sized in
      record {
        outs = λ out. d.outs (joined out nothing);
        row = λ owner cond out. rw judged_as (rw (row_gives k.entered k.ctx n holds) (d.row owner cond (joined out nothing)));
        entered = omega (arith, size, sum_is, entered);
        sized = omega (arith, size, sum_is, one, sized_is, sized);
        few = λ few. d.few room;
        shaped = rw (shaped, d.shaped) refl;
        shallow = λ plain. (let most = d.shallow plain in max-le (omega (arith, deep)) most);
      }

  given_derives : (k : Seeker) (o : Option Noted) → ((n : Noted) → o ≡ Some n → NoteHolds k.ctx n) → (done : List StmtNode)
      → Gives (Added guide [] done k) (given o done k)
  given_derives k None holds done = added_none guide done k
  given_derives k (Some n) holds done =
      gives_enter (Added guide [] done k) k (λ at. in_context (taken n done))
      (λ room. record {
        own = note_node n ∷ [];
        is = refl;
        leads = λ ts rest u d. noted_first n k (holds n refl) room ts rest u d;
      })

  note_derives : (fact : Le) → Notes guide (noted fact)
  note_derives fact done k = given_derives k (note_of k.ctx fact) (λ n is. note_holds k.ctx fact n is) done

  -- Lemmas.

  fitting_derives : (fits : Bool) (facts : List Le) → Notes guide (if fits then in_order (map noted facts) else give)
  fitting_derives true facts done k = all_notes guide noted note_derives facts done k
  fitting_derives false facts done k = added_none guide done k

  lemma_derives : {A : Type 0} (t : Stmt-F A) (lemma : Lemma) → Notes guide (notes_of t lemma)
  lemma_derives t (Rewrite x pattern steps) done k = added_none guide done k
  lemma_derives t (Note x shape facts) done k = fitting_derives (fits_layer shape t) facts done k

  pub notes_derive : {A : Type 0} (t : Stmt-F A) (lemmas : List Lemma) → Notes guide (notes_before lemmas t)
  notes_derive t lemmas = all_notes guide (notes_of t) (lemma_derives t) lemmas
