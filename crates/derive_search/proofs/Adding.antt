-- What the search puts behind the nodes of a block that were found before: nodes that lead from one moment to another.
use Rattle.std.proofs.Common.{◌≡◌, sym, ◌∙◌, ap, subst, List, [], ◌∷◌, ◌++◌, map, Result, Ok, Err, append-nil, append_assoc}
use Rattle.rup_base.specs.declared.refusal.Refusal.{Refusal}
use Rattle.model_syntax.specs.declared.stmt.Stmt.{Stmt}
use Rattle.deriv_tree.specs.declared.tree.StmtNode.{StmtNode}
use Rattle.derive_search.specs.Guide.{Guide}
use Rattle.derive_search.specs.declared.seeker.Seeker.{Seeker}
use Rattle.derive_search.specs.Nodes.{Adds, in_order}
use Rattle.derive_search.specs.Instance.{Gives, BlockDerives}
use Rattle.derive_search.proofs.laws.Walking.{gives_then}

pub gives_more : {A : Type 0} (P Q : A → Seeker → Type 0) → ((a : A) (t : Seeker) → P a t → Q a t)
    → (r : Result (A × Seeker) Refusal) → Gives P r → Gives Q r
gives_more P Q more (Ok p) is = more p.0 p.1 is
gives_more P Q more (Err refusal) is = tt

module _ (guide : Guide) where
  -- nodes for these statements, which stand before those of whatever statements follow
  abbrev pub Leads : List Stmt → Seeker → List StmtNode → Seeker → Type 0
  Leads zs k own t = (ts : List Stmt) (rest : List StmtNode) (u : Seeker)
      → BlockDerives guide ts t rest u → BlockDerives guide (zs ++ ts) k (own ++ rest) u

  -- the same of the nodes behind those that were found before
  pub record Added (zs : List Stmt) (done : List StmtNode) (k : Seeker) (ns : List StmtNode) (t : Seeker) : Type 0 where
    pub own : List StmtNode
    pub is : ns ≡ done ++ own
    pub leads : Leads zs k own t

  pub added_none : (done : List StmtNode) (k : Seeker) → Added [] done k done k
  added_none done k = record { own = []; is = sym (append-nil done); leads = λ ts rest u d. d }

  pub added_on : (zs ws : List Stmt) (done ns ms : List StmtNode) (k t u : Seeker)
      → Added zs done k ns t → Added ws ns t ms u → Added (zs ++ ws) done k ms u
  added_on zs ws done ns ms k t u one more = record {
    own = one.own ++ more.own;
    is = more.is ∙ ap (λ (l : List StmtNode). l ++ more.own) one.is ∙ append_assoc done one.own more.own;
    leads = λ ts rest v d.
        (let all : BlockDerives guide (zs ++ (ws ++ ts)) k (one.own ++ (more.own ++ rest)) v =
        one.leads (ws ++ ts) (more.own ++ rest) v (more.leads ts rest v d) in
        subst (λ (l : List StmtNode). BlockDerives guide ((zs ++ ws) ++ ts) k l v) (sym (append_assoc one.own more.own rest))
        (subst (λ (l : List Stmt). BlockDerives guide l k (one.own ++ (more.own ++ rest)) v) (sym (append_assoc zs ws ts)) all));
  }

  -- searches that put nothing behind but what stands before a statement
  abbrev pub Notes : Adds → Type 0
  Notes a = (done : List StmtNode) (k : Seeker) → Gives (Added [] done k) (a done k)

  pub all_notes : {B : Type 0} (search : B → Adds) → ((b : B) → Notes (search b)) → (bs : List B)
      → Notes (in_order (map search bs))
  all_notes search each [] done k = added_none done k
  all_notes search each (b ∷ bs) done k =
      gives_then (Added [] done k) k (Added [] done k) (search b done) (λ ns. in_order (map search bs) ns) (each b done k)
      (λ ns t one. gives_more (Added [] ns t) (Added [] done k) (λ ms u more. added_on [] [] done ns ms k t u one more)
      (in_order (map search bs) ns t) (all_notes search each bs ns t))
