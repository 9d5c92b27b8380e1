-- Renamed code does what the code does, where no statement writes a variable under whose new name another is live after it.
use Rattle.std.proofs.Common.{Bool, true, false, ◌||◌, ◌≡◌, refl, sym, ap, ◌∙◌, subst, ℕ, zero, suc, nat_eq, List, [], ◌∷◌, ◌++◌}
use Rattle.std.proofs.Common.{map, Option, Some, None, Result, Ok, Err, slice_get, ◌⊎◌, inl, inr, arith}
use Rattle.std.proofs.lemmas.Bool.{cases_eq}
use Rattle.std.specs.FinMap.{get, insert}
use Rattle.bed_meaning.specs.State.{spend, with_mem}
use Rattle.bed_meaning.specs.Fuelled.{and_then, given, take_one, fuelled, choose, in_turn}
use Rattle.rv_memory.proofs.laws.Numbers.{get-insert_same, get-insert_other}
use Rattle.bed_syntax.specs.Operation.{apply}
use Rattle.bed_syntax.specs.declared.weights.Weights.{Weights}
use Rattle.bed_meaning.specs.declared.halt.Halt.{Halt}
use Rattle.bed_meaning.specs.declared.halt.Halt.TheVariants.{Stuck, OutOfFuel}
use Rattle.bed_meaning.specs.Access.{loaded, entry, store}
use Rattle.flat_lang.specs.declared.flat.FStmt.{FStmt, FStmt-F, fold-roll-FStmt, map-FStmt, roll-FStmt, ind-FStmt}
use Rattle.flat_lang.specs.declared.flat.FStmt.TheOpen as f
use Rattle.flat_lang.specs.State.{State, Vars, with_var}
use Rattle.flat_lang.specs.Meaning as flat
use Rattle.flat_lang.specs.Meaning.{Rule, turns, run_step, run, run_all}
use Rattle.flat_lang.specs.Backwards.{Lives, Point, Walk, reads, sets, walks, turned, tested, walk_step, walk, code_walk}
use Rattle.flat_lang.specs.Renamed.{renamed_step, renamed, code_renamed}

abbrev pub done : State → Result State Halt
done s = Ok s

same_done : (s t : State) → done s ≡ done t → s ≡ t
same_done s t h = cc

abbrev left : ℕ → State → State
left n s = record { fuel = n; ticks = s.ticks; mem = s.mem; vars = s.vars }

given_some : {A : Type 0} (a : Option A) (next : A → Result State Halt) (t : State) → given a next ≡ done t
    → (x : A) × ((a ≡ Some x) × (next x ≡ done t))
given_some None next t h = absurd (let bad : ◌≡◌ {A = Result State Halt} (Err Stuck) (Ok t) = h in cc)
given_some (Some x) next t h = (x, (refl, h))

then_done : (r : Result State Halt) (next : Rule) (t : State) → and_then r next ≡ done t
    → (s : State) × ((r ≡ done s) × (next s ≡ done t))
then_done (Ok s) next t h = (s, (refl, h))
then_done (Err e) next t h = absurd (let bad : ◌≡◌ {A = Result State Halt} (Err e) (Ok t) = h in cc)

or_left : (a b : Bool) → a ≡ true → (a || b) ≡ true
or_left true b h = refl
or_left false b h = absurd (cc)

or_right : (a b : Bool) → b ≡ true → (a || b) ≡ true
or_right true b h = refl
or_right false b h = h

reads_own : (x : ℕ) (k : Bool) → reads x x k ≡ true
reads_own x k = grind (arith)

sets_other : (x v : ℕ) (k : Bool) → (v ≡ x → ⊥) → k ≡ true → sets x v k ≡ true
sets_other x v k other h = grind (arith, other, h)

-- what a loop needs at its head is enough for another turn
settles : (f g : Bool → Bool) (x k : Bool) → f (x || (k || g (f (x || (k || g false))))) ≡ true → f (x || (k || g false)) ≡ true
settles f g x k h = by_value (f (x || (k || g false))) refl
  where
    by_value : (b : Bool) → f (x || (k || g false)) ≡ b → f (x || (k || g false)) ≡ true
    by_value true e = e
    by_value false e = ap (λ b. f (x || (k || g b))) (sym e) ∙ h

module _ (p : ℕ → ℕ) where
  -- the statement writes no variable under whose new name another is live after it
  abbrev pub Apart : Option ℕ → Lives → Type 0
  Apart None l = Unit {0}
  Apart (Some x) l = (v : ℕ) → l v ≡ true → (v ≡ x → ⊥) → p v ≡ p x → ⊥

  abbrev pub AllApart : List Point → Type 0
  AllApart [] = Unit {0}
  AllApart (q ∷ qs) = Apart q.writes q.after × AllApart qs

  apart_front : (qs rs : List Point) → AllApart (qs ++ rs) → AllApart qs
  apart_front [] rs h = tt
  apart_front (q ∷ qs) rs h = (h.0, apart_front qs rs h.1)

  apart_back : (qs rs : List Point) → AllApart (qs ++ rs) → AllApart rs
  apart_back [] rs h = h
  apart_back (q ∷ qs) rs h = apart_back qs rs h.1

  -- what is live has its value under its new name
  abbrev pub Agrees : Lives → Vars → Vars → Type 0
  Agrees l v u = (x n : ℕ) → l x ≡ true → get v x ≡ Some n → get u (p x) ≡ Some n

  fewer : (l m : Lives) (v u : Vars) → Agrees m v u → ((x : ℕ) → l x ≡ true → m x ≡ true) → Agrees l v u
  fewer l m v u a h x n live is = a x n (h x live) is

  -- the state with other variables
  abbrev pub over : State → Vars → State
  over s u = record { fuel = s.fuel; ticks = s.ticks; mem = s.mem; vars = u }

  -- a run comes to this state, but for the variables, of which those that are live agree
  pub record Went (r : Result State Halt) (l : Lives) (t : State) : Type 0 where
    pub vars : Vars
    pub runs : r ≡ done (over t vars)
    pub agrees : Agrees l t.vars vars

  abbrev pub Keeps : Rule → Rule → Walk → Type 0
  Keeps rule other w = (l : Lives) (s t : State) (u : Vars) → AllApart (w.points l) → Agrees (λ v. w.need v (l v)) s.vars u
      → rule s ≡ done t → Went (other (over s u)) l t

  take_keeps : (n : ℕ) (l : Lives) (s t : State) (u : Vars) (go stay : Rule)
      → ((j : ℕ) → go (left j s) ≡ done t → Went (stay (over (left j s) u)) l t)
      → take_one n s go ≡ done t → Went (take_one n (over s u) stay) l t
  take_keeps zero l s t u go stay h is = absurd (let bad : ◌≡◌ {A = Result State Halt} (Err OutOfFuel) (Ok t) = is in cc)
  take_keeps (suc j) l s t u go stay h is = h j is

  read_keeps : (y : ℕ) (m l : Lives) (v u : Vars) (t : State) (go stay : ℕ → Result State Halt) → m y ≡ true → Agrees m v u
      → ((n : ℕ) → go n ≡ done t → Went (stay n) l t) → given (get v y) go ≡ done t → Went (given (get u (p y)) stay) l t
  read_keeps y m l v u t go stay live a h is =
      let i = given_some (get v y) go t is in
      let same : get u (p y) ≡ Some i.0 = a y i.0 live i.1.0 in
      subst (λ o. Went (given o stay) l t) (sym same) (h i.0 i.1.1)

  same_keeps : {A : Type 0} (a : Option A) (l : Lives) (t : State) (go stay : A → Result State Halt)
      → ((x : A) → go x ≡ done t → Went (stay x) l t) → given a go ≡ done t → Went (given a stay) l t
  same_keeps None l t go stay h is = absurd (let bad : ◌≡◌ {A = Result State Halt} (Err Stuck) (Ok t) = is in cc)
  same_keeps (Some x) l t go stay h is = h x is

  ends_here : (l : Lives) (s t : State) (u : Vars) → Agrees l s.vars u → done s ≡ done t → Went (done (over s u)) l t
  ends_here l s t u a is =
      let e = same_done s t is in
      subst (λ z. Went (done (over s u)) l z) e (record { vars = u; runs = refl; agrees = a })

  set_keeps : (price x n : ℕ) (l : Lives) (s t : State) (u : Vars) → Apart (Some x) l → Agrees (λ v. sets x v (l v)) s.vars u
      → flat.sets price x n s ≡ done t → Went (flat.sets price (p x) n (over s u)) l t
  set_keeps price x n l s t u apart a is =
      let e = same_done (with_var x n (spend price s)) t is in
      subst (λ z. Went (flat.sets price (p x) n (over s u)) l z) e
      (record { vars = insert u (p x) n; runs = refl; agrees = agrees })
    where
      agrees : Agrees l (insert s.vars x n) (insert u (p x) n)
      agrees y m live found = by_case (cases_eq y x)
        where
          by_case : (y ≡ x) ⊎ (y ≡ x → ⊥) → get (insert u (p x) n) (p y) ≡ Some m
          by_case (inl same) =
              let first : get (insert s.vars x n) x ≡ Some n = get-insert_same s.vars x n in
              let again : get (insert s.vars x n) x ≡ Some m = subst (λ q. get (insert s.vars x n) q ≡ Some m) same found in
              subst (λ q. get (insert u (p x) n) (p q) ≡ Some m) (sym same) (get-insert_same u (p x) n ∙ (sym first ∙ again))
          by_case (inr other) =
              get-insert_other u (p x) n (p y) (apart y live other)
              ∙ a y m (sets_other x y (l y) other live) (sym (get-insert_other s.vars x n y other) ∙ found)

  then_keeps : (r q : Result State Halt) (k l : Lives) (t : State) (next stay : Rule) → ((s : State) → r ≡ done s → Went q k s)
      → ((s : State) (u : Vars) → Agrees k s.vars u → next s ≡ done t → Went (stay (over s u)) l t) → and_then r next ≡ done t
      → Went (and_then q stay) l t
  then_keeps r q k l t next stay first second is =
      let i = then_done r next t is in
      let w = first i.0 i.1.0 in
      subst (λ z. Went (and_then z stay) l t) (sym w.runs) (second i.0 w.vars w.agrees i.1.1)

  choose_keeps : (n : ℕ) (l : Lives) (s t : State) (u : Vars) (a b c d : Rule) → (a s ≡ done t → Went (c (over s u)) l t)
      → (b s ≡ done t → Went (d (over s u)) l t)
      → choose n a b s ≡ done t → Went (choose n c d (over s u)) l t
  choose_keeps zero l s t u a b c d first second is = second is
  choose_keeps (suc n) l s t u a b c d first second is = first is

  nothing_keeps : Keeps (in_turn []) (in_turn []) (walks [])
  nothing_keeps l s t u ok a is = ends_here l s t u a is

  row_keeps : (rule other : Rule) (rules others : List Rule) (w : Walk) (ws : List Walk) → Keeps rule other w
      → Keeps (in_turn rules) (in_turn others) (walks ws)
      → Keeps (in_turn (rule ∷ rules)) (in_turn (other ∷ others)) (walks (w ∷ ws))
  row_keeps rule other rules others w ws first second l s t u ok a is =
      let mid : Lives = λ v. (walks ws).need v (l v) in
      then_keeps (rule s) (other (over s u)) mid l t (in_turn rules) (in_turn others)
      (λ z here. first mid s z u (apart_front (w.points mid) ((walks ws).points l) ok) a here)
      (λ z u1 a1 here. second l z t u1 (apart_back (w.points mid) ((walks ws).points l) ok) a1 here) is

  module _ (w : Weights) (tables : List (List ℕ)) where
    abbrev pub Both : FStmt-F Rule → FStmt-F Rule → Walk → Type 0
    Both y z walk = Keeps (run_step w tables y) (run_step w tables z) walk

    lit_keeps : (x n : ℕ) → Both (f.Lit x n) (f.Lit (p x) n) (walk_step (f.Lit x n))
    lit_keeps x n l s t u ok a is = take_keeps s.fuel l s t u _ _ (λ j go. set_keeps w.literal x n l (left j s) t u ok.0 a go) is

    -- what is read first is live, and the rest is what was live but for it
    past : (y : ℕ) (k : Lives) (v u : Vars) → Agrees (λ x. reads y x (k x)) v u → Agrees k v u
    past y k v u a = fewer k (λ x. reads y x (k x)) v u a (λ x live. or_right (nat_eq x y) (k x) live)

    read_first : (y : ℕ) (k l : Lives) (v u : Vars) (t : State) (go stay : ℕ → Result State Halt)
        → Agrees (λ x. reads y x (k x)) v u
        → ((n : ℕ) → go n ≡ done t → Went (stay n) l t) → given (get v y) go ≡ done t → Went (given (get u (p y)) stay) l t
    read_first y k l v u t go stay a h is = read_keeps y (λ x. reads y x (k x)) l v u t go stay (reads_own y (k y)) a h is

    copy_keeps : (x y : ℕ) → Both (f.Copy x y) (f.Copy (p x) (p y)) (walk_step (f.Copy x y))
    copy_keeps x y l s t u ok a is =
        let k : Lives = λ v. sets x v (l v) in
        take_keeps s.fuel l s t u _ _ (λ j go. read_first y k l s.vars u t _ _ a
        (λ n here. set_keeps w.variable x n l (left j s) t u ok.0 (past y k s.vars u a) here) go) is

    bin_keeps : (op : _) (x y z : ℕ) → Both (f.Bin op x y z) (f.Bin op (p x) (p y) (p z)) (walk_step (f.Bin op x y z))
    bin_keeps op x y z l s t u ok a is =
        let k : Lives = λ v. sets x v (l v) in
        let k2 : Lives = λ v. reads z v (k v) in
        let a2 = past y k2 s.vars u a in
        take_keeps s.fuel l s t u _ _ (λ j go. read_first y k2 l s.vars u t _ _ a (λ n here. read_first z k l s.vars u t _ _ a2
        (λ m there. set_keeps w.operation x (apply op n m) l (left j s) t u ok.0 (past z k s.vars u a2) there) here) go) is

    load_keeps : (size : _) (x y : ℕ) → Both (f.Load size x y) (f.Load size (p x) (p y)) (walk_step (f.Load size x y))
    load_keeps size x y l s t u ok a is =
        let k : Lives = λ v. sets x v (l v) in
        take_keeps s.fuel l s t u _ _ (λ j go. read_first y k l s.vars u t _ _ a
        (λ n here. same_keeps (loaded size s.mem n) l t _ _
        (λ m there. set_keeps w.load x m l (left j s) t u ok.0 (past y k s.vars u a) there) here) go) is

    table_keeps : (size : _) (x i y : ℕ) → Both (f.Table size x i y) (f.Table size (p x) i (p y)) (walk_step (f.Table size x i y))
    table_keeps size x i y l s t u ok a is =
        let k : Lives = λ v. sets x v (l v) in
        take_keeps s.fuel l s t u _ _ (λ j go. read_first y k l s.vars u t _ _ a
        (λ n here. same_keeps (slice_get tables i) l t _ _
        (λ bytes there. same_keeps (entry size bytes n) l t _ _
        (λ m last. set_keeps w.table x m l (left j s) t u ok.0 (past y k s.vars u a) last) there) here) go) is

    store_keeps : (size : _) (x y : ℕ) → Both (f.Store size x y) (f.Store size (p x) (p y)) (walk_step (f.Store size x y))
    store_keeps size x y l s t u ok a is =
        let k2 : Lives = λ v. reads y v (l v) in
        let a2 = past x k2 s.vars u a in
        take_keeps s.fuel l s t u _ _ (λ j go. read_first x k2 l s.vars u t _ _ a (λ n here. read_first y l l s.vars u t _ _ a2
        (λ m there. same_keeps (store size s.mem n m) l t _ _
        (λ mem last. ends_here l (with_mem mem (spend w.store (left j s))) t u (past y l s.vars u a2) last) there) here) go) is

    if_keeps : (x : ℕ) (a b c d : List Rule) (va vb : List Walk) → Keeps (in_turn a) (in_turn c) (walks va)
        → Keeps (in_turn b) (in_turn d) (walks vb)
        → Both (f.If x a b) (f.If (p x) c d) (walk_step (f.If x va vb))
    if_keeps x a b c d va vb first second l s t u ok ag is =
        let k : Lives = λ v. (walks va).need v (l v) || (walks vb).need v (l v) in
        let rest = past x k s.vars u ag in
        take_keeps s.fuel l s t u _ _ (λ j go. read_first x k l s.vars u t _ _ ag
        (λ n here. choose_keeps n l (spend w.test (left j s)) t u _ _ _ _
        (λ there. first l (spend w.test (left j s)) t u (apart_front ((walks va).points l) ((walks vb).points l) ok.1)
        (fewer (λ v. (walks va).need v (l v)) k s.vars u rest
        (λ v live. or_left ((walks va).need v (l v)) ((walks vb).need v (l v)) live)) there)
        (λ there. second l (spend w.test (left j s)) t u (apart_back ((walks va).points l) ((walks vb).points l) ok.1)
        (fewer (λ v. (walks vb).need v (l v)) k s.vars u rest
        (λ v live. or_right ((walks va).need v (l v)) ((walks vb).need v (l v)) live)) there)
        here) go) is

    module _ (x : ℕ) (a b c d : Rule) (va vb : Walk) (first : Keeps a c va) (second : Keeps b d vb) (l : Lives) where
      abbrev head : Lives
      head v = turned va x vb v (l v)

      abbrev at_test : Lives
      at_test v = tested va x vb v (l v)

      turns_keep : (n : ℕ) (s t : State) (u : Vars) → AllApart (va.points at_test) → AllApart (vb.points head)
          → Agrees head s.vars u
          → turns n a x w.turn b s ≡ done t → Went (turns n c (p x) w.turn d (over s u)) l t
      turns_keep zero s t u oka okb ag is = absurd (let bad : ◌≡◌ {A = Result State Halt} (Err OutOfFuel) (Ok t) = is in cc)
      turns_keep (suc n) s t u oka okb ag is =
          then_keeps (a s) (c (over s u)) at_test l t _ _
          (λ z here. first at_test s z u oka
          (fewer (λ v. va.need v (at_test v)) head s.vars u ag (λ v. settles (va.need v) (vb.need v) (nat_eq v x) (l v)))
          here)
          (λ z u1 a1 here.
          let beyond = past x (λ v. l v || vb.need v (head v)) z.vars u1 a1 in
          read_first x (λ v. l v || vb.need v (head v)) l z.vars u1 t _ _ a1
          (λ m there. choose_keeps m l (spend w.turn z) t u1 _ _ _ _
          (λ go. take_keeps z.fuel l (spend w.turn z) t u1 _ _
          (λ j on. then_keeps (b (left j (spend w.turn z))) (d (over (left j (spend w.turn z)) u1)) head l t _ _
          (λ y this. second head (left j (spend w.turn z)) y u1 okb
          (fewer (λ v. vb.need v (head v)) (λ v. l v || vb.need v (head v)) z.vars u1 beyond
          (λ v live. or_right (l v) (vb.need v (head v)) live)) this)
          (λ y u2 a2 this. turns_keep n y t u2 oka okb a2 this) on) go)
          (λ go. ends_here l (spend w.turn z) t u1
          (fewer l (λ v. l v || vb.need v (head v)) z.vars u1 beyond (λ v live. or_left (l v) (vb.need v (head v)) live)) go)
          there) here) is

    while_keeps : (x : ℕ) (a b c d : List Rule) (va vb : List Walk) → Keeps (in_turn a) (in_turn c) (walks va)
        → Keeps (in_turn b) (in_turn d) (walks vb)
        → Both (f.While a x b) (f.While c (p x) d) (walk_step (f.While va x vb))
    while_keeps x a b c d va vb first second l s t u ok ag is =
        let at_test : Lives = λ v. tested (walks va) x (walks vb) v (l v) in
        let head : Lives = λ v. turned (walks va) x (walks vb) v (l v) in
        take_keeps s.fuel l s t u _ _ (λ j go. turns_keep x (in_turn a) (in_turn b) (in_turn c) (in_turn d) (walks va) (walks vb)
        first second l s.fuel (left j s) t u
        (apart_front ((walks va).points at_test) ((walks vb).points head) ok.1)
        (apart_back ((walks va).points at_test) ((walks vb).points head) ok.1) ag go) is

    abbrev pub Fine : FStmt → Type 0
    Fine c = Keeps (run w tables c) (run w tables (renamed p c)) (walk c)

    abbrev Proved : Type 0
    Proved = (c : FStmt) × Fine c

    abbrev bare : FStmt-F Proved → FStmt-F FStmt
    bare y = map-FStmt Proved FStmt (λ q. q.0) y

    abbrev rules_of : List Proved → List Rule
    rules_of cs = map (run w tables) (map (λ q. q.0) cs)

    abbrev others_of : List Proved → List Rule
    others_of cs = map (run w tables) (map (renamed p) (map (λ q. q.0) cs))

    abbrev walks_of : List Proved → List Walk
    walks_of cs = map walk (map (λ q. q.0) cs)

    code_keeps_of : (cs : List Proved) → Keeps (in_turn (rules_of cs)) (in_turn (others_of cs)) (walks (walks_of cs))
    code_keeps_of [] = nothing_keeps
    code_keeps_of (c ∷ cs) =
        row_keeps (run w tables c.0) (run w tables (renamed p c.0)) (rules_of cs) (others_of cs) (walk c.0) (walks_of cs) c.1
        (code_keeps_of cs)

    step_keeps : (y : FStmt-F Proved)
        → Both (map-FStmt FStmt Rule (run w tables) (bare y))
        (map-FStmt FStmt Rule (run w tables) (renamed_step p (map-FStmt FStmt FStmt (renamed p) (bare y))))
        (walk_step (map-FStmt FStmt Walk walk (bare y)))
    step_keeps (f.Lit x n) = lit_keeps x n
    step_keeps (f.Copy x y) = copy_keeps x y
    step_keeps (f.Bin op x y z) = bin_keeps op x y z
    step_keeps (f.Load size x y) = load_keeps size x y
    step_keeps (f.Table size x k y) = table_keeps size x k y
    step_keeps (f.Store size x y) = store_keeps size x y
    step_keeps (f.If x a b) = if_keeps x (rules_of a) (rules_of b) (others_of a) (others_of b) (walks_of a) (walks_of b)
        (code_keeps_of a) (code_keeps_of b)
    step_keeps (f.While a x b) = while_keeps x (rules_of a) (rules_of b) (others_of a) (others_of b) (walks_of a) (walks_of b)
        (code_keeps_of a) (code_keeps_of b)

    node_keeps : (y : FStmt-F Proved) → Fine (roll-FStmt (bare y))
    node_keeps y =
        let here = fold-roll-FStmt Rule (run_step w tables) (bare y) in
        let names = fold-roll-FStmt FStmt (λ s. roll-FStmt (renamed_step p s)) (bare y) in
        let there = ap (run w tables) names
        ∙ fold-roll-FStmt Rule (run_step w tables) (renamed_step p (map-FStmt FStmt FStmt (renamed p) (bare y))) in
        let lives = fold-roll-FStmt Walk walk_step (bare y) in
        subst (λ r. Keeps r (run w tables (renamed p (roll-FStmt (bare y)))) (walk (roll-FStmt (bare y)))) (sym here)
        (subst (λ r. Keeps (run_step w tables (map-FStmt FStmt Rule (run w tables) (bare y))) r (walk (roll-FStmt (bare y))))
        (sym there)
        (subst (λ v. Keeps (run_step w tables (map-FStmt FStmt Rule (run w tables) (bare y)))
        (run_step w tables (map-FStmt FStmt Rule (run w tables) (renamed_step p (map-FStmt FStmt FStmt (renamed p) (bare y))))) v)
        (sym lives) (step_keeps y)))

    stmt_keeps : (c : FStmt) → Fine c
    stmt_keeps = ind-FStmt Fine (λ x y is. subst (λ z. Fine (roll-FStmt z)) is (node_keeps y))

    pub body_keeps : (cs : List FStmt) → Keeps (run_all w tables cs) (run_all w tables (code_renamed p cs)) (code_walk cs)
    body_keeps [] = nothing_keeps
    body_keeps (c ∷ cs) = row_keeps (run w tables c) (run w tables (renamed p c)) (map (run w tables) cs)
        (map (run w tables) (map (renamed p) cs)) (walk c) (map walk cs) (stmt_keeps c) (body_keeps cs)
