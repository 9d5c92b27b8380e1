-- The pressure of three commands, each worked out by hand: the points of its locals are in the comments, the entry being 0.
use Rattle.std.proofs.Common.{◌≡◌, refl, ◌∙◌, ℕ, [], ◌∷◌}
use Rattle.bed_syntax.specs.Pressure.{pressure}
use Rattle.bed_syntax.specs.declared.operation.BOp.TheVariants.{Add, Mul, Xor, Ltu}
use Rattle.bed_syntax.specs.declared.operation.Size.TheVariants.{One}
use Rattle.bed_syntax.specs.declared.expression.BExpr.TheVariants.{Lit, Var, Bin, Load}
use Rattle.bed_syntax.specs.declared.command.Cmd.{Cmd}
use Rattle.bed_syntax.specs.declared.command.Cmd.TheVariants.{Set, Cond, Seq, While}
use Rattle.bed_syntax.proofs.Measured.{lit, var, bin, load, set, cond, loop, seq, no_more, ◌and◌, pressure_is}

-- v0 from 0 to 3, v1 from 0 to 2: two at once, and depth 2
abbrev counts : Cmd
counts = While (Bin Ltu (Var 0) (Var 1)) (Set 0 (Bin Add (Var 0) (Lit 1)))

counting : pressure counts 2 (0 ∷ []) ≡ 4
counting = pressure_is (loop (bin Ltu (var 0) (var 1)) (set 0 (bin Add (var 0) (lit 1)))) 2 (0 ∷ []) ∙ refl

-- v0 and v1 from 0 to 1, v3 from 1 to 2, v4 from 4 to 5; v2 is read before it is set where v3 isn't 0, so it goes from 0 to 4:
-- four at once at 1, and depth 2. With v2 from 3 on there would be three.
abbrev chooses : Cmd
chooses = Seq (Set 3 (Bin Add (Var 0) (Var 1)) ∷ Cond (Var 3) (Seq []) (Set 2 (Lit 5)) ∷ Set 4 (Var 2) ∷ [])

choosing : pressure chooses 2 (4 ∷ []) ≡ 6
choosing =
    pressure_is (seq (set 3 (bin Add (var 0) (var 1))
    and (cond (var 3) (seq no_more) (set 2 (lit 5)) and (set 4 (var 2) and no_more)))) 2 (4 ∷ [])
    ∙ refl

-- a hash of bytes: v0, their address, from 0 to 8; v1, their number,
-- from 0 to 4; v2, the hash, from 1 to 9; v4, the place, from 3
-- to 8; v5, the end, from 4 to 8; v3, a byte, from 5 to 8, as long as the loop goes: five at once from 4 to 8, and depth 3
abbrev hashes : Cmd
hashes =
    Seq (Set 2 (Lit 2166136261) ∷ Set 2 (Var 2) ∷ Set 4 (Lit 0) ∷ Set 5 (Var 1)
    ∷ While (Bin Ltu (Var 4) (Var 5))
    (Seq (Set 3 (Load One (Bin Add (Var 0) (Var 4))) ∷ Set 2 (Bin Mul (Bin Xor (Var 2) (Var 3)) (Lit 16777619))
    ∷ Set 4 (Bin Add (Var 4) (Lit 1)) ∷ []))
    ∷ [])

hashing : pressure hashes 2 (2 ∷ []) ≡ 8
hashing =
    pressure_is (seq (set 2 (lit 2166136261) and (set 2 (var 2) and (set 4 (lit 0) and (set 5 (var 1)
    and (loop (bin Ltu (var 4) (var 5))
    (seq (set 3 (load One (bin Add (var 0) (var 4)))
    and (set 2 (bin Mul (bin Xor (var 2) (var 3)) (lit 16777619)) and (set 4 (bin Add (var 4) (lit 1)) and no_more))))
    and no_more)))))) 2 (2 ∷ [])
    ∙ refl
