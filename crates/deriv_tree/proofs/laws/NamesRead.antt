-- The name of each rule is read as that rule.
use Rattle.std.proofs.Common.{◌≡◌, refl, Some}
use Rattle.deriv_tree.specs.declared.rule.Rule.{Rule}
use Rattle.deriv_tree.specs.declared.rule.Rule.TheVariants.{ELit, EVar, ELen, EOp, EAdd, ESub, EMulk, EMask, EShift, ERemk, EDivk}
use Rattle.deriv_tree.specs.declared.rule.Rule.TheVariants.{ECmp, ENot, EBoth, EEither, EWord, EByte, ECut, EGet, ETab, ERw}
use Rattle.deriv_tree.specs.declared.rule.Rule.TheVariants.{SNote, SLet, SPut, SMove, SIf, SFor, SMap, SFold}
use Rattle.deriv_tree.specs.Names.{name_of, rule_of}

pub name_is_read : (rule : Rule) → rule_of (name_of rule) ≡ Some rule
name_is_read ELit = refl
name_is_read EVar = refl
name_is_read ELen = refl
name_is_read EOp = refl
name_is_read EAdd = refl
name_is_read ESub = refl
name_is_read EMulk = refl
name_is_read EMask = refl
name_is_read EShift = refl
name_is_read ERemk = refl
name_is_read EDivk = refl
name_is_read ECmp = refl
name_is_read ENot = refl
name_is_read EBoth = refl
name_is_read EEither = refl
name_is_read EWord = refl
name_is_read EByte = refl
name_is_read ECut = refl
name_is_read EGet = refl
name_is_read ETab = refl
name_is_read ERw = refl
name_is_read SNote = refl
name_is_read SLet = refl
name_is_read SPut = refl
name_is_read SMove = refl
name_is_read SIf = refl
name_is_read SFor = refl
name_is_read SMap = refl
name_is_read SFold = refl
