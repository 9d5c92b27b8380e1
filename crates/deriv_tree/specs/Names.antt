-- The names of the rules in a text.
use Rattle.std.specs.Prelude.{ℕ, List, Option, Some, None, codes, bytes_eq, if◌then◌else◌}
use Rattle.deriv_tree.specs.declared.rule.Rule.{Rule}
use Rattle.deriv_tree.specs.declared.rule.Rule.TheVariants.{ELit, EVar, ELen, EOp, EAdd, ESub, EMulk, EMask, EShift, ERemk, EDivk}
use Rattle.deriv_tree.specs.declared.rule.Rule.TheVariants.{ECmp, ENot, EBoth, EEither, EWord, EByte, ECut, EGet, ETab, ERw}
use Rattle.deriv_tree.specs.declared.rule.Rule.TheVariants.{SNote, SLet, SPut, SMove, SIf, SFor, SMap, SFold}

abbrev pub name_of : Rule → List ℕ
name_of ELit = codes "e-lit"
name_of EVar = codes "e-var"
name_of ELen = codes "e-len"
name_of EOp = codes "e-op"
name_of EAdd = codes "e-add"
name_of ESub = codes "e-sub"
name_of EMulk = codes "e-mulk"
name_of EMask = codes "e-mask"
name_of EShift = codes "e-shift"
name_of ERemk = codes "e-remk"
name_of EDivk = codes "e-divk"
name_of ECmp = codes "e-cmp"
name_of ENot = codes "e-not"
name_of EBoth = codes "e-both"
name_of EEither = codes "e-either"
name_of EWord = codes "e-word"
name_of EByte = codes "e-byte"
name_of ECut = codes "e-cut"
name_of EGet = codes "e-get"
name_of ETab = codes "e-tab"
name_of ERw = codes "e-rw"
name_of SNote = codes "s-note"
name_of SLet = codes "s-let"
name_of SPut = codes "s-put"
name_of SMove = codes "s-move"
name_of SIf = codes "s-if"
name_of SFor = codes "s-for"
name_of SMap = codes "s-map"
name_of SFold = codes "s-fold"

-- the rule of expressions that has the name
abbrev pub expr_rule_of : List ℕ → Option Rule
expr_rule_of text =
    if bytes_eq text (codes "e-lit") then Some ELit else (
    if bytes_eq text (codes "e-var") then Some EVar else (
    if bytes_eq text (codes "e-len") then Some ELen else (
    if bytes_eq text (codes "e-op") then Some EOp else (
    if bytes_eq text (codes "e-add") then Some EAdd else (
    if bytes_eq text (codes "e-sub") then Some ESub else (
    if bytes_eq text (codes "e-mulk") then Some EMulk else (
    if bytes_eq text (codes "e-mask") then Some EMask else (
    if bytes_eq text (codes "e-shift") then Some EShift else (
    if bytes_eq text (codes "e-remk") then Some ERemk else (
    if bytes_eq text (codes "e-divk") then Some EDivk else (
    if bytes_eq text (codes "e-cmp") then Some ECmp else (
    if bytes_eq text (codes "e-not") then Some ENot else (
    if bytes_eq text (codes "e-both") then Some EBoth else (
    if bytes_eq text (codes "e-either") then Some EEither else (
    if bytes_eq text (codes "e-word") then Some EWord else (
    if bytes_eq text (codes "e-byte") then Some EByte else (
    if bytes_eq text (codes "e-cut") then Some ECut else (
    if bytes_eq text (codes "e-get") then Some EGet else (
    if bytes_eq text (codes "e-tab") then Some ETab else (
    if bytes_eq text (codes "e-rw") then Some ERw else None))))))))))))))))))))

-- the rule of statements that has the name
abbrev pub stmt_rule_of : List ℕ → Option Rule
stmt_rule_of text =
    if bytes_eq text (codes "s-note") then Some SNote else (
    if bytes_eq text (codes "s-let") then Some SLet else (
    if bytes_eq text (codes "s-put") then Some SPut else (
    if bytes_eq text (codes "s-move") then Some SMove else (
    if bytes_eq text (codes "s-if") then Some SIf else (
    if bytes_eq text (codes "s-for") then Some SFor else (
    if bytes_eq text (codes "s-map") then Some SMap else (
    if bytes_eq text (codes "s-fold") then Some SFold else None)))))))

-- the first, or else the second
abbrev pub or_else : Option Rule → Option Rule → Option Rule
or_else (Some rule) other = Some rule
or_else None other = other

-- the rule that has the name
abbrev pub rule_of : List ℕ → Option Rule
rule_of text = or_else (expr_rule_of text) (stmt_rule_of text)
