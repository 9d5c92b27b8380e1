-- The form of a model is read as that model.
use Rattle.std.proofs.Common.{◌≡◌, refl, ℕ, Bool, true, ◌&&◌, List, [], ◌∷◌, map, codes, Ok, Some, None}
use Rattle.std.specs.Fmt.{decimal}
use Rattle.model_syntax.specs.Names.{Name}
use Rattle.rup_base.specs.declared.arg.Place.{Place}
use Rattle.rup_base.specs.Name.{is_name}
use Rattle.rup_base.specs.Gather.{all_true}
use Rattle.sx_text.specs.declared.tree.Sx.{Sx}
use Rattle.sx_text.specs.Spelling.{bare}
use Rattle.sx_text.proofs.laws.Atoms.{and_parts}
use Rattle.model_syntax.specs.declared.program.Len.{Len}
use Rattle.model_syntax.specs.declared.program.Len.TheVariants.{Fixed, Named}
use Rattle.model_syntax.specs.declared.program.Param.{Param}
use Rattle.model_syntax.specs.declared.program.Param.TheVariants as parameter
use Rattle.model_syntax.specs.declared.program.Ret.{Ret}
use Rattle.model_syntax.specs.declared.program.Ret.TheVariants as result
use Rattle.model_syntax.specs.declared.program.Model.{Model}
use Rattle.model_syntax.specs.Spelling.{stmt_spellable}
use Rattle.rup_base.specs.Number as numbers
use Rattle.model_reader.specs.Parts as parts
use Rattle.model_reader.specs.Parts.{Answer, Reading}
use Rattle.model_reader.specs.Reading.{reading, atom_reading}
use Rattle.model_reader.specs.Models as models
use Rattle.model_reader.specs.Models.{len, list_sort, list_param, atom_ret, list_ret, list_model, in_word}
use Rattle.model_syntax.specs.Formed.{len_formed, param_formed, facts_formed, stmt_formed, ret_formed, model_formed}
use Rattle.model_printer.specs.Printing as printing
use Rattle.model_printer.specs.Printing.{atom, worded}
use Rattle.model_printer.proofs.Backs.{at_atom, at_worded, at_headed, IsBack, each_back, all_back}
use Rattle.model_printer.proofs.Decimal.{number_decimal, name_is_no_number}
use Rattle.model_printer.proofs.Atomic.{word_within, name_back}
use Rattle.model_printer.proofs.FactBack.{require_back}
use Rattle.model_printer.proofs.StmtBack.{body_back}

-- lengths
fixed : (p : Place) (t : List ℕ) (n : ℕ) → numbers.number t ≡ Some n → len (atom_reading p t) ≡ Ok (Fixed n)
fixed p t n h = rw (h, len) refl

named : (p : Place) (t : List ℕ) → numbers.number t ≡ None → is_name t ≡ true → len (atom_reading p t) ≡ Ok (Named t)
named p t h i = rw (h, len) (rw i refl)

len_back : (n : Len) → len_formed n ≡ true → IsBack len printing.len n
len_back (Fixed n) h c b =
    at_atom (decimal n) c (λ r. len r ≡ Ok (Fixed n)) b (λ p. fixed p (decimal n) n (number_decimal n (word_within n h)))
len_back (Named x) h c b = at_atom x c (λ r. len r ≡ Ok (Named x)) b (λ p. named p x (name_is_no_number x h) h)

-- parameters
param_reads : (p q : Place) (x : Name) (r : Reading) (w : Param) → is_name x ≡ true → r.sort x ≡ Ok w
    → list_param p (atom_reading q x ∷ r ∷ []) ≡ Ok w
param_reads p q x r w h k = rw (h, k) refl

bytes_reads : (p q : Place) (x : Name) (r : Reading) (n : Len) → len r ≡ Ok n
    → list_sort p (atom_reading q (codes "bytes") ∷ r ∷ []) x ≡ Ok (parameter.Bytes x n)
bytes_reads p q x r n h = rw h refl

words_reads : (p q : Place) (x : Name) (r : Reading) (n : Len) → len r ≡ Ok n
    → list_sort p (atom_reading q (codes "words") ∷ r ∷ []) x ≡ Ok (parameter.Words x n)
words_reads p q x r n h = rw h refl

param_back : (w : Param) → param_formed w ≡ true → IsBack models.param printing.param w
param_back (parameter.Word x) h c b =
    at_worded x (atom (codes "word") ∷ []) c (λ r. r.param ≡ Ok (parameter.Word x)) b
    (λ p q d bd. param_reads p q x (reading d) (parameter.Word x) h
    (at_atom (codes "word") d (λ r. r.sort x ≡ Ok (parameter.Word x)) bd (λ at. refl)))
param_back (parameter.Byte x) h c b =
    at_worded x (atom (codes "byte") ∷ []) c (λ r. r.param ≡ Ok (parameter.Byte x)) b
    (λ p q d bd. param_reads p q x (reading d) (parameter.Byte x) h
    (at_atom (codes "byte") d (λ r. r.sort x ≡ Ok (parameter.Byte x)) bd (λ at. refl)))
param_back (parameter.Bytes a n) h c b =
    let f = and_parts (is_name a) (len_formed n) h in
    at_worded a (worded (codes "bytes") (printing.len n ∷ []) ∷ []) c (λ r. r.param ≡ Ok (parameter.Bytes a n)) b
    (λ p q d bd. param_reads p q a (reading d) (parameter.Bytes a n) f.0
    (at_worded (codes "bytes") (printing.len n ∷ []) d (λ r. r.sort a ≡ Ok (parameter.Bytes a n)) bd
    (λ at head g bg. bytes_reads at head a (reading g) n (len_back n f.1 g bg))))
param_back (parameter.Words a n) h c b =
    let f = and_parts (is_name a) (len_formed n) h in
    at_worded a (worded (codes "words") (printing.len n ∷ []) ∷ []) c (λ r. r.param ≡ Ok (parameter.Words a n)) b
    (λ p q d bd. param_reads p q a (reading d) (parameter.Words a n) f.0
    (at_worded (codes "words") (printing.len n ∷ []) d (λ r. r.sort a ≡ Ok (parameter.Words a n)) bd
    (λ at head g bg. words_reads at head a (reading g) n (len_back n f.1 g bg))))

params_back : (ws : List Param) → all_true (map param_formed ws) ≡ true → (c : Sx)
    → bare c ≡ bare (worded (codes "params") (map printing.param ws))
    → (reading c).params ≡ Ok ws
params_back ws h c b =
    at_headed (codes "params") (map printing.param ws) c (λ r. r.params ≡ Ok ws) b
    (λ p q cs m. each_back models.param printing.param ws cs (all_back models.param printing.param param_formed param_back ws h)
    m)

-- results
returned : (p : Place) (x : Name) → is_name x ≡ true → atom_ret p x ≡ Ok (result.Scalar x)
returned p x h = rw h refl

array_reads : (p q : Place) (a o : Name) (r s : Reading) → is_name a ≡ true → in_word r ≡ Ok tt → parts.name s ≡ Ok o
    → list_ret p (atom_reading q a ∷ r ∷ s ∷ []) ≡ Ok (result.Array a o)
array_reads p q a o r s h k i = rw (h, k, i) refl

ret_back : (w : Ret) → ret_formed w ≡ true → IsBack models.ret printing.ret w
ret_back (result.Scalar x) h c b = at_atom x c (λ r. r.ret ≡ Ok (result.Scalar x)) b (λ p. returned p x h)
ret_back (result.Array a o) h c b =
    let f = and_parts (is_name a) (is_name o) h in
    at_worded a (atom (codes "in") ∷ atom o ∷ []) c (λ r. r.ret ≡ Ok (result.Array a o)) b
    (λ p q d bd g bg. array_reads p q a o (reading d) (reading g) f.0
    (at_atom (codes "in") d (λ r. in_word r ≡ Ok tt) bd (λ at. refl)) (name_back o f.1 g bg))

rets_back : (ws : List Ret) → all_true (map ret_formed ws) ≡ true → (c : Sx)
    → bare c ≡ bare (worded (codes "ret") (map printing.ret ws))
    → (reading c).rets ≡ Ok ws
rets_back ws h c b =
    at_headed (codes "ret") (map printing.ret ws) c (λ r. r.rets ≡ Ok ws) b
    (λ p q cs m. each_back models.ret printing.ret ws cs (all_back models.ret printing.ret ret_formed ret_back ws h) m)

-- models
model_reads : (p q : Place) (r1 r2 r3 r4 r5 : Reading) (m : Model)
    → parts.name r1 ≡ Ok m.name → r2.params ≡ Ok m.params → r3.requires_ ≡ Ok m.requires_ → r4.block ≡ Ok m.body
    → r5.rets ≡ Ok m.rets
    → list_model p (atom_reading q (codes "model") ∷ r1 ∷ r2 ∷ r3 ∷ r4 ∷ r5 ∷ []) ≡ Ok m
model_reads p q r1 r2 r3 r4 r5 m h1 h2 h3 h4 h5 = rw (h1, h2, h3, h4, h5) refl

pub model_back : (m : Model) → model_formed m ≡ true → all_true (map stmt_spellable m.body) ≡ true
    → IsBack models.model printing.model m
model_back m h s c b =
    let body : Bool = all_true (map stmt_formed m.body) in
    let rets : Bool = all_true (map ret_formed m.rets) in
    let params : Bool = all_true (map param_formed m.params) in
    let f1 = and_parts (is_name m.name) (params && (facts_formed m.requires_ && (body && rets))) h in
    let f2 = and_parts params (facts_formed m.requires_ && (body && rets)) f1.1 in
    let f3 = and_parts (facts_formed m.requires_) (body && rets) f2.1 in
    let f4 = and_parts body rets f3.1 in
    at_worded (codes "model") (atom m.name ∷ worded (codes "params") (map printing.param m.params)
    ∷ worded (codes "require") (map printing.fact m.requires_) ∷ printing.block (map printing.stmt m.body)
    ∷ worded (codes "ret") (map printing.ret m.rets) ∷ [])
    c (λ r. r.model ≡ Ok m) b
    (λ p q d1 b1 d2 b2 d3 b3 d4 b4 d5 b5.
    model_reads p q (reading d1) (reading d2) (reading d3) (reading d4) (reading d5) m
    (name_back m.name f1.0 d1 b1) (params_back m.params f2.0 d2 b2) (require_back m.requires_ f3.0 d3 b3)
    (body_back m.body f4.0 s d4 b4) (rets_back m.rets f4.1 d5 b5))
