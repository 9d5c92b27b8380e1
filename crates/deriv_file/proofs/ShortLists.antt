-- An array in the value of a text has no more items than the text has bytes, and one.
use Rattle.std.proofs.Common.{◌≡◌, ℕ, suc, ◌+◌, ◌≤◌, Bool, true, false, List, [], ◌∷◌, ◌++◌, length, Option, Some, None}
use Rattle.std.proofs.Common.{option_map, option_and_then, refl, sym, ◌∙◌, ap, subst, length-append, arith}
use Rattle.std.specs.Prelude.{⊤}
use Rattle.std.specs.Ordering.{nat_cmp, match_ordering}
use Rattle.std.specs.declared.cmp.Ordering.{Ordering}
use Rattle.std.specs.declared.cmp.Ordering.TheVariants.{Less, Equal, Greater}
use Rattle.std.specs.Cmp.Lexicographic.{slice_cmp}
use Rattle.std.proofs.lemmas.Option.{same_Some}
use Rattle.json.specs.Token.{Token, begin_object, end_object, begin_array, end_array, key, string, number, boolean, null, bad}
use Rattle.json.specs.Lex as lexer
use Rattle.json.specs.Json as json
use Rattle.json.specs.Tree.{json_tokens, items_tokens, members_tokens}
use Rattle.json.proofs.Unique.Spelling.{value-json_tokens_back}
use Rattle.serde_json.specs.Data as datum
use Rattle.serde_json.specs.Events.{items_len}
use Rattle.serde_json.specs.Find.{as_array, get, get_member}
use Rattle.serde_json.specs.Read.{read, number_of, of_json, of_items, of_members}
use Rattle.deriv_file.proofs.Filling.{came, mapped}

-- Tokens.

lexed_byte : (m : lexer.Mode) (c : lexer.Class) (x : ℕ) (xs : List ℕ) (k : lexer.Mode → List lexer.Lexeme) (n : ℕ)
    → ((next : lexer.Mode) → length (k next) ≤ n)
    → length (lexer.lex_byte m c x xs k) ≤ suc n
lexed_byte lexer.between lexer.quote x xs k n h = omega (arith, h lexer.in_string)
lexed_byte lexer.between lexer.backslash x xs k n h = omega (arith, h lexer.in_word)
lexed_byte lexer.between lexer.operator x xs k n h = omega (arith, h lexer.between)
lexed_byte lexer.between lexer.space x xs k n h = omega (arith, h lexer.between)
lexed_byte lexer.between lexer.other x xs k n h = omega (arith, h lexer.in_word)
lexed_byte lexer.in_word lexer.quote x xs k n h = omega (arith, h lexer.in_word)
lexed_byte lexer.in_word lexer.backslash x xs k n h = omega (arith, h lexer.in_word)
lexed_byte lexer.in_word lexer.operator x xs k n h = omega (arith, h lexer.between)
lexed_byte lexer.in_word lexer.space x xs k n h = omega (arith, h lexer.between)
lexed_byte lexer.in_word lexer.other x xs k n h = omega (arith, h lexer.in_word)
lexed_byte lexer.in_string lexer.quote x xs k n h = omega (arith, h lexer.between)
lexed_byte lexer.in_string lexer.backslash x xs k n h = omega (arith, h lexer.in_escape)
lexed_byte lexer.in_string lexer.operator x xs k n h = omega (arith, h lexer.in_string)
lexed_byte lexer.in_string lexer.space x xs k n h = omega (arith, h lexer.in_string)
lexed_byte lexer.in_string lexer.other x xs k n h = omega (arith, h lexer.in_string)
lexed_byte lexer.in_escape c x xs k n h = omega (arith, h lexer.in_string)

lexed_length : (m : lexer.Mode) (xs : List ℕ) → length (lexer.lex m xs) ≤ length xs
unfolding lexer.lex
lexed_length m [] = omega arith
lexed_length m (x ∷ xs) = lexed_byte m (lexer.class x) x xs (λ next. lexer.lex next xs) (length xs) (λ next. lexed_length next xs)

allowed_length : (may : Bool) (t : Token) (k : lexer.Place → List Token) (next : lexer.Place) (n : ℕ) → length (k next) ≤ n
    → length (lexer.if_allowed may t k next) ≤ suc n
allowed_length true t k next n h = omega (arith, h)
allowed_length false t k next n h = omega arith

placed_length : (p : lexer.Place) (t : Token) (colon : Bool) (k : lexer.Place → List Token) (n : ℕ)
    → ((next : lexer.Place) → length (k next) ≤ n)
    → length (lexer.place_token p t colon k) ≤ suc n
placed_length p begin_object colon k n h = allowed_length (lexer.may_begin p) begin_object k lexer.fresh n (h lexer.fresh)
placed_length p end_object colon k n h = allowed_length (lexer.may_close p) end_object k lexer.after_value n (h lexer.after_value)
placed_length p begin_array colon k n h = allowed_length (lexer.may_begin p) begin_array k lexer.fresh n (h lexer.fresh)
placed_length p end_array colon k n h = allowed_length (lexer.may_close p) end_array k lexer.after_value n (h lexer.after_value)
placed_length p (key s) colon k n h = omega arith
placed_length p (string s) true k n h = allowed_length (lexer.may_begin p) (key s) k lexer.after_key n (h lexer.after_key)
placed_length p (string s) false k n h = allowed_length (lexer.may_begin p) (string s) k lexer.after_value n (h lexer.after_value)
placed_length p (number s) colon k n h = allowed_length (lexer.may_begin p) (number s) k lexer.after_value n (h lexer.after_value)
placed_length p (boolean b) colon k n h =
    allowed_length (lexer.may_begin p) (boolean b) k lexer.after_value n (h lexer.after_value)
placed_length p null colon k n h = allowed_length (lexer.may_begin p) null k lexer.after_value n (h lexer.after_value)
placed_length p bad colon k n h = omega arith

punctuated_length : (p : lexer.Place) (ls : List lexer.Lexeme) → length (lexer.punctuate p ls) ≤ suc (length ls)
unfolding lexer.punctuate
punctuated_length lexer.fresh [] = omega arith
punctuated_length lexer.after_value [] = omega arith
punctuated_length lexer.after_comma [] = omega arith
punctuated_length lexer.after_key [] = omega arith
punctuated_length lexer.fresh (lexer.token t ∷ ls) =
    placed_length lexer.fresh t (lexer.begins_colon ls) (λ next. lexer.punctuate next ls) (suc (length ls))
    (λ next. punctuated_length next ls)
punctuated_length lexer.after_value (lexer.token t ∷ ls) =
    placed_length lexer.after_value t (lexer.begins_colon ls) (λ next. lexer.punctuate next ls) (suc (length ls))
    (λ next. punctuated_length next ls)
punctuated_length lexer.after_comma (lexer.token t ∷ ls) =
    placed_length lexer.after_comma t (lexer.begins_colon ls) (λ next. lexer.punctuate next ls) (suc (length ls))
    (λ next. punctuated_length next ls)
punctuated_length lexer.after_key (lexer.token t ∷ ls) =
    placed_length lexer.after_key t (lexer.begins_colon ls) (λ next. lexer.punctuate next ls) (suc (length ls))
    (λ next. punctuated_length next ls)
punctuated_length lexer.fresh (lexer.comma ∷ ls) = omega arith
punctuated_length lexer.after_value (lexer.comma ∷ ls) = let rest = punctuated_length lexer.after_comma ls in omega (arith, rest)
punctuated_length lexer.after_comma (lexer.comma ∷ ls) = omega arith
punctuated_length lexer.after_key (lexer.comma ∷ ls) = omega arith
punctuated_length lexer.fresh (lexer.colon ∷ ls) = omega arith
punctuated_length lexer.after_value (lexer.colon ∷ ls) = omega arith
punctuated_length lexer.after_comma (lexer.colon ∷ ls) = omega arith
punctuated_length lexer.after_key (lexer.colon ∷ ls) = let rest = punctuated_length lexer.fresh ls in omega (arith, rest)

tokens_length : (text : List ℕ) → length (lexer.tokens text) ≤ suc (length text)
tokens_length text =
    let one = punctuated_length lexer.fresh (lexer.lex lexer.between text) in
    let two = lexed_length lexer.between text in
    omega (arith, one, two)

-- Values. Each array has at most so many items.

abbrev pub IsShort : ℕ → datum.Data → Type 0
IsShort most d = (items : datum.Items) → as_array d ≡ Some items → items_len items ≤ most

abbrev AreShort : ℕ → datum.Members → Type 0
AreShort most datum.no_members = ⊤
AreShort most (datum.member k d ms) = IsShort most d × AreShort most ms

one_token : (j : json.Json) → 1 ≤ length (json_tokens j)
one_token json.null = omega arith
one_token (json.boolean b) = omega arith
one_token (json.number s) = omega arith
one_token (json.string s) = omega arith
one_token (json.array js) = omega arith
one_token (json.object ms) = omega arith

items_short : (js : json.Items) (ds : datum.Items) → of_items js ≡ Some ds → items_len ds ≤ length (items_tokens js)
items_short json.no_items ds h = subst (λ (es : datum.Items). items_len es ≤ 1) (same_Some datum.no_items ds h) (omega arith)
items_short (json.item j js) ds h =
    let first = came (of_json j) (λ (d : datum.Data). option_map (datum.item d) (of_items js)) ds h in
    let rest = mapped (of_items js) (datum.item first.value) ds first.gives in
    let few = items_short js rest.value rest.is in
    subst (λ (es : datum.Items). items_len es ≤ length (json_tokens j ++ items_tokens js)) rest.gives
    (omega (arith, few, one_token j, length-append (json_tokens j) (items_tokens js)))

-- a value that is no array
no_array : (most : ℕ) (x d : datum.Data) → x ≡ d → as_array x ≡ None → IsShort most d
no_array most x d same none items is =
    let e : None ≡ Some items = sym none ∙ ap as_array same ∙ is in absurd (cc)

value_short : (j : json.Json) (d : datum.Data) → of_json j ≡ Some d → IsShort (length (json_tokens j)) d
value_short json.null d h = no_array 1 datum.null d (same_Some datum.null d h) refl
value_short (json.boolean b) d h = no_array 1 (datum.boolean b) d (same_Some (datum.boolean b) d h) refl
value_short (json.number s) d h = let n = mapped (number_of s) datum.number d h in
    no_array 1 (datum.number n.value) d n.gives refl
value_short (json.string s) d h = no_array 1 (datum.string s) d (same_Some (datum.string s) d h) refl
value_short (json.array js) d h =
    let list = mapped (of_items js) datum.array d h in
    let few : items_len list.value ≤ length (items_tokens js) = items_short js list.value list.is in
    subst (λ (x : datum.Data). IsShort (suc (length (items_tokens js))) x) list.gives
    (λ items is. subst (λ (es : datum.Items). items_len es ≤ suc (length (items_tokens js))) (same_Some list.value items is)
    (omega (arith, few)))
value_short (json.object ms) d h =
    let members = mapped (of_members ms datum.no_members) datum.object d h in
    no_array (suc (length (members_tokens ms))) (datum.object members.value) d members.gives refl

-- The members of an object.

shorter : (few most : ℕ) (d : datum.Data) → few ≤ most → IsShort few d → IsShort most d
shorter few most d h short items is = let here = short items is in omega (arith, h, here)

ordered_short : (most : ℕ) (o : Ordering) (a b c : datum.Members) → AreShort most a → AreShort most b → AreShort most c
    → AreShort most (match_ordering o a b c)
ordered_short most Less a b c ha hb hc = ha
ordered_short most Equal a b c ha hb hc = hb
ordered_short most Greater a b c ha hb hc = hc

put_short : (most : ℕ) (k : List ℕ) (d : datum.Data) (ms : datum.Members) → IsShort most d → AreShort most ms
    → AreShort most (datum.put k d ms)
put_short most k d datum.no_members h hs = (h, tt)
put_short most k d (datum.member l e ms) h hs =
    ordered_short most (slice_cmp nat_cmp k l) (datum.member k d (datum.member l e ms)) (datum.member l d ms)
    (datum.member l e (datum.put k d ms))
    (h, hs) (h, hs.1) (hs.0, put_short most k d ms h hs.1)

members_short : (most : ℕ) (js : json.Members) (old new : datum.Members) → of_members js old ≡ Some new
    → length (members_tokens js) ≤ most → AreShort most old → AreShort most new
members_short most json.no_members old new h few hs = subst (λ (ms : datum.Members). AreShort most ms) (same_Some old new h) hs
members_short most (json.member k j js) old new h few hs =
    let first = came (of_json j) (λ (d : datum.Data). of_members js (datum.put k d old)) new h in
    let whole = length-append (json_tokens j) (members_tokens js) in
    members_short most js (datum.put k first.value old) new first.gives (omega (arith, few, whole))
    (put_short most k first.value old
    (shorter (length (json_tokens j)) most first.value (omega (arith, few, whole)) (value_short j first.value first.is)) hs)

found_short : (most : ℕ) (o : Ordering) (rest : Option datum.Data) (e d : datum.Data) → (rest ≡ Some d → IsShort most d)
    → IsShort most e
    → match_ordering o rest (Some e) rest ≡ Some d → IsShort most d
found_short most Less rest e d more here h = more h
found_short most Equal rest e d more here h = subst (λ (x : datum.Data). IsShort most x) (same_Some e d h) here
found_short most Greater rest e d more here h = more h

member_short : (most : ℕ) (k : List ℕ) (ms : datum.Members) (d : datum.Data) → AreShort most ms → get_member k ms ≡ Some d
    → IsShort most d
member_short most k datum.no_members d hs h = absurd (cc)
member_short most k (datum.member l e ms) d hs h =
    found_short most (slice_cmp nat_cmp k l) (get_member k ms) e d (λ is. member_short most k ms d hs.1 is) hs.0 h

-- a value that is no object
no_object : (most : ℕ) (k : List ℕ) (x d v : datum.Data) → x ≡ d → get k x ≡ None → get k d ≡ Some v → IsShort most v
no_object most k x d v same none is = let e : None ≡ Some v = sym none ∙ ap (get k) same ∙ is in absurd (cc)

got_short : (j : json.Json) (d : datum.Data) (k : List ℕ) (v : datum.Data) → of_json j ≡ Some d → get k d ≡ Some v
    → IsShort (length (json_tokens j)) v
got_short json.null d k v h = no_object 1 k datum.null d v (same_Some datum.null d h) refl
got_short (json.boolean b) d k v h = no_object 1 k (datum.boolean b) d v (same_Some (datum.boolean b) d h) refl
got_short (json.number s) d k v h = let n = mapped (number_of s) datum.number d h in
    no_object 1 k (datum.number n.value) d v n.gives refl
got_short (json.string s) d k v h = no_object 1 k (datum.string s) d v (same_Some (datum.string s) d h) refl
got_short (json.array js) d k v h =
    let list = mapped (of_items js) datum.array d h in
    no_object (suc (length (items_tokens js))) k (datum.array list.value) d v list.gives refl
got_short (json.object js) d k v h =
    let members = mapped (of_members js datum.no_members) datum.object d h in
    λ is. member_short (suc (length (members_tokens js))) k members.value v
    (members_short (suc (length (members_tokens js))) js datum.no_members members.value members.is (omega arith) tt)
    (ap (get k) members.gives ∙ is)

last_is : (i j : json.Json) (rest : List Token) → json.if_last i rest ≡ Some j → i ≡ j
last_is i j [] h = same_Some i j h
last_is i j (t ∷ ts) h = absurd (cc)

-- a member of the value of a text
pub read_short : (text : List ℕ) (d : datum.Data) (k : List ℕ) (v : datum.Data) → read text ≡ Some d → get k d ≡ Some v
    → IsShort (length text + 1) v
read_short text d k v h is =
    let j = came (option_and_then (λ (p : json.Json × List Token). json.if_last p.0 p.1) (json.value 127 (lexer.tokens text)))
    of_json d h in
    let p = came (json.value 127 (lexer.tokens text)) (λ (p : json.Json × List Token). json.if_last p.0 p.1) j.value j.is in
    let same : p.value.0 ≡ j.value = last_is p.value.0 j.value p.value.1 p.gives in
    let spelled : lexer.tokens text ≡ json_tokens p.value.0 ++ p.value.1 =
    value-json_tokens_back 127 (lexer.tokens text) p.value.1 p.value.0 p.is in
    let read_as : of_json p.value.0 ≡ Some d = ap of_json same ∙ j.gives in
    let parts : length (lexer.tokens text) ≡ length (json_tokens p.value.0) + length p.value.1 =
    ap (λ (ts : List Token). length ts) spelled ∙ length-append (json_tokens p.value.0) p.value.1 in
    shorter (length (json_tokens p.value.0)) (length text + 1) v (omega (arith, parts, tokens_length text))
    (got_short p.value.0 d k v read_as is)
