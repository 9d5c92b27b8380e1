-- A line feed behind the text of a value changes nothing of what is read.
use Rattle.std.proofs.Common.{◌≡◌, ℕ, Bool, true, false, cond, ◌&&◌, List, [], ◌∷◌, ◌++◌, refl, sym, ap, ap₂, ◌∙◌, append_assoc}
use Rattle.json.specs.Token.{Token, begin_object, end_object, begin_array, end_array, key, string, number, boolean, null, bad}
use Rattle.json.specs.Word.{ends_word, word}
use Rattle.json.specs.Lex.{Lexeme, token, comma, colon, string_token, lex, between, fresh, punctuate, tokens}
use Rattle.json.specs.Print.{escape, quoted, token_text, begins, ends, separator, print_from, print, IsPrintable, ArePrintable}
use Rattle.json.proofs.Printed.Strings.{content-escape, lex-escape}
use Rattle.json.proofs.Printed.Numbers.{lex-number, in_word-ended}

-- the lexemes of a token
abbrev spelled : Token → List Lexeme
spelled begin_object = token begin_object ∷ []
spelled end_object = token end_object ∷ []
spelled begin_array = token begin_array ∷ []
spelled end_array = token end_array ∷ []
spelled (key s) = token (string s) ∷ colon ∷ []
spelled (string s) = token (string s) ∷ []
spelled (number s) = token (number s) ∷ []
spelled (boolean b) = token (boolean b) ∷ []
spelled null = token null ∷ []
spelled bad = []

quoted_lexed : (s rest : List ℕ) → lex between (quoted s ++ rest) ≡ token (string s) ∷ lex between rest
unfolding lex
quoted_lexed s rest =
    ap (λ (text : List ℕ). lex between (34 ∷ text)) (append_assoc (escape s) (34 ∷ []) rest)
    ∙ ap₂ (λ o lexemes. token (string_token o) ∷ lexemes) (content-escape s rest) (lex-escape s rest)

token_lexed : (t : Token) (rest : List ℕ) → IsPrintable t → (ends t ≡ true → ends_word rest ≡ true)
    → lex between (token_text t ++ rest) ≡ spelled t ++ lex between rest
unfolding lex word
token_lexed begin_object rest h ended = refl
token_lexed end_object rest h ended = refl
token_lexed begin_array rest h ended = refl
token_lexed end_array rest h ended = refl
token_lexed (key s) rest h ended = ap (lex between) (append_assoc (quoted s) (58 ∷ []) rest) ∙ quoted_lexed s (58 ∷ rest)
token_lexed (string s) rest h ended = quoted_lexed s rest
token_lexed (number s) rest h ended = lex-number s rest h (ended refl)
token_lexed (boolean true) rest h ended =
    ap₂ (λ b l. token (cond b (boolean true) bad) ∷ l) (ended refl) (in_word-ended rest (ended refl))
token_lexed (boolean false) rest h ended =
    ap₂ (λ b l. token (cond b (boolean false) bad) ∷ l) (ended refl) (in_word-ended rest (ended refl))
token_lexed null rest h ended = ap₂ (λ b l. token (cond b null bad) ∷ l) (ended refl) (in_word-ended rest (ended refl))
token_lexed bad rest h ended = absurd h

-- a word ends where the next token begins, and before a line feed
ended_before : (later : Bool) (ts : List Token) (more : List ℕ) → ends_word more ≡ true → later ≡ true
    → ends_word (print_from later ts ++ more) ≡ true
unfolding print_from
ended_before false ts more h is = absurd (cc)
ended_before true [] more h is = h
ended_before true (begin_object ∷ ts) more h is = refl
ended_before true (end_object ∷ ts) more h is = refl
ended_before true (begin_array ∷ ts) more h is = refl
ended_before true (end_array ∷ ts) more h is = refl
ended_before true (key s ∷ ts) more h is = refl
ended_before true (string s ∷ ts) more h is = refl
ended_before true (number s ∷ ts) more h is = refl
ended_before true (boolean b ∷ ts) more h is = refl
ended_before true (null ∷ ts) more h is = refl
ended_before true (bad ∷ ts) more h is = refl

separator_lexed : (b : Bool) (rest : List ℕ) → lex between (cond b (44 ∷ []) [] ++ rest)
    ≡ cond b (comma ∷ []) [] ++ lex between rest
unfolding lex
separator_lexed true rest = refl
separator_lexed false rest = refl

abbrev lexemes : Bool → List Token → List Lexeme
lexemes later [] = []
lexemes later (t ∷ ts) = cond (later && begins t) (comma ∷ []) [] ++ (spelled t ++ lexemes (ends t) ts)

-- the text of tokens, before a text that has no lexeme and ends a word
printed_lexed : (later : Bool) (ts : List Token) (more : List ℕ) → ArePrintable ts → ends_word more ≡ true → lex between more ≡ []
    → lex between (print_from later ts ++ more) ≡ lexemes later ts
unfolding lex print_from ArePrintable
printed_lexed later [] more h ended none = none
printed_lexed later (t ∷ ts) more h ended none =
    let rest : List ℕ = print_from (ends t) ts ++ more in
    ap (lex between) (append_assoc (separator later t) (token_text t ++ print_from (ends t) ts) more
    ∙ ap (λ (text : List ℕ). separator later t ++ text) (append_assoc (token_text t) (print_from (ends t) ts) more))
    ∙ separator_lexed (later && begins t) (token_text t ++ rest)
    ∙ ap (λ (l : List Lexeme). cond (later && begins t) (comma ∷ []) [] ++ l)
    (token_lexed t rest h.0 (ended_before (ends t) ts more ended)
    ∙ ap (λ (l : List Lexeme). spelled t ++ l) (printed_lexed (ends t) ts more h.1 ended none))

pub tokens_before_line_feed : (ts : List Token) → ArePrintable ts → tokens (print ts ++ 10 ∷ []) ≡ tokens (print ts ++ [])
unfolding lex
tokens_before_line_feed ts h =
    ap (punctuate fresh) (printed_lexed false ts (10 ∷ []) h refl refl ∙ sym (printed_lexed false ts [] h refl refl))
