-- Tokens and their uses, put together and taken apart.
use Rattle.std.proofs.Common.{◌≡◌, ℕ, true, List, [], ◌∷◌, ◌++◌, map, length, refl, ap, arith}
use Rattle.std.specs.List.{AllByRecursion}
use Rattle.grammar.specs.declared.words.Use.{Use}
use Rattle.grammar.specs.declared.words.Use.TheVariants.{Bracket, Head, Test, Number, Literal}
use Rattle.tokens.specs.declared.token.Token.{Token}
use Rattle.tokens.specs.declared.token.Token.TheVariants as token
use Rattle.tokens.specs.Tokens.{Lexeme}
use Rattle.tokens.specs.Reading.{lexeme, Classified}
use Rattle.grammar.specs.Grammar.{Part, part_lexemes, Spelled}
use Rattle.grammar.specs.declared.part.Part as code
use Rattle.grammar.specs.Parts.{told, parts_of}
use Rattle.grammar.specs.Forms.{with_uses}
use Rattle.grammar.specs.Stacks.{suits}

pub lexemes_of : (us : List Use) (ls : List Lexeme) → length us ≡ length ls → part_lexemes (with_uses us ls) ≡ ls
lexemes_of [] [] e = refl
lexemes_of [] (l ∷ ls) e = absurd (omega arith)
lexemes_of (u ∷ us) [] e = absurd (omega arith)
lexemes_of (u ∷ us) (l ∷ ls) e = ap (λ x. l ∷ x) (lexemes_of us ls (omega arith))

pub purposes_of : (us : List Use) (ls : List Lexeme) → length us ≡ length ls → map (λ p. p.purpose) (with_uses us ls) ≡ us
purposes_of [] ls e = refl
purposes_of (u ∷ us) [] e = absurd (omega arith)
purposes_of (u ∷ us) (l ∷ ls) e = ap (λ x. u ∷ x) (purposes_of us ls (omega arith))

-- a part is spelled as its use asks
abbrev pub Fit : Part → Type 0
Fit p = Spelled p.purpose p.lexeme

pub all_last : {A : Type 0} (P : A → Type 0) (xs ys : List A) → AllByRecursion P (xs ++ ys) → AllByRecursion P ys
all_last P [] ys h = h
all_last P (x ∷ xs) ys h = all_last P xs ys h.1

-- a token suits a use just where it is spelled as the use asks
word_suits : (u : Use) (i : ℕ) (text : _) → Classified (token.Word i text) → Spelled u (lexeme (token.Word i text)) → suits u (token.Word i text) ≡ true
word_suits (Bracket u) i text c h = refl
word_suits (Head k) i text c h = refl
word_suits (Test t) i text c h = refl
word_suits (Number u) i text c h = absurd (c.1 h)
word_suits (Literal u) i text c h = refl

pub spelled_suits : (u : Use) (t : Token) → Classified t → Spelled u (lexeme t) → suits u t ≡ true
spelled_suits u (token.Open i) c h = refl
spelled_suits u (token.Close i) c h = refl
spelled_suits u (token.Integer i text) c h = refl
spelled_suits u (token.Word i text) c h = word_suits u i text c h

integer_spelled : (u : Use) (i : ℕ) (text : _) → Classified (token.Integer i text) → Spelled u (lexeme (token.Integer i text))
integer_spelled (Bracket u) i text c = tt
integer_spelled (Head k) i text c = tt
integer_spelled (Test t) i text c = tt
integer_spelled (Number u) i text c = c.1
integer_spelled (Literal u) i text c = c.0

word_spelled : (u : Use) (i : ℕ) (text : _) → Classified (token.Word i text) → suits u (token.Word i text) ≡ true → Spelled u (lexeme (token.Word i text))
word_spelled (Bracket u) i text c h = tt
word_spelled (Head k) i text c h = tt
word_spelled (Test t) i text c h = tt
word_spelled (Number u) i text c h = cc
word_spelled (Literal u) i text c h = c.0

pub suits_spelled : (u : Use) (t : Token) → Classified t → suits u t ≡ true → Spelled u (lexeme t)
suits_spelled u (token.Open i) c h = tt
suits_spelled u (token.Close i) c h = tt
suits_spelled u (token.Integer i text) c h = integer_spelled u i text c
suits_spelled u (token.Word i text) c h = word_spelled u i text c h

pub put_together : (ps : List Part) → with_uses (map (λ p. p.purpose) ps) (part_lexemes ps) ≡ ps
put_together [] = refl
put_together (p ∷ ps) = ap (λ x. p ∷ x) (put_together ps)

-- the same of the parts of the code
pub told_lexemes : (ps : List code.Part) → part_lexemes (parts_of ps) ≡ map lexeme (map (λ p. p.token) ps)
told_lexemes [] = refl
told_lexemes (p ∷ ps) = ap (λ x. lexeme p.token ∷ x) (told_lexemes ps)

pub told_together : (ps : List code.Part) → with_uses (map (λ p. p.purpose) ps) (map lexeme (map (λ p. p.token) ps)) ≡ parts_of ps
told_together [] = refl
told_together (p ∷ ps) = ap (λ x. told p ∷ x) (told_together ps)
