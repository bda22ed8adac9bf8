-- One turn of parsing a text.
use Rattle.std.proofs.Common.{◌≡◌, ℕ, ◌+◌, ◌-◌, ◌<◌, ◌≤◌, Bool, true, false, List, [], ◌∷◌, ◌++◌, map, reverse, length, get_or, take, Some, None, Option, refl, sym, ap, ◌∙◌, subst, subst₂, append_assoc, arith}
use Rattle.std.specs.List.{AllByRecursion}
use Rattle.std.proofs.ByRecursion.{All-push}
use Rattle.std.proofs.lemmas.List.{map-append, take_all, length-map, length-append, take-append-le}
use Rattle.std.proofs.Math.Seq.{take-append_seam}
use Rattle.grammar.specs.declared.items.Item.{Item}
use Rattle.grammar.specs.declared.items.Item.TheVariants.{Top}
use Rattle.grammar.specs.declared.words.Use.{Use}
use Rattle.grammar.specs.declared.part.Part as code
use Rattle.grammar.specs.Grammar.{Viable}
use Rattle.grammar.specs.Forms.{MisfitAt, Misfit, Uses}
use Rattle.grammar.specs.Parts.{told, parts_of}
use Rattle.grammar.specs.Stacks.{Stepped, ended}
use Rattle.tokens.specs.declared.token.Token.{Token}
use Rattle.tokens.specs.Tokens.{Lexeme, Placed, place, place_of, tokens, tokens_from, lexemes}
use Rattle.tokens.specs.Tokens.{lexeme as bare}
use Rattle.tokens.specs.Reading.{placed, lexeme, Classified}
use Rattle.tokens.specs.Tokenised.{Tokenised}
use Rattle.tokens.specs.Steps.{ahead, Scanned}
use Rattle.tokens.proofs.Steps.{Sofar, found, all_found}
use Rattle.grammar.proofs.Runs.{Run, stop, read_on, regroup}
use Rattle.grammar.proofs.Parts.{Fit, suits_spelled}
use Rattle.grammar.proofs.Verdicts.{SoFar, stops, accepted, unfinished}

abbrev the_tokens : List code.Part → List Token
the_tokens ps = map (λ p. p.token) ps

-- the place of the token after some, and past them all
place_next : (ks : List Token) (k : Token) (more : List Placed) (end : ℕ) → place (placed k) ≡ place_of (map placed ks ++ (placed k ∷ more)) end (length ks)
place_next [] k more end = refl
place_next (x ∷ ks) k more end = place_next ks k more end

place_past : (ks : List Token) (end : ℕ) → end ≡ place_of (map placed ks) end (length ks)
place_past [] end = refl
place_past (x ∷ ks) end = place_past ks end

next_is : (ks : List Token) (k d : Token) → get_or (ks ++ (k ∷ [])) (length ks) d ≡ k
next_is [] k d = refl
next_is (x ∷ ks) k d = next_is ks k d

-- what does not go on with the last of some tokens does not, whatever comes after
misfit_more : (ls more : List Lexeme) (k : ℕ) → k + 1 ≡ length ls → MisfitAt ls k → MisfitAt (ls ++ more) k
misfit_more ls more k last m = record {
  within = omega (arith, length-append ls more);
  before = subst Viable (sym (take-append-le k ls more (omega arith))) m.before;
  here = λ lt v. m.here (omega arith) (subst Viable (take-append-le (k + 1) ls more (omega arith)) v);
  missing = λ e x. absurd (omega (arith, length-append ls more));
}

map_lexeme : (ks : List Token) → map lexeme ks ≡ map bare (map placed ks)
map_lexeme [] = refl
map_lexeme (k ∷ ks) = ap (λ l. lexeme k ∷ l) (map_lexeme ks)

-- the tokens of a text are its lexemes
pub tokens_lexemes : (text : List ℕ) (ks : List Token) → Tokenised text ks → map lexeme ks ≡ lexemes text
tokens_lexemes text ks t = map_lexeme ks ∙ ap (map bare) t.tokens_are

-- the tokens before what is left of the text have been read, as these parts, and the stack has its top last
pub record Parsing (text before rest : List ℕ) (ps : List code.Part) (s : List Item) : Type 0 where
  pub scanned : Sofar text before rest (the_tokens ps)
  pub ran : Run (Top ∷ []) (parts_of ps) (reverse s)
  pub fit : AllByRecursion Fit (parts_of ps)

pub starts : (text before rest : List ℕ) (ps : List code.Part) (s₀ s : List Item) → ps ≡ [] → s₀ ≡ [] → s ≡ s₀ ++ (Top ∷ []) → before ≡ text → rest ≡ text → Parsing text before rest ps s
starts text before rest ps s₀ s e f g same all =
    let zero : length text - length text ≡ 0 = omega arith in
    let split : ahead text rest ≡ tokens text = ap (ahead text) all ∙ ap (λ i. tokens_from i text) zero in
    subst₂ (Parsing text before rest) (sym e) (sym (g ∙ ap (λ x. x ++ (Top ∷ [])) f)) (record {
      scanned = record { same = same; within = omega (arith, ap length all); split = split; classified = tt };
      ran = stop;
      fit = tt;
    })

module _ (text before rest : List ℕ) (ps : List code.Part) (s : List Item) (p : Parsing text before rest ps s) where
  -- so have they been read of these tokens and one more
  with_next : (t : Token) → SoFar (the_tokens ps ++ (t ∷ [])) (length (the_tokens ps)) ps s
  with_next t = record {
    tokens_are = sym (take-append_seam (the_tokens ps) (t ∷ []));
    ran = p.ran;
    fit = λ _. p.fit;
  }

  of_all : SoFar (the_tokens ps) (length (the_tokens ps)) ps s
  of_all = record { tokens_are = sym (take_all (length (the_tokens ps)) (the_tokens ps) (omega arith)); ran = p.ran; fit = λ _. p.fit }

  -- a token that is read is a part more
  pub parsed : (after : List ℕ) (t : Token) (o : Option Use) (u : Use) (ps₁ : List code.Part) (s₁ : List Item) → Scanned before rest after (Some t) → length after ≤ length text → Stepped s t o s₁ → o ≡ Some u → ps₁ ≡ ps ++ (record { purpose = u; token = t } ∷ []) → Parsing text before after ps₁ s₁
  parsed after t o u ps₁ s₁ step within w e push =
      let q : code.Part = record { purpose = u; token = t } in
      let w₁ : Stepped s t (Some u) s₁ = subst (λ x. Stepped s t x s₁) e w in
      let parts : parts_of (ps ++ (q ∷ [])) ≡ parts_of ps ++ (told q ∷ []) = map-append told ps (q ∷ []) in
      subst (λ x. Parsing text before after x s₁) (sym push) (record {
        scanned = subst (Sofar text before after) (sym (map-append (λ p. p.token) ps (q ∷ []))) (found text before rest after (the_tokens ps) t step p.scanned within);
        ran = regroup parts (read_on (told q) (reverse s₁) p.ran w₁.0);
        fit = subst (AllByRecursion Fit) (sym parts) (All-push Fit _ (told q) p.fit (suits_spelled u t step.1 w₁.1));
      })

  -- no script goes on with a token that is not read
  pub stopped : (after : List ℕ) (t : Token) (o : Option Use) (s₁ : List Item) → Scanned before rest after (Some t) → Stepped s t o s₁ → o ≡ None → Misfit text (place (placed t))
  stopped after t o s₁ step w e =
      let ks = the_tokens ps in
      let k = length ks in
      let read = ks ++ (t ∷ []) in
      let w₁ : Stepped s (get_or read k t) o s₁ = subst (λ x. Stepped s x o s₁) (sym (next_is ks t t)) w in
      let m = stops read k ps s (with_next t) t o s₁ (omega (arith, length-append ks (t ∷ []))) w₁ e (All-push Classified ks t p.scanned.classified step.1) in
      let first : ahead text rest ≡ placed t ∷ ahead text after = subst (λ x. ahead x rest ≡ placed t ∷ ahead x after) p.scanned.same step.0 in
      let all : tokens text ≡ map placed ks ++ (placed t ∷ ahead text after) = sym p.scanned.split ∙ ap (λ x. map placed ks ++ x) first in
      let front : map placed read ++ ahead text after ≡ tokens text = ap (λ x. x ++ ahead text after) (map-append placed ks (t ∷ [])) ∙ append_assoc (map placed ks) (placed t ∷ []) (ahead text after) ∙ sym all in
      let here : map lexeme read ++ map bare (ahead text after) ≡ lexemes text = ap (λ x. x ++ map bare (ahead text after)) (map_lexeme read) ∙ sym (map-append bare (map placed read) (ahead text after)) ∙ ap (map bare) front in
      let P : List Lexeme → Type 0 = λ ls. MisfitAt ls k in (
        k,
        subst P here (misfit_more (map lexeme read) (map bare (ahead text after)) k (omega (arith, length-map read lexeme, length-append ks (t ∷ []))) m),
        place_next ks t (ahead text after) (length text) ∙ ap (λ x. place_of x (length text) k) (sym all),
      )

  pub whole : (after : List ℕ) (b : Bool) (s₁ : List Item) → Scanned before rest after None → b ≡ ended s₁ → s₁ ≡ s → b ≡ true → Tokenised text (the_tokens ps) × Uses (lexemes text) (map (λ p. p.purpose) ps)
  whole after b s₁ step e f g =
      let all = all_found text before rest after (the_tokens ps) step p.scanned in
      let parts = accepted (the_tokens ps) (length (the_tokens ps)) ps s of_all b s₁ (omega arith) e f g all.classified in
      let P : List Lexeme → Type 0 = λ ls. Uses ls (map (λ p. p.purpose) ps) in
      (all, subst P (tokens_lexemes text (the_tokens ps) all) parts.uses)

  pub wanting : (after : List ℕ) (b : Bool) (s₁ : List Item) → Scanned before rest after None → b ≡ ended s₁ → s₁ ≡ s → b ≡ false → Misfit text (length text)
  wanting after b s₁ step e f g =
      let all = all_found text before rest after (the_tokens ps) step p.scanned in
      let misfit = unfinished (the_tokens ps) (length (the_tokens ps)) ps s of_all b s₁ (omega arith) (omega arith) e f g all.classified in
      let k = length (the_tokens ps) in
      let P : List Lexeme → Type 0 = λ ls. MisfitAt ls k in (
        k,
        subst P (tokens_lexemes text (the_tokens ps) all) misfit,
        place_past (the_tokens ps) (length text) ∙ ap (λ x. place_of x (length text) k) all.tokens_are,
      )
