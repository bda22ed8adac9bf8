-- The machine over several tokens, each with its use.
use Rattle.std.proofs.Common.{◌≡◌, List, [], ◌∷◌, ◌++◌, Some, sym, refl, ap, ◌∙◌, subst, append-nil}
use Rattle.grammar.specs.declared.items.Item.{Item}
use Rattle.tokens.specs.Tokens.{Lexeme}
use Rattle.grammar.specs.Grammar.{Part, part_lexemes}
use Rattle.grammar.specs.Machine.{Read, step}

-- from a stack over the parts to a stack
pub data Run : List Item → List Part → List Item → Type 0 where
  stop : {s : List Item} → Run s [] s
  read : {s s₁ s₂ : List Item} {p : Part} {ps : List Part} → step s p.lexeme ≡ Some (p.purpose, s₁) → Run s₁ ps s₂ → Run s (p ∷ ps) s₂

-- one part more
pub read_on : {s s₁ : List Item} {ps : List Part} (p : Part) (s₂ : List Item) → Run s ps s₁ → step s₁ p.lexeme ≡ Some (p.purpose, s₂) → Run s (ps ++ (p ∷ [])) s₂
read_on p s₂ stop e = read e stop
read_on p s₂ (read f r) e = read f (read_on p s₂ r e)

-- the same parts, written otherwise
pub regroup : {s s₁ : List Item} {ps qs : List Part} → ps ≡ qs → Run s qs s₁ → Run s ps s₁
regroup {s} {s₁} e r = subst (λ x. Run s x s₁) (sym e) r

restack : {s s' s₁ : List Item} {ps : List Part} → s ≡ s' → Run s ps s₁ → Run s' ps s₁
restack {s₁ = s₁} {ps} e r = subst (λ x. Run x ps s₁) e r

same_part : (p q : Part) → p.purpose ≡ q.purpose → p.lexeme ≡ q.lexeme → p ≡ q
same_part p q e f = λ i. record { purpose = e i; lexeme = f i }

cons_part : (p q : Part) (ps qs : List Part) → p ≡ q → ps ≡ qs → p ∷ ps ≡ q ∷ qs
cons_part p q ps qs e f = λ i. e i ∷ f i

-- what is left of one way where another has come to its end, over the same tokens
pub record Left (s₁ : List Item) (ps qs : List Part) (s₂ : List Item) (rest : List Lexeme) : Type 0 where
  pub parts : List Part
  pub joined : qs ≡ ps ++ parts
  pub lexemes : part_lexemes parts ≡ rest
  pub ran : Run s₁ parts s₂

-- the way is determined by the tokens
pub follow : {s s₁ s₂ : List Item} {ps qs : List Part} → Run s ps s₁ → Run s qs s₂ → (rest : List Lexeme) → part_lexemes qs ≡ part_lexemes ps ++ rest → Left s₁ ps qs s₂ rest
follow stop r rest e = record { parts = _; joined = refl; lexemes = e; ran = r }
follow (read f r) stop rest e = cc
follow (read {s = s} {s₁ = s₁} {p = p} {ps = ps} f r) (read {s₁ = s₂} {p = q} {ps = qs} g r') rest e =
    let same_lexeme : q.lexeme ≡ p.lexeme = cc in
    let same_rest : part_lexemes qs ≡ part_lexemes ps ++ rest = cc in
    let pair : ◌≡◌ {A = Read} (q.purpose, s₂) (p.purpose, s₁) = cc in
    let left = follow r (restack (ap (λ x. x.1) pair) r') rest same_rest in
    record {
      parts = left.parts;
      joined = cons_part q p qs (ps ++ left.parts) (same_part q p (ap (λ x. x.0) pair) same_lexeme) left.joined;
      lexemes = left.lexemes;
      ran = left.ran;
    }

stopped : {s s₁ : List Item} {ps : List Part} → Run s ps s₁ → part_lexemes ps ≡ [] → (ps ≡ []) × (s ≡ s₁)
stopped stop e = (refl, refl)
stopped (read f run) e = cc

-- and so is where it ends
pub same_end : {s s₁ s₂ : List Item} {ps qs : List Part} → Run s ps s₁ → Run s qs s₂ → part_lexemes qs ≡ part_lexemes ps → (qs ≡ ps) × (s₁ ≡ s₂)
same_end {ps = ps} run run' e =
    let left = follow run run' [] (e ∙ sym (append-nil (part_lexemes ps))) in
    let end = stopped left.ran left.lexemes in
    (left.joined ∙ ap (λ x. ps ++ x) end.0 ∙ append-nil ps, end.1)
