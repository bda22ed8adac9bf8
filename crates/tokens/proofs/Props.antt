-- What the tokens of a text are holds in one way at most, so that a ghost field can keep it.
use Rattle.std.proofs.Common.{◌≡◌, List, [], ◌∷◌, ℕ, ◌⊎◌, inl, inr, ap, subst, arith}
use Rattle.std.proofs.Props.{props}
use Rattle.tokens.specs.declared.token.Token as declared
use Rattle.tokens.specs.declared.token.Token.TheVariants.{Open, Close, Integer, Word}
use Rattle.tokens.specs.Tokens as t
use Rattle.tokens.specs.Tokens.{Natural, Negative, Run}
use Rattle.tokens.specs.Reading.{Classified}
use Rattle.tokens.specs.Tokenised.{Tokenised}

-- a sum of two facts that do not hold together
either-prop : {A B : Type 0} → IsProp A → IsProp B → (A → B → ⊥) → IsProp (A ⊎ B)
either-prop p q apart (inl a) (inl b) = ap inl (p a b)
either-prop p q apart (inl a) (inr b) = absurd (apart a b)
either-prop p q apart (inr a) (inl b) = absurd (apart b a)
either-prop p q apart (inr a) (inr b) = ap inr (q a b)

Natural-prop : (bs : List ℕ) → IsProp (Natural bs)
Natural-prop [] = hlevel
Natural-prop (b ∷ bs) = hlevel props

Negative-prop : (bs : List ℕ) → IsProp (Negative bs)
Negative-prop [] = hlevel
Negative-prop (b ∷ bs) = hlevel (props, Natural-prop)

signed_once : (bs : List ℕ) → Natural bs → Negative bs → ⊥
signed_once [] n m = n
signed_once (b ∷ bs) n m = omega (arith, n.0, m.0)

not_zero : (bs : List ℕ) → bs ≡ 48 ∷ [] → Natural bs ⊎ Negative bs → ⊥
not_zero bs e (inl n) = let m = subst Natural e n in omega (arith, m.0)
not_zero bs e (inr n) = let m = subst Negative e n in omega (arith, m.0)

pub Integer-prop : (bs : List ℕ) → IsProp (t.Integer bs)
Integer-prop bs = either-prop (hlevel props) (either-prop (Natural-prop bs) (Negative-prop bs) (signed_once bs)) (not_zero bs)

pub Run-prop : (bs : List ℕ) → IsProp (Run bs)
Run-prop bs = hlevel props

pub Classified-prop : (k : declared.Token) → IsProp (Classified k)
Classified-prop (Open i) = hlevel
Classified-prop (Close i) = hlevel
Classified-prop (Integer i text) = hlevel (Run-prop, Integer-prop)
Classified-prop (Word i text) = hlevel (Run-prop)

pub Tokenised-prop : (text : List ℕ) (ks : List declared.Token) → IsProp (Tokenised text ks)
Tokenised-prop text ks = hlevel (props, Classified-prop)
