-- Where tokens stop being those of a script, and what each token of a script is there for.
use Rattle.std.specs.Prelude.{◌≡◌, ℕ, ◌+◌, ◌<◌, ◌≤◌, List, [], ◌∷◌, length, take}
use Rattle.grammar.specs.declared.words.Use.{Use}
use Rattle.tokens.specs.Tokens.{Lexeme, lexemes, tokens, place_of}
use Rattle.grammar.specs.Grammar.{Part, part, Raw, raw_parts, WellSpelled, IsScript, Viable, Script, script, Spelling}

-- the first k tokens begin a script, and no script goes on with the next; or they are all, and no script
pub record MisfitAt (ls : List Lexeme) (k : ℕ) : Type 0 where
  pub within : k ≤ length ls
  pub before : Viable (take k ls)
  pub here : k < length ls → Viable (take (k + 1) ls) → ⊥
  pub missing : k ≡ length ls → IsScript ls → ⊥

-- the place of that token, or the length where tokens are missing
abbrev pub Misfit : List ℕ → ℕ → Type 0
Misfit text i = (k : ℕ) × MisfitAt (lexemes text) k × (i ≡ place_of (tokens text) (length text) k)

abbrev pub with_uses : List Use → List Lexeme → List Part
with_uses [] ls = []
with_uses (u ∷ us) [] = []
with_uses (u ∷ us) (l ∷ ls) = part u l ∷ with_uses us ls

-- the uses of the tokens in the script that they are
pub record Uses (ls : List Lexeme) (us : List Use) : Type 0 where
  pub raw : Raw
  pub spelled_well : WellSpelled raw
  pub long : length us ≡ length ls
  pub written : raw_parts raw ≡ with_uses us ls

-- Laws.

-- the uses are determined by the tokens
abbrev pub UsedOnce : Type 0
UsedOnce = (ls : List Lexeme) (us vs : List Use) → Uses ls us → Uses ls vs → us ≡ vs

-- spellings that tell what they spell
pub record Injective {N K L : Type 0} (s : Spelling N K L) : Type 0 where
  pub number : (a b : N) → s.number a ≡ s.number b → a ≡ b
  pub addend : (a b : K) → s.addend a ≡ s.addend b → a ≡ b
  pub literal : (a b : L) → s.literal a ≡ s.literal b → a ≡ b

-- and the script by its parts
abbrev pub WrittenOnce : {N K L : Type 0} → Spelling N K L → Type 0
WrittenOnce {N} {K} {L} s = (x y : Script N K L) → script s x ≡ script s y → x ≡ y
