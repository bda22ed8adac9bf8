-- The tokens of a text, each with its place.
use Rattle.std.specs.Prelude.{◌≡◌, ℕ, ◌+◌, ◌≤◌, Bool, cond, ◌||◌, ◌⊎◌, List, [], ◌∷◌, map, length, ◌==◌, slice_index_or}
use Rattle.std.specs.List.{AllByRecursion}

-- space, tab, line feed and carriage return
abbrev pub is_separator : ℕ → Bool
is_separator b = b == 32 || (b == 9 || (b == 10 || b == 13))

-- a token without its place: a round bracket, or the bytes of a longest run of others
pub data Lexeme : Type 0 where
  opening closing : Lexeme
  atom : List ℕ → Lexeme

-- a token and its place, the offset of its first byte
pub data Placed : Type 0 where
  at : ℕ → Lexeme → Placed

abbrev pub place : Placed → ℕ
place (at i l) = i

abbrev pub lexeme : Placed → Lexeme
lexeme (at i l) = l

-- what a byte is to the tokens: it parts them, is one, or is in a run
pub data Class : Type 0 where
  parts opens closes runs : Class

abbrev pub class : ℕ → Class
class b = cond (is_separator b) parts (cond (b == 40) opens (cond (b == 41) closes runs))

-- a byte of a run, in front of the tokens that follow it: it goes into the run that begins right after it, if one does
abbrev pub with_run : (i b : ℕ) → Class → List Placed → List Placed
with_run i b parts ts = at i (atom (b ∷ [])) ∷ ts
with_run i b opens ts = at i (atom (b ∷ [])) ∷ ts
with_run i b closes ts = at i (atom (b ∷ [])) ∷ ts
with_run i b runs [] = at i (atom (b ∷ [])) ∷ []
with_run i b runs (at j opening ∷ ts) = at i (atom (b ∷ [])) ∷ at j opening ∷ ts
with_run i b runs (at j closing ∷ ts) = at i (atom (b ∷ [])) ∷ at j closing ∷ ts
with_run i b runs (at j (atom w) ∷ ts) = at i (atom (b ∷ w)) ∷ ts

-- the class of what follows; the end parts tokens too
abbrev pub next_class : List ℕ → Class
next_class [] = parts
next_class (b ∷ bs) = class b

abbrev pub with_byte : (i b : ℕ) → Class → Class → List Placed → List Placed
with_byte i b parts next ts = ts
with_byte i b opens next ts = at i opening ∷ ts
with_byte i b closes next ts = at i closing ∷ ts
with_byte i b runs next ts = with_run i b next ts

-- the tokens of bytes that stand from i on
abbrev pub tokens_from : ℕ → List ℕ → List Placed
tokens_from i [] = []
tokens_from i (b ∷ bs) = with_byte i b (class b) (next_class bs) (tokens_from (i + 1) bs)

abbrev pub tokens : List ℕ → List Placed
tokens text = tokens_from 0 text

abbrev pub lexemes : List ℕ → List Lexeme
lexemes text = map lexeme (tokens text)

-- the place of the k-th of some tokens, or the end of the text where there are no more
abbrev pub place_of : List Placed → (end k : ℕ) → ℕ
place_of ts end k = slice_index_or (map place ts) k end

-- a run of at least one byte, none of them a separator or a bracket
pub record Run (bs : List ℕ) : Type 0 where
  pub some : 1 ≤ length bs
  pub bytes : AllByRecursion (λ b. class b ≡ runs) bs

-- an integer: 0, or an optional minus and digits that begin with 1 to 9
abbrev pub Digits : List ℕ → Type 0
Digits bs = AllByRecursion (λ b. (48 ≤ b) × (b ≤ 57)) bs

abbrev pub Natural : List ℕ → Type 0
Natural [] = ⊥
Natural (b ∷ bs) = (49 ≤ b) × (b ≤ 57) × Digits bs

abbrev pub Negative : List ℕ → Type 0
Negative [] = ⊥
Negative (b ∷ bs) = (b ≡ 45) × Natural bs

abbrev pub Integer : List ℕ → Type 0
Integer bs = (bs ≡ 48 ∷ []) ⊎ (Natural bs ⊎ Negative bs)
