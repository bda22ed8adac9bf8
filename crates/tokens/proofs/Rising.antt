-- The places of a text's tokens rise, and lie before its end.
use Rattle.std.proofs.Common.{◌≡◌, ℕ, zero, suc, ◌+◌, ◌≤◌, List, [], ◌∷◌, length, zero-add, arith}
use Rattle.tokens.specs.Tokens.{Placed, at, place, opening, closing, atom, Class, parts, opens, closes, runs, class, next_class, with_run, with_byte, tokens_from, tokens, place_of}

-- places from lo on that rise and lie before hi
abbrev pub Rises : ℕ → List Placed → ℕ → Type 0
Rises lo [] hi = lo ≤ hi
Rises lo (t ∷ ts) hi = (lo ≤ place t) × Rises (place t + 1) ts hi

earlier : (lo more : ℕ) (ts : List Placed) (hi : ℕ) → lo ≤ more → Rises more ts hi → Rises lo ts hi
earlier lo more [] hi le h = omega arith
earlier lo more (t ∷ ts) hi le h = (omega (arith, h.0), h.1)

run_rises : (i b : ℕ) (next : Class) (ts : List Placed) (hi : ℕ) → Rises (i + 1) ts hi → Rises i (with_run i b next ts) hi
run_rises i b parts ts hi h = (omega arith, h)
run_rises i b opens ts hi h = (omega arith, h)
run_rises i b closes ts hi h = (omega arith, h)
run_rises i b runs [] hi h = (omega arith, h)
run_rises i b runs (at j opening ∷ ts) hi h = (omega arith, h)
run_rises i b runs (at j closing ∷ ts) hi h = (omega arith, h)
run_rises i b runs (at j (atom w) ∷ ts) hi h = (omega arith, earlier (i + 1) (j + 1) ts hi (omega (arith, h.0)) h.1)

byte_rises : (i b : ℕ) (here next : Class) (ts : List Placed) (hi : ℕ) → Rises (i + 1) ts hi → Rises i (with_byte i b here next ts) hi
byte_rises i b parts next ts hi h = earlier i (i + 1) ts hi (omega arith) h
byte_rises i b opens next ts hi h = (omega arith, h)
byte_rises i b closes next ts hi h = (omega arith, h)
byte_rises i b runs next ts hi h = run_rises i b next ts hi h

from_rises : (i : ℕ) (bs : List ℕ) → Rises i (tokens_from i bs) (i + length bs)
from_rises i [] = omega arith
from_rises i (b ∷ bs) =
    let e : (i + 1) + length bs ≡ i + length (b ∷ bs) = omega arith in
    rw e at (byte_rises i b (class b) (next_class bs) (tokens_from (i + 1) bs) ((i + 1) + length bs) (from_rises (i + 1) bs))

low : (lo : ℕ) (ts : List Placed) (hi k : ℕ) → Rises lo ts hi → lo ≤ place_of ts hi k
low lo [] hi k h = h
low lo (t ∷ ts) hi zero h = h.0
low lo (t ∷ ts) hi (suc k) h = omega (arith, h.0, low (place t + 1) ts hi k h.1)

ordered : (lo : ℕ) (ts : List Placed) (hi j k : ℕ) → Rises lo ts hi → j ≤ k → place_of ts hi j ≤ place_of ts hi k
ordered lo [] hi j k h le = omega arith
ordered lo (t ∷ ts) hi zero k h le = low (place t) (t ∷ ts) hi k (omega arith, h.1)
ordered lo (t ∷ ts) hi (suc j) zero h le = absurd (omega arith)
ordered lo (t ∷ ts) hi (suc j) (suc k) h le = ordered (place t + 1) ts hi j k h.1 (omega arith)

-- a later token has no earlier place
pub places_ordered : (text : List ℕ) (j k : ℕ) → j ≤ k → place_of (tokens text) (length text) j ≤ place_of (tokens text) (length text) k
places_ordered text j k le = ordered 0 (tokens text) (length text) j k (rw zero-add at (from_rises 0 text)) le
