-- Messages in a ring of cells: one more at the end, one less at the front, and the oldest.
use Rattle.std.proofs.Common.{◌≡◌, ℕ, zero, suc, ◌+◌, ◌-◌, ◌%◌, ◌<◌, ◌≤◌, ◌≢◌, List, [], ◌∷◌, ◌++◌, length, get_or, Some, slice_index_or, slice_set, refl, ◌∙◌, ap, arith}
use Rattle.std.proofs.lemmas.List.{map-append, get_or-set_same, get_or-set_other}
use Rattle.std.proofs.lemmas.List.FromFn.{map-range_with_len_more}
use Rattle.rules.specs.Limits.{most_held}
use Rattle.rules.specs.Kinds.{oldest, younger}
use Rattle.kinds.specs.Rings.{ring}
use Rattle.kinds.specs.Stores.{messages}

-- a ring goes by where its first cell is, counted round
ring_round : (a b n : ℕ) → a % most_held ≡ b % most_held → ring a n ≡ ring b n
ring_round a b zero e = refl
ring_round a b (suc n) e =
    let next : (a + 1) % most_held ≡ (b + 1) % most_held = omega arith in
    let rest = ring_round (a + 1) (b + 1) n next in cc

pub ring_pop : (f n : ℕ) → 0 < n → ring ((f + 1) % most_held) (n - 1) ≡ younger (ring f n)
ring_pop f zero h = absurd (omega arith)
ring_pop f (suc n) h =
    let less : suc n - 1 ≡ n = omega arith in
    rw less (ring_round ((f + 1) % most_held) (f + 1) n (omega arith))

module _ {M : Type 0} (d : M) (cells : List M) where
  -- a write outside the ring leaves its messages
  messages_apart : (k f n : ℕ) (m : M) → ((j : ℕ) → f ≤ j → j < f + n → j % most_held ≢ k)
      → messages d (slice_set cells k m) (ring f n) ≡ messages d cells (ring f n)
  messages_apart k f zero m far = refl
  messages_apart k f (suc n) m far =
      let here = get_or-set_other cells k (f % most_held) m d (far f (omega arith) (omega arith)) in
      let rest = messages_apart k (f + 1) n m (λ j a b. far j (omega arith) (omega arith)) in cc

  pub messages_push : (f n : ℕ) (m : M) → n < most_held → length cells ≡ most_held
      → messages d (slice_set cells ((f + n) % most_held) m) (ring f (n + 1)) ≡ messages d cells (ring f n) ++ (m ∷ [])
  messages_push f n m h long =
      let more = map-range_with_len_more (λ j. j % most_held) f n (f + n) refl in
      let apart = map-append (λ k. get_or (slice_set cells ((f + n) % most_held) m) k d) (ring f n) (((f + n) % most_held) ∷ []) in
      let old = messages_apart ((f + n) % most_held) f n m (λ j a b e. omega arith) in
      let new = get_or-set_same cells ((f + n) % most_held) m d (omega arith) in
      ap (messages d (slice_set cells ((f + n) % most_held) m)) more ∙ (apart ∙ cc)

  pub messages_oldest : (f n : ℕ) → f < most_held → 0 < n → oldest (messages d cells (ring f n)) ≡ Some (slice_index_or cells f d)
  messages_oldest f zero l h = absurd (omega arith)
  messages_oldest f (suc n) l h = let round : f % most_held ≡ f = omega arith in ap (λ k. Some (slice_index_or cells k d)) round
