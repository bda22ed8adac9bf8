-- What has been counted, and a walk over each two tokens that follow each other.
use Rattle.std.proofs.Common.{◌≡◌, ℕ, zero, suc, ◌+◌, ◌^◌, ◌<◌, ◌≤◌, Bool, false, List, [], ◌∷◌, ◌++◌, length, map, get_or, take, drop, Some, None, IsTrue, ◌↔◌, Option, sym, refl, ap, ◌∙◌, subst, ap₂, arith, length-drop, Bor}
use Rattle.std.specs.declared.iter.Enumerate.{Enumerate}
use Rattle.std.specs.declared.slice.Windows.{Windows}
use Rattle.std.specs.Slice.Iter.{windows_rest, windows_size, windows_steps}
use Rattle.std.specs.Iterator.Adapters.{enumerate_source, enumerate_count, enumerate_steps}
use Rattle.std.proofs.lemmas.List.{get_or-drop, get_or-take, get_or_past, drop-drop, take_more, length-map, length-take}
use Rattle.std.proofs.lemmas.Bool.{both_ways}
use Rattle.tokens.specs.Places.{Smallest}
use Rattle.tokens.specs.Tokens.{Lexeme}
use Rattle.tokens.specs.Reading.{lexeme}
use Rattle.grammar.specs.declared.words.Use.{Use}
use Rattle.grammar.specs.declared.words.Use.TheVariants.{Bracket, Head, Test, Number, Literal}
use Rattle.grammar.specs.declared.words.BracketUse.TheVariants.{Close}
use Rattle.grammar.specs.declared.part.Part as code
use Rattle.grammar.specs.Forms.{with_uses}
use Rattle.grammar.specs.Grammar.{Part}
use Rattle.grammar.specs.Parts.{told, parts_of}
use Rattle.grammar.proofs.Parts.{told_together}
use Rattle.passes.specs.Parts.{nth}
use Rattle.passes.specs.Limits.{Counted, leaf, nack, other_event, instr, body, other, Tally, nothing_yet, with_counted, with_use, tally, Full, FullFor, IsOverLimit}
use Rattle.passes.specs.declared.limits.Tally as counts
use Rattle.passes.specs.Tallies.{tallied, counted_use, Room, FirstOver}
use Rattle.passes.proofs.Firsts.{Passed, passed_more, no_part, nth_told}

-- what a part's use counts as
full_use : (t : Tally) (u : Use) → FullFor t u ≡ Full t (counted_use u)
full_use t (Head k) = refl
full_use t (Bracket u) = refl
full_use t (Test s) = refl
full_use t (Number u) = refl
full_use t (Literal u) = refl

use_counted : (t : Tally) (u : Use) → with_use t u ≡ with_counted t (counted_use u)
use_counted t (Head k) = refl
use_counted t (Bracket u) = refl
use_counted t (Test s) = refl
use_counted t (Number u) = refl
use_counted t (Literal u) = refl

-- The same by the uses alone, whatever the tokens are.

abbrev pub tally_uses : Tally → List Use → Tally
tally_uses t [] = t
tally_uses t (u ∷ us) = tally_uses (with_use t u) us

abbrev pub use_at : List Use → ℕ → Use
use_at us k = get_or us k (Bracket Close)

-- a token over its limit, by the uses
abbrev pub Over : List Use → ℕ → Type 0
Over us k = Full (tally_uses nothing_yet (take k us)) (counted_use (use_at us (k + 1)))

-- a keyword past the end is not counted
pub over_past : (us : List Use) (k : ℕ) → length us ≤ k + 1 → Over us k → ⊥
over_past us k h o = subst (λ u. Full (tally_uses nothing_yet (take k us)) (counted_use u)) (get_or_past us (k + 1) (Bracket Close) h) o

tally_parts : (t : Tally) (k : ℕ) (us : List Use) (ls : List Lexeme) → length us ≤ length ls → tally t (take k (with_uses us ls)) ≡ tally_uses t (take k us)
tally_parts t zero us ls h = refl
tally_parts t (suc k) [] ls h = refl
tally_parts t (suc k) (u ∷ us) [] h = absurd (omega arith)
tally_parts t (suc k) (u ∷ us) (l ∷ ls) h = tally_parts (with_use t u) k us ls (omega arith)

purpose_at : (k : ℕ) (us : List Use) (ls : List Lexeme) → length us ≤ length ls → (nth (with_uses us ls) k).purpose ≡ use_at us k
purpose_at k [] ls h = refl
purpose_at k (u ∷ us) [] h = absurd (omega arith)
purpose_at zero (u ∷ us) (l ∷ ls) h = refl
purpose_at (suc k) (u ∷ us) (l ∷ ls) h = purpose_at k us ls (omega arith)

over_is : (us : List Use) (ls : List Lexeme) → length us ≤ length ls → (k : ℕ) → IsOverLimit (with_uses us ls) k ≡ Over us k
over_is us ls h k = ap₂ FullFor (tally_parts nothing_yet k us ls h) (purpose_at (k + 1) us ls h) ∙ full_use (tally_uses nothing_yet (take k us)) (use_at us (k + 1))

first_as : (P Q : ℕ → Type 0) (r : Option ℕ) → ((k : ℕ) → P k ≡ Q k) → Smallest P r → Smallest Q r
first_as P Q (Some i) e h = (subst (λ T. T) (e i) h.0, λ j q. h.1 j (subst (λ T. T) (sym (e j)) q))
first_as P Q None e h = λ i q. h i (subst (λ T. T) (sym (e i)) q)

-- the uses say which is the first
pub first_over : (us : List Use) (r : Option ℕ) → Smallest (Over us) r → FirstOver us r
first_over us r h ls long = first_as (Over us) (IsOverLimit (with_uses us ls)) r (λ k. sym (over_is us ls long k)) h

abbrev pub purposes : List code.Part → List Use
purposes ps = map (λ p. p.purpose) ps

over_parts : (ps : List code.Part) (k : ℕ) → IsOverLimit (parts_of ps) k ≡ Over (purposes ps) k
over_parts ps k =
    ap (λ x. IsOverLimit x k) (sym (told_together ps)) ∙ over_is (purposes ps) (map lexeme (map (λ p. p.token) ps)) (simp length-map (omega arith)) k

pub over_any : (ps : List code.Part) (r : Option ℕ) → Smallest (IsOverLimit (parts_of ps)) r → FirstOver (purposes ps) r
over_any ps r h = first_over (purposes ps) r (first_as (IsOverLimit (parts_of ps)) (Over (purposes ps)) r (over_parts ps) h)

tally_push : (t : Tally) (ps : List Part) (p : Part) → tally t (ps ++ (p ∷ [])) ≡ with_counted (tally t ps) (counted_use p.purpose)
tally_push t [] p = use_counted t p.purpose
tally_push t (q ∷ ps) p = tally_push (with_use t q.purpose) ps p

-- no count passes the number of tokens
pub record Within (n : ℕ) (t : Tally) : Type 0 where
  pub events : t.events ≤ n
  pub leaves : t.leaves ≤ n
  pub nacks : t.nacks ≤ n
  pub instrs : t.instrs ≤ n

one_within : (n : ℕ) (t : Tally) (k : Counted) → Within n t → Within (n + 1) (with_counted t k)
one_within n t leaf w = record { events = omega arith; leaves = omega arith; nacks = omega arith; instrs = omega arith }
one_within n t nack w = record { events = omega arith; leaves = omega arith; nacks = omega arith; instrs = omega arith }
one_within n t other_event w = record { events = omega arith; leaves = omega arith; nacks = omega arith; instrs = omega arith }
one_within n t instr w = record { events = omega arith; leaves = omega arith; nacks = omega arith; instrs = omega arith }
one_within n t body w = record { events = omega arith; leaves = omega arith; nacks = omega arith; instrs = omega arith }
one_within n t other w = record { events = omega arith; leaves = omega arith; nacks = omega arith; instrs = omega arith }

tally_within : (n : ℕ) (t : Tally) (ps : List Part) → Within n t → Within (n + length ps) (tally t ps)
tally_within n t [] w = subst (λ m. Within m t) (omega arith) w
tally_within n t (p ∷ ps) w =
    let ih = tally_within (n + 1) (with_use t p.purpose) ps (subst (Within (n + 1)) (sym (use_counted t p.purpose)) (one_within n t (counted_use p.purpose) w)) in
    subst (λ m. Within m (tally (with_use t p.purpose) ps)) (omega arith) ih

-- what has been counted of the first n parts
abbrev pub Counts : List Part → ℕ → counts.Tally → Type 0
Counts ps n t = tallied t ≡ tally nothing_yet (take n ps)

pub room : (ps : List Part) (n : ℕ) (t : counts.Tally) → Counts ps n t → n + 1 < 2 ^ 64 → Room t
room ps n t e fits =
    let w = tally_within 0 nothing_yet (take n ps) (record { events = omega arith; leaves = omega arith; nacks = omega arith; instrs = omega arith }) in
    let long : length (take n ps) ≤ n = simp length-take (omega arith) in
    (omega (arith, w.events, ap (λ x. x.events) e), omega (arith, w.leaves, ap (λ x. x.leaves) e), omega (arith, w.nacks, ap (λ x. x.nacks) e), omega (arith, w.instrs, ap (λ x. x.instrs) e))

abbrev pub Pairs : Type 0
Pairs = Enumerate (Windows code.Part)

abbrev pub pairs : Pairs → Option (ℕ × Bor (List code.Part)) → Pairs → Type 0
pairs = enumerate_steps windows_steps

-- what is to come are the parts from the walk's count on, two at a time
abbrev pub Ahead : List code.Part → Pairs → Type 0
Ahead qs s = (windows_rest (enumerate_source s) ≡ drop (enumerate_count s) qs) × (windows_size (enumerate_source s) ≡ 2)

-- one turn, from s to t: its number and its two parts
pub record Turn (qs : List code.Part) (s : Pairs) (i : ℕ) (pair : List code.Part) (t : Pairs) : Type 0 where
  pub number : i ≡ enumerate_count s
  pub within : i + 1 < length qs
  pub fits : i + 1 < 2 ^ 64
  pub first : (d : code.Part) → told (get_or pair 0 d) ≡ nth (parts_of qs) i
  pub second : (d : code.Part) → told (get_or pair 1 d) ≡ nth (parts_of qs) (i + 1)
  pub next : enumerate_count t ≡ i + 1
  pub ahead : Ahead qs t

pub turn : (qs : List code.Part) (s : Pairs) (i : ℕ) (pair : Bor (List code.Part)) (t : Pairs) → Ahead qs s → pairs s (Some (i, pair)) t → Turn qs s i pair.now t
turn qs s i pair t a w =
    let n : ℕ = enumerate_count s in
    let l : i + 1 < length qs = omega (arith, length-drop n qs, ap length a.0, a.1, w.0.1.0, w.1) in
    let front : pair.now ≡ take 2 (drop i qs) = w.0.1.1 ∙ ap₂ take a.1 (a.0 ∙ ap (λ k. drop k qs) (sym w.1)) in
    let at : (j : ℕ) (d : code.Part) → j < 2 → told (get_or pair.now j d) ≡ nth (parts_of qs) (i + j) =
    λ j d h. ap told (ap (λ xs. get_or xs j d) front ∙ get_or-take 2 (drop i qs) j d h ∙ get_or-drop i qs j d) ∙ sym (nth_told qs (i + j) d (omega arith)) in
    record {
      number = w.1;
      within = l;
      fits = w.3;
      first = λ d. at 0 d (omega arith) ∙ ap (nth (parts_of qs)) (omega arith);
      second = λ d. at 1 d (omega arith);
      next = omega (arith, w.1, w.2);
      ahead = (w.0.1.2 ∙ ap (drop 1) a.0 ∙ drop-drop 1 n qs ∙ ap (λ k. drop k qs) (sym w.2), w.0.0 ∙ a.1);
    }

-- what a turn tests and counts, with what the code says of its two parts
module _ {qs : List code.Part} {s : Pairs} {i : ℕ} {pair : List code.Part} {t : Pairs} (w : Turn qs s i pair t) (x : counts.Tally) (e : Counts (parts_of qs) (enumerate_count s) x) where
  counts_here : Counts (parts_of qs) i x
  counts_here = subst (λ n. Counts (parts_of qs) n x) (sym w.number) e

  full_is_over : (k : Counted) (d : code.Part) → k ≡ counted_use (get_or pair 1 d).purpose → Full (tallied x) k ≡ IsOverLimit (parts_of qs) i
  full_is_over k d kind = ap₂ Full counts_here (kind ∙ ap (λ p. counted_use p.purpose) (w.second d)) ∙ sym (full_use (tally nothing_yet (take i (parts_of qs))) (nth (parts_of qs) (i + 1)).purpose)

  pub over_passed : (k : Counted) (d : code.Part) (b : Bool) → k ≡ counted_use (get_or pair 1 d).purpose → IsTrue b ↔ Full (tallied x) k → b ≡ false → Passed (IsOverLimit (parts_of qs)) (enumerate_count s) → Passed (IsOverLimit (parts_of qs)) (enumerate_count t)
  over_passed k d b kind test left h =
      subst (Passed (IsOverLimit (parts_of qs))) (sym w.next) (passed_more (IsOverLimit (parts_of qs)) i (subst (Passed (IsOverLimit (parts_of qs))) (sym w.number) h)
      (λ o. both_ways b left (test.1 (subst (λ P. P) (sym (full_is_over k d kind)) o))))

  pub tally_more : (k : Counted) (d : code.Part) (y : counts.Tally) → k ≡ counted_use (get_or pair 0 d).purpose → tallied y ≡ with_counted (tallied x) k → Counts (parts_of qs) (enumerate_count t) y
  tally_more k d y kind step =
      step ∙ ap₂ with_counted counts_here (kind ∙ ap (λ p. counted_use p.purpose) (w.first d))
      ∙ sym (tally_push nothing_yet (take i (parts_of qs)) (nth (parts_of qs) i))
      ∙ ap (tally nothing_yet) (sym (take_more (parts_of qs) i no_part (omega (arith, w.within, length-map qs told))) ∙ ap (λ n. take n (parts_of qs)) (sym w.next))
