-- The leaves that lie in a with-nack, as settling sees it, are just those written in it.
use Rattle.std.proofs.Common.{◌≡◌, ℕ, zero, suc, ◌+◌, ◌<◌, ◌≤◌, Bool, true, false, cond, eqb, ◌≢◌, ◌⊎◌, ◌↔◌, List, [], ◌∷◌, ◌++◌, map, length, Some, refl, ap, ◌∙◌, inl, inr, arith}
use mathlib.Core.List.{map-append}
use Rattle.std.specs.List.{slice_get}
use Rattle.std.proofs.lemmas.List.{length-map, length-append}
use Rattle.std.proofs.lemmas.Bool.{eqb-true, eq-eqb, cond-true, cond-false, or_cases, or_left, or_right, both_ways}
use Rattle.message.specs.declared.kind.Sign.{Sign}
use Rattle.grammar.specs.Grammar as g
use Rattle.rows.specs.Scripts.{Action, Event, Events}
use Rattle.rules.specs.States.{Base, Leaf}
use Rattle.rules.specs.Evaluation.{is_sign, nacks, nacks_each, bare, wrapped, under, leaves, leaves_each}
use Rattle.rules.specs.Settling.{in_branch}
use Rattle.rules.specs.Branches.{Branch, left, left_each, branches, branches_each, BranchLaw}
use Rattle.rules.proofs.Places.{there_inside}

-- what stands at a place of a list

none_there : {X : Type 0} (i : ℕ) (x : X) → slice_get [] i ≡ Some x → ⊥
none_there i x e = let z : ◌≡◌ {A = ℕ} 0 1 = cc in omega arith

abbrev FirstOrSecond : {X : Type 0} → List X → List X → ℕ → X → Type 0
FirstOrSecond xs ys i x = (slice_get xs i ≡ Some x) ⊎ ((j : ℕ) × (i ≡ length xs + j) × (slice_get ys j ≡ Some x))

nth_append : {X : Type 0} (xs ys : List X) (i : ℕ) (x : X) → slice_get (xs ++ ys) i ≡ Some x → FirstOrSecond xs ys i x
nth_append [] ys i x e = inr (i, omega arith, e)
nth_append (y ∷ xs) ys zero x e = inl e
nth_append (y ∷ xs) ys (suc i) x e = elim (nth_append xs ys i x e) [
  | inl h ↦ inl h
  | inr h ↦ inr (h.0, omega arith, h.2)
]

nth_map : {X Y : Type 0} (f : X → Y) (xs : List X) (i : ℕ) (y : Y) → slice_get (map f xs) i ≡ Some y → (x : X) × (slice_get xs i ≡ Some x) × (y ≡ f x)
nth_map f [] i y e = absurd (none_there i y e)
nth_map f (x ∷ xs) zero y e = (x, refl, cc)
nth_map f (x ∷ xs) (suc i) y e = nth_map f xs i y e

-- the leaf numbered `q` lies in the with-nack numbered `a` just when the branch has it
abbrev Agrees : {M : Type 0} → ℕ → ℕ → Branch → Leaf M → Type 0
Agrees a q b l = (in_branch a l.above ≡ true) ↔ ((b.from ≤ q) × (q < b.from + b.count))

-- the with-nacks of an event, numbered from `n`, start the bodies `cs`, and its leaves, `c` of them, are numbered from `i`
record Laid {M : Type 0} (n i : ℕ) (cs : List ℕ) (c : ℕ) (bs : List Branch) (ls : List (Leaf M)) : Type 0 where
  bodies : cs ≡ map (λ b. b.body) bs
  count : length ls ≡ c
  -- a branch has none but leaves of the event
  spans : (m : ℕ) (b : Branch) → slice_get bs m ≡ Some b → (i ≤ b.from) × (b.from + b.count ≤ i + c)
  -- a leaf lies in none but with-nacks of the event
  owns : (j : ℕ) (l : Leaf M) → slice_get ls j ≡ Some l → (a : ℕ) → in_branch a l.above ≡ true → (n ≤ a) × (a < n + length cs)
  inside : (m j a q : ℕ) (b : Branch) (l : Leaf M) → slice_get bs m ≡ Some b → slice_get ls j ≡ Some l → a ≡ n + m → q ≡ i + j → Agrees a q b l

-- each way to put an event together

none_laid : {M : Type 0} (n i : ℕ) → Laid {M = M} n i [] 0 [] []
none_laid n i = record {
  bodies = refl;
  count = refl;
  spans = λ m b e. absurd (none_there m b e);
  owns = λ j l e. absurd (none_there j l e);
  inside = λ m j a q b l e. absurd (none_there m b e);
}

bare_laid : {M : Type 0} (n i : ℕ) (x : Base M) → Laid n i [] 1 [] (bare x)
bare_laid {M} n i x = record {
  bodies = refl;
  count = refl;
  spans = λ m b e. absurd (none_there m b e);
  owns = λ j l e a t. absurd (both_ways _ (outside j l e a) t);
  inside = λ m j a q b l e. absurd (none_there m b e);
}
  where
    outside : (j : ℕ) (l : Leaf M) → slice_get (bare x) j ≡ Some l → (a : ℕ) → in_branch a l.above ≡ false
    outside zero l e a = let z : l.above ≡ [] = cc in ap (in_branch a) z
    outside (suc j) l e a = absurd (none_there j l e)

either_laid : {M : Type 0} {n i c c' : ℕ} {cs cs' : List ℕ} {bs bs' : List Branch} {ls ls' : List (Leaf M)} (t : Bool) → Laid n i cs c bs ls → Laid n i cs' c' bs' ls'
    → Laid n i (cond t cs cs') (cond t c c') (cond t bs bs') (cond t ls ls')
either_laid true h h' = h
either_laid false h h' = h'

wrapped_laid : {M : Type 0} {n i c : ℕ} {cs : List ℕ} {bs : List Branch} {ls : List (Leaf M)} (w : Action M) → Laid n i cs c bs ls → Laid n i cs c bs (map (wrapped w) ls)
wrapped_laid {ls = ls} w h = record {
  bodies = h.bodies;
  count = rw length-map h.count;
  spans = h.spans;
  owns = λ j l e a t. let x = nth_map (wrapped w) ls j l e in h.owns j x.0 x.1 a (rw x.2 at t);
  inside = λ m j a q b l d e f g. let x = nth_map (wrapped w) ls j l e in rw x.2 (h.inside m j a q b x.0 d x.1 f g);
}

under_laid : {M : Type 0} {n i c : ℕ} {cs : List ℕ} {bs : List Branch} {ls : List (Leaf M)} (r : ℕ) → Laid (suc n) i cs c bs ls
    → Laid n i (r ∷ cs) c (record { body = r; from = i; count = c } ∷ bs) (map (under n) ls)
under_laid {M} {n} {i} {c} {cs} {bs} {ls} r h = record {
  bodies = ap (λ ds. r ∷ ds) h.bodies;
  count = rw length-map h.count;
  spans = spanned;
  owns = owned;
  inside = lies;
}
  where
    it : Branch
    it = record { body = r; from = i; count = c }

    spanned : (m : ℕ) (b : Branch) → slice_get (it ∷ bs) m ≡ Some b → (i ≤ b.from) × (b.from + b.count ≤ i + c)
    spanned zero b e = let z : b ≡ it = cc in rw z (omega arith, omega arith)
    spanned (suc m) b e = h.spans m b e

    owned : (j : ℕ) (l : Leaf M) → slice_get (map (under n) ls) j ≡ Some l → (a : ℕ) → in_branch a l.above ≡ true → (n ≤ a) × (a < n + length (r ∷ cs))
    owned j l e a t = let x = nth_map (under n) ls j l e in elim (or_cases (eqb a n) _ (rw x.2 at t)) [
      | inl y ↦ (let z = eqb-true a n y in (omega arith, omega arith))
      | inr y ↦ (let z = h.owns j x.0 x.1 a y in (omega arith, omega arith))
    ]

    lies : (m j a q : ℕ) (b : Branch) (l : Leaf M) → slice_get (it ∷ bs) m ≡ Some b → slice_get (map (under n) ls) j ≡ Some l → a ≡ n + m → q ≡ i + j → Agrees a q b l
    lies zero j a q b l d e f g =
        let x = nth_map (under n) ls j l e in let z : b ≡ it = cc in let y = there_inside ls j x.0 x.1 in
        rw (z, x.2) ((λ _. (omega arith, omega arith)), λ _. or_left (eqb a n) _ (eq-eqb a n (omega arith)))
    lies (suc m) j a q b l d e f g =
        let x = nth_map (under n) ls j l e in let y = h.inside m j a q b x.0 d x.1 (omega arith) g in
        rw x.2 (
          (λ t. elim (or_cases (eqb a n) _ t) [
            | inl z ↦ absurd (let w = eqb-true a n z in omega arith)
            | inr z ↦ y.0 z
          ]),
          λ t. or_right (eqb a n) _ (y.1 t),
        )

both_laid : {M : Type 0} {n i c c' : ℕ} {cs cs' : List ℕ} {bs bs' : List Branch} {ls ls' : List (Leaf M)} → Laid n i cs c bs ls → Laid (n + length cs) (i + c) cs' c' bs' ls'
    → Laid n i (cs ++ cs') (c + c') (bs ++ bs') (ls ++ ls')
both_laid {M} {n} {i} {c} {c'} {cs} {cs'} {bs} {bs'} {ls} {ls'} h h' = record {
  bodies = rw (h.bodies, h'.bodies, map-append) refl;
  count = rw (length-append, h.count, h'.count) refl;
  spans = spanned;
  owns = owned;
  inside = λ m j a q b l d e f g. lies m j a q b l (nth_append bs bs' m b d) (nth_append ls ls' j l e) f g;
}
  where
    long : length cs ≡ length bs
    long = ap length h.bodies ∙ length-map bs (λ b. b.body)

    spanned : (m : ℕ) (b : Branch) → slice_get (bs ++ bs') m ≡ Some b → (i ≤ b.from) × (b.from + b.count ≤ i + (c + c'))
    spanned m b e = elim (nth_append bs bs' m b e) [
      | inl x ↦ (let y = h.spans m b x in (y.0, omega arith))
      | inr x ↦ (let y = h'.spans x.0 b x.2 in (omega arith, omega arith))
    ]

    owned : (j : ℕ) (l : Leaf M) → slice_get (ls ++ ls') j ≡ Some l → (a : ℕ) → in_branch a l.above ≡ true → (n ≤ a) × (a < n + length (cs ++ cs'))
    owned j l e a t = rw length-append (elim (nth_append ls ls' j l e) [
      | inl x ↦ (let y = h.owns j l x a t in (y.0, omega arith))
      | inr x ↦ (let y = h'.owns x.0 l x.2 a t in (omega arith, omega arith))
    ])

    lies : (m j a q : ℕ) (b : Branch) (l : Leaf M) → FirstOrSecond bs bs' m b → FirstOrSecond ls ls' j l → a ≡ n + m → q ≡ i + j → Agrees a q b l
    lies m j a q b l (inl d) (inl e) f g = h.inside m j a q b l d e f g
    lies m j a q b l (inl d) (inr e) f g = let y = there_inside bs m b d in (
      (λ t. absurd (let z = h'.owns e.0 l e.2 a t in omega (arith, long))),
      λ t. absurd (let z = h.spans m b d in omega arith),
    )
    lies m j a q b l (inr d) (inl e) f g = let y = there_inside ls j l e in (
      (λ t. absurd (let z = h.owns j l e a t in omega (arith, long))),
      λ t. absurd (let z = h'.spans d.0 b d.2 in omega arith),
    )
    lies m j a q b l (inr d) (inr e) f g = h'.inside d.0 e.0 a q b l d.2 e.2 (omega (arith, long)) (omega arith)

mutual
  event_laid : {M : Type 0} (s : Sign) (k n i : ℕ) (e : Event M) → Laid n i (nacks s e) (left s e) (branches s i e) (leaves s k n e)
  event_laid s k n i g.never = none_laid n i
  event_laid s k n i g.nack = bare_laid n i _
  event_laid s k n i (g.always m) = bare_laid n i _
  event_laid s k n i (g.send p) = bare_laid n i _
  event_laid s k n i (g.recv p) = bare_laid n i _
  event_laid s k n i (g.timeout d) = bare_laid n i _
  event_laid s k n i (g.choose es) = events_laid s k n i es
  event_laid s k n i (g.wrap e a) = wrapped_laid a (event_laid s k n i e)
  event_laid s k n i (g.guard t e f) = either_laid (is_sign s t) (event_laid s k n i e) (event_laid s k n i f)
  event_laid s k n i (g.with_nack b e) = under_laid b (event_laid s k (suc n) i e)

  events_laid : {M : Type 0} (s : Sign) (k n i : ℕ) (es : Events M) → Laid n i (nacks_each s es) (left_each s es) (branches_each s i es) (leaves_each s k n es)
  events_laid s k n i g.none = none_laid n i
  events_laid s k n i (g.more e es) = both_laid (event_laid s k n i e) (events_laid s k (n + length (nacks s e)) (i + left s e) es)

-- a guard

same_sign : (s : Sign) → is_sign s s ≡ true
same_sign s = grind arith

other_sign : (s t : Sign) → s ≢ t → is_sign s t ≡ false
other_sign s t d = grind arith

pub branch_law : (M : Type 0) → BranchLaw M
branch_law M = record {
  bodies = λ s e. (event_laid s 0 0 0 e).bodies;
  count = λ s k e. (event_laid s k 0 0 e).count;
  inside = λ s k e n i b l f g. (event_laid s k 0 0 e).inside n i n i b l f g (omega arith) (omega arith);
  first_arm = λ s k n e f. (cond-true (is_sign s s) _ _ (same_sign s), cond-true (is_sign s s) _ _ (same_sign s));
  second_arm = λ s t k n e f d. (cond-false (is_sign s t) _ _ (other_sign s t d), cond-false (is_sign s t) _ _ (other_sign s t d));
}
