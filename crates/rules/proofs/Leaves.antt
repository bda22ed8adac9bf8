-- A sync of a limited script has few leaves, and offers few.
use Rattle.std.proofs.Common.{◌≡◌, ℕ, zero, suc, ◌+◌, ◌≤◌, eqb, List, [], ◌∷◌, length, Some, None, Option, subst, arith}
use Rattle.std.specs.List.{slice_get, AllByRecursion}
use Rattle.std.proofs.ByRecursion.{All-weaker}
use Rattle.std.proofs.lemmas.List.{length-map, length-append}
use Rattle.std.proofs.lemmas.Bool.{cond_both}
use Rattle.message.specs.declared.kind.Sign.{Sign}
use Rattle.grammar.specs.Grammar as g
use Rattle.rows.specs.Scripts.{Body, Instr, Event, Events}
use Rattle.rows.specs.Rows.{find_body, bodies}
use Rattle.rules.specs.declared.kind.BaseKind.{BaseKind}
use Rattle.rules.specs.States.{Setting, Leaf, Task}
use Rattle.rules.specs.Evaluation.{is_sign, nacks, leaves, leaves_each}
use Rattle.rules.specs.Limits.{most_leaves, leaves_written, leaves_written_each, InstrLimited, Limited}
use Rattle.rules.specs.Able.{or_none, instr_at, Placed, placed, is_kind, offer_in, offers_in}

-- evaluation makes no more leaves than are written

mutual
  leaves_few : {M : Type 0} (s : Sign) (k n : ℕ) (e : Event M) → length (leaves s k n e) ≤ leaves_written e
  leaves_few s k n g.never = omega arith
  leaves_few s k n g.nack = omega arith
  leaves_few s k n (g.always m) = omega arith
  leaves_few s k n (g.send p) = omega arith
  leaves_few s k n (g.recv p) = omega arith
  leaves_few s k n (g.timeout d) = omega arith
  leaves_few s k n (g.choose es) = leaves_each_few s k n es
  leaves_few s k n (g.wrap e a) = rw length-map (leaves_few s k n e)
  leaves_few s k n (g.guard t e f) = let a = leaves_few s k n e in let b = leaves_few s k n f in
      cond_both (is_sign s t) (leaves s k n e) (leaves s k n f) (λ ls. length ls ≤ leaves_written e + leaves_written f) (λ _. omega arith) (λ _. omega arith)
  leaves_few s k n (g.with_nack b e) = rw length-map (leaves_few s k (suc n) e)

  leaves_each_few : {M : Type 0} (s : Sign) (k n : ℕ) (es : Events M) → length (leaves_each s k n es) ≤ leaves_written_each es
  leaves_each_few s k n g.none = omega arith
  leaves_each_few s k n (g.more e es) = let a = leaves_few s k n e in let b = leaves_each_few s k (n + length (nacks s e)) es in rw length-append (omega arith)

-- an instruction of a limited script is limited

nth_all : {X : Type 0} (P : X → Type 0) (xs : List X) (i : ℕ) (x : X) → AllByRecursion P xs → slice_get xs i ≡ Some x → P x
nth_all P [] i x h e = absurd (let z : ◌≡◌ {A = ℕ} 0 1 = cc in omega arith)
nth_all P (y ∷ ys) zero x h e = let f : y ≡ x = cc in subst P f h.0
nth_all P (y ∷ ys) (suc i) x h e = nth_all P ys i x h.1 e

-- what holds of the instructions of every body, and of none, holds of those of the body `n`
pub body_all : {M : Type 0} (P : List (Instr M) → Type 0) → P [] → (bs : List (Body M)) (n : ℕ) → AllByRecursion (λ b. P b.instrs) bs → P (or_none (find_body bs n))
body_all P none [] n h = none
body_all P none (b ∷ bs) n h = let r = body_all P none bs n h.1 in cond_both (eqb b.number n) (Some b.instrs) (find_body bs n) (λ o. P (or_none o)) (λ _. h.0) (λ _. r)

pub instr_all : {M : Type 0} (P : Instr M → Type 0) (w : Setting M) → AllByRecursion (λ b. AllByRecursion P b.instrs) (bodies w.script) → (t : Task M) (i : Instr M) → instr_at w t ≡ Some i → P i
instr_all P w h t i at = nth_all P (or_none (find_body (bodies w.script) t.body)) t.place i (body_all (AllByRecursion P) tt (bodies w.script) t.body h) at

pub instr_limited : {M : Type 0} (w : Setting M) → Limited w.script → (t : Task M) (i : Instr M) → instr_at w t ≡ Some i → InstrLimited i
instr_limited w h = instr_all InstrLimited w (All-weaker _ (λ b. AllByRecursion InstrLimited b.instrs) (λ b p. p.1) (bodies w.script) h)

pub sync_leaves_few : {M : Type 0} (w : Setting M) → Limited w.script → (t : Task M) (e : Event M) → instr_at w t ≡ Some (g.sync e) → (s : Sign) (k n : ℕ) → length (leaves s k n e) ≤ most_leaves
sync_leaves_few w h t e at s k n = let a = leaves_few s k n e in let b = instr_limited w h t (g.sync e) at in omega arith

-- a leaf makes one offer at most

offer_few : (c : BaseKind) (o : Option Placed) → length (offer_in c o) ≤ 1
offer_few c None = omega arith
offer_few c (Some q) = cond_both (is_kind q.kind c) (q.offer ∷ []) [] (λ os. length os ≤ 1) (λ _. omega arith) (λ _. omega arith)

pub offers_few : {M : Type 0} (w : Setting M) (c : BaseKind) (y i : ℕ) (ls : List (Leaf M)) → length (offers_in w c y i ls) ≤ length ls
offers_few w c y i [] = omega arith
offers_few w c y i (l ∷ ls) = let a = offer_few c (placed w y i l.base) in let b = offers_few w c y (suc i) ls in rw length-append (omega arith)
