-- What settling a sync does: the result, the register, the nacks, the offers.
use Rattle.std.specs.Prelude.{ℕ, suc, Bool, false, cond, ◌||◌, List, [], ◌∷◌, ◌++◌, map, Some, None, Option, ◌==◌}
use Rattle.grammar.specs.Grammar as g
use Rattle.rows.specs.Scripts.{Action}
use Rattle.trace.specs.declared.record.Event.{Event}
use Rattle.trace.specs.declared.record.Event.TheVariants as line
use Rattle.rules.specs.declared.kind.BaseKind.{BaseKind}
use Rattle.rules.specs.declared.nack.Nack.{Nack}
use Rattle.rules.specs.declared.nack.Nack.TheVariants.{Pending, Fired, Void}
use Rattle.rules.specs.Messages.{Messages}
use Rattle.rules.specs.Kinds.{Meaning, committed, hands_over, withdrawn}
use Rattle.rules.specs.States.{Setting, Base, always, send, recv, due, nack, Leaf, running, Task, State}
use Rattle.rules.specs.Able.{Placed, placed, is_kind}

-- The wraps act, innermost first.
abbrev pub acted : {M : Type 0} → Messages M → List (Action M) → M → M
acted k [] m = m
acted k (g.set n ∷ rest) m = acted k rest n
acted k (g.add z ∷ rest) m = acted k rest (k.plus m z)

abbrev pub or_blank : {M : Type 0} → Setting M → Option M → M
or_blank w None = w.messages.blank
or_blank w (Some m) = m

-- what a commit of the offer hands over
abbrev pub handed_at : {M : Type 0} → Setting M → State M → Option Placed → Option M
handed_at w s None = None
handed_at w s (Some q) = hands_over (w.kinds q.kind) q.offer (s.means q.kind)

-- the result of the leaf `i` of the sync `y`, settled with no partner, before the wraps
abbrev pub result : {M : Type 0} → Setting M → State M → ℕ → ℕ → Base M → M
result w s y i (always m) = m
result w s y i nack = w.messages.blank
result w s y i (send p) = or_blank w (handed_at w s (placed w y i (send p)))
result w s y i (recv p) = or_blank w (handed_at w s (placed w y i (recv p)))
result w s y i (due d) = or_blank w (handed_at w s (placed w y i (due d)))

-- what its record shows: the message given, else the result
abbrev pub shown : {M : Type 0} → Setting M → State M → Task M → ℕ → ℕ → Base M → M
shown w s t y i (send p) = t.register
shown w s t y i (always m) = result w s y i (always m)
shown w s t y i nack = result w s y i nack
shown w s t y i (recv p) = result w s y i (recv p)
shown w s t y i (due d) = result w s y i (due d)

abbrev pub means_with : {M : Type 0} → BaseKind → (Meaning M → Meaning M) → (BaseKind → Meaning M) → BaseKind → Meaning M
means_with c f μ d = cond (is_kind c d) (f (μ d)) (μ d)

-- the kinds after a commit of the offer with a message
abbrev pub commit_at : {M : Type 0} → Setting M → Option Placed → M → (BaseKind → Meaning M) → BaseKind → Meaning M
commit_at w None m μ = μ
commit_at w (Some q) m μ = means_with q.kind (committed (w.kinds q.kind) q.offer m) μ

-- a task put in the place of the one that has its number
abbrev pub put : {M : Type 0} → Task M → List (Task M) → List (Task M)
put t us = map (λ u. cond (u.number == t.number) t u) us

-- a task whose sync is settled at a leaf, with a result
abbrev pub settled : {M : Type 0} → Setting M → Task M → Leaf M → M → Task M
settled w t l m = record { number = t.number; body = t.body; place = suc t.place; register = acted w.messages l.wraps m; wait = running; nack = t.nack }

-- a sync that is settled, with the with-nacks that the settled leaf lies in
pub record Settlement : Type 0 where
  pub sync : ℕ
  pub above : List ℕ

-- The branch of a nack is the leaves in its with-nack.
abbrev pub in_branch : ℕ → List ℕ → Bool
in_branch b [] = false
in_branch b (c ∷ cs) = b == c || in_branch b cs

abbrev pub pending_after : List Settlement → ℕ → ℕ → Nack
pending_after [] y b = Pending y b
pending_after (σ ∷ σs) y b = cond (y == σ.sync) (cond (in_branch b σ.above) Void Fired) (pending_after σs y b)

abbrev pub nack_after : List Settlement → Nack → Nack
nack_after σs Fired = Fired
nack_after σs Void = Void
nack_after σs (Pending y b) = pending_after σs y b

abbrev pub told_of : {M : Type 0} → List Settlement → Task M → Task M
told_of σs t = record { number = t.number; body = t.body; place = t.place; register = t.register; wait = t.wait; nack = nack_after σs t.nack }

-- the fire record of a nack that was pending with the sync `y` and is now another
abbrev pub fire_if : {M : Type 0} → ℕ → ℕ → Nack → List (Event M)
fire_if n y Fired = line.Fire n y ∷ []
fire_if n y Void = []
fire_if n y (Pending z b) = []

abbrev pub fire_of : {M : Type 0} → List Settlement → ℕ → Nack → List (Event M)
fire_of σs n Fired = []
fire_of σs n Void = []
fire_of σs n (Pending y b) = fire_if n y (pending_after σs y b)

-- the fire records of a settlement
abbrev pub fires : {M : Type 0} → List Settlement → List (Task M) → List (Event M)
fires σs [] = []
fires σs (t ∷ ts) = fire_of σs t.number t.nack ++ fires σs ts

abbrev pub withdrawn_each : {M : Type 0} → List Settlement → Meaning M → Meaning M
withdrawn_each [] μ = μ
withdrawn_each (σ ∷ σs) μ = withdrawn_each σs (withdrawn σ.sync μ)

abbrev pub after_settling : {M : Type 0} → State M → List Settlement → (BaseKind → Meaning M) → List (Task M) → State M
after_settling s σs μ ts = record { clock = s.clock; means = λ c. withdrawn_each σs (μ c); tasks = map (told_of σs) ts; last_task = s.last_task; last_sync = s.last_sync }
