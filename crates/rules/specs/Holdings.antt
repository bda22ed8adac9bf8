-- What holds of the messages of every run: none is lost or made up, and the oldest comes out first.
use Rattle.std.specs.Prelude.{◌≡◌, ℕ, ◌≤◌, true, false, cond, List, [], ◌∷◌, ◌++◌, length, Some, ◌==◌, ◌≢◌}
use Rattle.std.specs.List.{AllByRecursion}
use Rattle.grammar.specs.declared.words.PortKind.{PortKind}
use Rattle.rows.specs.Rows.{port_kind}
use Rattle.trace.specs.declared.record.Event.{Event}
use Rattle.trace.specs.declared.record.Record.{Record}
use Rattle.rules.specs.declared.kind.BaseKind.{BaseKind}
use Rattle.rules.specs.declared.kind.BaseKind.TheVariants.{Port}
use Rattle.rules.specs.Kinds.{Kind, oldest}
use Rattle.rules.specs.States.{Setting, Base, always, send, recv, due, nack, State}
use Rattle.rules.specs.Settling.{result}
use Rattle.rules.specs.Steps.{Move, Step, ends, emits, returns, spawns, syncs, settles_one, settles_pair}
use Rattle.rules.specs.Runs.{Act, steps, posts, clocks, Run, begins, goes_on}
use Rattle.rules.specs.Laws.{LawfulKinds}

abbrev pub only_at : {M : Type 0} → ℕ → ℕ → M → List M
only_at p q m = cond (p == q) (m ∷ []) []

-- the message that a leaf settled alone gives to the port `p`, or takes from it
abbrev pub given_by : {M : Type 0} → ℕ → Base M → M → List M
given_by p (send q) m = only_at p q m
given_by p (always n) m = []
given_by p (recv q) m = []
given_by p (due d) m = []
given_by p nack m = []

abbrev pub taken_by : {M : Type 0} → ℕ → Base M → M → List M
taken_by p (recv q) m = only_at p q m
taken_by p (always n) m = []
taken_by p (send q) m = []
taken_by p (due d) m = []
taken_by p nack m = []

-- the messages given to a port, and those taken from it, by steps and posts and without a partner

abbrev pub step_gives : {M : Type 0} {w : Setting M} {s : State M} {v : Move} {rs : List (Event M)} {s' : State M} → Step w s v rs s' → ℕ → List M
step_gives (ends t r d c f e) p = []
step_gives (emits t r d c f e) p = []
step_gives (returns t r d c f e) p = []
step_gives (spawns t b r d c f e) p = []
step_gives (syncs t ev r d c bs g ls h y i f e) p = []
step_gives (settles_one t y i l a d c σs g f e) p = given_by p l.base t.register
step_gives (settles_pair g r y i z j q l m a b c d k σs h f e) p = []

abbrev pub step_takes : {M : Type 0} {w : Setting M} {s : State M} {v : Move} {rs : List (Event M)} {s' : State M} → Step w s v rs s' → ℕ → List M
step_takes (ends t r d c f e) p = []
step_takes (emits t r d c f e) p = []
step_takes (returns t r d c f e) p = []
step_takes (spawns t b r d c f e) p = []
step_takes (syncs t ev r d c bs g ls h y i f e) p = []
step_takes {w = w} {s = s} (settles_one t y i l a d c σs g f e) p = taken_by p l.base (result w s y i l.base)
step_takes (settles_pair g r y i z j q l m a b c d k σs h f e) p = []

abbrev pub act_gives : {M : Type 0} {w : Setting M} {s : State M} {rs : List (Event M)} {s' : State M} → Act w s rs s' → ℕ → List M
act_gives (steps v a) p = step_gives a p
act_gives (posts q m a b c d) p = only_at p q m
act_gives (clocks c a b d e) p = []

abbrev pub act_takes : {M : Type 0} {w : Setting M} {s : State M} {rs : List (Event M)} {s' : State M} → Act w s rs s' → ℕ → List M
act_takes (steps v a) p = step_takes a p
act_takes (posts q m a b c d) p = []
act_takes (clocks c a b d e) p = []

-- the same in a whole run, in order
abbrev pub given : {M : Type 0} {w : Setting M} {tr : List (Record M)} {s : State M} → Run w tr s → ℕ → List M
given (begins e f) p = []
given (goes_on rs r a e) p = given r p ++ act_gives a p

abbrev pub taken : {M : Type 0} {w : Setting M} {tr : List (Record M)} {s : State M} → Run w tr s → ℕ → List M
taken (begins e f) p = []
taken (goes_on rs r a e) p = taken r p ++ act_takes a p

-- What was given to a port of a kind that loses was taken, oldest first, or is still held; a kind that keeps still holds all of it, and each take got the oldest; a kind that cannot hold was given nothing, and each take got a blank.
pub record PortTold {M : Type 0} {w : Setting M} {tr : List (Record M)} {s : State M} (r : Run w tr s) (limit : ℕ) (p : ℕ) (K : Kind) (held : List M) : Type 0 where
  pub loses : K.holds ≡ true → K.keeps ≡ false → given r p ≡ taken r p ++ held
  pub keeps : K.holds ≡ true → K.keeps ≡ true → (given r p ≡ held) × AllByRecursion (λ m. oldest held ≡ Some m) (taken r p)
  pub none : K.holds ≡ false → (given r p ≡ []) × (held ≡ []) × AllByRecursion (λ m. m ≡ w.messages.blank) (taken r p)
  pub few : length held ≤ limit

abbrev pub HeldLaw : Type 0 → Type 0
HeldLaw M = (limit : ℕ) (w : Setting M) → LawfulKinds limit w → (tr : List (Record M)) (s : State M) (r : Run w tr s) (p : ℕ) (k : PortKind) → port_kind w.script.ports p ≡ Some k
    → PortTold r limit p (w.kinds (Port k)) ((s.means (Port k)).held p)

-- A kind holds messages only at ports of its own.
abbrev pub OwnPortsLaw : Type 0 → Type 0
OwnPortsLaw M = (w : Setting M) (tr : List (Record M)) (s : State M) → Run w tr s → (c : BaseKind) (p : ℕ)
    → ((k : PortKind) → port_kind w.script.ports p ≡ Some k → c ≢ Port k)
    → (s.means c).held p ≡ []
