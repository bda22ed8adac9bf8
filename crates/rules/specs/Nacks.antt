-- What holds of the nacks of every run.
use Rattle.std.specs.Prelude.{◌≡◌, ℕ, suc, ◌+◌, ◌<◌, true, false, ◌⊎◌, ◌↔◌, List, [], ◌∷◌, length}
use mathlib.Core.List.{Memᴰ}
use Rattle.trace.specs.declared.record.Event.{Event}
use Rattle.trace.specs.declared.record.Event.TheVariants as line
use Rattle.trace.specs.declared.record.Record.{Record}
use Rattle.rules.specs.declared.nack.Nack.TheVariants.{Pending, Fired, Void}
use Rattle.rules.specs.States.{Setting, Leaf, Task, State}
use Rattle.rules.specs.Settling.{in_branch}
use Rattle.rules.specs.Steps.{Move, Step, ends, emits, returns, spawns, syncs, settles_one, settles_pair}
use Rattle.rules.specs.Runs.{Act, steps, posts, clocks, Run, begins, goes_on}
use Rattle.rules.specs.Laws.{LawfulKinds, Rising, each_of}

-- a step settles the sync `x` at the leaf `k`
abbrev pub Settles : {M : Type 0} {w : Setting M} {s : State M} {v : Move} {rs : List (Event M)} {s' : State M} → Step w s v rs s' → ℕ → Leaf M → Type 0
Settles (ends t r d c f e) x k = ⊥
Settles (emits t r d c f e) x k = ⊥
Settles (returns t r d c f e) x k = ⊥
Settles (spawns t b r d c f e) x k = ⊥
Settles (syncs t ev r d c bs g ls h y i f e) x k = ⊥
Settles (settles_one t y i l a d c σs g f e) x k = (x ≡ y) × (k ≡ l)
Settles (settles_pair g r y i z j p l m a b c d q σs h f e) x k = ((x ≡ y) × (k ≡ l)) ⊎ ((x ≡ z) × (k ≡ m))

-- a step starts the task `n` by the with-nack `b` of the sync `x`
abbrev pub Starts : {M : Type 0} {w : Setting M} {s : State M} {v : Move} {rs : List (Event M)} {s' : State M} → Step w s v rs s' → ℕ → ℕ → ℕ → Type 0
Starts (ends t r d c f e) n x b = ⊥
Starts (emits t r d c f e) n x b = ⊥
Starts (returns t r d c f e) n x b = ⊥
Starts (spawns t a r d c f e) n x b = ⊥
Starts {s = s} (syncs t ev r d c bs g ls h y i f e) n x b = (x ≡ y) × (b < length bs) × (n ≡ suc s.last_task + b)
Starts (settles_one t y i l a d c σs g f e) n x b = ⊥
Starts (settles_pair g r y i z j p l m a d c o q σs h f e) n x b = ⊥

abbrev pub ActSettles : {M : Type 0} {w : Setting M} {s : State M} {rs : List (Event M)} {s' : State M} → Act w s rs s' → ℕ → Leaf M → Type 0
ActSettles (steps v a) x k = Settles a x k
ActSettles (posts p m a b c d) x k = ⊥
ActSettles (clocks c a b d e) x k = ⊥

abbrev pub ActStarts : {M : Type 0} {w : Setting M} {s : State M} {rs : List (Event M)} {s' : State M} → Act w s rs s' → ℕ → ℕ → ℕ → Type 0
ActStarts (steps v a) n x b = Starts a n x b
ActStarts (posts p m a c d e) n x b = ⊥
ActStarts (clocks c a d e f) n x b = ⊥

-- the same at some time in a run
abbrev pub WasSettled : {M : Type 0} {w : Setting M} {tr : List (Record M)} {s : State M} → Run w tr s → ℕ → Leaf M → Type 0
WasSettled (begins e f) x k = ⊥
WasSettled (goes_on rs r a e) x k = WasSettled r x k ⊎ ActSettles a x k

abbrev pub WasStarted : {M : Type 0} {w : Setting M} {tr : List (Record M)} {s : State M} → Run w tr s → ℕ → ℕ → ℕ → Type 0
WasStarted (begins e f) n x b = ⊥
WasStarted (goes_on rs r a e) n x b = WasStarted r n x b ⊎ ActStarts a n x b

-- The nack of a live task that a with-nack started has fired exactly when the sync that it was made in has been settled at a leaf outside its branch, is void exactly when it has been settled inside, and pending exactly when it has not been settled.
pub record NackTold {M : Type 0} {w : Setting M} {tr : List (Record M)} {s : State M} (r : Run w tr s) (t : Task M) (y b : ℕ) : Type 0 where
  pub fired : (t.nack ≡ Fired) ↔ ((l : Leaf M) × WasSettled r y l × (in_branch b l.above ≡ false))
  pub void : (t.nack ≡ Void) ↔ ((l : Leaf M) × WasSettled r y l × (in_branch b l.above ≡ true))
  pub pending : (t.nack ≡ Pending y b) ↔ ((l : Leaf M) → WasSettled r y l → ⊥)

abbrev pub NackLaw : Type 0 → Type 0
NackLaw M = (limit : ℕ) (w : Setting M) → LawfulKinds limit w → (tr : List (Record M)) (s : State M) (r : Run w tr s) (t : Task M) → Memᴰ t s.tasks
    → (y b : ℕ) → WasStarted r t.number y b → NackTold r t y b

-- The nack of a live task that no with-nack started is void.
abbrev pub VoidLaw : Type 0 → Type 0
VoidLaw M = (limit : ℕ) (w : Setting M) → LawfulKinds limit w → (tr : List (Record M)) (s : State M) (r : Run w tr s) (t : Task M) → Memᴰ t s.tasks
    → ((y b : ℕ) → WasStarted r t.number y b → ⊥) → t.nack ≡ Void

-- the task of a fire record
abbrev pub fires_of : {M : Type 0} → Event M → List ℕ
fires_of (line.Start t b f y) = []
fires_of (line.Step t p m) = []
fires_of (line.Emit t p m) = []
fires_of (line.Sync t y n) = []
fires_of (line.One t y i m) = []
fires_of (line.Pair g y i z j m) = []
fires_of (line.Fire t y) = t ∷ []
fires_of (line.End t) = []
fires_of (line.Post p m) = []
fires_of line.Clock = []

-- What comes next has a fire record for a task exactly where the task then lives and the sync of its nack is settled by it at a leaf outside the branch; and these records are one for each task, by rising task.
pub record FireTold {M : Type 0} {w : Setting M} {tr : List (Record M)} {s s' : State M} (r : Run w tr s) {rs : List (Event M)} (a : Act w s rs s') : Type 0 where
  pub which : (n y : ℕ) → Memᴰ (line.Fire n y) rs ↔ ((t : Task M) × Memᴰ t s.tasks × (t.number ≡ n) × ((b : ℕ) × WasStarted r n y b × ((l : Leaf M) × ActSettles a y l × (in_branch b l.above ≡ false))))
  pub order : Rising (each_of fires_of rs)

abbrev pub FireLaw : Type 0 → Type 0
FireLaw M = (limit : ℕ) (w : Setting M) → LawfulKinds limit w → (tr : List (Record M)) (s s' : State M) (r : Run w tr s) (rs : List (Event M)) (a : Act w s rs s')
    → FireTold r a
