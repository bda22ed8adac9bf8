-- Stamps, by the records so far.
use Rattle.std.specs.Prelude.{ℕ, Bool, false, cond, ◌||◌, List, [], ◌∷◌, map, ◌==◌}
use Rattle.trace.specs.declared.record.Event.{Event}
use Rattle.trace.specs.declared.record.Event.TheVariants as line
use Rattle.trace.specs.declared.record.Record.{Record}
use Rattle.rules.specs.States.{Task}
use Rattle.replay.specs.declared.candidate.Candidate.{Candidate}

-- whether a record begins the sync `y` of the task `n`
abbrev pub begins_sync : {M : Type 0} → ℕ → ℕ → Event M → Bool
begins_sync n y (line.Sync t z k) = cond (t == n) (z == y) false
begins_sync n y (line.Start t b f z) = false
begins_sync n y (line.Step t p m) = false
begins_sync n y (line.Emit t p m) = false
begins_sync n y (line.One t z i m) = false
begins_sync n y (line.Pair g z i x j m) = false
begins_sync n y (line.Fire t z) = false
begins_sync n y (line.End t) = false
begins_sync n y (line.Post p m) = false
begins_sync n y line.Clock = false

-- the sync `y` is one of the task `n`
abbrev pub synced_by : {M : Type 0} → List (Record M) → ℕ → ℕ → Bool
synced_by [] n y = false
synced_by (r ∷ tr) n y = begins_sync n y r.event || synced_by tr n y

-- whether a record of the trace is a start or a step of the task `n`; a pair is a step of both, and its taker is known by its sync
abbrev pub stamps : {M : Type 0} → List (Record M) → ℕ → Event M → Bool
stamps tr n (line.Start t b f y) = t == n
stamps tr n (line.Step t p m) = t == n
stamps tr n (line.Emit t p m) = t == n
stamps tr n (line.Sync t y k) = t == n
stamps tr n (line.One t y i m) = t == n
stamps tr n (line.Pair g y i z j m) = g == n || synced_by tr n z
stamps tr n (line.Fire t y) = false
stamps tr n (line.End t) = t == n
stamps tr n (line.Post p m) = false
stamps tr n line.Clock = false

-- the number of the latest of the records that stamps the task, or else `k`
abbrev pub latest : {M : Type 0} → List (Record M) → ℕ → List (Record M) → ℕ → ℕ
latest tr n [] k = k
latest tr n (r ∷ rs) k = latest tr n rs (cond (stamps tr n r.event) r.seq k)

abbrev pub stamp : {M : Type 0} → List (Record M) → ℕ → ℕ
stamp tr n = latest tr n tr 0

-- what a policy is shown of tasks
abbrev pub candidates : {M : Type 0} → List (Record M) → List (Task M) → List Candidate
candidates tr ts = map (λ t. record { task = t.number; stamp = stamp tr t.number }) ts
