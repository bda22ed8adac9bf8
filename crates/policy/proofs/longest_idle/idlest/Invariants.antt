use Rattle.std.proofs.Common.{◌≡◌, ◌≤◌, get_or, drop}
use Rattle.replay.specs.Policies.{idlest, idlest_after}
use Rattle.policy.proofs.longest_idle.idlest.Given as goal

abbrev pub invariant-loop-place : goal.invariant-loop-place
invariant-loop-place l =
    (l.best ≤ l.place) × (idlest l.able ≡ idlest_after l.best (get_or l.able l.best (record { task = 0; stamp = 0 })) l.place (drop l.place l.able))
