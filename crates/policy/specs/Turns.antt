-- Turnabout: its namings, of tasks and leaves alike, alternate first and last place.
use Rattle.std.specs.Prelude.{ℕ, zero, suc, Bool, true, false, not, length}
use Rattle.replay.specs.Policies.{Policy}
use Rattle.policy.specs.declared.turnabout.Turnabout.{Turnabout}

-- the first or the last place of a list of so many
abbrev pub end_place : Bool → ℕ → ℕ
end_place false n = 0
end_place true zero = 0
end_place true (suc n) = n

abbrev pub turned : Turnabout → Turnabout
turned s = record { last = not s.last }

abbrev pub turnabout : Policy Turnabout
turnabout = record {
  name_task = λ s cs. record { place = end_place s.last (length cs); next = turned s };
  name_leaf = λ s is. record { place = end_place s.last (length is); next = turned s };
}
