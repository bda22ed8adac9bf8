-- A call does what the rules allow, writes the fire records that are due and no others, and a look reports quiet exactly when no step exists.
use Rattle.std.proofs.Common.{◌≡◌, ℕ, length, Option, sym, ap, ◌∙◌, inl, inr, arith}
use Rattle.std.proofs.lemmas.List.{nil_from_length}
use Rattle.rules.specs.States.{Setting}
use Rattle.rules.specs.Able.{able_tasks}
use Rattle.rules.proofs.Fires.{fire_law}
use Rattle.rules.proofs.Quiet.{quiet_law}
use Rattle.replay.specs.Policies.{Policy}
use Rattle.replay.specs.Replays.{Call, seen, Replay, Serves, refuses, posts, clocks, turns, looks}
use Rattle.replay.specs.Laws.{ServeLaw}
use Rattle.replay.proofs.Tracing.{serves_goes_on}

-- what a look counts is the able tasks
seen_able : {M P : Type 0} (w : Setting M) (k : Policy P) (ρ ρ' : Replay M P) (c : Call) (n : ℕ) (d : Option ℕ) → Serves w k ρ c (seen n d) ρ' → n ≡ length (able_tasks w ρ.state)
seen_able w k ρ ρ' c n d (refuses _ _ e _) = absurd (grind arith)
seen_able w k ρ ρ' c n d (posts _ _ _ _ _ _ _ _ e _) = absurd (grind arith)
seen_able w k ρ ρ' c n d (clocks _ _ _ _ _ e _) = absurd (grind arith)
seen_able w k ρ ρ' c n d (turns _ _ _ _ _ _ _ _ _ _ e _) = absurd (grind arith)
seen_able w k ρ ρ' c n d (looks _ e _) = cc

pub serve_law : (M P : Type 0) → ServeLaw M P
serve_law M P limit w kinds k ρ r c a ρ' s = record {
  acts = elim (serves_goes_on w k ρ c a ρ' s) [
    | inl e ↦ inl e
    | inr (rs, x, e) ↦ inr (rs, x, e, fire_law M limit w kinds ρ.trace ρ.state ρ'.state r rs x)
  ];
  quiet = λ n d e.
      let able = seen_able w k ρ ρ' c n d (rw e at s) in
      let still = quiet_law M limit w kinds ρ.trace ρ.state r in
      ((λ z. still.0 (nil_from_length _ (sym able ∙ z))), λ f. able ∙ ap length (still.1 f));
}
