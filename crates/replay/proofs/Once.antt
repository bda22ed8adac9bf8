-- Calls have one replay, where each message has a literal of its own.
use Rattle.std.proofs.Common.{◌≡◌, ◌⊎◌, List, [], ◌∷◌, sym, refl, ◌∙◌, subst, inl, inr}
use Rattle.trace.specs.declared.record.Event.{Event}
use Rattle.trace.specs.declared.record.Event.TheVariants as line
use Rattle.rules.specs.States.{Setting, State}
use Rattle.rules.specs.Runs.{posted, clocked}
use Rattle.rules.proofs.Outcomes.{step_determined}
use Rattle.replay.specs.declared.fault.CallFault.{CallFault}
use Rattle.replay.specs.Policies.{Policy}
use Rattle.replay.specs.Replays.{Call, post, clock, turn, look, Answer, sent_away, Replay, begin_replay, Refuses, Accepts, went_on, wrote_lines, seen_now, Serves, refuses, posts, clocks, turns, looks, Replays}
use Rattle.replay.specs.Laws.{ReplayDetermined}
use Rattle.replay.proofs.Refusing.{refused_once}
use Rattle.replay.proofs.Tracing.{Traced, serves_traced, begins_traced}
use Rattle.replay.proofs.Naming.{names_once, NamedStep}

module _ {M P : Type 0} (w : Setting M) (k : Policy P) (ρ : Replay M P) where
  -- a call that is served was refused, or accepted and carried out

  record Refused (c : Call) (a : Answer) (ρ' : Replay M P) : Type 0 where
    pub fault : CallFault
    pub why : Refuses w ρ c fault
    pub answer : a ≡ sent_away fault
    pub replay : ρ' ≡ ρ

  abbrev Wrote : List (Event M) → State M → P → Answer → Replay M P → Type 0
  Wrote rs s p a ρ' = (a ≡ wrote_lines w ρ rs s) × (ρ' ≡ went_on ρ rs s p)

  abbrev Done : Call → Answer → Replay M P → Type 0
  Done (post cells page p bs) a ρ' = (m : M) × (bs ≡ w.messages.literal m) × Wrote (line.Post p m ∷ []) (posted w p m ρ.state) ρ.policy a ρ'
  Done (clock page ms) a ρ' = Wrote (line.Clock ∷ []) (clocked ms ρ.state) ρ.policy a ρ'
  Done (turn cells page) a ρ' = (n : NamedStep w k ρ) × Wrote n.has.records n.has.next n.policy a ρ'
  Done look a ρ' = (a ≡ seen_now w ρ.state) × (ρ' ≡ ρ)

  refused_or_done : (c : Call) (a : Answer) (ρ' : Replay M P) → Serves w k ρ c a ρ' → Refused c a ρ' ⊎ (Accepts w ρ c × Done c a ρ')
  refused_or_done c a ρ' (refuses f r e h) = inl (record { fault = f; why = r; answer = e; replay = h })
  refused_or_done c a ρ' (posts cells page p bs d ok m b e h) = inr (ok, subst (λ x. Done x a ρ') (sym d) (m, b, (e, h)))
  refused_or_done c a ρ' (clocks page ms d ok fits e h) = inr (ok, subst (λ x. Done x a ρ') (sym d) (e, h))
  refused_or_done c a ρ' (turns cells page d ok v p n rs s t e h) =
      inr (ok, subst (λ x. Done x a ρ') (sym d) (record { move = v; policy = p; names = n; has = record { records = rs; next = s; steps = t } }, (e, h)))
  refused_or_done c a ρ' (looks d e h) = inr (subst (Accepts w ρ) (sym d) (λ f x. x), subst (λ x. Done x a ρ') (sym d) (e, h))

  module _ (one : (a b : M) → w.messages.literal a ≡ w.messages.literal b → a ≡ b) (traced : Traced w ρ) where
    done_once : (c : Call) (a₁ a₂ : Answer) (ρ₁ ρ₂ : Replay M P) → Done c a₁ ρ₁ → Done c a₂ ρ₂ → (a₁ ≡ a₂) × (ρ₁ ≡ ρ₂)
    done_once (post cells page p bs) a₁ a₂ ρ₁ ρ₂ (m, b, h) (m', b', h') = let same = one m m' (sym b ∙ b') in (cc, cc)
    done_once (clock page ms) a₁ a₂ ρ₁ ρ₂ h h' = (cc, cc)
    done_once (turn cells page) a₁ a₂ ρ₁ ρ₂ (n, h) (n', h') =
        let named = names_once w k ρ n.move n'.move n.policy n'.policy n.names n'.names in
        let stepped = step_determined w ρ.trace ρ.state n'.move n.has.records n'.has.records n.has.next n'.has.next traced (rw named.0 at n.has.steps) n'.has.steps in
        (cc, cc)
    done_once look a₁ a₂ ρ₁ ρ₂ h h' = (cc, cc)

    serves_once : (c : Call) (a₁ a₂ : Answer) (ρ₁ ρ₂ : Replay M P) → Serves w k ρ c a₁ ρ₁ → Serves w k ρ c a₂ ρ₂ → (a₁ ≡ a₂) × (ρ₁ ≡ ρ₂)
    serves_once c a₁ a₂ ρ₁ ρ₂ x y = go (refused_or_done c a₁ ρ₁ x) (refused_or_done c a₂ ρ₂ y)
      where
        go : Refused c a₁ ρ₁ ⊎ (Accepts w ρ c × Done c a₁ ρ₁) → Refused c a₂ ρ₂ ⊎ (Accepts w ρ c × Done c a₂ ρ₂) → (a₁ ≡ a₂) × (ρ₁ ≡ ρ₂)
        go (inl r) (inl q) = let same = refused_once w ρ c r.fault q.fault r.why q.why in (cc, cc)
        go (inl r) (inr (ok, d)) = absurd (ok r.fault r.why.describes)
        go (inr (ok, d)) (inl q) = absurd (ok q.fault q.why.describes)
        go (inr (ok, d)) (inr (ok', d')) = done_once c a₁ a₂ ρ₁ ρ₂ d d'

module _ {M P : Type 0} (w : Setting M) (one : (a b : M) → w.messages.literal a ≡ w.messages.literal b → a ≡ b) (k : Policy P) where
  replays_once : (ρ : Replay M P) → Traced w ρ → (calls : List Call) (as₁ as₂ : List Answer) (ρ₁ ρ₂ : Replay M P)
      → Replays w k ρ calls as₁ ρ₁ → Replays w k ρ calls as₂ ρ₂ → (as₁ ≡ as₂) × (ρ₁ ≡ ρ₂)
  replays_once ρ traced [] [] [] ρ₁ ρ₂ x y = (refl, x ∙ sym y)
  replays_once ρ traced [] [] (b ∷ bs) ρ₁ ρ₂ x y = absurd y
  replays_once ρ traced [] (a ∷ as₁) bs ρ₁ ρ₂ x y = absurd x
  replays_once ρ traced (c ∷ calls) [] bs ρ₁ ρ₂ x y = absurd x
  replays_once ρ traced (c ∷ calls) (a ∷ as₁) [] ρ₁ ρ₂ x y = absurd y
  replays_once ρ traced (c ∷ calls) (a ∷ as₁) (b ∷ bs) ρ₁ ρ₂ (σ, s, x) (τ, t, y) =
      let now = serves_once w k ρ one traced c a b σ τ s t in
      let later = replays_once τ (serves_traced w k ρ c b τ traced t) calls as₁ bs ρ₁ ρ₂ (rw now.1 at x) y in
      (cc, later.1)

pub replay_determined : (M P : Type 0) → ReplayDetermined M P
replay_determined M P w one k p = replays_once w one k (begin_replay w p) (begins_traced w p)
