-- A post always finds room, and a mailbox of the delivered kinds takes it while it holds fewer than its limit.
use Rattle.std.proofs.Common.{◌≡◌, ℕ, ◌<◌, true, ◌≢◌, ◌↔◌, List, [], ◌∷◌, ◌++◌, length, sym, refl, subst, arith}
use mathlib.Core.List.Memᴰ
use mathlib.Core.List.{Memᴰ}
use Rattle.std.proofs.lemmas.Bool.{cond-true}
use Rattle.grammar.specs.declared.words.PortKind.TheVariants.{Mailbox}
use Rattle.trace.specs.declared.record.Record.{Record}
use Rattle.rules.specs.declared.kind.BaseKind.{BaseKind}
use Rattle.rules.specs.declared.kind.BaseKind.TheVariants.{Port}
use Rattle.rules.specs.declared.offer.Offer.{Offer}
use Rattle.rules.specs.declared.offer.Reply.TheVariants.{Alone}
use Rattle.rules.specs.Kinds.{Meaning, polled, accepts, enrolled}
use Rattle.rules.specs.Delivered.{delivered}
use Rattle.rules.specs.States.{Setting, State}
use Rattle.rules.specs.Runs.{posting, Run}
use Rattle.rules.specs.Laws.{PostsLaw}
use Rattle.rules.proofs.DeliveredKinds.{delivered_replies}
use Rattle.rules.proofs.Sound.{sound_run}
use Rattle.rules.proofs.Offering.{accepts_new, room_for_one}

-- The syncs are numbered from 1, so none has a post's number.
not_a_post : {M : Type 0} (w : Setting M) (tr : List (Record M)) (s : State M) → Run w tr s → (c : BaseKind) (q : Offer) → Memᴰ q (s.means c).offers → q.sync ≢ 0
not_a_post w tr s r c q m e = let h = sound_run w tr s r in let o = h.owned c q m in let k = h.tidy.early o.task q.sync o.all o.live o.waits in omega arith

-- an offer that is accepted waits
accepted_waits : {M : Type 0} (o : Offer) (μ : Meaning M) → accepts μ.offers o ≡ true → Memᴰ o (enrolled o μ).offers
accepted_waits o μ e = subst (Memᴰ o) (sym (cond-true (accepts μ.offers o) (μ.offers ++ (o ∷ [])) μ.offers e)) (Memᴰ.append_right μ.offers (Memᴰ.head refl))

-- how a delivered mailbox replies to a post that is accepted
accepted_post : {M : Type 0} (limit p : ℕ) (μ : Meaning M) → accepts μ.offers (posting p) ≡ true
    → (polled (delivered limit (Port Mailbox)) (enrolled (posting p) μ) (posting p) ≡ Alone) ↔ (length (μ.held p) < limit)
accepted_post limit p μ e = (delivered_replies.mailboxes limit).0.give _ (λ q. length (μ.held q)) μ.clock (posting p) (accepted_waits (posting p) μ e) refl

pub posts_law : (M : Type 0) → PostsLaw M
posts_law M w lim tr s r p = record { room = room; possible = λ limit e. rw e (accepted_post limit p (s.means (Port Mailbox)) room) }
  where
    room : accepts (s.means (Port Mailbox)).offers (posting p) ≡ true
    room = accepts_new _ (posting p) (room_for_one w lim tr s r (Port Mailbox)) (λ q m e. absurd (not_a_post w tr s r (Port Mailbox) q m e))
